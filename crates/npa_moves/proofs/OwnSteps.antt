-- Steps of a pattern's own strands are made by moves of the list.
use Rattle.std.proofs.Common.{◌≡◌, ℕ, ◌+◌, ◌-◌, ◌<◌, inl, inr, List, [], ◌∷◌, ◌++◌, Contains, refl, sym, ◌∙◌, ap, subst}
use Rattle.std.proofs.lemmas.List.Elements.{Contains-append_cases}
use Rattle.npa_sorts.specs.Subsorts.{Subsorts, IsAtOrBelow}
use Rattle.npa_term.specs.declared.term.Term.{Term}
use Rattle.npa_term.specs.declared.term.Var.{Var as Variable}
use Rattle.npa_term.specs.Bound.{applied}
use Rattle.npa_term.specs.Parts.{image, least_sort}
use Rattle.npa_term.specs.Same.{Same}
use Rattle.npa_term.specs.Variables.{variables}
use Rattle.npa_sig.specs.declared.protocol.Event.{Event}
use Rattle.npa_sig.specs.declared.protocol.Strand.{Strand}
use Rattle.npa_unify.specs.Branches.{pair_variables}
use Rattle.npa_unify.proofs.Members.{nowhere, only_one}
use Rattle.npa_model.specs.declared.pattern.PStrand.{PStrand}
use Rattle.npa_model.specs.declared.pattern.Pattern.{Pattern}
use Rattle.npa_model.specs.Backward.{received}
use Rattle.npa_model.specs.Patterns.{IsTermOf, of_msgs, of_known, of_unknown, Occurs, map_pattern}
use Rattle.npa_model.proofs.Places.{member_at}
use Rattle.npa_moves.specs.declared.step.Rule.{Rule}
use Rattle.npa_moves.specs.Leading.{Alike, Last, Makes as MakesKnown, unlearnt, unsent}
use Rattle.npa_moves.specs.Moves.{Move, each_with, last_message, learn_move, past_pattern, receive_move, send_move}
use Rattle.npa_moves.specs.Picks.{Pick}
use Rattle.npa_moves.specs.Solving.{IsOneSorted}
use Rattle.npa_moves.specs.Steps.{pattern_once}
use Rattle.npa_moves.proofs.Moved.{Makes}
use Rattle.npa_moves.proofs.OwnMoves.{back_terms, below_past, of_pairs, once_occurs, pair_variable}
use Rattle.npa_moves.proofs.Picking.{left_of, taken_of}
use Rattle.npa_moves.proofs.Problems.{bar_is, message_is}

module _ (o : Subsorts) (a : List (Variable × Term)) (g q : Pattern) (one : IsOneSorted g)
    (sorts : (v : Variable) → Occurs v g → IsAtOrBelow o (least_sort (image a v)) v.sort) where
  -- A move whose terms are terms of the pattern.
  record IsOwn (m : Move Rule) : Type 0 where
    pub terms : (t : Term) → IsTermOf m.from t → IsTermOf g t
    pub pairs : (p : Term × Term) → Contains m.pairs p → IsTermOf g p.0 × IsTermOf g p.1
    pub pair : (v : Variable) → Contains (pair_variables m.pairs) v → Occurs v g
    pub apart : (p : Term × Term) → Contains m.apart p → IsTermOf g p.0 × IsTermOf g p.1
    pub next : m.next ≡ past_pattern g

  own_low : (m : Move Rule) → IsOwn m → (t : Term) (v : Variable) → IsTermOf g t → Contains (variables t) v → v.num < m.next
  own_low m own t v there c = subst (λ n. v.num < n) (sym own.next) (below_past g v (record { term = t; there = there; within = c }))

  own_makes : (m : Move Rule) → IsOwn m → ((t u : Term) → Contains m.pairs (t, u) → Same (applied a t) (applied a u)) →
      ((p : Term × Term) → Contains m.apart p → Same (applied a p.0) (applied a p.1) → ⊥) → Alike (map_pattern (applied a) m.from) q → Makes o m (pattern_once g) a q
  own_makes m own equal apart alike = record {
    unifies = record { sorts = λ v c. sorts v (own.pair v c); equal = equal };
    pairs_low = λ v c. subst (λ n. v.num < n) (sym own.next) (below_past g v (own.pair v c));
    one = λ v w c d e. one v w (own.pair v c) (own.pair w d) e;
    apart = apart;
    left_low = λ p v c d. own_low m own p.0 v (own.apart p c).0 d;
    right_low = λ p v c d. own_low m own p.1 v (own.apart p c).1 d;
    low = λ t v c d. own_low m own t v (own.terms t c) d;
    fits = λ t v c d. sorts v (record { term = t; there = own.terms t c; within = d });
    small = λ v c. subst (λ n. v.num < n) (sym own.next) (below_past g v (once_occurs g v c));
    alike = alike;
  }

  module _ (strands : List Strand) (k : ℕ) (p : PStrand) (bar : ℕ) (event : Event) (m : Term) (last : Last strands g k p bar event m) where
    message_there : IsTermOf g m
    message_there = of_msgs k p last.there (member_at p.msgs bar m last.message)

    pushed : (ts : List Term) → ((t : Term) → Contains ts t → IsTermOf g t) → (t : Term) → Contains (ts ++ m ∷ []) t → IsTermOf g t
    pushed ts each t c = elim (Contains-append_cases ts (m ∷ []) t c) [
      | inl d ↦ each t d
      | inr d ↦ subst (IsTermOf g) (only_one m t d) message_there
    ]

    -- the moves with the strand's last message named
    abbrev received_move : ℕ → Term → Move Rule
    received_move b t = record { label = (receive_move g k p).label; from = received k p b t g; pairs = []; apart = []; next = past_pattern g }

    receive_named : receive_move g k p ≡ received_move bar m
    receive_named = ap (λ b. received_move b (last_message p)) (bar_is strands g k p bar event m last) ∙ ap (received_move bar) (message_is strands g k p bar event m last)

    received_own : IsOwn (received_move bar m)
    received_own = record {
      terms = back_terms g k p bar last.there (g.known ++ m ∷ []) g.unknown (pushed g.known (λ t c. of_known c)) (λ t c. of_unknown c);
      pairs = λ x c. absurd (nowhere x c);
      pair = λ v c. absurd (nowhere v c);
      apart = λ x c. absurd (nowhere x c);
      next = refl;
    }

    pub receive_makes : Alike (map_pattern (applied a) (received k p bar m g)) q → Makes o (receive_move g k p) (pattern_once g) a q
    receive_makes alike = subst (λ (x : Move Rule). Makes o x (pattern_once g) a q) (sym receive_named)
        (own_makes (received_move bar m) received_own (λ t u c. absurd (nowhere (t, u) c)) (λ x c. absurd (nowhere x c)) alike)

    abbrev sent_move : ℕ → Move Rule
    sent_move b = record { label = (send_move g k p).label; from = unsent k p b g; pairs = []; apart = []; next = past_pattern g }

    send_named : send_move g k p ≡ sent_move bar
    send_named = ap sent_move (bar_is strands g k p bar event m last)

    sent_own : IsOwn (sent_move bar)
    sent_own = record {
      terms = back_terms g k p bar last.there g.known g.unknown (λ t c. of_known c) (λ t c. of_unknown c);
      pairs = λ x c. absurd (nowhere x c);
      pair = λ v c. absurd (nowhere v c);
      apart = λ x c. absurd (nowhere x c);
      next = refl;
    }

    pub send_makes : Alike (map_pattern (applied a) (unsent k p bar g)) q → Makes o (send_move g k p) (pattern_once g) a q
    send_makes alike = subst (λ (x : Move Rule). Makes o x (pattern_once g) a q) (sym send_named)
        (own_makes (sent_move bar) sent_own (λ t u c. absurd (nowhere (t, u) c)) (λ x c. absurd (nowhere x c)) alike)

    module _ (pick : Pick) (makes : MakesKnown a (applied a m) pick g) where
      abbrev learnt_move : ℕ → Term → Move Rule
      learnt_move b t = record {
        label = (learn_move g k p pick).label;
        from = unlearnt k p b t pick.left g;
        pairs = each_with t pick.taken;
        apart = each_with t g.unknown;
        next = past_pattern g;
      }

      learn_named : learn_move g k p pick ≡ learnt_move bar m
      learn_named = ap (λ b. learnt_move b (last_message p)) (bar_is strands g k p bar event m last) ∙ ap (learnt_move bar) (message_is strands g k p bar event m last)

      with_message : (ts : List Term) → ((t : Term) → Contains ts t → IsTermOf g t) → (x : Term × Term) → Contains (each_with m ts) x → IsTermOf g x.0 × IsTermOf g x.1
      with_message ts each x c = let both = of_pairs m ts x c in (each x.0 both.0, subst (IsTermOf g) (sym both.1) message_there)

      taken_there : (t : Term) → Contains pick.taken t → IsTermOf g t
      taken_there t c = of_known (taken_of g.known pick makes.picked t c)

      learnt_own : IsOwn (learnt_move bar m)
      learnt_own = record {
        terms = back_terms g k p bar last.there pick.left (g.unknown ++ m ∷ []) (λ t c. of_known (left_of g.known pick makes.picked t c)) (pushed g.unknown (λ t c. of_unknown c));
        pairs = with_message pick.taken taken_there;
        pair = λ v c. elim (pair_variable m pick.taken v c) [
          | inl d ↦ record { term = d.0; there = taken_there d.0 d.1; within = d.2 }
          | inr d ↦ record { term = m; there = message_there; within = d }
        ];
        apart = with_message g.unknown (λ t c. of_unknown c);
        next = refl;
      }

      pub learn_makes : Alike (map_pattern (applied a) (unlearnt k p bar m pick.left g)) q → Makes o (learn_move g k p pick) (pattern_once g) a q
      learn_makes alike = subst (λ (x : Move Rule). Makes o x (pattern_once g) a q) (sym learn_named)
          (own_makes (learnt_move bar m) learnt_own
          (λ t u c. let both = of_pairs m pick.taken (t, u) c in subst (λ (x : Term). Same (applied a t) (applied a x)) (sym both.1) (makes.equal t both.0))
          (λ x c same. let both = of_pairs m g.unknown x c in makes.apart x.0 both.0 (subst (λ (y : Term). Same (applied a x.0) (applied a y)) both.1 same)) alike)

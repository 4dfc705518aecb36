-- A step of a further instance is made by a move of the list.
use Rattle.std.proofs.Common.{◌≡◌, ℕ, ◌+◌, ◌⊎◌, inl, inr, Some, List, [], ◌∷◌, ◌++◌, map, take, slice_get, Contains, refl, sym, ◌∙◌, ap, subst}
use Rattle.std.specs.List.{flat_map}
use Rattle.std.proofs.lemmas.List.Elements.{Contains-append_cases}
use Rattle.std.proofs.lemmas.Option.{get_or_from_slice_get}
use Rattle.npa_sorts.specs.Subsorts.{Subsorts, IsAtOrBelow}
use Rattle.npa_term.specs.declared.term.Term.{Term, Name}
use Rattle.npa_term.specs.declared.term.Var.{Var as Variable}
use Rattle.npa_term.specs.Bound.{applied}
use Rattle.npa_term.specs.Parts.{image, least_sort}
use Rattle.npa_term.specs.Same.{Same}
use Rattle.npa_term.specs.Variables.{renamed, variables}
use Rattle.npa_sig.specs.declared.protocol.Strand.{Strand}
use Rattle.npa_unify.specs.Branches.{pair_variables}
use Rattle.npa_unify.proofs.Members.{only_one}
use Rattle.npa_variants.specs.declared.variant.Variant.{Variant}
use Rattle.npa_variants.specs.StrandVariants.{args_of, messages_of}
use Rattle.npa_variants.specs.Strands.{param_count}
use Rattle.npa_variants.proofs.Members.{of_mapped, of_taken}
use Rattle.npa_variants.proofs.Sound.{map_equal, map_map}
use Rattle.npa_model.specs.declared.pattern.PStrand.{PStrand}
use Rattle.npa_model.specs.declared.pattern.Pattern.{Pattern}
use Rattle.npa_model.specs.Patterns.{IsTermOf, of_args, of_msgs, of_known, of_unknown, Occurs, map_pattern, map_strand}
use Rattle.npa_model.proofs.Places.{member_at, place_of}
use Rattle.npa_moves.specs.declared.step.Rule.{Rule}
use Rattle.npa_moves.specs.Leading.{Alike, Introduced, Makes as MakesKnown, joined_by, knowing, strand_under}
use Rattle.npa_moves.specs.Moves.{Move, each_with, introduce_move, past_pattern, past_variant, raised_strand}
use Rattle.npa_moves.specs.Picks.{Pick}
use Rattle.npa_moves.specs.Solving.{HasOneSort, IsOneSorted}
use Rattle.npa_moves.specs.Steps.{pattern_once}
use Rattle.npa_moves.proofs.Moved.{Makes}
use Rattle.npa_moves.proofs.OtherSteps.{Origin, TermOrigin, both, fits_origin, low_origin, map_push, message_member, new_term, old, old_term, on_new, on_old, one_origin, origin_of, push_at}
use Rattle.npa_moves.proofs.OwnMoves.{of_pairs, once_occurs, pair_variable}
use Rattle.npa_moves.proofs.Picking.{left_of, taken_of}

module _ (o : Subsorts) (a : List (Variable × Term)) (g q : Pattern) (one : IsOneSorted g)
    (sorts : (v : Variable) → Occurs v g → IsAtOrBelow o (least_sort (image a v)) v.sort)
    (strands : List Strand) (variants : Strand → List Variant) (s : ℕ) (strand : Strand) (n : ℕ) (v : Variant) (e : ℕ) (b : List (Variable × Term)) (m : Term)
    (introduced : Introduced strands variants o s strand n v e b m) (sorted : HasOneSort (flat_map variables v.terms))
    (pick : Pick) (makes : MakesKnown a (applied b m) pick g) where
  σ : List (Variable × Term)
  σ = both o a b g v

  -- the move with its message named
  abbrev introduced_move : Term → Move Rule
  introduced_move t = record {
    label = (introduce_move g s strand n v e pick).label;
    from = record {
      strands = g.strands ++ raised_strand (past_pattern g) s strand v e ∷ [];
      known = pick.left;
      unknown = g.unknown ++ t ∷ [];
    };
    pairs = each_with t pick.taken;
    apart = each_with t g.unknown;
    next = past_pattern g + past_variant v;
  }

  abbrev told : Term
  told = renamed (past_pattern g) m

  named : introduce_move g s strand n v e pick ≡ introduced_move told
  named = ap (λ (t : Term). introduced_move (renamed (past_pattern g) t)) (get_or_from_slice_get (messages_of strand v) e m (Name 0) introduced.message)

  message_listed : Contains v.terms m
  message_listed = message_member strand v m (member_at (messages_of strand v) e m introduced.message)

  message_origin : TermOrigin o a b g v told
  message_origin = new_term m message_listed refl

  taken_there : (t : Term) → Contains pick.taken t → IsTermOf g t
  taken_there t c = of_known (taken_of g.known pick makes.picked t c)

  -- ## The terms of the move

  raised_origin : (ts : List Term) → ((u : Term) → Contains ts u → Contains v.terms u) → (t : Term) → Contains (map (renamed (past_pattern g)) ts) t → TermOrigin o a b g v t
  raised_origin ts each t c = let u = of_mapped (renamed (past_pattern g)) ts t c in new_term u.0 (each u.0 u.1) u.2

  strand_origin : (j : ℕ) (p : PStrand) → slice_get (g.strands ++ raised_strand (past_pattern g) s strand v e ∷ []) j ≡ Some p → (slice_get g.strands j ≡ Some p) ⊎ (raised_strand (past_pattern g) s strand v e ≡ p)
  strand_origin j p d = push_at g.strands (raised_strand (past_pattern g) s strand v e) p j d

  term_origin : (t : Term) → IsTermOf (introduced_move told).from t → TermOrigin o a b g v t
  term_origin t (of_args j p d c) = elim (strand_origin j p d) [
    | inl there ↦ old_term (of_args j p there c)
    | inr is ↦ raised_origin (args_of strand v) (λ u f. of_taken (param_count strand) v.terms u f) t (subst (λ (x : PStrand). Contains x.args t) (sym is) c)
  ]
  term_origin t (of_msgs j p d c) = elim (strand_origin j p d) [
    | inl there ↦ old_term (of_msgs j p there c)
    | inr is ↦ raised_origin (take e (messages_of strand v)) (λ u f. message_member strand v u (of_taken e (messages_of strand v) u f)) t (subst (λ (x : PStrand). Contains x.msgs t) (sym is) c)
  ]
  term_origin t (of_known c) = old_term (of_known (left_of g.known pick makes.picked t c))
  term_origin t (of_unknown c) = elim (Contains-append_cases g.unknown (told ∷ []) t c) [
    | inl d ↦ old_term (of_unknown d)
    | inr d ↦ subst (λ (x : Term). TermOrigin o a b g v x) (only_one told t d) message_origin
  ]

  pair_origin : (x : Variable) → Contains (pair_variables (each_with told pick.taken)) x → Origin o a b g v x
  pair_origin x c = elim (pair_variable told pick.taken x c) [
    | inl d ↦ old (record { term = d.0; there = taken_there d.0 d.1; within = d.2 })
    | inr d ↦ origin_of o a b g v told x message_origin d
  ]

  right_origin : (p : Term × Term) (x : Variable) → Contains (each_with told g.unknown) p → Contains (variables p.1) x → Origin o a b g v x
  right_origin p x c d = origin_of o a b g v told x message_origin (subst (λ (t : Term). Contains (variables t) x) (of_pairs told g.unknown p c).1 d)

  left_origin : (p : Term × Term) (x : Variable) → Contains (each_with told g.unknown) p → Contains (variables p.0) x → Origin o a b g v x
  left_origin p x c d = old (record { term = p.0; there = of_unknown (of_pairs told g.unknown p c).0; within = d })

  -- ## What the substitution makes

  on_told : applied σ told ≡ applied b m
  unfolding σ
  on_told = on_new o a b g v m message_listed

  pair_equal : (t u : Term) → Contains (each_with told pick.taken) (t, u) → Same (applied σ t) (applied σ u)
  unfolding σ
  pair_equal t u c =
      let pair = of_pairs told pick.taken (t, u) c in
      subst (λ (x : Term). Same x (applied σ u)) (sym (on_old o a b g v t (taken_there t pair.0)))
      (subst (λ (x : Term). Same (applied a t) x) (sym (ap (applied σ) pair.1 ∙ on_told)) (makes.equal t pair.0))

  pair_apart : (p : Term × Term) → Contains (each_with told g.unknown) p → Same (applied σ p.0) (applied σ p.1) → ⊥
  unfolding σ
  pair_apart p c same =
      let pair = of_pairs told g.unknown p c in
      makes.apart p.0 pair.0
      (subst (λ (x : Term). Same x (applied b m)) (on_old o a b g v p.0 (of_unknown pair.0))
      (subst (λ (x : Term). Same (applied σ p.0) x) (ap (applied σ) pair.1 ∙ on_told) same))

  old_list : (ts : List Term) → ((t : Term) → Contains ts t → IsTermOf g t) → map (applied σ) ts ≡ map (applied a) ts
  unfolding σ
  old_list ts each = map_equal (applied σ) (applied a) ts (λ t c. on_old o a b g v t (each t c))

  new_list : (ts : List Term) → ((t : Term) → Contains ts t → Contains v.terms t) → map (applied σ) (map (renamed (past_pattern g)) ts) ≡ map (applied b) ts
  unfolding σ
  new_list ts each = map_map (renamed (past_pattern g)) (applied σ) ts ∙ map_equal (λ t. applied σ (renamed (past_pattern g) t)) (applied b) ts (λ t c. on_new o a b g v t (each t c))

  same_strand : (p : PStrand) (args msgs : List Term) → map (applied σ) p.args ≡ args → map (applied σ) p.msgs ≡ msgs → map_strand (applied σ) p ≡ record { strand = p.strand; bar = p.bar; args = args; msgs = msgs }
  same_strand p args msgs is js =
      ap (λ (ts : List Term). record { strand = p.strand; bar = p.bar; args = ts; msgs = map (applied σ) p.msgs }) is
      ∙ ap (λ (ts : List Term). record { strand = p.strand; bar = p.bar; args = args; msgs = ts }) js

  old_strand : (p : PStrand) → Contains g.strands p → map_strand (applied σ) p ≡ map_strand (applied a) p
  old_strand p c =
      let place = place_of g.strands p c in
      same_strand p (map (applied a) p.args) (map (applied a) p.msgs)
      (old_list p.args (λ t d. of_args place.0 p place.1 d)) (old_list p.msgs (λ t d. of_msgs place.0 p place.1 d))

  new_strand : map_strand (applied σ) (raised_strand (past_pattern g) s strand v e) ≡ strand_under b s strand v e
  new_strand = same_strand (raised_strand (past_pattern g) s strand v e) (map (applied b) (args_of strand v)) (map (applied b) (take e (messages_of strand v)))
      (new_list (args_of strand v) (λ u f. of_taken (param_count strand) v.terms u f))
      (new_list (take e (messages_of strand v)) (λ u f. message_member strand v u (of_taken e (messages_of strand v) u f)))

  all_strands : map (map_strand (applied σ)) (g.strands ++ raised_strand (past_pattern g) s strand v e ∷ []) ≡ map (map_strand (applied a)) g.strands ++ strand_under b s strand v e ∷ []
  all_strands = map_push (map_strand (applied σ)) g.strands (raised_strand (past_pattern g) s strand v e)
      ∙ ap (λ ps. ps ++ map_strand (applied σ) (raised_strand (past_pattern g) s strand v e) ∷ []) (map_equal (map_strand (applied σ)) (map_strand (applied a)) g.strands old_strand)
      ∙ ap (λ p. map (map_strand (applied a)) g.strands ++ p ∷ []) new_strand

  all_unknown : map (applied σ) (g.unknown ++ told ∷ []) ≡ map (applied a) g.unknown ++ applied b m ∷ []
  all_unknown = map_push (applied σ) g.unknown told
      ∙ ap (λ ts. ts ++ applied σ told ∷ []) (old_list g.unknown (λ t c. of_unknown c))
      ∙ ap (λ t. map (applied a) g.unknown ++ t ∷ []) on_told

  abbrev result : Pattern
  result = joined_by (strand_under b s strand v e) (applied b m) (map_pattern (applied a) (knowing pick.left g))

  same_pattern : map_pattern (applied σ) (introduced_move told).from ≡ result
  same_pattern =
      ap (λ (ps : List PStrand). record { strands = ps; known = map (applied σ) pick.left; unknown = map (applied σ) (g.unknown ++ told ∷ []) }) all_strands
      ∙ ap (λ (ts : List Term). record { strands = result.strands; known = ts; unknown = map (applied σ) (g.unknown ++ told ∷ []) }) (old_list pick.left (λ t c. of_known (left_of g.known pick makes.picked t c)))
      ∙ ap (λ (ts : List Term). record { strands = result.strands; known = result.known; unknown = ts }) all_unknown

  pub introduce_makes : Alike result q → Makes o (introduce_move g s strand n v e pick) (pattern_once g) (both o a b g v) q
  unfolding σ
  introduce_makes alike = subst (λ (x : Move Rule). Makes o x (pattern_once g) σ q) (sym named) (record {
    unifies = record { sorts = λ x c. fits_origin o a b g v sorts introduced.sorts x (pair_origin x c); equal = pair_equal };
    pairs_low = λ x c. low_origin o a b g v x (pair_origin x c);
    one = λ x y c d f. one_origin o a b g v one sorted x y (pair_origin x c) (pair_origin y d) f;
    apart = pair_apart;
    left_low = λ p x c d. low_origin o a b g v x (left_origin p x c d);
    right_low = λ p x c d. low_origin o a b g v x (right_origin p x c d);
    low = λ t x c d. low_origin o a b g v x (origin_of o a b g v t x (term_origin t c) d);
    fits = λ t x c d. fits_origin o a b g v sorts introduced.sorts x (origin_of o a b g v t x (term_origin t c) d);
    small = λ x c. low_origin o a b g v x (old (once_occurs g x c));
    alike = subst (λ (x : Pattern). Alike x q) (sym same_pattern) alike;
  })

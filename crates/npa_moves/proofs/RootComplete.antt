-- Each root by any substitution is an instance of a root of the list.
use Rattle.std.proofs.Common.{◌≡◌, ℕ, ◌+◌, ◌<◌, Ok, List, [], ◌∷◌, ◌++◌, append-nil, length, map, take, slice_get, Contains, refl, sym, ◌∙◌, ap, subst}
use Rattle.std.specs.List.{flat_map}
use Rattle.std.proofs.lemmas.Option.{none-some}
use Rattle.npa_sorts.specs.Subsorts.{Subsorts, IsAtOrBelow}
use Rattle.npa_term.specs.declared.term.Term.{Term}
use Rattle.npa_term.specs.declared.term.Var.{Var as Variable}
use Rattle.npa_term.specs.Bound.{applied}
use Rattle.npa_term.specs.Parts.{image, least_sort}
use Rattle.npa_term.specs.Same.{Same, SameAll}
use Rattle.npa_term.specs.Variables.{renamed, variables}
use Rattle.npa_term.proofs.Renumbered.{member_variable}
use Rattle.npa_sig.specs.declared.protocol.Strand.{Strand}
use Rattle.npa_unify.proofs.Members.{here, later, nowhere}
use Rattle.npa_variants.specs.declared.variant.Variant.{Variant}
use Rattle.npa_variants.specs.StrandVariants.{args_of, messages_of}
use Rattle.npa_variants.specs.Strands.{param_count}
use Rattle.npa_variants.proofs.Members.{flat_member, mapped_member, of_taken}
use Rattle.npa_variants.proofs.Sound.{map_equal}
use Rattle.npa_variants.proofs.Starting.{in_once, once_of}
use Rattle.npa_model.specs.declared.aim.Aim.{Aim}
use Rattle.npa_model.specs.declared.aim.Part.{Part}
use Rattle.npa_model.specs.declared.aim.Part.TheVariants as part
use Rattle.npa_model.specs.declared.pattern.PStrand.{PStrand}
use Rattle.npa_model.specs.declared.pattern.Pattern.{Pattern}
use Rattle.npa_model.specs.Accepted.{part_terms}
use Rattle.npa_model.specs.Patterns.{IsTermOf, of_args, of_msgs, of_known, of_unknown, map_pattern, map_strand}
use Rattle.npa_model.proofs.Places.{at_mapped, member_at, place_of}
use Rattle.npa_moves.specs.declared.step.Root.{Root}
use Rattle.npa_moves.specs.Finishing.{Found}
use Rattle.npa_moves.specs.Gathering.{Solve, gathered}
use Rattle.npa_moves.specs.Leading.{Alike, FitsVariables, strand_under}
use Rattle.npa_moves.specs.Lists.{Made, begun, root_moves, root_problem, variants_at, with_known, with_strand}
use Rattle.npa_moves.specs.Moves.{raised_strand}
use Rattle.npa_moves.specs.RootLeading.{AsksFor, IsAmongRoots, IsRootBy, aim_variables, nothing, known, strand, known_first, strand_first}
use Rattle.npa_moves.specs.Roots.{aim_once, root_of, roots_of}
use Rattle.npa_moves.specs.Solving.{AreOneSorted, HasOneSort, Solves}
use Rattle.npa_moves.proofs.Complete.{mapped_ok}
use Rattle.npa_moves.proofs.Gathered.{gathered_has}
use Rattle.npa_moves.proofs.Moved.{Makes, found_instance}
use Rattle.npa_moves.proofs.OtherSteps.{map_push, message_member}
use Rattle.npa_moves.proofs.Problems.{at_zero}
use Rattle.npa_moves.proofs.RootChoices.{Grown, joined, known_grown, new_list, old_list, own_terms, strand_grown}
use Rattle.npa_moves.proofs.RootMoves.{raised, wider}

pushed_joined : {X : Type 0} (xs : List X) (x : X) (ys : List X) → (xs ++ x ∷ []) ++ ys ≡ xs ++ x ∷ ys
pushed_joined [] x ys = refl
pushed_joined (y ∷ xs) x ys = ap (λ zs. y ∷ zs) (pushed_joined xs x ys)

joined_nothing : (g : Pattern) → g ≡ joined g (record { strands = []; known = []; unknown = [] })
joined_nothing g =
    ap (λ (ps : List PStrand). record { strands = ps; known = g.known; unknown = g.unknown }) (sym (append-nil g.strands))
    ∙ ap (λ (ts : List Term). record { strands = g.strands ++ []; known = ts; unknown = g.unknown }) (sym (append-nil g.known))
    ∙ ap (λ (ts : List Term). record { strands = g.strands ++ []; known = g.known ++ []; unknown = ts }) (sym (append-nil g.unknown))

module _ (o : Subsorts) (strands : List Strand) (variants : Strand → List Variant) (sorted : AreOneSorted strands variants) (a : List (Variable × Term)) (vs : List Variable) where
  -- A choice in the list, which is grown and is what the parts ask for behind what was made.
  pub record Chosen (parts : List Part) (m : Made) (σ : List (Variable × Term)) (h : Pattern) : Type 0 where
    pub move : Made
    pub listed : Contains (root_moves strands variants parts m) move
    pub substitution : List (Variable × Term)
    pub scope : List Variable
    pub grown : Grown o strands variants sorted a vs scope move substitution
    pub makes : map_pattern (applied substitution) move.from ≡ joined (map_pattern (applied σ) m.from) h

  -- the terms of parts have these variables
  abbrev pub AreOwn : List Part → Type 0
  AreOwn parts = (p : Part) → Contains parts p → (t : Term) → Contains (part_terms p) t → (v : Variable) → Contains (variables t) v → Contains vs v

  abbrev moves : List Part → Made → List Made
  moves = root_moves strands variants

  module _ (scope : List Variable) (m : Made) (σ : List (Variable × Term)) (grown : Grown o strands variants sorted a vs scope m σ) where
    with_known_makes : (t : Term) (h : Pattern) → ((v : Variable) → Contains (variables t) v → Contains vs v) →
        joined (map_pattern (applied σ) (with_known t m).from) h ≡ joined (map_pattern (applied σ) m.from) (known_first (applied a t) h)
    with_known_makes t h own =
        ap (λ (ts : List Term). record { strands = map (map_strand (applied σ)) m.from.strands ++ h.strands; known = ts; unknown = map (applied σ) m.from.unknown ++ h.unknown })
        (ap (λ (ts : List Term). ts ++ h.known) (map_push (applied σ) m.from.known t ∙ ap (λ (u : Term). map (applied σ) m.from.known ++ u ∷ []) (own_terms o strands variants sorted a vs scope m σ grown t own))
        ∙ pushed_joined (map (applied σ) m.from.known) (applied a t) h.known)

    module _ (s bar : ℕ) (args : List Term) (role : Strand) (n : ℕ) (v : Variant) (b : List (Variable × Term))
        (own_args : (t : Term) → Contains args t → (x : Variable) → Contains (variables t) x → Contains vs x) (own_one : HasOneSort (flat_map variables v.terms))
        (fitting : FitsVariables o (flat_map variables v.terms) b) (equal_args : SameAll (map (applied a) args) (map (applied b) (args_of role v))) where
      abbrev after : List (Variable × Term)
      after = raised o m.next b σ v

      olds : (ts : List Term) → ((t : Term) → Contains ts t → IsTermOf m.from t) → map (applied after) ts ≡ map (applied σ) ts
      olds = old_list o strands variants sorted a vs scope m σ grown s bar args role n v b own_args own_one fitting equal_args

      news : (ts : List Term) → ((t : Term) → Contains ts t → Contains v.terms t) → map (applied after) (map (renamed m.next) ts) ≡ map (applied b) ts
      news = new_list o strands variants sorted a vs scope m σ grown s bar args role n v b own_args own_one fitting equal_args

      same_strand : (p : PStrand) (xs ys : List Term) → map (applied after) p.args ≡ xs → map (applied after) p.msgs ≡ ys → map_strand (applied after) p ≡ record { strand = p.strand; bar = p.bar; args = xs; msgs = ys }
      same_strand p xs ys is js =
          ap (λ (ts : List Term). record { strand = p.strand; bar = p.bar; args = ts; msgs = map (applied after) p.msgs }) is
          ∙ ap (λ (ts : List Term). record { strand = p.strand; bar = p.bar; args = xs; msgs = ts }) js

      old_strands : map (map_strand (applied after)) m.from.strands ≡ map (map_strand (applied σ)) m.from.strands
      old_strands = map_equal (map_strand (applied after)) (map_strand (applied σ)) m.from.strands (λ p c.
          let place = place_of m.from.strands p c in
          same_strand p (map (applied σ) p.args) (map (applied σ) p.msgs)
          (olds p.args (λ t d. of_args place.0 p place.1 d)) (olds p.msgs (λ t d. of_msgs place.0 p place.1 d)))

      new_strand : map_strand (applied after) (raised_strand m.next s role v bar) ≡ strand_under b s role v bar
      new_strand = same_strand (raised_strand m.next s role v bar) (map (applied b) (args_of role v)) (map (applied b) (take bar (messages_of role v)))
          (news (args_of role v) (λ t c. of_taken (param_count role) v.terms t c))
          (news (take bar (messages_of role v)) (λ t c. message_member role v t (of_taken bar (messages_of role v) t c)))

      all_strands : (qs : List PStrand) → map (map_strand (applied after)) (m.from.strands ++ raised_strand m.next s role v bar ∷ []) ++ qs ≡ map (map_strand (applied σ)) m.from.strands ++ strand_under b s role v bar ∷ qs
      all_strands qs =
          ap (λ ps. ps ++ qs) (map_push (map_strand (applied after)) m.from.strands (raised_strand m.next s role v bar)
          ∙ ap (λ ps. ps ++ map_strand (applied after) (raised_strand m.next s role v bar) ∷ []) old_strands
          ∙ ap (λ p. map (map_strand (applied σ)) m.from.strands ++ p ∷ []) new_strand)
          ∙ pushed_joined (map (map_strand (applied σ)) m.from.strands) (strand_under b s role v bar) qs

      with_strand_makes : (h : Pattern) → joined (map_pattern (applied after) (with_strand s bar args role n v m).from) h ≡ joined (map_pattern (applied σ) m.from) (strand_first (strand_under b s role v bar) h)
      with_strand_makes h =
          ap (λ (ps : List PStrand). record { strands = ps; known = map (applied after) m.from.known ++ h.known; unknown = map (applied after) m.from.unknown ++ h.unknown }) (all_strands h.strands)
          ∙ ap (λ (ts : List Term). record { strands = map (map_strand (applied σ)) m.from.strands ++ strand_under b s role v bar ∷ h.strands; known = ts ++ h.known; unknown = map (applied after) m.from.unknown ++ h.unknown }) (olds m.from.known (λ t c. of_known c))
          ∙ ap (λ (ts : List Term). record { strands = map (map_strand (applied σ)) m.from.strands ++ strand_under b s role v bar ∷ h.strands; known = map (applied σ) m.from.known ++ h.known; unknown = ts ++ h.unknown }) (olds m.from.unknown (λ t c. of_unknown c))

      is_grown : Grown o strands variants sorted a vs (wider o m.next b σ v scope grown.low) (with_strand s bar args role n v m) after
      is_grown = strand_grown o strands variants sorted a vs scope m σ grown s bar args role n v b own_args own_one fitting equal_args

  pub chosen : {parts : List Part} {h : Pattern} → AsksFor strands variants o a parts h → (scope : List Variable) (m : Made) (σ : List (Variable × Term)) →
      Grown o strands variants sorted a vs scope m σ → AreOwn parts → Chosen parts m σ h
  chosen nothing scope m σ grown own = record {
    move = m;
    listed = here m [];
    substitution = σ;
    scope = scope;
    grown = grown;
    makes = joined_nothing (map_pattern (applied σ) m.from);
  }
  chosen (known t parts g asks) scope m σ grown own =
      let own_t : (v : Variable) → Contains (variables t) v → Contains vs v = own (part.Known t) (here (part.Known t) parts) t (here t []) in
      let rest = chosen asks scope (with_known t m) σ (known_grown o strands variants sorted a vs scope m σ grown t own_t) (λ p c. own p (later (part.Known t) p parts c)) in
      record {
        move = rest.move;
        listed = rest.listed;
        substitution = rest.substitution;
        scope = rest.scope;
        grown = rest.grown;
        makes = rest.makes ∙ with_known_makes scope m σ grown t g own_t;
      }
  chosen (strand s bar args role n v b parts g there at fits equal asks) scope m σ grown own =
      let p : Part = part.Strand s bar args in
      let own_args : (t : Term) → Contains args t → (x : Variable) → Contains (variables t) x → Contains vs x = own p (here p parts) in
      let one = sorted s role v there (member_at (variants role) n v at) in
      let rest = chosen asks (wider o m.next b σ v scope grown.low) (with_strand s bar args role n v m) (raised o m.next b σ v)
      (is_grown scope m σ grown s bar args role n v b own_args one fits equal) (λ x c. own x (later p x parts c)) in
      let place = at_mapped (λ (w : Variant). (role, w)) (variants role) n v at in
      record {
        move = rest.move;
        listed = at_zero (λ k by. root_moves strands variants parts (with_strand s bar args by.0 k by.1 m)) (variants_at variants (slice_get strands s)) n (role, v) rest.move
            (ap (λ x. slice_get (variants_at variants x) n) there ∙ place) rest.listed;
        substitution = rest.substitution;
        scope = rest.scope;
        grown = rest.grown;
        makes = rest.makes ∙ with_strand_makes scope m σ grown s bar args role n v b own_args one fits equal g;
      }

-- ## The list

module _ (o : Subsorts) (strands : List Strand) (solve : Solve) (variants : Strand → List Variant) (solves : Solves o solve) (sorted : AreOneSorted strands variants)
    (a : List (Variable × Term)) (aim : Aim) (q : Pattern)
    (fits : (v : Variable) → Contains (aim_variables aim) v → IsAtOrBelow o (least_sort (image a v)) v.sort)
    (low : (v : Variable) → Contains (aim_variables aim) v → v.num < length aim.sorts) (one : HasOneSort (aim_variables aim))
    (list : List Root) (is : roots_of strands solve variants aim ≡ Ok list) where
  answer : (fs : List (Found (List ℕ))) × (gathered solve (aim_once aim) 0 (root_problem strands variants aim ∷ []) ≡ Ok fs) × (list ≡ map root_of fs)
  unfolding roots_of
  answer = mapped_ok root_of (gathered solve (aim_once aim) 0 (root_problem strands variants aim ∷ [])) list is

  no_term : (t : Term) → IsTermOf (begun aim).from t → ⊥
  no_term t (of_args k p e c) = none-some p e
  no_term t (of_msgs k p e c) = none-some p e
  no_term t (of_known c) = nowhere t c
  no_term t (of_unknown c) = nowhere t c

  begun_grown : Grown o strands variants sorted a (aim_variables aim) (aim_variables aim) (begun aim) a
  begun_grown = record {
    low = low;
    fits = fits;
    one = one;
    terms = λ t v there c. absurd (no_term t there);
    pair = λ v c. absurd (nowhere v c);
    equal = λ t u c. absurd (nowhere (t, u) c);
    apart = refl;
    own = λ v c. c;
    same = λ v c. refl;
  }

  own_parts : AreOwn o strands variants sorted a (aim_variables aim) aim.parts
  own_parts p c t d v e = member_variable (flat_map part_terms aim.parts) t v (flat_member part_terms aim.parts p t c d) e

  move_makes : (asked : Pattern) → Alike asked q → (chosen : Chosen o strands variants sorted a (aim_variables aim) aim.parts (begun aim) a asked) → Makes o chosen.move (aim_once aim) chosen.substitution q
  move_makes asked alike chosen =
      let m = chosen.move in
      let grown = chosen.grown in
      let none : (p : Term × Term) → Contains m.apart p → ⊥ = λ p c. nowhere p (subst (λ (ps : List (Term × Term)). Contains ps p) grown.apart c) in
      record {
        unifies = record { sorts = λ v c. grown.fits v (grown.pair v c); equal = grown.equal };
        pairs_low = λ v c. grown.low v (grown.pair v c);
        one = λ v w c d e. grown.one v w (grown.pair v c) (grown.pair w d) e;
        apart = λ p c same. none p c;
        left_low = λ p v c d. absurd (none p c);
        right_low = λ p v c d. absurd (none p c);
        low = λ t v there c. grown.low v (grown.terms t v there c);
        fits = λ t v there c. grown.fits v (grown.terms t v there c);
        small = λ v c. grown.low v (grown.own v (once_of (flat_map part_terms aim.parts) v c));
        alike = subst (λ (x : Pattern). Alike x q) (sym chosen.makes) alike;
      }

  pub roots_complete : IsRootBy strands variants o a aim q → IsAmongRoots o list a aim q
  roots_complete by =
      let choice = chosen o strands variants sorted a (aim_variables aim) by.asks (aim_variables aim) (begun aim) a begun_grown own_parts in
      let problem = root_problem strands variants aim in
      let all = gathered_has solve (aim_once aim) solves.always 0 (problem ∷ []) answer.0 problem choice.move answer.1 (here problem []) choice.listed in
      let found = found_instance o solve solves choice.move (aim_once aim) choice.substitution q answer.0 (move_makes by.asked by.alike choice) all in
      record {
        root = root_of found.0;
        there = subst (λ (roots : List Root). Contains roots (root_of found.0)) (sym answer.2) (mapped_member root_of answer.0 found.0 found.1);
        by_ = found.2.by_;
        places = found.2.places;
        covers = found.2.covers;
        agrees = λ v c. subst (λ (t : Term). Same (applied found.2.by_ (image found.0.unifier v)) t) (choice.grown.same v c) (found.2.agrees v (in_once (flat_map part_terms aim.parts) v c));
      }

-- The first part that isn't accepted, found in one list of terms after another, and the first such aim.
use Rattle.std.proofs.Common.{◌≡◌, ◌≢◌, ℕ, zero, suc, ◌+◌, ◌<◌, ◌≤◌, Option, None, Some, List, [], ◌∷◌, ◌++◌, refl, sym, ap, ◌∙◌, subst, inl, inr, get_or, length, drop, slice_get, Contains, ⊎_elim, arith}
use Rattle.std.specs.Prelude.{◌⊎◌}
use Rattle.std.specs.List.{flat_map}
use Rattle.std.proofs.lemmas.Bool.{cases_order}
use Rattle.std.proofs.lemmas.List.{drop_more, drop_all}
use Rattle.std.proofs.lemmas.List.Concat.{flat_map-cons}
use Rattle.std.proofs.lemmas.List.Elements.{Contains-append_left, Contains-append_right, Contains-append_cases}
use Rattle.std.proofs.lemmas.Option.{same_Some, none-some, slice_get-get_or}
use Rattle.npa_term.specs.declared.term.Var.{Var as Variable}
use Rattle.npa_term.specs.declared.term.Term.{Term}
use Rattle.npa_term.specs.declared.term.Term.TheVariants.{Var}
use Rattle.npa_term.specs.Parts.{IsPart}
use Rattle.npa_sig.specs.declared.protocol.Equation.{Equation}
use Rattle.npa_rewrite.specs.declared.theory.Theory.{Theory}
use Rattle.npa_rewrite.specs.Accepted.{Unify, IsAcceptedTerm}
use Rattle.npa_accept.specs.declared.accepted.Unaccepted.{Unaccepted}
use Rattle.npa_accept.specs.Parts.{parts}
use Rattle.npa_accept.specs.Unaccepted.{IsApart, IsFirst, IsFirstOf, IsFirstEquation}
use Rattle.npa_unify.proofs.Members.{here, later as behind, nowhere, flat_map_member, member_flat_map}
use Rattle.npa_accept.proofs.Firsts.{one_first}
use Rattle.npa_accept.proofs.Parts.{part_listed, listed_part}
use Rattle.npa_model.specs.declared.aim.Part.{Part}
use Rattle.npa_model.specs.declared.aim.Aim.{Aim}
use Rattle.npa_model.specs.Accepted.{part_terms, IsAccepted}
use Rattle.npa_close.specs.Checks.{part_parts, aim_parts, AreAccepted, IsFirstAim, HasAimFault}

-- ## One list of terms after another

module _ (th : Theory) where
  -- what is first behind a term that is no matter
  later : (t : Term) (ts : List Term) (found : Unaccepted) → (((v : Variable) → t ≢ Var v) → IsApart th t) → IsFirstOf th ts found → IsFirstOf th (t ∷ ts) found
  later t ts found apart is = record {
    place = suc is.place;
    there = is.there;
    other = is.other;
    equation = is.equation;
    before = λ k u l at other. by k u l at other;
  }
    where
      by : (k : ℕ) (u : Term) → k < suc is.place → slice_get (t ∷ ts) k ≡ Some u → ((v : Variable) → u ≢ Var v) → IsApart th u
      by zero u l at other = let same : t ≡ u = same_Some t u at in subst (IsApart th) same (apart (λ v e. other v (sym same ∙ e)))
      by (suc k) u l at other = is.before k u (omega (arith, l)) at other

  -- what is first in the first list is first in both
  front_at : (us vs : List Term) (found : Unaccepted) (p : ℕ) → slice_get us p ≡ Some found.term → ((v : Variable) → found.term ≢ Var v) → IsFirstEquation th found.term found.equation →
      ((k : ℕ) (u : Term) → k < p → slice_get us k ≡ Some u → ((v : Variable) → u ≢ Var v) → IsApart th u) → IsFirstOf th (us ++ vs) found
  front_at [] vs found p at other equation before = absurd (none-some found.term at)
  front_at (t ∷ us) vs found zero at other equation before = record {
    place = zero;
    there = at;
    other = other;
    equation = equation;
    before = λ k u l e o. absurd (let none : ⊥ = omega (arith, l) in none);
  }
  front_at (t ∷ us) vs found (suc p) at other equation before =
      later t (us ++ vs) found (λ o. before zero t (omega arith) refl o)
      (front_at us vs found p at other equation (λ k u l e o. before (suc k) u (omega (arith, l)) e o))

  first_front : (us vs : List Term) (found : Unaccepted) → IsFirstOf th us found → IsFirstOf th (us ++ vs) found
  first_front us vs found is = front_at us vs found is.place is.there is.other is.equation is.before

  -- where nothing is found in the first list, it is first in the second
  first_behind : (us vs : List Term) → IsFirst th us None → (o : Option Unaccepted) → IsFirst th vs o → IsFirst th (us ++ vs) o
  first_behind us vs none None is = λ u h other. ⊎_elim (λ (a : Contains us u). none u a other) (λ (b : Contains vs u). is u b other) (Contains-append_cases us vs u h)
  first_behind [] vs none (Some found) is = is
  first_behind (t ∷ us) vs none (Some found) is =
      later t (us ++ vs) found (λ other. none t (here t us) other) (first_behind us vs (λ u h other. none u (behind t u us h) other) (Some found) is)

  -- whatever is first behind place i of a list is first in all of it
  module _ {A : Type 0} (terms : A → List Term) (xs : List A) where
    abbrev pub Rest : ℕ → Type 0
    Rest i = (o : Option Unaccepted) → IsFirst th (flat_map terms (drop i xs)) o → IsFirst th (flat_map terms xs) o

    pub begins : Rest 0
    begins = λ o is. is

    pub ended : (i : ℕ) → length xs ≤ i → Rest i → IsFirst th (flat_map terms xs) None
    ended i end rest =
        rest None (subst (λ (ys : List A). IsFirst th (flat_map terms ys) None) (sym (drop_all i xs end))
        (λ u h other. absurd (nowhere u h)))

    module _ (i : ℕ) (x : A) (small : i < length xs) (at : x ≡ get_or xs i x) where
      split : terms x ++ flat_map terms (drop (i + 1) xs) ≡ flat_map terms (drop i xs)
      split =
          sym (ap (flat_map terms) (drop_more xs i x small ∙ ap (λ y. y ∷ drop (i + 1) xs) (sym at)) ∙ flat_map-cons terms x (drop (i + 1) xs))

      pub goes_on : IsFirst th (terms x) None → Rest i → Rest (i + 1)
      goes_on none rest = λ o is. rest o (subst (λ us. IsFirst th us o) split (first_behind (terms x) (flat_map terms (drop (i + 1) xs)) none o is))

      pub found_at : (found : Unaccepted) → IsFirst th (terms x) (Some found) → Rest i → IsFirst th (flat_map terms xs) (Some found)
      found_at found is rest = rest (Some found) (subst (λ us. IsFirst th us (Some found)) split (first_front (terms x) (flat_map terms (drop (i + 1) xs)) found is))

  -- ## An aim

  pub of_term : (t : Term) (o : Option Unaccepted) → IsFirst th (parts t) o → IsFirst th (flat_map parts (t ∷ [])) o
  of_term t o is = subst (λ us. IsFirst th us o) (sym (flat_map-cons parts t [] ∙ nothing_behind (parts t))) is
    where
      nothing_behind : (us : List Term) → us ++ [] ≡ us
      nothing_behind [] = refl
      nothing_behind (u ∷ us) = ap (λ vs. u ∷ vs) (nothing_behind us)

  -- an aim in which nothing is found is accepted,
  pub accepted : (aim : Aim) → IsFirst th (aim_parts aim) None → IsAccepted th aim
  accepted aim none = λ p in_aim t in_part u is other e listed unify.
      none u (member_flat_map part_parts aim.parts p u in_aim (member_flat_map parts (part_terms p) t u in_part (part_listed is))) other e listed unify

  -- and in one that is accepted nothing is found
  found_none : (aim : Aim) → IsAccepted th aim → IsFirst th (aim_parts aim) None
  found_none aim is = λ u h other e listed unify.
      let p = flat_map_member part_parts aim.parts u h in
      let t = flat_map_member parts (part_terms p.0) u p.2 in
      is p.0 p.1 t.0 t.1 u (listed_part u t.0 t.2) other e listed unify

  -- ## The aims

  module _ (aims : List Aim) where
    pub none_before : (k : ℕ) (other : Aim) → k < 0 → slice_get aims k ≡ Some other → IsAccepted th other
    none_before k other l at = absurd (let none : ⊥ = omega (arith, l) in none)

    module _ (i : ℕ) (before : (k : ℕ) (other : Aim) → k < i → slice_get aims k ≡ Some other → IsAccepted th other) where
      pub all_accepted : length aims ≤ i → AreAccepted th aims
      all_accepted end = λ k other at. before k other (below aims k i other at end) at
        where
          below : (xs : List Aim) (k i : ℕ) (a : Aim) → slice_get xs k ≡ Some a → length xs ≤ i → k < i
          below [] k i a e l = absurd (none-some a e)
          below (b ∷ xs) zero i a e l = omega (arith, l)
          below (b ∷ xs) (suc k) zero a e l = absurd (let none : ⊥ = omega (arith, l) in none)
          below (b ∷ xs) (suc k) (suc i) a e l = let less : k < i = below xs k i a e (omega (arith, l)) in omega (arith, less)

      module _ (aim : Aim) (small : i < length aims) (at : aim ≡ get_or aims i aim) where
        there : slice_get aims i ≡ Some aim
        there = slice_get-get_or aims i aim small ∙ ap Some (sym at)

        pub one_more : IsFirst th (aim_parts aim) None → (k : ℕ) (other : Aim) → k < i + 1 → slice_get aims k ≡ Some other → IsAccepted th other
        one_more none = λ k other l at_other. ⊎_elim
            (λ (e : k ≡ i). accepted other (subst (λ a. IsFirst th (aim_parts a) None) (same_Some aim other (sym there ∙ ap (slice_get aims) (sym e) ∙ at_other)) none))
            (λ o. ⊎_elim (λ (less : k < i). before k other less at_other) (λ (more : i < k). absurd (let no : ⊥ = omega (arith, l, more) in no)) o)
            (cases_order k i)

        pub this_aim : (found : Unaccepted) → IsFirst th (aim_parts aim) (Some found) → IsFirstAim th aims (i, found)
        this_aim found is = record { aim = aim; there = there; found = is; before = before }

    -- one aim is the first
    not_before : (f g : ℕ × Unaccepted) (a : IsFirstAim th aims f) (b : IsFirstAim th aims g) → f.0 < g.0 → ⊥
    not_before f g a b l = none-some f.1 (one_first th (aim_parts a.aim) None (Some f.1) (found_none a.aim (b.before f.0 a.aim l a.there)) a.found)

    not_accepted : (f : ℕ × Unaccepted) → IsFirstAim th aims f → AreAccepted th aims → ⊥
    not_accepted f a all = none-some f.1 (one_first th (aim_parts a.aim) None (Some f.1) (found_none a.aim (all f.0 a.aim a.there)) a.found)

    pub one_aim : (a b : Option (ℕ × Unaccepted)) → HasAimFault th aims a → HasAimFault th aims b → b ≡ a
    one_aim None None f g = refl
    one_aim None (Some b) f g = absurd (not_accepted b g f)
    one_aim (Some a) None f g = absurd (not_accepted a f g)
    one_aim (Some a) (Some b) f g =
        let place : b.0 ≡ a.0 = same_place b.0 a.0 (not_before b a g f) (not_before a b f g) in
        let aim : g.aim ≡ f.aim = same_Some g.aim f.aim (sym g.there ∙ ap (slice_get aims) place ∙ f.there) in
        let found : b.1 ≡ a.1 = same_Some b.1 a.1 (one_first th (aim_parts f.aim) (Some b.1) (Some a.1) (subst (λ x. IsFirst th (aim_parts x) (Some b.1)) aim g.found) f.found) in
        λ i. Some (place i, found i)
      where
        same_place : (m n : ℕ) → ((m < n) → ⊥) → ((n < m) → ⊥) → m ≡ n
        same_place m n a b = ⊎_elim (λ (e : m ≡ n). e) (λ o. ⊎_elim (λ (l : m < n). absurd (a l)) (λ (l : n < m). absurd (b l)) o) (cases_order m n)

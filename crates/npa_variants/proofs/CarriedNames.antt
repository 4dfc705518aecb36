-- A well-sorted term with a fresh name is of a sort that carries names, and a ground term of the sort
-- of fresh values is a name.
use Rattle.std.proofs.Common.{◌≡◌, ◌≢◌, ◌⊎◌, ℕ, zero, suc, Bool, true, false, ◌&&◌, Option, Some, None, List, [], ◌∷◌, ◌++◌, length, map, drop, replicate, slice_get, inl, inr, refl, sym, ◌∙◌, ap, subst, arith}
use Rattle.std.specs.Prelude.{Contains, ◌==◌}
use Rattle.std.specs.List.{list_all}
use Rattle.std.proofs.lemmas.Bool.{and_parts, eqb-true}
use Rattle.npa_sorts.specs.Subsorts.{Subsorts, IsBelow, IsAtOrBelow, at_or_below}
use Rattle.npa_sorts.proofs.Climbs.{decides}
use Rattle.npa_sorts.proofs.Steps.{at_or_below_trans}
use Rattle.npa_term.specs.declared.term.Op.{Op}
use Rattle.npa_term.specs.declared.term.Var.{Var as Variable}
use Rattle.npa_term.specs.declared.term.Term.{Term, Var, Name, App}
use Rattle.npa_term.specs.Bound.{applied}
use Rattle.npa_term.specs.Parts.{IsPart, whole, inside, image, least_sort}
use Rattle.npa_term.specs.Same.{Same}
use Rattle.npa_term.specs.Variables.{variables, IsGround}
use Rattle.npa_term.proofs.Induction.{term_cases}
use Rattle.npa_term.proofs.Parts.{each_member}
use Rattle.npa_term.proofs.Rows.{applied_app}
use Rattle.npa_term.proofs.SameCases.{same_only_name}
use Rattle.npa_sig.specs.declared.signature.OpDecl.{OpDecl}
use Rattle.npa_sig.specs.Nameless.{CarriesNames, fresh_names, through}
use Rattle.npa_sig.specs.Signature.{Signature}
use Rattle.npa_sig.specs.Sorting.{well_sorted, agrees, same_bool, all_below, is_declared}
use Rattle.npa_sig.proofs.Rows.{well_sorted_at}
use Rattle.npa_sig.proofs.SortedTerms.{arguments_sorted}
use Rattle.npa_rewrite.proofs.InstanceParts.{here, behind, member_cases, same_part, part_of_instance, OfTerm, OfValue}
use Rattle.npa_variants.proofs.Members.{none_there}

-- an operator with the declaration that its application needs
record Declared (sig : Signature) (op : Op) (ts : List Term) : Type 0 where
  decl : OpDecl
  there : slice_get sig.ops op.num ≡ Some decl
  result : op.result ≡ decl.result
  below : all_below sig (map least_sort ts) decl.args ≡ true

declared_of : (sig : Signature) (op : Op) (ts : List Term) → well_sorted sig (App op ts) ≡ true → Declared sig op ts
declared_of sig op ts e =
    let both = and_parts (is_declared sig op (map least_sort ts) (slice_get sig.ops op.num)) (list_all (well_sorted sig) ts) (sym (well_sorted_at sig (App op ts) op ts refl) ∙ e) in
    found (slice_get sig.ops op.num) refl both.0
  where
    found : (o : Option OpDecl) → slice_get sig.ops op.num ≡ o → is_declared sig op (map least_sort ts) o ≡ true → Declared sig op ts
    found None at is = cc
    found (Some decl) at is =
        let both = and_parts (agrees op decl) (all_below sig (map least_sort ts) decl.args) is in
        let parts = and_parts (op.result == decl.result) (same_bool op.«com» decl.«com») both.0 in
        record { decl = decl; there = at; result = eqb-true op.result decl.result parts.0; below = both.1 }

-- the place of an argument, with the sort that is declared there
record PlacedAt (sig : Signature) (sorts : List ℕ) (t : Term) : Type 0 where
  place : ℕ
  sort : ℕ
  there : slice_get sorts place ≡ Some sort
  below : IsAtOrBelow sig.sorts (least_sort t) sort

placed_at : (sig : Signature) (ts : List Term) (sorts : List ℕ) (t : Term) → all_below sig (map least_sort ts) sorts ≡ true → Contains ts t → PlacedAt sig sorts t
placed_at sig [] sorts t e c = absurd (none_there t c)
placed_at sig (u ∷ us) [] t e c = cc
placed_at sig (u ∷ us) (s ∷ ss) t e c =
    let both = and_parts (at_or_below sig.sorts (least_sort u) s) (all_below sig (map least_sort us) ss) e in
    elim (member_cases u t us c) [
      | inl is ↦ record { place = zero; sort = s; there = refl; below = subst (λ w. IsAtOrBelow sig.sorts (least_sort w) s) is ((decides sig.sorts (least_sort u) s).0 both.0) }
      | inr d ↦ let rest = placed_at sig us ss t both.1 d in record { place = suc rest.place; sort = rest.sort; there = rest.there; below = rest.below }
    ]

-- what stands in one of the last places is of a sort at or below the last ones'
pub last_sort : (sig : Signature) (ts : List Term) (sorts : List ℕ) (count s : ℕ) (t : Term) → all_below sig (map least_sort ts) (sorts ++ replicate count s) ≡ true →
    Contains (drop (length sorts) ts) t → IsAtOrBelow sig.sorts (least_sort t) s
last_sort sig [] [] count s t e c = absurd (none_there t c)
last_sort sig [] (r ∷ rs) count s t e c = absurd (none_there t c)
last_sort sig (u ∷ us) [] zero s t e c = cc
last_sort sig (u ∷ us) [] (suc count) s t e c =
    let both = and_parts (at_or_below sig.sorts (least_sort u) s) (all_below sig (map least_sort us) (replicate count s)) e in
    elim (member_cases u t us c) [
      | inl is ↦ subst (λ w. IsAtOrBelow sig.sorts (least_sort w) s) is ((decides sig.sorts (least_sort u) s).0 both.0)
      | inr d ↦ last_sort sig us [] count s t both.1 d
    ]
last_sort sig (u ∷ us) (r ∷ rs) count s t e c =
    let both = and_parts (at_or_below sig.sorts (least_sort u) r) (all_below sig (map least_sort us) (rs ++ replicate count s)) e in
    last_sort sig us rs count s t both.1 c

name_only : (m n : ℕ) → Name m ≡ Name n → m ≡ n
name_only m n e = cc

-- names in terms that are equal modulo commutativity, and in instances

pub same_name : {t u : Term} → Same t u → (n : ℕ) → IsPart (Name n) t → IsPart (Name n) u
same_name {t} {u} same n part =
    let other = same_part same part in
    subst (λ p. IsPart p u) (same_only_name other.same n refl) other.there

-- a name of an instance is one of the term, or stands in the value of a variable
pub name_of_instance : (s : List (Variable × Term)) (n : ℕ) (t : Term) → IsPart (Name n) (applied s t) → IsPart (Name n) t ⊎ OfValue s t (Name n)
name_of_instance s n t part =
    elim (part_of_instance s t (Name n) part) [
      | inl of ↦ inl (subst (λ p. IsPart p t) (named of.part of.proper of.form) of.there)
      | inr of ↦ inr of
    ]
  where
    named : (p : Term) → ((v : Variable) → p ≢ Var v) → Name n ≡ applied s p → p ≡ Name n
    named =
        term_cases (λ p. ((v : Variable) → p ≢ Var v) → Name n ≡ applied s p → p ≡ Name n) (λ v proper e. absurd (proper v refl)) (λ k proper e. sym e)
        (λ op ts proper e. let made : Name n ≡ App op (map (applied s) ts) = e ∙ applied_app s op ts in let no : ⊥ = cc in absurd no)

module _ (sig : Signature) (top : (s : ℕ) → IsBelow sig.sorts 1 s → ⊥) where
  -- a sort above one that carries names carries them
  pub carries_up : {s : ℕ} → CarriesNames sig s → (t : ℕ) → IsAtOrBelow sig.sorts s t → CarriesNames sig t
  carries_up fresh_names t (inl e) = subst (CarriesNames sig) e fresh_names
  carries_up fresh_names t (inr b) = absurd (top t b)
  carries_up (through num decl k a s at place carries under) t below = through num decl k a t at place carries (at_or_below_trans under below)

  -- a well-sorted term with a fresh name is of a sort that carries names
  pub name_carries : (n : ℕ) {p t : Term} → IsPart p t → p ≡ Name n → well_sorted sig t ≡ true → CarriesNames sig (least_sort t)
  name_carries n whole is sorted = subst (λ w. CarriesNames sig (least_sort w)) (sym is) fresh_names
  name_carries n (inside op us u c p) is sorted =
      let known = declared_of sig op us sorted in
      let at = placed_at sig us known.decl.args u known.below c in
      let sorted_u : well_sorted sig u ≡ true = each_member (λ w. well_sorted sig w ≡ true) us u (arguments_sorted sig op us sorted) c in
      through op.num known.decl at.place at.sort op.result known.there at.there (carries_up (name_carries n p is sorted_u) at.sort at.below) (inl (sym known.result))

-- where no operator makes fresh values, a ground term of their sort is a name
pub fresh_name : (sig : Signature) → ((num : ℕ) (decl : OpDecl) → slice_get sig.ops num ≡ Some decl → decl.result ≢ 1) → (t : Term) → well_sorted sig t ≡ true → IsGround t →
    least_sort t ≡ 1 → (n : ℕ) × (t ≡ Name n)
fresh_name sig none_makes =
    term_cases (λ t. well_sorted sig t ≡ true → IsGround t → least_sort t ≡ 1 → (n : ℕ) × (t ≡ Name n)) (λ v sorted ground is. let no : ⊥ = cc in absurd no) (λ n sorted ground is. (n, refl))
    (λ op ts sorted ground is. let known = declared_of sig op ts sorted in absurd (none_makes op.num known.decl known.there (sym known.result ∙ is)))

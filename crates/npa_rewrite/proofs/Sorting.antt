-- Well-sorted terms: their arguments, terms that equal them, and the terms of variables.
use Rattle.std.proofs.Common.{◌≡◌, ℕ, Bool, true, false, ◌&&◌, List, [], ◌∷◌, ◌++◌, map, slice_get, Option, Some, None, refl, sym, ◌∙◌, ap, subst, inl, inr, arith}
use Rattle.std.specs.Prelude.{Contains, ◌==◌}
use Rattle.std.specs.List.{flat_map, list_all}
use Rattle.std.proofs.lemmas.Bool.{and_parts, eqb-true}
use Rattle.std.proofs.lemmas.List.Elements.{Contains-append_cases}
use Rattle.npa_sorts.proofs.Climbs.{decides}
use Rattle.npa_sorts.proofs.Steps.{at_or_below_trans}
use Rattle.npa_term.specs.declared.term.Op.{Op}
use Rattle.npa_term.specs.declared.term.Var.{Var as Variable}
use Rattle.npa_term.specs.declared.term.Term.{Term, Var, App}
use Rattle.npa_term.specs.Bound.{applied}
use Rattle.npa_term.specs.Canonical.{canonical}
use Rattle.npa_term.specs.Parts.{least_sort}
use Rattle.npa_term.specs.Same.{Same, itself, through, swapped, below, SameAll, nothing, first}
use Rattle.npa_term.specs.Variables.{variables}
use Rattle.npa_term.proofs.AgreeingLaws.{same_canonical}
use Rattle.npa_term.proofs.Induction.{Each, by_terms}
use Rattle.npa_term.proofs.Parts.{same_sort, only_member}
use Rattle.npa_term.proofs.Rows.{applied_app, variables_at}
use Rattle.npa_sig.specs.Signature.{Signature, is_pair}
use Rattle.npa_sig.specs.Sorting.{agrees, all_below, is_below, is_declared, same_bool, well_sorted}
use Rattle.npa_sig.specs.declared.signature.OpDecl.{OpDecl}
use Rattle.npa_sig.proofs.Rows.{well_sorted_at}
use Rattle.npa_sig.proofs.SortedTerms.{declaration, sorted_agrees}
use Rattle.npa_sig.specs.Operators.{PairsCommute}

both : (x y : Bool) → x ≡ true → y ≡ true → x && y ≡ true
both true y d e = e
both false y d e = d

-- two arguments of one sort in the other order
swap_below : (sig : Signature) (s t : ℕ) (xs : List ℕ) → is_pair xs ≡ true → all_below sig (s ∷ t ∷ []) xs ≡ true → all_below sig (t ∷ s ∷ []) xs ≡ true
swap_below sig s t [] pair fits = cc
swap_below sig s t (a ∷ []) pair fits = cc
swap_below sig s t (a ∷ b ∷ []) pair fits =
    let one : a ≡ b = eqb-true a b pair in
    let fst = and_parts (is_below sig s a) (is_below sig t b && true) fits in
    let snd = and_parts (is_below sig t b) true fst.1 in
    both (is_below sig t a) (is_below sig s b && true) (subst (λ x. is_below sig t x ≡ true) (sym one) snd.0)
    (both (is_below sig s b) true (subst (λ x. is_below sig s x ≡ true) one fst.0) refl)
swap_below sig s t (a ∷ b ∷ c ∷ xs) pair fits = cc

same_bool_is : (b c : Bool) → same_bool b c ≡ true → b ≡ true → c ≡ true
same_bool_is true c e t = e
same_bool_is false c e t = cc

swap_declared : (sig : Signature) (op : Op) (s t : ℕ) (o : Option OpDecl) → ((decl : OpDecl) → o ≡ Some decl → decl.com ≡ true → is_pair decl.args ≡ true) → op.com ≡ true →
    is_declared sig op (s ∷ t ∷ []) o ≡ true → is_declared sig op (t ∷ s ∷ []) o ≡ true
swap_declared sig op s t None pairs swaps fits = cc
swap_declared sig op s t (Some decl) pairs swaps fits =
    let parts = and_parts (agrees op decl) (all_below sig (s ∷ t ∷ []) decl.args) fits in
    let same = (and_parts (op.result == decl.result) (same_bool op.com decl.com) parts.0).1 in
    both (agrees op decl) (all_below sig (t ∷ s ∷ []) decl.args) parts.0
    (swap_below sig s t decl.args (pairs decl refl (same_bool_is op.com decl.com same swaps)) parts.1)

-- an argument of a lower sort
below_trans : (sig : Signature) (s t u : ℕ) → is_below sig s t ≡ true → is_below sig t u ≡ true → is_below sig s u ≡ true
below_trans sig s t u d e = (decides sig.sorts s u).1 (at_or_below_trans ((decides sig.sorts s t).0 d) ((decides sig.sorts t u).0 e))

lower_below : (sig : Signature) (before after : List Term) (t u : Term) (xs : List ℕ) → is_below sig (least_sort u) (least_sort t) ≡ true →
    all_below sig (map least_sort (before ++ t ∷ after)) xs ≡ true → all_below sig (map least_sort (before ++ u ∷ after)) xs ≡ true
lower_below sig [] after t u [] low fits = cc
lower_below sig [] after t u (x ∷ xs) low fits =
    let parts = and_parts (is_below sig (least_sort t) x) (all_below sig (map least_sort after) xs) fits in
    both (is_below sig (least_sort u) x) (all_below sig (map least_sort after) xs) (below_trans sig (least_sort u) (least_sort t) x low parts.0) parts.1
lower_below sig (b ∷ before) after t u [] low fits = cc
lower_below sig (b ∷ before) after t u (x ∷ xs) low fits =
    let parts = and_parts (is_below sig (least_sort b) x) (all_below sig (map least_sort (before ++ t ∷ after)) xs) fits in
    both (is_below sig (least_sort b) x) (all_below sig (map least_sort (before ++ u ∷ after)) xs) parts.0 (lower_below sig before after t u xs low parts.1)

pub lower_declared : (sig : Signature) (op : Op) (before after : List Term) (t u : Term) (o : Option OpDecl) → is_below sig (least_sort u) (least_sort t) ≡ true →
    is_declared sig op (map least_sort (before ++ t ∷ after)) o ≡ true → is_declared sig op (map least_sort (before ++ u ∷ after)) o ≡ true
lower_declared sig op before after t u None low fits = cc
lower_declared sig op before after t u (Some decl) low fits =
    let parts = and_parts (agrees op decl) (all_below sig (map least_sort (before ++ t ∷ after)) decl.args) fits in
    both (agrees op decl) (all_below sig (map least_sort (before ++ u ∷ after)) decl.args) parts.0 (lower_below sig before after t u decl.args low parts.1)

-- an application and its arguments
pub sorted_parts : (sig : Signature) (op : Op) (ts : List Term) → well_sorted sig (App op ts) ≡ true →
    (is_declared sig op (map least_sort ts) (slice_get sig.ops op.num) ≡ true) × (list_all (well_sorted sig) ts ≡ true)
sorted_parts sig op ts sorted =
    and_parts (is_declared sig op (map least_sort ts) (slice_get sig.ops op.num)) (list_all (well_sorted sig) ts) (sym (well_sorted_at sig (App op ts) op ts refl) ∙ sorted)

pub sorted_app : (sig : Signature) (op : Op) (ts : List Term) → is_declared sig op (map least_sort ts) (slice_get sig.ops op.num) ≡ true → list_all (well_sorted sig) ts ≡ true →
    well_sorted sig (App op ts) ≡ true
sorted_app sig op ts declared each =
    well_sorted_at sig (App op ts) op ts refl ∙ both (is_declared sig op (map least_sort ts) (slice_get sig.ops op.num)) (list_all (well_sorted sig) ts) declared each

sorts_same : {ts us : List Term} → SameAll ts us → map least_sort ts ≡ map least_sort us
sorts_same nothing = refl
sorts_same (first t u ts us p q) =
    ap (λ s. s ∷ map least_sort ts) (same_sort t u p) ∙ ap (λ ss. least_sort u ∷ ss) (sorts_same q)

mutual
  pub same_sorted : (sig : Signature) → PairsCommute sig → {t u : Term} → Same t u → well_sorted sig t ≡ true → well_sorted sig u ≡ true
  same_sorted sig pairs (itself t) sorted = sorted
  same_sorted sig pairs (through s t u p q) sorted = same_sorted sig pairs q (same_sorted sig pairs p sorted)
  same_sorted sig pairs (swapped op t u swaps) sorted =
      let parts = sorted_parts sig op (t ∷ u ∷ []) sorted in
      let fst = and_parts (well_sorted sig t) (well_sorted sig u && true) parts.1 in
      let snd = and_parts (well_sorted sig u) true fst.1 in
      sorted_app sig op (u ∷ t ∷ []) (swap_declared sig op (least_sort t) (least_sort u) (slice_get sig.ops op.num) (pairs op.num) swaps parts.0)
      (both (well_sorted sig u) (well_sorted sig t && true) snd.0 (both (well_sorted sig t) true fst.0 refl))
  same_sorted sig pairs (below op ts us p) sorted =
      let parts = sorted_parts sig op ts sorted in
      sorted_app sig op us (subst (λ ss. is_declared sig op ss (slice_get sig.ops op.num) ≡ true) (sorts_same p) parts.0) (same_all_sorted sig pairs p parts.1)

  same_all_sorted : (sig : Signature) → PairsCommute sig → {ts us : List Term} → SameAll ts us → list_all (well_sorted sig) ts ≡ true → list_all (well_sorted sig) us ≡ true
  same_all_sorted sig pairs nothing each = each
  same_all_sorted sig pairs (first t u ts us p q) each =
      let parts = and_parts (well_sorted sig t) (list_all (well_sorted sig) ts) each in
      both (well_sorted sig u) (list_all (well_sorted sig) us) (same_sorted sig pairs p parts.0) (same_all_sorted sig pairs q parts.1)

sorted_members : (sig : Signature) (s : List (Variable × Term)) (v : Variable) (ts : List Term) →
    Each (λ t. Contains (variables t) v → well_sorted sig (applied s t) ≡ true → well_sorted sig (applied s (Var v)) ≡ true) ts →
    Contains (flat_map variables ts) v → list_all (well_sorted sig) (map (applied s) ts) ≡ true → well_sorted sig (applied s (Var v)) ≡ true
sorted_members sig s v [] each c sorted = absurd (let empty : ⊥ = omega (arith, c.1) in empty)
sorted_members sig s v (t ∷ ts) each c sorted =
    let parts = and_parts (well_sorted sig (applied s t)) (list_all (well_sorted sig) (map (applied s) ts)) sorted in
    elim (Contains-append_cases (variables t) (flat_map variables ts) v c) [ inl l ↦ each.0 l parts.0 | inr r ↦ sorted_members sig s v ts each.1 r parts.1 ]

-- the term of a variable of a well-sorted instance is well sorted
pub image_sorted : (sig : Signature) (s : List (Variable × Term)) (v : Variable) (t : Term) → Contains (variables t) v → well_sorted sig (applied s t) ≡ true → well_sorted sig (applied s (Var v)) ≡ true
image_sorted sig s v =
    by_terms (λ t. Contains (variables t) v → well_sorted sig (applied s t) ≡ true → well_sorted sig (applied s (Var v)) ≡ true)
    (λ w c sorted. subst (λ x. well_sorted sig (applied s (Var x)) ≡ true) (only_member w v c) sorted)
    (λ n c sorted. absurd (let empty : ⊥ = omega (arith, c.1) in empty))
    (λ op ts each c sorted.
    sorted_members sig s v ts each (subst (λ vs. Contains vs v) (variables_at (App op ts) op ts refl) c)
    (sorted_parts sig op (map (applied s) ts) (ap (well_sorted sig) (sym (applied_app s op ts)) ∙ sorted)).1)

-- one argument in the place of another
pub sorted_in : (sig : Signature) (before after : List Term) (t u : Term) → (well_sorted sig t ≡ true → well_sorted sig u ≡ true) →
    list_all (well_sorted sig) (before ++ t ∷ after) ≡ true → list_all (well_sorted sig) (before ++ u ∷ after) ≡ true
sorted_in sig [] after t u f each =
    let parts = and_parts (well_sorted sig t) (list_all (well_sorted sig) after) each in both (well_sorted sig u) (list_all (well_sorted sig) after) (f parts.0) parts.1
sorted_in sig (b ∷ before) after t u f each =
    let parts = and_parts (well_sorted sig b) (list_all (well_sorted sig) (before ++ t ∷ after)) each in
    both (well_sorted sig b) (list_all (well_sorted sig) (before ++ u ∷ after)) parts.0 (sorted_in sig before after t u f parts.1)

-- equal terms have one canonical form where one of them is well sorted
pub sorted_canonical : (sig : Signature) → PairsCommute sig → (t u : Term) → Same t u → well_sorted sig t ≡ true → canonical t ≡ canonical u
sorted_canonical sig pairs t u same sorted =
    same_canonical (declaration sig) t u (sorted_agrees sig t sorted) (sorted_agrees sig u (same_sorted sig pairs same sorted)) same

-- The variables of terms, each once, and substitutions that bind each once.
use Rattle.std.proofs.Common.{◌≡◌, ◌⊎◌, inl, inr, ℕ, zero, suc, ◌+◌, ◌<◌, ◌≤◌, true, false, cond, Some, None, List, [], ◌∷◌, ◌++◌, length, map, zip, take, drop, get_or, slice_get, refl, sym, ◌∙◌, ap, add-one, arith}
use Rattle.std.specs.Prelude.{flat_map}
use Rattle.std.proofs.lemmas.Grind.{common_steps}
use Rattle.std.proofs.lemmas.Option.{slice_get-get_or}
use Rattle.npa_term.specs.declared.term.Var.{Var as Variable}
use Rattle.npa_term.specs.declared.term.Term.{Term}
use Rattle.npa_term.specs.Bound.{same_var, value_of}
use Rattle.npa_term.specs.Numbering.{is_listed, numbered, once_after, variables_once}
use Rattle.npa_term.specs.Variables.{variables}
use Rattle.npa_variants.specs.Rows.{Row}
use Rattle.npa_variants.specs.Told.{AreDistinct}
use Rattle.npa_variants.specs.Variants.{bound, variant_of}

-- the variables that a numbering binds
pub firsts : (k : ℕ) (vs : List Variable) → map (λ (b : Variable × Term). b.0) (numbered k vs) ≡ vs
firsts k [] = refl
firsts k (v ∷ vs) = ap (λ ws. v ∷ ws) (firsts (k + 1) vs)

-- one more that isn't listed
taken_front : (vs : List Variable) (w : Variable) (i : ℕ) → i ≤ length vs → take i (vs ++ w ∷ []) ≡ take i vs
taken_front vs w i small = grind (arith, common_steps)

got_front : (vs : List Variable) (w : Variable) (i : ℕ) (v : Variable) → slice_get (vs ++ w ∷ []) i ≡ Some v → i < length vs → slice_get vs i ≡ Some v
got_front [] w i v e small = absurd (let never : ⊥ = omega (arith, small) in never)
got_front (x ∷ xs) w zero v e small = e
got_front (x ∷ xs) w (suc i) v e small = got_front xs w i v e (omega (arith, small))

got_last : (vs : List Variable) (w : Variable) (i : ℕ) (v : Variable) → slice_get (vs ++ w ∷ []) i ≡ Some v → length vs ≤ i → (i ≡ length vs) × (w ≡ v)
got_last [] w zero v e long = (refl, cc)
got_last [] w (suc i) v e long = let never : ⊥ = cc in absurd never
got_last (x ∷ xs) w zero v e long = absurd (let never : ⊥ = omega (arith, long) in never)
got_last (x ∷ xs) w (suc i) v e long = let rest = got_last xs w i v e (omega (arith, long)) in (ap suc rest.0, rest.1)

taken_all : (vs : List Variable) (w : Variable) → take (length vs) (vs ++ w ∷ []) ≡ vs
taken_all vs w = grind (arith, common_steps)

distinct_more : (vs : List Variable) (w : Variable) → AreDistinct vs → is_listed vs w ≡ false → AreDistinct (vs ++ w ∷ [])
distinct_more vs w distinct new i v e =
    elim (split i (length vs)) [
      | inl small ↦ ap (λ us. is_listed us v) (taken_front vs w i (omega (arith, small))) ∙ distinct i v (got_front vs w i v e small)
      | inr long ↦ let last = got_last vs w i v e long in
          ap (λ n. is_listed (take n (vs ++ w ∷ [])) v) last.0 ∙ ap (λ us. is_listed us v) (taken_all vs w) ∙ ap (is_listed vs) (sym last.1) ∙ new
    ] where
      split : (a b : ℕ) → (a < b) ⊎ (b ≤ a)
      split zero zero = inr (omega arith)
      split zero (suc b) = inl (omega arith)
      split (suc a) zero = inr (omega arith)
      split (suc a) (suc b) = elim (split a b) [ inl p ↦ inl (omega (arith, p)) | inr p ↦ inr (omega (arith, p)) ]

distinct_after : (seen vs : List Variable) → AreDistinct seen → AreDistinct (once_after seen vs)
distinct_after seen [] distinct = distinct
distinct_after seen (v ∷ vs) distinct =
    elim (is_listed seen v) as (λ b. is_listed seen v ≡ b → AreDistinct (cond b (once_after seen vs) (once_after (seen ++ v ∷ []) vs))) [
      | true ↦ λ e. distinct_after seen vs distinct
      | false ↦ λ e. distinct_after (seen ++ v ∷ []) vs (distinct_more seen v distinct e)
    ] refl

pub once_distinct : (ts : List Term) → AreDistinct (variables_once ts)
once_distinct ts = distinct_after [] (flat_map variables ts) (λ i v e. let never : ⊥ = cc in absurd never)

-- a substitution of variables that aren't this one doesn't bind it
unbound : (vs : List Variable) (ts : List Term) (v : Variable) → is_listed vs v ≡ false → value_of (zip vs ts) v ≡ None
unbound [] ts v e = refl
unbound (w ∷ vs) [] v e = refl
unbound (w ∷ vs) (t ∷ ts) v e =
    elim (same_var w v) as (λ b. cond b true (is_listed vs v) ≡ false → cond b (Some t) (value_of (zip vs ts) v) ≡ None) [
      | true ↦ λ d. cc
      | false ↦ λ d. unbound vs ts v d
    ] e

pub unbound_yet : (vs : List Variable) (ts : List Term) (i : ℕ) (v : Variable) (s : List (Variable × Term)) → AreDistinct vs → i < length vs → v ≡ get_or vs i v →
    s ≡ zip (take i vs) (take i ts) → value_of s v ≡ None
unbound_yet vs ts i v s distinct small is made =
    ap (λ u. value_of u v) made ∙ unbound (take i vs) (take i ts) v (distinct i v (slice_get-get_or vs i v small ∙ ap Some (sym is)))

-- one more is bound
zip_next : (vs : List Variable) (ts : List Term) (i : ℕ) (v : Variable) (t : Term) → i < length vs → i < length ts → v ≡ get_or vs i v → t ≡ get_or ts i t →
    zip (take i vs) (take i ts) ++ (v, t) ∷ [] ≡ zip (take (suc i) vs) (take (suc i) ts)
zip_next [] ts i v t a b is here = absurd (let never : ⊥ = omega (arith, a) in never)
zip_next (w ∷ vs) [] i v t a b is here = absurd (let never : ⊥ = omega (arith, b) in never)
zip_next (w ∷ vs) (u ∷ us) zero v t a b is here = ap (λ (p : Variable × Term). p ∷ []) (ap (λ x. (x, t)) is ∙ ap (λ y. (w, y)) here)
zip_next (w ∷ vs) (u ∷ us) (suc i) v t a b is here = ap (λ ps. (w, u) ∷ ps) (zip_next vs us i v t (omega (arith, a)) (omega (arith, b)) is here)

pub bound_next : (vs : List Variable) (ts : List Term) (i : ℕ) (v : Variable) (t : Term) (s new : List (Variable × Term)) → i < length vs → i < length ts → v ≡ get_or vs i v →
    t ≡ get_or ts i t → s ≡ zip (take i vs) (take i ts) → new ≡ s ++ (v, t) ∷ [] → new ≡ zip (take (i + 1) vs) (take (i + 1) ts)
bound_next vs ts i v t s new a b is here made more = rw add-one (more ∙ ap (λ u. u ++ (v, t) ∷ []) made ∙ zip_next vs ts i v t a b is here)

-- all are bound
zip_taken : (vs : List Variable) (ts : List Term) (n : ℕ) → length ts ≤ n → length ts ≤ length vs → zip (take n vs) (take n ts) ≡ zip vs ts
zip_taken [] [] zero a b = refl
zip_taken [] [] (suc n) a b = refl
zip_taken [] (t ∷ ts) n a b = absurd (let never : ⊥ = omega (arith, b) in never)
zip_taken (v ∷ vs) [] zero a b = refl
zip_taken (v ∷ vs) [] (suc n) a b = refl
zip_taken (v ∷ vs) (t ∷ ts) zero a b = absurd (let never : ⊥ = omega (arith, a) in never)
zip_taken (v ∷ vs) (t ∷ ts) (suc n) a b = ap (λ ps. (v, t) ∷ ps) (zip_taken vs ts n (omega (arith, a)) (omega (arith, b)))

pub all_bound : (vs : List Variable) (ts : List Term) (n : ℕ) (s : List (Variable × Term)) → length ts ≤ n → length ts ≤ length vs → s ≡ zip (take n vs) (take n ts) → s ≡ zip vs ts
all_bound vs ts n s a b made = made ∙ zip_taken vs ts n a b

pub variant_made : (vs : List Variable) (row : Row) (s : List (Variable × Term)) (ts : List Term) → s ≡ bound vs row → ts ≡ drop (length vs) row →
    record { subst = s; terms = ts } ≡ variant_of vs row
variant_made vs row s ts d e = ap (λ x. record { subst = x; terms = ts }) d ∙ ap (λ us. record { subst = bound vs row; terms = us }) e

-- A substitution on terms that are renamed apart, in front of another on the terms of lower numbers.
use Rattle.std.proofs.Common.{◌≡◌, ℕ, zero, suc, ◌+◌, ◌<◌, true, false, cond, ◌&&◌, nat_eq, Some, List, [], ◌∷◌, ◌++◌, map, refl, sym, ◌∙◌, ap, subst, arith}
use Rattle.std.specs.Prelude.{Contains, unwrap_or}
use Rattle.std.specs.List.{flat_map}
use Rattle.npa_term.specs.declared.term.Var.{Var as Variable}
use Rattle.npa_term.specs.declared.term.Term.{Term, Var, App}
use Rattle.npa_term.specs.Bound.{same_var, value_of, applied}
use Rattle.npa_term.specs.Parts.{image}
use Rattle.npa_term.specs.Variables.{variables, raised_var, renamed}
use Rattle.npa_term.proofs.AppliedLaws.{applied_alike}
use Rattle.npa_term.proofs.Equality.{var_equal, var_itself}
use Rattle.npa_term.proofs.Induction.{Each, by_terms}
use Rattle.npa_term.proofs.Numbered.{from_members, member_first}
use Rattle.npa_term.proofs.Rows.{applied_app, renamed_app, variables_at}

-- the renamed variables of a list, each with what the substitution has for the variable
abbrev pub lifted : ℕ → List (Variable × Term) → List Variable → List (Variable × Term)
lifted base s vs = map (λ v. (raised_var base v, image s v)) vs

raised_same : (base m n s t : ℕ) → (nat_eq (m + base) (n + base) && nat_eq s t) ≡ (nat_eq m n && nat_eq s t)
raised_same base m n s t = grind arith

raised_other : (base m n s t : ℕ) → n < base → (nat_eq (m + base) n && nat_eq s t) ≡ false
raised_other base m n s t small = grind arith

pub lifted_value : (base : ℕ) (s rest : List (Variable × Term)) (vs : List Variable) (v : Variable) → Contains vs v → value_of (lifted base s vs ++ rest) (raised_var base v) ≡ Some (image s v)
lifted_value base s rest [] v c = absurd (let none : ⊥ = omega (arith, c.1) in none)
lifted_value base s rest (w ∷ vs) v (zero, small, is) =
    subst (λ x. value_of (lifted base s (x ∷ vs) ++ rest) (raised_var base v) ≡ Some (image s v)) (sym is)
    (ap (λ b. cond b (Some (image s v)) (value_of (lifted base s vs ++ rest) (raised_var base v))) (var_itself (raised_var base v)))
lifted_value base s rest (w ∷ vs) v (suc i, small, is) =
    let tail = lifted_value base s rest vs v (i, omega (arith, small), is) in
    let test : same_var (raised_var base w) (raised_var base v) ≡ same_var w v = raised_same base w.num v.num w.sort v.sort in
    ap (λ b. cond b (Some (image s w)) (value_of (lifted base s vs ++ rest) (raised_var base v))) test
    ∙ (elim (same_var w v) as (λ b. same_var w v ≡ b → cond b (Some (image s w)) (value_of (lifted base s vs ++ rest) (raised_var base v)) ≡ Some (image s v)) [
      | true ↦ λ e. ap (λ x. Some (image s x)) (var_equal w v e)
      | false ↦ λ e. tail
    ] refl)

pub lifted_free : (base : ℕ) (s rest : List (Variable × Term)) (vs : List Variable) (v : Variable) → v.num < base → value_of (lifted base s vs ++ rest) v ≡ value_of rest v
lifted_free base s rest [] v small = refl
lifted_free base s rest (w ∷ vs) v small =
    ap (λ b. cond b (Some (image s w)) (value_of (lifted base s vs ++ rest) v)) (raised_other base w.num v.num w.sort v.sort small) ∙ lifted_free base s rest vs v small

lifted_members : (base : ℕ) (s u : List (Variable × Term)) (ts : List Term) → Each (λ t. applied u (renamed base t) ≡ applied s t) ts → map (applied u) (map (renamed base) ts) ≡ map (applied s) ts
lifted_members base s u [] each = refl
lifted_members base s u (t ∷ ts) each = ap (λ w. w ∷ map (applied u) (map (renamed base) ts)) each.0 ∙ ap (λ ws. applied s t ∷ ws) (lifted_members base s u ts each.1)

-- on a renamed term it does what the substitution does on the term
pub lifted_renamed : (base : ℕ) (s rest : List (Variable × Term)) (vs : List Variable) (t : Term) → ((v : Variable) → Contains (variables t) v → Contains vs v) →
    applied (lifted base s vs ++ rest) (renamed base t) ≡ applied s t
lifted_renamed base s rest vs =
    let u = lifted base s vs ++ rest in
    by_terms (λ t. ((v : Variable) → Contains (variables t) v → Contains vs v) → applied u (renamed base t) ≡ applied s t)
    (λ v within. ap (λ o. unwrap_or o (Var (raised_var base v))) (lifted_value base s rest vs v (within v (member_first v []))))
    (λ n within. refl)
    (λ op ts each within.
    let whole : variables (App op ts) ≡ flat_map variables ts = variables_at (App op ts) op ts refl in
    ap (applied u) (renamed_app base op ts) ∙ applied_app u op (map (renamed base) ts)
    ∙ ap (App op) (lifted_members base s u ts (from_members (λ t. applied u (renamed base t) ≡ applied s t) vs ts each (λ v c. within v (subst (λ ws. Contains ws v) (sym whole) c))))
    ∙ sym (applied_app s op ts))

-- on a term of lower numbers it does what the other does
pub lifted_below : (base : ℕ) (s rest : List (Variable × Term)) (vs : List Variable) (t : Term) → ((v : Variable) → Contains (variables t) v → v.num < base) →
    applied (lifted base s vs ++ rest) t ≡ applied rest t
lifted_below base s rest vs t small = applied_alike (lifted base s vs ++ rest) rest t (λ v c. lifted_free base s rest vs v (small v c))

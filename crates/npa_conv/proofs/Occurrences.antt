-- Occurrences of variables in the arguments of an operator, one argument after another.
use Rattle.std.proofs.Common.{◌≡◌, ℕ, ◌+◌, ◌<◌, suc, Bool, true, false, cond, List, [], ◌∷◌, ◌++◌, length, drop, get_or, drop-cons, add-one, refl, sym, ◌∙◌, ap, arith}
use Rattle.std.specs.Prelude.{max, ◌||◌, flat_map}
use Rattle.npa_term.specs.declared.term.Var.{Var as Variable}
use Rattle.npa_term.specs.declared.term.Term.{Term}
use Rattle.npa_term.specs.Bound.{same_var}
use Rattle.npa_term.specs.Variables.{variables}
use Rattle.npa_unify.specs.Branches.{has_var}
use Rattle.npa_conv.specs.Overlaps.{past}

has_var-append : (vs ws : List Variable) (v : Variable) → has_var (vs ++ ws) v ≡ (has_var vs v || has_var ws v)
has_var-append [] ws v = refl
has_var-append (w ∷ vs) ws v = elim (same_var w v) as (λ b. cond b true (has_var (vs ++ ws) v) ≡ (cond b true (has_var vs v) || has_var ws v)) [
  | true ↦ refl
  | false ↦ has_var-append vs ws v
]

-- in the first of the arguments that are left, or in the others
pub has_var_step : (ts : List Term) (i : ℕ) (d : Term) (v : Variable) → i < length ts →
    has_var (flat_map variables (drop i ts)) v ≡ (has_var (variables (get_or ts i d)) v || has_var (flat_map variables (drop (i + 1) ts)) v)
has_var_step ts i d v l = rw (drop-cons ts i d, add-one) (has_var-append (variables (get_or ts i d)) (flat_map variables (drop (suc i) ts)) v)

max_assoc : (a b c : ℕ) → max a (max b c) ≡ max (max a b) c
max_assoc a b c = omega arith

past-append : (vs ws : List Variable) → past (vs ++ ws) ≡ max (past vs) (past ws)
past-append [] ws = omega arith
past-append (v ∷ vs) ws = ap (max (v.num + 1)) (past-append vs ws) ∙ max_assoc (v.num + 1) (past vs) (past ws)

pub past_step : (ts : List Term) (i : ℕ) (d : Term) → i < length ts →
    past (flat_map variables (drop i ts)) ≡ max (past (variables (get_or ts i d))) (past (flat_map variables (drop (i + 1) ts)))
past_step ts i d l = rw (drop-cons ts i d, add-one) (past-append (variables (get_or ts i d)) (flat_map variables (drop (suc i) ts)))

-- a loop over the arguments takes one more
pub past_later : (ts : List Term) (i : ℕ) (t : Term) (k most n : ℕ) → i < length ts → t ≡ get_or ts i t → k ≡ past (variables t) →
    max most (past (flat_map variables (drop i ts))) ≡ n → max (max k most) (past (flat_map variables (drop (i + 1) ts))) ≡ n
past_later ts i t k most n small is here e =
    let step : past (flat_map variables (drop i ts)) ≡ max k (past (flat_map variables (drop (i + 1) ts))) =
    past_step ts i t small ∙ ap (λ x. max (past (variables x)) (past (flat_map variables (drop (i + 1) ts)))) (sym is)
    ∙ ap (λ m. max m (past (flat_map variables (drop (i + 1) ts)))) (sym here) in
    omega (arith, step, e)

pub occurs_here : (ts : List Term) (i : ℕ) (t : Term) (v : Variable) (b c : Bool) → i < length ts → t ≡ get_or ts i t → b ≡ has_var (variables t) v → b ≡ true →
    has_var (flat_map variables (drop i ts)) v ≡ c → true ≡ c
occurs_here ts i t v b c small is here here_so e =
    sym (ap (λ x. x || has_var (flat_map variables (drop (i + 1) ts)) v) (ap (λ x. has_var (variables x) v) (sym is) ∙ sym here ∙ here_so)) ∙ sym (has_var_step ts i t v small) ∙ e

pub occurs_later : (ts : List Term) (i : ℕ) (t : Term) (v : Variable) (b c : Bool) → i < length ts → t ≡ get_or ts i t → b ≡ has_var (variables t) v → b ≡ false →
    has_var (flat_map variables (drop i ts)) v ≡ c → has_var (flat_map variables (drop (i + 1) ts)) v ≡ c
occurs_later ts i t v b c small is here not_so e =
    sym (ap (λ x. x || has_var (flat_map variables (drop (i + 1) ts)) v) (ap (λ x. has_var (variables x) v) (sym is) ∙ sym here ∙ not_so)) ∙ sym (has_var_step ts i t v small) ∙ e

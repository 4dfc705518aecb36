-- Numbers past those of variables.
use Rattle.std.proofs.Common.{◌≡◌, ℕ, zero, suc, ◌+◌, ◌<◌, ◌≤◌, ◌^◌, List, [], ◌∷◌, ◌++◌, length, drop, get_or, drop-cons, add-one, sym, ◌∙◌, ap, arith}
use Rattle.std.specs.Prelude.{All, max, flat_map}
use Rattle.npa_term.specs.declared.term.Op.{Op}
use Rattle.npa_term.specs.declared.term.Var.{Var as Variable}
use Rattle.npa_term.specs.declared.term.Term.{Term, App}
use Rattle.npa_term.specs.Variables.{variables}
use Rattle.npa_term.proofs.Rows.{variables_at}
use Rattle.npa_variants.specs.Search.{past}

max_assoc : (a b c : ℕ) → max a (max b c) ≡ max (max a b) c
max_assoc a b c = omega arith

past-append : (vs ws : List Variable) → past (vs ++ ws) ≡ max (past vs) (past ws)
past-append [] ws = omega arith
past-append (v ∷ vs) ws = ap (max (suc v.num)) (past-append vs ws) ∙ max_assoc (suc v.num) (past vs) (past ws)

past_step : (ts : List Term) (i : ℕ) (d : Term) → i < length ts →
    past (flat_map variables (drop i ts)) ≡ max (past (variables (get_or ts i d))) (past (flat_map variables (drop (i + 1) ts)))
past_step ts i d l = rw (drop-cons ts i d, add-one) (past-append (variables (get_or ts i d)) (flat_map variables (drop (suc i) ts)))

-- a loop over terms takes one more
pub past_later : (ts : List Term) (i : ℕ) (t : Term) (k most n : ℕ) → i < length ts → t ≡ get_or ts i t → k ≡ past (variables t) →
    max most (past (flat_map variables (drop i ts))) ≡ n → max (max k most) (past (flat_map variables (drop (i + 1) ts))) ≡ n
past_later ts i t k most n small is here e =
    let step : past (flat_map variables (drop i ts)) ≡ max k (past (flat_map variables (drop (i + 1) ts))) =
    past_step ts i t small ∙ ap (λ x. max (past (variables x)) (past (flat_map variables (drop (i + 1) ts)))) (sym is)
    ∙ ap (λ m. max m (past (flat_map variables (drop (i + 1) ts)))) (sym here) in
    omega (arith, step, e)

pub past_at : (t : Term) (op : Op) (ts items : List Term) (n : ℕ) → t ≡ App op ts → items ≡ ts → n ≡ past (flat_map variables items) → n ≡ past (variables t)
past_at t op ts items n is same e = e ∙ ap (λ us. past (flat_map variables us)) same ∙ ap past (sym (variables_at t op ts is))

below_past : (vs : List Variable) (k : ℕ) (d : Variable) → k < length vs → (get_or vs k d).num < past vs
below_past [] k d small = absurd (let never : ⊥ = omega (arith, small) in never)
below_past (v ∷ vs) zero d small = omega arith
below_past (v ∷ vs) (suc k) d small = let rest = below_past vs k d (omega (arith, small)) in omega (arith, rest)

-- the variables leave room for a number that is added to theirs
pub fits : (vs : List Variable) (base : ℕ) → past vs ≤ 2 ^ 30 → base ≤ 2 ^ 30 → All (λ v. v.num + base < 2 ^ 32) vs
fits vs base few small = λ k d within. let below = below_past vs k d within in omega (arith, few, small, below)

-- How many events of an instance a schedule that goes on has executed.
use Rattle.std.proofs.Common.{◌≡◌, ℕ, ◌+◌, ◌==◌, List, [], ◌∷◌, ◌++◌, ap, ◌∙◌, cond, arith}
use Rattle.std.proofs.lemmas.Bool.{eq-eqb, ne_eqb}
use Rattle.std.proofs.lemmas.List.Sums.{fold_push}
use Rattle.npa_model.specs.Runs.{executions}

-- one more step counts for its instance
pub executions_push : (i k : ℕ) (xs : List ℕ) → executions i (xs ++ k ∷ []) ≡ executions i xs + cond (k == i) 1 0
executions_push i k xs = fold_push (λ a x. a + cond (x == i) 1 0) 0 xs k

pub executions_same : (i k : ℕ) (xs : List ℕ) → k ≡ i → executions i (xs ++ k ∷ []) ≡ executions i xs + 1
executions_same i k xs e = executions_push i k xs ∙ ap (λ b. executions i xs + cond b 1 0) (eq-eqb k i e)

-- and for no other
pub executions_other : (i k : ℕ) (xs : List ℕ) → (k ≡ i → ⊥) → executions i (xs ++ k ∷ []) ≡ executions i xs
executions_other i k xs n = executions_push i k xs ∙ ap (λ b. executions i xs + cond b 1 0) (ne_eqb k i n) ∙ omega arith

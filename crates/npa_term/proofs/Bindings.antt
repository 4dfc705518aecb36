-- Looking a variable up in a substitution.
use Rattle.std.proofs.Common.{◌≡◌, true, false, cond, Some, None, List, [], ◌∷◌, ◌++◌, refl, ◌∙◌, ap, arith}
use Rattle.std.proofs.lemmas.Grind.{common_steps}
use Rattle.npa_term.specs.declared.term.Var.{Var}
use Rattle.npa_term.specs.declared.term.Term.{Term}
use Rattle.npa_term.specs.Bound.{same_var, value_of, BindsOnce}

pub same_var-comm : (v w : Var) → same_var v w ≡ same_var w v
same_var-comm v w = grind (arith, common_steps)

-- a variable that isn't bound in the front is looked up behind it
pub value_of-append : (s : List (Var × Term)) (u : List (Var × Term)) (v : Var) → value_of s v ≡ None → value_of (s ++ u) v ≡ value_of u v
value_of-append [] u v free = refl
value_of-append (b ∷ s) u v free = grind (arith, value_of-append s u v)

-- what it says of the first binding that a variable isn't bound
pub not_bound : (b : Var × Term) (s : List (Var × Term)) (v : Var) → value_of (b ∷ s) v ≡ None → (same_var b.0 v ≡ false) × (value_of s v ≡ None)
not_bound b s v free =
    elim (same_var b.0 v) as (λ c. cond c (Some b.1) (value_of s v) ≡ None → (c ≡ false) × (value_of s v ≡ None))
    [ true ↦ λ e. cc | false ↦ λ e. (refl, e) ] free

-- a new binding behind the others leaves the others alone
pub binds_once-more : (s : List (Var × Term)) (v : Var) (t : Term) → BindsOnce s → value_of s v ≡ None → BindsOnce (s ++ (v, t) ∷ [])
binds_once-more [] v t once free = (refl, tt)
binds_once-more (b ∷ s) v t once free =
    let other : same_var v b.0 ≡ false = same_var-comm v b.0 ∙ (not_bound b s v free).0 in
    let first : value_of (s ++ (v, t) ∷ []) b.0 ≡ None = value_of-append s ((v, t) ∷ []) b.0 once.0 ∙ ap (λ c. cond c (Some t) None) other in
    (first, binds_once-more s v t once.1 (not_bound b s v free).1)

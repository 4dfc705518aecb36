-- What a branch has bound.
use Rattle.std.proofs.Common.{◌≡◌, ℕ, zero, suc, ◌<◌, length, get_or, take, false, cond, Some, None, List, ◌∷◌, refl, ◌∙◌, ap, arith, []}
use Rattle.std.specs.Borrow.{Bor}
use Rattle.npa_term.specs.declared.term.Var.{Var as Variable}
use Rattle.npa_term.specs.declared.term.Term.{Term}
use Rattle.npa_term.specs.Bound.{same_var, value_of, BindsOnce}
use Rattle.npa_term.proofs.Bindings.{not_bound, same_var-comm}
use Rattle.npa_match.specs.Matching.{bound_pairs}

free_at : (bs : List (Variable × Bor Term)) (v : Variable) (i : ℕ) (d : Variable × Bor Term) → value_of (bound_pairs bs) v ≡ None → i < length bs →
    same_var (get_or bs i d).0 v ≡ false
free_at [] v i d free small = absurd (let no : ⊥ = omega (arith, small) in no)
free_at (b ∷ bs) v zero d free small = (not_bound (b.0, b.1.now) (bound_pairs bs) v free).0
free_at (b ∷ bs) v (suc i) d free small = free_at bs v i d (not_bound (b.0, b.1.now) (bound_pairs bs) v free).1 (omega (arith, small))

-- none of the bindings in front of one is for its variable
pub unbound_before : (bs : List (Variable × Bor Term)) (i : ℕ) (d : Variable × Bor Term) → BindsOnce (bound_pairs bs) → i < length bs →
    value_of (bound_pairs (take i bs)) (get_or bs i d).0 ≡ None
unbound_before [] i d once small = absurd (let no : ⊥ = omega (arith, small) in no)
unbound_before (b ∷ bs) zero d once small = refl
unbound_before (b ∷ bs) (suc i) d once small =
    let v : Variable = (get_or bs i d).0 in
    let other : same_var b.0 v ≡ false = same_var-comm b.0 v ∙ free_at bs b.0 i d once.0 (omega (arith, small)) in
    ap (λ c. cond c (Some b.1.now) (value_of (bound_pairs (take i bs)) v)) other ∙ unbound_before bs i d once.1 (omega (arith, small))

pub unbound_next : (bs : List (Variable × Bor Term)) (i : ℕ) (b : Variable × Bor Term) (s : List (Variable × Term)) → BindsOnce (bound_pairs bs) → i < length bs →
    b ≡ get_or bs i b → s ≡ bound_pairs (take i bs) → value_of s b.0 ≡ None
unbound_next bs i b s once small is e =
    ap (λ r. value_of r b.0) e ∙ ap (λ x. value_of (bound_pairs (take i bs)) x.0) is ∙ unbound_before bs i b once small

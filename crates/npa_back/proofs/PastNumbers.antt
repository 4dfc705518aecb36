-- Numbers past those of variables, list after list.
use Rattle.std.proofs.Common.{◌≡◌, ℕ, suc, ◌+◌, ◌<◌, ◌≤◌, ◌^◌, All, List, [], ◌∷◌, ◌++◌, length, drop, get_or, drop-cons, Contains, true, nat_lt, subst, sym, ◌∙◌, ap, arith}
use Rattle.std.specs.Prelude.{max, flat_map}
use Rattle.std.proofs.lemmas.List.{drop_all}
use Rattle.std.proofs.lemmas.List.Elements.{Contains-get_or}
use Rattle.npa_term.specs.declared.term.Term.{Term}
use Rattle.npa_term.specs.declared.term.Var.{Var as Variable}
use Rattle.npa_term.specs.Variables.{variables}
use Rattle.npa_unify.proofs.Members.{all_from, member_flat_map}
use Rattle.npa_variants.specs.Search.{past}
use Rattle.npa_variants.proofs.Unifying.{past_above}
use Rattle.npa_model.specs.declared.pattern.Pattern.{Pattern}
use Rattle.npa_model.specs.Fitting.{strand_variables}
use Rattle.npa_moves.specs.Moves.{past_pattern}

max_assoc : (a b c : ℕ) → max a (max b c) ≡ max (max a b) c
max_assoc a b c = omega arith

pub past_both : (vs ws : List Variable) → past (vs ++ ws) ≡ max (past vs) (past ws)
past_both [] ws = omega arith
past_both (v ∷ vs) ws = ap (max (suc v.num)) (past_both vs ws) ∙ max_assoc (suc v.num) (past vs) (past ws)

-- a loop takes one more
pub past_later : {A : Type 0} (f : A → List Variable) (xs : List A) (i : ℕ) (x : A) (k most n : ℕ) → i < length xs → x ≡ get_or xs i x → k ≡ past (f x) →
    max most (past (flat_map f (drop i xs))) ≡ n → max (max k most) (past (flat_map f (drop (i + 1) xs))) ≡ n
past_later f xs i x k most n small is here e =
    let rest = past (flat_map f (drop (i + 1) xs)) in
    let next : drop i xs ≡ x ∷ drop (i + 1) xs =
    drop-cons xs i x small ∙ ap (λ y. y ∷ drop (suc i) xs) (sym is) ∙ ap (λ m. x ∷ drop m xs) (let m : suc i ≡ i + 1 = omega arith in m) in
    let step : past (flat_map f (drop i xs)) ≡ max k rest =
    ap (λ ys. past (flat_map f ys)) next ∙ past_both (f x) (flat_map f (drop (i + 1) xs)) ∙ ap (λ m. max m rest) (sym here) in
    omega (arith, step, e)

-- numbers leave room for one that is added
pub fits : (t : Term) (ts : List Term) (base : ℕ) → Contains ts t → past (flat_map variables ts) ≤ 2 ^ 30 → base ≤ 2 ^ 30 → All (λ v. v.num + base < 2 ^ 32) (variables t)
fits t ts base among few small = all_from (λ v. v.num + base < 2 ^ 32) (variables t) (λ v c.
    let below = past_above (flat_map variables ts) v (member_flat_map variables ts t v among c) in omega (arith, few, small, below))

pub past_ends : {A : Type 0} (f : A → List Variable) (xs : List A) (i most n : ℕ) → length xs ≤ i → max most (past (flat_map f (drop i xs))) ≡ n → most ≡ n
past_ends f xs i most n beyond e =
    let none : past (flat_map f (drop i xs)) ≡ 0 = ap (λ ys. past (flat_map f ys)) (drop_all i xs beyond) in
    omega (arith, none, e)

-- the strands of a pattern and its facts
pub past_three : (g : Pattern) (all two strands known unknown : ℕ) → all ≡ max two unknown → two ≡ max strands known → strands ≡ past (flat_map strand_variables g.strands) →
    known ≡ past (flat_map variables g.known) → unknown ≡ past (flat_map variables g.unknown) → all ≡ past_pattern g
past_three g all two strands known unknown is first a b c =
    let whole = past_both (flat_map strand_variables g.strands) (flat_map variables g.known ++ flat_map variables g.unknown) in
    let facts = past_both (flat_map variables g.known) (flat_map variables g.unknown) in
    omega (arith, is, first, a, b, c, whole, facts)

-- a member that was looked up
pub there_is : (ts : List Term) (i : ℕ) (t : Term) → true ≡ nat_lt i (length ts) → t ≡ get_or ts i t → Contains ts t
there_is ts i t within is = subst (Contains ts) (sym is) (Contains-get_or ts i t (grind (arith, within)))

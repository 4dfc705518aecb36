-- The numbers of the variables in a line, one variable after the other.
use Rattle.std.proofs.Common.{◌≡◌, ℕ, zero, suc, ◌+◌, ◌<◌, ◌≤◌, false, cond, Some, None, List, [], ◌∷◌, ◌++◌, refl, sym, ap, ◌∙◌, subst, get_or, length, take, arith}
use Rattle.std.proofs.lemmas.List.{take_all, take_more}
use Rattle.npa_term.specs.declared.term.Var.{Var as Variable}
use Rattle.npa_term.specs.declared.term.Term.{Term, Var}
use Rattle.npa_term.specs.Bound.{same_var, value_of, BindsOnce}
use Rattle.npa_term.specs.Numbering.{anew, numbered}
use Rattle.npa_term.proofs.Bindings.{same_var-comm, not_bound}
use Rattle.npa_term.proofs.Numbered.{numbered-append}

numbered_length : (k : ℕ) (vs : List Variable) → length (numbered k vs) ≡ length vs
numbered_length k [] = refl
numbered_length k (v ∷ vs) = ap suc (numbered_length (k + 1) vs)

-- the variable of a place
numbered_at : (k : ℕ) (vs : List Variable) (i : ℕ) (b : Variable × Term) (v : Variable) → i < length vs → (get_or (numbered k vs) i b).0 ≡ get_or vs i v
numbered_at k [] i b v small = absurd (let none : ⊥ = omega (arith, small) in none)
numbered_at k (w ∷ vs) zero b v small = refl
numbered_at k (w ∷ vs) (suc i) b v small = numbered_at (k + 1) vs i b v (omega (arith, small))

-- a variable that isn't bound differs from each of the list
differs : (k : ℕ) (vs : List Variable) (i : ℕ) (v w : Variable) → i < length vs → value_of (numbered k vs) w ≡ None → same_var (get_or vs i v) w ≡ false
differs k [] i v w small free = absurd (let none : ⊥ = omega (arith, small) in none)
differs k (x ∷ vs) zero v w small free = (not_bound (x, Var (anew k x)) (numbered (k + 1) vs) w free).0
differs k (x ∷ vs) (suc i) v w small free = differs (k + 1) vs i v w (omega (arith, small)) (not_bound (x, Var (anew k x)) (numbered (k + 1) vs) w free).1

-- the variable of a place isn't bound in front of it
free_at : (j k : ℕ) (vs : List Variable) (i : ℕ) (v : Variable) → BindsOnce (numbered j vs) → i < length vs → value_of (numbered k (take i vs)) (get_or vs i v) ≡ None
free_at j k [] i v once small = absurd (let none : ⊥ = omega (arith, small) in none)
free_at j k (w ∷ vs) zero v once small = refl
free_at j k (w ∷ vs) (suc i) v once small =
    let other : same_var w (get_or vs i v) ≡ false = same_var-comm w (get_or vs i v) ∙ differs (j + 1) vs i v w (omega (arith, small)) once.0 in
    let behind : value_of (numbered (k + 1) (take i vs)) (get_or vs i v) ≡ None = free_at (j + 1) (k + 1) vs i v once.1 (omega (arith, small)) in
    ap (λ b. cond b (Some (Var (anew k w))) (value_of (numbered (k + 1) (take i vs)) (get_or vs i v))) other ∙ behind

take_length : (vs : List Variable) (i : ℕ) → i < length vs → length (take i vs) ≡ i
take_length [] i small = absurd (let none : ⊥ = omega (arith, small) in none)
take_length (v ∷ vs) zero small = refl
take_length (v ∷ vs) (suc i) small = ap suc (take_length vs i (omega (arith, small)))

module _ (vs : List Variable) (bindings : List (Variable × Term)) (all : bindings ≡ numbered 0 vs) where
  pub none_left : (i : ℕ) → (i < length bindings → ⊥) → numbered 1 (take i vs) ≡ numbered 1 vs
  none_left i end =
      let long : length bindings ≡ length vs = ap length all ∙ numbered_length 0 vs in
      ap (numbered 1) (take_all i vs (past i (length vs) (λ l. end (subst (λ n. i < n) (sym long) l))))
    where
      past : (m n : ℕ) → (m < n → ⊥) → n ≤ m
      past m n isnt = grind (arith, isnt)

  module _ (i : ℕ) (b : Variable × Term) (small : i < length bindings) (at : b ≡ get_or bindings i b) where
    within : i < length vs
    within = subst (λ n. i < n) (ap length all ∙ numbered_length 0 vs) small

    var_at : b.0 ≡ get_or vs i b.0
    var_at = ap (λ (p : Variable × Term). p.0) at ∙ ap (λ bs. (get_or bs i b).0) all ∙ numbered_at 0 vs i b b.0 within

    -- its variable isn't bound in front of it
    pub free : BindsOnce bindings → value_of (numbered 1 (take i vs)) b.0 ≡ None
    free once = subst (λ v. value_of (numbered 1 (take i vs)) v ≡ None) (sym var_at) (free_at 0 1 vs i b.0 (subst BindsOnce all once) within)

    -- it is the next one
    pub next : numbered 1 (take i vs) ++ (b.0, Var (anew (i + 1) b.0)) ∷ [] ≡ numbered 1 (take (i + 1) vs)
    next =
        let more : take (i + 1) vs ≡ take i vs ++ b.0 ∷ [] = take_more vs i b.0 within ∙ ap (λ v. take i vs ++ v ∷ []) (sym var_at) in
        let count : i + 1 ≡ 1 + length (take i vs) = let e : length (take i vs) ≡ i = take_length vs i within in omega (arith, e) in
        sym (ap (numbered 1) more ∙ numbered-append 1 (take i vs) b.0 ∙ ap (λ n. numbered 1 (take i vs) ++ (b.0, Var (anew n b.0)) ∷ []) (sym count))

-- How far the numbers of new variables reach.
use Rattle.std.proofs.Common.{◌≡◌, ℕ, zero, suc, ◌+◌, ◌<◌, ◌≤◌, true, false, cond, nat_eq, List, [], ◌∷◌, length, refl, sym, ◌∙◌, ap, subst, inl, inr, arith}
use Rattle.std.specs.Prelude.{Contains, ◌⊎◌}
use Rattle.std.proofs.lemmas.Bool.{cases_eq, eqb-true, eq-eqb, true≢false}
use Rattle.npa_sorts.specs.Subsorts.{Subsorts}
use Rattle.npa_term.specs.declared.term.Var.{Var as Variable}
use Rattle.npa_term.specs.declared.term.Term.{Term}
use Rattle.npa_unify.specs.Answers.{started}
use Rattle.npa_unify.specs.Branches.{Branch, moved, pair_variables, visited}
use Rattle.npa_unify.specs.Searches.{Move, splits, binds, nexts}
use Rattle.npa_unify.specs.Unifiers.{AreLow, HaveOneSort}
use Rattle.npa_unify.proofs.Members.{here, later, nowhere, member_cases, each_member}
use Rattle.npa_unify.proofs.Solutions.{visited_cases}
use Rattle.npa_unify.proofs.Steps.{Covers, IsSplit, IsBind, Stepped, steps, by_branches}

step_cases : (b c : Branch) (mv : Move Branch) → Stepped b mv → Contains (nexts mv) c → IsSplit b c ⊎ IsBind b c
step_cases b c (splits bs) stepped member = inl (each_member (IsSplit b) bs c stepped member)
step_cases b c (binds bs) stepped member = inr (each_member (IsBind b) bs c stepped member)

-- a branch takes no more numbers than the variables that it can still bind
pub numbers_taken : (o : Subsorts) (b c : Branch) (l : List Variable) (n : ℕ) → Covers l b.pairs → length l + b.next ≤ n → Contains (visited o b) c → c.next ≤ n
numbers_taken o b c l n covers most member =
    by_branches o (λ d. (l : List Variable) (n : ℕ) → Covers l d.pairs → length l + d.next ≤ n → Contains (visited o d) c → c.next ≤ n)
    (λ d on l n covers most member. elim (visited_cases o d c member) [
      | inl e ↦ let same : d.next ≡ c.next = ap (λ (x : Branch). x.next) e in omega (arith, most, same)
      | inr more ↦ elim (step_cases d more.0 (moved o d) (steps o d) more.1) [
        | inl split ↦
            let even : more.0.next ≡ d.next = split.next in
            on more.0 more.1 l n (λ v x. covers v (split.within v x)) (omega (arith, most, even)) more.2
        | inr bind ↦
            let new = bind.fewer l covers in
            let less : length new.0 + more.0.next ≤ length l + d.next = new.3 in
            on more.0 more.1 new.0 n new.1 (omega (arith, most, less)) more.2
      ]
    ]) b l n covers most member

-- a list that covers pairs, one variable for each number below the next one

abbrev found : List Variable → ℕ → Variable
found [] n = record { num = n; sort = 0 }
found (w ∷ ws) n = cond (nat_eq w.num n) w (found ws n)

found_has : (vs : List Variable) (v : Variable) → Contains vs v → Contains vs (found vs v.num) × ((found vs v.num).num ≡ v.num)
found_has [] v c = absurd (nowhere v c)
found_has (w ∷ ws) v c =
    elim (nat_eq w.num v.num) as (λ b. nat_eq w.num v.num ≡ b → Contains (w ∷ ws) (cond b w (found ws v.num)) × ((cond b w (found ws v.num)).num ≡ v.num)) [
      | true ↦ λ e. (here w ws, eqb-true w.num v.num e)
      | false ↦ λ e. elim (member_cases w v ws c) [
        | inl is ↦ absurd (true≢false (sym (eq-eqb w.num v.num (ap (λ (x : Variable). x.num) is)) ∙ e))
        | inr d ↦ let rest = found_has ws v d in (later w (found ws v.num) ws rest.0, rest.1)
      ]
    ] refl

abbrev listed : List Variable → ℕ → List Variable
listed vs zero = []
listed vs (suc n) = found vs n ∷ listed vs n

listed_length : (vs : List Variable) (n : ℕ) → length (listed vs n) ≡ n
listed_length vs zero = refl
listed_length vs (suc n) = let rest : length (listed vs n) ≡ n = listed_length vs n in omega (arith, rest)

listed_has : (vs : List Variable) (n k : ℕ) → k < n → Contains (listed vs n) (found vs k)
listed_has vs zero k small = absurd (let no : ⊥ = omega (arith, small) in no)
listed_has vs (suc n) k small =
    elim (cases_eq k n) [
      | inl e ↦ subst (λ i. Contains (listed vs (suc n)) (found vs i)) (sym e) (here (found vs n) (listed vs n))
      | inr other ↦ later (found vs n) (found vs k) (listed vs n) (listed_has vs n k (omega (arith, small, other)))
    ]

covered : (ps : List (Term × Term)) (next : ℕ) → AreLow ps next → HaveOneSort ps → Covers (listed (pair_variables ps) next) ps
covered ps next low one v c =
    let first = found_has (pair_variables ps) v c in
    subst (Contains (listed (pair_variables ps) next)) (one (found (pair_variables ps) v.num) v first.0 c first.1)
    (listed_has (pair_variables ps) next v.num (low v c))

-- so the numbers stay below twice the first one
pub numbers_below : (o : Subsorts) (ps : List (Term × Term)) (next : ℕ) (c : Branch) → AreLow ps next → HaveOneSort ps → Contains (visited o (started ps next)) c → c.next ≤ next + next
numbers_below o ps next c low one member =
    let long : length (listed (pair_variables ps) next) ≡ next = listed_length (pair_variables ps) next in
    numbers_taken o (started ps next) c (listed (pair_variables ps) next) (next + next) (covered ps next low one) (omega (arith, long)) member

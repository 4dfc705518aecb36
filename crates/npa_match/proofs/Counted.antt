-- There are no more matchers than ends.
use Rattle.std.proofs.Common.{ℕ, zero, suc, ◌≤◌, ◌+◌, length, List, ◌∷◌, inl, inr, arith, []}
use Rattle.std.specs.Prelude.{◌⊎◌, ⊤, All}
use Rattle.npa_sorts.specs.Subsorts.{Subsorts}
use Rattle.npa_term.specs.declared.term.Var.{Var as Variable}
use Rattle.npa_term.specs.declared.term.Term.{Term}
use Rattle.npa_term.specs.Parts.{image}
use Rattle.npa_term.specs.Same.{through}
use Rattle.npa_term.proofs.SameLaws.{same_sym}
use Rattle.npa_match.specs.Branches.{branches}
use Rattle.npa_match.specs.Matching.{first_variables, IsMatcher, AgreeOn, AreDifferent, HasMore}
use Rattle.npa_match.proofs.Exactness.{Follows, Some_of, Each}
use Rattle.npa_match.proofs.Answered.{each_branch, matching_branch, followed}

agree_both : (vs : List Variable) (s u r : List (Variable × Term)) → AgreeOn vs s r → AgreeOn vs u r → AgreeOn vs s u
agree_both vs s u r a b v i = through (image s v) (image r v) (image u v) (a v i) (same_sym (b v i))

-- one list of the substitutions that differ, each of which agrees with one of a list
abbrev Covered : List Variable → List (List (Variable × Term)) → List (List (Variable × Term)) → Type 0
Covered vs rs [] = ⊤
Covered vs rs (q ∷ qs) = Some_of (AgreeOn vs q) rs × Each (λ p. AgreeOn vs q p → ⊥) qs × Covered vs rs qs

none_covered : (vs : List Variable) (qs : List (List (Variable × Term))) → Covered vs [] qs → length qs ≤ 0
none_covered vs [] covered = omega arith
none_covered vs (q ∷ qs) covered = absurd covered.0

-- where one agrees with the first of the list, the others agree with later ones
others_later : (vs : List Variable) (q r : List (Variable × Term)) (rs qs : List (List (Variable × Term))) → AgreeOn vs q r → Each (λ p. AgreeOn vs q p → ⊥) qs → Covered vs (r ∷ rs) qs → Covered vs rs qs
others_later vs q r rs [] a apart covered = tt
others_later vs q r rs (p ∷ qs) a apart covered =
    (elim covered.0 [ inl b ↦ absurd (apart.0 (agree_both vs q p r a b)) | inr c ↦ c ], covered.1, others_later vs q r rs qs a apart.1 covered.2)

abbrev choose : {A B X : Type 0} → A ⊎ B → X → X → X
choose (inl a) x y = x
choose (inr b) x y = y

-- those that agree with later ones than the first
later : (vs : List Variable) (r : List (Variable × Term)) (rs qs : List (List (Variable × Term))) → Covered vs (r ∷ rs) qs → List (List (Variable × Term))
later vs r rs [] covered = []
later vs r rs (q ∷ qs) covered = choose covered.0 qs (q ∷ later vs r rs qs covered.2)

later_each : (P : List (Variable × Term) → Type 0) (vs : List Variable) (r : List (Variable × Term)) (rs qs : List (List (Variable × Term))) (covered : Covered vs (r ∷ rs) qs) →
    Each P qs → Each P (later vs r rs qs covered)
unfolding later
later_each P vs r rs [] covered each = tt
later_each P vs r rs (q ∷ qs) covered each =
    elim covered.0 as (λ c. Each P (choose c qs (q ∷ later vs r rs qs covered.2)))
    [ inl a ↦ each.1 | inr d ↦ (each.0, later_each P vs r rs qs covered.2 each.1) ]

later_covered : (vs : List Variable) (r : List (Variable × Term)) (rs qs : List (List (Variable × Term))) (covered : Covered vs (r ∷ rs) qs) → Covered vs rs (later vs r rs qs covered)
unfolding later
later_covered vs r rs [] covered = tt
later_covered vs r rs (q ∷ qs) covered =
    elim covered.0 as (λ c. Covered vs rs (choose c qs (q ∷ later vs r rs qs covered.2))) [
      | inl a ↦ others_later vs q r rs qs a covered.1 covered.2
      | inr d ↦ (d, later_each (λ p. AgreeOn vs q p → ⊥) vs r rs qs covered.2 covered.1, later_covered vs r rs qs covered.2)
    ]

later_length : (vs : List Variable) (r : List (Variable × Term)) (rs qs : List (List (Variable × Term))) (covered : Covered vs (r ∷ rs) qs) → length qs ≤ length (later vs r rs qs covered) + 1
unfolding later
later_length vs r rs [] covered = omega arith
later_length vs r rs (q ∷ qs) covered =
    elim covered.0 as (λ c. length (q ∷ qs) ≤ length (choose c qs (q ∷ later vs r rs qs covered.2)) + 1)
    [ inl a ↦ omega arith | inr d ↦ let rest : length qs ≤ length (later vs r rs qs covered.2) + 1 = later_length vs r rs qs covered.2 in omega (arith, rest) ]

-- so they are no more
no_longer : (vs : List Variable) (rs qs : List (List (Variable × Term))) → Covered vs rs qs → length qs ≤ length rs
no_longer vs [] qs covered = none_covered vs qs covered
no_longer vs (r ∷ rs) qs covered =
    let rest : length (later vs r rs qs covered) ≤ length rs = no_longer vs rs (later vs r rs qs covered) (later_covered vs r rs qs covered) in
    omega (arith, rest, later_length vs r rs qs covered)

-- each matcher agrees with an end
agreed : (vs : List Variable) (u : List (Variable × Term)) (P : List (Variable × Term) → Type 0) → ((r : List (Variable × Term)) → P r → Follows u r → AgreeOn vs u r) →
    (rs : List (List (Variable × Term))) → Each P rs → Some_of (Follows u) rs → Some_of (AgreeOn vs u) rs
agreed vs u P agrees [] each none = none
agreed vs u P agrees (r ∷ rs) each (inl f) = inl (agrees r each.0 f)
agreed vs u P agrees (r ∷ rs) each (inr f) = inr (agreed vs u P agrees rs each.1 f)

each_from_all : {X : Type 0} (P : X → Type 0) (xs : List X) → All P xs → Each P xs
each_from_all P [] all = tt
each_from_all P (x ∷ xs) all = (all zero x (omega arith), each_from_all P xs (λ k d small. all (suc k) d (omega (arith, small))))

matchers_covered : (o : Subsorts) (ps : List (Term × Term)) (qs : List (List (Variable × Term))) → All (IsMatcher o ps) qs → AreDifferent (first_variables ps) qs →
    Covered (first_variables ps) (branches o ps) qs
matchers_covered o ps [] matchers different = tt
matchers_covered o ps (q ∷ qs) matchers different =
    let vs : List Variable = first_variables ps in
    let own : IsMatcher o ps q = matchers zero q (omega arith) in (
      agreed vs q (IsMatcher o ps) (λ r e f. followed vs q r e.binds f) (branches o ps) (each_branch o ps) (matching_branch o ps q own.matches),
      each_from_all (λ p. AgreeOn vs q p → ⊥) qs (λ k d small. different zero (suc k) d (omega arith) (omega (arith, small))),
      matchers_covered o ps qs (λ k d small. matchers (suc k) d (omega (arith, small)))
          (λ i j d less small. different (suc i) (suc j) d (omega (arith, less)) (omega (arith, small))),
    )

pub no_more : (o : Subsorts) (ps : List (Term × Term)) (n : ℕ) → length (branches o ps) ≤ n → HasMore n o ps → ⊥
no_more o ps n few more =
    let most : length more.0 ≤ length (branches o ps) = no_longer (first_variables ps) (branches o ps) more.0 (matchers_covered o ps more.0 more.2 more.3) in
    omega (arith, few, most, more.1)

use Rattle.std.specs.Prelude.{◌≡◌, ◌↔◌, ℕ, Bool, true, Some, Contains, List, [], ◌∷◌, flat_map}
use Rattle.npa_sorts.specs.Subsorts.{Subsorts, AreSorts, IsBelow}
use Rattle.npa_term.specs.declared.term.Var.{Var as Variable}
use Rattle.npa_term.specs.declared.term.Term.{Term}
use Rattle.npa_term.specs.Bound.{value_of}
use Rattle.npa_unify.specs.Answers.{distinct, unifiers}
use Rattle.npa_unify.specs.Branches.{Branch, moved, visited}
use Rattle.npa_unify.specs.Searches.{nexts}
use Rattle.npa_unify.specs.Unifiers.{IsUnifier, IsAnswer, IsComplete, AreLow, HaveOneSort, Keeps}

-- What the laws of unification say.

-- What a branch visits is itself, and then what the branches visit that it becomes.
abbrev pub Unfolds : Type 0
Unfolds = (o : Subsorts) (b : Branch) →
    visited o b ≡ b ∷ flat_map (visited o) (nexts (moved o b))

-- Each unifier of the list is an answer.
abbrev pub AreAnswers : Type 0
AreAnswers = (o : Subsorts) (ps : List (Term × Term)) (next : ℕ) (s : List (Variable × Term)) →
    AreLow ps next → HaveOneSort ps → Contains (unifiers o ps next) s → IsAnswer o ps next s

-- The list is complete, and so are those that differ.
abbrev pub AreComplete : Type 0
AreComplete = (o : Subsorts) (ps : List (Term × Term)) (next : ℕ) → AreSorts o →
    ((r : ℕ) → IsBelow o r r → ⊥) → AreLow ps next →
    IsComplete o ps next (unifiers o ps next) × IsComplete o ps next (distinct (unifiers o ps next))

-- The list is empty exactly where there is no unifier.
abbrev pub NoneIsNone : Type 0
NoneIsNone = (o : Subsorts) (ps : List (Term × Term)) (next : ℕ) → AreSorts o →
    ((r : ℕ) → IsBelow o r r → ⊥) → AreLow ps next →
    (unifiers o ps next ≡ []) ↔ ((s : List (Variable × Term)) → IsUnifier o ps s → ⊥)

-- A test that instances keep holds of the values of each unifier where it holds of all members of
-- the pairs.
abbrev pub AreKept : Type 0
AreKept = (o : Subsorts) (p : Term → Bool) → Keeps o (λ t. p t ≡ true) →
    (ps : List (Term × Term)) (next : ℕ) → AreLow ps next →
    ((t u : Term) → Contains ps (t, u) → (p t ≡ true) × (p u ≡ true)) →
    (s : List (Variable × Term)) (v : Variable) (t : Term) → Contains (unifiers o ps next) s →
    value_of s v ≡ Some t → p t ≡ true

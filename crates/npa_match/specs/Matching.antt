use Rattle.std.specs.Prelude.{◌≡◌, ℕ, ◌<◌, Some, IsSome, Contains, All, AllPairs, List, ◌∷◌, ◌++◌, length, map, []}
use Rattle.std.specs.Borrow.{Bor}
use Rattle.npa_sorts.specs.Subsorts.{Subsorts, IsAtOrBelow}
use Rattle.npa_term.specs.declared.term.Var.{Var as Variable}
use Rattle.npa_term.specs.declared.term.Term.{Term}
use Rattle.npa_term.specs.Bound.{value_of, applied, BindsOnce}
use Rattle.npa_term.specs.Parts.{IsPart, image, least_sort}
use Rattle.npa_term.specs.Same.{Same}
use Rattle.npa_term.specs.Variables.{variables}

-- The variables of the first members of pairs, one for each occurrence.
abbrev pub first_variables : List (Term × Term) → List Variable
first_variables [] = []
first_variables (p ∷ ps) = variables p.0 ++ first_variables ps

-- A substitution that matches the first members onto the second (Baader, Nipkow 1998, on matching
-- and on equational theories): the term that it has for a variable of theirs is of a sort at or
-- below the variable's, and it sends each first member to a term that equals the second modulo
-- commutativity. The variables of the second members stand for themselves.
pub record Matches (o : Subsorts) (pairs : List (Term × Term)) (s : List (Variable × Term)) :
    Type 0 where
  pub sorts : (v : Variable) → Contains (first_variables pairs) v →
      IsAtOrBelow o (least_sort (image s v)) v.sort
  pub equal : (t u : Term) → Contains pairs (t, u) → Same (applied s t) u

-- A part of a second member.
abbrev pub IsSecondPart : List (Term × Term) → Term → Type 0
IsSecondPart pairs t = (first second : Term) × Contains pairs (first, second) × IsPart t second

-- A property of all second members.
abbrev pub AllSecond : (Term → Type 0) → List (Term × Term) → Type 0
AllSecond P pairs = (t u : Term) → Contains pairs (t, u) → P u

-- A matcher: it matches, and binds the variables of the first members and no others, each once and
-- to a part of a second member.
pub record IsMatcher (o : Subsorts) (pairs : List (Term × Term)) (s : List (Variable × Term)) :
    Type 0 where
  pub matches : Matches o pairs s
  pub once : BindsOnce s
  pub binds : (v : Variable) → Contains (first_variables pairs) v → IsSome (value_of s v)
  pub only : (v : Variable) (t : Term) → value_of s v ≡ Some t →
      Contains (first_variables pairs) v
  pub parts : (v : Variable) (t : Term) → value_of s v ≡ Some t → IsSecondPart pairs t

-- Two substitutions that have equal terms, modulo commutativity, for each of these variables.
abbrev pub AgreeOn : List Variable → List (Variable × Term) → List (Variable × Term) → Type 0
AgreeOn vs s u = (v : Variable) → Contains vs v → Same (image s v) (image u v)

-- Of these substitutions no two agree on the variables.
abbrev pub AreDifferent : List Variable → List (List (Variable × Term)) → Type 0
AreDifferent vs ss = AllPairs (λ s u. ¬ AgreeOn vs s u) ss

-- There are more matchers than a number, no two of which agree.
abbrev pub HasMore : ℕ → Subsorts → List (Term × Term) → Type 0
HasMore most o pairs =
    (ss : List (List (Variable × Term))) × (most < length ss) × All (IsMatcher o pairs) ss
    × AreDifferent (first_variables pairs) ss

-- Some substitution matches the pairs.
pub record HasMatch (o : Subsorts) (pairs : List (Term × Term)) : Type 0 where
  pub by_ : List (Variable × Term)
  pub matches : Matches o pairs by_

-- There is a matcher of the pairs.
pub record HasMatcher (o : Subsorts) (pairs : List (Term × Term)) : Type 0 where
  pub by_ : List (Variable × Term)
  pub is : IsMatcher o pairs by_

-- The pairs of terms that pairs of references stand for.
abbrev pub read_pairs : List (Bor Term × Bor Term) → List (Term × Term)
read_pairs ps = map (λ p. (p.0.now, p.1.now)) ps

-- The substitution that bindings of references stand for.
abbrev pub bound_pairs : List (Variable × Bor Term) → List (Variable × Term)
bound_pairs bs = map (λ b. (b.0, b.1.now)) bs

-- The second list is the first without its first member.
abbrev pub IsFollowed : List (List (Variable × Term)) → List (List (Variable × Term)) → Type 0
IsFollowed all left = (first : List (Variable × Term)) × (all ≡ first ∷ left)

-- The second list is the end of the first.
abbrev pub AreLast : List (List (Variable × Term)) → List (List (Variable × Term)) → Type 0
AreLast all left = (front : List (List (Variable × Term))) × (all ≡ front ++ left)

-- What is supposed of the answers of unification, and of the variants of strands.
use Rattle.std.specs.Prelude.{◌≡◌, ℕ, List, Some, Ok, Err, Contains, slice_get}
use Rattle.std.specs.List.{flat_map}
use Rattle.npa_sorts.specs.Subsorts.{Subsorts}
use Rattle.npa_term.specs.declared.term.Term.{Term}
use Rattle.npa_term.specs.declared.term.Var.{Var as Variable}
use Rattle.npa_term.specs.Variables.{variables}
use Rattle.npa_sig.specs.declared.protocol.Strand.{Strand}
use Rattle.npa_unify.specs.declared.error.UnifyFail.TheVariants.{NoMemory}
use Rattle.npa_unify.specs.Unifiers.{AreLow, HaveOneSort, IsAnswer, IsComplete}
use Rattle.npa_variants.specs.declared.variant.Variant.{Variant}
use Rattle.npa_model.specs.declared.pattern.Pattern.{Pattern}
use Rattle.npa_model.specs.Patterns.{Occurs}
use Rattle.npa_moves.specs.Gathering.{Solve}

-- Memory isn't wanting in a definition, and where there is an answer, it has unifiers of the pairs, of
-- which each unifier is an instance.
pub record Solves (o : Subsorts) (solve : Solve) : Type 0 where
  pub always : (next : ℕ) (pairs : List (Term × Term)) → solve next pairs ≡ Err NoMemory → ⊥
  pub answers : (next : ℕ) (pairs : List (Term × Term)) (ss : List (List (Variable × Term))) (s : List (Variable × Term)) →
      AreLow pairs next → HaveOneSort pairs → solve next pairs ≡ Ok ss → Contains ss s → IsAnswer o pairs next s
  pub complete : (next : ℕ) (pairs : List (Term × Term)) (ss : List (List (Variable × Term))) →
      AreLow pairs next → solve next pairs ≡ Ok ss → IsComplete o pairs next ss

-- No number stands with two sorts among these variables.
abbrev pub HasOneSort : List Variable → Type 0
HasOneSort vs = (v w : Variable) → Contains vs v → Contains vs w → v.num ≡ w.num → v ≡ w

-- So it is with the variables of each variant.
abbrev pub AreOneSorted : List Strand → (Strand → List Variant) → Type 0
AreOneSorted strands variants = (s : ℕ) (strand : Strand) (v : Variant) → slice_get strands s ≡ Some strand →
    Contains (variants strand) v → HasOneSort (flat_map variables v.terms)

-- and with those of a pattern.
abbrev pub IsOneSorted : Pattern → Type 0
IsOneSorted g = (v w : Variable) → Occurs v g → Occurs w g → v.num ≡ w.num → v ≡ w

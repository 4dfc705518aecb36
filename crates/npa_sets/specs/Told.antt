-- What the functions of the search answer, told of the sets as they are defined. Want of memory tells
-- nothing.
use Rattle.std.specs.Prelude.{◌≡◌, ⊤, ℕ, Contains, Result, Ok, Err, List, [], ◌++◌}
use Rattle.npa_sorts.specs.Subsorts.{Subsorts}
use Rattle.npa_term.specs.declared.term.Term.{Term}
use Rattle.npa_term.specs.declared.term.Var.{Var as Variable}
use Rattle.npa_unify.specs.declared.error.UnifyFail.{UnifyFail}
use Rattle.npa_unify.specs.declared.error.UnifyFail.TheVariants as fail
use Rattle.npa_sets.specs.declared.sets.FactSet.{FactSet}
use Rattle.npa_sets.specs.declared.sets.Found.{Found}
use Rattle.npa_moves.specs.Moves.{each_with}
use Rattle.npa_moves.specs.Steps.{solve_over}
use Rattle.npa_sets.specs.Sets.{IsLow, Kept}

abbrev pub as_kept : Found → Kept
as_kept f = record { sets = f.sets; count = f.count }

-- An answer of the search, of unification, and of both.
abbrev pub Gives : Result Found UnifyFail → Result Kept UnifyFail → Type 0
Gives (Ok f) r = r ≡ Ok (as_kept f)
Gives (Err fail.NoMemory) r = ⊤
Gives (Err fail.TooMany) r = r ≡ Err fail.TooMany
Gives (Err (fail.TooLarge n)) r = r ≡ Err (fail.TooLarge n)

abbrev pub GivesUnifiers : Result (List (List (Variable × Term))) UnifyFail →
    Result (List (List (Variable × Term))) UnifyFail → Type 0
GivesUnifiers (Ok ss) r = r ≡ Ok ss
GivesUnifiers (Err fail.NoMemory) r = ⊤
GivesUnifiers (Err fail.TooMany) r = r ≡ Err fail.TooMany
GivesUnifiers (Err (fail.TooLarge n)) r = r ≡ Err (fail.TooLarge n)

-- Whatever is taken besides these, nothing unifies all of it with the message.
abbrev pub AreCut : Subsorts → ℕ → Term → List Term → Type 0
AreCut o next m ts = (more : List Term) → ((t : Term) → Contains more t → IsLow next t) → solve_over o next (each_with m (ts ++ more)) ≡ Ok []

-- The sets are those that are kept.
pub record AreKept (sets : List FactSet) (r : Result Kept UnifyFail) : Type 0 where
  pub kept : Kept
  pub is : r ≡ Ok kept
  pub same : kept.sets ≡ sets

abbrev pub GivesSets : Result (List FactSet) UnifyFail → Result Kept UnifyFail → Type 0
GivesSets (Ok sets) r = AreKept sets r
GivesSets (Err fail.NoMemory) r = ⊤
GivesSets (Err fail.TooMany) r = r ≡ Err fail.TooMany
GivesSets (Err (fail.TooLarge n)) r = r ≡ Err (fail.TooLarge n)

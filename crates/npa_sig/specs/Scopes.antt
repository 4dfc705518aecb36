-- Scopes: a name's variable is found by a table of names.
use Rattle.std.specs.Prelude.{◌≡◌, ℕ, List, length, slice_get}
use Rattle.std.specs.Option.{option_and_then}
use Rattle.npa_term.specs.declared.term.Var.{Var as Variable_}
use Rattle.npa_names.specs.Names.{place_of}
use Rattle.npa_sig.specs.declared.meaning.Scoped.{Scoped}
use Rattle.npa_sig.specs.Meaning.{variable_of}

-- a table of the names of a scope, and at the place of each the variable that the scope gives it
pub record IsIndexed (names : List (List ℕ)) (vars : List Variable_) (scope : List Scoped) : Type 0 where
  pub even : length vars ≡ length names
  pub found : (word : List ℕ) → option_and_then (slice_get vars) (place_of word names) ≡ variable_of word scope

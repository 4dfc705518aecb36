-- Closed lists of patterns: a backwards search that comes to one has nothing left to look at (Escobar,
-- Meadows, Meseguer 2009, on finite search spaces; folding, by which what another state subsumes is left
-- out: Escobar, Sasse, Meseguer 2012).
use Rattle.std.specs.Prelude.{◌≡◌, ◌⊎◌, true, Ok, List, Contains}
use Rattle.npa_sorts.specs.Subsorts.{Subsorts}
use Rattle.npa_term.specs.declared.term.Term.{Term}
use Rattle.npa_term.specs.declared.term.Var.{Var as Variable}
use Rattle.npa_sig.specs.declared.protocol.Protocol.{Protocol}
use Rattle.npa_sig.specs.Signature.{Signature}
use Rattle.npa_sig.specs.Sorting.{well_sorted}
use Rattle.npa_model.specs.declared.aim.Aim.{Aim}
use Rattle.npa_model.specs.declared.pattern.Pattern.{Pattern}
use Rattle.npa_model.specs.Covering.{Covers}
use Rattle.npa_model.specs.Fitting.{IsFit}
use Rattle.npa_model.specs.Patterns.{IsInitial, IsTermOf}
use Rattle.npa_moves.specs.declared.step.Root.{Root}
use Rattle.npa_moves.specs.declared.step.Step.{Step}
use Rattle.npa_moves.specs.Leading.{FitsPattern, FitsVariables, IsStepBy}
use Rattle.npa_moves.specs.RootLeading.{IsRootBy, aim_variables}
use Rattle.npa_moves.specs.Roots.{roots_in}
use Rattle.npa_moves.specs.Steps.{found_variants, steps_in}
use Rattle.npa_prune.specs.Pruned.{IsPruned}

-- a member covers the pattern
abbrev pub IsCoveredBy : Subsorts → List Pattern → Pattern → Type 0
IsCoveredBy o members p = (m : Pattern) × Contains members m × Covers o m p

-- Beside these members the pattern needn't be looked at: it is pruned, or one of them covers it.
abbrev pub IsFine : Protocol → List Pattern → Pattern → Type 0
IsFine protocol members p = IsPruned protocol p ⊎ IsCoveredBy protocol.sig.sorts members p

-- The roots of an aim make a list, and the pattern of each is fine.
pub record AreRootsFine (protocol : Protocol) (aim : Aim) (members : List Pattern) : Type 0 where
  pub list : List Root
  pub are : roots_in protocol aim ≡ Ok list
  pub fine : (root : Root) → Contains list root → IsFine protocol members root.pattern

-- So it is with the steps of a pattern.
pub record AreStepsFine (protocol : Protocol) (g : Pattern) (members : List Pattern) : Type 0 where
  pub list : List Step
  pub are : steps_in protocol g ≡ Ok list
  pub fine : (step : Step) → Contains list step → IsFine protocol members step.pattern

-- A list of patterns is closed for an aim: its members fit, none is initial, and the roots of the aim and
-- the steps of the members are fine.
pub record IsListClosed (protocol : Protocol) (aim : Aim) (members : List Pattern) : Type 0 where
  pub fit : (m : Pattern) → Contains members m → IsFit protocol m
  pub none_initial : (m : Pattern) → Contains members m → IsInitial m → ⊥
  pub roots : AreRootsFine protocol aim members
  pub steps : (m : Pattern) → Contains members m → AreStepsFine protocol m members

-- ## The same whatever a search for unifiers finds

-- the terms of a pattern are well sorted
abbrev pub IsWellSorted : Signature → Pattern → Type 0
IsWellSorted sig g = (t : Term) → IsTermOf g t → well_sorted sig t ≡ true

-- Every root of an aim and step of a member is fine, by whatever substitution that respects the sorts of
-- the variables, where it is a pattern of well-sorted terms.
pub record IsClosed (protocol : Protocol) (aim : Aim) (members : List Pattern) : Type 0 where
  pub fit : (m : Pattern) → Contains members m → IsFit protocol m
  pub none_initial : (m : Pattern) → Contains members m → IsInitial m → ⊥
  pub roots : (a : List (Variable × Term)) (q : Pattern) → FitsVariables protocol.sig.sorts (aim_variables aim) a →
      IsRootBy protocol.strands (found_variants protocol) protocol.sig.sorts a aim q → IsWellSorted protocol.sig q → IsFine protocol members q
  pub steps : (m : Pattern) → Contains members m → (a : List (Variable × Term)) (q : Pattern) → FitsPattern protocol.sig.sorts m a →
      IsStepBy protocol.strands (found_variants protocol) protocol.sig.sorts a m q → IsWellSorted protocol.sig q → IsFine protocol members q

-- No list of roots or of a member's steps is too large.
pub record HasLists (protocol : Protocol) (aim : Aim) (members : List Pattern) : Type 0 where
  pub roots : (list : List Root) × (roots_in protocol aim ≡ Ok list)
  pub steps : (m : Pattern) → Contains members m → (list : List Step) × (steps_in protocol m ≡ Ok list)

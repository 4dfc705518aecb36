-- Well-formed aims and runs: each number in them stands for something that is there, and each term is
-- well sorted.
use Rattle.std.specs.Prelude.{◌≡◌, ℕ, ◌<◌, ◌≤◌, ◌^◌, true, List, Some, map, length, slice_get, Contains}
use Rattle.npa_term.specs.declared.term.Term.{Term}
use Rattle.npa_sig.specs.declared.protocol.Strand.{Strand}
use Rattle.npa_sig.specs.Parameters.{param_sorts}
use Rattle.npa_sig.specs.Signature.{Signature}
use Rattle.npa_sig.specs.Sorting.{all_below}
use Rattle.npa_term.specs.Parts.{least_sort}
use Rattle.npa_sig.specs.WellFormed.{IsTermOver, IsMessageOver, IsPlainTerm, AreSorts}
use Rattle.npa_model.specs.declared.aim.Part.{Part}
use Rattle.npa_model.specs.declared.aim.Part.TheVariants as part
use Rattle.npa_model.specs.declared.aim.Aim.{Aim}
use Rattle.npa_model.specs.declared.run.Run.{Run}
use Rattle.npa_model.specs.Accepted.{part_terms}
use Rattle.npa_model.specs.Instances.{AreGroundTerms}

-- A strand part names a strand and as many of its events as it has at most, and gives a term for
-- each parameter, of a sort at or below the parameter's.
pub record IsStrandPart (sig : Signature) (strands : List Strand) (sorts : List ℕ) (number bar : ℕ) (args : List Term) : Type 0 where
  pub strand : Strand
  pub there : slice_get strands number ≡ Some strand
  pub within : bar ≤ length strand.events
  pub terms : (t : Term) → Contains args t → IsTermOver sig sorts t
  pub below : all_below sig (map least_sort args) (param_sorts strand) ≡ true

abbrev pub IsWellFormedPart : Signature → List Strand → List ℕ → Part → Type 0
IsWellFormedPart sig strands sorts (part.Known t) = IsMessageOver sig sorts t
IsWellFormedPart sig strands sorts (part.Strand number bar args) = IsStrandPart sig strands sorts number bar args

-- An aim has parts over its variables, and at least one.
pub record IsWellFormedAim (sig : Signature) (strands : List Strand) (aim : Aim) : Type 0 where
  pub sorts : AreSorts sig aim.sorts
  pub parts : (p : Part) → Contains aim.parts p → IsWellFormedPart sig strands aim.sorts p
  pub has_parts : 1 ≤ length aim.parts
  pub few : length aim.parts < 2 ^ 16

-- No fresh name stands in the terms of an aim, and their variables have numbers below 2^30.
abbrev pub IsPlainAim : Aim → Type 0
IsPlainAim aim = (p : Part) → Contains aim.parts p → (t : Term) → Contains (part_terms p) t → IsPlainTerm t

-- A run's terms are ground and well sorted, and its instances and steps can be counted.
pub record IsWellFormedRun (sig : Signature) (run : Run) : Type 0 where
  pub terms : AreGroundTerms sig run.instances
  pub few_instances : length run.instances < 2 ^ 32
  pub few_steps : length run.schedule < 2 ^ 32

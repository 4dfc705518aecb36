-- Aims, and the runs that reach them (attack patterns: Escobar, Meadows, Meseguer 2009).
use Rattle.std.specs.Prelude.{◌≡◌, ℕ, ◌<◌, ◌≤◌, true, List, [], ◌∷◌, Some, map, length, slice_get, take, Contains}
use Rattle.npa_term.specs.declared.term.Term.{Term}
use Rattle.npa_term.specs.Canonical.{canonical}
use Rattle.npa_sig.specs.declared.protocol.Protocol.{Protocol}
use Rattle.npa_sig.specs.Signature.{Signature}
use Rattle.npa_sig.specs.Sorting.{all_below}
use Rattle.npa_term.specs.Parts.{least_sort}
use Rattle.npa_model.specs.declared.aim.Part.{Part}
use Rattle.npa_model.specs.declared.aim.Part.TheVariants as part
use Rattle.npa_model.specs.declared.aim.Aim.{Aim}
use Rattle.npa_model.specs.declared.run.Instance.{Instance}
use Rattle.npa_model.specs.declared.run.Run.{Run}
use Rattle.npa_model.specs.declared.run.Cause.{Cause}
use Rattle.npa_sig.specs.Values.{under}
use Rattle.npa_model.specs.Runs.{Executes, BreaksAt, executions}
use Rattle.npa_model.specs.Instances.{AreInstances, start_fault}
use Rattle.npa_rewrite.specs.Normal.{IsNormalTerm}

-- An assignment to the variables of an aim: a normal ground term for each, of a sort at or below.
pub record Assigns (nf : Term → Term) (sig : Signature) (sorts : List ℕ) (values : List Term) : Type 0 where
  pub sorted : all_below sig (map least_sort values) sorts ≡ true
  pub normal : (t : Term) → Contains values t → IsNormalTerm nf sig t

module _ (nf : Term → Term) (run : Run) (sent values : List Term) where
  -- An instance of the run is what a strand part asks for: it is of the strand, has executed so many
  -- events, and has as its values, up to the order of commutative arguments, the part's terms.
  pub record Plays (n strand bar : ℕ) (args : List Term) : Type 0 where
    pub instance : Instance
    pub there : slice_get run.instances n ≡ Some instance
    pub same_strand : instance.strand ≡ strand
    pub executed : executions n run.schedule ≡ bar
    pub same_values : map canonical instance.args ≡ map (λ t. nf (under values t)) args

  -- The parts are met by the assignment and these instances, a different one for each strand part:
  -- each known term was sent, and each strand part is played.
  pub data Meets : List Part → List ℕ → Type 0 where
    nothing : Meets [] []
    known : (t : Term) (parts : List Part) (chosen : List ℕ) → Contains sent (nf (under values t)) → Meets parts chosen → Meets (part.Known t ∷ parts) chosen
    strand : (strand bar : ℕ) (args : List Term) (parts : List Part) (n : ℕ) (chosen : List ℕ) → Plays n strand bar args → (Contains chosen n → ⊥) → Meets parts chosen → Meets (part.Strand strand bar args ∷ parts) (n ∷ chosen)

-- some assignment and some choice of different instances meet these parts
pub record MeetsSomehow (nf : Term → Term) (sig : Signature) (sorts : List ℕ) (run : Run) (sent : List Term) (parts : List Part) : Type 0 where
  pub values : List Term
  pub assigns : Assigns nf sig sorts values
  pub chosen : List ℕ
  pub meets : Meets nf run sent values parts chosen

-- What a run is: it begins with instances, and its schedule is executed and sends these terms.
pub record IsRun (nf : Term → Term) (protocol : Protocol) (run : Run) (sent : List Term) : Type 0 where
  pub instances : AreInstances nf protocol.sig protocol.strands run.instances
  pub executes : Executes nf protocol.strands run.instances run.schedule sent

-- The run reaches an instance of the aim.
pub record Reaches (nf : Term → Term) (protocol : Protocol) (aim : Aim) (run : Run) : Type 0 where
  pub sent : List Term
  pub runs : IsRun nf protocol run sent
  pub meets : MeetsSomehow nf protocol.sig aim.sorts run sent aim.parts

-- It is a run, and part k, from 1, is the least such that nothing meets the first k parts.
pub record Misses (nf : Term → Term) (protocol : Protocol) (aim : Aim) (run : Run) (k : ℕ) : Type 0 where
  pub sent : List Term
  pub runs : IsRun nf protocol run sent
  pub within : (1 ≤ k) × (k ≤ length aim.parts)
  pub fails : MeetsSomehow nf protocol.sig aim.sorts run sent (take k aim.parts) → ⊥
  pub before : (j : ℕ) → 1 ≤ j → j < k → MeetsSomehow nf protocol.sig aim.sorts run sent (take j aim.parts)

-- The run breaks at step j, where step 0 is the list of instances, for this cause.
pub data Breaks (nf : Term → Term) (protocol : Protocol) (run : Run) : ℕ → Cause → Type 0 where
  at_start : (why : Cause) → start_fault nf protocol.sig protocol.strands run.instances ≡ Some why → Breaks nf protocol run 0 why
  at_step : (j : ℕ) (why : Cause) → AreInstances nf protocol.sig protocol.strands run.instances → BreaksAt nf protocol.strands run.instances run.schedule j why → Breaks nf protocol run j why

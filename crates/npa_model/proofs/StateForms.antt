-- What a state of a run does by one function that has the normal forms it does by each.
use Rattle.std.proofs.Common.{◌≡◌, ℕ, true, List, Some, Result, Ok, Err, slice_get, map, Contains, sym, ◌∙◌}
use Rattle.npa_term.specs.declared.term.Term.{Term}
use Rattle.npa_term.specs.Parts.{least_sort}
use Rattle.npa_sig.specs.declared.protocol.Strand.{Strand}
use Rattle.npa_sig.specs.Signature.{Signature}
use Rattle.npa_sig.specs.Sorting.{all_below, IsGroundTerm}
use Rattle.npa_sig.specs.Values.{under}
use Rattle.npa_sig.specs.WellFormed.{AreWellFormedStrands, IsTermOver}
use Rattle.npa_sig.proofs.SortedTerms.{under_ground}
use Rattle.npa_rewrite.specs.declared.theory.Theory.{Theory}
use Rattle.npa_rewrite.specs.Innermost.{normalized}
use Rattle.npa_rewrite.specs.Rewriting.{AllCancel, IsConvergent, GivesNormalForms}
use Rattle.npa_rewrite.proofs.Normalized.{same_form}
use Rattle.npa_model.specs.declared.run.Instance.{Instance}
use Rattle.npa_model.specs.declared.run.RunFail.{RunFail}
use Rattle.npa_model.specs.declared.run.RunFail.TheVariants as run_fail
use Rattle.npa_model.specs.Instances.{IsInstance, AreGroundTerms, Starts}
use Rattle.npa_model.specs.State.{State, Steps}
use Rattle.npa_model.proofs.OneForm.{SameForms, same_start_fault, happens}

module _ (sig : Signature) (nf mf : Term → Term) (same : SameForms sig nf mf) (strands : List Strand) (instances : List Instance) where
  -- a run begins alike
  pub starts_alike : (result : Result State RunFail) → AreGroundTerms sig instances → Starts nf sig strands instances result → Starts mf sig strands instances result
  starts_alike (Ok state) ground s = (sym (same_start_fault sig nf mf same strands instances ground) ∙ s.0, s.1)
  starts_alike (Err (run_fail.Stop why)) ground s = sym (same_start_fault sig nf mf same strands instances ground) ∙ s
  starts_alike (Err run_fail.NoMemory) ground s = tt

  -- and a step does the same
  pub steps_alike : (old new : State) (i : ℕ) (result : Result (Unit {0}) RunFail) → AreWellFormedStrands sig strands →
      ((k : ℕ) (instance : Instance) → slice_get instances k ≡ Some instance → IsInstance nf sig strands instance) → Steps nf strands instances old new i result → Steps mf strands instances old new i result
  steps_alike old new i (Ok u) formed are s = record { moves = s.moves; happens = happens sig nf mf same strands formed instances are s.happens }
  steps_alike old new i (Err (run_fail.Stop why)) formed are s = (s.0, happens sig nf mf same strands formed instances are s.1)
  steps_alike old new i (Err run_fail.NoMemory) formed are s = s

-- and a message under ground values is the same
pub message_alike : (sig : Signature) (nf mf : Term → Term) → SameForms sig nf mf → (sorts : List ℕ) (values : List Term) (t : Term) →
    all_below sig (map least_sort values) sorts ≡ true → ((u : Term) → Contains values u → IsGroundTerm sig u) → IsTermOver sig sorts t → nf (under values t) ≡ mf (under values t)
message_alike sig nf mf same sorts values t below ground over = same (under values t) (under_ground sig sorts values below ground t over)

-- the normal form that is made is that of each function that has the normal forms
pub made_form : (th : Theory) (nf : Term → Term) → AllCancel th → IsConvergent th → GivesNormalForms th nf → SameForms th.sig (normalized th) nf
made_form th nf cancel convergent gives t ground = sym (same_form th nf t cancel convergent gives ground.sorted)

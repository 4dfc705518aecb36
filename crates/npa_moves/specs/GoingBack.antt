-- Runs that meet a pattern, one step earlier (Escobar, Meadows, Meseguer 2009, on the completeness of the
-- backwards search).
use Rattle.std.specs.Prelude.{◌⊎◌, ℕ, List, Contains}
use Rattle.npa_term.specs.declared.term.Term.{Term}
use Rattle.npa_term.specs.declared.term.Term.TheVariants.{Var}
use Rattle.npa_term.specs.declared.term.Var.{Var as Variable}
use Rattle.npa_term.specs.Bound.{applied}
use Rattle.npa_term.specs.Parts.{image}
use Rattle.npa_term.specs.Same.{Same}
use Rattle.npa_sig.specs.declared.protocol.Strand.{Strand}
use Rattle.npa_sig.specs.Signature.{Signature}
use Rattle.npa_sig.specs.Values.{under}
use Rattle.npa_rewrite.specs.Normal.{IsNormalTerm}
use Rattle.npa_model.specs.declared.aim.Aim.{Aim}
use Rattle.npa_model.specs.declared.aim.Part.{Part}
use Rattle.npa_model.specs.Accepted.{part_terms}
use Rattle.npa_model.specs.declared.pattern.Pattern.{Pattern}
use Rattle.npa_model.specs.declared.pattern.Standing.TheVariants.{Exactly}
use Rattle.npa_model.specs.declared.run.Instance.{Instance}
use Rattle.npa_model.specs.Backward.{IsShorter}
use Rattle.npa_model.specs.Meeting.{MeetsBy}
use Rattle.npa_model.specs.Patterns.{Occurs}
use Rattle.npa_model.specs.Runs.{Executes}
use Rattle.npa_moves.specs.declared.step.Root.{Root}
use Rattle.npa_moves.specs.declared.step.Step.{Step}
use Rattle.npa_moves.specs.RootLeading.{aim_variables}

module _ (nf : Term → Term) (sig : Signature) (strands : List Strand) (instances : List Instance) where
  -- A run meets the pattern that one of these steps leads to, by an assignment that agrees with another
  -- one through the step's unifier.
  pub record MeetsStep (list : List Step) (a : List (Variable × Term)) (g : Pattern) (rest : List ℕ) (told : List Term) : Type 0 where
    pub step : Step
    pub there : Contains list step
    pub by_ : List (Variable × Term)
    pub meets : MeetsBy nf strands instances rest Exactly sig told step.pattern by_
    pub agrees : (v : Variable) → Occurs v g → Same (applied by_ (image step.unifier v)) (image a v)

  -- A run with one step less meets the same pattern by the same assignment, or the pattern of a step.
  pub record GoesBack (list : List Step) (a : List (Variable × Term)) (g : Pattern) (schedule : List ℕ) (sent : List Term) : Type 0 where
    pub rest : List ℕ
    pub told : List Term
    pub executes : Executes nf strands instances rest told
    pub shorter : IsShorter schedule rest sent told
    pub meets : MeetsBy nf strands instances rest Exactly sig told g a ⊎ MeetsStep list a g rest told

  -- A run meets the pattern of one of these roots, by an assignment that agrees with the values of an aim's
  -- variables through the root's unifier.
  pub record MeetsRoot (list : List Root) (aim : Aim) (values : List Term) (schedule : List ℕ) (sent : List Term) : Type 0 where
    pub root : Root
    pub there : Contains list root
    pub by_ : List (Variable × Term)
    pub meets : MeetsBy nf strands instances schedule Exactly sig sent root.pattern by_
    pub agrees : (v : Variable) → Contains (aim_variables aim) v → Same (applied by_ (image root.unifier v)) (under values (Var v))

-- Each term of an aim under these values is a normal ground term.
abbrev pub AreNormalUnder : (Term → Term) → Signature → Aim → List Term → Type 0
AreNormalUnder nf sig aim values = (p : Part) → Contains aim.parts p → (t : Term) → Contains (part_terms p) t → IsNormalTerm nf sig (under values t)

-- A list is closed by the lists of roots and steps exactly where it is by any substitutions, and these lists
-- are there: what is listed is a root or a step by its own unifier, and covers the others.
use Rattle.std.proofs.Common.{◌≡◌, inl, inr, Ok, List, Contains}
use Rattle.npa_term.specs.declared.term.Term.{Term}
use Rattle.npa_term.specs.declared.term.Var.{Var as Variable}
use Rattle.npa_sig.specs.declared.protocol.Protocol.{Protocol}
use Rattle.npa_model.specs.declared.aim.Aim.{Aim}
use Rattle.npa_model.specs.declared.pattern.Pattern.{Pattern}
use Rattle.npa_model.specs.Covering.{Covers}
use Rattle.npa_model.specs.Fitting.{IsFit}
use Rattle.npa_model.proofs.CoverLaws.{covers_through}
use Rattle.npa_moves.specs.declared.step.Root.{Root}
use Rattle.npa_moves.specs.declared.step.Step.{Step}
use Rattle.npa_moves.specs.Leading.{FitsPattern, FitsVariables, IsAmong, IsStepBy}
use Rattle.npa_moves.specs.RootLeading.{IsAmongRoots, IsRootBy, aim_variables}
use Rattle.npa_moves.specs.Roots.{roots_in}
use Rattle.npa_moves.specs.Steps.{found_variants, steps_in}
use Rattle.npa_prune.specs.declared.rule.PruneRule.{PruneRule}
use Rattle.npa_prune.specs.Pruned.{Prunes}
use Rattle.npa_closed.specs.Closed.{AreRootsFine, AreStepsFine, HasLists, IsFine, IsListClosed, IsWellSorted}

module _ (protocol : Protocol) (members : List Pattern) where
  -- what a pattern covers is pruned where it is
  abbrev pub PrunesCovered : Type 0
  PrunesCovered = (t s : Pattern) (rule : PruneRule) → IsFit protocol t → IsWellSorted protocol.sig s → Covers protocol.sig.sorts t s → Prunes protocol rule t → Prunes protocol rule s

  -- so what a fine pattern covers is fine
  pub fine_below : PrunesCovered → (t s : Pattern) → IsFit protocol t → IsWellSorted protocol.sig s → Covers protocol.sig.sorts t s → IsFine protocol members t → IsFine protocol members s
  fine_below covered t s fit sorted covers (inl pruned) = inl (pruned.0, covered t s pruned.0 fit sorted covers pruned.1)
  fine_below covered t s fit sorted covers (inr by_) = inr (by_.0, by_.1, covers_through protocol.sig.sorts by_.0 t s by_.2 covers)

  module _ (g : Pattern) where
    abbrev pub StepsFit : Type 0
    StepsFit = (list : List Step) (step : Step) → steps_in protocol g ≡ Ok list → Contains list step → IsFit protocol step.pattern

    abbrev pub StepsComplete : Type 0
    StepsComplete = (a : List (Variable × Term)) (q : Pattern) (list : List Step) → FitsPattern protocol.sig.sorts g a → steps_in protocol g ≡ Ok list →
        IsStepBy protocol.strands (found_variants protocol) protocol.sig.sorts a g q → IsAmong protocol.sig.sorts list a g q

    -- the steps by any substitutions are fine where those of the list are
    pub steps_by_any : PrunesCovered → StepsFit → StepsComplete → AreStepsFine protocol g members → (a : List (Variable × Term)) (q : Pattern) → FitsPattern protocol.sig.sorts g a →
        IsStepBy protocol.strands (found_variants protocol) protocol.sig.sorts a g q → IsWellSorted protocol.sig q → IsFine protocol members q
    steps_by_any covered fit complete known a q fits is sorted =
        let among = complete a q known.list fits known.are is in
        fine_below covered among.step.pattern q (fit known.list among.step known.are among.there) sorted (among.by_, among.places, among.covers) (known.fine among.step among.there)

  module _ (aim : Aim) where
    abbrev pub RootsFit : Type 0
    RootsFit = (list : List Root) (root : Root) → roots_in protocol aim ≡ Ok list → Contains list root → IsFit protocol root.pattern

    abbrev pub RootsComplete : Type 0
    RootsComplete = (a : List (Variable × Term)) (q : Pattern) (list : List Root) → FitsVariables protocol.sig.sorts (aim_variables aim) a → roots_in protocol aim ≡ Ok list →
        IsRootBy protocol.strands (found_variants protocol) protocol.sig.sorts a aim q → IsAmongRoots protocol.sig.sorts list a aim q

    -- and so are the roots
    pub roots_by_any : PrunesCovered → RootsFit → RootsComplete → AreRootsFine protocol aim members → (a : List (Variable × Term)) (q : Pattern) →
        FitsVariables protocol.sig.sorts (aim_variables aim) a → IsRootBy protocol.strands (found_variants protocol) protocol.sig.sorts a aim q → IsWellSorted protocol.sig q → IsFine protocol members q
    roots_by_any covered fit complete known a q fits is sorted =
        let among = complete a q known.list fits known.are is in
        fine_below covered among.root.pattern q (fit known.list among.root known.are among.there) sorted (among.by_, among.places, among.covers) (known.fine among.root among.there)

pub lists_there : (protocol : Protocol) (aim : Aim) (members : List Pattern) → IsListClosed protocol aim members → HasLists protocol aim members
lists_there protocol aim members closed = record {
  roots = (closed.roots.list, closed.roots.are);
  steps = λ m there. let known = closed.steps m there in (known.list, known.are);
}

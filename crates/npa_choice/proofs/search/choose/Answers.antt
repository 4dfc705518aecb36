use Rattle.std.proofs.Common.{◌≡◌, None}
use Rattle.npa_match.proofs.Going.{on_ok}
use Rattle.npa_choice.specs.Choices.{HasChoice}
use Rattle.npa_choice.specs.Partial.{HasCompletion}
use Rattle.npa_choice.proofs.Completing.{held_start, start_completed}
use Rattle.npa_choice.proofs.search.choose.Goals as goal

pub complete-requires : goal.complete-requires
complete-requires c = held_start c.args.askers.now c.args.sorts.now c.in_ok-start.start c.in_ok-start.ensures

pub returns-clause-none : goal.returns-clause-none
returns-clause-none c =
    let o = c.args.sorts.now in
    let askers = c.args.askers.now in
    on_ok (λ found. found ≡ None → HasCompletion o askers c.in_ok-start.start.chosen → ⊥) (λ found. found ≡ None → HasChoice o askers → ⊥)
    (λ found none e h. none e (start_completed askers o c.in_ok-start.start c.in_ok-start.ensures h)) c.complete.result c.complete.ensures.none

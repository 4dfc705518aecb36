use Rattle.std.proofs.Common.{List, ◌≡◌, Some, slice_get, sym, ap, ◌∙◌}
use Rattle.npa_term.specs.declared.term.Term.{Term}
use Rattle.npa_replay.proofs.Heads.{other_known}
use Rattle.npa_replay.proofs.candidates.may_match.Goals as goal

pub returns-in-Some : goal.returns-in-Some
returns-in-Some c none m =
    let there : slice_get c.args.scene.now.state.now.sent c.args.place ≡ Some c.in-Some.u.now =
    ap (λ (ts : List Term). slice_get ts c.args.place) (sym c.sent.ensures) ∙ sym c.in-Some.ensures.value in
    other_known c.args.scene.now.instances.now c.args.scene.now.state.now c.args.scene.now.sorts.now c.args.part.now c.in-Known.t c.in-Some.u.now c.args.place c.in-Known.is there
    (c.heads_agree.ensures none c.args.scene.now.sorts.now) m

use Rattle.npa_model.proofs.Comparing.{if_ok}
use Rattle.npa_folding.proofs.Lawfulness.{first_unfit, second_tells}
use Rattle.npa_folding.proofs.covering.are_fit.Goals as goal

pub returns-then-not-branch : goal.returns-then-not-branch
returns-then-not-branch c = first_unfit c.args.protocol.now c.args.t.now c.args.s.now c.in_ok-is_fit.field-0 c.in_ok-is_fit.ensures c.if-not-branch.true

pub returns : goal.returns
returns c = if_ok c.is_fit-2.result c.is_fit-2.ensures (λ second two. second_tells c.args.protocol.now c.args.t.now c.args.s.now c.in_ok-is_fit.field-0 second c.in_ok-is_fit.ensures c.if-not-branch.false two)

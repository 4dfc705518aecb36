use Rattle.std.proofs.Common.{sym, ◌∙◌, ap}
use Rattle.npa_term.specs.declared.term.Term.{App}
use Rattle.npa_match.proofs.Going.{other_term}
use Rattle.npa_match.proofs.Lists.{after_uneven}
use Rattle.npa_match.proofs.Shapes.{no_arguments, unlike_place}
use Rattle.npa_match.proofs.shape.+shape.Goals as goal

pub may_be_arguments-returns-then-ts-us : goal.may_be_arguments-returns-then-ts-us
may_be_arguments-returns-then-ts-us t c = λ _ o s. after_uneven o c.args.ts.now c.args.us.now s c.if-ts-us.true

pub may_be_arguments-returns-then-not-may_match : goal.may_be_arguments-returns-then-not-may_match
may_be_arguments-returns-then-not-may_match t c =
    λ _. unlike_place c.args.ts.now c.args.us.now c.loop-i.i c.index-ts-i.result c.index-us-i.result c.loop-i-test.true c.if-ts-us.false
    c.index-ts-i.is c.index-us-i.is (c.may_match.ensures c.if-not-may_match.true)

pub may_match-returns-else-op : goal.may_match-returns-else-op
may_match-returns-else-op t c =
    λ no. no_arguments c.args.t.now c.args.u.now c.in-App.op c.as_slice.result.now c.in-Some.us.now
    (c.in-App.is ∙ ap (App c.in-App.op) (sym c.as_slice.ensures)) c.in-Some.ensures c.if-op.false (c.may_be_arguments.ensures no)

pub may_match-returns-in-None : goal.may_match-returns-in-None
may_match-returns-in-None t c = λ _ o s. other_term o s c.args.t.now c.args.u.now c.in-App.op c.in-App.ts c.in-App.is c.in-None.ensures

use Rattle.std.proofs.Common.{◌≡◌, ◌<◌, suc, ◌-◌, Some, sym, ◌∙◌, ap, arith}
use Rattle.npa_term.specs.declared.term.Term.{App}
use Rattle.npa_conv.proofs.Applications.{exchanged_made, exchanged_left}
use Rattle.npa_conv.proofs.positions.+exchanging.Goals as goal

pub exchange-returns-in_ok-made-in-Some-clause-term : goal.exchange-returns-in_ok-made-in-Some-clause-term
exchange-returns-in_ok-made-in-Some-clause-term t c =
    exchanged_made c.args.by.now c.args.t.now c.in-App.op c.in-App.args c.args.place.now c.in-Some.at c.in-App.is c.in-Some.is (let more : 0 < c.in-Some.at = grind arith in more) _ _ c.as_slice.ensures c.in_ok-made-in-Some.ensures.terms

pub exchange-returns-in_ok-made-in-Some-clause-place : goal.exchange-returns-in_ok-made-in-Some-clause-place
exchange-returns-in_ok-made-in-Some-clause-place t c =
    exchanged_left c.args.by.now c.args.t.now c.in-App.op c.in-App.args c.args.place.now c.in-Some.at c.in-App.is c.in-Some.is (let more : 0 < c.in-Some.at = grind arith in more) _ _ c.as_slice.ensures c.in_ok-made-in-Some.ensures.place

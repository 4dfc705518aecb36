use Rattle.std.proofs.Common.{None, Some, sym, subst, arith}
use Rattle.npa_accept.specs.Parts.{parts}
use Rattle.npa_accept.specs.Unaccepted.{IsFirst}
use Rattle.npa_close.proofs.Accepting.{begins, ended, goes_on, found_at}
use Rattle.npa_close.proofs.aims.unaccepted_among.Goals as goal

pub first_unaccepted-requires-clause-formed : goal.first_unaccepted-requires-clause-formed
first_unaccepted-requires-clause-formed c = c.requires.theory.formed

pub first_unaccepted-requires-clause-plain : goal.first_unaccepted-requires-clause-plain
first_unaccepted-requires-clause-plain c = c.requires.theory.plain

pub first_unaccepted-requires-clause-few : goal.first_unaccepted-requires-clause-few
first_unaccepted-requires-clause-few c = c.requires.theory.few

pub first_unaccepted-requires-clause-term : goal.first_unaccepted-requires-clause-term
first_unaccepted-requires-clause-term c = c.requires.fit c.term-item.result (c.loop-term.term-index, c.loop-term-test.true, sym c.term-item.is)

pub loop-term-init : goal.loop-term-init
loop-term-init c = begins c.args.th.now parts c.args.terms.now

pub loop-term-preserved : goal.loop-term-preserved
loop-term-preserved c =
    goes_on c.args.th.now parts c.args.terms.now c.loop-term.term-index c.term-item.result c.loop-term-test.true c.term-item.is
    (subst (IsFirst c.args.th.now (parts c.term-item.result)) c.in_default.is c.in_ok-found.ensures.first) c.loop-term.invariant

pub returns-in-Some : goal.returns-in-Some
returns-in-Some c =
    found_at c.args.th.now parts c.args.terms.now c.loop-term.term-index c.term-item.result c.loop-term-test.true c.term-item.is c.in-Some.found
    (subst (IsFirst c.args.th.now (parts c.term-item.result)) c.in-Some.is c.in_ok-found.ensures.first) c.loop-term.invariant

pub returns : goal.returns
returns c = ended c.args.th.now parts c.args.terms.now c.loop-term.term-index (omega (arith, c.loop-term-test.false)) c.loop-term.invariant

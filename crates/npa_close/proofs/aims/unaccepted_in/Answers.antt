use Rattle.std.proofs.Common.{None, Some, sym, subst, arith}
use Rattle.std.specs.Prelude.{Contains}
use Rattle.std.specs.List.{flat_map}
use Rattle.npa_accept.specs.Unaccepted.{IsFirst}
use Rattle.npa_close.specs.Checks.{part_parts}
use Rattle.npa_close.proofs.Accepting.{begins, ended, goes_on, found_at}
use Rattle.npa_close.proofs.aims.unaccepted_in.Goals as goal

pub unaccepted_of_part-requires-clause-fit : goal.unaccepted_of_part-requires-clause-fit
unaccepted_of_part-requires-clause-fit c =
    c.requires.fit c.part-item.result
    (subst (λ ps. Contains ps c.part-item.result) c.as_slice-part-items.ensures (c.loop-part.part-index, c.loop-part-test.true, sym c.part-item.is))

pub loop-part-init : goal.loop-part-init
loop-part-init c = begins c.args.th.now part_parts c.as_slice-part-items.result.now

pub loop-part-preserved : goal.loop-part-preserved
loop-part-preserved c =
    goes_on c.args.th.now part_parts c.as_slice-part-items.result.now c.loop-part.part-index c.part-item.result c.loop-part-test.true c.part-item.is
    (subst (IsFirst c.args.th.now (part_parts c.part-item.result)) c.in_default.is c.in_ok-found.ensures) c.loop-part.invariant

pub returns-in-Some : goal.returns-in-Some
returns-in-Some c =
    subst (λ ps. IsFirst c.args.th.now (flat_map part_parts ps) (Some c.in-Some.found)) c.as_slice-part-items.ensures
    (found_at c.args.th.now part_parts c.as_slice-part-items.result.now c.loop-part.part-index c.part-item.result c.loop-part-test.true c.part-item.is c.in-Some.found
    (subst (IsFirst c.args.th.now (part_parts c.part-item.result)) c.in-Some.is c.in_ok-found.ensures) c.loop-part.invariant)

pub returns : goal.returns
returns c =
    subst (λ ps. IsFirst c.args.th.now (flat_map part_parts ps) None) c.as_slice-part-items.ensures
    (ended c.args.th.now part_parts c.as_slice-part-items.result.now c.loop-part.part-index (omega (arith, c.loop-part-test.false)) c.loop-part.invariant)

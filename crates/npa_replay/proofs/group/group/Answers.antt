use Rattle.std.proofs.Common.{length, arith}
use Rattle.npa_replay.proofs.Growing.{growing_few, growing_within, growing_shared, growing_alike, growing_closed_variables, growing_closed_strands, less_shared, less_alike}
use Rattle.npa_replay.proofs.group.group.Goals as goal

pub add_linked-requires-clause-within : goal.add_linked-requires-clause-within
add_linked-requires-clause-within c =
    let l = growing_within c.args.by_variable.now c.args.by_strand.now c.args.k c.loop-alike.places c.loop-alike.shared c.loop-alike.alike c.loop-alike.invariant c.loop-alike.shared (omega (arith, c.if-shared-len.true, c.len-in-loop-alike.ensures)) in
    omega (arith, l, c.requires.variables)

pub loop-alike-smaller-then-shared-len : goal.loop-alike-smaller-then-shared-len
loop-alike-smaller-then-shared-len c =
    less_shared c.args.k c.loop-alike.shared c.loop-alike.alike (length c.loop-alike.places) (omega (arith, c.if-shared-len.true, c.len-in-loop-alike.ensures))
    (growing_few c.args.by_variable.now c.args.by_strand.now c.args.k c.loop-alike.places c.loop-alike.shared c.loop-alike.alike c.loop-alike.invariant)

pub loop-alike-preserved-then-shared-len : goal.loop-alike-preserved-then-shared-len
loop-alike-preserved-then-shared-len c =
    growing_shared c.args.by_variable.now c.args.by_strand.now c.args.k c.loop-alike.places c.loop-alike.shared c.loop-alike.alike c.loop-alike.invariant
    c.add_linked.new.places c.in_ok-add_linked.ensures.grown (omega (arith, c.if-shared-len.true, c.len-in-loop-alike.ensures)) c.in_ok-add_linked.ensures.linked

pub add_linked-requires-else-shared-len-clause-within : goal.add_linked-requires-else-shared-len-clause-within
add_linked-requires-else-shared-len-clause-within c =
    let l = growing_within c.args.by_variable.now c.args.by_strand.now c.args.k c.loop-alike.places c.loop-alike.shared c.loop-alike.alike c.loop-alike.invariant c.loop-alike.alike (omega (arith, c.loop-alike-test.true, c.len.ensures)) in
    omega (arith, l, c.requires.strands)

pub loop-alike-smaller : goal.loop-alike-smaller
loop-alike-smaller c =
    less_alike c.args.k c.loop-alike.shared c.loop-alike.alike (length c.loop-alike.places) (omega (arith, c.loop-alike-test.true, c.len.ensures))
    (growing_few c.args.by_variable.now c.args.by_strand.now c.args.k c.loop-alike.places c.loop-alike.shared c.loop-alike.alike c.loop-alike.invariant)

pub loop-alike-preserved : goal.loop-alike-preserved
loop-alike-preserved c =
    growing_alike c.args.by_variable.now c.args.by_strand.now c.args.k c.loop-alike.places c.loop-alike.shared c.loop-alike.alike c.loop-alike.invariant
    c.add_linked-else-shared-len.new.places c.in_ok-add_linked-2.ensures.grown (omega (arith, c.loop-alike-test.true, c.len.ensures)) (omega (arith, c.if-shared-len.false, c.len-in-loop-alike.ensures)) c.in_ok-add_linked-2.ensures.linked

pub returns-clause-shared : goal.returns-clause-shared
returns-clause-shared c =
    growing_closed_variables c.args.by_variable.now c.args.by_strand.now c.args.k c.loop-alike.places c.loop-alike.shared c.loop-alike.alike c.loop-alike.invariant (omega (arith, c.loop-alike-test.false, c.len.ensures))

pub returns-clause-alike : goal.returns-clause-alike
returns-clause-alike c =
    growing_closed_strands c.args.by_variable.now c.args.by_strand.now c.args.k c.loop-alike.places c.loop-alike.shared c.loop-alike.alike c.loop-alike.invariant (omega (arith, c.loop-alike-test.false, c.len.ensures))

use Rattle.std.proofs.Common.{◌≡◌, ◌∙◌, ◌<◌, sym, subst, length, arith}
use Rattle.npa_variants.proofs.Readying.{found_length, originates_here, unoriginated_here, originates_all, variant_small}
use Rattle.npa_variants.proofs.ready.check_origins.Goals as goal

pub bounds-lists-at : goal.bounds-lists-at
bounds-lists-at c = subst (λ n. c.loop-at.at < n) (sym (found_length c.args.th.now c.args.strands.now c.args.lists.now c.requires.found)) c.loop-at-test.true

pub loop-at-preserved : goal.loop-at-preserved
loop-at-preserved c =
    let few = subst (λ n. c.loop-at.at < n) (sym (found_length c.args.th.now c.args.strands.now c.args.lists.now c.requires.found)) c.loop-at-test.true in
    originates_here c.args.marks.now c.args.strands.now c.args.lists.now c.loop-at.at c.index-strands-at.result c.index-lists-at.result c.as_slice.result.now c.in_ok-fault.fault
    c.loop-at-test.true few c.index-strands-at.is c.index-lists-at.is c.as_slice.ensures c.in_ok-fault.ensures c.in_default.is c.loop-at.invariant

pub overflow_cast-result-in-Some : goal.overflow_cast-result-in-Some
overflow_cast-result-in-Some c =
    let few = subst (λ n. c.loop-at.at < n) (sym (found_length c.args.th.now c.args.strands.now c.args.lists.now c.requires.found)) c.loop-at-test.true in
    let small : c.in-Some.variant < 64 =
    variant_small c.args.marks.now c.args.strands.now c.args.lists.now c.loop-at.at c.args.th.now c.index-strands-at.result c.index-lists-at.result c.as_slice.result.now c.in_ok-fault.fault
    (c.in-Some.variant, c.in-Some.var) c.requires.found c.loop-at-test.true few c.index-strands-at.is c.index-lists-at.is c.as_slice.ensures c.in_ok-fault.ensures c.in-Some.is in
    omega (arith, small)

pub returns-in-Some : goal.returns-in-Some
returns-in-Some c =
    let few = subst (λ n. c.loop-at.at < n) (sym (found_length c.args.th.now c.args.strands.now c.args.lists.now c.requires.found)) c.loop-at-test.true in
    unoriginated_here c.args.marks.now c.args.strands.now c.args.lists.now c.loop-at.at c.index-strands-at.result c.index-lists-at.result c.as_slice.result.now c.in_ok-fault.fault
    (c.in-Some.variant, c.in-Some.var) c.loop-at-test.true few c.index-strands-at.is c.index-lists-at.is c.as_slice.ensures c.in_ok-fault.ensures c.in-Some.is c.loop-at.invariant

pub returns : goal.returns
returns c = originates_all c.args.marks.now c.args.strands.now c.args.lists.now c.loop-at.at c.loop-at-test.false c.loop-at.invariant

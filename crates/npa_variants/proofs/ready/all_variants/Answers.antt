use Rattle.std.proofs.Common.{◌≡◌, None}
use Rattle.npa_variants.specs.Ready.{IsFound, search_fault, strand_rows}
use Rattle.npa_variants.proofs.Readying.{unfound_here, found_here, found_all, found_step}
use Rattle.npa_variants.proofs.ready.all_variants.Goals as goal

pub loop-at-preserved : goal.loop-at-preserved
loop-at-preserved c =
    let both : IsFound c.args.th.now c.index-strands-at.result c.in-Ok.list × (search_fault c.loop-at.at c.index-strands-at.result (strand_rows c.args.th.now c.index-strands-at.result) ≡ None) =
    c.in-Ok.ensures in
    record {
      found = found_step c.args.th.now c.args.strands.now c.loop-at.lists.items c.push.new.lists.items c.loop-at.at c.index-strands-at.result c.in-Ok.list c.loop-at-test.true
          c.index-strands-at.is c.loop-at.invariant.found both.0 c.in_ok-push-in-Ok.ensures;
      rest = found_here c.args.th.now c.args.strands.now c.loop-at.at c.index-strands-at.result c.loop-at-test.true c.index-strands-at.is c.loop-at.invariant.rest both.1;
    }

pub returns-in-Err : goal.returns-in-Err
returns-in-Err c =
    unfound_here c.args.th.now c.args.strands.now c.loop-at.at c.index-strands-at.result c.in-Err.fail c.loop-at-test.true c.index-strands-at.is c.loop-at.invariant.rest c.in-Err.ensures

pub returns : goal.returns
returns c =
    found_all c.args.th.now c.args.strands.now c.loop-at.at c.loop-at.lists.items c.from_vec.result c.loop-at-test.false c.loop-at.invariant.found c.loop-at.invariant.rest c.from_vec.ensures

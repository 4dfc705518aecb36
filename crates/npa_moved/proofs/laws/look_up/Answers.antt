use Rattle.std.proofs.Common.{◌<◌, length, arith}
use Rattle.std.proofs.lemmas.Option.{slice_get_within}
use Rattle.npa_moves.proofs.Solved.{found_further, found_itself}
use Rattle.npa_moved.proofs.laws.look_up.Goals as goal

pub loop-s-preserved : goal.loop-s-preserved
loop-s-preserved c = found_further c.args.ready.now c.loop-s.s c.loop-s.invariant (λ strand there. found_itself c.args.ready.now strand c.strand_variants-list.result.now (c.strand_variants-list.ensures strand there))

pub returns : goal.returns
returns c = λ s strand there.
    let within : s < length c.args.ready.now.strands = slice_get_within c.args.ready.now.strands s strand there in
    let few : length c.args.ready.now.strands < 65535 = c.laws.ensures.plain.few_strands in
    let done : s < c.loop-s.s = grind arith in
    c.loop-s.invariant s strand done there

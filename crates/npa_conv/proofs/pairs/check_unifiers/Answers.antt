use Rattle.npa_conv.proofs.Judged.{all_crossed, right_fits}
use Rattle.npa_conv.proofs.pairs.check_unifiers.Goals as goal

pub rename-requires : goal.rename-requires
rename-requires c = record { fits = right_fits c.args.th.now c.requires.plain c.args.part.now c.requires.placed c.args.second.now c.requires.listed }

pub returns : goal.returns
returns c =
    all_crossed c.args.th.now c.requires.plain c.args.part.now c.requires.placed c.args.second.now c.requires.listed c.in_ok-right.right c.in_ok-crossed.crossed c.args.found.now
    c.check_all.result c.in_ok-right.ensures c.in_ok-crossed.ensures.term c.check_all.ensures

use Rattle.npa_match.proofs.Once.{app_once}
use Rattle.npa_match.proofs.extension.+once.Goals as goal

pub matches_once-returns-then-not-op : goal.matches_once-returns-then-not-op
matches_once-returns-then-not-op t c =
    λ all. app_once c.args.t.now c.in-App.op c.in-App.ts c.as_slice.result.now c.in-App.is c.as_slice.ensures c.if-not-op.true (c.all_match_once.ensures all)

use Rattle.npa_subsume.proofs.Adding.{place_added}
use Rattle.npa_subsume.proofs.found.places_of.Goals as goal

pub loop-k-preserved : goal.loop-k-preserved
loop-k-preserved c =
    place_added c.args.askers.now c.args.numbers.now c.loop-k.k c.loop-k.places c.push.new.self c.place_at.result c.in_ok-push.ensures.ok c.place_at.ensures c.loop-k.invariant

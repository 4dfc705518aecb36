use Rattle.npa_match.specs.Matching.{read_pairs}
use Rattle.npa_replay.proofs.Searching.{rest_closed}
use Rattle.npa_replay.proofs.search.narrowest.Goals as goal

pub returns-then-count-eq0-clause-closed : goal.returns-then-count-eq0-clause-closed
returns-then-count-eq0-clause-closed c _ =
    rest_closed c.args.scene.now.sorts.now c.args.scene.now.instances.now c.args.scene.now.state.now c.args.scene.now.parts.now c.args.candidates.now c.requires.candidates c.args.places.now c.requires.places c.requires.different
    c.args.choice.now.used (read_pairs c.args.choice.now.pairs) c.loop-at.at c.loop-at-test.true c.place_at-k.result c.place_at-k.ensures.value c.index-scene-k.result c.index-candidates-k.result c.as_slice.result.now c.index-candidates-k.is c.as_slice.ensures
    (c.in_ok-count.ensures.none c.if-count-eq0.true)

use Rattle.npa_replay.proofs.Linking.{LinksBelow}
use Rattle.npa_replay.proofs.links.sharing.Given as goal

abbrev pub invariant-loop-own : goal.invariant-loop-own
invariant-loop-own l = LinksBelow l.keys l.own-index l.links.items

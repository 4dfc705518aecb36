use Rattle.std.proofs.Common.{◌≡◌, take, drop}
use Rattle.npa_variants.specs.Ready.{AreFound, searches_fault}
use Rattle.npa_variants.proofs.ready.all_variants.Given as goal

abbrev pub invariant-loop-at : goal.invariant-loop-at
invariant-loop-at l = record {
  found : AreFound l.th (take l.at l.strands) l.lists.items;
  rest : searches_fault l.th l.at (drop l.at l.strands) ≡ searches_fault l.th 0 l.strands;
}

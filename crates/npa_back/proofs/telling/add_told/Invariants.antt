use Rattle.std.proofs.Common.{◌≡◌, drop}
use Rattle.std.specs.List.{flat_map}
use Rattle.npa_back.specs.Behind.{drawn_behind}
use Rattle.npa_back.specs.Told.{drawn_of}
use Rattle.npa_back.proofs.telling.add_told.Given as goal

abbrev pub invariant-loop-set : goal.invariant-loop-set
invariant-loop-set l = record {
  strands : l.before.strands ≡ l.fn.before.strands;
  unknown : l.before.unknown ≡ l.fn.before.unknown;
  steps : drawn_behind l.narrowing.vars.now l.made (flat_map (drawn_of l.kind l.narrowing.vars.now l.fn.before l.message l.narrowing.pattern.now.unknown) (drop l.set-index l.sets))
      ≡ drawn_behind l.narrowing.vars.now l.fn.made (flat_map (drawn_of l.kind l.narrowing.vars.now l.fn.before l.message l.narrowing.pattern.now.unknown) l.sets);
}

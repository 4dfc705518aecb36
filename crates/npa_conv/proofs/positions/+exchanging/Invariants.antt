use Rattle.std.proofs.Common.{◌≡◌, ◌++◌, drop}
use Rattle.npa_conv.specs.Places.{list_exchanged}
use Rattle.npa_conv.proofs.positions.+exchanging.Given as goal

abbrev pub invariant-exchange_in-loop-t : goal.invariant-exchange_in-loop-t
invariant-exchange_in-loop-t l = record {
  terms : l.made.items ++ (list_exchanged l.by (drop l.t-index l.ts) l.place).0 ≡ (list_exchanged l.by l.ts l.initial.place).0;
  place : (list_exchanged l.by (drop l.t-index l.ts) l.place).1 ≡ (list_exchanged l.by l.ts l.initial.place).1;
}

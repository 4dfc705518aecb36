use Rattle.std.proofs.Common.{◌≡◌, ◌≤◌, ◌+◌, drop}
use Rattle.npa_subsume.specs.Early.{kind_count}
use Rattle.npa_subsume.proofs.early.count_kind.Given as goal

abbrev pub invariant-loop-p : goal.invariant-loop-p
invariant-loop-p l = record {
  counted : l.count + kind_count l.strand l.bar (drop l.p-index l.ps) ≡ kind_count l.strand l.bar l.ps;
  few : l.count ≤ l.p-index;
}

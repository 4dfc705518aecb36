use Rattle.std.proofs.Common.{◌≡◌, ℕ, ◌<◌, [], length, get_or}
use Rattle.npa_sorts.specs.Table.{rows_of}
use Rattle.npa_sorts.proofs.TableLemmas.{bare_row}
use Rattle.npa_sorts.proofs.table.start.Given as goal

abbrev pub invariant-loop-s : goal.invariant-loop-s
invariant-loop-s l = record {
  long : length l.table.items ≡ l.s;
  built : (x : ℕ) → x < l.s → get_or (rows_of l.table.items) x [] ≡ bare_row l.size x;
}

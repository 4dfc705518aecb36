use Rattle.std.proofs.Common.{◌≡◌, ◌++◌, map, drop, take, length}
use Rattle.npa_sig.specs.Printing.{printed, arguments_from, op_text}
use Rattle.npa_sig.proofs.printing.+printing.Given as goal

abbrev pub invariant-print_application-loop-i : goal.invariant-print_application-loop-i
invariant-print_application-loop-i l = record {
  rest : l.out.items ++ arguments_from l.i (map (printed l.sig) (drop l.i l.args)) ≡ l.fn.out.items ++ (op_text l.sig l.fn.op.num ++ arguments_from 0 (map (printed l.sig) l.args));
  begins : take (length l.fn.out.items) l.out.items ≡ l.fn.out.items;
}

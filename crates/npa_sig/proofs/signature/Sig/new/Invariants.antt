use Rattle.std.proofs.Common.{◌≡◌, [], take, drop}
use Rattle.npa_sig.specs.Signature.{first_op_fault, names_of}
use Rattle.npa_sig.proofs.signature.Sig.new.Given as goal

abbrev pub invariant-loop-k : goal.invariant-loop-k
invariant-loop-k l = record {
  rest : first_op_fault l.names (drop l.k l.decl-items) ≡ first_op_fault [] l.decl-items;
  named : l.names ≡ names_of (take l.k l.decl-items);
}

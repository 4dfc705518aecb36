use Rattle.std.proofs.Common.{◌≡◌, ◌++◌, take, drop}
use Rattle.std.specs.List.{All}
use Rattle.std.specs.Option.{option_map}
use Rattle.npa_rewrite.specs.Innermost.{at_root}
use Rattle.npa_rewrite.specs.Rewriting.{IsNormal}
use Rattle.npa_rewrite.proofs.Walk.{innermost_all}
use Rattle.npa_rewrite.proofs.step.+step.Given as goal

abbrev pub invariant-loop-i : goal.invariant-loop-i
invariant-loop-i l = record {
  made : l.made.items ≡ take l.i l.args;
  value : innermost_all (at_root l.th.sig.sorts l.th.equations) l.args
      ≡ option_map (λ us. take l.i l.args ++ us) (innermost_all (at_root l.th.sig.sorts l.th.equations) (drop l.i l.args));
  normal : All (IsNormal l.th) (take l.i l.args);
}

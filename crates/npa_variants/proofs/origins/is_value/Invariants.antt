use Rattle.std.proofs.Common.{◌≡◌, drop}
use Rattle.npa_term.specs.declared.term.Term.TheVariants.{Var}
use Rattle.npa_variants.specs.Rows.{is_among}
use Rattle.npa_variants.proofs.origins.is_value.Given as goal

abbrev pub invariant-loop-t : goal.invariant-loop-t
invariant-loop-t l = is_among (drop l.t-index l.values) (Var l.v) ≡ is_among l.values (Var l.v)

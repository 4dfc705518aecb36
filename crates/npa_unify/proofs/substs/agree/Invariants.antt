use Rattle.std.proofs.Common.{◌≡◌, drop}
use Rattle.std.specs.List.{list_all}
use Rattle.npa_term.specs.Computed.{is_same}
use Rattle.npa_term.specs.Parts.{image}
use Rattle.npa_unify.proofs.substs.agree.Given as goal

abbrev pub invariant-loop-v : goal.invariant-loop-v
invariant-loop-v l = list_all (λ b. is_same (image l.s b.0) (image l.u b.0)) (drop l.v-index l.bindings) ≡ list_all (λ b. is_same (image l.s b.0) (image l.u b.0)) l.bindings

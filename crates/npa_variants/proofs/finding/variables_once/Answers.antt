use Rattle.std.proofs.Common.{◌≡◌, ◌≤◌, map, take, length, ◌∙◌, ap, arith}
use Rattle.std.proofs.lemmas.Grind.{common_steps}
use Rattle.npa_term.specs.declared.term.Var.{Var as Variable}
use Rattle.npa_term.specs.declared.term.Term.{Term}
use Rattle.npa_term.specs.Numbering.{numbered, variables_once}
use Rattle.npa_variants.proofs.Distinct.{firsts}
use Rattle.npa_variants.proofs.finding.variables_once.Goals as goal

pub returns : goal.returns
returns c =
    let items = c.as_slice-v-items.result.now in
    let ended : length items ≤ c.loop-v.v-index = omega (arith, c.loop-v-test.false) in
    let all : take c.loop-v.v-index items ≡ items = grind (arith, common_steps) in
    let bound : items ≡ numbered 0 (variables_once c.args.terms.now) = grind (arith, common_steps) in
    record { vars = c.loop-v.invariant ∙ ap (map (λ (b : Variable × Term). b.0)) (all ∙ bound) ∙ firsts 0 (variables_once c.args.terms.now) }

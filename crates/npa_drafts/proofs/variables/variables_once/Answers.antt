use Rattle.std.proofs.Common.{◌≡◌, ◌≤◌, map, take, length, sym, ◌∙◌, ap, subst, arith}
use Rattle.std.proofs.lemmas.Grind.{common_steps}
use Rattle.npa_term.specs.declared.term.Var.{Var as Variable}
use Rattle.npa_term.specs.declared.term.Term.{Term}
use Rattle.npa_term.specs.Numbering.{numbered, variables_once}
use Rattle.npa_variants.specs.Told.{AreDistinct}
use Rattle.npa_variants.proofs.Distinct.{firsts, once_distinct}
use Rattle.npa_moves.specs.Finishing.{pattern_terms}
use Rattle.npa_drafts.proofs.Occurring.{once_of}
use Rattle.npa_drafts.proofs.variables.variables_once.Goals as goal

pub returns : goal.returns
returns c =
    let items = c.as_slice-v-items.result.now in
    let terms = pattern_terms c.args.g.now in
    let ended : length items ≤ c.loop-v.v-index = omega (arith, c.loop-v-test.false) in
    let all : take c.loop-v.v-index items ≡ items = grind (arith, common_steps) in
    let bound : items ≡ numbered 0 (variables_once terms) = grind (arith, common_steps) in
    let is : c.loop-v.vars.items ≡ variables_once terms = c.loop-v.invariant ∙ ap (map (λ (b : Variable × Term). b.0)) (all ∙ bound) ∙ firsts 0 (variables_once terms) in
    record { variables = is ∙ once_of c.args.g.now; once = subst AreDistinct (sym is) (once_distinct terms) }

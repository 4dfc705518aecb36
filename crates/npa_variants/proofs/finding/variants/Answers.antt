use Rattle.std.proofs.Common.{length, arith}
use Rattle.npa_term.specs.Numbering.{variables_once}
use Rattle.npa_variants.specs.Search.{start_row, variants_of}
use Rattle.npa_variants.proofs.Answering.{few_told}
use Rattle.npa_variants.proofs.Few.{variants_few}
use Rattle.npa_variants.proofs.Promises.{promised}
use Rattle.npa_variants.proofs.finding.variants.Goals as goal

pub returns-clause-few : goal.returns-clause-few
returns-clause-few c =
    let th = c.args.th.now in
    let terms = c.args.terms.now in
    few_told (variables_once terms) c.found.result (variants_of th terms) c.found.ensures
    (variants_few 64 th (length (variables_once terms)) (start_row th (variables_once terms) terms) (omega arith))

pub returns-clause-complete : goal.returns-clause-complete
returns-clause-complete c = λ given. promised c.args.th.now c.args.terms.now given c.found.result c.found.ensures

use Rattle.std.proofs.Common.{◌≡◌, ◌∙◌, ◌-◌, ◌≤◌, ap, drop, length, arith}
use Rattle.npa_syntax.specs.Languages.{language}
use Rattle.npa_text.specs.Parses.{terminals_from}
use Rattle.npa_text.proofs.Fronts.{few}
use Rattle.npa_text.proofs.TermFronts.{term_fault, count_within, has_tree, term_found}
use Rattle.npa_text.proofs.term_reader.raw_term.Goals as goal

pub terminals_from-requires : goal.terminals_from-requires
terminals_from-requires c = few c.args.bytes.now _ c.as_slice.result.now _ c.requires.tokens c.as_slice.ensures c.requires.bytes

pub returns-in-Err-Syntax-clause-fault : goal.returns-in-Err-Syntax-clause-fault
returns-in-Err-Syntax-clause-fault c =
    let same : c.as_slice.result.now ≡ c.as_slice-in-Err-Syntax.result.now = cc in
    let made : c.as_slice-2.result.now ≡ terminals_from c.args.at.now c.args.bytes.now (drop c.args.at.now c.as_slice-in-Err-Syntax.result.now) =
    c.as_slice-2.ensures.value ∙ c.in_ok-terminals.ensures ∙ ap (λ ts. terminals_from c.args.at.now c.args.bytes.now (drop c.args.at.now ts)) same in
    term_fault (language c.term_grammar.result) c.args.bytes.now c.args.tokens.now c.as_slice-in-Err-Syntax.result.now c.args.at.now c.as_slice-2.result.now c.term_grammar.ensures
    c.as_slice-in-Err-Syntax.ensures made c.in-Err-Syntax.field-0 c.in-Err-Syntax.passed c.fault_at.result c.in-Err-Syntax.ensures.fault c.in-Err-Syntax.ensures.only c.in-Err-Syntax.field-0-is (rw c.in-Err-Syntax.passed-is at c.fault_at.ensures)

pub bounds-as_slice-0 : goal.bounds-as_slice-0
bounds-as_slice-0 c =
    let made : c.as_slice-2.result.now ≡ terminals_from c.args.at.now c.args.bytes.now (drop c.args.at.now c.as_slice.result.now) =
    c.as_slice-2.ensures.value ∙ c.in_ok-terminals.ensures in
    let tree = has_tree (language c.term_grammar.result) c.args.bytes.now c.args.tokens.now c.as_slice.result.now c.args.at.now c.as_slice-2.result.now c.term_grammar.ensures
    c.as_slice.ensures made c.in-Ok.nodes c.in-Ok.count c.in-Ok.ensures.found in
    omega (arith, ap length c.as_slice-in-Ok.ensures, ap length tree.1)

pub overflow_cast-at : goal.overflow_cast-at
overflow_cast-at c =
    let made : c.as_slice-2.result.now ≡ terminals_from c.args.at.now c.args.bytes.now (drop c.args.at.now c.as_slice.result.now) =
    c.as_slice-2.ensures.value ∙ c.in_ok-terminals.ensures in
    let within : c.in-Ok.count ≤ length c.args.tokens.now - c.args.at.now =
    count_within (language c.term_grammar.result) c.args.bytes.now c.args.tokens.now c.as_slice.result.now c.args.at.now c.as_slice-2.result.now c.term_grammar.ensures
    c.as_slice.ensures made c.in-Ok.nodes c.in-Ok.count c.in-Ok.ensures.found in
    let few_tokens : length c.as_slice.result.now ≤ 1048576 = few c.args.bytes.now _ c.as_slice.result.now _ c.requires.tokens c.as_slice.ensures c.requires.bytes in
    omega (arith, ap length c.as_slice.ensures)

pub returns-clause-found : goal.returns-clause-found
returns-clause-found c =
    let made : c.as_slice-2.result.now ≡ terminals_from c.args.at.now c.args.bytes.now (drop c.args.at.now c.as_slice.result.now) =
    c.as_slice-2.ensures.value ∙ c.in_ok-terminals.ensures in
    term_found (language c.term_grammar.result) c.args.bytes.now c.args.tokens.now c.as_slice.result.now c.args.at.now c.as_slice-2.result.now c.term_grammar.ensures
    c.as_slice.ensures made c.in-Ok.nodes c.as_slice-in-Ok.result.now c.in-Ok.count c.index-as_slice-0.result c.in_ok-term-in-Ok.term c.in-Ok.ensures.found c.as_slice-in-Ok.ensures
    c.index-as_slice-0.is c.in_ok-term-in-Ok.ensures

use Rattle.std.proofs.Common.{◌≡◌, ◌∙◌, ap, Ok, Err}
use Rattle.npa_syntax.specs.Languages.{language}
use Rattle.npa_text.specs.declared.fault.TextFault.TheVariants.{Syntax}
use Rattle.npa_text.specs.Parses.{terminals_from}
use Rattle.npa_text.proofs.FirstFaults.{refuses_there}
use Rattle.npa_text.proofs.Fronts.{few, grammar_fault, token_fault, text_found}
use Rattle.npa_text.proofs.Sizes.{few_trees}
use Rattle.npa_text.proofs.parser.parse.Goals as goal

pub terminals_from-requires : goal.terminals_from-requires
terminals_from-requires c =
    let given : c.as_slice.result.now ≡ c.in_ok-tokens.field-0.tokens = cc in
    few c.args.bytes.now _ c.as_slice.result.now _ c.in_ok-tokens.ensures.rule given c.requires

pub returns-in-Err-Syntax-clause-fault : goal.returns-in-Err-Syntax-clause-fault
returns-in-Err-Syntax-clause-fault c =
    let given : c.as_slice-in-Err-Syntax.result.now ≡ c.in_ok-tokens.field-0.tokens = cc in
    let same : c.as_slice.result.now ≡ c.as_slice-in-Err-Syntax.result.now = cc in
    let terminals : c.as_slice-2.result.now ≡ terminals_from 0 c.args.bytes.now c.as_slice-in-Err-Syntax.result.now =
    c.as_slice-2.ensures.value ∙ c.in_ok-terminals.ensures ∙ ap (terminals_from 0 c.args.bytes.now) same in
    grammar_fault (language c.args.grammar.now) c.args.bytes.now c.in_ok-tokens.field-0.tokens c.as_slice-in-Err-Syntax.result.now c.as_slice-2.result.now
    c.in_ok-tokens.field-0.fault c.in-Err-Syntax.field-0 c.in-Err-Syntax.at c.fault_at.result
    c.in_ok-tokens.ensures.rule given terminals c.in-Err-Syntax.ensures.fault c.in-Err-Syntax.field-0-is c.fault_at.ensures

pub returns-in-Err-Syntax-clause-refuses : goal.returns-in-Err-Syntax-clause-refuses
returns-in-Err-Syntax-clause-refuses c = refuses_there (language c.args.grammar.now) c.args.bytes.now (Err c.fault_at.result) tt (returns-in-Err-Syntax-clause-fault c)

pub returns-in-Some-clause-fault : goal.returns-in-Some-clause-fault
returns-in-Some-clause-fault c =
    let given : c.as_slice.result.now ≡ c.in_ok-tokens.field-0.tokens = cc in
    let terminals : c.as_slice-2.result.now ≡ terminals_from 0 c.args.bytes.now c.as_slice.result.now = c.as_slice-2.ensures.value ∙ c.in_ok-terminals.ensures in
    token_fault (language c.args.grammar.now) c.args.bytes.now c.in_ok-tokens.field-0.tokens c.as_slice.result.now c.as_slice-2.result.now
    c.in_ok-tokens.field-0.fault c.in-Some.field-0 c.in-Ok.nodes
    c.in_ok-tokens.ensures.rule given terminals c.in-Ok.ensures.found c.in-Some.is

pub returns-in-Some-clause-refuses : goal.returns-in-Some-clause-refuses
returns-in-Some-clause-refuses c =
    refuses_there (language c.args.grammar.now) c.args.bytes.now (Err (Syntax c.in-Some.field-0.line c.in-Some.field-0.col)) tt (returns-in-Some-clause-fault c)

pub returns-clause-refuses : goal.returns-clause-refuses
returns-clause-refuses c =
    let given : c.as_slice.result.now ≡ c.in_ok-tokens.field-0.tokens = cc in
    let terminals : c.as_slice-2.result.now ≡ terminals_from 0 c.args.bytes.now c.as_slice.result.now = c.as_slice-2.ensures.value ∙ c.in_ok-terminals.ensures in
    let text = text_found (language c.args.grammar.now) c.args.bytes.now c.in_ok-tokens.field-0.tokens c.as_slice.result.now c.as_slice-2.result.now c.in_ok-tokens.field-0.fault c.in-Ok.nodes
    c.in_ok-tokens.ensures.rule given terminals c.in-Ok.ensures.found c.in-None.is in
    refuses_there (language c.args.grammar.now) c.args.bytes.now (Ok (record { tokens = c.in_ok-tokens.field-0.tokens; nodes = c.in-Ok.nodes })) text tt

pub returns-clause-few : goal.returns-clause-few
returns-clause-few c =
    let given : c.as_slice.result.now ≡ c.in_ok-tokens.field-0.tokens = cc in
    let terminals : c.as_slice-2.result.now ≡ terminals_from 0 c.args.bytes.now c.as_slice.result.now = c.as_slice-2.ensures.value ∙ c.in_ok-terminals.ensures in
    few_trees (language c.args.grammar.now) c.args.bytes.now c.in_ok-tokens.field-0.tokens c.as_slice.result.now c.as_slice-2.result.now
    c.in_ok-tokens.field-0.fault c.in-Ok.nodes
    c.in_ok-tokens.ensures.rule given terminals c.in-Ok.ensures.found c.requires

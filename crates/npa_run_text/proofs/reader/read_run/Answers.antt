use Rattle.std.proofs.Common.{◌≡◌, ◌∙◌}
use Rattle.npa_syntax.specs.Languages.{language}
use Rattle.npa_text.specs.Languages.{run_language}
use Rattle.npa_reading.proofs.Answering.{parsed_answer, parsed_only, stopped_answer, stopped_only}
use Rattle.npa_run_text.specs.RunTexts.{run_reader}
use Rattle.npa_run_text.proofs.RunLaws.{same_fail}
use Rattle.npa_run_text.proofs.reader.read_run.Goals as goal

pub returns-in-Ok-clause-answer : goal.returns-in-Ok-clause-answer
returns-in-Ok-clause-answer c =
    let nodes : c.as_slice.result.now ≡ c.in-Ok.field-0.nodes = cc in
    parsed_answer run_language (run_reader c.args.protocol.now c.args.bytes.now) c.args.bytes.now (language c.run_grammar.result) c.run_grammar.ensures c.parse.result c.in-Ok.field-0 c.in-Ok.is
    c.as_slice.result.now nodes c.read_tree.result c.read_tree.ensures c.in-Ok.ensures.found

pub returns-in-Ok-clause-only : goal.returns-in-Ok-clause-only
returns-in-Ok-clause-only c =
    let nodes : c.as_slice.result.now ≡ c.in-Ok.field-0.nodes = cc in
    parsed_only run_language (run_reader c.args.protocol.now c.args.bytes.now) c.args.bytes.now (language c.run_grammar.result) c.run_grammar.ensures c.parse.result c.in-Ok.field-0 c.in-Ok.is
    c.as_slice.result.now nodes c.read_tree.result c.read_tree.ensures c.parse.ensures.only c.parse.ensures.refuses

pub returns-in-Err-clause-answer : goal.returns-in-Err-clause-answer
returns-in-Err-clause-answer c =
    stopped_answer run_language (run_reader c.args.protocol.now c.args.bytes.now) c.args.bytes.now (language c.run_grammar.result) c.run_grammar.ensures c.parse.result c.in-Err.fault c.in-Err.is
    c.fail_of.result (c.fail_of.ensures ∙ same_fail c.args.protocol.now c.args.bytes.now c.in-Err.fault) c.parse.ensures.fault

pub returns-in-Err-clause-only : goal.returns-in-Err-clause-only
returns-in-Err-clause-only c =
    stopped_only run_language (run_reader c.args.protocol.now c.args.bytes.now) c.args.bytes.now (language c.run_grammar.result) c.run_grammar.ensures c.parse.result c.in-Err.fault c.in-Err.is
    c.fail_of.result (c.fail_of.ensures ∙ same_fail c.args.protocol.now c.args.bytes.now c.in-Err.fault) c.parse.ensures.only c.parse.ensures.refuses

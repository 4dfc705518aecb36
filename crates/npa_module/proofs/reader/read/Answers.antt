use Rattle.std.proofs.Common.{◌∙◌}
use Rattle.npa_syntax.specs.Languages.{language}
use Rattle.npa_text.specs.Languages.{module_language}
use Rattle.npa_reading.proofs.Answering.{parsed_answer, parsed_only, stopped_answer, stopped_only}
use Rattle.npa_module.specs.Modules.{module_reader}
use Rattle.npa_module.proofs.Answered.{formed_answer, plain_answer, named_answer, within_answer, small_answer, same_refusal}
use Rattle.npa_module.proofs.reader.read.Goals as goal

pub returns-in-Ok-clause-answer : goal.returns-in-Ok-clause-answer
returns-in-Ok-clause-answer c =
    parsed_answer module_language (module_reader c.args.bytes.now) c.args.bytes.now (language c.module_grammar.result) c.module_grammar.ensures c.parse.result c.in-Ok.field-0 c.in-Ok.is
    c.as_slice.result.now c.as_slice.ensures c.read_nodes.result c.read_nodes.ensures c.in-Ok.ensures.found

pub returns-in-Ok-clause-only : goal.returns-in-Ok-clause-only
returns-in-Ok-clause-only c =
    parsed_only module_language (module_reader c.args.bytes.now) c.args.bytes.now (language c.module_grammar.result) c.module_grammar.ensures c.parse.result c.in-Ok.field-0 c.in-Ok.is
    c.as_slice.result.now c.as_slice.ensures c.read_nodes.result c.read_nodes.ensures c.parse.ensures.only c.parse.ensures.refuses

pub returns-in-Err-clause-answer : goal.returns-in-Err-clause-answer
returns-in-Err-clause-answer c =
    stopped_answer module_language (module_reader c.args.bytes.now) c.args.bytes.now (language c.module_grammar.result) c.module_grammar.ensures c.parse.result c.in-Err.fault c.in-Err.is
    c.text_refusal.result (c.text_refusal.ensures ∙ same_refusal c.args.bytes.now c.in-Err.fault) c.parse.ensures.fault

pub returns-in-Err-clause-only : goal.returns-in-Err-clause-only
returns-in-Err-clause-only c =
    stopped_only module_language (module_reader c.args.bytes.now) c.args.bytes.now (language c.module_grammar.result) c.module_grammar.ensures c.parse.result c.in-Err.fault c.in-Err.is
    c.text_refusal.result (c.text_refusal.ensures ∙ same_refusal c.args.bytes.now c.in-Err.fault) c.parse.ensures.only c.parse.ensures.refuses

pub returns-in-Ok-clause-form : goal.returns-in-Ok-clause-form
returns-in-Ok-clause-form c = formed_answer c.args.bytes.now c.read_nodes.result (returns-in-Ok-clause-answer c)

pub returns-in-Ok-clause-plain : goal.returns-in-Ok-clause-plain
returns-in-Ok-clause-plain c = plain_answer c.args.bytes.now c.read_nodes.result c.requires (returns-in-Ok-clause-answer c)

pub returns-in-Ok-clause-named : goal.returns-in-Ok-clause-named
returns-in-Ok-clause-named c = named_answer c.args.bytes.now c.read_nodes.result c.requires (returns-in-Ok-clause-answer c)

pub returns-in-Ok-clause-within : goal.returns-in-Ok-clause-within
returns-in-Ok-clause-within c = within_answer c.args.bytes.now c.read_nodes.result c.requires (returns-in-Ok-clause-answer c)

pub returns-in-Ok-clause-small : goal.returns-in-Ok-clause-small
returns-in-Ok-clause-small c = small_answer c.args.bytes.now c.read_nodes.result c.requires (returns-in-Ok-clause-answer c)

use Rattle.npa_syntax.specs.Languages.{language}
use Rattle.npa_syntax.proofs.Laws.{found_of, only_of, fault_of_all}
use Rattle.npa_syntax.proofs.reader.read_front.Goals as goal

pub returns-clause-found : goal.returns-clause-found
returns-clause-found c = found_of (language c.args.grammar.now) c.args.grammar.now.decided c.args.grammar.now.productive c.args.terminals.now c.read_parts.result c.read_parts.ensures

pub returns-clause-only : goal.returns-clause-only
returns-clause-only c = record { every = only_of (language c.args.grammar.now) c.args.grammar.now.decided c.args.grammar.now.productive c.args.terminals.now c.read_parts.result c.read_parts.ensures }

pub returns-clause-fault : goal.returns-clause-fault
returns-clause-fault c = fault_of_all (language c.args.grammar.now) c.args.grammar.now.decided c.args.grammar.now.productive c.args.terminals.now c.read_parts.result c.read_parts.ensures

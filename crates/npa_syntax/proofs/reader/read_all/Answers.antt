use Rattle.npa_syntax.specs.Languages.{language}
use Rattle.npa_syntax.proofs.Laws.{only_fault, front_fault, front_whole, only_short, only_whole}
use Rattle.npa_syntax.proofs.reader.read_all.Goals as goal

pub returns-in-Err-clause-only : goal.returns-in-Err-clause-only
returns-in-Err-clause-only c = record { every = only_fault (language c.args.grammar.now) c.args.terminals.now c.in-Err.fault c.in-Err.ensures.only.every }

pub returns-then-end-terminals-clause-only : goal.returns-then-end-terminals-clause-only
returns-then-end-terminals-clause-only c =
    record { every = only_short (language c.args.grammar.now) c.args.terminals.now c.in-Ok.read.0 c.in-Ok.read.1 c.if-end-terminals.true c.in-Ok.ensures.only.every }

pub returns-then-end-terminals-clause-fault : goal.returns-then-end-terminals-clause-fault
returns-then-end-terminals-clause-fault c =
    front_fault (language c.args.grammar.now) c.args.terminals.now c.in-Ok.read.0 c.in-Ok.read.1 c.in-Ok.ensures.found c.if-end-terminals.true

pub returns-clause-found : goal.returns-clause-found
returns-clause-found c =
    front_whole (language c.args.grammar.now) c.args.terminals.now c.in-Ok.read.0 c.in-Ok.read.1 c.in-Ok.ensures.found c.if-end-terminals.false

pub returns-clause-only : goal.returns-clause-only
returns-clause-only c =
    record { every = only_whole (language c.args.grammar.now) c.args.terminals.now c.in-Ok.read.0 c.in-Ok.read.1 c.in-Ok.ensures.only.every }

use Rattle.std.proofs.Common.{◌+◌, map, length, get_or, sym, ◌∙◌, arith}
use Rattle.npa_syntax.specs.declared.production.Occurrence.TheVariants.{Once}
use Rattle.npa_syntax.specs.Tables.{plain, piece, rules_of}
use Rattle.npa_syntax.specs.Answers.{ReadsBetween}
use Rattle.npa_syntax.proofs.Reading.{left_out, fault_at, taken_at, fault_passed, all_read, passed_along}
use Rattle.npa_syntax.proofs.reader.+read_parts.Goals as goal

pub returns-in-Err : goal.returns-in-Err
returns-in-Err t c =
    fault_passed (rules_of (map plain c.args.grammar.now.productions.now) c.args.grammar.now.nesting) c.args.room c.args.parts.now c.args.terminals.now c.args.from
    c.loop-next.nodes c.loop-next.next c.loop-next.at (record { symbol = 0; occurs = Once }) c.loop-next-test.true c.loop-next.invariant.pending
    c.in-Some.opening c.in-Some.ensures c.loop-next.invariant.forward c.in-Err.fault c.in-Err.ensures

pub loop-next-preserved-in-Some : goal.loop-next-preserved-in-Some
loop-next-preserved-in-Some t c =
    let inner : ReadsBetween (rules_of (map plain c.args.grammar.now.productions.now) c.args.grammar.now.nesting)
    (map (piece c.in-Some.opening.room) c.in-Some.opening.parts.now) c.args.terminals.now (c.loop-next.at + 1) c.in-Ok.read.0 c.in-Ok.read.1 = c.in-Ok.ensures in
    record {
      forward = omega (arith, inner.forward, c.loop-next.invariant.forward);
      within = inner.within;
      along = passed_along (get_or c.args.parts.now c.loop-next.next (record { symbol = 0; occurs = Once })).occurs c.loop-next.next (length c.args.parts.now)
          c.passed-next.result c.loop-next-test.true c.passed-next.ensures;
      pending = taken_at (rules_of (map plain c.args.grammar.now.productions.now) c.args.grammar.now.nesting) c.args.room c.args.parts.now c.args.terminals.now c.args.from
          c.loop-next.nodes c.loop-next.next c.loop-next.at (record { symbol = 0; occurs = Once }) c.loop-next-test.true c.loop-next.invariant.pending
          c.in-Some.opening c.in-Some.ensures c.in-Ok.read.0 c.in-Ok.read.1 c.passed-next.result c.push.new.self inner c.passed-next.ensures c.in_ok-push-in-Some.ensures.ok;
    }

pub returns-then-is_needed : goal.returns-then-is_needed
returns-then-is_needed t c =
    fault_at (rules_of (map plain c.args.grammar.now.productions.now) c.args.grammar.now.nesting) c.args.room c.args.parts.now c.args.terminals.now c.args.from
    c.loop-next.nodes c.loop-next.next c.loop-next.at (record { symbol = 0; occurs = Once }) c.loop-next-test.true c.loop-next.invariant.pending
    c.loop-next.invariant.forward c.loop-next.invariant.within (sym c.is_needed.ensures ∙ c.if-is_needed.true) c.in-None.ensures

pub loop-next-preserved : goal.loop-next-preserved
loop-next-preserved t c = record {
  forward = c.loop-next.invariant.forward;
  within = c.loop-next.invariant.within;
  along = omega arith;
  pending = left_out (rules_of (map plain c.args.grammar.now.productions.now) c.args.grammar.now.nesting) c.args.room c.args.parts.now c.args.terminals.now c.args.from
      c.loop-next.nodes c.loop-next.next c.loop-next.at (record { symbol = 0; occurs = Once }) c.loop-next-test.true c.loop-next.invariant.pending
      (sym c.is_needed.ensures ∙ c.if-is_needed.false) c.in-None.ensures;
}

pub returns : goal.returns
returns t c =
    all_read (rules_of (map plain c.args.grammar.now.productions.now) c.args.grammar.now.nesting) c.args.room c.args.parts.now c.args.terminals.now c.args.from
    c.loop-next.nodes c.loop-next.next c.loop-next.at c.loop-next.invariant.forward c.loop-next.invariant.within c.loop-next-test.false c.loop-next.invariant.pending

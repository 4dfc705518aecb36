use Rattle.std.proofs.Common.{◌≡◌, false, None, map, ap, sym, ◌∙◌, arith}
use Rattle.std.specs.Option.{is_none}
use Rattle.std.proofs.lemmas.Grind.{common_steps}
use Rattle.npa_term.specs.Bound.{value_of}
use Rattle.npa_term.specs.Canonical.{canonical}
use Rattle.npa_term.specs.Composition.{first_past}
use Rattle.npa_term.proofs.CompositionLaws.{past_unbound_here, past_unbound_later, unbound_later}
use Rattle.npa_term.proofs.composition.first_large_unbound.Goals as goal
use Rattle.npa_term.proofs.composition.first_large_unbound.Goals.{then-is_none+else-count-gt-MAX_SYMBOLS, else-is_none}

pub returns-then-count-gt-MAX_SYMBOLS : goal.returns-then-count-gt-MAX_SYMBOLS
returns-then-count-gt-MAX_SYMBOLS c =
    let free : value_of c.args.first.now c.loop-v-item.result.0 ≡ None = grind (arith, common_steps) in
    sym (past_unbound_here c.args.first.now c.args.next.now c.loop-v.v-index _ c.loop-v-item.result c.loop-v-test.true c.loop-v-item.is free c.symbols-count.ensures c.if-count-gt-MAX_SYMBOLS.true)
    ∙ c.loop-v.invariant

pub loop-v-preserved : goal.loop-v-preserved
loop-v-preserved c =
    elim c.if-is_none.branch [
      | then-is_none+else-count-gt-MAX_SYMBOLS w ↦
          let free : value_of c.args.first.now c.loop-v-item.result.0 ≡ None = grind (arith, common_steps) in
          past_unbound_later c.args.first.now c.args.next.now c.loop-v.v-index _ c.loop-v-item.result c.loop-v-test.true c.loop-v-item.is free w.symbols-count.ensures w.if-count-gt-MAX_SYMBOLS.false
          ∙ c.loop-v.invariant
      | else-is_none w ↦
          let bound : is_none (value_of c.args.first.now c.loop-v-item.result.0) ≡ false = grind (arith, common_steps) in
          ap (λ bs. first_past 1024 (map (λ b. (b.0, canonical b.1)) bs)) (unbound_later c.args.first.now c.args.next.now c.loop-v.v-index c.loop-v-item.result c.loop-v-test.true c.loop-v-item.is bound)
          ∙ c.loop-v.invariant
    ]

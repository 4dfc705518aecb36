use Rattle.std.proofs.Common.{◌≡◌, length, sym, ◌∙◌, arith}
use Rattle.std.specs.Prelude.{nat_lt}
use Rattle.npa_unify.specs.Seen.{counts, raw}
use Rattle.npa_unify.proofs.Measuring.{counts_length, counts_past, find_here, find_later, find_none, past_limit, raw_length, within_limit}
use Rattle.npa_unify.proofs.sizes.first_large.Goals as goal

pub returns-then-count-gt-MAX_SYMBOLS : goal.returns-then-count-gt-MAX_SYMBOLS
returns-then-count-gt-MAX_SYMBOLS c =
    let ns = counts (raw c.args.bound.now) in
    let count = c.value_size-count.result in
    sym (counts_past (raw c.args.bound.now) c.requires.sound
    ∙ sym c.loop-at.invariant.rest
    ∙ find_here (λ n. nat_lt 1024 n) ns c.loop-at.at count c.value_size-count.ensures.value (past_limit count (omega (arith, c.if-count-gt-MAX_SYMBOLS.true))))

pub loop-at-preserved : goal.loop-at-preserved
loop-at-preserved c =
    let ns = counts (raw c.args.bound.now) in
    let count = c.value_size-count.result in record {
      known = c.value_size-count.ensures.known;
      rest = sym (find_later (λ n. nat_lt 1024 n) ns c.loop-at.at count c.value_size-count.ensures.value (within_limit count (omega (arith, c.if-count-gt-MAX_SYMBOLS.false)))) ∙ c.loop-at.invariant.rest;
    }

pub returns : goal.returns
returns c =
    let ns = counts (raw c.args.bound.now) in
    let long : length ns ≡ length (raw c.args.bound.now) = counts_length (raw c.args.bound.now) (raw c.args.bound.now) in
    let short : length (raw c.args.bound.now) ≡ length c.args.bound.now = raw_length c.args.bound.now in
    sym (counts_past (raw c.args.bound.now) c.requires.sound
    ∙ sym c.loop-at.invariant.rest
    ∙ find_none (λ n. nat_lt 1024 n) ns c.loop-at.at (omega (arith, long, short, c.loop-at-test.false)))

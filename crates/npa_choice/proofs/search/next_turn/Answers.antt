use Rattle.std.proofs.Common.{◌≡◌, Some, None, slice_get, length, refl, sym, subst, arith}
use Rattle.std.proofs.lemmas.Option.{slice_get_read}
use Rattle.npa_choice.specs.Partial.{IsTurn, NoneOpen}
use Rattle.npa_choice.proofs.Completing.{none_completes, turn_is}
use Rattle.npa_choice.proofs.search.next_turn.Goals as goal

pub returns-then-count-eq0 : goal.returns-then-count-eq0
returns-then-count-eq0 c =
    let o = c.args.sorts.now in
    let askers = c.args.askers.now in
    let choice = c.args.choice.now in
    let waits : slice_get choice.chosen c.loop-k.k ≡ Some None = c.is_waiting.ensures.0 c.if-is_waiting.true in
    let asker = slice_get_read askers (length askers) c.loop-k.k c.index-askers-k.result refl c.loop-k-test.true c.index-askers-k.is in
    none_completes askers o choice c.requires c.loop-k.k waits c.index-askers-k.result asker
    (subst (λ fs. NoneOpen o choice fs) c.as_slice.ensures (c.in_ok-count.ensures.none c.if-count-eq0.true))

pub returns : goal.returns
returns c =
    let o = c.args.sorts.now in
    let askers = c.args.askers.now in
    let choice = c.args.choice.now in
    subst (λ turn. IsTurn o askers choice turn) (sym c.turn_of.ensures)
    (turn_is askers o choice c.requires c.loop-k.k (omega (arith, c.loop-k-test.false, c.loop-k.auto.k-end)) c.loop-k.first c.loop-k.invariant.none c.loop-k.invariant.some)

use Rattle.std.proofs.Common.{ℕ, List, ◌+◌, ◌<◌, length, get_or, drop, take, Contains, refl, sym, ◌∙◌, subst, arith}
use Rattle.npa_model.proofs.Comparing.{untrue, denied, all_done}
use Rattle.npa_model.proofs.Picking.{picks_none, picks_here, picks_fail, Hopeless, hopeless_more, used_hopeless, rest_hopeless}
use Rattle.npa_model.proofs.meeting.+can_pick.Goals.{then-not-is_used+in_ok-more+in_ok-rest+else-rest, else-not-is_used}
use Rattle.npa_model.proofs.meeting.+can_pick.Goals as goal

pub returns-then-k-rows : goal.returns-then-k-rows
returns-then-k-rows t c = (λ i. picks_none c.args.rows.now c.args.k c.args.used.now (omega (arith, c.if-k-rows.true)), λ can. refl)

pub returns-then-rest : goal.returns-then-rest
returns-then-rest t c =
    let l : c.args.k < length c.args.rows.now = omega (arith, c.if-k-rows.false, c.requires) in (
      λ i. picks_here c.args.rows.now c.args.k c.index-rows-k.result c.as_slice-n-items.result.now c.args.used.now c.as_slice.result.now c.as_slice-then-not-is_used.result.now c.in_ok-more.more c.loop-n.n-index l c.index-rows-k.is c.as_slice-n-items.ensures c.loop-n-test.true
          c.as_slice.ensures (denied c.is_used.result c.is_used.ensures c.if-not-is_used.true) c.as_slice-then-not-is_used.ensures c.in_ok-more.ensures (c.in_ok-rest.ensures.0 c.if-rest.true),
      λ can. refl,
    )

pub loop-n-preserved : goal.loop-n-preserved
loop-n-preserved t c =
    hopeless_more (drop (c.args.k + 1) c.args.rows.now) c.as_slice-n-items.result.now c.args.used.now c.loop-n.n-index c.loop-n-test.true
    (elim c.if-not-is_used.branch [
      | then-not-is_used+in_ok-more+in_ok-rest+else-rest w ↦
          rest_hopeless (drop (c.args.k + 1) c.args.rows.now) c.args.used.now w.as_slice-then-not-is_used.result.now w.in_ok-more.more (get_or c.as_slice-n-items.result.now c.loop-n.n-index 0) w.as_slice-then-not-is_used.ensures w.in_ok-more.ensures (denied w.in_ok-rest.rest w.in_ok-rest.ensures w.if-rest.false)
      | else-not-is_used w ↦
          used_hopeless (drop (c.args.k + 1) c.args.rows.now) c.args.used.now c.as_slice.result.now (get_or c.as_slice-n-items.result.now c.loop-n.n-index 0) c.as_slice.ensures (c.is_used.ensures.0 w.if-not-is_used.false)
    ])
    c.loop-n.invariant

pub returns : goal.returns
returns t c =
    let l : c.args.k < length c.args.rows.now = omega (arith, c.if-k-rows.false, c.requires) in (
      λ i. absurd (untrue i),
      λ can. absurd (picks_fail c.args.rows.now c.args.k c.index-rows-k.result c.args.used.now l c.index-rows-k.is
          (subst (λ (row : List ℕ). (n : ℕ) → Contains row n → Hopeless (drop (c.args.k + 1) c.args.rows.now) c.args.used.now n) c.as_slice-n-items.ensures
          (all_done (Hopeless (drop (c.args.k + 1) c.args.rows.now) c.args.used.now) c.as_slice-n-items.result.now c.loop-n.n-index c.loop-n-test.false c.loop-n.invariant)) can),
    )

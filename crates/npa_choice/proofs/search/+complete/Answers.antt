use Rattle.std.proofs.Common.{◌≡◌, ◌<◌, Some, None, slice_get, length, refl, sym, ap, subst, arith, rules}
use Rattle.std.proofs.lemmas.Option.{slice_get_read, slice_get_within}
use Rattle.npa_match.specs.Matching.{bound_pairs}
use Rattle.npa_choice.specs.Partial.{HasCompletion, NoneWaits, waiting}
use Rattle.npa_choice.proofs.Completing.{completed_choice, witnessed_once, held_next, tried_next, all_tried, closed_tried}
use Rattle.npa_choice.proofs.Places.{waits_less}
use Rattle.npa_choice.proofs.search.+complete.Goals.{in-Some+in_ok-found+in_default-2, in_default}
use Rattle.npa_choice.proofs.search.+complete.Goals as goal

pub returns-in-Done-clause-choice : goal.returns-in-Done-clause-choice
returns-in-Done-clause-choice t c =
    let none : NoneWaits c.args.choice.now.chosen = rw c.in-Done.is at c.in_ok-next_turn.ensures in
    completed_choice c.args.askers.now c.args.sorts.now c.args.choice.now c.requires none _ _ c.in_ok-completed-in-Done.ensures.offers (ap bound_pairs c.in_ok-completed-in-Done.ensures.bound)

pub returns-in-Done-clause-once : goal.returns-in-Done-clause-once
returns-in-Done-clause-once t c =
    let once = witnessed_once c.args.askers.now c.args.sorts.now c.args.choice.now c.requires.witnessed in
    rw c.in_ok-completed-in-Done.ensures.bound once

pub bounds-askers-k : goal.bounds-askers-k
bounds-askers-k t c =
    let waits : slice_get c.args.choice.now.chosen c.in-Next.k ≡ Some None = rw c.in-Next.is at c.in_ok-next_turn.ensures in
    let l = slice_get_within c.args.choice.now.chosen c.in-Next.k None waits in
    omega (arith, l, c.requires.as_many)

pub add_offer-requires-clause-within : goal.add_offer-requires-clause-within
add_offer-requires-clause-within t c =
    let waits : slice_get c.args.choice.now.chosen c.in-Next.k ≡ Some None = rw c.in-Next.is at c.in_ok-next_turn.ensures in
    slice_get_within c.args.choice.now.chosen c.in-Next.k None waits

pub complete-requires : goal.complete-requires
complete-requires t c =
    let choice = c.args.choice.now in
    let askers = c.args.askers.now in
    let waits : slice_get choice.chosen c.in-Next.k ≡ Some None = rw c.in-Next.is at c.in_ok-next_turn.ensures in
    let l = slice_get_within choice.chosen c.in-Next.k None waits in
    let asker = slice_get_read askers (length askers) c.in-Next.k c.index-askers-k.result refl (omega (arith, l, c.requires.as_many)) c.index-askers-k.is in
    let here = slice_get_read c.as_slice-offers.result.now (length c.as_slice-offers.result.now) c.loop-n.n c.index-offers-n.result refl (omega (arith, c.loop-n-test.true, c.loop-n.auto.n-end)) c.index-offers-n.is in
    let offer = rw c.as_slice-offers.ensures at here in
    let adds = rw c.in-Some.is at c.in_ok-more.ensures.added in
    let held = held_next askers c.args.sorts.now choice c.in-Some.more c.in-Next.k c.loop-n.n c.index-askers-k.result c.index-offers-n.result c.requires waits asker offer adds in
    let less : waiting c.in-Some.more.chosen < waiting choice.chosen = subst (λ xs. waiting xs < waiting choice.chosen) (sym adds.chosen) (waits_less choice.chosen c.in-Next.k c.loop-n.n waits) in
    (search rules, held)

pub loop-n-preserved : goal.loop-n-preserved
loop-n-preserved t c =
    let o = c.args.sorts.now in
    let choice = c.args.choice.now in
    let askers = c.args.askers.now in
    let waits : slice_get choice.chosen c.in-Next.k ≡ Some None = rw c.in-Next.is at c.in_ok-next_turn.ensures in
    let l = slice_get_within choice.chosen c.in-Next.k None waits in
    let asker = slice_get_read askers (length askers) c.in-Next.k c.index-askers-k.result refl (omega (arith, l, c.requires.as_many)) c.index-askers-k.is in
    let here = slice_get_read c.as_slice-offers.result.now (length c.as_slice-offers.result.now) c.loop-n.n c.index-offers-n.result refl (omega (arith, c.loop-n-test.true, c.loop-n.auto.n-end)) c.index-offers-n.is in
    let offer = rw c.as_slice-offers.ensures at here in
    tried_next askers o choice c.in-Next.k c.loop-n.n c.loop-n.invariant (elim c.match-branch-5.branch [
      | in-Some+in_ok-found+in_default-2 w ↦
          let adds = rw w.in-Some.is at c.in_ok-more.ensures.added in
          λ h. w.in_ok-found.ensures.none w.in_default-2.is (subst (λ xs. HasCompletion o askers xs) (sym adds.chosen) h)
      | in_default w ↦ closed_tried askers o choice c.requires c.in-Next.k waits c.index-askers-k.result asker c.loop-n.n c.index-offers-n.result offer (c.in_ok-more.ensures.closed w.in_default.is)
    ])

pub returns-clause-none : goal.returns-clause-none
returns-clause-none t c _ =
    let choice = c.args.choice.now in
    let askers = c.args.askers.now in
    let waits : slice_get choice.chosen c.in-Next.k ≡ Some None = rw c.in-Next.is at c.in_ok-next_turn.ensures in
    let l = slice_get_within choice.chosen c.in-Next.k None waits in
    let asker = slice_get_read askers (length askers) c.in-Next.k c.index-askers-k.result refl (omega (arith, l, c.requires.as_many)) c.index-askers-k.is in
    all_tried askers c.args.sorts.now choice c.requires c.in-Next.k waits c.index-askers-k.result asker c.loop-n.n
    (omega (arith, c.loop-n-test.false, c.loop-n.auto.n-end, ap length c.as_slice-offers.ensures)) c.loop-n.invariant

use Rattle.std.proofs.Common.{◌≡◌, ◌++◌, ◌∙◌, ap}
use Rattle.npa_match.specs.Matching.{read_pairs}
use Rattle.npa_replay.proofs.Holding.{both_read, held_more}
use Rattle.npa_replay.proofs.choice.take_target.Goals as goal

pub returns-clause-held : goal.returns-clause-held
returns-clause-held c =
    let o = c.args.scene.now.sorts.now in
    let choice = c.args.choice.now in
    let more = c.in_ok-more.more in
    let new : c.extend_from_slice.new.self ≡ choice.pairs ++ more =
    c.in_ok-extend_from_slice.ensures.ok ∙ ap (λ ps. c.in_ok-pairs.pairs ++ ps) c.as_slice-5.ensures ∙ ap (λ ps. ps ++ more) (c.in_ok-pairs.ensures ∙ c.as_slice-4.ensures) in
    let witness = rw (c.in-Some.is, c.as_slice-2.ensures) at c.in_ok-bound.ensures.found in
    held_more o choice c.requires.held _ (read_pairs more) (both_read choice.pairs more c.extend_from_slice.new.self new) witness
    (λ e. let x = c.stays_once-once.ensures e in (x.0, λ s. rw c.as_slice-6.ensures at (x.1 o s)))

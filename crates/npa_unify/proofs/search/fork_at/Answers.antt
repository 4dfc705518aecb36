use Rattle.std.proofs.Common.{◌∷◌, ◌∙◌, ap, arith}
use Rattle.npa_unify.specs.Seen.{raw, seen_all}
use Rattle.npa_unify.proofs.Following.{forked_copy, forked_copy_sound}
use Rattle.npa_unify.proofs.Outcomes.{on_ok}
use Rattle.npa_unify.proofs.search.fork_at.Goals as goal

pub returns-clause-all : goal.returns-clause-all
returns-clause-all c =
    let s = c.args.state.now in
    let two = forked_copy s.goals.items c.in_ok-from_slice.field-0.items s.bound.items c.in_ok-from_slice-2.field-0.items s.next c.args.v c.args.w _ _ _ (raw c.in_ok-first.first.bound.items)
    (c.in_ok-from_slice.ensures.items ∙ c.as_slice.ensures.value) (c.in_ok-from_slice-2.ensures.items ∙ c.as_slice-2.ensures.value) c.requires.low c.requires.own.0
    c.in_ok-first.ensures.seen c.in_ok-first.ensures.raw c.in_ok-second.ensures.seen (grind (arith, c.requires.room)) in
    on_ok c.wait.result (λ e. e ∙ ap (λ b. b ∷ seen_all c.args.waiting.now.items) two) c.wait.ensures.all

pub returns-clause-sound : goal.returns-clause-sound
returns-clause-sound c =
    let s = c.args.state.now in
    let new = forked_copy_sound s.bound.items c.in_ok-from_slice-2.field-0.items (raw c.in_ok-first.first.bound.items) (raw c.in_ok-second.second.bound.items) s.next c.args.v c.args.w _
    (c.in_ok-from_slice-2.ensures.items ∙ c.as_slice-2.ensures.value) c.requires.low c.requires.own.0 c.requires.own.1 c.requires.different c.requires.first c.requires.second c.requires.sound
    c.in_ok-first.ensures.raw c.in_ok-second.ensures.raw (grind (arith, c.requires.room)) in
    on_ok c.wait.result (λ f. f new) c.wait.ensures.sound

use Rattle.std.proofs.Common.{ℕ, ◌+◌, List, sym, ◌∙◌, subst}
use Rattle.npa_replay.specs.Choices.{HaveGroundTerms}
use Rattle.npa_replay.specs.declared.answer.Replay.TheVariants as replay
use Rattle.npa_replay.proofs.Judging.{steady_, stops, only_true, answers, only_answer, reaches, misses, misses_first}
use Rattle.npa_replay.proofs.replaying.replayed.Goals as goal

pub returns-in-Err-clause-answer : goal.returns-in-Err-clause-answer
returns-in-Err-clause-answer c =
    stops c.args.th.now c.requires.cancelling c.args.protocol.now c.requires.signature c.requires.protocol c.requires.convergent c.args.aim.now c.requires.aim c.args.run.now c.requires.run.terms
    c.in-Err.halt c.in-Err.ensures c.stopped.result c.stopped.ensures

pub returns-in-Err-clause-only : goal.returns-in-Err-clause-only
returns-in-Err-clause-only c =
    only_true c.args.th.now c.requires.cancelling c.args.protocol.now c.requires.signature c.requires.protocol c.requires.convergent c.args.aim.now c.requires.aim c.args.run.now c.requires.run.terms
    c.stopped.result (returns-in-Err-clause-answer c)

pub returns-then-not-branch-clause-answer : goal.returns-then-not-branch-clause-answer
returns-then-not-branch-clause-answer c =
    let steady = steady_ c.args.th.now c.requires.cancelling c.args.protocol.now c.requires.signature c.requires.protocol in
    answers c.args.th.now c.requires.cancelling c.args.protocol.now c.requires.signature c.requires.protocol c.requires.convergent c.args.aim.now c.requires.aim c.args.run.now c.requires.run.terms
    (replay.Misses 1)
    (misses_first c.args.th.now c.args.protocol.now c.requires.protocol steady c.args.aim.now c.requires.aim c.args.run.now c.in-Ok.state c.in-Ok.ensures
    (λ have. c.in_ok-have_ground_terms.ensures.none c.if-not-branch.true (subst (λ (ss : List ℕ). HaveGroundTerms c.args.protocol.now.sig ss) (sym c.as_slice.ensures) have)))

pub returns-then-not-branch-clause-only : goal.returns-then-not-branch-clause-only
returns-then-not-branch-clause-only c =
    only_answer c.args.th.now c.requires.cancelling c.args.protocol.now c.requires.signature c.requires.protocol c.requires.convergent c.args.aim.now c.requires.aim c.args.run.now c.requires.run.terms
    (replay.Misses 1) (returns-then-not-branch-clause-answer c)

pub returns-then-met-len-clause-answer : goal.returns-then-met-len-clause-answer
returns-then-met-len-clause-answer c =
    let steady = steady_ c.args.th.now c.requires.cancelling c.args.protocol.now c.requires.signature c.requires.protocol in
    answers c.args.th.now c.requires.cancelling c.args.protocol.now c.requires.signature c.requires.protocol c.requires.convergent c.args.aim.now c.requires.aim c.args.run.now c.requires.run.terms
    replay.Reaches
    (reaches c.args.th.now c.args.protocol.now c.requires.protocol steady c.args.aim.now c.requires.aim c.args.run.now c.in-Ok.state c.in-Ok.ensures c.requires.accepted
    (subst (λ (ss : List ℕ). HaveGroundTerms c.args.protocol.now.sig ss) c.as_slice.ensures (c.in_ok-have_ground_terms.ensures.all c.if-not-branch.false)) c.in_ok-met.met c.in_ok-met.ensures (c.if-met-len.true ∙ c.len.ensures))

pub returns-then-met-len-clause-only : goal.returns-then-met-len-clause-only
returns-then-met-len-clause-only c =
    only_answer c.args.th.now c.requires.cancelling c.args.protocol.now c.requires.signature c.requires.protocol c.requires.convergent c.args.aim.now c.requires.aim c.args.run.now c.requires.run.terms
    replay.Reaches (returns-then-met-len-clause-answer c)

pub returns-clause-answer : goal.returns-clause-answer
returns-clause-answer c =
    let steady = steady_ c.args.th.now c.requires.cancelling c.args.protocol.now c.requires.signature c.requires.protocol in
    answers c.args.th.now c.requires.cancelling c.args.protocol.now c.requires.signature c.requires.protocol c.requires.convergent c.args.aim.now c.requires.aim c.args.run.now c.requires.run.terms
    (replay.Misses (c.in_ok-met.met + 1))
    (misses c.args.th.now c.args.protocol.now c.requires.protocol steady c.args.aim.now c.requires.aim c.args.run.now c.in-Ok.state c.in-Ok.ensures c.requires.accepted
    (subst (λ (ss : List ℕ). HaveGroundTerms c.args.protocol.now.sig ss) c.as_slice.ensures (c.in_ok-have_ground_terms.ensures.all c.if-not-branch.false)) c.in_ok-met.met c.in_ok-met.ensures
    (λ e. c.if-met-len.false (e ∙ sym c.len.ensures)))

pub returns-clause-only : goal.returns-clause-only
returns-clause-only c =
    only_answer c.args.th.now c.requires.cancelling c.args.protocol.now c.requires.signature c.requires.protocol c.requires.convergent c.args.aim.now c.requires.aim c.args.run.now c.requires.run.terms
    (replay.Misses (c.in_ok-met.met + 1)) (returns-clause-answer c)

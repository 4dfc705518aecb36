use Rattle.std.proofs.Common.{sym, ◌∙◌}
use Rattle.npa_term.specs.declared.term.Term.{Var}
use Rattle.npa_unify.specs.Seen.{raw, seen, seen_all}
use Rattle.npa_unify.proofs.Following.{first_bound, second_bound, variable_follows, sound_at, fork_room}
use Rattle.npa_unify.proofs.Outcomes.{on_ok}
use Rattle.npa_unify.proofs.PairVariables.{var_other}
use Rattle.npa_unify.proofs.search.variables.Goals as goal

pub returns-then-le-clause-all : goal.returns-then-le-clause-all
returns-then-le-clause-all c =
    let rest = second_bound c.args.sorts.now (raw c.args.state.bound.items) c.args.v c.args.w (seen c.args.state) (seen c.in_ok-bind.field-0) (seen_all c.args.waiting.now.items)
    c.if-eq.ensures c.if-le.ensures.value c.requires.first c.in_ok-bind.ensures.seen in
    on_ok c.wait-then-le.result (λ e. e ∙ rest) c.wait-then-le.ensures.all

pub returns-then-le-clause-sound : goal.returns-then-le-clause-sound
returns-then-le-clause-sound c =
    let bs = raw c.args.state.bound.items in
    let new = sound_at bs (raw c.in_ok-bind.field-0.bound.items) c.args.w (Var c.args.v) c.in_ok-bind.ensures.raw c.requires.sound
    (variable_follows bs c.args.v c.args.w (var_other c.args.v c.args.w (sym c.if-eq.ensures)) c.requires.first c.requires.second) in
    on_ok c.wait-then-le.result (λ f. f new) c.wait-then-le.ensures.sound

pub returns-then-le-2-clause-all : goal.returns-then-le-2-clause-all
returns-then-le-2-clause-all c =
    let rest = first_bound c.args.sorts.now (raw c.args.state.bound.items) c.args.v c.args.w (seen c.args.state) (seen c.in_ok-bind-2.field-0) (seen_all c.args.waiting.now.items)
    c.if-eq.ensures c.if-le.ensures.value c.if-le-2.ensures.value c.requires.second c.in_ok-bind-2.ensures.seen in
    on_ok c.wait-then-le-2.result (λ e. e ∙ rest) c.wait-then-le-2.ensures.all

pub returns-then-le-2-clause-sound : goal.returns-then-le-2-clause-sound
returns-then-le-2-clause-sound c =
    let bs = raw c.args.state.bound.items in
    let new = sound_at bs (raw c.in_ok-bind-2.field-0.bound.items) c.args.v (Var c.args.w) c.in_ok-bind-2.ensures.raw c.requires.sound
    (variable_follows bs c.args.w c.args.v (λ e. var_other c.args.v c.args.w (sym c.if-eq.ensures) (sym e)) c.requires.second c.requires.first) in
    on_ok c.wait-then-le-2.result (λ f. f new) c.wait-then-le-2.ensures.sound

pub fork-requires-clause-room : goal.fork-requires-clause-room
fork-requires-clause-room c =
    fork_room c.args.sorts.now c.args.v c.args.w (seen c.args.state) c.as_slice.result.now (c.as_slice.ensures ∙ c.in-Ok.ensures.value) c.if-eq.ensures c.if-le.ensures.value c.if-le-2.ensures.value c.requires.room

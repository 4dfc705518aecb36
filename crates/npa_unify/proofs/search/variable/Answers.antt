use Rattle.std.proofs.Common.{◌≡◌, false, true, ◌∷◌, ◌++◌, sym, ◌∙◌, ap}
use Rattle.npa_sorts.specs.Subsorts.{at_or_below}
use Rattle.npa_term.specs.Parts.{least_sort}
use Rattle.npa_term.specs.Variables.{variables}
use Rattle.npa_unify.specs.Branches.{at_variable, has_var}
use Rattle.npa_unify.specs.Seen.{IsSound, full, head_term, raw, seen, seen_all}
use Rattle.npa_unify.specs.Searches.{nexts}
use Rattle.npa_unify.proofs.Outcomes.{on_ok}
use Rattle.npa_unify.proofs.Following.{above_at, bound_at, follows_at, sound_at}
use Rattle.npa_unify.proofs.search.variable.Goals as goal

pub returns-then-not-le-clause-all : goal.returns-then-not-le-clause-all
returns-then-not-le-clause-all c =
    let bs = raw c.args.state.bound.items in
    let t = head_term c.args.value in
    let free : false ≡ has_var (variables (full bs t)) c.args.v = sym c.if-found.false ∙ c.in_ok-found.ensures ∙ ap (λ l. has_var (variables (full (raw l) t)) c.args.v) c.as_slice.ensures.value in
    let low : false ≡ at_or_below c.args.sorts.now (least_sort t) c.args.v.sort = c.if-not-le.ensures.value ∙ ap (λ n. at_or_below c.args.sorts.now n c.args.v.sort) c.sort_of_head.ensures in
    above_at c.args.sorts.now bs c.args.v t (seen c.args.state) (seen_all c.args.waiting.now.items) c.requires.value free low

pub returns-clause-all : goal.returns-clause-all
returns-clause-all c =
    let bs = raw c.args.state.bound.items in
    let t = head_term c.args.value in
    let free : false ≡ has_var (variables (full bs t)) c.args.v = sym c.if-found.false ∙ c.in_ok-found.ensures ∙ ap (λ l. has_var (variables (full (raw l) t)) c.args.v) c.as_slice.ensures.value in
    let low : true ≡ at_or_below c.args.sorts.now (least_sort t) c.args.v.sort = c.if-not-le.ensures.value ∙ ap (λ n. at_or_below c.args.sorts.now n c.args.v.sort) c.sort_of_head.ensures in
    let rest : seen c.in_ok-next.next ∷ seen_all c.args.waiting.now.items ≡ nexts (at_variable c.args.sorts.now c.args.v (full bs t) (seen c.args.state)) ++ seen_all c.args.waiting.now.items =
    ap (λ b. b ∷ seen_all c.args.waiting.now.items) c.in_ok-next.ensures.seen
    ∙ bound_at c.args.sorts.now bs c.args.v t (seen c.args.state) (seen_all c.args.waiting.now.items) c.requires.value free low in
    on_ok c.wait.result (λ e. e ∙ rest) c.wait.ensures.all

pub returns-clause-sound : goal.returns-clause-sound
returns-clause-sound c =
    let bs = raw c.args.state.bound.items in
    let t = head_term c.args.value in
    let free : false ≡ has_var (variables (full bs t)) c.args.v = sym c.if-found.false ∙ c.in_ok-found.ensures ∙ ap (λ l. has_var (variables (full (raw l) t)) c.args.v) c.as_slice.ensures.value in
    let new : IsSound (raw c.in_ok-next.next.bound.items) =
    sound_at bs (raw c.in_ok-next.next.bound.items) c.args.v t c.in_ok-next.ensures.raw c.requires.sound (follows_at bs c.args.v t c.requires.var c.requires.value free) in
    on_ok c.wait.result (λ f. f new) c.wait.ensures.sound

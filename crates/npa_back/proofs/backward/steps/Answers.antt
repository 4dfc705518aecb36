use Rattle.std.proofs.Common.{◌≡◌, None, Some, [], ◌∷◌, ◌∙◌, ap, subst}
use Rattle.std.proofs.lemmas.Option.{slice_get_within}
use Rattle.npa_moves.specs.Lists.{first_receive}
use Rattle.npa_moves.specs.Moves.{receive_move}
use Rattle.npa_moves.specs.Steps.{Gives, solve_over}
use Rattle.npa_back.specs.Behind.{problem_behind}
use Rattle.npa_back.specs.Told.{IsFirstReceive}
use Rattle.npa_back.proofs.Wholes.{other_steps, receive_steps}
use Rattle.npa_back.proofs.backward.steps.Goals as goal

pub add_receive-requires-clause-within : goal.add_receive-requires-clause-within
add_receive-requires-clause-within c =
    let g = c.args.pattern.now in
    let first = subst (λ ps. IsFirstReceive c.args.ready.now.strands g ps (Some c.in-Some.k)) c.as_slice-2.ensures (c.in-Some.ensures g) in
    slice_get_within g.strands c.in-Some.k first.0 first.1

pub returns-in-Some : goal.returns-in-Some
returns-in-Some c =
    let g = c.args.pattern.now in
    let first = subst (λ ps. IsFirstReceive c.args.ready.now.strands g ps (Some c.in-Some.k)) c.as_slice-2.ensures (c.in-Some.ensures g) in
    let vars = c.as_slice.ensures.value ∙ c.in_ok-vars.ensures.variables in
    subst (Gives c.add_receive.result)
    (ap (λ made. problem_behind (solve_over c.args.ready.now.sig.sorts) c.as_slice.result.now made (receive_move g c.in-Some.k first.0 ∷ [])) c.new.ensures
    ∙ receive_steps c.args.ready.now g c.as_slice.result.now c.in-Some.k first.0 vars first.2)
    (c.add_receive.ensures first.0 first.1)

pub returns : goal.returns
returns c =
    let g = c.args.pattern.now in
    let first = subst (λ ps. first_receive c.args.ready.now.strands g 0 ps ≡ None) c.as_slice-2.ensures (c.in-None.ensures g) in
    let vars = c.as_slice.ensures.value ∙ c.in_ok-vars.ensures.variables in
    subst (Gives c.all_others.result) (other_steps c.args.ready.now g c.as_slice.result.now vars first) c.all_others.ensures

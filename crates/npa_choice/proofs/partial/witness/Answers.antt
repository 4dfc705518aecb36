use Rattle.std.proofs.Common.{◌++◌, sym, ◌∙◌, ap}
use Rattle.npa_match.specs.Branches.{after_pairs}
use Rattle.npa_match.specs.Matching.{bound_pairs, read_pairs}
use Rattle.npa_match.proofs.Extending.{extended}
use Rattle.npa_choice.proofs.Holding.{witnessed_closed, anew_found, anew_none}
use Rattle.npa_choice.proofs.partial.witness.Goals as goal

pub returns-in-Some-clause-found : goal.returns-in-Some-clause-found
returns-in-Some-clause-found c =
    let found = rw (c.in-Some.is, c.as_slice.ensures) at c.in_ok-bound.ensures.found in
    extended c.args.sorts.now (read_pairs c.args.choice.now.pairs) (read_pairs c.args.more.now) (bound_pairs c.args.choice.now.bound) (bound_pairs c.in-Some.bound) c.requires.witness found

pub returns-then-choice-clause-none : goal.returns-then-choice-clause-none
returns-then-choice-clause-none c =
    let none = c.in_ok-bound.ensures.none c.in_default.is in
    λ _. witnessed_closed c.args.sorts.now c.args.choice.now c.requires (read_pairs c.args.more.now) c.if-choice.true
    (ap (λ bs. after_pairs c.args.sorts.now (read_pairs c.args.more.now) (bound_pairs bs)) (sym c.as_slice.ensures) ∙ none)

pub returns-clause-found : goal.returns-clause-found
returns-clause-found c =
    anew_found c.args.sorts.now c.args.choice.now.pairs c.args.more.now c.as_slice-3.result.now
    (c.as_slice-3.ensures ∙ c.in_ok-extend_from_slice.ensures.ok ∙ ap (λ ps. ps ++ c.args.more.now) (c.in_ok-pairs.ensures ∙ c.as_slice-2.ensures)) c.extend-2.result c.extend-2.ensures.found

pub returns-clause-none : goal.returns-clause-none
returns-clause-none c =
    anew_none c.args.sorts.now c.args.choice.now.pairs c.args.more.now c.as_slice-3.result.now
    (c.as_slice-3.ensures ∙ c.in_ok-extend_from_slice.ensures.ok ∙ ap (λ ps. ps ++ c.args.more.now) (c.in_ok-pairs.ensures ∙ c.as_slice-2.ensures)) c.extend-2.result c.extend-2.ensures.none

-- All steps of a pattern: the receive alone, or all others.
use Rattle.std.proofs.Common.{◌≡◌, ℕ, None, Some, List, [], ◌∷◌, ◌++◌, sym, ◌∙◌, ap}
use Rattle.npa_term.specs.declared.term.Var.{Var as Variable}
use Rattle.npa_sig.specs.declared.protocol.Protocol.{Protocol}
use Rattle.npa_model.specs.declared.pattern.PStrand.{PStrand}
use Rattle.npa_model.specs.declared.pattern.Pattern.{Pattern}
use Rattle.npa_moves.specs.declared.step.Rule.{Rule}
use Rattle.npa_moves.specs.Gathering.{gathered}
use Rattle.npa_moves.specs.Lists.{alone, each_place, first_receive, send_problems, step_problems, strand_problems}
use Rattle.npa_moves.specs.Moves.{Move, receive_move}
use Rattle.npa_moves.specs.Steps.{found_variants, mapped, pattern_once, solve_over, step_of, steps_in, steps_of}
use Rattle.npa_back.specs.Behind.{all_behind, problem_behind}
use Rattle.npa_back.proofs.Following.{gathered_behind, joined_none, one_problem}

others : Protocol → Pattern → List (List (Move Rule))
others protocol g =
    each_place (send_problems protocol.strands g) 0 g.strands
    ++ each_place (strand_problems (found_variants protocol) g) 0 protocol.strands

whole : (protocol : Protocol) (g : Pattern) (vs : List Variable) → vs ≡ pattern_once g →
    all_behind (solve_over protocol.sig.sorts) vs [] (step_problems protocol.strands (found_variants protocol) g) ≡ steps_in protocol g
unfolding steps_of
whole protocol g vs is =
    let solve = solve_over protocol.sig.sorts in
    let ps = step_problems protocol.strands (found_variants protocol) g in
    ap (λ ws. all_behind solve ws [] ps) is ∙ sym (gathered_behind solve (pattern_once g) [] ps) ∙ joined_none (mapped step_of (gathered solve (pattern_once g) 0 ps))

pub receive_steps : (protocol : Protocol) (g : Pattern) (vs : List Variable) (k : ℕ) (p : PStrand) → vs ≡ pattern_once g → first_receive protocol.strands g 0 g.strands ≡ Some (receive_move g k p) →
    problem_behind (solve_over protocol.sig.sorts) vs [] (receive_move g k p ∷ []) ≡ steps_in protocol g
unfolding others
receive_steps protocol g vs k p is first =
    let solve = solve_over protocol.sig.sorts in
    sym (one_problem solve vs [] (receive_move g k p ∷ []))
    ∙ sym (ap (λ o. all_behind solve vs [] (alone o (others protocol g))) first)
    ∙ whole protocol g vs is

pub other_steps : (protocol : Protocol) (g : Pattern) (vs : List Variable) → vs ≡ pattern_once g → first_receive protocol.strands g 0 g.strands ≡ None →
    all_behind (solve_over protocol.sig.sorts) vs [] (each_place (send_problems protocol.strands g) 0 g.strands ++ each_place (strand_problems (found_variants protocol) g) 0 protocol.strands) ≡ steps_in protocol g
unfolding others
other_steps protocol g vs is first =
    let solve = solve_over protocol.sig.sorts in
    sym (ap (λ o. all_behind solve vs [] (alone o (others protocol g))) first)
    ∙ whole protocol g vs is

use Rattle.std.proofs.Common.{subst, arith}
use Rattle.std.specs.List.{All}
use Rattle.std.specs.Borrow.{Bor}
use Rattle.std.proofs.lemmas.List.{take_all}
use Rattle.npa_term.specs.declared.term.Term.{Term}
use Rattle.npa_match.specs.Branches.{MatchesOnce}
use Rattle.npa_match.proofs.Once.{pairs_once}
use Rattle.npa_match.proofs.extension.match_once.Goals as goal

pub returns : goal.returns
returns c =
    λ _. pairs_once c.args.pairs.now
    (subst (All (λ (p : Bor Term × Bor Term). MatchesOnce p.0.now)) (take_all c.loop-t.t-index c.args.pairs.now (omega arith)) c.loop-t.invariant)

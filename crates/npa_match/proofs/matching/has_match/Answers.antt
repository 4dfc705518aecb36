use Rattle.std.proofs.Common.{ap, []}
use Rattle.npa_match.specs.Branches.{first_of}
use Rattle.npa_match.specs.Matching.{read_pairs}
use Rattle.npa_match.proofs.Answered.{none_answered, skip_matched, skip_none}
use Rattle.npa_match.proofs.matching.has_match.Goals as goal

pub returns-then-not-may_all_match-clause-none : goal.returns-then-not-may_all_match-clause-none
returns-then-not-may_all_match-clause-none c =
    let o = c.args.sorts.now in
    λ _ m. none_answered o (read_pairs c.args.pairs.now) (ap first_of (c.may_all_match.ensures c.if-not-may_all_match.true o [])) m.by_ m.matches

pub returns-clause-matched : goal.returns-clause-matched
returns-clause-matched c =
    skip_matched c.args.sorts.now (read_pairs c.args.pairs.now) c.in_ok-left.left c.skip.new.self c.in_ok-left.ensures c.skip.result c.skip.ensures.found

pub returns-clause-none : goal.returns-clause-none
returns-clause-none c =
    skip_none c.args.sorts.now (read_pairs c.args.pairs.now) c.in_ok-left.left c.skip.new.self c.in_ok-left.ensures c.skip.result c.skip.ensures.none

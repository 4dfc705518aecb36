use Rattle.std.proofs.Common.{ap, []}
use Rattle.npa_match.specs.Branches.{first_of}
use Rattle.npa_match.specs.Matching.{read_pairs}
use Rattle.npa_match.proofs.Answered.{next_matcher, next_none, none_answered}
use Rattle.npa_match.proofs.matching.find_match.Goals as goal

pub returns-then-not-may_all_match-clause-none : goal.returns-then-not-may_all_match-clause-none
returns-then-not-may_all_match-clause-none c =
    let o = c.args.sorts.now in
    λ _. none_answered o (read_pairs c.args.pairs.now) (ap first_of (c.may_all_match.ensures c.if-not-may_all_match.true o []))

pub returns-clause-matcher : goal.returns-clause-matcher
returns-clause-matcher c =
    next_matcher c.args.sorts.now (read_pairs c.args.pairs.now) c.in_ok-left.left c.next.new.self c.in_ok-left.ensures c.next.result c.next.ensures.found

pub returns-clause-none : goal.returns-clause-none
returns-clause-none c =
    next_none c.args.sorts.now (read_pairs c.args.pairs.now) c.in_ok-left.left c.next.new.self c.in_ok-left.ensures c.next.result c.next.ensures.none

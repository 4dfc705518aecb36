use Rattle.std.proofs.Common.{ℕ, List, Contains, sym, subst}
use Rattle.std.proofs.lemmas.List.Elements.{Contains-push}
use Rattle.npa_replay.proofs.Growing.{grown_push, fresh}
use Rattle.npa_replay.proofs.group.add.Goals as goal

pub returns-clause-grown : goal.returns-clause-grown
returns-clause-grown c k l =
    grown_push k c.args.places.now c.push.new.self c.args.place l
    (fresh c.holds.result c.as_slice.result.now c.args.places.now c.as_slice.ensures c.args.place c.holds.ensures.1 c.if-holds.false) c.in_ok-push.ensures.ok

pub returns-clause-there : goal.returns-clause-there
returns-clause-there c = subst (λ (ns : List ℕ). Contains ns c.args.place) (sym c.in_ok-push.ensures.ok) (Contains-push c.args.places.now c.args.place)

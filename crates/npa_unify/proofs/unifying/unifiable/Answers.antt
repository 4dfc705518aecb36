use Rattle.std.proofs.Common.{◌≡◌, ◌∷◌, refl, subst}
use Rattle.std.specs.Prelude.{IfSome, flat_map}
use Rattle.npa_unify.specs.Branches.{ends}
use Rattle.npa_unify.specs.Seen.{NoneEquates, seen, seen_all}
use Rattle.npa_unify.proofs.Deciding.{no_unifier, none_equates, some_unifier, start_reached}
use Rattle.npa_unify.proofs.unifying.unifiable.Goals as goal

pub next_end-requires-clause-reached : goal.next_end-requires-clause-reached
next_end-requires-clause-reached c =
    start_reached c.args.sorts.now c.args.pairs.now c.args.next c.in_ok-waiting.waiting.items c.pairs.ensures.sorts c.requires.room c.requires.low c.requires.one c.requires.sorts c.in_ok-waiting.ensures.all

pub returns-in-Some : goal.returns-in-Some
returns-in-Some c =
    let o = c.args.sorts.now in (
      λ yes_. some_unifier o c.args.pairs.now c.args.next (seen_all c.in_ok-waiting.waiting.items) (seen c.in-Some.field-0) (flat_map (ends o) (seen_all c.next_end.new.waiting.items)) c.requires.low
          c.in_ok-waiting.ensures.all
          (subst (λ r. IfSome r (λ x. flat_map (ends o) (seen_all c.in_ok-waiting.waiting.items) ≡ seen x ∷ flat_map (ends o) (seen_all c.next_end.new.waiting.items))) c.in-Some.is
          c.in_ok-next_end.ensures.found),
      λ s. refl,
    )

pub returns : goal.returns
returns c =
    let o = c.args.sorts.now in (
      λ e. cc,
      λ s. absurd (no_unifier o c.args.pairs.now c.args.next (seen_all c.in_ok-waiting.waiting.items) c.pairs.ensures.sorts c.laws.ensures.acyclic c.requires.low c.in_ok-waiting.ensures.all
          (c.in_ok-next_end.ensures.none c.in-None.is) s.0 s.1),
    )

pub returns-then-some_clash : goal.returns-then-some_clash
returns-then-some_clash c =
    let none : NoneEquates c.args.pairs.now = subst NoneEquates c.as_slice.ensures (c.some_clash.ensures c.if-some_clash.true) in
    (λ e. cc, λ s. absurd (none_equates c.args.sorts.now c.args.pairs.now none s.0 s.1))

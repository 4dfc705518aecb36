use Rattle.std.proofs.Common.{ℕ, ◌+◌, ◌∙◌, false, ◌≡◌, List, Bool, Contains, sym, subst, arith}
use Rattle.npa_replay.specs.Groups.{is_marked}
use Rattle.npa_replay.proofs.Linking.{SharersBelow, sharers_push, sharers_same, sharers_all}
use Rattle.npa_replay.proofs.links.sharers.Goals.{then-has_mark+in_ok-push, else-has_mark}
use Rattle.npa_replay.proofs.links.sharers.Goals as goal

pub loop-j-preserved : goal.loop-j-preserved
loop-j-preserved c = elim c.if-has_mark.branch [
  | then-has_mark+in_ok-push w ↦
      sharers_push c.args.own.now c.args.keys.now c.loop-j.j c.loop-j.places c.loop-j.invariant c.if-has_mark.places (w.places-is ∙ w.in_ok-push.ensures.ok)
  | else-has_mark w ↦
      subst (λ (ns : List ℕ). SharersBelow c.args.own.now c.args.keys.now (c.loop-j.j + 1) ns) (sym w.places-is)
      (sharers_same c.args.own.now c.args.keys.now c.loop-j.j c.loop-j.places c.loop-j.invariant c.in_ok-marks.marks.items c.in_ok-marks.ensures
      c.index-keys-j.result c.loop-j-test.true
      (λ key h. subst (λ (ms : List Bool). is_marked ms key ≡ false) c.as_slice.ensures.value
      (c.has_mark.ensures w.if-has_mark.false key (subst (λ (ks : List ℕ). Contains ks key) (sym (c.as_slice-in-loop-j.ensures ∙ c.index-keys-j.is)) h))))
]

pub returns : goal.returns
returns c = sharers_all c.args.own.now c.args.keys.now c.loop-j.j c.loop-j.places c.loop-j.invariant (omega (arith, c.loop-j-test.false))

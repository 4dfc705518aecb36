use Rattle.std.proofs.Common.{ℕ, ◌∙◌, List, subst}
use Rattle.npa_replay.specs.Groups.{HasSharers}
use Rattle.npa_replay.proofs.Linking.{links_more}
use Rattle.npa_replay.proofs.links.sharing.Goals as goal

pub loop-own-preserved : goal.loop-own-preserved
loop-own-preserved c =
    links_more c.args.keys.now c.loop-own.own-index c.loop-own.links.items c.loop-own.invariant c.own-item.result c.in_ok-sharers.field-0 c.loop-own-test.true
    (subst (λ (ks : List ℕ). HasSharers ks c.args.keys.now c.in_ok-sharers.field-0) (c.as_slice.ensures ∙ c.own-item.is) c.in_ok-sharers.ensures)
    c.push.new.self.items c.in_ok-push.ensures.items

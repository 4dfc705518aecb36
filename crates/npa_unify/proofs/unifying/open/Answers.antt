use Rattle.std.proofs.Common.{◌≡◌, [], ◌∷◌, ◌++◌, ◌∙◌, ap}
use Rattle.npa_unify.specs.Answers.{started}
use Rattle.npa_unify.specs.Seen.{seen}
use Rattle.npa_unify.proofs.Deciding.{one_seen, one_sound, seen_start}
use Rattle.npa_unify.proofs.unifying.open.Goals as goal

pub returns-clause-all : goal.returns-clause-all
returns-clause-all c =
    let first : seen c.in_ok-start.field-0 ≡ started c.args.pairs.now c.args.next =
    seen_start c.in_ok-start.field-0 c.args.pairs.now c.args.next c.in_ok-start.ensures.goals c.in_ok-start.ensures.bound c.in_ok-start.ensures.next in
    let only : c.push.new.self.items ≡ c.in_ok-start.field-0 ∷ [] = c.in_ok-push.ensures.items ∙ ap (λ l. l ++ c.in_ok-start.field-0 ∷ []) c.new-waiting.ensures.items in
    one_seen c.push.new.self.items c.in_ok-start.field-0 (started c.args.pairs.now c.args.next) only first

pub returns-clause-sound : goal.returns-clause-sound
returns-clause-sound c =
    let only : c.push.new.self.items ≡ c.in_ok-start.field-0 ∷ [] = c.in_ok-push.ensures.items ∙ ap (λ l. l ++ c.in_ok-start.field-0 ∷ []) c.new-waiting.ensures.items in
    one_sound c.push.new.self.items c.in_ok-start.field-0 only c.in_ok-start.ensures.bound

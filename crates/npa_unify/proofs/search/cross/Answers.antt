use Rattle.std.proofs.Common.{◌≡◌, [], ◌∷◌, ◌++◌, map, refl, sym, ◌∙◌, ap, subst}
use Rattle.std.specs.Prelude.{zip}
use Rattle.npa_term.specs.Computed.{turned}
use Rattle.npa_unify.specs.Branches.{arranged, with_pairs}
use Rattle.npa_unify.specs.Seen.{IsSound, full, raw, seen, seen_all, seen_as}
use Rattle.npa_unify.proofs.Following.{seen_two, two_items}
use Rattle.npa_unify.proofs.Outcomes.{on_ok}
use Rattle.npa_unify.proofs.search.cross.Goals as goal

pub returns-clause-all : goal.returns-clause-all
returns-clause-all c =
    let bs = raw c.args.state.bound.items in
    let h = full bs in
    let left : map h c.args.ts.now ≡ h c.index-ts-0.result ∷ h c.index-ts-1.result ∷ [] = two_items h c.args.ts.now c.index-ts-0.result c.index-ts-1.result c.requires.first c.index-ts-0.is c.index-ts-1.is in
    let right : map h c.args.us.now ≡ h c.index-us-0.result ∷ h c.index-us-1.result ∷ [] = two_items h c.args.us.now c.index-us-0.result c.index-us-1.result c.requires.second c.index-us-0.is c.index-us-1.is in
    let one : h c.in_order.result.0.now ∷ h c.in_order.result.1.now ∷ [] ≡ arranged (map h c.args.ts.now) =
    subst (λ l. full (raw l) c.in_order.result.0.now ∷ full (raw l) c.in_order.result.1.now ∷ [] ≡ arranged (full (raw l) c.index-ts-0.result ∷ full (raw l) c.index-ts-1.result ∷ [])) c.as_slice.ensures.value c.in_order.ensures
    ∙ sym (ap arranged left) in
    let two : h c.in_order-2.result.0.now ∷ h c.in_order-2.result.1.now ∷ [] ≡ arranged (map h c.args.us.now) =
    subst (λ l. full (raw l) c.in_order-2.result.0.now ∷ full (raw l) c.in_order-2.result.1.now ∷ [] ≡ arranged (full (raw l) c.index-us-0.result ∷ full (raw l) c.index-us-1.result ∷ [])) c.as_slice-2.ensures.value c.in_order-2.ensures
    ∙ sym (ap arranged right) in
    let gs = c.args.state.goals.items in
    let copied : c.in_ok-goals.goals.items ≡ gs = c.in_ok-goals.ensures.items ∙ c.as_slice-3.ensures.value in
    let across : c.push-2.new.self.items ≡ (gs ++ (c.in_order.result.1, c.in_order-2.result.0) ∷ []) ++ (c.in_order.result.0, c.in_order-2.result.1) ∷ [] =
    c.in_ok-push-2.ensures.items ∙ ap (λ l. l ++ (c.in_order.result.0, c.in_order-2.result.1) ∷ []) (c.in_ok-push.ensures.items ∙ ap (λ l. l ++ (c.in_order.result.1, c.in_order-2.result.0) ∷ []) copied) in
    let straight : c.push-4.new.self.items ≡ (gs ++ (c.in_order.result.1, c.in_order-2.result.1) ∷ []) ++ (c.in_order.result.0, c.in_order-2.result.0) ∷ [] =
    c.in_ok-push-4.ensures.items ∙ ap (λ l. l ++ (c.in_order.result.0, c.in_order-2.result.0) ∷ []) c.in_ok-push-3.ensures.items in
    let bound : c.in_ok-from_slice.field-0.items ≡ c.args.state.bound.items = c.in_ok-from_slice.ensures.items ∙ c.as_slice-4.ensures.value in
    let second : seen_as c.push-2.new.self.items c.in_ok-from_slice.field-0.items c.args.state.next ≡
    with_pairs (zip (arranged (map h c.args.ts.now)) (turned (arranged (map h c.args.us.now)))) (seen c.args.state) =
    seen_two gs c.push-2.new.self.items c.args.state.bound.items c.in_ok-from_slice.field-0.items c.args.state.next c.in_order.result.0 c.in_order.result.1 c.in_order-2.result.1 c.in_order-2.result.0
    (arranged (map h c.args.ts.now)) (turned (arranged (map h c.args.us.now))) across bound one (ap turned two) in
    let first : seen_as c.push-4.new.self.items c.args.state.bound.items c.args.state.next ≡ with_pairs (zip (arranged (map h c.args.ts.now)) (arranged (map h c.args.us.now))) (seen c.args.state) =
    seen_two gs c.push-4.new.self.items c.args.state.bound.items c.args.state.bound.items c.args.state.next c.in_order.result.0 c.in_order.result.1 c.in_order-2.result.0 c.in_order-2.result.1
    (arranged (map h c.args.ts.now)) (arranged (map h c.args.us.now)) straight refl one two in
    on_ok c.wait-2.result (λ e.
    e ∙ ap (λ b. b ∷ seen_all c.wait.new.waiting.items) first
    ∙ ap (λ bs. with_pairs (zip (arranged (map h c.args.ts.now)) (arranged (map h c.args.us.now))) (seen c.args.state) ∷ bs)
    (c.in_ok-wait.ensures.all ∙ ap (λ b. b ∷ seen_all c.args.waiting.now.items) second)) c.wait-2.ensures.all

pub returns-clause-sound : goal.returns-clause-sound
returns-clause-sound c =
    let bound : c.in_ok-from_slice.field-0.items ≡ c.args.state.bound.items = c.in_ok-from_slice.ensures.items ∙ c.as_slice-4.ensures.value in
    let new : IsSound (raw c.in_ok-from_slice.field-0.items) = subst (λ bs. IsSound (raw bs)) (sym bound) c.requires.sound in
    on_ok c.wait-2.result (λ f sound. f c.requires.sound (c.in_ok-wait.ensures.sound new sound)) c.wait-2.ensures.sound

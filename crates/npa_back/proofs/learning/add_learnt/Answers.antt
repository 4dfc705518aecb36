use Rattle.std.proofs.Common.{◌≡◌, ◌≤◌, ◌-◌, ◌++◌, ◌∷◌, [], List, Some, map, get_or, slice_get, slice_set, refl, sym, ◌∙◌, ap, subst, arith}
use Rattle.std.specs.List.{flat_map}
use Rattle.std.proofs.lemmas.Option.{get_or_from_slice_get, slice_get-get_or}
use Rattle.std.proofs.lemmas.Result.{err_from_is_err_and}
use Rattle.npa_term.specs.declared.term.Term.{Term}
use Rattle.npa_model.specs.declared.pattern.Pattern.{Pattern}
use Rattle.npa_model.specs.Backward.{set_back}
use Rattle.npa_moves.specs.Moves.{last_message, learn_move, past_pattern}
use Rattle.npa_moves.specs.Picks.{picks}
use Rattle.npa_moves.specs.Steps.{Gives}
use Rattle.npa_sets.specs.Sets.{IsLow}
use Rattle.npa_back.specs.declared.kind.Kind.TheVariants as kind
use Rattle.npa_back.specs.Behind.{drawn_behind}
use Rattle.npa_back.specs.Told.{drawn_of}
use Rattle.npa_back.proofs.Following.{handed}
use Rattle.npa_back.proofs.Low.{known_low, message_low}
use Rattle.npa_back.proofs.Moving.{learn_told}
use Rattle.npa_back.proofs.Problems.{told_empty, told_goes, told_stops}
use Rattle.npa_back.proofs.learning.add_learnt.Goals as goal

pub sets_told-requires-clause-known : goal.sets_told-requires-clause-known
sets_told-requires-clause-known c =
    let n = c.args.narrowing.now in
    let more : past_pattern n.pattern.now ≤ n.next = omega (arith, c.requires.asked.next) in
    known_low n.pattern.now n.next more

pub sets_told-requires-clause-message : goal.sets_told-requires-clause-message
sets_told-requires-clause-message c =
    let n = c.args.narrowing.now in
    let g = n.pattern.now in
    let p = c.index-as_slice-k.result in
    let there : slice_get g.strands c.args.k ≡ Some p = slice_get-get_or g.strands c.args.k p c.requires.within ∙ ap Some (sym (c.index-as_slice-k.is ∙ ap (λ ps. get_or ps c.args.k p) c.as_slice.ensures)) in
    subst (λ m. IsLow n.next m) (sym c.in_ok-message.ensures) (subst (λ k. IsLow k (last_message p)) (sym c.requires.asked.next) (message_low g c.args.k p there))

pub returns-in_err-sets : goal.returns-in_err-sets
returns-in_err-sets c = λ p there.
    let n = c.args.narrowing.now in
    let g = n.pattern.now in
    let is : c.index-as_slice-k.result ≡ p = c.index-as_slice-k.is ∙ ap (λ ps. get_or ps c.args.k c.index-as_slice-k.result) c.as_slice.ensures ∙ get_or_from_slice_get g.strands c.args.k p c.index-as_slice-k.result there in
    let before : Pattern = record { strands = slice_set g.strands c.args.k (set_back p (p.bar - 1)); known = []; unknown = g.unknown ++ last_message p ∷ [] } in
    let e = err_from_is_err_and c.from_residual-in_err-sets.result c.from_residual-in_err-sets.ensures.1 in
    handed c.from_residual-in_err-sets.result e.0 c.in_err-sets.field-0.0 _ e.1 e.2
    (told_stops n.ready.now.sig.sorts n.vars.now c.args.made (kind.Learn c.args.k) before c.in_ok-message.message g n.next (map (learn_move g c.args.k p) (picks g.known))
    (learn_told g c.args.k p before c.in_ok-message.message n.next refl (c.in_ok-message.ensures ∙ ap last_message is) c.requires.asked.next) c.len-at.result c.len-at.ensures c.in_err-sets.field-0.0 c.in_err-sets.ensures)

pub returns-then-is_empty : goal.returns-then-is_empty
returns-then-is_empty c = λ p there.
    let n = c.args.narrowing.now in
    let g = n.pattern.now in
    let is : c.index-as_slice-k.result ≡ p = c.index-as_slice-k.is ∙ ap (λ ps. get_or ps c.args.k c.index-as_slice-k.result) c.as_slice.ensures ∙ get_or_from_slice_get g.strands c.args.k p c.index-as_slice-k.result there in
    let before : Pattern = record { strands = slice_set g.strands c.args.k (set_back p (p.bar - 1)); known = []; unknown = g.unknown ++ last_message p ∷ [] } in
    told_empty n.ready.now.sig.sorts n.vars.now c.args.made (kind.Learn c.args.k) before c.in_ok-message.message g n.next (map (learn_move g c.args.k p) (picks g.known))
    (learn_told g c.args.k p before c.in_ok-message.message n.next refl (c.in_ok-message.ensures ∙ ap last_message is) c.requires.asked.next) c.len-at.result c.len-at.ensures c.in_ok-sets.sets c.in_ok-sets.ensures
    (c.is_empty.ensures.0 c.if-is_empty.true)

pub returns : goal.returns
returns c = λ p there.
    let n = c.args.narrowing.now in
    let g = n.pattern.now in
    let is : c.index-as_slice-k.result ≡ p = c.index-as_slice-k.is ∙ ap (λ ps. get_or ps c.args.k c.index-as_slice-k.result) c.as_slice.ensures ∙ get_or_from_slice_get g.strands c.args.k p c.index-as_slice-k.result there in
    let built = c.in_ok-before.ensures p there ∙ ap (λ (ts : List Term). let made : Pattern = record { strands = slice_set g.strands c.args.k (set_back p (p.bar - 1)); known = ts; unknown = g.unknown ++ last_message p ∷ [] } in made) c.new.ensures in
    told_goes n.ready.now.sig.sorts n.vars.now c.args.made (kind.Learn c.args.k) c.in_ok-before.before c.in_ok-message.message g n.next (map (learn_move g c.args.k p) (picks g.known))
    (learn_told g c.args.k p c.in_ok-before.before c.in_ok-message.message n.next built (c.in_ok-message.ensures ∙ ap last_message is) c.requires.asked.next) c.len-at.result c.len-at.ensures c.in_ok-sets.sets c.add_told.result c.in_ok-sets.ensures
    (subst (λ ss. Gives c.add_told.result (drawn_behind n.vars.now c.args.made (flat_map (drawn_of (kind.Learn c.args.k) n.vars.now c.in_ok-before.before c.in_ok-message.message g.unknown) ss))) c.as_slice-2.ensures
    (subst (λ k. Gives c.add_told.result (drawn_behind n.vars.now c.args.made (flat_map (drawn_of (kind.Learn k) n.vars.now c.in_ok-before.before c.in_ok-message.message g.unknown) c.as_slice-2.result.now))) c.in-Ok.ensures.1 c.add_told.ensures))

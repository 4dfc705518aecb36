use Rattle.std.proofs.Common.{◌≡◌, ◌≤◌, Some, None, get_or, ap, subst, sym, ◌∙◌, arith}
use Rattle.std.specs.Prelude.{IfSome}
use Rattle.npa_sig.specs.Sizes.{AreSizes}
use Rattle.npa_sig.proofs.LeastTerms.{least_if_fresh}
use Rattle.npa_sig.proofs.GroundTerms.{answer_past, answer_least}
use Rattle.npa_sig.proofs.signature.Sig.least.Goals as goal
use Rattle.npa_sig.proofs.signature.Sig.least.Goals.{in-Some+else-size-gt-MAX_GROUND, in_default}

pub returns-then-size-gt-MAX_GROUND : goal.returns-then-size-gt-MAX_GROUND
returns-then-size-gt-MAX_GROUND c =
    let sig = c.args.self.now in
    let sizes = c.in_ok-sizes.sizes.items in
    let known : AreSizes sig.sorts sig.ops sizes = subst (λ ops. AreSizes sig.sorts ops sizes) (c.as_slice.ensures ∙ c.ops.ensures) (subst (λ o. AreSizes o c.as_slice.result.now sizes) c.sorts.ensures c.in_ok-sizes.ensures) in
    let some : get_or sizes c.args.sort None ≡ Some c.in-Some.size = sym (c.in-Some.ensures ∙ ap (λ xs. get_or xs c.args.sort None) c.deref.ensures.value) in
    record { answer = answer_past sig sizes known c.laws.ensures.sorts c.args.sort c.in-Some.size some c.if-size-gt-MAX_GROUND.true; fresh = λ _. tt }

pub returns : goal.returns
returns c =
    let sig = c.args.self.now in
    let sizes = c.in_ok-sizes.sizes.items in
    let known : AreSizes sig.sorts sig.ops sizes = subst (λ ops. AreSizes sig.sorts ops sizes) (c.as_slice.ensures ∙ c.ops.ensures) (subst (λ o. AreSizes o c.as_slice.result.now sizes) c.sorts.ensures c.in_ok-sizes.ensures) in
    let small : IfSome (get_or sizes c.args.sort None) (λ n. n ≤ 64) = elim c.match-size_at.branch [
      | in-Some+else-size-gt-MAX_GROUND w ↦
          subst (λ x. IfSome x (λ n. n ≤ 64)) (w.in-Some.ensures ∙ ap (λ xs. get_or xs c.args.sort None) c.deref.ensures.value) (omega (arith, w.if-size-gt-MAX_GROUND.false))
      | in_default w ↦
          subst (λ x. IfSome x (λ n. n ≤ 64)) (w.in_default.ensures ∙ ap (λ xs. get_or xs c.args.sort None) c.deref.ensures.value) tt
    ] in
    record { answer = answer_least sig sizes known c.laws.ensures.sorts c.args.sort small c.in_ok-least_term.field-0 c.in_ok-least_term.ensures; fresh = least_if_fresh sig.sorts sig.ops c.args.sort c.in_ok-least_term.field-0 c.in_ok-least_term.ensures }

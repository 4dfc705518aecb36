use Rattle.std.proofs.Common.{◌≡◌, ℕ, ◌^◌, Some, List, [], slice_get, sym, subst, arith}
use Rattle.std.specs.Prelude.{Contains}
use Rattle.std.proofs.lemmas.Grind.{common_steps}
use Rattle.std.proofs.lemmas.Option.{slice_get_within, get_or_from_slice_get}
use Rattle.npa_sig.specs.Signature.{Signature}
use Rattle.npa_sig.specs.WellFormed.{IsPlainEquation}
use Rattle.npa_sig.specs.declared.protocol.Equation.{Equation}
use Rattle.npa_model.specs.declared.aim.Part.TheVariants.{Known}
use Rattle.npa_unify.proofs.Members.{here}
use Rattle.npa_accept.specs.Fit.{IsFitTerm}
use Rattle.npa_accept.proofs.Own.{own_fit}
use Rattle.test_accept.proofs.answers.put_unaccepted.Goals as goal

pub first_unaccepted-requires-clause-plain : goal.first_unaccepted-requires-clause-plain
first_unaccepted-requires-clause-plain c =
    subst (λ (es : List Equation). (k : ℕ) (e : Equation) → slice_get es k ≡ Some e → IsPlainEquation e) (sym c.in_ok-th.ensures.equations) c.requires.plain.protocol.equations

pub first_unaccepted-requires-clause-term : goal.first_unaccepted-requires-clause-term
first_unaccepted-requires-clause-term c =
    let source = c.args.source.now in
    let aim = c.in-Some.aim.now in
    let t = c.in-Some-Known.term in
    let at : slice_get source.aims 0 ≡ Some aim = grind (arith, common_steps) in
    let part : slice_get aim.parts 0 ≡ Some (Known t) = grind (arith, common_steps) in
    let member : Contains aim.parts (Known t) = (0, slice_get_within aim.parts 0 (Known t) part, get_or_from_slice_get aim.parts 0 (Known t) (Known t) part) in
    let over = ((c.requires.formed.aims 0 aim at).parts (Known t) member).term in
    let plain = c.requires.plain.aims 0 aim at (Known t) member t (here t []) in
    subst (λ (sig : Signature). IsFitTerm sig (2 ^ 30) t) (sym c.in_ok-th.ensures.sig) (own_fit source.protocol.sig aim.sorts t over plain)

use Rattle.std.proofs.Common.{◌≡◌, ◌∙◌, None, Some, sym, subst, refl}
use Rattle.npa_sig.specs.Nameless.{AreCarriers}
use Rattle.npa_variants.specs.Ready.{AreFound, searches_fault, lists_fault}
use Rattle.npa_variants.proofs.Readying.{ready_made, ready_none, ready_unoriginated, fault_alike, tells_some}
use Rattle.npa_variants.proofs.ready.Ready.make.Goals as goal

pub invariant_of-result : goal.invariant_of-result
invariant_of-result c =
    let own : AreCarriers c.args.protocol.sig c.in_ok-marks.marks.items = c.in_ok-marks.ensures in
    let seen : AreFound c.in_ok-theory.theory c.as_slice.result.now c.in-Ok.lists × (searches_fault c.in_ok-theory.theory 0 c.as_slice.result.now ≡ None) = c.in-Ok.ensures in
    let both = subst (λ ss. AreFound c.in_ok-theory.theory ss c.in-Ok.lists × (searches_fault c.in_ok-theory.theory 0 ss ≡ None)) c.as_slice.ensures seen in
    let fault = fault_alike c.in_ok-origins.origins c.deref.result.now c.in_ok-marks.marks.items c.as_slice-2.result.now c.args.protocol.strands c.as_slice-3.result.now c.in-Ok.lists
    c.in_ok-origins.ensures c.deref.ensures.value c.as_slice-2.ensures c.as_slice-3.ensures in (
      c.in_ok-theory.ensures.theory,
      ready_made c.args.protocol c.in_ok-theory.theory c.in-Ok.lists c.in_ok-marks.marks.items c.requires.cancelling c.requires.convergent
          c.requires.formed c.requires.plain c.in_ok-theory.ensures.theory both.0 own (sym fault ∙ c.in-None.is),
    )

pub returns-in-Some : goal.returns-in-Some
returns-in-Some c =
    let own : AreCarriers c.args.protocol.sig c.in_ok-marks.marks.items = c.in_ok-marks.ensures in
    let seen : AreFound c.in_ok-theory.theory c.as_slice.result.now c.in-Ok.lists × (searches_fault c.in_ok-theory.theory 0 c.as_slice.result.now ≡ None) = c.in-Ok.ensures in
    let both = subst (λ ss. AreFound c.in_ok-theory.theory ss c.in-Ok.lists × (searches_fault c.in_ok-theory.theory 0 ss ≡ None)) c.as_slice.ensures seen in
    let fault = fault_alike c.in_ok-origins.origins c.deref.result.now c.in_ok-marks.marks.items c.as_slice-2.result.now c.args.protocol.strands c.as_slice-3.result.now c.in-Ok.lists
    c.in_ok-origins.ensures c.deref.ensures.value c.as_slice-2.ensures c.as_slice-3.ensures in
    record {
      answer = λ marks are. ready_unoriginated c.args.protocol c.in_ok-theory.theory c.in_ok-theory.ensures.theory c.in-Ok.lists c.in_ok-marks.marks.items marks c.in-Some.fail own are
          both.1 both.0 (tells_some c.in-Some.fail (lists_fault c.in_ok-marks.marks.items 0 c.args.protocol.strands c.in-Ok.lists) (sym fault ∙ c.in-Some.is));
    }

pub returns-in-None : goal.returns-in-None
returns-in-None c =
    let own : AreCarriers c.args.protocol.sig c.in_ok-marks.marks.items = c.in_ok-marks.ensures in
    let seen : AreFound c.in_ok-theory.theory c.as_slice.result.now c.in-Ok.lists × (searches_fault c.in_ok-theory.theory 0 c.as_slice.result.now ≡ None) = c.in-Ok.ensures in
    let both = subst (λ ss. AreFound c.in_ok-theory.theory ss c.in-Ok.lists × (searches_fault c.in_ok-theory.theory 0 ss ≡ None)) c.as_slice.ensures seen in
    let fault = fault_alike c.in_ok-origins.origins c.deref.result.now c.in_ok-marks.marks.items c.as_slice-2.result.now c.args.protocol.strands c.as_slice-3.result.now c.in-Ok.lists
    c.in_ok-origins.ensures c.deref.ensures.value c.as_slice-2.ensures c.as_slice-3.ensures in
    record {
      answer = λ marks are. (
        refl,
        ready_none c.args.protocol c.in_ok-theory.theory c.in_ok-theory.ensures.theory c.in-Ok.lists c.in_ok-marks.marks.items marks own are
            both.1 both.0 (sym fault ∙ c.in-None.is),
      );
    }

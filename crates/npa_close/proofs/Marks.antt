-- The marks at the sorts that carry names are one list, and so a protocol has one fault of its strands.
use Rattle.std.proofs.Common.{◌≡◌, ℕ, zero, suc, ◌+◌, Bool, true, false, Option, List, [], ◌∷◌, length, get_or, refl, sym, ap, ◌∙◌, arith}
use Rattle.std.specs.Prelude.{◌↔◌}
use Rattle.npa_sig.specs.Nameless.{CarriesNames, AreCarriers}
use Rattle.npa_sig.specs.Signature.{Signature}
use Rattle.npa_sig.specs.declared.protocol.Protocol.{Protocol}
use Rattle.npa_variants.specs.declared.fault.ReadyFail.{ReadyFail}
use Rattle.npa_variants.specs.Ready.{ready_fault}
use Rattle.npa_close.specs.Checks.{HasReadyFault}

-- lists of marks that are as long and the same at each place
same_marks : (ms ns : List Bool) → length ms ≡ length ns → ((s : ℕ) → get_or ms s false ≡ get_or ns s false) → ms ≡ ns
same_marks [] [] long each = refl
same_marks [] (n ∷ ns) long each = absurd (let no : ⊥ = omega (arith, long) in no)
same_marks (m ∷ ms) [] long each = absurd (let no : ⊥ = omega (arith, long) in no)
same_marks (m ∷ ms) (n ∷ ns) long each =
    let first : m ≡ n = each 0 in
    let rest : ms ≡ ns = same_marks ms ns (omega (arith, long)) (λ s. each (suc s)) in
    λ i. first i ∷ rest i

same_bool : (a b : Bool) → (a ≡ true → b ≡ true) → (b ≡ true → a ≡ true) → a ≡ b
same_bool true b f g = sym (f refl)
same_bool false true f g = g refl
same_bool false false f g = refl

one_marks : (sig : Signature) (ms ns : List Bool) → AreCarriers sig ms → AreCarriers sig ns → ms ≡ ns
one_marks sig ms ns a b =
    same_marks ms ns (a.long ∙ sym b.long) (λ s. same_bool (get_or ms s false) (get_or ns s false) (λ e. (b.exact s).1 ((a.exact s).0 e)) (λ e. (a.exact s).1 ((b.exact s).0 e)))

pub one_ready_fault : (protocol : Protocol) (f g : Option ReadyFail) → HasReadyFault protocol f → HasReadyFault protocol g → f ≡ g
one_ready_fault protocol f g a b = sym a.2 ∙ ap (λ ms. ready_fault ms protocol) (one_marks protocol.sig a.0 b.0 a.1 b.1) ∙ b.2

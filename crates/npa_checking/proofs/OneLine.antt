-- One line, with one status, tells of the checks of a module.
use Rattle.std.proofs.Common.{◌≡◌, ℕ, List, Some, sym, ap, ◌∙◌}
use Rattle.npa_close.proofs.OneFail.{one_first}
use Rattle.npa_module.specs.declared.source.Source.{Source}
use Rattle.npa_checking.specs.Checking.{IsCheckLine, told}

the_same : {A : Type 0} {x y : A} → Some x ≡ Some y → x ≡ y
the_same e = cc

pub one_line : (source : Source) (text other : List ℕ) (status second : ℕ) → IsCheckLine source text status → IsCheckLine source other second →
    (text ≡ other) × (status ≡ second)
one_line source text other status second a b =
    let failing : a.failing ≡ b.failing = one_first source.protocol source.aims b.failing a.failing b.first a.first in
    let lines : (text, status) ≡ (other, second) = the_same (sym a.line ∙ ap (told source) failing ∙ b.line) in
    (ap (λ (p : List ℕ × ℕ). p.0) lines, ap (λ (p : List ℕ × ℕ). p.1) lines)

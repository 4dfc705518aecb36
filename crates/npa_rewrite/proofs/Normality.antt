-- A term is normal exactly where its normal form is its canonical form.
use Rattle.std.proofs.Common.{◌≡◌, ◌↔◌, Bool, true, false, refl, ap, sym, ◌∙◌}
use Rattle.std.specs.Prelude.{IsTrue}
use Rattle.npa_term.specs.declared.term.Term.{Term}
use Rattle.npa_term.specs.Canonical.{canonical}
use Rattle.npa_term.specs.Computed.{equal}
use Rattle.npa_term.proofs.Identity.{equal_are, equal_itself}
use Rattle.npa_rewrite.specs.declared.theory.Theory.{Theory}
use Rattle.npa_rewrite.specs.Innermost.{normalized}
use Rattle.npa_rewrite.specs.Rewriting.{AllCancel, IsNormal}
use Rattle.npa_rewrite.proofs.Normalized.{own_form}
use Rattle.npa_rewrite.specs.Normal.{is_normal_by}

module _ (nf : Term → Term) (t : Term) where
  pub normal_is : is_normal_by nf t ≡ true → nf t ≡ canonical t
  normal_is e = equal_are (nf t) (canonical t) e

  pub is_normal_own : nf t ≡ canonical t → is_normal_by nf t ≡ true
  is_normal_own e = ap (λ u. equal u (canonical t)) e ∙ equal_itself (canonical t)

true_of : (b : Bool) → IsTrue b → b ≡ true
true_of true p = refl
true_of false p = cc

both_ways : (a b : Bool) → (a ≡ true → b ≡ true) → (b ≡ true → a ≡ true) → a ≡ b
both_ways true b f g = sym (f refl)
both_ways false true f g = g refl
both_ways false false f g = refl

-- the test of a term tells whether its normal form is its canonical form
pub tests_own_form : (th : Theory) (t : Term) (normal : Bool) → AllCancel th → (IsTrue normal ↔ IsNormal th t) → normal ≡ is_normal_by (normalized th) t
tests_own_form th t normal cancel exact =
    both_ways normal (is_normal_by (normalized th) t)
    (λ e. is_normal_own (normalized th) t ((own_form th t cancel).0 (exact.0 e)))
    (λ e. exact.1 ((own_form th t cancel).1 (normal_is (normalized th) t e)))

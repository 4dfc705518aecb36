-- Whether a term is normal, told by a function that has the normal forms.
use Rattle.std.specs.Prelude.{◌≡◌, Bool}
use Rattle.npa_term.specs.declared.term.Term.{Term}
use Rattle.npa_term.specs.Canonical.{canonical}
use Rattle.npa_term.specs.Computed.{equal}
use Rattle.npa_sig.specs.Signature.{Signature}
use Rattle.npa_sig.specs.Sorting.{IsGroundTerm}

-- whether the normal form of a term is its canonical form
abbrev pub is_normal_by : (Term → Term) → Term → Bool
is_normal_by nf t = equal (nf t) (canonical t)

-- a normal ground term: its normal form is its canonical form
pub record IsNormalTerm (nf : Term → Term) (sig : Signature) (t : Term) : Type 0 where
  pub term : IsGroundTerm sig t
  pub normal : nf t ≡ canonical t

-- What holds of the second members and so of the values of a matcher.
use Rattle.std.proofs.Common.{◌≡◌, ℕ, Some, List}
use Rattle.std.specs.Prelude.{Contains}
use Rattle.npa_sorts.specs.Subsorts.{Subsorts}
use Rattle.npa_term.specs.declared.term.Op.{Op}
use Rattle.npa_term.specs.declared.term.Var.{Var as Variable}
use Rattle.npa_term.specs.declared.term.Term.{Term}
use Rattle.npa_term.specs.Agreeing.{Agrees}
use Rattle.npa_term.specs.Bound.{applied, value_of}
use Rattle.npa_term.specs.Canonical.{canonical}
use Rattle.npa_term.specs.Parts.{IsPart}
use Rattle.npa_term.proofs.AgreeingLaws.{same_canonical}
use Rattle.npa_term.proofs.AppliedLaws.{agrees_applied}
use Rattle.npa_term.proofs.Parts.{part_agrees}
use Rattle.npa_match.specs.Matching.{AllSecond, IsMatcher}

-- the values of a matcher
pub value_has : (P : Term → Type 0) → ((t u : Term) → IsPart t u → P u → P t) → (o : Subsorts) (ps : List (Term × Term)) (s : List (Variable × Term)) →
    IsMatcher o ps s → AllSecond P ps → (v : Variable) (t : Term) → value_of s v ≡ Some t → P t
value_has P below o ps s m all v t e =
    let part = m.parts v t e in below t part.1 part.3 (all part.0 part.1 part.2)

pub matched_forms : (decl : ℕ → Op) (o : Subsorts) (ps : List (Term × Term)) (s : List (Variable × Term)) → IsMatcher o ps s → AllSecond (Agrees decl) ps →
    (t u : Term) → Contains ps (t, u) → Agrees decl t → canonical (applied s t) ≡ canonical u
matched_forms decl o ps s m all t u c a =
    same_canonical decl (applied s t) u (agrees_applied decl s (value_has (Agrees decl) (λ x y p b. part_agrees decl p b) o ps s m all) t a) (all t u c) (m.matches.equal t u c)

use Rattle.std.specs.Prelude.{◌≡◌, ℕ, ⊤, List, Some}
use Rattle.npa_term.specs.declared.term.Op.{Op}
use Rattle.npa_term.specs.declared.term.Var.{Var as Variable}
use Rattle.npa_term.specs.Bound.{value_of}
use Rattle.npa_term.specs.declared.term.Term.{Term, Row_of-Term, end_of-Term, more_of-Term}
use Rattle.npa_term.specs.declared.term.Term.TheVariants.{Var, Name, App'}

abbrev mutual
  -- Each operator in the term is the one that is declared under its number.
  pub Agrees : (ℕ → Op) → Term → Type 0
  Agrees decl (Var v) = ⊤
  Agrees decl (Name n) = ⊤
  Agrees decl (App' op n args) = (op ≡ decl op.num) × AgreesRow decl args

  pub AgreesRow : {n : _} → (ℕ → Op) → Row_of-Term n → Type 0
  AgreesRow decl end_of-Term = ⊤
  AgreesRow decl (more_of-Term t rest) = Agrees decl t × AgreesRow decl rest

-- The operators in the values of a substitution are declared ones too.
abbrev pub ValuesAgree : (ℕ → Op) → List (Variable × Term) → Type 0
ValuesAgree decl s = (v : Variable) (t : Term) → value_of s v ≡ Some t → Agrees decl t

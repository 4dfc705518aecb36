-- Induction on terms, with the arguments of an operator as a list.
use Rattle.std.proofs.Common.{◌≡◌, ℕ, List, [], ◌∷◌, sym, ◌∙◌, ap, subst}
use Rattle.std.specs.Prelude.{⊤}
use mathlib.Core.Former.{this, arity}
use Rattle.npa_list.specs.formers.list.List.{the_former}
use Rattle.npa_term.specs.declared.term.Op.{Op}
use Rattle.npa_term.specs.declared.term.Var.{Var as Variable}
use Rattle.npa_term.specs.declared.term.Term.{Term, Var, Name, App, App', Row_of-Term, end_of-Term, more_of-Term, items-the_row-Term, items_shown-the_row-Term-0, roll-Term, roll-out-Term}
use Rattle.npa_term.specs.declared.term.Term.TheBlock.{shown-the_row-Term-0}
use Rattle.npa_term.specs.declared.term.Term.TheViews.{rolls-App, outs-App'}

-- an application is its operator with the list of its arguments
pub app_items : (op : Op) (shape : (the_former (this {0})).Shape) (k : Row_of-Term (arity (the_former (this {0})) shape)) →
    App' op shape k ≡ App op (items-the_row-Term _ k)
app_items op shape k =
    sym (roll-out-Term (App' op shape k)) ∙ ap roll-Term (outs-App' op shape k)
    ∙ rolls-App op (shown-the_row-Term-0 shape k) ∙ ap (App op) (items_shown-the_row-Term-0 shape k)

-- P holds of each member, by cases on the list
abbrev pub Each : (Term → Type 0) → List Term → Type 0
Each P [] = ⊤
Each P (t ∷ ts) = P t × Each P ts

mutual
  pub by_terms : (P : Term → Type 0) →
      ((v : Variable) → P (Var v)) → ((n : ℕ) → P (Name n)) → ((op : Op) (ts : List Term) → Each P ts → P (App op ts)) →
      (t : Term) → P t
  by_terms P var name app (Var v) = var v
  by_terms P var name app (Name n) = name n
  by_terms P var name app (App' op shape k) =
      subst P (sym (app_items op shape k)) (app op (items-the_row-Term _ k) (by_rows P var name app k))

  by_rows : (P : Term → Type 0) →
      ((v : Variable) → P (Var v)) → ((n : ℕ) → P (Name n)) → ((op : Op) (ts : List Term) → Each P ts → P (App op ts)) →
      {n : _} (k : Row_of-Term n) → Each P (items-the_row-Term n k)
  by_rows P var name app end_of-Term = tt
  by_rows P var name app (more_of-Term t rest) = (by_terms P var name app t, by_rows P var name app rest)

-- cases on a term, with the arguments of an operator as a list
pub term_cases : (Q : Term → Type 0) → ((v : Variable) → Q (Var v)) → ((n : ℕ) → Q (Name n)) → ((op : Op) (ts : List Term) → Q (App op ts)) → (t : Term) → Q t
term_cases Q var name app t = by_terms Q var name (λ op ts each. app op ts) t

-- Where operators agree with one declaration, the order tells any two terms apart, and a class has
-- one canonical form.
use Rattle.std.proofs.Common.{◌≡◌, ℕ, List, [], ◌∷◌, map, Equal, refl, sym, ◌∙◌, ap, subst, arith}
use Rattle.std.specs.Ordering.{nat_cmp}
use Rattle.npa_term.specs.declared.term.Op.{Op}
use Rattle.npa_term.specs.declared.term.Var.{Var as Variable}
use Rattle.npa_term.specs.declared.term.Term.{Term, Var, Name, App, App', Row_of-Term, end_of-Term, more_of-Term, items-the_row-Term, items_hidden-the_row-Term-0}
use Rattle.npa_term.specs.declared.term.Term.TheBlock.{hidden-the_row-Term-0}
use Rattle.npa_term.specs.Agreeing.{Agrees, AgreesRow}
use Rattle.npa_term.specs.Order.{term_cmp, row_cmp}
use Rattle.npa_term.specs.Canonical.{ordered, canonical}
use Rattle.npa_term.specs.Same.{Same, through}
use Rattle.npa_term.proofs.Induction.{Each, by_terms, app_items}
use Rattle.npa_term.proofs.Rows.{canonical_app}
use Rattle.npa_term.proofs.CanonicalLaws.{by_order, canonical_same, same_tied, then_tied_left, then_tied_right}
use Rattle.npa_term.proofs.SameLaws.{same_sym}

each_from_row : {n : _} (decl : ℕ → Op) (k : Row_of-Term n) → AgreesRow decl k → Each (Agrees decl) (items-the_row-Term n k)
each_from_row decl end_of-Term each = tt
each_from_row decl (more_of-Term t rest) each = (each.0, each_from_row decl rest each.1)

row_from_each : {n : _} (decl : ℕ → Op) (k : Row_of-Term n) → Each (Agrees decl) (items-the_row-Term n k) → AgreesRow decl k
row_from_each decl end_of-Term each = tt
row_from_each decl (more_of-Term t rest) each = (each.0, row_from_each decl rest each.1)

-- an application agrees where its operator and its arguments do
pub agrees_app : (decl : ℕ → Op) (op : Op) (ts : List Term) → op ≡ decl op.num → Each (Agrees decl) ts → Agrees decl (App op ts)
agrees_app decl op ts declared each =
    let k = hidden-the_row-Term-0 ts in
    (declared, row_from_each decl k (subst (Each (Agrees decl)) (sym (items_hidden-the_row-Term-0 ts)) each))

-- and then its arguments do
pub agrees_arguments : (decl : ℕ → Op) (op : Op) (ts : List Term) → Agrees decl (App op ts) → Each (Agrees decl) ts
agrees_arguments decl op ts agrees =
    let k = hidden-the_row-Term-0 ts in
    subst (Each (Agrees decl)) (items_hidden-the_row-Term-0 ts) (each_from_row decl k agrees.1)

agrees_each : (decl : ℕ → Op) (ts : List Term) → Each (λ t. Agrees decl t → Agrees decl (canonical t)) ts → Each (Agrees decl) ts → Each (Agrees decl) (map canonical ts)
agrees_each decl [] each agrees = tt
agrees_each decl (t ∷ ts) each agrees = (each.0 agrees.0, agrees_each decl ts each.1 agrees.1)

-- the canonical form has the operators of the term
pub agrees_canonical : (decl : ℕ → Op) (t : Term) → Agrees decl t → Agrees decl (canonical t)
agrees_canonical decl =
    by_terms (λ t. Agrees decl t → Agrees decl (canonical t)) (λ v a. a) (λ n a. a)
    (λ op ts each a. let mapped : Each (Agrees decl) (map canonical ts) = agrees_each decl ts each (agrees_arguments decl op ts a) in
    subst (Agrees decl) (sym (canonical_app op ts))
    (agrees_app decl op (ordered op (map canonical ts)) a.0
    (by_order (Each (Agrees decl)) op (map canonical ts) mapped
    (λ t u e swaps above. let two : Each (Agrees decl) (t ∷ u ∷ []) = subst (Each (Agrees decl)) e mapped in (two.1.0, (two.0, tt))))))

same_number : (m n : ℕ) → nat_cmp m n ≡ Equal → m ≡ n
same_number m n e = grind arith

pub same_variable : (v w : Variable) → v.num ≡ w.num → v.sort ≡ w.sort → v ≡ w
same_variable v w d e = ap (λ n. record v { num = n }) d ∙ ap (λ s. record w { sort = s }) e

mutual
  -- terms that the order doesn't tell apart are equal
  pub tied_equal : (decl : ℕ → Op) (t u : Term) → Agrees decl t → Agrees decl u → term_cmp t u ≡ Equal → t ≡ u
  tied_equal decl (Var v) (Var w) a b e =
      ap Var (same_variable v w (same_number v.num w.num (then_tied_left (nat_cmp v.num w.num) (nat_cmp v.sort w.sort) e))
      (same_number v.sort w.sort (then_tied_right (nat_cmp v.num w.num) (nat_cmp v.sort w.sort) e)))
  tied_equal decl (Var v) (Name n) a b e = cc
  tied_equal decl (Var v) (App' g k us) a b e = cc
  tied_equal decl (Name m) (Var w) a b e = cc
  tied_equal decl (Name m) (Name n) a b e = ap Name (same_number m n e)
  tied_equal decl (Name m) (App' g k us) a b e = cc
  tied_equal decl (App' f j ts) (Var w) a b e = cc
  tied_equal decl (App' f j ts) (Name n) a b e = cc
  tied_equal decl (App' f j ts) (App' g k us) a b e =
      let numbers : f.num ≡ g.num = same_number f.num g.num (then_tied_left (nat_cmp f.num g.num) (row_cmp ts us) e) in
      let operators : f ≡ g = a.0 ∙ ap decl numbers ∙ sym b.0 in
      let arguments : items-the_row-Term _ ts ≡ items-the_row-Term _ us = tied_rows decl ts us a.1 b.1 (then_tied_right (nat_cmp f.num g.num) (row_cmp ts us) e) in
      app_items f j ts ∙ ap (λ op. App op (items-the_row-Term _ ts)) operators ∙ ap (App g) arguments ∙ sym (app_items g k us)

  tied_rows : (decl : ℕ → Op) {m n : _} (j : Row_of-Term m) (k : Row_of-Term n) → AgreesRow decl j → AgreesRow decl k → row_cmp j k ≡ Equal → items-the_row-Term m j ≡ items-the_row-Term n k
  tied_rows decl end_of-Term end_of-Term a b e = refl
  tied_rows decl end_of-Term (more_of-Term u us) a b e = cc
  tied_rows decl (more_of-Term t ts) end_of-Term a b e = cc
  tied_rows decl (more_of-Term t ts) (more_of-Term u us) a b e =
      ap (λ v. v ∷ items-the_row-Term _ ts) (tied_equal decl t u a.0 b.0 (then_tied_left (term_cmp t u) (row_cmp ts us) e))
      ∙ ap (λ vs. u ∷ vs) (tied_rows decl ts us a.1 b.1 (then_tied_right (term_cmp t u) (row_cmp ts us) e))

-- equal terms have one canonical form
pub same_canonical : (decl : ℕ → Op) (t u : Term) → Agrees decl t → Agrees decl u → Same t u → canonical t ≡ canonical u
same_canonical decl t u a b p = tied_equal decl (canonical t) (canonical u) (agrees_canonical decl t a) (agrees_canonical decl u b) (same_tied p)

-- terms with one canonical form are equal
pub canonical_equal : (t u : Term) → canonical t ≡ canonical u → Same t u
canonical_equal t u e =
    through t (canonical t) u (canonical_same t) (subst (λ v. Same v u) (sym e) (same_sym (canonical_same u)))

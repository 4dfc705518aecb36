-- The one step that is made of those that a term allows, and the normal form that is made of it: the
-- leftmost innermost strategy (Baader, Nipkow 1998, on strategies).
use Rattle.std.specs.Prelude.{◌≡◌, List, [], ◌∷◌, Option, Some, None, unwrap_or, map}
use Rattle.std.specs.Option.{option_map, option_or}
use Rattle.npa_sorts.specs.Subsorts.{Subsorts}
use Rattle.npa_term.specs.declared.term.Var.{Var as Variable}
use Rattle.npa_term.specs.declared.term.Term.{Term, Row_of-Term, end_of-Term, more_of-Term, items-the_row-Term}
use Rattle.npa_term.specs.declared.term.Term.TheVariants.{Var, Name, App, App'}
use Rattle.npa_term.specs.Bound.{applied}
use Rattle.npa_term.specs.Canonical.{canonical, ordered}
use Rattle.npa_match.specs.Branches.{branches, first_of}
use Rattle.npa_sig.specs.declared.protocol.Equation.{Equation}
use Rattle.npa_rewrite.specs.declared.theory.Theory.{Theory}

-- The first matcher of a term onto another, in the order of the search.
abbrev pub matcher : Subsorts → Term → Term → Option (List (Variable × Term))
matcher o t u = first_of (branches o ((t, u) ∷ []))

-- What a term becomes by the first of these equations whose left side matches it, as it is.
abbrev pub at_root : Subsorts → List Equation → Term → Option Term
at_root o [] t = None
at_root o (e ∷ es) t =
    option_or (option_map (λ s. canonical (applied s e.right)) (matcher o e.left t)) (at_root o es t)

abbrev mutual
  -- What a term becomes by a step at the first innermost place: the first argument that has one
  -- takes it, and where none has, the term itself.
  pub innermost : (Term → Option Term) → Term → Option Term
  innermost root (Var v) = root (Var v)
  innermost root (Name n) = root (Name n)
  innermost root (App' op n args) =
      option_or (option_map (λ us. App op us) (innermost_row root args)) (root (App' op n args))

  pub innermost_row : {n : _} → (Term → Option Term) → Row_of-Term n → Option (List Term)
  innermost_row root end_of-Term = None
  innermost_row root (more_of-Term t rest) =
      option_or (option_map (λ u. u ∷ items-the_row-Term _ rest) (innermost root t))
      (option_map (λ us. t ∷ us) (innermost_row root rest))

-- What a term becomes by one step on its canonical form, at the first innermost place in the order
-- of the text, by the first equation that matches there, with the first matcher.
abbrev pub reduced : Theory → Term → Option Term
reduced th t =
    option_map canonical (innermost (at_root th.sig.sorts th.equations) (canonical t))

-- Any number of these steps, one after another, none included.
pub data Reductions (th : Theory) : Term → Term → Type 0 where
  none : (t : Term) → Reductions th t t
  more : (t u v : Term) → reduced th t ≡ Some u → Reductions th u v → Reductions th t v

-- A term after the step that the first equation that matches it makes of it, or as it is.
abbrev pub rooted : Theory → Term → Term
rooted th t = unwrap_or (at_root th.sig.sorts th.equations t) t

abbrev mutual
  -- The normal form of a term, from the leaves up: a step at the root of an application of normal
  -- arguments, where there is one. Where all equations cancel, that leaves a part of one of them.
  pub normalized : Theory → Term → Term
  normalized th (Var v) = Var v
  normalized th (Name n) = Name n
  normalized th (App' op n args) = rooted th (App op (ordered op (normalized_row th args)))

  pub normalized_row : {n : _} → Theory → Row_of-Term n → List Term
  normalized_row th end_of-Term = []
  normalized_row th (more_of-Term t rest) = normalized th t ∷ normalized_row th rest

-- A substitution with the normal forms of its values.
abbrev pub normal_values : Theory → List (Variable × Term) → List (Variable × Term)
normal_values th s = map (λ b. (b.0, normalized th b.1)) s

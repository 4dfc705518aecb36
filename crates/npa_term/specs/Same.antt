use Rattle.std.specs.Prelude.{◌≡◌, ◌⊎◌, true, List, [], ◌∷◌}
use Rattle.npa_term.specs.declared.term.Op.{Op}
use Rattle.npa_term.specs.declared.term.Term.{Term}
use Rattle.npa_term.specs.declared.term.Term.TheVariants.{App}

mutual
  -- Equality modulo commutativity: the least congruence on terms in which the two arguments of a
  -- commutative operator may be swapped (Baader, Nipkow 1998, on equational theories). It is
  -- symmetric since swapping twice is nothing.
  pub data Same : Term → Term → Type 0 where
    itself : (t : Term) → Same t t
    through : (s t u : Term) → Same s t → Same t u → Same s u
    swapped : (op : Op) (t u : Term) → op.com ≡ true →
        Same (App op (t ∷ u ∷ [])) (App op (u ∷ t ∷ []))
    below : (op : Op) (ts us : List Term) → SameAll ts us → Same (App op ts) (App op us)

  -- Lists of as many terms, equal place by place.
  pub data SameAll : List Term → List Term → Type 0 where
    nothing : SameAll [] []
    first : (t u : Term) (ts us : List Term) → Same t u → SameAll ts us →
        SameAll (t ∷ ts) (u ∷ us)

-- The two arguments of a commutative operator, equal crosswise.
pub data Crossed (op : Op) : List Term → List Term → Type 0 where
  crossed : (a b c d : Term) → op.com ≡ true → Same a d → Same b c →
      Crossed op (a ∷ b ∷ []) (c ∷ d ∷ [])

-- Arguments of one operator that are equal place by place, or crosswise where it commutes.
abbrev pub SameArguments : Op → List Term → List Term → Type 0
SameArguments op ts us = SameAll ts us ⊎ Crossed op ts us

-- Variants of terms and complete sets of them (Comon-Lundh, Delaune 2005; Escobar, Sasse, Meseguer
-- 2012), modulo commutativity and with ordered sorts. Nothing here speaks of the search.
use Rattle.std.specs.Prelude.{◌≡◌, true, ⊤, Contains, AllPairs, List, [], ◌∷◌, ◌++◌, length, map, take, drop, zip}
use Rattle.std.specs.List.{flat_map}
use Rattle.npa_sorts.specs.Subsorts.{Subsorts}
use Rattle.npa_term.specs.declared.term.Var.{Var as Variable}
use Rattle.npa_term.specs.declared.term.Term.{Term}
use Rattle.npa_term.specs.Bound.{applied}
use Rattle.npa_term.specs.Canonical.{canonical}
use Rattle.npa_term.specs.Numbering.{variables_once}
use Rattle.npa_term.specs.Parts.{image}
use Rattle.npa_term.specs.Same.{Same, SameAll}
use Rattle.npa_term.specs.Variables.{variables}
use Rattle.npa_sig.specs.Substitutions.{RespectsSorts}
use Rattle.npa_rewrite.specs.declared.theory.Theory.{Theory}
use Rattle.npa_rewrite.specs.Rewriting.{FitsSorts, IsNormal, IsNormalFormOf}
use Rattle.npa_variants.specs.declared.variant.Variant.{Variant}
use Rattle.npa_variants.specs.Rows.{Row}

-- A row covers another: one substitution that respects sorts sends its members to those of the other,
-- place by place, modulo commutativity.
pub record Covers (o : Subsorts) (a b : Row) : Type 0 where
  pub by_ : List (Variable × Term)
  pub sorts : FitsSorts o (flat_map variables a) by_
  pub equal : SameAll (map (applied by_) a) b

-- None of these rows covers another.
abbrev pub AreUncovered : Subsorts → List Row → Type 0
AreUncovered o rs = AllPairs (λ a b. (Covers o a b → ⊥) × (Covers o b a → ⊥)) rs

-- The substitution that a row stands for, of these variables, and the variant.
abbrev pub bound : List Variable → Row → List (Variable × Term)
bound vs r = zip vs (take (length vs) r)

abbrev pub variant_of : List Variable → Row → Variant
variant_of vs r = record { subst = bound vs r; terms = drop (length vs) r }

-- The row of a variant: its values, and then its terms.
abbrev pub row_of : Variant → Row
row_of v = map (λ b. b.1) v.subst ++ v.terms

abbrev pub variant_variables : Variant → List Variable
variant_variables v = flat_map variables (row_of v)

-- Lists as long as each other, whose members are related place by place.
abbrev pub Pairwise : (Term → Term → Type 0) → List Term → List Term → Type 0
Pairwise R [] [] = ⊤
Pairwise R [] (u ∷ us) = ⊥
Pairwise R (t ∷ ts) [] = ⊥
Pairwise R (t ∷ ts) (u ∷ us) = R t u × Pairwise R ts us

-- A variant of terms: a normal substitution of their variables that respects sorts, with the normal
-- forms of the terms under it.
pub record IsVariant (th : Theory) (terms : List Term) (v : Variant) : Type 0 where
  pub binds : map (λ b. b.0) v.subst ≡ variables_once terms
  pub sorts : RespectsSorts th.sig (flat_map variables terms) v.subst
  pub normal : (x : Variable) → Contains (flat_map variables terms) x → IsNormal th (image v.subst x)
  pub forms : Pairwise (λ t u. IsNormalFormOf th (applied v.subst t) u) terms v.terms

-- The normal forms of terms under a normal substitution are an instance of a variant, by a normal
-- substitution that has for the variant's values the values of that one.
pub record IsThrough (th : Theory) (terms : List Term) (s : List (Variable × Term)) (v : Variant) :
    Type 0 where
  pub by_ : List (Variable × Term)
  pub sorts : RespectsSorts th.sig (variant_variables v) by_
  pub normal : (y : Variable) → Contains (variant_variables v) y → IsNormal th (image by_ y)
  pub values : (x : Variable) → Contains (flat_map variables terms) x →
      Same (applied by_ (image v.subst x)) (image s x)
  pub forms : Pairwise (λ t u. IsNormalFormOf th (applied s t) (canonical (applied by_ u))) terms v.terms

-- A complete list of variants: each normal substitution, with variables or ground, goes through a
-- member.
abbrev pub IsComplete : Theory → List Term → List Variant → Type 0
IsComplete th terms list =
    (s : List (Variable × Term)) → RespectsSorts th.sig (flat_map variables terms) s →
    ((x : Variable) → Contains (flat_map variables terms) x → IsNormal th (image s x)) →
    (v : Variant) × Contains list v × IsThrough th terms s v

-- None of these variants covers another.
abbrev pub AreApart : Subsorts → List Variant → Type 0
AreApart o list = AreUncovered o (map row_of list)

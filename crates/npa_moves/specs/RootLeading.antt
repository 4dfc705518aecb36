-- Roots by any substitutions, whatever a search for unifiers finds (Escobar, Meadows, Meseguer 2009, on
-- attack patterns).
use Rattle.std.specs.Prelude.{◌≡◌, ℕ, List, [], ◌∷◌, Some, Contains, map, slice_get}
use Rattle.std.specs.List.{flat_map}
use Rattle.npa_sorts.specs.Subsorts.{Subsorts}
use Rattle.npa_term.specs.declared.term.Term.{Term}
use Rattle.npa_term.specs.declared.term.Var.{Var as Variable}
use Rattle.npa_term.specs.Bound.{applied}
use Rattle.npa_term.specs.Parts.{image}
use Rattle.npa_term.specs.Same.{Same, SameAll}
use Rattle.npa_term.specs.Variables.{variables}
use Rattle.npa_sig.specs.declared.protocol.Strand.{Strand}
use Rattle.npa_variants.specs.declared.variant.Variant.{Variant}
use Rattle.npa_variants.specs.StrandVariants.{args_of}
use Rattle.npa_model.specs.declared.aim.Aim.{Aim}
use Rattle.npa_model.specs.declared.aim.Part.{Part}
use Rattle.npa_model.specs.declared.aim.Part.TheVariants as part
use Rattle.npa_model.specs.declared.pattern.PStrand.{PStrand}
use Rattle.npa_model.specs.declared.pattern.Pattern.{Pattern}
use Rattle.npa_model.specs.Accepted.{part_terms}
use Rattle.npa_model.specs.Covering.{IsCover}
use Rattle.npa_moves.specs.declared.step.Root.{Root}
use Rattle.npa_moves.specs.Leading.{Alike, FitsVariables, strand_under}

-- The variables of an aim's parts, one for each occurrence.
abbrev pub aim_variables : Aim → List Variable
aim_variables aim = flat_map variables (flat_map part_terms aim.parts)

-- A pattern with one strand more in front, and one with one known fact more in front.
abbrev pub strand_first : PStrand → Pattern → Pattern
strand_first p g = record { strands = p ∷ g.strands; known = g.known; unknown = g.unknown }

abbrev pub known_first : Term → Pattern → Pattern
known_first t g = record { strands = g.strands; known = t ∷ g.known; unknown = g.unknown }

-- What parts ask for under a substitution: a strand for each strand part, by a variant under a
-- substitution of its own that gives the parameters the part's terms, and the known terms.
pub data AsksFor (strands : List Strand) (variants : Strand → List Variant) (o : Subsorts) (a : List (Variable × Term)) : List Part → Pattern → Type 0 where
  nothing : AsksFor strands variants o a [] (record { strands = []; known = []; unknown = [] })
  known : (t : Term) (parts : List Part) (g : Pattern) → AsksFor strands variants o a parts g →
      AsksFor strands variants o a (part.Known t ∷ parts) (known_first (applied a t) g)
  strand : (s bar : ℕ) (args : List Term) (role : Strand) (n : ℕ) (v : Variant) (b : List (Variable × Term)) (parts : List Part) (g : Pattern) →
      slice_get strands s ≡ Some role → slice_get (variants role) n ≡ Some v → FitsVariables o (flat_map variables v.terms) b →
      SameAll (map (applied a) args) (map (applied b) (args_of role v)) → AsksFor strands variants o a parts g →
      AsksFor strands variants o a (part.Strand s bar args ∷ parts) (strand_first (strand_under b s role v bar) g)

-- A root of an aim by a substitution.
pub record IsRootBy (strands : List Strand) (variants : Strand → List Variant) (o : Subsorts) (a : List (Variable × Term)) (aim : Aim) (q : Pattern) : Type 0 where
  pub asked : Pattern
  pub asks : AsksFor strands variants o a aim.parts asked
  pub alike : Alike asked q

-- A root is an instance of one of the list, and the root's unifier agrees with the substitution.
pub record IsAmongRoots (o : Subsorts) (list : List Root) (a : List (Variable × Term)) (aim : Aim) (q : Pattern) : Type 0 where
  pub root : Root
  pub there : Contains list root
  pub by_ : List (Variable × Term)
  pub places : List ℕ
  pub covers : IsCover o root.pattern q by_ places
  pub agrees : (v : Variable) → Contains (aim_variables aim) v → Same (applied by_ (image root.unifier v)) (image a v)

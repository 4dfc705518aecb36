-- What is said of the variants of a strand: of its parameters and messages.
use Rattle.std.specs.Prelude.{◌≡◌, true, Contains, List, drop, map, take}
use Rattle.std.specs.List.{flat_map}
use Rattle.npa_term.specs.declared.term.Var.{Var as Variable}
use Rattle.npa_term.specs.declared.term.Term.{Term}
use Rattle.npa_term.specs.Bound.{applied}
use Rattle.npa_term.specs.Canonical.{canonical}
use Rattle.npa_term.specs.Parts.{image, least_sort}
use Rattle.npa_term.specs.Variables.{variables}
use Rattle.npa_sig.specs.declared.protocol.Strand.{Strand}
use Rattle.npa_sig.specs.Parameters.{param_sorts}
use Rattle.npa_sig.specs.Signature.{Signature}
use Rattle.npa_sig.specs.Sorting.{all_below, well_sorted}
use Rattle.npa_sig.specs.Substitutions.{RespectsSorts}
use Rattle.npa_sig.specs.Values.{under}
use Rattle.npa_sig.specs.WellFormed.{IsNameless}
use Rattle.npa_rewrite.specs.declared.theory.Theory.{Theory}
use Rattle.npa_rewrite.specs.Innermost.{normalized}
use Rattle.npa_rewrite.specs.Normal.{IsNormalTerm}
use Rattle.npa_rewrite.specs.Rewriting.{IsNormal}
use Rattle.npa_variants.specs.declared.variant.Variant.{Variant}
use Rattle.npa_variants.specs.Narrowable.{AreNumbered, AreVariants}
use Rattle.npa_variants.specs.Strands.{param_count, strand_terms}

-- The values of the parameters in a variant, and its messages.
abbrev pub args_of : Strand → Variant → List Term
args_of strand v = take (param_count strand) v.terms

abbrev pub messages_of : Strand → Variant → List Term
messages_of strand v = drop (param_count strand) v.terms

-- A variant of a strand: normal values of the parameters, at or below their sorts, and the normal forms of
-- the messages under these values, which have no other variables. No fresh name stands in them, and the
-- variables are numbered from 0 without gaps.
pub record IsStrandVariant (th : Theory) (strand : Strand) (v : Variant) : Type 0 where
  pub sorted : (t : Term) → Contains v.terms t → well_sorted th.sig t ≡ true
  pub normal : (t : Term) → Contains v.terms t → IsNormal th t
  pub nameless : (t : Term) → Contains v.terms t → IsNameless t
  pub below_sorts : all_below th.sig (map least_sort (args_of strand v)) (param_sorts strand) ≡ true
  pub messages : messages_of strand v
      ≡ map (λ e. normalized th (under (args_of strand v) e.msg)) strand.events
  pub own : (y : Variable) → Contains (flat_map variables (messages_of strand v)) y →
      Contains (flat_map variables (args_of strand v)) y
  pub numbered : AreNumbered (flat_map variables v.terms)

-- An instance of a strand that goes through a variant: normal ground terms in the place of the variant's
-- variables make of its values those of the instance, and of its messages the instance's in normal form.
pub record IsInstanceOf (nf : Term → Term) (sig : Signature) (strand : Strand) (args : List Term)
    (v : Variant) : Type 0 where
  pub by_ : List (Variable × Term)
  pub sorts : RespectsSorts sig (flat_map variables v.terms) by_
  pub ground : (y : Variable) → Contains (flat_map variables v.terms) y → IsNormalTerm nf sig (image by_ y)
  pub terms : (t : Term) → Contains v.terms t → IsNormalTerm nf sig (applied by_ t)
  pub values : map canonical (map (applied by_) (args_of strand v)) ≡ map canonical args
  pub messages : map canonical (map (applied by_) (messages_of strand v))
      ≡ map (λ e. nf (under args e.msg)) strand.events

-- The variants of a strand: a complete list, each of them a variant of the strand, and each instance goes
-- through one.
pub record AreStrandVariants (th : Theory) (strand : Strand) (list : List Variant) : Type 0 where
  pub variants : AreVariants th (strand_terms strand) list
  pub each : (v : Variant) → Contains list v → IsStrandVariant th strand v

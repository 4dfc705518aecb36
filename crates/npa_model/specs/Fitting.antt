-- Patterns that fit a protocol: each number in them stands for something that is there, and each term is
-- well sorted (order-sorted signatures: Goguen, Meseguer 1992; no fresh name stands in a state of a
-- backwards search: Escobar, Meadows, Meseguer 2009, where fresh values are variables until the end).
use Rattle.std.specs.Prelude.{◌≡◌, ℕ, ◌<◌, ◌≤◌, ◌^◌, Bool, true, false, not, ◌&&◌, ◌||◌, nat_eq, nat_le, nat_lt, List, ◌++◌, Option, None, Some, map, length, slice_get}
use Rattle.std.specs.List.{flat_map, list_all}
use Rattle.npa_term.specs.declared.term.Term.{Term, Row_of-Term, end_of-Term, more_of-Term}
use Rattle.npa_term.specs.declared.term.Term.TheVariants.{Var, Name, App'}
use Rattle.npa_term.specs.declared.term.Var.{Var as Variable}
use Rattle.npa_term.specs.Parts.{least_sort}
use Rattle.npa_term.specs.Variables.{variables}
use Rattle.npa_sig.specs.declared.protocol.Protocol.{Protocol}
use Rattle.npa_sig.specs.declared.protocol.Strand.{Strand}
use Rattle.npa_sig.specs.Signature.{Signature}
use Rattle.npa_sig.specs.Parameters.{param_sorts}
use Rattle.npa_sig.specs.Sorting.{all_below, well_sorted}
use Rattle.npa_sig.specs.WellFormed.{IsNameless}
use Rattle.npa_model.specs.declared.pattern.PStrand.{PStrand}
use Rattle.npa_model.specs.declared.pattern.Pattern.{Pattern}
use Rattle.npa_model.specs.Patterns.{IsTermOf, Occurs}

-- A pattern's strand fits a protocol where it is of a strand that is there, its bar stands at one of that
-- strand's events or behind the last, it has a term for each parameter, of a sort at or below the
-- parameter's, and as many messages as were executed.
pub record IsFitStrand (protocol : Protocol) (p : PStrand) : Type 0 where
  pub strand : Strand
  pub there : slice_get protocol.strands p.strand ≡ Some strand
  pub within : p.bar ≤ length strand.events
  pub below : all_below protocol.sig (map least_sort p.args) (param_sorts strand) ≡ true
  pub messages : length p.msgs ≡ p.bar

-- A pattern fits a protocol where its strands do, its terms are well sorted and no fresh name stands in
-- them, its variables have numbers below 2^30 and no number has two sorts, and its strands and known facts
-- can be counted.
pub record IsFit (protocol : Protocol) (g : Pattern) : Type 0 where
  pub strands : (k : ℕ) (p : PStrand) → slice_get g.strands k ≡ Some p → IsFitStrand protocol p
  pub sorted : (t : Term) → IsTermOf g t → well_sorted protocol.sig t ≡ true
  pub nameless : (t : Term) → IsTermOf g t → IsNameless t
  pub small : (v : Variable) → Occurs v g → v.num < 2 ^ 30
  pub one_sort : (v w : Variable) → Occurs v g → Occurs w g → v.num ≡ w.num → v.sort ≡ w.sort
  pub few_strands : length g.strands < 65535
  pub few_known : length g.known < 4294967295

-- ## The same as tests that compute. That they do is a law.

abbrev mutual
  -- whether a fresh name stands in a term
  pub has_name : Term → Bool
  has_name (Var v) = false
  has_name (Name n) = true
  has_name (App' op n args) = row_has_name args

  pub row_has_name : {n : _} → Row_of-Term n → Bool
  row_has_name end_of-Term = false
  row_has_name (more_of-Term t rest) = has_name t || row_has_name rest

-- whether a term is well sorted and has no fresh name
abbrev pub is_plain : Signature → Term → Bool
is_plain sig t = well_sorted sig t && not (has_name t)

abbrev pub is_plain_strand : Signature → PStrand → Bool
is_plain_strand sig p = list_all (is_plain sig) p.args && list_all (is_plain sig) p.msgs

abbrev pub is_strand_of : Signature → PStrand → Option Strand → Bool
is_strand_of sig p None = false
is_strand_of sig p (Some strand) = nat_le p.bar (length strand.events) && (all_below sig (map least_sort p.args) (param_sorts strand) && nat_eq (length p.msgs) p.bar)

abbrev pub is_fit_strand : Protocol → PStrand → Bool
is_fit_strand protocol p = is_strand_of protocol.sig p (slice_get protocol.strands p.strand)

-- the variables of a pattern, one for each occurrence
abbrev pub strand_variables : PStrand → List Variable
strand_variables p = flat_map variables p.args ++ flat_map variables p.msgs

abbrev pub pattern_variables : Pattern → List Variable
pattern_variables g = flat_map strand_variables g.strands ++ (flat_map variables g.known ++ flat_map variables g.unknown)

-- whether two variables have different numbers or one sort
abbrev pub agree : Variable → Variable → Bool
agree v w = not (nat_eq v.num w.num) || nat_eq v.sort w.sort

-- whether a variable has a small number, and no other sort among these
abbrev pub has_one_sort : List Variable → Variable → Bool
has_one_sort vs v = nat_lt v.num 1073741824 && list_all (agree v) vs

-- whether the parts of a pattern fit, without regard to its variables
abbrev pub are_parts_fit : Protocol → Pattern → Bool
are_parts_fit protocol g =
    nat_lt (length g.strands) 65535 && (nat_lt (length g.known) 4294967295
    && (list_all (is_fit_strand protocol) g.strands && (list_all (is_plain_strand protocol.sig) g.strands
    && (list_all (is_plain protocol.sig) g.known && list_all (is_plain protocol.sig) g.unknown))))

-- whether a pattern fits
abbrev pub is_fit : Protocol → Pattern → Bool
is_fit protocol g = are_parts_fit protocol g && list_all (has_one_sort (pattern_variables g)) (pattern_variables g)

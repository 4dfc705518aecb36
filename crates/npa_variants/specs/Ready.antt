-- Protocols of which each strand has a complete list of variants that originates.
use Rattle.std.specs.Prelude.{◌≡◌, ⊤, ℕ, ◌+◌, Bool, Option, None, Some, Result, Ok, Err, List, [], ◌∷◌, Contains, map, slice_get}
use Rattle.std.specs.Option.{option_or}
use Rattle.npa_term.specs.declared.term.Var.{Var as Variable}
use Rattle.npa_term.specs.Numbering.{variables_once}
use Rattle.npa_sig.specs.declared.protocol.Protocol.{Protocol}
use Rattle.npa_sig.specs.declared.protocol.Strand.{Strand}
use Rattle.npa_sig.specs.WellFormed.{IsWellFormedProtocol, IsPlainProtocol}
use Rattle.npa_rewrite.specs.declared.theory.Theory.{Theory}
use Rattle.npa_rewrite.specs.Rewriting.{AllCancel, IsConvergent}
use Rattle.npa_rewrite.specs.Theories.{theory_of}
use Rattle.npa_variants.specs.declared.fault.ReadyFail.{ReadyFail}
use Rattle.npa_variants.specs.declared.fault.ReadyFail.TheVariants as fail
use Rattle.npa_variants.specs.declared.variant.Variant.{Variant}
use Rattle.npa_variants.specs.Origination.{Originates, origin_fault}
use Rattle.npa_variants.specs.Rows.{Row}
use Rattle.npa_variants.specs.Search.{Stop, too_many, unifiers, symbols, variants_of}
use Rattle.npa_variants.specs.Strands.{param_count, strand_terms}
use Rattle.npa_variants.specs.Variants.{variant_of}

-- The search for the variants of a strand: of its parameters, and then its messages.
abbrev pub strand_rows : Theory → Strand → Result (List Row) Stop
strand_rows th strand = variants_of th (strand_terms strand)

-- Rows as variants of a strand.
abbrev pub strand_list : Strand → List Row → List Variant
strand_list strand rows = map (variant_of (variables_once (strand_terms strand))) rows

-- Why the variants of the strand of this number aren't found.
abbrev pub search_fault : ℕ → Strand → Result (List Row) Stop → Option ReadyFail
search_fault s strand (Ok rows) = None
search_fault s strand (Err (too_many rows)) = Some (fail.Variants s (strand_list strand rows))
search_fault s strand (Err unifiers) = Some (fail.Unifiers s)
search_fault s strand (Err (symbols n)) = Some (fail.Symbols s n)

-- The first of its variants with a variable that doesn't originate, by marks at the sorts that carry
-- names.
abbrev pub at_strand : ℕ → Option (ℕ × Variable) → Option ReadyFail
at_strand s None = None
at_strand s (Some at) = Some (fail.Origin s at.0 at.1)

abbrev pub list_fault : List Bool → ℕ → Strand → List Variant → Option ReadyFail
list_fault marks s strand list =
    at_strand s (origin_fault marks (param_count strand) strand 0 (map (λ v. v.terms) list))

abbrev pub strand_fault : List Bool → ℕ → Strand → Result (List Row) Stop → Option ReadyFail
strand_fault marks s strand (Ok rows) = list_fault marks s strand (strand_list strand rows)
strand_fault marks s strand (Err stop) = None

-- The first fault of strands that are numbered from `s`.
abbrev pub first_fault : (ℕ → Strand → Option ReadyFail) → ℕ → List Strand → Option ReadyFail
first_fault fault s [] = None
first_fault fault s (strand ∷ strands) = option_or (fault s strand) (first_fault fault (s + 1) strands)

abbrev pub searches_fault : Theory → ℕ → List Strand → Option ReadyFail
searches_fault th s strands = first_fault (λ k strand. search_fault k strand (strand_rows th strand)) s strands

abbrev pub origins_fault : List Bool → Theory → ℕ → List Strand → Option ReadyFail
origins_fault marks th s strands =
    first_fault (λ k strand. strand_fault marks k strand (strand_rows th strand)) s strands

-- The first fault of a protocol: all strands' variants are searched for before any is asked for its
-- origins.
abbrev pub ready_fault : List Bool → Protocol → Option ReadyFail
ready_fault marks protocol =
    option_or (searches_fault (theory_of protocol) 0 protocol.strands)
    (origins_fault marks (theory_of protocol) 0 protocol.strands)

-- An answer of which this holds, where there is no fault; and otherwise the fault. Want of memory tells
-- nothing.
abbrev pub Tells : ReadyFail → Option ReadyFail → Type 0
Tells (fail.Variants s list) fault = fault ≡ Some (fail.Variants s list)
Tells (fail.Unifiers s) fault = fault ≡ Some (fail.Unifiers s)
Tells (fail.Symbols s n) fault = fault ≡ Some (fail.Symbols s n)
Tells (fail.Origin s at v) fault = fault ≡ Some (fail.Origin s at v)
Tells fail.NoMemory fault = ⊤

abbrev pub Answers : {T : Type 0} → (T → Type 0) → Result T ReadyFail → Option ReadyFail → Type 0
Answers P (Ok x) fault = P x × (fault ≡ None)
Answers P (Err e) fault = Tells e fault

-- The list of variants that the search finds for a strand.
pub record IsFound (th : Theory) (strand : Strand) (list : List Variant) : Type 0 where
  pub rows : List Row
  pub found : strand_rows th strand ≡ Ok rows
  pub is : list ≡ strand_list strand rows

-- What the protocol of a `Ready` is asked of, and the lists of variants that it keeps.
pub record IsReady (protocol : Protocol) (lists : List (List Variant)) : Type 0 where
  pub cancelling : AllCancel (theory_of protocol)
  pub convergent : IsConvergent (theory_of protocol)
  pub formed : IsWellFormedProtocol protocol
  pub plain : IsPlainProtocol protocol
  pub found : (s : ℕ) (strand : Strand) → slice_get protocol.strands s ≡ Some strand →
      (list : List Variant) × (slice_get lists s ≡ Some list) × IsFound (theory_of protocol) strand list
  pub originate : (s : ℕ) (strand : Strand) (list : List Variant) → slice_get protocol.strands s ≡ Some strand →
      slice_get lists s ≡ Some list → (v : Variant) → Contains list v →
      Originates protocol.sig (param_count strand) strand v.terms

-- Lists of variants, found for these strands.
abbrev pub AreFound : Theory → List Strand → List (List Variant) → Type 0
AreFound th [] [] = ⊤
AreFound th [] (list ∷ lists) = ⊥
AreFound th (strand ∷ strands) [] = ⊥
AreFound th (strand ∷ strands) (list ∷ lists) = IsFound th strand list × AreFound th strands lists

-- The first fault of such lists.
abbrev pub lists_fault : List Bool → ℕ → List Strand → List (List Variant) → Option ReadyFail
lists_fault marks s [] lists = None
lists_fault marks s (strand ∷ strands) [] = None
lists_fault marks s (strand ∷ strands) (list ∷ lists) =
    option_or (list_fault marks s strand list) (lists_fault marks (s + 1) strands lists)

-- What comes of a move that fits, within the limits, fits.
use Rattle.std.proofs.Common.{◌≡◌, ℕ, ◌+◌, ◌-◌, ◌<◌, ◌≤◌, ◌^◌, min, true, false, cond, nat_lt, None, Some, Option, List, ◌++◌, length, slice_get, Contains, refl, sym, ◌∙◌, subst, arith}
use Rattle.std.specs.Option.{option_or}
use Rattle.std.proofs.lemmas.Bool.{ltb-false}
use Rattle.std.proofs.lemmas.List.{length-map}
use Rattle.fold_core.specs.declared.error.Measure.{Measure}
use Rattle.fold_core.specs.declared.error.Measure.TheVariants.{Strands, Facts, Symbols}
use Rattle.npa_term.specs.declared.term.Term.{Term}
use Rattle.npa_term.specs.declared.term.Var.{Var as Variable}
use Rattle.npa_term.specs.Numbering.{variables_once}
use Rattle.npa_term.specs.Variables.{variables}
use Rattle.npa_sig.specs.declared.protocol.Protocol.{Protocol}
use Rattle.npa_sig.specs.Parameters.{param_sorts}
use Rattle.npa_unify.specs.Answers.{unifiers}
use Rattle.npa_unify.specs.Unifiers.{AreLow}
use Rattle.npa_rewrite.specs.Theories.{theory_of}
use Rattle.npa_variants.proofs.Theories.{IsNarrowing}
use Rattle.npa_model.specs.declared.pattern.PStrand.{PStrand}
use Rattle.npa_model.specs.declared.pattern.Pattern.{Pattern}
use Rattle.npa_model.specs.Fitting.{IsFit, IsFitStrand}
use Rattle.npa_model.specs.Patterns.{IsTermOf, Occurs, map_pattern, map_strand, pattern_symbols}
use Rattle.npa_model.proofs.CoverLaws.{of_mapped}
use Rattle.npa_model.proofs.Places.{mapped_at}
use Rattle.npa_moves.specs.Finishing.{Draft, draft_of, excess, found_of, instance_of, new_numbers, past_limit, pattern_terms}
use Rattle.npa_moves.specs.Moves.{Move}
use Rattle.npa_moves.proofs.Completing.{with_twice}
use Rattle.npa_moved.proofs.Plain.{IsPlain, KeepsPlain, all_below_instance, numbered_keeps, plain_instance, unifier_keeps}
use Rattle.npa_moved.proofs.Renumbering.{IsNew, new_small, new_sorted, new_variable}

-- ## Limits

no_excess : {m : Measure × ℕ} → ◌≡◌ {A = Option (Measure × ℕ)} (Some m) None → ⊥
no_excess e = cc

both_none : (x y : Option (Measure × ℕ)) → option_or x y ≡ None → (x ≡ None) × (y ≡ None)
both_none None y e = (refl, e)
both_none (Some m) y e = absurd (no_excess e)

within_limit : (most : ℕ) (measure : Measure) (n : ℕ) → past_limit most measure n ≡ None → n ≤ most
within_limit most measure n =
    elim (nat_lt most n) as (λ b. nat_lt most n ≡ b → cond {A = Option (Measure × ℕ)} b (Some (measure, min n (2 ^ 64 - 1))) None ≡ None → n ≤ most) [
      | true ↦ λ e f. absurd (no_excess f)
      | false ↦ λ e f. ltb-false most n e
    ] refl

-- A pattern is within the limits.
record IsWithin (g : Pattern) : Type 0 where
  pub strands : length g.strands ≤ 32
  pub facts : length g.known + length g.unknown ≤ 64
  pub symbols : pattern_symbols g ≤ 1024

within : (g : Pattern) → excess g ≡ None → IsWithin g
within g e =
    let first = both_none (past_limit 32 Strands (length g.strands)) (option_or (past_limit 64 Facts (length g.known + length g.unknown)) (past_limit 1024 Symbols (pattern_symbols g))) e in
    let second = both_none (past_limit 64 Facts (length g.known + length g.unknown)) (past_limit 1024 Symbols (pattern_symbols g)) first.1 in
    record {
      strands = within_limit 32 Strands (length g.strands) first.0;
      facts = within_limit 64 Facts (length g.known + length g.unknown) second.0;
      symbols = within_limit 1024 Symbols (pattern_symbols g) second.1;
    }

-- ## Results

module _ (protocol : Protocol) where
  -- A move fits a protocol where the strands of its pattern do, and its terms and those of its pairs are
  -- plain, with variables of low numbers in the pairs.
  pub record IsFitMove {L : Type 0} (m : Move L) : Type 0 where
    pub strands : (k : ℕ) (p : PStrand) → slice_get m.from.strands k ≡ Some p → IsFitStrand protocol p
    pub terms : (t : Term) → IsTermOf m.from t → IsPlain (theory_of protocol) t
    pub pairs : (t u : Term) → Contains m.pairs (t, u) → IsPlain (theory_of protocol) t × IsPlain (theory_of protocol) u
    pub low : AreLow m.pairs m.next

module _ (protocol : Protocol) (can : IsNarrowing (theory_of protocol)) where
  strand_instance : (s : List (Variable × Term)) → KeepsPlain (theory_of protocol) s → (p : PStrand) → IsFitStrand protocol p → IsFitStrand protocol (map_strand (instance_of s) p)
  strand_instance s keeps p fit = record {
    strand = fit.strand;
    there = fit.there;
    within = fit.within;
    below = all_below_instance (theory_of protocol) can s keeps p.args (param_sorts fit.strand) fit.below;
    messages = length-map p.msgs (instance_of s) ∙ fit.messages;
  }

  module _ {L : Type 0} (m : Move L) (fit : IsFitMove protocol m) (vs : List Variable) (s : List (Variable × Term)) (listed : Contains (unifiers protocol.sig.sorts m.pairs m.next) s)
      (fine : excess (draft_of vs m.from s).pattern ≡ None) where
    abbrev draft : Draft
    draft = draft_of vs m.from s

    abbrev result : Pattern
    result = map_pattern (instance_of (new_numbers draft)) draft.pattern

    first_keeps : KeepsPlain (theory_of protocol) s
    first_keeps = unifier_keeps (theory_of protocol) can m.pairs m.next fit.low fit.pairs s listed

    second_keeps : KeepsPlain (theory_of protocol) (new_numbers draft)
    second_keeps = numbered_keeps (theory_of protocol) can 0 (variables_once (pattern_terms draft.pattern ++ draft.values))

    result_strand : (k : ℕ) (p : PStrand) → slice_get result.strands k ≡ Some p → IsFitStrand protocol p
    result_strand k p e =
        let second = mapped_at (map_strand (instance_of (new_numbers draft))) draft.pattern.strands k p e in
        let first = mapped_at (map_strand (instance_of s)) m.from.strands k second.0 second.1 in
        subst (IsFitStrand protocol) second.2
        (strand_instance (new_numbers draft) second_keeps second.0
        (subst (IsFitStrand protocol) first.2 (strand_instance s first_keeps first.0 (fit.strands k first.0 first.1))))

    draft_term : (t : Term) → IsTermOf draft.pattern t → IsPlain (theory_of protocol) t
    draft_term t c =
        let of = of_mapped (instance_of s) m.from (with_twice (map_pattern (instance_of s) m.from) t c) in
        subst (IsPlain (theory_of protocol)) of.is (plain_instance (theory_of protocol) can s first_keeps of.term (fit.terms of.term of.there))

    result_term : (t : Term) → IsTermOf result t → IsPlain (theory_of protocol) t
    result_term t c =
        let of = of_mapped (instance_of (new_numbers draft)) draft.pattern c in
        subst (IsPlain (theory_of protocol)) of.is (plain_instance (theory_of protocol) can (new_numbers draft) second_keeps of.term (draft_term of.term of.there))

    result_variable : (v : Variable) → Occurs v result → IsNew draft v
    result_variable v o =
        let of = of_mapped (instance_of (new_numbers draft)) draft.pattern o.there in
        new_variable draft of.term v of.there (subst (λ (t : Term). Contains (variables t) v) (sym of.is) o.within)

    pub finished : IsFit protocol (found_of m.label vs draft).pattern
    finished =
        let limits = within draft.pattern fine in
        let strands : length result.strands ≡ length draft.pattern.strands = length-map draft.pattern.strands (map_strand (instance_of (new_numbers draft))) in
        let known : length result.known ≡ length draft.pattern.known = length-map draft.pattern.known (instance_of (new_numbers draft)) in
        record {
          strands = result_strand;
          sorted = λ t c. (result_term t c).sorted;
          nameless = λ t c. (result_term t c).nameless;
          small = λ v o. let few : v.num < pattern_symbols draft.pattern = new_small draft v (result_variable v o) in omega (arith, few, limits.symbols);
          one_sort = λ v w o q e. new_sorted draft v w (result_variable v o) (result_variable w q) e;
          few_strands = omega (arith, strands, limits.strands);
          few_known = omega (arith, known, limits.facts);
        }

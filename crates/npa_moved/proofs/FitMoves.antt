-- The moves of a pattern that fits do so too.
use Rattle.std.proofs.Common.{◌≡◌, ℕ, ◌+◌, ◌<◌, ◌≤◌, inl, inr, true, Some, List, [], ◌∷◌, map, take, length, slice_get, slice_set, Contains, refl, sym, ◌∙◌, ap, subst, arith}
use Rattle.std.specs.List.{flat_map}
use Rattle.std.proofs.lemmas.Bool.{cases_eq}
use Rattle.std.proofs.lemmas.List.{length-map, length-take-le}
use Rattle.std.proofs.lemmas.List.Elements.{Contains-append_cases}
use Rattle.std.proofs.lemmas.Option.{same_Some, slice_get_within}
use Rattle.npa_term.specs.declared.term.Term.{Term}
use Rattle.npa_term.specs.declared.term.Var.{Var as Variable}
use Rattle.npa_term.specs.Parts.{least_sort}
use Rattle.npa_term.specs.Variables.{raised_var, renamed, variables}
use Rattle.npa_term.proofs.Induction.{term_cases}
use Rattle.npa_term.proofs.RenamedLaws.{variables-renamed}
use Rattle.npa_term.proofs.Rows.{renamed_app}
use Rattle.npa_term.proofs.Renumbered.{member_variable}
use Rattle.npa_sig.specs.declared.protocol.Event.{Event}
use Rattle.npa_sig.specs.declared.protocol.Protocol.{Protocol}
use Rattle.npa_sig.specs.declared.protocol.Strand.{Strand}
use Rattle.npa_sig.specs.Parameters.{param_sorts}
use Rattle.npa_sig.specs.Sorting.{all_below}
use Rattle.npa_sig.specs.Values.{under}
use Rattle.npa_unify.specs.Unifiers.{AreLow}
use Rattle.npa_unify.proofs.Members.{nowhere, only_one}
use Rattle.npa_rewrite.specs.Innermost.{normalized}
use Rattle.npa_rewrite.specs.Theories.{theory_of}
use Rattle.npa_variants.specs.declared.variant.Variant.{Variant}
use Rattle.npa_variants.specs.StrandVariants.{IsStrandVariant, args_of, messages_of}
use Rattle.npa_variants.specs.Strands.{param_count}
use Rattle.npa_variants.proofs.Members.{of_mapped, of_taken}
use Rattle.npa_variants.proofs.Theories.{IsNarrowing}
use Rattle.npa_variants.proofs.Unifying.{past_above}
use Rattle.npa_model.specs.declared.pattern.PStrand.{PStrand}
use Rattle.npa_model.specs.declared.pattern.Pattern.{Pattern}
use Rattle.npa_model.specs.Backward.{set_back}
use Rattle.npa_model.specs.Fitting.{IsFit, IsFitStrand}
use Rattle.npa_model.specs.Patterns.{IsTermOf, of_args, of_msgs, of_known, of_unknown}
use Rattle.npa_model.proofs.Places.{member_at, set_elsewhere, set_here}
use Rattle.npa_moves.specs.declared.step.Rule.{Rule}
use Rattle.npa_moves.specs.Leading.{Last}
use Rattle.npa_moves.specs.Moves.{Move, each_with, past_pattern, past_variant, raised_strand}
use Rattle.npa_moves.specs.Picks.{Pick, picks}
use Rattle.npa_moves.proofs.OtherSteps.{message_member, push_at}
use Rattle.npa_moves.proofs.OwnMoves.{below_past, of_pairs, pair_variable}
use Rattle.npa_moves.proofs.Picking.{left_of}
use Rattle.npa_moved.proofs.Finished.{IsFitMove}
use Rattle.npa_moved.proofs.NamedMoves.{introduce_named, introduced_move, learn_named, learnt_move, learnt_terms, message_there, receive_named, received_move, received_terms, send_named, sent_move, sent_terms, taken_there}
use Rattle.npa_moved.proofs.Plain.{IsPlain, plain_renamed}
use Rattle.npa_moved.proofs.StepMoves.{IsStepMove, a_receive, a_send, a_learnt, an_introduced}

module _ (protocol : Protocol) where
  -- A strand set back behind fewer events fits.
  pub back_fits : (p : PStrand) (bar : ℕ) → IsFitStrand protocol p → p.bar ≡ bar + 1 → IsFitStrand protocol (set_back p bar)
  back_fits p bar fit behind = record {
    strand = fit.strand;
    there = fit.there;
    within = let less : p.bar ≤ length fit.strand.events = fit.within in omega (arith, less, behind);
    below = fit.below;
    messages = length-take-le bar p.msgs (let many : length p.msgs ≡ p.bar = fit.messages in omega (arith, many, behind));
  }

  pub set_fits : (ps : List PStrand) (k : ℕ) (p q : PStrand) → slice_get ps k ≡ Some p → IsFitStrand protocol q →
      ((j : ℕ) (x : PStrand) → slice_get ps j ≡ Some x → IsFitStrand protocol x) → (j : ℕ) (x : PStrand) → slice_get (slice_set ps k q) j ≡ Some x → IsFitStrand protocol x
  set_fits ps k p q there fit all j x e = elim (cases_eq j k) [
    | inl is ↦ subst (IsFitStrand protocol) (same_Some q x (sym (set_here ps k p q there) ∙ ap (slice_get (slice_set ps k q)) (sym is) ∙ e)) fit
    | inr other ↦ all j x (sym (set_elsewhere ps k j q other) ∙ e)
  ]

  -- ## Variants

  module _ (can : IsNarrowing (theory_of protocol)) (s : ℕ) (strand : Strand) (v : Variant) (there : slice_get protocol.strands s ≡ Some strand) (varied : IsStrandVariant (theory_of protocol) strand v) where
    pub variant_plain : (t : Term) → Contains v.terms t → IsPlain (theory_of protocol) t
    variant_plain t c = record { sorted = varied.sorted t c; nameless = varied.nameless t c }

    pub raised_plain : (base : ℕ) (t : Term) → Contains v.terms t → IsPlain (theory_of protocol) (renamed base t)
    raised_plain base t c = plain_renamed (theory_of protocol) can base t (variant_plain t c)

    renamed_sort : (base : ℕ) (t : Term) → least_sort (renamed base t) ≡ least_sort t
    renamed_sort base = term_cases (λ t. least_sort (renamed base t) ≡ least_sort t) (λ x. refl) (λ x. refl) (λ op ts. ap least_sort (renamed_app base op ts))

    renamed_sorts : (base : ℕ) (ts : List Term) → map least_sort (map (renamed base) ts) ≡ map least_sort ts
    renamed_sorts base [] = refl
    renamed_sorts base (t ∷ ts) = ap (λ n. n ∷ map least_sort (map (renamed base) ts)) (renamed_sort base t) ∙ ap (λ ns. least_sort t ∷ ns) (renamed_sorts base ts)

    pub said_length : length (messages_of strand v) ≡ length strand.events
    said_length = ap length varied.messages ∙ length-map strand.events (λ e. normalized (theory_of protocol) (under (args_of strand v) e.msg))

    -- the strand by a raised variant, before an event or behind all, fits
    pub raised_fits : (base bar : ℕ) → bar ≤ length strand.events → IsFitStrand protocol (raised_strand base s strand v bar)
    raised_fits base bar within = record {
      strand = strand;
      there = there;
      within = within;
      below = subst (λ ns. all_below protocol.sig ns (param_sorts strand) ≡ true) (sym (renamed_sorts base (args_of strand v))) varied.below_sorts;
      messages = length-map (take bar (messages_of strand v)) (renamed base) ∙ length-take-le bar (messages_of strand v) (let many : length (messages_of strand v) ≡ length strand.events = said_length in omega (arith, many, within));
    }

    pub raised_args : (base : ℕ) (t : Term) → Contains (map (renamed base) (args_of strand v)) t → IsPlain (theory_of protocol) t
    raised_args base t c =
        let u = of_mapped (renamed base) (args_of strand v) t c in
        subst (IsPlain (theory_of protocol)) (sym u.2) (raised_plain base u.0 (of_taken (param_count strand) v.terms u.0 u.1))

    pub raised_msgs : (base bar : ℕ) (t : Term) → Contains (map (renamed base) (take bar (messages_of strand v))) t → IsPlain (theory_of protocol) t
    raised_msgs base bar t c =
        let u = of_mapped (renamed base) (take bar (messages_of strand v)) t c in
        subst (IsPlain (theory_of protocol)) (sym u.2) (raised_plain base u.0 (message_member strand v u.0 (of_taken bar (messages_of strand v) u.0 u.1)))

    pub raised_low : (base : ℕ) (t : Term) (x : Variable) → Contains v.terms t → Contains (variables (renamed base t)) x → x.num < base + past_variant v
    raised_low base t x c d =
        let from = of_mapped (raised_var base) (variables t) x (subst (λ (xs : List Variable). Contains xs x) (variables-renamed base t) d) in
        let num : x.num ≡ from.0.num + base = ap (λ (z : Variable). z.num) from.2 in
        omega (arith, num, past_above (flat_map variables v.terms) from.0 (member_variable v.terms t from.0 c from.1))

module _ (protocol : Protocol) (can : IsNarrowing (theory_of protocol)) (g : Pattern) (fit : IsFit protocol g) where
  pub own_plain : (t : Term) → IsTermOf g t → IsPlain (theory_of protocol) t
  own_plain t c = record { sorted = fit.sorted t c; nameless = fit.nameless t c }

  -- ## Moves of the pattern's own strands

  module _ (k : ℕ) (p : PStrand) (bar : ℕ) (event : Event) (m : Term) (last : Last protocol.strands g k p bar event m) where
    back_strands : (j : ℕ) (x : PStrand) → slice_get (slice_set g.strands k (set_back p bar)) j ≡ Some x → IsFitStrand protocol x
    back_strands = set_fits protocol g.strands k p (set_back p bar) last.there (back_fits protocol p bar (fit.strands k p last.there) last.behind) fit.strands

    pub received_fits : IsFitMove protocol (received_move g k p bar m)
    received_fits = record {
      strands = back_strands;
      terms = λ t c. own_plain t (received_terms protocol.strands g k p bar event m last t c);
      pairs = λ t u c. absurd (nowhere (t, u) c);
      low = λ v c. absurd (nowhere v c);
    }

    pub sent_fits : IsFitMove protocol (sent_move g k p bar)
    sent_fits = record {
      strands = back_strands;
      terms = λ t c. own_plain t (sent_terms protocol.strands g k p bar event m last t c);
      pairs = λ t u c. absurd (nowhere (t, u) c);
      low = λ v c. absurd (nowhere v c);
    }

    module _ (pick : Pick) (picked : Contains (picks g.known) pick) where
      there : IsTermOf g m
      there = message_there protocol.strands g k p bar event m last

      pub learnt_fits : IsFitMove protocol (learnt_move g k p pick bar m)
      learnt_fits = record {
        strands = back_strands;
        terms = λ t c. own_plain t (learnt_terms protocol.strands g k p bar event m last pick picked t c);
        pairs = λ t u c.
            let both = of_pairs m pick.taken (t, u) c in
            (own_plain t (taken_there g pick picked t both.0), own_plain u (subst (IsTermOf g) (sym both.1) there));
        low = λ v c. elim (pair_variable m pick.taken v c) [
          | inl d ↦ below_past g v (record { term = d.0; there = taken_there g pick picked d.0 d.1; within = d.2 })
          | inr d ↦ below_past g v (record { term = m; there = there; within = d })
        ];
      }

  -- ## Moves of further instances

  module _ (s : ℕ) (strand : Strand) (n : ℕ) (v : Variant) (e : ℕ) (m : Term) (pick : Pick) (there : slice_get protocol.strands s ≡ Some strand) (varied : IsStrandVariant (theory_of protocol) strand v)
      (message : slice_get (messages_of strand v) e ≡ Some m) (picked : Contains (picks g.known) pick) where
    abbrev told : Term
    told = renamed (past_pattern g) m

    message_listed : Contains v.terms m
    message_listed = message_member strand v m (member_at (messages_of strand v) e m message)

    told_plain : IsPlain (theory_of protocol) told
    told_plain = raised_plain protocol can s strand v there varied (past_pattern g) m message_listed

    abbrev move : Move Rule
    move = introduced_move g s strand n v e pick told

    introduced_strand : (j : ℕ) (p : PStrand) → slice_get move.from.strands j ≡ Some p → IsFitStrand protocol p
    introduced_strand j p d = elim (push_at g.strands (raised_strand (past_pattern g) s strand v e) p j d) [
      | inl old ↦ fit.strands j p old
      | inr is ↦ subst (IsFitStrand protocol) is (raised_fits protocol can s strand v there varied (past_pattern g) e within)
    ]
      where
        within : e ≤ length strand.events
        within =
            let less : e < length (messages_of strand v) = slice_get_within (messages_of strand v) e m message in
            let many : length (messages_of strand v) ≡ length strand.events = said_length protocol can s strand v there varied in
            omega (arith, less, many)

    introduced_term : (t : Term) → IsTermOf move.from t → IsPlain (theory_of protocol) t
    introduced_term t (of_args j p d c) = elim (push_at g.strands (raised_strand (past_pattern g) s strand v e) p j d) [
      | inl old ↦ own_plain t (of_args j p old c)
      | inr is ↦ raised_args protocol can s strand v there varied (past_pattern g) t (subst (λ (x : PStrand). Contains x.args t) (sym is) c)
    ]
    introduced_term t (of_msgs j p d c) = elim (push_at g.strands (raised_strand (past_pattern g) s strand v e) p j d) [
      | inl old ↦ own_plain t (of_msgs j p old c)
      | inr is ↦ raised_msgs protocol can s strand v there varied (past_pattern g) e t (subst (λ (x : PStrand). Contains x.msgs t) (sym is) c)
    ]
    introduced_term t (of_known c) = own_plain t (of_known (left_of g.known pick picked t c))
    introduced_term t (of_unknown c) = elim (Contains-append_cases g.unknown (told ∷ []) t c) [
      | inl d ↦ own_plain t (of_unknown d)
      | inr d ↦ subst (IsPlain (theory_of protocol)) (only_one told t d) told_plain
    ]

    introduced_low : AreLow (each_with told pick.taken) (past_pattern g + past_variant v)
    introduced_low x c = elim (pair_variable told pick.taken x c) [
      | inl d ↦ let low : x.num < past_pattern g = below_past g x (record { term = d.0; there = taken_there g pick picked d.0 d.1; within = d.2 }) in omega (arith, low)
      | inr d ↦ raised_low protocol can s strand v there varied (past_pattern g) m x message_listed d
    ]

    pub introduced_fits : IsFitMove protocol move
    introduced_fits = record {
      strands = introduced_strand;
      terms = introduced_term;
      pairs = λ t u c.
          let both = of_pairs told pick.taken (t, u) c in
          (own_plain t (taken_there g pick picked t both.0), subst (IsPlain (theory_of protocol)) (sym both.1) told_plain);
      low = introduced_low;
    }

  -- ## Each move

  module _ (variants : Strand → List Variant) (varied : (s : ℕ) (strand : Strand) (v : Variant) → slice_get protocol.strands s ≡ Some strand → Contains (variants strand) v → IsStrandVariant (theory_of protocol) strand v) where
    pub messages : (k : ℕ) (p : PStrand) → slice_get g.strands k ≡ Some p → length p.msgs ≡ p.bar
    messages k p e = (fit.strands k p e).messages

    pub spoken : (s : ℕ) (strand : Strand) (v : Variant) → slice_get protocol.strands s ≡ Some strand → Contains (variants strand) v → length (messages_of strand v) ≡ length strand.events
    spoken s strand v there c = said_length protocol can s strand v there (varied s strand v there c)

    pub move_fits : (m : Move Rule) → IsStepMove protocol.strands g messages variants spoken m → IsFitMove protocol m
    move_fits m (a_receive k p bar event t last gets none is) =
        subst (IsFitMove protocol) (sym (is ∙ receive_named protocol.strands g k p bar event t last)) (received_fits k p bar event t last)
    move_fits m (a_send k p bar event t none last gives is) =
        subst (IsFitMove protocol) (sym (is ∙ send_named protocol.strands g k p bar event t last)) (sent_fits k p bar event t last)
    move_fits m (a_learnt k p bar event t pick none last gives picked is) =
        subst (IsFitMove protocol) (sym (is ∙ learn_named protocol.strands g k p bar event t last pick)) (learnt_fits k p bar event t last pick picked)
    move_fits m (an_introduced s strand n v e event t pick none there listed executed gives message picked is) =
        subst (IsFitMove protocol) (sym (is ∙ introduce_named g s strand n v e pick t message))
        (introduced_fits s strand n v e t pick there (varied s strand v there (member_at (variants strand) n v listed)) message picked)

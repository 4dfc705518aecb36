-- The choices of variants for an aim fit.
use Rattle.std.proofs.Common.{◌≡◌, ℕ, ◌+◌, ◌<◌, ◌≤◌, inl, inr, None, Some, Option, List, [], ◌∷◌, map, zip, length, slice_get, Contains, refl, sym, ◌∙◌, ap, subst, arith}
use Rattle.std.specs.List.{flat_map}
use Rattle.std.proofs.lemmas.List.Elements.{Contains-append_cases}
use Rattle.std.proofs.lemmas.Option.{none-some, same_Some, slice_get_within}
use Rattle.npa_term.specs.declared.term.Term.{Term}
use Rattle.npa_term.specs.declared.term.Var.{Var as Variable}
use Rattle.npa_term.specs.Variables.{renamed, variables}
use Rattle.npa_term.proofs.Renumbered.{of_member}
use Rattle.npa_sig.specs.declared.protocol.Protocol.{Protocol}
use Rattle.npa_sig.specs.declared.protocol.Strand.{Strand}
use Rattle.npa_sig.specs.WellFormed.{IsOwn, IsPlainTerm}
use Rattle.npa_unify.specs.Branches.{pair_variables}
use Rattle.npa_unify.proofs.Members.{here, later, member_cases, nowhere, only_one}
use Rattle.npa_rewrite.specs.Theories.{theory_of}
use Rattle.npa_variants.specs.declared.variant.Variant.{Variant}
use Rattle.npa_variants.specs.StrandVariants.{IsStrandVariant, args_of}
use Rattle.npa_variants.specs.Strands.{param_count}
use Rattle.npa_variants.proofs.Members.{of_mapped, of_taken}
use Rattle.npa_variants.proofs.Theories.{IsNarrowing}
use Rattle.npa_model.specs.declared.aim.Aim.{Aim}
use Rattle.npa_model.specs.declared.aim.Part.{Part}
use Rattle.npa_model.specs.declared.aim.Part.TheVariants as part
use Rattle.npa_model.specs.declared.pattern.PStrand.{PStrand}
use Rattle.npa_model.specs.Accepted.{part_terms}
use Rattle.npa_model.specs.Fitting.{IsFitStrand}
use Rattle.npa_model.specs.Patterns.{IsTermOf, of_args, of_msgs, of_known, of_unknown}
use Rattle.npa_model.specs.WellFormed.{IsPlainAim, IsWellFormedAim, IsWellFormedPart}
use Rattle.npa_model.proofs.Places.{mapped_at, member_at}
use Rattle.npa_moves.specs.Lists.{Made, begun, root_moves, root_problem, variants_at, with_known, with_strand}
use Rattle.npa_moves.specs.Moves.{past_variant, raised_strand}
use Rattle.npa_moves.proofs.OtherSteps.{push_at}
use Rattle.npa_moves.proofs.RootMoves.{pairs_cases, zip_cases}
use Rattle.npa_moved.proofs.Finished.{IsFitMove}
use Rattle.npa_moved.proofs.FitMoves.{raised_args, raised_fits, raised_low, raised_msgs}
use Rattle.npa_moved.proofs.Plain.{IsPlain}
use Rattle.npa_moved.proofs.StepMoves.{of_zero}

zip_members : (ts us : List Term) (t u : Term) → Contains (zip ts us) (t, u) → Contains ts t × Contains us u
zip_members [] us t u c = absurd (nowhere (t, u) c)
zip_members (x ∷ ts) [] t u c = absurd (nowhere (t, u) c)
zip_members (x ∷ ts) (y ∷ us) t u c = elim (member_cases (x, y) (t, u) (zip ts us) c) [
  | inl is ↦ (
    subst (Contains (x ∷ ts)) (ap (λ (p : Term × Term). p.0) is) (here x ts),
    subst (Contains (y ∷ us)) (ap (λ (p : Term × Term). p.1) is) (here y us),
  )
  | inr d ↦ let rest = zip_members ts us t u d in (later x t ts rest.0, later y u us rest.1)
]

-- a variant of a strand that is there
pub of_variants : (strands : List Strand) (variants : Strand → List Variant) (s n : ℕ) (by : Strand × Variant) (o : Option Strand) → slice_get strands s ≡ o → slice_get (variants_at variants o) n ≡ Some by →
    (slice_get strands s ≡ Some by.0) × (slice_get (variants by.0) n ≡ Some by.1)
of_variants strands variants s n by None is e = absurd (none-some by e)
of_variants strands variants s n by (Some strand) is e =
    let v = mapped_at (λ (v : Variant). (strand, v)) (variants strand) n by e in
    (is ∙ ap (λ (x : Strand × Variant). Some x.0) v.2, subst (λ (x : Strand × Variant). slice_get (variants x.0) n ≡ Some x.1) v.2 v.1)

module _ (protocol : Protocol) (can : IsNarrowing (theory_of protocol)) (variants : Strand → List Variant)
    (varied : (s : ℕ) (strand : Strand) (v : Variant) → slice_get protocol.strands s ≡ Some strand → Contains (variants strand) v → IsStrandVariant (theory_of protocol) strand v) (sorts : List ℕ) where
  -- A choice that is made in part fits, and the aim's variables have lower numbers.
  record IsFitMade (m : Made) : Type 0 where
    pub move : IsFitMove protocol m
    pub above : length sorts ≤ m.next

  -- The terms of parts are plain and over the aim's variables, and the parts name strands that are there.
  abbrev AreFitParts : List Part → Type 0
  AreFitParts parts = (p : Part) → Contains parts p → IsWellFormedPart protocol.sig protocol.strands sorts p × ((t : Term) → Contains (part_terms p) t → IsPlainTerm t)

  made_known : (t : Term) (m : Made) → IsPlain (theory_of protocol) t → IsFitMade m → IsFitMade (with_known t m)
  made_known t m plain made = record {
    move = record { strands = made.move.strands; terms = in_terms; pairs = made.move.pairs; low = made.move.low };
    above = made.above;
  }
    where
      in_terms : (u : Term) → IsTermOf (with_known t m).from u → IsPlain (theory_of protocol) u
      in_terms u (of_args k p e c) = made.move.terms u (of_args k p e c)
      in_terms u (of_msgs k p e c) = made.move.terms u (of_msgs k p e c)
      in_terms u (of_known c) = elim (Contains-append_cases m.from.known (t ∷ []) u c) [
        | inl d ↦ made.move.terms u (of_known d)
        | inr d ↦ subst (IsPlain (theory_of protocol)) (only_one t u d) plain
      ]
      in_terms u (of_unknown c) = made.move.terms u (of_unknown c)

  module _ (s bar : ℕ) (args : List Term) (strand : Strand) (n : ℕ) (v : Variant) (m : Made) (made : IsFitMade m) (there : slice_get protocol.strands s ≡ Some strand) (listed : Contains (variants strand) v)
      (within : bar ≤ length strand.events) (plain : (t : Term) → Contains args t → IsPlain (theory_of protocol) t) (own : (t : Term) → Contains args t → IsOwn sorts t) where
    variant : IsStrandVariant (theory_of protocol) strand v
    variant = varied s strand v there listed

    abbrev more : Made
    more = with_strand s bar args strand n v m

    more_strand : (k : ℕ) (p : PStrand) → slice_get more.from.strands k ≡ Some p → IsFitStrand protocol p
    more_strand k p e = elim (push_at m.from.strands (raised_strand m.next s strand v bar) p k e) [
      | inl old ↦ made.move.strands k p old
      | inr is ↦ subst (IsFitStrand protocol) is (raised_fits protocol can s strand v there variant m.next bar within)
    ]

    more_term : (t : Term) → IsTermOf more.from t → IsPlain (theory_of protocol) t
    more_term t (of_args k p e c) = elim (push_at m.from.strands (raised_strand m.next s strand v bar) p k e) [
      | inl old ↦ made.move.terms t (of_args k p old c)
      | inr is ↦ raised_args protocol can s strand v there variant m.next t (subst (λ (x : PStrand). Contains x.args t) (sym is) c)
    ]
    more_term t (of_msgs k p e c) = elim (push_at m.from.strands (raised_strand m.next s strand v bar) p k e) [
      | inl old ↦ made.move.terms t (of_msgs k p old c)
      | inr is ↦ raised_msgs protocol can s strand v there variant m.next bar t (subst (λ (x : PStrand). Contains x.msgs t) (sym is) c)
    ]
    more_term t (of_known c) = made.move.terms t (of_known c)
    more_term t (of_unknown c) = made.move.terms t (of_unknown c)

    more_pairs : (t u : Term) → Contains more.pairs (t, u) → IsPlain (theory_of protocol) t × IsPlain (theory_of protocol) u
    more_pairs t u c = elim (Contains-append_cases m.pairs (zip args (map (renamed m.next) (args_of strand v))) (t, u) c) [
      | inl d ↦ made.move.pairs t u d
      | inr d ↦
          let both = zip_members args (map (renamed m.next) (args_of strand v)) t u d in
          (plain t both.0, raised_args protocol can s strand v there variant m.next u both.1)
    ]

    arg_low : (x : Variable) → Contains (flat_map variables args) x → x.num < m.next + past_variant v
    arg_low x c =
        let t = of_member args x c in
        let low : x.num < length sorts = slice_get_within sorts x.num x.sort (own t.0 t.1 x t.2) in
        omega (arith, low, made.above)

    value_low : (x : Variable) → Contains (flat_map variables (map (renamed m.next) (args_of strand v))) x → x.num < m.next + past_variant v
    value_low x c =
        let t = of_member (map (renamed m.next) (args_of strand v)) x c in
        let u = of_mapped (renamed m.next) (args_of strand v) t.0 t.1 in
        raised_low protocol can s strand v there variant m.next u.0 x (of_taken (param_count strand) v.terms u.0 u.1) (subst (λ (y : Term). Contains (variables y) x) u.2 t.2)

    more_low : (x : Variable) → Contains (pair_variables more.pairs) x → x.num < more.next
    more_low x c = elim (pairs_cases m.pairs (zip args (map (renamed m.next) (args_of strand v))) x c) [
      | inl d ↦ let low : x.num < m.next = made.move.low x d in omega (arith, low)
      | inr d ↦ elim (zip_cases args (map (renamed m.next) (args_of strand v)) x d) [
        | inl e ↦ arg_low x e
        | inr e ↦ value_low x e
      ]
    ]

    made_strand : IsFitMade more
    made_strand = record {
      move = record { strands = more_strand; terms = more_term; pairs = more_pairs; low = more_low };
      above = let less : length sorts ≤ m.next = made.above in omega (arith, less);
    }

  of_moves : (parts : List Part) (m move : Made) → AreFitParts parts → IsFitMade m → Contains (root_moves protocol.strands variants parts m) move → IsFitMade move
  of_moves [] m move fit made c = subst IsFitMade (only_one m move c) made
  of_moves (part.Known t ∷ parts) m move fit made c =
      let one = fit (part.Known t) (here (part.Known t) parts) in
      of_moves parts (with_known t m) move (λ p d. fit p (later (part.Known t) p parts d))
      (made_known t m (record { sorted = one.0.term.sorted; nameless = (one.1 t (here t [])).nameless }) made) c
  of_moves (part.Strand s bar args ∷ parts) m move fit made c =
      let own = part.Strand s bar args in
      let one = fit own (here own parts) in
      let at = of_zero (λ n by. root_moves protocol.strands variants parts (with_strand s bar args by.0 n by.1 m)) (variants_at variants (slice_get protocol.strands s)) move c in
      let by = at.1 in
      let there = of_variants protocol.strands variants s at.0 by (slice_get protocol.strands s) refl at.2 in
      let same : one.0.strand ≡ by.0 = same_Some one.0.strand by.0 (sym one.0.there ∙ there.0) in
      of_moves parts (with_strand s bar args by.0 at.0 by.1 m) move (λ p d. fit p (later own p parts d))
      (made_strand s bar args by.0 at.0 by.1 m made there.0 (member_at (variants by.0) at.0 by.1 there.1)
      (subst (λ (x : Strand). bar ≤ length x.events) same one.0.within)
      (λ t d. record { sorted = (one.0.terms t d).sorted; nameless = (one.1 t d).nameless })
      (λ t d. (one.0.terms t d).own))
      at.3

module _ (protocol : Protocol) (can : IsNarrowing (theory_of protocol)) (variants : Strand → List Variant)
    (varied : (s : ℕ) (strand : Strand) (v : Variant) → slice_get protocol.strands s ≡ Some strand → Contains (variants strand) v → IsStrandVariant (theory_of protocol) strand v)
    (aim : Aim) (formed : IsWellFormedAim protocol.sig protocol.strands aim) (plain : IsPlainAim aim) where
  no_term : (t : Term) → IsTermOf (begun aim).from t → ⊥
  no_term t (of_args k p e c) = none-some p e
  no_term t (of_msgs k p e c) = none-some p e
  no_term t (of_known c) = nowhere t c
  no_term t (of_unknown c) = nowhere t c

  begun_fits : IsFitMade protocol can variants varied aim.sorts (begun aim)
  begun_fits = record {
    move = record {
      strands = λ k p e. absurd (none-some p e);
      terms = λ t c. absurd (no_term t c);
      pairs = λ t u c. absurd (nowhere (t, u) c);
      low = λ v c. absurd (nowhere v c);
    };
    above = omega arith;
  }

  pub root_fits : (m : Made) → Contains (root_problem protocol.strands variants aim) m → IsFitMove protocol m
  root_fits m c = (of_moves protocol can variants varied aim.sorts aim.parts (begun aim) m (λ p d. (formed.parts p d, plain p d)) begun_fits c).move

-- The moves of a pattern's own strands: their terms are terms of the pattern.
use Rattle.std.proofs.Common.{◌≡◌, ℕ, ◌+◌, ◌-◌, ◌<◌, ◌⊎◌, inl, inr, true, false, cond, Some, List, [], ◌∷◌, ◌++◌, slice_get, slice_set, Contains, sym, ◌∙◌, ap, subst}
use Rattle.std.specs.List.{flat_map}
use Rattle.std.proofs.lemmas.Bool.{cases_eq}
use Rattle.std.proofs.lemmas.List.Elements.{Contains-append_cases, Contains-append_left, Contains-append_right}
use Rattle.std.proofs.lemmas.Option.{same_Some}
use Rattle.npa_term.specs.declared.term.Term.{Term}
use Rattle.npa_term.specs.declared.term.Var.{Var as Variable}
use Rattle.npa_term.specs.Variables.{variables}
use Rattle.npa_term.specs.Numbering.{is_listed, once_after}
use Rattle.npa_term.proofs.Numbered.{once_has}
use Rattle.npa_unify.specs.Branches.{pair_variables}
use Rattle.npa_unify.proofs.Members.{here, later, nowhere, only_one}
use Rattle.npa_variants.proofs.Members.{flat_member, of_flat, of_mapped, of_taken}
use Rattle.npa_variants.proofs.Unifying.{past_above}
use Rattle.npa_model.specs.declared.pattern.PStrand.{PStrand}
use Rattle.npa_model.specs.declared.pattern.Pattern.{Pattern}
use Rattle.npa_model.specs.Backward.{set_back}
use Rattle.npa_model.specs.Fitting.{pattern_variables, strand_variables}
use Rattle.npa_model.specs.Patterns.{IsTermOf, of_args, of_msgs, of_known, of_unknown, Occurs}
use Rattle.npa_model.proofs.Places.{member_at, place_of, set_elsewhere, set_here}
use Rattle.npa_moves.specs.Moves.{each_with, past_pattern}
use Rattle.npa_moves.specs.Steps.{pattern_once}

-- ## The variables of a pattern

-- the variables that are seen once are those of the list
pub of_once : (seen vs : List Variable) (v : Variable) → Contains (once_after seen vs) v → Contains seen v ⊎ Contains vs v
of_once seen [] v c = inl c
of_once seen (w ∷ ws) v c =
    elim (is_listed seen w) as (λ b. Contains (cond b (once_after seen ws) (once_after (seen ++ w ∷ []) ws)) v → Contains seen v ⊎ Contains (w ∷ ws) v) [
      | true ↦ λ d. elim (of_once seen ws v d) [ inl a ↦ inl a | inr b ↦ inr (later w v ws b) ]
      | false ↦ λ d. elim (of_once (seen ++ w ∷ []) ws v d) [
        | inl a ↦ elim (Contains-append_cases seen (w ∷ []) v a) [
          | inl e ↦ inl e
          | inr e ↦ inr (subst (Contains (w ∷ ws)) (only_one w v e) (here w ws))
        ]
        | inr b ↦ inr (later w v ws b)
      ]
    ] c

pub is_variable : (g : Pattern) (t : Term) (v : Variable) → IsTermOf g t → Contains (variables t) v → Contains (pattern_variables g) v
is_variable g t v (of_args k p e c) d = Contains-append_left (flat_map strand_variables g.strands) (flat_map variables g.known ++ flat_map variables g.unknown) v
    (flat_member strand_variables g.strands p v (member_at g.strands k p e) (Contains-append_left (flat_map variables p.args) (flat_map variables p.msgs) v (flat_member variables p.args t v c d)))
is_variable g t v (of_msgs k p e c) d = Contains-append_left (flat_map strand_variables g.strands) (flat_map variables g.known ++ flat_map variables g.unknown) v
    (flat_member strand_variables g.strands p v (member_at g.strands k p e) (Contains-append_right (flat_map variables p.args) (flat_map variables p.msgs) v (flat_member variables p.msgs t v c d)))
is_variable g t v (of_known c) d = Contains-append_right (flat_map strand_variables g.strands) (flat_map variables g.known ++ flat_map variables g.unknown) v
    (Contains-append_left (flat_map variables g.known) (flat_map variables g.unknown) v (flat_member variables g.known t v c d))
is_variable g t v (of_unknown c) d = Contains-append_right (flat_map strand_variables g.strands) (flat_map variables g.known ++ flat_map variables g.unknown) v
    (Contains-append_right (flat_map variables g.known) (flat_map variables g.unknown) v (flat_member variables g.unknown t v c d))

strand_occurs : (g : Pattern) (k : ℕ) (p : PStrand) (v : Variable) → slice_get g.strands k ≡ Some p → Contains (strand_variables p) v → Occurs v g
strand_occurs g k p v e c = elim (Contains-append_cases (flat_map variables p.args) (flat_map variables p.msgs) v c) [
  | inl d ↦ let t = of_flat variables p.args v d in record { term = t.0; there = of_args k p e t.1; within = t.2 }
  | inr d ↦ let t = of_flat variables p.msgs v d in record { term = t.0; there = of_msgs k p e t.1; within = t.2 }
]

pub occurs : (g : Pattern) (v : Variable) → Contains (pattern_variables g) v → Occurs v g
occurs g v c = elim (Contains-append_cases (flat_map strand_variables g.strands) (flat_map variables g.known ++ flat_map variables g.unknown) v c) [
  | inl d ↦
      let p = of_flat strand_variables g.strands v d in
      let place = place_of g.strands p.0 p.1 in
      strand_occurs g place.0 p.0 v place.1 p.2
  | inr d ↦ elim (Contains-append_cases (flat_map variables g.known) (flat_map variables g.unknown) v d) [
    | inl e ↦ let t = of_flat variables g.known v e in record { term = t.0; there = of_known t.1; within = t.2 }
    | inr e ↦ let t = of_flat variables g.unknown v e in record { term = t.0; there = of_unknown t.1; within = t.2 }
  ]
]

pub below_past : (g : Pattern) (v : Variable) → Occurs v g → v.num < past_pattern g
below_past g v o = past_above (pattern_variables g) v (is_variable g o.term v o.there o.within)

pub once_occurs : (g : Pattern) (v : Variable) → Contains (pattern_once g) v → Occurs v g
once_occurs g v c = elim (of_once [] (pattern_variables g) v c) [
  | inl d ↦ absurd (nowhere v d)
  | inr d ↦ occurs g v d
]

pub occurs_once : (g : Pattern) (v : Variable) → Occurs v g → Contains (pattern_once g) v
occurs_once g v o = once_has [] (pattern_variables g) v (is_variable g o.term v o.there o.within)

-- ## The strands with one set back

module _ (g : Pattern) (k : ℕ) (p : PStrand) (bar : ℕ) (there : slice_get g.strands k ≡ Some p) (known unknown : List Term)
    (of_known_facts : (t : Term) → Contains known t → IsTermOf g t) (of_unknown_facts : (t : Term) → Contains unknown t → IsTermOf g t) where
  abbrev pub back : Pattern
  back = record { strands = slice_set g.strands k (set_back p bar); known = known; unknown = unknown }

  strand_back : (j : ℕ) (q : PStrand) → slice_get (slice_set g.strands k (set_back p bar)) j ≡ Some q → (set_back p bar ≡ q) ⊎ (slice_get g.strands j ≡ Some q)
  strand_back j q e = elim (cases_eq j k) [
    | inl is ↦ inl (same_Some (set_back p bar) q (sym (set_here g.strands k p (set_back p bar) there) ∙ ap (slice_get (slice_set g.strands k (set_back p bar))) (sym is) ∙ e))
    | inr other ↦ inr (sym (set_elsewhere g.strands k j (set_back p bar) other) ∙ e)
  ]

  pub back_terms : (t : Term) → IsTermOf back t → IsTermOf g t
  back_terms t (of_args j q e c) = elim (strand_back j q e) [
    | inl is ↦ of_args k p there (subst (λ (x : PStrand). Contains x.args t) (sym is) c)
    | inr d ↦ of_args j q d c
  ]
  back_terms t (of_msgs j q e c) = elim (strand_back j q e) [
    | inl is ↦ of_msgs k p there (of_taken bar p.msgs t (subst (λ (x : PStrand). Contains x.msgs t) (sym is) c))
    | inr d ↦ of_msgs j q d c
  ]
  back_terms t (of_known c) = of_known_facts t c
  back_terms t (of_unknown c) = of_unknown_facts t c

-- ## Pairs of terms with one term

pub of_pairs : (m : Term) (ts : List Term) (p : Term × Term) → Contains (each_with m ts) p → Contains ts p.0 × (p.1 ≡ m)
of_pairs m ts p c =
    let one = of_mapped (λ (t : Term). (t, m)) ts p c in
    (subst (λ (x : Term × Term). Contains ts x.0) (sym one.2) one.1, ap (λ (x : Term × Term). x.1) one.2)

pub pair_variable : (m : Term) (ts : List Term) (v : Variable) → Contains (pair_variables (each_with m ts)) v → ((t : Term) × Contains ts t × Contains (variables t) v) ⊎ Contains (variables m) v
pair_variable m [] v c = absurd (nowhere v c)
pair_variable m (t ∷ ts) v c = elim (Contains-append_cases (variables t) (variables m ++ pair_variables (each_with m ts)) v c) [
  | inl d ↦ inl (t, here t ts, d)
  | inr d ↦ elim (Contains-append_cases (variables m) (pair_variables (each_with m ts)) v d) [
    | inl e ↦ inr e
    | inr e ↦ elim (pair_variable m ts v e) [
      | inl f ↦ inl (f.0, later t f.0 ts f.1, f.2)
      | inr f ↦ inr f
    ]
  ]
]

-- What holds of each place in a term, by induction on the depth of the place.
use Rattle.std.proofs.Common.{◌≡◌, ◌⊎◌, List, [], ◌∷◌, ◌++◌, map, refl, sym, ◌∙◌, ap, subst, inl, inr}
use Rattle.std.specs.Prelude.{Contains}
use Rattle.std.specs.List.{flat_map}
use Rattle.std.proofs.lemmas.Grind.{flat_map-append}
use Rattle.std.proofs.lemmas.List.Elements.{Contains-append_left, Contains-append_right, Contains-append_cases}
use Rattle.npa_term.specs.declared.term.Op.{Op}
use Rattle.npa_term.specs.declared.term.Var.{Var as Variable}
use Rattle.npa_term.specs.declared.term.Term.{Term, Var, App}
use Rattle.npa_term.specs.Variables.{variables}
use Rattle.npa_term.proofs.Induction.{Each, by_terms}
use Rattle.npa_rewrite.proofs.Instances.{in_app, of_app}
use Rattle.npa_unify.proofs.Members.{here, nowhere, member_cases, map_member, only_one}
use Rattle.npa_conv.specs.Overlaps.{hole, holes, list_holes}
use Rattle.npa_conv.proofs.Holes.{holes_app}

module _ (P : Term → Term → Term → Type 0) where
  -- a place in one of the terms of a list
  record InMember (ts : List Term) (part : Term) (us : List Term) : Type 0 where
    before : List Term
    after : List Term
    term : Term
    around : Term
    whole : ts ≡ before ++ term ∷ after
    made : us ≡ before ++ around ∷ after
    has : P term part around

  abbrev AtPlaces : Term → Type 0
  AtPlaces t = (part around : Term) → Contains (holes t) (part, around) → P t part around

  in_first : (t : Term) (ts : List Term) → AtPlaces t → (part : Term) (us : List Term) → Contains {X = Term × List Term} (map (λ (p : Term × Term). (p.0, p.1 ∷ ts)) (holes t)) (part, us) → InMember (t ∷ ts) part us
  in_first t ts each part us c =
      let from = map_member (λ (p : Term × Term). (p.0, p.1 ∷ ts)) (holes t) (part, us) c in
      record {
        before = [];
        after = ts;
        term = t;
        around = from.0.1;
        whole = refl;
        made = sym (ap (λ (p : Term × List Term). p.1) from.2);
        has = subst (λ x. P t x from.0.1) (ap (λ (p : Term × List Term). p.0) from.2) (each from.0.0 from.0.1 from.1);
      }

  in_rest : (t : Term) (ts : List Term) (part : Term) (us vs : List Term) → us ≡ t ∷ vs → InMember ts part vs → InMember (t ∷ ts) part us
  in_rest t ts part us vs is m = record {
    before = t ∷ m.before;
    after = m.after;
    term = m.term;
    around = m.around;
    whole = ap (λ xs. t ∷ xs) m.whole;
    made = is ∙ ap (λ xs. t ∷ xs) m.made;
    has = m.has;
  }

  in_list : (ts : List Term) → Each AtPlaces ts → (part : Term) (us : List Term) → Contains (list_holes ts) (part, us) → InMember ts part us
  in_list [] each part us c = absurd (nowhere (part, us) c)
  in_list (t ∷ ts) each part us c =
      elim (Contains-append_cases (map (λ (p : Term × Term). (p.0, p.1 ∷ ts)) (holes t)) (map (λ (p : Term × List Term). (p.0, t ∷ p.1)) (list_holes ts)) (part, us) c) [
        | inl d ↦ in_first t ts each.0 part us d
        | inr d ↦
            let from = map_member (λ (p : Term × List Term). (p.0, t ∷ p.1)) (list_holes ts) (part, us) d in
            in_rest t ts part us from.0.1 (sym (ap (λ (p : Term × List Term). p.1) from.2))
            (subst (λ x. InMember ts x from.0.1) (ap (λ (p : Term × List Term). p.0) from.2) (in_list ts each.1 from.0.0 from.0.1 from.1))
      ]

  -- a property of the place of the term itself that a place in an argument hands on
  pub at_places : ((op : Op) (ts : List Term) → P (App op ts) (App op ts) (Var hole)) →
      ((op : Op) (before after : List Term) (t part around : Term) → P t part around → P (App op (before ++ t ∷ after)) part (App op (before ++ around ∷ after))) →
      (t part around : Term) → Contains (holes t) (part, around) → P t part around
  at_places top under =
      by_terms AtPlaces (λ v part around c. absurd (nowhere (part, around) c)) (λ n part around c. absurd (nowhere (part, around) c))
      (λ op ts each part around c.
      elim (member_cases (App op ts, Var hole) (part, around) (map (λ (p : Term × List Term). (p.0, App op p.1)) (list_holes ts)) (subst (λ hs. Contains hs (part, around)) (holes_app op ts) c)) [
        | inl e ↦
            subst (λ x. P (App op ts) x around) (ap (λ (p : Term × Term). p.0) e)
            (subst (λ x. P (App op ts) (App op ts) x) (ap (λ (p : Term × Term). p.1) e) (top op ts))
        | inr d ↦
            let from = map_member (λ (p : Term × List Term). (p.0, App op p.1)) (list_holes ts) (part, around) d in
            let m = in_list ts each from.0.0 from.0.1 from.1 in
            subst (λ x. P (App op ts) x around) (ap (λ (p : Term × Term). p.0) from.2)
            (subst (λ x. P (App op ts) from.0.0 x) (sym (ap (App op) m.made) ∙ ap (λ (p : Term × Term). p.1) from.2)
            (subst (λ xs. P (App op xs) from.0.0 (App op (m.before ++ m.around ∷ m.after))) (sym m.whole) (under op m.before m.after m.term from.0.0 m.around m.has)))
      ])

-- variables of a term of a list and those around it

middle_in : (before after : List Term) (t : Term) (v : Variable) → Contains (variables t) v → Contains (flat_map variables (before ++ t ∷ after)) v
middle_in before after t v c =
    subst (λ vs. Contains vs v) (sym (flat_map-append variables before (t ∷ after)))
    (Contains-append_right (flat_map variables before) (flat_map variables (t ∷ after)) v (Contains-append_left (variables t) (flat_map variables after) v c))

middle_cases : (before after : List Term) (t u : Term) (v : Variable) → Contains (flat_map variables (before ++ t ∷ after)) v →
    Contains (variables t) v ⊎ Contains (flat_map variables (before ++ u ∷ after)) v
middle_cases before after t u v c =
    let back : Contains (flat_map variables before ++ flat_map variables (u ∷ after)) v → Contains (flat_map variables (before ++ u ∷ after)) v =
    subst (λ vs. Contains vs v) (sym (flat_map-append variables before (u ∷ after))) in
    elim (Contains-append_cases (flat_map variables before) (flat_map variables (t ∷ after)) v (subst (λ vs. Contains vs v) (flat_map-append variables before (t ∷ after)) c)) [
      | inl d ↦ inr (back (Contains-append_left (flat_map variables before) (flat_map variables (u ∷ after)) v d))
      | inr d ↦ elim (Contains-append_cases (variables t) (flat_map variables after) v d) [
        | inl e ↦ inl e
        | inr e ↦ inr (back (Contains-append_right (flat_map variables before) (flat_map variables (u ∷ after)) v (Contains-append_right (variables u) (flat_map variables after) v e)))
      ]
    ]

-- a part's variables are the term's
pub part_variables : (t part around : Term) → Contains (holes t) (part, around) → (v : Variable) → Contains (variables part) v → Contains (variables t) v
part_variables =
    at_places (λ t part around. (v : Variable) → Contains (variables part) v → Contains (variables t) v) (λ op ts v c. c)
    (λ op before after t part around has v c. in_app op (before ++ t ∷ after) v (middle_in before after t v (has v c)))

-- those around it are the hole and the term's
pub around_variables : (t part around : Term) → Contains (holes t) (part, around) → (v : Variable) → Contains (variables around) v → (hole ≡ v) ⊎ Contains (variables t) v
around_variables =
    at_places (λ t part around. (v : Variable) → Contains (variables around) v → (hole ≡ v) ⊎ Contains (variables t) v) (λ op ts v c. inl (only_one hole v c))
    (λ op before after t part around has v c.
    elim (middle_cases before after around t v (of_app op (before ++ around ∷ after) v c)) [
      | inl d ↦ elim (has v d) [ inl e ↦ inl e | inr e ↦ inr (in_app op (before ++ t ∷ after) v (middle_in before after t v e)) ]
      | inr d ↦ inr (in_app op (before ++ t ∷ after) v d)
    ])

-- Each instance of a strand goes through one of its variants.
use Rattle.std.proofs.Common.{◌≡◌, true, List, [], ◌∷◌, ◌++◌, length, map, drop, inl, inr, refl, sym, ◌∙◌, ap, subst}
use Rattle.std.specs.Prelude.{Contains}
use Rattle.std.specs.List.{flat_map}
use Rattle.std.proofs.lemmas.List.Elements.{Contains-append_right}
use Rattle.npa_term.specs.declared.term.Var.{Var as Variable}
use Rattle.npa_term.specs.declared.term.Term.{Term, Var}
use Rattle.npa_term.specs.Bound.{applied}
use Rattle.npa_term.specs.Canonical.{canonical}
use Rattle.npa_term.specs.Parts.{image, least_sort}
use Rattle.npa_term.specs.Same.{Same, SameAll, nothing, first}
use Rattle.npa_term.specs.Variables.{IsGround, variables}
use Rattle.npa_term.proofs.Parts.{part_ground}
use Rattle.npa_term.proofs.Renumbered.{member_variable, of_member}
use Rattle.npa_term.proofs.SameLaws.{same_all_sym, same_sym}
use Rattle.npa_sig.specs.declared.protocol.Event.{Event}
use Rattle.npa_sig.specs.declared.protocol.Strand.{Strand}
use Rattle.npa_sig.specs.Operators.{PairsCommute}
use Rattle.npa_sig.specs.Parameters.{param_sorts}
use Rattle.npa_sig.specs.Signature.{Signature}
use Rattle.npa_sig.specs.Sorting.{all_below, well_sorted}
use Rattle.npa_sig.specs.Values.{under}
use Rattle.npa_sig.specs.WellFormed.{IsWellFormedStrand}
use Rattle.npa_sig.proofs.SortedTerms.{under_ground}
use Rattle.npa_rewrite.specs.declared.theory.Theory.{Theory}
use Rattle.npa_rewrite.specs.Innermost.{normalized}
use Rattle.npa_rewrite.specs.Normal.{IsNormalTerm}
use Rattle.npa_rewrite.specs.Rewriting.{AllCancel, GivesNormalForms, IsConvergent, IsNormal, IsNormalFormOf}
use Rattle.npa_rewrite.proofs.FormLaws.{form_ground, form_well_sorted}
use Rattle.npa_rewrite.proofs.InstanceParts.{here, behind, image_part}
use Rattle.npa_rewrite.proofs.Instances.{same_variables}
use Rattle.npa_rewrite.proofs.Normalized.{normalized_form, same_form}
use Rattle.npa_rewrite.proofs.Parts.{normal_part}
use Rattle.npa_rewrite.proofs.Sorting.{image_sorted, same_sorted, sorted_canonical}
use Rattle.npa_rewrite.proofs.Under.{normal_same}
use Rattle.npa_variants.specs.declared.variant.Variant.{Variant}
use Rattle.npa_variants.specs.Strands.{param_count, params_of, strand_terms}
use Rattle.npa_variants.specs.StrandVariants.{IsInstanceOf, args_of, messages_of}
use Rattle.npa_variants.specs.Variants.{IsComplete, IsThrough, Pairwise, row_of, variant_variables}
use Rattle.npa_variants.proofs.Forms.{form_normal, normal_form_is}
use Rattle.npa_variants.proofs.Members.{mapped_member, none_there, of_dropped, of_mapped, same_all_member, taken_or_dropped}
use Rattle.npa_variants.proofs.Sound.{map_equal, map_map}
use Rattle.npa_variants.proofs.StrandOrigins.{count_params, instance_values, message_same, message_sorted, normal_term, respects, values, values_normal}

-- what equals a ground term is ground
none_of : {X : Type 0} (xs : List X) → ((x : X) → Contains xs x → ⊥) → xs ≡ []
none_of [] never = refl
none_of (x ∷ xs) never = absurd (never x (here x xs))

same_ground : {t u : Term} → Same t u → IsGround t → IsGround u
same_ground {t} {u} same ground =
    none_of (variables u) (λ v c. none_there v (subst (λ vs. Contains vs v) ground (same_variables (same_sym same) v c)))

-- lists that are equal place by place have the same canonical forms
canonical_all : (sig : Signature) → PairsCommute sig → {ts us : List Term} → SameAll ts us → ((u : Term) → Contains us u → well_sorted sig u ≡ true) → map canonical ts ≡ map canonical us
canonical_all sig pairs nothing sorted = refl
canonical_all sig pairs (first t u ts us p q) sorted =
    ap (λ x. x ∷ map canonical ts) (sym (sorted_canonical sig pairs u t (same_sym p) (sorted u (here u us))))
    ∙ ap (λ xs. canonical u ∷ xs) (canonical_all sig pairs q (λ x c. sorted x (behind u x us c)))

-- behind a front, what is related is equal
behind_same : {X : Type 0} (R : Term → Term → Type 0) (ts : List Term) (f g : X → Term) (h : Term → Term) (xs : List X) (us : List Term) → Pairwise R (ts ++ map f xs) us →
    ((x : X) (u : Term) → Contains xs x → R (f x) u → Same (g x) (h u)) → SameAll (map g xs) (map h (drop (length ts) us))
behind_same R [] f g h [] [] related same = nothing
behind_same R [] f g h [] (u ∷ us) related same = absurd related
behind_same R [] f g h (x ∷ xs) [] related same = absurd related
behind_same R [] f g h (x ∷ xs) (u ∷ us) related same =
    first (g x) (h u) (map g xs) (map h us) (same x u (here x xs) related.0) (behind_same R [] f g h xs us related.1 (λ y w c. same y w (behind x y xs c)))
behind_same R (t ∷ ts) f g h xs [] related same = absurd related
behind_same R (t ∷ ts) f g h xs (u ∷ us) related same = behind_same R ts f g h xs us related.1 same

module _ (th : Theory) (nf : Term → Term) (gives : GivesNormalForms th nf) (cancel : AllCancel th) (pairs : PairsCommute th.sig) (convergent : IsConvergent th)
    (strand : Strand) (formed : IsWellFormedStrand th.sig strand) (args : List Term) (low : all_below th.sig (map least_sort args) (param_sorts strand) ≡ true)
    (normal : (t : Term) → Contains args t → IsNormalTerm nf th.sig t) where
  -- a normal ground term, told by rewriting
  as_normal : (t : Term) → well_sorted th.sig t ≡ true → IsGround t → IsNormal th t → IsNormalTerm nf th.sig t
  as_normal t sorted ground is = record {
    term = record { sorted = sorted; ground = ground };
    normal = same_form th nf t cancel convergent gives sorted ∙ normal_form_is th cancel t is;
  }

  same_normal : (t u : Term) → Same t u → IsNormalTerm nf th.sig t → IsNormalTerm nf th.sig u
  same_normal t u same is =
      as_normal u (same_sorted th.sig pairs same is.term.sorted) (same_ground same is.term.ground)
      (normal_same th t u same (normal_term th nf gives convergent t is))

  -- the messages of the instance in normal form
  message_form : (e : Event) → Contains strand.events e → nf (under args e.msg) ≡ normalized th (under args e.msg)
  message_form e c = same_form th nf (under args e.msg) cancel convergent gives (message_sorted th nf gives convergent strand formed args low normal e c)

  message_normal : (e : Event) → Contains strand.events e → IsNormalTerm nf th.sig (nf (under args e.msg))
  message_normal e c =
      let ground = under_ground th.sig (param_sorts strand) args low (λ t d. (normal t d).term) e.msg (formed.messages e c).term in
      subst (IsNormalTerm nf th.sig) (sym (message_form e c))
      (as_normal (normalized th (under args e.msg)) (form_well_sorted th cancel pairs (under args e.msg) ground.sorted) (form_ground th cancel (under args e.msg) ground.ground)
      (form_normal th cancel (under args e.msg)))

  module _ (v : Variant) (through : IsThrough th (strand_terms strand) (values th nf gives convergent strand formed args low normal) v) where
    abbrev d : List (Variable × Term)
    d = through.by_

    values_same : SameAll (map (applied d) (args_of strand v)) args
    values_same = instance_values th nf gives convergent strand formed args low normal v through

    messages_same : SameAll (map (λ e. nf (under args e.msg)) strand.events) (map (applied d) (messages_of strand v))
    messages_same =
        subst (λ n. SameAll (map (λ e. nf (under args e.msg)) strand.events) (map (applied d) (drop n v.terms))) (count_params 0 (param_sorts strand))
        (behind_same (λ t u. IsNormalFormOf th (applied (values th nf gives convergent strand formed args low normal) t) (canonical (applied d u))) (map Var (params_of strand))
        (λ e. e.msg) (λ e. nf (under args e.msg)) (applied d) strand.events v.terms through.forms
        (λ e u c form. message_same th nf gives convergent strand formed args low normal v through e u c form))

    term_normal : (t : Term) → Contains v.terms t → IsNormalTerm nf th.sig (applied d t)
    term_normal t c =
        elim (taken_or_dropped (param_count strand) v.terms t c) [
          | inl a ↦
              let at = same_all_member values_same (applied d t) (mapped_member (applied d) (args_of strand v) t a) in
              same_normal at.0 (applied d t) (same_sym at.2) (normal at.0 at.1)
          | inr b ↦
              let at = same_all_member (same_all_sym messages_same) (applied d t) (mapped_member (applied d) (messages_of strand v) t b) in
              let e = of_mapped (λ (x : Event). nf (under args x.msg)) strand.events at.0 at.1 in
              same_normal at.0 (applied d t) (same_sym at.2) (subst (IsNormalTerm nf th.sig) (sym e.2) (message_normal e.0 e.1))
        ]

    value_normal : (y : Variable) → Contains (flat_map variables v.terms) y → IsNormalTerm nf th.sig (image d y)
    value_normal y c =
        let at = of_member v.terms y c in
        let whole = term_normal at.0 at.1 in
        let part = image_part d y at.0 at.2 in
        as_normal (image d y) (image_sorted th.sig d y at.0 at.2 whole.term.sorted) (part_ground part whole.term.ground)
        (normal_part th part (normal_term th nf gives convergent (applied d at.0) whole))

    variant_has : (y : Variable) → Contains (flat_map variables v.terms) y → Contains (variant_variables v) y
    variant_has y c =
        let at = of_member v.terms y c in
        member_variable (row_of v) at.0 y (Contains-append_right (map (λ b. b.1) v.subst) v.terms at.0 at.1) at.2

    messages_settled : map canonical (map (λ e. nf (under args e.msg)) strand.events) ≡ map (λ e. nf (under args e.msg)) strand.events
    messages_settled =
        map_map (λ e. nf (under args e.msg)) canonical strand.events
        ∙ map_equal (λ e. canonical (nf (under args e.msg))) (λ e. nf (under args e.msg)) strand.events
        (λ e c. ap canonical (message_form e c) ∙ (normalized_form th cancel (under args e.msg)).settled ∙ sym (message_form e c))

    pub instance_through : IsInstanceOf nf th.sig strand args v
    instance_through = record {
      by_ = d;
      sorts = record { sorted = λ y c. through.sorts.sorted y (variant_has y c); below = λ y c. through.sorts.below y (variant_has y c) };
      ground = value_normal;
      terms = term_normal;
      values = canonical_all th.sig pairs values_same (λ t c. (normal t c).term.sorted);
      messages = sym (canonical_all th.sig pairs messages_same (λ t c.
          let at = of_mapped (applied d) (messages_of strand v) t c in
          subst (λ u. well_sorted th.sig u ≡ true) (sym at.2) (term_normal at.0 (of_dropped (param_count strand) v.terms at.0 at.1)).term.sorted)) ∙ messages_settled;
    }

  -- each instance goes through a member of a complete list
  pub strand_instance : (list : List Variant) → IsComplete th (strand_terms strand) list → (v : Variant) × Contains list v × IsInstanceOf nf th.sig strand args v
  strand_instance list complete =
      let found = complete (values th nf gives convergent strand formed args low normal) (respects th nf gives convergent strand formed args low normal)
      (values_normal th nf gives convergent strand formed args low normal) in
      (found.0, found.1, instance_through found.0 found.2)

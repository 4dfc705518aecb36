-- The pattern that comes of a move is like each pattern that has, place by place, what is made of the
-- move's terms.
use Rattle.std.proofs.Common.{◌≡◌, ℕ, zero, suc, Some, List, [], ◌∷◌, ◌++◌, map, take, zip, length, slice_get, Contains, refl, sym, ◌∙◌, ap, subst}
use Rattle.std.specs.List.{flat_map}
use Rattle.std.specs.Prelude.{⊤}
use Rattle.std.proofs.lemmas.List.{length-map}
use Rattle.std.proofs.lemmas.List.Elements.{Contains-append_left}
use Rattle.std.proofs.lemmas.Option.{none-some, same_Some}
use Rattle.npa_term.specs.declared.term.Term.{Term, Var}
use Rattle.npa_term.specs.declared.term.Var.{Var as Variable}
use Rattle.npa_term.specs.Bound.{applied}
use Rattle.npa_term.specs.Numbering.{unnumbered, variables_once}
use Rattle.npa_term.specs.Parts.{image}
use Rattle.npa_term.specs.Same.{Same, SameAll, itself, through}
use Rattle.npa_term.specs.Variables.{renamed, variables}
use Rattle.npa_term.proofs.CanonicalLaws.{canonical_same}
use Rattle.npa_term.proofs.Numbered.{unnumbered_numbered}
use Rattle.npa_term.proofs.Renumbered.{among_once, member_variable, same_has}
use Rattle.npa_term.proofs.SameLaws.{same_all_sym, same_applied, same_sym}
use Rattle.npa_sig.specs.declared.protocol.Strand.{Strand}
use Rattle.npa_variants.specs.declared.variant.Variant.{Variant}
use Rattle.npa_variants.specs.StrandVariants.{args_of, messages_of}
use Rattle.npa_variants.specs.Strands.{param_count}
use Rattle.npa_variants.proofs.Members.{mapped_member, of_mapped, of_taken, same_all_member}
use Rattle.npa_variants.proofs.Sound.{image_zip, map_map}
use Rattle.npa_model.specs.declared.pattern.PStrand.{PStrand}
use Rattle.npa_model.specs.declared.pattern.Pattern.{Pattern}
use Rattle.npa_model.specs.Covering.{AreAlike, HasSame}
use Rattle.npa_model.specs.Patterns.{IsTermOf, of_args, of_msgs, of_known, of_unknown, map_pattern, map_strand}
use Rattle.npa_model.proofs.Places.{at_mapped, mapped_at}
use Rattle.npa_moves.specs.Finishing.{Draft, draft_of, instance_of, kept_once, new_numbers, pattern_terms}
use Rattle.npa_moves.specs.Leading.{Alike, strand_under}
use Rattle.npa_moves.specs.Moves.{raised_strand}
use Rattle.npa_moves.proofs.Completing.{in_terms}
use Rattle.npa_moves.proofs.Covered.{same_list}
use Rattle.npa_moves.proofs.Keeping.{once_is}
use Rattle.npa_moves.proofs.OtherSteps.{message_member}
use Rattle.npa_moved.proofs.Making.{agree_made, made, once_keeps, raised_agree, raised_values}

module _ (vs : List Variable) (from : Pattern) (μ : List (Variable × Term)) where
  abbrev pub draft : Draft
  draft = draft_of vs from μ

  abbrev pub ν : List (Variable × Term)
  ν = new_numbers draft

  abbrev pub result : Pattern
  result = map_pattern (instance_of ν) draft.pattern

  abbrev pub unifier : List (Variable × Term)
  unifier = zip vs (map (instance_of ν) draft.values)

  -- ## The unifier of the result

  pub unifier_image : (v : Variable) → Contains vs v → image unifier v ≡ made μ ν (Var v)
  unifier_image v c =
      ap (λ (ts : List Term). image (zip vs ts) v) (map_map (λ w. instance_of μ (Var w)) (instance_of ν) vs)
      ∙ image_zip (λ w. made μ ν (Var w)) vs v c

  pub unifier_agrees : (t : Term) → ((v : Variable) → Contains (variables t) v → Contains vs v) → Same (applied unifier t) (made μ ν t)
  unifier_agrees t own =
      agree_made μ ν unifier t (λ v c. subst (λ (x : Term). Same x (made μ ν (Var v))) (sym (unifier_image v (own v c))) (itself (made μ ν (Var v))))

  -- ## Patterns with what is made

  pub record IsMadeStrand (p q : PStrand) : Type 0 where
    pub strand : q.strand ≡ p.strand
    pub bar : q.bar ≡ p.bar
    pub args : SameAll p.args (map (made μ ν) q.args)
    pub msgs : SameAll p.msgs (map (made μ ν) q.msgs)

  abbrev pub AreMade : List PStrand → List PStrand → Type 0
  AreMade [] [] = ⊤
  AreMade [] (q ∷ qs) = ⊥
  AreMade (p ∷ ps) [] = ⊥
  AreMade (p ∷ ps) (q ∷ qs) = IsMadeStrand p q × AreMade ps qs

  pub record IsMade (h g : Pattern) : Type 0 where
    pub strands : AreMade h.strands g.strands
    pub known : SameAll h.known (map (made μ ν) g.known)
    pub unknown : SameAll h.unknown (map (made μ ν) g.unknown)

  made_length : (ps qs : List PStrand) → AreMade ps qs → length ps ≡ length qs
  made_length [] [] all = refl
  made_length [] (q ∷ qs) all = absurd all
  made_length (p ∷ ps) [] all = absurd all
  made_length (p ∷ ps) (q ∷ qs) all = ap suc (made_length ps qs all.1)

  made_at : (ps qs : List PStrand) → AreMade ps qs → (k : ℕ) (p q : PStrand) → slice_get ps k ≡ Some p → slice_get qs k ≡ Some q → IsMadeStrand p q
  made_at [] qs all k p q e f = absurd (none-some p e)
  made_at (x ∷ ps) [] all k p q e f = absurd all
  made_at (x ∷ ps) (y ∷ qs) all zero p q e f = subst (λ (z : PStrand). IsMadeStrand z q) (same_Some x p e) (subst (IsMadeStrand x) (same_Some y q f) all.0)
  made_at (x ∷ ps) (y ∷ qs) all (suc k) p q e f = made_at ps qs all.1 k p q e f

  pub made_joined : (ps qs us ws : List PStrand) → AreMade ps qs → AreMade us ws → AreMade (ps ++ us) (qs ++ ws)
  made_joined [] [] us ws all rest = rest
  made_joined [] (q ∷ qs) us ws all rest = absurd all
  made_joined (p ∷ ps) [] us ws all rest = absurd all
  made_joined (p ∷ ps) (q ∷ qs) us ws all rest = (all.0, made_joined ps qs us ws all.1 rest)

  -- a strand under a substitution that makes the same of its terms
  pub made_under : (c : List (Variable × Term)) (p : PStrand) → ((t : Term) → Contains p.args t → Same (applied c t) (made μ ν t)) → ((t : Term) → Contains p.msgs t → Same (applied c t) (made μ ν t)) →
      IsMadeStrand (map_strand (applied c) p) p
  made_under c p args msgs = record { strand = refl; bar = refl; args = same_list (applied c) (made μ ν) p.args args; msgs = same_list (applied c) (made μ ν) p.msgs msgs }

  pub all_under : (c : List (Variable × Term)) (ps : List PStrand) → ((k : ℕ) (p : PStrand) → slice_get ps k ≡ Some p → IsMadeStrand (map_strand (applied c) p) p) → AreMade (map (map_strand (applied c)) ps) ps
  all_under c [] each = tt
  all_under c (p ∷ ps) each = (each zero p refl, all_under c ps (λ k q e. each (suc k) q e))

  -- so it is with a whole pattern
  pub pattern_under : (c : List (Variable × Term)) (g : Pattern) → ((t : Term) → IsTermOf g t → Same (applied c t) (made μ ν t)) → IsMade (map_pattern (applied c) g) g
  pattern_under c g each = record {
    strands = all_under c g.strands (λ k p e. made_under c p (λ t d. each t (of_args k p e d)) (λ t d. each t (of_msgs k p e d)));
    known = same_list (applied c) (made μ ν) g.known (λ t d. each t (of_known d));
    unknown = same_list (applied c) (made μ ν) g.unknown (λ t d. each t (of_unknown d));
  }

  -- ## A strand by a variant with raised numbers

  module _ (base : ℕ) (v : Variant) where
    -- the substitution that has for the variant's variables what is made of the raised ones
    abbrev pub raising : List (Variable × Term)
    raising = raised_values μ ν base (flat_map variables v.terms)

    pub raising_agrees : (t : Term) → Contains v.terms t → Same (applied raising t) (made μ ν (renamed base t))
    raising_agrees t c = raised_agree μ ν base (flat_map variables v.terms) t (λ y d. member_variable v.terms t y c d)

    pub raised_list : (ts : List Term) → ((t : Term) → Contains ts t → Contains v.terms t) → SameAll (map (applied raising) ts) (map (made μ ν) (map (renamed base) ts))
    raised_list ts each =
        subst (SameAll (map (applied raising) ts)) (sym (map_map (renamed base) (made μ ν) ts))
        (same_list (applied raising) (λ t. made μ ν (renamed base t)) ts (λ t c. raising_agrees t (each t c)))

    pub raised_made : (s : ℕ) (strand : Strand) (bar : ℕ) → IsMadeStrand (strand_under raising s strand v bar) (raised_strand base s strand v bar)
    raised_made s strand bar = record {
      strand = refl;
      bar = refl;
      args = raised_list (args_of strand v) (λ t c. of_taken (param_count strand) v.terms t c);
      msgs = raised_list (take bar (messages_of strand v)) (λ t c. message_member strand v t (of_taken bar (messages_of strand v) t c));
    }

  -- ## They are like the result

  facts_have : (hs ts : List Term) → SameAll hs (map (made μ ν) ts) → (t : Term) → Contains hs t → HasSame (map (instance_of ν) (kept_once (map (instance_of μ) ts))) t
  facts_have hs ts all t c =
      let one = same_all_member all t c in
      let x = of_mapped (made μ ν) ts one.0 one.1 in
      let kept = once_keeps (map (instance_of μ) ts) (instance_of μ x.0) (mapped_member (instance_of μ) ts x.0 x.1) in
      let w = kept.0 in (
        instance_of ν w,
        mapped_member (instance_of ν) (kept_once (map (instance_of μ) ts)) w kept.1,
        through t (made μ ν x.0) (instance_of ν w) (subst (Same t) x.2 one.2)
            (through (made μ ν x.0) (applied ν (instance_of μ x.0)) (instance_of ν w) (same_sym (canonical_same (applied ν (instance_of μ x.0))))
            (through (applied ν (instance_of μ x.0)) (applied ν w) (instance_of ν w) (same_applied ν kept.2) (canonical_same (applied ν w)))),
      )

  facts_back : (hs ts : List Term) → SameAll hs (map (made μ ν) ts) → (t : Term) → Contains (map (instance_of ν) (kept_once (map (instance_of μ) ts))) t → HasSame hs t
  facts_back hs ts all t c =
      let u = of_mapped (instance_of ν) (kept_once (map (instance_of μ) ts)) t c in
      let x = of_mapped (instance_of μ) ts u.0 (once_is (map (instance_of μ) ts) u.0 u.1) in
      let is : t ≡ made μ ν x.0 = u.2 ∙ ap (instance_of ν) x.2 in
      let one = same_all_member (same_all_sym all) (made μ ν x.0) (mapped_member (made μ ν) ts x.0 x.1) in
      (one.0, one.1, subst (λ (y : Term). Same y one.0) (sym is) one.2)

  pub made_alike : (h : Pattern) → IsMade h from → Alike h result
  made_alike h like = record {
    as_many = made_length h.strands from.strands like.strands ∙ sym (length-map draft.pattern.strands (map_strand (instance_of ν)) ∙ length-map from.strands (map_strand (instance_of μ)));
    strands = alike_at;
    known = facts_have h.known from.known like.known;
    known_back = facts_back h.known from.known like.known;
    unknown = facts_have h.unknown from.unknown like.unknown;
    unknown_back = facts_back h.unknown from.unknown like.unknown;
  }
    where
      alike_at : (k : ℕ) (p q : PStrand) → slice_get h.strands k ≡ Some p → slice_get result.strands k ≡ Some q → AreAlike p q
      alike_at k p q e f =
          let second = mapped_at (map_strand (instance_of ν)) draft.pattern.strands k q f in
          let one = mapped_at (map_strand (instance_of μ)) from.strands k second.0 second.1 in
          let is = made_at h.strands from.strands like.strands k p one.0 e one.1 in
          subst (AreAlike p) (ap (map_strand (instance_of ν)) one.2 ∙ second.2) (record {
            strand = is.strand;
            bar = is.bar;
            args = subst (SameAll p.args) (sym (map_map (instance_of μ) (instance_of ν) one.0.args)) is.args;
            msgs = subst (SameAll p.msgs) (sym (map_map (instance_of μ) (instance_of ν) one.0.msgs)) is.msgs;
          })

  -- ## The numbers tell terms apart

  abbrev numbered_variables : List Variable
  numbered_variables = variables_once (pattern_terms draft.pattern ++ draft.values)

  in_draft : (t : Term) → IsTermOf from t → (u : Term) × IsTermOf draft.pattern u × Same (instance_of μ t) u
  in_draft t (of_args k p e c) = (instance_of μ t, of_args k (map_strand (instance_of μ) p) (at_mapped (map_strand (instance_of μ)) from.strands k p e) (mapped_member (instance_of μ) p.args t c), itself (instance_of μ t))
  in_draft t (of_msgs k p e c) = (instance_of μ t, of_msgs k (map_strand (instance_of μ) p) (at_mapped (map_strand (instance_of μ)) from.strands k p e) (mapped_member (instance_of μ) p.msgs t c), itself (instance_of μ t))
  in_draft t (of_known c) = let kept = once_keeps (map (instance_of μ) from.known) (instance_of μ t) (mapped_member (instance_of μ) from.known t c) in (kept.0, of_known kept.1, kept.2)
  in_draft t (of_unknown c) = let kept = once_keeps (map (instance_of μ) from.unknown) (instance_of μ t) (mapped_member (instance_of μ) from.unknown t c) in (kept.0, of_unknown kept.1, kept.2)

  all_numbered : (t : Term) → IsTermOf from t → (v : Variable) → Contains (variables (instance_of μ t)) v → Contains numbered_variables v
  all_numbered t there v c =
      let u = in_draft t there in
      among_once (pattern_terms draft.pattern ++ draft.values) u.0 (Contains-append_left (pattern_terms draft.pattern) draft.values u.0 (in_terms draft.pattern u.0 u.1)) v (same_has u.2 v c)

  back : List (Variable × Term)
  back = unnumbered 0 numbered_variables

  taken_back : (t : Term) → IsTermOf from t → Same (applied back (made μ ν t)) (applied μ t)
  unfolding back
  taken_back t there =
      let x = instance_of μ t in
      through (applied back (made μ ν t)) (applied back (applied ν x)) (applied μ t)
      (same_applied back (same_sym (canonical_same (applied ν x))))
      (subst (λ (y : Term). Same y (applied μ t)) (sym (unnumbered_numbered 0 numbered_variables x (all_numbered t there))) (same_sym (canonical_same (applied μ t))))

  -- terms of the move that are made equal are equal under the unifier
  pub made_apart : (t u : Term) → IsTermOf from t → IsTermOf from u → Same (made μ ν t) (made μ ν u) → Same (applied μ t) (applied μ u)
  made_apart t u in_t in_u same =
      through (applied μ t) (applied back (made μ ν t)) (applied μ u) (same_sym (taken_back t in_t))
      (through (applied back (made μ ν t)) (applied back (made μ ν u)) (applied μ u) (same_applied back same) (taken_back u in_u))

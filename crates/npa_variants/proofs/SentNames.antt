-- A name that an instance of a strand sends is one of its own fresh values, or it received it before:
-- by a variant through which the instance goes, whose row originates.
use Rattle.std.proofs.Common.{◌≡◌, ◌≢◌, ◌⊎◌, ◌<◌, ◌≤◌, ℕ, zero, suc, Bool, true, false, Option, Some, None, List, [], ◌∷◌, ◌++◌, length, map, take, drop, slice_get, inl, inr, refl, sym, ◌∙◌, ap, subst, arith}
use Rattle.std.specs.Prelude.{Contains}
use Rattle.std.specs.List.{flat_map}
use Rattle.std.proofs.lemmas.Bool.{cases_lt, cases_eq}
use Rattle.npa_sorts.specs.Subsorts.{IsBelow, IsAtOrBelow}
use Rattle.npa_term.specs.declared.term.Var.{Var as Variable}
use Rattle.npa_term.specs.declared.term.Term.{Term, Var, Name}
use Rattle.npa_term.specs.Bound.{applied}
use Rattle.npa_term.specs.Parts.{IsPart, image, least_sort}
use Rattle.npa_term.specs.Same.{Same, SameAll}
use Rattle.npa_term.specs.Variables.{variables}
use Rattle.npa_term.proofs.SameLaws.{same_sym}
use Rattle.npa_sig.specs.declared.protocol.Event.{Event}
use Rattle.npa_sig.specs.declared.protocol.Strand.{Strand}
use Rattle.npa_sig.specs.declared.signature.OpDecl.{OpDecl}
use Rattle.npa_sig.specs.Nameless.{CarriesNames}
use Rattle.npa_sig.specs.Parameters.{param_sorts}
use Rattle.npa_sig.specs.Signature.{Signature}
use Rattle.npa_sig.specs.Sorting.{well_sorted, all_below}
use Rattle.npa_sig.specs.Values.{under}
use Rattle.npa_sig.proofs.SortedTerms.{contained}
use Rattle.npa_rewrite.specs.Normal.{IsNormalTerm}
use Rattle.npa_rewrite.proofs.InstanceParts.{part_name, part_through, image_part, OfValue}
use Rattle.npa_variants.specs.Origination.{IsFirstReceived, Originates}
use Rattle.npa_variants.specs.Originating.{IsHeardBefore, IsOriginating}
use Rattle.npa_variants.specs.Rows.{Row}
use Rattle.npa_variants.proofs.CarriedNames.{last_sort, same_name, name_of_instance, carries_up, name_carries, fresh_name}
use Rattle.npa_variants.proofs.Members.{of_dropped, mapped_member, flat_member, same_all_drop, same_all_member, dropped_map}

-- An instance of a strand goes through a row without names that originates: a substitution has the
-- instance's values for the row's, and the normal forms of the instance's messages are the instances
-- of the row's.
pub record Instanced (nf : Term → Term) (sig : Signature) (m : ℕ) (strand : Strand) (args : List Term) : Type 0 where
  pub row : Row
  pub by_ : List (Variable × Term)
  pub nameless : (t : Term) → Contains (drop m row) t → (n : ℕ) → IsPart (Name n) t → ⊥
  pub originates : Originates sig m strand row
  pub sorted : (v : Variable) → Contains (flat_map variables (drop m row)) v → well_sorted sig (image by_ v) ≡ true
  pub below_sort : (v : Variable) → Contains (flat_map variables (drop m row)) v → IsAtOrBelow sig.sorts (least_sort (image by_ v)) v.sort
  pub values : SameAll (map (applied by_) (take m row)) args
  pub forms : (k : ℕ) (e : Event) → slice_get strand.events k ≡ Some e → (t : Term) × (slice_get (drop m row) k ≡ Some t) × Same (nf (under args e.msg)) (applied by_ t)

some_is : {X : Type 0} (o : Option X) (x y : X) → o ≡ Some x → o ≡ Some y → x ≡ y
some_is o x y e f = cc

module _ (nf : Term → Term) (sig : Signature) (top : (s : ℕ) → IsBelow sig.sorts 1 s → ⊥) (bottom : (s : ℕ) → IsBelow sig.sorts s 1 → ⊥)
    (none_makes : (num : ℕ) (decl : OpDecl) → slice_get sig.ops num ≡ Some decl → decl.result ≢ 1) where
  -- a ground term at or below the sort of fresh values is the one name that stands in it
  only_name : (n : ℕ) (a : Term) → IsNormalTerm nf sig a → IsAtOrBelow sig.sorts (least_sort a) 1 → IsPart (Name n) a → a ≡ Name n
  only_name n a good (inl fresh) part =
      let name = fresh_name sig none_makes a good.term.sorted good.term.ground fresh in
      name.1 ∙ sym (part_name part name.0 name.1)
  only_name n a good (inr strictly) part = absurd (bottom (least_sort a) strictly)

  module _ (m : ℕ) (strand : Strand) (args : List Term) (below : all_below sig (map least_sort args) (param_sorts strand) ≡ true)
      (normal : (t : Term) → Contains args t → IsNormalTerm nf sig t) (through : Instanced nf sig m strand args)
      (k : ℕ) (e : Event) (there : slice_get strand.events k ≡ Some e) (sent : e.sent ≡ true) (n : ℕ) where
    abbrev Origin : Type 0
    Origin = Contains (drop (length strand.vars) args) (Name n) ⊎ IsHeardBefore nf strand.events args n k

    -- the value of a fresh parameter is a name
    own_value : (y : Variable) → IsPart (Name n) (image through.by_ y) → Contains (drop (length strand.vars) (take m through.row)) (Var y) → Contains (drop (length strand.vars) args) (Name n)
    own_value y part c =
        let values : SameAll (map (applied through.by_) (drop (length strand.vars) (take m through.row))) (drop (length strand.vars) args) =
        subst (λ ts. SameAll ts (drop (length strand.vars) args)) (dropped_map (applied through.by_) (length strand.vars) (take m through.row))
        (same_all_drop (length strand.vars) through.values) in
        let value = same_all_member values (image through.by_ y) (mapped_member (applied through.by_) (drop (length strand.vars) (take m through.row)) (Var y) c) in
        subst (Contains (drop (length strand.vars) args))
        (only_name n value.0 (normal value.0 (of_dropped (length strand.vars) args value.0 value.1)) (last_sort sig args strand.vars strand.fresh 1 value.0 below value.1)
        (same_name value.2 n part)) value.1

    -- a message in which the variable occurs first is received before
    heard : (t : Term) → slice_get (drop m through.row) k ≡ Some t → (y : Variable) → Contains (variables t) y → IsPart (Name n) (image through.by_ y) →
        IsFirstReceived strand.events (drop m through.row) y → IsHeardBefore nf strand.events args n k
    heard t at y occurs part first =
        let form = through.forms first.place first.event first.event_there in
        let same : form.0 ≡ first.message = some_is (slice_get (drop m through.row) first.place) form.0 first.message form.1 first.message_there in
        record {
          place = first.place;
          event = first.event;
          before = earlier (cases_lt first.place k);
          there = first.event_there;
          received = first.received;
          name = same_name (same_sym form.2) n (subst (λ w. IsPart (Name n) (applied through.by_ w)) (sym same)
              (part_through part (image_part through.by_ y first.message first.occurs)));
        }
      where
        earlier : (first.place < k) ⊎ (k ≤ first.place) → first.place < k
        earlier (inl less) = less
        earlier (inr more) =
            elim (cases_eq first.place k) [
              | inl is ↦
                  let event : e ≡ first.event = some_is (slice_get strand.events k) e first.event there (subst (λ i. slice_get strand.events i ≡ Some first.event) is first.event_there) in
                  let got : e.sent ≡ false = ap (λ x. x.sent) event ∙ first.received in
                  let no : ⊥ = cc in absurd no
              | inr differs ↦ absurd (first.first k t (let less : k < first.place = omega (arith, more, differs) in less) at occurs)
            ]

    pub sent_name : IsPart (Name n) (nf (under args e.msg)) → Origin
    sent_name part =
        let form = through.forms k e there in
        elim (name_of_instance through.by_ n form.0 (same_name form.2 n part)) [
          | inl own ↦ absurd (through.nameless form.0 (contained sig (drop m through.row) k form.0 form.1) n own)
          | inr of ↦
              let occurs : Contains (flat_map variables (drop m through.row)) of.var =
              flat_member variables (drop m through.row) form.0 of.var (contained sig (drop m through.row) k form.0 form.1) of.occurs in
              elim (through.originates of.var occurs) [
                | inl fresh ↦ inl (own_value of.var of.there fresh)
                | inr other ↦ elim other [
                  | inl nameless ↦
                      absurd (nameless (carries_up sig top (name_carries sig top n of.there refl (through.sorted of.var occurs)) of.var.sort (through.below_sort of.var occurs)))
                  | inr first ↦ inr (heard form.0 form.1 of.var of.occurs of.there first)
                ]
              ]
        ]

  -- where each instance of each strand goes through such a row, all that is sent originates
  pub all_originating : (strands : List Strand) → ((s : ℕ) (strand : Strand) → slice_get strands s ≡ Some strand → (args : List Term) →
      all_below sig (map least_sort args) (param_sorts strand) ≡ true → ((t : Term) → Contains args t → IsNormalTerm nf sig t) →
      Instanced nf sig (length (param_sorts strand)) strand args) → IsOriginating nf sig strands
  all_originating strands each s strand at args below normal k e there sent n part =
      sent_name (length (param_sorts strand)) strand args below normal (each s strand at args below normal) k e there sent n part

-- Strands of which a complete list of variants originates: what an instance sends originates.
use Rattle.std.proofs.Common.{◌≡◌, ◌≢◌, ◌⊎◌, ◌<◌, ℕ, zero, suc, ◌+◌, Bool, true, false, Option, Some, None, List, [], ◌∷◌, ◌++◌, length, map, take, drop, slice_get, inl, inr, refl, sym, ◌∙◌, ap, subst, arith}
use Rattle.std.specs.Prelude.{Contains, unwrap_or}
use Rattle.std.specs.List.{flat_map}
use Rattle.std.proofs.lemmas.Bool.{and_parts}
use Rattle.std.proofs.lemmas.List.Elements.{Contains-append_left, Contains-append_right, Contains-append_cases}
use Rattle.npa_sorts.specs.Subsorts.{IsBelow, IsAtOrBelow}
use Rattle.npa_term.specs.declared.term.Var.{Var as Variable}
use Rattle.npa_term.specs.declared.term.Term.{Term, Var, Name}
use Rattle.npa_term.specs.Bound.{applied}
use Rattle.npa_term.specs.Canonical.{canonical}
use Rattle.npa_term.specs.Parts.{IsPart, image, least_sort}
use Rattle.npa_term.specs.Same.{Same, SameAll, nothing, first}
use Rattle.npa_term.specs.Variables.{variables}
use Rattle.npa_term.proofs.AgreeingLaws.{canonical_equal}
use Rattle.npa_term.proofs.CanonicalLaws.{canonical_same}
use Rattle.npa_term.proofs.Parts.{only_member}
use Rattle.npa_term.proofs.SameLaws.{same_sym}
use Rattle.npa_sig.specs.declared.protocol.Event.{Event}
use Rattle.npa_sig.specs.declared.protocol.Strand.{Strand}
use Rattle.npa_sig.specs.Operators.{NoneIsFresh}
use Rattle.npa_sig.specs.Parameters.{param_sorts}
use Rattle.npa_sig.specs.Signature.{Signature}
use Rattle.npa_sig.specs.Sorting.{well_sorted, is_below, all_below}
use Rattle.npa_sig.specs.Substitutions.{RespectsSorts}
use Rattle.npa_sig.specs.Values.{under}
use Rattle.npa_sig.specs.WellFormed.{IsOwn, IsWellFormedStrand, AreWellFormedStrands}
use Rattle.npa_sig.proofs.Bindings.{bindings, as_bound, bound_below}
use Rattle.npa_sig.proofs.SortedTerms.{below_at, contained, under_ground}
use Rattle.npa_rewrite.specs.declared.theory.Theory.{Theory}
use Rattle.npa_rewrite.specs.Normal.{IsNormalTerm}
use Rattle.npa_rewrite.specs.Rewriting.{GivesNormalForms, IsConvergent, IsNormal, IsNormalFormOf}
use Rattle.npa_rewrite.proofs.InstanceParts.{here, behind, member_cases}
use Rattle.npa_rewrite.proofs.Kept.{settled, one_form}
use Rattle.npa_rewrite.proofs.Under.{normal_same}
use Rattle.npa_variants.specs.declared.variant.Variant.{Variant}
use Rattle.npa_variants.specs.Origination.{Originates}
use Rattle.npa_variants.specs.Originating.{IsOriginating}
use Rattle.npa_variants.specs.Strands.{placed_variables, params_of, param_count, strand_terms}
use Rattle.npa_variants.specs.Variants.{row_of, variant_variables, Pairwise, IsThrough, IsComplete}
use Rattle.npa_variants.proofs.Members.{none_there, mapped_member, of_mapped, flat_member, of_flat, of_dropped}
use Rattle.npa_variants.proofs.SentNames.{Instanced, all_originating}

-- ## Lists that are related place by place

-- a member behind a front, with the one that it is related to
pub behind_front : (R : Term → Term → Type 0) (ts rest us : List Term) (k : ℕ) (t : Term) → Pairwise R (ts ++ rest) us → slice_get rest k ≡ Some t →
    (u : Term) × (slice_get (drop (length ts) us) k ≡ Some u) × R t u
behind_front R [] [] us k t related at = cc
behind_front R [] (r ∷ rs) [] k t related at = absurd related
behind_front R [] (r ∷ rs) (u ∷ us) zero t related at = (u, refl, subst (λ w. R w u) (let same : r ≡ t = cc in same) related.0)
behind_front R [] (r ∷ rs) (u ∷ us) (suc k) t related at = behind_front R [] rs us k t related.1 at
behind_front R (s ∷ ss) rest [] k t related at = absurd related
behind_front R (s ∷ ss) rest (u ∷ us) k t related at = behind_front R ss rest us k t related.1 at

-- the front, where what is related is equal modulo commutativity
pub front_same : (R : Term → Term → Type 0) (f g : Term → Term) (ts rest us : List Term) → Pairwise R (ts ++ rest) us →
    ((t u : Term) → Contains ts t → R t u → Same (f u) (g t)) → SameAll (map f (take (length ts) us)) (map g ts)
front_same R f g [] rest us related same = nothing
front_same R f g (t ∷ ts) rest [] related same = absurd related
front_same R f g (t ∷ ts) rest (u ∷ us) related same =
    first (f u) (g t) (map f (take (length ts) us)) (map g ts) (same t u (here t ts) related.0)
    (front_same R f g ts rest us related.1 (λ x y c. same x y (behind t x ts c)))

-- ## Parameters

pub place_of_param : (k : ℕ) (sorts : List ℕ) (v : Variable) → Contains (placed_variables k sorts) v → (i : ℕ) × (v.num ≡ k + i) × (slice_get sorts i ≡ Some v.sort)
place_of_param k [] v c = absurd (none_there v c)
place_of_param k (s ∷ ss) v c =
    elim (member_cases (record { num = k; sort = s }) v (placed_variables (k + 1) ss) c) [
      | inl e ↦ (zero, sym (ap (λ w. w.num) e) ∙ (let same : k ≡ k + 0 = omega arith in same), ap (λ w. Some w.sort) e)
      | inr d ↦
          let rest = place_of_param (k + 1) ss v d in
          (suc rest.0, rest.1 ∙ (let same : k + 1 + rest.0 ≡ k + suc rest.0 = omega arith in same), rest.2)
    ]

from_zero : (i : ℕ) → 0 + i ≡ i
from_zero i = omega arith

-- a parameter has the number of its place
pub own_param : (sorts : List ℕ) (v : Variable) → Contains (placed_variables 0 sorts) v → slice_get sorts v.num ≡ Some v.sort
own_param sorts v c =
    let place = place_of_param 0 sorts v c in
    subst (λ n. slice_get sorts n ≡ Some v.sort) (sym (place.1 ∙ from_zero place.0)) place.2

-- each variable of a strand's terms is a parameter
pub own_variables : (sig : Signature) (strand : Strand) → IsWellFormedStrand sig strand → (x : Variable) → Contains (flat_map variables (strand_terms strand)) x →
    slice_get (param_sorts strand) x.num ≡ Some x.sort
own_variables sig strand formed x c =
    let of = of_flat variables (strand_terms strand) x c in
    elim (Contains-append_cases (map Var (params_of strand)) (map (λ e. e.msg) strand.events) of.0 of.1) [
      | inl a ↦
          let param = of_mapped Var (params_of strand) of.0 a in
          let same : param.0 ≡ x = only_member param.0 x (subst (λ t. Contains (variables t) x) param.2 of.2) in
          own_param (param_sorts strand) x (subst (Contains (params_of strand)) same param.1)
      | inr b ↦
          let event = of_mapped (λ e. e.msg) strand.events of.0 b in
          (formed.messages event.0 event.1).term.own x (subst (λ t. Contains (variables t) x) event.2 of.2)
    ]

-- how many parameters there are
pub count_params : (k : ℕ) (sorts : List ℕ) → length (map Var (placed_variables k sorts)) ≡ length sorts
count_params k [] = refl
count_params k (s ∷ ss) = ap suc (count_params (k + 1) ss)

-- values in the places of parameters
params_valued : (sig : Signature) (f : Term → Term) (k : ℕ) (sorts : List ℕ) (args : List Term) → all_below sig (map least_sort args) sorts ≡ true →
    ((i n : ℕ) (t : Term) → slice_get sorts i ≡ Some n → slice_get args i ≡ Some t → f (Var (record { num = k + i; sort = n })) ≡ t) →
    map f (map Var (placed_variables k sorts)) ≡ args
params_valued sig f k [] [] below valued = refl
params_valued sig f k [] (a ∷ args) below valued = cc
params_valued sig f k (s ∷ ss) [] below valued = cc
params_valued sig f k (s ∷ ss) (a ∷ args) below valued =
    let both = and_parts (is_below sig (least_sort a) s) (all_below sig (map least_sort args) ss) below in
    let head : f (Var (record { num = k; sort = s })) ≡ a =
    ap (λ n. f (Var (record { num = n; sort = s }))) (let same : k ≡ k + 0 = omega arith in same) ∙ valued zero s a refl refl in
    let tail : map f (map Var (placed_variables (k + 1) ss)) ≡ args =
    params_valued sig f (k + 1) ss args both.1
    (λ i n t at there. ap (λ m. f (Var (record { num = m; sort = n }))) (let same : k + 1 + i ≡ k + suc i = omega arith in same) ∙ valued (suc i) n t at there) in
    ap (λ u. u ∷ map f (map Var (placed_variables (k + 1) ss))) head ∙ ap (λ us. a ∷ us) tail

mapped_at : {X Y : Type 0} (f : X → Y) (xs : List X) (k : ℕ) (x : X) → slice_get xs k ≡ Some x → slice_get (map f xs) k ≡ Some (f x)
mapped_at f [] k x e = cc
mapped_at f (y ∷ ys) zero x e = let same : y ≡ x = cc in ap (λ z. Some (f z)) same
mapped_at f (y ∷ ys) (suc k) x e = mapped_at f ys k x e

module _ (th : Theory) (nf : Term → Term) (gives : GivesNormalForms th nf) (convergent : IsConvergent th) where
  -- a normal ground term rewrites to nothing
  pub normal_term : (t : Term) → IsNormalTerm nf th.sig t → IsNormal th t
  normal_term t good =
      normal_same th (canonical t) t (same_sym (canonical_same t)) (subst (IsNormal th) good.normal (gives t good.term.sorted).form.normal)

  module _ (strand : Strand) (formed : IsWellFormedStrand th.sig strand) (args : List Term) (below : all_below th.sig (map least_sort args) (param_sorts strand) ≡ true)
      (normal : (t : Term) → Contains args t → IsNormalTerm nf th.sig t) where
    abbrev pub values : List (Variable × Term)
    values = bindings 0 (param_sorts strand) args

    -- the value of a parameter
    record HasValue (x : Variable) : Type 0 where
      value : Term
      listed : Contains args value
      is : image values x ≡ value
      below_sort : IsAtOrBelow th.sig.sorts (least_sort (image values x)) x.sort

    value_at : (x : Variable) → slice_get (param_sorts strand) x.num ≡ Some x.sort → HasValue x
    value_at x own =
        let bound = bound_below th.sig (param_sorts strand) args below x own in
        let at = below_at th.sig args (param_sorts strand) below x.num x.sort own in
        record {
          value = at.term;
          listed = contained th.sig args x.num at.term at.there;
          is = bound.0 ∙ ap (λ o. unwrap_or o (Var x)) at.there;
          below_sort = bound.1;
        }

    valued : (x : Variable) → Contains (flat_map variables (strand_terms strand)) x → HasValue x
    valued x c = value_at x (own_variables th.sig strand formed x c)

    pub respects : RespectsSorts th.sig (flat_map variables (strand_terms strand)) values
    respects = record {
      sorted = λ x c. let has = valued x c in subst (λ t. well_sorted th.sig t ≡ true) (sym has.is) (normal has.value has.listed).term.sorted;
      below = λ x c. (valued x c).below_sort;
    }

    pub values_normal : (x : Variable) → Contains (flat_map variables (strand_terms strand)) x → IsNormal th (image values x)
    values_normal x c = let has = valued x c in subst (IsNormal th) (sym has.is) (normal_term has.value (normal has.value has.listed))

    -- the parameters have the values of the instance
    pub params_are : map (applied values) (map Var (params_of strand)) ≡ args
    params_are =
        params_valued th.sig (applied values) 0 (param_sorts strand) args below
        (λ i n t at there.
        let x : Variable = record { num = i; sort = n } in
        ap (λ m. applied values (Var (record { num = m; sort = n }))) (from_zero i)
        ∙ (bound_below th.sig (param_sorts strand) args below x at).0 ∙ ap (λ o. unwrap_or o (Var x)) there)

    param_normal : (t : Term) → Contains (map Var (params_of strand)) t → IsNormal th (applied values t)
    param_normal t c =
        let value : Contains args (applied values t) = subst (λ ts. Contains ts (applied values t)) params_are (mapped_member (applied values) (map Var (params_of strand)) t c) in
        normal_term (applied values t) (normal (applied values t) value)

    -- the messages have the terms of the instance, which are well sorted
    pub message_is : (e : Event) → Contains strand.events e → applied values e.msg ≡ under args e.msg
    message_is e c = as_bound th.sig (param_sorts strand) args below e.msg (formed.messages e c).term.own

    pub message_sorted : (e : Event) → Contains strand.events e → well_sorted th.sig (under args e.msg) ≡ true
    message_sorted e c = (under_ground th.sig (param_sorts strand) args below (λ t d. (normal t d).term) e.msg (formed.messages e c).term).sorted

    module _ (v : Variant) (through : IsThrough th (strand_terms strand) values v) where
      abbrev Form : Term → Term → Type 0
      Form t u = IsNormalFormOf th (applied values t) (canonical (applied through.by_ u))

      param_same : (t u : Term) → Contains (map Var (params_of strand)) t → Form t u → Same (applied through.by_ u) (applied values t)
      param_same t u c form =
          canonical_equal (applied through.by_ u) (applied values t) (settled th (applied values t) (canonical (applied through.by_ u)) (param_normal t c) form.reached)

      pub instance_values : SameAll (map (applied through.by_) (take (param_count strand) v.terms)) args
      instance_values =
          subst (SameAll (map (applied through.by_) (take (param_count strand) v.terms))) params_are
          (subst (λ n. SameAll (map (applied through.by_) (take n v.terms)) (map (applied values) (map Var (params_of strand)))) (count_params 0 (param_sorts strand))
          (front_same Form (applied through.by_) (applied values) (map Var (params_of strand)) (map (λ e. e.msg) strand.events) v.terms through.forms param_same))

      pub message_same : (e : Event) (u : Term) → Contains strand.events e → Form e.msg u → Same (nf (under args e.msg)) (applied through.by_ u)
      message_same e u c form =
          let sorted = message_sorted e c in
          let own : IsNormalFormOf th (under args e.msg) (canonical (applied through.by_ u)) =
          subst (λ t. IsNormalFormOf th t (canonical (applied through.by_ u))) (message_is e c) form in
          let one : nf (under args e.msg) ≡ canonical (applied through.by_ u) =
          one_form th (under args e.msg) (nf (under args e.msg)) (canonical (applied through.by_ u)) convergent sorted (gives (under args e.msg) sorted).form own in
          subst (λ t. Same t (applied through.by_ u)) (sym one) (same_sym (canonical_same (applied through.by_ u)))

      instance_forms : (k : ℕ) (e : Event) → slice_get strand.events k ≡ Some e → (t : Term) × (slice_get (drop (param_count strand) v.terms) k ≡ Some t) × Same (nf (under args e.msg)) (applied through.by_ t)
      instance_forms k e at =
          let found = behind_front Form (map Var (params_of strand)) (map (λ x. x.msg) strand.events) v.terms k e.msg through.forms (mapped_at (λ x. x.msg) strand.events k e at) in (
            found.0,
            subst (λ n. slice_get (drop n v.terms) k ≡ Some found.0) (count_params 0 (param_sorts strand)) found.1,
            message_same e found.0 (event_there strand.events k e at) found.2,
          )
        where
          event_there : (es : List Event) (j : ℕ) (x : Event) → slice_get es j ≡ Some x → Contains es x
          event_there [] j x is = cc
          event_there (y ∷ ys) zero x is = subst (Contains (y ∷ ys)) (let same : y ≡ x = cc in same) (here y ys)
          event_there (y ∷ ys) (suc j) x is = behind y x ys (event_there ys j x is)

      row_variable : (y : Variable) → Contains (flat_map variables (drop (param_count strand) v.terms)) y → Contains (variant_variables v) y
      row_variable y c =
          let of = of_flat variables (drop (param_count strand) v.terms) y c in
          flat_member variables (row_of v) of.0 y (Contains-append_right (map (λ b. b.1) v.subst) v.terms of.0 (of_dropped (param_count strand) v.terms of.0 of.1)) of.2

      -- the instance goes through the row of the variant's terms
      pub instanced : ((t : Term) → Contains v.terms t → (n : ℕ) → IsPart (Name n) t → ⊥) → Originates th.sig (param_count strand) strand v.terms →
          Instanced nf th.sig (param_count strand) strand args
      instanced nameless originates = record {
        row = v.terms;
        by_ = through.by_;
        nameless = λ t c. nameless t (of_dropped (param_count strand) v.terms t c);
        originates = originates;
        sorted = λ y c. through.sorts.sorted y (row_variable y c);
        below_sort = λ y c. through.sorts.below y (row_variable y c);
        values = instance_values;
        forms = instance_forms;
      }

-- A strand with a complete list of variants without names, each of which originates.
pub record HasOrigins (th : Theory) (strand : Strand) : Type 0 where
  pub variants : List Variant
  pub complete : IsComplete th (strand_terms strand) variants
  pub nameless : (v : Variant) → Contains variants v → (t : Term) → Contains v.terms t → (n : ℕ) → IsPart (Name n) t → ⊥
  pub originate : (v : Variant) → Contains variants v → Originates th.sig (param_count strand) strand v.terms

-- Where each strand has such a list, what is sent originates.
pub strands_originate : (th : Theory) (nf : Term → Term) → GivesNormalForms th nf → IsConvergent th → ((s t : ℕ) → IsBelow th.sig.sorts s t → (s ≢ 1) × (t ≢ 1)) → NoneIsFresh th.sig →
    (strands : List Strand) → AreWellFormedStrands th.sig strands → ((s : ℕ) (strand : Strand) → slice_get strands s ≡ Some strand → HasOrigins th strand) →
    IsOriginating nf th.sig strands
strands_originate th nf gives convergent alone none_makes strands formed have =
    all_originating nf th.sig (λ s b. (alone 1 s b).0 refl) (λ s b. (alone s 1 b).1 refl) none_makes strands
    (λ s strand at args below normal.
    let has = have s strand at in
    let form = formed s strand at in
    let found = has.complete (values th nf gives convergent strand form args below normal) (respects th nf gives convergent strand form args below normal)
    (values_normal th nf gives convergent strand form args below normal) in
    instanced th nf gives convergent strand form args below normal found.0 found.2 (has.nameless found.0 found.1) (has.originate found.0 found.1))

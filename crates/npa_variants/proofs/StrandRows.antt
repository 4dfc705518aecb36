-- The rows of a strand's parameters and messages: each is a variant of the strand.
use Rattle.std.proofs.Common.{◌≡◌, ◌<◌, ◌+◌, ◌^◌, ℕ, zero, suc, true, Some, Ok, List, [], ◌∷◌, ◌++◌, length, map, take, drop, slice_get, zip, inl, inr, refl, sym, ◌∙◌, ap, subst, arith}
use Rattle.std.specs.Prelude.{Contains, replicate, unwrap_or}
use Rattle.std.specs.List.{flat_map}
use Rattle.std.proofs.lemmas.Bool.{and_from}
use Rattle.std.proofs.lemmas.List.{map-append}
use Rattle.std.proofs.lemmas.List.Elements.{Contains-append_left, Contains-append_cases}
use Rattle.npa_sorts.specs.Subsorts.{AreSorts, IsAtOrBelow, IsBelow}
use Rattle.npa_sorts.proofs.Climbs.{decides}
use Rattle.npa_sorts.proofs.Steps.{at_or_below_trans}
use Rattle.npa_term.specs.declared.term.Var.{Var as Variable}
use Rattle.npa_term.specs.declared.term.Term.{Term, Var, Name}
use Rattle.npa_term.specs.Bound.{applied}
use Rattle.npa_term.specs.Numbering.{variables_once}
use Rattle.npa_term.specs.Parts.{IsPart, image, least_sort}
use Rattle.npa_term.specs.Variables.{variables}
use Rattle.npa_term.proofs.AgreeingLaws.{same_variable}
use Rattle.npa_term.proofs.Renumbered.{member_variable, of_member}
use Rattle.npa_sig.specs.declared.protocol.Event.{Event}
use Rattle.npa_sig.specs.declared.protocol.Protocol.{Protocol}
use Rattle.npa_sig.specs.declared.protocol.Strand.{Strand}
use Rattle.npa_sig.specs.Parameters.{param_sorts}
use Rattle.npa_sig.specs.Sorting.{all_below, is_below, is_sort, well_sorted}
use Rattle.npa_sig.specs.Values.{under}
use Rattle.npa_sig.specs.WellFormed.{IsNameless, IsPlainProtocol, IsPlainStrand, IsWellFormedProtocol, IsWellFormedStrand}
use Rattle.npa_sig.proofs.Bindings.{applied_under}
use Rattle.npa_rewrite.specs.declared.theory.Theory.{Theory}
use Rattle.npa_rewrite.specs.Innermost.{normal_values, normalized}
use Rattle.npa_rewrite.specs.Rewriting.{AllCancel, IsConvergent, IsNormal}
use Rattle.npa_rewrite.specs.Theories.{theory_of}
use Rattle.npa_rewrite.proofs.FormLaws.{form_below, form_values}
use Rattle.npa_rewrite.proofs.InstanceParts.{here, behind, member_cases}
use Rattle.npa_rewrite.proofs.Instances.{applied_variables}
use Rattle.npa_variants.specs.declared.variant.Variant.{Variant}
use Rattle.npa_variants.specs.Narrowable.{AreNumbered, IsNarrowable}
use Rattle.npa_variants.specs.Rows.{Row}
use Rattle.npa_variants.specs.Search.{start_row, variants_of}
use Rattle.npa_variants.specs.Strands.{param_count, params_of, placed_variables, strand_terms}
use Rattle.npa_variants.specs.StrandVariants.{AreStrandVariants, IsStrandVariant, args_of, messages_of}
use Rattle.npa_variants.specs.Variants.{bound, variant_of}
use Rattle.npa_variants.proofs.Completing.{value_variable}
use Rattle.npa_variants.proofs.Ending.{are_variants, kept, rows_sound}
use Rattle.npa_variants.proofs.FirstCovers.{start_variables}
use Rattle.npa_variants.proofs.Forms.{form_normal, form_variables, normal_form_is, variables_canonical}
use Rattle.npa_variants.proofs.Members.{none_there, mapped_member, of_dropped, of_mapped, of_taken}
use Rattle.npa_variants.proofs.RowNumbers.{renumbered_numbers}
use Rattle.npa_variants.proofs.Sound.{IsSound, drop_front, form_is_sorted, image_zip, length_map, map_equal, map_map, of_value, row_values, take_front}
use Rattle.npa_variants.proofs.Starting.{in_once, once_of}
use Rattle.npa_variants.proofs.StrandOrigins.{count_params, own_variables}
use Rattle.npa_variants.proofs.Theories.{narrowing, placed}
use Rattle.npa_variants.proofs.Unifying.{var_nameless}

-- ## Parameters

-- what stands at a place is there
pub param_there : (k : ℕ) (sorts : List ℕ) (i s : ℕ) → slice_get sorts i ≡ Some s → Contains (placed_variables k sorts) (record { num = k + i; sort = s })
param_there k [] i s e = cc
param_there k (x ∷ xs) zero s e =
    let same : x ≡ s = cc in
    let k_is : k ≡ k + 0 = omega arith in
    subst (λ n. Contains (placed_variables k (x ∷ xs)) (record { num = n; sort = s })) k_is
    (subst (λ y. Contains (placed_variables k (x ∷ xs)) (record { num = k; sort = y })) same (here (record { num = k; sort = x }) (placed_variables (k + 1) xs)))
param_there k (x ∷ xs) (suc i) s e =
    let n_is : k + 1 + i ≡ k + suc i = omega arith in
    subst (λ n. Contains (placed_variables k (x ∷ xs)) (record { num = n; sort = s })) n_is
    (behind (record { num = k; sort = x }) (record { num = k + 1 + i; sort = s }) (placed_variables (k + 1) xs) (param_there (k + 1) xs i s e))

pub own_there : (sorts : List ℕ) (v : Variable) → slice_get sorts v.num ≡ Some v.sort → Contains (placed_variables 0 sorts) v
own_there sorts v e =
    let n_is : 0 + v.num ≡ v.num = omega arith in
    subst (λ n. Contains (placed_variables 0 sorts) (record { num = n; sort = v.sort })) n_is (param_there 0 sorts v.num v.sort e)

place_small : {X : Type 0} (xs : List X) (i : ℕ) (x : X) → slice_get xs i ≡ Some x → i < length xs
place_small [] i x e = cc
place_small (y ∷ ys) zero x e = omega arith
place_small (y ∷ ys) (suc i) x e = let rest = place_small ys i x e in omega (arith, rest)

place_listed : {X : Type 0} (xs : List X) (i : ℕ) (x : X) → slice_get xs i ≡ Some x → Contains xs x
place_listed [] i x e = cc
place_listed (y ∷ ys) zero x e = (let same : y ≡ x = cc in subst (Contains (y ∷ ys)) same (here y ys))
place_listed (y ∷ ys) (suc i) x e = behind y x ys (place_listed ys i x e)

small_place : {X : Type 0} (xs : List X) (i : ℕ) → i < length xs → (x : X) × (slice_get xs i ≡ Some x)
small_place [] i small = absurd (let never : ⊥ = omega (arith, small) in never)
small_place (y ∷ ys) zero small = (y, refl)
small_place (y ∷ ys) (suc i) small = small_place ys i (omega (arith, small))

repeated : (n s x : ℕ) → Contains (replicate n s) x → s ≡ x
repeated zero s x c = absurd (none_there x c)
repeated (suc n) s x c = elim (member_cases s x (replicate n s) c) [ inl e ↦ e | inr d ↦ repeated n s x d ]

-- ## What is asked of a strand's terms

module _ (th : Theory) (strand : Strand) (formed : IsWellFormedStrand th.sig strand) (plain : IsPlainStrand strand) where
  params_sorted : (s : ℕ) → Contains (param_sorts strand) s → is_sort th.sig s ≡ true
  params_sorted s c =
      elim (Contains-append_cases strand.vars (replicate strand.fresh 1) s c) [
        | inl a ↦ formed.sorts s a
        | inr b ↦ subst (λ n. is_sort th.sig n ≡ true) (repeated strand.fresh 1 s b) fresh_sort
      ]
    where
      fresh_sort : is_sort th.sig 1 ≡ true
      fresh_sort = grind arith

  own_sorted : (v : Variable) → slice_get (param_sorts strand) v.num ≡ Some v.sort → well_sorted th.sig (Var v) ≡ true
  own_sorted v e = params_sorted v.sort (place_listed (param_sorts strand) v.num v.sort e)

  terms_sorted : (t : Term) → Contains (strand_terms strand) t → well_sorted th.sig t ≡ true
  terms_sorted t c =
      elim (Contains-append_cases (map Var (params_of strand)) (map (λ e. e.msg) strand.events) t c) [
        | inl a ↦
            let at = of_mapped Var (params_of strand) t a in
            let there : Contains (strand_terms strand) (Var at.0) = subst (Contains (strand_terms strand)) at.2 c in
            subst (λ u. well_sorted th.sig u ≡ true) (sym at.2)
            (own_sorted at.0 (own_variables th.sig strand formed at.0 (member_variable (strand_terms strand) (Var at.0) at.0 there (here at.0 []))))
        | inr b ↦
            let at = of_mapped (λ (e : Event). e.msg) strand.events t b in
            subst (λ u. well_sorted th.sig u ≡ true) (sym at.2) (formed.messages at.0 at.1).term.sorted
      ]

  pub terms_nameless : (t : Term) → Contains (strand_terms strand) t → IsNameless t
  terms_nameless t c n part =
      elim (Contains-append_cases (map Var (params_of strand)) (map (λ e. e.msg) strand.events) t c) [
        | inl a ↦ let at = of_mapped Var (params_of strand) t a in var_nameless n at.0 part at.2
        | inr b ↦ let at = of_mapped (λ (e : Event). e.msg) strand.events t b in (plain at.0 at.1).nameless n (subst (IsPart (Name n)) at.2 part)
      ]

  own_small : (v : Variable) → Contains (flat_map variables (strand_terms strand)) v → v.num < 2 ^ 30
  own_small v c =
      let place : v.num < length (param_sorts strand) = place_small (param_sorts strand) v.num v.sort (own_variables th.sig strand formed v c) in
      let few : length (param_sorts strand) < 2 ^ 16 = formed.params in
      omega (arith, place, few)

  own_one : (v w : Variable) → slice_get (param_sorts strand) v.num ≡ Some v.sort → slice_get (param_sorts strand) w.num ≡ Some w.sort → v.num ≡ w.num → v ≡ w
  own_one v w e f same =
      let both : Some v.sort ≡ Some w.sort = sym e ∙ ap (slice_get (param_sorts strand)) same ∙ f in
      let sorts : v.sort ≡ w.sort = cc in
      same_variable v w same sorts

-- the terms of a strand of a plain protocol can be narrowed
pub strand_narrowable : (protocol : Protocol) → IsWellFormedProtocol protocol → IsPlainProtocol protocol → AllCancel (theory_of protocol) → IsConvergent (theory_of protocol) →
    AreSorts protocol.sig.sorts → ((r : ℕ) → IsBelow protocol.sig.sorts r r → ⊥) → (strand : Strand) → Contains protocol.strands strand →
    IsNarrowable (theory_of protocol) (strand_terms strand)
strand_narrowable protocol formed plain cancel convergent sorts acyclic strand c =
    let th = theory_of protocol in
    let at = placed protocol.strands strand c in
    let own = formed.strands at.0 strand at.1 in
    let bare = plain.strands at.0 strand at.1 in
    record {
      cancel = cancel;
      convergent = convergent;
      signature = formed.signature;
      sorts = sorts;
      acyclic = acyclic;
      formed = formed.equations;
      plain = plain.equations;
      sorted = terms_sorted th strand own bare;
      small = own_small th strand own bare;
      one = λ v w d e same. own_one th strand own bare v w (own_variables th.sig strand own v d) (own_variables th.sig strand own w e) same;
    }

-- ## The rows of a strand

-- numbers of the same variables
pub numbered_alike : (vs ws : List Variable) → AreNumbered vs → ((v : Variable) → Contains vs v → Contains ws v) → ((v : Variable) → Contains ws v → Contains vs v) → AreNumbered ws
numbered_alike vs ws are there back = record {
  count = are.count;
  below = λ v c. are.below v (back v c);
  all = λ k small. (let at = are.all k small in (at.0, there at.0 at.1, at.2));
  one = λ v w c d e. are.one v w (back v c) (back w d) e;
}

normal_zip : (th : Theory) (vs : List Variable) (f : Variable → Term) → normal_values th (zip vs (map f vs)) ≡ zip vs (map (λ v. normalized th (f v)) vs)
normal_zip th [] f = refl
normal_zip th (v ∷ vs) f = ap (λ bs. (v, normalized th (f v)) ∷ bs) (normal_zip th vs f)

-- the value at a parameter's place
value_place : (f : Variable → Term) (k : ℕ) (sorts : List ℕ) (i s : ℕ) → slice_get sorts i ≡ Some s → slice_get (map f (placed_variables k sorts)) i ≡ Some (f (record { num = k + i; sort = s }))
value_place f k [] i s e = cc
value_place f k (x ∷ xs) zero s e =
    let same : x ≡ s = cc in
    let k_is : k ≡ k + 0 = omega arith in
    ap (λ y. Some (f (record { num = k; sort = y }))) same ∙ ap (λ n. Some (f (record { num = n; sort = s }))) k_is
value_place f k (x ∷ xs) (suc i) s e =
    let n_is : k + 1 + i ≡ k + suc i = omega arith in
    value_place f (k + 1) xs i s e ∙ ap (λ n. Some (f (record { num = n; sort = s }))) n_is

module _ (th : Theory) (strand : Strand) (formed : IsWellFormedStrand th.sig strand) (plain : IsPlainStrand strand) (given : IsNarrowable th (strand_terms strand)) where
  abbrev terms : List Term
  terms = strand_terms strand

  abbrev vs : List Variable
  vs = variables_once terms

  -- the variables are the parameters
  own_place : (v : Variable) → Contains vs v → slice_get (param_sorts strand) v.num ≡ Some v.sort
  own_place v c = own_variables th.sig strand formed v (once_of terms v c)

  is_param : (v : Variable) → Contains vs v → Contains (params_of strand) v
  is_param v c = own_there (param_sorts strand) v (own_place v c)

  param_listed : (v : Variable) → Contains (params_of strand) v → Contains terms (Var v)
  param_listed v c = Contains-append_left (map Var (params_of strand)) (map (λ e. e.msg) strand.events) (Var v) (mapped_member Var (params_of strand) v c)

  param_is : (v : Variable) → Contains (params_of strand) v → Contains vs v
  param_is v c = in_once terms v (member_variable terms (Var v) v (param_listed v c) (here v []))

  module _ (r : Row) (sound : IsSound th vs terms r) where
    abbrev s : List (Variable × Term)
    s = bound vs r

    abbrev value : Variable → Term
    value x = normalized th (image s x)

    abbrev v : Variant
    v = variant_of vs r

    abbrev IsForm : Term → Type 0
    IsForm u = (t : Term) × Contains terms t × (u ≡ normalized th (applied s t))

    is_form : (u : Term) → Contains v.terms u → IsForm u
    is_form u c = of_mapped (λ t. normalized th (applied s t)) terms u (subst (λ ts. Contains ts u) sound.forms c)

    -- the values and the messages
    split : v.terms ≡ map value (params_of strand) ++ map (λ e. normalized th (applied s e.msg)) strand.events
    split =
        sound.forms ∙ map-append (λ t. normalized th (applied s t)) (map Var (params_of strand)) (map (λ e. e.msg) strand.events)
        ∙ ap (λ ts. ts ++ map (λ t. normalized th (applied s t)) (map (λ e. e.msg) strand.events)) (map_map Var (λ t. normalized th (applied s t)) (params_of strand))
        ∙ ap (λ ts. map value (params_of strand) ++ ts) (map_map (λ e. e.msg) (λ t. normalized th (applied s t)) strand.events)

    front : length (map value (params_of strand)) ≡ param_count strand
    front = length_map value (params_of strand) ∙ sym (length_map Var (params_of strand)) ∙ count_params 0 (param_sorts strand)

    args_are : args_of strand v ≡ map value (params_of strand)
    args_are =
        ap (take (param_count strand)) split
        ∙ take_front (param_count strand) (map value (params_of strand)) (map (λ e. normalized th (applied s e.msg)) strand.events) front

    messages_are : messages_of strand v ≡ map (λ e. normalized th (applied s e.msg)) strand.events
    messages_are =
        ap (drop (param_count strand)) split
        ∙ drop_front (param_count strand) (map value (params_of strand)) (map (λ e. normalized th (applied s e.msg)) strand.events) front

    -- the value of a variable may be taken in normal form
    message_form : (e : Event) → Contains strand.events e → normalized th (applied s e.msg) ≡ normalized th (under (args_of strand v) e.msg)
    message_form e c =
        let bound_are : normal_values th s ≡ zip vs (map value vs) = ap (λ ts. normal_values th (zip vs ts)) (row_values th vs terms r sound) ∙ normal_zip th vs (image s) in
        let same : applied (zip vs (map value vs)) e.msg ≡ under (args_of strand v) e.msg =
        applied_under (zip vs (map value vs)) (args_of strand v) e.msg
        (λ x d.
        let own = (formed.messages e c).term.own x d in
        let listed : Contains vs x = param_is x (own_there (param_sorts strand) x own) in
        image_zip value vs x listed ∙ sym (ap (λ o. unwrap_or o (Var x)) (ap (λ ts. slice_get ts x.num) args_are ∙ place_is x own))) in
        sym (form_values th given.cancel s e.msg) ∙ ap (λ bs. normalized th (applied bs e.msg)) bound_are ∙ ap (normalized th) same
      where
        place_is : (x : Variable) → slice_get (param_sorts strand) x.num ≡ Some x.sort → slice_get (map value (params_of strand)) x.num ≡ Some (value x)
        place_is x own =
            let n_is : 0 + x.num ≡ x.num = omega arith in
            value_place value 0 (param_sorts strand) x.num x.sort own ∙ ap (λ n. Some (value (record { num = n; sort = x.sort }))) n_is

    values_below : (k : ℕ) (sorts : List ℕ) → ((x : Variable) → Contains (placed_variables k sorts) x → IsAtOrBelow th.sig.sorts (least_sort (value x)) x.sort) →
        all_below th.sig (map least_sort (map value (placed_variables k sorts))) sorts ≡ true
    values_below k [] low = refl
    values_below k (x ∷ xs) low =
        let p : Variable = record { num = k; sort = x } in
        and_from (is_below th.sig (least_sort (value p)) x) (all_below th.sig (map least_sort (map value (placed_variables (k + 1) xs))) xs)
        ((decides th.sig.sorts (least_sort (value p)) x).1 (low p (here p (placed_variables (k + 1) xs))))
        (values_below (k + 1) xs (λ y c. low y (behind p y (placed_variables (k + 1) xs) c)))

    value_low : (x : Variable) → Contains (params_of strand) x → IsAtOrBelow th.sig.sorts (least_sort (value x)) x.sort
    value_low x c = at_or_below_trans (form_below th given.cancel (image s x)) (sound.below_sort x (param_is x c))

    -- the variables of a value are those of its normal form
    value_variables : (x y : Variable) → Contains vs x → Contains (variables (image s x)) y → Contains (variables (value x)) y
    value_variables x y c d =
        subst (λ t. Contains (variables t) y) (sym (normal_form_is th given.cancel (image s x) (sound.normal x c))) (variables_canonical (image s x) y d)

    arg_variable : (x y : Variable) → Contains vs x → Contains (variables (image s x)) y → Contains (flat_map variables (args_of strand v)) y
    arg_variable x y c d =
        member_variable (args_of strand v) (value x) y (subst (λ ts. Contains ts (value x)) (sym args_are) (mapped_member value (params_of strand) x (is_param x c))) (value_variables x y c d)

    messages_own : (y : Variable) → Contains (flat_map variables (messages_of strand v)) y → Contains (flat_map variables (args_of strand v)) y
    messages_own y c =
        let at = of_member (messages_of strand v) y c in
        let t = is_form at.0 (of_dropped (param_count strand) v.terms at.0 at.1) in
        let from = applied_variables s y t.0 (form_variables th given.cancel (applied s t.0) y (subst (λ u. Contains (variables u) y) t.2 at.2)) in
        arg_variable from.var y (in_once terms from.var (member_variable terms t.0 from.var t.1 from.occurs)) from.of

    -- the row has the variables of the terms
    row_to_terms : (y : Variable) → Contains (flat_map variables r) y → Contains (flat_map variables v.terms) y
    row_to_terms y c =
        let at = of_member (take (length vs) r) y (value_variable th vs terms (narrowing th terms given) given.sorted (in_once terms) (once_of terms) r sound y c) in
        let x = of_value th vs terms r sound at.0 at.1 in
        let there = of_member (args_of strand v) y (arg_variable x.0 y x.1 (subst (λ t. Contains (variables t) y) x.2 at.2)) in
        member_variable v.terms there.0 y (of_taken (param_count strand) v.terms there.0 there.1) there.2

    terms_to_row : (y : Variable) → Contains (flat_map variables v.terms) y → Contains (flat_map variables r) y
    terms_to_row y c = let at = of_member v.terms y c in member_variable r at.0 y (of_dropped (length vs) r at.0 at.1) at.2

    pub strand_variant : AreNumbered (flat_map variables r) → IsStrandVariant th strand v
    strand_variant numbers = record {
      sorted = form_is_sorted th vs terms (narrowing th terms given) given.sorted (in_once terms) r sound;
      normal = λ t c. (let at = is_form t c in subst (IsNormal th) (sym at.2) (form_normal th given.cancel (applied s at.0)));
      nameless = λ t c n part. (
          let name = sound.nameless t (of_dropped (length vs) r t c) n part in
          terms_nameless th strand formed plain name.term name.listed n name.there
          );
      below_sorts = ap (λ ts. all_below th.sig (map least_sort ts) (param_sorts strand)) args_are ∙ values_below 0 (param_sorts strand) value_low;
      messages = messages_are ∙ map_equal (λ e. normalized th (applied s e.msg)) (λ e. normalized th (under (args_of strand v) e.msg)) strand.events message_form;
      own = messages_own;
      numbered = numbered_alike (flat_map variables r) (flat_map variables v.terms) numbers row_to_terms terms_to_row;
    }

  -- the first row has the parameters
  start_numbers : AreNumbered (flat_map variables (start_row th vs terms))
  start_numbers = record {
    count = length (param_sorts strand);
    below = λ y c. place_small (param_sorts strand) y.num y.sort (own_place y (start_own y c));
    all = λ k small. (
        let at = small_place (param_sorts strand) k small in
        let x : Variable = record { num = k; sort = at.0 } in
        let listed = param_is x (own_there (param_sorts strand) x at.1) in
        (x, member_variable (start_row th vs terms) (Var x) x (Contains-append_left (map Var vs) (map (normalized th) terms) (Var x) (mapped_member Var vs x listed)) (here x []), refl)
        );
    one = λ y z c d e. own_one th strand formed plain y z (own_place y (start_own y c)) (own_place z (start_own z d)) e;
  }
    where
      start_own : (y : Variable) → Contains (flat_map variables (start_row th vs terms)) y → Contains vs y
      start_own y c = start_variables th vs terms (narrowing th terms given) given.sorted (in_once terms) (once_of terms) y c

  -- what the search answers are the strand's variants
  pub strand_variants : (rs : List Row) → variants_of th terms ≡ Ok rs → AreStrandVariants th strand (map (variant_of vs) rs)
  strand_variants rs ok = record {
    variants = are_variants th terms given rs ok;
    each = λ w c. (
        let at = of_mapped (variant_of vs) rs w c in
        let sound = rows_sound th terms given rs ok at.0 at.1 in
        let numbers : AreNumbered (flat_map variables at.0) =
        elim (kept th terms given rs ok at.0 at.1).1 [
          | inl e ↦ subst (λ x. AreNumbered (flat_map variables x)) (sym e) start_numbers
          | inr raw ↦ subst (λ x. AreNumbered (flat_map variables x)) (sym raw.1) (renumbered_numbers raw.0)
        ] in
        subst (IsStrandVariant th strand) (sym at.2) (strand_variant at.0 sound numbers)
        );
  }

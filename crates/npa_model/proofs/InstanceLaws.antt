-- The faults of instances are found exactly where instances are none.
use Rattle.std.proofs.Common.{◌≡◌, ℕ, zero, suc, ◌+◌, Bool, true, false, ◌==◌, ◌↔◌, List, [], ◌∷◌, ◌++◌, Option, None, Some, refl, ap, sym, ◌∙◌, subst, map, length, cond, slice_get, nat_eq, Contains, ⊎_elim, arith}
use Rattle.std.specs.Option.{option_map, option_or}
use Rattle.std.specs.List.{list_any}
use Rattle.std.proofs.lemmas.Bool.{and_parts, and_from, or_parts, or_from, eqb-true, eqb-false, eq-eqb, ne_eqb}
use Rattle.std.proofs.lemmas.Option.{same_Some}
use Rattle.std.proofs.lemmas.List.Elements.{Contains-append_cases, Contains-append_left, Contains-append_right}
use Rattle.std.proofs.lemmas.List.Folds.{list_any-append}
use Rattle.npa_term.specs.declared.term.Term.{Term}
use Rattle.npa_term.specs.Canonical.{canonical}
use Rattle.npa_sig.specs.declared.protocol.Strand.{Strand}
use Rattle.npa_sig.specs.Signature.{Signature}
use Rattle.npa_sig.specs.Sorting.{is_below, all_below}
use Rattle.npa_term.specs.Parts.{least_sort}
use Rattle.npa_term.proofs.Parts.{only_member}
use Rattle.npa_model.specs.declared.run.Instance.{Instance}
use Rattle.npa_model.specs.declared.run.Cause.{Cause}
use Rattle.npa_model.specs.declared.run.Cause.TheVariants as cause
use Rattle.npa_rewrite.specs.Normal.{is_normal_by}
use Rattle.npa_model.specs.Instances.{AreInstances, AreGroundTerms, AreApart, fresh_names, sort_fault, normal_fault, strand_fault, instance_fault, first_fault, first_again, start_fault}
use Rattle.npa_sig.specs.Parameters.{param_sorts}
use Rattle.npa_rewrite.proofs.Normality.{normal_is, is_normal_own}

cond_none : (b : Bool) (o : Option Cause) (c : Cause) → cond b o (Some c) ≡ None → (b ≡ true) × (o ≡ None)
cond_none true o c e = (refl, e)
cond_none false o c e = cc

both_none : (o p : Option Cause) → option_or o p ≡ None → (o ≡ None) × (p ≡ None)
both_none None p e = (refl, e)
both_none (Some c) p e = cc

module _ (nf : Term → Term) (sig : Signature) (strands : List Strand) where
  are_below : (k p : ℕ) (args : List Term) (sorts : List ℕ) → length args ≡ length sorts → sort_fault sig k p args sorts ≡ None → all_below sig (map least_sort args) sorts ≡ true
  are_below k p [] [] l e = refl
  are_below k p [] (s ∷ sorts) l e = absurd (omega arith)
  are_below k p (t ∷ args) [] l e = absurd (omega arith)
  are_below k p (t ∷ args) (s ∷ sorts) l e =
      let both = cond_none (is_below sig (least_sort t) s) (sort_fault sig k (p + 1) args sorts) (cause.Sort k p) e in
      and_from (is_below sig (least_sort t) s) (all_below sig (map least_sort args) sorts) both.0 (are_below k (p + 1) args sorts (omega arith) both.1)

  pub are_even : (args : List Term) (sorts : List ℕ) → all_below sig (map least_sort args) sorts ≡ true → length args ≡ length sorts
  are_even [] [] e = refl
  are_even [] (s ∷ sorts) e = cc
  are_even (t ∷ args) [] e = cc
  are_even (t ∷ args) (s ∷ sorts) e = ap (λ n. suc n) (are_even args sorts (and_parts (is_below sig (least_sort t) s) (all_below sig (map least_sort args) sorts) e).1)

  no_sort_fault : (k p : ℕ) (args : List Term) (sorts : List ℕ) → all_below sig (map least_sort args) sorts ≡ true → sort_fault sig k p args sorts ≡ None
  no_sort_fault k p [] [] e = refl
  no_sort_fault k p [] (s ∷ sorts) e = cc
  no_sort_fault k p (t ∷ args) [] e = cc
  no_sort_fault k p (t ∷ args) (s ∷ sorts) e =
      let both = and_parts (is_below sig (least_sort t) s) (all_below sig (map least_sort args) sorts) e in
      ap (λ b. cond b (sort_fault sig k (p + 1) args sorts) (Some (cause.Sort k p))) both.0 ∙ no_sort_fault k (p + 1) args sorts both.1

  are_normal : (k p : ℕ) (args : List Term) → normal_fault nf k p args ≡ None → (t : Term) → Contains args t → nf t ≡ canonical t
  are_normal k p [] e t has = absurd (omega (arith, has.1))
  are_normal k p (u ∷ args) e t has =
      let both = cond_none (is_normal_by nf u) (normal_fault nf k (p + 1) args) (cause.Normal k p) e in
      ⊎_elim (λ first. subst (λ v. nf v ≡ canonical v) (only_member u t first) (normal_is nf u both.0)) (λ rest. are_normal k (p + 1) args both.1 t rest) (Contains-append_cases (u ∷ []) args t has)

  no_normal_fault : (k p : ℕ) (args : List Term) → ((t : Term) → Contains args t → nf t ≡ canonical t) → normal_fault nf k p args ≡ None
  no_normal_fault k p [] each = refl
  no_normal_fault k p (u ∷ args) each =
      ap (λ b. cond b (normal_fault nf k (p + 1) args) (Some (cause.Normal k p))) (is_normal_own nf u (each u (Contains-append_left (u ∷ []) args u (0, omega arith, refl))))
      ∙ no_normal_fault k (p + 1) args (λ t has. each t (Contains-append_right (u ∷ []) args t has))

  -- the instance is of a strand, and its terms have the sorts of the parameters and are normal
  record Fits (instance : Instance) : Type 0 where
    strand : Strand
    there : slice_get strands instance.strand ≡ Some strand
    sorts : all_below sig (map least_sort instance.args) (param_sorts strand) ≡ true
    normal : (t : Term) → Contains instance.args t → nf t ≡ canonical t

  fits : (k : ℕ) (instance : Instance) → instance_fault nf sig strands k instance ≡ None → Fits instance
  fits k instance e = by (slice_get strands instance.strand) refl e
    where
      by : (o : Option Strand) → slice_get strands instance.strand ≡ o → strand_fault nf sig k o instance.args ≡ None → Fits instance
      by None at f = cc
      by (Some strand) at f =
          let even = cond_none (length instance.args == length (param_sorts strand)) (option_or (sort_fault sig k 0 instance.args (param_sorts strand)) (normal_fault nf k 0 instance.args)) (cause.Params k) f in
          let both = both_none (sort_fault sig k 0 instance.args (param_sorts strand)) (normal_fault nf k 0 instance.args) even.1 in
          record {
            strand = strand;
            there = at;
            sorts = are_below k 0 instance.args (param_sorts strand) (eqb-true (length instance.args) (length (param_sorts strand)) even.0) both.0;
            normal = are_normal k 0 instance.args both.1;
          }

  no_instance_fault : (k : ℕ) (instance : Instance) → Fits instance → instance_fault nf sig strands k instance ≡ None
  no_instance_fault k instance f =
      let params : List ℕ = param_sorts f.strand in
      ap (λ (o : Option Strand). strand_fault nf sig k o instance.args) f.there
      ∙ ap (λ b. cond b (option_or (sort_fault sig k 0 instance.args params) (normal_fault nf k 0 instance.args)) (Some (cause.Params k))) (eq-eqb (length instance.args) (length params) (are_even instance.args params f.sorts))
      ∙ ap (λ o. option_or o (normal_fault nf k 0 instance.args)) (no_sort_fault k 0 instance.args params f.sorts)
      ∙ no_normal_fault k 0 instance.args f.normal

  each_fits : (k : ℕ) (instances : List Instance) → first_fault nf sig strands k instances ≡ None → (n : ℕ) (instance : Instance) → slice_get instances n ≡ Some instance → Fits instance
  each_fits k [] e n instance at = cc
  each_fits k (i ∷ is) e zero instance at =
      subst (λ (x : Instance). Fits x) (same_Some i instance at) (fits k i (both_none (instance_fault nf sig strands k i) (first_fault nf sig strands (k + 1) is) e).0)
  each_fits k (i ∷ is) e (suc n) instance at =
      each_fits (k + 1) is (both_none (instance_fault nf sig strands k i) (first_fault nf sig strands (k + 1) is) e).1 n instance at

  no_fault : (k : ℕ) (instances : List Instance) → ((n : ℕ) (instance : Instance) → slice_get instances n ≡ Some instance → Fits instance) → first_fault nf sig strands k instances ≡ None
  no_fault k [] each = refl
  no_fault k (i ∷ is) each =
      ap (λ o. option_or o (first_fault nf sig strands (k + 1) is)) (no_instance_fault k i (each 0 i refl)) ∙ no_fault (k + 1) is (λ n. each (suc n))

-- none of the names was seen
abbrev AreNew : List ℕ → List ℕ → Type 0
AreNew seen [] = Unit {0}
AreNew seen (n ∷ ns) = (list_any (nat_eq n) seen ≡ false) × AreNew seen ns

eq_flips : (m n : ℕ) → nat_eq m n ≡ false → nat_eq n m ≡ false
eq_flips m n e = ne_eqb n m (λ same. eqb-false m n e (sym same))

one_seen : (m n : ℕ) → nat_eq m n ≡ false → list_any (nat_eq m) (n ∷ []) ≡ false
one_seen m n e = or_from (nat_eq m n) false e refl

seen_one : (m n : ℕ) → list_any (nat_eq m) (n ∷ []) ≡ false → nat_eq m n ≡ false
seen_one m n e = (or_parts (nat_eq m n) false e).0

new_more : (seen ns : List ℕ) (n : ℕ) → AreNew seen ns → list_any (nat_eq n) ns ≡ false → AreNew (seen ++ n ∷ []) ns
new_more seen [] n new apart = tt
new_more seen (m ∷ ns) n new apart =
    let both = or_parts (nat_eq n m) (list_any (nat_eq n) ns) apart in (
      list_any-append (nat_eq m) seen (n ∷ []) ∙ or_from (list_any (nat_eq m) seen) (list_any (nat_eq m) (n ∷ [])) new.0 (one_seen m n (eq_flips n m both.0)),
      new_more seen ns n new.1 both.1,
    )

new_less : (seen ns : List ℕ) (n : ℕ) → AreNew (seen ++ n ∷ []) ns → AreNew seen ns × (list_any (nat_eq n) ns ≡ false)
new_less seen [] n new = (tt, refl)
new_less seen (m ∷ ns) n new =
    let both = or_parts (list_any (nat_eq m) seen) (list_any (nat_eq m) (n ∷ [])) (sym (list_any-append (nat_eq m) seen (n ∷ [])) ∙ new.0) in
    let rest = new_less seen ns n new.1 in
    ((both.0, rest.0), or_from (nat_eq n m) (list_any (nat_eq n) ns) (eq_flips m n (seen_one m n both.1)) rest.1)

none_again : (seen ns : List ℕ) → AreApart ns → AreNew seen ns → first_again seen ns ≡ None
none_again seen [] apart new = refl
none_again seen (n ∷ ns) apart new =
    ap (λ b. cond b (Some n) (first_again (seen ++ n ∷ []) ns)) new.0 ∙ none_again (seen ++ n ∷ []) ns apart.1 (new_more seen ns n new.1 apart.0)

number_none : (b : Bool) (o : Option ℕ) (n : ℕ) → cond b (Some n) o ≡ None → (b ≡ false) × (o ≡ None)
number_none true o n e = cc
number_none false o n e = (refl, e)

apart_again : (seen ns : List ℕ) → first_again seen ns ≡ None → AreApart ns × AreNew seen ns
apart_again seen [] e = (tt, tt)
apart_again seen (n ∷ ns) e =
    let both = number_none (list_any (nat_eq n) seen) (first_again (seen ++ n ∷ []) ns) n e in
    let rest = apart_again (seen ++ n ∷ []) ns both.1 in
    let less = new_less seen ns n rest.1 in
    ((less.1, rest.0), (both.0, less.0))

all_new : (ns : List ℕ) → AreNew [] ns
all_new [] = tt
all_new (n ∷ ns) = (refl, all_new ns)

-- no name stands twice exactly where no name is found a second time
pub apart_exactly : (names : List ℕ) → AreApart names ↔ (first_again [] names ≡ None)
apart_exactly names = (λ apart. none_again [] names apart (all_new names), λ e. (apart_again [] names e).0)

never_twice : (o : Option ℕ) → option_map cause.Twice o ≡ None → o ≡ None
never_twice None e = refl
never_twice (Some n) e = cc

module _ (nf : Term → Term) (sig : Signature) (strands : List Strand) (instances : List Instance) where
  -- instances have no fault
  pub instances_start : AreInstances nf sig strands instances → start_fault nf sig strands instances ≡ None
  instances_start are =
      ap (λ o. option_or o (option_map cause.Twice (first_again [] (fresh_names strands instances))))
      (no_fault nf sig strands 0 instances (λ n instance at. let is = are.each n instance at in record { strand = is.strand; there = is.there; sorts = is.sorts; normal = λ t has. (is.normal t has).normal }))
      ∙ ap (option_map cause.Twice) ((apart_exactly (fresh_names strands instances)).0 are.apart)

  -- without a fault they are instances, where their terms are ground
  pub starting_instances : AreGroundTerms sig instances → start_fault nf sig strands instances ≡ None → AreInstances nf sig strands instances
  starting_instances ground e =
      let both = both_none (first_fault nf sig strands 0 instances) (option_map cause.Twice (first_again [] (fresh_names strands instances))) e in
      record {
        each = λ n instance at. let f = each_fits nf sig strands 0 instances both.0 n instance at in record {
          strand = f.strand;
          there = f.there;
          sorts = f.sorts;
          normal = λ t has. record { term = ground n instance at t has; normal = f.normal t has };
        };
        apart = (apart_exactly (fresh_names strands instances)).1 (never_twice (first_again [] (fresh_names strands instances)) both.1);
      }

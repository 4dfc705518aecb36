-- Rows that stand for a substitution and for the normal forms of terms under it, and their instances.
use Rattle.std.proofs.Common.{◌≡◌, ℕ, suc, true, false, cond, Some, List, [], ◌∷◌, ◌++◌, length, map, take, drop, zip, inl, inr, refl, sym, ◌∙◌, ap, subst}
use Rattle.std.specs.Prelude.{Contains, unwrap_or}
use Rattle.std.specs.List.{flat_map}
use Rattle.npa_sorts.specs.Subsorts.{IsAtOrBelow}
use Rattle.npa_sorts.proofs.Steps.{at_or_below_trans}
use Rattle.npa_term.specs.declared.term.Var.{Var as Variable}
use Rattle.npa_term.specs.declared.term.Term.{Term, Var, Name, App}
use Rattle.npa_term.specs.Bound.{applied, same_var, value_of}
use Rattle.npa_term.specs.Canonical.{canonical}
use Rattle.npa_term.specs.Parts.{IsPart, image, least_sort}
use Rattle.npa_term.specs.Same.{Same, SameAll, itself, below, nothing, first}
use Rattle.npa_term.specs.Variables.{renamed, raised_var, variables}
use Rattle.npa_term.proofs.CanonicalLaws.{canonical_same}
use Rattle.npa_term.proofs.Equality.{var_equal}
use Rattle.npa_term.proofs.Induction.{Each, by_terms}
use Rattle.npa_term.proofs.Parts.{same_sort}
use Rattle.npa_term.proofs.Renumbered.{member_variable, of_member}
use Rattle.npa_term.proofs.Rows.{applied_app, renamed_app}
use Rattle.npa_sig.specs.Sorting.{well_sorted}
use Rattle.npa_unify.proofs.PairVariables.{var_other}
use Rattle.npa_rewrite.specs.declared.theory.Theory.{Theory}
use Rattle.npa_rewrite.specs.Innermost.{normalized}
use Rattle.npa_rewrite.specs.Rewriting.{FitsSorts, IsNormal}
use Rattle.npa_rewrite.proofs.FormLaws.{form_same, form_well_sorted}
use Rattle.npa_rewrite.proofs.InstanceParts.{here, behind, member_cases}
use Rattle.npa_rewrite.proofs.InstanceSteps.{form_of_instance}
use Rattle.npa_rewrite.proofs.Instances.{applied_variables, in_app, image_variables, sort_instance}
use Rattle.npa_rewrite.proofs.Sorting.{same_sorted}
use Rattle.npa_rewrite.proofs.Under.{normal_same}
use Rattle.npa_variants.specs.Rows.{Row}
use Rattle.npa_variants.specs.Variants.{bound}
use Rattle.npa_variants.proofs.Forms.{canonical_names, canonical_variables, form_names, form_of_canonical, form_variables, instance_names, instance_sorted, variables_canonical}
use Rattle.npa_variants.proofs.Members.{none_there, mapped_member, of_mapped, of_taken, of_dropped, taken_or_dropped}
use Rattle.npa_variants.proofs.Theories.{IsNarrowing}

-- a name stands in one of the terms
pub record HasName (terms : List Term) (n : ℕ) : Type 0 where
  pub term : Term
  pub listed : Contains terms term
  pub there : IsPart (Name n) term

-- A row is sound for terms and a list of variables: its first members are the values of a normal
-- substitution of the variables that respects sorts, the others are the normal forms of the terms under it,
-- which have no variable that the values don't have; and no name stands in the row that the terms don't have.
pub record IsSound (th : Theory) (vs : List Variable) (terms : List Term) (r : Row) : Type 0 where
  pub values : map (applied (bound vs r)) (map Var vs) ≡ take (length vs) r
  pub sorted : (v : Variable) → Contains vs v → well_sorted th.sig (image (bound vs r) v) ≡ true
  pub below_sort : FitsSorts th.sig.sorts vs (bound vs r)
  pub normal : (v : Variable) → Contains vs v → IsNormal th (image (bound vs r) v)
  pub forms : drop (length vs) r ≡ map (λ t. normalized th (applied (bound vs r) t)) terms
  pub inside : (y : Variable) → Contains (flat_map variables (drop (length vs) r)) y → Contains (flat_map variables (take (length vs) r)) y
  pub nameless : (t : Term) → Contains r t → (n : ℕ) → IsPart (Name n) t → HasName terms n

-- lists

pub map_map : {X Y Z : Type 0} (f : X → Y) (g : Y → Z) (xs : List X) → map g (map f xs) ≡ map (λ x. g (f x)) xs
map_map f g [] = refl
map_map f g (x ∷ xs) = ap (λ ys. g (f x) ∷ ys) (map_map f g xs)

pub map_equal : {X Y : Type 0} (f g : X → Y) (xs : List X) → ((x : X) → Contains xs x → f x ≡ g x) → map f xs ≡ map g xs
map_equal f g [] same = refl
map_equal f g (x ∷ xs) same = ap (λ y. y ∷ map f xs) (same x (here x xs)) ∙ ap (λ ys. g x ∷ ys) (map_equal f g xs (λ y c. same y (behind x y xs c)))

pub length_map : {X Y : Type 0} (f : X → Y) (xs : List X) → length (map f xs) ≡ length xs
length_map f [] = refl
length_map f (x ∷ xs) = ap suc (length_map f xs)

pub take_front : {X : Type 0} (n : ℕ) (xs ys : List X) → length xs ≡ n → take n (xs ++ ys) ≡ xs
take_front n [] ys e = subst (λ k. take k ys ≡ []) e refl
take_front n (x ∷ xs) ys e = subst (λ k. take k (x ∷ xs ++ ys) ≡ x ∷ xs) e (ap (λ zs. x ∷ zs) (take_front (length xs) xs ys refl))

pub drop_front : {X : Type 0} (n : ℕ) (xs ys : List X) → length xs ≡ n → drop n (xs ++ ys) ≡ ys
drop_front n [] ys e = subst (λ k. drop k ys ≡ ys) e refl
drop_front n (x ∷ xs) ys e = subst (λ k. drop k (x ∷ xs ++ ys) ≡ ys) e (drop_front (length xs) xs ys refl)

-- the substitution that has these values
pub image_zip : (f : Variable → Term) (vs : List Variable) (x : Variable) → Contains vs x → image (zip vs (map f vs)) x ≡ f x
image_zip f [] x c = absurd (none_there x c)
image_zip f (w ∷ ws) x c =
    elim (same_var w x) as (λ b. same_var w x ≡ b → unwrap_or (cond b (Some (f w)) (value_of (zip ws (map f ws)) x)) (Var x) ≡ f x) [
      | true ↦ λ e. ap f (var_equal w x e)
      | false ↦ λ e. elim (member_cases w x ws c) [
        | inl is ↦ absurd (var_other w x e is)
        | inr d ↦ image_zip f ws x d
      ]
    ] refl

renamed_members : (base : ℕ) (s : List (Variable × Term)) (ts : List Term) → Each (λ t. ((v : Variable) → Contains (variables t) v → image s v ≡ Var (raised_var base v)) → applied s t ≡ renamed base t) ts →
    ((v : Variable) → Contains (flat_map variables ts) v → image s v ≡ Var (raised_var base v)) → map (applied s) ts ≡ map (renamed base) ts
renamed_members base s [] each is = refl
renamed_members base s (t ∷ ts) each is =
    ap (λ u. u ∷ map (applied s) ts) (each.0 (λ v c. is v (member_variable (t ∷ ts) t v (here t ts) c)))
    ∙ ap (λ us. renamed base t ∷ us) (renamed_members base s ts each.1
    (λ v c. let of = of_member ts v c in is v (member_variable (t ∷ ts) of.0 v (behind t of.0 ts of.1) of.2)))

-- a renamed term is an instance of the term
pub renamed_instance : (base : ℕ) (t : Term) → applied (zip (variables t) (map (λ v. Var (raised_var base v)) (variables t))) t ≡ renamed base t
renamed_instance base t =
    let f : Variable → Term = λ v. Var (raised_var base v) in
    let s = zip (variables t) (map f (variables t)) in
    by_terms (λ u. ((v : Variable) → Contains (variables u) v → image s v ≡ f v) → applied s u ≡ renamed base u)
    (λ v is. is v (here v [])) (λ n is. refl)
    (λ op ts each is. applied_app s op ts ∙ ap (App op) (renamed_members base s ts each (λ v c. is v (in_app op ts v c))) ∙ sym (renamed_app base op ts)) t
    (λ v c. image_zip f (variables t) v c)

-- substitutions that agree modulo commutativity

agree_all : (s u : List (Variable × Term)) (d : List (Variable × Term)) (ts : List Term) →
    Each (λ t. ((v : Variable) → Contains (variables t) v → Same (applied d (image s v)) (image u v)) → Same (applied d (applied s t)) (applied u t)) ts →
    ((v : Variable) → Contains (flat_map variables ts) v → Same (applied d (image s v)) (image u v)) → SameAll (map (applied d) (map (applied s) ts)) (map (applied u) ts)
agree_all s u d [] each same = nothing
agree_all s u d (t ∷ ts) each same =
    first (applied d (applied s t)) (applied u t) (map (applied d) (map (applied s) ts)) (map (applied u) ts)
    (each.0 (λ v c. same v (member_variable (t ∷ ts) t v (here t ts) c)))
    (agree_all s u d ts each.1 (λ v c. let of = of_member ts v c in same v (member_variable (t ∷ ts) of.0 v (behind t of.0 ts of.1) of.2)))

-- one substitution after another does what a third does where it does so on the variables
pub agree : (s u d : List (Variable × Term)) (t : Term) → ((v : Variable) → Contains (variables t) v → Same (applied d (image s v)) (image u v)) →
    Same (applied d (applied s t)) (applied u t)
agree s u d =
    by_terms (λ t. ((v : Variable) → Contains (variables t) v → Same (applied d (image s v)) (image u v)) → Same (applied d (applied s t)) (applied u t))
    (λ v same. same v (here v [])) (λ n same. itself (Name n))
    (λ op ts each same.
    subst (λ x. Same x (applied u (App op ts))) (sym (ap (applied d) (applied_app s op ts) ∙ applied_app d op (map (applied s) ts)))
    (subst (Same (App op (map (applied d) (map (applied s) ts)))) (sym (applied_app u op ts))
    (below op (map (applied d) (map (applied s) ts)) (map (applied u) ts) (agree_all s u d ts each (λ v c. same v (in_app op ts v c))))))

module _ (th : Theory) (vs : List Variable) (terms : List Term) where
  -- the values, one for each variable
  pub row_values : (r : Row) → IsSound th vs terms r → take (length vs) r ≡ map (image (bound vs r)) vs
  row_values r sound = sym sound.values ∙ map_map Var (applied (bound vs r)) vs

  pub value_listed : (r : Row) → IsSound th vs terms r → (x : Variable) → Contains vs x → Contains (take (length vs) r) (image (bound vs r) x)
  value_listed r sound x c = subst (λ ts. Contains ts (image (bound vs r) x)) (sym (row_values r sound)) (mapped_member (image (bound vs r)) vs x c)

  pub of_value : (r : Row) → IsSound th vs terms r → (t : Term) → Contains (take (length vs) r) t → (x : Variable) × Contains vs x × (t ≡ image (bound vs r) x)
  of_value r sound t c = of_mapped (image (bound vs r)) vs t (subst (λ ts. Contains ts t) (row_values r sound) c)

  -- a row with these values has them for the variables
  pub bound_is : (f : Variable → Term) (r : Row) → take (length vs) r ≡ map f vs → (x : Variable) → Contains vs x → image (bound vs r) x ≡ f x
  bound_is f r e x c = ap (λ ts. image (zip vs ts) x) e ∙ image_zip f vs x c

  pub values_from : (f : Variable → Term) (r : Row) → take (length vs) r ≡ map f vs → map (applied (bound vs r)) (map Var vs) ≡ take (length vs) r
  values_from f r e = map_map Var (applied (bound vs r)) vs ∙ map_equal (image (bound vs r)) f vs (bound_is f r e) ∙ sym e

  -- the variables of a row's members are the row's
  pub taken_variable : (r : Row) (t : Term) (v : Variable) → Contains (take (length vs) r) t → Contains (variables t) v → Contains (flat_map variables r) v
  taken_variable r t v c d = member_variable r t v (of_taken (length vs) r t c) d

  pub dropped_variable : (r : Row) (t : Term) (v : Variable) → Contains (drop (length vs) r) t → Contains (variables t) v → Contains (flat_map variables r) v
  dropped_variable r t v c d = member_variable r t v (of_dropped (length vs) r t c) d

  module _ (can : IsNarrowing th) (sorted : (t : Term) → Contains terms t → well_sorted th.sig t ≡ true) (own : (v : Variable) → Contains (flat_map variables terms) v → Contains vs v) where
    -- the terms under the row's substitution are well sorted
    pub under_sorted : (r : Row) → IsSound th vs terms r → (t : Term) → Contains terms t → well_sorted th.sig (applied (bound vs r) t) ≡ true
    under_sorted r sound t c =
        instance_sorted th.sig (bound vs r) t (λ v d. sound.sorted v (own v (member_variable terms t v c d)))
        (λ v d. sound.below_sort v (own v (member_variable terms t v c d))) (sorted t c)

    -- a term of the row is the normal form of one of the terms
    pub record OfForm (r : Row) (u : Term) : Type 0 where
      pub term : Term
      pub listed : Contains terms term
      pub form : u ≡ normalized th (applied (bound vs r) term)

    pub of_form : (r : Row) → IsSound th vs terms r → (u : Term) → Contains (drop (length vs) r) u → OfForm r u
    of_form r sound u c =
        let of = of_mapped (λ t. normalized th (applied (bound vs r) t)) terms u (subst (λ ts. Contains ts u) sound.forms c) in
        record { term = of.0; listed = of.1; form = of.2 }

    pub form_is_sorted : (r : Row) → IsSound th vs terms r → (u : Term) → Contains (drop (length vs) r) u → well_sorted th.sig u ≡ true
    form_is_sorted r sound u c =
        let of = of_form r sound u c in
        subst (λ x. well_sorted th.sig x ≡ true) (sym of.form) (form_well_sorted th can.cancel can.pairs (applied (bound vs r) of.term) (under_sorted r sound of.term of.listed))

    -- an instance of a sound row, with the terms in normal form again
    module _ (r w : Row) (sound : IsSound th vs terms r) (d : List (Variable × Term))
        (takes : take (length vs) w ≡ map (λ t. canonical (applied d t)) (take (length vs) r))
        (drops : drop (length vs) w ≡ map (λ t. normalized th (canonical (applied d t))) (drop (length vs) r))
        (fits : FitsSorts th.sig.sorts (flat_map variables r) d)
        (well : (v : Variable) → Contains (flat_map variables r) v → well_sorted th.sig (image d v) ≡ true)
        (normal : (t : Term) → Contains (take (length vs) r) t → IsNormal th (applied d t))
        (named : (v : Variable) → Contains (flat_map variables r) v → (n : ℕ) → IsPart (Name n) (image d v) → HasName terms n) where
      abbrev s : List (Variable × Term)
      s = bound vs r

      abbrev f : Variable → Term
      f x = canonical (applied d (image s x))

      takes_values : take (length vs) w ≡ map f vs
      takes_values = takes ∙ ap (map (λ t. canonical (applied d t))) (row_values r sound) ∙ map_map (image s) (λ t. canonical (applied d t)) vs

      value_variable : (x y : Variable) → Contains vs x → Contains (variables (image s x)) y → Contains (flat_map variables r) y
      value_variable x y c e = taken_variable r (image s x) y (value_listed r sound x c) e

      value_sorted : (x : Variable) → Contains vs x → well_sorted th.sig (applied d (image s x)) ≡ true
      value_sorted x c =
          instance_sorted th.sig d (image s x) (λ y e. well y (value_variable x y c e)) (λ y e. fits y (value_variable x y c e)) (sound.sorted x c)

      value_below : (x : Variable) → Contains vs x → IsAtOrBelow th.sig.sorts (least_sort (f x)) x.sort
      value_below x c =
          subst (λ k. IsAtOrBelow th.sig.sorts k x.sort) (same_sort (applied d (image s x)) (f x) (canonical_same (applied d (image s x))))
          (at_or_below_trans (sort_instance th.sig.sorts d (image s x) (λ y e. fits y (value_variable x y c e))) (sound.below_sort x c))

      whole_sorted : (t : Term) → Contains terms t → well_sorted th.sig (applied d (applied s t)) ≡ true
      whole_sorted t c =
          instance_sorted th.sig d (applied s t) (λ y e. well y (whole_variable y e)) (λ y e. fits y (whole_variable y e)) (under_sorted r sound t c)
        where
          whole_variable : (y : Variable) → Contains (variables (applied s t)) y → Contains (flat_map variables r) y
          whole_variable y e =
              let from = applied_variables s y t e in
              value_variable from.var y (own from.var (member_variable terms t from.var c from.occurs)) from.of

      whole_fits : (t : Term) → Contains terms t → FitsSorts th.sig.sorts (variables (applied s t)) d
      whole_fits t c y e =
          let from = applied_variables s y t e in
          fits y (value_variable from.var y (own from.var (member_variable terms t from.var c from.occurs)) from.of)

      form_again : (t : Term) → Contains terms t → normalized th (canonical (applied d (normalized th (applied s t)))) ≡ normalized th (applied (bound vs w) t)
      form_again t c =
          let u = applied s t in
          let low : FitsSorts th.sig.sorts (variables (normalized th u)) d = λ y e. whole_fits t c y (form_variables th can.cancel u y e) in
          let there : well_sorted th.sig (applied d (normalized th u)) ≡ true =
          instance_sorted th.sig d (normalized th u) (λ y e. well_at t c y (form_variables th can.cancel u y e)) low (form_well_sorted th can.cancel can.pairs u (under_sorted r sound t c)) in
          let same : Same (applied d u) (applied (bound vs w) t) =
          agree s (bound vs w) d t (λ v e.
          subst (Same (applied d (image s v))) (sym (bound_is f w takes_values v (own v (member_variable terms t v c e)))) (canonical_same (applied d (image s v)))) in
          form_of_canonical th can (applied d (normalized th u)) there
          ∙ form_of_instance th d u can.cancel can.pairs can.convergent (whole_fits t c) (whole_sorted t c)
          ∙ form_same th can.cancel can.pairs can.convergent (applied d u) (applied (bound vs w) t) same (whole_sorted t c)
        where
          well_at : (t : Term) → Contains terms t → (y : Variable) → Contains (variables (applied s t)) y → well_sorted th.sig (image d y) ≡ true
          well_at t c y e =
              let from = applied_variables s y t e in
              well y (value_variable from.var y (own from.var (member_variable terms t from.var c from.occurs)) from.of)

      -- the variables of the new terms are those of new values
      new_inside : (y : Variable) → Contains (flat_map variables (drop (length vs) w)) y → Contains (flat_map variables (take (length vs) w)) y
      new_inside y c =
          let of = of_member (drop (length vs) w) y c in
          let made = of_mapped (λ t. normalized th (canonical (applied d t))) (drop (length vs) r) of.0 (subst (λ ts. Contains ts of.0) drops of.1) in
          let there : Contains (variables (applied d made.0)) y =
          canonical_variables (applied d made.0) y (form_variables th can.cancel (canonical (applied d made.0)) y (subst (λ x. Contains (variables x) y) made.2 of.2)) in
          let from = applied_variables d y made.0 there in
          let value = of_member (take (length vs) r) from.var (sound.inside from.var (member_variable (drop (length vs) r) made.0 from.var made.1 from.occurs)) in
          let new = variables_canonical (applied d value.0) y (image_variables d from.var y value.0 value.2 from.of) in
          member_variable (take (length vs) w) (canonical (applied d value.0)) y
          (subst (λ ts. Contains ts (canonical (applied d value.0))) (sym takes) (mapped_member (λ t. canonical (applied d t)) (take (length vs) r) value.0 value.1)) new

      instance_named : (t : Term) → Contains r t → (n : ℕ) → IsPart (Name n) (applied d t) → HasName terms n
      instance_named t c n part =
          elim (instance_names d n t part) [
            | inl at ↦ sound.nameless t c n at
            | inr of ↦ named of.var (member_variable r t of.var c of.occurs) n of.there
          ]

      new_named : (t : Term) → Contains w t → (n : ℕ) → IsPart (Name n) t → HasName terms n
      new_named t c n part =
          elim (taken_or_dropped (length vs) w t c) [
            | inl a ↦
                let of = of_mapped (λ u. canonical (applied d u)) (take (length vs) r) t (subst (λ ts. Contains ts t) takes a) in
                instance_named of.0 (of_taken (length vs) r of.0 of.1) n (canonical_names n (applied d of.0) (subst (IsPart (Name n)) of.2 part))
            | inr b ↦
                let of = of_mapped (λ u. normalized th (canonical (applied d u))) (drop (length vs) r) t (subst (λ ts. Contains ts t) drops b) in
                instance_named of.0 (of_dropped (length vs) r of.0 of.1) n
                (canonical_names n (applied d of.0) (form_names th can.cancel n (canonical (applied d of.0)) (subst (IsPart (Name n)) of.2 part)))
          ]

      pub sound_instance : IsSound th vs terms w
      sound_instance = record {
        values = values_from f w takes_values;
        sorted = λ x c. subst (λ t. well_sorted th.sig t ≡ true) (sym (bound_is f w takes_values x c))
            (same_sorted th.sig can.pairs (canonical_same (applied d (image s x))) (value_sorted x c));
        below_sort = λ x c. subst (λ t. IsAtOrBelow th.sig.sorts (least_sort t) x.sort) (sym (bound_is f w takes_values x c)) (value_below x c);
        normal = λ x c. subst (IsNormal th) (sym (bound_is f w takes_values x c))
            (normal_same th (applied d (image s x)) (f x) (canonical_same (applied d (image s x))) (normal (image s x) (value_listed r sound x c)));
        forms = drops ∙ ap (map (λ t. normalized th (canonical (applied d t)))) sound.forms
            ∙ map_map (λ t. normalized th (applied s t)) (λ t. normalized th (canonical (applied d t))) terms
            ∙ map_equal (λ t. normalized th (canonical (applied d (normalized th (applied s t))))) (λ t. normalized th (applied (bound vs w) t)) terms form_again;
        inside = new_inside;
        nameless = new_named;
      }

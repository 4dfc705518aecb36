-- Choices for parts that don't hinder each other are joined to one.
use Rattle.std.specs.Prelude.{◌⊎◌, unwrap_or, zip}
use Rattle.std.proofs.Common.{◌≡◌, Bool, true, false, cond, ℕ, zero, ◌+◌, ◌*◌, ⊎_elim, List, [], ◌∷◌, ◌++◌, Option, None, Some, map, slice_get, Contains, refl, ap, sym, ◌∙◌, subst, arith}
use Rattle.std.proofs.lemmas.Grind.{common_steps}
use Rattle.std.proofs.lemmas.Option.{same_Some}
use Rattle.std.proofs.lemmas.List.Elements.{Contains-append_left, Contains-append_right, Contains-append_cases}
use Rattle.std.specs.List.{flat_map}
use Rattle.npa_sorts.specs.Subsorts.{Subsorts}
use Rattle.npa_term.specs.declared.term.Var.{Var as Variable}
use Rattle.npa_term.specs.declared.term.Term.{Term, Var, App}
use Rattle.npa_term.specs.Bound.{same_var, value_of, applied}
use Rattle.npa_term.specs.Parts.{image, least_sort}
use Rattle.npa_term.specs.Same.{Same}
use Rattle.npa_term.specs.Variables.{variables}
use Rattle.npa_term.proofs.Induction.{Each, by_terms}
use Rattle.npa_term.proofs.Rows.{applied_app, variables_at}
use Rattle.npa_sorts.specs.Subsorts.{IsAtOrBelow}
use Rattle.npa_match.specs.Matching.{Matches, first_variables}
use Rattle.npa_model.specs.declared.aim.Part.{Part}
use Rattle.npa_model.specs.declared.aim.Part.TheVariants as part
use Rattle.npa_model.specs.declared.run.Instance.{Instance}
use Rattle.npa_model.specs.State.{State, done_of}
use Rattle.npa_replay.specs.Choices.{taken, AreFree, with_values, with_term, IsTarget, target_pairs}
use Rattle.npa_replay.specs.Groups.{part_variables, strand_keys, IsChoice}
use Rattle.npa_replay.proofs.Choosing.{occurs_first}
use Rattle.npa_replay.proofs.Members.{contains_cases, contains_head, contains_tail, contains_one}

-- an instance depends on what is there for the term's own variables alone
alike_members : (s u : List (Variable × Term)) (ts : List Term) → Each (λ t. ((v : Variable) → Contains (variables t) v → image s v ≡ image u v) → applied s t ≡ applied u t) ts →
    ((v : Variable) → Contains (flat_map variables ts) v → image s v ≡ image u v) → map (applied s) ts ≡ map (applied u) ts
alike_members s u [] each alike = refl
alike_members s u (t ∷ ts) each alike =
    ap (λ w. w ∷ map (applied s) ts) (each.0 (λ v c. alike v (Contains-append_left (variables t) (flat_map variables ts) v c)))
    ∙ ap (λ ws. applied u t ∷ ws) (alike_members s u ts each.1 (λ v c. alike v (Contains-append_right (variables t) (flat_map variables ts) v c)))

applied_images : (s u : List (Variable × Term)) (t : Term) → ((v : Variable) → Contains (variables t) v → image s v ≡ image u v) → applied s t ≡ applied u t
applied_images s u =
    by_terms (λ t. ((v : Variable) → Contains (variables t) v → image s v ≡ image u v) → applied s t ≡ applied u t)
    (λ v alike. alike v (zero, omega arith, refl)) (λ n alike. refl)
    (λ op ts each alike.
    let whole : variables (App op ts) ≡ flat_map variables ts = variables_at (App op ts) op ts refl in
    applied_app s op ts
    ∙ ap (App op) (alike_members s u ts each (λ v c. alike v (subst (λ vs. Contains vs v) (sym whole) c)))
    ∙ sym (applied_app u op ts))

-- so does matching
pub matches_images : (o : Subsorts) (pairs : List (Term × Term)) (s u : List (Variable × Term)) → ((v : Variable) → Contains (first_variables pairs) v → image s v ≡ image u v) → Matches o pairs s → Matches o pairs u
matches_images o pairs s u alike m = record {
  sorts = λ v h. subst (λ (t : Term). IsAtOrBelow o (least_sort t) v.sort) (alike v h) (m.sorts v h);
  equal = λ t w h.
      let same : applied s t ≡ applied u t = applied_images s u t (λ v c. alike v (occurs_first pairs (t, w) v h c)) in
      subst (λ (x : Term). Same x w) same (m.equal t w h);
}

same_var-true : (v w : Variable) → same_var v w ≡ true → v ≡ w
same_var-true v w e = grind (arith, common_steps)

same_var-refl : (v w : Variable) → v ≡ w → same_var v w ≡ true
same_var-refl v w e = grind (arith, common_steps)

not_both : (b : Bool) → b ≡ true → b ≡ false → ⊥
not_both true e f = cc
not_both false e f = cc

-- what a substitution has for some variables, each bound
abbrev pub bindings : List (Variable × Term) → List Variable → List (Variable × Term)
bindings s [] = []
bindings s (v ∷ vs) = (v, image s v) ∷ bindings s vs

bound_first : (s u : List (Variable × Term)) (vs : List Variable) (v : Variable) → Contains vs v → value_of (bindings s vs ++ u) v ≡ Some (image s v)
bound_first s u [] v h = absurd (omega (arith, h.1))
bound_first s u (w ∷ vs) v h =
    elim (same_var w v) as (λ b. same_var w v ≡ b → cond b (Some (image s w)) (value_of (bindings s vs ++ u) v) ≡ Some (image s v)) [
      | true ↦ λ e. ap (λ x. Some (image s x)) (same_var-true w v e)
      | false ↦ λ e. bound_first s u vs v (⊎_elim (λ (here : w ≡ v). absurd (not_both (same_var w v) (same_var-refl w v here) e)) (λ later. later) (contains_cases w vs v h))
    ] refl

bound_behind : (s u : List (Variable × Term)) (vs : List Variable) (v : Variable) → (Contains vs v → ⊥) → value_of (bindings s vs ++ u) v ≡ value_of u v
bound_behind s u [] v h = refl
bound_behind s u (w ∷ vs) v h =
    elim (same_var w v) as (λ b. same_var w v ≡ b → cond b (Some (image s w)) (value_of (bindings s vs ++ u) v) ≡ value_of u v) [
      | true ↦ λ e. absurd (h (subst (λ (x : Variable). Contains (w ∷ vs) x) (same_var-true w v e) (contains_head w vs)))
      | false ↦ λ e. bound_behind s u vs v (λ later. h (contains_tail w vs v later))
    ] refl

-- one on these variables, and another on the others
module _ (s u : List (Variable × Term)) (vs : List Variable) (v : Variable) where
  pub image_first : Contains vs v → image s v ≡ image (bindings s vs ++ u) v
  image_first h = sym (ap (λ (x : Option Term). unwrap_or x (Var v)) (bound_first s u vs v h))

  pub image_behind : (Contains vs v → ⊥) → image u v ≡ image (bindings s vs ++ u) v
  image_behind h = sym (ap (λ (x : Option Term). unwrap_or x (Var v)) (bound_behind s u vs v h))

-- the variables of the pairs are the part's own
own_pairs : (ts us : List Term) (v : Variable) → Contains (first_variables (zip ts us)) v → Contains (flat_map variables ts) v
own_pairs [] us v h = absurd (omega (arith, h.1))
own_pairs (t ∷ ts) [] v h = absurd (omega (arith, h.1))
own_pairs (t ∷ ts) (u ∷ us) v h = ⊎_elim
    (λ here. Contains-append_left (variables t) (flat_map variables ts) v here)
    (λ later. Contains-append_right (variables t) (flat_map variables ts) v (own_pairs ts us v later))
    (Contains-append_cases (variables t) (first_variables (zip ts us)) v h)

no_empty : {X : Type 0} (x : X) → Contains [] x → ⊥
no_empty x h = omega (arith, h.1)

module _ (instances : List Instance) (state : State) where
  pub own_variables : (p : Part) (n : ℕ) (v : Variable) → Contains (first_variables (target_pairs instances state p n)) v → Contains (part_variables p) v
  own_variables (part.Known t) n v h =
      elim (slice_get state.sent n) as (λ x. Contains (first_variables (with_term t x)) v → Contains (variables t) v) [
        | Some u ↦ λ g. ⊎_elim (λ here. here) (λ later. absurd (no_empty v later)) (Contains-append_cases (variables t) [] v g)
        | None ↦ λ g. absurd (no_empty v g)
      ] h
  own_variables (part.Strand strand bar args) n v h =
      elim (slice_get instances n) as (λ x. Contains (first_variables (with_values args x)) v → Contains (flat_map variables args) v) [
        | Some i ↦ λ g. own_pairs args i.args v g
        | None ↦ λ g. absurd (no_empty v g)
      ] h

  -- parts that don't hinder each other: they have no variable in common, and take no instance that the other does
  pub record AreApart (p q : Part) : Type 0 where
    pub variables_ : (v : Variable) → Contains (part_variables p) v → Contains (part_variables q) v → ⊥
    pub takes : (m n : ℕ) → IsTarget instances state p m → IsTarget instances state q n → AreFree (taken p m) (taken q n)

  -- an instance is of one strand, and has executed one number of events
  pub takes_apart : (p q : Part) → ((k : ℕ) → Contains (strand_keys p) k → Contains (strand_keys q) k → ⊥) → (m n : ℕ) → IsTarget instances state p m → IsTarget instances state q n → AreFree (taken p m) (taken q n)
  takes_apart (part.Known t) q differ m n a b = record { apart = λ k h w. no_empty k w }
  takes_apart (part.Strand s c ts) (part.Known u) differ m n a b = record { apart = λ k h w. no_empty k h }
  takes_apart (part.Strand s c ts) (part.Strand r d us) differ m n a b = record {
    apart = λ k h w.
        let same : m ≡ n = contains_one m k w ∙ sym (contains_one n k h) in
        let one : a.0 ≡ b.0 = same_Some a.0 b.0 (sym a.1 ∙ ap (slice_get instances) same ∙ b.1) in
        let strands : s ≡ r = sym a.2 ∙ ap (λ (i : Instance). i.strand) one ∙ b.2 in
        let bars : c ≡ d = sym a.3 ∙ ap (done_of state) same ∙ b.3 in
        let keys : s * 64 + c ≡ r * 64 + d = ap (λ x. x * 64 + c) strands ∙ ap (λ x. r * 64 + x) bars in
        differ (s * 64 + c) (contains_head (s * 64 + c) []) (subst (λ x. Contains ((r * 64 + d) ∷ []) x) (sym keys) (contains_head (r * 64 + d) []));
  }

  module _ (o : Subsorts) (parts : List Part) (A B : ℕ → Type 0) (a b : ℕ → ℕ) (s u : List (Variable × Term))
      (first : IsChoice instances state o parts A a s) (second : IsChoice instances state o parts B b u)
      (is_in : ℕ → Bool) (yes : (i : ℕ) → A i → is_in i ≡ true) (no : (i : ℕ) → B i → is_in i ≡ false)
      (far : (i j : ℕ) (p q : Part) → slice_get parts i ≡ Some p → slice_get parts j ≡ Some q → A i → B j → AreApart p q)
      (vs : List Variable) (all : (i : ℕ) (p : Part) → slice_get parts i ≡ Some p → A i → (v : Variable) → Contains (part_variables p) v → Contains vs v)
      (only : (i : ℕ) (p : Part) → slice_get parts i ≡ Some p → B i → (v : Variable) → Contains (part_variables p) v → Contains vs v → ⊥) where
    abbrev pub both : ℕ → ℕ
    both i = cond (is_in i) (a i) (b i)

    at_first : (i : ℕ) → A i → a i ≡ both i
    at_first i h = sym (ap (λ c. cond c (a i) (b i)) (yes i h))

    at_second : (i : ℕ) → B i → b i ≡ both i
    at_second i h = sym (ap (λ c. cond c (a i) (b i)) (no i h))

    free_sym : (ns ms : List ℕ) → AreFree ns ms → AreFree ms ns
    free_sym ns ms f = record { apart = λ n h w. f.apart n w h }

    free_at : (p q : Part) (i j m n : ℕ) → i ≡ m → j ≡ n → AreFree (taken p i) (taken q j) → AreFree (taken p m) (taken q n)
    free_at p q i j m n e f h = subst (λ k. AreFree (taken p k) (taken q n)) e (subst (λ k. AreFree (taken p i) (taken q k)) f h)

    pub joined : IsChoice instances state o parts (λ i. A i ⊎ B i) both (bindings s vs ++ u)
    joined = record {
      targets = λ i p at h. ⊎_elim
          (λ l. subst (λ n. IsTarget instances state p n) (at_first i l) (first.targets i p at l))
          (λ r. subst (λ n. IsTarget instances state p n) (at_second i r) (second.targets i p at r)) h;
      apart = λ i j p q at there h g other. ⊎_elim
          (λ l. ⊎_elim
          (λ m. free_at p q (a i) (a j) (both i) (both j) (at_first i l) (at_first j m) (first.apart i j p q at there l m other))
          (λ r. free_at p q (a i) (b j) (both i) (both j) (at_first i l) (at_second j r) ((far i j p q at there l r).takes (a i) (b j) (first.targets i p at l) (second.targets j q there r))) g)
          (λ l. ⊎_elim
          (λ m. free_at p q (b i) (a j) (both i) (both j) (at_second i l) (at_first j m) (free_sym (taken q (a j)) (taken p (b i)) ((far j i q p there at m l).takes (a j) (b i) (first.targets j q there m) (second.targets i p at l))))
          (λ r. free_at p q (b i) (b j) (both i) (both j) (at_second i l) (at_second j r) (second.apart i j p q at there l r other)) g) h;
      matches = λ i p at h. ⊎_elim
          (λ l. subst (λ n. Matches o (target_pairs instances state p n) (bindings s vs ++ u)) (at_first i l)
          (matches_images o (target_pairs instances state p (a i)) s (bindings s vs ++ u) (λ v c. image_first s u vs v (all i p at l v (own_variables p (a i) v c))) (first.matches i p at l)))
          (λ r. subst (λ n. Matches o (target_pairs instances state p n) (bindings s vs ++ u)) (at_second i r)
          (matches_images o (target_pairs instances state p (b i)) u (bindings s vs ++ u) (λ v c. image_behind s u vs v (λ g. only i p at r v (own_variables p (b i) v c) g)) (second.matches i p at r))) h;
    }

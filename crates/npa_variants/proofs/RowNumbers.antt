-- The variables of a row that is numbered anew have the numbers from 0 on, and no variable is bound twice.
use Rattle.std.proofs.Common.{◌≡◌, ◌<◌, ◌+◌, ℕ, zero, suc, true, false, cond, Option, Some, None, List, [], ◌∷◌, length, map, slice_get, zip, inl, inr, refl, sym, ◌∙◌, ap, subst, arith}
use Rattle.std.specs.Prelude.{Contains, unwrap_or}
use Rattle.std.specs.List.{flat_map}
use Rattle.npa_term.specs.declared.term.Var.{Var as Variable}
use Rattle.npa_term.specs.declared.term.Term.{Term, Var}
use Rattle.npa_term.specs.Bound.{BindsOnce, applied, same_var, value_of}
use Rattle.npa_term.specs.Canonical.{canonical}
use Rattle.npa_term.specs.Numbering.{anew, numbered, numbering, renumbered, variables_once}
use Rattle.npa_term.specs.Parts.{image}
use Rattle.npa_term.specs.Variables.{variables}
use Rattle.npa_term.proofs.Equality.{var_equal, var_itself}
use Rattle.npa_term.proofs.Numbered.{numbered_once}
use Rattle.npa_term.proofs.Parts.{only_member}
use Rattle.npa_term.proofs.Renumbered.{member_variable, of_member}
use Rattle.npa_unify.proofs.PairVariables.{var_other}
use Rattle.npa_rewrite.proofs.InstanceParts.{here, behind, member_cases}
use Rattle.npa_rewrite.proofs.Instances.{applied_variables, image_variables}
use Rattle.npa_variants.specs.Narrowable.{AreNumbered}
use Rattle.npa_variants.specs.Rows.{Row}
use Rattle.npa_variants.proofs.Forms.{canonical_variables, variables_canonical}
use Rattle.npa_variants.proofs.Members.{none_there, mapped_member, of_mapped}
use Rattle.npa_variants.proofs.Starting.{in_once, once_of}

-- the place at which a listed variable has its number
pub record Place (k : ℕ) (vs : List Variable) (x : Variable) : Type 0 where
  pub at : ℕ
  pub small : at < length vs
  pub there : slice_get vs at ≡ Some x
  pub bound : value_of (numbered k vs) x ≡ Some (Var (anew (k + at) x))

pub place_of : (k : ℕ) (vs : List Variable) (x : Variable) → Contains vs x → Place k vs x
place_of k [] x c = absurd (none_there x c)
place_of k (w ∷ ws) x c =
    elim (same_var w x) as (λ b. same_var w x ≡ b → Place k (w ∷ ws) x) [
      | true ↦ λ e. (
          let is : w ≡ x = var_equal w x e in
          let k_is : k ≡ k + 0 = omega arith in
          record {
            at = 0;
            small = omega arith;
            there = ap Some is;
            bound = ap (λ b. cond b (Some (Var (anew k w))) (value_of (numbered (k + 1) ws) x)) e ∙ ap (λ y. Some (Var (anew k y))) is ∙ ap (λ n. Some (Var (anew n x))) k_is;
          }
          )
      | false ↦ λ e. elim (member_cases w x ws c) [
        | inl is ↦ absurd (var_other w x e is)
        | inr d ↦
            let rest = place_of (k + 1) ws x d in
            let less = rest.small in
            let n_is : k + 1 + rest.at ≡ k + suc rest.at = omega arith in
            record {
              at = suc rest.at;
              small = omega (arith, less);
              there = rest.there;
              bound = ap (λ b. cond b (Some (Var (anew k w))) (value_of (numbered (k + 1) ws) x)) e ∙ rest.bound ∙ ap (λ n. Some (Var (anew n x))) n_is;
            }
      ]
    ] refl

-- where no variable stands twice, each place has its number
pub number_at : (k : ℕ) (vs : List Variable) (i : ℕ) (x : Variable) → BindsOnce (numbered k vs) → slice_get vs i ≡ Some x → value_of (numbered k vs) x ≡ Some (Var (anew (k + i) x))
number_at k [] i x once there = cc
number_at k (w ∷ ws) zero x once there =
    let is : w ≡ x = cc in
    let k_is : k ≡ k + 0 = omega arith in
    ap (λ b. cond b (Some (Var (anew k w))) (value_of (numbered (k + 1) ws) x)) (ap (λ y. same_var y x) is ∙ var_itself x)
    ∙ ap (λ y. Some (Var (anew k y))) is ∙ ap (λ n. Some (Var (anew n x))) k_is
number_at k (w ∷ ws) (suc i) x once there =
    let rest = number_at (k + 1) ws i x once.1 there in
    let n_is : k + 1 + i ≡ k + suc i = omega arith in
    elim (same_var w x) as (λ b. same_var w x ≡ b → cond b (Some (Var (anew k w))) (value_of (numbered (k + 1) ws) x) ≡ Some (Var (anew (k + suc i) x))) [
      | true ↦ λ e. absurd (twice (value_of (numbered (k + 1) ws) x) (Var (anew (k + 1 + i) x)) (ap (value_of (numbered (k + 1) ws)) (sym (var_equal w x e)) ∙ once.0) rest)
      | false ↦ λ e. rest ∙ ap (λ n. Some (Var (anew n x))) n_is
    ] refl
  where
    twice : (o : Option Term) (t : Term) → o ≡ None → o ≡ Some t → ⊥
    twice o t e f = cc

slice_at : {X : Type 0} (xs : List X) (k : ℕ) → k < length xs → (x : X) × (slice_get xs k ≡ Some x) × Contains xs x
slice_at [] k small = absurd (let never : ⊥ = omega (arith, small) in never)
slice_at (x ∷ xs) zero small = (x, refl, here x xs)
slice_at (x ∷ xs) (suc k) small = let rest = slice_at xs k (omega (arith, small)) in (rest.0, rest.1, behind x rest.0 xs rest.2)

pub once_numbered : (ts : List Term) → BindsOnce (numbered 0 (variables_once ts))
once_numbered ts = numbered_once [] (flat_map variables ts) tt

module _ (r : Row) where
  image_at : (x : Variable) (n : ℕ) → value_of (numbered 0 (variables_once r)) x ≡ Some (Var (anew (0 + n) x)) → image (numbering r) x ≡ Var (anew n x)
  image_at x n e = (let n_is : 0 + n ≡ n = omega arith in ap (λ o. unwrap_or o (Var x)) e ∙ ap (λ m. Var (anew m x)) n_is)

  -- a variable of the new row, with the one that it was
  record OfNew (v : Variable) : Type 0 where
    old : Variable
    listed : Contains (variables_once r) old
    place : Place 0 (variables_once r) old
    is : anew place.at old ≡ v

  of_new : (v : Variable) → Contains (flat_map variables (renumbered r)) v → OfNew v
  of_new v c =
      let at = of_member (renumbered r) v c in
      let made = of_mapped (λ t. canonical (applied (numbering r) t)) r at.0 at.1 in
      let there = canonical_variables (applied (numbering r) made.0) v (subst (λ t. Contains (variables t) v) made.2 at.2) in
      let from = applied_variables (numbering r) v made.0 there in
      let listed = in_once r from.var (member_variable r made.0 from.var made.1 from.occurs) in
      let place = place_of 0 (variables_once r) from.var listed in
      record {
        old = from.var;
        listed = listed;
        place = place;
        is = only_member (anew place.at from.var) v (subst (λ t. Contains (variables t) v) (image_at from.var place.at place.bound) from.of);
      }

  new_has : (x : Variable) (n : ℕ) → Contains (variables_once r) x → image (numbering r) x ≡ Var (anew n x) → Contains (flat_map variables (renumbered r)) (anew n x)
  new_has x n c is =
      let at = of_member r x (once_of r x c) in
      let there = image_variables (numbering r) x (anew n x) at.0 at.2 (subst (λ t. Contains (variables t) (anew n x)) (sym is) (here (anew n x) [])) in
      member_variable (renumbered r) (canonical (applied (numbering r) at.0)) (anew n x)
      (mapped_member (λ t. canonical (applied (numbering r) t)) r at.0 at.1) (variables_canonical (applied (numbering r) at.0) (anew n x) there)

  one_place : (v w : Variable) → OfNew v → OfNew w → v.num ≡ w.num → v ≡ w
  one_place v w a b e =
      let first : a.place.at ≡ v.num = ap (λ (x : Variable). x.num) a.is in
      let second : b.place.at ≡ w.num = ap (λ (x : Variable). x.num) b.is in
      let same : a.place.at ≡ b.place.at = first ∙ e ∙ sym second in
      let both : Some a.old ≡ Some b.old = sym a.place.there ∙ ap (slice_get (variables_once r)) same ∙ b.place.there in
      let old : a.old ≡ b.old = cc in
      sym a.is ∙ ap (λ n. anew n a.old) same ∙ ap (anew b.place.at) old ∙ b.is

  -- the numbers from 0 on, without gaps
  pub renumbered_numbers : AreNumbered (flat_map variables (renumbered r))
  renumbered_numbers = record {
    count = length (variables_once r);
    below = λ v c. (let at = of_new v c in subst (λ n. n < length (variables_once r)) (ap (λ (x : Variable). x.num) at.is) at.place.small);
    all = λ k small. (
        let x = slice_at (variables_once r) k small in
        (anew k x.0, new_has x.0 k x.2 (image_at x.0 k (number_at 0 (variables_once r) k x.0 (once_numbered r) x.1)), refl)
        );
    one = λ v w c d e. one_place v w (of_new v c) (of_new w d) e;
  }

-- a list without repetitions binds each once
free_zip : (k : ℕ) (vs : List Variable) (f : Variable → Term) (x : Variable) → value_of (numbered k vs) x ≡ None → value_of (zip vs (map f vs)) x ≡ None
free_zip k [] f x e = refl
free_zip k (w ∷ ws) f x e =
    elim (same_var w x) as (λ b. cond b (Some (Var (anew k w))) (value_of (numbered (k + 1) ws) x) ≡ None → cond b (Some (f w)) (value_of (zip ws (map f ws)) x) ≡ None) [
      | true ↦ λ d. cc
      | false ↦ λ d. free_zip (k + 1) ws f x d
    ] e

pub once_zip : (k : ℕ) (vs : List Variable) (f : Variable → Term) → BindsOnce (numbered k vs) → BindsOnce (zip vs (map f vs))
once_zip k [] f once = tt
once_zip k (w ∷ ws) f once = (free_zip (k + 1) ws f w once.0, once_zip (k + 1) ws f once.1)

-- Names that stand nowhere twice among the values of fresh parameters stand at one place.
use Rattle.std.proofs.Common.{◌≡◌, ℕ, zero, suc, ⊎_elim, true, false, ◌||◌, List, [], ◌∷◌, ◌++◌, Some, slice_get, nat_eq, refl, ap, sym, ◌∙◌, subst}
use Rattle.std.specs.List.{list_any}
use Rattle.std.proofs.lemmas.Bool.{eqb-true, eq-eqb, or_cases, or_left, or_right, or_parts}
use Rattle.std.proofs.lemmas.List.Folds.{list_any-append}
use Rattle.std.proofs.lemmas.Option.{same_Some, none-some}
use Rattle.npa_term.specs.declared.term.Term.{Term}
use Rattle.npa_term.specs.declared.term.Term.TheVariants.{Name}
use Rattle.npa_sig.specs.declared.protocol.Strand.{Strand}
use Rattle.npa_model.specs.declared.run.Instance.{Instance}
use Rattle.npa_model.specs.Instances.{AreApart, fresh_names, names_among, name_in}
use Rattle.npa_model.specs.Freshness.{fresh_of}

abbrev HasName : ℕ → List ℕ → Type 0
HasName n ns = list_any (nat_eq n) ns ≡ true

left_name : (n : ℕ) (ns ms : List ℕ) → HasName n ns → HasName n (ns ++ ms)
left_name n ns ms h = list_any-append (nat_eq n) ns ms ∙ or_left (list_any (nat_eq n) ns) (list_any (nat_eq n) ms) h

right_name : (n : ℕ) (ns ms : List ℕ) → HasName n ms → HasName n (ns ++ ms)
right_name n ns ms h = list_any-append (nat_eq n) ns ms ∙ or_right (list_any (nat_eq n) ns) (list_any (nat_eq n) ms) h

first_name : (t : Term) (ts : List Term) (n : ℕ) → t ≡ Name n → HasName n (name_in t)
first_name t ts n e = ap (λ (u : Term). list_any (nat_eq n) (name_in u)) e ∙ or_left (nat_eq n n) false (eq-eqb n n refl)

-- a name among terms is among the names of the terms
name_among : (ts : List Term) (k n : ℕ) → slice_get ts k ≡ Some (Name n) → HasName n (names_among ts)
name_among [] k n e = absurd (none-some (Name n) e)
name_among (t ∷ ts) zero n e = left_name n (name_in t) (names_among ts) (first_name t ts n (same_Some t (Name n) e))
name_among (t ∷ ts) (suc k) n e = right_name n (name_in t) (names_among ts) (name_among ts k n e)

never_both : (n : ℕ) (b : List ℕ) → list_any (nat_eq n) b ≡ false → HasName n b → ⊥
never_both n b e f = let both : false ≡ true = sym e ∙ f in cc

-- the names of two lists that are apart are apart, and none stands in both
apart_parts : (ns ms : List ℕ) → AreApart (ns ++ ms) → AreApart ns × AreApart ms × ((n : ℕ) → HasName n ns → HasName n ms → ⊥)
apart_parts [] ms apart = (tt, apart, λ n e f. let never : false ≡ true = e in cc)
apart_parts (m ∷ ns) ms apart =
    let rest = apart_parts ns ms apart.1 in
    let both = or_parts (list_any (nat_eq m) ns) (list_any (nat_eq m) ms) (sym (list_any-append (nat_eq m) ns ms) ∙ apart.0) in (
      (both.0, rest.0),
      rest.1,
      λ n e f. ⊎_elim
          (λ (g : nat_eq n m ≡ true). never_both m ms both.1 (subst (λ (x : ℕ). HasName x ms) (eqb-true n m g) f))
          (λ (g : HasName n ns). rest.2 n g f)
          (or_cases (nat_eq n m) (list_any (nat_eq n) ns) e),
    )

-- a name stands at one place among terms
one_place : (ts : List Term) → AreApart (names_among ts) → (k l n : ℕ) → slice_get ts k ≡ Some (Name n) → slice_get ts l ≡ Some (Name n) → k ≡ l
one_place [] apart k l n e f = absurd (none-some (Name n) e)
one_place (t ∷ ts) apart zero zero n e f = refl
one_place (t ∷ ts) apart zero (suc l) n e f =
    absurd ((apart_parts (name_in t) (names_among ts) apart).2 n (first_name t ts n (same_Some t (Name n) e)) (name_among ts l n f))
one_place (t ∷ ts) apart (suc k) zero n e f =
    absurd ((apart_parts (name_in t) (names_among ts) apart).2 n (first_name t ts n (same_Some t (Name n) f)) (name_among ts k n e))
one_place (t ∷ ts) apart (suc k) (suc l) n e f = ap (λ m. suc m) (one_place ts (apart_parts (name_in t) (names_among ts) apart).1 k l n e f)

module _ (strands : List Strand) where
  first_instance : (x a : Instance) (k n : ℕ) → x ≡ a → slice_get (fresh_of strands a) k ≡ Some (Name n) → slice_get (fresh_of strands x) k ≡ Some (Name n)
  first_instance x a k n s e = ap (λ (y : Instance). slice_get (fresh_of strands y) k) s ∙ e

  -- a name that is the value of a fresh parameter is among these
  fresh_name : (is : List Instance) (i k n : ℕ) (a : Instance) → slice_get is i ≡ Some a → slice_get (fresh_of strands a) k ≡ Some (Name n) → HasName n (fresh_names strands is)
  fresh_name [] i k n a at e = absurd (none-some a at)
  fresh_name (x ∷ is) zero k n a at e =
      left_name n (names_among (fresh_of strands x)) (fresh_names strands is) (name_among (fresh_of strands x) k n (first_instance x a k n (same_Some x a at) e))
  fresh_name (x ∷ is) (suc i) k n a at e = right_name n (names_among (fresh_of strands x)) (fresh_names strands is) (fresh_name is i k n a at e)

  -- a name is the value of one fresh parameter of one instance
  pub names_apart : (is : List Instance) → AreApart (fresh_names strands is) → (i j k l n : ℕ) (a b : Instance) → slice_get is i ≡ Some a → slice_get is j ≡ Some b →
      slice_get (fresh_of strands a) k ≡ Some (Name n) → slice_get (fresh_of strands b) l ≡ Some (Name n) → (i ≡ j) × (k ≡ l)
  names_apart [] apart i j k l n a b at there e f = absurd (none-some a at)
  names_apart (x ∷ is) apart zero zero k l n a b at there e f =
      let parts = apart_parts (names_among (fresh_of strands x)) (fresh_names strands is) apart in
      (refl, one_place (fresh_of strands x) parts.0 k l n (first_instance x a k n (same_Some x a at) e) (first_instance x b l n (same_Some x b there) f))
  names_apart (x ∷ is) apart zero (suc j) k l n a b at there e f =
      let parts = apart_parts (names_among (fresh_of strands x)) (fresh_names strands is) apart in
      absurd (parts.2 n (name_among (fresh_of strands x) k n (first_instance x a k n (same_Some x a at) e)) (fresh_name is j l n b there f))
  names_apart (x ∷ is) apart (suc i) zero k l n a b at there e f =
      let parts = apart_parts (names_among (fresh_of strands x)) (fresh_names strands is) apart in
      absurd (parts.2 n (name_among (fresh_of strands x) l n (first_instance x b l n (same_Some x b there) f)) (fresh_name is i k n a at e))
  names_apart (x ∷ is) apart (suc i) (suc j) k l n a b at there e f =
      let parts = apart_parts (names_among (fresh_of strands x)) (fresh_names strands is) apart in
      let rest = names_apart is parts.1 i j k l n a b at there e f in
      (ap (λ m. suc m) rest.0, rest.1)

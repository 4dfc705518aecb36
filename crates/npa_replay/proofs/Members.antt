-- Members of lists, and lists that are taken apart.
use Rattle.std.proofs.Common.{◌≡◌, ℕ, zero, suc, ◌+◌, ◌<◌, ◌≤◌, ⊎_elim, List, [], ◌∷◌, ◌++◌, refl, ap, sym, ◌∙◌, subst, take, drop, length, get_or, drop-cons, add-one, Contains, inl, inr, min, append-nil, arith}
use Rattle.std.specs.List.{AllZip}
use Rattle.std.specs.Prelude.{◌⊎◌, ◌↔◌, Bool, true, false, not, IsTrue, zip}
use Rattle.std.proofs.lemmas.Bool.{cases_lt}
use Rattle.std.proofs.lemmas.List.{drop_all}
use Rattle.std.proofs.lemmas.List.Elements.{Contains-append_right, Contains-append_cases}
use Rattle.npa_replay.specs.Choices.{AreFree}

pub contains_one : {X : Type 0} (x y : X) → Contains (x ∷ []) y → x ≡ y
contains_one {X} x y h = by h.0 h.1 h.2
  where
    by : (k : ℕ) → k < 1 → get_or (x ∷ []) k y ≡ y → x ≡ y
    by zero l e = e
    by (suc k) l e = absurd (omega (arith, l))

pub contains_cases : {X : Type 0} (x : X) (xs : List X) (y : X) → Contains (x ∷ xs) y → (x ≡ y) ⊎ Contains xs y
contains_cases x xs y h = ⊎_elim (λ one. inl (contains_one x y one)) (λ more. inr more) (Contains-append_cases (x ∷ []) xs y h)

pub contains_head : {X : Type 0} (x : X) (xs : List X) → Contains (x ∷ xs) x
contains_head x xs = (0, omega arith, refl)

pub contains_tail : {X : Type 0} (x : X) (xs : List X) (y : X) → Contains xs y → Contains (x ∷ xs) y
contains_tail x xs y h = Contains-append_right (x ∷ []) xs y h

-- an instance is free where it isn't used
pub free_one : (used : List ℕ) (n : ℕ) → (Contains used n → ⊥) ↔ AreFree used (n ∷ [])
free_one used n = (λ f. record { apart = λ m one was. f (subst (λ (k : ℕ). Contains used k) (sym (contains_one n m one)) was) }, λ f was. f.apart n (contains_head n []) was)

pub free_none : (used : List ℕ) → AreFree used []
free_none used = record { apart = λ n h. absurd (omega (arith, h.1)) }

pub zip_step : {X : Type 0} (ts us : List X) (i : ℕ) (d : X) → i < length ts → i < length us →
    zip (drop i ts) (drop i us) ≡ (get_or ts i d, get_or us i d) ∷ zip (drop (i + 1) ts) (drop (i + 1) us)
zip_step ts us i d l m = rw (drop-cons ts i d, drop-cons us i d, add-one) refl

pub zip_past_left : {X : Type 0} (ts us : List X) (i : ℕ) → length ts ≤ i → zip (drop i ts) (drop i us) ≡ []
zip_past_left ts us i l = ap (λ vs. zip vs (drop i us)) (drop_all i ts l)

zip_nil : {X : Type 0} (ts us : List X) → us ≡ [] → zip ts us ≡ []
zip_nil [] us e = refl
zip_nil (t ∷ ts) [] e = refl
zip_nil (t ∷ ts) (u ∷ us) e = cc

pub zip_past_right : {X : Type 0} (ts us : List X) (i : ℕ) → length us ≤ i → zip (drop i ts) (drop i us) ≡ []
zip_past_right ts us i l = zip_nil (drop i ts) (drop i us) (drop_all i us l)

-- pairs to which those of two lists were added, up to the end of one
pub all_added : {X : Type 0} (ps qs : List (X × X)) (ts us : List X) (i : ℕ) → min (length ts) (length us) ≤ i → ps ++ zip (drop i ts) (drop i us) ≡ qs → ps ≡ qs
all_added ps qs ts us i l e =
    let none : zip (drop i ts) (drop i us) ≡ [] = ⊎_elim
    (λ (long : i < length ts). zip_past_right ts us i (omega (arith, l, long)))
    (λ (short : length ts ≤ i). zip_past_left ts us i short)
    (cases_lt i (length ts)) in
    sym (append-nil ps) ∙ ap (λ zs. ps ++ zs) (sym none) ∙ e

-- whether an instance is free, by a test whether it is used
module _ (b : Bool) (used : List ℕ) (n : ℕ) (ns : List ℕ) (one : ns ≡ n ∷ []) where
  pub free_unless : (Contains used n → IsTrue b) → IsTrue (not b) → AreFree used ns
  free_unless found open_ = subst (λ (ks : List ℕ). AreFree used ks) (sym one) ((free_one used n).0 (λ was. not_both b (found was) open_))
    where
      not_both : (c : Bool) → IsTrue c → IsTrue (not c) → ⊥
      not_both true t f = cc
      not_both false t f = cc

  pub used_unless : (IsTrue b → Contains used n) → not b ≡ false → AreFree used ns → ⊥
  used_unless found closed free = (free_one used n).1 (subst (λ (ks : List ℕ). AreFree used ks) one free) (found (is_true b closed))
    where
      is_true : (c : Bool) → not c ≡ false → IsTrue c
      is_true true e = refl
      is_true false e = cc

-- a member is the same whatever stands for one that isn't there
pub get_same : {X : Type 0} (xs : List X) (i : ℕ) (a b : X) → i < length xs → get_or xs i a ≡ get_or xs i b
get_same [] i a b few = absurd (omega (arith, few))
get_same (x ∷ xs) zero a b few = refl
get_same (x ∷ xs) (suc i) a b few = get_same xs i a b (omega (arith, few))

-- lists related member by member, of two types
pub all_zip_at : {A B : Type 0} (R : A → B → Type 0) (xs : List A) (ys : List B) (i : ℕ) (d : A) (e : B) → AllZip R xs ys → i < length xs → R (get_or xs i d) (get_or ys i e)
all_zip_at R [] ys i d e z l = absurd (omega (arith, l))
all_zip_at R (x ∷ xs) [] i d e z l = absurd z
all_zip_at R (x ∷ xs) (y ∷ ys) zero d e z l = z.0
all_zip_at R (x ∷ xs) (y ∷ ys) (suc i) d e z l = all_zip_at R xs ys i d e z.1 (omega (arith, l))

pub all_zip_length : {A B : Type 0} (R : A → B → Type 0) (xs : List A) (ys : List B) → AllZip R xs ys → length ys ≡ length xs
all_zip_length R [] [] z = refl
all_zip_length R [] (y ∷ ys) z = absurd z
all_zip_length R (x ∷ xs) [] z = absurd z
all_zip_length R (x ∷ xs) (y ∷ ys) z = ap (λ n. suc n) (all_zip_length R xs ys z.1)

pub all_zip_more : {A B : Type 0} (R : A → B → Type 0) (xs : List A) (ys : List B) (i : ℕ) (x : A) (y : B) → i < length xs → x ≡ get_or xs i x → AllZip R (take i xs) ys → R x y → AllZip R (take (i + 1) xs) (ys ++ y ∷ [])
all_zip_more {A = A} {B = B} R xs ys i x y l e z r = subst (λ n. AllZip R (take n xs) (ys ++ y ∷ [])) next (by xs ys i l e z)
  where
    next : suc i ≡ i + 1
    next = omega arith

    by : (xs : List A) (ys : List B) (i : ℕ) → i < length xs → x ≡ get_or xs i x → AllZip R (take i xs) ys → AllZip R (take (suc i) xs) (ys ++ y ∷ [])
    by [] ys i l e z = absurd (omega (arith, l))
    by (w ∷ xs) [] zero l e z = (subst (λ v. R v y) e r, tt)
    by (w ∷ xs) (v ∷ ys) zero l e z = absurd z
    by (w ∷ xs) [] (suc i) l e z = absurd z
    by (w ∷ xs) (v ∷ ys) (suc i) l e z = (z.0, by xs ys i (omega (arith, l)) e z.1)

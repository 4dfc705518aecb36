-- Members of lists that are made of others, and lists of terms that are equal place by place.
use Rattle.std.proofs.Common.{◌≡◌, ◌⊎◌, ℕ, zero, suc, Bool, true, false, cond, not, ◌||◌, List, [], ◌∷◌, ◌++◌, length, map, take, drop, inl, inr, refl, sym, ◌∙◌, ap, subst, arith}
use Rattle.std.specs.Prelude.{Contains, filter}
use Rattle.std.specs.List.{flat_map, list_any}
use Rattle.std.proofs.lemmas.Bool.{or_left, or_right}
use Rattle.std.proofs.lemmas.List.Elements.{Contains-append_left, Contains-append_right, Contains-append_cases}
use Rattle.npa_term.specs.declared.term.Var.{Var as Variable}
use Rattle.npa_term.specs.declared.term.Term.{Term}
use Rattle.npa_term.specs.Same.{Same, SameAll, nothing, first}
use Rattle.npa_term.specs.Variables.{variables}
use Rattle.npa_rewrite.proofs.Instances.{same_variables}
use Rattle.npa_rewrite.proofs.InstanceParts.{here, behind, member_cases}

pub none_there : {X : Type 0} (x : X) → Contains [] x → ⊥
none_there x c = omega (arith, c.1)

pub mapped_member : {X Y : Type 0} (f : X → Y) (xs : List X) (x : X) → Contains xs x → Contains (map f xs) (f x)
mapped_member f [] x c = absurd (none_there x c)
mapped_member f (y ∷ ys) x c =
    elim (member_cases y x ys c) [
      | inl e ↦ subst (λ w. Contains (f y ∷ map f ys) (f w)) e (here (f y) (map f ys))
      | inr d ↦ behind (f y) (f x) (map f ys) (mapped_member f ys x d)
    ]

pub of_mapped : {X Y : Type 0} (f : X → Y) (xs : List X) (y : Y) → Contains (map f xs) y → (x : X) × Contains xs x × (y ≡ f x)
of_mapped f [] y c = absurd (none_there y c)
of_mapped f (x ∷ xs) y c =
    elim (member_cases (f x) y (map f xs) c) [
      | inl e ↦ (x, here x xs, sym e)
      | inr d ↦ let rest = of_mapped f xs y d in (rest.0, behind x rest.0 xs rest.1, rest.2)
    ]

pub flat_member : {X Y : Type 0} (f : X → List Y) (xs : List X) (x : X) (y : Y) → Contains xs x → Contains (f x) y → Contains (flat_map f xs) y
flat_member f [] x y c d = absurd (none_there x c)
flat_member f (z ∷ zs) x y c d =
    elim (member_cases z x zs c) [
      | inl e ↦ Contains-append_left (f z) (flat_map f zs) y (subst (λ w. Contains (f w) y) (sym e) d)
      | inr b ↦ Contains-append_right (f z) (flat_map f zs) y (flat_member f zs x y b d)
    ]

pub of_flat : {X Y : Type 0} (f : X → List Y) (xs : List X) (y : Y) → Contains (flat_map f xs) y → (x : X) × Contains xs x × Contains (f x) y
of_flat f [] y c = absurd (none_there y c)
of_flat f (x ∷ xs) y c =
    elim (Contains-append_cases (f x) (flat_map f xs) y c) [
      | inl d ↦ (x, here x xs, d)
      | inr d ↦ let rest = of_flat f xs y d in (rest.0, behind x rest.0 xs rest.1, rest.2)
    ]

-- where a test passes, and where it doesn't
pub cond_true : {S : Type 0} (b : Bool) (x y : S) → b ≡ true → cond b x y ≡ x
cond_true b x y e = ap (λ c. cond c x y) e

pub cond_false : {S : Type 0} (b : Bool) (x y : S) → b ≡ false → cond b x y ≡ y
cond_false b x y e = ap (λ c. cond c x y) e

pub filtered_member : {X : Type 0} (p : X → Bool) (xs : List X) (x : X) → Contains xs x → p x ≡ true → Contains (filter p xs) x
filtered_member p [] x c e = absurd (none_there x c)
filtered_member p (y ∷ ys) x c e =
    elim (member_cases y x ys c) [
      | inl s ↦ subst (λ l. Contains l x) (sym (cond_true (p y) (y ∷ filter p ys) (filter p ys) (ap p s ∙ e))) (subst (Contains (y ∷ filter p ys)) s (here y (filter p ys)))
      | inr d ↦
          elim (p y) as (λ b. Contains (cond b (y ∷ filter p ys) (filter p ys)) x)
          [ true ↦ behind y x (filter p ys) (filtered_member p ys x d e) | false ↦ filtered_member p ys x d e ]
    ]

pub of_filtered : {X : Type 0} (p : X → Bool) (xs : List X) (x : X) → Contains (filter p xs) x → Contains xs x × (p x ≡ true)
of_filtered p [] x c = absurd (none_there x c)
of_filtered p (y ∷ ys) x c =
    elim (p y) as (λ b. p y ≡ b → Contains (cond b (y ∷ filter p ys) (filter p ys)) x → Contains (y ∷ ys) x × (p x ≡ true)) [
      | true ↦ λ e d. elim (member_cases y x (filter p ys) d) [
        | inl s ↦ (subst (Contains (y ∷ ys)) s (here y ys), sym (ap p s) ∙ e)
        | inr f ↦ let rest = of_filtered p ys x f in (behind y x ys rest.0, rest.1)
      ]
      | false ↦ λ e d. let rest = of_filtered p ys x d in (behind y x ys rest.0, rest.1)
    ] refl c

pub any_of : {X : Type 0} (p : X → Bool) (xs : List X) → list_any p xs ≡ true → (x : X) × Contains xs x × (p x ≡ true)
any_of p [] e = cc
any_of p (y ∷ ys) e =
    elim (p y) as (λ b. p y ≡ b → (b || list_any p ys) ≡ true → (x : _) × Contains (y ∷ ys) x × (p x ≡ true)) [
      | true ↦ λ is d. (y, here y ys, is)
      | false ↦ λ is d. let rest = any_of p ys d in (rest.0, behind y rest.0 ys rest.1, rest.2)
    ] refl e

pub any_member : {X : Type 0} (p : X → Bool) (xs : List X) (x : X) → Contains xs x → p x ≡ true → list_any p xs ≡ true
any_member p [] x c e = absurd (none_there x c)
any_member p (y ∷ ys) x c e =
    elim (member_cases y x ys c) [
      | inl s ↦ or_left (p y) (list_any p ys) (ap p s ∙ e)
      | inr d ↦ or_right (p y) (list_any p ys) (any_member p ys x d e)
    ]

pub of_taken : {X : Type 0} (m : ℕ) (xs : List X) (x : X) → Contains (take m xs) x → Contains xs x
of_taken zero xs x c = absurd (none_there x c)
of_taken (suc m) [] x c = c
of_taken (suc m) (y ∷ ys) x c =
    elim (member_cases y x (take m ys) c) [
      | inl s ↦ subst (Contains (y ∷ ys)) s (here y ys)
      | inr d ↦ behind y x ys (of_taken m ys x d)
    ]

pub of_dropped : {X : Type 0} (m : ℕ) (xs : List X) (x : X) → Contains (drop m xs) x → Contains xs x
of_dropped zero xs x c = c
of_dropped (suc m) [] x c = c
of_dropped (suc m) (y ∷ ys) x c = behind y x ys (of_dropped m ys x c)

pub taken_or_dropped : {X : Type 0} (m : ℕ) (xs : List X) (x : X) → Contains xs x → Contains (take m xs) x ⊎ Contains (drop m xs) x
taken_or_dropped zero xs x c = inr c
taken_or_dropped (suc m) [] x c = inl c
taken_or_dropped (suc m) (y ∷ ys) x c =
    elim (member_cases y x ys c) [
      | inl s ↦ inl (subst (Contains (y ∷ take m ys)) s (here y (take m ys)))
      | inr d ↦ elim (taken_or_dropped m ys x d) [ inl t ↦ inl (behind y x (take m ys) t) | inr f ↦ inr f ]
    ]

-- lists that are equal place by place

pub same_all_take : (m : ℕ) {ts us : List Term} → SameAll ts us → SameAll (take m ts) (take m us)
same_all_take zero p = nothing
same_all_take (suc m) nothing = nothing
same_all_take (suc m) (first t u ts us p q) = first t u (take m ts) (take m us) p (same_all_take m q)

pub same_all_drop : (m : ℕ) {ts us : List Term} → SameAll ts us → SameAll (drop m ts) (drop m us)
same_all_drop zero p = p
same_all_drop (suc m) nothing = nothing
same_all_drop (suc m) (first t u ts us p q) = same_all_drop m q

pub same_all_length : {ts us : List Term} → SameAll ts us → length ts ≡ length us
same_all_length nothing = refl
same_all_length (first t u ts us p q) = ap suc (same_all_length q)

-- each member of the first list has its equal in the second
pub same_all_member : {ts us : List Term} → SameAll ts us → (t : Term) → Contains ts t → (u : Term) × Contains us u × Same t u
same_all_member nothing t c = absurd (none_there t c)
same_all_member (first t u ts us p q) x c =
    elim (member_cases t x ts c) [
      | inl s ↦ (u, here u us, subst (λ w. Same w u) s p)
      | inr d ↦ let rest = same_all_member q x d in (rest.0, behind u rest.0 us rest.1, rest.2)
    ]

pub same_all_variables : {ts us : List Term} → SameAll ts us → (v : Variable) → Contains (flat_map variables ts) v → Contains (flat_map variables us) v
same_all_variables {ts} {us} p v c =
    let of = of_flat variables ts v c in
    let other = same_all_member p of.0 of.1 in
    flat_member variables us other.0 v other.1 (same_variables other.2 v of.2)

pub taken_map : {X Y : Type 0} (f : X → Y) (m : ℕ) (xs : List X) → take m (map f xs) ≡ map f (take m xs)
taken_map f zero xs = refl
taken_map f (suc m) [] = refl
taken_map f (suc m) (x ∷ xs) = ap (λ ys. f x ∷ ys) (taken_map f m xs)

pub dropped_map : {X Y : Type 0} (f : X → Y) (m : ℕ) (xs : List X) → drop m (map f xs) ≡ map f (drop m xs)
dropped_map f zero xs = refl
dropped_map f (suc m) [] = refl
dropped_map f (suc m) (x ∷ xs) = dropped_map f m xs

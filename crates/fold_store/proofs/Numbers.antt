-- The lists of numbers that stand for entries: what a walk over them finds.
use Rattle.std.proofs.Common.{◌≡◌, ℕ, zero, suc, ◌+◌, ◌<◌, Bool, true, false, ◌&&◌, cond, List, [], ◌∷◌, ◌++◌, length, map, set, take, drop, get_or, Some, slice_get, refl, ap, sym, ◌∙◌, subst, arith, drop-cons, add-one, append_assoc, length-append}
use Rattle.std.specs.List.{filter, position_from}
use Rattle.fold_store.specs.Table.{numbers_where, passes, first_passing, retired_by, retire_option, retire_each}
use Rattle.fold_core.specs.Machine.{Entry, Stands}

drop_next : {X : Type 0} (xs : List X) (k : ℕ) (d : X) → k < length xs → drop k xs ≡ get_or xs k d ∷ drop (k + 1) xs
drop_next xs k d h = drop-cons xs k d h ∙ ap (λ n. get_or xs k d ∷ drop n xs) (sym (add-one k))

-- A walk that has passed number k goes on behind it, or ends there.
pub first_step : (p : ℕ → Bool) (ns : List ℕ) (k d : ℕ) → k < length ns → p (get_or ns k d) ≡ false → first_passing p (drop (k + 1) ns) ≡ first_passing p (drop k ns)
first_step p ns k d h fails =
    let e = drop_next ns k d h in
    ap (λ b. cond b (Some (get_or ns k d)) (first_passing p (drop (k + 1) ns))) (sym fails) ∙ ap (first_passing p) (sym e)

pub first_hit : (p : ℕ → Bool) (ns : List ℕ) (k d : ℕ) → k < length ns → p (get_or ns k d) ≡ true → first_passing p (drop k ns) ≡ Some (get_or ns k d)
first_hit p ns k d h hit =
    let e = drop_next ns k d h in
    ap (first_passing p) e ∙ ap (λ b. cond b (Some (get_or ns k d)) (first_passing p (drop (k + 1) ns))) hit

pub ruleset first_steps = (first_step, first_hit)

pub retire_next : {I : Type 0} (to tick : ℕ) (ns : List ℕ) (k d : ℕ) (es : List (Entry I)) → k < length ns
    → retire_each to tick (drop (k + 1) ns) (retire_option to tick (get_or ns k d) es (slice_get es (get_or ns k d))) ≡ retire_each to tick (drop k ns) es
retire_next to tick ns k d es h = ap (λ w. retire_each to tick w es) (sym (drop_next ns k d h))

pub stands_at : {X : Type 0} (xs : List X) (k : ℕ) → k < length xs → (x : X) × Stands xs k x
stands_at [] k h = absurd (omega arith)
stands_at (x ∷ xs) zero h = (x, record { is = refl })
stands_at (x ∷ xs) (suc k) h = let rest = stands_at xs k (omega arith) in (rest.0, record { is = rest.1.is })

pub stands_get : {X : Type 0} (xs : List X) (k : ℕ) (x d : X) → k < length xs → x ≡ get_or xs k d → Stands xs k x
stands_get [] k x d h is = absurd (omega arith)
stands_get (z ∷ xs) zero x d h is = record { is = ap (λ w. Some w) (sym is) }
stands_get (z ∷ xs) (suc k) x d h is = let rest = stands_get xs k x d (omega arith) is in record { is = rest.is }

put_back_at : {X : Type 0} (f : X → X) (xs : List X) (k : ℕ) (e : X) → slice_get xs k ≡ Some e
    → (slice_get (map f (take k xs) ++ drop k xs) k ≡ Some e) × (set (map f (take k xs) ++ drop k xs) k (f e) ≡ map f (take (suc k) xs) ++ drop (suc k) xs)
put_back_at f [] k e s = absurd (cc)
put_back_at f (x ∷ xs) zero e s = let same : x ≡ e = cc in (s, ap (λ w. f w ∷ xs) (sym same))
put_back_at f (x ∷ xs) (suc k) e s = let rest = put_back_at f xs k e s in (rest.0, ap (λ w. f x ∷ w) rest.1)

-- One more element is turned.
pub turned_next : {X : Type 0} (f : X → X) (xs ys zs : List X) (k : ℕ) → k < length xs → ys ≡ map f (take k xs) ++ drop k xs
    → ((e : X) → Stands ys k e → zs ≡ set ys k (f e)) → zs ≡ map f (take (k + 1) xs) ++ drop (k + 1) xs
turned_next f xs ys zs k h is turned =
    let there = stands_at xs k h in
    let at = put_back_at f xs k there.0 there.1.is in
    let now = subst (λ w. (e : _) → Stands w k e → zs ≡ set w k (f e)) is turned in
    let suc_is : suc k ≡ k + 1 = omega arith in
    now there.0 (record { is = at.0 }) ∙ at.1 ∙ ap (λ n. map f (take n xs) ++ drop n xs) suc_is

at_front : {X : Type 0} (front : List X) (e : X) (back : List X) → slice_get (front ++ e ∷ back) (length front) ≡ Some e
at_front [] e back = refl
at_front (z ∷ front) e back = at_front front e back

set_front : {X : Type 0} (front : List X) (e f : X) (back : List X) → set (front ++ e ∷ back) (length front) f ≡ front ++ f ∷ back
set_front [] e f back = refl
set_front (z ∷ front) e f back = ap (λ w. z ∷ w) (set_front front e f back)

next_front : {X : Type 0} (front : List X) (e : X) (n : ℕ) → n ≡ length front → n + 1 ≡ length (front ++ e ∷ [])
next_front front e n is = let h = length-append front (e ∷ []) in omega arith

one_more : {X : Type 0} (front : List X) (e : X) (back : List X) → (front ++ e ∷ []) ++ back ≡ front ++ e ∷ back
one_more front e back = append_assoc front (e ∷ []) back

-- Of the numbers that pass one test, those whose entries pass another.
filter_from : {I : Type 0} (p q : Entry I → Bool) (t : ℕ → Bool) (front back : List (Entry I)) (n : ℕ) → n ≡ length front
    → ((k : ℕ) (e : Entry I) → Stands (front ++ back) k e → t k ≡ q e)
    → filter t (numbers_where p n back) ≡ numbers_where (λ e. p e && q e) n back
filter_from p q t front [] n is agrees = refl
filter_from p q t front (e ∷ back) n is agrees =
    let more = numbers_where p (n + 1) back in
    let rest : filter t more ≡ numbers_where (λ w. p w && q w) (n + 1) back =
    filter_from p q t (front ++ e ∷ []) back (n + 1) (next_front front e n is)
    (λ k w s. agrees k w (subst (λ v. Stands v k w) (one_more front e back) s)) in
    let here : t n ≡ q e = agrees n e (record { is = ap (slice_get (front ++ e ∷ back)) is ∙ at_front front e back }) in
    elim (p e) as (λ b. filter t (cond b (n ∷ more) more) ≡ cond (b && q e) (n ∷ numbers_where (λ w. p w && q w) (n + 1) back) (numbers_where (λ w. p w && q w) (n + 1) back)) [
      | true ↦ ap (λ b. cond b (n ∷ filter t more) (filter t more)) here ∙ ap (λ ns. cond (q e) (n ∷ ns) ns) rest
      | false ↦ rest
    ]

pub filter_numbers : {I : Type 0} (p q : Entry I → Bool) (t : ℕ → Bool) (es : List (Entry I)) → ((k : ℕ) (e : Entry I) → Stands es k e → t k ≡ q e)
    → filter t (numbers_where p 0 es) ≡ numbers_where (λ e. p e && q e) 0 es
filter_numbers p q t es agrees = filter_from p q t [] es 0 refl agrees

-- The first of them.
first_from : {I : Type 0} (p q : Entry I → Bool) (front back : List (Entry I)) (n : ℕ) → n ≡ length front
    → first_passing (λ m. passes q (slice_get (front ++ back) m)) (numbers_where p n back) ≡ position_from (λ e. p e && q e) n back
first_from p q front [] n is = refl
first_from p q front (e ∷ back) n is =
    let test = λ (w : List (Entry _)) (m : ℕ). passes q (slice_get w m) in
    let es = front ++ e ∷ back in
    let more = numbers_where p (n + 1) back in
    let rest : first_passing (test es) more ≡ position_from (λ w. p w && q w) (n + 1) back =
    subst (λ w. first_passing (test w) more ≡ position_from (λ v. p v && q v) (n + 1) back) (one_more front e back)
    (first_from p q (front ++ e ∷ []) back (n + 1) (next_front front e n is)) in
    let here : test es n ≡ q e = ap (λ m. passes q (slice_get es m)) is ∙ ap (passes q) (at_front front e back) in
    elim (p e) as (λ b. first_passing (test es) (cond b (n ∷ more) more) ≡ cond (b && q e) (Some n) (position_from (λ w. p w && q w) (n + 1) back)) [
      | true ↦ ap (λ b. cond b (Some n) (first_passing (test es) more)) here ∙ ap (λ o. cond (q e) (Some n) o) rest
      | false ↦ rest
    ]

pub first_numbers : {I : Type 0} (p q : Entry I → Bool) (es : List (Entry I))
    → first_passing (λ m. passes q (slice_get es m)) (numbers_where p 0 es) ≡ position_from (λ e. p e && q e) 0 es
first_numbers p q es = first_from p q [] es 0 refl

-- To retire the entries that pass a test, one by one, is to retire them all at once.
retire_from : {I : Type 0} (p : Entry I → Bool) (to tick : ℕ) (front back tail : List (Entry I)) (n : ℕ) → n ≡ length front
    → retire_each to tick (numbers_where p n back) (front ++ (back ++ tail)) ≡ front ++ (map (λ e. cond (p e) (retired_by to tick e) e) back ++ tail)
retire_from p to tick front [] tail n is = refl
retire_from p to tick front (e ∷ back) tail n is =
    let g = λ (w : Entry _). cond (p w) (retired_by to tick w) w in
    let es = front ++ e ∷ (back ++ tail) in
    let more = numbers_where p (n + 1) back in
    elim (p e) as (λ b. retire_each to tick (cond b (n ∷ more) more) es ≡ front ++ (cond b (retired_by to tick e) e ∷ (map g back ++ tail))) [
      | true ↦
          let here : slice_get es n ≡ Some e = ap (slice_get es) is ∙ at_front front e (back ++ tail) in
          let now : retire_option to tick n es (slice_get es n) ≡ front ++ retired_by to tick e ∷ (back ++ tail) =
          ap (retire_option to tick n es) here ∙ ap (λ m. set es m (retired_by to tick e)) is ∙ set_front front e (retired_by to tick e) (back ++ tail) in
          ap (retire_each to tick more) (now ∙ sym (one_more front (retired_by to tick e) (back ++ tail)))
          ∙ retire_from p to tick (front ++ retired_by to tick e ∷ []) back tail (n + 1) (next_front front (retired_by to tick e) n is)
          ∙ one_more front (retired_by to tick e) (map g back ++ tail)
      | false ↦
          ap (retire_each to tick more) (sym (one_more front e (back ++ tail)))
          ∙ retire_from p to tick (front ++ e ∷ []) back tail (n + 1) (next_front front e n is)
          ∙ one_more front e (map g back ++ tail)
    ]

pub retire_numbers : {I : Type 0} (p : Entry I → Bool) (to tick : ℕ) (es tail : List (Entry I))
    → retire_each to tick (numbers_where p 0 es) (es ++ tail) ≡ map (λ e. cond (p e) (retired_by to tick e) e) es ++ tail
retire_numbers p to tick es tail = retire_from p to tick [] es tail 0 refl

pub numbers_append : {I : Type 0} (p : Entry I → Bool) (n : ℕ) (es : List (Entry I)) (w : Entry I) → p w ≡ true
    → numbers_where p n (es ++ w ∷ []) ≡ numbers_where p n es ++ (n + length es) ∷ []
numbers_append p n [] w hit = let e : n ≡ n + 0 = omega arith in ap (λ b. cond b (n ∷ []) []) hit ∙ ap (λ k. k ∷ []) e
numbers_append p n (e ∷ es) w hit =
    let move : n + 1 + length es ≡ n + suc (length es) = omega arith in
    let rest = numbers_append p (n + 1) es w hit ∙ ap (λ k. numbers_where p (n + 1) es ++ k ∷ []) move in
    elim (p e) as (λ b. cond b (n ∷ numbers_where p (n + 1) (es ++ w ∷ [])) (numbers_where p (n + 1) (es ++ w ∷ []))
    ≡ cond b (n ∷ numbers_where p (n + 1) es) (numbers_where p (n + 1) es) ++ (n + suc (length es)) ∷ []) [
      | true ↦ ap (λ ns. n ∷ ns) rest
      | false ↦ rest
    ]

pub numbers_map : {I : Type 0} (p q : Entry I → Bool) (g : Entry I → Entry I) → ((e : Entry I) → p (g e) ≡ q e) → (n : ℕ) (es : List (Entry I))
    → numbers_where p n (map g es) ≡ numbers_where q n es
numbers_map p q g same n [] = refl
numbers_map p q g same n (e ∷ es) =
    let rest = numbers_map p q g same (n + 1) es in
    ap (λ b. cond b (n ∷ numbers_where p (n + 1) (map g es)) (numbers_where p (n + 1) (map g es))) (same e) ∙ ap (λ ns. cond (q e) (n ∷ ns) ns) rest

pub numbers_same : {I : Type 0} (p q : Entry I → Bool) → ((e : Entry I) → p e ≡ q e) → (n : ℕ) (es : List (Entry I))
    → numbers_where p n es ≡ numbers_where q n es
numbers_same p q same n [] = refl
numbers_same p q same n (e ∷ es) =
    let rest = numbers_same p q same (n + 1) es in
    ap (λ b. cond b (n ∷ numbers_where p (n + 1) es) (numbers_where p (n + 1) es)) (same e) ∙ ap (λ ns. cond (q e) (n ∷ ns) ns) rest

-- An entry is changed, and passes as before.
pub numbers_set : {I : Type 0} (p : Entry I → Bool) (n : ℕ) (es : List (Entry I)) (k : ℕ) (e f : Entry I) → Stands es k e → p f ≡ p e
    → numbers_where p n (set es k f) ≡ numbers_where p n es
numbers_set p n [] k e f s same = refl
numbers_set p n (d ∷ es) zero e f s same =
    let is = s.is in
    let here : d ≡ e = cc in
    ap (λ b. cond b (n ∷ numbers_where p (n + 1) es) (numbers_where p (n + 1) es)) (same ∙ ap p (sym here))
numbers_set p n (d ∷ es) (suc k) e f s same =
    ap (λ ns. cond (p d) (n ∷ ns) ns) (numbers_set p (n + 1) es k e f (record { is = s.is }) same)

pub take_stands : {X : Type 0} (xs : List X) (k : ℕ) (x : X) → Stands xs k x → take (suc k) xs ≡ take k xs ++ x ∷ []
take_stands [] k x s = absurd (let q = s.is in cc)
take_stands (y ∷ xs) zero x s = let q = s.is in let same : y ≡ x = cc in ap (λ w. w ∷ []) same
take_stands (y ∷ xs) (suc k) x s = ap (λ w. y ∷ w) (take_stands xs k x (record { is = s.is }))

-- The list whose elements are those of another, turned.
pub map_by : {X : Type 0} (f : X → X) (xs ys : List X) → length ys ≡ length xs → ((n : ℕ) (x : X) → Stands xs n x → Stands ys n (f x)) → ys ≡ map f xs
map_by f [] [] many at = refl
map_by f [] (y ∷ ys) many at = absurd (omega arith)
map_by f (x ∷ xs) [] many at = absurd (omega arith)
map_by f (x ∷ xs) (y ∷ ys) many at =
    let first = at 0 x (record { is = refl }) in
    let is = first.is in
    let head : y ≡ f x = cc in
    ap (λ w. w ∷ ys) head ∙ ap (λ ws. f x ∷ ws) (map_by f xs ys (omega arith) (λ n z s. (let there = at (suc n) z (record { is = s.is }) in record { is = there.is })))

-- The number of an entry that passes is in the list.
pub numbers_has : {I : Type 0} (p : Entry I → Bool) (n : ℕ) (es : List (Entry I)) (j : ℕ) (e : Entry I) → Stands es j e → p e ≡ true → (k : ℕ) × Stands (numbers_where p n es) k (n + j)
numbers_has p n [] j e s passed = absurd (let q = s.is in cc)
numbers_has p n (d ∷ es) zero e s passed =
    let is = s.is in
    let here : d ≡ e = cc in
    let hit : p d ≡ true = ap p here ∙ passed in
    let at : n ≡ n + 0 = omega arith in
    let more = numbers_where p (n + 1) es in
    (0, subst (λ b. Stands (cond b (n ∷ more) more) 0 (n + 0)) (sym hit) (record { is = ap (λ m. Some m) at }))
numbers_has p n (d ∷ es) (suc j) e s passed =
    let more = numbers_where p (n + 1) es in
    let rest = numbers_has p (n + 1) es j e (record { is = s.is }) passed in
    let at : n + 1 + j ≡ n + suc j = omega arith in
    let there : Stands more rest.0 (n + suc j) = subst (λ m. Stands more rest.0 m) at rest.1 in
    elim (p d) as (λ b. (k : ℕ) × Stands (cond b (n ∷ more) more) k (n + suc j)) [
      | true ↦ (suc rest.0, record { is = there.is })
      | false ↦ (rest.0, there)
    ]

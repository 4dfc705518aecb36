-- The order with one more sort, and its table.
use Rattle.std.proofs.Common.{◌≡◌, ℕ, zero, suc, ◌+◌, ◌<◌, ◌≤◌, Bool, true, false, nat_eq, ◌||◌, ◌&&◌, List, [], ◌∷◌, ◌++◌, map, length, length-append, get_or, set, refl, sym, ◌∙◌, ap, subst, inl, inr, arith}
use Rattle.std.specs.Prelude.{◌↔◌, ◌⊎◌, cond, Some, None, position}
use Rattle.std.proofs.lemmas.Bool.{cases_eq, or_from, ne_eqb, cond-false}
use Rattle.std.proofs.lemmas.List.Elements.{All-push}
use Rattle.std.proofs.lemmas.Iterator.Adapters.{position_from-zero}
use Rattle.std.specs.List.{position_from}
use Rattle.std.proofs.lemmas.List.{length-map, get_or-map, get_or_append_left, get_or-append-add, get_or-set_same, get_or-set_other, length-set}
use Rattle.std.specs.declared.vec.Vec.{Vec}
use Rattle.std.specs.declared.alloc.Global.{Global}
use Rattle.npa_sorts.specs.Subsorts.{Subsorts, subsorts, IsSort, IsStep, pair, to_msg, IsBelow, step, climb, IsAtOrBelow, AreSorts, names_fresh, at_or_below}
use Rattle.npa_sorts.specs.Table.{rows_of, with_pair, with_sort, grown_rows, entry, IsSquare, IsTable, IsOrder}
use Rattle.npa_sorts.proofs.Steps.{below_bare, below_cases, below_at_or_below, below_lower, at_or_below_trans}
use Rattle.npa_sorts.proofs.Climbs.{below_along, at_or_below_along, below_upper, step_upper, decides}
use Rattle.npa_sorts.proofs.TableLemmas.{length-rows_of, added}

-- the order with one more sort

step_old : {o : Subsorts} {x y : ℕ} → IsStep o x y → IsStep (with_sort o) x y
step_old (pair x y c) = pair x y c
step_old (to_msg x low high) = to_msg x low (omega (arith, high))

step_cases : {o : Subsorts} {s t : ℕ} → IsStep (with_sort o) s t → IsStep o s t ⊎ ((s ≡ o.declared + 2) × (t ≡ 0))
step_cases (pair s t c) = inl (pair s t c)
step_cases {o} (to_msg s low high) =
    elim (cases_eq s (o.declared + 2)) [
      | inl e ↦ inr (e, refl)
      | inr other ↦ inl (to_msg s low (omega (arith, high, other)))
    ]

-- what is strictly below was so before, or it is the new sort
below_sort_cases : {o : Subsorts} {s t : ℕ} → AreSorts o → IsBelow (with_sort o) s t → IsBelow o s t ⊎ ((s ≡ o.declared + 2) × IsAtOrBelow o 0 t)
below_sort_cases sorts (step s t p) =
    elim (step_cases p) [ inl q ↦ inl (step s t q) | inr new ↦ inr (new.0, inl (sym new.1)) ]
below_sort_cases {o} sorts (climb s t u p r) =
    elim (step_cases p) [
      | inl q ↦ elim (below_sort_cases sorts r) [
        | inl below ↦ inl (climb s t u q below)
        | inr new ↦ let high : IsSort o t = step_upper sorts q in absurd (let no : ⊥ = omega (arith, high, new.0) in no)
      ]
      | inr new ↦ elim (below_sort_cases sorts r) [
        | inl below ↦ inr (new.0, inr (subst (λ x. IsBelow o x u) new.1 below))
        | inr again ↦ absurd (let no : ⊥ = omega (arith, new.1, again.0) in no)
      ]
    ]

new_below : {o : Subsorts} {t : ℕ} → IsAtOrBelow o 0 t → IsBelow (with_sort o) (o.declared + 2) t
new_below {o} up =
    let first : IsBelow (with_sort o) (o.declared + 2) 0 = step (o.declared + 2) 0 (to_msg (o.declared + 2) (omega arith) (omega arith)) in
    below_at_or_below first (at_or_below_along (λ x y. step_old) up)

-- entries of the grown rows

entry_longer : (row : List Bool) (t : ℕ) → get_or (row ++ false ∷ []) t false ≡ get_or row t false
entry_longer [] zero = refl
entry_longer [] (suc t) = refl
entry_longer (b ∷ row) zero = refl
entry_longer (b ∷ row) (suc t) = entry_longer row t

entry_old : (rows : List (List Bool)) (s t : ℕ) → s < length rows → entry (grown_rows rows) s t ≡ entry rows s t
entry_old rows s t small =
    let longer : List (List Bool) = map (λ row. row ++ false ∷ []) rows in
    let long : length longer ≡ length rows = length-map rows (λ row. row ++ false ∷ []) in
    ap (λ row. get_or row t false) (get_or_append_left longer ((set (get_or rows 0 []) 0 true ++ false ∷ []) ∷ []) [] s (omega (arith, small, long)) ∙ get_or-map (λ row. row ++ false ∷ []) rows s [] [] small)
    ∙ entry_longer (get_or rows s []) t

row_new : (rows : List (List Bool)) → get_or (grown_rows rows) (length rows) [] ≡ set (get_or rows 0 []) 0 true ++ false ∷ []
row_new rows =
    let longer : List (List Bool) = map (λ row. row ++ false ∷ []) rows in
    let last : List (List Bool) = (set (get_or rows 0 []) 0 true ++ false ∷ []) ∷ [] in
    let at : length rows ≡ length longer + 0 = omega (arith, length-map rows (λ row. row ++ false ∷ [])) in
    ap (λ n. get_or (longer ++ last) n []) at ∙ get_or-append-add longer last 0 []

entry_new : (rows : List (List Bool)) (t : ℕ) → entry (grown_rows rows) (length rows) t ≡ get_or (set (get_or rows 0 []) 0 true) t false
entry_new rows t = ap (λ row. get_or row t false) (row_new rows) ∙ entry_longer (set (get_or rows 0 []) 0 true) t

grown_square : (n : ℕ) (rows : List (List Bool)) → 0 < n → IsSquare n rows → IsSquare (n + 1) (grown_rows rows)
grown_square n rows some square =
    let longer : List (List Bool) = map (λ row. row ++ false ∷ []) rows in
    let long : length longer ≡ length rows = length-map rows (λ row. row ++ false ∷ []) in
    record {
      height = omega (arith, length-append longer ((set (get_or rows 0 []) 0 true ++ false ∷ []) ∷ []), long, square.height);
      width = λ s small. elim (cases_eq s (length rows)) [
        | inl e ↦
            let whole : length (get_or (grown_rows rows) s []) ≡ length (set (get_or rows 0 []) 0 true ++ false ∷ []) =
            ap (λ k. length (get_or (grown_rows rows) k [])) e ∙ ap length (row_new rows) in
            omega (arith, whole, length-append (set (get_or rows 0 []) 0 true) (false ∷ []), length-set (get_or rows 0 []) 0 true, square.width 0 some)
        | inr other ↦
            let low : s < length rows = omega (arith, small, other, square.height) in
            let row : get_or (grown_rows rows) s [] ≡ get_or rows s [] ++ false ∷ [] =
            get_or_append_left longer ((set (get_or rows 0 []) 0 true ++ false ∷ []) ∷ []) [] s (omega (arith, low, long)) ∙ get_or-map (λ r. r ++ false ∷ []) rows s [] [] low in
            omega (arith, ap length row, length-append (get_or rows s []) (false ∷ []), square.width s (omega (arith, low, square.height)))
      ];
    }

-- what is marked in the row of the new sort: what is at or above `Msg`
new_marks : {o : Subsorts} (rows : List (List Bool)) (t : ℕ) → IsTable o rows → IsSort o t → (get_or (set (get_or rows 0 []) 0 true) t false ≡ true) ↔ IsAtOrBelow o 0 t
new_marks {o} rows t table high =
    let row : List Bool = get_or rows 0 [] in
    let long : length (get_or rows 0 []) ≡ o.declared + 2 = table.square.width 0 (omega arith) in
    elim (cases_eq t 0) [
      | inl e ↦
          let same : get_or (set (get_or rows 0 []) 0 true) t false ≡ true =
          ap (λ k. get_or (set (get_or rows 0 []) 0 true) k false) e ∙ get_or-set_same (get_or rows 0 []) 0 true false (omega (arith, long)) in
          (λ _. inl (sym e), λ _. same)
      | inr other ↦
          let same : get_or (set (get_or rows 0 []) 0 true) t false ≡ entry rows 0 t = get_or-set_other (get_or rows 0 []) 0 t true false other in (
            λ marked. inr ((table.exact 0 t (omega arith) high).0 (sym same ∙ marked)),
            λ under. elim under [ inl e ↦ absurd (other (sym e)) | inr p ↦ same ∙ (table.exact 0 t (omega arith) high).1 p ],
          )
    ]

-- nothing is marked past the end of a row
past_end : (row : List Bool) (t : ℕ) → length row ≤ t → get_or row t false ≡ false
past_end [] t past = refl
past_end (b ∷ row) zero past = absurd (let no : ⊥ = omega (arith, past) in no)
past_end (b ∷ row) (suc t) past = past_end row t (omega (arith, past))

old_exact : {o : Subsorts} (rows : List (List Bool)) (s t : ℕ) → IsTable o rows → AreSorts o → s < o.declared + 2 → t < o.declared + 3 → (entry rows s t ≡ true) ↔ IsBelow o s t
old_exact {o} rows s t table sorts low high =
    elim (cases_eq t (o.declared + 2)) [
      | inl e ↦ (
        λ marked. let no : false ≡ true = sym (past_end (get_or rows s []) t (omega (arith, e, table.square.width s low))) ∙ marked in cc,
        λ below. let sort : IsSort o t = below_upper sorts below in absurd (let no : ⊥ = omega (arith, sort, e) in no),
      )
      | inr other ↦ table.exact s t low (omega (arith, high, other))
    ]

new_exact : {o : Subsorts} (rows : List (List Bool)) (t : ℕ) → IsTable o rows → AreSorts o → t < o.declared + 3 → (get_or (set (get_or rows 0 []) 0 true) t false ≡ true) ↔ IsAtOrBelow o 0 t
new_exact {o} rows t table sorts high =
    elim (cases_eq t (o.declared + 2)) [
      | inl e ↦ (
        λ marked.
            let long : length (set (get_or rows 0 []) 0 true) ≤ t = omega (arith, e, length-set (get_or rows 0 []) 0 true, table.square.width 0 (omega arith)) in
            let no : false ≡ true = sym (past_end (set (get_or rows 0 []) 0 true) t long) ∙ marked in cc,
        λ up. elim up [
          | inl same ↦ absurd (let no : ⊥ = omega (arith, same, e) in no)
          | inr below ↦ let sort : IsSort o t = below_upper sorts below in absurd (let no : ⊥ = omega (arith, sort, e) in no)
        ],
      )
      | inr other ↦ new_marks rows t table (omega (arith, high, other))
    ]

pub table_grown : {o : Subsorts} (rows : List (List Bool)) → AreSorts o → IsTable o rows → IsTable (with_sort o) (grown_rows rows)
table_grown {o} rows sorts table = record {
  square = subst (λ n. IsSquare n (grown_rows rows)) (let n : o.declared + 2 + 1 ≡ o.declared + 1 + 2 = omega arith in n) (grown_square (o.declared + 2) rows (omega arith) table.square);
  exact = λ s t low high.
      let right : t < o.declared + 3 = omega (arith, high) in
      elim (cases_eq s (length rows)) [
        | inl e ↦
            let new : s ≡ o.declared + 2 = e ∙ table.square.height in
            let here : entry (grown_rows rows) s t ≡ get_or (set (get_or rows 0 []) 0 true) t false = ap (λ k. entry (grown_rows rows) k t) e ∙ entry_new rows t in
            let marks = new_exact rows t table sorts right in (
              λ marked. subst (λ x. IsBelow (with_sort o) x t) (sym new) (new_below (marks.0 (sym here ∙ marked))),
              λ below. here ∙ elim (below_sort_cases sorts below) [
                | inl old ↦ let sort : IsSort o s = below_lower sorts old in absurd (let no : ⊥ = omega (arith, sort, new) in no)
                | inr by ↦ marks.1 by.1
              ],
            )
        | inr other ↦
            let left : s < o.declared + 2 = omega (arith, low, other, table.square.height) in
            let here : entry (grown_rows rows) s t ≡ entry rows s t = entry_old rows s t (omega (arith, left, table.square.height)) in
            let marks = old_exact rows s t table sorts left right in (
              λ marked. below_along (λ x y. step_old) (marks.0 (sym here ∙ marked)),
              λ below. here ∙ elim (below_sort_cases sorts below) [
                | inl old ↦ marks.1 old
                | inr by ↦ absurd (let no : ⊥ = omega (arith, by.0, left) in no)
              ],
            )
      ];
}

pub order_grown : (o : Subsorts) (rows new : List (List Bool)) → IsOrder o rows → o.declared < 65533 → new ≡ grown_rows rows → IsOrder (with_sort o) new
order_grown o rows new order few same = record {
  few = omega (arith, few);
  sorts = λ k p has. let old = order.sorts k p has in (omega (arith, old.0), omega (arith, old.1));
  apart = order.apart;
  acyclic = λ s below. elim (below_sort_cases order.sorts below) [
    | inl old ↦ order.acyclic s old
    | inr by ↦ elim by.1 [
      | inl e ↦ absurd (let no : ⊥ = omega (arith, by.0, e) in no)
      | inr old ↦ let sort : IsSort o s = below_upper order.sorts old in absurd (let no : ⊥ = omega (arith, sort, by.0) in no)
    ]
  ];
  table = subst (IsTable (with_sort o)) (sym same) (table_grown rows order.sorts order.table);
}

bare_order : (rows : List (List Bool)) → IsTable (subsorts 0 []) rows → IsOrder (subsorts 0 []) rows
bare_order rows table = record {
  few = omega arith;
  sorts = λ k p has. let no : ⊥ = omega (arith, has) in absurd no;
  apart = refl;
  acyclic = λ s below. let up = below_bare below in let no : ⊥ = omega (arith, up.0, up.1) in no;
  table = table;
}

pub order_built_in : (ps : List (ℕ × ℕ)) (rows : List (List Bool)) → ps ≡ [] → IsTable (subsorts 0 []) rows → IsOrder (subsorts 0 ps) rows
order_built_in ps rows none table = subst (λ qs. IsOrder (subsorts 0 qs) rows) (sym none) (bare_order rows table)

-- the order with one more pair

position_push_from : {X : Type 0} (p : X → Bool) (xs : List X) (x : X) (n : ℕ) → position_from p n xs ≡ None → p x ≡ false → position_from p n (xs ++ x ∷ []) ≡ None
position_push_from p [] x n none not = cond-false (p x) (Some n) None not
position_push_from p (y ∷ xs) x n none not =
    elim (p y) as (λ b. cond b (Some n) (position_from p (n + 1) xs) ≡ None → cond b (Some n) (position_from p (n + 1) (xs ++ x ∷ [])) ≡ None)
    [ true ↦ λ e. cc | false ↦ λ e. position_push_from p xs x (n + 1) e not ] none

position_push : {X : Type 0} (p : X → Bool) (xs : List X) (x : X) → position p xs ≡ None → p x ≡ false → position p (xs ++ x ∷ []) ≡ None
position_push p xs x none not =
    position_from-zero p (xs ++ x ∷ []) ∙ position_push_from p xs x 0 (sym (position_from-zero p xs) ∙ none) not

pub order_with_pair : (o p : Subsorts) (a b : ℕ) (old new : List (List Bool)) → IsOrder o old → o ≡ p → IsSort p a → IsSort p b → (a ≡ 1 → ⊥) × (b ≡ 1 → ⊥) → at_or_below p b a ≡ false →
    IsTable (with_pair o a b) new → IsOrder (with_pair o a b) new
order_with_pair o p a b old new order same low high apart acyclic table = record {
  few = order.few;
  sorts = All-push (λ q. IsSort o q.0 × IsSort o q.1) o.pairs (a, b) order.sorts (subst (λ x. IsSort x a) (sym same) low, subst (λ x. IsSort x b) (sym same) high);
  apart = position_push names_fresh o.pairs (a, b) order.apart (or_from (nat_eq a 1) (nat_eq b 1) (ne_eqb a 1 apart.0) (ne_eqb b 1 apart.1));
  acyclic = λ s below. elim (below_cases below) [
    | inl p ↦ order.acyclic s p
    | inr by ↦
        let back : IsAtOrBelow o b a = at_or_below_trans by.1 by.0 in
        let no : false ≡ true = sym acyclic ∙ ap (λ x. at_or_below x b a) (sym same) ∙ (decides o b a).1 back in
        cc
  ];
  table = table;
}

-- the order and its table after the rows at or below `lower` are raised
pub pair_put : (o p : Subsorts) (a b : ℕ) (old new : List (Vec Bool Global)) (above : List Bool) (v : Vec Bool Global) → IsOrder o (rows_of old) → o ≡ p → IsSort p a → IsSort p b → (a ≡ 1 → ⊥) × (b ≡ 1 → ⊥) →
    at_or_below p b a ≡ false → v ≡ get_or old b v → above ≡ set v.items b true → IsSquare (length above) (rows_of new) →
    ((s t : ℕ) → s < length above → t < length above → entry (rows_of new) s t ≡ (entry (rows_of old) s t || ((nat_eq s a || entry (rows_of old) s a) && get_or above t false))) →
    IsOrder (with_pair o a b) (rows_of new)
pair_put o p a b old new above v order same low high apart acyclic is up after raised =
    let size : length old ≡ o.declared + 2 = sym (length-rows_of old) ∙ order.table.square.height in
    let count : o.declared ≡ p.declared = ap (λ x. x.declared) same in
    let square : IsSquare (length old) (rows_of old) = subst (λ n. IsSquare n (rows_of old)) (sym size) order.table.square in
    order_with_pair o p a b (rows_of old) (rows_of new) order same low high apart acyclic
    (added old new a b above v square (omega (arith, low, size, count)) (omega (arith, high, size, count)) is up after raised o order.table)

pub order_pairs : (n a b : ℕ) (ps qs : List (ℕ × ℕ)) (rows : List (List Bool)) → qs ≡ ps ++ (a, b) ∷ [] → IsOrder (with_pair (subsorts n ps) a b) rows → IsOrder (subsorts n qs) rows
order_pairs n a b ps qs rows more order = subst (λ x. IsOrder (subsorts n x) rows) (sym more) order

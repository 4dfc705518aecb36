-- Rows of a table, and what adding a pair does to it.
use Rattle.std.proofs.Common.{◌≡◌, ℕ, zero, suc, ◌+◌, ◌<◌, ◌≤◌, Bool, true, false, nat_eq, ◌||◌, ◌&&◌, nat_le, List, [], ◌∷◌, ◌++◌, length, get_or, set, take, replicate, vec_len, sym, ◌∙◌, ap, subst, inl, inr, arith}
use Rattle.std.proofs.lemmas.List.{length-map, map-append, get_or_append_left, get_or-append-add, map-set, get_or-set_same, get_or-set_other, get_or-replicate, length-set, length-replicate, take_more}
use Rattle.std.proofs.lemmas.Bool.{or_cases, or_left, or_right, and_parts, and_from, eqb-true, eq-eqb, leb-true, le-leb, cases_eq}
use Rattle.std.specs.Prelude.{◌↔◌, None, position}
use Rattle.std.specs.declared.vec.Vec.{Vec}
use Rattle.std.specs.declared.alloc.Global.{Global}
use Rattle.npa_sorts.specs.Subsorts.{Subsorts, IsSort, IsBelow, IsAtOrBelow, AreSorts, names_fresh}
use Rattle.npa_sorts.specs.Table.{rows_of, with_pair, entry, IsSquare, IsTable, IsOrder}
use Rattle.npa_sorts.proofs.Steps.{below_lower, bare, bare_below, below_bare, below_cases, below_more, below_by_pair, at_or_below_below, below_at_or_below}

-- a row of the table as a list
pub rows_at : (vs : List (Vec Bool Global)) (i : ℕ) (v d : Vec Bool Global) → i < length vs → v ≡ get_or vs i d → get_or (rows_of vs) i [] ≡ v.items
rows_at [] i v d small is = absurd (let no : ⊥ = omega (arith, small) in no)
rows_at (w ∷ vs) zero v d small is = ap (λ x. x.items) (sym is)
rows_at (w ∷ vs) (suc i) v d small is = rows_at vs i v d (omega arith) is

pub entry_at : (vs : List (Vec Bool Global)) (i j : ℕ) (v d : Vec Bool Global) → i < length vs → v ≡ get_or vs i d → entry (rows_of vs) i j ≡ get_or v.items j false
entry_at vs i j v d small is = ap (λ row. get_or row j false) (rows_at vs i v d small is)

pub length-rows_of : (vs : List (Vec Bool Global)) → length (rows_of vs) ≡ length vs
length-rows_of vs = length-map vs (λ v. v.items)

-- a row is as long as the table
pub row_long : (n : ℕ) (vs : List (Vec Bool Global)) (i : ℕ) (v : Vec Bool Global) → IsSquare n (rows_of vs) → i < length vs → v ≡ get_or vs i v → vec_len v ≡ n
row_long n vs i v square small is =
    v.ok.0 ∙ ap length (sym (rows_at vs i v v small is)) ∙ square.width i (omega (arith, square.height, length-rows_of vs))

-- the table without pairs

pub rows_pushed : (f : ℕ → List Bool) (vs : List (Vec Bool Global)) (v : Vec Bool Global) (s : ℕ) → length vs ≡ s →
    ((x : ℕ) → x < s → get_or (rows_of vs) x [] ≡ f x) → v.items ≡ f s → (x : ℕ) → x < s + 1 → get_or (rows_of (vs ++ v ∷ [])) x [] ≡ f x
rows_pushed f vs v s long built new x small =
    let whole : rows_of (vs ++ v ∷ []) ≡ rows_of vs ++ v.items ∷ [] = map-append (λ w. w.items) vs (v ∷ []) in
    let same : length (rows_of vs) ≡ s = length-rows_of vs ∙ long in
    elim (cases_eq x s) [
      | inl e ↦
          let at : length (rows_of vs) + 0 ≡ x = omega (arith, same, e) in
          ap (λ rows. get_or rows x []) whole ∙ ap (λ n. get_or (rows_of vs ++ v.items ∷ []) n []) (sym at)
          ∙ get_or-append-add (rows_of vs) (v.items ∷ []) 0 [] ∙ new ∙ ap f (sym e)
      | inr other ↦
          let below : x < s = omega (arith, other) in
          ap (λ rows. get_or rows x []) whole ∙ get_or_append_left (rows_of vs) (v.items ∷ []) [] x (omega (arith, below, same)) ∙ built x below
    ]

-- the row of a sort where there are no pairs
abbrev pub bare_row : ℕ → ℕ → List Bool
bare_row size s = set (replicate size false) 0 (nat_le 2 s)

bare_entry : (n s t : ℕ) → t < n + 2 → (get_or (bare_row (n + 2) s) t false ≡ true) ↔ ((t ≡ 0) × (2 ≤ s))
bare_entry n s t small =
    elim (cases_eq t 0) [
      | inl e ↦
          let same : get_or (bare_row (n + 2) s) t false ≡ nat_le 2 s =
          ap (λ k. get_or (bare_row (n + 2) s) k false) e ∙ get_or-set_same (replicate (n + 2) false) 0 (nat_le 2 s) false (omega (arith, length-replicate (n + 2) false)) in
          (λ marked. (e, leb-true 2 s (sym same ∙ marked)), λ up. same ∙ le-leb 2 s up.1)
      | inr other ↦
          let same : get_or (bare_row (n + 2) s) t false ≡ false =
          get_or-set_other (replicate (n + 2) false) 0 t (nat_le 2 s) false other ∙ get_or-replicate (n + 2) t false false small in
          (λ marked. let no : false ≡ true = sym same ∙ marked in cc, λ up. absurd (other up.0))
    ]

pub bare_table : (n : ℕ) (rows : List (List Bool)) → length rows ≡ n + 2 → ((x : ℕ) → x < n + 2 → get_or rows x [] ≡ bare_row (n + 2) x) → IsTable (bare n) rows
bare_table n rows long built = record {
  square = record { height = long; width = λ s small. ap length (built s small) ∙ length-set (replicate (n + 2) false) 0 (nat_le 2 s) ∙ length-replicate (n + 2) false };
  exact = λ s t low high.
      let here : entry rows s t ≡ get_or (bare_row (n + 2) s) t false = ap (λ row. get_or row t false) (built s low) in
      let marks = bare_entry n s t high in (
        λ marked. let up = marks.0 (sym here ∙ marked) in subst (IsBelow (bare n) s) (sym up.0) (bare_below n s up.1 low),
        λ below. let up = below_bare below in here ∙ marks.1 (up.0, up.1),
      );
}

-- one pair more

at_or_below_test : {o : Subsorts} (rows : List (List Bool)) (s a : ℕ) → IsTable o rows → IsSort o s → IsSort o a → ((nat_eq s a || entry rows s a) ≡ true) ↔ IsAtOrBelow o s a
at_or_below_test rows s a table low high = (
  λ marked. elim (or_cases (nat_eq s a) (entry rows s a) marked)
      [ inl e ↦ inl (eqb-true s a e) | inr m ↦ inr ((table.exact s a low high).0 m) ],
  λ under. elim under [
    | inl e ↦ or_left (nat_eq s a) (entry rows s a) (eq-eqb s a e)
    | inr p ↦ or_right (nat_eq s a) (entry rows s a) ((table.exact s a low high).1 p)
  ],
)

above_test : {o : Subsorts} {b : ℕ} (old : List (List Bool)) (above : List Bool) → IsTable o old → IsSort o b → above ≡ set (get_or old b []) b true → (t : ℕ) → IsSort o t →
    (get_or above t false ≡ true) ↔ IsAtOrBelow o b t
above_test {o} {b} old above table upper up t high =
    elim (cases_eq t b) [
      | inl e ↦
          let same : get_or above t false ≡ true =
          ap (λ row. get_or row t false) up ∙ ap (λ k. get_or (set (get_or old b []) b true) k false) e
          ∙ get_or-set_same (get_or old b []) b true false (omega (arith, table.square.width b upper, upper)) in
          (λ _. inl (sym e), λ _. same)
      | inr other ↦
          let same : get_or above t false ≡ entry old b t = ap (λ row. get_or row t false) up ∙ get_or-set_other (get_or old b []) b t true false other in (
            λ marked. inr ((table.exact b t upper high).0 (sym same ∙ marked)),
            λ under. elim under [ inl e ↦ absurd (other (sym e)) | inr p ↦ same ∙ (table.exact b t upper high).1 p ],
          )
    ]

pub table_more : {o : Subsorts} (a b : ℕ) (old new : List (List Bool)) (above : List Bool) → IsTable o old → IsSort o a → IsSort o b → IsSquare (o.declared + 2) new →
    above ≡ set (get_or old b []) b true →
    ((s t : ℕ) → IsSort o s → IsSort o t → entry new s t ≡ (entry old s t || ((nat_eq s a || entry old s a) && get_or above t false))) →
    IsTable (with_pair o a b) new
table_more {o} a b old new above table lower upper square up raised = record {
  square = square;
  exact = λ s t low high.
      let from : (get_or above t false ≡ true) ↔ IsAtOrBelow o b t = above_test old above table upper up t high in
      let reach = at_or_below_test old s a table low lower in (
        λ marked. elim (or_cases (entry old s t) ((nat_eq s a || entry old s a) && get_or above t false) (sym (raised s t low high) ∙ marked)) [
          | inl m ↦ below_more a b ((table.exact s t low high).0 m)
          | inr both ↦ let parts = and_parts (nat_eq s a || entry old s a) (get_or above t false) both in below_by_pair (reach.0 parts.0) (from.0 parts.1)
        ],
        λ below. raised s t low high ∙ elim (below_cases below) [
          | inl p ↦ or_left (entry old s t) ((nat_eq s a || entry old s a) && get_or above t false) ((table.exact s t low high).1 p)
          | inr by ↦ or_right (entry old s t) ((nat_eq s a || entry old s a) && get_or above t false)
              (and_from (nat_eq s a || entry old s a) (get_or above t false) (reach.1 by.0) (from.1 by.1))
        ],
      );
}

-- a pair that says nothing new
pub table_same : {o : Subsorts} (a b : ℕ) (rows : List (List Bool)) → IsTable o rows → IsBelow o a b → IsTable (with_pair o a b) rows
table_same {o} a b rows table known = record {
  square = table.square;
  exact = λ s t low high. (
    λ marked. below_more a b ((table.exact s t low high).0 marked),
    λ below. (table.exact s t low high).1 (elim (below_cases below) [ inl p ↦ p | inr by ↦ at_or_below_below by.0 (below_at_or_below known by.1) ]),
  );
}

-- steps of the loop over rows

-- the rows before `s` are raised, and the others are as they were
pub record RaisedBefore (s n lower : ℕ) (above : List Bool) (old new : List (List Bool)) : Type 0 where
  pub square : IsSquare n new
  pub done : (x t : ℕ) → x < s → t < n → entry new x t ≡ (entry old x t || ((nat_eq x lower || entry old x lower) && get_or above t false))
  pub rest : (x t : ℕ) → s ≤ x → entry new x t ≡ entry old x t

pub square_set : (n : ℕ) (vs : List (Vec Bool Global)) (i : ℕ) (v : Vec Bool Global) → IsSquare n (rows_of vs) → i < n → length v.items ≡ n → IsSquare n (rows_of (set vs i v))
square_set n vs i v square small long =
    let rows : rows_of (set vs i v) ≡ set (rows_of vs) i v.items = map-set (λ w. w.items) vs i v in
    record {
      height = ap length rows ∙ length-set (rows_of vs) i v.items ∙ square.height;
      width = λ s low. ap (λ r. length (get_or r s [])) rows ∙ elim (cases_eq s i) [
        | inl e ↦ ap (λ k. length (get_or (set (rows_of vs) i v.items) k [])) e ∙ ap length (get_or-set_same (rows_of vs) i v.items [] (omega (arith, small, square.height))) ∙ long
        | inr other ↦ ap length (get_or-set_other (rows_of vs) i s v.items [] other) ∙ square.width s low
      ];
    }

pub entry_set_same : (n : ℕ) (vs : List (Vec Bool Global)) (i t : ℕ) (v : Vec Bool Global) → IsSquare n (rows_of vs) → i < n → entry (rows_of (set vs i v)) i t ≡ get_or v.items t false
entry_set_same n vs i t v square small =
    ap (λ rows. entry rows i t) (map-set (λ w. w.items) vs i v)
    ∙ ap (λ row. get_or row t false) (get_or-set_same (rows_of vs) i v.items [] (omega (arith, small, square.height)))

pub entry_set_other : (vs : List (Vec Bool Global)) (i x t : ℕ) (v : Vec Bool Global) → (x ≡ i → ⊥) → entry (rows_of (set vs i v)) x t ≡ entry (rows_of vs) x t
entry_set_other vs i x t v other =
    ap (λ rows. entry rows x t) (map-set (λ w. w.items) vs i v)
    ∙ ap (λ row. get_or row t false) (get_or-set_other (rows_of vs) i x v.items [] other)

pub raised_row : (s n lower : ℕ) (above : List Bool) (old : List (List Bool)) (vs : List (Vec Bool Global)) (v w : Vec Bool Global) →
    RaisedBefore s n lower above old (rows_of vs) → s < n → lower < n → v ≡ get_or vs s v → length w.items ≡ n →
    ((t : ℕ) → t < n → get_or w.items t false ≡ (get_or v.items t false || ((nat_eq s lower || get_or v.items lower false) && get_or above t false))) →
    RaisedBefore (s + 1) n lower above old (rows_of (set vs s w))
raised_row s n lower above old vs v w before small within is long row =
    let here : s < length vs = omega (arith, small, before.square.height, length-rows_of vs) in
    let was : (t : ℕ) → get_or v.items t false ≡ entry old s t = λ t. sym (entry_at vs s t v v here is) ∙ before.rest s t (omega arith) in
    record {
      square = square_set n vs s w before.square small long;
      done = λ x t low high. elim (cases_eq x s) [
        | inl e ↦
            let same : entry (rows_of (set vs s w)) s t ≡ (entry old s t || ((nat_eq s lower || entry old s lower) && get_or above t false)) =
            entry_set_same n vs s t w before.square small ∙ row t high
            ∙ ap (λ b. b || ((nat_eq s lower || get_or v.items lower false) && get_or above t false)) (was t)
            ∙ ap (λ b. entry old s t || ((nat_eq s lower || b) && get_or above t false)) (was lower) in
            subst (λ y. entry (rows_of (set vs s w)) y t ≡ (entry old y t || ((nat_eq y lower || entry old y lower) && get_or above t false))) (sym e) same
        | inr other ↦ entry_set_other vs s x t w other ∙ before.done x t (omega (arith, other)) high
      ];
      rest = λ x t low. entry_set_other vs s x t w (λ e. let no : ⊥ = omega (arith, e, low) in no) ∙ before.rest x t (omega (arith, low));
    }

-- the table with a pair that it doesn't show yet
pub added : (old new : List (Vec Bool Global)) (a b : ℕ) (above : List Bool) (v : Vec Bool Global) → IsSquare (length old) (rows_of old) → a < length old → b < length old →
    v ≡ get_or old b v → above ≡ set v.items b true → IsSquare (length above) (rows_of new) →
    ((s t : ℕ) → s < length above → t < length above → entry (rows_of new) s t ≡ (entry (rows_of old) s t || ((nat_eq s a || entry (rows_of old) s a) && get_or above t false))) →
    (o : Subsorts) → IsTable o (rows_of old) → IsTable (with_pair o a b) (rows_of new)
added old new a b above v square lower upper is up after raised o table =
    let size : length old ≡ o.declared + 2 = sym (length-rows_of old) ∙ table.square.height in
    let long : length above ≡ o.declared + 2 =
    ap length up ∙ length-set v.items b true ∙ sym v.ok.0 ∙ row_long (length old) old b v square upper is ∙ size in
    table_more a b (rows_of old) (rows_of new) above table (omega (arith, lower, size)) (omega (arith, upper, size))
    (subst (λ n. IsSquare n (rows_of new)) long after)
    (up ∙ ap (λ row. set row b true) (sym (rows_at old b v v upper is)))
    (λ s t low high. raised s t (omega (arith, low, long)) (omega (arith, high, long)))

-- the pairs before `i + 1`
pub table_taken : (n i : ℕ) (ps : List (ℕ × ℕ)) (rows : List (List Bool)) → i < length ps →
    IsTable (with_pair (record { declared = n; pairs = take i ps }) (get_or ps i (0, 0)).0 (get_or ps i (0, 0)).1) rows → IsTable (record { declared = n; pairs = take (i + 1) ps }) rows
table_taken n i ps rows small table = subst (λ qs. IsTable (record { declared = n; pairs = qs }) rows) (sym (take_more ps i (0, 0) small)) table

-- the table where the pair is known
pub known : (vs : List (Vec Bool Global)) (a b : ℕ) → a < length vs → b < length vs → entry (rows_of vs) a b ≡ true →
    (o : Subsorts) → IsTable o (rows_of vs) → IsTable (with_pair o a b) (rows_of vs)
known vs a b lower upper marked o table =
    let size : length vs ≡ o.declared + 2 = sym (length-rows_of vs) ∙ table.square.height in
    table_same a b (rows_of vs) table ((table.exact a b (omega (arith, lower, size)) (omega (arith, upper, size))).0 marked)

-- the order that a table without a mark on the diagonal shows
pub order_made : (o : Subsorts) (vs ws : List (Vec Bool Global)) → o.declared ≤ 65533 → AreSorts o → position names_fresh o.pairs ≡ None → IsTable o (rows_of vs) → ws ≡ vs →
    ((s : ℕ) → s < length ws → entry (rows_of ws) s s ≡ false) → IsOrder o (rows_of vs)
order_made o vs ws few sorts apart table same unmarked = record {
  few = few;
  sorts = sorts;
  apart = apart;
  table = table;
  acyclic = λ s below.
      let sort : IsSort o s = below_lower sorts below in
      let size : length ws ≡ o.declared + 2 = ap length same ∙ sym (length-rows_of vs) ∙ table.square.height in
      let no : true ≡ false = sym ((table.exact s s sort sort).1 below) ∙ ap (λ us. entry (rows_of us) s s) (sym same) ∙ unmarked s (omega (arith, sort, size)) in
      cc;
}

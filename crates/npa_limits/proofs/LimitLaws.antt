-- What the rows of the limits say of nodes gone over one after another.
use Rattle.std.proofs.Common.{◌≡◌, ℕ, ◌+◌, ◌<◌, ◌==◌, ◌&&◌, Bool, true, false, cond, List, [], ◌∷◌, ◌++◌, Option, Some, None, length, length-append, drop, get_or, map, refl, sym, ap, ◌∙◌, drop-cons, add-one, arith}
use Rattle.std.specs.Prelude.{filter}
use Rattle.std.specs.List.{find}
use Rattle.std.specs.Option.{option_or}
use Rattle.npa_syntax.specs.declared.node.Node.{Node}
use Rattle.npa_syntax.specs.Nodes.{symbol_of, children_of}
use Rattle.npa_syntax.proofs.Folds.{fold_node_at}
use Rattle.npa_text.specs.declared.symbols.TheConstants as symbol
use Rattle.npa_limits.specs.declared.part.LimitPart.{LimitPart}
use Rattle.npa_limits.specs.declared.part.LimitPart.TheVariants as part
use Rattle.npa_reading.specs.Trees.{all_with, listed}
use Rattle.npa_limits.specs.Later.{is_later}
use Rattle.npa_limits.specs.Limits.{Passed, past, first_passed, number, where_is, total, sizes_over, sizes, sizes_of, item_row, is_counted, rows, is_sort, is_op, is_eq, is_strand, is_aim, args_past, events_past, params_past, parts_past, symbols_past}

-- ## Items

find_twice : {X : Type 0} (p q : X → Bool) (x : X) (xs : List X) → find p (filter q (x ∷ xs)) ≡ cond (q x && p x) (Some x) (find p (filter q xs))
find_twice p q x xs = split (q x)
  where
    split : (b : Bool) → find p (cond b (x ∷ filter q xs) (filter q xs)) ≡ cond (b && p x) (Some x) (find p (filter q xs))
    split false = refl
    split true = refl

pub later_step : (nodes : List Node) (i : ℕ) (d : Node) → i < length nodes →
    find is_later (all_with symbol.ITEM (drop i nodes)) ≡ cond (symbol_of (get_or nodes i d) == symbol.ITEM && is_later (get_or nodes i d)) (Some (get_or nodes i d)) (find is_later (all_with symbol.ITEM (drop (i + 1) nodes)))
later_step nodes i d l =
    let first : drop i nodes ≡ get_or nodes i d ∷ drop (i + 1) nodes = rw (drop-cons nodes i d, add-one) refl in
    ap (λ ns. find is_later (all_with symbol.ITEM ns)) first
    ∙ find_twice is_later (λ n. symbol_of n == symbol.ITEM) (get_or nodes i d) (drop (i + 1) nodes)

counted_twice : {X : Type 0} (p q : X → Bool) (x : X) (xs : List X) → length (filter p (filter q (x ∷ xs))) ≡ cond (q x && p x) (1 + length (filter p (filter q xs))) (length (filter p (filter q xs)))
counted_twice p q x xs = split (q x)
  where
    inner : (c : Bool) → length (cond c (x ∷ filter p (filter q xs)) (filter p (filter q xs))) ≡ cond c (1 + length (filter p (filter q xs))) (length (filter p (filter q xs)))
    inner true = omega arith
    inner false = refl

    split : (b : Bool) → length (filter p (cond b (x ∷ filter q xs) (filter q xs))) ≡ cond (b && p x) (1 + length (filter p (filter q xs))) (length (filter p (filter q xs)))
    split false = refl
    split true = inner (p x)

pub counted_step : (row : LimitPart) (nodes : List Node) (i : ℕ) (d : Node) → i < length nodes →
    number (is_counted row) (all_with symbol.ITEM (drop i nodes))
    ≡ cond (symbol_of (get_or nodes i d) == symbol.ITEM && is_counted row (get_or nodes i d)) (1 + number (is_counted row) (all_with symbol.ITEM (drop (i + 1) nodes))) (number (is_counted row) (all_with symbol.ITEM (drop (i + 1) nodes)))
counted_step row nodes i d l =
    let first : drop i nodes ≡ get_or nodes i d ∷ drop (i + 1) nodes = rw (drop-cons nodes i d, add-one) refl in
    ap (λ ns. number (is_counted row) (all_with symbol.ITEM ns)) first
    ∙ counted_twice (is_counted row) (λ n. symbol_of n == symbol.ITEM) (get_or nodes i d) (drop (i + 1) nodes)

first_where : {X : Type 0} (f : X → Passed) (b : Bool) (x : X) (xs : List X) → first_passed (map f (cond b (x ∷ xs) xs)) ≡ option_or (where_is b (f x)) (first_passed (map f xs))
first_where f false x xs = refl
first_where f true x xs = refl

pub first_step : (row : LimitPart) (nodes : List Node) (i : ℕ) (d : Node) → i < length nodes →
    first_passed (map (item_row row) (all_with symbol.ITEM (drop i nodes)))
    ≡ option_or (where_is (symbol_of (get_or nodes i d) == symbol.ITEM) (item_row row (get_or nodes i d))) (first_passed (map (item_row row) (all_with symbol.ITEM (drop (i + 1) nodes))))
first_step row nodes i d l =
    let first : drop i nodes ≡ get_or nodes i d ∷ drop (i + 1) nodes = rw (drop-cons nodes i d, add-one) refl in
    ap (λ ns. first_passed (map (item_row row) (all_with symbol.ITEM ns))) first
    ∙ first_where (item_row row) (symbol_of (get_or nodes i d) == symbol.ITEM) (get_or nodes i d) (all_with symbol.ITEM (drop (i + 1) nodes))

-- ## Lists with further ones below

listed_length : (of next : ℕ) (n : Node) (ns : List Node) → length (listed of next (n ∷ ns))
    ≡ cond (symbol_of n == of) (1 + length (listed of next ns)) (cond (symbol_of n == next) (length (all_with of (children_of n)) + length (listed of next ns)) (length (listed of next ns)))
listed_length of next n ns = split (symbol_of n == of) (symbol_of n == next)
  where
    split : (b c : Bool) → length (cond b (n ∷ listed of next ns) (cond c (all_with of (children_of n) ++ listed of next ns) (listed of next ns)))
        ≡ cond b (1 + length (listed of next ns)) (cond c (length (all_with of (children_of n)) + length (listed of next ns)) (length (listed of next ns)))
    split true c = omega arith
    split false true = length-append (all_with of (children_of n)) (listed of next ns)
    split false false = refl

pub listed_count : (of next : ℕ) (nodes : List Node) (i : ℕ) (d : Node) → i < length nodes → length (listed of next (drop i nodes))
    ≡ cond (symbol_of (get_or nodes i d) == of) (1 + length (listed of next (drop (i + 1) nodes))) (cond (symbol_of (get_or nodes i d) == next) (length (all_with of (children_of (get_or nodes i d))) + length (listed of next (drop (i + 1) nodes))) (length (listed of next (drop (i + 1) nodes))))
listed_count of next nodes i d l =
    let first : drop i nodes ≡ get_or nodes i d ∷ drop (i + 1) nodes = rw (drop-cons nodes i d, add-one) refl in
    ap (λ ns. length (listed of next ns)) first ∙ listed_length of next (get_or nodes i d) (drop (i + 1) nodes)

-- ## Symbols

-- the terms of a node, by its children
sizes_at : (n : Node) → sizes n ≡ cond (symbol_of n == symbol.TERM) ((1 + total (sizes_of (children_of n))) ∷ []) (sizes_of (children_of n))
sizes_at n = fold_node_at sizes_over n

total_append : (ns ms : List ℕ) → total (ns ++ ms) ≡ total ns + total ms
total_append [] ms = omega arith
total_append (n ∷ ns) ms = omega (arith, total_append ns ms)

pub total_at : (n : Node) → total (sizes n) ≡ cond (symbol_of n == symbol.TERM) 1 0 + total (sizes_of (children_of n))
total_at n = ap total (sizes_at n) ∙ split (symbol_of n == symbol.TERM)
  where
    split : (b : Bool) → total (cond b ((1 + total (sizes_of (children_of n))) ∷ []) (sizes_of (children_of n))) ≡ cond b 1 0 + total (sizes_of (children_of n))
    split true = omega arith
    split false = omega arith

pub total_step : (nodes : List Node) (i : ℕ) (d : Node) → i < length nodes → total (sizes_of (drop i nodes)) ≡ total (sizes (get_or nodes i d)) + total (sizes_of (drop (i + 1) nodes))
total_step nodes i d l =
    let first : drop i nodes ≡ get_or nodes i d ∷ drop (i + 1) nodes = rw (drop-cons nodes i d, add-one) refl in
    ap (λ ns. total (sizes_of ns)) first ∙ total_append (sizes (get_or nodes i d)) (sizes_of (drop (i + 1) nodes))

pub or_none : {A : Type 0} (p : Option A) → option_or p None ≡ p
or_none None = refl
or_none (Some x) = refl

or_joined : {A : Type 0} (p q r : Option A) → option_or (option_or p q) r ≡ option_or p (option_or q r)
or_joined None q r = refl
or_joined (Some x) q r = refl

-- the first term with too many symbols
abbrev pub large : List ℕ → Passed
large ns = first_passed (map (past part.Symbols 1024) ns)

large_append : (ns ms : List ℕ) → large (ns ++ ms) ≡ option_or (large ns) (large ms)
large_append [] ms = refl
large_append (n ∷ ns) ms = ap (option_or (past part.Symbols 1024 n)) (large_append ns ms) ∙ sym (or_joined (past part.Symbols 1024 n) (large ns) (large ms))

pub large_at : (n : Node) → large (sizes n) ≡ cond (symbol_of n == symbol.TERM) (past part.Symbols 1024 (1 + total (sizes_of (children_of n)))) (large (sizes_of (children_of n)))
large_at n = ap large (sizes_at n) ∙ split (symbol_of n == symbol.TERM)
  where
    split : (b : Bool) → large (cond b ((1 + total (sizes_of (children_of n))) ∷ []) (sizes_of (children_of n))) ≡ cond b (past part.Symbols 1024 (1 + total (sizes_of (children_of n)))) (large (sizes_of (children_of n)))
    split true = or_none (past part.Symbols 1024 (1 + total (sizes_of (children_of n))))
    split false = refl

large_step : (nodes : List Node) (i : ℕ) (d : Node) → i < length nodes →
    large (sizes_of (drop i nodes)) ≡ option_or (large (sizes (get_or nodes i d))) (large (sizes_of (drop (i + 1) nodes)))
large_step nodes i d l =
    let first : drop i nodes ≡ get_or nodes i d ∷ drop (i + 1) nodes = rw (drop-cons nodes i d, add-one) refl in
    ap (λ ns. large (sizes_of ns)) first ∙ large_append (sizes (get_or nodes i d)) (sizes_of (drop (i + 1) nodes))

large_rest : (nodes : List Node) (i : ℕ) (n : Node) (r : Passed) → i < length nodes → n ≡ get_or nodes i n → large (sizes_of (drop i nodes)) ≡ large (sizes_of nodes) → r ≡ large (sizes n)
    → option_or r (large (sizes_of (drop (i + 1) nodes))) ≡ large (sizes_of nodes)
large_rest nodes i n r l e so_far given =
    ap (λ o. option_or o (large (sizes_of (drop (i + 1) nodes)))) (given ∙ ap (λ m. large (sizes m)) e) ∙ sym (large_step nodes i n l) ∙ so_far

pub large_found : (nodes : List Node) (i : ℕ) (n : Node) (r : Passed) (passed : LimitPart × ℕ) → i < length nodes → n ≡ get_or nodes i n → large (sizes_of (drop i nodes)) ≡ large (sizes_of nodes) → r ≡ large (sizes n)
    → r ≡ Some passed → Some passed ≡ large (sizes_of nodes)
large_found nodes i n r passed l e so_far given is = ap (λ o. option_or o (large (sizes_of (drop (i + 1) nodes)))) (sym is) ∙ large_rest nodes i n r l e so_far given

pub large_next : (nodes : List Node) (i : ℕ) (n : Node) (r : Passed) → i < length nodes → n ≡ get_or nodes i n → large (sizes_of (drop i nodes)) ≡ large (sizes_of nodes) → r ≡ large (sizes n)
    → r ≡ None → large (sizes_of (drop (i + 1) nodes)) ≡ large (sizes_of nodes)
large_next nodes i n r l e so_far given is = ap (λ o. option_or o (large (sizes_of (drop (i + 1) nodes)))) (sym is) ∙ large_rest nodes i n r l e so_far given

-- ## Rows

rows_joined : (a b c d e f g h i j : Passed) →
    option_or (option_or (option_or (option_or (option_or (option_or (option_or (option_or (option_or a b) c) d) e) f) g) h) i) j
    ≡ first_passed (a ∷ b ∷ c ∷ d ∷ e ∷ f ∷ g ∷ h ∷ i ∷ j ∷ [])
rows_joined (Some x) b c d e f g h i j = refl
rows_joined None (Some x) c d e f g h i j = refl
rows_joined None None (Some x) d e f g h i j = refl
rows_joined None None None (Some x) e f g h i j = refl
rows_joined None None None None (Some x) f g h i j = refl
rows_joined None None None None None (Some x) g h i j = refl
rows_joined None None None None None None (Some x) h i j = refl
rows_joined None None None None None None None (Some x) i j = refl
rows_joined None None None None None None None None (Some x) j = refl
rows_joined None None None None None None None None None j = sym (or_none j)

pub or_both : {A : Type 0} (o p q p' q' : Option A) → o ≡ option_or p q → p ≡ p' → q ≡ q' → o ≡ option_or p' q'
or_both o p q p' q' e f g = e ∙ ap (λ x. option_or x q) f ∙ ap (option_or p') g

pub rows_of : (items : List Node) →
    option_or (option_or (option_or (option_or (option_or (option_or (option_or (option_or (option_or
    (past part.Sorts 256 (number is_sort items)) (past part.Ops 4096 (number is_op items))) (first_passed (map args_past items)))
    (past part.Equations 256 (number is_eq items))) (past part.Strands 1024 (number is_strand items))) (first_passed (map events_past items))) (first_passed (map params_past items)))
    (past part.Aims 256 (number is_aim items))) (first_passed (map parts_past items))) (first_passed (map symbols_past items))
    ≡ first_passed (rows items)
rows_of items =
    rows_joined (past part.Sorts 256 (number is_sort items)) (past part.Ops 4096 (number is_op items)) (first_passed (map args_past items)) (past part.Equations 256 (number is_eq items))
    (past part.Strands 1024 (number is_strand items)) (first_passed (map events_past items)) (first_passed (map params_past items))
    (past part.Aims 256 (number is_aim items)) (first_passed (map parts_past items)) (first_passed (map symbols_past items))

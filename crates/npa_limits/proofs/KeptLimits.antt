-- What no limit being passed says of the trees.
use Rattle.std.proofs.Common.{◌≡◌, ◌≤◌, ℕ, zero, suc, ◌+◌, ◌||◌, nat_lt, Bool, true, false, not, cond, List, [], ◌∷◌, Option, Some, None, map, length, refl, sym, ap, ◌∙◌, arith}
use Rattle.std.proofs.lemmas.Bool.Decides.{nat_tests}
use Rattle.std.specs.Prelude.{slice_get, filter}
use Rattle.std.specs.Option.{option_or, option_map}
use Rattle.npa_syntax.specs.declared.node.Node.{Node}
use Rattle.npa_syntax.specs.Nodes.{children_of}
use Rattle.npa_limits.specs.declared.part.LimitPart.{LimitPart}
use Rattle.npa_limits.specs.declared.part.LimitPart.TheVariants as part
use Rattle.npa_limits.specs.Later.{items_of}
use Rattle.npa_limits.specs.Limits.{Passed, saturated, past, first_passed, number, where_is, total, sizes_of, limit_of, is_sort, is_op, is_eq, is_strand, is_aim, args_of, events_of, params_of, parts_of, is_known, is_strand_part, crowded, crowd, args_past, events_past, params_past, parts_past, symbols_past}
use Rattle.npa_limits.specs.Within.{IsItemWithin, AreWithin}

within : (row : LimitPart) (most n : ℕ) → past row most n ≡ None → n ≤ most
within row most n e = split (nat_lt most n) refl e
  where
    split : (b : Bool) → nat_lt most n ≡ b → cond {A = Passed} b (Some (row, saturated n)) None ≡ None → n ≤ most
    split true is e = absurd (cc)
    split false is e = grind (arith, nat_tests)

left_none : {A : Type 0} (p q : Option A) → option_or p q ≡ None → p ≡ None
left_none None q e = refl
left_none (Some x) q e = e

right_none : {A : Type 0} (p q : Option A) → option_or p q ≡ None → q ≡ None
right_none None q e = e
right_none (Some x) q e = absurd (cc)

none_in : {X : Type 0} (f : X → Passed) (xs : List X) → first_passed (map f xs) ≡ None → (k : ℕ) (x : X) → slice_get xs k ≡ Some x → f x ≡ None
none_in f [] e k x at = absurd (cc)
none_in f (y ∷ ys) e zero x at =
    let same : y ≡ x = cc in
    ap f (sym same) ∙ left_none (f y) (first_passed (map f ys)) e
none_in f (y ∷ ys) e (suc k) x at = none_in f ys (right_none (f y) (first_passed (map f ys)) e) k x at

held : (b : Bool) (p : Passed) → where_is b p ≡ None → b ≡ true → p ≡ None
held true p e is = e
held false p e is = absurd (cc)

unmapped : {A B : Type 0} (f : A → B) (o : Option A) → option_map f o ≡ None → o ≡ None
unmapped f None e = refl
unmapped f (Some x) e = absurd (cc)

-- neither number is passed
uncrowded_known : (s k : ℕ) (ps : List Node) → k ≤ 64 → crowded s k ps ≡ None → k + number is_known ps ≤ 64
uncrowded_known s k [] l e = omega arith
uncrowded_known s k (p ∷ ps) l e = split (is_known p) (nat_lt 64 (k + 1)) (nat_lt 32 (s + 1)) refl (uncrowded_known s (k + 1) ps) (uncrowded_known (s + 1) k ps l) e
  where
    split : (b c d : Bool) → nat_lt 64 (k + 1) ≡ c → (k + 1 ≤ 64 → crowded s (k + 1) ps ≡ None → k + 1 + number is_known ps ≤ 64) → (crowded (s + 1) k ps ≡ None → k + number is_known ps ≤ 64)
        → cond b (cond c (Some true) (crowded s (k + 1) ps)) (cond d (Some false) (crowded (s + 1) k ps)) ≡ None
        → k + length (cond b (p ∷ filter is_known ps) (filter is_known ps)) ≤ 64
    split true true d is more others e = absurd (cc)
    split true false d is more others e =
        let room : k + 1 ≤ 64 = grind (arith, nat_tests) in
        omega (arith, more room e)
    split false c true is more others e = absurd (cc)
    split false c false is more others e = others e

uncrowded_strands : (s k : ℕ) (ps : List Node) → s ≤ 32 → crowded s k ps ≡ None → s + number is_strand_part ps ≤ 32
uncrowded_strands s k [] l e = omega arith
uncrowded_strands s k (p ∷ ps) l e = split (is_known p) (nat_lt 64 (k + 1)) (nat_lt 32 (s + 1)) refl (uncrowded_strands (s + 1) k ps) (uncrowded_strands s (k + 1) ps l) e
  where
    split : (b c d : Bool) → nat_lt 32 (s + 1) ≡ d → (s + 1 ≤ 32 → crowded (s + 1) k ps ≡ None → s + 1 + number is_strand_part ps ≤ 32) → (crowded s (k + 1) ps ≡ None → s + number is_strand_part ps ≤ 32)
        → cond b (cond c (Some true) (crowded s (k + 1) ps)) (cond d (Some false) (crowded (s + 1) k ps)) ≡ None
        → s + length (cond (not b) (p ∷ filter is_strand_part ps) (filter is_strand_part ps)) ≤ 32
    split false c true is more others e = absurd (cc)
    split false c false is more others e =
        let room : s + 1 ≤ 32 = grind (arith, nat_tests) in
        omega (arith, more room e)
    split true true d is more others e = absurd (cc)
    split true false d is more others e = others e

parts_known : (item : Node) → parts_past item ≡ None → is_aim item ≡ true → number is_known (parts_of item) ≤ 64
parts_known item e is =
    let none = unmapped (crowd (parts_of item)) (crowded 0 0 (parts_of item)) (held (is_aim item) (option_map (crowd (parts_of item)) (crowded 0 0 (parts_of item))) e is) in
    omega (arith, uncrowded_known 0 0 (parts_of item) (omega arith) none)

parts_strands : (item : Node) → parts_past item ≡ None → is_aim item ≡ true → number is_strand_part (parts_of item) ≤ 32
parts_strands item e is =
    let none = unmapped (crowd (parts_of item)) (crowded 0 0 (parts_of item)) (held (is_aim item) (option_map (crowd (parts_of item)) (crowded 0 0 (parts_of item))) e is) in
    omega (arith, uncrowded_strands 0 0 (parts_of item) (omega arith) none)

item_within : (item : Node) → args_past item ≡ None → events_past item ≡ None → params_past item ≡ None → parts_past item ≡ None → symbols_past item ≡ None → IsItemWithin item
item_within item a e p q s =
    let strand = where_is (is_strand item) (past part.Symbols 1024 (total (sizes_of (children_of item)))) in
    let aim = where_is (is_eq item || is_aim item) (first_passed (map (past part.Symbols 1024) (sizes_of (children_of item)))) in
    record {
      args = λ is. within part.Args 16 (args_of item) (held (is_op item) (past part.Args 16 (args_of item)) a is);
      events = λ is. within part.Events 32 (events_of item) (held (is_strand item) (past part.Events 32 (events_of item)) e is);
      params = λ is. within part.Params 64 (params_of (children_of item)) (held (is_strand item) (past part.Params 64 (params_of (children_of item))) p is);
      symbols = λ is. within part.Symbols 1024 (total (sizes_of (children_of item))) (held (is_strand item) (past part.Symbols 1024 (total (sizes_of (children_of item)))) (left_none strand aim s) is);
      strand_parts = parts_strands item q;
      known_parts = parts_known item q;
      terms = λ is k size at. within part.Symbols 1024 size
          (none_in (past part.Symbols 1024) (sizes_of (children_of item)) (held (is_eq item || is_aim item) (first_passed (map (past part.Symbols 1024) (sizes_of (children_of item)))) (right_none strand aim s) is) k size at);
    }

-- the rows one after another
module _ (a b c d e f g h i j : Passed) where
  abbrev from_j : Passed
  from_j = option_or j None

  abbrev from_i : Passed
  from_i = option_or i from_j

  abbrev from_h : Passed
  from_h = option_or h from_i

  abbrev from_g : Passed
  from_g = option_or g from_h

  abbrev from_f : Passed
  from_f = option_or f from_g

  abbrev from_e : Passed
  from_e = option_or e from_f

  abbrev from_d : Passed
  from_d = option_or d from_e

  abbrev from_c : Passed
  from_c = option_or c from_d

  abbrev from_b : Passed
  from_b = option_or b from_c

  rows_none : option_or a from_b ≡ None → (a ≡ None) × (b ≡ None) × (c ≡ None) × (d ≡ None) × (e ≡ None) × (f ≡ None) × (g ≡ None) × (h ≡ None) × (i ≡ None) × (j ≡ None)
  rows_none n =
      let nb = right_none a from_b n in
      let nc = right_none b from_c nb in
      let nd = right_none c from_d nc in
      let ne = right_none d from_e nd in
      let nf = right_none e from_f ne in
      let ng = right_none f from_g nf in
      let nh = right_none g from_h ng in
      let ni = right_none h from_i nh in
      let nj = right_none i from_j ni in
      (left_none a from_b n, left_none b from_c nb, left_none c from_d nc, left_none d from_e nd, left_none e from_f ne, left_none f from_g nf, left_none g from_h ng, left_none h from_i nh, left_none i from_j ni, left_none j None nj)

pub kept_limits : (nodes : List Node) → limit_of nodes ≡ None → AreWithin (items_of nodes)
kept_limits nodes e =
    let items = items_of nodes in
    let none = rows_none (past part.Sorts 256 (number is_sort items)) (past part.Ops 4096 (number is_op items)) (first_passed (map args_past items)) (past part.Equations 256 (number is_eq items))
    (past part.Strands 1024 (number is_strand items)) (first_passed (map events_past items)) (first_passed (map params_past items))
    (past part.Aims 256 (number is_aim items)) (first_passed (map parts_past items)) (first_passed (map symbols_past items)) e in
    record {
      sorts = within part.Sorts 256 (number is_sort items) none.0;
      ops = within part.Ops 4096 (number is_op items) none.1;
      equations = within part.Equations 256 (number is_eq items) none.3;
      strands = within part.Strands 1024 (number is_strand items) none.4;
      aims = within part.Aims 256 (number is_aim items) none.7;
      each = λ k item at. item_within item (none_in args_past items none.2 k item at) (none_in events_past items none.5 k item at) (none_in params_past items none.6 k item at)
          (none_in parts_past items none.8 k item at) (none_in symbols_past items none.9 k item at);
    }

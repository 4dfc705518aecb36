-- What functions that go down terms under bindings need of them.
use Rattle.std.proofs.Common.{◌≡◌, ℕ, zero, suc, ◌+◌, ◌<◌, ◌≤◌, Bool, true, false, cond, List, [], ◌∷◌, ◌++◌, map, drop, get_or, length, refl, sym, ◌∙◌, ap, arith}
use Rattle.std.specs.Prelude.{flat_map}
use Rattle.std.proofs.lemmas.List.{drop_more}
use Rattle.npa_term.specs.declared.term.Op.{Op}
use Rattle.npa_term.specs.declared.term.Var.{Var as Variable}
use Rattle.npa_term.specs.declared.term.Term.{Term, Var, Name, App}
use Rattle.npa_term.specs.Bound.{same_var}
use Rattle.npa_term.specs.Canonical.{canonical, ordered}
use Rattle.npa_term.specs.Symbols.{symbol_count, all_count}
use Rattle.npa_term.specs.Variables.{variables}
use Rattle.npa_term.proofs.Rows.{canonical_made, count_argument, count_member, symbol_count_at, variables_at}
use Rattle.npa_unify.specs.Branches.{has_var}
use Rattle.npa_unify.specs.Seen.{full, walked, IsSound, IsUnbound}
use Rattle.npa_unify.proofs.Seeing.{full_app, full_name, full_unbound, walk_var, walk_name, walk_app}

pub map_length : (h : Term → Term) (ts : List Term) → length (map h ts) ≡ length ts
map_length h [] = refl
map_length h (t ∷ ts) = let rest : length (map h ts) ≡ length ts = map_length h ts in omega (arith, rest)

pub map_at : (h : Term → Term) (ts : List Term) (i : ℕ) (d : Term) → i < length ts → get_or (map h ts) i (h d) ≡ h (get_or ts i d)
map_at h [] i d small = absurd (let none : ⊥ = omega (arith, small) in none)
map_at h (t ∷ ts) zero d small = refl
map_at h (t ∷ ts) (suc i) d small = map_at h ts i d (omega (arith, small))

map_map : (h k : Term → Term) (ts : List Term) → map h (map k ts) ≡ map (λ t. h (k t)) ts
map_map h k [] = refl
map_map h k (t ∷ ts) = ap (λ us. h (k t) ∷ us) (map_map h k ts)

-- what an argument stands for is smaller than what the application does
pub part_smaller : (bs : List (Variable × Term)) (t : Term) (f : Op) (ts : List Term) (i : ℕ) (d : Term) → IsSound bs → App f ts ≡ walked bs t → i < length ts → d ≡ get_or ts i d →
    symbol_count (full bs d) < symbol_count (full bs t)
part_smaller bs t f ts i d sound e small is =
    let long : length (map (full bs) ts) ≡ length ts = map_length (full bs) ts in
    count_argument (full bs t) f (map (full bs) ts) i (full bs d) (walk_app bs t f ts sound e) (omega (arith, small, long))
    (ap (full bs) is ∙ sym (map_at (full bs) ts i d small))

-- and so are all arguments of a member of a list
pub parts_smaller : (bs : List (Variable × Term)) (us : List Term) (i : ℕ) (t : Term) (f : Op) (ts : List Term) → IsSound bs → i < length us → t ≡ get_or us i t → App f ts ≡ walked bs t →
    all_count (map (full bs) ts) < all_count (map (full bs) us)
parts_smaller bs us i t f ts sound small is e =
    let long : length (map (full bs) us) ≡ length us = map_length (full bs) us in
    let whole : symbol_count (full bs t) ≡ 1 + all_count (map (full bs) ts) = symbol_count_at (full bs t) f (map (full bs) ts) (walk_app bs t f ts sound e) in
    let member : symbol_count (get_or (map (full bs) us) i (full bs t)) ≤ all_count (map (full bs) us) = count_member (map (full bs) us) i (full bs t) (omega (arith, small, long)) in
    let same : get_or (map (full bs) us) i (full bs t) ≡ full bs t = map_at (full bs) us i t small ∙ ap (full bs) (sym is) in
    let count : symbol_count (get_or (map (full bs) us) i (full bs t)) ≡ symbol_count (full bs t) = ap symbol_count same in
    omega (arith, whole, member, count)

-- canonical forms

pub made_variable : (bs : List (Variable × Term)) (t : Term) (w : Variable) → IsSound bs → Var w ≡ walked bs t → Var w ≡ canonical (full bs t)
made_variable bs t w sound e = sym (ap canonical (walk_var bs t w sound e))

pub made_name : (bs : List (Variable × Term)) (t : Term) (n : ℕ) → IsSound bs → Name n ≡ walked bs t → Name n ≡ canonical (full bs t)
made_name bs t n sound e = sym (ap canonical (walk_name bs t n sound e))

pub made_app : (bs : List (Variable × Term)) (t : Term) (f : Op) (ts us made : List Term) → IsSound bs → App f ts ≡ walked bs t → us ≡ ordered f made →
    made ≡ map (λ x. canonical (full bs x)) ts → App f us ≡ canonical (full bs t)
made_app bs t f ts us made sound e sorted is =
    canonical_made (full bs t) f (map (full bs) ts) us made (walk_app bs t f ts sound e) sorted (is ∙ sym (map_map canonical (full bs) ts))

-- occurrences

has_var_behind : (xs ys : List Variable) (v : Variable) → has_var (xs ++ ys) v ≡ cond (has_var xs v) true (has_var ys v)
has_var_behind [] ys v = refl
has_var_behind (x ∷ xs) ys v =
    elim (same_var x v) as (λ b. cond b true (has_var (xs ++ ys) v) ≡ cond (cond b true (has_var xs v)) true (has_var ys v)) [ true ↦ refl | false ↦ has_var_behind xs ys v ]

abbrev all_variables : List (Variable × Term) → List Term → List Variable
all_variables bs ts = flat_map variables (map (full bs) ts)

first_occurs : (bs : List (Variable × Term)) (ts : List Term) (i : ℕ) (t : Term) (v : Variable) → i < length ts → t ≡ get_or ts i t →
    has_var (all_variables bs (drop i ts)) v ≡ cond (has_var (variables (full bs t)) v) true (has_var (all_variables bs (drop (i + 1) ts)) v)
first_occurs bs ts i t v small is =
    ap (λ us. has_var (all_variables bs us) v) (drop_more ts i t small ∙ ap (λ u. u ∷ drop (i + 1) ts) (sym is))
    ∙ has_var_behind (variables (full bs t)) (all_variables bs (drop (i + 1) ts)) v

pub occurs_here : (bs : List (Variable × Term)) (ts : List Term) (i : ℕ) (t : Term) (v : Variable) → i < length ts → t ≡ get_or ts i t →
    has_var (all_variables bs (drop i ts)) v ≡ has_var (all_variables bs ts) v → has_var (variables (full bs t)) v ≡ true → true ≡ has_var (all_variables bs ts) v
occurs_here bs ts i t v small is kept found =
    sym (ap (λ b. cond b true (has_var (all_variables bs (drop (i + 1) ts)) v)) found) ∙ sym (first_occurs bs ts i t v small is) ∙ kept

pub occurs_later : (bs : List (Variable × Term)) (ts : List Term) (i : ℕ) (t : Term) (v : Variable) → i < length ts → t ≡ get_or ts i t →
    has_var (all_variables bs (drop i ts)) v ≡ has_var (all_variables bs ts) v → has_var (variables (full bs t)) v ≡ false →
    has_var (all_variables bs (drop (i + 1) ts)) v ≡ has_var (all_variables bs ts) v
occurs_later bs ts i t v small is kept missing =
    sym (ap (λ b. cond b true (has_var (all_variables bs (drop (i + 1) ts)) v)) missing) ∙ sym (first_occurs bs ts i t v small is) ∙ kept

pub occurs_variable : (bs : List (Variable × Term)) (t : Term) (w v : Variable) (b : Bool) → IsSound bs → Var w ≡ walked bs t → b ≡ same_var w v → has_var (variables (full bs t)) v ≡ b
occurs_variable bs t w v b sound e is =
    ap (λ x. has_var (variables x) v) (walk_var bs t w sound e)
    ∙ (elim (same_var w v) as (λ c. cond c true false ≡ c) [ true ↦ refl | false ↦ refl ]) ∙ sym is

pub occurs_name : (bs : List (Variable × Term)) (t : Term) (n : ℕ) (v : Variable) → IsSound bs → Name n ≡ walked bs t → has_var (variables (full bs t)) v ≡ false
occurs_name bs t n v sound e = ap (λ x. has_var (variables x) v) (walk_name bs t n sound e)

pub occurs_app : (bs : List (Variable × Term)) (t : Term) (f : Op) (ts : List Term) (v : Variable) (b : Bool) → IsSound bs → App f ts ≡ walked bs t → b ≡ has_var (all_variables bs ts) v →
    has_var (variables (full bs t)) v ≡ b
occurs_app bs t f ts v b sound e is =
    ap (λ l. has_var l v) (variables_at (full bs t) f (map (full bs) ts) (walk_app bs t f ts sound e)) ∙ sym is

-- heads

pub head_variable : (bs : List (Variable × Term)) (t : Term) (w : Variable) → IsUnbound bs t → t ≡ Var w → full bs t ≡ Var w
head_variable bs t w other e = ap (full bs) e ∙ full_unbound bs w (other w e)

pub in_variable : (bs : List (Variable × Term)) (t : Term) (w v : Variable) (b : Bool) → IsUnbound bs t → t ≡ Var w → b ≡ same_var w v → b ≡ has_var (variables (full bs t)) v
in_variable bs t w v b other e is =
    is ∙ (elim (same_var w v) as (λ c. c ≡ cond c true false) [ true ↦ refl | false ↦ refl ])
    ∙ sym (ap (λ x. has_var (variables x) v) (head_variable bs t w other e))

pub in_name : (bs : List (Variable × Term)) (t : Term) (n : ℕ) (v : Variable) → t ≡ Name n → false ≡ has_var (variables (full bs t)) v
in_name bs t n v e = sym (ap (λ x. has_var (variables x) v) (ap (full bs) e ∙ full_name bs n))

pub in_app : (bs : List (Variable × Term)) (t : Term) (f : Op) (ts : List Term) (v : Variable) (b : Bool) → t ≡ App f ts → b ≡ has_var (all_variables bs ts) v →
    b ≡ has_var (variables (full bs t)) v
in_app bs t f ts v b e is = is ∙ sym (ap (λ l. has_var l v) (variables_at (full bs t) f (map (full bs) ts) (ap (full bs) e ∙ full_app bs f ts)))

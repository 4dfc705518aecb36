-- The applications in the arguments of an operator.
use Rattle.std.proofs.Common.{◌≡◌, ℕ, zero, suc, ◌-◌, ◌<◌, length, get_or, List, [], ◌∷◌, ◌++◌, map, Option, None, Some, refl, sym, ◌∙◌, ap, subst, arith}
use Rattle.std.specs.Prelude.{flat_map}
use Rattle.std.specs.Borrow.{Bor}
use Rattle.std.proofs.lemmas.List.{append_assoc, map-append}
use Rattle.npa_term.specs.declared.term.Op.{Op}
use Rattle.npa_term.specs.declared.term.Var.{Var as Variable}
use Rattle.npa_term.specs.declared.term.Term.{Term, Var, Name, App, Row_of-Term, end_of-Term, more_of-Term, items-the_row-Term, items_hidden-the_row-Term-0}
use Rattle.npa_term.specs.declared.term.Term.TheBlock.{hidden-the_row-Term-0}
use Rattle.npa_conv.specs.Overlaps.{holes, list_holes}
use Rattle.npa_conv.specs.Places.{hole_at, parts, seen, exchanged, row_exchanged, list_exchanged}
use Rattle.npa_conv.proofs.Holes.{holes_app}

firsts_under : {A B C : Type 0} (f : B → C) (ps : List (A × B)) → map (λ (p : A × C). p.0) (map (λ (p : A × B). (p.0, f p.1)) ps) ≡ map (λ (p : A × B). p.0) ps
firsts_under f [] = refl
firsts_under f (p ∷ ps) = ap (λ us. p.0 ∷ us) (firsts_under f ps)

list_parts : (ts : List Term) → map (λ (p : Term × List Term). p.0) (list_holes ts) ≡ flat_map parts ts
list_parts [] = refl
list_parts (t ∷ ts) =
    let first : List (Term × List Term) = map (λ (p : Term × Term). (p.0, p.1 ∷ ts)) (holes t) in
    let rest : List (Term × List Term) = map (λ (p : Term × List Term). (p.0, t ∷ p.1)) (list_holes ts) in
    map-append (λ (p : Term × List Term). p.0) first rest
    ∙ ap (λ us. us ++ map (λ (p : Term × List Term). p.0) rest) (firsts_under (λ u. u ∷ ts) (holes t))
    ∙ ap (λ us. parts t ++ us) (firsts_under (λ us. t ∷ us) (list_holes ts) ∙ list_parts ts)

-- an application's parts are itself and those of its arguments
pub parts_at : (t : Term) (op : Op) (ts : List Term) → t ≡ App op ts → parts t ≡ t ∷ flat_map parts ts
parts_at t op ts e =
    ap parts e ∙ ap (map (λ (p : Term × Term). p.0)) (holes_app op ts)
    ∙ ap (λ us. App op ts ∷ us) (firsts_under (App op) (list_holes ts) ∙ list_parts ts)
    ∙ ap (λ u. u ∷ flat_map parts ts) (sym e)

pub parts_var : (t : Term) (v : Variable) → t ≡ Var v → parts t ≡ []
parts_var t v e = ap parts e

pub parts_name : (t : Term) (n : ℕ) → t ≡ Name n → parts t ≡ []
parts_name t n e = ap parts e

row_exchanged_is : {n : _} (by : Term) (k : Row_of-Term n) (at : Option ℕ) → row_exchanged by k at ≡ list_exchanged by (items-the_row-Term n k) at
row_exchanged_is by end_of-Term at = refl
row_exchanged_is by (more_of-Term t rest) at =
    ap (λ x. ((exchanged by t at).0 ∷ x.0, x.1)) (row_exchanged_is by rest (exchanged by t at).1)

pub exchanged_at : (by t : Term) (op : Op) (ts : List Term) (k : ℕ) → t ≡ App op ts →
    exchanged by t (Some (suc k)) ≡ (App op (list_exchanged by ts (Some k)).0, (list_exchanged by ts (Some k)).1)
exchanged_at by t op ts k e =
    let row = hidden-the_row-Term-0 ts in
    ap (λ u. exchanged by u (Some (suc k))) e
    ∙ ap (λ x. (App op x.0, x.1)) (row_exchanged_is by row (Some k) ∙ ap (λ us. list_exchanged by us (Some k)) (items_hidden-the_row-Term-0 ts))

pub exchanged_here : (by t : Term) (op : Op) (ts : List Term) → t ≡ App op ts → exchanged by t (Some zero) ≡ (by, None)
exchanged_here by t op ts e = ap (λ u. exchanged by u (Some zero)) e

exchanged_before : (by t : Term) (op : Op) (ts : List Term) (place : Option ℕ) (at : ℕ) → t ≡ App op ts → place ≡ Some at → 0 < at →
    exchanged by t place ≡ (App op (list_exchanged by ts (Some (at - 1))).0, (list_exchanged by ts (Some (at - 1))).1)
exchanged_before by t op ts place at is told more =
    let count : at ≡ suc (at - 1) = omega (arith, more) in
    ap (exchanged by t) (told ∙ ap Some count) ∙ exchanged_at by t op ts (at - 1) is

-- the term with the exchange in its arguments, and the place behind it
pub exchanged_made : (by t : Term) (op : Op) (ts : List Term) (place : Option ℕ) (at : ℕ) → t ≡ App op ts → place ≡ Some at → 0 < at →
    (items made : List Term) → items ≡ ts → made ≡ (list_exchanged by items (Some (at - 1))).0 → App op made ≡ (exchanged by t place).0
exchanged_made by t op ts place at is told more items made same e =
    ap (App op) (e ∙ ap (λ us. (list_exchanged by us (Some (at - 1))).0) same)
    ∙ sym (ap (λ (x : Term × Option ℕ). x.0) (exchanged_before by t op ts place at is told more))

pub exchanged_left : (by t : Term) (op : Op) (ts : List Term) (place : Option ℕ) (at : ℕ) → t ≡ App op ts → place ≡ Some at → 0 < at →
    (items : List Term) (left : Option ℕ) → items ≡ ts → left ≡ (list_exchanged by items (Some (at - 1))).1 → left ≡ (exchanged by t place).1
exchanged_left by t op ts place at is told more items left same e =
    e ∙ ap (λ us. (list_exchanged by us (Some (at - 1))).1) same
    ∙ sym (ap (λ (x : Term × Option ℕ). x.1) (exchanged_before by t op ts place at is told more))

-- an application is added, and then those in its arguments
pub added_all : (old pushed new : List (Bor Term)) (r : Bor Term) (t : Term) (op : Op) (ts items : List Term) → t ≡ App op ts → items ≡ ts → r.now ≡ t →
    pushed ≡ old ++ r ∷ [] → seen new ≡ seen pushed ++ flat_map parts items → seen new ≡ seen old ++ parts t
added_all old pushed new r t op ts items is same now more e =
    e ∙ ap (λ us. us ++ flat_map parts items) (ap seen more ∙ map-append (λ (b : Bor Term). b.now) old (r ∷ []))
    ∙ append_assoc (seen old) (r.now ∷ []) (flat_map parts items)
    ∙ ap (λ us. seen old ++ us) (ap (λ u. u ∷ flat_map parts items) now ∙ ap (λ us. t ∷ flat_map parts us) same ∙ sym (parts_at t op ts is))

-- the reference at a place is to the part at that place
map_length : {A B : Type 0} (f : A → B) (xs : List A) → length (map f xs) ≡ length xs
map_length f [] = refl
map_length f (x ∷ xs) = ap suc (map_length f xs)

length_seen : (items : List (Bor Term)) (t : Term) → seen items ≡ parts t → length items ≡ length (holes t)
length_seen items t e = sym (map_length (λ (b : Bor Term). b.now) items) ∙ ap length e ∙ map_length (λ (p : Term × Term). p.0) (holes t)

pub placed_within : (items : List (Bor Term)) (t : Term) (k : ℕ) → seen items ≡ parts t → k < length items → k < length (holes t)
placed_within items t k e small = subst (λ n. k < n) (length_seen items t e) small

get_map : {A B : Type 0} (f : A → B) (xs : List A) (k : ℕ) (d : B) (e : A) → k < length xs → get_or (map f xs) k d ≡ f (get_or xs k e)
get_map f [] k d e small = absurd (let never : ⊥ = omega (arith, small) in never)
get_map f (x ∷ xs) zero d e small = refl
get_map f (x ∷ xs) (suc k) d e small = get_map f xs k d e (omega (arith, small))

pub placed_part : (items : List (Bor Term)) (t : Term) (k : ℕ) (r : Bor Term) → seen items ≡ parts t → k < length items → r ≡ get_or items k r → r.now ≡ (hole_at t k).0
placed_part items t k r e small is =
    ap (λ (b : Bor Term). b.now) is ∙ sym (get_map (λ (b : Bor Term). b.now) items k t r small)
    ∙ ap (λ ts. get_or ts k t) e ∙ get_map (λ (p : Term × Term). p.0) (holes t) k t (t, t) (placed_within items t k e small)

-- the member at a place is so whatever stands for none
pub get_or_same : {A : Type 0} (xs : List A) (k : ℕ) (d : A) → k < length xs → get_or xs k d ≡ get_or xs k (get_or xs k d)
get_or_same [] k d small = absurd (let never : ⊥ = omega (arith, small) in never)
get_or_same (x ∷ xs) zero d small = refl
get_or_same (x ∷ xs) (suc k) d small = get_or_same xs k d (omega (arith, small))

-- A term in which the application at a place is exchanged is the term with the hole there, with the other
-- term put into the hole.
use Rattle.std.proofs.Common.{◌≡◌, ℕ, zero, suc, ◌+◌, ◌<◌, Option, Some, None, List, [], ◌∷◌, ◌++◌, length, map, get_or, refl, sym, ◌∙◌, ap, subst, arith}
use Rattle.std.specs.Prelude.{Contains}
use Rattle.std.specs.List.{flat_map}
use Rattle.std.proofs.lemmas.List.{map-append}
use Rattle.std.proofs.lemmas.List.Elements.{Contains-append_left, Contains-append_right}
use Rattle.npa_term.specs.declared.term.Op.{Op}
use Rattle.npa_term.specs.declared.term.Var.{Var as Variable}
use Rattle.npa_term.specs.declared.term.Term.{Term, Var, Name, App}
use Rattle.npa_term.specs.Bound.{applied}
use Rattle.npa_term.specs.Variables.{variables}
use Rattle.npa_term.proofs.AppliedLaws.{applied-empty}
use Rattle.npa_term.proofs.Induction.{Each, by_terms}
use Rattle.npa_term.proofs.Rows.{applied_app, variables_at}
use Rattle.npa_conv.specs.Overlaps.{hole, holes, list_holes}
use Rattle.npa_conv.specs.Places.{exchanged, list_exchanged, hole_at}
use Rattle.npa_conv.proofs.Applications.{exchanged_at, exchanged_here}
use Rattle.npa_conv.proofs.Holes.{bound_image, holes_app, plain}

-- the member at a place, and none left; where there is none, another one, with the places that are left
abbrev pick : {A : Type 0} → List A → A → ℕ → A × Option ℕ
pick [] d k = (d, Some k)
pick (x ∷ xs) d zero = (x, None)
pick (x ∷ xs) d (suc k) = pick xs d k

-- what is picked of further members
abbrev then : {A : Type 0} → A → Option ℕ → List A → A → A × Option ℕ
then x None ys d = (x, None)
then x (Some k) ys d = pick ys d k

pick-append : {A : Type 0} (xs ys : List A) (d : A) (k : ℕ) → pick (xs ++ ys) d k ≡ then (pick xs d k).0 (pick xs d k).1 ys d
pick-append [] ys d k = refl
pick-append (x ∷ xs) ys d zero = refl
pick-append (x ∷ xs) ys d (suc k) = pick-append xs ys d k

pick-map : {A B : Type 0} (f : A → B) (xs : List A) (d : A) (k : ℕ) → pick (map f xs) (f d) k ≡ (f (pick xs d k).0, (pick xs d k).1)
pick-map f [] d k = refl
pick-map f (x ∷ xs) d zero = refl
pick-map f (x ∷ xs) d (suc k) = pick-map f xs d k

pick_missed : {A : Type 0} (xs : List A) (d : A) (k j : ℕ) → (pick xs d k).1 ≡ Some j → (pick xs d k).0 ≡ d
pick_missed [] d k j e = refl
pick_missed (x ∷ xs) d zero j e = cc
pick_missed (x ∷ xs) d (suc k) j e = pick_missed xs d k j e

pick_at : {A B : Type 0} (f : A → B) (xs : List A) (d : B) (e : A) (k : ℕ) → k < length xs → (pick (map f xs) d k).0 ≡ f (get_or xs k e)
pick_at f [] d e k small = absurd (let never : ⊥ = omega (arith, small) in never)
pick_at f (x ∷ xs) d e zero small = refl
pick_at f (x ∷ xs) d e (suc k) small = pick_at f xs d e k (omega (arith, small))

-- the terms that come of the exchanges, one for each application
abbrev put : Term → Term → List Term
put by t = map (λ (p : Term × Term). applied ((hole, by) ∷ []) p.1) (holes t)

abbrev list_put : Term → List Term → List (List Term)
list_put by ts = map (λ (p : Term × List Term). map (applied ((hole, by) ∷ [])) p.1) (list_holes ts)

maps : {A B C : Type 0} (f : A → B) (g : B → C) (h : A → C) → ((x : A) → g (f x) ≡ h x) → (xs : List A) → map g (map f xs) ≡ map h xs
maps f g h e [] = refl
maps f g h e (x ∷ xs) = ap (λ y. y ∷ map g (map f xs)) (e x) ∙ ap (λ ys. h x ∷ ys) (maps f g h e xs)

same_maps : {A B : Type 0} (f g : A → B) → ((x : A) → f x ≡ g x) → (xs : List A) → map f xs ≡ map g xs
same_maps f g e [] = refl
same_maps f g e (x ∷ xs) = ap (λ y. y ∷ map f xs) (e x) ∙ ap (λ ys. g x ∷ ys) (same_maps f g e xs)

-- a term without the hole stays
kept : (by t : Term) → (Contains (variables t) hole → ⊥) → applied ((hole, by) ∷ []) t ≡ t
kept by t free = sym (plain [] by t free) ∙ applied-empty t

kept_all : (by : Term) (ts : List Term) → (Contains (flat_map variables ts) hole → ⊥) → map (applied ((hole, by) ∷ [])) ts ≡ ts
kept_all by [] free = refl
kept_all by (t ∷ ts) free =
    ap (λ u. u ∷ map (applied ((hole, by) ∷ [])) ts) (kept by t (λ c. free (Contains-append_left (variables t) (flat_map variables ts) hole c)))
    ∙ ap (λ us. t ∷ us) (kept_all by ts (λ c. free (Contains-append_right (variables t) (flat_map variables ts) hole c)))

put_app : (by : Term) (op : Op) (ts : List Term) → put by (App op ts) ≡ by ∷ map (App op) (list_put by ts)
put_app by op ts =
    let f : Term × Term → Term = λ p. applied ((hole, by) ∷ []) p.1 in
    let under : Term × List Term → Term × Term = λ p. (p.0, App op p.1) in
    let g : Term × List Term → List Term = λ p. map (applied ((hole, by) ∷ [])) p.1 in
    ap (map f) (holes_app op ts)
    ∙ ap (λ u. u ∷ map f (map under (list_holes ts))) (bound_image [] hole by)
    ∙ ap (λ us. by ∷ us) (maps under f (λ p. App op (g p)) (λ p. applied_app ((hole, by) ∷ []) op p.1) (list_holes ts)
    ∙ sym (maps g (App op) (λ p. App op (g p)) (λ p. refl) (list_holes ts)))

list_put_more : (by t : Term) (ts : List Term) → (Contains (flat_map variables (t ∷ ts)) hole → ⊥) →
    list_put by (t ∷ ts) ≡ map (λ u. u ∷ ts) (put by t) ++ map (λ us. t ∷ us) (list_put by ts)
list_put_more by t ts free =
    let f : Term × Term → Term = λ p. applied ((hole, by) ∷ []) p.1 in
    let g : Term × List Term → List Term = λ p. map (applied ((hole, by) ∷ [])) p.1 in
    let first : Term × Term → Term × List Term = λ p. (p.0, p.1 ∷ ts) in
    let rest : Term × List Term → Term × List Term = λ p. (p.0, t ∷ p.1) in
    let one = kept by t (λ c. free (Contains-append_left (variables t) (flat_map variables ts) hole c)) in
    let others = kept_all by ts (λ c. free (Contains-append_right (variables t) (flat_map variables ts) hole c)) in
    map-append g (map first (holes t)) (map rest (list_holes ts))
    ∙ ap (λ us. us ++ map g (map rest (list_holes ts)))
    (maps first g (λ p. f p ∷ ts) (λ p. ap (λ us. f p ∷ us) others) (holes t) ∙ sym (maps f (λ u. u ∷ ts) (λ p. f p ∷ ts) (λ p. refl) (holes t)))
    ∙ ap (λ us. map (λ u. u ∷ ts) (put by t) ++ us)
    (maps rest g (λ p. t ∷ g p) (λ p. ap (λ u. u ∷ g p) one) (list_holes ts) ∙ sym (maps g (λ us. t ∷ us) (λ p. t ∷ g p) (λ p. refl) (list_holes ts)))

done : (by t : Term) → exchanged by t None ≡ (t, None)
done by = by_terms (λ t. exchanged by t None ≡ (t, None)) (λ v. refl) (λ n. refl) (λ op ts each. refl)

done_all : (by : Term) (ts : List Term) → list_exchanged by ts None ≡ (ts, None)
done_all by [] = refl
done_all by (t ∷ ts) =
    ap (λ (x : Term × Option ℕ). (x.0 ∷ (list_exchanged by ts x.1).0, (list_exchanged by ts x.1).1)) (done by t)
    ∙ ap (λ (y : List Term × Option ℕ). (t ∷ y.0, y.1)) (done_all by ts)

abbrev Picked : Term → Term → Type 0
Picked by t = (Contains (variables t) hole → ⊥) → (k : ℕ) → exchanged by t (Some k) ≡ pick (put by t) t k

-- the exchange in the members behind the first one
behind_first : (by t : Term) (ts : List Term) → ((k : ℕ) → list_exchanged by ts (Some k) ≡ pick (list_put by ts) ts k) →
    (x : Term) (o : Option ℕ) → ((j : ℕ) → o ≡ Some j → x ≡ t) →
    (x ∷ (list_exchanged by ts o).0, (list_exchanged by ts o).1) ≡ then (x ∷ ts) o (map (λ us. t ∷ us) (list_put by ts)) (t ∷ ts)
behind_first by t ts rest x None missed = ap (λ (y : List Term × Option ℕ). (x ∷ y.0, y.1)) (done_all by ts)
behind_first by t ts rest x (Some j) missed =
    ap (λ (y : List Term × Option ℕ). (x ∷ y.0, y.1)) (rest j)
    ∙ ap (λ u. (u ∷ (pick (list_put by ts) ts j).0, (pick (list_put by ts) ts j).1)) (missed j refl)
    ∙ sym (pick-map (λ us. t ∷ us) (list_put by ts) ts j)

picked_all : (by : Term) (ts : List Term) → Each (Picked by) ts → (Contains (flat_map variables ts) hole → ⊥) → (k : ℕ) →
    list_exchanged by ts (Some k) ≡ pick (list_put by ts) ts k
picked_all by [] each free k = refl
picked_all by (t ∷ ts) each free k =
    let first = each.0 (λ c. free (Contains-append_left (variables t) (flat_map variables ts) hole c)) k in
    let rest : (j : ℕ) → list_exchanged by ts (Some j) ≡ pick (list_put by ts) ts j =
    picked_all by ts each.1 (λ c. free (Contains-append_right (variables t) (flat_map variables ts) hole c)) in
    let x : Term × Option ℕ = pick (put by t) t k in
    ap (λ (x : Term × Option ℕ). (x.0 ∷ (list_exchanged by ts x.1).0, (list_exchanged by ts x.1).1)) first
    ∙ behind_first by t ts rest x.0 x.1 (λ j e. pick_missed (put by t) t k j e)
    ∙ ap (λ (y : List Term × Option ℕ). then y.0 y.1 (map (λ us. t ∷ us) (list_put by ts)) (t ∷ ts)) (sym (pick-map (λ u. u ∷ ts) (put by t) t k))
    ∙ sym (pick-append (map (λ u. u ∷ ts) (put by t)) (map (λ us. t ∷ us) (list_put by ts)) (t ∷ ts) k)
    ∙ ap (λ ps. pick ps (t ∷ ts) k) (sym (list_put_more by t ts free))

picked_app : (by : Term) (op : Op) (ts : List Term) → Each (Picked by) ts → (Contains (variables (App op ts)) hole → ⊥) → (k : ℕ) →
    exchanged by (App op ts) (Some k) ≡ pick (by ∷ map (App op) (list_put by ts)) (App op ts) k
picked_app by op ts each free zero = exchanged_here by (App op ts) op ts refl
picked_app by op ts each free (suc k) =
    exchanged_at by (App op ts) op ts k refl
    ∙ ap (λ (y : List Term × Option ℕ). (App op y.0, y.1)) (picked_all by ts each (λ c. free (subst (λ vs. Contains vs hole) (sym (variables_at (App op ts) op ts refl)) c)) k)
    ∙ sym (pick-map (App op) (list_put by ts) ts k)

picked : (by t : Term) → Picked by t
picked by =
    by_terms (Picked by) (λ v free k. refl) (λ n free k. refl)
    (λ op ts each free k. picked_app by op ts each free k ∙ ap (λ ps. pick ps (App op ts) k) (sym (put_app by op ts)))

-- the exchange puts the other term into the hole
pub exchanged_hole : (by t : Term) (k : ℕ) → (Contains (variables t) hole → ⊥) → k < length (holes t) →
    (exchanged by t (Some k)).0 ≡ applied ((hole, by) ∷ []) (hole_at t k).1
exchanged_hole by t k free small =
    ap (λ (y : Term × Option ℕ). y.0) (picked by t free k) ∙ pick_at (λ (p : Term × Term). applied ((hole, by) ∷ []) p.1) (holes t) t (t, t) k small

-- What holds of a term and so of its parts; the terms that a substitution has for variables.
use Rattle.std.proofs.Common.{◌≡◌, ◌≢◌, ℕ, zero, suc, ◌<◌, ◌≤◌, Bool, true, false, cond, ◌&&◌, Some, List, ◌∷◌, ◌++◌, map, refl, sym, ◌∙◌, ap, subst, inl, inr, arith, []}
use Rattle.std.specs.Ordering.{is_gt}
use Rattle.std.specs.Prelude.{Contains, flat_map, unwrap_or}
use Rattle.std.proofs.lemmas.List.Elements.{Contains-append_cases, Contains-push_cases}
use Rattle.npa_term.specs.declared.term.Op.{Op}
use Rattle.npa_term.specs.declared.term.Var.{Var as Variable}
use Rattle.npa_term.specs.declared.term.Term.{Term, Var, Name, App, App', items-the_row-Term}
use Rattle.npa_term.specs.Agreeing.{Agrees}
use Rattle.npa_term.specs.Bound.{applied, value_of}
use Rattle.npa_term.specs.Canonical.{canonical, ordered}
use Rattle.npa_term.specs.Order.{term_cmp}
use Rattle.npa_term.specs.Parts.{IsPart, whole, inside, image, least_sort}
use Rattle.npa_term.specs.Same.{Same}
use Rattle.npa_term.specs.Symbols.{symbol_count, all_count}
use Rattle.npa_term.specs.Variables.{variables, IsGround}
use Rattle.npa_term.proofs.AgreeingLaws.{agrees_arguments}
use Rattle.npa_term.proofs.CanonicalLaws.{canonical-canonical}
use Rattle.npa_term.proofs.Induction.{Each, app_items, by_terms, term_cases}
use Rattle.npa_term.proofs.Rows.{applied_count_at, canonical_app, variables_at}
use Rattle.npa_term.proofs.SameCases.{app_injective, same_app, same_only_name, same_only_var}

-- a list of one member
pub only_member : {A : Type 0} (x y : A) → Contains (x ∷ []) y → x ≡ y
only_member x y c =
    elim (Contains-push_cases [] x y c) [ inl l ↦ absurd (let none : ⊥ = omega (arith, l.1) in none) | inr e ↦ e ]

-- the members of a list of which P holds
pub each_member : (P : Term → Type 0) (ts : List Term) (t : Term) → Each P ts → Contains ts t → P t
each_member P [] t each c = absurd (let no : ⊥ = omega (arith, c.1) in no)
each_member P (u ∷ ts) t each (zero, small, is) = subst P is each.0
each_member P (u ∷ ts) t each (suc k, small, is) = each_member P ts t each.1 (k, omega (arith, small), is)

-- the arguments of a canonical term are canonical
heads_equal : (t u : Term) (ts us : List Term) → t ∷ ts ≡ u ∷ us → t ≡ u
heads_equal t u ts us e = cc

tails_equal : (t u : Term) (ts us : List Term) → t ∷ ts ≡ u ∷ us → ts ≡ us
tails_equal t u ts us e = cc

all_canonical : (ts : List Term) → map canonical ts ≡ ts → Each (λ t. canonical t ≡ t) ts
all_canonical [] e = tt
all_canonical (t ∷ ts) e = (heads_equal _ _ _ _ e, all_canonical ts (tails_equal _ _ _ _ e))

two_canonical : (t u : Term) (b : Bool) → cond b (canonical u ∷ canonical t ∷ []) (canonical t ∷ canonical u ∷ []) ≡ t ∷ u ∷ [] → Each (λ v. canonical v ≡ v) (t ∷ u ∷ [])
two_canonical t u true e =
    let first : canonical u ≡ t = heads_equal _ _ _ _ e in
    let second : canonical t ≡ u = heads_equal _ _ _ _ (tails_equal _ _ _ _ e) in
    let same : canonical t ≡ canonical u = sym (ap canonical first) ∙ canonical-canonical u in
    (same ∙ first, (sym same ∙ second, tt))
two_canonical t u false e = all_canonical (t ∷ u ∷ []) e

ordered_canonical : (op : Op) (ts : List Term) → ordered op (map canonical ts) ≡ ts → Each (λ t. canonical t ≡ t) ts
ordered_canonical op [] e = tt
ordered_canonical op (t ∷ []) e = all_canonical (t ∷ []) e
ordered_canonical op (t ∷ u ∷ []) e = two_canonical t u (op.com && is_gt (term_cmp (canonical t) (canonical u))) e
ordered_canonical op (t ∷ u ∷ v ∷ ts) e = all_canonical (t ∷ u ∷ v ∷ ts) e

pub part_canonical : {t u : Term} → IsPart t u → canonical u ≡ u → canonical t ≡ t
part_canonical whole e = e
part_canonical (inside op us u c p) e =
    let sorted : ordered op (map canonical us) ≡ us = (app_injective op op (ordered op (map canonical us)) us (sym (canonical_app op us) ∙ e)).1 in
    part_canonical p (each_member (λ v. canonical v ≡ v) us u (ordered_canonical op us sorted) c)

-- the arguments of a ground term are ground
none_left : (xs ys : List Variable) → xs ++ ys ≡ [] → xs ≡ []
none_left [] ys e = refl
none_left (x ∷ xs) ys e = cc

none_right : (xs ys : List Variable) → xs ++ ys ≡ [] → ys ≡ []
none_right [] ys e = e
none_right (x ∷ xs) ys e = cc

all_ground : (ts : List Term) → flat_map variables ts ≡ [] → Each IsGround ts
all_ground [] e = tt
all_ground (t ∷ ts) e = (none_left (variables t) (flat_map variables ts) e, all_ground ts (none_right (variables t) (flat_map variables ts) e))

pub part_ground : {t u : Term} → IsPart t u → IsGround u → IsGround t
part_ground whole e = e
part_ground (inside op us u c p) e =
    part_ground p (each_member IsGround us u (all_ground us (sym (variables_at (App op us) op us refl) ∙ e)) c)

-- the arguments of a term have its operators
pub part_agrees : (decl : ℕ → Op) {t u : Term} → IsPart t u → Agrees decl u → Agrees decl t
part_agrees decl whole a = a
part_agrees decl (inside op us u c p) a = part_agrees decl p (each_member (Agrees decl) us u (agrees_arguments decl op us a) c)

-- equal terms have one least sort
pub same_sort : (t u : Term) → Same t u → least_sort t ≡ least_sort u
same_sort t u p =
    term_cases (λ w. Same w u → least_sort w ≡ least_sort u)
    (λ v q. sym (ap least_sort (same_only_var q v refl)))
    (λ n q. sym (ap least_sort (same_only_name q n refl)))
    (λ op ts q. let is = same_app q op ts refl in sym (ap least_sort is.1)) t p

-- what the term of a variable that isn't bound, or is, says
pub image_of : (s : List (Variable × Term)) (v : Variable) (t : Term) → value_of s v ≡ Some t → image s v ≡ t
image_of s v t e = ap (λ o. unwrap_or o (Var v)) e

each_of : (P : Term → Type 0) → ((t : Term) → P t) → (ts : List Term) → Each P ts
each_of P all [] = tt
each_of P all (t ∷ ts) = (all t, each_of P all ts)

counted_members : (s : List (Variable × Term)) (v : Variable) (ts : List Term) →
    Each (λ t. Contains (variables t) v → symbol_count (applied s (Var v)) ≤ symbol_count (applied s t)) ts →
    Contains (flat_map variables ts) v → symbol_count (applied s (Var v)) ≤ all_count (map (applied s) ts)
counted_members s v [] each c = absurd (let none : ⊥ = omega (arith, c.1) in none)
counted_members s v (t ∷ ts) each c =
    elim (Contains-append_cases (variables t) (flat_map variables ts) v c) [
      | inl l ↦ let h = each.0 l in omega arith
      | inr r ↦ let h = counted_members s v ts each.1 r in omega arith
    ]

-- the term of a variable has no more symbols than the instance
counted : (s : List (Variable × Term)) (v : Variable) (t : Term) → Contains (variables t) v → symbol_count (applied s (Var v)) ≤ symbol_count (applied s t)
counted s v =
    by_terms (λ t. Contains (variables t) v → symbol_count (applied s (Var v)) ≤ symbol_count (applied s t))
    (λ w c. let same : w ≡ v = only_member w v c in subst (λ x. symbol_count (applied s (Var v)) ≤ symbol_count (applied s (Var x))) (sym same) (omega arith))
    (λ n c. absurd (let none : ⊥ = omega (arith, c.1) in none))
    (λ op ts each c.
    let whole : variables (App op ts) ≡ flat_map variables ts = variables_at (App op ts) op ts refl in
    let rest = counted_members s v ts each (subst (λ vs. Contains vs v) whole c) in
    let count = applied_count_at s (App op ts) op ts refl in
    omega arith)

-- of an application it has fewer
pub counted_below : (s : List (Variable × Term)) (v : Variable) (t : Term) (op : Op) (ts : List Term) → t ≡ App op ts → Contains (variables t) v →
    symbol_count (applied s (Var v)) < symbol_count (applied s t)
counted_below s v t op ts is c =
    let members = each_of (λ u. Contains (variables u) v → symbol_count (applied s (Var v)) ≤ symbol_count (applied s u)) (counted s v) ts in
    let rest = counted_members s v ts members (subst (λ vs. Contains vs v) (variables_at t op ts is) c) in
    let count = applied_count_at s t op ts is in
    omega arith

-- a term with variables that is none is an application
pub is_app : (t : Term) → ((v : Variable) → t ≢ Var v) → (v : Variable) → Contains (variables t) v → (op : Op) × (ts : List Term) × (t ≡ App op ts)
is_app (Var v) other w c = absurd (other v refl)
is_app (Name n) other w c = absurd (let none : ⊥ = omega (arith, c.1) in none)
is_app (App' op n k) other w c = (op, items-the_row-Term _ k, app_items op n k)

-- The first of a list of terms that isn't accepted.
use Rattle.std.proofs.Common.{◌≡◌, ◌≢◌, ℕ, zero, suc, ◌+◌, ◌<◌, ◌≤◌, List, [], ◌∷◌, ◌++◌, Option, None, Some, length, get_or, drop, take, slice_get, refl, sym, ◌∙◌, ap, subst, inl, inr, arith}
use Rattle.std.specs.Prelude.{Contains, ◌⊎◌, ◌↔◌}
use Rattle.std.specs.List.{flat_map}
use Rattle.std.proofs.lemmas.List.{drop_more, take_more, take-append-drop}
use Rattle.std.proofs.lemmas.List.Elements.{Contains-append_cases}
use Rattle.std.proofs.lemmas.Bool.{cases_order}
use Rattle.std.proofs.lemmas.Grind.{flat_map-append}
use Rattle.std.proofs.lemmas.Option.{same_Some, slice_get_within, get_or_from_slice_get, slice_get-get_or}
use Rattle.npa_term.specs.declared.term.Op.{Op}
use Rattle.npa_term.specs.declared.term.Var.{Var as Variable}
use Rattle.npa_term.specs.declared.term.Term.{Term, Var, Name, App}
use Rattle.npa_sig.specs.declared.protocol.Equation.{Equation}
use Rattle.npa_rewrite.specs.declared.theory.Theory.{Theory}
use Rattle.npa_rewrite.specs.Accepted.{Unify, IsAcceptedTerm}
use Rattle.npa_unify.proofs.Members.{later, nowhere, only_one}
use Rattle.npa_accept.specs.declared.accepted.Unaccepted.{Unaccepted}
use Rattle.npa_accept.specs.Parts.{parts}
use Rattle.npa_accept.specs.Unaccepted.{IsApart, IsFirstEquation, IsFirstOf, IsFirst, IsAtRoot}
use Rattle.npa_accept.proofs.Parts.{part_listed, listed_part, parts_at}

-- places in lists

member_place : {X : Type 0} (xs : List X) (i : ℕ) (x : X) → slice_get xs i ≡ Some x → Contains xs x
member_place xs i x e = (i, slice_get_within xs i x e, get_or_from_slice_get xs i x x e)

place_member : {X : Type 0} (xs : List X) (x : X) → Contains xs x → (i : ℕ) × (slice_get xs i ≡ Some x)
place_member xs x c = (c.0, slice_get-get_or xs c.0 x c.1 ∙ ap Some c.2)

get_left : {X : Type 0} (xs ys : List X) (i : ℕ) → i < length xs → slice_get (xs ++ ys) i ≡ slice_get xs i
get_left [] ys i small = absurd (let no : ⊥ = omega (arith, small) in no)
get_left (x ∷ xs) ys zero small = refl
get_left (x ∷ xs) ys (suc i) small = get_left xs ys i (omega (arith, small))

get_right : {X : Type 0} (xs ys : List X) (i : ℕ) → slice_get (xs ++ ys) (length xs + i) ≡ slice_get ys i
get_right [] ys i = ap (slice_get ys) (let e : 0 + i ≡ i = omega arith in e)
get_right (x ∷ xs) ys i = ap (slice_get (x ∷ xs ++ ys)) (let e : suc (length xs) + i ≡ suc (length xs + i) = omega arith in e) ∙ get_right xs ys i

-- either in the front, or so far behind it
place_cases : {X : Type 0} (xs ys : List X) (i : ℕ) (x : X) → slice_get (xs ++ ys) i ≡ Some x → Contains xs x ⊎ ((j : ℕ) × (i ≡ length xs + j) × (slice_get ys j ≡ Some x))
place_cases [] ys i x e = inr (i, (let is : i ≡ 0 + i = omega arith in is), e)
place_cases (y ∷ xs) ys zero x e = inl (member_place (y ∷ xs) zero x e)
place_cases (y ∷ xs) ys (suc i) x e =
    elim (place_cases xs ys i x e) [
      | inl c ↦ inl (later y x xs c)
      | inr (j, is, at) ↦ inr (j, (let more : suc i ≡ suc (length xs) + j = omega (arith, is) in more), at)
    ]

-- the first of a list

pub none_of_none : (th : Theory) → IsFirst th [] None
none_of_none th u c other e d p = nowhere u c

-- none in the front, and none behind it
pub none_in_both : (th : Theory) (us vs : List Term) → IsFirst th us None → IsFirst th vs None → IsFirst th (us ++ vs) None
none_in_both th us vs p q u c = elim (Contains-append_cases us vs u c) [ inl d ↦ p u d | inr d ↦ q u d ]

-- none in the front, and the first behind it
pub first_behind : (th : Theory) (us vs ws : List Term) (f : Unaccepted) → IsFirst th us None → IsFirstOf th vs f → IsFirstOf th (us ++ (vs ++ ws)) f
first_behind th us vs ws f none first = record {
  place = length us + first.place;
  there = get_right us (vs ++ ws) first.place ∙ get_left vs ws first.place (slice_get_within vs first.place f.term first.there) ∙ first.there;
  other = first.other;
  equation = first.equation;
  before = λ k u small at other.
      elim (place_cases us (vs ++ ws) k u at) [
        | inl c ↦ none u c other
        | inr (j, is, e) ↦
            let fewer : j < first.place = omega (arith, is, small) in
            let within : j < length vs = omega (arith, fewer, slice_get_within vs first.place f.term first.there) in
            first.before j u fewer (sym (get_left vs ws j within) ∙ e) other
      ];
}

-- a term that is tried at its root
pub first_root : (th : Theory) (t : Term) (us : List Term) (f : Unaccepted) → ((v : Variable) → t ≢ Var v) → IsAtRoot th t (Some f) → IsFirstOf th (t ∷ us) f
first_root th t us f other at = record {
  place = 0;
  there = ap Some (sym at.0);
  other = λ v e. other v (sym at.0 ∙ e);
  equation = subst (λ u. IsFirstEquation th u f.equation) (sym at.0) at.1;
  before = λ k u small e o. absurd (let no : ⊥ = omega (arith, small) in no);
}

pub none_root : (th : Theory) (t : Term) → IsAtRoot th t None → IsFirst th (t ∷ []) None
none_root th t apart u c other = subst (IsApart th) (only_one t u c) apart

-- of a variable nothing is told
pub none_variable : (th : Theory) (t : Term) (v : Variable) → t ≡ Var v → IsFirst th (parts t) None
none_variable th t v e =
    subst (λ u. IsFirst th (parts u) None) (sym e) (λ u c other. absurd (other v (sym (only_one (Var v) u c))))

-- the answer for a name, which is its only part
pub name_first : (th : Theory) (t : Term) (n : ℕ) (found : Option Unaccepted) → t ≡ Name n → IsAtRoot th t found → IsFirst th (parts t) found
name_first th t n found e at =
    let whole : t ∷ [] ≡ parts t = ap (λ u. u ∷ []) e ∙ sym (ap parts e) in
    subst (λ us. IsFirst th us found) whole (by found at)
  where
    by : (o : Option Unaccepted) → IsAtRoot th t o → IsFirst th (t ∷ []) o
    by None a = none_root th t a
    by (Some f) a = first_root th t [] f (λ v is. cc) a

-- the answers for an application
pub app_root : (th : Theory) (t : Term) (op : Op) (ts : List Term) (f : Unaccepted) → t ≡ App op ts → IsAtRoot th t (Some f) → IsFirst th (parts t) (Some f)
app_root th t op ts f e at =
    subst (λ us. IsFirstOf th us f) (sym (parts_at t op ts e)) (first_root th t (flat_map parts ts) f (λ v is. cc) at)

split_parts : (ts : List Term) (i : ℕ) (d : Term) → i < length ts → flat_map parts ts ≡ flat_map parts (take i ts) ++ (parts (get_or ts i d) ++ flat_map parts (drop (i + 1) ts))
split_parts ts i d small =
    ap (flat_map parts) (sym (take-append-drop i ts)) ∙ flat_map-append parts (take i ts) (drop i ts)
    ∙ ap (λ us. flat_map parts (take i ts) ++ flat_map parts us) (drop_more ts i d small)

pub app_argument : (th : Theory) (t : Term) (op : Op) (ts : List Term) (i : ℕ) (d : Term) (f : Unaccepted) → t ≡ App op ts → i < length ts → d ≡ get_or ts i d →
    IsAtRoot th t None → IsFirst th (flat_map parts (take i ts)) None → IsFirst th (parts d) (Some f) → IsFirst th (parts t) (Some f)
app_argument th t op ts i d f e small is root none first =
    let us = flat_map parts (take i ts) in
    let ws = flat_map parts (drop (i + 1) ts) in
    let arguments : flat_map parts ts ≡ us ++ (parts d ++ ws) = split_parts ts i d small ∙ ap (λ u. us ++ (parts u ++ ws)) (sym is) in
    let whole : parts t ≡ (t ∷ us) ++ (parts d ++ ws) = parts_at t op ts e ∙ ap (λ vs. t ∷ vs) arguments in
    subst (λ vs. IsFirstOf th vs f) (sym whole) (first_behind th (t ∷ us) (parts d) ws f (none_in_both th (t ∷ []) us (none_root th t root) none) first)

pub app_none : (th : Theory) (t : Term) (op : Op) (ts : List Term) → t ≡ App op ts → IsAtRoot th t None → IsFirst th (flat_map parts ts) None → IsFirst th (parts t) None
app_none th t op ts e root none =
    subst (λ us. IsFirst th us None) (sym (parts_at t op ts e)) (none_in_both th (t ∷ []) (flat_map parts ts) (none_root th t root) none)

-- the loop over arguments
pub argument_step : (th : Theory) (ts : List Term) (i : ℕ) (d : Term) → i < length ts → d ≡ get_or ts i d → IsFirst th (flat_map parts (take i ts)) None → IsFirst th (parts d) None →
    IsFirst th (flat_map parts (take (i + 1) ts)) None
argument_step th ts i d small is none this =
    let longer : take (i + 1) ts ≡ take i ts ++ d ∷ [] = take_more ts i d small ∙ ap (λ u. take i ts ++ u ∷ []) (sym is) in
    let all : flat_map parts (take (i + 1) ts) ≡ flat_map parts (take i ts) ++ (parts d ++ []) =
    ap (flat_map parts) longer ∙ flat_map-append parts (take i ts) (d ∷ []) in
    subst (λ us. IsFirst th us None) (sym all)
    (none_in_both th (flat_map parts (take i ts)) (parts d ++ []) none (none_in_both th (parts d) [] this (none_of_none th)))

-- a term is accepted exactly where there is none
pub none_accepted : (th : Theory) (t : Term) → IsFirst th (parts t) None → IsAcceptedTerm th t
none_accepted th t none u p other = none u (part_listed p) other

pub accepted_none : (th : Theory) (t : Term) → IsAcceptedTerm th t → IsFirst th (parts t) None
accepted_none th t accepted u c other = accepted u (listed_part u t c) other

pub none_exactly : (th : Theory) (t : Term) (found : Option Unaccepted) → IsFirst th (parts t) found → (found ≡ None ↔ IsAcceptedTerm th t)
none_exactly th t None first = (λ e. none_accepted th t first, λ a. refl)
none_exactly th t (Some f) first = (
  λ e. cc,
  λ a. absurd (a f.term (listed_part f.term t (member_place (parts t) first.place f.term first.there)) first.other first.equation.equation
      (member_place th.equations f.equation first.equation.equation first.equation.there) first.equation.unify),
)

-- there is one first

one_equation : (th : Theory) (u : Term) (i j : ℕ) → IsFirstEquation th u i → IsFirstEquation th u j → i ≡ j
one_equation th u i j p q =
    let not_less : i < j → ⊥ = λ less. q.least i p.equation less p.there p.unify in
    let not_more : j < i → ⊥ = λ more. p.least j q.equation more q.there q.unify in
    elim (cases_order i j) [ inl is ↦ is | inr d ↦ elim d [ inl l ↦ absurd (not_less l) | inr m ↦ absurd (not_more m) ] ]

refutes : (th : Theory) (us : List Term) (f g : Unaccepted) (p : IsFirstOf th us f) (q : IsFirstOf th us g) → p.place < q.place → ⊥
refutes th us f g p q less =
    q.before p.place f.term less p.there p.other p.equation.equation (member_place th.equations f.equation p.equation.equation p.equation.there) p.equation.unify

same_found : (f g : Unaccepted) → f.term ≡ g.term → f.equation ≡ g.equation → f ≡ g
same_found f g term equation = λ i. record { term = term i; equation = equation i }

one_place : (th : Theory) (us : List Term) (f g : Unaccepted) (p : IsFirstOf th us f) (q : IsFirstOf th us g) → p.place ≡ q.place → f ≡ g
one_place th us f g p q is =
    let terms : f.term ≡ g.term = same_Some f.term g.term (sym p.there ∙ ap (slice_get us) is ∙ q.there) in
    same_found f g terms (one_equation th g.term f.equation g.equation (subst (λ u. IsFirstEquation th u f.equation) terms p.equation) q.equation)

no_first : (th : Theory) (us : List Term) (f : Unaccepted) → IsFirst th us None → IsFirstOf th us f → ⊥
no_first th us f none p =
    none f.term (member_place us p.place f.term p.there) p.other p.equation.equation (member_place th.equations f.equation p.equation.equation p.equation.there) p.equation.unify

pub one_first : (th : Theory) (us : List Term) (f g : Option Unaccepted) → IsFirst th us f → IsFirst th us g → f ≡ g
one_first th us None None p q = refl
one_first th us None (Some g) p q = absurd (no_first th us g p q)
one_first th us (Some f) None p q = absurd (no_first th us f q p)
one_first th us (Some f) (Some g) p q =
    elim (cases_order p.place q.place) [
      | inl is ↦ ap Some (one_place th us f g p q is)
      | inr d ↦ elim d [ inl l ↦ absurd (refutes th us f g p q l) | inr m ↦ absurd (refutes th us g f q p m) ]
    ]

-- the loop over equations

abbrev pub IsApartUpTo : Theory → Term → ℕ → Type 0
IsApartUpTo th u n = (k : ℕ) (e : Equation) → k < n → slice_get th.equations k ≡ Some e → Unify th.sig u e.left → ⊥

pub apart_step : (th : Theory) (u : Term) (n : ℕ) (e : Equation) → e ≡ get_or th.equations n e → n < length th.equations → IsApartUpTo th u n → (Unify th.sig u e.left → ⊥) → IsApartUpTo th u (n + 1)
apart_step th u n e is small before this k d lower at unify =
    elim (cases_order k n) [
      | inl same ↦
          let there : d ≡ e = same_Some d e (sym at ∙ ap (slice_get th.equations) same ∙ slice_get-get_or th.equations n e small ∙ ap Some (sym is)) in
          this (subst (λ (x : Equation). Unify th.sig u x.left) there unify)
      | inr d_ ↦ elim d_ [
        | inl l ↦ before k d l at unify
        | inr m ↦ let no : ⊥ = omega (arith, lower, m) in no
      ]
    ]

pub apart_all : (th : Theory) (u : Term) (n : ℕ) → length th.equations ≤ n → IsApartUpTo th u n → IsApart th u
apart_all th u n ends before e c unify = before c.0 e (omega (arith, c.1, ends)) (slice_get-get_or th.equations c.0 e c.1 ∙ ap Some c.2) unify

pub first_equation_at : (th : Theory) (u : Term) (n : ℕ) (e : Equation) → e ≡ get_or th.equations n e → n < length th.equations → IsApartUpTo th u n → Unify th.sig u e.left → IsFirstEquation th u n
first_equation_at th u n e is small before this = record {
  equation = e;
  there = slice_get-get_or th.equations n e small ∙ ap Some (sym is);
  unify = this;
  least = before;
}

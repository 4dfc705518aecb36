-- The computed test of equality modulo commutativity is exact.
use Rattle.std.proofs.Common.{◌≡◌, Bool, true, false, ◌&&◌, ◌||◌, nat_eq, List, ◌∷◌, ◌↔◌, IsTrue, refl, sym, ◌∙◌, ap, subst, inl, inr, []}
use Rattle.std.proofs.lemmas.Bool.{eqb-true, eq-eqb, or_cases, or_left, or_right, and_parts, and_from}
use mathlib.Core.Bool.{beq}
use Rattle.npa_term.specs.declared.term.Op.{Op}
use Rattle.npa_term.specs.declared.term.Var.{Var as Variable}
use Rattle.npa_term.specs.declared.term.Term.{Term, Var, Name, App}
use Rattle.npa_term.specs.Bound.{same_var}
use Rattle.npa_term.specs.Computed.{is_same, same_op, turned, all_same}
use Rattle.npa_term.specs.Same.{Same, itself, through, swapped, below, SameAll, nothing, first, Crossed, crossed}
use Rattle.npa_term.proofs.AgreeingLaws.{same_variable}
use Rattle.npa_term.proofs.Compared.{same_apps}
use Rattle.npa_term.proofs.Induction.{Each, by_terms, term_cases}
use Rattle.npa_term.proofs.SameCases.{same_app, same_only_var, same_only_name}

pub same_bool : (a b : Bool) → beq a b ≡ true → a ≡ b
same_bool true true e = refl
same_bool true false e = cc
same_bool false true e = cc
same_bool false false e = refl

bool_itself : (a : Bool) → beq a a ≡ true
bool_itself true = refl
bool_itself false = refl

pub op_equal : (f g : Op) → same_op f g ≡ true → f ≡ g
op_equal f g e =
    let one = and_parts (nat_eq f.num g.num) (nat_eq f.result g.result && beq f.com g.com) e in
    let two = and_parts (nat_eq f.result g.result) (beq f.com g.com) one.1 in
    ap (λ n. record f { num = n }) (eqb-true f.num g.num one.0)
    ∙ ap (λ r. record f { num = g.num; result = r }) (eqb-true f.result g.result two.0)
    ∙ ap (λ c. record g { «com» = c }) (same_bool f.com g.com two.1)

pub op_itself : (f : Op) → same_op f f ≡ true
op_itself f =
    and_from (nat_eq f.num f.num) (nat_eq f.result f.result && beq f.com f.com) (eq-eqb f.num f.num refl)
    (and_from (nat_eq f.result f.result) (beq f.com f.com) (eq-eqb f.result f.result refl) (bool_itself f.com))

pub var_equal : (v w : Variable) → same_var v w ≡ true → v ≡ w
var_equal v w e =
    let both = and_parts (nat_eq v.num w.num) (nat_eq v.sort w.sort) e in
    same_variable v w (eqb-true v.num w.num both.0) (eqb-true v.sort w.sort both.1)

pub var_itself : (v : Variable) → same_var v v ≡ true
var_itself v = and_from (nat_eq v.num v.num) (nat_eq v.sort v.sort) (eq-eqb v.num v.num refl) (eq-eqb v.sort v.sort refl)

-- a term with its two arguments turned is equal to it
pub turned_same : (f : Op) (us : List Term) → f.com ≡ true → Same (App f (turned us)) (App f us)
turned_same f [] c = itself (App f [])
turned_same f (t ∷ []) c = itself (App f (t ∷ []))
turned_same f (t ∷ u ∷ []) c = swapped f u t c
turned_same f (t ∷ u ∷ v ∷ ts) c = itself (App f (t ∷ u ∷ v ∷ ts))

-- sound

abbrev Sound : Term → Type 0
Sound t = (u : Term) → is_same t u ≡ true → Same t u

all_sound : (ts us : List Term) → Each Sound ts → all_same ts us ≡ true → SameAll ts us
all_sound [] [] each e = nothing
all_sound [] (u ∷ us) each e = cc
all_sound (t ∷ ts) [] each e = cc
all_sound (t ∷ ts) (u ∷ us) each e =
    let both = and_parts (is_same t u) (all_same ts us) e in
    first t u ts us (each.0 u both.0) (all_sound ts us each.1 both.1)

apps_sound : (f : Op) (ts us : List Term) → Each Sound ts → (all_same ts us || (f.com && all_same ts (turned us))) ≡ true → Same (App f ts) (App f us)
apps_sound f ts us each e =
    elim (or_cases (all_same ts us) (f.com && all_same ts (turned us)) e) [
      | inl d ↦ below f ts us (all_sound ts us each d)
      | inr d ↦ let both = and_parts f.com (all_same ts (turned us)) d in
          through (App f ts) (App f (turned us)) (App f us) (below f ts (turned us) (all_sound ts (turned us) each both.1)) (turned_same f us both.0)
    ]

app_sound : (f : Op) (ts : List Term) → Each Sound ts → Sound (App f ts)
app_sound f ts each =
    term_cases (λ u. is_same (App f ts) u ≡ true → Same (App f ts) u) (λ v e. cc) (λ n e. cc)
    (λ g us e.
    let both = and_parts (same_op f g) (all_same ts us || (f.com && all_same ts (turned us))) (sym (same_apps f g ts us) ∙ e) in
    subst (λ h. Same (App f ts) (App h us)) (op_equal f g both.0) (apps_sound f ts us each both.1))

pub is_same_sound : (t u : Term) → is_same t u ≡ true → Same t u
is_same_sound =
    by_terms Sound
    (λ v. term_cases (λ u. is_same (Var v) u ≡ true → Same (Var v) u)
    (λ w e. subst (λ x. Same (Var v) (Var x)) (var_equal v w e) (itself (Var v))) (λ n e. cc) (λ g us e. cc))
    (λ m. term_cases (λ u. is_same (Name m) u ≡ true → Same (Name m) u)
    (λ w e. cc) (λ n e. subst (λ x. Same (Name m) (Name x)) (eqb-true m n e) (itself (Name m))) (λ g us e. cc))
    app_sound

-- complete

abbrev Complete : Term → Type 0
Complete t = (u : Term) → Same t u → is_same t u ≡ true

all_complete : {ts us : List Term} → SameAll ts us → Each Complete ts → all_same ts us ≡ true
all_complete nothing each = refl
all_complete (first t u ts us p q) each = and_from (is_same t u) (all_same ts us) (each.0 u p) (all_complete q each.1)

crossed_complete : {op : Op} {ts us : List Term} → Crossed op ts us → Each Complete ts → (op.com && all_same ts (turned us)) ≡ true
crossed_complete {op} (crossed a b c d swaps p q) each =
    and_from op.com (is_same a d && (is_same b c && true)) swaps
    (and_from (is_same a d) (is_same b c && true) (each.0 d p) (and_from (is_same b c) true (each.1.0 c q) refl))

app_complete : (f : Op) (ts : List Term) → Each Complete ts → Complete (App f ts)
app_complete f ts each u p =
    let is = same_app p f ts refl in
    let us : List Term = is.0 in
    let arguments : (all_same ts us || (f.com && all_same ts (turned us))) ≡ true =
    elim is.2 [
      | inl q ↦ or_left (all_same ts us) (f.com && all_same ts (turned us)) (all_complete q each)
      | inr q ↦ or_right (all_same ts us) (f.com && all_same ts (turned us)) (crossed_complete q each)
    ] in
    ap (is_same (App f ts)) is.1 ∙ same_apps f f ts us
    ∙ and_from (same_op f f) (all_same ts us || (f.com && all_same ts (turned us))) (op_itself f) arguments

pub is_same_complete : (t u : Term) → Same t u → is_same t u ≡ true
is_same_complete =
    by_terms Complete
    (λ v u p. ap (is_same (Var v)) (same_only_var p v refl) ∙ var_itself v)
    (λ n u p. ap (is_same (Name n)) (same_only_name p n refl) ∙ eq-eqb n n refl)
    app_complete

pub is_same_exact : (t u : Term) → IsTrue (is_same t u) ↔ Same t u
is_same_exact t u = (is_same_sound t u, is_same_complete t u)

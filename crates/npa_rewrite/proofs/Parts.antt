-- What an equation that cancels leaves of a term: a proper part of it.
use Rattle.std.proofs.Common.{◌≡◌, zero, ◌<◌, List, [], ◌∷◌, Some, None, refl, sym, ◌∙◌, ap, subst, arith}
use Rattle.std.specs.Prelude.{Contains, IsSome, unwrap_or}
use Rattle.std.proofs.lemmas.List.Elements.{Contains-append_left, All-contains}
use Rattle.npa_sorts.specs.Subsorts.{Subsorts}
use Rattle.npa_term.specs.declared.term.Op.{Op}
use Rattle.npa_term.specs.declared.term.Var.{Var as Variable}
use Rattle.npa_term.specs.declared.term.Term.{Term, Var, App}
use Rattle.npa_term.specs.Bound.{value_of, applied}
use Rattle.npa_term.specs.Canonical.{canonical}
use Rattle.npa_term.specs.Parts.{IsPart, whole, inside as within}
use Rattle.npa_term.specs.Same.{Same}
use Rattle.npa_term.specs.Symbols.{symbol_count}
use Rattle.npa_term.specs.Variables.{variables}
use Rattle.npa_term.proofs.Induction.{Each}
use Rattle.npa_term.proofs.Parts.{counted_below, each_member, is_app, only_member}
use Rattle.npa_term.proofs.SameLaws.{same_sym, same_count}
use Rattle.npa_match.specs.Matching.{Matches}
use Rattle.npa_rewrite.specs.declared.theory.Theory.{Theory}
use Rattle.npa_rewrite.specs.Rewriting.{FitsSorts, Rewrites, IsNormal, IsCancelling, AllCancel, here}
use Rattle.npa_rewrite.specs.Stepping.{IsRootStep}
use Rattle.npa_rewrite.proofs.Under.{arguments_normal}

pub normal_part : (th : Theory) {t u : Term} → IsPart t u → IsNormal th u → IsNormal th t
normal_part th whole n = n
normal_part th (within op us u c p) n = normal_part th p (each_member (IsNormal th) us u (arguments_normal th op us n) c)

-- a term with arguments of which P holds
abbrev pub HasArguments : (Term → Type 0) → Term → Type 0
HasArguments P t = (op : Op) (ts : List Term) → t ≡ App op ts → Each P ts

-- a smaller part of a term with normal arguments is normal
pub normal_smaller : (th : Theory) {t u : Term} → IsPart t u → symbol_count t < symbol_count u → HasArguments (IsNormal th) u → IsNormal th t
normal_smaller th whole small arguments = absurd (let none : ⊥ = omega (arith, small) in none)
normal_smaller th (within op us u c p) small arguments = normal_part th p (each_member (IsNormal th) us u (arguments op us refl) c)

-- the one pair that a matcher matches
matched_pair : (o : Subsorts) (left t : Term) (s : List (Variable × Term)) → Matches o ((left, t) ∷ []) s → Same (applied s left) t
matched_pair o left t s m = m.equal left t (zero, omega arith, refl)

pub matcher_respects : (o : Subsorts) (left t : Term) (s : List (Variable × Term)) → Matches o ((left, t) ∷ []) s → FitsSorts o (variables left) s
matcher_respects o left t s m = λ v c. m.sorts v (Contains-append_left (variables left) [] v c)

-- a step at the root is a step
pub root_rewrites : (th : Theory) (t u : Term) → IsRootStep th t u → Rewrites th t u
root_rewrites th t u r =
    let e = r.equation in
    let s = r.matcher in
    record {
      from = applied s e.left;
      to = applied s e.right;
      same = same_sym (matched_pair th.sig.sorts e.left t s r.matches.matches);
      replaces = here e s r.listed (matcher_respects th.sig.sorts e.left t s r.matches.matches);
      form = r.form;
    }

value_is : (s : List (Variable × Term)) (v : Variable) → IsSome (value_of s v) → (t : Term) × (value_of s v ≡ Some t)
value_is s v bound =
    elim (value_of s v) as (λ o. IsSome o → (t : Term) × (o ≡ Some t)) [ Some t ↦ λ b. (t, refl) | None ↦ λ b. cc ] bound

second_member : (t u a b : Term) → Contains {X = Term × Term} ((t, u) ∷ []) (a, b) → u ≡ b
second_member t u a b c = ap (λ (p : Term × Term). p.1) (only_member (t, u) (a, b) c)

-- it leaves a part of the term that is smaller
pub root_part : (th : Theory) (t u : Term) → AllCancel th → IsRootStep th t u → (v : Term) × (u ≡ canonical v) × IsPart v t × (symbol_count v < symbol_count t)
root_part th t u cancel r =
    let e = r.equation in
    let s = r.matcher in
    let shape : IsCancelling th.sig.sorts e = All-contains (IsCancelling th.sig.sorts) th.equations e cancel r.listed in
    let bound = value_is s shape.var (r.matches.binds shape.var (Contains-append_left (variables e.left) [] shape.var shape.occurs)) in
    let part = r.matches.parts shape.var bound.0 bound.1 in
    let app = is_app e.left shape.left shape.var shape.occurs in
    let value : applied s (Var shape.var) ≡ bound.0 = ap (λ o. unwrap_or o (Var shape.var)) bound.1 in
    let right : applied s e.right ≡ bound.0 = ap (applied s) shape.right ∙ value in
    let small : symbol_count (applied s (Var shape.var)) < symbol_count (applied s e.left) = counted_below s shape.var e.left app.0 app.1 app.2 shape.occurs in
    let even : symbol_count (applied s e.left) ≡ symbol_count t = same_count (matched_pair th.sig.sorts e.left t s r.matches.matches) in
    let size : symbol_count (applied s (Var shape.var)) ≡ symbol_count bound.0 = ap symbol_count value in
    (bound.0, r.form ∙ ap canonical right, subst (IsPart bound.0) (sym (second_member e.left t part.0 part.1 part.2)) part.3, omega (arith, small, even, size))

-- Matching at the root of a term.
use Rattle.std.proofs.Common.{◌≡◌, ℕ, zero, suc, ◌<◌, ◌≤◌, List, [], ◌∷◌, length, take, get_or, Bool, true, false, Result, Ok, Err, IfOk, IsTrue, Option, Some, refl, sym, ◌∙◌, subst, arith}
use Rattle.std.specs.Prelude.{◌↔◌, Contains}
use Rattle.std.specs.List.{All}
use Rattle.std.specs.Option.{IfSome}
use Rattle.std.proofs.lemmas.List.{append-nil, take_all}
use Rattle.std.proofs.lemmas.List.Elements.{All-contains, All-head, All-tail, Contains-get_or}
use Rattle.npa_sorts.specs.Subsorts.{Subsorts}
use Rattle.npa_term.specs.declared.term.Op.{Op}
use Rattle.npa_term.specs.declared.term.Var.{Var as Variable}
use Rattle.npa_term.specs.declared.term.Term.{Term, Var, Name, App}
use Rattle.npa_term.specs.Bound.{applied}
use Rattle.npa_term.specs.Canonical.{canonical}
use Rattle.npa_term.specs.Same.{Same}
use Rattle.npa_term.specs.Variables.{variables}
use Rattle.npa_term.proofs.Induction.{Each, term_cases}
use Rattle.npa_term.proofs.Parts.{is_app, only_member}
use Rattle.npa_term.proofs.Rows.{applied_at}
use Rattle.npa_term.proofs.SameCases.{same_app}
use Rattle.npa_term.proofs.SameLaws.{same_sym}
use Rattle.npa_match.specs.Matching.{HasMatcher, Matches, IsMatcher}
use Rattle.npa_sig.specs.declared.protocol.Equation.{Equation}
use Rattle.npa_rewrite.specs.declared.theory.Theory.{Theory}
use Rattle.npa_rewrite.specs.Rewriting.{FitsSorts, IsCancelling, AllCancel, Steps, none, IsNormal, here}
use Rattle.npa_rewrite.specs.Stepping.{HasNoMatch, AreUnmatched, IsRootStep}
use Rattle.npa_rewrite.proofs.Parts.{matcher_respects}
use Rattle.npa_rewrite.proofs.Under.{arguments_normal, normal_app, normal_var, normal_name, replaced, rewrites_same}

pub matches_from : (o : Subsorts) (t u : Term) (s : List (Variable × Term)) → FitsSorts o (variables t) s → Same (applied s t) u → Matches o ((t, u) ∷ []) s
matches_from o t u s q p = record {
  sorts = λ v c. q v (subst (λ vs. Contains vs v) (append-nil (variables t)) c);
  equal = λ a b c. subst (λ (x : Term × Term). Same (applied s x.0) x.1) (only_member (t, u) (a, b) c) p;
}

-- a term that no left side matches
pub unmatched_all : (th : Theory) (t : Term) (es : List Equation) (i : ℕ) → es ≡ th.equations → length es ≤ i →
    All (λ e. AreUnmatched th.sig.sorts e.left t) (take i es) → HasNoMatch th t
unmatched_all th t es i same end all = λ e s c q p.
    let whole : All (λ e. AreUnmatched th.sig.sorts e.left t) th.equations =
    subst (All (λ e. AreUnmatched th.sig.sorts e.left t)) (take_all i es end ∙ same) all in
    All-contains (λ e. AreUnmatched th.sig.sorts e.left t) th.equations e whole c s (matches_from th.sig.sorts e.left t s q p)

-- a term that a left side matches
pub root_stepped : (th : Theory) (t u : Term) (es : List Equation) (i : ℕ) (e : Equation) (s : List (Variable × Term)) → es ≡ th.equations → i < length es → e ≡ get_or es i e →
    IsMatcher th.sig.sorts ((e.left, t) ∷ []) s → u ≡ canonical (applied s e.right) → IsRootStep th t u
root_stepped th t u es i e s same small at m form = record {
  equation = e;
  matcher = s;
  listed = subst (λ xs. Contains xs e) same (subst (Contains es) (sym at) (Contains-get_or es i e small));
  matches = m;
  form = form;
}

pub root_found : (th : Theory) (t u : Term) (es : List Equation) (i : ℕ) (e : Equation) (o : Subsorts) (subject : Term) (found : Option (List (Variable × Term))) (s : List (Variable × Term)) →
    es ≡ th.equations → i < length es → e ≡ get_or es i e → o ≡ th.sig.sorts → subject ≡ t → IfSome found (IsMatcher o ((e.left, subject) ∷ [])) → found ≡ Some s →
    u ≡ canonical (applied s e.right) → IsRootStep th t u
root_found th t u es i e o subject found s same small at sorts is some at_s form =
    let here : IsMatcher o ((e.left, subject) ∷ []) s = subst (λ f. IfSome f (IsMatcher o ((e.left, subject) ∷ []))) at_s some in
    root_stepped th t u es i e s same small at (subst (λ v. IsMatcher th.sig.sorts ((e.left, v) ∷ []) s) is (subst (λ p. IsMatcher p ((e.left, subject) ∷ []) s) sorts here)) form

-- an instance of a left side that cancels is an application
left_app : (th : Theory) → AllCancel th → (e : Equation) (s : List (Variable × Term)) (t : Term) → Contains th.equations e → Same (applied s e.left) t →
    (op : Op) × (ts : List Term) × (t ≡ App op ts)
left_app th cancel e s t c p =
    let shape : IsCancelling th.sig.sorts e = All-contains (IsCancelling th.sig.sorts) th.equations e cancel c in
    let app = is_app e.left shape.left shape.var shape.occurs in
    let cases = same_app p app.0 _ (applied_at s e.left app.0 app.1 app.2) in
    (app.0, cases.0, cases.1)

pub leaf_var : (th : Theory) (v : Variable) → AllCancel th → IsNormal th (Var v)
leaf_var th v cancel = normal_var th v (λ e s c q p. let app = left_app th cancel e s (Var v) c p in let is = app.2 in cc)

pub leaf_name : (th : Theory) (n : ℕ) → AllCancel th → IsNormal th (Name n)
leaf_name th n cancel = normal_name th n (λ e s c q p. let app = left_app th cancel e s (Name n) c p in let is = app.2 in cc)

pub steps_none : (th : Theory) (t u : Term) → t ≡ u → Steps th t u
steps_none th t u e = subst (Steps th t) e none

-- a left side that matches a term tells against it
pub matched_some : (th : Theory) (t : Term) (es : List Equation) (i : ℕ) (e : Equation) (o : Subsorts) → es ≡ th.equations → i < length es → e ≡ get_or es i e → o ≡ th.sig.sorts →
    HasMatcher o ((e.left, t) ∷ []) → HasNoMatch th t → ⊥
matched_some th t es i e o same small at sorts m never =
    let ps : List (Term × Term) = (e.left, t) ∷ [] in
    let is : IsMatcher th.sig.sorts ps m.by_ = subst (λ p. IsMatcher p ps m.by_) sorts m.is in
    let listed = subst (λ xs. Contains xs e) same (subst (Contains es) (sym at) (Contains-get_or es i e small)) in
    never e m.by_ listed (matcher_respects th.sig.sorts e.left t m.by_ is.matches) (is.matches.equal e.left t (zero, omega arith, refl))

-- and a normal term has no such left side
pub normal_unmatched : (th : Theory) (t : Term) → IsNormal th t → HasNoMatch th t
normal_unmatched th t normal e s c q p =
    normal (canonical (applied s e.right))
    (rewrites_same th t (applied s e.left) (canonical (applied s e.right)) (same_sym p) (replaced th (applied s e.left) (applied s e.right) (here e s c q)))

-- a term whose arguments are normal is normal exactly where no left side matches it
pub normal_at : (th : Theory) (t : Term) (op : Op) (ts us : List Term) → t ≡ App op ts → us ≡ ts → All (IsNormal th) us → HasNoMatch th t → IsNormal th t
normal_at th t op ts us is same all unmatched =
    subst (IsNormal th) (sym is) (normal_app th op ts (each_of ts (subst (All (IsNormal th)) same all)) (subst (HasNoMatch th) is unmatched)) where
      each_of : (xs : List Term) → All (IsNormal th) xs → Each (IsNormal th) xs
      each_of [] a = tt
      each_of (x ∷ xs) a = (All-head (IsNormal th) x xs a, each_of xs (All-tail (IsNormal th) x xs a))

pub normal_arguments : (th : Theory) (t : Term) (op : Op) (ts us : List Term) → t ≡ App op ts → us ≡ ts → IsNormal th t → All (IsNormal th) us
normal_arguments th t op ts us is same normal =
    subst (All (IsNormal th)) (sym same) (all_of ts (arguments_normal th op ts (subst (IsNormal th) is normal))) where
      all_of : (xs : List Term) → Each (IsNormal th) xs → All (IsNormal th) xs
      all_of [] a k d small = absurd (let no : ⊥ = omega (arith, small) in no)
      all_of (x ∷ xs) a zero d small = a.0
      all_of (x ∷ xs) a (suc k) d small = all_of xs a.1 k d (omega (arith, small))

pub normal_leaf : (th : Theory) (t : Term) → ((op : Op) (ts : List Term) → t ≡ App op ts → ⊥) → HasNoMatch th t → IsNormal th t
normal_leaf th t leaf unmatched =
    term_cases (λ u. ((op : Op) (ts : List Term) → u ≡ App op ts → ⊥) → HasNoMatch th u → IsNormal th u)
    (λ v l m. normal_var th v m) (λ n l m. normal_name th n m) (λ op ts l m. absurd (l op ts refl)) t leaf unmatched

-- a test that decides one thing decides another that is the same
pub decided : {E : Type 0} (P Q : Type 0) (r : Result Bool E) → IfOk r (λ b. IsTrue b → Q) → IfOk r (λ b. b ≡ false → Q → ⊥) → (Q → P) → (P → Q) → IfOk r (λ b. IsTrue b ↔ P)
decided P Q (Ok true) sure not_so to back = (λ i. to (sure i), λ p. refl)
decided P Q (Ok false) sure not_so to back = (λ i. let never : ⊥ = cc in absurd never, λ p. absurd (not_so refl (back p)))
decided P Q (Err e) sure not_so to back = tt

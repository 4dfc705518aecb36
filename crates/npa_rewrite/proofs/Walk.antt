-- The walk to the first innermost place.
use Rattle.std.proofs.Common.{◌≡◌, ℕ, suc, ◌+◌, ◌<◌, ◌≤◌, List, [], ◌∷◌, ◌++◌, append_assoc, length, take, drop, get_or, drop-cons, add-one, Option, Some, None, Result, Ok, Err, IfOk, ◌-◌, length-drop, refl, sym, ◌∙◌, ap, subst, arith}
use Rattle.std.specs.List.{All}
use Rattle.std.specs.Option.{option_map, option_or}
use Rattle.std.proofs.Math.Seq.{take-suc}
use Rattle.std.proofs.lemmas.List.{drop_all, take_all, take-append-drop}
use Rattle.std.proofs.lemmas.List.Elements.{All-head, All-tail}
use Rattle.npa_term.specs.declared.term.Op.{Op}
use Rattle.npa_term.specs.declared.term.Var.{Var as Variable}
use Rattle.npa_term.specs.declared.term.Term.{Term, Var, Name, App, Row_of-Term, end_of-Term, more_of-Term, items-the_row-Term, items_hidden-the_row-Term-0}
use Rattle.npa_term.specs.declared.term.Term.TheBlock.{hidden-the_row-Term-0}
use Rattle.npa_term.specs.Canonical.{canonical}
use Rattle.npa_term.proofs.CanonicalLaws.{canonical-canonical}
use Rattle.npa_term.proofs.Induction.{Each}
use Rattle.npa_rewrite.specs.declared.step.Outcome.{Outcome}
use Rattle.npa_rewrite.specs.declared.step.Outcome.TheVariants.{Made, Normal}
use Rattle.npa_rewrite.specs.declared.theory.Theory.{Theory}
use Rattle.npa_rewrite.specs.Innermost.{innermost, innermost_row}
use Rattle.npa_rewrite.specs.Rewriting.{Rewrites, IsNormal}
use Rattle.npa_rewrite.specs.Stepping.{IsRootStep, IsOutcome, IsRootOutcome, outcome_of}
use Rattle.npa_rewrite.proofs.Parts.{root_rewrites}
use Rattle.npa_rewrite.proofs.Under.{canonical_in, rewrites_in, normal_app, normal_var, normal_name}

-- the arguments after a step of the first that has one
abbrev pub innermost_all : (Term → Option Term) → List Term → Option (List Term)
innermost_all root [] = None
innermost_all root (t ∷ ts) = option_or (option_map (λ u. u ∷ ts) (innermost root t)) (option_map (λ us. t ∷ us) (innermost_all root ts))

row_is : {n : _} (root : Term → Option Term) (k : Row_of-Term n) → innermost_row root k ≡ innermost_all root (items-the_row-Term n k)
row_is root end_of-Term = refl
row_is root (more_of-Term t rest) =
    ap (λ o. option_or (option_map (λ u. u ∷ items-the_row-Term _ rest) (innermost root t)) (option_map (λ us. t ∷ us) o)) (row_is root rest)

pub innermost_at : (root : Term → Option Term) (t : Term) (op : Op) (ts : List Term) → t ≡ App op ts →
    innermost root t ≡ option_or (option_map (λ us. App op us) (innermost_all root ts)) (root t)
innermost_at root t op ts is =
    let k = hidden-the_row-Term-0 ts in
    ap (innermost root) is
    ∙ ap (λ o. option_or (option_map (λ us. App op us) o) (root (App op ts))) (row_is root k ∙ ap (innermost_all root) (items_hidden-the_row-Term-0 ts))
    ∙ ap (λ u. option_or (option_map (λ us. App op us) (innermost_all root ts)) (root u)) (sym is)

-- what an outcome tells
pub made_is : (t u : Term) (o : Option Term) → Made u ≡ outcome_of t o → o ≡ Some u
made_is t u None e = cc
made_is t u (Some v) e = cc

pub normal_is : (t u : Term) (o : Option Term) → Normal u ≡ outcome_of t o → (u ≡ t) × (o ≡ None)
normal_is t u None e = let same : u ≡ t = cc in (same, refl)
normal_is t u (Some v) e = cc

middle : (ts : List Term) (i : ℕ) (a : Term) → i < length ts → a ≡ get_or ts i a → drop i ts ≡ a ∷ drop (i + 1) ts
middle ts i a small is = rw (drop-cons ts i a small, add-one) (ap (λ b. b ∷ drop (suc i) ts) (sym is))

pub parts_are : (ts : List Term) (i : ℕ) (a : Term) → i < length ts → a ≡ get_or ts i a → take i ts ++ a ∷ drop (i + 1) ts ≡ ts
parts_are ts i a small is = ap (λ us. take i ts ++ us) (sym (middle ts i a small is)) ∙ take-append-drop i ts

pub taken_more : (ts : List Term) (i : ℕ) (a : Term) → i < length ts → a ≡ get_or ts i a → take (i + 1) ts ≡ take i ts ++ a ∷ []
taken_more ts i a small is = rw (add-one, take-suc ts i a small) (ap (λ b. take i ts ++ b ∷ []) (sym is))

-- a step of the argument at a place
pub value_here : (root : Term → Option Term) (t : Term) (op : Op) (ts : List Term) (i : ℕ) (a b : Term) (us : List Term) → t ≡ App op ts → i < length ts → a ≡ get_or ts i a →
    innermost_all root ts ≡ option_map (λ us. take i ts ++ us) (innermost_all root (drop i ts)) → innermost root a ≡ Some b →
    us ≡ take i ts ++ b ∷ drop (i + 1) ts → Made (App op us) ≡ outcome_of t (innermost root t)
value_here root t op ts i a b us is small at rest e built =
    let here : innermost_all root (drop i ts) ≡ Some (b ∷ drop (i + 1) ts) =
    ap (innermost_all root) (middle ts i a small at)
    ∙ ap (λ o. option_or (option_map (λ u. u ∷ drop (i + 1) ts) o) (option_map (λ us. a ∷ us) (innermost_all root (drop (i + 1) ts)))) e in
    let all : innermost_all root ts ≡ Some (take i ts ++ b ∷ drop (i + 1) ts) = rest ∙ ap (option_map (λ us. take i ts ++ us)) here in
    let whole : innermost root t ≡ Some (App op (take i ts ++ b ∷ drop (i + 1) ts)) =
    innermost_at root t op ts is ∙ ap (λ o. option_or (option_map (λ us. App op us) o) (root t)) all in
    ap (λ xs. Made (App op xs)) built ∙ sym (ap (outcome_of t) whole)

moved : (ts : List Term) (i : ℕ) (a : Term) → i < length ts → a ≡ get_or ts i a → (o : Option (List Term)) →
    option_map (λ us. take i ts ++ us) (option_map (λ us. a ∷ us) o) ≡ option_map (λ us. take (i + 1) ts ++ us) o
moved ts i a small at None = refl
moved ts i a small at (Some us) =
    ap Some (sym (append_assoc (take i ts) (a ∷ []) us) ∙ ap (λ vs. vs ++ us) (sym (taken_more ts i a small at)))

-- and none of it
pub value_later : (root : Term → Option Term) (ts : List Term) (i : ℕ) (a : Term) → i < length ts → a ≡ get_or ts i a →
    innermost_all root ts ≡ option_map (λ us. take i ts ++ us) (innermost_all root (drop i ts)) → innermost root a ≡ None →
    innermost_all root ts ≡ option_map (λ us. take (i + 1) ts ++ us) (innermost_all root (drop (i + 1) ts))
value_later root ts i a small at rest e =
    let there : innermost_all root (drop i ts) ≡ option_map (λ us. a ∷ us) (innermost_all root (drop (i + 1) ts)) =
    ap (innermost_all root) (middle ts i a small at)
    ∙ ap (λ o. option_or (option_map (λ u. u ∷ drop (i + 1) ts) o) (option_map (λ us. a ∷ us) (innermost_all root (drop (i + 1) ts)))) e in
    rest ∙ ap (option_map (λ us. take i ts ++ us)) there ∙ moved ts i a small at (innermost_all root (drop (i + 1) ts))

-- a step of none of the arguments
pub value_root : (root : Term → Option Term) (t : Term) (op : Op) (ts : List Term) (i : ℕ) → t ≡ App op ts → length ts ≤ i →
    innermost_all root ts ≡ option_map (λ us. take i ts ++ us) (innermost_all root (drop i ts)) → innermost root t ≡ root t
value_root root t op ts i is all rest =
    let none : innermost_all root ts ≡ None = rest ∙ ap (λ us. option_map (λ us. take i ts ++ us) (innermost_all root us)) (drop_all i ts all) in
    innermost_at root t op ts is ∙ ap (λ o. option_or (option_map (λ us. App op us) o) (root t)) none

pub outcome_here : (th : Theory) (t : Term) (op : Op) (ts : List Term) (i : ℕ) (a b : Term) (us : List Term) → t ≡ App op ts → i < length ts → a ≡ get_or ts i a →
    Rewrites th a (canonical b) → us ≡ take i ts ++ b ∷ drop (i + 1) ts → Rewrites th t (canonical (App op us))
outcome_here th t op ts i a b us is small at r built =
    let before = take i ts in
    let after = drop (i + 1) ts in
    let from : App op (before ++ a ∷ after) ≡ t = ap (App op) (parts_are ts i a small at) ∙ sym is in
    let to : canonical (App op (before ++ canonical b ∷ after)) ≡ canonical (App op (before ++ b ∷ after)) = canonical_in op before after (canonical b) b (canonical-canonical b) in
    subst (λ vs. Rewrites th t (canonical (App op vs))) (sym built)
    (subst (λ u. Rewrites th u (canonical (App op (before ++ b ∷ after)))) from
    (subst (Rewrites th (App op (before ++ a ∷ after))) to (rewrites_in th op before after a (canonical b) r)))

each_from : (P : Term → Type 0) (ts : List Term) → All P ts → Each P ts
each_from P [] all = tt
each_from P (t ∷ ts) all = (All-head P t ts all, each_from P ts (All-tail P t ts all))

pub step_canonical : (th : Theory) (t u : Term) → IsRootStep th t u → Rewrites th t (canonical u)
step_canonical th t u r =
    subst (Rewrites th t) (r.form ∙ sym (canonical-canonical _) ∙ ap canonical (sym r.form)) (root_rewrites th t u r)

-- the outcome of a term without steps of its arguments
pub outcome_var : (th : Theory) (t : Term) (v : Variable) (o : Outcome) → t ≡ Var v → IsRootOutcome th (Var v) o → IsOutcome th t o
outcome_var th t v (Made u) is r = subst (λ w. Rewrites th w (canonical u)) (sym is) (step_canonical th (Var v) u r)
outcome_var th t v (Normal u) is r = subst (IsNormal th) (sym is) (normal_var th v r)

pub outcome_name : (th : Theory) (t : Term) (n : ℕ) (o : Outcome) → t ≡ Name n → IsRootOutcome th (Name n) o → IsOutcome th t o
outcome_name th t n (Made u) is r = subst (λ w. Rewrites th w (canonical u)) (sym is) (step_canonical th (Name n) u r)
outcome_name th t n (Normal u) is r = subst (IsNormal th) (sym is) (normal_name th n r)

pub outcome_root : (th : Theory) (t : Term) (op : Op) (ts us : List Term) (i : ℕ) (o : Outcome) → t ≡ App op ts → us ≡ take i ts → length ts ≤ i → All (IsNormal th) (take i ts) →
    IsRootOutcome th (App op us) o → IsOutcome th t o
outcome_root th t op ts us i o is made all normal r =
    let full : take i ts ≡ ts = take_all i ts all in
    let here : IsRootOutcome th (App op ts) o = subst (λ vs. IsRootOutcome th (App op vs) o) (made ∙ full) r in
    let arguments : Each (IsNormal th) ts = each_from (IsNormal th) ts (subst (All (IsNormal th)) full normal) in
    subst (λ u. IsOutcome th u o) (sym is)
    (elim o as (λ p. IsRootOutcome th (App op ts) p → IsOutcome th (App op ts) p) [ Made u ↦ λ q. step_canonical th (App op ts) u q | Normal u ↦ λ q. normal_app th op ts arguments q ] here)

-- the same of an answer, where it is one
pub where_ok : {A E : Type 0} (P Q : A → Type 0) → ((x : A) → P x → Q x) → (r : Result A E) → IfOk r P → IfOk r Q
where_ok P Q f (Ok x) p = f x p
where_ok P Q f (Err e) p = tt

pub rest_of : (ts : List Term) (n : ℕ) → take (length ts - n) (drop n ts) ≡ drop n ts
rest_of ts n = take_all (length ts - n) (drop n ts) (omega (arith, length-drop n ts))

pub parts_built : (ts : List Term) (i : ℕ) (b : Term) (made pushed copied built : List Term) → made ≡ take i ts → pushed ≡ made ++ b ∷ [] → copied ≡ pushed ++ drop (i + 1) ts → built ≡ copied →
    built ≡ take i ts ++ b ∷ drop (i + 1) ts
parts_built ts i b made pushed copied built m p d e =
    e ∙ d ∙ ap (λ xs. xs ++ drop (i + 1) ts) (p ∙ ap (λ xs. xs ++ b ∷ []) m) ∙ append_assoc (take i ts) (b ∷ []) (drop (i + 1) ts)

-- Terms without commutative operators match in one way at most.
use Rattle.std.proofs.Common.{◌≡◌, ◌≤◌, Bool, true, false, cond, ◌&&◌, Some, None, Option, List, ◌∷◌, ◌++◌, length, ◌+◌, sym, ◌∙◌, ap, subst, arith, []}
use Rattle.std.specs.Prelude.{flat_map, nat_eq}
use Rattle.std.specs.List.{All}
use Rattle.std.specs.Borrow.{Bor}
use Rattle.std.proofs.lemmas.List.{length-append}
use Rattle.std.proofs.lemmas.List.Elements.{All-head, All-tail}
use Rattle.npa_sorts.specs.Subsorts.{Subsorts, at_or_below}
use Rattle.npa_term.specs.declared.term.Op.{Op}
use Rattle.npa_term.specs.declared.term.Var.{Var as Variable}
use Rattle.npa_term.specs.declared.term.Term.{Term, Var, Name, App}
use Rattle.npa_term.specs.Bound.{value_of}
use Rattle.npa_term.specs.Computed.{is_same, same_op, turned}
use Rattle.npa_term.specs.Parts.{least_sort}
use Rattle.npa_term.proofs.Induction.{term_cases}
use Rattle.npa_match.specs.Branches.{MatchesOnce, after_pairs, after_term, at_variable, differ}
use Rattle.npa_match.specs.Matching.{read_pairs}
use Rattle.npa_match.specs.Search.{after_all}
use Rattle.npa_match.proofs.Lists.{after_arguments, after_apps}

pub few_flat : {X Y : Type 0} (f : X → List Y) → ((x : X) → length (f x) ≤ 1) → (xs : List X) → length xs ≤ 1 → length (flat_map f xs) ≤ 1
few_flat f each [] few = omega arith
few_flat f each (x ∷ []) few = let e = length-append (f x) [] in let l = each x in omega (arith, e, l)
few_flat f each (x ∷ y ∷ xs) few = absurd (let no : ⊥ = omega (arith, few) in no)

few_cond : {X : Type 0} (b : Bool) (xs : List X) → length xs ≤ 1 → length (cond b xs []) ≤ 1
few_cond true xs few = few
few_cond false xs few = omega arith

at_variable_once : (o : Subsorts) (s : List (Variable × Term)) (v : Variable) (u : Term) (x : Option Term) → length (at_variable o s v u x) ≤ 1
at_variable_once o s v u (Some t) = few_cond (is_same t u) (s ∷ []) (omega arith)
at_variable_once o s v u None = few_cond (at_or_below o (least_sort u) v.sort) ((s ++ (v, u) ∷ []) ∷ []) (omega arith)

pub var_once : (v : Variable) → MatchesOnce (Var v)
var_once v o u s = at_variable_once o s v u (value_of s v)

pub name_once : (m : _) → MatchesOnce (Name m)
name_once m o u s =
    term_cases (λ w. length (after_term o (Name m) w s) ≤ 1) (λ v. omega arith) (λ n. few_cond (nat_eq m n) (s ∷ []) (omega arith)) (λ g us. omega arith) u

all_once : (ts : List Term) → All MatchesOnce ts → (o : Subsorts) (us : List Term) (s : List (Variable × Term)) → length (after_all o ts us s) ≤ 1
all_once [] all o [] s = omega arith
all_once [] all o (u ∷ us) s = omega arith
all_once (t ∷ ts) all o [] s = omega arith
all_once (t ∷ ts) all o (u ∷ us) s =
    few_flat (after_all o ts us) (λ r. all_once ts (All-tail MatchesOnce t ts all) o us r) (after_term o t u s) (All-head MatchesOnce t ts all o u s)

arguments_once : (f : Op) (ts : List Term) → f.com ≡ false → All MatchesOnce ts → (o : Subsorts) (us : List Term) (s : List (Variable × Term)) → length (after_arguments o f ts us s) ≤ 1
arguments_once f ts single all o us s =
    let straight = after_all o ts us s in
    let is : after_arguments o f ts us s ≡ straight ++ [] = ap (λ b. straight ++ cond (b && differ us) (after_all o ts (turned us) s) []) single in
    let size : length (after_arguments o f ts us s) ≡ length straight + 0 = ap length is ∙ length-append straight [] in
    let few = all_once ts all o us s in
    omega (arith, size, few)

pub app_once : (t : Term) (f : Op) (ts us : List Term) → t ≡ App f ts → us ≡ ts → f.com ≡ false → All MatchesOnce us → MatchesOnce t
app_once t f ts us is same single all = subst MatchesOnce (ap (App f) same ∙ sym is) once where
  once : MatchesOnce (App f us)
  once o u s =
      term_cases (λ w. length (after_term o (App f us) w s) ≤ 1) (λ v. omega arith) (λ n. omega arith)
      (λ g ws. subst (λ rs. length rs ≤ 1) (sym (after_apps o f g us ws s)) (few_cond (same_op f g) (after_arguments o f us ws s) (arguments_once f us single all o ws s))) u

pub pairs_once : (ps : List (Bor Term × Bor Term)) → All (λ (p : Bor Term × Bor Term). MatchesOnce p.0.now) ps → (o : Subsorts) (s : List (Variable × Term)) → length (after_pairs o (read_pairs ps) s) ≤ 1
pairs_once [] all o s = omega arith
pairs_once (p ∷ ps) all o s =
    few_flat (after_pairs o (read_pairs ps)) (λ r. pairs_once ps (All-tail (λ (q : Bor Term × Bor Term). MatchesOnce q.0.now) p ps all) o r) (after_term o p.0.now p.1.now s)
    (All-head (λ (q : Bor Term × Bor Term). MatchesOnce q.0.now) p ps all o p.1.now s)

-- How the canonical forms of what terms stand for compare.
use Rattle.std.proofs.Common.{◌≡◌, ℕ, zero, suc, ◌+◌, ◌≤◌, min, Bool, true, false, Some, List, [], ◌∷◌, map, drop, length, refl, sym, ◌∙◌, ap, arith}
use Rattle.std.specs.Prelude.{slice_get}
use Rattle.std.specs.Cmp.Lexicographic.{slice_cmp}
use Rattle.std.specs.Ordering.{nat_cmp, ordering_then}
use Rattle.std.specs.declared.cmp.Ordering.{Ordering}
use Rattle.std.specs.declared.cmp.Ordering.TheVariants.{Less, Equal, Greater}
use Rattle.npa_term.specs.declared.term.Op.{Op}
use Rattle.npa_term.specs.declared.term.Var.{Var as Variable}
use Rattle.npa_term.specs.declared.term.Term.{Term, Var, Name, App}
use Rattle.npa_term.specs.Canonical.{canonical, ordered}
use Rattle.npa_term.specs.Order.{term_cmp}
use Rattle.npa_term.specs.Symbols.{symbol_count, all_count}
use Rattle.npa_term.proofs.Rows.{cmp_at, cmp_ends}
use Rattle.npa_unify.specs.Seen.{IsSound, form, placed, walked}
use Rattle.npa_unify.proofs.Heading.{made_app, map_length}
use Rattle.npa_unify.proofs.Seeing.{walk_name, walk_var}

pub form_var : (bs : List (Variable × Term)) (t : Term) (v : Variable) → IsSound bs → Var v ≡ walked bs t → form bs t ≡ Var v
form_var bs t v sound e = ap canonical (walk_var bs t v sound e)

pub form_name : (bs : List (Variable × Term)) (t : Term) (n : ℕ) → IsSound bs → Name n ≡ walked bs t → form bs t ≡ Name n
form_name bs t n sound e = ap canonical (walk_name bs t n sound e)

pub form_app : (bs : List (Variable × Term)) (t : Term) (f : Op) (ts : List Term) → IsSound bs → App f ts ≡ walked bs t → form bs t ≡ App f (ordered f (map (form bs) ts))
form_app bs t f ts sound e = sym (made_app bs t f ts (ordered f (map (form bs) ts)) (map (form bs) ts) sound e refl refl)

pub compared : (t u a b : Term) → t ≡ a → u ≡ b → term_cmp a b ≡ term_cmp t u
compared t u a b d e = ap (λ x. term_cmp x b) (sym d) ∙ ap (term_cmp t) (sym e)

pub var_name : (v : Variable) (n : ℕ) → Less ≡ term_cmp (Var v) (Name n)
var_name v n = refl

pub var_app : (v : Variable) (f : Op) (ts : List Term) → Less ≡ term_cmp (Var v) (App f ts)
var_app v f ts = refl

pub name_var : (n : ℕ) (v : Variable) → Greater ≡ term_cmp (Name n) (Var v)
name_var n v = refl

pub name_app : (n : ℕ) (f : Op) (ts : List Term) → Less ≡ term_cmp (Name n) (App f ts)
name_app n f ts = refl

pub app_var : (f : Op) (ts : List Term) (v : Variable) → Greater ≡ term_cmp (App f ts) (Var v)
app_var f ts v = refl

pub app_name : (f : Op) (ts : List Term) (n : ℕ) → Greater ≡ term_cmp (App f ts) (Name n)
app_name f ts n = refl

then_tied : (o p : Ordering) → o ≡ Equal → ordering_then o p ≡ p
then_tied o p e = ap (λ q. ordering_then q p) e

pub then_other : (o p : Ordering) → (o ≡ Equal → ⊥) → ordering_then o p ≡ o
then_other Less p other = refl
then_other Equal p other = absurd (other refl)
then_other Greater p other = refl

pub apps_tied : (f g : Op) (ts us : List Term) (o : Ordering) → o ≡ nat_cmp f.num g.num → o ≡ Equal → slice_cmp term_cmp ts us ≡ term_cmp (App f ts) (App g us)
apps_tied f g ts us o first tied = sym (cmp_at (App f ts) (App g us) f g ts us refl refl ∙ then_tied (nat_cmp f.num g.num) (slice_cmp term_cmp ts us) (sym first ∙ tied))

pub apps_other : (f g : Op) (ts us : List Term) (o : Ordering) → o ≡ nat_cmp f.num g.num → (o ≡ Equal → ⊥) → o ≡ term_cmp (App f ts) (App g us)
apps_other f g ts us o first other =
    first ∙ sym (cmp_at (App f ts) (App g us) f g ts us refl refl ∙ then_other (nat_cmp f.num g.num) (slice_cmp term_cmp ts us) (λ e. other (first ∙ e)))

-- arguments in either order

placed_all_count : (h : Term → Term) (b : Bool) (ts : List Term) → all_count (map h (placed b ts)) ≡ all_count (map h ts)
placed_all_count h false ts = refl
placed_all_count h true [] = refl
placed_all_count h true (t ∷ []) = refl
placed_all_count h true (t ∷ u ∷ []) = omega arith
placed_all_count h true (t ∷ u ∷ v ∷ ts) = refl

pub placed_length : (h : Term → Term) (b : Bool) (ts : List Term) → length (map h (placed b ts)) ≡ length ts
placed_length h false ts = map_length h ts
placed_length h true [] = refl
placed_length h true (t ∷ []) = refl
placed_length h true (t ∷ u ∷ []) = refl
placed_length h true (t ∷ u ∷ v ∷ ts) = map_length h (t ∷ u ∷ v ∷ ts)

got_count : (h : Term → Term) (ps : List Term) (i : ℕ) (a : Term) → slice_get ps i ≡ Some a → symbol_count (h a) ≤ all_count (map h ps)
got_count h [] i a e = cc
got_count h (p ∷ ps) zero a e =
    let is : p ≡ a = cc in
    let same : symbol_count (h p) ≡ symbol_count (h a) = ap (λ x. symbol_count (h x)) is in omega (arith, same)
got_count h (p ∷ ps) (suc i) a e = let rest : symbol_count (h a) ≤ all_count (map h ps) = got_count h ps i a e in omega (arith, rest)

pub placed_count : (h : Term → Term) (b : Bool) (ts : List Term) (i : ℕ) (a : Term) → slice_get (placed b ts) i ≡ Some a → symbol_count (h a) ≤ all_count (map h ts)
placed_count h b ts i a e =
    let some : symbol_count (h a) ≤ all_count (map h (placed b ts)) = got_count h (placed b ts) i a e in
    let same : all_count (map h (placed b ts)) ≡ all_count (map h ts) = placed_all_count h b ts in
    omega (arith, some, same)

dropped : (h : Term → Term) (ps : List Term) (i : ℕ) (a : Term) → slice_get ps i ≡ Some a → drop i (map h ps) ≡ h a ∷ drop (i + 1) (map h ps)
dropped h [] i a e = cc
dropped h (p ∷ ps) zero a e = let is : p ≡ a = cc in ap (λ x. h x ∷ map h ps) is
dropped h (p ∷ ps) (suc i) a e =
    let plus : suc (i + 1) ≡ suc i + 1 = omega arith in
    dropped h ps i a e ∙ ap (λ n. h a ∷ drop n (map h (p ∷ ps))) plus

pub step_compared : (h : Term → Term) (ps qs : List Term) (i : ℕ) (a b : Term) (o : Ordering) → slice_get ps i ≡ Some a → slice_get qs i ≡ Some b → o ≡ term_cmp (h a) (h b) →
    slice_cmp term_cmp (drop i (map h ps)) (drop i (map h qs)) ≡ ordering_then o (slice_cmp term_cmp (drop (i + 1) (map h ps)) (drop (i + 1) (map h qs)))
step_compared h ps qs i a b o d e is =
    ap (λ xs. slice_cmp term_cmp xs (drop i (map h qs))) (dropped h ps i a d)
    ∙ ap (slice_cmp term_cmp (h a ∷ drop (i + 1) (map h ps))) (dropped h qs i b e)
    ∙ ap (λ p. ordering_then p (slice_cmp term_cmp (drop (i + 1) (map h ps)) (drop (i + 1) (map h qs)))) (sym is)

pub step_tied : (h : Term → Term) (ps qs : List Term) (i : ℕ) (a b : Term) (o : Ordering) → slice_get ps i ≡ Some a → slice_get qs i ≡ Some b → o ≡ term_cmp (h a) (h b) → o ≡ Equal →
    slice_cmp term_cmp (drop (i + 1) (map h ps)) (drop (i + 1) (map h qs)) ≡ slice_cmp term_cmp (drop i (map h ps)) (drop i (map h qs))
step_tied h ps qs i a b o d e is tied =
    sym (step_compared h ps qs i a b o d e is ∙ then_tied o (slice_cmp term_cmp (drop (i + 1) (map h ps)) (drop (i + 1) (map h qs))) tied)

pub step_other : (h : Term → Term) (ps qs : List Term) (i : ℕ) (a b : Term) (o : Ordering) → slice_get ps i ≡ Some a → slice_get qs i ≡ Some b → o ≡ term_cmp (h a) (h b) → (o ≡ Equal → ⊥) →
    o ≡ slice_cmp term_cmp (drop i (map h ps)) (drop i (map h qs))
step_other h ps qs i a b o d e is other =
    sym (step_compared h ps qs i a b o d e is ∙ then_other o (slice_cmp term_cmp (drop (i + 1) (map h ps)) (drop (i + 1) (map h qs))) other)

pub steps_end : (h : Term → Term) (x y : Bool) (ts us : List Term) (i : ℕ) → i ≡ min (length ts) (length us) →
    nat_cmp (length ts) (length us) ≡ slice_cmp term_cmp (drop i (map h (placed x ts))) (drop i (map h (placed y us)))
steps_end h x y ts us i e =
    let one : length (map h (placed x ts)) ≡ length ts = placed_length h x ts in
    let two : length (map h (placed y us)) ≡ length us = placed_length h y us in
    ap (λ n. nat_cmp n (length us)) (sym one) ∙ ap (nat_cmp (length (map h (placed x ts)))) (sym two)
    ∙ sym (cmp_ends i (map h (placed x ts)) (map h (placed y us)) (omega (arith, e, one, two)))

-- Terms that no substitution makes equal, because their operators or names differ somewhere.
use Rattle.std.proofs.Common.{◌≡◌, ℕ, zero, suc, ◌<◌, true, false, List, map, get_or, length, sym, ◌∙◌, ap, subst, inl, inr, arith}
use Rattle.npa_term.specs.declared.term.Op.{Op}
use Rattle.npa_term.specs.declared.term.Var.{Var as Variable}
use Rattle.npa_term.specs.declared.term.Term.{Term, Name, App}
use Rattle.npa_term.specs.Bound.{applied}
use Rattle.npa_term.specs.Computed.{same_op}
use Rattle.npa_term.specs.Same.{Same, SameAll, nothing, first, Crossed, crossed}
use Rattle.npa_term.proofs.Equality.{op_itself}
use Rattle.npa_term.proofs.Rows.{applied_app}
use Rattle.npa_term.proofs.SameCases.{app_injective, same_app, same_only_name}
use Rattle.npa_term.proofs.SameLaws.{same_sym}
use Rattle.npa_unify.specs.Seen.{AreNeverEqual, AreNeverAllEqual}
use Rattle.npa_unify.proofs.Heading.{map_at, map_length}

instance_app : (s : List (Variable × Term)) (t : Term) (f : Op) (ts : List Term) → t ≡ App f ts → applied s t ≡ App f (map (applied s) ts)
instance_app s t f ts e = ap (applied s) e ∙ applied_app s f ts

pub operators_differ : (t u : Term) (f g : Op) (ts us : List Term) → t ≡ App f ts → u ≡ App g us → same_op f g ≡ false → AreNeverEqual t u
operators_differ t u f g ts us d e other = λ s same.
    let one = same_app same f (map (applied s) ts) (instance_app s t f ts d) in
    let is : f ≡ g = (app_injective f g one.0 (map (applied s) us) (sym one.1 ∙ instance_app s u g us e)).0 in
    let equal : same_op f g ≡ true = subst (λ h. same_op f h ≡ true) is (op_itself f) in
    absurd (let no : ⊥ = cc in no)

crossed_swaps : {op : Op} {ts us : List Term} → Crossed op ts us → op.com ≡ true
crossed_swaps (crossed a b c d swaps p q) = swaps

pub arguments_differ : (t u : Term) (f g : Op) (ts us : List Term) → t ≡ App f ts → u ≡ App g us → same_op f g ≡ true → f.com ≡ false → AreNeverAllEqual ts us → AreNeverEqual t u
arguments_differ t u f g ts us d e is free other = λ s same.
    let one = same_app same f (map (applied s) ts) (instance_app s t f ts d) in
    let args : one.0 ≡ map (applied s) us = (app_injective f g one.0 (map (applied s) us) (sym one.1 ∙ instance_app s u g us e)).1 in
    elim one.2 [
      | inl p ↦ other s (subst (SameAll (map (applied s) ts)) args p)
      | inr p ↦ let swaps : f.com ≡ true = crossed_swaps p in absurd (let no : ⊥ = cc in no)
    ]

pub application_and_name : (t u : Term) (f : Op) (ts : List Term) (n : ℕ) → t ≡ App f ts → u ≡ Name n → AreNeverEqual t u
application_and_name t u f ts n d e = λ s same.
    let one = same_app same f (map (applied s) ts) (instance_app s t f ts d) in
    let is : Name n ≡ App f one.0 = sym (ap (applied s) e) ∙ one.1 in
    absurd (let no : ⊥ = cc in no)

pub name_and_application : (t u : Term) (n : ℕ) (f : Op) (ts : List Term) → t ≡ Name n → u ≡ App f ts → AreNeverEqual t u
name_and_application t u n f ts d e = λ s same. application_and_name u t f ts n e d s (same_sym same)

pub names_differ : (t u : Term) (m n : ℕ) → t ≡ Name m → u ≡ Name n → (m ≡ n → ⊥) → AreNeverEqual t u
names_differ t u m n d e other = λ s same.
    let is : Name n ≡ Name m = sym (ap (applied s) e) ∙ same_only_name same m (ap (applied s) d) in
    other (let equal : m ≡ n = cc in equal)

all_at : {xs ys : List Term} → SameAll xs ys → (i : ℕ) (d e : Term) → i < length xs → i < length ys → Same (get_or xs i d) (get_or ys i e)
all_at nothing i d e small within = absurd (let no : ⊥ = omega (arith, small) in no)
all_at (first t u ts us p ps) zero d e small within = p
all_at (first t u ts us p ps) (suc i) d e small within = all_at ps i d e (omega (arith, small)) (omega (arith, within))

pub differ_somewhere : (ts us : List Term) (i : ℕ) (t u : Term) → i < length ts → i < length us → t ≡ get_or ts i t → u ≡ get_or us i u → AreNeverEqual t u → AreNeverAllEqual ts us
differ_somewhere ts us i t u small within d e other = λ s all.
    let h = applied s in
    let long : length (map h ts) ≡ length ts = map_length h ts in
    let wide : length (map h us) ≡ length us = map_length h us in
    let same : Same (get_or (map h ts) i (h t)) (get_or (map h us) i (h u)) = all_at all i (h t) (h u) (omega (arith, small, long)) (omega (arith, within, wide)) in
    other s
    (subst (λ x. Same x (h u)) (map_at h ts i t small ∙ ap h (sym d))
    (subst (Same (get_or (map h ts) i (h t))) (map_at h us i u within ∙ ap h (sym e)) same))

-- The branches are exactly the matchers: each end matches, every substitution that matches agrees
-- with an end, and it agrees with no two.
use Rattle.std.proofs.Common.{◌≡◌, Some, List, ◌∷◌, ◌++◌, subst, inl, inr, []}
use Rattle.std.specs.Prelude.{◌⊎◌, ⊤, flat_map}
use Rattle.npa_sorts.specs.Subsorts.{Subsorts, IsAtOrBelow}
use Rattle.npa_term.specs.declared.term.Var.{Var as Variable}
use Rattle.npa_term.specs.declared.term.Term.{Term}
use Rattle.npa_term.specs.Bound.{value_of, BindsOnce}
use Rattle.npa_term.specs.Parts.{image, least_sort}
use Rattle.npa_term.specs.Same.{Same}

-- a substitution that has, modulo commutativity, the terms that another binds
abbrev pub Follows : List (Variable × Term) → List (Variable × Term) → Type 0
Follows u s = (v : Variable) (t : Term) → value_of s v ≡ Some t → Same (image u v) t

-- what a step of a branch does that has variables `V` to bind, allows bindings `G`, and solves `Q`
pub record IsEnd (V : Variable → Type 0) (G : Variable → Term → Type 0) (Q : List (Variable × Term) → Type 0)
    (s r : List (Variable × Term)) : Type 0 where
  pub once : BindsOnce r
  pub keeps : (v : Variable) (t : Term) → value_of s v ≡ Some t → value_of r v ≡ Some t
  pub binds : (v : Variable) → V v → (t : Term) × (value_of r v ≡ Some t)
  pub new : (v : Variable) (t : Term) → value_of r v ≡ Some t → (value_of s v ≡ Some t) ⊎ (V v × G v t)
  pub solves : (u : List (Variable × Term)) → Follows u r → Q u

abbrev pub Each : {X : Type 0} → (X → Type 0) → List X → Type 0
Each P [] = ⊤
Each P (x ∷ xs) = P x × Each P xs

abbrev pub Some_of : {X : Type 0} → (X → Type 0) → List X → Type 0
Some_of P [] = ⊥
Some_of P (x ∷ xs) = P x ⊎ Some_of P xs

-- no substitution follows two
abbrev pub Apart : List (Variable × Term) → List (Variable × Term) → Type 0
Apart r q = (u : List (Variable × Term)) → Follows u r → Follows u q → ⊥

abbrev pub AllApart : List (List (Variable × Term)) → Type 0
AllApart [] = ⊤
AllApart (r ∷ rs) = Each (Apart r) rs × AllApart rs

-- a way to go on that is exact for a problem
pub record IsExact (o : Subsorts) (V : Variable → Type 0) (G : Variable → Term → Type 0) (Q : List (Variable × Term) → Type 0)
    (W : List (Variable × Term) → List (List (Variable × Term))) : Type 0 where
  pub sound : (s : List (Variable × Term)) → BindsOnce s → Each (IsEnd V G Q s) (W s)
  pub complete : (s u : List (Variable × Term)) → Follows u s → Q u → ((v : Variable) → V v → IsAtOrBelow o (least_sort (image u v)) v.sort) →
      Some_of (Follows u) (W s)
  pub apart : (s : List (Variable × Term)) → BindsOnce s → AllApart (W s)

each_append : {X : Type 0} (P : X → Type 0) (xs ys : List X) → Each P xs → Each P ys → Each P (xs ++ ys)
each_append P [] ys p q = q
each_append P (x ∷ xs) ys p q = (p.0, each_append P xs ys p.1 q)

pub each_map : {X : Type 0} (P R : X → Type 0) → ((x : X) → P x → R x) → (xs : List X) → Each P xs → Each R xs
each_map P R f [] p = tt
each_map P R f (x ∷ xs) p = (f x p.0, each_map P R f xs p.1)

each_flat_map : {X : Type 0} (P R : X → Type 0) (W : X → List X) → ((x : X) → P x → Each R (W x)) → (xs : List X) → Each P xs → Each R (flat_map W xs)
each_flat_map P R W f [] p = tt
each_flat_map P R W f (x ∷ xs) p = each_append R (W x) (flat_map W xs) (f x p.0) (each_flat_map P R W f xs p.1)

some_left : {X : Type 0} (P : X → Type 0) (xs ys : List X) → Some_of P xs → Some_of P (xs ++ ys)
some_left P [] ys p = absurd p
some_left P (x ∷ xs) ys (inl p) = inl p
some_left P (x ∷ xs) ys (inr p) = inr (some_left P xs ys p)

some_right : {X : Type 0} (P : X → Type 0) (xs ys : List X) → Some_of P ys → Some_of P (xs ++ ys)
some_right P [] ys p = p
some_right P (x ∷ xs) ys p = inr (some_right P xs ys p)

some_flat_map : {X : Type 0} (P R : X → Type 0) (W : X → List X) → ((x : X) → P x → Some_of R (W x)) → (xs : List X) → Some_of P xs → Some_of R (flat_map W xs)
some_flat_map P R W f [] p = absurd p
some_flat_map P R W f (x ∷ xs) (inl p) = some_left R (W x) (flat_map W xs) (f x p)
some_flat_map P R W f (x ∷ xs) (inr p) = some_right R (W x) (flat_map W xs) (some_flat_map P R W f xs p)

apart_append : (xs ys : List (List (Variable × Term))) → AllApart xs → AllApart ys → Each (λ x. Each (Apart x) ys) xs → AllApart (xs ++ ys)
apart_append [] ys p q r = q
apart_append (x ∷ xs) ys p q r = (each_append (Apart x) xs ys p.0 r.0, apart_append xs ys p.1 q r.1)

-- a branch's problem holds of what follows an end that keeps its bindings
follows_kept : (u s r : List (Variable × Term)) → ((v : Variable) (t : Term) → value_of s v ≡ Some t → value_of r v ≡ Some t) → Follows u r → Follows u s
follows_kept u s r keeps follows v t e = follows v t (keeps v t e)

-- where there is nothing to do, a branch goes on as it is
pub exact_nothing : (o : Subsorts) (V : Variable → Type 0) (G : Variable → Term → Type 0) (Q : List (Variable × Term) → Type 0) →
    ((v : Variable) → V v → ⊥) → ((u : List (Variable × Term)) → Q u) → IsExact o V G Q (λ s. s ∷ [])
exact_nothing o V G Q free solved = record {
  sound = λ s once. (record { once = once; keeps = λ v t e. e; binds = λ v i. absurd (free v i); new = λ v t e. inl e; solves = λ u f. solved u }, tt);
  complete = λ s u follows q sorts. inl follows;
  apart = λ s once. (tt, tt);
}

-- where nothing solves the problem, a branch ends
pub exact_never : (o : Subsorts) (V : Variable → Type 0) (G : Variable → Term → Type 0) (Q : List (Variable × Term) → Type 0) →
    ((u : List (Variable × Term)) → Q u → ⊥) → IsExact o V G Q (λ s. [])
exact_never o V G Q never = record {
  sound = λ s once. tt;
  complete = λ s u follows q sorts. absurd (never u q);
  apart = λ s once. tt;
}

-- one problem after the other
end_after : {V W : Variable → Type 0} {G : Variable → Term → Type 0} {Q R : List (Variable × Term) → Type 0} {s r q : List (Variable × Term)} →
    IsEnd V G Q s r → IsEnd W G R r q → IsEnd (λ v. V v ⊎ W v) G (λ u. Q u × R u) s q
end_after {V} {W} {G} {Q} {R} {s} {r} {q} first second = record {
  once = second.once;
  keeps = λ v t e. second.keeps v t (first.keeps v t e);
  binds = λ v i. elim i [
    | inl j ↦ let b = first.binds v j in (b.0, second.keeps v b.0 b.1)
    | inr j ↦ second.binds v j
  ];
  new = λ v t e. elim (second.new v t e) [
    | inl old ↦ elim (first.new v t old) [ inl older ↦ inl older | inr n ↦ inr (inl n.0, n.1) ]
    | inr n ↦ inr (inr n.0, n.1)
  ];
  solves = λ u f. (first.solves u (follows_kept u r q second.keeps f), second.solves u f);
}

apart_one : (V : Variable → Type 0) (G : Variable → Term → Type 0) (Q : List (Variable × Term) → Type 0) (W : List (Variable × Term) → List (List (Variable × Term)))
    (r : List (Variable × Term)) (qs : List (List (Variable × Term))) → ((s : List (Variable × Term)) → BindsOnce s → Each (IsEnd V G Q s) (W s)) →
    Each (IsEnd V G Q r) (W r) → Each BindsOnce qs → Each (Apart r) qs → Each (λ x. Each (Apart x) (flat_map W qs)) (W r)
apart_one V G Q W r qs sound ends once apart = spread (W r) ends where
  inner : (x : List (Variable × Term)) → IsEnd V G Q r x → (qs : List (List (Variable × Term))) → Each BindsOnce qs → Each (Apart r) qs → Each (Apart x) (flat_map W qs)
  inner x e [] once apart = tt
  inner x e (q ∷ qs) once apart =
      each_append (Apart x) (W q) (flat_map W qs)
      (each_map (IsEnd V G Q q) (Apart x) (λ y d. λ u f h. apart.0 u (follows_kept u r x e.keeps f) (follows_kept u q y d.keeps h)) (W q) (sound q once.0))
      (inner x e qs once.1 apart.1)

  spread : (xs : List (List (Variable × Term))) → Each (IsEnd V G Q r) xs → Each (λ x. Each (Apart x) (flat_map W qs)) xs
  spread [] es = tt
  spread (x ∷ xs) es = (inner x es.0 qs once apart, spread xs es.1)

apart_flat_map : (V : Variable → Type 0) (G : Variable → Term → Type 0) (Q : List (Variable × Term) → Type 0) (W : List (Variable × Term) → List (List (Variable × Term)))
    (rs : List (List (Variable × Term))) → ((s : List (Variable × Term)) → BindsOnce s → Each (IsEnd V G Q s) (W s)) → ((s : List (Variable × Term)) → BindsOnce s → AllApart (W s)) →
    Each BindsOnce rs → AllApart rs → AllApart (flat_map W rs)
apart_flat_map V G Q W [] sound each once apart = tt
apart_flat_map V G Q W (r ∷ rs) sound each once apart =
    apart_append (W r) (flat_map W rs) (each r once.0) (apart_flat_map V G Q W rs sound each once.1 apart.1)
    (apart_one V G Q W r rs sound (sound r once.0) once.1 apart.0)

pub exact_then : (o : Subsorts) (V W : Variable → Type 0) (G : Variable → Term → Type 0) (Q R : List (Variable × Term) → Type 0)
    (A B : List (Variable × Term) → List (List (Variable × Term))) → IsExact o V G Q A → IsExact o W G R B →
    IsExact o (λ v. V v ⊎ W v) G (λ u. Q u × R u) (λ s. flat_map B (A s))
exact_then o V W G Q R A B first second = record {
  sound = λ s once. each_flat_map (IsEnd V G Q s) (IsEnd (λ v. V v ⊎ W v) G (λ u. Q u × R u) s) B
      (λ r e. each_map (IsEnd W G R r) (IsEnd (λ v. V v ⊎ W v) G (λ u. Q u × R u) s) (λ q d. end_after e d) (B r) (second.sound r e.once)) (A s) (first.sound s once);
  complete = λ s u follows q sorts. some_flat_map (Follows u) (Follows u) B (λ r f. second.complete r u f q.1 (λ v i. sorts v (inr i))) (A s)
      (first.complete s u follows q.0 (λ v i. sorts v (inl i)));
  apart = λ s once. apart_flat_map W G R B (A s) second.sound second.apart (each_map (IsEnd V G Q s) BindsOnce (λ r e. e.once) (A s) (first.sound s once)) (first.apart s once);
}

-- two problems of which nothing solves both
pub exact_either : (o : Subsorts) (V : Variable → Type 0) (G : Variable → Term → Type 0) (Q R : List (Variable × Term) → Type 0)
    (A B : List (Variable × Term) → List (List (Variable × Term))) → IsExact o V G Q A → IsExact o V G R B →
    ((u : List (Variable × Term)) → Q u → R u → ⊥) → IsExact o V G (λ u. Q u ⊎ R u) (λ s. A s ++ B s)
exact_either o V G Q R A B first second disjoint = record {
  sound = λ s once. each_append (IsEnd V G (λ u. Q u ⊎ R u) s) (A s) (B s)
      (each_map (IsEnd V G Q s) (IsEnd V G (λ u. Q u ⊎ R u) s) (λ r e. record { once = e.once; keeps = e.keeps; binds = e.binds; new = e.new; solves = λ u f. inl (e.solves u f) }) (A s) (first.sound s once))
      (each_map (IsEnd V G R s) (IsEnd V G (λ u. Q u ⊎ R u) s) (λ r e. record { once = e.once; keeps = e.keeps; binds = e.binds; new = e.new; solves = λ u f. inr (e.solves u f) }) (B s) (second.sound s once));
  complete = λ s u follows q sorts. elim q [
    | inl p ↦ some_left (Follows u) (A s) (B s) (first.complete s u follows p sorts)
    | inr p ↦ some_right (Follows u) (A s) (B s) (second.complete s u follows p sorts)
  ];
  apart = λ s once. apart_append (A s) (B s) (first.apart s once) (second.apart s once)
      (each_map (IsEnd V G Q s) (λ x. Each (Apart x) (B s))
      (λ x e. each_map (IsEnd V G R s) (Apart x) (λ y d. λ u f h. disjoint u (e.solves u f) (d.solves u h)) (B s) (second.sound s once)) (A s) (first.sound s once));
}

-- the same problem, said otherwise
pub exact_as : (o : Subsorts) (V W : Variable → Type 0) (G H : Variable → Term → Type 0) (Q R : List (Variable × Term) → Type 0)
    (A B : List (Variable × Term) → List (List (Variable × Term))) → ((v : Variable) → V v → W v) → ((v : Variable) → W v → V v) →
    ((v : Variable) (t : Term) → G v t → H v t) → ((u : List (Variable × Term)) → Q u → R u) → ((u : List (Variable × Term)) → R u → Q u) →
    ((s : List (Variable × Term)) → A s ≡ B s) → IsExact o V G Q A → IsExact o W H R B
exact_as o V W G H Q R A B into back good solved given is exact = record {
  sound = λ s once. subst (Each (IsEnd W H R s)) (is s) (each_map (IsEnd V G Q s) (IsEnd W H R s) (λ r e. record {
    once = e.once;
    keeps = e.keeps;
    binds = λ v i. e.binds v (back v i);
    new = λ v t d. elim (e.new v t d) [ inl old ↦ inl old | inr n ↦ inr (into v n.0, good v t n.1) ];
    solves = λ u f. solved u (e.solves u f);
  }) (A s) (exact.sound s once));
  complete = λ s u follows r sorts. subst (Some_of (Follows u)) (is s) (exact.complete s u follows (given u r) (λ v i. sorts v (into v i)));
  apart = λ s once. subst AllApart (is s) (exact.apart s once);
}

-- Rows that cover others: reflexive, transitive, and kept by the substitutions that go through.
use Rattle.std.proofs.Common.{◌≡◌, ◌⊎◌, ℕ, zero, suc, ◌+◌, Bool, true, false, ◌&&◌, Option, Some, None, IfSome, is_some, length, List, [], ◌∷◌, ◌++◌, map, take, drop, zip, inl, inr, refl, sym, ◌∙◌, ap, subst, arith}
use Rattle.std.specs.Prelude.{Contains, nat_eq}
use Rattle.std.specs.List.{flat_map}
use Rattle.std.proofs.lemmas.Bool.{and_parts, and_from, eqb-true, eq-eqb}
use Rattle.npa_sorts.specs.Subsorts.{Subsorts, IsAtOrBelow}
use Rattle.npa_sorts.proofs.Steps.{at_or_below_trans}
use Rattle.npa_term.specs.declared.term.Var.{Var as Variable}
use Rattle.npa_term.specs.declared.term.Term.{Term, Var}
use Rattle.npa_term.specs.Bound.{applied}
use Rattle.npa_term.specs.Composition.{composed}
use Rattle.npa_term.specs.Parts.{image, least_sort}
use Rattle.npa_term.specs.Same.{Same, SameAll, nothing, first}
use Rattle.npa_term.specs.Variables.{variables}
use Rattle.npa_term.proofs.AppliedLaws.{applied-empty}
use Rattle.npa_term.proofs.CompositionLaws.{composed_does}
use Rattle.npa_term.proofs.Parts.{same_sort}
use Rattle.npa_term.proofs.SameCases.{same_all_trans}
use Rattle.npa_term.proofs.SameLaws.{same_sym, same_all_itself, same_all_applied}
use Rattle.npa_match.specs.Branches.{branches, first_of}
use Rattle.npa_match.specs.Matching.{first_variables, Matches, IsMatcher}
use Rattle.npa_match.proofs.Answered.{first_answered, none_answered}
use Rattle.npa_rewrite.specs.declared.theory.Theory.{Theory}
use Rattle.npa_rewrite.specs.Rewriting.{FitsSorts, IsNormal}
use Rattle.npa_rewrite.proofs.Instances.{image_variables, sort_instance}
use Rattle.npa_rewrite.proofs.InstanceParts.{here, behind, member_cases}
use Rattle.npa_rewrite.proofs.Under.{normal_same}
use Rattle.npa_variants.specs.Rows.{Row, covers_row}
use Rattle.npa_variants.specs.Variants.{Covers}
use Rattle.npa_variants.proofs.Members.{none_there, mapped_member, of_mapped, flat_member, of_flat, same_all_take, same_all_drop, same_all_length, same_all_member, same_all_variables, taken_map, dropped_map}

-- the variables of the term of a variable stand in the instances
pub row_variables : (s : List (Variable × Term)) (a : Row) (v w : Variable) → Contains (flat_map variables a) v → Contains (variables (image s v)) w →
    Contains (flat_map variables (map (applied s) a)) w
row_variables s a v w c d =
    let of = of_flat variables a v c in
    flat_member variables (map (applied s) a) (applied s of.0) w (mapped_member (applied s) a of.0 of.1) (image_variables s v w of.0 of.2 d)

pub composed_all : (s u : List (Variable × Term)) (ts : List Term) → SameAll (map (applied (composed s u)) ts) (map (applied u) (map (applied s) ts))
composed_all s u [] = nothing
composed_all s u (t ∷ ts) =
    first (applied (composed s u) t) (applied u (applied s t)) (map (applied (composed s u)) ts) (map (applied u) (map (applied s) ts))
    (composed_does s u t) (composed_all s u ts)

-- what goes through the second row goes through the first
pub through_sorts : (o : Subsorts) (a b : Row) (c : Covers o a b) (s : List (Variable × Term)) → FitsSorts o (flat_map variables b) s →
    FitsSorts o (flat_map variables a) (composed c.by_ s)
through_sorts o a b c s fits v there =
    let inner : FitsSorts o (variables (image c.by_ v)) s =
    λ w d. fits w (same_all_variables c.equal w (row_variables c.by_ a v w there d)) in
    let same : least_sort (image (composed c.by_ s) v) ≡ least_sort (applied s (image c.by_ v)) =
    same_sort (image (composed c.by_ s) v) (applied s (image c.by_ v)) (composed_does c.by_ s (Var v)) in
    subst (λ n. IsAtOrBelow o n v.sort) (sym same) (at_or_below_trans (sort_instance o s (image c.by_ v) inner) (c.sorts v there))

pub through_all : (o : Subsorts) (a b : Row) (c : Covers o a b) (s : List (Variable × Term)) → SameAll (map (applied (composed c.by_ s)) a) (map (applied s) b)
through_all o a b c s = same_all_trans (composed_all c.by_ s a) (same_all_applied s c.equal)

empty_all : (ts : List Term) → map (applied []) ts ≡ ts
empty_all [] = refl
empty_all (t ∷ ts) = ap (λ u. u ∷ map (applied []) ts) (applied-empty t) ∙ ap (λ us. t ∷ us) (empty_all ts)

pub covers_itself : (o : Subsorts) (a : Row) → Covers o a a
covers_itself o a = record {
  by_ = [];
  sorts = λ v c. inl refl;
  equal = subst (λ ts. SameAll ts a) (sym (empty_all a)) (same_all_itself a);
}

pub covers_through : (o : Subsorts) (a b c : Row) → Covers o a b → Covers o b c → Covers o a c
covers_through o a b c p q = record {
  by_ = composed p.by_ q.by_;
  sorts = through_sorts o a b p q.by_ q.sorts;
  equal = same_all_trans (through_all o a b p q.by_) q.equal;
}

-- Substitutions that serve values at a row: they send the row's values to them. They settle them where
-- the instances of the row's terms are normal.
pub record Serves (o : Subsorts) (m : ℕ) (values : List Term) (r : Row) (s : List (Variable × Term)) : Type 0 where
  pub sorts : FitsSorts o (flat_map variables r) s
  pub equal : SameAll (map (applied s) (take m r)) values

pub record Settles (th : Theory) (m : ℕ) (values : List Term) (r : Row) (s : List (Variable × Term)) : Type 0 where
  pub serves : Serves th.sig.sorts m values r s
  pub normal : (t : Term) → Contains (drop m r) t → IsNormal th (applied s t)

pub covers_serves : (o : Subsorts) (m : ℕ) (values : List Term) (a b : Row) (c : Covers o a b) (s : List (Variable × Term)) → Serves o m values b s →
    Serves o m values a (composed c.by_ s)
covers_serves o m values a b c s serves =
    let taken : SameAll (map (applied (composed c.by_ s)) (take m a)) (map (applied s) (take m b)) =
    subst (λ ts. SameAll ts (map (applied s) (take m b))) (taken_map (applied (composed c.by_ s)) m a)
    (subst (SameAll (take m (map (applied (composed c.by_ s)) a))) (taken_map (applied s) m b) (same_all_take m (through_all o a b c s))) in
    record { sorts = through_sorts o a b c s serves.sorts; equal = same_all_trans taken serves.equal }

pub covers_settles : (th : Theory) (m : ℕ) (values : List Term) (a b : Row) (c : Covers th.sig.sorts a b) (s : List (Variable × Term)) →
    Settles th m values b s → Settles th m values a (composed c.by_ s)
covers_settles th m values a b c s settles =
    let dropped : SameAll (map (applied (composed c.by_ s)) (drop m a)) (map (applied s) (drop m b)) =
    subst (λ ts. SameAll ts (map (applied s) (drop m b))) (dropped_map (applied (composed c.by_ s)) m a)
    (subst (SameAll (drop m (map (applied (composed c.by_ s)) a))) (dropped_map (applied s) m b) (same_all_drop m (through_all th.sig.sorts a b c s))) in
    record {
      serves = covers_serves th.sig.sorts m values a b c s settles.serves;
      normal = λ t there.
          let other = same_all_member dropped (applied (composed c.by_ s) t) (mapped_member (applied (composed c.by_ s)) (drop m a) t there) in
          let from = of_mapped (applied s) (drop m b) other.0 other.1 in
          normal_same th other.0 (applied (composed c.by_ s) t) (same_sym other.2)
          (subst (IsNormal th) (sym from.2) (settles.normal from.0 from.1));
    }

-- the weight of an instance of a row
abbrev pub total : (Term → ℕ) → List Term → ℕ
total weigh [] = 0
total weigh (t ∷ ts) = weigh t + total weigh ts

abbrev pub size : (Term → ℕ) → Row → List (Variable × Term) → ℕ
size weigh r s = total weigh (map (applied s) r)

pub same_total : (weigh : Term → ℕ) → ((t u : Term) → Same t u → weigh t ≡ weigh u) → {ts us : List Term} → SameAll ts us → total weigh ts ≡ total weigh us
same_total weigh even nothing = refl
same_total weigh even (first t u ts us p q) =
    ap (λ n. n + total weigh ts) (even t u p) ∙ ap (λ n. weigh u + n) (same_total weigh even q)

pub covers_size : (weigh : Term → ℕ) → ((t u : Term) → Same t u → weigh t ≡ weigh u) → (o : Subsorts) (a b : Row) (c : Covers o a b) (s : List (Variable × Term)) →
    size weigh a (composed c.by_ s) ≡ size weigh b s
covers_size weigh even o a b c s = same_total weigh even (through_all o a b c s)

-- ## The test

-- the pairs of two rows
pairs_variables : (a b : Row) → length a ≡ length b → first_variables (zip a b) ≡ flat_map variables a
pairs_variables [] [] e = refl
pairs_variables [] (u ∷ us) e = refl
pairs_variables (t ∷ ts) [] e = cc
pairs_variables (t ∷ ts) (u ∷ us) e = ap (λ vs. variables t ++ vs) (pairs_variables ts us (omega (arith, e)))

pairs_equal : (s : List (Variable × Term)) (a b : Row) → length a ≡ length b → ((t u : Term) → Contains (zip a b) (t, u) → Same (applied s t) u) →
    SameAll (map (applied s) a) b
pairs_equal s [] [] e each = nothing
pairs_equal s [] (u ∷ us) e each = cc
pairs_equal s (t ∷ ts) [] e each = cc
pairs_equal s (t ∷ ts) (u ∷ us) e each =
    first (applied s t) u (map (applied s) ts) us (each t u (here (t, u) (zip ts us)))
    (pairs_equal s ts us (omega (arith, e)) (λ x y c. each x y (behind (t, u) (x, y) (zip ts us) c)))

equal_pairs : (s : List (Variable × Term)) (a b : Row) → SameAll (map (applied s) a) b → (t u : Term) → Contains (zip a b) (t, u) → Same (applied s t) u
equal_pairs s [] b all t u c = absurd (none_there (t, u) c)
equal_pairs s (x ∷ xs) [] all t u c = absurd (none_there (t, u) c)
equal_pairs s (x ∷ xs) (y ∷ ys) (first _ _ _ _ p q) t u c =
    elim (member_cases (x, y) (t, u) (zip xs ys) c) [
      | inl e ↦ subst (λ z. Same (applied s z.0) z.1) e p
      | inr d ↦ equal_pairs s xs ys q t u d
    ]

pub covers_sound : (o : Subsorts) (a b : Row) → covers_row o a b ≡ true → Covers o a b
covers_sound o a b e =
    let both = and_parts (nat_eq (length a) (length b)) (is_some (first_of (branches o (zip a b)))) e in
    let long : length a ≡ length b = eqb-true (length a) (length b) both.0 in
    found (first_of (branches o (zip a b))) long both.1 (first_answered o (zip a b))
  where
    found : (x : Option (List (Variable × Term))) → length a ≡ length b → is_some x ≡ true → IfSome x (IsMatcher o (zip a b)) → Covers o a b
    found None long is m = cc
    found (Some s) long is m = record {
      by_ = s;
      sorts = λ v c. m.matches.sorts v (subst (λ vs. Contains vs v) (sym (pairs_variables a b long)) c);
      equal = pairs_equal s a b long m.matches.equal;
    }

mapped_length : {X Y : Type 0} (f : X → Y) (xs : List X) → length (map f xs) ≡ length xs
mapped_length f [] = refl
mapped_length f (x ∷ xs) = ap suc (mapped_length f xs)

pub covers_complete : (o : Subsorts) (a b : Row) → Covers o a b → covers_row o a b ≡ true
covers_complete o a b c =
    let long : length a ≡ length b = sym (mapped_length (applied c.by_) a) ∙ same_all_length c.equal in
    let matches : Matches o (zip a b) c.by_ = record {
      sorts = λ v i. c.sorts v (subst (λ vs. Contains vs v) (pairs_variables a b long) i);
      equal = equal_pairs c.by_ a b c.equal;
    } in
    and_from (nat_eq (length a) (length b)) (is_some (first_of (branches o (zip a b)))) (eq-eqb (length a) (length b) long)
    (some (first_of (branches o (zip a b))) (λ none. none_answered o (zip a b) none c.by_ matches))
  where
    some : (x : Option (List (Variable × Term))) → (x ≡ None → ⊥) → is_some x ≡ true
    some None never = absurd (never refl)
    some (Some s) never = refl

pub covers_exact : (o : Subsorts) (a b : Row) → covers_row o a b ≡ false → Covers o a b → ⊥
covers_exact o a b e c = let yes : covers_row o a b ≡ true = covers_complete o a b c in let no : ⊥ = cc in no

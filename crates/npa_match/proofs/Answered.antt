-- What the ends of all branches are.
use Rattle.std.proofs.lemmas.List.{append-nil, length-append}
use Rattle.std.proofs.Common.{◌≡◌, ℕ, zero, suc, ◌+◌, Bool, false, length, Option, Some, None, IsSome, IfSome, Result, Ok, Err, IfOk, IsTrue, List, ◌∷◌, ◌++◌, refl, sym, ◌∙◌, ap, subst, inl, inr, arith, []}
use Rattle.std.specs.Prelude.{Contains, All, unwrap_or}
use Rattle.std.specs.Option.{is_some}
use Rattle.npa_sorts.specs.Subsorts.{Subsorts, IsAtOrBelow}
use Rattle.npa_term.specs.declared.term.Var.{Var as Variable}
use Rattle.npa_term.specs.declared.term.Term.{Term, Var}
use Rattle.npa_term.specs.Bound.{value_of}
use Rattle.npa_term.specs.Parts.{image, least_sort}
use Rattle.npa_term.specs.Same.{Same, itself}
use Rattle.npa_term.proofs.Parts.{image_of}
use Rattle.npa_match.specs.Branches.{branches, first_of}
use Rattle.npa_match.specs.Matching.{first_variables, Matches, IsMatcher, AgreeOn, AreDifferent, HasMatch, HasMatcher, HasMore, IsFollowed, IsSecondPart}
use Rattle.npa_match.proofs.Exactness.{Follows, IsEnd, Some_of, Each, Apart, AllApart, each_map}
use Rattle.npa_match.proofs.Exact.{Allowed, Solves, exact_pairs}

follows_itself : (r : List (Variable × Term)) → Follows r r
follows_itself r v t e = subst (Same (image r v)) (image_of r v t e) (itself (image r v))

some_is : (x : Option Term) (t : Term) → x ≡ Some t → IsSome x
some_is x t e = ap is_some e

-- an end of a branch is a matcher
end_matcher : (o : Subsorts) (ps : List (Term × Term)) (r : List (Variable × Term)) →
    IsEnd (Contains (first_variables ps)) (Allowed o (IsSecondPart ps)) (Solves ps) [] r → IsMatcher o ps r
end_matcher o ps r e =
    let new : (v : Variable) (t : Term) → value_of r v ≡ Some t → Contains (first_variables ps) v × Allowed o (IsSecondPart ps) v t =
    λ v t d. elim (e.new v t d) [ inl old ↦ let no : ⊥ = cc in absurd no | inr n ↦ (n.0, n.1) ] in
    record {
      matches = record {
        sorts = λ v i. let b = e.binds v i in
            subst (λ t. IsAtOrBelow o (least_sort t) v.sort) (sym (image_of r v b.0 b.1)) (new v b.0 b.1).1.1;
        equal = e.solves r (follows_itself r);
      };
      once = e.once;
      binds = λ v i. let b = e.binds v i in some_is (value_of r v) b.0 b.1;
      only = λ v t d. (new v t d).0;
      parts = λ v t d. (new v t d).1.0;
    }

pub each_branch : (o : Subsorts) (ps : List (Term × Term)) → Each (IsMatcher o ps) (branches o ps)
each_branch o ps =
    each_map (IsEnd (Contains (first_variables ps)) (Allowed o (IsSecondPart ps)) (Solves ps) []) (IsMatcher o ps) (end_matcher o ps) (branches o ps)
    ((exact_pairs o ps).sound [] tt)

all_from_each : {X : Type 0} (P : X → Type 0) (xs : List X) → Each P xs → All P xs
all_from_each P [] each k d small = absurd (let no : ⊥ = omega (arith, small) in no)
all_from_each P (x ∷ xs) each zero d small = each.0
all_from_each P (x ∷ xs) each (suc k) d small = all_from_each P xs each.1 k d (omega (arith, small))

pub all_branches : (o : Subsorts) (ps : List (Term × Term)) → All (IsMatcher o ps) (branches o ps)
all_branches o ps = all_from_each (IsMatcher o ps) (branches o ps) (each_branch o ps)

-- every substitution that matches agrees with one
pub followed : (vs : List Variable) (u r : List (Variable × Term)) → ((v : Variable) → Contains vs v → IsSome (value_of r v)) → Follows u r → AgreeOn vs u r
followed vs u r binds follows v i =
    elim (value_of r v) as (λ x. value_of r v ≡ x → IsSome x → Same (image u v) (unwrap_or x (Var v)))
    [ Some t ↦ λ e some. follows v t e | None ↦ λ e some. let no : ⊥ = cc in absurd no ] refl (binds v i)

found_in : (vs : List Variable) (u : List (Variable × Term)) (P : List (Variable × Term) → Type 0) → ((r : List (Variable × Term)) → P r → (v : Variable) → Contains vs v → IsSome (value_of r v)) →
    (rs : List (List (Variable × Term))) → Each P rs → Some_of (Follows u) rs → (s : List (Variable × Term)) × Contains rs s × AgreeOn vs u s
found_in vs u P binds [] each none = absurd none
found_in vs u P binds (r ∷ rs) each (inl f) = (r, (zero, omega arith, refl), followed vs u r (binds r each.0) f)
found_in vs u P binds (r ∷ rs) each (inr f) =
    let rest = found_in vs u P binds rs each.1 f in (rest.0, (suc rest.1.0, omega (arith, rest.1.1), rest.1.2), rest.2)

pub matching_branch : (o : Subsorts) (ps : List (Term × Term)) (u : List (Variable × Term)) → Matches o ps u → Some_of (Follows u) (branches o ps)
matching_branch o ps u m = (exact_pairs o ps).complete [] u (λ v t e. let no : ⊥ = cc in absurd no) m.equal m.sorts

abbrev pub IsCovered : List (Term × Term) → List (Variable × Term) → List (List (Variable × Term)) → Type 0
IsCovered ps u ss = (s : List (Variable × Term)) × Contains ss s × AgreeOn (first_variables ps) u s

pub every_branch : (o : Subsorts) (ps : List (Term × Term)) (u : List (Variable × Term)) → Matches o ps u → IsCovered ps u (branches o ps)
every_branch o ps u m =
    found_in (first_variables ps) u (IsMatcher o ps) (λ r e. e.binds) (branches o ps) (each_branch o ps) (matching_branch o ps u m)

-- no two agree
agreed_follows : (o : Subsorts) (ps : List (Term × Term)) (s r : List (Variable × Term)) → IsMatcher o ps r → AgreeOn (first_variables ps) s r → Follows s r
agreed_follows o ps s r m agree v t e = subst (Same (image s v)) (image_of r v t e) (agree v (m.only v t e))

different_from : (o : Subsorts) (ps : List (Term × Term)) (s : List (Variable × Term)) (rs : List (List (Variable × Term))) →
    Each (IsMatcher o ps) rs → Each (Apart s) rs → Each (λ r. ¬ AgreeOn (first_variables ps) s r) rs
different_from o ps s [] each apart = tt
different_from o ps s (r ∷ rs) each apart =
    (λ agree. apart.0 s (follows_itself s) (agreed_follows o ps s r each.0 agree), different_from o ps s rs each.1 apart.1)

pairs_different : (o : Subsorts) (ps : List (Term × Term)) (rs : List (List (Variable × Term))) →
    Each (IsMatcher o ps) rs → AllApart rs → AreDifferent (first_variables ps) rs
pairs_different o ps [] each apart i j d less small = absurd (let no : ⊥ = omega (arith, small) in no)
pairs_different o ps (r ∷ rs) each apart zero zero d less small = absurd (let no : ⊥ = omega (arith, less) in no)
pairs_different o ps (r ∷ rs) each apart zero (suc j) d less small =
    all_from_each (λ q. ¬ AgreeOn (first_variables ps) r q) rs (different_from o ps r rs each.1 apart.0) j d (omega (arith, small))
pairs_different o ps (r ∷ rs) each apart (suc i) zero d less small = absurd (let no : ⊥ = omega (arith, less) in no)
pairs_different o ps (r ∷ rs) each apart (suc i) (suc j) d less small =
    pairs_different o ps rs each.1 apart.1 i j d (omega (arith, less)) (omega (arith, small))

pub different_branches : (o : Subsorts) (ps : List (Term × Term)) → AreDifferent (first_variables ps) (branches o ps)
different_branches o ps = pairs_different o ps (branches o ps) (each_branch o ps) ((exact_pairs o ps).apart [] tt)

-- what is answered where no end is left, and where there is one too many
pub all_found : (o : Subsorts) (ps : List (Term × Term)) (found left : List (List (Variable × Term))) → found ++ left ≡ branches o ps → left ≡ [] → found ≡ branches o ps
all_found o ps found left all none = sym (append-nil found) ∙ ap (λ xs. found ++ xs) (sym none) ∙ all

pub more : (o : Subsorts) (ps : List (Term × Term)) (found left rest : List (List (Variable × Term))) (s : List (Variable × Term)) (n : ℕ) →
    found ++ left ≡ branches o ps → left ≡ s ∷ rest → length found ≡ n → HasMore n o ps
more o ps found left rest s n all next many =
    let size : length (branches o ps) ≡ length found + length (s ∷ rest) = ap length (sym all ∙ ap (λ xs. found ++ xs) next) ∙ length-append found (s ∷ rest) in
    (branches o ps, omega (arith, size, many), all_branches o ps, different_branches o ps)

-- the first end
pub first_answered : (o : Subsorts) (ps : List (Term × Term)) → IfSome (first_of (branches o ps)) (IsMatcher o ps)
first_answered o ps = first_each (branches o ps) (each_branch o ps) where
  first_each : (rs : List (List (Variable × Term))) → Each (IsMatcher o ps) rs → IfSome (first_of rs) (IsMatcher o ps)
  first_each [] each = tt
  first_each (r ∷ rs) each = each.0

pub none_answered : (o : Subsorts) (ps : List (Term × Term)) → first_of (branches o ps) ≡ None → (u : List (Variable × Term)) → Matches o ps u → ⊥
none_answered o ps none u m = no_first (branches o ps) none (matching_branch o ps u m) where
  no_first : (rs : List (List (Variable × Term))) → first_of rs ≡ None → Some_of (Follows u) rs → ⊥
  no_first [] none some = some
  no_first (r ∷ rs) none some = let no : ⊥ = cc in no

-- what a search says of its next end
module _ (o : Subsorts) (ps : List (Term × Term)) (all rest : List (List (Variable × Term))) (whole : all ≡ branches o ps) where
  pub next_matcher : {E : Type 0} (r : Result (Option (List (Variable × Term))) E) → IfOk r (λ found. IfSome found (λ s. all ≡ s ∷ rest)) → IfOk r (λ found. IfSome found (IsMatcher o ps))
  next_matcher (Ok None) found = tt
  next_matcher (Ok (Some s)) found = (subst (λ ss. Each (IsMatcher o ps) ss) (sym whole ∙ found) (each_branch o ps)).0
  next_matcher (Err e) found = tt

  pub next_none : {E : Type 0} (r : Result (Option (List (Variable × Term))) E) → IfOk r (λ found. found ≡ None → all ≡ []) →
      IfOk r (λ found. found ≡ None → (u : List (Variable × Term)) → Matches o ps u → ⊥)
  next_none (Ok x) none = λ e u m. none_answered o ps (ap first_of (sym whole ∙ none e)) u m
  next_none (Err e) none = tt

  pub skip_matched : {E : Type 0} (r : Result Bool E) → IfOk r (λ b. IsTrue b → IsFollowed all rest) → IfOk r (λ b. IsTrue b → HasMatcher o ps)
  skip_matched (Ok b) found = λ is. let s = found is in record { by_ = s.0; is = (subst (λ ss. Each (IsMatcher o ps) ss) (sym whole ∙ s.1) (each_branch o ps)).0 }
  skip_matched (Err e) found = tt

  pub skip_none : {E : Type 0} (r : Result Bool E) → IfOk r (λ b. b ≡ false → all ≡ []) → IfOk r (λ b. b ≡ false → HasMatch o ps → ⊥)
  skip_none (Ok b) none = λ is m. none_answered o ps (ap first_of (sym whole ∙ none is)) m.by_ m.matches
  skip_none (Err e) none = tt

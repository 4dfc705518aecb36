-- What becomes of pairs that are added to others.
use Rattle.std.proofs.Common.{◌≡◌, ◌≤◌, zero, suc, length, Contains, List, ◌∷◌, ◌++◌, refl, sym, ◌∙◌, ap, subst, arith, []}
use Rattle.std.specs.Prelude.{flat_map}
use Rattle.std.proofs.lemmas.List.{append-nil}
use Rattle.std.proofs.lemmas.List.Elements.{Contains-append_left, Contains-append_right}
use Rattle.npa_sorts.specs.Subsorts.{Subsorts}
use Rattle.npa_term.specs.declared.term.Var.{Var as Variable}
use Rattle.npa_term.specs.declared.term.Term.{Term}
use Rattle.npa_match.specs.Branches.{after_pairs, after_term, branches, first_of}
use Rattle.npa_match.specs.Matching.{HasMatch, HasMatcher, IsMatcher}
use Rattle.npa_match.proofs.Answered.{each_branch, none_answered}
use Rattle.npa_match.proofs.Exactness.{Each}
use Rattle.npa_match.proofs.Lists.{flat_map_alike, flat_map-flat_map}
use Rattle.npa_match.proofs.Once.{few_flat}

-- first the ones, then the others
after_both : (o : Subsorts) (ps qs : List (Term × Term)) (s : List (Variable × Term)) → after_pairs o (ps ++ qs) s ≡ flat_map (after_pairs o qs) (after_pairs o ps s)
after_both o [] qs s = sym (append-nil (after_pairs o qs s))
after_both o (p ∷ ps) qs s =
    flat_map_alike (after_pairs o (ps ++ qs)) (λ r. flat_map (after_pairs o qs) (after_pairs o ps r)) (after_both o ps qs) (after_term o p.0 p.1 s)
    ∙ sym (flat_map-flat_map (after_pairs o ps) (after_pairs o qs) (after_term o p.0 p.1 s))

in_flat : {X Y : Type 0} (f : X → List Y) (xs : List X) (x : X) (y : Y) → Contains xs x → Contains (f x) y → Contains (flat_map f xs) y
in_flat f [] x y h g = absurd (let no : ⊥ = omega (arith, h.1) in no)
in_flat f (z ∷ xs) x y (zero, small, is) g = Contains-append_left (f z) (flat_map f xs) y (subst (λ w. Contains (f w) y) (sym is) g)
in_flat f (z ∷ xs) x y (suc k, small, is) g = Contains-append_right (f z) (flat_map f xs) y (in_flat f xs x y (k, omega (arith, small), is) g)

only_flat : {X Y : Type 0} (f : X → List Y) (xs : List X) (x : X) → length xs ≤ 1 → Contains xs x → f x ≡ [] → flat_map f xs ≡ []
only_flat f [] x few h none = refl
only_flat f (z ∷ []) x few (zero, small, is) none = append-nil (f z) ∙ ap f is ∙ none
only_flat f (z ∷ []) x few (suc k, small, is) none = absurd (let no : ⊥ = omega (arith, small) in no)
only_flat f (z ∷ w ∷ xs) x few h none = absurd (let no : ⊥ = omega (arith, few) in no)

-- what goes on from a matcher is a matcher of both
pub extended : (o : Subsorts) (ps qs : List (Term × Term)) (s r : List (Variable × Term)) → Contains (branches o ps) s → Contains (after_pairs o qs s) r → Contains (branches o (ps ++ qs)) r
extended o ps qs s r h g = subst (λ ss. Contains ss r) (sym (after_both o ps qs [])) (in_flat (after_pairs o qs) (branches o ps) s r h g)

-- where there is one matcher, and nothing goes on from it, both don't match
pub unmatched : (o : Subsorts) (ps : List (Term × Term)) → branches o ps ≡ [] → HasMatch o ps → ⊥
unmatched o ps none m = none_answered o ps (ap first_of none) m.by_ m.matches

pub unextended : (o : Subsorts) (ps qs : List (Term × Term)) (s : List (Variable × Term)) → Contains (branches o ps) s → length (branches o ps) ≤ 1 → after_pairs o qs s ≡ [] → HasMatch o (ps ++ qs) → ⊥
unextended o ps qs s h few none = unmatched o (ps ++ qs) (after_both o ps qs [] ∙ only_flat (after_pairs o qs) (branches o ps) s few h none)

pub still_few : (o : Subsorts) (ps qs : List (Term × Term)) → length (branches o ps) ≤ 1 → ((s : List (Variable × Term)) → length (after_pairs o qs s) ≤ 1) → length (branches o (ps ++ qs)) ≤ 1
still_few o ps qs few each = subst (λ ss. length ss ≤ 1) (sym (after_both o ps qs [])) (few_flat (after_pairs o qs) each (branches o ps) few)

-- a member of the branches is a matcher
pub branch_matcher : (o : Subsorts) (ps : List (Term × Term)) (s : List (Variable × Term)) → Contains (branches o ps) s → HasMatcher o ps
branch_matcher o ps s h = record { by_ = s; is = member (branches o ps) (each_branch o ps) h } where
  member : (ss : List (List (Variable × Term))) → Each (IsMatcher o ps) ss → Contains ss s → IsMatcher o ps s
  member [] each g = absurd (let no : ⊥ = omega (arith, g.1) in no)
  member (r ∷ rs) each (zero, small, is) = subst (IsMatcher o ps) is each.0
  member (r ∷ rs) each (suc k, small, is) = member rs each.1 (k, omega (arith, small), is)

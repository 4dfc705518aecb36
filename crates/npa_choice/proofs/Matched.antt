-- What matches pairs matches others that are among them.
use Rattle.std.proofs.Common.{inl, inr, List, [], ◌∷◌, Contains, subst, sym, arith}
use Rattle.std.proofs.lemmas.List.Elements.{Contains-append_left, Contains-append_right, Contains-append_cases}
use Rattle.npa_sorts.specs.Subsorts.{Subsorts}
use Rattle.npa_term.specs.declared.term.Var.{Var as Variable}
use Rattle.npa_term.specs.declared.term.Term.{Term}
use Rattle.npa_term.specs.Variables.{variables}
use Rattle.npa_term.proofs.Numbered.{member_first, member_later}
use Rattle.npa_match.specs.Branches.{branches}
use Rattle.npa_match.specs.Matching.{first_variables, Matches, IsMatcher}
use Rattle.npa_match.proofs.Answered.{all_branches}
use Rattle.npa_choice.proofs.Places.{contains_cases}

-- a variable of the first members is one of a pair
pub in_pair : (ps : List (Term × Term)) (v : Variable) → Contains (first_variables ps) v → (p : Term × Term) × Contains ps p × Contains (variables p.0) v
in_pair [] v c = absurd (let no : ⊥ = omega (arith, c.1) in no)
in_pair (p ∷ ps) v c = elim (Contains-append_cases (variables p.0) (first_variables ps) v c) [
  | inl here ↦ (p, member_first p ps, here)
  | inr later ↦ let x = in_pair ps v later in (x.0, member_later p x.0 ps x.1, x.2)
]

pub of_pair : (ps : List (Term × Term)) (p : Term × Term) (v : Variable) → Contains ps p → Contains (variables p.0) v → Contains (first_variables ps) v
of_pair [] p v c d = absurd (let no : ⊥ = omega (arith, c.1) in no)
of_pair (q ∷ ps) p v c d = elim (contains_cases q ps p c) [
  | inl is ↦ Contains-append_left (variables q.0) (first_variables ps) v (subst (λ (x : Term × Term). Contains (variables x.0) v) (sym is) d)
  | inr later ↦ Contains-append_right (variables q.0) (first_variables ps) v (of_pair ps p v later d)
]

-- a list of pairs that has this one and that the substitution matches
pub record IsMatched (o : Subsorts) (s : List (Variable × Term)) (p : Term × Term) : Type 0 where
  pub pairs : List (Term × Term)
  pub among : Contains pairs p
  pub matches : Matches o pairs s

pub matches_all : (o : Subsorts) (ps : List (Term × Term)) (s : List (Variable × Term)) → ((p : Term × Term) → Contains ps p → IsMatched o s p) → Matches o ps s
matches_all o ps s each = record {
  sorts = λ v c. let x = in_pair ps v c in let m = each x.0 x.1 in m.matches.sorts v (of_pair m.pairs x.0 v m.among x.2);
  equal = λ t u c. let m = each (t, u) c in m.matches.equal t u m.among;
}

pub matches_fewer : (o : Subsorts) (ps qs : List (Term × Term)) (s : List (Variable × Term)) → ((p : Term × Term) → Contains qs p → Contains ps p) → Matches o ps s → Matches o qs s
matches_fewer o ps qs s among m = matches_all o qs s (λ p c. record { pairs = ps; among = among p c; matches = m })

-- a member of the branches is a matcher
pub branch_is : (o : Subsorts) (ps : List (Term × Term)) (s : List (Variable × Term)) → Contains (branches o ps) s → IsMatcher o ps s
branch_is o ps s c = subst (IsMatcher o ps) c.2 (all_branches o ps c.0 s c.1)

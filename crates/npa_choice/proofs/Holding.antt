-- A witness of the pairs of a choice.
use Rattle.std.proofs.Common.{◌≡◌, ◌≤◌, true, zero, Option, Some, None, IfSome, Result, Ok, Err, IfOk, length, Contains, List, ◌++◌, refl, sym, ◌∙◌, ap, subst, arith, []}
use Rattle.std.specs.Borrow.{Bor}
use Rattle.std.proofs.lemmas.List.{map-append}
use Rattle.npa_sorts.specs.Subsorts.{Subsorts}
use Rattle.npa_term.specs.declared.term.Var.{Var as Variable}
use Rattle.npa_term.specs.declared.term.Term.{Term}
use Rattle.npa_match.specs.Branches.{after_pairs, branches}
use Rattle.npa_match.specs.Matching.{HasMatch, bound_pairs, read_pairs}
use Rattle.npa_match.proofs.Extending.{still_few, unextended, unmatched}
use Rattle.npa_choice.specs.declared.partial.Partial.{Partial}
use Rattle.npa_choice.specs.Partial.{IsWitnessed}

-- that of no pairs
pub witnessed_none : (o : Subsorts) (c : Partial) → c.pairs ≡ [] → c.bound ≡ [] → IsWitnessed o c
witnessed_none o c pairs bound = record {
  witness = subst (λ ps. Contains (branches o (read_pairs ps)) (bound_pairs c.bound)) (sym pairs)
      (subst (λ bs. Contains (branches o []) (bound_pairs bs)) (sym bound) (zero, omega arith, refl));
  only = λ _. subst (λ ps. length (branches o (read_pairs ps)) ≤ 1) (sym pairs) (omega arith);
}

pub both_read : (ps qs all : List (Bor Term × Bor Term)) → all ≡ ps ++ qs → read_pairs all ≡ read_pairs ps ++ read_pairs qs
both_read ps qs all is = ap read_pairs is ∙ map-append (λ (p : Bor Term × Bor Term). (p.0.now, p.1.now)) ps qs

module _ (o : Subsorts) (c : Partial) (held : IsWitnessed o c) where
  -- that of more pairs
  pub witnessed_more : (d : Partial) (qs : List (Term × Term)) → read_pairs d.pairs ≡ read_pairs c.pairs ++ qs → Contains (branches o (read_pairs c.pairs ++ qs)) (bound_pairs d.bound) →
      (d.once ≡ true → (c.once ≡ true) × ((s : List (Variable × Term)) → length (after_pairs o qs s) ≤ 1)) → IsWitnessed o d
  witnessed_more d qs pairs witness once = record {
    witness = subst (λ ps. Contains (branches o ps) (bound_pairs d.bound)) (sym pairs) witness;
    only = λ e. let x = once e in subst (λ ps. length (branches o ps) ≤ 1) (sym pairs) (still_few o (read_pairs c.pairs) qs (held.only x.0) x.1);
  }

  -- where the only one can't be extended, there is none
  pub witnessed_closed : (qs : List (Term × Term)) → c.once ≡ true → after_pairs o qs (bound_pairs c.bound) ≡ [] → HasMatch o (read_pairs c.pairs ++ qs) → ⊥
  witnessed_closed qs once none = unextended o (read_pairs c.pairs) qs (bound_pairs c.bound) held.witness (held.only once) none

-- all pairs matched anew
module _ (o : Subsorts) (ps qs all : List (Bor Term × Bor Term)) (is : all ≡ ps ++ qs) where
  pub anew_found : {E : Type 0} (r : Result (Option (List (Variable × Bor Term))) E) → IfOk r (λ found. IfSome found (λ s. Contains (after_pairs o (read_pairs all) []) (bound_pairs s))) →
      IfOk r (λ found. IfSome found (λ s. Contains (branches o (read_pairs ps ++ read_pairs qs)) (bound_pairs s)))
  anew_found (Ok None) found = tt
  anew_found (Ok (Some s)) found = subst (λ (rs : List (Term × Term)). Contains (branches o rs) (bound_pairs s)) (both_read ps qs all is) found
  anew_found (Err e) found = tt

  pub anew_none : {E : Type 0} (r : Result (Option (List (Variable × Bor Term))) E) → IfOk r (λ found. found ≡ None → after_pairs o (read_pairs all) [] ≡ []) →
      IfOk r (λ found. found ≡ None → HasMatch o (read_pairs ps ++ read_pairs qs) → ⊥)
  anew_none (Ok x) none = λ e. unmatched o (read_pairs ps ++ read_pairs qs) (ap (branches o) (sym (both_read ps qs all is)) ∙ none e)
  anew_none (Err e) none = tt

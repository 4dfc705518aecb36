-- What no substitution unifies with a message, none does with more besides.
use Rattle.std.proofs.Common.{◌≡◌, ℕ, Ok, List, [], ◌∷◌, ◌++◌, inl, inr, sym, ◌∙◌, ap, subst, Contains}
use Rattle.std.proofs.lemmas.List.{append-nil}
use Rattle.std.proofs.lemmas.List.Elements.{Contains-append_left, Contains-append_right, Contains-append_cases}
use Rattle.npa_sorts.specs.Subsorts.{Subsorts, AreSorts}
use Rattle.npa_sorts.proofs.LowerLaws.{IsAcyclic}
use Rattle.npa_term.specs.declared.term.Term.{Term}
use Rattle.npa_term.specs.declared.term.Var.{Var as Variable}
use Rattle.npa_term.specs.Variables.{variables}
use Rattle.npa_unify.specs.Answers.{judged}
use Rattle.npa_unify.specs.Branches.{pair_variables}
use Rattle.npa_unify.specs.Seen.{AreNeverEqual}
use Rattle.npa_unify.specs.Unifiers.{AreLow, IsUnifier}
use Rattle.npa_unify.proofs.Answering.{none_exactly}
use Rattle.npa_unify.proofs.Judging.{complete_all}
use Rattle.npa_unify.proofs.Members.{here, later, nowhere, member_cases, only_one}
use Rattle.npa_unify.proofs.PairVariables.{pair_cases}
use Rattle.npa_moves.specs.Moves.{each_with}
use Rattle.npa_moves.specs.Steps.{solve_over}
use Rattle.npa_sets.specs.Sets.{IsLow}
use Rattle.npa_sets.specs.Told.{AreCut}

module _ (m : Term) where
  front_pair : (ts more : List Term) (p : Term × Term) → Contains (each_with m ts) p → Contains (each_with m (ts ++ more)) p
  front_pair [] more p c = absurd (nowhere p c)
  front_pair (t ∷ ts) more p c = elim (member_cases (t, m) p (each_with m ts) c) [
    | inl is ↦ subst (Contains ((t, m) ∷ each_with m (ts ++ more))) is (here (t, m) (each_with m (ts ++ more)))
    | inr d ↦ later (t, m) p (each_with m (ts ++ more)) (front_pair ts more p d)
  ]

  front_variable : (ts more : List Term) (v : Variable) → Contains (pair_variables (each_with m ts)) v → Contains (pair_variables (each_with m (ts ++ more))) v
  front_variable [] more v c = absurd (nowhere v c)
  front_variable (t ∷ ts) more v c = elim (pair_cases (t, m) (each_with m ts) v c) [
    | inl d ↦ Contains-append_left (variables t) (variables m ++ pair_variables (each_with m (ts ++ more))) v d
    | inr e ↦ Contains-append_right (variables t) (variables m ++ pair_variables (each_with m (ts ++ more))) v (elim e [
      | inl d ↦ Contains-append_left (variables m) (pair_variables (each_with m (ts ++ more))) v d
      | inr d ↦ Contains-append_right (variables m) (pair_variables (each_with m (ts ++ more))) v (front_variable ts more v d)
    ])
  ]

  front_unifier : (o : Subsorts) (ts more : List Term) (s : List (Variable × Term)) → IsUnifier o (each_with m (ts ++ more)) s → IsUnifier o (each_with m ts) s
  front_unifier o ts more s u = record {
    sorts = λ v c. u.sorts v (front_variable ts more v c);
    equal = λ t w c. u.equal t w (front_pair ts more (t, w) c);
  }

  pub low_pairs : (next : ℕ) (ts : List Term) → IsLow next m → ((t : Term) → Contains ts t → IsLow next t) → AreLow (each_with m ts) next
  low_pairs next [] low all v c = absurd (nowhere v c)
  low_pairs next (t ∷ ts) low all v c = elim (pair_cases (t, m) (each_with m ts) v c) [
    | inl d ↦ all t (here t ts) v d
    | inr e ↦ elim e [
      | inl d ↦ low v d
      | inr d ↦ low_pairs next ts low (λ x in_. all x (later t x ts in_)) v d
    ]
  ]

  both_low : (next : ℕ) (ts more : List Term) → ((t : Term) → Contains ts t → IsLow next t) → ((t : Term) → Contains more t → IsLow next t) → (t : Term) → Contains (ts ++ more) t → IsLow next t
  both_low next ts more all others t c = elim (Contains-append_cases ts more t c) [ inl d ↦ all t d | inr d ↦ others t d ]

  module _ (o : Subsorts) (next : ℕ) (sorts : AreSorts o) (acyclic : IsAcyclic o) (low : IsLow next m) where
    pub cut_of : (ts : List Term) → ((t : Term) → Contains ts t → IsLow next t) → ((s : List (Variable × Term)) → IsUnifier o (each_with m ts) s → ⊥) → AreCut o next m ts
    unfolding solve_over
    cut_of ts all none more others =
        ap judged ((none_exactly o (each_with m (ts ++ more)) next sorts acyclic (low_pairs next (ts ++ more) low (both_low next ts more all others))).1
        (λ s u. none s (front_unifier o ts more s u)))

    -- where unification answers that there is none
    pub cut_answered : (ts : List Term) → ((t : Term) → Contains ts t → IsLow next t) → solve_over o next (each_with m ts) ≡ Ok [] → AreCut o next m ts
    unfolding solve_over
    cut_answered ts all e =
        cut_of ts all (λ s u. let found = complete_all o (each_with m ts) next [] sorts acyclic (low_pairs next ts low all) e s u in nowhere found.0 found.1)

    -- where the last of them has another operator than the message
    last_pair : (ts : List Term) (f : Term) → Contains (each_with m (ts ++ f ∷ [])) (f, m)
    last_pair [] f = here (f, m) []
    last_pair (t ∷ ts) f = later (t, m) (f, m) (each_with m (ts ++ f ∷ [])) (last_pair ts f)

    pub cut_by_last : (ts : List Term) (f : Term) → ((t : Term) → Contains (ts ++ f ∷ []) t → IsLow next t) → AreNeverEqual f m → AreCut o next m (ts ++ f ∷ [])
    cut_by_last ts f all never = cut_of (ts ++ f ∷ []) all (λ s u. never s (u.equal f m (last_pair ts f)))

  pub cut_itself : (o : Subsorts) (next : ℕ) (ts : List Term) → AreCut o next m ts → solve_over o next (each_with m ts) ≡ Ok []
  cut_itself o next ts cut = ap (λ us. solve_over o next (each_with m us)) (sym (append-nil ts)) ∙ cut [] (λ t c. absurd (nowhere t c))

pub with_last : (next : ℕ) (ts : List Term) (f : Term) → ((t : Term) → Contains ts t → IsLow next t) → IsLow next f → (t : Term) → Contains (ts ++ f ∷ []) t → IsLow next t
with_last next ts f all last t c = elim (Contains-append_cases ts (f ∷ []) t c) [
  | inl d ↦ all t d
  | inr d ↦ subst (IsLow next) (only_one f t d) last
]

-- Properties of terms that instances keep: the values of unifiers have them where the pairs do.
use Rattle.std.proofs.Common.{◌≡◌, ℕ, ◌+◌, true, false, cond, nat_eq, ◌&&◌, List, [], ◌∷◌, ◌++◌, map, length, Some, refl, sym, subst, inl, inr}
use Rattle.std.specs.Prelude.{⊤, Contains, zip}
use Rattle.npa_sorts.specs.Lowers.{lowers}
use Rattle.npa_sorts.specs.Subsorts.{Subsorts, IsAtOrBelow, at_or_below}
use Rattle.npa_sorts.proofs.Climbs.{decides}
use Rattle.npa_sorts.proofs.LowerLaws.{maximal_lower_is}
use Rattle.npa_term.specs.declared.term.Op.{Op}
use Rattle.npa_term.specs.declared.term.Var.{Var as Variable}
use Rattle.npa_term.specs.declared.term.Term.{Term, Var, Name, App}
use Rattle.npa_term.specs.Bound.{same_var, value_of, applied}
use Rattle.npa_term.specs.Computed.{same_op, turned}
use Rattle.npa_term.specs.Parts.{least_sort}
use Rattle.npa_term.specs.Variables.{variables}
use Rattle.npa_term.proofs.Induction.{Each, term_cases}
use Rattle.npa_unify.specs.Answers.{resolved, finished, started, unifiers}
use Rattle.npa_unify.specs.Branches.{Branch, put, has_var, arranged, are_two, with_pairs, at_variable, fork, at_variables, at_arguments, move, moved_from, visited}
use Rattle.npa_unify.specs.Searches.{splits, binds, nexts}
use Rattle.npa_unify.specs.Unifiers.{AreLow, Keeps}
use Rattle.npa_unify.proofs.Answering.{end_of, whole_end}
use Rattle.npa_unify.proofs.Finishing.{Sorted, value_cases}
use Rattle.npa_unify.proofs.Members.{EachOf, here, later, nowhere, each_map, each_member}
use Rattle.npa_unify.proofs.PairVariables.{arranged_is, put_pairs}
use Rattle.npa_unify.proofs.Solutions.{visited_cases}
use Rattle.npa_unify.proofs.Steps.{move_apps, by_branches}

module _ (o : Subsorts) (P : Term → Type 0) (keeps : Keeps o P) where
  abbrev pub InPairs : List (Term × Term) → Type 0
  InPairs [] = ⊤
  InPairs (p ∷ ps) = (P p.0 × P p.1) × InPairs ps

  abbrev pub InValues : List (Variable × Term) → Type 0
  InValues [] = ⊤
  InValues (b ∷ s) = P b.1 × InValues s

  pub record Kept (b : Branch) : Type 0 where
    pub pairs : InPairs b.pairs
    pub values : InValues b.bound

  kept_pairs : (v : Variable) (t : Term) → IsAtOrBelow o (least_sort t) v.sort → P t → (ps : List (Term × Term)) → InPairs ps → InPairs (put_pairs v t ps)
  kept_pairs v t low p [] all = tt
  kept_pairs v t low p (q ∷ qs) all = ((keeps.put_in v t q.0 low p all.0.0, keeps.put_in v t q.1 low p all.0.1), kept_pairs v t low p qs all.1)

  kept_more : (s : List (Variable × Term)) (v : Variable) (t : Term) → InValues s → P t → InValues (s ++ (v, t) ∷ [])
  kept_more [] v t all p = (p, tt)
  kept_more (b ∷ s) v t all p = (all.0, kept_more s v t all.1 p)

  kept_put : (v : Variable) (t : Term) (r : Branch) → IsAtOrBelow o (least_sort t) v.sort → P t → Kept r → Kept (put v t r)
  kept_put v t r low p kept = record { pairs = kept_pairs v t low p r.pairs kept.pairs; values = kept_more r.bound v t kept.values p }

  kept_variable : (v : Variable) (t : Term) (r : Branch) → P t → Kept r → EachOf Kept (nexts (at_variable o v t r))
  kept_variable v t r p kept =
      elim (has_var (variables t) v) as (λ c. EachOf Kept (nexts (cond c (splits []) (cond (at_or_below o (least_sort t) v.sort) (binds (put v t r ∷ [])) (splits []))))) [
        | true ↦ tt
        | false ↦ elim (at_or_below o (least_sort t) v.sort) as (λ c. at_or_below o (least_sort t) v.sort ≡ c →
            EachOf Kept (nexts (cond c (binds (put v t r ∷ [])) (splits [])))) [
              | true ↦ λ d. (kept_put v t r ((decides o (least_sort t) v.sort).0 d) p kept, tt)
              | false ↦ λ d. tt
            ] refl
      ]

  kept_fork : (v w : Variable) (r : Branch) (s : ℕ) → P (Var v) → IsAtOrBelow o s v.sort → IsAtOrBelow o s w.sort → Kept r → Kept (fork s v w r)
  kept_fork v w r s p first_sort second_sort kept =
      let z : Variable = record { num = r.next; sort = s } in
      let bare : Branch = record r { next = r.next + 1 } in
      let new : P (Var z) = keeps.lower v z p first_sort in
      kept_put w (Var z) (put v (Var z) bare) second_sort new (kept_put v (Var z) bare first_sort new (record { pairs = kept.pairs; values = kept.values }))

  kept_variables : (v w : Variable) (r : Branch) → P (Var v) → P (Var w) → Kept r → EachOf Kept (nexts (at_variables o v w r))
  kept_variables v w r p q kept =
      elim (same_var v w) as (λ c. EachOf Kept (nexts (cond c (splits (r ∷ []))
      (cond (at_or_below o v.sort w.sort) (binds (put w (Var v) r ∷ []))
      (cond (at_or_below o w.sort v.sort) (binds (put v (Var w) r ∷ []))
      (binds (map (λ s. fork s v w r) (lowers o v.sort w.sort)))))))) [
        | true ↦ (kept, tt)
        | false ↦ elim (at_or_below o v.sort w.sort) as (λ c. at_or_below o v.sort w.sort ≡ c → EachOf Kept (nexts (cond c (binds (put w (Var v) r ∷ []))
            (cond (at_or_below o w.sort v.sort) (binds (put v (Var w) r ∷ []))
            (binds (map (λ s. fork s v w r) (lowers o v.sort w.sort))))))) [
              | true ↦ λ d. (kept_put w (Var v) r ((decides o v.sort w.sort).0 d) p kept, tt)
              | false ↦ λ d. elim (at_or_below o w.sort v.sort) as (λ c. at_or_below o w.sort v.sort ≡ c → EachOf Kept (nexts (cond c (binds (put v (Var w) r ∷ []))
                  (binds (map (λ s. fork s v w r) (lowers o v.sort w.sort)))))) [
                    | true ↦ λ k. (kept_put v (Var w) r ((decides o w.sort v.sort).0 k) q kept, tt)
                    | false ↦ λ k. each_map Kept (λ s. fork s v w r) (lowers o v.sort w.sort)
                        (λ s c. let low = maximal_lower_is o v.sort w.sort s c in kept_fork v w r s p low.0 low.1 kept)
                  ] refl
            ] refl
      ]

  -- arguments

  kept_turned : (ts : List Term) → Each P ts → Each P (turned ts)
  kept_turned [] all = all
  kept_turned (t ∷ []) all = all
  kept_turned (t ∷ u ∷ []) all = (all.1.0, (all.0, tt))
  kept_turned (t ∷ u ∷ x ∷ ts) all = all

  kept_arranged : (ts : List Term) → Each P ts → Each P (arranged ts)
  kept_arranged ts all = elim (arranged_is ts) [ inl e ↦ subst (Each P) (sym e) all | inr e ↦ subst (Each P) (sym e) (kept_turned ts all) ]

  kept_zip : (ts us : List Term) (ps : List (Term × Term)) → Each P ts → Each P us → InPairs ps → InPairs (zip ts us ++ ps)
  kept_zip [] us ps one two all = all
  kept_zip (t ∷ ts) [] ps one two all = all
  kept_zip (t ∷ ts) (u ∷ us) ps one two all = ((one.0, two.0), kept_zip ts us ps one.1 two.1 all)

  kept_with : (ts us : List Term) (r : Branch) → Each P ts → Each P us → Kept r → Kept (with_pairs (zip ts us) r)
  kept_with ts us r one two kept = record { pairs = kept_zip ts us r.pairs one two kept.pairs; values = kept.values }

  kept_arguments : (f : Op) (ts us : List Term) (r : Branch) → Each P ts → Each P us → Kept r → EachOf Kept (nexts (at_arguments f ts us r))
  kept_arguments f ts us r one two kept =
      elim (nat_eq (length ts) (length us)) as (λ c. EachOf Kept (nexts (cond c
      (cond (f.com && are_two ts)
      (splits (with_pairs (zip (arranged ts) (arranged us)) r ∷ with_pairs (zip (arranged ts) (turned (arranged us))) r ∷ []))
      (splits (with_pairs (zip ts us) r ∷ [])))
      (splits [])))) [
        | true ↦ elim (f.com && are_two ts) as (λ c. EachOf Kept (nexts (cond c
            (splits (with_pairs (zip (arranged ts) (arranged us)) r ∷ with_pairs (zip (arranged ts) (turned (arranged us))) r ∷ []))
            (splits (with_pairs (zip ts us) r ∷ []))))) [
              | true ↦ (
                kept_with (arranged ts) (arranged us) r (kept_arranged ts one) (kept_arranged us two) kept,
                (kept_with (arranged ts) (turned (arranged us)) r (kept_arranged ts one) (kept_turned (arranged us) (kept_arranged us two)) kept, tt),
              )
              | false ↦ (kept_with ts us r one two kept, tt)
            ]
        | false ↦ tt
      ]

  each_argument : (ts : List Term) → ((t : Term) → Contains ts t → P t) → Each P ts
  each_argument [] all = tt
  each_argument (t ∷ ts) all = (all t (here t ts), each_argument ts (λ u c. all u (later t u ts c)))

  kept_operators : (f g : Op) (ts us : List Term) (r : Branch) → P (App f ts) → P (App g us) → Kept r → EachOf Kept (nexts (move o (App f ts) (App g us) r))
  kept_operators f g ts us r p q kept =
      subst (λ mv. EachOf Kept (nexts mv)) (sym (move_apps o f g ts us r))
      (elim (same_op f g) as (λ c. EachOf Kept (nexts (cond c (at_arguments f ts us r) (splits [])))) [
        | true ↦ kept_arguments f ts us r (each_argument ts (λ t c. keeps.arguments f ts t p c)) (each_argument us (λ t c. keeps.arguments g us t q c)) kept
        | false ↦ tt
      ])

  kept_names : (m n : ℕ) (r : Branch) → Kept r → EachOf Kept (nexts (cond (nat_eq m n) (splits (r ∷ [])) (splits [])))
  kept_names m n r kept = elim (nat_eq m n) as (λ c. EachOf Kept (nexts (cond c (splits (r ∷ [])) (splits [])))) [ true ↦ (kept, tt) | false ↦ tt ]

  kept_move : (r : Branch) → Kept r → (t u : Term) → P t → P u → EachOf Kept (nexts (move o t u r))
  kept_move r kept =
      term_cases (λ t. (u : Term) → P t → P u → EachOf Kept (nexts (move o t u r)))
      (λ v. term_cases (λ u. P (Var v) → P u → EachOf Kept (nexts (move o (Var v) u r)))
      (λ w p q. kept_variables v w r p q kept) (λ n p q. kept_variable v (Name n) r q kept) (λ g us p q. kept_variable v (App g us) r q kept))
      (λ m. term_cases (λ u. P (Name m) → P u → EachOf Kept (nexts (move o (Name m) u r)))
      (λ w p q. kept_variable w (Name m) r p kept) (λ n p q. kept_names m n r kept) (λ g us p q. tt))
      (λ f ts. term_cases (λ u. P (App f ts) → P u → EachOf Kept (nexts (move o (App f ts) u r)))
      (λ w p q. kept_variable w (App f ts) r p kept) (λ n p q. tt) (λ g us p q. kept_operators f g ts us r p q kept))

  kept_from : (b c : Branch) (ps : List (Term × Term)) → InPairs ps → InValues b.bound → Contains (nexts (moved_from o ps b)) c → Kept c
  kept_from b c [] pairs values member = absurd (nowhere c member)
  kept_from b c (p ∷ ps) pairs values member =
      let r : Branch = record b { pairs = ps } in
      each_member Kept (nexts (move o p.0 p.1 r)) c (kept_move r (record { pairs = pairs.1; values = values }) p.0 p.1 pairs.0.0 pairs.0.1) member

  pub kept_visited : (b c : Branch) → Contains (visited o b) c → Kept b → Kept c
  kept_visited b c =
      by_branches o (λ d. Contains (visited o d) c → Kept d → Kept c)
      (λ d on member kept. elim (visited_cases o d c member) [
        | inl e ↦ subst Kept e kept
        | inr more ↦ on more.0 more.1 more.2 (kept_from d more.0 d.pairs kept.pairs kept.values more.1)
      ]) b

  kept_resolved : (s : List (Variable × Term)) → Sorted o s → InValues s → (x : Term) → P x → P (resolved s x)
  kept_resolved [] sorted all x p = p
  kept_resolved (b ∷ s) sorted all x p = kept_resolved s sorted.1 all.1 (applied (b ∷ []) x) (keeps.put_in b.0 b.1 x sorted.0 all.0 p)

  kept_values : (s : List (Variable × Term)) → Sorted o s → InValues s → (v : Variable) (t : Term) → value_of (finished s) v ≡ Some t → P t
  kept_values [] sorted all v t e = cc
  kept_values (b ∷ s) sorted all v t e =
      elim (value_cases b s v t e) [
        | inl is ↦ subst P is.1 (keeps.form (resolved s b.1) (kept_resolved s sorted.1 all.1 b.1 all.0))
        | inr f ↦ kept_values s sorted.1 all.1 v t f
      ]

  in_pairs : (ps : List (Term × Term)) → ((t x : Term) → Contains ps (t, x) → P t × P x) → InPairs ps
  in_pairs [] all = tt
  in_pairs (p ∷ ps) all = (all p.0 p.1 (here p ps), in_pairs ps (λ t x c. all t x (later p (t, x) ps c)))

  -- what holds of the members of all pairs holds of the values of each unifier
  pub kept : (ps : List (Term × Term)) (next : ℕ) → AreLow ps next → ((t x : Term) → Contains ps (t, x) → P t × P x) →
      (s : List (Variable × Term)) (v : Variable) (t : Term) → Contains (unifiers o ps next) s → value_of s v ≡ Some t → P t
  kept ps next low all s v t member e =
      let at = end_of o ps next s member in
      let whole = whole_end o ps next at.0 low at.1 in
      let last : Kept at.0 = kept_visited (started ps next) at.0 at.1 (record { pairs = in_pairs ps all; values = tt }) in
      kept_values at.0.bound whole.sorts last.values v t (subst (λ r. value_of r v ≡ Some t) (sym at.3) e)

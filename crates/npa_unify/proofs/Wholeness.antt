-- What the bindings of a branch keep along the search.
use Rattle.std.proofs.Common.{◌≡◌, ℕ, ◌+◌, ◌<◌, ◌≤◌, true, false, cond, nat_eq, List, [], ◌∷◌, ◌++◌, map, refl, sym, ap, subst, inl, inr, arith}
use Rattle.std.specs.Prelude.{Contains, ◌⊎◌}
use Rattle.npa_sorts.specs.Lowers.{lowers}
use Rattle.npa_sorts.specs.Subsorts.{Subsorts, IsAtOrBelow, at_or_below}
use Rattle.npa_sorts.proofs.Climbs.{decides}
use Rattle.npa_sorts.proofs.LowerLaws.{maximal_lower_is}
use Rattle.npa_term.specs.declared.term.Op.{Op}
use Rattle.npa_term.specs.declared.term.Var.{Var as Variable}
use Rattle.npa_term.specs.declared.term.Term.{Term, Var, Name, App}
use Rattle.npa_term.specs.Bound.{same_var}
use Rattle.npa_term.specs.Computed.{same_op}
use Rattle.npa_term.specs.Parts.{least_sort}
use Rattle.npa_term.specs.Variables.{variables}
use Rattle.npa_term.proofs.Equality.{op_equal}
use Rattle.npa_term.proofs.Induction.{term_cases}
use Rattle.npa_unify.specs.Branches.{Branch, put, has_var, at_variable, fork, at_variables, at_arguments, move, moved_from, pair_variables, visited}
use Rattle.npa_unify.specs.Searches.{splits, binds, nexts}
use Rattle.npa_unify.proofs.Finishing.{Chained, Sorted, names, names_bound}
use Rattle.npa_unify.proofs.Members.{EachOf, here, later, nowhere, member_cases, only_one, each_along, each_map, each_member}
use Rattle.npa_unify.proofs.PairVariables.{has_no_var, var_other, put_variables}
use Rattle.npa_unify.proofs.Progress.{Among, bound_variables, bound_cases, among_put}
use Rattle.npa_unify.proofs.Solutions.{visited_cases}
use Rattle.npa_unify.proofs.Steps.{IsSplit, Stepped, Opened, turn, opened, stepped_arguments, arguments_only, move_apps, by_branches}

-- K is a property of variables that new ones have
abbrev pub IsNew : (Variable → Type 0) → ℕ → Type 0
IsNew K base = (z : Variable) → base ≤ z.num → K z

pub record Whole (o : Subsorts) (K : Variable → Type 0) (base : ℕ) (b : Branch) : Type 0 where
  pub apart : (v : Variable) → Contains (names b.bound) v → Contains (pair_variables b.pairs) v → ⊥
  pub chained : Chained b.bound
  pub sorts : Sorted o b.bound
  pub from : base ≤ b.next
  pub low : (v : Variable) → Among b v → v.num < b.next
  pub known : (v : Variable) → Among b v → K v

-- one more binding

names_cases : (s : List (Variable × Term)) (v : Variable) (t : Term) (x : Variable) → Contains (names (s ++ (v, t) ∷ [])) x → Contains (names s) x ⊎ (v ≡ x)
names_cases [] v t x c = inr (only_one v x c)
names_cases (b ∷ s) v t x c =
    elim (member_cases b.0 x (names (s ++ (v, t) ∷ [])) c) [
      | inl e ↦ inl (subst (Contains (names (b ∷ s))) e (here b.0 (names s)))
      | inr d ↦ elim (names_cases s v t x d) [ inl f ↦ inl (later b.0 x (names s) f) | inr f ↦ inr f ]
    ]

chained_more : (s : List (Variable × Term)) (v : Variable) (t : Term) → Chained s → (Contains (variables t) v → ⊥) →
    (Contains (names s) v → ⊥) → ((x : Variable) → Contains (names s) x → Contains (variables t) x → ⊥) → Chained (s ++ (v, t) ∷ [])
chained_more [] v t chained free other apart = (free, ((λ c. nowhere v c), tt))
chained_more (b ∷ s) v t chained free other apart = (
  chained.0,
  (
    (λ c. elim (bound_cases s v t b.0 c) [
      | inl d ↦ chained.1.0 d
      | inr d ↦ elim d [
        | inl e ↦ other (subst (Contains (names (b ∷ s))) (sym e) (here b.0 (names s)))
        | inr e ↦ apart b.0 (here b.0 (names s)) e
      ]
    ]),
    chained_more s v t chained.1.1 free (λ c. other (later b.0 v (names s) c)) (λ x c d. apart x (later b.0 x (names s) c) d),
  ),
)

sorted_more : (o : Subsorts) (s : List (Variable × Term)) (v : Variable) (t : Term) → Sorted o s → IsAtOrBelow o (least_sort t) v.sort → Sorted o (s ++ (v, t) ∷ [])
sorted_more o [] v t sorted low = (low, tt)
sorted_more o (b ∷ s) v t sorted low = (sorted.0, sorted_more o s v t sorted.1 low)

-- a variable and a term that a branch can bind to each other
record Binding (K : Variable → Type 0) (v : Variable) (t : Term) (r : Branch) : Type 0 where
  free : Contains (variables t) v → ⊥
  other : Contains (names r.bound) v → ⊥
  apart : (x : Variable) → Contains (names r.bound) x → Contains (variables t) x → ⊥
  low : v.num < r.next
  low_value : (x : Variable) → Contains (variables t) x → x.num < r.next
  known : K v
  known_value : (x : Variable) → Contains (variables t) x → K x

put_whole : (o : Subsorts) (K : Variable → Type 0) (base : ℕ) (v : Variable) (t : Term) (r : Branch) → Whole o K base r → Binding K v t r → IsAtOrBelow o (least_sort t) v.sort →
    Whole o K base (put v t r)
put_whole o K base v t r whole new sort = record {
  apart = λ x c d. elim (names_cases r.bound v t x c) [
    | inl e ↦ elim (put_variables v t x r.pairs d) [ inl p ↦ whole.apart x e p.0 | inr p ↦ new.apart x e p ]
    | inr e ↦ elim (put_variables v t x r.pairs d) [ inl p ↦ p.1 e | inr p ↦ new.free (subst (Contains (variables t)) (sym e) p) ]
  ];
  chained = chained_more r.bound v t whole.chained new.free new.other new.apart;
  sorts = sorted_more o r.bound v t whole.sorts sort;
  from = whole.from;
  low = λ x c. elim (among_put v t r x c) [
    | inl d ↦ whole.low x d
    | inr d ↦ elim d [ inl e ↦ subst (λ (y : Variable). y.num < r.next) e new.low | inr e ↦ new.low_value x e ]
  ];
  known = λ x c. elim (among_put v t r x c) [
    | inl d ↦ whole.known x d
    | inr d ↦ elim d [ inl e ↦ subst K e new.known | inr e ↦ new.known_value x e ]
  ];
}

module _ (o : Subsorts) (K : Variable → Type 0) (base : ℕ) (news : IsNew K base) where
  whole_rest : (b : Branch) (t u : Term) (r : Branch) → Opened b t u r → Whole o K base b → Whole o K base r
  whole_rest b t u r op whole =
      let among : (x : Variable) → Among r x → Among b x = λ x c. elim c [
        | inl d ↦ inl (op.rest x d)
        | inr d ↦ inr (subst (λ s. Contains (bound_variables s) x) op.bound d)
      ] in
      let even : r.next ≡ b.next = op.next in
      record {
        apart = λ x c d. whole.apart x (subst (λ s. Contains (names s) x) op.bound c) (op.rest x d);
        chained = subst Chained (sym op.bound) whole.chained;
        sorts = subst (Sorted o) (sym op.bound) whole.sorts;
        from = (let less : base ≤ b.next = whole.from in omega (arith, less, even));
        low = λ x c. let less : x.num < b.next = whole.low x (among x c) in omega (arith, less, even);
        known = λ x c. whole.known x (among x c);
      }

  -- the variable and the term of an opened pair
  pair_binding : (b : Branch) (v : Variable) (t : Term) (r : Branch) → Opened b (Var v) t r → Whole o K base b → (Contains (variables t) v → ⊥) → Binding K v t r
  pair_binding b v t r op whole free =
      let even : r.next ≡ b.next = op.next in
      record {
        free = free;
        other = λ c. whole.apart v (subst (λ s. Contains (names s) v) op.bound c) (op.first v (here v []));
        apart = λ x c d. whole.apart x (subst (λ s. Contains (names s) x) op.bound c) (op.second x d);
        low = (let less : v.num < b.next = whole.low v (inl (op.first v (here v []))) in omega (arith, less, even));
        low_value = λ x c. let less : x.num < b.next = whole.low x (inl (op.second x c)) in omega (arith, less, even);
        known = whole.known v (inl (op.first v (here v [])));
        known_value = λ x c. whole.known x (inl (op.second x c));
      }

  whole_bind : (b : Branch) (v : Variable) (t : Term) (r : Branch) → Opened b (Var v) t r → Whole o K base b → (Contains (variables t) v → ⊥) →
      IsAtOrBelow o (least_sort t) v.sort → Whole o K base (put v t r)
  whole_bind b v t r op whole free sort = put_whole o K base v t r (whole_rest b (Var v) t r op whole) (pair_binding b v t r op whole free) sort

  whole_variable : (b : Branch) (v : Variable) (t : Term) (r : Branch) → Opened b (Var v) t r → Whole o K base b → EachOf (Whole o K base) (nexts (at_variable o v t r))
  whole_variable b v t r op whole =
      elim (has_var (variables t) v) as (λ c. has_var (variables t) v ≡ c →
      EachOf (Whole o K base) (nexts (cond c (splits []) (cond (at_or_below o (least_sort t) v.sort) (binds (put v t r ∷ [])) (splits []))))) [
        | true ↦ λ e. tt
        | false ↦ λ e. elim (at_or_below o (least_sort t) v.sort) as (λ c. at_or_below o (least_sort t) v.sort ≡ c →
            EachOf (Whole o K base) (nexts (cond c (binds (put v t r ∷ [])) (splits [])))) [
              | true ↦ λ d. (whole_bind b v t r op whole (has_no_var (variables t) v e) ((decides o (least_sort t) v.sort).0 d), tt)
              | false ↦ λ d. tt
            ] refl
      ] refl

  whole_fork : (b : Branch) (v w : Variable) (r : Branch) (s : ℕ) → Opened b (Var v) (Var w) r → Whole o K base b → (v ≡ w → ⊥) →
      IsAtOrBelow o s v.sort → IsAtOrBelow o s w.sort → Whole o K base (fork s v w r)
  whole_fork b v w r s op whole other first_sort second_sort =
      let z : Variable = record { num = r.next; sort = s } in
      let bare : Branch = record r { next = r.next + 1 } in
      let rest : Whole o K base r = whole_rest b (Var v) (Var w) r op whole in
      let even : r.next ≡ b.next = op.next in
      let new : K z = news z rest.from in
      let under : (x : Variable) → Among b x → x.num < r.next = λ x c. (let less : x.num < b.next = whole.low x c in omega (arith, less, even)) in
      let is_new : (x : Variable) → x.num < r.next → z ≡ x → ⊥ = λ x less e. (let same : r.next ≡ x.num = ap (λ (y : Variable). y.num) e in omega (arith, same, less)) in
      let one : Among b v = inl (op.first v (here v [])) in
      let two : Among b w = inl (op.second w (here w [])) in
      let more : Whole o K base bare = record {
        apart = rest.apart;
        chained = rest.chained;
        sorts = rest.sorts;
        from = (let less : base ≤ r.next = rest.from in omega (arith, less));
        low = λ x c. let less : x.num < r.next = rest.low x c in omega (arith, less);
        known = rest.known;
      } in
      let first_binding : Binding K v (Var z) bare = record {
        free = λ c. is_new v (under v one) (only_one z v c);
        other = λ c. whole.apart v (subst (λ l. Contains (names l) v) op.bound c) (op.first v (here v []));
        apart = λ x c d. is_new x (rest.low x (inr (names_bound r.bound x c))) (only_one z x d);
        low = (let less : v.num < r.next = under v one in omega (arith, less));
        low_value = λ x c. let is : r.next ≡ x.num = ap (λ (y : Variable). y.num) (only_one z x c) in omega (arith, is);
        known = whole.known v one;
        known_value = λ x c. subst K (only_one z x c) new;
      } in
      let first_branch : Branch = put v (Var z) bare in
      let second_binding : Binding K w (Var z) first_branch = record {
        free = λ c. is_new w (under w two) (only_one z w c);
        other = λ c. elim (names_cases r.bound v (Var z) w c) [
          | inl d ↦ whole.apart w (subst (λ l. Contains (names l) w) op.bound d) (op.second w (here w []))
          | inr d ↦ other d
        ];
        apart = λ x c d. elim (names_cases r.bound v (Var z) x c) [
          | inl e ↦ is_new x (rest.low x (inr (names_bound r.bound x e))) (only_one z x d)
          | inr e ↦ is_new x (subst (λ (y : Variable). y.num < r.next) e (under v one)) (only_one z x d)
        ];
        low = (let less : w.num < r.next = under w two in omega (arith, less));
        low_value = λ x c. let is : r.next ≡ x.num = ap (λ (y : Variable). y.num) (only_one z x c) in omega (arith, is);
        known = whole.known w two;
        known_value = λ x c. subst K (only_one z x c) new;
      } in
      put_whole o K base w (Var z) first_branch (put_whole o K base v (Var z) bare more first_binding first_sort) second_binding second_sort

  whole_variables : (b : Branch) (v w : Variable) (r : Branch) → Opened b (Var v) (Var w) r → Whole o K base b → EachOf (Whole o K base) (nexts (at_variables o v w r))
  whole_variables b v w r op whole =
      elim (same_var v w) as (λ c. same_var v w ≡ c → EachOf (Whole o K base) (nexts (cond c (splits (r ∷ []))
      (cond (at_or_below o v.sort w.sort) (binds (put w (Var v) r ∷ []))
      (cond (at_or_below o w.sort v.sort) (binds (put v (Var w) r ∷ []))
      (binds (map (λ s. fork s v w r) (lowers o v.sort w.sort)))))))) [
        | true ↦ λ e. (whole_rest b (Var v) (Var w) r op whole, tt)
        | false ↦ λ e. elim (at_or_below o v.sort w.sort) as (λ c. at_or_below o v.sort w.sort ≡ c → EachOf (Whole o K base) (nexts (cond c (binds (put w (Var v) r ∷ []))
            (cond (at_or_below o w.sort v.sort) (binds (put v (Var w) r ∷ []))
            (binds (map (λ s. fork s v w r) (lowers o v.sort w.sort))))))) [
              | true ↦ λ d. (whole_bind b w (Var v) r (turn b (Var v) (Var w) r op) whole (λ c. var_other v w e (only_one v w c)) ((decides o v.sort w.sort).0 d), tt)
              | false ↦ λ d. elim (at_or_below o w.sort v.sort) as (λ c. at_or_below o w.sort v.sort ≡ c → EachOf (Whole o K base) (nexts (cond c (binds (put v (Var w) r ∷ []))
                  (binds (map (λ s. fork s v w r) (lowers o v.sort w.sort)))))) [
                    | true ↦ λ k. (whole_bind b v (Var w) r op whole (λ c. var_other v w e (sym (only_one w v c))) ((decides o w.sort v.sort).0 k), tt)
                    | false ↦ λ k. each_map (Whole o K base) (λ s. fork s v w r) (lowers o v.sort w.sort)
                        (λ s c. let low = maximal_lower_is o v.sort w.sort s c in whole_fork b v w r s op whole (var_other v w e) low.0 low.1)
                  ] refl
            ] refl
      ] refl

  whole_split : (b c : Branch) → Whole o K base b → IsSplit b c → Whole o K base c
  whole_split b c whole split =
      let among : (x : Variable) → Among c x → Among b x = λ x m. elim m [
        | inl d ↦ inl (split.within x d)
        | inr d ↦ inr (subst (λ s. Contains (bound_variables s) x) split.bound d)
      ] in
      let even : c.next ≡ b.next = split.next in
      record {
        apart = λ x m d. whole.apart x (subst (λ s. Contains (names s) x) split.bound m) (split.within x d);
        chained = subst Chained (sym split.bound) whole.chained;
        sorts = subst (Sorted o) (sym split.bound) whole.sorts;
        from = (let less : base ≤ b.next = whole.from in omega (arith, less, even));
        low = λ x m. let less : x.num < b.next = whole.low x (among x m) in omega (arith, less, even);
        known = λ x m. whole.known x (among x m);
      }

  whole_arguments : (b : Branch) (f : Op) (ts us : List Term) (r : Branch) → Opened b (App f ts) (App f us) r → Whole o K base b → EachOf (Whole o K base) (nexts (at_arguments f ts us r))
  whole_arguments b f ts us r op whole =
      let only = arguments_only f ts us r in
      subst (λ mv. EachOf (Whole o K base) (nexts mv)) (sym only.1)
      (each_along (IsSplit b) (Whole o K base) (λ c s. whole_split b c whole s) only.0 (subst (Stepped b) only.1 (stepped_arguments b f ts us r op)))

  whole_operators : (b : Branch) (f g : Op) (ts us : List Term) (r : Branch) → Opened b (App f ts) (App g us) r → Whole o K base b → EachOf (Whole o K base) (nexts (move o (App f ts) (App g us) r))
  whole_operators b f g ts us r op whole =
      subst (λ mv. EachOf (Whole o K base) (nexts mv)) (sym (move_apps o f g ts us r))
      (elim (same_op f g) as (λ c. same_op f g ≡ c → EachOf (Whole o K base) (nexts (cond c (at_arguments f ts us r) (splits [])))) [
        | true ↦ λ e. whole_arguments b f ts us r (subst (λ h. Opened b (App f ts) (App h us) r) (sym (op_equal f g e)) op) whole
        | false ↦ λ e. tt
      ] refl)

  whole_names : (b : Branch) (m n : ℕ) (r : Branch) → Opened b (Name m) (Name n) r → Whole o K base b → EachOf (Whole o K base) (nexts (cond (nat_eq m n) (splits (r ∷ [])) (splits [])))
  whole_names b m n r op whole =
      elim (nat_eq m n) as (λ c. EachOf (Whole o K base) (nexts (cond c (splits (r ∷ [])) (splits [])))) [ true ↦ (whole_rest b (Name m) (Name n) r op whole, tt) | false ↦ tt ]

  whole_move : (b r : Branch) → Whole o K base b → (t u : Term) → Opened b t u r → EachOf (Whole o K base) (nexts (move o t u r))
  whole_move b r whole =
      term_cases (λ t. (u : Term) → Opened b t u r → EachOf (Whole o K base) (nexts (move o t u r)))
      (λ v. term_cases (λ u. Opened b (Var v) u r → EachOf (Whole o K base) (nexts (move o (Var v) u r)))
      (λ w p. whole_variables b v w r p whole) (λ n p. whole_variable b v (Name n) r p whole) (λ g us p. whole_variable b v (App g us) r p whole))
      (λ m. term_cases (λ u. Opened b (Name m) u r → EachOf (Whole o K base) (nexts (move o (Name m) u r)))
      (λ w p. whole_variable b w (Name m) r (turn b (Name m) (Var w) r p) whole) (λ n p. whole_names b m n r p whole) (λ g us p. tt))
      (λ f ts. term_cases (λ u. Opened b (App f ts) u r → EachOf (Whole o K base) (nexts (move o (App f ts) u r)))
      (λ w p. whole_variable b w (App f ts) r (turn b (App f ts) (Var w) r p) whole) (λ n p. tt) (λ g us p. whole_operators b f g ts us r p whole))

  whole_from : (b c : Branch) (ps : List (Term × Term)) → b.pairs ≡ ps → Whole o K base b → Contains (nexts (moved_from o ps b)) c → Whole o K base c
  whole_from b c [] e whole member = absurd (nowhere c member)
  whole_from b c (p ∷ ps) e whole member =
      let r : Branch = record b { pairs = ps } in
      each_member (Whole o K base) (nexts (move o p.0 p.1 r)) c (whole_move b r whole p.0 p.1 (opened b p ps e)) member

  pub whole_visited : (b c : Branch) → Contains (visited o b) c → Whole o K base b → Whole o K base c
  whole_visited b c =
      by_branches o (λ d. Contains (visited o d) c → Whole o K base d → Whole o K base c)
      (λ d on member whole. elim (visited_cases o d c member) [
        | inl e ↦ subst (Whole o K base) e whole
        | inr more ↦ on more.0 more.1 more.2 (whole_from d more.0 d.pairs refl whole more.1)
      ]) b

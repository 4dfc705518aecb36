-- What a move makes of a branch: it gets smaller, or it binds and needs fewer variables.
use Rattle.std.proofs.Common.{◌≡◌, ℕ, zero, suc, ◌+◌, ◌<◌, ◌≤◌, true, false, cond, nat_eq, ◌&&◌, List, [], ◌∷◌, ◌++◌, map, length, refl, sym, ◌∙◌, ap, subst, inl, inr, arith}
use Rattle.std.specs.Prelude.{Contains, flat_map, zip}
use Rattle.std.proofs.lemmas.List.Elements.{Contains-append_right}
use Rattle.npa_sorts.specs.Lowers.{lowers}
use Rattle.npa_sorts.specs.Subsorts.{Subsorts, at_or_below}
use Rattle.npa_term.specs.declared.term.Op.{Op}
use Rattle.npa_term.specs.declared.term.Var.{Var as Variable}
use Rattle.npa_term.specs.declared.term.Term.{Term, Var, Name, App, items-the_row-Term, items_hidden-the_row-Term-0}
use Rattle.npa_term.specs.declared.term.Term.TheBlock.{hidden-the_row-Term-0}
use Rattle.npa_term.specs.Bound.{same_var}
use Rattle.npa_term.specs.Computed.{same_op, turned}
use Rattle.npa_term.specs.Parts.{least_sort}
use Rattle.npa_term.specs.Symbols.{symbol_count, all_count}
use Rattle.npa_term.specs.Variables.{variables}
use Rattle.npa_term.proofs.Equality.{op_equal}
use Rattle.npa_term.proofs.Induction.{term_cases}
use Rattle.npa_term.proofs.Rows.{symbol_count_at, variables_at}
use Rattle.npa_unify.specs.Branches.{Branch, put, has_var, arranged, are_two, with_pairs, at_variable, fork, at_variables, at_arguments, move, moved_from, moved, pair_symbols, pair_variables, size, most, visited}
use Rattle.npa_unify.specs.Searches.{Move, splits, binds, nexts}
use Rattle.npa_unify.proofs.Members.{EachOf, here, each_along, each_map, only_one}
use Rattle.npa_unify.proofs.PairVariables.{without, without_has, without_shorter, some_symbol, put_variables, has_no_var, var_other, first_has, second_has, rest_has, turned_count, arranged_count, turned_variables, arranged_variables, zip_variables, zip_symbols}
use Rattle.npa_unify.proofs.Searching.{Falls, Smaller, Deeper, search_unfolded, by_search}

-- each variable of the pairs is in the list
abbrev pub Covers : List Variable → List (Term × Term) → Type 0
Covers l ps = (v : Variable) → Contains (pair_variables ps) v → Contains l v

pub record IsSplit (b c : Branch) : Type 0 where
  pub fewer : size c < size b
  pub within : (v : Variable) → Contains (pair_variables c.pairs) v → Contains (pair_variables b.pairs) v
  pub bound : c.bound ≡ b.bound
  pub next : c.next ≡ b.next

pub record IsBind (b c : Branch) : Type 0 where
  pub fewer : (l : List Variable) → Covers l b.pairs → (m : List Variable) × Covers m c.pairs × (length m < length l) × (length m + c.next ≤ length l + b.next)

abbrev pub Stepped : Branch → Move Branch → Type 0
Stepped b (splits bs) = EachOf (IsSplit b) bs
Stepped b (binds bs) = EachOf (IsBind b) bs

-- a branch is opened: its first pair and the branch that has the rest
pub record Opened (b : Branch) (t u : Term) (r : Branch) : Type 0 where
  pub first : (v : Variable) → Contains (variables t) v → Contains (pair_variables b.pairs) v
  pub second : (v : Variable) → Contains (variables u) v → Contains (pair_variables b.pairs) v
  pub rest : (v : Variable) → Contains (pair_variables r.pairs) v → Contains (pair_variables b.pairs) v
  pub symbols : size b ≡ symbol_count t + (symbol_count u + size r)
  pub bound : r.bound ≡ b.bound
  pub next : r.next ≡ b.next

-- in the other order
pub turn : (b : Branch) (t u : Term) (r : Branch) → Opened b t u r → Opened b u t r
turn b t u r opened = record {
  first = opened.second;
  second = opened.first;
  rest = opened.rest;
  symbols = (let is : size b ≡ symbol_count t + (symbol_count u + size r) = opened.symbols in omega (arith, is));
  bound = opened.bound;
  next = opened.next;
}

-- applications by their arguments
pub move_apps : (o : Subsorts) (f g : Op) (ts us : List Term) (r : Branch) → move o (App f ts) (App g us) r ≡ cond (same_op f g) (at_arguments f ts us r) (splits [])
move_apps o f g ts us r =
    ap (λ xs. cond (same_op f g) (at_arguments f xs (items-the_row-Term _ (hidden-the_row-Term-0 us)) r) (splits [])) (items_hidden-the_row-Term-0 ts)
    ∙ ap (λ xs. cond (same_op f g) (at_arguments f ts xs r) (splits [])) (items_hidden-the_row-Term-0 us)

-- a variable of the pairs is bound to a term without it whose variables are the pairs' own
bind_one : (b : Branch) (v : Variable) (t : Term) (r : Branch) → Opened b (Var v) t r → (Contains (variables t) v → ⊥) → IsBind b (put v t r)
bind_one b v t r opened free = record {
  fewer = λ l covers.
      let member : Contains l v = covers v (opened.first v (here v [])) in
      let less : length (without v l) < length l = without_shorter v l member in
      let even : r.next ≡ b.next = opened.next in (
        without v l,
        λ x c. elim (put_variables v t x r.pairs c) [
          | inl p ↦ without_has v l x (covers x (opened.rest x p.0)) p.1
          | inr p ↦ without_has v l x (covers x (opened.second x p)) (λ e. free (subst (Contains (variables t)) (sym e) p))
        ],
        less,
        omega (arith, less, even),
      );
}

stepped_variable : (o : Subsorts) (b : Branch) (v : Variable) (t : Term) (r : Branch) → Opened b (Var v) t r → Stepped b (at_variable o v t r)
stepped_variable o b v t r opened =
    elim (has_var (variables t) v) as (λ c. has_var (variables t) v ≡ c → Stepped b (cond c (splits []) (cond (at_or_below o (least_sort t) v.sort) (binds (put v t r ∷ [])) (splits [])))) [
      | true ↦ λ e. tt
      | false ↦ λ e. elim (at_or_below o (least_sort t) v.sort) as (λ c. Stepped b (cond c (binds (put v t r ∷ [])) (splits []))) [
        | true ↦ (bind_one b v t r opened (has_no_var (variables t) v e), tt)
        | false ↦ tt
      ]
    ] refl

bind_two : (b : Branch) (v w : Variable) (r : Branch) (s : ℕ) → Opened b (Var v) (Var w) r → (v ≡ w → ⊥) → IsBind b (fork s v w r)
bind_two b v w r s opened other = record {
  fewer = λ l covers.
      let z : Variable = record { num = r.next; sort = s } in
      let one : Contains l v = covers v (opened.first v (here v [])) in
      let two : Contains (without v l) w = without_has v l w (covers w (opened.second w (here w []))) other in
      let less : length (without v l) < length l = without_shorter v l one in
      let lesser : length (without w (without v l)) < length (without v l) = without_shorter w (without v l) two in
      let even : r.next ≡ b.next = opened.next in (
        z ∷ without w (without v l),
        λ x c. elim (put_variables w (Var z) x (put v (Var z) (record r { next = r.next + 1 })).pairs c) [
          | inl p ↦ elim (put_variables v (Var z) x r.pairs p.0) [
            | inl q ↦ Contains-append_right (z ∷ []) (without w (without v l)) x (without_has w (without v l) x (without_has v l x (covers x (opened.rest x q.0)) q.1) p.1)
            | inr q ↦ subst (Contains (z ∷ without w (without v l))) (only_one z x q) (here z (without w (without v l)))
          ]
          | inr p ↦ subst (Contains (z ∷ without w (without v l))) (only_one z x p) (here z (without w (without v l)))
        ],
        omega (arith, less, lesser),
        omega (arith, less, lesser, even),
      );
}

dropped : (b : Branch) (t u : Term) (r : Branch) → Opened b t u r → IsSplit b r
dropped b t u r opened = record {
  fewer = (let is : size b ≡ symbol_count t + (symbol_count u + size r) = opened.symbols in let one : 0 < symbol_count t = some_symbol t in omega (arith, is, one));
  within = opened.rest;
  bound = opened.bound;
  next = opened.next;
}

stepped_variables : (o : Subsorts) (b : Branch) (v w : Variable) (r : Branch) → Opened b (Var v) (Var w) r → Stepped b (at_variables o v w r)
stepped_variables o b v w r opened =
    elim (same_var v w) as (λ c. same_var v w ≡ c → Stepped b (cond c (splits (r ∷ []))
    (cond (at_or_below o v.sort w.sort) (binds (put w (Var v) r ∷ []))
    (cond (at_or_below o w.sort v.sort) (binds (put v (Var w) r ∷ []))
    (binds (map (λ s. fork s v w r) (lowers o v.sort w.sort))))))) [
      | true ↦ λ e. (dropped b (Var v) (Var w) r opened, tt)
      | false ↦ λ e. elim (at_or_below o v.sort w.sort) as (λ c. Stepped b (cond c (binds (put w (Var v) r ∷ []))
          (cond (at_or_below o w.sort v.sort) (binds (put v (Var w) r ∷ []))
          (binds (map (λ s. fork s v w r) (lowers o v.sort w.sort)))))) [
            | true ↦ (bind_one b w (Var v) r (turn b (Var v) (Var w) r opened) (λ c. var_other v w e (only_one v w c)), tt)
            | false ↦ elim (at_or_below o w.sort v.sort) as (λ c. Stepped b (cond c (binds (put v (Var w) r ∷ []))
                (binds (map (λ s. fork s v w r) (lowers o v.sort w.sort))))) [
                  | true ↦ (bind_one b v (Var w) r opened (λ c. var_other v w e (sym (only_one w v c))), tt)
                  | false ↦ each_map (IsBind b) (λ s. fork s v w r) (lowers o v.sort w.sort) (λ s c. bind_two b v w r s opened (var_other v w e))
                ]
          ]
    ] refl

-- pairs of arguments
arguments_split : (b : Branch) (f : Op) (ts us xs ys : List Term) (r : Branch) → Opened b (App f ts) (App f us) r →
    all_count xs ≡ all_count ts → all_count ys ≡ all_count us →
    ((v : Variable) → Contains (flat_map variables xs) v → Contains (flat_map variables ts) v) →
    ((v : Variable) → Contains (flat_map variables ys) v → Contains (flat_map variables us) v) → IsSplit b (with_pairs (zip xs ys) r)
arguments_split b f ts us xs ys r opened one two first second = record {
  fewer = (
      let is : size b ≡ symbol_count (App f ts) + (symbol_count (App f us) + size r) = opened.symbols in
      let left : symbol_count (App f ts) ≡ 1 + all_count ts = symbol_count_at (App f ts) f ts refl in
      let right : symbol_count (App f us) ≡ 1 + all_count us = symbol_count_at (App f us) f us refl in
      let zipped : pair_symbols (zip xs ys ++ r.pairs) ≤ all_count xs + (all_count ys + pair_symbols r.pairs) = zip_symbols xs ys r.pairs in
      omega (arith, is, left, right, zipped, one, two)
      );
  within = λ v c. elim (zip_variables xs ys r.pairs v c) [
    | inl d ↦ opened.first v (subst (λ l. Contains l v) (sym (variables_at (App f ts) f ts refl)) (first v d))
    | inr d ↦ elim d [
      | inl e ↦ opened.second v (subst (λ l. Contains l v) (sym (variables_at (App f us) f us refl)) (second v e))
      | inr e ↦ opened.rest v e
    ]
  ];
  bound = opened.bound;
  next = opened.next;
}

pub stepped_arguments : (b : Branch) (f : Op) (ts us : List Term) (r : Branch) → Opened b (App f ts) (App f us) r → Stepped b (at_arguments f ts us r)
stepped_arguments b f ts us r opened =
    elim (nat_eq (length ts) (length us)) as (λ c. Stepped b (cond c
    (cond (f.com && are_two ts)
    (splits (with_pairs (zip (arranged ts) (arranged us)) r ∷ with_pairs (zip (arranged ts) (turned (arranged us))) r ∷ []))
    (splits (with_pairs (zip ts us) r ∷ [])))
    (splits []))) [
      | true ↦ elim (f.com && are_two ts) as (λ c. Stepped b (cond c
          (splits (with_pairs (zip (arranged ts) (arranged us)) r ∷ with_pairs (zip (arranged ts) (turned (arranged us))) r ∷ []))
          (splits (with_pairs (zip ts us) r ∷ [])))) [
            | true ↦ (
              arguments_split b f ts us (arranged ts) (arranged us) r opened (arranged_count ts) (arranged_count us) (arranged_variables ts) (arranged_variables us),
              (
                arguments_split b f ts us (arranged ts) (turned (arranged us)) r opened (arranged_count ts) (turned_count (arranged us) ∙ arranged_count us)
                    (arranged_variables ts) (λ v c. arranged_variables us v (turned_variables (arranged us) v c)),
                tt,
              ),
            )
            | false ↦ (arguments_split b f ts us ts us r opened refl refl (λ v c. c) (λ v c. c), tt)
          ]
      | false ↦ tt
    ]

-- the arguments bind nothing
pub arguments_only : (f : Op) (ts us : List Term) (r : Branch) → (bs : List Branch) × (at_arguments f ts us r ≡ splits bs)
arguments_only f ts us r =
    elim (nat_eq (length ts) (length us)) as (λ c. (bs : List Branch) × (cond c
    (cond (f.com && are_two ts)
    (splits (with_pairs (zip (arranged ts) (arranged us)) r ∷ with_pairs (zip (arranged ts) (turned (arranged us))) r ∷ []))
    (splits (with_pairs (zip ts us) r ∷ [])))
    (splits []) ≡ splits bs)) [
      | true ↦ elim (f.com && are_two ts) as (λ c. (bs : List Branch) × (cond c
          (splits (with_pairs (zip (arranged ts) (arranged us)) r ∷ with_pairs (zip (arranged ts) (turned (arranged us))) r ∷ []))
          (splits (with_pairs (zip ts us) r ∷ [])) ≡ splits bs)) [
            | true ↦ (with_pairs (zip (arranged ts) (arranged us)) r ∷ with_pairs (zip (arranged ts) (turned (arranged us))) r ∷ [], refl)
            | false ↦ (with_pairs (zip ts us) r ∷ [], refl)
          ]
      | false ↦ ([], refl)
    ]

stepped_apps : (o : Subsorts) (b : Branch) (f g : Op) (ts us : List Term) (r : Branch) → Opened b (App f ts) (App g us) r → Stepped b (move o (App f ts) (App g us) r)
stepped_apps o b f g ts us r opened =
    subst (Stepped b) (sym (move_apps o f g ts us r))
    (elim (same_op f g) as (λ c. same_op f g ≡ c → Stepped b (cond c (at_arguments f ts us r) (splits []))) [
      | true ↦ λ e. stepped_arguments b f ts us r (subst (λ h. Opened b (App f ts) (App h us) r) (sym (op_equal f g e)) opened)
      | false ↦ λ e. tt
    ] refl)

stepped_names : (b : Branch) (m n : ℕ) (r : Branch) → Opened b (Name m) (Name n) r → Stepped b (cond (nat_eq m n) (splits (r ∷ [])) (splits []))
stepped_names b m n r opened =
    elim (nat_eq m n) as (λ c. Stepped b (cond c (splits (r ∷ [])) (splits []))) [ true ↦ (dropped b (Name m) (Name n) r opened, tt) | false ↦ tt ]

stepped_move : (o : Subsorts) (b : Branch) (r : Branch) (t u : Term) → Opened b t u r → Stepped b (move o t u r)
stepped_move o b r =
    term_cases (λ t. (u : Term) → Opened b t u r → Stepped b (move o t u r))
    (λ v. term_cases (λ u. Opened b (Var v) u r → Stepped b (move o (Var v) u r))
    (λ w p. stepped_variables o b v w r p) (λ n p. stepped_variable o b v (Name n) r p) (λ g us p. stepped_variable o b v (App g us) r p))
    (λ m. term_cases (λ u. Opened b (Name m) u r → Stepped b (move o (Name m) u r))
    (λ w p. stepped_variable o b w (Name m) r (turn b (Name m) (Var w) r p)) (λ n p. stepped_names b m n r p) (λ g us p. tt))
    (λ f ts. term_cases (λ u. Opened b (App f ts) u r → Stepped b (move o (App f ts) u r))
    (λ w p. stepped_variable o b w (App f ts) r (turn b (App f ts) (Var w) r p)) (λ n p. tt) (λ g us p. stepped_apps o b f g ts us r p))

pub opened : (b : Branch) (p : Term × Term) (ps : List (Term × Term)) → b.pairs ≡ p ∷ ps → Opened b p.0 p.1 (record b { pairs = ps })
opened b p ps e = record {
  first = λ v c. subst (λ qs. Contains (pair_variables qs) v) (sym e) (first_has p ps v c);
  second = λ v c. subst (λ qs. Contains (pair_variables qs) v) (sym e) (second_has p ps v c);
  rest = λ v c. subst (λ qs. Contains (pair_variables qs) v) (sym e) (rest_has p ps v c);
  symbols = ap pair_symbols e;
  bound = refl;
  next = refl;
}

stepped_from : (o : Subsorts) (b : Branch) (ps : List (Term × Term)) → b.pairs ≡ ps → Stepped b (moved_from o ps b)
stepped_from o b [] e = tt
stepped_from o b (p ∷ ps) e = stepped_move o b (record b { pairs = ps }) p.0 p.1 (opened b p ps e)

pub steps : (o : Subsorts) (b : Branch) → Stepped b (moved o b)
steps o b = stepped_from o b b.pairs refl

-- enough bindings: a list of that length covers the pairs
abbrev pub Enough : ℕ → Branch → Type 0
Enough n b = (l : List Variable) × Covers l b.pairs × (length l ≤ n)

split_smaller : (b c : Branch) → IsSplit b c → Smaller size Enough b c
split_smaller b c s = (s.fewer, λ n e. (e.0, λ v d. e.1 v (s.within v d), e.2))

bind_deeper : (b c : Branch) → IsBind b c → Deeper Enough b c
bind_deeper b c s zero e = absurd (let new = s.fewer e.0 e.1 in let less : length new.0 < length e.0 = new.2 in let few : length e.0 ≤ 0 = e.2 in omega (arith, less, few))
bind_deeper b c s (suc k) e =
    let new = s.fewer e.0 e.1 in
    let less : length new.0 < length e.0 = new.2 in
    let few : length e.0 ≤ suc k = e.2 in
    (k, refl, (new.0, new.1, omega (arith, less, few)))

stepped_falls : (b : Branch) (mv : Move Branch) → Stepped b mv → Falls size Enough b mv
stepped_falls b (splits bs) s = each_along (IsSplit b) (Smaller size Enough b) (split_smaller b) bs s
stepped_falls b (binds bs) s = each_along (IsBind b) (Deeper Enough b) (bind_deeper b) bs s

falls : (o : Subsorts) (b : Branch) → Falls size Enough b (moved o b)
falls o b = stepped_falls b (moved o b) (steps o b)

most_enough : (b : Branch) → Enough (most b) b
most_enough b = (pair_variables b.pairs, λ v c. c, omega arith)

-- what is visited from a branch is that branch and what is visited from those that it becomes
pub unfolded : (o : Subsorts) (b : Branch) → visited o b ≡ b ∷ flat_map (visited o) (nexts (moved o b))
unfolded o b = search_unfolded (moved o) size Enough (falls o) most most_enough b

-- induction along branches
pub by_branches : (o : Subsorts) (P : Branch → Type 0) → ((b : Branch) → ((c : Branch) → Contains (nexts (moved o b)) c → P c) → P b) → (b : Branch) → P b
by_branches o P step b = by_search (moved o) size Enough (falls o) most most_enough P step b

-- What solves what a branch becomes solves the branch.
use Rattle.std.proofs.Common.{◌≡◌, ℕ, ◌+◌, true, false, cond, nat_eq, ◌&&◌, List, [], ◌∷◌, ◌++◌, map, length, Some, None, refl, sym, ◌∙◌, ap, subst, inl, inr, arith}
use Rattle.std.specs.Prelude.{⊤, Contains, ◌⊎◌, flat_map, zip, unwrap_or}
use Rattle.std.proofs.lemmas.Bool.{and_parts, eqb-true}
use Rattle.npa_sorts.specs.Lowers.{lowers}
use Rattle.npa_sorts.specs.Subsorts.{Subsorts, at_or_below}
use Rattle.npa_term.specs.declared.term.Op.{Op}
use Rattle.npa_term.specs.declared.term.Var.{Var as Variable}
use Rattle.npa_term.specs.declared.term.Term.{Term, Var, Name, App}
use Rattle.npa_term.specs.Bound.{same_var, applied}
use Rattle.npa_term.specs.Computed.{same_op, turned}
use Rattle.npa_term.specs.Parts.{image, least_sort}
use Rattle.npa_term.specs.Same.{Same, itself, through, below, SameAll, nothing, first}
use Rattle.npa_term.specs.Variables.{variables}
use Rattle.npa_term.proofs.Equality.{op_equal, turned_same, var_equal}
use Rattle.npa_term.proofs.Induction.{Each, by_terms, term_cases}
use Rattle.npa_term.proofs.Rows.{applied_app}
use Rattle.npa_term.proofs.SameLaws.{same_sym, same_applied}
use Rattle.npa_unify.specs.Branches.{Branch, put, has_var, arranged, are_two, with_pairs, at_variable, fork, at_variables, at_arguments, move, moved_from, moved, none_left, is_end, visited}
use Rattle.npa_unify.specs.Searches.{splits, binds, nexts}
use Rattle.npa_unify.proofs.Members.{EachOf, each_along, each_map, each_member, member_cases, flat_map_member}
use Rattle.npa_unify.proofs.PairVariables.{arranged_is, put_pairs}
use Rattle.npa_unify.proofs.Steps.{move_apps, unfolded, by_branches}

-- a substitution makes the members of all pairs equal, and it has for each bound variable what it
-- has for its value
abbrev pub Equates : List (Variable × Term) → List (Term × Term) → Type 0
Equates u [] = ⊤
Equates u (p ∷ ps) = Same (applied u p.0) (applied u p.1) × Equates u ps

abbrev pub Follows : List (Variable × Term) → List (Variable × Term) → Type 0
Follows u [] = ⊤
Follows u (b ∷ s) = Same (image u b.0) (applied u b.1) × Follows u s

pub record Solves (u : List (Variable × Term)) (b : Branch) : Type 0 where
  pub pairs : Equates u b.pairs
  pub bound : Follows u b.bound

-- a term may be put in for a variable that has the same value
put_members : (u : List (Variable × Term)) (v : Variable) (t : Term) (ts : List Term) → Each (λ x. Same (applied u (applied ((v, t) ∷ []) x)) (applied u x)) ts →
    SameAll (map (applied u) (map (applied ((v, t) ∷ [])) ts)) (map (applied u) ts)
put_members u v t [] each = nothing
put_members u v t (x ∷ xs) each =
    first (applied u (applied ((v, t) ∷ []) x)) (applied u x) (map (applied u) (map (applied ((v, t) ∷ [])) xs)) (map (applied u) xs) each.0 (put_members u v t xs each.1)

pub put_in : (u : List (Variable × Term)) (v : Variable) (t : Term) → Same (image u v) (applied u t) → (x : Term) → Same (applied u (applied ((v, t) ∷ []) x)) (applied u x)
put_in u v t value =
    by_terms (λ x. Same (applied u (applied ((v, t) ∷ []) x)) (applied u x))
    (λ y. elim (same_var v y) as (λ b. same_var v y ≡ b → Same (applied u (unwrap_or (cond b (Some t) None) (Var y))) (image u y)) [
      | true ↦ λ e. subst (λ z. Same (applied u t) (image u z)) (var_equal v y e) (same_sym value)
      | false ↦ λ e. itself (image u y)
    ] refl)
    (λ n. itself (Name n))
    (λ op ts each.
    let left : applied u (applied ((v, t) ∷ []) (App op ts)) ≡ App op (map (applied u) (map (applied ((v, t) ∷ [])) ts)) =
    ap (applied u) (applied_app ((v, t) ∷ []) op ts) ∙ applied_app u op (map (applied ((v, t) ∷ [])) ts) in
    let right : applied u (App op ts) ≡ App op (map (applied u) ts) = applied_app u op ts in
    let both : Same (App op (map (applied u) (map (applied ((v, t) ∷ [])) ts))) (App op (map (applied u) ts)) =
    below op (map (applied u) (map (applied ((v, t) ∷ [])) ts)) (map (applied u) ts) (put_members u v t ts each) in
    subst (λ x. Same x (applied u (App op ts))) (sym left) (subst (Same (App op (map (applied u) (map (applied ((v, t) ∷ [])) ts)))) (sym right) both))

-- bindings behind others
pub follows_front : (u s : List (Variable × Term)) (v : Variable) (t : Term) → Follows u (s ++ (v, t) ∷ []) → Follows u s
follows_front u [] v t f = tt
follows_front u (b ∷ s) v t f = (f.0, follows_front u s v t f.1)

pub follows_last : (u s : List (Variable × Term)) (v : Variable) (t : Term) → Follows u (s ++ (v, t) ∷ []) → Same (image u v) (applied u t)
follows_last u [] v t f = f.0
follows_last u (b ∷ s) v t f = follows_last u s v t f.1

pub follows_more : (u s : List (Variable × Term)) (v : Variable) (t : Term) → Follows u s → Same (image u v) (applied u t) → Follows u (s ++ (v, t) ∷ [])
follows_more u [] v t f value = (value, tt)
follows_more u (b ∷ s) v t f value = (f.0, follows_more u s v t f.1 value)

equates_back : (u : List (Variable × Term)) (v : Variable) (t : Term) → Same (image u v) (applied u t) → (ps : List (Term × Term)) → Equates u (put_pairs v t ps) → Equates u ps
equates_back u v t value [] e = tt
equates_back u v t value (p ∷ ps) e = (
  through (applied u p.0) (applied u (applied ((v, t) ∷ []) p.0)) (applied u p.1) (same_sym (put_in u v t value p.0))
      (through (applied u (applied ((v, t) ∷ []) p.0)) (applied u (applied ((v, t) ∷ []) p.1)) (applied u p.1) e.0 (put_in u v t value p.1)),
  equates_back u v t value ps e.1,
)

equates_forth : (u : List (Variable × Term)) (v : Variable) (t : Term) → Same (image u v) (applied u t) → (ps : List (Term × Term)) → Equates u ps → Equates u (put_pairs v t ps)
equates_forth u v t value [] e = tt
equates_forth u v t value (p ∷ ps) e = (
  through (applied u (applied ((v, t) ∷ []) p.0)) (applied u p.0) (applied u (applied ((v, t) ∷ []) p.1)) (put_in u v t value p.0)
      (through (applied u p.0) (applied u p.1) (applied u (applied ((v, t) ∷ []) p.1)) e.0 (same_sym (put_in u v t value p.1))),
  equates_forth u v t value ps e.1,
)

pub put_value : (u : List (Variable × Term)) (v : Variable) (t : Term) (r : Branch) → Solves u (put v t r) → Same (image u v) (applied u t)
put_value u v t r s = follows_last u r.bound v t s.bound

pub put_back : (u : List (Variable × Term)) (v : Variable) (t : Term) (r : Branch) → Solves u (put v t r) → Solves u r
put_back u v t r s = record {
  pairs = equates_back u v t (put_value u v t r s) r.pairs s.pairs;
  bound = follows_front u r.bound v t s.bound;
}

pub put_forth : (u : List (Variable × Term)) (v : Variable) (t : Term) (r : Branch) → Same (image u v) (applied u t) → Solves u r → Solves u (put v t r)
put_forth u v t r value s = record {
  pairs = equates_forth u v t value r.pairs s.pairs;
  bound = follows_more u r.bound v t s.bound value;
}

-- arguments in another order
pub record Reordered (f : Op) (ts us : List Term) : Type 0 where
  pub many : length us ≡ length ts
  pub same : Same (App f us) (App f ts)

turned_many : (ts : List Term) → length (turned ts) ≡ length ts
turned_many [] = refl
turned_many (t ∷ []) = refl
turned_many (t ∷ u ∷ []) = refl
turned_many (t ∷ u ∷ x ∷ ts) = refl

pub in_order : (f : Op) (ts : List Term) → Reordered f ts ts
in_order f ts = record { many = refl; same = itself (App f ts) }

pub turned_order : (f : Op) (ts : List Term) → f.com ≡ true → Reordered f ts (turned ts)
turned_order f ts c = record { many = turned_many ts; same = turned_same f ts c }

pub arranged_order : (f : Op) (ts : List Term) → f.com ≡ true → Reordered f ts (arranged ts)
arranged_order f ts c =
    elim (arranged_is ts) [
      | inl e ↦ subst (Reordered f ts) (sym e) (in_order f ts)
      | inr e ↦ subst (Reordered f ts) (sym e) (turned_order f ts c)
    ]

pub both_orders : (f : Op) (ts us xs : List Term) → Reordered f ts us → Reordered f us xs → Reordered f ts xs
both_orders f ts us xs p q = record { many = q.many ∙ p.many; same = through (App f xs) (App f us) (App f ts) q.same p.same }

-- pairs of arguments
zipped_same : (u : List (Variable × Term)) (xs ys : List Term) (ps : List (Term × Term)) → length xs ≡ length ys → Equates u (zip xs ys ++ ps) →
    SameAll (map (applied u) xs) (map (applied u) ys) × Equates u ps
zipped_same u [] [] ps even e = (nothing, e)
zipped_same u [] (y ∷ ys) ps even e = absurd (let no : ⊥ = omega (arith, even) in no)
zipped_same u (x ∷ xs) [] ps even e = absurd (let no : ⊥ = omega (arith, even) in no)
zipped_same u (x ∷ xs) (y ∷ ys) ps even e =
    let rest = zipped_same u xs ys ps (omega (arith, even)) e.1 in
    (first (applied u x) (applied u y) (map (applied u) xs) (map (applied u) ys) e.0 rest.0, rest.1)

-- the pair and the rest are solved
abbrev Back : List (Variable × Term) → Term → Term → Branch → Branch → Type 0
Back u t x r c = Solves u c → Same (applied u t) (applied u x) × Solves u r

back_arguments : (u : List (Variable × Term)) (f : Op) (ts us xs ys : List Term) (r : Branch) → length ts ≡ length us → Reordered f ts xs → Reordered f us ys →
    Back u (App f ts) (App f us) r (with_pairs (zip xs ys) r)
back_arguments u f ts us xs ys r even one two s =
    let both = zipped_same u xs ys r.pairs (one.many ∙ even ∙ sym two.many) s.pairs in
    let middle : Same (applied u (App f xs)) (applied u (App f ys)) =
    subst (λ x. Same x (applied u (App f ys))) (sym (applied_app u f xs))
    (subst (Same (App f (map (applied u) xs))) (sym (applied_app u f ys)) (below f (map (applied u) xs) (map (applied u) ys) both.0)) in (
      through (applied u (App f ts)) (applied u (App f xs)) (applied u (App f us)) (same_sym (same_applied u one.same))
          (through (applied u (App f xs)) (applied u (App f ys)) (applied u (App f us)) middle (same_applied u two.same)),
      record { pairs = both.1; bound = s.bound },
    )

back_apps : (u : List (Variable × Term)) (f : Op) (ts us : List Term) (r : Branch) → EachOf (Back u (App f ts) (App f us) r) (nexts (at_arguments f ts us r))
back_apps u f ts us r =
    elim (nat_eq (length ts) (length us)) as (λ c. nat_eq (length ts) (length us) ≡ c → EachOf (Back u (App f ts) (App f us) r) (nexts (cond c
    (cond (f.com && are_two ts)
    (splits (with_pairs (zip (arranged ts) (arranged us)) r ∷ with_pairs (zip (arranged ts) (turned (arranged us))) r ∷ []))
    (splits (with_pairs (zip ts us) r ∷ [])))
    (splits [])))) [
      | true ↦ λ e.
          let even : length ts ≡ length us = eqb-true (length ts) (length us) e in
          elim (f.com && are_two ts) as (λ c. (f.com && are_two ts) ≡ c → EachOf (Back u (App f ts) (App f us) r) (nexts (cond c
          (splits (with_pairs (zip (arranged ts) (arranged us)) r ∷ with_pairs (zip (arranged ts) (turned (arranged us))) r ∷ []))
          (splits (with_pairs (zip ts us) r ∷ []))))) [
            | true ↦ λ d.
                let swaps : f.com ≡ true = (and_parts f.com (are_two ts) d).0 in
                let one : Reordered f ts (arranged ts) = arranged_order f ts swaps in
                let two : Reordered f us (arranged us) = arranged_order f us swaps in (
                  back_arguments u f ts us (arranged ts) (arranged us) r even one two,
                  (
                    back_arguments u f ts us (arranged ts) (turned (arranged us)) r even one
                        (both_orders f us (arranged us) (turned (arranged us)) two (turned_order f (arranged us) swaps)),
                    tt,
                  ),
                )
            | false ↦ λ d. (back_arguments u f ts us ts us r even (in_order f ts) (in_order f us), tt)
          ] refl
      | false ↦ λ e. tt
    ] refl

back_variable : (o : Subsorts) (u : List (Variable × Term)) (v : Variable) (t : Term) (r : Branch) → EachOf (Back u (Var v) t r) (nexts (at_variable o v t r))
back_variable o u v t r =
    elim (has_var (variables t) v) as (λ c. EachOf (Back u (Var v) t r) (nexts (cond c (splits []) (cond (at_or_below o (least_sort t) v.sort) (binds (put v t r ∷ [])) (splits []))))) [
      | true ↦ tt
      | false ↦ elim (at_or_below o (least_sort t) v.sort) as (λ c. EachOf (Back u (Var v) t r) (nexts (cond c (binds (put v t r ∷ [])) (splits [])))) [
        | true ↦ (λ s. (put_value u v t r s, put_back u v t r s), tt)
        | false ↦ tt
      ]
    ]

back_turned : (u : List (Variable × Term)) (t x : Term) (r : Branch) (bs : List Branch) → EachOf (Back u t x r) bs → EachOf (Back u x t r) bs
back_turned u t x r bs each = each_along (Back u t x r) (Back u x t r) (λ c f s. (same_sym (f s).0, (f s).1)) bs each

back_fork : (u : List (Variable × Term)) (v w : Variable) (r : Branch) (s : ℕ) → Back u (Var v) (Var w) r (fork s v w r)
back_fork u v w r s solved =
    let z : Variable = record { num = r.next; sort = s } in
    let bare : Branch = record r { next = r.next + 1 } in
    let inner : Solves u (put v (Var z) bare) = put_back u w (Var z) (put v (Var z) bare) solved in
    let second : Same (image u w) (image u z) = put_value u w (Var z) (put v (Var z) bare) solved in
    let one : Same (image u v) (image u z) = put_value u v (Var z) bare inner in
    let rest : Solves u bare = put_back u v (Var z) bare inner in
    (through (image u v) (image u z) (image u w) one (same_sym second), record { pairs = rest.pairs; bound = rest.bound })

back_variables : (o : Subsorts) (u : List (Variable × Term)) (v w : Variable) (r : Branch) → EachOf (Back u (Var v) (Var w) r) (nexts (at_variables o v w r))
back_variables o u v w r =
    elim (same_var v w) as (λ c. same_var v w ≡ c → EachOf (Back u (Var v) (Var w) r) (nexts (cond c (splits (r ∷ []))
    (cond (at_or_below o v.sort w.sort) (binds (put w (Var v) r ∷ []))
    (cond (at_or_below o w.sort v.sort) (binds (put v (Var w) r ∷ []))
    (binds (map (λ s. fork s v w r) (lowers o v.sort w.sort)))))))) [
      | true ↦ λ e. (λ s. (subst (λ x. Same (image u v) (image u x)) (var_equal v w e) (itself (image u v)), s), tt)
      | false ↦ λ e. elim (at_or_below o v.sort w.sort) as (λ c. EachOf (Back u (Var v) (Var w) r) (nexts (cond c (binds (put w (Var v) r ∷ []))
          (cond (at_or_below o w.sort v.sort) (binds (put v (Var w) r ∷ []))
          (binds (map (λ s. fork s v w r) (lowers o v.sort w.sort))))))) [
            | true ↦ (λ s. (same_sym (put_value u w (Var v) r s), put_back u w (Var v) r s), tt)
            | false ↦ elim (at_or_below o w.sort v.sort) as (λ c. EachOf (Back u (Var v) (Var w) r) (nexts (cond c (binds (put v (Var w) r ∷ []))
                (binds (map (λ s. fork s v w r) (lowers o v.sort w.sort)))))) [
                  | true ↦ (λ s. (put_value u v (Var w) r s, put_back u v (Var w) r s), tt)
                  | false ↦ each_map (Back u (Var v) (Var w) r) (λ s. fork s v w r) (lowers o v.sort w.sort) (λ s c. back_fork u v w r s)
                ]
          ]
    ] refl

back_names : (u : List (Variable × Term)) (m n : ℕ) (r : Branch) → EachOf (Back u (Name m) (Name n) r) (nexts (cond (nat_eq m n) (splits (r ∷ [])) (splits [])))
back_names u m n r =
    elim (nat_eq m n) as (λ c. nat_eq m n ≡ c → EachOf (Back u (Name m) (Name n) r) (nexts (cond c (splits (r ∷ [])) (splits [])))) [
      | true ↦ λ e. (λ s. (subst (λ k. Same (Name m) (Name k)) (eqb-true m n e) (itself (Name m)), s), tt)
      | false ↦ λ e. tt
    ] refl

back_operators : (o : Subsorts) (u : List (Variable × Term)) (f g : Op) (ts us : List Term) (r : Branch) → EachOf (Back u (App f ts) (App g us) r) (nexts (move o (App f ts) (App g us) r))
back_operators o u f g ts us r =
    subst (λ mv. EachOf (Back u (App f ts) (App g us) r) (nexts mv)) (sym (move_apps o f g ts us r))
    (elim (same_op f g) as (λ c. same_op f g ≡ c → EachOf (Back u (App f ts) (App g us) r) (nexts (cond c (at_arguments f ts us r) (splits [])))) [
      | true ↦ λ e. subst (λ h. EachOf (Back u (App f ts) (App h us) r) (nexts (at_arguments f ts us r))) (op_equal f g e) (back_apps u f ts us r)
      | false ↦ λ e. tt
    ] refl)

back_move : (o : Subsorts) (u : List (Variable × Term)) (r : Branch) (t x : Term) → EachOf (Back u t x r) (nexts (move o t x r))
back_move o u r =
    term_cases (λ t. (x : Term) → EachOf (Back u t x r) (nexts (move o t x r)))
    (λ v. term_cases (λ x. EachOf (Back u (Var v) x r) (nexts (move o (Var v) x r)))
    (λ w. back_variables o u v w r) (λ n. back_variable o u v (Name n) r) (λ g us. back_variable o u v (App g us) r))
    (λ m. term_cases (λ x. EachOf (Back u (Name m) x r) (nexts (move o (Name m) x r)))
    (λ w. back_turned u (Var w) (Name m) r (nexts (at_variable o w (Name m) r)) (back_variable o u w (Name m) r)) (λ n. back_names u m n r) (λ g us. tt))
    (λ f ts. term_cases (λ x. EachOf (Back u (App f ts) x r) (nexts (move o (App f ts) x r)))
    (λ w. back_turned u (Var w) (App f ts) r (nexts (at_variable o w (App f ts) r)) (back_variable o u w (App f ts) r)) (λ n. tt) (λ g us. back_operators o u f g ts us r))

back_from : (o : Subsorts) (u : List (Variable × Term)) (b c : Branch) (ps : List (Term × Term)) → b.pairs ≡ ps → Contains (nexts (moved_from o ps b)) c → Solves u c → Solves u b
back_from o u b c [] e member s = absurd (let no : ⊥ = omega (arith, member.1) in no)
back_from o u b c (p ∷ ps) e member s =
    let r : Branch = record b { pairs = ps } in
    let both = each_member (Back u p.0 p.1 r) (nexts (move o p.0 p.1 r)) c (back_move o u r p.0 p.1) member s in
    record { pairs = subst (Equates u) (sym e) (both.0, both.1.pairs); bound = both.1.bound }

pub back : (o : Subsorts) (u : List (Variable × Term)) (b c : Branch) → Contains (nexts (moved o b)) c → Solves u c → Solves u b
back o u b c member s = back_from o u b c b.pairs refl member s

-- branches that are visited

pub visited_cases : (o : Subsorts) (b c : Branch) → Contains (visited o b) c → (b ≡ c) ⊎ ((d : Branch) × Contains (nexts (moved o b)) d × Contains (visited o d) c)
visited_cases o b c member =
    elim (member_cases b c (flat_map (visited o) (nexts (moved o b))) (subst (λ bs. Contains bs c) (unfolded o b) member)) [
      | inl e ↦ inl e
      | inr d ↦ inr (flat_map_member (visited o) (nexts (moved o b)) c d)
    ]

ended_pairs : (ps : List (Term × Term)) → none_left ps ≡ true → ps ≡ []
ended_pairs [] e = refl
ended_pairs (p ∷ ps) e = cc

-- what follows the bindings of a branch that has succeeded solves the first branch
pub end_solves : (o : Subsorts) (u : List (Variable × Term)) (b c : Branch) → Contains (visited o b) c → is_end c ≡ true → Follows u c.bound → Solves u b
end_solves o u b c =
    by_branches o (λ d. Contains (visited o d) c → is_end c ≡ true → Follows u c.bound → Solves u d)
    (λ d later member ended follows. elim (visited_cases o d c member) [
      | inl e ↦ subst (Solves u) (sym e) (record { pairs = subst (Equates u) (sym (ended_pairs c.pairs ended)) tt; bound = follows })
      | inr on ↦ back o u d on.0 on.1 (later on.0 on.1 on.2 ended follows)
    ]) b

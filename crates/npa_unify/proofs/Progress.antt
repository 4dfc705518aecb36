-- A unifier solves some branch that a branch becomes, so some branch that succeeds.
use Rattle.std.proofs.Common.{◌≡◌, ℕ, ◌+◌, ◌<◌, ◌≤◌, true, false, cond, nat_eq, ◌&&◌, List, [], ◌∷◌, ◌++◌, map, length, Some, refl, sym, ◌∙◌, ap, subst, inl, inr, arith}
use Rattle.std.specs.Prelude.{⊤, Contains, ◌⊎◌, flat_map, zip, unwrap_or}
use Rattle.std.proofs.lemmas.Bool.{and_from, eq-eqb, true≢false}
use Rattle.std.proofs.lemmas.List.Elements.{Contains-append_left, Contains-append_right, Contains-append_cases}
use Rattle.npa_sorts.specs.Lowers.{lowers}
use Rattle.npa_sorts.specs.Subsorts.{Subsorts, IsBelow, IsAtOrBelow, at_or_below}
use Rattle.npa_sorts.proofs.Climbs.{decides}
use Rattle.npa_sorts.proofs.LowerLaws.{HasLowers, filter_has, filter_of}
use Rattle.npa_term.specs.declared.term.Op.{Op}
use Rattle.npa_term.specs.declared.term.Var.{Var as Variable}
use Rattle.npa_term.specs.declared.term.Term.{Term, Var, Name, App}
use Rattle.npa_term.specs.Bound.{same_var, value_of, applied}
use Rattle.npa_term.specs.Computed.{same_op, turned}
use Rattle.npa_term.specs.Parts.{image, least_sort}
use Rattle.npa_term.specs.Same.{Same, itself, SameAll, nothing, first, Crossed, crossed, SameArguments}
use Rattle.npa_term.specs.Symbols.{symbol_count}
use Rattle.npa_term.specs.Variables.{variables}
use Rattle.npa_term.proofs.AppliedLaws.{applied_alike}
use Rattle.npa_term.proofs.Equality.{op_itself, var_itself}
use Rattle.npa_term.proofs.Induction.{term_cases}
use Rattle.npa_term.proofs.Parts.{counted_below, same_sort}
use Rattle.npa_term.proofs.Rows.{applied_app, variables_at}
use Rattle.npa_term.proofs.SameCases.{app_injective, same_app, same_only_name}
use Rattle.npa_term.proofs.SameLaws.{same_sym, same_count}
use Rattle.npa_unify.specs.Branches.{Branch, put, has_var, arranged, are_two, with_pairs, at_variable, fork, at_variables, at_arguments, move, moved_from, moved, pair_variables, none_left, is_end, ends, visited}
use Rattle.npa_unify.specs.Searches.{Move, splits, binds, nexts}
use Rattle.npa_unify.proofs.Members.{here, later, nowhere, member_cases, only_one, member_flat_map, member_map}
use Rattle.npa_unify.proofs.PairVariables.{has_var_is, var_differ, put_variables, arranged_is, arranged_variables, turned_variables, zip_variables}
use Rattle.npa_unify.proofs.Solutions.{Equates, Follows, Solves, put_forth}
use Rattle.npa_unify.proofs.Steps.{Opened, turn, opened, move_apps, unfolded, by_branches}

-- the variables of bindings and of a branch

abbrev pub bound_variables : List (Variable × Term) → List Variable
bound_variables [] = []
bound_variables (b ∷ s) = b.0 ∷ (variables b.1 ++ bound_variables s)

abbrev pub Among : Branch → Variable → Type 0
Among b v = Contains (pair_variables b.pairs) v ⊎ Contains (bound_variables b.bound) v

pub bound_cases : (s : List (Variable × Term)) (v : Variable) (t : Term) (w : Variable) → Contains (bound_variables (s ++ (v, t) ∷ [])) w →
    Contains (bound_variables s) w ⊎ ((v ≡ w) ⊎ Contains (variables t) w)
bound_cases [] v t w c =
    elim (member_cases v w (variables t ++ []) c) [
      | inl e ↦ inr (inl e)
      | inr d ↦ elim (Contains-append_cases (variables t) [] w d) [ inl e ↦ inr (inr e) | inr e ↦ absurd (nowhere w e) ]
    ]
bound_cases (b ∷ s) v t w c =
    elim (member_cases b.0 w (variables b.1 ++ bound_variables (s ++ (v, t) ∷ [])) c) [
      | inl e ↦ inl (subst (Contains (bound_variables (b ∷ s))) e (here b.0 (variables b.1 ++ bound_variables s)))
      | inr d ↦ elim (Contains-append_cases (variables b.1) (bound_variables (s ++ (v, t) ∷ [])) w d) [
        | inl e ↦ inl (later b.0 w (variables b.1 ++ bound_variables s) (Contains-append_left (variables b.1) (bound_variables s) w e))
        | inr e ↦ elim (bound_cases s v t w e) [
          | inl f ↦ inl (later b.0 w (variables b.1 ++ bound_variables s) (Contains-append_right (variables b.1) (bound_variables s) w f))
          | inr f ↦ inr f
        ]
      ]
    ]

-- the variables of a branch after a binding
pub among_put : (v : Variable) (t : Term) (r : Branch) (w : Variable) → Among (put v t r) w → Among r w ⊎ ((v ≡ w) ⊎ Contains (variables t) w)
among_put v t r w (inl c) = elim (put_variables v t w r.pairs c) [ inl d ↦ inl (inl d.0) | inr d ↦ inr (inr d) ]
among_put v t r w (inr c) = elim (bound_cases r.bound v t w c) [ inl d ↦ inl (inr d) | inr d ↦ inr d ]

-- a substitution that solves a branch, respects the sorts of its variables, whose numbers are below
-- the next one
pub record Fits (o : Subsorts) (u : List (Variable × Term)) (b : Branch) : Type 0 where
  pub solves : Solves u b
  pub sorts : (v : Variable) → Among b v → IsAtOrBelow o (least_sort (image u v)) v.sort
  pub low : (v : Variable) → Among b v → v.num < b.next

-- a substitution that fits a later branch and has only values that the first one has
pub record Goes (o : Subsorts) (u : List (Variable × Term)) (b c : Branch) : Type 0 where
  pub values : List (Variable × Term)
  pub fits : Fits o values c
  pub grows : b.next ≤ c.next
  pub old : (v : Variable) → v.num < b.next → image values v ≡ image u v
  pub taken : (v : Variable) → Among c v → (x : Variable) × Among b x × (image values v ≡ image u x)

pub goes_nowhere : (o : Subsorts) (u : List (Variable × Term)) (b : Branch) → Fits o u b → Goes o u b b
goes_nowhere o u b fits = record {
  values = u;
  fits = fits;
  grows = omega arith;
  old = λ v low. refl;
  taken = λ v c. (v, c, refl);
}

pub goes_on : (o : Subsorts) (u : List (Variable × Term)) (b c d : Branch) (one : Goes o u b c) → Goes o one.values c d → Goes o u b d
goes_on o u b c d one two = record {
  values = two.values;
  fits = two.fits;
  grows = (let first : b.next ≤ c.next = one.grows in let second : c.next ≤ d.next = two.grows in omega (arith, first, second));
  old = λ v low. two.old v (let more : b.next ≤ c.next = one.grows in omega (arith, low, more)) ∙ one.old v low;
  taken = λ v e. let x = two.taken v e in let y = one.taken x.0 x.1 in (y.0, y.1, x.2 ∙ y.2);
}

-- a branch with the same variables
stays : (o : Subsorts) (u : List (Variable × Term)) (b c : Branch) → Fits o u b → Solves u c → c.next ≡ b.next → ((v : Variable) → Among c v → Among b v) → Goes o u b c
stays o u b c fits solves even within = record {
  values = u;
  fits = record {
    solves = solves;
    sorts = λ v d. fits.sorts v (within v d);
    low = λ v d. let less : v.num < b.next = fits.low v (within v d) in omega (arith, less, even);
  };
  grows = omega (arith, even);
  old = λ v low. refl;
  taken = λ v d. (v, within v d, refl);
}

-- what becomes of the first pair
abbrev Forth : Subsorts → List (Variable × Term) → Branch → Move Branch → Type 0
Forth o u b mv = (c : Branch) × Contains (nexts mv) c × Goes o u b c

rest_among : (b : Branch) (t x : Term) (r : Branch) → Opened b t x r → (v : Variable) → Among r v → Among b v
rest_among b t x r op v (inl c) = inl (op.rest v c)
rest_among b t x r op v (inr c) = inr (subst (λ s. Contains (bound_variables s) v) op.bound c)

put_among : (b : Branch) (v : Variable) (t : Term) (r : Branch) → Opened b (Var v) t r → (w : Variable) → Among (put v t r) w → Among b w
put_among b v t r op w c =
    elim (among_put v t r w c) [
      | inl d ↦ rest_among b (Var v) t r op w d
      | inr d ↦ elim d [ inl e ↦ inl (op.first w (subst (Contains (v ∷ [])) e (here v []))) | inr e ↦ inl (op.second w e) ]
    ]

bind_forth : (o : Subsorts) (u : List (Variable × Term)) (b : Branch) (v : Variable) (t : Term) (r : Branch) → Opened b (Var v) t r → Fits o u b → Solves u r →
    Same (image u v) (applied u t) → Goes o u b (put v t r)
bind_forth o u b v t r op fits solves same = stays o u b (put v t r) fits (put_forth u v t r same solves) op.next (put_among b v t r op)

-- a variable against a term that is none
forth_variable : (o : Subsorts) (u : List (Variable × Term)) (b : Branch) (v : Variable) (t : Term) (r : Branch) → Opened b (Var v) t r → Fits o u b → Solves u r →
    Same (image u v) (applied u t) → (Contains (variables t) v → symbol_count (image u v) < symbol_count (applied u t)) → least_sort (applied u t) ≡ least_sort t →
    Forth o u b (at_variable o v t r)
forth_variable o u b v t r op fits solves same proper kind =
    elim (has_var (variables t) v) as (λ c. has_var (variables t) v ≡ c →
    Forth o u b (cond c (splits []) (cond (at_or_below o (least_sort t) v.sort) (binds (put v t r ∷ [])) (splits [])))) [
      | true ↦ λ e. absurd (
          let less : symbol_count (image u v) < symbol_count (applied u t) = proper (has_var_is (variables t) v e) in
          let even : symbol_count (image u v) ≡ symbol_count (applied u t) = same_count same in
          omega (arith, less, even)
          )
      | false ↦ λ e. elim (at_or_below o (least_sort t) v.sort) as (λ c. at_or_below o (least_sort t) v.sort ≡ c →
          Forth o u b (cond c (binds (put v t r ∷ [])) (splits []))) [
            | true ↦ λ d. (put v t r, here (put v t r) [], bind_forth o u b v t r op fits solves same)
            | false ↦ λ d.
                let sort : least_sort (image u v) ≡ least_sort t = same_sort (image u v) (applied u t) same ∙ kind in
                let low : IsAtOrBelow o (least_sort t) v.sort = subst (λ n. IsAtOrBelow o n v.sort) sort (fits.sorts v (inl (op.first v (here v [])))) in
                absurd (true≢false (sym ((decides o (least_sort t) v.sort).1 low) ∙ d))
          ] refl
    ] refl

forth_name : (o : Subsorts) (u : List (Variable × Term)) (b : Branch) (v : Variable) (n : ℕ) (r : Branch) → Opened b (Var v) (Name n) r → Fits o u b → Solves u r →
    Same (image u v) (Name n) → Forth o u b (at_variable o v (Name n) r)
forth_name o u b v n r op fits solves same = forth_variable o u b v (Name n) r op fits solves same (λ c. absurd (nowhere v c)) refl

forth_app : (o : Subsorts) (u : List (Variable × Term)) (b : Branch) (v : Variable) (f : Op) (ts : List Term) (r : Branch) → Opened b (Var v) (App f ts) r → Fits o u b → Solves u r →
    Same (image u v) (applied u (App f ts)) → Forth o u b (at_variable o v (App f ts) r)
forth_app o u b v f ts r op fits solves same =
    forth_variable o u b v (App f ts) r op fits solves same (λ c. counted_below u v (App f ts) f ts refl c) refl

-- a new variable

pub new_leaves : (u : List (Variable × Term)) (z : Variable) (t : Term) (x : Variable) → same_var z x ≡ false → image ((z, t) ∷ u) x ≡ image u x
new_leaves u z t x e = ap (λ c. unwrap_or (cond c (Some t) (value_of u x)) (Var x)) e

pub new_has : (u : List (Variable × Term)) (z : Variable) (t : Term) → image ((z, t) ∷ u) z ≡ t
new_has u z t = ap (λ c. unwrap_or (cond c (Some t) (value_of u z)) (Var z)) (var_itself z)

higher_differ : (z x : Variable) → x.num < z.num → same_var z x ≡ false
higher_differ z x low = var_differ z x (λ e. let same : z.num ≡ x.num = ap (λ (y : Variable). y.num) e in omega (arith, low, same))

pub new_term : (u : List (Variable × Term)) (z : Variable) (t x : Term) → ((v : Variable) → Contains (variables x) v → same_var z v ≡ false) → applied ((z, t) ∷ u) x ≡ applied u x
new_term u z t x apart =
    applied_alike ((z, t) ∷ u) u x (λ v c. ap (λ d. cond d (Some t) (value_of u v)) (apart v c))

new_equates : (u : List (Variable × Term)) (z : Variable) (t : Term) (ps : List (Term × Term)) → ((v : Variable) → Contains (pair_variables ps) v → same_var z v ≡ false) →
    Equates u ps → Equates ((z, t) ∷ u) ps
new_equates u z t [] apart e = tt
new_equates u z t (p ∷ ps) apart e = (
  subst (λ x. Same x (applied ((z, t) ∷ u) p.1)) (sym (new_term u z t p.0 (λ v c. apart v (Contains-append_left (variables p.0) (variables p.1 ++ pair_variables ps) v c))))
      (subst (Same (applied u p.0)) (sym (new_term u z t p.1
      (λ v c. apart v (Contains-append_right (variables p.0) (variables p.1 ++ pair_variables ps) v (Contains-append_left (variables p.1) (pair_variables ps) v c))))) e.0),
  new_equates u z t ps (λ v c. apart v (Contains-append_right (variables p.0) (variables p.1 ++ pair_variables ps) v (Contains-append_right (variables p.1) (pair_variables ps) v c))) e.1,
)

pub new_follows : (u : List (Variable × Term)) (z : Variable) (t : Term) (s : List (Variable × Term)) → ((v : Variable) → Contains (bound_variables s) v → same_var z v ≡ false) →
    Follows u s → Follows ((z, t) ∷ u) s
new_follows u z t [] apart f = tt
new_follows u z t (b ∷ s) apart f = (
  subst (λ x. Same x (applied ((z, t) ∷ u) b.1)) (sym (new_leaves u z t b.0 (apart b.0 (here b.0 (variables b.1 ++ bound_variables s)))))
      (subst (Same (image u b.0)) (sym (new_term u z t b.1 (λ v c. apart v (later b.0 v (variables b.1 ++ bound_variables s) (Contains-append_left (variables b.1) (bound_variables s) v c))))) f.0),
  new_follows u z t s (λ v c. apart v (later b.0 v (variables b.1 ++ bound_variables s) (Contains-append_right (variables b.1) (bound_variables s) v c))) f.1,
)

fork_among : (b : Branch) (v w : Variable) (r : Branch) (s : ℕ) → Opened b (Var v) (Var w) r → (x : Variable) → Among (fork s v w r) x →
    Among b x ⊎ (record { num = r.next; sort = s } ≡ x)
fork_among b v w r s op x c =
    let z : Variable = record { num = r.next; sort = s } in
    elim (among_put w (Var z) (put v (Var z) (record r { next = r.next + 1 })) x c) [
      | inl d ↦ elim (among_put v (Var z) (record r { next = r.next + 1 }) x d) [
        | inl e ↦ inl (rest_among b (Var v) (Var w) r op x e)
        | inr e ↦ elim e [ inl f ↦ inl (inl (op.first x (subst (Contains (v ∷ [])) f (here v [])))) | inr f ↦ inr (only_one z x f) ]
      ]
      | inr d ↦ elim d [ inl f ↦ inl (inl (op.second x (subst (Contains (w ∷ [])) f (here w [])))) | inr f ↦ inr (only_one z x f) ]
    ]

fork_forth : (o : Subsorts) (u : List (Variable × Term)) (b : Branch) (v w : Variable) (r : Branch) (s : ℕ) → Opened b (Var v) (Var w) r → Fits o u b → Solves u r →
    Same (image u v) (image u w) → IsAtOrBelow o (least_sort (image u v)) s → Goes o u b (fork s v w r)
fork_forth o u b v w r s op fits solves same sort =
    let z : Variable = record { num = r.next; sort = s } in
    let t : Term = image u v in
    let values : List (Variable × Term) = (z, t) ∷ u in
    let bare : Branch = record r { next = r.next + 1 } in
    let even : r.next ≡ b.next = op.next in
    let under : (x : Variable) → Among b x → x.num < z.num = λ x c. (let less : x.num < b.next = fits.low x c in omega (arith, less, even)) in
    let first_among : Among b v = inl (op.first v (here v [])) in
    let second_among : Among b w = inl (op.second w (here w [])) in
    let rest : Solves values bare = record {
      pairs = new_equates u z t r.pairs (λ x c. higher_differ z x (under x (rest_among b (Var v) (Var w) r op x (inl c)))) solves.pairs;
      bound = new_follows u z t r.bound (λ x c. higher_differ z x (under x (rest_among b (Var v) (Var w) r op x (inr c)))) solves.bound;
    } in
    let new : image values z ≡ t = new_has u z t in
    let left : image values v ≡ t = new_leaves u z t v (higher_differ z v (under v first_among)) in
    let right : image values w ≡ image u w = new_leaves u z t w (higher_differ z w (under w second_among)) in
    let one : Same (image values v) (image values z) = subst (Same (image values v)) (sym new) (subst (λ x. Same x t) (sym left) (itself t)) in
    let two : Same (image values w) (image values z) = subst (Same (image values w)) (sym new) (subst (λ x. Same x t) (sym right) (same_sym same)) in
    record {
      values = values;
      fits = record {
        solves = put_forth values w (Var z) (put v (Var z) bare) two (put_forth values v (Var z) bare one rest);
        sorts = λ x c. elim (fork_among b v w r s op x c) [
          | inl d ↦ subst (λ y. IsAtOrBelow o (least_sort y) x.sort) (sym (new_leaves u z t x (higher_differ z x (under x d)))) (fits.sorts x d)
          | inr d ↦ subst (λ y. IsAtOrBelow o (least_sort (image values y)) y.sort) d (subst (λ y. IsAtOrBelow o (least_sort y) s) (sym new) sort)
        ];
        low = λ x c. elim (fork_among b v w r s op x c) [
          | inl d ↦ let less : x.num < z.num = under x d in omega (arith, less)
          | inr d ↦ let is : z.num ≡ x.num = ap (λ (y : Variable). y.num) d in omega (arith, is)
        ];
      };
      grows = omega (arith, even);
      old = λ x low. new_leaves u z t x (higher_differ z x (omega (arith, low, even)));
      taken = λ x c. elim (fork_among b v w r s op x c) [
        | inl d ↦ (x, d, new_leaves u z t x (higher_differ z x (under x d)))
        | inr d ↦ (v, first_among, ap (image values) (sym d) ∙ new)
      ];
    }

-- two variables
below_of : (o : Subsorts) (n s t : ℕ) → at_or_below o s t ≡ false → IsAtOrBelow o n s → IsAtOrBelow o n t → IsBelow o n s
below_of o n s t e (inl is) other = absurd (true≢false (sym ((decides o s t).1 (subst (λ m. IsAtOrBelow o m t) is other)) ∙ e))
below_of o n s t e (inr below) other = below

forth_variables : (o : Subsorts) → HasLowers o → (u : List (Variable × Term)) (b : Branch) (v w : Variable) (r : Branch) → Opened b (Var v) (Var w) r → Fits o u b → Solves u r →
    Same (image u v) (image u w) → Forth o u b (at_variables o v w r)
forth_variables o lower u b v w r op fits solves same =
    let turned_op : Opened b (Var w) (Var v) r = turn b (Var v) (Var w) r op in
    let first_sort : IsAtOrBelow o (least_sort (image u v)) v.sort = fits.sorts v (inl (op.first v (here v []))) in
    let second_sort : IsAtOrBelow o (least_sort (image u v)) w.sort =
    subst (λ n. IsAtOrBelow o n w.sort) (sym (same_sort (image u v) (image u w) same)) (fits.sorts w (inl (op.second w (here w [])))) in
    elim (same_var v w) as (λ c. same_var v w ≡ c → Forth o u b (cond c (splits (r ∷ []))
    (cond (at_or_below o v.sort w.sort) (binds (put w (Var v) r ∷ []))
    (cond (at_or_below o w.sort v.sort) (binds (put v (Var w) r ∷ []))
    (binds (map (λ s. fork s v w r) (lowers o v.sort w.sort))))))) [
      | true ↦ λ e. (r, here r [], stays o u b r fits solves op.next (rest_among b (Var v) (Var w) r op))
      | false ↦ λ e. elim (at_or_below o v.sort w.sort) as (λ c. at_or_below o v.sort w.sort ≡ c → Forth o u b (cond c (binds (put w (Var v) r ∷ []))
          (cond (at_or_below o w.sort v.sort) (binds (put v (Var w) r ∷ []))
          (binds (map (λ s. fork s v w r) (lowers o v.sort w.sort)))))) [
            | true ↦ λ d. (put w (Var v) r, here (put w (Var v) r) [], bind_forth o u b w (Var v) r turned_op fits solves (same_sym same))
            | false ↦ λ d. elim (at_or_below o w.sort v.sort) as (λ c. at_or_below o w.sort v.sort ≡ c → Forth o u b (cond c (binds (put v (Var w) r ∷ []))
                (binds (map (λ s. fork s v w r) (lowers o v.sort w.sort))))) [
                  | true ↦ λ k. (put v (Var w) r, here (put v (Var w) r) [], bind_forth o u b v (Var w) r op fits solves same)
                  | false ↦ λ k.
                      let low = lower v.sort w.sort (least_sort (image u v))
                      (below_of o (least_sort (image u v)) v.sort w.sort d first_sort second_sort)
                      (below_of o (least_sort (image u v)) w.sort v.sort k second_sort first_sort) in (
                        fork low.0 v w r,
                        member_map (λ s. fork s v w r) (lowers o v.sort w.sort) low.0 low.1,
                        fork_forth o u b v w r low.0 op fits solves same low.2,
                      )
                ] refl
          ] refl
    ] refl

-- arguments

abbrev Pairwise : List Term → List Term → Type 0
Pairwise [] [] = ⊤
Pairwise [] (y ∷ ys) = ⊥
Pairwise (x ∷ xs) [] = ⊥
Pairwise (x ∷ xs) (y ∷ ys) = Same x y × Pairwise xs ys

pairwise : {xs ys : List Term} → SameAll xs ys → Pairwise xs ys
pairwise nothing = tt
pairwise (first t u ts us p q) = (p, pairwise q)

equates_zip : (u : List (Variable × Term)) (xs ys : List Term) (ps : List (Term × Term)) → Pairwise (map (applied u) xs) (map (applied u) ys) → Equates u ps → Equates u (zip xs ys ++ ps)
equates_zip u [] [] ps p e = e
equates_zip u [] (y ∷ ys) ps p e = absurd p
equates_zip u (x ∷ xs) [] ps p e = absurd p
equates_zip u (x ∷ xs) (y ∷ ys) ps p e = (p.0, equates_zip u xs ys ps p.1 e)

as_long : {xs ys : List Term} → SameAll xs ys → length xs ≡ length ys
as_long nothing = refl
as_long (first t u ts us p q) = let rest : length ts ≡ length us = as_long q in omega (arith, rest)

map_long : (u : List (Variable × Term)) (ts : List Term) → length (map (applied u) ts) ≡ length ts
map_long u [] = refl
map_long u (t ∷ ts) = let rest : length (map (applied u) ts) ≡ length ts = map_long u ts in omega (arith, rest)

arguments_long : {f : Op} {xs ys : List Term} → SameArguments f xs ys → length xs ≡ length ys
arguments_long (inl p) = as_long p
arguments_long (inr (crossed a b c d swaps p q)) = refl

-- equal in order or crosswise
abbrev Either : List Term → List Term → Type 0
Either xs ys = SameAll xs ys ⊎ SameAll xs (turned ys)

crossed_turned : {f : Op} {xs ys : List Term} → Crossed f xs ys → SameAll xs (turned ys)
crossed_turned (crossed a b c d swaps p q) = first a d (b ∷ []) (c ∷ []) p (first b c [] [] q nothing)

turned_twice : (ts : List Term) → turned (turned ts) ≡ ts
turned_twice [] = refl
turned_twice (t ∷ []) = refl
turned_twice (t ∷ u ∷ []) = refl
turned_twice (t ∷ u ∷ x ∷ ts) = refl

turned_all : {xs ys : List Term} → SameAll xs ys → SameAll (turned xs) (turned ys)
turned_all nothing = nothing
turned_all (first t u _ _ p nothing) = first t u [] [] p nothing
turned_all (first t u _ _ p (first x y _ _ q nothing)) = first x y (t ∷ []) (u ∷ []) q (first t u [] [] p nothing)
turned_all (first t u _ _ p (first x y _ _ q (first a b ts us r s))) = first t u (x ∷ a ∷ ts) (y ∷ b ∷ us) p (first x y (a ∷ ts) (b ∷ us) q (first a b ts us r s))

turn_left : (xs ys : List Term) → Either xs ys → Either (turned xs) ys
turn_left xs ys (inl p) = inr (turned_all p)
turn_left xs ys (inr p) = inl (subst (SameAll (turned xs)) (turned_twice ys) (turned_all p))

turn_right : (xs ys : List Term) → Either xs ys → Either xs (turned ys)
turn_right xs ys (inl p) = inr (subst (SameAll xs) (sym (turned_twice ys)) p)
turn_right xs ys (inr p) = inl p

map_turned : (u : List (Variable × Term)) (ts : List Term) → map (applied u) (turned ts) ≡ turned (map (applied u) ts)
map_turned u [] = refl
map_turned u (t ∷ []) = refl
map_turned u (t ∷ x ∷ []) = refl
map_turned u (t ∷ x ∷ y ∷ ts) = refl

arrange_left : (u : List (Variable × Term)) (ts : List Term) (ys : List Term) → Either (map (applied u) ts) ys → Either (map (applied u) (arranged ts)) ys
arrange_left u ts ys either =
    elim (arranged_is ts) [
      | inl e ↦ subst (λ xs. Either (map (applied u) xs) ys) (sym e) either
      | inr e ↦ subst (λ xs. Either (map (applied u) xs) ys) (sym e) (subst (λ xs. Either xs ys) (sym (map_turned u ts)) (turn_left (map (applied u) ts) ys either))
    ]

arrange_right : (u : List (Variable × Term)) (xs us : List Term) → Either xs (map (applied u) us) → Either xs (map (applied u) (arranged us))
arrange_right u xs us either =
    elim (arranged_is us) [
      | inl e ↦ subst (λ ys. Either xs (map (applied u) ys)) (sym e) either
      | inr e ↦ subst (λ ys. Either xs (map (applied u) ys)) (sym e) (subst (Either xs) (sym (map_turned u us)) (turn_right xs (map (applied u) us) either))
    ]

either_of : {f : Op} {xs ys : List Term} → SameArguments f xs ys → Either xs ys
either_of (inl p) = inl p
either_of (inr p) = inr (crossed_turned p)

crossed_two : {f : Op} {xs ys : List Term} → Crossed f xs ys → (f.com && are_two xs) ≡ true
crossed_two {f} (crossed a b c d swaps p q) = and_from f.com true swaps refl

map_two : (u : List (Variable × Term)) (ts : List Term) → are_two (map (applied u) ts) ≡ are_two ts
map_two u [] = refl
map_two u (t ∷ []) = refl
map_two u (t ∷ x ∷ []) = refl
map_two u (t ∷ x ∷ y ∷ ts) = refl

straight_of : (f : Op) (u : List (Variable × Term)) (ts : List Term) (ys : List Term) → (f.com && are_two ts) ≡ false → SameArguments f (map (applied u) ts) ys → SameAll (map (applied u) ts) ys
straight_of f u ts ys e (inl p) = p
straight_of f u ts ys e (inr p) = absurd (true≢false (sym (crossed_two p) ∙ ap (λ c. f.com && c) (map_two u ts) ∙ e))

zip_solves : (u : List (Variable × Term)) (xs ys : List Term) (r : Branch) → SameAll (map (applied u) xs) (map (applied u) ys) → Solves u r → Solves u (with_pairs (zip xs ys) r)
zip_solves u xs ys r same s = record { pairs = equates_zip u xs ys r.pairs (pairwise same) s.pairs; bound = s.bound }

zip_among : (b : Branch) (f : Op) (ts us xs ys : List Term) (r : Branch) → Opened b (App f ts) (App f us) r →
    ((v : Variable) → Contains (flat_map variables xs) v → Contains (flat_map variables ts) v) →
    ((v : Variable) → Contains (flat_map variables ys) v → Contains (flat_map variables us) v) → (v : Variable) → Among (with_pairs (zip xs ys) r) v → Among b v
zip_among b f ts us xs ys r op one two v (inl c) =
    elim (zip_variables xs ys r.pairs v c) [
      | inl d ↦ inl (op.first v (subst (λ l. Contains l v) (sym (variables_at (App f ts) f ts refl)) (one v d)))
      | inr d ↦ elim d [
        | inl e ↦ inl (op.second v (subst (λ l. Contains l v) (sym (variables_at (App f us) f us refl)) (two v e)))
        | inr e ↦ inl (op.rest v e)
      ]
    ]
zip_among b f ts us xs ys r op one two v (inr c) = inr (subst (λ s. Contains (bound_variables s) v) op.bound c)

zip_forth : (o : Subsorts) (u : List (Variable × Term)) (b : Branch) (f : Op) (ts us xs ys : List Term) (r : Branch) → Opened b (App f ts) (App f us) r → Fits o u b → Solves u r →
    ((v : Variable) → Contains (flat_map variables xs) v → Contains (flat_map variables ts) v) →
    ((v : Variable) → Contains (flat_map variables ys) v → Contains (flat_map variables us) v) →
    SameAll (map (applied u) xs) (map (applied u) ys) → Goes o u b (with_pairs (zip xs ys) r)
zip_forth o u b f ts us xs ys r op fits solves one two same =
    stays o u b (with_pairs (zip xs ys) r) fits (zip_solves u xs ys r same solves) op.next (zip_among b f ts us xs ys r op one two)

forth_arguments : (o : Subsorts) (u : List (Variable × Term)) (b : Branch) (f : Op) (ts us : List Term) (r : Branch) → Opened b (App f ts) (App f us) r → Fits o u b → Solves u r →
    SameArguments f (map (applied u) ts) (map (applied u) us) → Forth o u b (at_arguments f ts us r)
forth_arguments o u b f ts us r op fits solves same =
    let even : length ts ≡ length us = sym (map_long u ts) ∙ arguments_long same ∙ map_long u us in
    subst (λ c. Forth o u b (cond c
    (cond (f.com && are_two ts)
    (splits (with_pairs (zip (arranged ts) (arranged us)) r ∷ with_pairs (zip (arranged ts) (turned (arranged us))) r ∷ []))
    (splits (with_pairs (zip ts us) r ∷ [])))
    (splits []))) (sym (eq-eqb (length ts) (length us) even))
    (elim (f.com && are_two ts) as (λ c. (f.com && are_two ts) ≡ c → Forth o u b (cond c
    (splits (with_pairs (zip (arranged ts) (arranged us)) r ∷ with_pairs (zip (arranged ts) (turned (arranged us))) r ∷ []))
    (splits (with_pairs (zip ts us) r ∷ [])))) [
      | true ↦ λ e.
          let straight : Branch = with_pairs (zip (arranged ts) (arranged us)) r in
          let across : Branch = with_pairs (zip (arranged ts) (turned (arranged us))) r in
          elim (arrange_left u ts (map (applied u) (arranged us)) (arrange_right u (map (applied u) ts) us (either_of same))) [
            | inl p ↦ (
              straight,
              here straight (across ∷ []),
              zip_forth o u b f ts us (arranged ts) (arranged us) r op fits solves (arranged_variables ts) (arranged_variables us) p,
            )
            | inr p ↦ (
              across,
              later straight across (across ∷ []) (here across []),
              zip_forth o u b f ts us (arranged ts) (turned (arranged us)) r op fits solves (arranged_variables ts)
                  (λ v c. arranged_variables us v (turned_variables (arranged us) v c))
                  (subst (SameAll (map (applied u) (arranged ts))) (sym (map_turned u (arranged us))) p),
            )
          ]
      | false ↦ λ e.
          let only : Branch = with_pairs (zip ts us) r in
          (only, here only [], zip_forth o u b f ts us ts us r op fits solves (λ v c. c) (λ v c. c) (straight_of f u ts (map (applied u) us) e same))
    ] refl)

forth_operators : (o : Subsorts) (u : List (Variable × Term)) (b : Branch) (f g : Op) (ts us : List Term) (r : Branch) → Opened b (App f ts) (App g us) r → Fits o u b → Solves u r →
    Same (applied u (App f ts)) (applied u (App g us)) → Forth o u b (move o (App f ts) (App g us) r)
forth_operators o u b f g ts us r op fits solves same =
    let is = same_app same f (map (applied u) ts) (applied_app u f ts) in
    let both = app_injective g f (map (applied u) us) is.0 (sym (applied_app u g us) ∙ is.1) in
    let arguments : SameArguments f (map (applied u) ts) (map (applied u) us) = subst (SameArguments f (map (applied u) ts)) (sym both.1) is.2 in
    let test : same_op f g ≡ true = ap (same_op f) both.0 ∙ op_itself f in
    subst (Forth o u b) (sym (move_apps o f g ts us r))
    (subst (λ c. Forth o u b (cond c (at_arguments f ts us r) (splits []))) (sym test)
    (forth_arguments o u b f ts us r (subst (λ h. Opened b (App f ts) (App h us) r) both.0 op) fits solves arguments))

forth_names : (o : Subsorts) (u : List (Variable × Term)) (b : Branch) (m n : ℕ) (r : Branch) → Opened b (Name m) (Name n) r → Fits o u b → Solves u r →
    Same (Name m) (Name n) → Forth o u b (cond (nat_eq m n) (splits (r ∷ [])) (splits []))
forth_names o u b m n r op fits solves same =
    let is : Name n ≡ Name m = same_only_name same m refl in
    let even : m ≡ n = cc in
    subst (λ c. Forth o u b (cond c (splits (r ∷ [])) (splits []))) (sym (eq-eqb m n even))
    (r, here r [], stays o u b r fits solves op.next (rest_among b (Name m) (Name n) r op))

no_operator : (u : List (Variable × Term)) (m : ℕ) (f : Op) (ts : List Term) → Same (Name m) (applied u (App f ts)) → ⊥
no_operator u m f ts same = let is : App f (map (applied u) ts) ≡ Name m = sym (applied_app u f ts) ∙ same_only_name same m refl in cc

forth_move : (o : Subsorts) → HasLowers o → (u : List (Variable × Term)) (b r : Branch) → Fits o u b → Solves u r → (t x : Term) → Opened b t x r → Same (applied u t) (applied u x) → Forth o u b (move o t x r)
forth_move o lower u b r fits solves =
    term_cases (λ t. (x : Term) → Opened b t x r → Same (applied u t) (applied u x) → Forth o u b (move o t x r))
    (λ v. term_cases (λ x. Opened b (Var v) x r → Same (image u v) (applied u x) → Forth o u b (move o (Var v) x r))
    (λ w p s. forth_variables o lower u b v w r p fits solves s)
    (λ n p s. forth_name o u b v n r p fits solves s)
    (λ g us p s. forth_app o u b v g us r p fits solves s))
    (λ m. term_cases (λ x. Opened b (Name m) x r → Same (Name m) (applied u x) → Forth o u b (move o (Name m) x r))
    (λ w p s. forth_name o u b w m r (turn b (Name m) (Var w) r p) fits solves (same_sym s))
    (λ n p s. forth_names o u b m n r p fits solves s)
    (λ g us p s. absurd (no_operator u m g us s)))
    (λ f ts. term_cases (λ x. Opened b (App f ts) x r → Same (applied u (App f ts)) (applied u x) → Forth o u b (move o (App f ts) x r))
    (λ w p s. forth_app o u b w f ts r (turn b (App f ts) (Var w) r p) fits solves (same_sym s))
    (λ n p s. absurd (no_operator u n f ts (same_sym s)))
    (λ g us p s. forth_operators o u b f g ts us r p fits solves s))

forth_from : (o : Subsorts) → HasLowers o → (u : List (Variable × Term)) (b : Branch) (ps : List (Term × Term)) → b.pairs ≡ ps → none_left ps ≡ false → Fits o u b →
    Forth o u b (moved_from o ps b)
forth_from o lower u b [] e left fits = cc
forth_from o lower u b (p ∷ ps) e left fits =
    let r : Branch = record b { pairs = ps } in
    let pairs : Equates u (p ∷ ps) = subst (Equates u) e fits.solves.pairs in
    forth_move o lower u b r fits (record { pairs = pairs.1; bound = fits.solves.bound }) p.0 p.1 (opened b p ps e) pairs.0

pub forth : (o : Subsorts) → HasLowers o → (u : List (Variable × Term)) (b : Branch) → is_end b ≡ false → Fits o u b → Forth o u b (moved o b)
forth o lower u b left fits = forth_from o lower u b b.pairs refl left fits

-- branches that are visited
pub visited_first : (o : Subsorts) (b : Branch) → Contains (visited o b) b
visited_first o b = subst (λ bs. Contains bs b) (sym (unfolded o b)) (here b (flat_map (visited o) (nexts (moved o b))))

pub visited_later : (o : Subsorts) (b d c : Branch) → Contains (nexts (moved o b)) d → Contains (visited o d) c → Contains (visited o b) c
visited_later o b d c one two =
    subst (λ bs. Contains bs c) (sym (unfolded o b))
    (later b c (flat_map (visited o) (nexts (moved o b))) (member_flat_map (visited o) (nexts (moved o b)) d c one two))

-- what fits a branch fits, with more values, one that succeeds
pub reaches_end : (o : Subsorts) → HasLowers o → (u : List (Variable × Term)) (b : Branch) → Fits o u b → (c : Branch) × Contains (ends o b) c × Goes o u b c
reaches_end o lower u b =
    by_branches o (λ d. (w : List (Variable × Term)) → Fits o w d → (c : Branch) × Contains (ends o d) c × Goes o w d c)
    (λ d on w fits. elim (is_end d) as (λ e. is_end d ≡ e → (c : Branch) × Contains (ends o d) c × Goes o w d c) [
      | true ↦ λ e. (d, filter_has is_end (visited o d) d (visited_first o d) e, goes_nowhere o w d fits)
      | false ↦ λ e.
          let one = forth o lower w d e fits in
          let rest = on one.0 one.1 one.2.values one.2.fits in
          let found = filter_of is_end (visited o one.0) rest.0 rest.1 in
          (rest.0, filter_has is_end (visited o d) rest.0 (visited_later o d one.0 rest.0 one.1 found.0) found.1, goes_on o w d one.0 rest.0 one.2 rest.2)
    ] refl) b u

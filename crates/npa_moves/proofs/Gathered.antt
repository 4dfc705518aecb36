-- What an answer of gathered results has.
use Rattle.std.proofs.Common.{◌≡◌, ℕ, ◌+◌, true, false, cond, nat_lt, None, Some, Option, Result, Ok, Err, List, [], ◌∷◌, ◌++◌, map, length, Contains, refl, sym, subst, inl, inr}
use Rattle.std.proofs.lemmas.List.Elements.{Contains-append_left, Contains-append_right}
use Rattle.fold_core.specs.declared.error.Large.{Large}
use Rattle.fold_core.specs.declared.error.Measure.{Measure}
use Rattle.fold_core.specs.declared.error.Measure.TheVariants.{Unifiers}
use Rattle.npa_term.specs.declared.term.Term.{Term}
use Rattle.npa_term.specs.declared.term.Var.{Var as Variable}
use Rattle.npa_unify.specs.declared.error.UnifyFail.{UnifyFail}
use Rattle.npa_unify.specs.declared.error.UnifyFail.TheVariants as unify_fail
use Rattle.npa_unify.proofs.Members.{here, later, nowhere, member_cases}
use Rattle.npa_variants.proofs.Members.{mapped_member, flat_member}
use Rattle.npa_moves.specs.Finishing.{Found, excess, found_of}
use Rattle.npa_moves.specs.Gathering.{Drawn, Solve, all_drawn, drawn_by, followed, gathered, joined, measured, problem_excess, solved, unless_large}
use Rattle.npa_moves.specs.Moves.{Move}

module _ {A : Type 0} where
  same_ok : {x y : A} → ◌≡◌ {A = Result A Large} (Ok x) (Ok y) → x ≡ y
  same_ok e = cc

  failed : {x : A} {large : Large} → ◌≡◌ {A = Result A Large} (Err large) (Ok x) → ⊥
  failed e = cc

  pub unless_ok : (at : ℕ) (m : Option (Measure × ℕ)) (r : Result A Large) (x : A) → unless_large at m r ≡ Ok x → (m ≡ None) × (r ≡ Ok x)
  unless_ok at None r x e = (refl, e)
  unless_ok at (Some m) r x e = absurd (failed e)

  pub record IsJoined (xs : List A) (r : Result (List A) Large) (zs : List A) : Type 0 where
    pub rest : List A
    pub is : r ≡ Ok rest
    pub joins : zs ≡ xs ++ rest

module _ {A : Type 0} where
  pub joined_ok : (xs : List A) (r : Result (List A) Large) (zs : List A) → joined xs r ≡ Ok zs → IsJoined xs r zs
  joined_ok xs (Ok ys) zs e = record { rest = ys; is = refl; joins = sym (same_ok e) }
  joined_ok xs (Err large) zs e = absurd (failed e)

  pub followed_ok : (a r : Result (List A) Large) (zs : List A) → followed a r ≡ Ok zs → (xs : List A) × (a ≡ Ok xs) × IsJoined xs r zs
  followed_ok (Ok xs) r zs e = (xs, refl, joined_ok xs r zs e)
  followed_ok (Err large) r zs e = absurd (failed e)

-- ## Judged problems

abbrev Answer : Type 0
Answer = Result (List (List (Variable × Term))) UnifyFail

no_excess : {m : Measure × ℕ} → ◌≡◌ {A = Option (Measure × ℕ)} (Some m) None → ⊥
no_excess e = cc

counted : (sum : ℕ) (ss : List (List (Variable × Term))) (answers : List Answer) → problem_excess sum (Ok ss ∷ answers) ≡ None → problem_excess (sum + length ss) answers ≡ None
counted sum ss answers =
    elim (nat_lt 4096 (sum + length ss)) as (λ b. cond b (Some (Unifiers, 4097)) (problem_excess (sum + length ss) answers) ≡ None → problem_excess (sum + length ss) answers ≡ None) [
      | true ↦ λ e. absurd (no_excess e)
      | false ↦ λ e. e
    ]

-- each part has an answer
pub answered : (sum : ℕ) (answers : List Answer) (a : Answer) → problem_excess sum answers ≡ None → Contains answers a → (a ≡ Err unify_fail.NoMemory → ⊥) → (ss : List (List (Variable × Term))) × (a ≡ Ok ss)
answered sum [] a e c always = absurd (nowhere a c)
answered sum (Err unify_fail.TooMany ∷ answers) a e c always = absurd (no_excess e)
answered sum (Err (unify_fail.TooLarge n) ∷ answers) a e c always = absurd (no_excess e)
answered sum (Err unify_fail.NoMemory ∷ answers) a e c always = elim (member_cases (Err unify_fail.NoMemory) a answers c) [
  | inl is ↦ absurd (always (sym is))
  | inr d ↦ answered sum answers a e d always
]
answered sum (Ok ss ∷ answers) a e c always = elim (member_cases (Ok ss) a answers c) [
  | inl is ↦ (ss, sym is)
  | inr d ↦ answered (sum + length ss) answers a (counted sum ss answers e) d always
]

module _ {L : Type 0} (solve : Solve) (vs : List Variable) where
  abbrev pub found_from : Drawn L → Found L
  found_from d = found_of d.label vs d.draft

  -- each result that is drawn and measured is in the list
  pub measured_has : (at : ℕ) (ds : List (Drawn L)) (fs : List (Found L)) (d : Drawn L) → measured vs at ds ≡ Ok fs → Contains ds d → Contains fs (found_from d)
  measured_has at [] fs d e c = absurd (nowhere d c)
  measured_has at (b ∷ ds) fs d e c =
      let fine = unless_ok at (excess b.draft.pattern) (joined (found_from b ∷ []) (measured vs (at + 1) ds)) fs e in
      let j = joined_ok (found_from b ∷ []) (measured vs (at + 1) ds) fs fine.1 in
      subst (λ (xs : List (Found L)). Contains xs (found_from d)) (sym j.joins)
      (elim (member_cases b d ds c) [
        | inl is ↦ subst (λ (x : Drawn L). Contains (found_from b ∷ j.rest) (found_from x)) is (here (found_from b) j.rest)
        | inr f ↦ later (found_from b) (found_from d) j.rest (measured_has (at + 1) ds j.rest d j.is f)
      ])

  -- A move has an answer, and each of its results that aren't left out is in the list.
  pub record IsGathered (list : List (Found L)) (m : Move L) : Type 0 where
    pub unifiers : List (List (Variable × Term))
    pub solves : solved solve m ≡ Ok unifiers
    pub has : (d : Drawn L) → Contains (drawn_by solve vs m) d → Contains list (found_from d)

module _ {L : Type 0} (solve : Solve) (vs : List Variable) (always : (next : ℕ) (pairs : List (Term × Term)) → solve next pairs ≡ Err unify_fail.NoMemory → ⊥) where
  in_problem : (at : ℕ) (p : List (Move L)) (fs : List (Found L)) (m : Move L) → problem_excess 0 (map (solved solve) p) ≡ None →
      measured vs at (all_drawn solve vs p) ≡ Ok fs → Contains p m → IsGathered solve vs fs m
  in_problem at p fs m none e c =
      let answer = answered 0 (map (solved solve) p) (solved solve m) none (mapped_member (solved solve) p m c) (always m.next m.pairs) in
      record {
        unifiers = answer.0;
        solves = answer.1;
        has = λ d f. measured_has solve vs at (all_drawn solve vs p) fs d e (flat_member (drawn_by solve vs) p m d c f);
      }

  pub gathered_has : (at : ℕ) (ps : List (List (Move L))) (list : List (Found L)) (p : List (Move L)) (m : Move L) → gathered solve vs at ps ≡ Ok list →
      Contains ps p → Contains p m → IsGathered solve vs list m
  gathered_has at [] list p m e c d = absurd (nowhere p c)
  gathered_has at (b ∷ ps) list p m e c d =
      let fine = unless_ok at (problem_excess 0 (map (solved solve) b)) (followed (measured vs at (all_drawn solve vs b)) (gathered solve vs (at + length (all_drawn solve vs b)) ps)) list e in
      let parts = followed_ok (measured vs at (all_drawn solve vs b)) (gathered solve vs (at + length (all_drawn solve vs b)) ps) list fine.1 in
      elim (member_cases b p ps c) [
        | inl is ↦
            let one = in_problem at b parts.0 m fine.0 parts.1 (subst (λ (x : List (Move L)). Contains x m) (sym is) d) in
            record {
              unifiers = one.unifiers;
              solves = one.solves;
              has = λ x f. subst (λ (xs : List (Found L)). Contains xs (found_from solve vs x)) (sym parts.2.joins)
                  (Contains-append_left parts.0 parts.2.rest (found_from solve vs x) (one.has x f));
            }
        | inr f ↦
            let one = gathered_has (at + length (all_drawn solve vs b)) ps parts.2.rest p m parts.2.is f d in
            record {
              unifiers = one.unifiers;
              solves = one.solves;
              has = λ x g. subst (λ (xs : List (Found L)). Contains xs (found_from solve vs x)) (sym parts.2.joins)
                  (Contains-append_right parts.0 parts.2.rest (found_from solve vs x) (one.has x g));
            }
      ]

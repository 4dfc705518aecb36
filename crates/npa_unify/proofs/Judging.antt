-- What is answered of all unifiers, one after the other.
use Rattle.std.proofs.Common.{◌≡◌, ℕ, zero, suc, ◌<◌, Bool, true, false, nat_le, cond, Option, Some, None, Result, Ok, Err, List, [], ◌∷◌, ◌++◌, map, take, length, refl, sym, ◌∙◌, ap, subst, arith}
use Rattle.std.specs.Prelude.{Contains, flat_map}
use Rattle.std.specs.List.{list_any}
use Rattle.std.proofs.lemmas.List.{append-nil}
use Rattle.npa_sorts.specs.Subsorts.{Subsorts, AreSorts}
use Rattle.npa_sorts.proofs.LowerLaws.{IsAcyclic}
use Rattle.npa_term.specs.declared.term.Var.{Var as Variable}
use Rattle.npa_term.specs.declared.term.Term.{Term}
use Rattle.npa_term.specs.Composition.{first_past}
use Rattle.npa_unify.specs.declared.error.UnifyFail.{UnifyFail}
use Rattle.npa_unify.specs.declared.error.UnifyFail.TheVariants.{TooMany, TooLarge}
use Rattle.npa_unify.specs.declared.search.State.{State}
use Rattle.npa_unify.specs.Answers.{finished, started, unifiers, same_subst, distinct, distinct_after, first_some, first_large, judged, judged_as}
use Rattle.npa_unify.specs.Branches.{Branch, ends}
use Rattle.npa_unify.specs.Seen.{added, finished_all, raw, seen, solved}
use Rattle.npa_unify.specs.Unifiers.{AreLow, HaveOneSort, IsAnswer, IsComplete}
use Rattle.npa_unify.proofs.Answering.{answered, complete}
use Rattle.npa_unify.proofs.Choosing.{distinct_complete, from_distinct}

abbrev pub past : Option ℕ → ℕ → (ℕ → Result (List (List (Variable × Term))) UnifyFail) → Result (List (List (Variable × Term))) UnifyFail
past (Some n) left go = Err (TooLarge n)
past None zero go = Err TooMany
past None (suc left) go = go left

-- where some are kept, and room is left for so many more branches
abbrev pub judging : ℕ → List (List (Variable × Term)) → List (List (Variable × Term)) → Result (List (List (Variable × Term))) UnifyFail
judging left kept [] = Ok kept
judging left kept (s ∷ ss) = past (first_past 1024 s) left (λ l. judging l (added kept s) ss)

abbrev judged_with : Option ℕ → Bool → List (List (Variable × Term)) → Result (List (List (Variable × Term))) UnifyFail
judged_with (Some n) many ss = Err (TooLarge n)
judged_with None many ss = cond many (Err TooMany) (Ok ss)

one_more : (m n : ℕ) → nat_le (suc m) (suc n) ≡ nat_le m n
one_more m n = grind arith

one_past : (n : ℕ) → nat_le 1 (suc n) ≡ true
one_past n = grind arith

never_past : (n : ℕ) → nat_le (suc n) 0 ≡ false
never_past n = grind arith

distinct_on : (kept : List (List (Variable × Term))) (s : List (Variable × Term)) (ss : List (List (Variable × Term))) → distinct_after (added kept s) ss ≡ distinct_after kept (s ∷ ss)
distinct_on kept s ss =
    elim (list_any (same_subst s) kept) as (λ b. distinct_after (cond b kept (kept ++ s ∷ [])) ss ≡ cond b (distinct_after kept ss) (distinct_after (kept ++ s ∷ []) ss)) [ true ↦ refl | false ↦ refl ]

judging_is : (left : ℕ) (kept ss : List (List (Variable × Term))) →
    judging left kept ss ≡ judged_with (first_some (map (first_past 1024) (take (suc left) ss))) (nat_le (suc left) (length ss)) (distinct_after kept ss)
judging_is left kept [] = ap (λ b. cond b (Err TooMany) (Ok kept)) (sym (never_past left))
judging_is zero kept (s ∷ ss) =
    elim (first_past 1024 s) as (λ o. past o 0 (λ l. judging l (added kept s) ss) ≡ judged_with (first_some (o ∷ [])) (nat_le 1 (suc (length ss))) (distinct_after kept (s ∷ ss))) [
      | Some n ↦ refl
      | None ↦ ap (λ b. cond b (Err TooMany) (Ok (distinct_after kept (s ∷ ss)))) (sym (one_past (length ss)))
    ]
judging_is (suc left) kept (s ∷ ss) =
    elim (first_past 1024 s) as (λ o. past o (suc left) (λ l. judging l (added kept s) ss)
    ≡ judged_with (first_some (o ∷ map (first_past 1024) (take (suc left) ss))) (nat_le (suc (suc left)) (suc (length ss))) (distinct_after kept (s ∷ ss))) [
      | Some n ↦ refl
      | None ↦
          judging_is left (added kept s) ss
          ∙ ap (λ b. judged_with (first_some (map (first_past 1024) (take (suc left) ss))) b (distinct_after (added kept s) ss)) (sym (one_more (suc left) (length ss)))
          ∙ ap (judged_with (first_some (map (first_past 1024) (take (suc left) ss))) (nat_le (suc (suc left)) (suc (length ss)))) (distinct_on kept s ss)
    ]

judged_is : (o : Option ℕ) (ss : List (List (Variable × Term))) → judged_with o (nat_le 4097 (length ss)) (distinct ss) ≡ judged_as o ss
judged_is (Some n) ss = refl
judged_is None ss = refl

pub judging_all : (ss : List (List (Variable × Term))) → judging 4096 [] ss ≡ judged ss
judging_all ss = judging_is 4096 [] ss ∙ judged_is (first_large ss) ss

-- what is answered are the distinct ones
pub judged_distinct : (us ss : List (List (Variable × Term))) → judged us ≡ Ok ss → ss ≡ distinct us
judged_distinct us ss e = distinct_of (first_large us) us ss e
  where
    distinct_of : (o : Option ℕ) (us ss : List (List (Variable × Term))) → judged_as o us ≡ Ok ss → ss ≡ distinct us
    distinct_of (Some n) us ss e = cc
    distinct_of None us ss e =
        elim (nat_le 4097 (length us)) as (λ b. cond b (Err TooMany) (Ok (distinct us)) ≡ Ok ss → ss ≡ distinct us) [ true ↦ λ f. cc | false ↦ λ f. cc ] e

pub judged_large : (left n : ℕ) (kept ss : List (List (Variable × Term))) (s : List (Variable × Term)) → Some n ≡ first_past 1024 s → judging left kept (s ∷ ss) ≡ Err (TooLarge n)
judged_large left n kept ss s e = ap (λ o. past o left (λ l. judging l (added kept s) ss)) (sym e)

pub judged_many : (left : ℕ) (kept ss : List (List (Variable × Term))) (s : List (Variable × Term)) → None ≡ first_past 1024 s → left ≡ 0 → judging left kept (s ∷ ss) ≡ Err TooMany
judged_many left kept ss s e none = ap (λ o. past o left (λ l. judging l (added kept s) ss)) (sym e) ∙ ap (λ k. past None k (λ l. judging l (added kept s) ss)) none

pub judged_next : (left l : ℕ) (kept ss : List (List (Variable × Term))) (s : List (Variable × Term)) → None ≡ first_past 1024 s → left ≡ suc l → judging left kept (s ∷ ss) ≡ judging l (added kept s) ss
judged_next left l kept ss s e some = ap (λ o. past o left (λ l. judging l (added kept s) ss)) (sym e) ∙ ap (λ k. past None k (λ l. judging l (added kept s) ss)) some

-- an end is taken off

pub end_taken : (bs cs : List Branch) (state : State) → bs ≡ seen state ∷ cs → finished_all bs ≡ finished (solved (raw state.bound.items)) ∷ finished_all cs
end_taken bs cs state e = ap finished_all e

pub end_fewer : (bs cs : List Branch) (state : State) → bs ≡ seen state ∷ cs → length cs < length bs
end_fewer bs cs state e = let long : length bs ≡ length (seen state ∷ cs) = ap length e in omega (arith, long)

-- all of the first branch

pub started_all : (o : Subsorts) (ps : List (Term × Term)) (next : ℕ) (ws : List Branch) → ws ≡ started ps next ∷ [] → finished_all (flat_map (ends o) ws) ≡ unifiers o ps next
started_all o ps next ws e = ap (λ l. finished_all (flat_map (ends o) l)) e ∙ ap finished_all (append-nil (ends o (started ps next)))

pub answers_all : (o : Subsorts) (ps : List (Term × Term)) (next : ℕ) (ss : List (List (Variable × Term))) → AreLow ps next → HaveOneSort ps → judged (unifiers o ps next) ≡ Ok ss →
    (s : List (Variable × Term)) → Contains ss s → IsAnswer o ps next s
answers_all o ps next ss low one e s c =
    answered o ps next s low one (from_distinct (unifiers o ps next) s (subst (λ l. Contains l s) (judged_distinct (unifiers o ps next) ss e) c))

pub complete_all : (o : Subsorts) (ps : List (Term × Term)) (next : ℕ) (ss : List (List (Variable × Term))) → AreSorts o → IsAcyclic o → AreLow ps next → judged (unifiers o ps next) ≡ Ok ss →
    IsComplete o ps next ss
complete_all o ps next ss order acyclic low e u unifier =
    let found = complete o ps next order acyclic low u unifier in
    let kept = distinct_complete o ps next u (unifiers o ps next) found.0 found.1 found.2 in
    (kept.0, subst (λ l. Contains l kept.0) (sym (judged_distinct (unifiers o ps next) ss e)) kept.1, kept.2)

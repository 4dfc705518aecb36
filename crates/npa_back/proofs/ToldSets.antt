-- The problem of a message that makes facts known, by the sets of facts that unify with it.
use Rattle.std.proofs.Common.{◌≡◌, ℕ, suc, ◌+◌, ◌<◌, ◌≤◌, Bool, true, false, cond, nat_le, nat_lt, Option, None, Some, Result, Ok, Err, List, [], ◌∷◌, ◌++◌, map, length, drop, drop-cons, get_or, refl, sym, ◌∙◌, ap, subst, arith}
use Rattle.std.specs.List.{flat_map, list_any}
use Rattle.std.proofs.lemmas.List.{append-nil}
use Rattle.fold_core.specs.declared.error.Large.{Large}
use Rattle.fold_core.specs.declared.error.Measure.TheVariants.{Unifiers}
use Rattle.npa_sorts.specs.Subsorts.{Subsorts}
use Rattle.npa_term.specs.declared.term.Term.{Term}
use Rattle.npa_term.specs.declared.term.Var.{Var as Variable}
use Rattle.npa_unify.specs.declared.error.UnifyFail.{UnifyFail}
use Rattle.npa_unify.specs.declared.error.UnifyFail.TheVariants.{NoMemory, TooLarge, TooMany}
use Rattle.npa_unify.specs.Answers.{distinct, distinct_after, first_large, judged_as, same_subst, unifiers}
use Rattle.npa_model.specs.declared.pattern.PStrand.{PStrand}
use Rattle.npa_model.specs.declared.pattern.Pattern.{Pattern}
use Rattle.npa_moves.specs.declared.error.StepFail.{StepFail}
use Rattle.npa_moves.specs.declared.error.StepFail.TheVariants as fail
use Rattle.npa_moves.specs.declared.step.Rule.{Rule}
use Rattle.npa_moves.specs.declared.step.Step.{Step}
use Rattle.npa_moves.specs.Gathering.{Drawn, all_drawn, drawn_by, joined, problem_excess, solved, unifiers_in, unless_large}
use Rattle.npa_moves.specs.Moves.{Move, each_with}
use Rattle.npa_moves.specs.Picks.{Pick, picks}
use Rattle.npa_moves.specs.Steps.{Gives, mapped, solve_over, step_of}
use Rattle.npa_sets.specs.declared.sets.FactSet.{FactSet}
use Rattle.npa_sets.specs.Sets.{Kept, none_kept, sets_of}
use Rattle.npa_sets.specs.Told.{GivesSets, GivesUnifiers}
use Rattle.npa_sets.proofs.Judging.{as_excess, answer_of, drawn_alike, judged_alike, set_of}
use Rattle.npa_drafts.specs.declared.numbering.Numbered.{Numbered}
use Rattle.npa_drafts.specs.Drafts.{results_of}
use Rattle.npa_drafts.proofs.Labelled.{labelled, measured_results}
use Rattle.npa_back.specs.declared.kind.Kind.{Kind}
use Rattle.npa_back.specs.Behind.{and_then, drawn_behind, problem_behind}
use Rattle.npa_back.specs.Told.{GivesTold, GivesUnifiersAt, alone_move, as_fail, drawn, drawn_of, rule_of, step_by, told_move, told_moves}
use Rattle.npa_back.proofs.Following.{drawn_both, goes_on, length_both, none_drawn, stops}

-- ## Unification

-- a definition isn't wanting memory
many_not_memory : ◌≡◌ {A = Result (List (List (Variable × Term))) UnifyFail} (Err TooMany) (Err NoMemory) → ⊥
many_not_memory e = cc

large_not_memory : (n : ℕ) → ◌≡◌ {A = Result (List (List (Variable × Term))) UnifyFail} (Err (TooLarge n)) (Err NoMemory) → ⊥
large_not_memory n e = cc

answer_not_memory : (ss : List (List (Variable × Term))) → ◌≡◌ {A = Result (List (List (Variable × Term))) UnifyFail} (Ok ss) (Err NoMemory) → ⊥
answer_not_memory ss e = cc

never_wanting : (large : Option ℕ) (ss : List (List (Variable × Term))) → judged_as large ss ≡ Err NoMemory → ⊥
never_wanting (Some n) ss e = large_not_memory n e
never_wanting None ss e =
    elim (nat_le 4097 (length ss)) as (λ (b : Bool). cond b (Err TooMany) (Ok (distinct ss)) ≡ Err NoMemory → ⊥) [
      | true ↦ λ f. many_not_memory f
      | false ↦ λ f. answer_not_memory (distinct ss) f
    ] e

pub always : (o : Subsorts) (next : ℕ) (pairs : List (Term × Term)) → solve_over o next pairs ≡ Err NoMemory → ⊥
unfolding solve_over
always o next pairs e = never_wanting (first_large (unifiers o pairs next)) (unifiers o pairs next) e

-- there are few unifiers
few_after : (kept ss : List (List (Variable × Term))) → length (distinct_after kept ss) ≤ length kept + length ss
few_after kept [] = omega arith
few_after kept (s ∷ ss) =
    elim (list_any (same_subst s) kept) as (λ (b : Bool). length (cond b (distinct_after kept ss) (distinct_after (kept ++ s ∷ []) ss)) ≤ length kept + suc (length ss)) [
      | true ↦ let rest = few_after kept ss in omega (arith, rest)
      | false ↦ let rest = few_after (kept ++ s ∷ []) ss in let long = length_both kept (s ∷ []) in omega (arith, rest, long)
    ]

few_as : (large : Option ℕ) (ss us : List (List (Variable × Term))) → judged_as large ss ≡ Ok us → length us ≤ 4096
few_as (Some n) ss us e = let never : ⊥ = cc in absurd never
few_as None ss us e =
    elim (nat_le 4097 (length ss)) as (λ (b : Bool). nat_le 4097 (length ss) ≡ b → cond b (Err TooMany) (Ok (distinct ss)) ≡ Ok us → length us ≤ 4096) [
      | true ↦ λ t f. let never : ⊥ = cc in absurd never
      | false ↦ λ t f.
          let is : distinct ss ≡ us = cc in
          let few : length (distinct ss) ≤ 0 + length ss = few_after [] ss in
          let small : length ss < 4097 = grind (arith, t) in
          let same : length us ≡ length (distinct ss) = ap length (sym is) in
          omega (arith, few, small, same)
    ] refl e

pub few_unifiers : (o : Subsorts) (next : ℕ) (pairs : List (Term × Term)) (us : List (List (Variable × Term))) → solve_over o next pairs ≡ Ok us → length us ≤ 4096
unfolding solve_over
few_unifiers o next pairs us e = few_as (first_large (unifiers o pairs next)) (unifiers o pairs next) us e

pub ok_unifiers : (r x : Result (List (List (Variable × Term))) UnifyFail) (ss : List (List (Variable × Term))) → r ≡ Ok ss → GivesUnifiers r x → x ≡ Ok ss
ok_unifiers r x ss is given = subst (λ q. GivesUnifiers q x) is given

pub err_unifiers : (r x : Result (List (List (Variable × Term))) UnifyFail) (e : UnifyFail) (at : ℕ) (f : StepFail) → r ≡ Err e → f ≡ as_fail e at → GivesUnifiers r x → GivesUnifiersAt (Err f) at x
err_unifiers r x e at f is fails given = subst (λ g. GivesUnifiersAt (Err g) at x) (sym fails) (by_fail e (subst (λ q. GivesUnifiers q x) is given))
  where
    by_fail : (e : UnifyFail) → GivesUnifiers (Err e) x → GivesUnifiersAt (Err (as_fail e at)) at x
    by_fail TooMany g = (TooMany, g, refl)
    by_fail (TooLarge n) g = (TooLarge n, g, refl)
    by_fail NoMemory g = tt

pub told_by : (r : Result (List FactSet) UnifyFail) (x : Result Kept UnifyFail) (e : UnifyFail) (at : ℕ) (f : StepFail) → r ≡ Err e → f ≡ as_fail e at → GivesSets r x → GivesTold (Err f) at x
told_by r x e at f is fails given = subst (λ g. GivesTold (Err g) at x) (sym fails) (by_fail e (subst (λ q. GivesSets q x) is given))
  where
    by_fail : (e : UnifyFail) → GivesSets (Err e) x → GivesTold (Err (as_fail e at)) at x
    by_fail TooMany g = (TooMany, g, refl)
    by_fail (TooLarge n) g = (TooLarge n, g, refl)
    by_fail NoMemory g = tt

-- ## Problems

-- A problem of one excess.
pub stopped_by : (solve : ℕ → List (Term × Term) → Result (List (List (Variable × Term))) UnifyFail) (vs : List Variable) (made : List Step) (moves : List (Move Rule)) (e : UnifyFail) →
    problem_excess 0 (map (solved solve) moves) ≡ as_excess e → Gives {A = List Step} (Err (as_fail e (length made))) (problem_behind solve vs made moves)
stopped_by solve vs made moves TooMany e = ap (λ o. unless_large (length made) o (drawn_behind vs made (all_drawn solve vs moves))) e
stopped_by solve vs made moves (TooLarge n) e = ap (λ o. unless_large (length made) o (drawn_behind vs made (all_drawn solve vs moves))) e
stopped_by solve vs made moves NoMemory e = tt

pub goes_through : (solve : ℕ → List (Term × Term) → Result (List (List (Variable × Term))) UnifyFail) (vs : List Variable) (made : List Step) (moves : List (Move Rule)) (ds : List (Drawn Rule)) →
    problem_excess 0 (map (solved solve) moves) ≡ None → all_drawn solve vs moves ≡ ds → problem_behind solve vs made moves ≡ drawn_behind vs made ds
goes_through solve vs made moves ds fits is =
    ap (λ o. unless_large (length made) o (drawn_behind vs made (all_drawn solve vs moves))) fits ∙ ap (drawn_behind vs made) is

-- the move from which nothing gets known
pub alone_goes : (o : Subsorts) (vs : List Variable) (made : List Step) (k : Kind) (from : Pattern) (next : ℕ) (us : List (List (Variable × Term))) → solve_over o next [] ≡ Ok us →
    problem_behind (solve_over o) vs made (alone_move k from next ∷ []) ≡ drawn_behind vs made (drawn (rule_of k []) vs from [] us)
alone_goes o vs made k from next us is =
    let few : length us ≤ 4096 = few_unifiers o next [] us is in
    let fits : nat_lt 4096 (0 + length us) ≡ false = grind (arith, few) in
    goes_through (solve_over o) vs made (alone_move k from next ∷ []) (drawn (rule_of k []) vs from [] us)
    (ap (λ r. problem_excess 0 (r ∷ [])) is ∙ ap (λ b. cond b (Some (Unifiers, 4097)) (problem_excess (0 + length us) [])) fits)
    (append-nil (drawn_by (solve_over o) vs (alone_move k from next)) ∙ ap (λ r. drawn (rule_of k []) vs from [] (unifiers_in r)) is)

pub alone_stops : (o : Subsorts) (vs : List Variable) (made : List Step) (k : Kind) (from : Pattern) (next : ℕ) (e : StepFail) → GivesUnifiersAt (Err e) (length made) (solve_over o next []) →
    Gives {A = List Step} (Err e) (problem_behind (solve_over o) vs made (alone_move k from next ∷ []))
alone_stops o vs made k from next (fail.Large n measure value) by_ =
    subst (λ x. Gives {A = List Step} (Err x) (problem_behind (solve_over o) vs made (alone_move k from next ∷ []))) by_.2
    (stopped_by (solve_over o) vs made (alone_move k from next ∷ []) by_.0 (ap (λ r. problem_excess 0 (r ∷ [])) by_.1 ∙ one_excess by_.0))
  where
    one_excess : (f : UnifyFail) → problem_excess 0 (Err f ∷ []) ≡ as_excess f
    one_excess TooMany = refl
    one_excess (TooLarge n) = refl
    one_excess NoMemory = refl
alone_stops o vs made k from next fail.NoMemory by_ = tt

module _ (o : Subsorts) (vs : List Variable) (k : Kind) (before : Pattern) (m : Term) (g : Pattern) (next : ℕ) where
  told : Pick → Move Rule
  told pick = told_move k before m g.unknown next pick

  answers_are : (ps : List Pick) → map (solved (solve_over o)) (map (told_move k before m g.unknown next) ps) ≡ map (λ pick. solve_over o next (each_with m pick.taken)) ps
  answers_are [] = refl
  answers_are (p ∷ ps) = ap (λ rs. solve_over o next (each_with m p.taken) ∷ rs) (answers_are ps)

  draws : List Pick → List (Drawn Rule)
  draws ps = flat_map (λ pick. drawn_of k vs before m g.unknown (set_of pick (unifiers_in (solve_over o next (each_with m pick.taken))))) ps

  drawn_are : (ps : List Pick) → all_drawn (solve_over o) vs (map (told_move k before m g.unknown next) ps)
      ≡ flat_map (λ pick. drawn_of k vs before m g.unknown (set_of pick (unifiers_in (solve_over o next (each_with m pick.taken))))) ps
  drawn_are [] = refl
  drawn_are (p ∷ ps) = ap (λ ds. drawn_of k vs before m g.unknown (set_of p (unifiers_in (solve_over o next (each_with m p.taken)))) ++ ds) (drawn_are ps)

  excess_is : problem_excess 0 (map (solved (solve_over o)) (told_moves k before m g next)) ≡ answer_of (sets_of o next m g.known)
  excess_is =
      ap (problem_excess 0) (answers_are (picks g.known))
      ∙ judged_alike o next m (λ pick e. always o next (each_with m pick.taken) e) (picks g.known) none_kept (omega arith)

  pub sets_found : (made : List Step) (sets : List FactSet) → GivesTold (Ok sets) (length made) (sets_of o next m g.known) →
      problem_behind (solve_over o) vs made (told_moves k before m g next) ≡ drawn_behind vs made (flat_map (drawn_of k vs before m g.unknown) sets)
  sets_found made sets kept =
      goes_through (solve_over o) vs made (told_moves k before m g next) (flat_map (drawn_of k vs before m g.unknown) sets)
      (excess_is ∙ ap answer_of kept.is)
      (drawn_are (picks g.known)
      ∙ sym (drawn_alike o next m (drawn_of k vs before m g.unknown) (λ pick. refl) (picks g.known) none_kept kept.kept kept.is)
      ∙ ap (flat_map (drawn_of k vs before m g.unknown)) kept.same)

  pub no_sets : (made : List Step) (sets : List FactSet) → GivesTold (Ok sets) (length made) (sets_of o next m g.known) → sets ≡ [] →
      problem_behind (solve_over o) vs made (told_moves k before m g next) ≡ Ok made
  no_sets made sets kept none =
      sets_found made sets kept ∙ ap (λ ss. drawn_behind vs made (flat_map (drawn_of k vs before m g.unknown) ss)) none ∙ none_drawn vs made

  pub sets_stop : (made : List Step) (e : StepFail) → GivesTold (Err e) (length made) (sets_of o next m g.known) →
      Gives {A = List Step} (Err e) (problem_behind (solve_over o) vs made (told_moves k before m g next))
  sets_stop made (fail.Large n measure value) by_ =
      subst (λ x. Gives {A = List Step} (Err x) (problem_behind (solve_over o) vs made (told_moves k before m g next))) by_.2
      (stopped_by (solve_over o) vs made (told_moves k before m g next) by_.0 (excess_is ∙ ap answer_of by_.1))
  sets_stop made fail.NoMemory by_ = tt

-- ## Results

module _ (label : Rule) (vs : List Variable) (from : Pattern) (apart : List (Term × Term)) where
  two_maps : (xs : List Numbered) → map step_of (map (labelled label vs from apart) xs) ≡ map (step_by label) xs
  two_maps [] = refl
  two_maps (x ∷ xs) = ap (λ ys. step_by label x ∷ ys) (two_maps xs)

  relabelled : (r : Result (List Numbered) Large) → mapped step_of (mapped (labelled label vs from apart) r) ≡ mapped (step_by label) r
  relabelled (Ok xs) = ap Ok (two_maps xs)
  relabelled (Err e) = refl

  by_results : (made : List Step) (ss : List (List (Variable × Term))) → drawn_behind vs made (drawn label vs from apart ss) ≡ joined made (mapped (step_by label) (results_of vs from apart (length made) ss))
  by_results made ss =
      ap (λ r. joined made (mapped step_of r)) (measured_results label vs from apart (length made) ss)
      ∙ ap (joined made) (relabelled (results_of vs from apart (length made) ss))

  pub results_go : (made all : List Step) (ss : List (List (Variable × Term))) (xs : List Numbered) → results_of vs from apart (length made) ss ≡ Ok xs → all ≡ made ++ map (step_by label) xs →
      drawn_behind vs made (drawn label vs from apart ss) ≡ Ok all
  results_go made all ss xs found is = by_results made ss ∙ ap (λ r. joined made (mapped (step_by label) r)) found ∙ ap Ok (sym is)

  pub results_stop : (made : List Step) (ss : List (List (Variable × Term))) (e : StepFail) → Gives {A = List Numbered} (Err e) (results_of vs from apart (length made) ss) →
      Gives {A = List Step} (Err e) (drawn_behind vs made (drawn label vs from apart ss))
  results_stop made ss (fail.Large k measure value) given = by_results made ss ∙ ap (λ r. joined made (mapped (step_by label) r)) given
  results_stop made ss fail.NoMemory given = tt

-- ## Sets

drawn_same : (k : Kind) (vs : List Variable) (g h : Pattern) (m : Term) (unknown : List Term) (set : FactSet) → g.strands ≡ h.strands → g.unknown ≡ h.unknown →
    drawn_of k vs g m unknown set ≡ drawn_of k vs h m unknown set
drawn_same k vs g h m unknown set strands others =
    ap (λ (ps : List PStrand). drawn (rule_of k set.places) vs (record { strands = ps; known = set.left; unknown = g.unknown }) (each_with m unknown) set.unifiers) strands
    ∙ ap (λ (ts : List Term). drawn (rule_of k set.places) vs (record { strands = h.strands; known = set.left; unknown = ts }) (each_with m unknown) set.unifiers) others

set_first : (sets : List FactSet) (i : ℕ) (set : FactSet) → i < length sets → set ≡ get_or sets i set → drop i sets ≡ set ∷ drop (i + 1) sets
set_first sets i set within is =
    drop-cons sets i set within ∙ ap (λ y. y ∷ drop (suc i) sets) (sym is) ∙ ap (λ n. set ∷ drop n sets) (let n : suc i ≡ i + 1 = omega arith in n)

module _ (k : Kind) (vs : List Variable) (before : Pattern) (m : Term) (unknown : List Term) (sets : List FactSet) (whole : Result (List Step) Large) where
  at_set : (made : List Step) (i : ℕ) (set : FactSet) (now : Pattern) → i < length sets → set ≡ get_or sets i set → now.strands ≡ before.strands → now.unknown ≡ before.unknown →
      drawn_behind vs made (flat_map (drawn_of k vs before m unknown) (drop i sets))
      ≡ and_then (drawn_behind vs made (drawn_of k vs now m unknown set)) (λ n. drawn_behind vs n (flat_map (drawn_of k vs before m unknown) (drop (i + 1) sets)))
  at_set made i set now within is strands others =
      ap (λ ss. drawn_behind vs made (flat_map (drawn_of k vs before m unknown) ss)) (set_first sets i set within is)
      ∙ drawn_both vs made (drawn_of k vs before m unknown set) (flat_map (drawn_of k vs before m unknown) (drop (i + 1) sets))
      ∙ ap (λ ds. and_then (drawn_behind vs made ds) (λ n. drawn_behind vs n (flat_map (drawn_of k vs before m unknown) (drop (i + 1) sets)))) (sym (drawn_same k vs now before m unknown set strands others))

  pub next_set : (made more : List Step) (i : ℕ) (set : FactSet) (now : Pattern) → i < length sets → set ≡ get_or sets i set → now.strands ≡ before.strands → now.unknown ≡ before.unknown →
      drawn_behind vs made (flat_map (drawn_of k vs before m unknown) (drop i sets)) ≡ whole → drawn_behind vs made (drawn_of k vs now m unknown set) ≡ Ok more →
      drawn_behind vs more (flat_map (drawn_of k vs before m unknown) (drop (i + 1) sets)) ≡ whole
  next_set made more i set now within is strands others so one =
      goes_on more (drawn_behind vs made (drawn_of k vs now m unknown set)) whole (λ n. drawn_behind vs n (flat_map (drawn_of k vs before m unknown) (drop (i + 1) sets))) one
      (sym (at_set made i set now within is strands others) ∙ so)

  pub set_stops : (made : List Step) (i : ℕ) (set : FactSet) (now : Pattern) (e : StepFail) → i < length sets → set ≡ get_or sets i set → now.strands ≡ before.strands → now.unknown ≡ before.unknown →
      drawn_behind vs made (flat_map (drawn_of k vs before m unknown) (drop i sets)) ≡ whole → Gives {A = List Step} (Err e) (drawn_behind vs made (drawn_of k vs now m unknown set)) → Gives {A = List Step} (Err e) whole
  set_stops made i set now e within is strands others so one =
      subst (Gives {A = List Step} (Err e)) (sym (at_set made i set now within is strands others) ∙ so)
      (stops e (drawn_behind vs made (drawn_of k vs now m unknown set)) (λ n. drawn_behind vs n (flat_map (drawn_of k vs before m unknown) (drop (i + 1) sets))) one)

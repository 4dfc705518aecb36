-- Each step by any substitution is an instance of a step of the list.
use Rattle.std.proofs.Common.{◌≡◌, Result, Ok, Err, List, map, Contains, refl, sym, subst}
use Rattle.fold_core.specs.declared.error.Large.{Large}
use Rattle.npa_sorts.specs.Subsorts.{Subsorts, IsAtOrBelow}
use Rattle.npa_term.specs.declared.term.Term.{Term}
use Rattle.npa_term.specs.declared.term.Var.{Var as Variable}
use Rattle.npa_term.specs.Bound.{applied}
use Rattle.npa_term.specs.Parts.{image, least_sort}
use Rattle.npa_term.specs.Same.{Same}
use Rattle.npa_sig.specs.declared.protocol.Strand.{Strand}
use Rattle.npa_variants.specs.declared.variant.Variant.{Variant}
use Rattle.npa_variants.proofs.Members.{mapped_member}
use Rattle.npa_model.specs.declared.pattern.Pattern.{Pattern}
use Rattle.npa_model.specs.Patterns.{Occurs}
use Rattle.npa_model.proofs.Places.{member_at}
use Rattle.npa_moves.specs.declared.step.Rule.{Rule}
use Rattle.npa_moves.specs.declared.step.Step.{Step}
use Rattle.npa_moves.specs.Finishing.{Found}
use Rattle.npa_moves.specs.Gathering.{Solve, gathered}
use Rattle.npa_moves.specs.Leading.{IsAmong, IsStepBy, receives, sends, learns, introduces}
use Rattle.npa_moves.specs.Lists.{step_problems}
use Rattle.npa_moves.specs.Moves.{Move, introduce_move, learn_move, receive_move, send_move}
use Rattle.npa_moves.specs.Solving.{AreOneSorted, IsOneSorted, Solves}
use Rattle.npa_moves.specs.Steps.{mapped, pattern_once, step_of, steps_of}
use Rattle.npa_moves.proofs.Gathered.{gathered_has}
use Rattle.npa_moves.proofs.Introducing.{introduce_makes}
use Rattle.npa_moves.proofs.Moved.{Makes, found_instance}
use Rattle.npa_moves.proofs.OtherSteps.{both, image_old}
use Rattle.npa_moves.proofs.OwnMoves.{occurs_once}
use Rattle.npa_moves.proofs.OwnSteps.{learn_makes, receive_makes, send_makes}
use Rattle.npa_moves.proofs.Problems.{IsListed, introduce_listed, learn_listed, receive_listed, send_listed}

same_answer : {A : Type 0} {x y : A} → ◌≡◌ {A = Result A Large} (Ok x) (Ok y) → x ≡ y
same_answer e = cc

refused : {A : Type 0} {x : A} {large : Large} → ◌≡◌ {A = Result A Large} (Err large) (Ok x) → ⊥
refused e = cc

pub mapped_ok : {A B : Type 0} (f : A → B) (r : Result (List A) Large) (ys : List B) → mapped f r ≡ Ok ys → (xs : List A) × (r ≡ Ok xs) × (ys ≡ map f xs)
mapped_ok f (Ok xs) ys e = (xs, refl, sym (same_answer e))
mapped_ok f (Err large) ys e = absurd (refused e)

module _ (o : Subsorts) (strands : List Strand) (solve : Solve) (variants : Strand → List Variant) (solves : Solves o solve) (sorted : AreOneSorted strands variants)
    (a : List (Variable × Term)) (g q : Pattern) (one : IsOneSorted g) (sorts : (v : Variable) → Occurs v g → IsAtOrBelow o (least_sort (image a v)) v.sort)
    (list : List Step) (is : steps_of strands solve variants g ≡ Ok list) where
  answer : (fs : List (Found Rule)) × (gathered solve (pattern_once g) 0 (step_problems strands variants g) ≡ Ok fs) × (list ≡ map step_of fs)
  unfolding steps_of
  answer = mapped_ok step_of (gathered solve (pattern_once g) 0 (step_problems strands variants g)) list is

  from_move : (m : Move Rule) (σ : List (Variable × Term)) → IsListed strands variants g m → Makes o m (pattern_once g) σ q → ((v : Variable) → Occurs v g → image σ v ≡ image a v) → IsAmong o list a g q
  from_move m σ listed makes same =
      let all = gathered_has solve (pattern_once g) solves.always 0 (step_problems strands variants g) answer.0 listed.problem m answer.1 listed.listed listed.member in
      let found = found_instance o solve solves m (pattern_once g) σ q answer.0 makes all in
      record {
        step = step_of found.0;
        there = subst (λ (steps : List Step). Contains steps (step_of found.0)) (sym answer.2) (mapped_member step_of answer.0 found.0 found.1);
        by_ = found.2.by_;
        places = found.2.places;
        covers = found.2.covers;
        agrees = λ v occurs. subst (λ (t : Term). Same (applied found.2.by_ (image found.0.unifier v)) t) (same v occurs) (found.2.agrees v (occurs_once g v occurs));
      }

  pub steps_complete : IsStepBy strands variants o a g q → IsAmong o list a g q
  steps_complete (receives k p bar event m last gets none alike) =
      from_move (receive_move g k p) a (receive_listed strands variants g k p bar event m last gets none) (receive_makes o a g q one sorts strands k p bar event m last alike) (λ v occurs. refl)
  steps_complete (sends k p bar event m none last gives alike) =
      from_move (send_move g k p) a (send_listed strands variants g k p bar event m none last gives) (send_makes o a g q one sorts strands k p bar event m last alike) (λ v occurs. refl)
  steps_complete (learns k p bar event m pick none last gives makes alike) =
      from_move (learn_move g k p pick) a (learn_listed strands variants g k p bar event m pick none last gives makes.picked) (learn_makes o a g q one sorts strands k p bar event m last pick makes alike) (λ v occurs. refl)
  steps_complete (introduces s strand n v e b m pick none introduced makes alike) =
      from_move (introduce_move g s strand n v e pick) (both o a b g v)
      (introduce_listed strands variants g s strand n v e introduced.event pick none introduced.there introduced.listed introduced.executed introduced.sent makes.picked)
      (introduce_makes o a g q one sorts strands variants s strand n v e b m introduced (sorted s strand v introduced.there (member_at (variants strand) n v introduced.listed)) pick makes alike)
      (λ x occurs. image_old o a b g v x occurs)

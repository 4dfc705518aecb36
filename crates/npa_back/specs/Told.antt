-- Moves by which a message makes facts known, of which the earlier pattern is built but for its known
-- facts, and what the functions of the search answer of them.
use Rattle.std.specs.Prelude.{◌≡◌, ⊤, ℕ, ◌+◌, ◌≤◌, ◌^◌, Option, None, Some, Result, Ok, Err, List, [], map, slice_get}
use Rattle.std.specs.List.{filter, flat_map}
use Rattle.fold_core.specs.declared.error.Measure.TheVariants.{Symbols, Unifiers}
use Rattle.npa_term.specs.declared.term.Term.{Term}
use Rattle.npa_term.specs.declared.term.Var.{Var as Variable}
use Rattle.npa_term.specs.Variables.{variables}
use Rattle.npa_sig.specs.declared.protocol.Strand.{Strand}
use Rattle.npa_unify.specs.declared.error.UnifyFail.{UnifyFail}
use Rattle.npa_unify.specs.declared.error.UnifyFail.TheVariants as unify_fail
use Rattle.npa_variants.specs.Search.{past}
use Rattle.npa_variants.specs.Told.{AreDistinct}
use Rattle.npa_model.specs.declared.pattern.PStrand.{PStrand}
use Rattle.npa_model.specs.declared.pattern.Pattern.{Pattern}
use Rattle.npa_moves.specs.declared.error.StepFail.{StepFail}
use Rattle.npa_moves.specs.declared.error.StepFail.TheVariants as fail
use Rattle.npa_moves.specs.declared.step.Rule.{Rule}
use Rattle.npa_moves.specs.declared.step.Rule.TheVariants as rule
use Rattle.npa_moves.specs.declared.step.Step.{Step}
use Rattle.npa_moves.specs.Finishing.{draft_of, keeps_apart}
use Rattle.npa_moves.specs.Gathering.{Drawn}
use Rattle.npa_moves.specs.Lists.{first_receive}
use Rattle.npa_moves.specs.Moves.{Move, each_with, past_pattern, past_variant, receive_move}
use Rattle.npa_moves.specs.Picks.{Pick, picks}
use Rattle.npa_moves.specs.Steps.{pattern_once}
use Rattle.npa_sets.specs.declared.sets.FactSet.{FactSet}
use Rattle.npa_sets.specs.Sets.{Kept}
use Rattle.npa_sets.specs.Told.{AreKept}
use Rattle.npa_drafts.specs.declared.numbering.Numbered.{Numbered}
use Rattle.npa_back.specs.declared.context.Narrowing.{Narrowing}
use Rattle.npa_back.specs.declared.introducing.Introduced.{Introduced}
use Rattle.npa_back.specs.declared.kind.Kind.{Kind}
use Rattle.npa_back.specs.declared.kind.Kind.TheVariants as kind

-- The rule of a step of a kind, by which the facts at these places get known.
abbrev pub rule_of : Kind → List ℕ → Rule
rule_of (kind.Receive k) places = rule.Receive k
rule_of (kind.Send k) places = rule.Send k
rule_of (kind.Learn k) places = rule.Learn k places
rule_of (kind.Introduce s n e) places = rule.Introduce s n e places

-- A pattern with these known facts.
abbrev pub knowing : Pattern → List Term → Pattern
knowing g known = record { strands = g.strands; known = known; unknown = g.unknown }

-- The move of a kind that leads to a pattern, from which nothing gets known.
abbrev pub alone_move : Kind → Pattern → ℕ → Move Rule
alone_move k from next = record { label = rule_of k []; from = from; pairs = []; apart = []; next = next }

-- The move of a kind by which a message makes the facts of a pick known, and isn't equal to an unknown
-- one.
abbrev pub told_move : Kind → Pattern → Term → List Term → ℕ → Pick → Move Rule
told_move k before m unknown next pick = record {
  label = rule_of k pick.places;
  from = knowing before pick.left;
  pairs = each_with m pick.taken;
  apart = each_with m unknown;
  next = next;
}

-- The moves of all picks.
abbrev pub told_moves : Kind → Pattern → Term → Pattern → ℕ → List (Move Rule)
told_moves k before m g next = map (told_move k before m g.unknown next) (picks g.known)

-- What is drawn by unifiers that aren't left out.
abbrev pub drawn : Rule → List Variable → Pattern → List (Term × Term) → List (List (Variable × Term)) → List (Drawn Rule)
drawn label vs from apart ss = map (λ s. record { label = label; draft = draft_of vs from s }) (filter (keeps_apart apart) ss)

-- What is drawn of a set of facts.
abbrev pub drawn_of : Kind → List Variable → Pattern → Term → List Term → FactSet → List (Drawn Rule)
drawn_of k vs before m unknown set = drawn (rule_of k set.places) vs (knowing before set.left) (each_with m unknown) set.unifiers

-- A pattern whose steps are looked for, with each of its variables once and a number past theirs.
pub record IsAsked (n : Narrowing) : Type 0 where
  pub vars : n.vars.now ≡ pattern_once n.pattern.now
  pub once : AreDistinct n.vars.now
  pub next : n.next ≡ past_pattern n.pattern.now

-- A variant whose variables leave room for raising, and a number past theirs and the pattern's.
pub record IsRaised (n : Narrowing) (by_ : Introduced) : Type 0 where
  pub few : past (flat_map variables by_.values.now.terms) ≤ 2 ^ 30
  pub room : n.next ≤ 2 ^ 30
  pub next : by_.next ≡ n.next + past_variant by_.values.now

-- The first strand that received last, of these, if there is one.
abbrev pub IsFirstReceive : List Strand → Pattern → List PStrand → Option ℕ → Type 0
IsFirstReceive strands g ps None = first_receive strands g 0 ps ≡ None
IsFirstReceive strands g ps (Some k) = (p : PStrand) × (slice_get ps k ≡ Some p) × (first_receive strands g 0 ps ≡ Some (receive_move g k p))

-- What stops a search, as what is too large in a problem.
abbrev pub as_fail : UnifyFail → ℕ → StepFail
as_fail unify_fail.TooMany at = fail.Large at Unifiers 4097
as_fail (unify_fail.TooLarge n) at = fail.Large at Symbols n
as_fail unify_fail.NoMemory at = fail.NoMemory

-- An answer of the search for sets; `at` is the number that the first result would have.
abbrev pub GivesTold : Result (List FactSet) StepFail → ℕ → Result Kept UnifyFail → Type 0
GivesTold (Ok sets) at r = AreKept sets r
GivesTold (Err (fail.Large k measure value)) at r = (e : UnifyFail) × (r ≡ Err e) × (as_fail e at ≡ fail.Large k measure value)
GivesTold (Err fail.NoMemory) at r = ⊤

-- A result as a step of a rule.
abbrev pub step_by : Rule → Numbered → Step
step_by rule n = record { rule = rule; unifier = n.unifier; pattern = n.pattern }

-- An answer of unification; `at` is the number that the first result would have.
abbrev pub GivesUnifiersAt : Result (List (List (Variable × Term))) StepFail → ℕ → Result (List (List (Variable × Term))) UnifyFail → Type 0
GivesUnifiersAt (Ok ss) at r = r ≡ Ok ss
GivesUnifiersAt (Err (fail.Large k measure value)) at r = (e : UnifyFail) × (r ≡ Err e) × (as_fail e at ≡ fail.Large k measure value)
GivesUnifiersAt (Err fail.NoMemory) at r = ⊤

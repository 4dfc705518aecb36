-- Backward steps by any substitutions, whatever a search for unifiers finds (Escobar, Meadows, Meseguer
-- 2009, on the rules that are run backwards).
use Rattle.std.specs.Prelude.{◌≡◌, ℕ, ◌+◌, true, false, List, [], ◌∷◌, ◌++◌, Some, Contains, length, map, slice_get, slice_set, take}
use Rattle.std.specs.List.{flat_map}
use Rattle.npa_sorts.specs.Subsorts.{Subsorts, IsAtOrBelow}
use Rattle.npa_term.specs.declared.term.Term.{Term}
use Rattle.npa_term.specs.declared.term.Var.{Var as Variable}
use Rattle.npa_term.specs.Bound.{applied}
use Rattle.npa_term.specs.Parts.{image, least_sort}
use Rattle.npa_term.specs.Same.{Same}
use Rattle.npa_term.specs.Variables.{variables}
use Rattle.npa_sig.specs.declared.protocol.Event.{Event}
use Rattle.npa_sig.specs.declared.protocol.Strand.{Strand}
use Rattle.npa_variants.specs.declared.variant.Variant.{Variant}
use Rattle.npa_variants.specs.StrandVariants.{args_of, messages_of}
use Rattle.npa_model.specs.declared.pattern.PStrand.{PStrand}
use Rattle.npa_model.specs.declared.pattern.Pattern.{Pattern}
use Rattle.npa_model.specs.Backward.{NoReceive, received, set_back}
use Rattle.npa_model.specs.Covering.{AreAlike, HasSame, IsCover}
use Rattle.npa_model.specs.Patterns.{events_at, map_pattern, Occurs}
use Rattle.npa_moves.specs.declared.step.Step.{Step}
use Rattle.npa_moves.specs.Picks.{Pick, picks}

-- Two patterns say the same, up to the order of commutative arguments: they have the same strands at the
-- same places, and as sets the same facts.
pub record Alike (g h : Pattern) : Type 0 where
  pub as_many : length g.strands ≡ length h.strands
  pub strands : (k : ℕ) (p q : PStrand) → slice_get g.strands k ≡ Some p → slice_get h.strands k ≡ Some q → AreAlike p q
  pub known : (t : Term) → Contains g.known t → HasSame h.known t
  pub known_back : (t : Term) → Contains h.known t → HasSame g.known t
  pub unknown : (t : Term) → Contains g.unknown t → HasSame h.unknown t
  pub unknown_back : (t : Term) → Contains h.unknown t → HasSame g.unknown t

-- The pattern with its first strands alone.
abbrev pub before : ℕ → Pattern → Pattern
before k g = record { strands = take k g.strands; known = g.known; unknown = g.unknown }

-- The event that strand `k` of a pattern executed last, and its message.
pub record Last (strands : List Strand) (g : Pattern) (k : ℕ) (p : PStrand) (bar : ℕ) (event : Event) (m : Term) : Type 0 where
  pub there : slice_get g.strands k ≡ Some p
  pub behind : p.bar ≡ bar + 1
  pub executed : slice_get (events_at strands p.strand) bar ≡ Some event
  pub message : slice_get p.msgs bar ≡ Some m

-- The pattern before strand `k` sent its last message.
abbrev pub unsent : ℕ → PStrand → ℕ → Pattern → Pattern
unsent k p bar g = record { strands = slice_set g.strands k (set_back p bar); known = g.known; unknown = g.unknown }

-- The same where the message isn't known yet, and these facts alone are.
abbrev pub unlearnt : ℕ → PStrand → ℕ → Term → List Term → Pattern → Pattern
unlearnt k p bar m left g = record { strands = slice_set g.strands k (set_back p bar); known = left; unknown = g.unknown ++ m ∷ [] }

-- A substitution makes each fact of a pick the message, as the second has it, and no unknown fact.
pub record Makes (a : List (Variable × Term)) (m : Term) (pick : Pick) (g : Pattern) : Type 0 where
  pub picked : Contains (picks g.known) pick
  pub equal : (t : Term) → Contains pick.taken t → Same (applied a t) m
  pub apart : (t : Term) → Contains g.unknown t → Same (applied a t) m → ⊥

-- The strand of number `s` before its event `e`, by a variant under a substitution.
abbrev pub strand_under : List (Variable × Term) → ℕ → Strand → Variant → ℕ → PStrand
strand_under b s strand v e = record {
  strand = s;
  bar = e;
  args = map (applied b) (args_of strand v);
  msgs = map (applied b) (take e (messages_of strand v));
}

-- A pattern with one strand more at the end, and one more unknown fact.
abbrev pub joined_by : PStrand → Term → Pattern → Pattern
joined_by p m g = record { strands = g.strands ++ p ∷ []; known = g.known; unknown = g.unknown ++ m ∷ [] }

-- The pattern with these known facts.
abbrev pub knowing : List Term → Pattern → Pattern
knowing left g = record { strands = g.strands; known = left; unknown = g.unknown }

-- A substitution has for these variables terms of sorts at or below theirs.
abbrev pub FitsVariables : Subsorts → List Variable → List (Variable × Term) → Type 0
FitsVariables o vs s = (v : Variable) → Contains vs v → IsAtOrBelow o (least_sort (image s v)) v.sort

-- So it is with the variables of a pattern.
abbrev pub FitsPattern : Subsorts → Pattern → List (Variable × Term) → Type 0
FitsPattern o g s = (v : Variable) → Occurs v g → IsAtOrBelow o (least_sort (image s v)) v.sort

-- An event of a strand by a variant, which is sent, and its message under a substitution that respects
-- the sorts of the variant's variables.
pub record Introduced (strands : List Strand) (variants : Strand → List Variant) (o : Subsorts) (s : ℕ) (strand : Strand) (n : ℕ) (v : Variant) (e : ℕ) (b : List (Variable × Term)) (m : Term) : Type 0 where
  pub there : slice_get strands s ≡ Some strand
  pub listed : slice_get (variants strand) n ≡ Some v
  pub event : Event
  pub executed : slice_get strand.events e ≡ Some event
  pub sent : event.sent ≡ true
  pub message : slice_get (messages_of strand v) e ≡ Some m
  pub sorts : FitsVariables o (flat_map variables v.terms) b

-- A step from pattern g under substitution a to pattern q. Where a strand received last, the first such
-- receive is undone. Where none did: a strand hasn't sent its last message yet, and nothing was learnt
-- from it or some facts were, which it makes known; or so it is with a further instance, by a variant under
-- a substitution of its own.
pub data IsStepBy (strands : List Strand) (variants : Strand → List Variant) (o : Subsorts) (a : List (Variable × Term)) (g q : Pattern) : Type 0 where
  receives : (k : ℕ) (p : PStrand) (bar : ℕ) (event : Event) (m : Term) →
      Last strands g k p bar event m → event.sent ≡ false → NoReceive strands (before k g) →
      Alike (map_pattern (applied a) (received k p bar m g)) q → IsStepBy strands variants o a g q
  sends : (k : ℕ) (p : PStrand) (bar : ℕ) (event : Event) (m : Term) →
      NoReceive strands g → Last strands g k p bar event m → event.sent ≡ true →
      Alike (map_pattern (applied a) (unsent k p bar g)) q → IsStepBy strands variants o a g q
  learns : (k : ℕ) (p : PStrand) (bar : ℕ) (event : Event) (m : Term) (pick : Pick) →
      NoReceive strands g → Last strands g k p bar event m → event.sent ≡ true →
      Makes a (applied a m) pick g →
      Alike (map_pattern (applied a) (unlearnt k p bar m pick.left g)) q → IsStepBy strands variants o a g q
  introduces : (s : ℕ) (strand : Strand) (n : ℕ) (v : Variant) (e : ℕ) (b : List (Variable × Term)) (m : Term) (pick : Pick) →
      NoReceive strands g → Introduced strands variants o s strand n v e b m →
      Makes a (applied b m) pick g →
      Alike (joined_by (strand_under b s strand v e) (applied b m) (map_pattern (applied a) (knowing pick.left g))) q →
      IsStepBy strands variants o a g q

-- A pattern that a step leads to is an instance of one that a step of the list leads to, and the step's
-- unifier agrees with the substitution.
pub record IsAmong (o : Subsorts) (list : List Step) (a : List (Variable × Term)) (g q : Pattern) : Type 0 where
  pub step : Step
  pub there : Contains list step
  pub by_ : List (Variable × Term)
  pub places : List ℕ
  pub covers : IsCover o step.pattern q by_ places
  pub agrees : (v : Variable) → Occurs v g → Same (applied by_ (image step.unifier v)) (image a v)

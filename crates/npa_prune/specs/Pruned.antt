-- Patterns that no run meets, told by the pattern alone: rules by which a backwards search drops states
-- (Escobar, Meadows, Meseguer 2009, on the reduction of the state space).
use Rattle.std.specs.Prelude.{◌≡◌, ◌≢◌, ℕ, ◌<◌, false, List, Option, None, Some, slice_get, Contains}
use Rattle.std.specs.List.{flat_map}
use Rattle.npa_term.specs.declared.term.Term.{Term}
use Rattle.npa_term.specs.declared.term.Term.TheVariants.{Var}
use Rattle.npa_term.specs.declared.term.Var.{Var as Variable}
use Rattle.npa_term.specs.Parts.{IsPart}
use Rattle.npa_sig.specs.declared.protocol.Event.{Event}
use Rattle.npa_sig.specs.declared.protocol.Protocol.{Protocol}
use Rattle.npa_sig.specs.declared.protocol.Strand.{Strand}
use Rattle.npa_sig.specs.Parameters.{fresh_terms}
use Rattle.npa_rewrite.specs.declared.theory.Theory.{Theory}
use Rattle.npa_rewrite.specs.Rewriting.{IsNormal}
use Rattle.npa_rewrite.specs.Theories.{theory_of}
use Rattle.npa_model.specs.declared.pattern.PStrand.{PStrand}
use Rattle.npa_model.specs.declared.pattern.Pattern.{Pattern}
use Rattle.npa_model.specs.Covering.{HasSame}
use Rattle.npa_model.specs.Patterns.{IsTermOf, events_at}
use Rattle.npa_prune.specs.declared.rule.PruneRule.{PruneRule}
use Rattle.npa_prune.specs.declared.rule.PruneRule.TheVariants as rule

-- one of these terms isn't normal
abbrev pub HasReducible : Theory → List Term → Type 0
HasReducible th ts = (t : Term) × Contains ts t × (IsNormal th t → ⊥)

-- A term of the pattern isn't normal, so none of its instances is (the same, on reducible states).
pub record IsReducible (th : Theory) (g : Pattern) : Type 0 where
  pub term : Term
  pub there : IsTermOf g term
  pub reducible : IsNormal th term → ⊥

-- A fact is both known and unknown, up to the order of commutative arguments (the same, on inconsistent
-- states).
pub record Clashes (g : Pattern) : Type 0 where
  pub fact : Term
  pub known : Contains g.known fact
  pub unknown : HasSame g.unknown fact

-- the values of the fresh parameters of a pattern's strand
abbrev pub fresh_args : List Strand → PStrand → List Term
fresh_args strands p = fresh_terms (slice_get strands p.strand) p.args

-- the values of the fresh parameters of a pattern, strand by strand
abbrev pub fresh_values : List Strand → Pattern → List Term
fresh_values strands g = flat_map (fresh_args strands) g.strands

-- The value of a fresh parameter isn't a variable, or two fresh parameters have one variable (strand
-- spaces, on unique origination: Thayer, Herzog, Guttman 1999).
pub data SharesFresh (strands : List Strand) (g : Pattern) : Type 0 where
  bound : (k : ℕ) (t : Term) → slice_get (fresh_values strands g) k ≡ Some t → ((v : Variable) → t ≢ Var v) → SharesFresh strands g
  shared : (j k : ℕ) (v : Variable) → j ≢ k → slice_get (fresh_values strands g) j ≡ Some (Var v) → slice_get (fresh_values strands g) k ≡ Some (Var v) → SharesFresh strands g

-- A strand of a pattern has sent nothing: no event before its bar is sent.
abbrev pub IsSilent : List Strand → PStrand → Type 0
IsSilent strands p = (k : ℕ) (event : Event) → k < p.bar → slice_get (events_at strands p.strand) k ≡ Some event → event.sent ≡ false

-- a part of one of these terms
abbrev pub IsPartOfOne : List Term → Term → Type 0
IsPartOfOne ts t = (u : Term) × Contains ts u × IsPart t u

-- A term stands in a known fact, or in the message of an event that a strand has executed.
pub data IsHeard (g : Pattern) (t : Term) : Type 0 where
  in_fact : IsPartOfOne g.known t → IsHeard g t
  in_message : (p : PStrand) → Contains g.strands p → IsPartOfOne p.msgs t → IsHeard g t

-- The value of a fresh parameter is heard, though its strand has sent nothing (Escobar, Meadows, Meseguer
-- 2009, on the early use of fresh values).
pub record IsEarly (strands : List Strand) (g : Pattern) : Type 0 where
  pub owner : PStrand
  pub there : Contains g.strands owner
  pub silent : IsSilent strands owner
  pub value : Term
  pub fresh : Contains (fresh_args strands owner) value
  pub heard : IsHeard g value

-- A rule prunes a pattern.
abbrev pub Prunes : Protocol → PruneRule → Pattern → Type 0
Prunes protocol rule.Reducible g = IsReducible (theory_of protocol) g
Prunes protocol rule.Clash g = Clashes g
Prunes protocol rule.SharedFresh g = SharesFresh protocol.strands g
Prunes protocol rule.EarlyFresh g = IsEarly protocol.strands g

-- A pattern is pruned where a rule prunes it.
abbrev pub IsPruned : Protocol → Pattern → Type 0
IsPruned protocol g = (rule : PruneRule) × Prunes protocol rule g

-- the place of a rule in their order
abbrev pub rank : PruneRule → ℕ
rank rule.Reducible = 0
rank rule.Clash = 1
rank rule.SharedFresh = 2
rank rule.EarlyFresh = 3

-- A rule is the first that prunes a pattern.
pub record IsFirstRule (protocol : Protocol) (g : Pattern) (rule : PruneRule) : Type 0 where
  pub prunes : Prunes protocol rule g
  pub first : (earlier : PruneRule) → rank earlier < rank rule → Prunes protocol earlier g → ⊥

-- the first rule that prunes a pattern, if one does
abbrev pub TellsRule : Protocol → Pattern → Option PruneRule → Type 0
TellsRule protocol g None = IsPruned protocol g → ⊥
TellsRule protocol g (Some rule) = IsFirstRule protocol g rule

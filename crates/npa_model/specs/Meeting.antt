-- What it means that a run meets a pattern: it stands where the pattern says (Escobar, Meadows, Meseguer
-- 2009, on ground states as instances of states with variables).
use Rattle.std.specs.Prelude.{◌≡◌, ℕ, ◌≤◌, List, [], ◌++◌, Some, length, map, slice_get, take, Contains}
use Rattle.npa_sorts.specs.Subsorts.{IsAtOrBelow}
use Rattle.npa_term.specs.declared.term.Term.{Term}
use Rattle.npa_term.specs.declared.term.Var.{Var as Variable}
use Rattle.npa_term.specs.Bound.{applied}
use Rattle.npa_term.specs.Canonical.{canonical}
use Rattle.npa_term.specs.Parts.{image, least_sort}
use Rattle.npa_sig.specs.declared.protocol.Strand.{Strand}
use Rattle.npa_sig.specs.Signature.{Signature}
use Rattle.npa_sig.specs.Values.{under}
use Rattle.npa_rewrite.specs.Normal.{IsNormalTerm}
use Rattle.npa_model.specs.declared.run.Instance.{Instance}
use Rattle.npa_model.specs.declared.pattern.PStrand.{PStrand}
use Rattle.npa_model.specs.declared.pattern.Pattern.{Pattern}
use Rattle.npa_model.specs.declared.pattern.Standing.{Standing}
use Rattle.npa_model.specs.declared.pattern.Standing.TheVariants.{Exactly, AtLeast}
use Rattle.npa_model.specs.Patterns.{map_pattern, IsTermOf, Occurs}
use Rattle.npa_model.specs.Runs.{events_of, executions}

-- where an instance that has executed so many events stands to a bar: exactly at it, or at it or behind it
abbrev pub Stands : Standing → ℕ → ℕ → Type 0
Stands Exactly executed bar = executed ≡ bar
Stands AtLeast executed bar = bar ≤ executed

module _ (nf : Term → Term) (strands : List Strand) (standing : Standing) where
  -- An instance that has executed so many events is what a pattern's strand of ground terms asks for: it is
  -- of the same strand, stands so to the bar, and has the same values and, up to the bar, the same
  -- messages, up to the order of commutative arguments.
  pub record Suits (instance : Instance) (done : ℕ) (p : PStrand) : Type 0 where
    pub same_strand : instance.strand ≡ p.strand
    pub counted : Stands standing done p.bar
    pub same_values : map canonical instance.args ≡ map canonical p.args
    pub same_messages : map (λ event. nf (under instance.args event.msg)) (take p.bar (events_of strands instance)) ≡ map canonical p.msgs

module _ (nf : Term → Term) (strands : List Strand) (instances : List Instance) (schedule : List ℕ) (standing : Standing) where
  -- instance number n, as the schedule has executed it, is what the strand asks for
  pub record Serves (n : ℕ) (p : PStrand) : Type 0 where
    pub instance : Instance
    pub there : slice_get instances n ≡ Some instance
    pub suits : Suits nf strands standing instance (executions n schedule) p

  -- a different instance for each of the strands
  pub record AreServed (ps : List PStrand) (chosen : List ℕ) : Type 0 where
    pub as_many : length chosen ≡ length ps
    pub serves : (k n : ℕ) (p : PStrand) → slice_get chosen k ≡ Some n → slice_get ps k ≡ Some p → Serves n p
    pub apart : (j k n : ℕ) → slice_get chosen j ≡ Some n → slice_get chosen k ≡ Some n → j ≡ k

  -- A run that has sent these terms meets a ground pattern with these instances: they serve the
  -- pattern's strands, each known fact was sent, and no unknown fact was.
  pub record MeetsGround (sent : List Term) (g : Pattern) (chosen : List ℕ) : Type 0 where
    pub served : AreServed g.strands chosen
    pub known : (t : Term) → Contains g.known t → Contains sent (canonical t)
    pub unknown : (t : Term) → Contains g.unknown t → Contains sent (canonical t) → ⊥

  -- A run meets a pattern by an assignment of normal ground terms to the pattern's variables that
  -- respects their sorts: every term of the pattern, so assigned, is normal, and the run meets the ground
  -- pattern that comes of it.
  pub record MeetsBy (sig : Signature) (sent : List Term) (g : Pattern) (s : List (Variable × Term)) : Type 0 where
    pub values : (v : Variable) → Occurs v g → IsNormalTerm nf sig (image s v)
    pub sorts : (v : Variable) → Occurs v g → IsAtOrBelow sig.sorts (least_sort (image s v)) v.sort
    pub terms : (t : Term) → IsTermOf g t → IsNormalTerm nf sig (applied s t)
    pub chosen : List ℕ
    pub meets : MeetsGround sent (map_pattern (applied s) g) chosen

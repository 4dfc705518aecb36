-- Functions that have the same normal forms of ground terms make a run meet the same patterns.
use Rattle.std.proofs.Common.{◌≡◌, ℕ, List, Some, map, take, slice_get, sym, ◌∙◌}
use Rattle.npa_term.specs.declared.term.Term.{Term}
use Rattle.npa_term.specs.declared.term.Var.{Var as Variable}
use Rattle.npa_term.specs.Bound.{applied}
use Rattle.npa_term.specs.Parts.{image}
use Rattle.npa_sig.specs.declared.protocol.Strand.{Strand}
use Rattle.npa_sig.specs.Signature.{Signature}
use Rattle.npa_sig.specs.Values.{under}
use Rattle.npa_sig.specs.WellFormed.{AreWellFormedStrands}
use Rattle.npa_rewrite.specs.Normal.{IsNormalTerm}
use Rattle.npa_variants.proofs.Sound.{map_equal}
use Rattle.npa_model.specs.declared.pattern.PStrand.{PStrand}
use Rattle.npa_model.specs.declared.pattern.Pattern.{Pattern}
use Rattle.npa_model.specs.declared.pattern.Standing.{Standing}
use Rattle.npa_model.specs.declared.run.Instance.{Instance}
use Rattle.npa_model.specs.Instances.{IsInstance}
use Rattle.npa_model.specs.Meeting.{MeetsBy, MeetsGround, Serves}
use Rattle.npa_model.specs.Patterns.{map_pattern}
use Rattle.npa_model.specs.Runs.{events_of}
use Rattle.npa_model.proofs.OneForm.{SameForms}
use Rattle.npa_model.proofs.Places.{place_of}
use Rattle.npa_model.proofs.SentTerms.{message_ground}
use Rattle.npa_moves.proofs.Patterned.{taken_at}

module _ (sig : Signature) (nf mf : Term → Term) (same : SameForms sig nf mf) (strands : List Strand) (formed : AreWellFormedStrands sig strands) (instances : List Instance)
    (are : (k : ℕ) (instance : Instance) → slice_get instances k ≡ Some instance → IsInstance nf sig strands instance) (schedule : List ℕ) (standing : Standing) where
  normal_alike : (t : Term) → IsNormalTerm nf sig t → IsNormalTerm mf sig t
  normal_alike t n = record { term = n.term; normal = sym (same t n.term) ∙ n.normal }

  -- the first messages of an instance are the same
  messages_alike : (k : ℕ) (instance : Instance) → slice_get instances k ≡ Some instance → (bar : ℕ) →
      map (λ event. mf (under instance.args event.msg)) (take bar (events_of strands instance)) ≡ map (λ event. nf (under instance.args event.msg)) (take bar (events_of strands instance))
  messages_alike k instance there bar =
      map_equal (λ event. mf (under instance.args event.msg)) (λ event. nf (under instance.args event.msg)) (take bar (events_of strands instance)) (λ event c.
      let place = place_of (take bar (events_of strands instance)) event c in
      let front = taken_at bar (events_of strands instance) place.0 event place.1 in
      sym (same (under instance.args event.msg) (message_ground nf sig strands formed instances are k place.0 instance event (record { there = there; next = front.1 }))))

  serves_alike : (n : ℕ) (p : PStrand) → Serves nf strands instances schedule standing n p → Serves mf strands instances schedule standing n p
  serves_alike n p s = record {
    instance = s.instance;
    there = s.there;
    suits = record {
      same_strand = s.suits.same_strand;
      counted = s.suits.counted;
      same_values = s.suits.same_values;
      same_messages = messages_alike n s.instance s.there p.bar ∙ s.suits.same_messages;
    };
  }

  ground_alike : (sent : List Term) (g : Pattern) (chosen : List ℕ) → MeetsGround nf strands instances schedule standing sent g chosen → MeetsGround mf strands instances schedule standing sent g chosen
  ground_alike sent g chosen m = record {
    served = record {
      as_many = m.served.as_many;
      serves = λ k n p c d. serves_alike n p (m.served.serves k n p c d);
      apart = m.served.apart;
    };
    known = m.known;
    unknown = m.unknown;
  }

  pub meets_alike : (sent : List Term) (g : Pattern) (a : List (Variable × Term)) → MeetsBy nf strands instances schedule standing sig sent g a → MeetsBy mf strands instances schedule standing sig sent g a
  meets_alike sent g a m = record {
    values = λ v occurs. normal_alike (image a v) (m.values v occurs);
    sorts = m.sorts;
    terms = λ t there. normal_alike (applied a t) (m.terms t there);
    chosen = m.chosen;
    meets = ground_alike sent (map_pattern (applied a) g) m.chosen m.meets;
  }

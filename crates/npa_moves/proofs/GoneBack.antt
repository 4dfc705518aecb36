-- A run that meets a pattern has one with a step less that meets it, or the pattern of a step of the list.
use Rattle.std.proofs.Common.{◌≡◌, ℕ, ◌⊎◌, inl, inr, Some, List, [], ◌∷◌, length, map, slice_get, Contains, refl, sym, ◌∙◌, ap, subst}
use Rattle.npa_term.specs.declared.term.Term.{Term}
use Rattle.npa_term.specs.declared.term.Var.{Var as Variable}
use Rattle.npa_term.specs.Bound.{applied}
use Rattle.npa_term.specs.Parts.{image}
use Rattle.npa_term.specs.Same.{Same, itself}
use Rattle.npa_term.proofs.AppliedLaws.{applied-empty}
use Rattle.npa_sig.specs.declared.protocol.Strand.{Strand}
use Rattle.npa_sig.specs.Operators.{PairsCommute}
use Rattle.npa_unify.proofs.Members.{nowhere}
use Rattle.npa_rewrite.specs.declared.theory.Theory.{Theory}
use Rattle.npa_rewrite.specs.Innermost.{normalized}
use Rattle.npa_rewrite.specs.Normal.{IsNormalTerm}
use Rattle.npa_rewrite.specs.Rewriting.{AllCancel}
use Rattle.npa_variants.specs.declared.variant.Variant.{Variant}
use Rattle.npa_model.specs.declared.pattern.PStrand.{PStrand}
use Rattle.npa_model.specs.declared.pattern.Pattern.{Pattern}
use Rattle.npa_model.specs.declared.pattern.Standing.TheVariants.{Exactly}
use Rattle.npa_model.specs.declared.run.Instance.{Instance}
use Rattle.npa_model.specs.Backward.{Earlier, NoReceive, chosen_sends, idle, other_sends}
use Rattle.npa_model.specs.Meeting.{MeetsBy, MeetsGround}
use Rattle.npa_model.specs.Patterns.{IsInitial, IsTermOf, Occurs, map_pattern, map_strand}
use Rattle.npa_model.specs.Runs.{Executes}
use Rattle.npa_model.proofs.MeetingLaws.{cover_meets}
use Rattle.npa_model.proofs.Returning.{back_last}
use Rattle.npa_moves.specs.declared.step.Step.{Step}
use Rattle.npa_moves.specs.GoingBack.{GoesBack, MeetsStep}
use Rattle.npa_moves.specs.Leading.{IsAmong, IsStepBy}
use Rattle.npa_moves.proofs.Backed.{Backed, Led, Outcome, chosen_back, received_back}
use Rattle.npa_moves.proofs.BackedOther.{Variation, other_back}
use Rattle.npa_moves.proofs.Patterned.{initial_mapped}
use Rattle.npa_moves.proofs.Receiving.{first_or_none, mapped_none}

-- the empty substitution changes no pattern
empty_list : (ts : List Term) → map (applied []) ts ≡ ts
empty_list [] = refl
empty_list (t ∷ ts) = ap (λ (u : Term). u ∷ map (applied []) ts) (applied-empty t) ∙ ap (λ us. t ∷ us) (empty_list ts)

empty_strand : (p : PStrand) → map_strand (applied []) p ≡ p
empty_strand p =
    ap (λ (ts : List Term). record { strand = p.strand; bar = p.bar; args = ts; msgs = map (applied []) p.msgs }) (empty_list p.args)
    ∙ ap (λ (ts : List Term). record { strand = p.strand; bar = p.bar; args = p.args; msgs = ts }) (empty_list p.msgs)

empty_strands : (ps : List PStrand) → map (map_strand (applied [])) ps ≡ ps
empty_strands [] = refl
empty_strands (p ∷ ps) = ap (λ (q : PStrand). q ∷ map (map_strand (applied [])) ps) (empty_strand p) ∙ ap (λ qs. p ∷ qs) (empty_strands ps)

empty_pattern : (g : Pattern) → map_pattern (applied []) g ≡ g
empty_pattern g =
    ap (λ (ps : List PStrand). record { strands = ps; known = map (applied []) g.known; unknown = map (applied []) g.unknown }) (empty_strands g.strands)
    ∙ ap (λ (ts : List Term). record { strands = g.strands; known = ts; unknown = map (applied []) g.unknown }) (empty_list g.known)
    ∙ ap (λ (ts : List Term). record { strands = g.strands; known = g.known; unknown = ts }) (empty_list g.unknown)

module _ (th : Theory) (cancel : AllCancel th) (pairs : PairsCommute th.sig) (strands : List Strand) (variants : Strand → List Variant) (instances : List Instance)
    (varied : (n : ℕ) (instance : Instance) → slice_get instances n ≡ Some instance → Variation (normalized th) th strands variants instance) where
  abbrev pub nf : Term → Term
  nf = normalized th

  -- a pattern of normal ground terms has no variables
  no_variable : (q : Pattern) → ((t : Term) → IsTermOf q t → IsNormalTerm nf th.sig t) → (v : Variable) → Occurs v q → ⊥
  no_variable q normal v occurs = nowhere v (subst (λ (vs : List Variable). Contains vs v) (normal occurs.term occurs.there).term.ground occurs.within)

  -- it is met by the empty assignment
  pub meets_empty : (rest : List ℕ) (told : List Term) (q : Pattern) (chosen : List ℕ) → ((t : Term) → IsTermOf q t → IsNormalTerm nf th.sig t) →
      MeetsGround nf strands instances rest Exactly told q chosen → MeetsBy nf strands instances rest Exactly th.sig told q []
  meets_empty rest told q chosen normal meets = record {
    values = λ v occurs. absurd (no_variable q normal v occurs);
    sorts = λ v occurs. absurd (no_variable q normal v occurs);
    terms = λ t there. subst (IsNormalTerm nf th.sig) (sym (applied-empty t)) (normal t there);
    chosen = chosen;
    meets = subst (λ (x : Pattern). MeetsGround nf strands instances rest Exactly told x chosen) (sym (empty_pattern q)) meets;
  }

  module _ (a : List (Variable × Term)) (g : Pattern) (list : List Step) (messages : (k : ℕ) (p : PStrand) → slice_get g.strands k ≡ Some p → length p.msgs ≡ p.bar)
      (complete : (q : Pattern) → IsStepBy strands variants th.sig.sorts a g q → IsAmong th.sig.sorts list a g q)
      (schedule : List ℕ) (sent : List Term) (meets : MeetsBy nf strands instances schedule Exactly th.sig sent g a) where
    -- a pattern that a step leads to is met, so that of a step of the list is
    from_led : (rest : List ℕ) (told : List Term) → Led th pairs strands variants instances a g meets.terms rest told → MeetsStep nf th.sig strands instances list a g rest told
    from_led rest told led =
        let among = complete led.q led.step in
        record {
          step = among.step;
          there = among.there;
          by_ = among.by_;
          meets = cover_meets th cancel pairs strands instances rest Exactly told among.step.pattern led.q among.by_ [] among.by_ among.places among.covers
              (λ v occurs. subst (λ (t : Term). Same (image among.by_ v) t) (sym (applied-empty (image among.by_ v))) (itself (image among.by_ v)))
              (meets_empty rest told led.q led.chosen led.normal led.meets);
          agrees = among.agrees;
        }

    from_outcome : (rest : List ℕ) (told : List Term) → Outcome th pairs strands variants instances a g meets.terms rest told →
        MeetsBy nf strands instances rest Exactly th.sig told g a ⊎ MeetsStep nf th.sig strands instances list a g rest told
    from_outcome rest told (inl again) = inl (record { values = meets.values; sorts = meets.sorts; terms = meets.terms; chosen = again.0; meets = again.1 })
    from_outcome rest told (inr led) = inr (from_led rest told led)

    gone : Backed th pairs strands variants instances a g meets.terms schedule sent → GoesBack nf th.sig strands instances list a g schedule sent
    gone backed = record {
      rest = backed.rest;
      told = backed.told;
      executes = backed.executes;
      shorter = backed.shorter;
      meets = from_outcome backed.rest backed.told backed.outcome;
    }

    earlier_outcome : NoReceive strands g → (before : List ℕ) (told : List Term) (i : ℕ) → Earlier nf strands instances before told i (map_pattern (applied a) g) meets.chosen →
        Outcome th pairs strands variants instances a g meets.terms before told
    earlier_outcome none before told i (idle m) = inl (meets.chosen, m)
    earlier_outcome none before told i (chosen_sends s) = inr (chosen_back th pairs strands variants instances a g meets.terms none before told i meets.chosen schedule sent meets.meets s)
    earlier_outcome none before told i (other_sends s) =
        other_back th pairs strands variants instances a g meets.terms none before told i meets.chosen s (varied i s.instance s.next.there)

    last_backed : Executes nf strands instances schedule sent → (IsInitial g → ⊥) → NoReceive strands g → Backed th pairs strands variants instances a g meets.terms schedule sent
    last_backed ex later none =
        let last = back_last nf strands instances (mapped_none (applied a) strands g none) ex meets.meets (λ initial. later (initial_mapped (applied a) g initial)) in
        record {
          rest = last.before;
          told = last.told;
          executes = last.executes;
          shorter = last.shorter;
          outcome = earlier_outcome none last.before last.told last.i last.earlier;
        }

    pub goes_back : Executes nf strands instances schedule sent → (IsInitial g → ⊥) → GoesBack nf th.sig strands instances list a g schedule sent
    goes_back ex later = elim (first_or_none strands g messages) [
      | inl first ↦ gone (received_back th pairs strands variants instances a g meets.terms schedule sent meets.chosen ex meets.meets first)
      | inr none ↦ gone (last_backed ex later none)
    ]

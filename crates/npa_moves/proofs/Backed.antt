-- A run that meets a pattern, one step earlier: it meets the same pattern, or one that a step leads to.
use Rattle.std.proofs.Common.{◌≡◌, ℕ, ◌+◌, ◌⊎◌, inl, inr, true, Some, List, [], ◌∷◌, ◌++◌, map, slice_get, slice_set, Contains, sym, ◌∙◌, ap, subst}
use Rattle.std.proofs.lemmas.List.Elements.{Contains-append_cases}
use Rattle.std.proofs.lemmas.Option.{same_Some}
use Rattle.npa_term.specs.declared.term.Term.{Term}
use Rattle.npa_term.specs.declared.term.Var.{Var as Variable}
use Rattle.npa_term.specs.Bound.{applied}
use Rattle.npa_term.specs.Canonical.{canonical}
use Rattle.npa_term.specs.Same.{Same, through}
use Rattle.npa_term.proofs.CanonicalLaws.{canonical_same}
use Rattle.npa_term.proofs.SameLaws.{same_sym}
use Rattle.npa_sig.specs.declared.protocol.Event.{Event}
use Rattle.npa_sig.specs.declared.protocol.Strand.{Strand}
use Rattle.npa_sig.specs.Operators.{PairsCommute}
use Rattle.npa_unify.proofs.Members.{only_one}
use Rattle.npa_rewrite.specs.declared.theory.Theory.{Theory}
use Rattle.npa_rewrite.specs.Innermost.{normalized}
use Rattle.npa_rewrite.specs.Normal.{IsNormalTerm}
use Rattle.npa_rewrite.proofs.Sorting.{sorted_canonical}
use Rattle.npa_variants.specs.declared.variant.Variant.{Variant}
use Rattle.npa_variants.proofs.Members.{mapped_member, of_mapped}
use Rattle.npa_model.specs.declared.pattern.PStrand.{PStrand}
use Rattle.npa_model.specs.declared.pattern.Pattern.{Pattern}
use Rattle.npa_model.specs.declared.pattern.Standing.TheVariants.{Exactly}
use Rattle.npa_model.specs.declared.run.Instance.{Instance}
use Rattle.npa_model.specs.Backward.{ChosenSends, IsShorter, NoReceive, received, set_back}
use Rattle.npa_model.specs.Meeting.{AreServed, MeetsGround}
use Rattle.npa_model.specs.Patterns.{IsTermOf, of_msgs, of_known, of_unknown, events_at, map_pattern, map_strand}
use Rattle.npa_model.specs.Runs.{Executes, executions}
use Rattle.npa_model.proofs.CoverLaws.{of_mapped as term_mapped}
use Rattle.npa_model.proofs.Places.{at_mapped, mapped_at, member_at}
use Rattle.npa_model.proofs.Returning.{back_receive}
use Rattle.npa_moves.specs.Leading.{IsStepBy, Last, learns, receives, sends, unlearnt, unsent}
use Rattle.npa_moves.specs.Picks.{Pick, picks}
use Rattle.npa_moves.proofs.OtherSteps.{map_push}
use Rattle.npa_moves.proofs.OwnMoves.{back_terms}
use Rattle.npa_moves.proofs.Patterned.{alike_itself, map_received, map_strands_back}
use Rattle.npa_moves.proofs.Picking.{left_of}
use Rattle.npa_moves.proofs.Receiving.{FirstReceive}
use Rattle.npa_moves.proofs.Sharing.{Share, all_told, shared, some_made}

module _ (th : Theory) (pairs : PairsCommute th.sig) (strands : List Strand) (variants : Strand → List Variant) (instances : List Instance) (a : List (Variable × Term)) (g : Pattern)
    (terms : (t : Term) → IsTermOf g t → IsNormalTerm (normalized th) th.sig (applied a t)) where
  abbrev pub nf : Term → Term
  nf = normalized th

  abbrev pub ground : Pattern
  ground = map_pattern (applied a) g

  -- A pattern that a step leads to is met, and its terms are normal.
  pub record Led (rest : List ℕ) (told : List Term) : Type 0 where
    pub q : Pattern
    pub step : IsStepBy strands variants th.sig.sorts a g q
    pub normal : (t : Term) → IsTermOf q t → IsNormalTerm nf th.sig t
    pub chosen : List ℕ
    pub meets : MeetsGround nf strands instances rest Exactly told q chosen

  -- The pattern is still met, or one that a step leads to.
  abbrev pub Outcome : List ℕ → List Term → Type 0
  Outcome rest told = ((chosen : List ℕ) × MeetsGround nf strands instances rest Exactly told ground chosen) ⊎ Led rest told

  pub record Backed (schedule : List ℕ) (sent : List Term) : Type 0 where
    pub rest : List ℕ
    pub told : List Term
    pub executes : Executes nf strands instances rest told
    pub shorter : IsShorter schedule rest sent told
    pub outcome : Outcome rest told

  -- a pattern of instances of the pattern's terms has normal terms
  pub instances_normal : (h : Pattern) → ((t : Term) → IsTermOf h t → IsTermOf g t) → (t : Term) → IsTermOf (map_pattern (applied a) h) t → IsNormalTerm nf th.sig t
  instances_normal h own t there =
      let was = term_mapped (applied a) h there in
      subst (IsNormalTerm nf th.sig) was.is (terms was.term (own was.term was.there))

  pub same_instances : (t u : Term) → canonical (applied a t) ≡ canonical u → Same (applied a t) u
  same_instances t u is =
      through (applied a t) (canonical (applied a t)) u (canonical_same (applied a t))
      (subst (λ (x : Term). Same x u) (sym is) (same_sym (canonical_same u)))

  -- ## A receive

  pub received_back : (schedule : List ℕ) (sent : List Term) (chosen : List ℕ) → Executes nf strands instances schedule sent →
      MeetsGround nf strands instances schedule Exactly sent ground chosen → FirstReceive strands g → Backed schedule sent
  received_back schedule sent chosen ex meets first =
      let p = first.p in
      let strand = map_strand (applied a) p in
      let back = back_receive nf strands instances ex meets first.k first.bar strand first.event (applied a first.m)
      (at_mapped (map_strand (applied a)) g.strands first.k p first.last.there) first.last.behind first.last.executed first.gets
      (at_mapped (applied a) p.msgs first.bar first.m first.last.message) in
      let h = received first.k p first.bar first.m g in
      let own : (t : Term) → IsTermOf h t → IsTermOf g t = back_terms g first.k p first.bar first.last.there (g.known ++ first.m ∷ []) g.unknown
      (λ t c. pushed_known first.k p first.bar first.m first.last.there first.last.message t c) (λ t c. of_unknown c) in
      record {
        rest = back.rest;
        told = sent;
        executes = back.executes;
        shorter = back.shorter;
        outcome = inr (record {
          q = map_pattern (applied a) h;
          step = receives first.k p first.bar first.event first.m first.last first.gets first.none (alike_itself (map_pattern (applied a) h));
          normal = instances_normal h own;
          chosen = chosen;
          meets = subst (λ (x : Pattern). MeetsGround nf strands instances back.rest Exactly sent x chosen) (sym (map_received (applied a) g first.k p first.bar first.m)) back.meets;
        });
      }
    where
      pushed_known : (k : ℕ) (p : PStrand) (bar : ℕ) (m : Term) → slice_get g.strands k ≡ Some p → slice_get p.msgs bar ≡ Some m → (t : Term) → Contains (g.known ++ m ∷ []) t → IsTermOf g t
      pushed_known k p bar m there message t c = elim (Contains-append_cases g.known (m ∷ []) t c) [
        | inl d ↦ of_known d
        | inr d ↦ subst (IsTermOf g) (only_one m t d) (of_msgs k p there (member_at p.msgs bar m message))
      ]

  -- ## A send of a strand of the pattern

  module _ (none : NoReceive strands g) (before : List ℕ) (told : List Term) (i : ℕ) (chosen : List ℕ)
      (k : ℕ) (p : PStrand) (event : Event) (m : Term) (last : Last strands g k p (executions i before) event m) (gives : event.sent ≡ true)
      (served : AreServed nf strands instances before Exactly (slice_set ground.strands k (set_back (map_strand (applied a) p) (executions i before))) chosen)
      (unknown : (t : Term) → Contains ground.unknown t → Contains told (canonical t) → ⊥)
      (differs : (t : Term) → Contains ground.unknown t → canonical (applied a m) ≡ canonical t → ⊥) where
    abbrev bar : ℕ
    bar = executions i before

    message_there : IsTermOf g m
    message_there = of_msgs k p last.there (member_at p.msgs bar m last.message)

    back_served : AreServed nf strands instances before Exactly (map (map_strand (applied a)) (slice_set g.strands k (set_back p bar))) chosen
    back_served = subst (λ (ps : List PStrand). AreServed nf strands instances before Exactly ps chosen) (sym (map_strands_back (applied a) g.strands k p bar)) served

    pub sent_back : ((t : Term) → Contains g.known t → Contains told (canonical (applied a t))) → Led before told
    sent_back known = record {
      q = map_pattern (applied a) (unsent k p bar g);
      step = sends k p bar event m none last gives (alike_itself (map_pattern (applied a) (unsent k p bar g)));
      normal = instances_normal (unsent k p bar g) (back_terms g k p bar last.there g.known g.unknown (λ t c. of_known c) (λ t c. of_unknown c));
      chosen = chosen;
      meets = record {
        served = back_served;
        known = λ t c. let u = of_mapped (applied a) g.known t c in subst (λ (x : Term). Contains told (canonical x)) (sym u.2) (known u.0 u.1);
        unknown = unknown;
      };
    }

    pushed_unknown : (t : Term) → Contains (g.unknown ++ m ∷ []) t → IsTermOf g t
    pushed_unknown t c = elim (Contains-append_cases g.unknown (m ∷ []) t c) [
      | inl d ↦ of_unknown d
      | inr d ↦ subst (IsTermOf g) (only_one m t d) message_there
    ]

    still_unknown : (Contains told (canonical (applied a m)) → ⊥) → (t : Term) → Contains (map (applied a) (g.unknown ++ m ∷ [])) t → Contains told (canonical t) → ⊥
    still_unknown untold t c d =
        let e = subst (λ (ts : List Term). Contains ts t) (map_push (applied a) g.unknown m) c in
        elim (Contains-append_cases (map (applied a) g.unknown) (applied a m ∷ []) t e) [
          | inl f ↦ unknown t f d
          | inr f ↦ untold (subst (λ (x : Term). Contains told (canonical x)) (sym (only_one (applied a m) t f)) d)
        ]

    pub learnt_back : (pick : Pick) → Contains (picks g.known) pick → ((t : Term) → Contains pick.taken t → canonical (applied a t) ≡ canonical (applied a m)) →
        ((t : Term) → Contains pick.left t → Contains told (canonical (applied a t))) → (Contains told (canonical (applied a m)) → ⊥) → Led before told
    learnt_back pick picked taken left untold =
        let h = unlearnt k p bar m pick.left g in
        record {
          q = map_pattern (applied a) h;
          step = learns k p bar event m pick none last gives
              (record {
                picked = picked;
                equal = λ t c. same_instances t (applied a m) (taken t c);
                apart = λ t c same. differs (applied a t) (mapped_member (applied a) g.unknown t c)
                    (sym (sorted_canonical th.sig pairs (applied a t) (applied a m) same (terms t (of_unknown c)).term.sorted));
              })
              (alike_itself (map_pattern (applied a) h));
          normal = instances_normal h (back_terms g k p bar last.there pick.left (g.unknown ++ m ∷ []) (λ t c. of_known (left_of g.known pick picked t c)) pushed_unknown);
          chosen = chosen;
          meets = record {
            served = back_served;
            known = λ t c. let u = of_mapped (applied a) pick.left t c in subst (λ (x : Term). Contains told (canonical x)) (sym u.2) (left u.0 u.1);
            unknown = still_unknown untold;
          };
        }

    by_share : Share told (canonical (applied a m)) a g.known → Led before told
    by_share (all_told known) = sent_back known
    by_share (some_made pick picked taken left untold) = learnt_back pick picked taken left untold

    pub send_back : ((t : Term) → Contains ground.known t → Contains told (canonical t) ⊎ (canonical (applied a m) ≡ canonical t)) → Led before told
    send_back shares = by_share (shared told (canonical (applied a m)) a g.known (λ t c. shares (applied a t) (mapped_member (applied a) g.known t c)))

  same_instance : (x y : Instance) (n : ℕ) → slice_get instances n ≡ Some x → slice_get instances n ≡ Some y → x ≡ y
  same_instance x y n c d = same_Some x y (sym c ∙ d)

  -- what the law of runs says of such a send
  pub chosen_back : NoReceive strands g → (before : List ℕ) (told : List Term) (i : ℕ) (chosen schedule : List ℕ) (sent : List Term) →
      MeetsGround nf strands instances schedule Exactly sent ground chosen → ChosenSends nf strands instances before told i ground chosen → Led before told
  chosen_back none before told i chosen schedule sent meets s =
      let was = mapped_at (map_strand (applied a)) g.strands s.k s.p s.there in
      let p = was.0 in
      let message = mapped_at (applied a) p.msgs (executions i before) s.m (ap (λ (x : PStrand). slice_get x.msgs (executions i before)) was.2 ∙ s.last) in
      let m = message.0 in
      let is : applied a m ≡ s.m = message.2 in
      let serves = meets.served.serves s.k i s.p s.place s.there in
      let instance = same_instance serves.instance s.instance i serves.there s.next.there in
      let strand : s.instance.strand ≡ p.strand = ap (λ (x : Instance). x.strand) (sym instance) ∙ serves.suits.same_strand ∙ ap (λ (x : PStrand). x.strand) (sym was.2) in
      let last : Last strands g s.k p (executions i before) s.event m = record {
        there = was.1;
        behind = ap (λ (x : PStrand). x.bar) was.2 ∙ s.bar;
        executed = ap (λ n. slice_get (events_at strands n) (executions i before)) (sym strand) ∙ s.next.next;
        message = message.1;
      } in
      send_back none before told i chosen s.k p s.event m last s.gives
      (subst (λ (x : PStrand). AreServed nf strands instances before Exactly (slice_set ground.strands s.k (set_back x (executions i before))) chosen) (sym was.2) s.meets.served)
      s.meets.unknown
      (λ t c e. s.shares.unknown t c (ap canonical (sym is) ∙ e))
      (λ t c. subst (λ (x : Term). Contains told (canonical t) ⊎ (canonical x ≡ canonical t)) (sym is) (s.shares.known t c))

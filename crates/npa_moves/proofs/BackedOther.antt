-- A run before the send of an instance that serves no strand of a pattern.
use Rattle.std.proofs.Common.{◌≡◌, ℕ, zero, suc, ◌+◌, ◌⊎◌, inl, inr, Some, Option, List, [], ◌∷◌, ◌++◌, length, map, take, slice_get, Contains, refl, sym, ◌∙◌, ap, subst, arith}
use Rattle.std.specs.Option.{option_map_or}
use Rattle.std.proofs.lemmas.List.{length_push}
use Rattle.std.proofs.lemmas.List.Elements.{Contains-append_cases}
use Rattle.std.proofs.lemmas.Option.{same_Some, none-some}
use Rattle.npa_term.specs.declared.term.Term.{Term}
use Rattle.npa_term.specs.declared.term.Var.{Var as Variable}
use Rattle.npa_term.specs.Bound.{applied}
use Rattle.npa_term.specs.Canonical.{canonical}
use Rattle.npa_sig.specs.declared.protocol.Strand.{Strand}
use Rattle.npa_sig.specs.Operators.{PairsCommute}
use Rattle.npa_sig.specs.Values.{under}
use Rattle.npa_unify.proofs.Members.{only_one}
use Rattle.npa_rewrite.specs.declared.theory.Theory.{Theory}
use Rattle.npa_rewrite.specs.Innermost.{normalized}
use Rattle.npa_rewrite.specs.Normal.{IsNormalTerm}
use Rattle.npa_rewrite.proofs.Sorting.{sorted_canonical}
use Rattle.npa_variants.specs.declared.variant.Variant.{Variant}
use Rattle.npa_variants.specs.StrandVariants.{IsInstanceOf, args_of, messages_of}
use Rattle.npa_variants.specs.Strands.{param_count}
use Rattle.npa_variants.proofs.Members.{mapped_member, of_mapped, of_taken}
use Rattle.npa_model.specs.declared.pattern.PStrand.{PStrand}
use Rattle.npa_model.specs.declared.pattern.Pattern.{Pattern}
use Rattle.npa_model.specs.declared.pattern.Standing.TheVariants.{Exactly}
use Rattle.npa_model.specs.declared.run.Instance.{Instance}
use Rattle.npa_model.specs.Backward.{NoReceive, OtherSends}
use Rattle.npa_model.specs.Meeting.{AreServed, Serves}
use Rattle.npa_model.specs.Patterns.{IsTermOf, of_args, of_msgs, of_known, of_unknown, map_pattern, map_strand}
use Rattle.npa_model.specs.Runs.{events_of, executions, message_of}
use Rattle.npa_model.proofs.Places.{at_mapped, front_mapped, mapped_at, member_at}
use Rattle.npa_moves.specs.Leading.{introduces, joined_by, knowing, strand_under}
use Rattle.npa_moves.specs.Picks.{Pick, picks}
use Rattle.npa_moves.proofs.Backed.{Led, Outcome, same_instances}
use Rattle.npa_moves.proofs.OtherSteps.{message_member, push_at}
use Rattle.npa_moves.proofs.Patterned.{alike_itself}
use Rattle.npa_moves.proofs.Picking.{left_of}
use Rattle.npa_moves.proofs.Sharing.{Share, all_told, shared, some_made}

-- ## Lists with one member more

-- what stands in a list with one member more is in the list, or the last
pub last_at : {X : Type 0} (xs : List X) (x y : X) (j : ℕ) → slice_get (xs ++ x ∷ []) j ≡ Some y → (slice_get xs j ≡ Some y) ⊎ ((x ≡ y) × (j ≡ length xs))
last_at [] x y zero e = inr (same_Some x y e, refl)
last_at [] x y (suc j) e = absurd (none-some y e)
last_at (z ∷ xs) x y zero e = inl e
last_at (z ∷ xs) x y (suc j) e = elim (last_at xs x y j e) [
  | inl c ↦ inl c
  | inr c ↦ inr (c.0, ap suc c.1)
]

-- the same of two lists at once
both_at : {X Y : Type 0} (xs : List X) (ys : List Y) (x c : X) (y d : Y) (j : ℕ) → length xs ≡ length ys → slice_get (xs ++ x ∷ []) j ≡ Some c → slice_get (ys ++ y ∷ []) j ≡ Some d →
    ((slice_get xs j ≡ Some c) × (slice_get ys j ≡ Some d)) ⊎ ((x ≡ c) × (y ≡ d))
both_at [] [] x c y d zero even e f = inr (same_Some x c e, same_Some y d f)
both_at [] [] x c y d (suc j) even e f = absurd (none-some c e)
both_at [] (w ∷ ys) x c y d j even e f = absurd (omega (arith, even))
both_at (z ∷ xs) [] x c y d j even e f = absurd (omega (arith, even))
both_at (z ∷ xs) (w ∷ ys) x c y d zero even e f = inl (e, f)
both_at (z ∷ xs) (w ∷ ys) x c y d (suc j) even e f = both_at xs ys x c y d j (omega (arith, even)) e f

module _ (nf : Term → Term) (strands : List Strand) (instances : List Instance) (schedule : List ℕ) (ps : List PStrand) (chosen : List ℕ) (p : PStrand) (i : ℕ)
    (served : AreServed nf strands instances schedule Exactly ps chosen) (serves : Serves nf strands instances schedule Exactly i p) (unchosen : Contains chosen i → ⊥) where
  serves_at : (k n : ℕ) (q : PStrand) → slice_get (chosen ++ i ∷ []) k ≡ Some n → slice_get (ps ++ p ∷ []) k ≡ Some q → Serves nf strands instances schedule Exactly n q
  serves_at k n q c e = elim (both_at chosen ps i n p q k served.as_many c e) [
    | inl d ↦ served.serves k n q d.0 d.1
    | inr d ↦ subst (λ (x : PStrand). Serves nf strands instances schedule Exactly n x) d.1 (subst (λ (x : ℕ). Serves nf strands instances schedule Exactly x p) d.0 serves)
  ]

  different : (j k n : ℕ) → slice_get (chosen ++ i ∷ []) j ≡ Some n → slice_get (chosen ++ i ∷ []) k ≡ Some n → j ≡ k
  different j k n c d = elim (last_at chosen i n j c) [
    | inl e ↦ elim (last_at chosen i n k d) [
      | inl f ↦ served.apart j k n e f
      | inr f ↦ absurd (unchosen (subst (Contains chosen) (sym f.0) (member_at chosen j n e)))
    ]
    | inr e ↦ elim (last_at chosen i n k d) [
      | inl f ↦ absurd (unchosen (subst (Contains chosen) (sym e.0) (member_at chosen k n f)))
      | inr f ↦ e.1 ∙ sym f.1
    ]
  ]

  pub served_push : AreServed nf strands instances schedule Exactly (ps ++ p ∷ []) (chosen ++ i ∷ [])
  served_push = record {
    as_many = omega (arith, length_push chosen i, length_push ps p, served.as_many);
    serves = serves_at;
    apart = different;
  }

-- An instance goes through a variant of its strand.
pub record Variation (nf : Term → Term) (th : Theory) (strands : List Strand) (variants : Strand → List Variant) (instance : Instance) : Type 0 where
  pub strand : Strand
  pub there : slice_get strands instance.strand ≡ Some strand
  pub n : ℕ
  pub v : Variant
  pub listed : slice_get (variants strand) n ≡ Some v
  pub through : IsInstanceOf nf th.sig strand instance.args v

module _ (th : Theory) (pairs : PairsCommute th.sig) (strands : List Strand) (variants : Strand → List Variant) (instances : List Instance) (a : List (Variable × Term)) (g : Pattern)
    (terms : (t : Term) → IsTermOf g t → IsNormalTerm (normalized th) th.sig (applied a t)) (none : NoReceive strands g)
    (before : List ℕ) (told : List Term) (i : ℕ) (chosen : List ℕ) (s : OtherSends (normalized th) strands instances before told i (map_pattern (applied a) g) chosen)
    (varied : Variation (normalized th) th strands variants s.instance) where
  abbrev nf : Term → Term
  nf = normalized th

  abbrev ground : Pattern
  ground = map_pattern (applied a) g

  abbrev b : List (Variable × Term)
  b = varied.through.by_

  abbrev e : ℕ
  e = executions i before

  abbrev x : Term
  x = message_of nf strands instances s.instance s.event

  events : events_of strands s.instance ≡ varied.strand.events
  events = ap (λ (o : Option Strand). option_map_or (λ strand. strand.events) o []) varied.there

  executed : slice_get varied.strand.events e ≡ Some s.event
  executed = ap (λ es. slice_get es e) (sym events) ∙ s.next.next

  -- the variant's message at the event
  message : (m : Term) × (slice_get (messages_of varied.strand varied.v) e ≡ Some m) × (canonical (applied b m) ≡ x)
  message =
      let msgs = messages_of varied.strand varied.v in
      let there = ap (λ (ts : List Term). slice_get ts e) varied.through.messages
      ∙ at_mapped (λ event. nf (under s.instance.args event.msg)) varied.strand.events e s.event executed in
      let one = mapped_at canonical (map (applied b) msgs) e x there in
      let two = mapped_at (applied b) msgs e one.0 one.1 in
      (two.0, two.1, ap canonical two.2 ∙ one.2)

  abbrev m : Term
  m = message.0

  abbrev new : PStrand
  new = strand_under b s.instance.strand varied.strand varied.v e

  serves_new : Serves nf strands instances before Exactly i new
  serves_new = record {
    instance = s.instance;
    there = s.next.there;
    suits = record {
      same_strand = refl;
      counted = refl;
      same_values = sym varied.through.values;
      same_messages =
          ap (λ es. map (λ event. nf (under s.instance.args event.msg)) (take e es)) events
          ∙ sym (front_mapped (λ event. nf (under s.instance.args event.msg)) e varied.strand.events)
          ∙ ap (take e) (sym varied.through.messages)
          ∙ front_mapped canonical e (map (applied b) (messages_of varied.strand varied.v))
          ∙ ap (map canonical) (front_mapped (applied b) e (messages_of varied.strand varied.v));
    };
  }

  variant_normal : (ts : List Term) → ((t : Term) → Contains ts t → Contains varied.v.terms t) → (t : Term) → Contains (map (applied b) ts) t → IsNormalTerm nf th.sig t
  variant_normal ts each t c = let u = of_mapped (applied b) ts t c in subst (IsNormalTerm nf th.sig) (sym u.2) (varied.through.terms u.0 (each u.0 u.1))

  message_normal : IsNormalTerm nf th.sig (applied b m)
  message_normal = varied.through.terms m (message_member varied.strand varied.v m (member_at (messages_of varied.strand varied.v) e m message.1))

  own_normal : (ts : List Term) → ((t : Term) → Contains ts t → IsTermOf g t) → (t : Term) → Contains (map (applied a) ts) t → IsNormalTerm nf th.sig t
  own_normal ts each t c = let u = of_mapped (applied a) ts t c in subst (IsNormalTerm nf th.sig) (sym u.2) (terms u.0 (each u.0 u.1))

  module _ (pick : Pick) (picked : Contains (picks g.known) pick) where
    abbrev result : Pattern
    result = joined_by new (applied b m) (map_pattern (applied a) (knowing pick.left g))

    result_normal : (t : Term) → IsTermOf result t → IsNormalTerm nf th.sig t
    result_normal t (of_args k p d c) = elim (push_at (map (map_strand (applied a)) g.strands) new p k d) [
      | inl there ↦
          let was = mapped_at (map_strand (applied a)) g.strands k p there in
          own_normal was.0.args (λ u f. of_args k was.0 was.1 f) t (subst (λ (y : PStrand). Contains y.args t) (sym was.2) c)
      | inr is ↦ variant_normal (args_of varied.strand varied.v) (λ u f. of_taken (param_count varied.strand) varied.v.terms u f) t (subst (λ (y : PStrand). Contains y.args t) (sym is) c)
    ]
    result_normal t (of_msgs k p d c) = elim (push_at (map (map_strand (applied a)) g.strands) new p k d) [
      | inl there ↦
          let was = mapped_at (map_strand (applied a)) g.strands k p there in
          own_normal was.0.msgs (λ u f. of_msgs k was.0 was.1 f) t (subst (λ (y : PStrand). Contains y.msgs t) (sym was.2) c)
      | inr is ↦ variant_normal (take e (messages_of varied.strand varied.v))
          (λ u f. message_member varied.strand varied.v u (of_taken e (messages_of varied.strand varied.v) u f)) t (subst (λ (y : PStrand). Contains y.msgs t) (sym is) c)
    ]
    result_normal t (of_known c) = own_normal pick.left (λ u f. of_known (left_of g.known pick picked u f)) t c
    result_normal t (of_unknown c) = elim (Contains-append_cases (map (applied a) g.unknown) (applied b m ∷ []) t c) [
      | inl d ↦ own_normal g.unknown (λ u f. of_unknown f) t d
      | inr d ↦ subst (IsNormalTerm nf th.sig) (only_one (applied b m) t d) message_normal
    ]

    still_unknown : (Contains told x → ⊥) → (t : Term) → Contains (map (applied a) g.unknown ++ applied b m ∷ []) t → Contains told (canonical t) → ⊥
    still_unknown untold t c d = elim (Contains-append_cases (map (applied a) g.unknown) (applied b m ∷ []) t c) [
      | inl f ↦ s.meets.unknown t f d
      | inr f ↦ untold (subst (Contains told) message.2 (subst (λ (y : Term). Contains told (canonical y)) (sym (only_one (applied b m) t f)) d))
    ]

    introduced_back : ((t : Term) → Contains pick.taken t → canonical (applied a t) ≡ x) → ((t : Term) → Contains pick.left t → Contains told (canonical (applied a t))) →
        (Contains told x → ⊥) → Led th pairs strands variants instances a g terms before told
    introduced_back taken left untold = record {
      q = result;
      step = introduces s.instance.strand varied.strand varied.n varied.v e b m pick none
          (record {
            there = varied.there;
            listed = varied.listed;
            event = s.event;
            executed = executed;
            sent = s.gives;
            message = message.1;
            sorts = varied.through.sorts.below;
          })
          (record {
            picked = picked;
            equal = λ t c. same_instances th pairs strands variants instances a g terms t (applied b m) (taken t c ∙ sym message.2);
            apart = λ t c same. s.shares.unknown (applied a t) (mapped_member (applied a) g.unknown t c)
                (sym (sorted_canonical th.sig pairs (applied a t) (applied b m) same (terms t (of_unknown c)).term.sorted ∙ message.2));
          })
          (alike_itself result);
      normal = result_normal;
      chosen = chosen ++ i ∷ [];
      meets = record {
        served = served_push nf strands instances before ground.strands chosen new i s.meets.served serves_new s.unchosen;
        known = λ t c. let u = of_mapped (applied a) pick.left t c in subst (λ (y : Term). Contains told (canonical y)) (sym u.2) (left u.0 u.1);
        unknown = still_unknown untold;
      };
    }

  by_share : Share told x a g.known → Outcome th pairs strands variants instances a g terms before told
  by_share (all_told known) = inl (
    chosen,
    record {
      served = s.meets.served;
      known = λ t c. let u = of_mapped (applied a) g.known t c in subst (λ (y : Term). Contains told (canonical y)) (sym u.2) (known u.0 u.1);
      unknown = s.meets.unknown;
    },
  )
  by_share (some_made pick picked taken left untold) = inr (introduced_back pick picked taken left untold)

  pub other_back : Outcome th pairs strands variants instances a g terms before told
  other_back = by_share (shared told x a g.known (λ t c. s.shares.known (applied a t) (mapped_member (applied a) g.known t c)))

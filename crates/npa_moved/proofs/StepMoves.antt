-- Each move of the list is one of a receive, of a send, of a send that is learnt from, or of a further
-- instance.
use Rattle.std.proofs.Common.{◌≡◌, ℕ, zero, suc, ◌+◌, ◌<◌, inl, inr, Bool, true, false, cond, not, None, Some, Option, List, [], ◌∷◌, ◌++◌, map, length, slice_get, get_or, Contains, refl, sym, ◌∙◌, ap, subst, arith}
use Rattle.std.proofs.lemmas.List.Elements.{Contains-append_cases}
use Rattle.std.proofs.lemmas.Option.{same_Some, none-some, slice_get-get_or, slice_get_within}
use Rattle.npa_term.specs.declared.term.Term.{Term, Name}
use Rattle.npa_sig.specs.declared.protocol.Event.{Event}
use Rattle.npa_sig.specs.declared.protocol.Strand.{Strand}
use Rattle.npa_unify.proofs.Members.{nowhere, only_one, member_cases}
use Rattle.npa_variants.specs.declared.variant.Variant.{Variant}
use Rattle.npa_variants.specs.StrandVariants.{messages_of}
use Rattle.npa_variants.proofs.Members.{of_mapped}
use Rattle.npa_model.specs.declared.pattern.PStrand.{PStrand}
use Rattle.npa_model.specs.declared.pattern.Pattern.{Pattern}
use Rattle.npa_model.specs.Backward.{NoReceive}
use Rattle.npa_model.specs.Patterns.{events_at}
use Rattle.npa_model.proofs.Places.{member_at}
use Rattle.npa_moves.specs.declared.step.Rule.{Rule}
use Rattle.npa_moves.specs.Leading.{Last, before}
use Rattle.npa_moves.specs.Lists.{alone, each_place, event_problems, first_receive, send_problems, step_problems, strand_problems, variant_problems}
use Rattle.npa_moves.specs.Moves.{Move, event_before, introduce_move, is_receive, is_send, last_event, learn_move, receive_move, send_move}
use Rattle.npa_moves.specs.Picks.{Pick, picks}
use Rattle.npa_moves.proofs.Patterned.{taken_at}

untrue : false ≡ true → ⊥
untrue e = cc

turned : (b : Bool) → not b ≡ true → b ≡ false
turned true e = absurd (untrue e)
turned false e = refl

straight : (b : Bool) → not b ≡ false → b ≡ true
straight true e = refl
straight false e = absurd (untrue (sym e))

-- ## Members of lists for places

-- A member of a list for each place stands in the list for one.
pub record IsAtPlace {A B : Type 0} (f : ℕ → A → List B) (k : ℕ) (xs : List A) (y : B) : Type 0 where
  pub place : ℕ
  pub item : A
  pub there : slice_get xs place ≡ Some item
  pub within : Contains (f (k + place) item) y

pub of_place : {A B : Type 0} (f : ℕ → A → List B) (k : ℕ) (xs : List A) (y : B) → Contains (each_place f k xs) y → IsAtPlace f k xs y
of_place f k [] y c = absurd (nowhere y c)
of_place f k (x ∷ xs) y c = elim (Contains-append_cases (f k x) (each_place f (k + 1) xs) y c) [
  | inl d ↦ record { place = zero; item = x; there = refl; within = subst (λ n. Contains (f n x) y) (let n : k ≡ k + zero = omega arith in n) d }
  | inr d ↦
      let rest = of_place f (k + 1) xs y d in
      record {
        place = suc rest.place;
        item = rest.item;
        there = rest.there;
        within = subst (λ n. Contains (f n rest.item) y) (let n : k + 1 + rest.place ≡ k + suc rest.place = omega arith in n) rest.within;
      }
]

pub of_zero : {A B : Type 0} (f : ℕ → A → List B) (xs : List A) (y : B) → Contains (each_place f 0 xs) y → (i : ℕ) × (x : A) × (slice_get xs i ≡ Some x) × Contains (f i x) y
of_zero f xs y c =
    let p = of_place f 0 xs y c in
    (p.place, p.item, p.there, subst (λ n. Contains (f n p.item) y) (let n : 0 + p.place ≡ p.place = omega arith in n) p.within)

in_cond : {A : Type 0} (b : Bool) (xs : List A) (y : A) → Contains (cond b xs []) y → (b ≡ true) × Contains xs y
in_cond true xs y c = (refl, c)
in_cond false xs y c = absurd (nowhere y c)

same_has : (xs ys : List (Move Rule)) (m : Move Rule) → xs ≡ ys → Contains ys m → Contains xs m
same_has xs ys m is c = subst (λ (x : List (Move Rule)). Contains x m) (sym is) c

-- ## The last event

-- A strand has executed an event, its last.
record HasLast (events : List Event) (bar : ℕ) (x : Option Event) : Type 0 where
  pub done : ℕ
  pub behind : bar ≡ done + 1
  pub event : Event
  pub executed : slice_get events done ≡ Some event
  pub is : x ≡ Some event

last_of : (events : List Event) (bar : ℕ) (event : Event) → event_before events bar ≡ Some event → HasLast events bar (event_before events bar)
last_of events zero event e = absurd (none-some event e)
last_of events (suc done) event e = record { done = done; behind = omega arith; event = event; executed = e; is = e }

some_receive : (x : Option Event) → is_receive x ≡ true → (event : Event) × (x ≡ Some event) × (event.sent ≡ false)
some_receive None e = absurd (untrue e)
some_receive (Some event) e = (event, refl, turned event.sent e)

some_send : (x : Option Event) → is_send x ≡ true → (event : Event) × (x ≡ Some event) × (event.sent ≡ true)
some_send None e = absurd (untrue e)
some_send (Some event) e = (event, refl, e)

module _ (strands : List Strand) (g : Pattern) (messages : (k : ℕ) (p : PStrand) → slice_get g.strands k ≡ Some p → length p.msgs ≡ p.bar) where
  -- The last event of a strand, with its message.
  record IsLast (k : ℕ) (p : PStrand) (event : Event) : Type 0 where
    pub bar : ℕ
    pub m : Term
    pub last : Last strands g k p bar event m

  last_at : (k : ℕ) (p : PStrand) (event : Event) → slice_get g.strands k ≡ Some p → last_event strands p ≡ Some event → IsLast k p event
  last_at k p event there is =
      let l = last_of (events_at strands p.strand) p.bar event is in
      let within : l.done < length p.msgs = omega (arith, l.behind, messages k p there) in
      let same : l.event ≡ event = same_Some l.event event (sym l.is ∙ is) in
      record {
        bar = l.done;
        m = get_or p.msgs l.done (Name 0);
        last = record { there = there; behind = l.behind; executed = l.executed ∙ ap Some same; message = slice_get-get_or p.msgs l.done (Name 0) within };
      }

  -- where no last event of a pattern is a receive, no bar stands behind one
  quiet : (h : Pattern) → ((k : ℕ) (p : PStrand) → slice_get h.strands k ≡ Some p → is_receive (last_event strands p) ≡ false) → NoReceive strands h
  quiet h all = λ k bar p event there behind executed.
      let is : last_event strands p ≡ Some event = ap (event_before (events_at strands p.strand)) (let n : p.bar ≡ suc bar = omega (arith, behind) in n) ∙ executed in
      straight event.sent (ap is_receive (sym is) ∙ all k p there)

  -- ## The first receive

  record IsFirst (k : ℕ) (ps : List PStrand) (m : Move Rule) : Type 0 where
    pub place : ℕ
    pub p : PStrand
    pub there : slice_get ps place ≡ Some p
    pub gets : is_receive (last_event strands p) ≡ true
    pub earlier : (j : ℕ) (q : PStrand) → j < place → slice_get ps j ≡ Some q → is_receive (last_event strands q) ≡ false
    pub is : m ≡ receive_move g (k + place) p

  same_move : {x y : Move Rule} → ◌≡◌ {A = Option (Move Rule)} (Some x) (Some y) → x ≡ y
  same_move e = cc

  first_of : (k : ℕ) (ps : List PStrand) (m : Move Rule) → first_receive strands g k ps ≡ Some m → IsFirst k ps m
  first_of k [] m = λ e. absurd (none-some m e)
  first_of k (p ∷ ps) m =
      elim (is_receive (last_event strands p)) as (λ b. is_receive (last_event strands p) ≡ b → cond b (Some (receive_move g k p)) (first_receive strands g (k + 1) ps) ≡ Some m → IsFirst k (p ∷ ps) m) [
        | true ↦ λ gets e. record {
          place = zero;
          p = p;
          there = refl;
          gets = gets;
          earlier = λ j q less c. let never : ⊥ = omega (arith, less) in absurd never;
          is = sym (same_move e) ∙ ap (λ n. receive_move g n p) (let n : k ≡ k + zero = omega arith in n);
        }
        | false ↦ λ holds e. later_first holds (first_of (k + 1) ps m e)
      ] refl
    where
      later_first : is_receive (last_event strands p) ≡ false → IsFirst (k + 1) ps m → IsFirst k (p ∷ ps) m
      later_first holds f = record {
        place = suc f.place;
        p = f.p;
        there = f.there;
        gets = f.gets;
        earlier = before_it;
        is = f.is ∙ ap (λ n. receive_move g n f.p) (let n : k + 1 + f.place ≡ k + suc f.place = omega arith in n);
      }
        where
          before_it : (j : ℕ) (q : PStrand) → j < suc f.place → slice_get (p ∷ ps) j ≡ Some q → is_receive (last_event strands q) ≡ false
          before_it zero q less c = ap (λ (x : PStrand). is_receive (last_event strands x)) (sym (same_Some p q c)) ∙ holds
          before_it (suc j) q less c = f.earlier j q (omega (arith, less)) c

  none_first : (k : ℕ) (q : PStrand) (ps : List PStrand) → first_receive strands g k (q ∷ ps) ≡ None → (is_receive (last_event strands q) ≡ false) × (first_receive strands g (k + 1) ps ≡ None)
  none_first k q ps =
      elim (is_receive (last_event strands q)) as (λ b. is_receive (last_event strands q) ≡ b → cond b (Some (receive_move g k q)) (first_receive strands g (k + 1) ps) ≡ None →
      (is_receive (last_event strands q) ≡ false) × (first_receive strands g (k + 1) ps ≡ None)) [
        | true ↦ λ gets f. absurd (none-some (receive_move g k q) (sym f))
        | false ↦ λ holds f. (holds, f)
      ] refl

  none_of : (k : ℕ) (ps : List PStrand) → first_receive strands g k ps ≡ None → (j : ℕ) (p : PStrand) → slice_get ps j ≡ Some p → is_receive (last_event strands p) ≡ false
  none_of k [] e j p c = absurd (none-some p c)
  none_of k (q ∷ ps) e zero p c = ap (λ (x : PStrand). is_receive (last_event strands x)) (sym (same_Some q p c)) ∙ (none_first k q ps e).0
  none_of k (q ∷ ps) e (suc j) p c = none_of (k + 1) ps (none_first k q ps e).1 j p c

  -- ## Each move

  module _ (variants : Strand → List Variant) (spoken : (s : ℕ) (strand : Strand) (v : Variant) → slice_get strands s ≡ Some strand → Contains (variants strand) v → length (messages_of strand v) ≡ length strand.events) where
    pub data IsStepMove (m : Move Rule) : Type 0 where
      a_receive : (k : ℕ) (p : PStrand) (bar : ℕ) (event : Event) (t : Term) → Last strands g k p bar event t → event.sent ≡ false → NoReceive strands (before k g) →
          m ≡ receive_move g k p → IsStepMove m
      a_send : (k : ℕ) (p : PStrand) (bar : ℕ) (event : Event) (t : Term) → NoReceive strands g → Last strands g k p bar event t → event.sent ≡ true →
          m ≡ send_move g k p → IsStepMove m
      a_learnt : (k : ℕ) (p : PStrand) (bar : ℕ) (event : Event) (t : Term) (pick : Pick) → NoReceive strands g → Last strands g k p bar event t → event.sent ≡ true →
          Contains (picks g.known) pick → m ≡ learn_move g k p pick → IsStepMove m
      an_introduced : (s : ℕ) (strand : Strand) (n : ℕ) (v : Variant) (e : ℕ) (event : Event) (t : Term) (pick : Pick) → NoReceive strands g →
          slice_get strands s ≡ Some strand → slice_get (variants strand) n ≡ Some v → slice_get strand.events e ≡ Some event → event.sent ≡ true →
          slice_get (messages_of strand v) e ≡ Some t → Contains (picks g.known) pick → m ≡ introduce_move g s strand n v e pick → IsStepMove m

    of_send : (problem : List (Move Rule)) (m : Move Rule) → NoReceive strands g → Contains problem m → Contains (each_place (send_problems strands g) 0 g.strands) problem → IsStepMove m
    of_send problem m none d c =
        let at = of_zero (send_problems strands g) g.strands problem c in
        let k = at.0 in
        let p = at.1 in
        let held = in_cond (is_send (last_event strands p)) ((send_move g k p ∷ []) ∷ map (learn_move g k p) (picks g.known) ∷ []) problem at.3 in
        let sends = some_send (last_event strands p) held.0 in
        let l = last_at k p sends.0 at.2 sends.1 in
        elim (member_cases (send_move g k p ∷ []) problem (map (learn_move g k p) (picks g.known) ∷ []) held.1) [
          | inl is ↦ a_send k p l.bar sends.0 l.m none l.last sends.2 (sym (only_one (send_move g k p) m (subst (λ (x : List (Move Rule)). Contains x m) (sym is) d)))
          | inr f ↦
              let is = only_one (map (learn_move g k p) (picks g.known)) problem f in
              let one = of_mapped (learn_move g k p) (picks g.known) m (subst (λ (x : List (Move Rule)). Contains x m) (sym is) d) in
              a_learnt k p l.bar sends.0 l.m one.0 none l.last sends.2 one.1 one.2
        ]

    of_strand : (problem : List (Move Rule)) (m : Move Rule) → NoReceive strands g → Contains problem m → Contains (each_place (strand_problems variants g) 0 strands) problem → IsStepMove m
    of_strand problem m none d c =
        let by_strand = of_zero (strand_problems variants g) strands problem c in
        let s = by_strand.0 in
        let strand = by_strand.1 in
        let by_variant = of_zero (variant_problems g s strand) (variants strand) problem by_strand.3 in
        let n = by_variant.0 in
        let v = by_variant.1 in
        let by_event = of_zero (event_problems g s strand n v) strand.events problem by_variant.3 in
        let e = by_event.0 in
        let event = by_event.1 in
        let held = in_cond event.sent (map (introduce_move g s strand n v e) (picks g.known) ∷ []) problem by_event.3 in
        let is = only_one (map (introduce_move g s strand n v e) (picks g.known)) problem held.1 in
        let one = of_mapped (introduce_move g s strand n v e) (picks g.known) m (same_has (map (introduce_move g s strand n v e) (picks g.known)) problem m is d) in
        let within : e < length strand.events = slice_get_within strand.events e event by_event.2 in
        let said : length (messages_of strand v) ≡ length strand.events = spoken s strand v by_strand.2 (member_at (variants strand) n v by_variant.2) in
        an_introduced s strand n v e event (get_or (messages_of strand v) e (Name 0)) one.0 none by_strand.2 by_variant.2 by_event.2 held.0
        (slice_get-get_or (messages_of strand v) e (Name 0) (omega (arith, within, said))) one.1 one.2

    abbrev others : List (List (Move Rule))
    others = each_place (send_problems strands g) 0 g.strands ++ each_place (strand_problems variants g) 0 strands

    by_first : (x : Option (Move Rule)) → first_receive strands g 0 g.strands ≡ x → (problem : List (Move Rule)) (m : Move Rule) → Contains (alone x others) problem → Contains problem m → IsStepMove m
    by_first None is problem m c d =
        let none = quiet g (none_of 0 g.strands is) in
        elim (Contains-append_cases (each_place (send_problems strands g) 0 g.strands) (each_place (strand_problems variants g) 0 strands) problem c) [
          | inl f ↦ of_send problem m none d f
          | inr f ↦ of_strand problem m none d f
        ]
    by_first (Some move) is problem m c d =
        let f = first_of 0 g.strands move is in
        let same : move ≡ m = only_one move m (subst (λ (x : List (Move Rule)). Contains x m) (sym (only_one (move ∷ []) problem c)) d) in
        let gets = some_receive (last_event strands f.p) f.gets in
        let l = last_at f.place f.p gets.0 f.there gets.1 in
        a_receive f.place f.p l.bar gets.0 l.m l.last gets.2
        (quiet (before f.place g) (λ j q e. let front = taken_at f.place g.strands j q e in f.earlier j q front.0 front.1))
        (sym same ∙ f.is ∙ ap (λ n. receive_move g n f.p) (let n : 0 + f.place ≡ f.place = omega arith in n))

    pub of_problems : (problem : List (Move Rule)) (m : Move Rule) → Contains (step_problems strands variants g) problem → Contains problem m → IsStepMove m
    of_problems problem m c d = by_first (first_receive strands g 0 g.strands) refl problem m c d

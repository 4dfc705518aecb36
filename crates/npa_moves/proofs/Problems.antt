-- Which moves are in the list.
use Rattle.std.proofs.Common.{◌≡◌, ℕ, zero, suc, ◌+◌, ◌-◌, ◌<◌, true, false, not, None, Some, Option, List, [], ◌∷◌, ◌++◌, map, slice_get, get_or, Contains, refl, sym, ◌∙◌, ap, subst, arith}
use Rattle.std.proofs.lemmas.List.Elements.{Contains-append_left, Contains-append_right}
use Rattle.std.proofs.lemmas.Option.{same_Some, none-some, get_or_from_slice_get}
use Rattle.npa_term.specs.declared.term.Term.{Term, Name}
use Rattle.npa_sig.specs.declared.protocol.Event.{Event}
use Rattle.npa_sig.specs.declared.protocol.Strand.{Strand}
use Rattle.npa_unify.proofs.Members.{here, later}
use Rattle.npa_variants.specs.declared.variant.Variant.{Variant}
use Rattle.npa_variants.proofs.Members.{cond_true, cond_false, mapped_member}
use Rattle.npa_model.specs.declared.pattern.PStrand.{PStrand}
use Rattle.npa_model.specs.declared.pattern.Pattern.{Pattern}
use Rattle.npa_model.specs.Backward.{NoReceive}
use Rattle.npa_model.specs.Patterns.{events_at}
use Rattle.npa_model.proofs.Places.{front_at}
use Rattle.npa_moves.specs.declared.step.Rule.{Rule}
use Rattle.npa_moves.specs.Leading.{Last, before}
use Rattle.npa_moves.specs.Lists.{alone, each_place, event_problems, first_receive, send_problems, step_problems, strand_problems, variant_problems}
use Rattle.npa_moves.specs.Moves.{Move, event_before, introduce_move, is_receive, is_send, last_event, last_message, learn_move, receive_move, send_move}
use Rattle.npa_moves.specs.Picks.{Pick, picks}

-- a member of the list for a place
pub at_place : {A B : Type 0} (f : ℕ → A → List B) (k : ℕ) (xs : List A) (i : ℕ) (x : A) (y : B) → slice_get xs i ≡ Some x → Contains (f (k + i) x) y → Contains (each_place f k xs) y
at_place f k [] i x y e c = absurd (none-some x e)
at_place f k (z ∷ xs) zero x y e c =
    Contains-append_left (f k z) (each_place f (k + 1) xs) y
    (subst (λ w. Contains (f k w) y) (sym (same_Some z x e)) (subst (λ n. Contains (f n x) y) (let n : k + 0 ≡ k = omega arith in n) c))
at_place f k (z ∷ xs) (suc i) x y e c =
    Contains-append_right (f k z) (each_place f (k + 1) xs) y
    (at_place f (k + 1) xs i x y e (subst (λ n. Contains (f n x) y) (let n : k + suc i ≡ k + 1 + i = omega arith in n) c))

pub at_zero : {A B : Type 0} (f : ℕ → A → List B) (xs : List A) (i : ℕ) (x : A) (y : B) → slice_get xs i ≡ Some x → Contains (f i x) y → Contains (each_place f 0 xs) y
at_zero f xs i x y e c = at_place f 0 xs i x y e (subst (λ n. Contains (f n x) y) (let n : i ≡ 0 + i = omega arith in n) c)

-- ## The last event

quiet_at : (events : List Event) (bar : ℕ) → ((n : ℕ) (event : Event) → bar ≡ n + 1 → slice_get events n ≡ Some event → event.sent ≡ true) → is_receive (event_before events bar) ≡ false
quiet_at events zero sends = refl
quiet_at events (suc n) sends =
    elim (slice_get events n) as (λ (x : Option Event). slice_get events n ≡ x → is_receive x ≡ false) [
      | None ↦ λ e. refl
      | Some event ↦ λ e. ap not (sends n event (let one : suc n ≡ n + 1 = omega arith in one) e)
    ] refl

pub quiet : (strands : List Strand) (g : Pattern) (k : ℕ) (p : PStrand) → NoReceive strands g → slice_get g.strands k ≡ Some p → is_receive (last_event strands p) ≡ false
quiet strands g k p none there = quiet_at (events_at strands p.strand) p.bar (λ n event behind e. none k n p event there behind e)

module _ (strands : List Strand) (g : Pattern) (k : ℕ) (p : PStrand) (bar : ℕ) (event : Event) (m : Term) (last : Last strands g k p bar event m) where
  pub last_is : last_event strands p ≡ Some event
  last_is = ap (event_before (events_at strands p.strand)) (let n : p.bar ≡ suc bar = omega (arith, last.behind) in n) ∙ last.executed

  pub bar_is : p.bar - 1 ≡ bar
  bar_is = omega (arith, last.behind)

  pub message_is : last_message p ≡ m
  message_is = ap (λ n. get_or p.msgs n (Name 0)) bar_is ∙ get_or_from_slice_get p.msgs bar m (Name 0) last.message

-- ## The first receive

pub no_first : (strands : List Strand) (g : Pattern) (k : ℕ) (ps : List PStrand) → ((j : ℕ) (p : PStrand) → slice_get ps j ≡ Some p → is_receive (last_event strands p) ≡ false) → first_receive strands g k ps ≡ None
no_first strands g k [] none = refl
no_first strands g k (p ∷ ps) none =
    cond_false (is_receive (last_event strands p)) (Some (receive_move g k p)) (first_receive strands g (k + 1) ps) (none zero p refl)
    ∙ no_first strands g (k + 1) ps (λ j q e. none (suc j) q e)

pub first_at : (strands : List Strand) (g : Pattern) (k : ℕ) (ps : List PStrand) (i : ℕ) (p : PStrand) → slice_get ps i ≡ Some p → is_receive (last_event strands p) ≡ true →
    ((j : ℕ) (q : PStrand) → j < i → slice_get ps j ≡ Some q → is_receive (last_event strands q) ≡ false) → first_receive strands g k ps ≡ Some (receive_move g (k + i) p)
first_at strands g k [] i p e t none = absurd (none-some p e)
first_at strands g k (q ∷ ps) zero p e t none =
    let is : q ≡ p = same_Some q p e in
    cond_true (is_receive (last_event strands q)) (Some (receive_move g k q)) (first_receive strands g (k + 1) ps) (subst (λ (x : PStrand). is_receive (last_event strands x) ≡ true) (sym is) t)
    ∙ ap (λ (x : PStrand). Some (receive_move g k x)) is
    ∙ ap (λ n. Some (receive_move g n p)) (let n : k ≡ k + 0 = omega arith in n)
first_at strands g k (q ∷ ps) (suc i) p e t none =
    cond_false (is_receive (last_event strands q)) (Some (receive_move g k q)) (first_receive strands g (k + 1) ps) (none zero q (omega arith) refl)
    ∙ first_at strands g (k + 1) ps i p e t (λ j x less f. none (suc j) x (omega (arith, less)) f)
    ∙ ap (λ n. Some (receive_move g n p)) (let n : k + 1 + i ≡ k + suc i = omega arith in n)

module _ (strands : List Strand) (variants : Strand → List Variant) (g : Pattern) where
  -- A move is in a problem of the list.
  pub record IsListed (m : Move Rule) : Type 0 where
    pub problem : List (Move Rule)
    pub listed : Contains (step_problems strands variants g) problem
    pub member : Contains problem m

  abbrev others : List (List (Move Rule))
  others = each_place (send_problems strands g) 0 g.strands ++ each_place (strand_problems variants g) 0 strands

  pub receive_listed : (k : ℕ) (p : PStrand) (bar : ℕ) (event : Event) (m : Term) → Last strands g k p bar event m → event.sent ≡ false → NoReceive strands (before k g) → IsListed (receive_move g k p)
  receive_listed k p bar event m last gets none =
      let receives : is_receive (last_event strands p) ≡ true = ap is_receive (last_is strands g k p bar event m last) ∙ ap not gets in
      let earlier : (j : ℕ) (q : PStrand) → j < k → slice_get g.strands j ≡ Some q → is_receive (last_event strands q) ≡ false =
      λ j q less e. quiet strands (before k g) j q none (front_at k g.strands j less ∙ e) in
      let is = first_at strands g 0 g.strands k p last.there receives earlier ∙ ap (λ n. Some (receive_move g n p)) (let n : 0 + k ≡ k = omega arith in n) in
      record {
        problem = receive_move g k p ∷ [];
        listed = subst (λ x. Contains (alone x others) (receive_move g k p ∷ [])) (sym is) (here (receive_move g k p ∷ []) []);
        member = here (receive_move g k p) [];
      }

  among : NoReceive strands g → (problem : List (Move Rule)) → Contains others problem → Contains (step_problems strands variants g) problem
  among none problem c = subst (λ x. Contains (alone x others) problem) (sym (no_first strands g 0 g.strands (λ j p e. quiet strands g j p none e))) c

  sends_here : (k : ℕ) (p : PStrand) (bar : ℕ) (event : Event) (m : Term) → Last strands g k p bar event m → event.sent ≡ true →
      send_problems strands g k p ≡ (send_move g k p ∷ []) ∷ map (learn_move g k p) (picks g.known) ∷ []
  sends_here k p bar event m last gives =
      cond_true (is_send (last_event strands p)) ((send_move g k p ∷ []) ∷ map (learn_move g k p) (picks g.known) ∷ []) [] (ap is_send (last_is strands g k p bar event m last) ∙ gives)

  send_problem : (k : ℕ) (p : PStrand) → NoReceive strands g → slice_get g.strands k ≡ Some p → (problem : List (Move Rule)) → Contains (send_problems strands g k p) problem → Contains (step_problems strands variants g) problem
  send_problem k p none there problem c =
      among none problem (Contains-append_left (each_place (send_problems strands g) 0 g.strands) (each_place (strand_problems variants g) 0 strands) problem
      (at_zero (send_problems strands g) g.strands k p problem there c))

  pub send_listed : (k : ℕ) (p : PStrand) (bar : ℕ) (event : Event) (m : Term) → NoReceive strands g → Last strands g k p bar event m → event.sent ≡ true → IsListed (send_move g k p)
  send_listed k p bar event m none last gives = record {
    problem = send_move g k p ∷ [];
    listed = send_problem k p none last.there (send_move g k p ∷ [])
        (subst (λ x. Contains x (send_move g k p ∷ [])) (sym (sends_here k p bar event m last gives)) (here (send_move g k p ∷ []) (map (learn_move g k p) (picks g.known) ∷ [])));
    member = here (send_move g k p) [];
  }

  pub learn_listed : (k : ℕ) (p : PStrand) (bar : ℕ) (event : Event) (m : Term) (pick : Pick) → NoReceive strands g → Last strands g k p bar event m → event.sent ≡ true →
      Contains (picks g.known) pick → IsListed (learn_move g k p pick)
  learn_listed k p bar event m pick none last gives c =
      let problem = map (learn_move g k p) (picks g.known) in
      record {
        problem = problem;
        listed = send_problem k p none last.there problem
            (subst (λ x. Contains x problem) (sym (sends_here k p bar event m last gives)) (later (send_move g k p ∷ []) problem (problem ∷ []) (here problem [])));
        member = mapped_member (learn_move g k p) (picks g.known) pick c;
      }

  pub introduce_listed : (s : ℕ) (strand : Strand) (n : ℕ) (v : Variant) (e : ℕ) (event : Event) (pick : Pick) → NoReceive strands g →
      slice_get strands s ≡ Some strand → slice_get (variants strand) n ≡ Some v → slice_get strand.events e ≡ Some event → event.sent ≡ true →
      Contains (picks g.known) pick → IsListed (introduce_move g s strand n v e pick)
  introduce_listed s strand n v e event pick none there listed executed gives c =
      let problem = map (introduce_move g s strand n v e) (picks g.known) in
      let at_event : Contains (event_problems g s strand n v e event) problem =
      subst (λ x. Contains x problem) (sym (cond_true event.sent (problem ∷ []) [] gives)) (here problem []) in
      let at_variant : Contains (variant_problems g s strand n v) problem = at_zero (event_problems g s strand n v) strand.events e event problem executed at_event in
      let at_strand : Contains (strand_problems variants g s strand) problem = at_zero (variant_problems g s strand) (variants strand) n v problem listed at_variant in
      record {
        problem = problem;
        listed = among none problem (Contains-append_right (each_place (send_problems strands g) 0 g.strands) (each_place (strand_problems variants g) 0 strands) problem
            (at_zero (strand_problems variants g) strands s strand problem there at_strand));
        member = mapped_member (introduce_move g s strand n v e) (picks g.known) pick c;
      }

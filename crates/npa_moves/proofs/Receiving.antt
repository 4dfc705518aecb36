-- The first strand that received last.
use Rattle.std.proofs.Common.{◌≡◌, ℕ, zero, suc, ◌+◌, ◌<◌, ◌⊎◌, inl, inr, Bool, true, false, not, None, Some, Option, List, [], ◌∷◌, length, slice_get, get_or, refl, sym, ◌∙◌, ap, arith}
use Rattle.std.proofs.lemmas.Option.{same_Some, none-some, slice_get-get_or}
use Rattle.npa_term.specs.declared.term.Term.{Term, Name}
use Rattle.npa_sig.specs.declared.protocol.Event.{Event}
use Rattle.npa_sig.specs.declared.protocol.Strand.{Strand}
use Rattle.npa_model.specs.declared.pattern.PStrand.{PStrand}
use Rattle.npa_model.specs.declared.pattern.Pattern.{Pattern}
use Rattle.npa_model.specs.Backward.{NoReceive}
use Rattle.npa_model.specs.Patterns.{events_at, map_pattern, map_strand}
use Rattle.npa_model.proofs.Places.{mapped_at}
use Rattle.npa_moves.specs.Leading.{Last, before}
use Rattle.npa_moves.specs.Moves.{event_before, is_receive, last_event}
use Rattle.npa_moves.proofs.Patterned.{taken_at}

-- A strand received last, and no earlier one did; or none did.
data First (strands : List Strand) (ps : List PStrand) : Type 0 where
  none_first : ((j : ℕ) (p : PStrand) → slice_get ps j ≡ Some p → is_receive (last_event strands p) ≡ false) → First strands ps
  one_first : (k : ℕ) (p : PStrand) → slice_get ps k ≡ Some p → is_receive (last_event strands p) ≡ true →
      ((j : ℕ) (q : PStrand) → j < k → slice_get ps j ≡ Some q → is_receive (last_event strands q) ≡ false) → First strands ps

further : (strands : List Strand) (p : PStrand) (ps : List PStrand) → is_receive (last_event strands p) ≡ false → First strands ps → First strands (p ∷ ps)
further strands p ps quiet (none_first all) = none_first all_quiet
  where
    all_quiet : (j : ℕ) (q : PStrand) → slice_get (p ∷ ps) j ≡ Some q → is_receive (last_event strands q) ≡ false
    all_quiet zero q e = ap (λ (x : PStrand). is_receive (last_event strands x)) (sym (same_Some p q e)) ∙ quiet
    all_quiet (suc j) q e = all j q e
further strands p ps quiet (one_first k q e holds earlier) = one_first (suc k) q e holds before_it
  where
    before_it : (j : ℕ) (x : PStrand) → j < suc k → slice_get (p ∷ ps) j ≡ Some x → is_receive (last_event strands x) ≡ false
    before_it zero x less c = ap (λ (y : PStrand). is_receive (last_event strands y)) (sym (same_Some p x c)) ∙ quiet
    before_it (suc j) x less c = earlier j x (omega (arith, less)) c

find_first : (strands : List Strand) (ps : List PStrand) → First strands ps
find_first strands [] = none_first (λ j p e. absurd (none-some p e))
find_first strands (p ∷ ps) = elim (is_receive (last_event strands p)) as (λ b. is_receive (last_event strands p) ≡ b → First strands (p ∷ ps)) [
  | true ↦ λ e. one_first zero p refl e (λ j q less c. let never : ⊥ = omega (arith, less) in absurd never)
  | false ↦ λ e. further strands p ps e (find_first strands ps)
] refl

-- The last event of a strand that received last.
record Received (events : List Event) (bar : ℕ) : Type 0 where
  pub done : ℕ
  pub behind : bar ≡ done + 1
  pub event : Event
  pub executed : slice_get events done ≡ Some event
  pub gets : event.sent ≡ false

untrue : false ≡ true → ⊥
untrue e = cc

turned : (b : Bool) → not b ≡ true → b ≡ false
turned true e = absurd (untrue e)
turned false e = refl

at_event : (events : List Event) (done : ℕ) (x : Option Event) → slice_get events done ≡ x → is_receive x ≡ true → Received events (suc done)
at_event events done None is holds = absurd (untrue holds)
at_event events done (Some event) is holds = record { done = done; behind = omega arith; event = event; executed = is; gets = turned event.sent holds }

received_last : (events : List Event) (bar : ℕ) → is_receive (event_before events bar) ≡ true → Received events bar
received_last events zero holds = absurd (untrue holds)
received_last events (suc done) holds = at_event events done (slice_get events done) refl holds

-- where the last event isn't a receive, it was sent
sent_last : (event : Event) → is_receive (Some event) ≡ false → event.sent ≡ true
sent_last event quiet = straight event.sent quiet
  where
    true_not_false : true ≡ false → ⊥
    true_not_false e = cc

    straight : (b : Bool) → not b ≡ false → b ≡ true
    straight true e = refl
    straight false e = absurd (true_not_false e)

no_receive : (strands : List Strand) (g : Pattern) → ((j : ℕ) (p : PStrand) → slice_get g.strands j ≡ Some p → is_receive (last_event strands p) ≡ false) → NoReceive strands g
no_receive strands g all = λ k bar p event there behind executed.
    let is : last_event strands p ≡ Some event = ap (event_before (events_at strands p.strand)) (let n : p.bar ≡ suc bar = omega (arith, behind) in n) ∙ executed in
    sent_last event (ap is_receive (sym is) ∙ all k p there)

-- The first receive of a pattern whose strands have their messages.
pub record FirstReceive (strands : List Strand) (g : Pattern) : Type 0 where
  pub k : ℕ
  pub p : PStrand
  pub bar : ℕ
  pub event : Event
  pub m : Term
  pub last : Last strands g k p bar event m
  pub gets : event.sent ≡ false
  pub none : NoReceive strands (before k g)

pub first_or_none : (strands : List Strand) (g : Pattern) → ((k : ℕ) (p : PStrand) → slice_get g.strands k ≡ Some p → length p.msgs ≡ p.bar) → FirstReceive strands g ⊎ NoReceive strands g
first_or_none strands g messages = by_first (find_first strands g.strands)
  where
    by_first : First strands g.strands → FirstReceive strands g ⊎ NoReceive strands g
    by_first (none_first all) = inr (no_receive strands g all)
    by_first (one_first k p there holds earlier) =
        let r = received_last (events_at strands p.strand) p.bar holds in
        let within : r.done < length p.msgs = omega (arith, r.behind, messages k p there) in
        inl (record {
          k = k;
          p = p;
          bar = r.done;
          event = r.event;
          m = get_or p.msgs r.done (Name 0);
          last = record { there = there; behind = r.behind; executed = r.executed; message = slice_get-get_or p.msgs r.done (Name 0) within };
          gets = r.gets;
          none = no_receive strands (before k g) (λ j q e. let front = taken_at k g.strands j q e in earlier j q front.0 front.1);
        })

-- no strand received last under a function either
pub mapped_none : (f : Term → Term) (strands : List Strand) (g : Pattern) → NoReceive strands g → NoReceive strands (map_pattern f g)
mapped_none f strands g none = λ k bar p event there behind executed.
    let was = mapped_at (map_strand f) g.strands k p there in
    none k bar was.0 event was.1 (ap (λ (x : PStrand). x.bar) was.2 ∙ behind)
    (ap (λ (x : PStrand). slice_get (events_at strands x.strand) bar) was.2 ∙ executed)

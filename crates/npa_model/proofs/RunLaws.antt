-- A step has one outcome, and a schedule is executed in one way or breaks at one step.
use Rattle.std.proofs.Common.{◌≡◌, ℕ, zero, suc, ◌+◌, ◌<◌, ◌≤◌, ⊎_elim, true, false, List, [], ◌∷◌, ◌++◌, None, Some, Result, Ok, Err, refl, ap, sym, ◌∙◌, subst, slice_get, take, length, Contains, arith}
use Rattle.std.proofs.lemmas.Bool.{cases_lt, cases_order}
use Rattle.std.proofs.lemmas.List.{same_from_push, take-append-le, take-take, take_at, length_push}
use Rattle.std.proofs.lemmas.Option.{same_Some, none-some, slice_get_within}
use Rattle.npa_term.specs.declared.term.Term.{Term}
use Rattle.npa_sig.specs.declared.protocol.Event.{Event}
use Rattle.npa_sig.specs.declared.protocol.Strand.{Strand}
use Rattle.npa_model.specs.declared.run.Instance.{Instance}
use Rattle.npa_model.specs.declared.run.Cause.{Cause}
use Rattle.npa_model.specs.declared.run.Cause.TheVariants as cause
use Rattle.npa_model.specs.Runs.{events_of, executions, message_of, Next, Happens, no_instance, ended, unsent, receives, sends, Executes, begin, step, BreaksAt}

slice_get_left : (xs ys : List ℕ) (k : ℕ) → k < length xs → slice_get (xs ++ ys) k ≡ slice_get xs k
slice_get_left [] ys k l = absurd (omega arith)
slice_get_left (x ∷ xs) ys zero l = refl
slice_get_left (x ∷ xs) ys (suc k) l = slice_get_left xs ys k (omega arith)

slice_get_last : (xs : List ℕ) (x : ℕ) → slice_get (xs ++ x ∷ []) (length xs) ≡ Some x
slice_get_last [] x = refl
slice_get_last (y ∷ xs) x = slice_get_last xs x

slice_get_front : (n : ℕ) (xs : List ℕ) (k : ℕ) → k < n → slice_get (take n xs) k ≡ slice_get xs k
slice_get_front zero xs k l = absurd (omega arith)
slice_get_front (suc n) [] k l = refl
slice_get_front (suc n) (x ∷ xs) zero l = refl
slice_get_front (suc n) (x ∷ xs) (suc k) l = slice_get_front n xs k (omega arith)

nil_not_push : (xs : List ℕ) (x : ℕ) → [] ≡ xs ++ x ∷ [] → ⊥
nil_not_push [] x e = cc
nil_not_push (y ∷ xs) x e = cc

module _ (nf : Term → Term) (strands : List Strand) (instances : List Instance) where
  same_next : {done i : ℕ} {a b : Instance} {e f : Event} → Next nf strands instances done i a e → Next nf strands instances done i b f → (a ≡ b) × (e ≡ f)
  same_next {done} {i} {a} {b} {e} {f} p q =
      let same : a ≡ b = same_Some a b (sym p.there ∙ q.there) in
      (same, same_Some e f (sym p.next ∙ ap (λ (x : Instance). slice_get (events_of strands x) done) same ∙ q.next))

  -- the event that an instance executes next has one message
  pub same_message : {done i : ℕ} {a b : Instance} {e f : Event} → Next nf strands instances done i a e → Next nf strands instances done i b f → message_of nf strands instances a e ≡ message_of nf strands instances b f
  same_message p q = let s = same_next p q in λ j. message_of nf strands instances (s.0 j) (s.1 j)

  missing_next : {done i : ℕ} {a : Instance} {e : Event} → slice_get instances i ≡ None → Next nf strands instances done i a e → ⊥
  missing_next {a = a} none p = none-some a (sym none ∙ p.there)

  ended_next : {done i : ℕ} {a b : Instance} {e : Event} → slice_get instances i ≡ Some a → slice_get (events_of strands a) done ≡ None → Next nf strands instances done i b e → ⊥
  ended_next {done} {i} {a} {b} {e} there none p =
      let same : a ≡ b = same_Some a b (sym there ∙ p.there) in
      none-some e (sym none ∙ ap (λ (x : Instance). slice_get (events_of strands x) done) same ∙ p.next)

  -- and is sent or received, not both
  pub both_kinds : {done i : ℕ} {a b : Instance} {e f : Event} → Next nf strands instances done i a e → Next nf strands instances done i b f → e.sent ≡ true → f.sent ≡ false → ⊥
  both_kinds {e = e} {f = f} p q t u = let same : e ≡ f = (same_next p q).1 in cc

  both_sent : {done i : ℕ} {a b : Instance} {e f : Event} (sent : List Term) → Next nf strands instances done i a e → Next nf strands instances done i b f → Contains sent (message_of nf strands instances a e) → (Contains sent (message_of nf strands instances b f) → ⊥) → ⊥
  both_sent sent p q was wasnt = wasnt (subst (λ (t : Term). Contains sent t) (same_message p q) was)

  -- a step has one outcome
  pub one_outcome : {done : ℕ} {sent : List Term} {i : ℕ} {r s : Result (List Term) Cause} → Happens nf strands instances done sent i r → Happens nf strands instances done sent i s → r ≡ s
  one_outcome (no_instance e) (no_instance f) = refl
  one_outcome (no_instance e) (ended b f u) = absurd (none-some b (sym e ∙ f))
  one_outcome (no_instance e) (unsent b f n u c) = absurd (missing_next e n)
  one_outcome (no_instance e) (receives b f n u c) = absurd (missing_next e n)
  one_outcome (no_instance e) (sends b f n u) = absurd (missing_next e n)
  one_outcome (ended a e t) (no_instance f) = absurd (none-some a (sym f ∙ e))
  one_outcome (ended a e t) (ended b f u) = refl
  one_outcome (ended a e t) (unsent b f n u c) = absurd (ended_next e t n)
  one_outcome (ended a e t) (receives b f n u c) = absurd (ended_next e t n)
  one_outcome (ended a e t) (sends b f n u) = absurd (ended_next e t n)
  one_outcome (unsent a e m t d) (no_instance f) = absurd (missing_next f m)
  one_outcome (unsent a e m t d) (ended b f u) = absurd (ended_next f u m)
  one_outcome (unsent a e m t d) (unsent b f n u c) = ap (λ (x : Term). Err (cause.Unsent x)) (same_message m n)
  one_outcome {sent = sent} (unsent a e m t d) (receives b f n u c) = absurd (both_sent sent n m c d)
  one_outcome (unsent a e m t d) (sends b f n u) = absurd (both_kinds n m u t)
  one_outcome (receives a e m t d) (no_instance f) = absurd (missing_next f m)
  one_outcome (receives a e m t d) (ended b f u) = absurd (ended_next f u m)
  one_outcome {sent = sent} (receives a e m t d) (unsent b f n u c) = absurd (both_sent sent m n d c)
  one_outcome (receives a e m t d) (receives b f n u c) = refl
  one_outcome (receives a e m t d) (sends b f n u) = absurd (both_kinds n m u t)
  one_outcome (sends a e m t) (no_instance f) = absurd (missing_next f m)
  one_outcome (sends a e m t) (ended b f u) = absurd (ended_next f u m)
  one_outcome (sends a e m t) (unsent b f n u c) = absurd (both_kinds m n t u)
  one_outcome (sends a e m t) (receives b f n u c) = absurd (both_kinds m n t u)
  one_outcome {sent = sent} (sends a e m t) (sends b f n u) = ap (λ (x : Term). Ok (sent ++ x ∷ [])) (same_message m n)

  -- a step at equal places is one step
  pub at_one : {done more : ℕ} {sent told : List Term} {i k : ℕ} {r : Result (List Term) Cause} → done ≡ more → sent ≡ told → i ≡ k → Happens nf strands instances done sent i r → Happens nf strands instances more told k r
  at_one {done} {more} {sent} {told} {i} {k} {r} d s e h =
      subst (λ (n : ℕ). Happens nf strands instances more told n r) e
      (subst (λ (ts : List Term). Happens nf strands instances more ts i r) s
      (subst (λ (n : ℕ). Happens nf strands instances n sent i r) d h))

  same_count : {i k : ℕ} {xs ys : List ℕ} → i ≡ k → xs ≡ ys → executions i xs ≡ executions k ys
  same_count e f = λ j. executions (e j) (f j)

  same_ok : {ts us : List Term} → ◌≡◌ {A = Result (List Term) Cause} (Ok ts) (Ok us) → ts ≡ us
  same_ok e = cc

  same_err : {c d : Cause} → ◌≡◌ {A = Result (List Term) Cause} (Err c) (Err d) → c ≡ d
  same_err e = cc

  ok_not_err : {ts : List Term} {c : Cause} → ◌≡◌ {A = Result (List Term) Cause} (Ok ts) (Err c) → ⊥
  ok_not_err e = cc

  -- a schedule that is executed sends one list of terms
  pub one_list : {xs ys : List ℕ} {ts us : List Term} → Executes nf strands instances xs ts → Executes nf strands instances ys us → xs ≡ ys → ts ≡ us
  one_list begin begin e = refl
  one_list begin (step ys us vs k y g) e = absurd (nil_not_push ys k e)
  one_list (step xs ts ws i x h) begin e = absurd (nil_not_push xs i (sym e))
  one_list (step xs ts ws i x h) (step ys us vs k y g) e =
      let same = same_from_push xs ys i k e in
      same_ok (one_outcome (at_one (same_count same.1 same.0) (one_list x y same.0) same.1 h) g)

  -- what was sent before and after one step of a schedule
  record Passed (xs : List ℕ) (n i : ℕ) : Type 0 where
    sent : List Term
    after : List Term
    executes : Executes nf strands instances (take n xs) sent
    happens : Happens nf strands instances (executions i (take n xs)) sent i (Ok after)

  passes : (xs ys : List ℕ) (n i : ℕ) → take n ys ≡ take n xs → Passed xs n i → Passed ys n i
  passes xs ys n i e p = record {
    sent = p.sent;
    after = p.after;
    executes = subst (λ (zs : List ℕ). Executes nf strands instances zs p.sent) (sym e) p.executes;
    happens = subst (λ (zs : List ℕ). Happens nf strands instances (executions i zs) p.sent i (Ok p.after)) (sym e) p.happens;
  }

  passes_last : (xs : List ℕ) (ts us : List Term) (k n i : ℕ) → Executes nf strands instances xs ts → Happens nf strands instances (executions k xs) ts k (Ok us) → n ≡ length xs → k ≡ i → Passed (xs ++ k ∷ []) n i
  passes_last xs ts us k n i x h l e =
      let front : take n (xs ++ k ∷ []) ≡ xs = take_at xs (k ∷ []) n (sym l) in
      record {
        sent = ts;
        after = us;
        executes = subst (λ (zs : List ℕ). Executes nf strands instances zs ts) (sym front) x;
        happens = at_one (same_count e (sym front)) refl e h;
      }

  -- each step of a schedule that is executed was executed
  passed : {xs : List ℕ} {ts : List Term} → Executes nf strands instances xs ts → (n i : ℕ) → slice_get xs n ≡ Some i → Passed xs n i
  passed begin n i e = absurd (none-some i e)
  passed (step xs ts us k x h) n i e = ⊎_elim
      (λ (l : n < length xs). passes xs (xs ++ k ∷ []) n i (take-append-le n xs (k ∷ []) (omega arith)) (passed x n i (sym (slice_get_left xs (k ∷ []) n l) ∙ e)))
      (λ (l : length xs ≤ n).
      let at : n ≡ length xs = omega (arith, slice_get_within (xs ++ k ∷ []) n i e, length_push xs k) in
      passes_last xs ts us k n i x h at (same_Some k i (sym (slice_get_last xs k) ∙ ap (slice_get (xs ++ k ∷ [])) (sym at) ∙ e)))
      (cases_lt n (length xs))

  -- a schedule that is executed doesn't break at one of its steps
  no_break : {xs ys : List ℕ} {ts us : List Term} → Executes nf strands instances xs ts → (n i : ℕ) → slice_get xs n ≡ Some i → take n xs ≡ ys → Executes nf strands instances ys us → (why : Cause) → Happens nf strands instances (executions i ys) us i (Err why) → ⊥
  no_break x n i e front y why h =
      let p = passed x n i e in
      ok_not_err (one_outcome (at_one (ap (executions i) front) (one_list p.executes y front) refl p.happens) h)

  pub whole_or_breaks : {xs : List ℕ} {ts : List Term} {j : ℕ} {why : Cause} → Executes nf strands instances xs ts → BreaksAt nf strands instances xs j why → ⊥
  whole_or_breaks {why = why} x b = no_break x b.before b.i b.named refl b.executes why b.breaks

  breaks_in_order : (xs : List ℕ) (j k : ℕ) (why because : Cause) (b : BreaksAt nf strands instances xs j why) (c : BreaksAt nf strands instances xs k because) → b.before < c.before → ⊥
  breaks_in_order xs j k why because b c l =
      no_break c.executes b.before b.i (slice_get_front c.before xs b.before l ∙ b.named) (take-take b.before c.before xs (omega arith)) b.executes why b.breaks

  breaks_there : (xs : List ℕ) (j k : ℕ) (why because : Cause) (b : BreaksAt nf strands instances xs j why) (c : BreaksAt nf strands instances xs k because) → b.before ≡ c.before → (j ≡ k) × (why ≡ because)
  breaks_there xs j k why because b c e =
      let front : take b.before xs ≡ take c.before xs = ap (λ (n : ℕ). take n xs) e in
      let named : b.i ≡ c.i = same_Some b.i c.i (sym b.named ∙ ap (slice_get xs) e ∙ c.named) in (
        b.place ∙ ap (λ (n : ℕ). n + 1) e ∙ sym c.place,
        same_err (one_outcome (at_one (same_count named front) (one_list b.executes c.executes front) named b.breaks) c.breaks),
      )

  -- a schedule breaks at one step at most, and for one cause
  pub one_break : {xs : List ℕ} {j k : ℕ} {why because : Cause} → BreaksAt nf strands instances xs j why → BreaksAt nf strands instances xs k because → (j ≡ k) × (why ≡ because)
  one_break {xs} {j} {k} {why} {because} b c = ⊎_elim
      (breaks_there xs j k why because b c)
      (⊎_elim
      (λ l. absurd (breaks_in_order xs j k why because b c l))
      (λ l. absurd (breaks_in_order xs k j because why c b l)))
      (cases_order b.before c.before)

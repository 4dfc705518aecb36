-- Parts are met by some assignment and some instances exactly where targets can be taken for them, one
-- after another, whose pairs of terms can be matched together.
use Rattle.std.specs.Prelude.{zip}
use Rattle.std.proofs.Common.{◌≡◌, ℕ, ⊎_elim, true, List, [], ◌∷◌, ◌++◌, Some, map, length, slice_get, get_or, Contains, refl, ap, sym, ◌∙◌, subst, arith}
use Rattle.std.proofs.lemmas.List.Elements.{Contains-append_left, Contains-append_right, Contains-append_cases, Contains-push, Contains-get_or}
use Rattle.std.proofs.lemmas.Option.{same_Some, slice_get-get_or}
use Rattle.npa_term.specs.declared.term.Term.{Term}
use Rattle.npa_term.specs.Canonical.{canonical}
use Rattle.npa_term.specs.Parts.{IsPart, least_sort as sort_of}
use Rattle.npa_term.proofs.CanonicalLaws.{canonical-canonical}
use Rattle.npa_sig.specs.declared.protocol.Strand.{Strand}
use Rattle.npa_sig.specs.Signature.{Signature}
use Rattle.npa_sig.specs.Sorting.{all_below}
use Rattle.npa_model.specs.declared.aim.Part.{Part}
use Rattle.npa_model.specs.declared.aim.Part.TheVariants as part
use Rattle.npa_model.specs.declared.run.Instance.{Instance}
use Rattle.npa_model.specs.declared.run.Run.{Run}
use Rattle.npa_sig.specs.Values.{under}
use Rattle.npa_model.specs.Runs.{executions}
use Rattle.npa_model.specs.Accepted.{part_terms}
use Rattle.npa_model.specs.Instances.{IsInstance}
use Rattle.npa_sig.specs.Parameters.{param_sorts}
use Rattle.npa_rewrite.specs.Normal.{IsNormalTerm}
use Rattle.npa_model.specs.WellFormed.{IsWellFormedPart}
use Rattle.npa_sig.specs.WellFormed.{IsOwn, IsTermOver}
use Rattle.npa_model.specs.Aims.{Meets, nothing, known, strand, MeetsSomehow}
use Rattle.npa_model.specs.State.{State, done_of}
use Rattle.npa_model.proofs.InstanceLaws.{are_even}
use Rattle.npa_match.specs.Matching.{HasMatch, HasMatcher}
use Rattle.npa_replay.specs.Choices.{with_values, with_term, target_pairs, Can, done, next}
use Rattle.npa_replay.proofs.Assigning.{HasNormalTerm, IsGoodPair, AreGood, assigned, matched}
use Rattle.npa_replay.proofs.Members.{contains_cases, contains_head, contains_tail, contains_one, free_none, free_one}

-- a pair of members at one place
record AtBoth (ts us : List Term) (p : Term × Term) : Type 0 where
  left : Contains ts p.0
  right : Contains us p.1

zip_members : (ts us : List Term) (p : Term × Term) → Contains (zip ts us) p → AtBoth ts us p
zip_members [] us p h = absurd (omega (arith, h.1))
zip_members (t ∷ ts) [] p h = absurd (omega (arith, h.1))
zip_members (t ∷ ts) (u ∷ us) p h = ⊎_elim
    (λ (here : (t, u) ≡ p). record {
      left = subst (λ (x : Term). Contains (t ∷ ts) x) (ap (λ (q : Term × Term). q.0) here) (contains_head t ts);
      right = subst (λ (x : Term). Contains (u ∷ us) x) (ap (λ (q : Term × Term). q.1) here) (contains_head u us);
    })
    (λ later. let b = zip_members ts us p later in record { left = contains_tail t ts p.0 b.left; right = contains_tail u us p.1 b.right })
    (contains_cases (t, u) (zip ts us) p h)

abbrev rest_of : List Term → List Term
rest_of [] = []
rest_of (x ∷ xs) = xs

module _ (values : List Term) where
  -- lists of which each pair is equal
  zip_equal : (ts us : List Term) → length ts ≡ length us → ((p : Term × Term) → Contains (zip ts us) p → canonical (under values p.0) ≡ canonical p.1) → map canonical us ≡ map (λ t. canonical (under values t)) ts
  zip_equal [] [] e each = refl
  zip_equal [] (u ∷ us) e each = absurd (omega (arith, e))
  zip_equal (t ∷ ts) [] e each = absurd (omega (arith, e))
  zip_equal (t ∷ ts) (u ∷ us) e each =
      ap (λ (x : Term). x ∷ map canonical us) (sym (each (t, u) (contains_head (t, u) (zip ts us))))
      ∙ ap (λ (xs : List Term). canonical (under values t) ∷ xs) (zip_equal ts us (omega (arith, e)) (λ p h. each p (contains_tail (t, u) (zip ts us) p h)))

  equal_zip : (ts us : List Term) → map canonical us ≡ map (λ t. canonical (under values t)) ts → (p : Term × Term) → Contains (zip ts us) p → canonical (under values p.0) ≡ canonical p.1
  equal_zip [] us e p h = absurd (omega (arith, h.1))
  equal_zip (t ∷ ts) [] e p h = absurd (omega (arith, h.1))
  equal_zip (t ∷ ts) (u ∷ us) e p h = ⊎_elim
      (λ (here : (t, u) ≡ p). subst (λ (q : Term × Term). canonical (under values q.0) ≡ canonical q.1) here (sym (ap (λ (xs : List Term). get_or xs 0 t) e)))
      (λ later. equal_zip ts us (ap (λ (xs : List Term). rest_of xs) e) p later)
      (contains_cases (t, u) (zip ts us) p h)

-- a well-formed part whose terms have this property
abbrev pub IsFormed : (Term → Type 0) → Signature → List Strand → List ℕ → Part → Type 0
IsFormed B sig strands sorts p = IsWellFormedPart sig strands sorts p × ((t : Term) → Contains (part_terms p) t → B t)

-- the values leave each term over the aim's variables that has this property normal
abbrev pub Keeps : (Term → Term) → (Term → Type 0) → Signature → List ℕ → List Term → Type 0
Keeps nf B sig sorts values = (t : Term) → IsTermOver sig sorts t → B t → nf (under values t) ≡ canonical (under values t)

module _ (nf : Term → Term) (B : Term → Type 0) (sig : Signature) (strands : List Strand) (sorts : List ℕ) (run : Run) (state : State)
    (part_keeps : (t u : Term) → IsPart t u → nf u ≡ canonical u → nf t ≡ canonical t)
    (value_keeps : (values : List Term) → all_below sig (map sort_of values) sorts ≡ true → ((t : Term) → Contains values t → IsNormalTerm nf sig t) → Keeps nf B sig sorts values)
    (instances : (k : ℕ) (instance : Instance) → slice_get run.instances k ≡ Some instance → IsInstance nf sig strands instance)
    (sent_good : (u : Term) → Contains state.sent u → IsNormalTerm nf sig u × (canonical u ≡ u))
    (counts : (i : ℕ) → done_of state i ≡ executions i run.schedule) where
  abbrev Good : List (Term × Term) → Type 0
  Good = AreGood nf sig sorts

  -- the values leave each of these terms normal
  kept_all : (values : List Term) → Keeps nf B sig sorts values → (ts : List Term) → ((t : Term) → Contains ts t → IsTermOver sig sorts t) → ((t : Term) → Contains ts t → B t) →
      map (λ t. nf (under values t)) ts ≡ map (λ t. canonical (under values t)) ts
  kept_all values keeps [] over bare = refl
  kept_all values keeps (t ∷ ts) over bare =
      ap (λ u. u ∷ map (λ t. nf (under values t)) ts) (keeps t (over t (contains_head t ts)) (bare t (contains_head t ts)))
      ∙ ap (λ us. canonical (under values t) ∷ us) (kept_all values keeps ts (λ u h. over u (contains_tail t ts u h)) (λ u h. bare u (contains_tail t ts u h)))

  good_more : (ps qs : List (Term × Term)) → Good ps → Good qs → Good (ps ++ qs)
  good_more ps qs a b p h = ⊎_elim (λ l. a p l) (λ r. b p r) (Contains-append_cases ps qs p h)

  -- a sent term as a target
  sent_pairs : (t u : Term) (n : ℕ) → slice_get state.sent n ≡ Some u → target_pairs run.instances state (part.Known t) n ≡ (t, u) ∷ []
  sent_pairs t u n e = ap (with_term t) e

  -- an instance as a target
  instance_pairs : (number bar : ℕ) (args : List Term) (n : ℕ) (i : Instance) → slice_get run.instances n ≡ Some i → target_pairs run.instances state (part.Strand number bar args) n ≡ zip args i.args
  instance_pairs number bar args n i e = ap (with_values args) e

  -- the targets that some parts take, and a matcher of all pairs: what an assignment that makes the
  -- pairs equal meets
  record Chosen (values : List Term) (ps : List Part) (used : List ℕ) : Type 0 where
    chosen : List ℕ
    meets : Meets nf run state.sent values ps chosen
    free : (n : ℕ) → Contains chosen n → Contains used n → ⊥

  record Found (ps : List Part) (used : List ℕ) (pairs : List (Term × Term)) : Type 0 where
    all : List (Term × Term)
    matcher : HasMatcher sig.sorts all
    good : Good all
    among : (p : Term × Term) → Contains pairs p → Contains all p
    meets : (values : List Term) → Keeps nf B sig sorts values → ((p : Term × Term) → Contains all p → canonical (under values p.0) ≡ canonical p.1) → Chosen values ps used

  found : {ps : List Part} {used : List ℕ} {pairs : List (Term × Term)} → Can run.instances state (HasMatcher sig.sorts) ps used pairs → Good pairs → ((p : Part) → Contains ps p → IsFormed B sig strands sorts p) → Found ps used pairs
  found (done used pairs m) good parts = record {
    all = pairs;
    matcher = m;
    good = good;
    among = λ p h. h;
    meets = λ values keeps equal. record { chosen = []; meets = nothing; free = λ n h. absurd (omega (arith, h.1)) };
  }
  found (next (part.Known t) ps used pairs n target free c) good parts =
      let u : Term = get_or state.sent n t in
      let there : slice_get state.sent n ≡ Some u = slice_get-get_or state.sent n t target in
      let was : Contains state.sent u = Contains-get_or state.sent n t target in
      let more : target_pairs run.instances state (part.Known t) n ≡ (t, u) ∷ [] = sent_pairs t u n there in
      let formed = parts (part.Known t) (contains_head (part.Known t) ps) in
      let wf = formed.0 in
      let one : Good (target_pairs run.instances state (part.Known t) n) = λ p h.
      let same : (t, u) ≡ p = contains_one (t, u) p (subst (λ (qs : List (Term × Term)). Contains qs p) more h) in
      subst (λ (q : Term × Term). IsGoodPair nf sig sorts q) same (record { first = wf.term; second = (sent_good u was).0 }) in
      let f = found c (good_more pairs (target_pairs run.instances state (part.Known t) n) good one) (λ p h. parts p (contains_tail (part.Known t) ps p h)) in
      record {
        all = f.all;
        matcher = f.matcher;
        good = f.good;
        among = λ p h. f.among p (Contains-append_left pairs (target_pairs run.instances state (part.Known t) n) p h);
        meets = λ values keeps equal.
            let x = f.meets values keeps equal in
            let here : Contains f.all (t, u) = f.among (t, u) (Contains-append_right pairs (target_pairs run.instances state (part.Known t) n) (t, u) (subst (λ (qs : List (Term × Term)). Contains qs (t, u)) (sym more) (contains_head (t, u) []))) in
            let e : nf (under values t) ≡ u = keeps t wf.term (formed.1 t (contains_head t [])) ∙ equal (t, u) here ∙ (sent_good u was).1 in
            record {
              chosen = x.chosen;
              meets = known t ps x.chosen (subst (λ (v : Term). Contains state.sent v) (sym e) was) x.meets;
              free = λ m h w. x.free m h (Contains-append_left used [] m w);
            };
      }
  found (next (part.Strand number bar args) ps used pairs n target free c) good parts =
      let i : Instance = target.0 in
      let there : slice_get run.instances n ≡ Some i = target.1 in
      let is = instances n i there in
      let formed = parts (part.Strand number bar args) (contains_head (part.Strand number bar args) ps) in
      let wf = formed.0 in
      let more : target_pairs run.instances state (part.Strand number bar args) n ≡ zip args i.args = instance_pairs number bar args n i there in
      let one : Good (target_pairs run.instances state (part.Strand number bar args) n) = λ p h.
      let both = zip_members args i.args p (subst (λ (qs : List (Term × Term)). Contains qs p) more h) in
      record { first = wf.terms p.0 both.left; second = is.normal p.1 both.right } in
      let f = found c (good_more pairs (target_pairs run.instances state (part.Strand number bar args) n) good one) (λ p h. parts p (contains_tail (part.Strand number bar args) ps p h)) in
      let same_strand : wf.strand ≡ is.strand = same_Some wf.strand is.strand (sym wf.there ∙ ap (slice_get strands) (sym target.2) ∙ is.there) in
      let even : length args ≡ length i.args =
      are_even nf sig strands args (param_sorts wf.strand) wf.below ∙ ap (λ (x : Strand). length (param_sorts x)) same_strand ∙ sym (are_even nf sig strands i.args (param_sorts is.strand) is.sorts) in
      record {
        all = f.all;
        matcher = f.matcher;
        good = f.good;
        among = λ p h. f.among p (Contains-append_left pairs (target_pairs run.instances state (part.Strand number bar args) n) p h);
        meets = λ values keeps equal.
            let x = f.meets values keeps equal in
            record {
              chosen = n ∷ x.chosen;
              meets = strand number bar args ps n x.chosen
                  (record {
                    instance = i;
                    there = there;
                    same_strand = target.2;
                    executed = sym (counts n) ∙ target.3;
                    same_values = zip_equal values args i.args even (λ p h. equal p (f.among p (Contains-append_right pairs (target_pairs run.instances state (part.Strand number bar args) n) p (subst (λ (qs : List (Term × Term)). Contains qs p) (sym more) h)))) ∙ sym (kept_all values keeps args wf.terms formed.1);
                  })
                  (λ h. x.free n h (Contains-push used n)) x.meets;
              free = λ m h w. ⊎_elim
                  (λ (here : n ≡ m). free.apart n (contains_head n []) (subst (λ (k : ℕ). Contains used k) (sym here) w))
                  (λ later. x.free m later (Contains-append_left used (n ∷ []) m w))
                  (contains_cases n x.chosen m h);
            };
      }

  -- what can be met by targets is met by an assignment
  pub met_somehow : (ps : List Part) → ((p : Part) → Contains ps p → IsFormed B sig strands sorts p) → ((i n : ℕ) → slice_get sorts i ≡ Some n → HasNormalTerm nf sig n) →
      Can run.instances state (HasMatcher sig.sorts) ps [] [] → MeetsSomehow nf sig sorts run state.sent ps
  met_somehow ps parts has c =
      let f = found c (λ p h. absurd (omega (arith, h.1))) parts in
      let a = assigned nf sig sorts part_keeps f.all f.good f.matcher.by_ f.matcher.is has in
      let x = f.meets a.values (value_keeps a.values a.sorted a.good) a.equal in
      record {
        values = a.values;
        assigns = record { sorted = a.sorted; normal = a.good };
        chosen = x.chosen;
        meets = x.meets;
      }

  -- and the other way round
  module _ (values : List Term) (below : all_below sig (map sort_of values) sorts ≡ true) (normal : (t : Term) → Contains values t → IsNormalTerm nf sig t) where
    keeps : Keeps nf B sig sorts values
    keeps = value_keeps values below normal

    abbrev Equal_ : List (Term × Term) → Type 0
    Equal_ pairs = (p : Term × Term) → Contains pairs p → IsOwn sorts p.0 × (canonical (under values p.0) ≡ canonical p.1)

    equal_more : (ps qs : List (Term × Term)) → Equal_ ps → Equal_ qs → Equal_ (ps ++ qs)
    equal_more ps qs a b p h = ⊎_elim (λ l. a p l) (λ r. b p r) (Contains-append_cases ps qs p h)

    place_of : (us : List Term) (t : Term) (h : Contains us t) → slice_get us h.0 ≡ Some t
    place_of us t h = slice_get-get_or us h.0 t h.1 ∙ ap Some h.2

    targets : {ps : List Part} {chosen : List ℕ} → Meets nf run state.sent values ps chosen → (used : List ℕ) (pairs : List (Term × Term)) →
        ((n : ℕ) → Contains chosen n → Contains used n → ⊥) → ((p : Part) → Contains ps p → IsFormed B sig strands sorts p) → Equal_ pairs → Can run.instances state (HasMatch sig.sorts) ps used pairs
    targets nothing used pairs free parts equal = done used pairs (matched sig sorts values below pairs equal)
    targets (known t ps chosen was m) used pairs free parts equal =
        let u = nf (under values t) in
        let n = was.0 in
        let there : slice_get state.sent n ≡ Some u = place_of state.sent u was in
        let more : target_pairs run.instances state (part.Known t) n ≡ (t, u) ∷ [] = sent_pairs t u n there in
        let formed = parts (part.Known t) (contains_head (part.Known t) ps) in
        let wf = formed.0 in
        let one : Equal_ (target_pairs run.instances state (part.Known t) n) = λ p h.
        let same : (t, u) ≡ p = contains_one (t, u) p (subst (λ (qs : List (Term × Term)). Contains qs p) more h) in
        subst (λ (q : Term × Term). IsOwn sorts q.0 × (canonical (under values q.0) ≡ canonical q.1)) same (wf.term.own, sym (canonical-canonical (under values t)) ∙ ap canonical (sym (keeps t wf.term (formed.1 t (contains_head t []))))) in
        next (part.Known t) ps used pairs n was.1 (free_none used)
        (targets m (used ++ []) (pairs ++ target_pairs run.instances state (part.Known t) n)
        (λ k h w. free k h (⊎_elim (λ l. l) (λ r. absurd (omega (arith, r.1))) (Contains-append_cases used [] k w)))
        (λ p h. parts p (contains_tail (part.Known t) ps p h)) (equal_more pairs (target_pairs run.instances state (part.Known t) n) equal one))
    targets (strand number bar args ps n chosen plays new m) used pairs free parts equal =
        let i = plays.instance in
        let formed = parts (part.Strand number bar args) (contains_head (part.Strand number bar args) ps) in
        let wf = formed.0 in
        let more : target_pairs run.instances state (part.Strand number bar args) n ≡ zip args i.args = instance_pairs number bar args n i plays.there in
        let one : Equal_ (target_pairs run.instances state (part.Strand number bar args) n) = λ p h.
        let inside = subst (λ (qs : List (Term × Term)). Contains qs p) more h in
        ((wf.terms p.0 (zip_members args i.args p inside).left).own, equal_zip values args i.args (plays.same_values ∙ kept_all values keeps args wf.terms formed.1) p inside) in
        next (part.Strand number bar args) ps used pairs n (i, plays.there, plays.same_strand, counts n ∙ plays.executed)
        ((free_one used n).0 (λ w. free n (contains_head n chosen) w))
        (targets m (used ++ n ∷ []) (pairs ++ target_pairs run.instances state (part.Strand number bar args) n)
        (λ k h w. ⊎_elim (λ l. free k (contains_tail n chosen k h) l) (λ r. new (subst (λ (j : ℕ). Contains chosen j) (sym (contains_one n k r)) h)) (Contains-append_cases used (n ∷ []) k w))
        (λ p h. parts p (contains_tail (part.Strand number bar args) ps p h)) (equal_more pairs (target_pairs run.instances state (part.Strand number bar args) n) equal one))

  pub somehow_met : (ps : List Part) → ((p : Part) → Contains ps p → IsFormed B sig strands sorts p) → MeetsSomehow nf sig sorts run state.sent ps → Can run.instances state (HasMatch sig.sorts) ps [] []
  somehow_met ps parts m = targets m.values m.assigns.sorted m.assigns.normal m.meets [] [] (λ n h w. absurd (omega (arith, w.1))) parts (λ p h. absurd (omega (arith, h.1)))

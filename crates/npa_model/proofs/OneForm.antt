-- Functions that have the same normal forms of ground terms make the same runs, which reach the same
-- aims.
use Rattle.std.proofs.Common.{◌≡◌, ℕ, zero, suc, ◌+◌, ◌==◌, List, [], ◌∷◌, ◌++◌, Option, None, Some, Result, Ok, Err, map, length, take, slice_get, cond, Contains, refl, ap, sym, ◌∙◌, subst, arith}
use Rattle.std.specs.Option.{option_map, option_or}
use Rattle.std.proofs.lemmas.List.Elements.{Contains-append_left, Contains-append_right}
use Rattle.npa_term.specs.declared.term.Term.{Term}
use Rattle.npa_term.specs.Canonical.{canonical}
use Rattle.npa_term.specs.Computed.{equal}
use Rattle.npa_sig.specs.declared.protocol.Event.{Event}
use Rattle.npa_sig.specs.declared.protocol.Strand.{Strand}
use Rattle.npa_sig.specs.declared.protocol.Protocol.{Protocol}
use Rattle.npa_sig.specs.Signature.{Signature}
use Rattle.npa_model.specs.declared.aim.Aim.{Aim}
use Rattle.npa_model.specs.declared.aim.Part.{Part}
use Rattle.npa_model.specs.declared.aim.Part.TheVariants as part
use Rattle.npa_model.specs.declared.run.Cause.{Cause}
use Rattle.npa_model.specs.declared.run.Cause.TheVariants as cause
use Rattle.npa_model.specs.declared.run.Instance.{Instance}
use Rattle.npa_model.specs.declared.run.Run.{Run}
use Rattle.npa_sig.specs.Values.{under}
use Rattle.npa_rewrite.specs.Normal.{is_normal_by, IsNormalTerm}
use Rattle.npa_model.specs.Runs.{Happens, no_instance, ended, unsent, receives, sends, Next, Executes, begin, step, BreaksAt}
use Rattle.npa_model.specs.Instances.{IsInstance, AreInstances, AreGroundTerms, fresh_names, sort_fault, normal_fault, strand_fault, instance_fault, first_fault, first_again, start_fault}
use Rattle.npa_sig.specs.Parameters.{param_sorts}
use Rattle.npa_sig.specs.Sorting.{IsGroundTerm}
use Rattle.npa_model.specs.Aims.{Assigns, Plays, Meets, nothing, known, strand, MeetsSomehow, IsRun, Reaches, Misses, Breaks, at_start, at_step}
use Rattle.npa_model.specs.WellFormed.{IsWellFormedPart, IsWellFormedAim}
use Rattle.npa_sig.specs.WellFormed.{AreWellFormedStrands, IsTermOver, IsWellFormedProtocol}
use Rattle.npa_model.proofs.SentTerms.{message_ground}
use Rattle.npa_sig.proofs.SortedTerms.{under_ground}

taken_member : {A : Type 0} (k : ℕ) (xs : List A) (x : A) → Contains (take k xs) x → Contains xs x
taken_member zero xs x h = absurd (omega (arith, h.1))
taken_member (suc k) [] x h = absurd (omega (arith, h.1))
taken_member (suc k) (y ∷ xs) x (zero, small, same) = (zero, omega arith, same)
taken_member (suc k) (y ∷ xs) x (suc i, small, same) =
    Contains-append_right (y ∷ []) xs x (taken_member k xs x (i, omega (arith, small), same))

abbrev pub SameForms : Signature → (Term → Term) → (Term → Term) → Type 0
SameForms sig nf mf = (t : Term) → IsGroundTerm sig t → nf t ≡ mf t

module _ (sig : Signature) (nf mf : Term → Term) (same : SameForms sig nf mf) where
  normal_term : (t : Term) → IsNormalTerm nf sig t → IsNormalTerm mf sig t
  normal_term t n = record { term = n.term; normal = sym (same t n.term) ∙ n.normal }

  one_instance : (strands : List Strand) (i : Instance) → IsInstance nf sig strands i → IsInstance mf sig strands i
  one_instance strands i is = record { strand = is.strand; there = is.there; sorts = is.sorts; normal = λ t has. normal_term t (is.normal t has) }

  same_instances : (strands : List Strand) (is : List Instance) → AreInstances nf sig strands is → AreInstances mf sig strands is
  same_instances strands is are = record { each = λ k i at. one_instance strands i (are.each k i at); apart = are.apart }

  same_normal_fault : (k p : ℕ) (args : List Term) → ((t : Term) → Contains args t → IsGroundTerm sig t) → normal_fault nf k p args ≡ normal_fault mf k p args
  same_normal_fault k p [] ground = refl
  same_normal_fault k p (t ∷ args) ground =
      ap (λ u. cond (equal u (canonical t)) (normal_fault nf k (p + 1) args) (Some (cause.Normal k p))) (same t (ground t (Contains-append_left (t ∷ []) args t (0, omega arith, refl))))
      ∙ ap (λ o. cond (is_normal_by mf t) o (Some (cause.Normal k p))) (same_normal_fault k (p + 1) args (λ u has. ground u (Contains-append_right (t ∷ []) args u has)))

  same_strand_fault : (k : ℕ) (o : Option Strand) (args : List Term) → ((t : Term) → Contains args t → IsGroundTerm sig t) → strand_fault nf sig k o args ≡ strand_fault mf sig k o args
  same_strand_fault k None args ground = refl
  same_strand_fault k (Some named) args ground =
      ap (λ o. cond (length args == length (param_sorts named)) (option_or (sort_fault sig k 0 args (param_sorts named)) o) (Some (cause.Params k))) (same_normal_fault k 0 args ground)

  same_first_fault : (strands : List Strand) (k : ℕ) (is : List Instance) → AreGroundTerms sig is → first_fault nf sig strands k is ≡ first_fault mf sig strands k is
  same_first_fault strands k [] ground = refl
  same_first_fault strands k (i ∷ is) ground =
      ap (λ o. option_or o (first_fault nf sig strands (k + 1) is)) (same_strand_fault k (slice_get strands i.strand) i.args (ground 0 i refl))
      ∙ ap (λ o. option_or (instance_fault mf sig strands k i) o) (same_first_fault strands (k + 1) is (λ n. ground (suc n)))

  pub same_start_fault : (strands : List Strand) (is : List Instance) → AreGroundTerms sig is → start_fault nf sig strands is ≡ start_fault mf sig strands is
  same_start_fault strands is ground = ap (λ o. option_or o (option_map cause.Twice (first_again [] (fresh_names strands is)))) (same_first_fault strands 0 is ground)

  module _ (strands : List Strand) (formed : AreWellFormedStrands sig strands) (instances : List Instance)
      (are : (k : ℕ) (instance : Instance) → slice_get instances k ≡ Some instance → IsInstance nf sig strands instance) where
    same_next : (done i : ℕ) (a : Instance) (e : Event) → Next nf strands instances done i a e → Next mf strands instances done i a e
    same_next done i a e n = record { there = n.there; next = n.next }

    same_message : (done i : ℕ) (a : Instance) (e : Event) → Next nf strands instances done i a e → nf (under a.args e.msg) ≡ mf (under a.args e.msg)
    same_message done i a e n = same (under a.args e.msg) (message_ground nf sig strands formed instances are i done a e n)

    pub happens : {done i : ℕ} {sent : List Term} {r : Result (List Term) Cause} → Happens nf strands instances done sent i r → Happens mf strands instances done sent i r
    happens (no_instance e) = no_instance e
    happens (ended a e f) = ended a e f
    happens {done} {i} {sent} (unsent a e n u c) =
        let is = same_message done i a e n in
        subst (λ (t : Term). Happens mf strands instances done sent i (Err (cause.Unsent t))) (sym is)
        (unsent a e (same_next done i a e n) u (λ has. c (subst (Contains sent) (sym is) has)))
    happens {done} {i} {sent} (receives a e n u c) = receives a e (same_next done i a e n) u (subst (Contains sent) (same_message done i a e n) c)
    happens {done} {i} {sent} (sends a e n u) =
        subst (λ (t : Term). Happens mf strands instances done sent i (Ok (sent ++ t ∷ []))) (sym (same_message done i a e n)) (sends a e (same_next done i a e n) u)

    executes : {schedule : List ℕ} {sent : List Term} → Executes nf strands instances schedule sent → Executes mf strands instances schedule sent
    executes begin = begin
    executes (step before sent after i ex h) = step before sent after i (executes ex) (happens h)

    breaks_at : {schedule : List ℕ} {j : ℕ} {why : Cause} → BreaksAt nf strands instances schedule j why → BreaksAt mf strands instances schedule j why
    breaks_at b = record { before = b.before; place = b.place; sent = b.sent; executes = executes b.executes; i = b.i; named = b.named; breaks = happens b.breaks }

  module _ (strands : List Strand) (sorts : List ℕ) (run : Run) (sent values : List Term) (assigns : Assigns nf sig sorts values) where
    same_under : (t : Term) → IsTermOver sig sorts t → nf (under values t) ≡ mf (under values t)
    same_under t over = same (under values t) (under_ground sig sorts values assigns.sorted (λ u has. (assigns.normal u has).term) t over)

    same_values : (args : List Term) → ((t : Term) → Contains args t → IsTermOver sig sorts t) → map (λ t. nf (under values t)) args ≡ map (λ t. mf (under values t)) args
    same_values [] over = refl
    same_values (t ∷ args) over =
        ap (λ u. u ∷ map (λ t. nf (under values t)) args) (same_under t (over t (Contains-append_left (t ∷ []) args t (0, omega arith, refl))))
        ∙ ap (λ us. mf (under values t) ∷ us) (same_values args (λ u has. over u (Contains-append_right (t ∷ []) args u has)))

    plays : (n number bar : ℕ) (args : List Term) → ((t : Term) → Contains args t → IsTermOver sig sorts t) → Plays nf run sent values n number bar args → Plays mf run sent values n number bar args
    plays n number bar args over p =
        record { instance = p.instance; there = p.there; same_strand = p.same_strand; executed = p.executed; same_values = p.same_values ∙ same_values args over }

    meets : {parts : List Part} {chosen : List ℕ} → ((p : Part) → Contains parts p → IsWellFormedPart sig strands sorts p) → Meets nf run sent values parts chosen → Meets mf run sent values parts chosen
    meets formed nothing = nothing
    meets formed (known t parts chosen was m) =
        known t parts chosen (subst (Contains sent) (same_under t (formed (part.Known t) (Contains-append_left (part.Known t ∷ []) parts (part.Known t) (0, omega arith, refl))).term) was)
        (meets (λ p has. formed p (Contains-append_right (part.Known t ∷ []) parts p has)) m)
    meets formed (strand number bar args parts n chosen p new m) =
        let here = part.Strand number bar args in
        let over = (formed here (Contains-append_left (here ∷ []) parts here (0, omega arith, refl))).terms in
        strand number bar args parts n chosen (plays n number bar args over p) new (meets (λ q has. formed q (Contains-append_right (here ∷ []) parts q has)) m)

    assigned : Assigns mf sig sorts values
    assigned = record { sorted = assigns.sorted; normal = λ t has. normal_term t (assigns.normal t has) }

  somehow : (strands : List Strand) (sorts : List ℕ) (run : Run) (sent : List Term) (parts : List Part) → ((p : Part) → Contains parts p → IsWellFormedPart sig strands sorts p) →
      MeetsSomehow nf sig sorts run sent parts → MeetsSomehow mf sig sorts run sent parts
  somehow strands sorts run sent parts formed m = record {
    values = m.values;
    assigns = assigned strands sorts run sent m.values m.assigns;
    chosen = m.chosen;
    meets = meets strands sorts run sent m.values m.assigns formed m.meets;
  }

module _ (protocol : Protocol) (formed : IsWellFormedProtocol protocol) (nf mf : Term → Term) (same : SameForms protocol.sig nf mf) (run : Run) where
  pub same_run : (sent : List Term) → IsRun nf protocol run sent → IsRun mf protocol run sent
  same_run sent r = record {
    instances = same_instances protocol.sig nf mf same protocol.strands run.instances r.instances;
    executes = executes protocol.sig nf mf same protocol.strands formed.strands run.instances r.instances.each r.executes;
  }

  pub same_breaks : AreGroundTerms protocol.sig run.instances → (j : ℕ) (why : Cause) → Breaks nf protocol run j why → Breaks mf protocol run j why
  same_breaks ground j why (at_start because fault) = at_start because (sym (same_start_fault protocol.sig nf mf same protocol.strands run.instances ground) ∙ fault)
  same_breaks ground j why (at_step k because are b) =
      at_step k because (same_instances protocol.sig nf mf same protocol.strands run.instances are)
      (breaks_at protocol.sig nf mf same protocol.strands formed.strands run.instances are.each b)

  module _ (aim : Aim) (aimed : IsWellFormedAim protocol.sig protocol.strands aim) where
    first_parts : (k : ℕ) (p : Part) → Contains (take k aim.parts) p → IsWellFormedPart protocol.sig protocol.strands aim.sorts p
    first_parts k p has = aimed.parts p (taken_member k aim.parts p has)

    pub same_reaches : Reaches nf protocol aim run → Reaches mf protocol aim run
    same_reaches r = record {
      sent = r.sent;
      runs = same_run r.sent r.runs;
      meets = somehow protocol.sig nf mf same protocol.strands aim.sorts run r.sent aim.parts aimed.parts r.meets;
    }

    pub same_misses : (k : ℕ) → Misses nf protocol aim run k → Misses mf protocol aim run k
    same_misses k m = record {
      sent = m.sent;
      runs = same_run m.sent m.runs;
      within = m.within;
      fails = λ met. m.fails (somehow protocol.sig mf nf (λ t g. sym (same t g)) protocol.strands aim.sorts run m.sent (take k aim.parts) (first_parts k) met);
      before = λ j l s. somehow protocol.sig nf mf same protocol.strands aim.sorts run m.sent (take j aim.parts) (first_parts j) (m.before j l s);
    }

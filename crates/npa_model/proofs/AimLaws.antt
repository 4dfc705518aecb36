-- A run reaches an aim, breaks at one step or misses one part.
use Rattle.std.proofs.Common.{◌≡◌, ℕ, zero, suc, ◌<◌, ⊎_elim, List, [], ◌∷◌, Some, refl, sym, ◌∙◌, subst, take, Contains, arith}
use Rattle.std.proofs.lemmas.Bool.{cases_order}
use Rattle.std.proofs.lemmas.List.Elements.{Contains-append_cases, Contains-append_left, Contains-append_right}
use Rattle.std.proofs.lemmas.Option.{same_Some, none-some}
use Rattle.npa_term.specs.declared.term.Term.{Term}
use Rattle.npa_sig.specs.declared.protocol.Protocol.{Protocol}
use Rattle.npa_model.specs.declared.aim.Part.{Part}
use Rattle.npa_model.specs.declared.aim.Aim.{Aim}
use Rattle.npa_model.specs.declared.run.Run.{Run}
use Rattle.npa_model.specs.declared.run.Cause.{Cause}
use Rattle.npa_model.specs.Instances.{AreInstances, start_fault}
use Rattle.npa_model.specs.Aims.{Meets, nothing, known, strand, MeetsSomehow, IsRun, Reaches, Misses, Breaks, at_start, at_step}
use Rattle.npa_model.proofs.RunLaws.{one_list, whole_or_breaks, one_break}
use Rattle.npa_model.proofs.InstanceLaws.{instances_start}

in_front : (front chosen : List ℕ) (n m : ℕ) → (Contains front m → Contains chosen m) → Contains (n ∷ front) m → Contains (n ∷ chosen) m
in_front front chosen n m of h = ⊎_elim (Contains-append_left (n ∷ []) chosen m) (λ r. Contains-append_right (n ∷ []) chosen m (of r)) (Contains-append_cases (n ∷ []) front m h)

module _ (nf : Term → Term) (run : Run) (sent values : List Term) where
  -- an instance for each strand part of the first parts
  pub record Front (k : ℕ) (parts : List Part) (chosen : List ℕ) : Type 0 where
    pub front : List ℕ
    pub meets : Meets nf run sent values (take k parts) front
    pub among : (n : ℕ) → Contains front n → Contains chosen n

  pub meets_front : {parts : List Part} {chosen : List ℕ} → Meets nf run sent values parts chosen → (k : ℕ) → Front k parts chosen
  meets_front m zero = record { front = []; meets = nothing; among = λ n h. absurd (omega (arith, h.1)) }
  meets_front nothing (suc k) = record { front = []; meets = nothing; among = λ n h. h }
  meets_front (known t parts chosen was m) (suc k) =
      let f = meets_front m k in
      record { front = f.front; meets = known t (take k parts) f.front was f.meets; among = f.among }
  meets_front (strand number bar args parts n chosen plays new m) (suc k) =
      let f = meets_front m k in
      record {
        front = n ∷ f.front;
        meets = strand number bar args (take k parts) n f.front plays (λ h. new (f.among n h)) f.meets;
        among = λ i h. in_front f.front chosen n i (f.among i) h;
      }

module _ (nf : Term → Term) (protocol : Protocol) (run : Run) where
  same_sent : {ts us : List Term} → IsRun nf protocol run ts → IsRun nf protocol run us → ts ≡ us
  same_sent r s = one_list nf protocol.strands run.instances r.executes s.executes refl

  faultless : {why : Cause} → AreInstances nf protocol.sig protocol.strands run.instances → start_fault nf protocol.sig protocol.strands run.instances ≡ Some why → ⊥
  faultless {why} are fault = none-some why (sym (instances_start nf protocol.sig protocol.strands run.instances are) ∙ fault)

  -- what is a run doesn't break
  pub runs_or_breaks : {ts : List Term} {j : ℕ} {why : Cause} → IsRun nf protocol run ts → Breaks nf protocol run j why → ⊥
  runs_or_breaks r (at_start why fault) = faultless r.instances fault
  runs_or_breaks r (at_step j why are b) = whole_or_breaks nf protocol.strands run.instances r.executes b

  -- a run breaks at one step at most, and for one cause
  pub breaks_once : {j k : ℕ} {why because : Cause} → Breaks nf protocol run j why → Breaks nf protocol run k because → (j ≡ k) × (why ≡ because)
  breaks_once (at_start why fault) (at_start because other) = (refl, same_Some why because (sym fault ∙ other))
  breaks_once (at_start why fault) (at_step k because are c) = absurd (faultless are fault)
  breaks_once (at_step j why are b) (at_start because other) = absurd (faultless are other)
  breaks_once (at_step j why are b) (at_step k because are' c) = one_break nf protocol.strands run.instances b c

  module _ (aim : Aim) where
    -- a run that reaches the aim misses no part
    pub reaches_or_misses : {k : ℕ} → Reaches nf protocol aim run → Misses nf protocol aim run k → ⊥
    reaches_or_misses {k} r m =
        let front = meets_front nf run r.sent r.meets.values r.meets.meets k in
        let somehow : MeetsSomehow nf protocol.sig aim.sorts run r.sent (take k aim.parts) = record {
          values = r.meets.values;
          assigns = r.meets.assigns;
          chosen = front.front;
          meets = front.meets;
        } in
        m.fails (subst (λ (ts : List Term). MeetsSomehow nf protocol.sig aim.sorts run ts (take k aim.parts)) (same_sent r.runs m.runs) somehow)

    misses_in_order : {j k : ℕ} → Misses nf protocol aim run j → Misses nf protocol aim run k → j < k → ⊥
    misses_in_order {j} {k} m n l =
        m.fails (subst (λ (ts : List Term). MeetsSomehow nf protocol.sig aim.sorts run ts (take j aim.parts)) (same_sent n.runs m.runs) (n.before j m.within.0 l))

    -- it misses one part at most
    pub misses_once : {j k : ℕ} → Misses nf protocol aim run j → Misses nf protocol aim run k → j ≡ k
    misses_once {j} {k} m n = ⊎_elim (λ e. e) (⊎_elim (λ l. absurd (misses_in_order m n l)) (λ l. absurd (misses_in_order n m l))) (cases_order j k)

-- A run meets the parts of an aim exactly where it meets the ground pattern that they ask for.
use Rattle.std.proofs.Common.{◌≡◌, ℕ, zero, suc, ◌+◌, ⊎_elim, List, [], ◌∷◌, Some, map, take, length, slice_get, Contains, refl, ap, sym, ◌∙◌, subst, arith}
use Rattle.npa_term.specs.declared.term.Term.{Term}
use Rattle.npa_term.specs.Canonical.{canonical}
use Rattle.npa_sig.specs.declared.protocol.Event.{Event}
use Rattle.npa_sig.specs.declared.protocol.Strand.{Strand}
use Rattle.npa_sig.specs.Signature.{Signature}
use Rattle.npa_sig.specs.Values.{under}
use Rattle.npa_rewrite.specs.declared.theory.Theory.{Theory}
use Rattle.npa_rewrite.specs.Innermost.{normalized}
use Rattle.npa_rewrite.specs.Rewriting.{AllCancel}
use Rattle.npa_rewrite.proofs.FormLaws.{form_under}
use Rattle.npa_rewrite.proofs.InstanceParts.{here, behind, member_cases}
use Rattle.npa_rewrite.proofs.Normalized.{normalized_form}
use Rattle.npa_model.specs.declared.aim.Part.{Part}
use Rattle.npa_model.specs.declared.aim.Part.TheVariants as part
use Rattle.npa_model.specs.declared.run.Instance.{Instance}
use Rattle.npa_model.specs.declared.run.Run.{Run}
use Rattle.npa_model.specs.declared.pattern.PStrand.{PStrand}
use Rattle.npa_model.specs.declared.pattern.Pattern.{Pattern}
use Rattle.npa_model.specs.declared.pattern.Standing.TheVariants.{Exactly}
use Rattle.npa_model.specs.Aims.{Plays, Meets, nothing, known, strand}
use Rattle.npa_model.specs.Asking.{asked_term, asked_strand, asked_strands, asked_facts, asked}
use Rattle.npa_model.specs.Instances.{IsInstance}
use Rattle.npa_model.specs.Meeting.{Serves, AreServed, MeetsGround}
use Rattle.npa_model.specs.Patterns.{events_at}
use Rattle.npa_model.specs.Runs.{events_of, message_of}
use Rattle.npa_model.proofs.Serving.{served_none, served_more, served_less}

module _ (th : Theory) (cancel : AllCancel th) (sig : Signature) (strands : List Strand) (run : Run) (sent values : List Term)
    (are : (k : ℕ) (instance : Instance) → slice_get run.instances k ≡ Some instance → IsInstance (normalized th) sig strands instance) where
  abbrev nf : Term → Term
  nf = normalized th

  abbrev IsServed : ℕ → PStrand → Type 0
  IsServed = Serves nf strands run.instances run.schedule Exactly

  -- a normal form is its canonical form
  form_settled : (t : Term) → canonical (asked_term nf strands values t) ≡ asked_term nf strands values t
  form_settled t = (normalized_form th cancel (under values t)).settled

  forms_settled : (ts : List Term) → map canonical (map (asked_term nf strands values) ts) ≡ map (asked_term nf strands values) ts
  forms_settled [] = refl
  forms_settled (t ∷ ts) = λ j. form_settled t j ∷ forms_settled ts j

  normal_args : (ts : List Term) → ((t : Term) → Contains ts t → nf t ≡ canonical t) → map nf ts ≡ map canonical ts
  normal_args [] each = refl
  normal_args (t ∷ ts) each = λ j. each t (here t ts) j ∷ normal_args ts (λ u c. each u (behind t u ts c)) j

  module _ (instance : Instance) (number bar : ℕ) (args : List Term) (normal : (t : Term) → Contains instance.args t → nf t ≡ canonical t)
      (same_strand : instance.strand ≡ number) (same_values : map canonical instance.args ≡ map (λ t. nf (under values t)) args) where
    one_message : (event : Event) → message_of nf strands run.instances instance event ≡ canonical (nf (under (map (asked_term nf strands values) args) event.msg))
    one_message event =
        sym (form_under th cancel instance.args event.msg)
        ∙ ap (λ (vs : List Term). nf (under vs event.msg)) (normal_args instance.args normal ∙ same_values)
        ∙ sym (normalized_form th cancel (under (map (asked_term nf strands values) args) event.msg)).settled

    messages : (events : List Event) → map (message_of nf strands run.instances instance) events ≡ map canonical (map (λ event. nf (under (map (asked_term nf strands values) args) event.msg)) events)
    messages [] = refl
    messages (event ∷ events) = λ j. one_message event j ∷ messages events j

    same_messages : map (message_of nf strands run.instances instance) (take bar (events_of strands instance)) ≡ map canonical (asked_strand nf strands values number bar args).msgs
    same_messages = messages (take bar (events_of strands instance)) ∙ ap (λ k. map canonical (map (λ event. nf (under (map (asked_term nf strands values) args) event.msg)) (take bar (events_at strands k)))) same_strand

  -- what plays a part serves the strand that it asks for
  serves_part : (n number bar : ℕ) (args : List Term) → Plays nf run sent values n number bar args → IsServed n (asked_strand nf strands values number bar args)
  serves_part n number bar args p = record {
    instance = p.instance;
    there = p.there;
    suits = record {
      same_strand = p.same_strand;
      counted = p.executed;
      same_values = p.same_values ∙ sym (forms_settled args);
      same_messages = same_messages p.instance number bar args (λ t c. ((are n p.instance p.there).normal t c).normal) p.same_strand p.same_values;
    };
  }

  plays_part : (n number bar : ℕ) (args : List Term) → IsServed n (asked_strand nf strands values number bar args) → Plays nf run sent values n number bar args
  plays_part n number bar args s = record {
    instance = s.instance;
    there = s.there;
    same_strand = s.suits.same_strand;
    executed = s.suits.counted;
    same_values = s.suits.same_values ∙ forms_settled args;
  }

  -- a run that meets the parts meets the pattern
  pub asked_met : {parts : List Part} {chosen : List ℕ} → Meets nf run sent values parts chosen → MeetsGround nf strands run.instances run.schedule Exactly sent (asked nf strands values parts) chosen
  asked_met nothing = record {
    served = served_none nf strands run.instances run.schedule Exactly;
    known = λ t c. absurd (omega (arith, c.1));
    unknown = λ t c was. omega (arith, c.1);
  }
  asked_met (known t parts chosen was m) =
      let rest = asked_met m in
      record {
        served = rest.served;
        known = λ u c. ⊎_elim
            (λ (e : asked_term nf strands values t ≡ u). subst (λ (x : Term). Contains sent x) (sym (form_settled t) ∙ ap canonical e) was)
            (rest.known u)
            (member_cases (asked_term nf strands values t) u (asked_facts nf strands values parts) c);
        unknown = λ u c sent_. omega (arith, c.1);
      }
  asked_met (strand number bar args parts n chosen plays new m) =
      let rest = asked_met m in
      record {
        served = served_more nf strands run.instances run.schedule Exactly (asked_strand nf strands values number bar args) (asked_strands nf strands values parts) n chosen (serves_part n number bar args plays) new rest.served;
        known = rest.known;
        unknown = λ u c sent_. omega (arith, c.1);
      }

  -- and a run that meets the pattern meets the parts
  pub met_asked : (parts : List Part) (chosen : List ℕ) → MeetsGround nf strands run.instances run.schedule Exactly sent (asked nf strands values parts) chosen → Meets nf run sent values parts chosen
  met_asked [] [] m = nothing
  met_asked [] (n ∷ chosen) m = absurd (omega (arith, m.served.as_many))
  met_asked (part.Known t ∷ parts) chosen m =
      known t parts chosen
      (subst (λ (x : Term). Contains sent x) (form_settled t) (m.known (asked_term nf strands values t) (here (asked_term nf strands values t) (asked_facts nf strands values parts))))
      (met_asked parts chosen (record {
        served = m.served;
        known = λ u c. m.known u (behind (asked_term nf strands values t) u (asked_facts nf strands values parts) c);
        unknown = m.unknown;
      }))
  met_asked (part.Strand number bar args ∷ parts) [] m = absurd (omega (arith, m.served.as_many))
  met_asked (part.Strand number bar args ∷ parts) (n ∷ chosen) m =
      let less = served_less nf strands run.instances run.schedule Exactly (asked_strand nf strands values number bar args) (asked_strands nf strands values parts) n chosen m.served in
      strand number bar args parts n chosen (plays_part n number bar args less.0) less.1 (met_asked parts chosen (record { served = less.2; known = m.known; unknown = m.unknown }))

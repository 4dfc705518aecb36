-- A run that meets an aim's parts meets the pattern of a root.
use Rattle.std.proofs.Common.{◌≡◌, ℕ, zero, suc, Some, Option, List, [], ◌∷◌, map, take, slice_get, Contains, refl, sym, ◌∙◌, ap, subst, inl, inr}
use Rattle.std.specs.Option.{option_map_or}
use Rattle.std.proofs.lemmas.Option.{same_Some, none-some}
use Rattle.npa_term.specs.declared.term.Term.{Term, Var}
use Rattle.npa_term.specs.declared.term.Var.{Var as Variable}
use Rattle.npa_term.specs.Bound.{applied}
use Rattle.npa_term.specs.Canonical.{canonical}
use Rattle.npa_term.specs.Parts.{image}
use Rattle.npa_term.specs.Same.{Same, SameAll, itself, through, nothing as no_terms, first}
use Rattle.npa_term.proofs.AppliedLaws.{applied-empty}
use Rattle.npa_term.proofs.CanonicalLaws.{canonical_same}
use Rattle.npa_term.proofs.SameLaws.{same_sym}
use Rattle.npa_sig.specs.declared.protocol.Strand.{Strand}
use Rattle.npa_sig.specs.Operators.{PairsCommute}
use Rattle.npa_sig.specs.Values.{under}
use Rattle.npa_unify.proofs.Members.{here, later, nowhere, member_cases}
use Rattle.npa_rewrite.specs.declared.theory.Theory.{Theory}
use Rattle.npa_rewrite.specs.Innermost.{normalized}
use Rattle.npa_rewrite.specs.Normal.{IsNormalTerm}
use Rattle.npa_rewrite.specs.Rewriting.{AllCancel}
use Rattle.npa_variants.specs.declared.variant.Variant.{Variant}
use Rattle.npa_variants.specs.StrandVariants.{args_of, messages_of}
use Rattle.npa_variants.specs.Strands.{param_count}
use Rattle.npa_variants.proofs.Members.{of_mapped, of_taken}
use Rattle.npa_variants.proofs.Sound.{map_equal, map_map}
use Rattle.npa_model.specs.declared.aim.Aim.{Aim}
use Rattle.npa_model.specs.declared.aim.Part.{Part}
use Rattle.npa_model.specs.declared.aim.Part.TheVariants as part
use Rattle.npa_model.specs.declared.pattern.PStrand.{PStrand}
use Rattle.npa_model.specs.declared.pattern.Pattern.{Pattern}
use Rattle.npa_model.specs.declared.pattern.Standing.TheVariants.{Exactly}
use Rattle.npa_model.specs.declared.run.Instance.{Instance}
use Rattle.npa_model.specs.declared.run.Run.{Run}
use Rattle.npa_model.specs.Accepted.{part_terms}
use Rattle.npa_model.specs.Aims.{Meets, Plays, nothing as no_parts, known as known_part, strand as strand_part}
use Rattle.npa_model.specs.Meeting.{AreServed, MeetsGround, Serves}
use Rattle.npa_model.specs.Patterns.{IsTermOf, of_args, of_msgs, of_known, of_unknown}
use Rattle.npa_model.specs.Runs.{events_of}
use Rattle.npa_model.proofs.MeetingLaws.{cover_meets}
use Rattle.npa_model.proofs.Places.{front_mapped}
use Rattle.npa_model.proofs.Serving.{served_more, served_none}
use Rattle.npa_moves.specs.declared.step.Root.{Root}
use Rattle.npa_moves.specs.GoingBack.{MeetsRoot}
use Rattle.npa_moves.specs.Leading.{strand_under}
use Rattle.npa_moves.specs.RootLeading.{AsksFor, IsAmongRoots, IsRootBy, aim_variables, nothing, known, strand, known_first, strand_first}
use Rattle.npa_moves.proofs.BackedOther.{Variation}
use Rattle.npa_moves.proofs.GoneBack.{meets_empty}
use Rattle.npa_moves.proofs.OtherSteps.{message_member}
use Rattle.npa_moves.proofs.Patterned.{alike_itself}
use Rattle.npa_moves.proofs.RootMoves.{head_is, none_is, rest_is}

-- terms with the same canonical forms are the same
pub same_from_forms : (ts us : List Term) → map canonical ts ≡ map canonical us → SameAll ts us
same_from_forms [] [] e = no_terms
same_from_forms [] (u ∷ us) e = absurd (none_is e)
same_from_forms (t ∷ ts) [] e = absurd (none_is (sym e))
same_from_forms (t ∷ ts) (u ∷ us) e =
    first t u ts us
    (through t (canonical t) u (canonical_same t) (subst (λ (x : Term). Same x u) (sym (head_is e)) (same_sym (canonical_same u))))
    (same_from_forms ts us (rest_is e))

module _ (th : Theory) (cancel : AllCancel th) (pairs : PairsCommute th.sig) (strands : List Strand) (variants : Strand → List Variant) (run : Run) (sent values : List Term) (a : List (Variable × Term))
    (varied : (n : ℕ) (instance : Instance) → slice_get run.instances n ≡ Some instance → Variation (normalized th) th strands variants instance) where
  abbrev nf : Term → Term
  nf = normalized th

  -- Parts whose terms are normal under the values, which the substitution has for the variables.
  abbrev Stand : List Part → Type 0
  Stand parts = (p : Part) → Contains parts p → (t : Term) → Contains (part_terms p) t → IsNormalTerm nf th.sig (under values t) × (applied a t ≡ under values t)

  -- What the parts ask for, met by the run.
  record Asked (parts : List Part) (chosen : List ℕ) : Type 0 where
    pub pattern : Pattern
    pub asks : AsksFor strands variants th.sig.sorts a parts pattern
    pub served : AreServed nf strands run.instances run.schedule Exactly pattern.strands chosen
    pub facts : (t : Term) → Contains pattern.known t → Contains sent (canonical t)
    pub none : pattern.unknown ≡ []
    pub normal : (t : Term) → IsTermOf pattern t → IsNormalTerm nf th.sig t

  no_pattern : (t : Term) → IsTermOf (record { strands = []; known = []; unknown = [] }) t → ⊥
  no_pattern t (of_args k p e c) = none-some p e
  no_pattern t (of_msgs k p e c) = none-some p e
  no_pattern t (of_known c) = nowhere t c
  no_pattern t (of_unknown c) = nowhere t c

  known_asked : (t : Term) (parts : List Part) (chosen : List ℕ) → IsNormalTerm nf th.sig (under values t) → applied a t ≡ under values t → Contains sent (nf (under values t)) → Asked parts chosen → Asked (part.Known t ∷ parts) chosen
  known_asked t parts chosen good is was rest = record {
    pattern = known_first (applied a t) rest.pattern;
    asks = known t parts rest.pattern rest.asks;
    served = rest.served;
    facts = λ u c. elim (member_cases (applied a t) u rest.pattern.known c) [
      | inl e ↦ subst (Contains sent) (good.normal ∙ ap canonical (sym is ∙ e)) was
      | inr d ↦ rest.facts u d
    ];
    none = rest.none;
    normal = normal_with;
  }
    where
      normal_with : (u : Term) → IsTermOf (known_first (applied a t) rest.pattern) u → IsNormalTerm nf th.sig u
      normal_with u (of_args k p e c) = rest.normal u (of_args k p e c)
      normal_with u (of_msgs k p e c) = rest.normal u (of_msgs k p e c)
      normal_with u (of_known c) = elim (member_cases (applied a t) u rest.pattern.known c) [
        | inl e ↦ subst (IsNormalTerm nf th.sig) (sym is ∙ e) good
        | inr d ↦ rest.normal u (of_known d)
      ]
      normal_with u (of_unknown c) = rest.normal u (of_unknown c)

  module _ (s bar : ℕ) (args : List Term) (parts : List Part) (n : ℕ) (chosen : List ℕ) (plays : Plays nf run sent values n s bar args)
      (stand : (t : Term) → Contains args t → IsNormalTerm nf th.sig (under values t) × (applied a t ≡ under values t)) (new : Contains chosen n → ⊥) (rest : Asked parts chosen) where
    abbrev by_variant : Variation nf th strands variants plays.instance
    by_variant = varied n plays.instance plays.there

    abbrev b : List (Variable × Term)
    b = by_variant.through.by_

    abbrev asked_strand : PStrand
    asked_strand = strand_under b s by_variant.strand by_variant.v bar

    events : events_of strands plays.instance ≡ by_variant.strand.events
    events = ap (λ (o : Option Strand). option_map_or (λ role. role.events) o []) by_variant.there

    serves : Serves nf strands run.instances run.schedule Exactly n asked_strand
    serves = record {
      instance = plays.instance;
      there = plays.there;
      suits = record {
        same_strand = plays.same_strand;
        counted = plays.executed;
        same_values = sym by_variant.through.values;
        same_messages =
            ap (λ es. map (λ event. nf (under plays.instance.args event.msg)) (take bar es)) events
            ∙ sym (front_mapped (λ event. nf (under plays.instance.args event.msg)) bar by_variant.strand.events)
            ∙ ap (take bar) (sym by_variant.through.messages)
            ∙ front_mapped canonical bar (map (applied b) (messages_of by_variant.strand by_variant.v))
            ∙ ap (map canonical) (front_mapped (applied b) bar (messages_of by_variant.strand by_variant.v));
      };
    }

    -- the part's terms are the variant's values
    same_terms : SameAll (map (applied a) args) (map (applied b) (args_of by_variant.strand by_variant.v))
    same_terms = same_from_forms (map (applied a) args) (map (applied b) (args_of by_variant.strand by_variant.v))
        (map_map (applied a) canonical args
        ∙ map_equal (λ t. canonical (applied a t)) (λ t. nf (under values t)) args (λ t c. let good = stand t c in ap canonical good.1 ∙ sym good.0.normal)
        ∙ sym plays.same_values ∙ sym by_variant.through.values)

    variant_normal : (ts : List Term) → ((t : Term) → Contains ts t → Contains by_variant.v.terms t) → (t : Term) → Contains (map (applied b) ts) t → IsNormalTerm nf th.sig t
    variant_normal ts each t c = let u = of_mapped (applied b) ts t c in subst (IsNormalTerm nf th.sig) (sym u.2) (by_variant.through.terms u.0 (each u.0 u.1))

    normal_with : (u : Term) → IsTermOf (strand_first asked_strand rest.pattern) u → IsNormalTerm nf th.sig u
    normal_with u (of_args zero p e c) = variant_normal (args_of by_variant.strand by_variant.v) (λ t d. of_taken (param_count by_variant.strand) by_variant.v.terms t d) u
        (subst (λ (x : PStrand). Contains x.args u) (sym (same_Some asked_strand p e)) c)
    normal_with u (of_args (suc k) p e c) = rest.normal u (of_args k p e c)
    normal_with u (of_msgs zero p e c) = variant_normal (take bar (messages_of by_variant.strand by_variant.v))
        (λ t d. message_member by_variant.strand by_variant.v t (of_taken bar (messages_of by_variant.strand by_variant.v) t d)) u
        (subst (λ (x : PStrand). Contains x.msgs u) (sym (same_Some asked_strand p e)) c)
    normal_with u (of_msgs (suc k) p e c) = rest.normal u (of_msgs k p e c)
    normal_with u (of_known c) = rest.normal u (of_known c)
    normal_with u (of_unknown c) = rest.normal u (of_unknown c)

    strand_asked : Asked (part.Strand s bar args ∷ parts) (n ∷ chosen)
    strand_asked = record {
      pattern = strand_first asked_strand rest.pattern;
      asks = strand s bar args by_variant.strand by_variant.n by_variant.v b parts rest.pattern
          (subst (λ k. slice_get strands k ≡ Some by_variant.strand) plays.same_strand by_variant.there) by_variant.listed by_variant.through.sorts.below same_terms rest.asks;
      served = served_more nf strands run.instances run.schedule Exactly asked_strand rest.pattern.strands n chosen serves new rest.served;
      facts = rest.facts;
      none = rest.none;
      normal = normal_with;
    }

  asked : {parts : List Part} {chosen : List ℕ} → Meets nf run sent values parts chosen → Stand parts → Asked parts chosen
  asked no_parts stand = record {
    pattern = record { strands = []; known = []; unknown = [] };
    asks = nothing;
    served = served_none nf strands run.instances run.schedule Exactly;
    facts = λ t c. absurd (nowhere t c);
    none = refl;
    normal = λ t there. absurd (no_pattern t there);
  }
  asked (known_part t parts chosen was m) stand =
      let good = stand (part.Known t) (here (part.Known t) parts) t (here t []) in
      known_asked t parts chosen good.0 good.1 was (asked m (λ p c. stand p (later (part.Known t) p parts c)))
  asked (strand_part s bar args parts n chosen plays new m) stand =
      let p : Part = part.Strand s bar args in
      strand_asked s bar args parts n chosen plays (stand p (here p parts)) new (asked m (λ x c. stand x (later p x parts c)))

  pub root_met : (aim : Aim) (list : List Root) (chosen : List ℕ) → ((p : Part) → Contains aim.parts p → (t : Term) → Contains (part_terms p) t → IsNormalTerm nf th.sig (under values t) × (applied a t ≡ under values t)) →
      ((v : Variable) → Contains (aim_variables aim) v → image a v ≡ under values (Var v)) →
      ((q : Pattern) → IsRootBy strands variants th.sig.sorts a aim q → IsAmongRoots th.sig.sorts list a aim q) →
      Meets nf run sent values aim.parts chosen → MeetsRoot nf th.sig strands run.instances list aim values run.schedule sent
  root_met aim list chosen stand same complete meets =
      let all = asked meets stand in
      let among = complete all.pattern (record { asked = all.pattern; asks = all.asks; alike = alike_itself all.pattern }) in
      let ground : MeetsGround nf strands run.instances run.schedule Exactly sent all.pattern chosen = record {
        served = all.served;
        known = all.facts;
        unknown = λ t c was. nowhere t (subst (λ (ts : List Term). Contains ts t) all.none c);
      } in
      record {
        root = among.root;
        there = among.there;
        by_ = among.by_;
        meets = cover_meets th cancel pairs strands run.instances run.schedule Exactly sent among.root.pattern all.pattern among.by_ [] among.by_ among.places among.covers
            (λ v occurs. subst (λ (t : Term). Same (image among.by_ v) t) (sym (applied-empty (image among.by_ v))) (itself (image among.by_ v)))
            (meets_empty th cancel pairs strands variants run.instances varied run.schedule sent all.pattern chosen all.normal ground);
        agrees = λ v c. subst (λ (t : Term). Same (applied among.by_ (image among.root.unifier v)) t) (same v c) (among.agrees v c);
      }

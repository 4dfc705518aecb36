-- A run that meets a pattern meets each pattern that covers it.
use Rattle.std.proofs.Common.{◌≡◌, ℕ, ⊎_elim, true, List, [], ◌∷◌, Some, map, length, take, slice_get, get_or, Contains, refl, ap, sym, ◌∙◌, subst, arith}
use Rattle.std.proofs.lemmas.List.{length-map}
use Rattle.npa_sorts.specs.Subsorts.{IsAtOrBelow}
use Rattle.npa_term.specs.declared.term.Term.{Term}
use Rattle.npa_term.specs.declared.term.Var.{Var as Variable}
use Rattle.npa_term.specs.Bound.{applied}
use Rattle.npa_term.specs.Canonical.{canonical}
use Rattle.npa_term.specs.Parts.{image, least_sort}
use Rattle.npa_term.specs.Same.{Same, SameAll, nothing, first}
use Rattle.npa_term.specs.Variables.{variables}
use Rattle.npa_term.proofs.Parts.{part_ground}
use Rattle.npa_term.proofs.SameLaws.{same_sym, same_applied}
use Rattle.npa_sig.specs.declared.protocol.Strand.{Strand}
use Rattle.npa_sig.specs.Operators.{PairsCommute}
use Rattle.npa_sig.specs.Sorting.{well_sorted}
use Rattle.npa_rewrite.specs.declared.theory.Theory.{Theory}
use Rattle.npa_rewrite.specs.Innermost.{normalized}
use Rattle.npa_rewrite.specs.Normal.{IsNormalTerm}
use Rattle.npa_rewrite.specs.Rewriting.{AllCancel}
use Rattle.npa_rewrite.proofs.InstanceParts.{here, behind, image_part}
use Rattle.npa_rewrite.proofs.Instances.{same_variables}
use Rattle.npa_rewrite.proofs.Normalized.{own_form}
use Rattle.npa_rewrite.proofs.Parts.{normal_part}
use Rattle.npa_rewrite.proofs.Sorting.{same_sorted, image_sorted, sorted_canonical}
use Rattle.npa_rewrite.proofs.Under.{normal_same}
use Rattle.npa_model.specs.declared.run.Instance.{Instance}
use Rattle.npa_model.specs.declared.pattern.PStrand.{PStrand}
use Rattle.npa_model.specs.declared.pattern.Pattern.{Pattern}
use Rattle.npa_model.specs.declared.pattern.Standing.{Standing}
use Rattle.npa_model.specs.declared.pattern.Standing.TheVariants.{Exactly, AtLeast}
use Rattle.npa_model.specs.Patterns.{map_pattern, IsTermOf, of_args, of_msgs, of_known, of_unknown, Occurs}
use Rattle.npa_model.specs.Runs.{events_of, executions, message_of}
use Rattle.npa_model.specs.Meeting.{Stands, Serves, AreServed, MeetsGround, MeetsBy}
use Rattle.npa_model.specs.Covering.{AreAlike, Lies, IsCover, DoesBoth}
use Rattle.npa_model.specs.Backward.{IsShorter}
use Rattle.npa_model.proofs.CoverLaws.{OfTerm, of_mapped, led, is_led, lies_under, cover_term, does_term, sorts_through}

no_variables : (vs : List Variable) → ((v : Variable) → Contains vs v → ⊥) → vs ≡ []
no_variables [] none = refl
no_variables (v ∷ vs) none = absurd (none v (here v vs))

module _ (th : Theory) (cancel : AllCancel th) (pairs : PairsCommute th.sig) where
  -- what equals a normal ground term is one
  pub normal_alike : {t u : Term} → Same t u → IsNormalTerm (normalized th) th.sig t → IsNormalTerm (normalized th) th.sig u
  normal_alike {t} {u} same n = record {
    term = record {
      sorted = same_sorted th.sig pairs same n.term.sorted;
      ground = no_variables (variables u) (λ v c.
          let none : Contains {X = Variable} [] v = subst (λ (vs : List Variable). Contains vs v) n.term.ground (same_variables (same_sym same) v c) in
          omega (arith, none.1));
    };
    normal = (own_form th u cancel).0 (normal_same th t u same ((own_form th t cancel).1 n.normal));
  }

  -- and so is the value of a variable of a term whose instance is one
  pub value_normal : (s : List (Variable × Term)) (t : Term) (v : Variable) → Contains (variables t) v → IsNormalTerm (normalized th) th.sig (applied s t) → IsNormalTerm (normalized th) th.sig (image s v)
  value_normal s t v c n = record {
    term = record {
      sorted = image_sorted th.sig s v t c n.term.sorted;
      ground = part_ground (image_part s v t c) n.term.ground;
    };
    normal = (own_form th (image s v) cancel).0 (normal_part th (image_part s v t c) ((own_form th (applied s t) cancel).1 n.normal));
  }

  canonical_all : {ts us : List Term} → SameAll ts us → ((t : Term) → Contains us t → well_sorted th.sig t ≡ true) → map canonical us ≡ map canonical ts
  canonical_all nothing sorted = refl
  canonical_all (first t u ts us p q) sorted = λ j.
      (sorted_canonical th.sig pairs u t (same_sym p) (sorted u (here u us)) j) ∷ (canonical_all q (λ x c. sorted x (behind u x us c)) j)

  module _ (nf : Term → Term) (strands : List Strand) (instances : List Instance) (schedule : List ℕ) (standing : Standing) where
    -- who meets a ground pattern meets what lies in it
    pub ground_pull : {sent : List Term} {h g : Pattern} {at chosen : List ℕ} → Lies h g at → ((t : Term) → IsTermOf g t → well_sorted th.sig t ≡ true) →
        MeetsGround nf strands instances schedule standing sent g chosen → MeetsGround nf strands instances schedule standing sent h (led at chosen)
    ground_pull {sent} {h} {g} {at} {chosen} l sorted m = record {
      served = record {
        as_many = length-map at (λ n. get_or chosen n 0) ∙ l.as_many;
        serves = λ k i p c e.
            let x = is_led l chosen m.served.as_many k i c in
            let q = l.strands k x.n p x.first e in
            let s = m.served.serves x.n i q.0 x.second q.1 in
            record {
              instance = s.instance;
              there = s.there;
              suits = record {
                same_strand = s.suits.same_strand ∙ q.2.strand;
                counted = subst (λ (b : ℕ). Stands standing (executions i schedule) b) q.2.bar s.suits.counted;
                same_values = s.suits.same_values ∙ canonical_all q.2.args (λ t d. sorted t (of_args x.n q.0 q.1 d));
                same_messages =
                    ap (λ b. map (message_of nf strands instances s.instance) (take b (events_of strands s.instance))) (sym q.2.bar)
                    ∙ s.suits.same_messages ∙ canonical_all q.2.msgs (λ t d. sorted t (of_msgs x.n q.0 q.1 d));
              };
            };
        apart = λ j k i c d.
            let x = is_led l chosen m.served.as_many j i c in
            let y = is_led l chosen m.served.as_many k i d in
            l.different j k x.n x.first (y.first ∙ ap Some (m.served.apart y.n x.n i y.second x.second));
      };
      known = λ t c. let u = l.known t c in subst (λ (x : Term). Contains sent x) (sorted_canonical th.sig pairs u.0 t (same_sym u.2) (sorted u.0 (of_known u.1))) (m.known u.0 u.1);
      unknown = λ t c was. let u = l.unknown t c in m.unknown u.0 u.1 (subst (λ (x : Term). Contains sent x) (sym (sorted_canonical th.sig pairs u.0 t (same_sym u.2) (sorted u.0 (of_unknown u.1)))) was);
    }

  module _ (strands : List Strand) (instances : List Instance) (schedule : List ℕ) (standing : Standing) (sent : List Term) where
    -- who meets a pattern meets each that covers it
    pub cover_meets : (t s : Pattern) (u a w : List (Variable × Term)) (at : List ℕ) → IsCover th.sig.sorts t s u at → DoesBoth t u a w →
        MeetsBy (normalized th) strands instances schedule standing th.sig sent s a → MeetsBy (normalized th) strands instances schedule standing th.sig sent t w
    cover_meets t s u a w at cover does m =
        let terms : (f : Term) → IsTermOf t f → IsNormalTerm (normalized th) th.sig (applied w f) = λ f there.
        let found = cover_term t s u cover.lies there in
        normal_alike (same_sym (does_term t s u a w does f there)) (normal_alike (same_sym (same_applied a found.same)) (m.terms found.term found.there)) in
        record {
          values = λ v occurs. value_normal w occurs.term v occurs.within (terms occurs.term occurs.there);
          sorts = sorts_through th.sig.sorts t s u a w at cover does m.sorts;
          terms = terms;
          chosen = led at m.chosen;
          meets = ground_pull (normalized th) strands instances schedule standing (lies_under t s u a w does cover.lies)
              (λ x there. let of = of_mapped (applied a) s there in subst (λ (y : Term). well_sorted th.sig y ≡ true) of.is (m.terms of.term of.there).term.sorted) m.meets;
        }

-- ## Standing at a bar or behind it

module _ (nf : Term → Term) (strands : List Strand) (instances : List Instance) where
  -- who stands exactly at a bar stands at it or behind it
  pub at_least : {schedule : List ℕ} {sent : List Term} {g : Pattern} {chosen : List ℕ} → MeetsGround nf strands instances schedule Exactly sent g chosen → MeetsGround nf strands instances schedule AtLeast sent g chosen
  at_least m = record {
    served = record {
      as_many = m.served.as_many;
      serves = λ k n p c e. let s = m.served.serves k n p c e in record {
        instance = s.instance;
        there = s.there;
        suits = record {
          same_strand = s.suits.same_strand;
          counted = omega (arith, s.suits.counted);
          same_values = s.suits.same_values;
          same_messages = s.suits.same_messages;
        };
      };
      apart = m.served.apart;
    };
    known = m.known;
    unknown = m.unknown;
  }

  -- and a longer run meets, at least, what a shorter one does, where nothing is asked not to be known
  pub longer : {schedule rest : List ℕ} {sent told : List Term} {g : Pattern} {chosen : List ℕ} → IsShorter schedule rest sent told → g.unknown ≡ [] → MeetsGround nf strands instances rest AtLeast told g chosen → MeetsGround nf strands instances schedule AtLeast sent g chosen
  longer {g = g} shorter none m = record {
    served = record {
      as_many = m.served.as_many;
      serves = λ k n p c e. let s = m.served.serves k n p c e in record {
        instance = s.instance;
        there = s.there;
        suits = record {
          same_strand = s.suits.same_strand;
          counted = omega (arith, s.suits.counted, shorter.fewer n);
          same_values = s.suits.same_values;
          same_messages = s.suits.same_messages;
        };
      };
      apart = m.served.apart;
    };
    known = λ t c. shorter.less (canonical t) (m.known t c);
    unknown = λ t c was. let empty : Contains {X = Term} [] t = subst (λ (ts : List Term). Contains ts t) none c in omega (arith, empty.1);
  }

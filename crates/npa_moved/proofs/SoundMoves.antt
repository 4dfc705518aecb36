-- What comes of a move of a pattern that fits is a step by the result's own unifier.
use Rattle.std.proofs.Common.{◌≡◌, ℕ, true, false, Some, List, [], ◌∷◌, ◌++◌, slice_get, Contains, sym, ◌∙◌, subst}
use Rattle.std.specs.List.{flat_map}
use Rattle.std.proofs.lemmas.List.Elements.{Contains-append_left, Contains-append_right}
use Rattle.npa_sorts.specs.Subsorts.{IsAtOrBelow}
use Rattle.npa_sorts.proofs.Steps.{at_or_below_trans}
use Rattle.npa_term.specs.declared.term.Term.{Term, Var}
use Rattle.npa_term.specs.declared.term.Var.{Var as Variable}
use Rattle.npa_term.specs.Bound.{applied}
use Rattle.npa_term.specs.Numbering.{variables_once}
use Rattle.npa_term.specs.Parts.{least_sort}
use Rattle.npa_term.specs.Same.{Same, SameAll, through, nothing, first}
use Rattle.npa_term.specs.Variables.{raised_var, renamed, variables}
use Rattle.npa_term.proofs.SameLaws.{same_sym}
use Rattle.npa_sig.specs.declared.protocol.Event.{Event}
use Rattle.npa_sig.specs.declared.protocol.Protocol.{Protocol}
use Rattle.npa_sig.specs.declared.protocol.Strand.{Strand}
use Rattle.npa_unify.specs.Answers.{unifiers}
use Rattle.npa_unify.proofs.Answering.{unifies}
use Rattle.npa_unify.proofs.Members.{here}
use Rattle.npa_rewrite.specs.Theories.{theory_of}
use Rattle.npa_variants.specs.declared.variant.Variant.{Variant}
use Rattle.npa_variants.specs.StrandVariants.{IsStrandVariant, messages_of}
use Rattle.npa_variants.proofs.Members.{mapped_member}
use Rattle.npa_variants.proofs.Theories.{IsNarrowing}
use Rattle.npa_model.specs.declared.pattern.PStrand.{PStrand}
use Rattle.npa_model.specs.declared.pattern.Pattern.{Pattern}
use Rattle.npa_model.specs.Backward.{NoReceive}
use Rattle.npa_model.specs.Fitting.{IsFit}
use Rattle.npa_model.specs.Patterns.{IsTermOf, of_args, of_msgs, of_known, of_unknown, map_pattern}
use Rattle.npa_model.proofs.Places.{member_at}
use Rattle.npa_moves.specs.declared.step.Rule.{Rule}
use Rattle.npa_moves.specs.Finishing.{draft_of, instance_of, keeps_apart, pattern_terms}
use Rattle.npa_moves.specs.Leading.{FitsVariables, Introduced, IsStepBy, receives, sends, learns, introduces, Last, Makes, before, joined_by, knowing, strand_under}
use Rattle.npa_moves.specs.Moves.{Move, past_pattern, raised_strand}
use Rattle.npa_moves.specs.Picks.{Pick, picks}
use Rattle.npa_moves.specs.Steps.{pattern_once}
use Rattle.npa_moves.proofs.OtherSteps.{map_push, message_member}
use Rattle.npa_moves.proofs.OwnMoves.{occurs_once}
use Rattle.npa_moves.proofs.Picking.{left_of}
use Rattle.npa_moved.proofs.Drafting.{IsMade, made_alike, made_apart, made_joined, pattern_under, raised_made, raising, raising_agrees, result, unifier, unifier_agrees, unifier_image, ν}
use Rattle.npa_moved.proofs.Finished.{IsFitMove}
use Rattle.npa_moved.proofs.FitMoves.{introduced_fits, learnt_fits, messages, spoken}
use Rattle.npa_moved.proofs.Making.{are_apart, made, made_equal, raised_image, same_joined}
use Rattle.npa_moved.proofs.NamedMoves.{introduce_named, introduced_move, learn_named, learnt_move, learnt_terms, message_there, receive_named, received_move, received_terms, send_named, sent_move, sent_terms, taken_there}
use Rattle.npa_moved.proofs.Plain.{KeepsPlain, below_instance, numbered_keeps, unifier_keeps}
use Rattle.npa_moved.proofs.StepMoves.{IsStepMove, a_receive, a_send, a_learnt, an_introduced}

-- ## Sorts

module _ (protocol : Protocol) (can : IsNarrowing (theory_of protocol)) {L : Type 0} (m : Move L) (fit : IsFitMove protocol m) (vs : List Variable) (s : List (Variable × Term))
    (listed : Contains (unifiers protocol.sig.sorts m.pairs m.next) s) where
  -- what is made of a variable is of a sort at or below its own
  pub made_below : (v : Variable) → IsAtOrBelow protocol.sig.sorts (least_sort (made s (ν vs m.from s) (Var v))) v.sort
  made_below v = at_or_below_trans
      (below_instance (theory_of protocol) can (ν vs m.from s) second_keeps (instance_of s (Var v)))
      (below_instance (theory_of protocol) can s (unifier_keeps (theory_of protocol) can m.pairs m.next fit.low fit.pairs s listed) (Var v))
    where
      second_keeps : KeepsPlain (theory_of protocol) (ν vs m.from s)
      second_keeps = numbered_keeps (theory_of protocol) can 0 (variables_once (pattern_terms (draft_of vs m.from s).pattern ++ (draft_of vs m.from s).values))

  pub unifier_below : FitsVariables protocol.sig.sorts vs (unifier vs m.from s)
  unifier_below v c = subst (λ (t : Term). IsAtOrBelow protocol.sig.sorts (least_sort t) v.sort) (sym (unifier_image vs m.from s v c)) (made_below v)

  -- the members of a pair are made equal
  pub pair_made : (t u : Term) → Contains m.pairs (t, u) → Same (made s (ν vs m.from s) t) (made s (ν vs m.from s) u)
  pair_made t u c = made_equal s (ν vs m.from s) t u ((unifies protocol.sig.sorts m.pairs m.next s fit.low listed).equal t u c)

  pub apart_made : keeps_apart m.apart s ≡ true → (t u : Term) → IsTermOf m.from t → IsTermOf m.from u → Contains m.apart (t, u) → Same (made s (ν vs m.from s) t) (made s (ν vs m.from s) u) → ⊥
  apart_made apart t u in_t in_u c same = are_apart m.apart s apart (t, u) c (made_apart vs m.from s t u in_t in_u same)

module _ (protocol : Protocol) (can : IsNarrowing (theory_of protocol)) (g : Pattern) (fit : IsFit protocol g) (variants : Strand → List Variant)
    (varied : (s : ℕ) (strand : Strand) (v : Variant) → slice_get protocol.strands s ≡ Some strand → Contains (variants strand) v → IsStrandVariant (theory_of protocol) strand v) where
  abbrev vs : List Variable
  vs = pattern_once g

  -- What comes of a move by each unifier is a step by the result's unifier.
  abbrev pub IsSound : Move Rule → Type 0
  IsSound m = (s : List (Variable × Term)) → Contains (unifiers protocol.sig.sorts m.pairs m.next) s → keeps_apart m.apart s ≡ true →
      IsStepBy protocol.strands variants protocol.sig.sorts (unifier vs m.from s) g (result vs m.from s)

  module _ (m : Move Rule) (s : List (Variable × Term)) where
    -- the unifier makes the same of the pattern's terms
    own_agree : (t : Term) → IsTermOf g t → Same (applied (unifier vs m.from s) t) (made s (ν vs m.from s) t)
    own_agree t there = unifier_agrees vs m.from s t (λ v c. occurs_once g v (record { term = t; there = there; within = c }))

    own_made : ((t : Term) → IsTermOf m.from t → IsTermOf g t) → IsMade vs m.from s (map_pattern (applied (unifier vs m.from s)) m.from) m.from
    own_made own = pattern_under vs m.from s (unifier vs m.from s) m.from (λ t c. own_agree t (own t c))

  module _ (k : ℕ) (p : PStrand) (bar : ℕ) (event : Event) (t : Term) (last : Last protocol.strands g k p bar event t) where
    received_sound : event.sent ≡ false → NoReceive protocol.strands (before k g) → IsSound (received_move g k p bar t)
    received_sound gets none s listed apart =
        let m = received_move g k p bar t in
        receives k p bar event t last gets none
        (made_alike vs m.from s (map_pattern (applied (unifier vs m.from s)) m.from) (own_made m s (received_terms protocol.strands g k p bar event t last)))

    sent_sound : event.sent ≡ true → NoReceive protocol.strands g → IsSound (sent_move g k p bar)
    sent_sound gives none s listed apart =
        let m = sent_move g k p bar in
        sends k p bar event t none last gives
        (made_alike vs m.from s (map_pattern (applied (unifier vs m.from s)) m.from) (own_made m s (sent_terms protocol.strands g k p bar event t last)))

    module _ (pick : Pick) (picked : Contains (picks g.known) pick) where
      abbrev learnt : Move Rule
      learnt = learnt_move g k p pick bar t

      learnt_fit : IsFitMove protocol learnt
      learnt_fit = learnt_fits protocol can g fit k p bar event t last pick picked

      message_agrees : (s : List (Variable × Term)) → Same (applied (unifier vs learnt.from s) t) (made s (ν vs learnt.from s) t)
      message_agrees s = own_agree learnt s t (message_there protocol.strands g k p bar event t last)

      learnt_makes : (s : List (Variable × Term)) → Contains (unifiers protocol.sig.sorts learnt.pairs learnt.next) s → keeps_apart learnt.apart s ≡ true →
          Makes (unifier vs learnt.from s) (applied (unifier vs learnt.from s) t) pick g
      learnt_makes s listed apart = record {
        picked = picked;
        equal = λ x c.
            through (applied (unifier vs learnt.from s) x) (made s (ν vs learnt.from s) x) (applied (unifier vs learnt.from s) t) (own_agree learnt s x (taken_there g pick picked x c))
            (through (made s (ν vs learnt.from s) x) (made s (ν vs learnt.from s) t) (applied (unifier vs learnt.from s) t)
            (pair_made protocol can learnt learnt_fit vs s listed x t (mapped_member (λ u. (u, t)) pick.taken x c)) (same_sym (message_agrees s)));
        apart = λ x c same.
            apart_made protocol can learnt learnt_fit vs s listed apart x t
            (of_unknown (Contains-append_left g.unknown (t ∷ []) x c)) (of_unknown (Contains-append_right g.unknown (t ∷ []) t (here t []))) (mapped_member (λ u. (u, t)) g.unknown x c)
            (through (made s (ν vs learnt.from s) x) (applied (unifier vs learnt.from s) x) (made s (ν vs learnt.from s) t) (same_sym (own_agree learnt s x (of_unknown c)))
            (through (applied (unifier vs learnt.from s) x) (applied (unifier vs learnt.from s) t) (made s (ν vs learnt.from s) t) same (message_agrees s)));
      }

      learnt_sound : event.sent ≡ true → NoReceive protocol.strands g → IsSound learnt
      learnt_sound gives none s listed apart =
          learns k p bar event t pick none last gives (learnt_makes s listed apart)
          (made_alike vs learnt.from s (map_pattern (applied (unifier vs learnt.from s)) learnt.from) (own_made learnt s (learnt_terms protocol.strands g k p bar event t last pick picked)))

  -- ## A further instance

  module _ (r : ℕ) (strand : Strand) (n : ℕ) (v : Variant) (e : ℕ) (event : Event) (t : Term) (pick : Pick) (there : slice_get protocol.strands r ≡ Some strand) (listed : slice_get (variants strand) n ≡ Some v)
      (executed : slice_get strand.events e ≡ Some event) (gives : event.sent ≡ true) (message : slice_get (messages_of strand v) e ≡ Some t) (picked : Contains (picks g.known) pick)
      (s : List (Variable × Term)) where
    abbrev base : ℕ
    base = past_pattern g

    abbrev told : Term
    told = renamed base t

    abbrev move : Move Rule
    move = introduced_move g r strand n v e pick told

    -- the unifier, on the pattern's variables and on the variant's
    abbrev a : List (Variable × Term)
    a = unifier vs move.from s

    abbrev own : List Variable
    own = flat_map variables v.terms

    abbrev b : List (Variable × Term)
    b = raising vs move.from s base v

    abbrev makes_of : Term → Term
    makes_of = made s (ν vs move.from s)

    move_fit : IsFitMove protocol move
    move_fit = introduced_fits protocol can g fit r strand n v e t pick there (varied r strand v there (member_at (variants strand) n v listed)) message picked

    old_agree : (x : Term) → IsTermOf g x → Same (applied a x) (makes_of x)
    old_agree = own_agree move s

    message_agree : Same (applied b t) (makes_of told)
    message_agree = raising_agrees vs move.from s base v t (message_member strand v t (member_at (messages_of strand v) e t message))

    old_pattern : IsMade vs move.from s (map_pattern (applied a) (knowing pick.left g)) (knowing pick.left g)
    old_pattern = pattern_under vs move.from s a (knowing pick.left g) (λ x c. old_agree x (knowing_term x c))
      where
        knowing_term : (x : Term) → IsTermOf (knowing pick.left g) x → IsTermOf g x
        knowing_term x (of_args k p d c) = of_args k p d c
        knowing_term x (of_msgs k p d c) = of_msgs k p d c
        knowing_term x (of_known c) = of_known (left_of g.known pick picked x c)
        knowing_term x (of_unknown c) = of_unknown c

    abbrev joined : Pattern
    joined = joined_by (strand_under b r strand v e) (applied b t) (map_pattern (applied a) (knowing pick.left g))

    joined_made : IsMade vs move.from s joined move.from
    joined_made = record {
      strands = made_joined vs move.from s (map_pattern (applied a) (knowing pick.left g)).strands g.strands (strand_under b r strand v e ∷ []) (raised_strand base r strand v e ∷ []) old_pattern.strands (raised_made vs move.from s base v r strand e, tt);
      known = old_pattern.known;
      unknown = subst (SameAll joined.unknown) (sym (map_push makes_of g.unknown told))
          (same_joined old_pattern.unknown (first (applied b t) (makes_of told) [] [] message_agree nothing));
    }

    module _ (unifies_them : Contains (unifiers protocol.sig.sorts move.pairs move.next) s) (apart : keeps_apart move.apart s ≡ true) where
      introduced : Introduced protocol.strands variants protocol.sig.sorts r strand n v e b t
      introduced = record {
        there = there;
        listed = listed;
        event = event;
        executed = executed;
        sent = gives;
        message = message;
        sorts = λ y c.
            subst (λ (x : Term). IsAtOrBelow protocol.sig.sorts (least_sort x) y.sort) (sym (raised_image s (ν vs move.from s) base own y c))
            (made_below protocol can move move_fit vs s unifies_them (raised_var base y));
      }

      introduced_makes : Makes a (applied b t) pick g
      introduced_makes = record {
        picked = picked;
        equal = λ x c.
            through (applied a x) (makes_of x) (applied b t) (old_agree x (taken_there g pick picked x c))
            (through (makes_of x) (makes_of told) (applied b t)
            (pair_made protocol can move move_fit vs s unifies_them x told (mapped_member (λ u. (u, told)) pick.taken x c)) (same_sym message_agree));
        apart = λ x c same.
            apart_made protocol can move move_fit vs s unifies_them apart x told
            (of_unknown (Contains-append_left g.unknown (told ∷ []) x c)) (of_unknown (Contains-append_right g.unknown (told ∷ []) told (here told []))) (mapped_member (λ u. (u, told)) g.unknown x c)
            (through (makes_of x) (applied a x) (makes_of told) (same_sym (old_agree x (of_unknown c)))
            (through (applied a x) (applied b t) (makes_of told) same message_agree));
      }

      introduced_step : NoReceive protocol.strands g → IsStepBy protocol.strands variants protocol.sig.sorts a g (result vs move.from s)
      introduced_step none = introduces r strand n v e b t pick none introduced introduced_makes (made_alike vs move.from s joined joined_made)

  -- ## Each move

  pub move_sound : (m : Move Rule) → IsStepMove protocol.strands g (messages protocol can g fit variants varied) variants (spoken protocol can g fit variants varied) m → IsSound m
  move_sound m (a_receive k p bar event t last gets none is) =
      subst IsSound (sym (is ∙ receive_named protocol.strands g k p bar event t last)) (received_sound k p bar event t last gets none)
  move_sound m (a_send k p bar event t none last gives is) =
      subst IsSound (sym (is ∙ send_named protocol.strands g k p bar event t last)) (sent_sound k p bar event t last gives none)
  move_sound m (a_learnt k p bar event t pick none last gives picked is) =
      subst IsSound (sym (is ∙ learn_named protocol.strands g k p bar event t last pick)) (learnt_sound k p bar event t last pick picked gives none)
  move_sound m (an_introduced r strand n v e event t pick none there listed executed gives message picked is) =
      subst IsSound (sym (is ∙ introduce_named g r strand n v e pick t message))
      (λ s unifies_them apart. introduced_step r strand n v e event t pick there listed executed gives message picked s unifies_them apart none)

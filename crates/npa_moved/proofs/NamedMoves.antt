-- Moves whose bar and message are named, and their terms.
use Rattle.std.proofs.Common.{◌≡◌, ℕ, ◌+◌, inl, inr, Some, List, [], ◌∷◌, ◌++◌, slice_get, Contains, ◌∙◌, ap, subst}
use Rattle.std.proofs.lemmas.List.Elements.{Contains-append_cases}
use Rattle.std.proofs.lemmas.Option.{get_or_from_slice_get}
use Rattle.npa_term.specs.declared.term.Term.{Term, Name}
use Rattle.npa_term.specs.Variables.{renamed}
use Rattle.npa_sig.specs.declared.protocol.Event.{Event}
use Rattle.npa_sig.specs.declared.protocol.Strand.{Strand}
use Rattle.npa_unify.proofs.Members.{only_one}
use Rattle.npa_variants.specs.declared.variant.Variant.{Variant}
use Rattle.npa_variants.specs.StrandVariants.{messages_of}
use Rattle.npa_model.specs.declared.pattern.PStrand.{PStrand}
use Rattle.npa_model.specs.declared.pattern.Pattern.{Pattern}
use Rattle.npa_model.specs.Backward.{received}
use Rattle.npa_model.specs.Patterns.{IsTermOf, of_msgs, of_known, of_unknown}
use Rattle.npa_model.proofs.Places.{member_at}
use Rattle.npa_moves.specs.declared.step.Rule.{Rule}
use Rattle.npa_moves.specs.Leading.{Last, unlearnt, unsent}
use Rattle.npa_moves.specs.Moves.{Move, each_with, introduce_move, last_message, learn_move, past_pattern, past_variant, raised_strand, receive_move, send_move}
use Rattle.npa_moves.specs.Picks.{Pick, picks}
use Rattle.npa_moves.proofs.OwnMoves.{back_terms}
use Rattle.npa_moves.proofs.Picking.{left_of, taken_of}
use Rattle.npa_moves.proofs.Problems.{bar_is, message_is}

module _ (g : Pattern) (k : ℕ) (p : PStrand) where
  abbrev pub received_move : ℕ → Term → Move Rule
  received_move bar m = record { label = (receive_move g k p).label; from = received k p bar m g; pairs = []; apart = []; next = past_pattern g }

  abbrev pub sent_move : ℕ → Move Rule
  sent_move bar = record { label = (send_move g k p).label; from = unsent k p bar g; pairs = []; apart = []; next = past_pattern g }

  abbrev pub learnt_move : Pick → ℕ → Term → Move Rule
  learnt_move pick bar m = record {
    label = (learn_move g k p pick).label;
    from = unlearnt k p bar m pick.left g;
    pairs = each_with m pick.taken;
    apart = each_with m g.unknown;
    next = past_pattern g;
  }

module _ (strands : List Strand) (g : Pattern) (k : ℕ) (p : PStrand) (bar : ℕ) (event : Event) (m : Term) (last : Last strands g k p bar event m) where
  -- ## They are the moves of the list

  pub receive_named : receive_move g k p ≡ received_move g k p bar m
  receive_named = ap (λ b. received_move g k p b (last_message p)) (bar_is strands g k p bar event m last) ∙ ap (received_move g k p bar) (message_is strands g k p bar event m last)

  pub send_named : send_move g k p ≡ sent_move g k p bar
  send_named = ap (sent_move g k p) (bar_is strands g k p bar event m last)

  pub learn_named : (pick : Pick) → learn_move g k p pick ≡ learnt_move g k p pick bar m
  learn_named pick = ap (λ b. learnt_move g k p pick b (last_message p)) (bar_is strands g k p bar event m last) ∙ ap (learnt_move g k p pick bar) (message_is strands g k p bar event m last)

  -- ## Their terms are terms of the pattern

  pub message_there : IsTermOf g m
  message_there = of_msgs k p last.there (member_at p.msgs bar m last.message)

  pushed : (ts : List Term) → ((t : Term) → Contains ts t → IsTermOf g t) → (t : Term) → Contains (ts ++ m ∷ []) t → IsTermOf g t
  pushed ts each t c = elim (Contains-append_cases ts (m ∷ []) t c) [
    | inl d ↦ each t d
    | inr d ↦ subst (IsTermOf g) (only_one m t d) message_there
  ]

  pub received_terms : (t : Term) → IsTermOf (received_move g k p bar m).from t → IsTermOf g t
  received_terms = back_terms g k p bar last.there (g.known ++ m ∷ []) g.unknown (pushed g.known (λ t c. of_known c)) (λ t c. of_unknown c)

  pub sent_terms : (t : Term) → IsTermOf (sent_move g k p bar).from t → IsTermOf g t
  sent_terms = back_terms g k p bar last.there g.known g.unknown (λ t c. of_known c) (λ t c. of_unknown c)

  pub learnt_terms : (pick : Pick) → Contains (picks g.known) pick → (t : Term) → IsTermOf (learnt_move g k p pick bar m).from t → IsTermOf g t
  learnt_terms pick picked = back_terms g k p bar last.there pick.left (g.unknown ++ m ∷ []) (λ t c. of_known (left_of g.known pick picked t c)) (pushed g.unknown (λ t c. of_unknown c))

pub taken_there : (g : Pattern) (pick : Pick) → Contains (picks g.known) pick → (t : Term) → Contains pick.taken t → IsTermOf g t
taken_there g pick picked t c = of_known (taken_of g.known pick picked t c)

-- ## A further instance

abbrev pub introduced_move : Pattern → ℕ → Strand → ℕ → Variant → ℕ → Pick → Term → Move Rule
introduced_move g s strand n v e pick told = record {
  label = (introduce_move g s strand n v e pick).label;
  from = record {
    strands = g.strands ++ raised_strand (past_pattern g) s strand v e ∷ [];
    known = pick.left;
    unknown = g.unknown ++ told ∷ [];
  };
  pairs = each_with told pick.taken;
  apart = each_with told g.unknown;
  next = past_pattern g + past_variant v;
}

pub introduce_named : (g : Pattern) (s : ℕ) (strand : Strand) (n : ℕ) (v : Variant) (e : ℕ) (pick : Pick) (m : Term) → slice_get (messages_of strand v) e ≡ Some m →
    introduce_move g s strand n v e pick ≡ introduced_move g s strand n v e pick (renamed (past_pattern g) m)
introduce_named g s strand n v e pick m message =
    ap (λ (t : Term). introduced_move g s strand n v e pick (renamed (past_pattern g) t)) (get_or_from_slice_get (messages_of strand v) e m (Name 0) message)

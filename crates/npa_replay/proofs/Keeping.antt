-- A choice that is kept for the next part.
use Rattle.std.proofs.Common.{◌≡◌, ℕ, zero, suc, ◌+◌, ◌<◌, List, [], ◌∷◌, ◌++◌, append_assoc, append-nil, take, length, get_or, refl, sym, ◌∙◌, ap, subst, arith}
use Rattle.npa_sorts.specs.Subsorts.{Subsorts}
use Rattle.npa_term.specs.declared.term.Term.{Term}
use Rattle.npa_match.specs.Matching.{HasMatch, read_pairs}
use Rattle.npa_model.specs.declared.aim.Part.{Part}
use Rattle.npa_model.specs.declared.run.Instance.{Instance}
use Rattle.npa_model.specs.State.{State}
use Rattle.npa_replay.specs.Choices.{AreCandidates, Can, next, done, taken}
use Rattle.npa_replay.specs.Groups.{HasChoice}
use Rattle.npa_replay.specs.Held.{IsHeld, IsServed, Serves, none, more, IsKept}
use Rattle.npa_replay.specs.declared.choice.Choice.{Choice}
use Rattle.npa_replay.proofs.Choosing.{matcher_match}
use Rattle.npa_replay.proofs.Holding.{held_matcher}
use Rattle.npa_replay.proofs.Picking.{front_choice}

module _ (instances : List Instance) (state : State) (o : Subsorts) where
  -- parts that are served, and others that can be met then, can be met from the start
  from_start : {ps : List Part} {used : List ℕ} {pairs : List (Term × Term)} → Serves instances state ps used pairs → (qs : List Part) → Can instances state (HasMatch o) qs used pairs →
      Can instances state (HasMatch o) (ps ++ qs) [] []
  from_start none qs c = c
  from_start (more ps used pairs p n served target free) qs c =
      subst (λ (rs : List Part). Can instances state (HasMatch o) rs [] []) (sym (append_assoc ps (p ∷ []) qs)) (from_start served (p ∷ qs) (next p qs used pairs n target free c))

  kept_can : (ps : List Part) (c : Choice) → IsKept instances state o ps c → Can instances state (HasMatch o) ps [] []
  kept_can ps c k =
      subst (λ (rs : List Part). Can instances state (HasMatch o) rs [] []) (append-nil ps)
      (from_start k.serves [] (done c.used (read_pairs c.pairs) (matcher_match o (read_pairs c.pairs) (held_matcher o c k.held))))

  -- so there is a choice for the first so many
  pub kept_choice : (parts : List Part) (n : ℕ) (c : Choice) → IsKept instances state o (take n parts) c → HasChoice instances state o parts (λ i. i < n)
  kept_choice parts n c k = front_choice instances state o parts n (kept_can (take n parts) c k)

  take_next : (parts : List Part) (k : ℕ) (d : Part) → k < length parts → take (k + 1) parts ≡ take k parts ++ get_or parts k d ∷ []
  take_next parts k d l = subst (λ n. take n parts ≡ take k parts ++ get_or parts k d ∷ []) same (by parts k l) where
    same : suc k ≡ k + 1
    same = omega arith

    by : (ps : List Part) (i : ℕ) → i < length ps → take (suc i) ps ≡ take i ps ++ get_or ps i d ∷ []
    by [] i l = absurd (let no : ⊥ = omega (arith, l) in no)
    by (p ∷ ps) zero l = refl
    by (p ∷ ps) (suc i) l = ap (λ qs. p ∷ qs) (by ps i (omega (arith, l)))

  -- the next part is served
  pub kept_next : (parts : List Part) (k : ℕ) (p : Part) (ns : List ℕ) (c d : Choice) → k < length parts → p ≡ get_or parts k p → AreCandidates instances state o p ns →
      IsKept instances state o (take k parts) c → IsHeld o d → IsServed instances state p ns c d → IsKept instances state o (take (k + 1) parts) d
  kept_next parts k p ns c d l is are kept held served = record {
    held = held;
    serves = subst (λ (ps : List Part). Serves instances state ps d.used (read_pairs d.pairs)) (ap (λ q. take k parts ++ q ∷ []) is ∙ sym (take_next parts k p l))
        (subst (λ (us : List ℕ). Serves instances state (take k parts ++ p ∷ []) us (read_pairs d.pairs)) (sym served.used)
        (subst (λ (ps : List (Term × Term)). Serves instances state (take k parts ++ p ∷ []) (c.used ++ taken p served.number) ps) (sym served.pairs)
        (more (take k parts) c.used (read_pairs c.pairs) p served.number kept.serves (are.targets served.number served.among) served.free)));
  }

  -- at first
  pub kept_none : (parts : List Part) (c : Choice) → IsHeld o c → c.used ≡ [] → read_pairs c.pairs ≡ [] → IsKept instances state o (take 0 parts) c
  kept_none parts c held used pairs = record {
    held = held;
    serves = subst (λ (us : List ℕ). Serves instances state [] us (read_pairs c.pairs)) (sym used) (subst (λ (ps : List (Term × Term)). Serves instances state [] [] ps) (sym pairs) none);
  }

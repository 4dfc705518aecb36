-- The first strand that received last.
use Rattle.std.proofs.Common.{◌≡◌, ℕ, suc, ◌+◌, true, cond, Some, List, ◌∷◌, drop, drop-cons, slice_get, ◌∙◌, ap, arith}
use Rattle.std.proofs.lemmas.Option.{get_or_from_slice_get, slice_get_within}
use Rattle.npa_sig.specs.declared.protocol.Strand.{Strand}
use Rattle.npa_model.specs.declared.pattern.PStrand.{PStrand}
use Rattle.npa_model.specs.declared.pattern.Pattern.{Pattern}
use Rattle.npa_moves.specs.Lists.{first_receive}
use Rattle.npa_moves.specs.Moves.{is_receive, last_event, receive_move}

dropped : (ps : List PStrand) (k : ℕ) (p : PStrand) → slice_get ps k ≡ Some p → drop k ps ≡ p ∷ drop (k + 1) ps
dropped ps k p there =
    drop-cons ps k p (slice_get_within ps k p there) ∙ ap (λ q. q ∷ drop (suc k) ps) (get_or_from_slice_get ps k p p there) ∙ ap (λ n. p ∷ drop n ps) (let n : suc k ≡ k + 1 = omega arith in n)

pub found_here : (strands : List Strand) (g : Pattern) (ps : List PStrand) (k : ℕ) (p : PStrand) → slice_get ps k ≡ Some p → is_receive (last_event strands p) ≡ true →
    first_receive strands g k (drop k ps) ≡ Some (receive_move g k p)
found_here strands g ps k p there received =
    ap (first_receive strands g k) (dropped ps k p there)
    ∙ ap (λ b. cond b (Some (receive_move g k p)) (first_receive strands g (k + 1) (drop (k + 1) ps))) received

-- Three pieces that are appended one after another.
use Rattle.std.proofs.Common.{◌≡◌, ℕ, List, ◌++◌, ap, ◌∙◌}
use Rattle.std.proofs.lemmas.List.{append_assoc}

pub joined : (old words line end first second third : List ℕ) → first ≡ old ++ words → second ≡ first ++ line → third ≡ second ++ end → third ≡ old ++ (words ++ (line ++ end))
joined old words line end first second third a b c =
    c ∙ ap (λ xs. xs ++ end) (b ∙ ap (λ xs. xs ++ line) a) ∙ append_assoc (old ++ words) line end ∙ append_assoc old words (line ++ end)

-- A unifier and the facts that a message has to differ from, one after the other.
use Rattle.std.proofs.Common.{◌≡◌, ℕ, suc, ◌+◌, ◌<◌, Bool, true, false, List, ◌∷◌, length, drop, get_or, drop-cons, refl, sym, ◌∙◌, ap, arith}
use Rattle.npa_term.specs.declared.term.Term.{Term}
use Rattle.npa_term.specs.declared.term.Var.{Var as Variable}
use Rattle.npa_term.specs.Bound.{applied}
use Rattle.npa_term.specs.Computed.{is_same}
use Rattle.npa_moves.specs.Finishing.{keeps_apart}
use Rattle.npa_moves.specs.Moves.{each_with}

dropped : (ts : List Term) (i : ℕ) (t : Term) → i < length ts → t ≡ get_or ts i t → drop i ts ≡ t ∷ drop (i + 1) ts
dropped ts i t within is = drop-cons ts i t within ∙ ap (λ x. x ∷ drop (suc i) ts) (sym is) ∙ ap (λ n. t ∷ drop n ts) (let n : suc i ≡ i + 1 = omega arith in n)

module _ (s : List (Variable × Term)) (m : Term) where
  first_equal : (t : Term) (ts : List Term) → is_same (applied s t) (applied s m) ≡ true → keeps_apart (each_with m (t ∷ ts)) s ≡ false
  first_equal t ts e = elim (is_same (applied s t) (applied s m)) as (λ b. is_same (applied s t) (applied s m) ≡ b → b ≡ true → keeps_apart (each_with m (t ∷ ts)) s ≡ false) [
    | true ↦ λ is _. cc
    | false ↦ λ is no_. absurd (let no_ : ⊥ = cc in no_)
  ] refl e

  first_apart : (t : Term) (ts : List Term) → is_same (applied s t) (applied s m) ≡ false → keeps_apart (each_with m (t ∷ ts)) s ≡ keeps_apart (each_with m ts) s
  first_apart t ts e = cc

  read_pair : (t made sent : Term) (b : Bool) → made ≡ applied s t → sent ≡ applied s m → b ≡ is_same made sent → is_same (applied s t) (applied s m) ≡ b
  read_pair t made sent b is of_ test = ap (λ x. is_same x (applied s m)) (sym is) ∙ ap (is_same made) (sym of_) ∙ sym test

  pub made_equal : (facts : List Term) (i : ℕ) (t made sent : Term) {b : Bool} → i < length facts → t ≡ get_or facts i t → made ≡ applied s t → sent ≡ applied s m → b ≡ is_same made sent → b ≡ true →
      keeps_apart (each_with m (drop i facts)) s ≡ keeps_apart (each_with m facts) s → false ≡ keeps_apart (each_with m facts) s
  made_equal facts i t made sent {b} within here is of_ test yes_ whole =
      sym (first_equal t (drop (i + 1) facts) (read_pair t made sent b is of_ test ∙ yes_)) ∙ ap (λ ts. keeps_apart (each_with m ts) s) (sym (dropped facts i t within here)) ∙ whole

  pub kept_apart : (facts : List Term) (i : ℕ) (t made sent : Term) {b : Bool} → i < length facts → t ≡ get_or facts i t → made ≡ applied s t → sent ≡ applied s m → b ≡ is_same made sent → b ≡ false →
      keeps_apart (each_with m (drop i facts)) s ≡ keeps_apart (each_with m facts) s → keeps_apart (each_with m (drop (i + 1) facts)) s ≡ keeps_apart (each_with m facts) s
  kept_apart facts i t made sent {b} within here is of_ test other whole =
      sym (first_apart t (drop (i + 1) facts) (read_pair t made sent b is of_ test ∙ other)) ∙ ap (λ ts. keeps_apart (each_with m ts) s) (sym (dropped facts i t within here)) ∙ whole

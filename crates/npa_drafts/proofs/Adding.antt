-- Results are added one after the other.
use Rattle.std.proofs.Common.{◌≡◌, ℕ, suc, ◌+◌, ◌<◌, ◌≤◌, Bool, true, false, cond, Option, None, Some, Result, Ok, Err, List, [], ◌∷◌, ◌++◌, length, drop, get_or, drop-cons, refl, sym, ◌∙◌, ap, arith}
use Rattle.std.proofs.lemmas.List.{append_assoc}
use Rattle.fold_core.specs.declared.error.Large.{Large}
use Rattle.fold_core.specs.declared.error.Measure.{Measure}
use Rattle.npa_term.specs.declared.term.Term.{Term}
use Rattle.npa_term.specs.declared.term.Var.{Var as Variable}
use Rattle.npa_model.specs.declared.pattern.Pattern.{Pattern}
use Rattle.npa_moves.specs.Finishing.{draft_of, excess, keeps_apart}
use Rattle.npa_moves.specs.Gathering.{joined, unless_large}
use Rattle.npa_drafts.specs.declared.numbering.Numbered.{Numbered}
use Rattle.npa_drafts.specs.Drafts.{numbered_of, results_of}

abbrev Bindings : Type 0
Bindings = List (Variable × Term)

dropped : (ss : List Bindings) (i : ℕ) (s : Bindings) → i < length ss → s ≡ get_or ss i s → drop i ss ≡ s ∷ drop (i + 1) ss
dropped ss i s within is = drop-cons ss i s within ∙ ap (λ x. x ∷ drop (suc i) ss) (sym is) ∙ ap (λ n. s ∷ drop n ss) (let n : suc i ≡ i + 1 = omega arith in n)

small : (n : ℕ) (o : Option (Measure × ℕ)) (xs ys : List Numbered) → unless_large n o (Ok xs) ≡ Ok ys → (o ≡ None) × (xs ≡ ys)
small n None xs ys e = (refl, cc)
small n (Some m) xs ys e = let never : ⊥ = cc in absurd never

joined_twice : (xs ys : List Numbered) (r : Result (List Numbered) Large) → joined xs (joined ys r) ≡ joined (xs ++ ys) r
joined_twice xs ys (Ok zs) = ap Ok (sym (append_assoc xs ys zs))
joined_twice xs ys (Err e) = refl

longer : (xs : List Numbered) (x : Numbered) → length (xs ++ x ∷ []) ≡ length xs + 1
longer [] x = refl
longer (y ∷ xs) x = let rest = longer xs x in let n : suc (length (xs ++ x ∷ [])) ≡ suc (length xs) + 1 = omega (arith, rest) in n

-- What is made up to a unifier, and what follows is the whole.
pub record GoesOn (vs : List Variable) (from : Pattern) (apart : List (Term × Term)) (at i : ℕ) (ss : List Bindings) (made : List Numbered) (whole : Result (List Numbered) Large) : Type 0 where
  pub few : length made ≤ i
  pub results : joined made (results_of vs from apart (at + length made) (drop i ss)) ≡ whole

module _ (vs : List Variable) (from : Pattern) (apart : List (Term × Term)) where
  -- a unifier is left out
  pub left_out : (at i : ℕ) (ss : List Bindings) (s : Bindings) (made : List Numbered) (whole : Result (List Numbered) Large) {b : Bool} → i < length ss → s ≡ get_or ss i s → b ≡ keeps_apart apart s → b ≡ false →
      GoesOn vs from apart at i ss made whole → GoesOn vs from apart at (i + 1) ss made whole
  left_out at i ss s made whole {b} within is test no_ on = record {
    few = omega (arith, on.few);
    results =
        let n = at + length made in
        sym (ap (joined made) (ap (results_of vs from apart n) (dropped ss i s within is)
        ∙ ap (λ c. cond c (unless_large n (excess (draft_of vs from s).pattern) (joined (numbered_of vs (draft_of vs from s) ∷ []) (results_of vs from apart (n + 1) (drop (i + 1) ss)))) (results_of vs from apart n (drop (i + 1) ss)))
        (sym test ∙ no_)))
        ∙ on.results;
  }

  -- a result is added
  pub one_added : (at i : ℕ) (ss : List Bindings) (s : Bindings) (made more : List Numbered) (whole : Result (List Numbered) Large) {b : Bool} → i < length ss → s ≡ get_or ss i s → b ≡ keeps_apart apart s → b ≡ true →
      unless_large (at + length made) (excess (draft_of vs from s).pattern) (Ok (made ++ numbered_of vs (draft_of vs from s) ∷ [])) ≡ Ok more →
      GoesOn vs from apart at i ss made whole → GoesOn vs from apart at (i + 1) ss more whole
  one_added at i ss s made more whole {b} within is test yes_ added on =
      let n = at + length made in
      let x = numbered_of vs (draft_of vs from s) in
      let rest = drop (i + 1) ss in
      let given = small n (excess (draft_of vs from s).pattern) (made ++ x ∷ []) more added in
      let long : length more ≡ length made + 1 = ap length (sym given.1) ∙ longer made x in
      record {
        few = omega (arith, on.few, long);
        results =
            ap (λ k. joined more (results_of vs from apart k rest)) (let k : at + length more ≡ n + 1 = omega (arith, long) in k)
            ∙ ap (λ xs. joined xs (results_of vs from apart (n + 1) rest)) (sym given.1)
            ∙ sym (joined_twice made (x ∷ []) (results_of vs from apart (n + 1) rest))
            ∙ sym (ap (joined made) (ap (results_of vs from apart n) (dropped ss i s within is)
            ∙ ap (λ c. cond c (unless_large n (excess (draft_of vs from s).pattern) (joined (x ∷ []) (results_of vs from apart (n + 1) rest))) (results_of vs from apart n rest)) (sym test ∙ yes_)
            ∙ ap (λ o. unless_large n o (joined (x ∷ []) (results_of vs from apart (n + 1) rest))) given.0))
            ∙ on.results;
      }

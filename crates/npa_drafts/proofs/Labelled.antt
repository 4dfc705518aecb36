-- The results of a move by unifiers are those of its drawn ones, without the label.
use Rattle.std.proofs.Common.{◌≡◌, ℕ, ◌+◌, true, false, cond, Option, None, Some, Result, Ok, Err, List, [], ◌∷◌, map, refl, ◌∙◌, ap}
use Rattle.std.specs.Prelude.{filter}
use Rattle.fold_core.specs.declared.error.Large.{Large}
use Rattle.fold_core.specs.declared.error.Measure.{Measure}
use Rattle.npa_term.specs.declared.term.Term.{Term}
use Rattle.npa_term.specs.declared.term.Var.{Var as Variable}
use Rattle.npa_model.specs.declared.pattern.Pattern.{Pattern}
use Rattle.npa_moves.specs.Finishing.{Found, draft_of, excess, keeps_apart}
use Rattle.npa_moves.specs.Gathering.{Drawn, joined, measured, unless_large}
use Rattle.npa_moves.specs.Steps.{mapped}
use Rattle.npa_drafts.specs.declared.numbering.Numbered.{Numbered}
use Rattle.npa_drafts.specs.Drafts.{numbered_of, results_of}

module _ {L : Type 0} (label : L) (vs : List Variable) (from : Pattern) (apart : List (Term × Term)) where
  -- a result with its label
  abbrev pub labelled : Numbered → Found L
  labelled n = record { label = label; unifier = n.unifier; pattern = n.pattern }

  -- what is drawn by unifiers that aren't left out
  abbrev pub drawn : List (List (Variable × Term)) → List (Drawn L)
  drawn ss = map (λ s. record { label = label; draft = draft_of vs from s }) (filter (keeps_apart apart) ss)

  joined_labelled : (x : Numbered) (r : Result (List Numbered) Large) → joined (labelled x ∷ []) (mapped labelled r) ≡ mapped labelled (joined (x ∷ []) r)
  joined_labelled x (Ok ys) = refl
  joined_labelled x (Err large) = refl

  unless_labelled : (at : ℕ) (too : Option (Measure × ℕ)) (r : Result (List Numbered) Large) → unless_large at too (mapped labelled r) ≡ mapped labelled (unless_large at too r)
  unless_labelled at None r = refl
  unless_labelled at (Some m) r = refl

  pub measured_results : (at : ℕ) (ss : List (List (Variable × Term))) → measured vs at (drawn ss) ≡ mapped labelled (results_of vs from apart at ss)
  measured_results at [] = refl
  measured_results at (s ∷ ss) =
      elim (keeps_apart apart s) as (λ b.
      measured vs at (map (λ (u : List (Variable × Term)). record { label = label; draft = draft_of vs from u }) (cond b (s ∷ filter (keeps_apart apart) ss) (filter (keeps_apart apart) ss)))
      ≡ mapped labelled (cond b (unless_large at (excess (draft_of vs from s).pattern) (joined (numbered_of vs (draft_of vs from s) ∷ []) (results_of vs from apart (at + 1) ss))) (results_of vs from apart at ss))) [
        | true ↦
            let x = numbered_of vs (draft_of vs from s) in
            ap (λ r. unless_large at (excess (draft_of vs from s).pattern) (joined (labelled x ∷ []) r)) (measured_results (at + 1) ss)
            ∙ ap (unless_large at (excess (draft_of vs from s).pattern)) (joined_labelled x (results_of vs from apart (at + 1) ss))
            ∙ unless_labelled at (excess (draft_of vs from s).pattern) (joined (x ∷ []) (results_of vs from apart (at + 1) ss))
        | false ↦ measured_results at ss
      ]

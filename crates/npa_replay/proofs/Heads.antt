-- A term of an operator matches terms of this operator alone.
use Rattle.std.proofs.Common.{◌≡◌, List, [], ◌∷◌, Some, map, slice_get, ℕ, ap, subst}
use Rattle.npa_sorts.specs.Subsorts.{Subsorts}
use Rattle.npa_term.specs.declared.term.Op.{Op}
use Rattle.npa_term.specs.declared.term.Term.{Term, App}
use Rattle.npa_term.specs.Bound.{applied}
use Rattle.npa_term.proofs.Rows.{applied_at}
use Rattle.npa_term.proofs.SameCases.{same_app}
use Rattle.npa_model.specs.declared.aim.Part.{Part}
use Rattle.npa_model.specs.declared.aim.Part.TheVariants as part
use Rattle.npa_model.specs.declared.run.Instance.{Instance}
use Rattle.npa_model.specs.State.{State}
use Rattle.npa_match.specs.Matching.{HasMatch}
use Rattle.npa_replay.specs.Choices.{with_term, target_pairs}
use Rattle.npa_replay.proofs.Members.{contains_head}

pub other_head : (op : Op) (ts : List Term) (t u : Term) → t ≡ App op ts → ((us : List Term) → u ≡ App op us → ⊥) → (o : Subsorts) → HasMatch o ((t, u) ∷ []) → ⊥
other_head op ts t u e none o m =
    let x = same_app (m.matches.equal t u (contains_head (t, u) [])) op (map (applied m.by_) ts) (applied_at m.by_ t op ts e) in
    none x.0 x.1

-- so a known part isn't met by others
pub other_known : (instances : List Instance) (state : State) (o : Subsorts) (p : Part) (t u : Term) (n : ℕ) → p ≡ part.Known t → slice_get state.sent n ≡ Some u →
    (HasMatch o ((t, u) ∷ []) → ⊥) → HasMatch o (target_pairs instances state p n) → ⊥
other_known instances state o p t u n known there none m =
    none (subst (λ (ps : List (Term × Term)). HasMatch o ps) (ap (with_term t) there)
    (subst (λ (q : Part). HasMatch o (target_pairs instances state q n)) known m))

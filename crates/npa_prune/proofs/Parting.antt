-- Parts of terms, found among the arguments.
use Rattle.std.proofs.Common.{◌≡◌, ⊎_elim, List, sym, subst, ◌∙◌, ap}
use Rattle.npa_term.specs.declared.term.Op.{Op}
use Rattle.npa_term.specs.declared.term.Term.{Term, App}
use Rattle.npa_term.specs.Parts.{IsPart, whole, inside}
use Rattle.npa_rewrite.proofs.InstanceParts.{part_cases, InArgument}
use Rattle.npa_prune.specs.Pruned.{IsPartOfOne}

pub part_itself : (t u : Term) → t ≡ u → IsPart t u
part_itself t u e = subst (λ (x : Term). IsPart t x) e whole

module _ (t u : Term) (op : Op) (ts us : List Term) (is : u ≡ App op ts) (args : us ≡ ts) where
  form : u ≡ App op us
  form = is ∙ ap (App op) (sym args)

  pub part_below : IsPartOfOne us t → IsPart t u
  part_below one = subst (λ (x : Term). IsPart t x) (sym form) (inside op us one.0 one.1 one.2)

  -- a part that isn't the term itself is one of an argument
  pub part_in : (t ≡ u → ⊥) → IsPart t u → IsPartOfOne us t
  part_in proper part = ⊎_elim
      (λ (e : t ≡ u). absurd (proper e))
      (λ (a : InArgument t us). (a.argument, a.listed, a.there))
      (part_cases part op us form)

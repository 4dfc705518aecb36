-- What is said of the answer of the search holds of the variants that are answered.
use Rattle.std.proofs.Common.{◌≡◌, Result, Ok, Err, List, refl, sym, subst}
use Rattle.std.specs.Prelude.{All, IfOk}
use Rattle.npa_term.specs.declared.term.Term.{Term}
use Rattle.npa_term.specs.Numbering.{variables_once}
use Rattle.npa_unify.proofs.Members.{all_from}
use Rattle.npa_rewrite.specs.declared.theory.Theory.{Theory}
use Rattle.npa_variants.specs.declared.error.VarFail.{VarFail}
use Rattle.npa_variants.specs.declared.variant.Variant.{Variant}
use Rattle.npa_variants.specs.Narrowable.{AreVariants, IsNarrowable}
use Rattle.npa_variants.specs.Rows.{Row}
use Rattle.npa_variants.specs.Search.{Stop, variants_of}
use Rattle.npa_variants.specs.Told.{Told}
use Rattle.npa_variants.specs.Variants.{AreApart, IsComplete, IsVariant}
use Rattle.npa_variants.proofs.Ending.{are_variants}

module _ (th : Theory) (terms : List Term) (given : IsNarrowable th terms) where
  answered : (list : List Variant) (r : Result (List Row) Stop) → variants_of th terms ≡ r → Told (variables_once terms) (Ok list) r → AreVariants th terms list
  answered list (Ok rs) is told = subst (AreVariants th terms) (sym told) (are_variants th terms given rs is)
  answered list (Err stop) is told = absurd told

  -- an answer is a complete list of variants
  pub promised : (result : Result (List Variant) VarFail) → Told (variables_once terms) result (variants_of th terms) → IfOk result (AreVariants th terms)
  promised (Ok list) told = answered list (variants_of th terms) refl told
  promised (Err e) told = tt

  if_ok : {X E : Type 0} (P Q : X → Type 0) → ((x : X) → P x → Q x) → (r : Result X E) → IfOk r P → IfOk r Q
  if_ok P Q f (Ok x) p = f x p
  if_ok P Q f (Err e) p = tt

  pub promised_members : (result : Result (List Variant) VarFail) → Told (variables_once terms) result (variants_of th terms) → IfOk result (All (IsVariant th terms))
  promised_members result told =
      if_ok (AreVariants th terms) (All (IsVariant th terms)) (λ list are. all_from (IsVariant th terms) list are.members) result (promised result told)

  pub promised_complete : (result : Result (List Variant) VarFail) → Told (variables_once terms) result (variants_of th terms) → IfOk result (IsComplete th terms)
  promised_complete result told = if_ok (AreVariants th terms) (IsComplete th terms) (λ list are. are.complete) result (promised result told)

  pub promised_apart : (result : Result (List Variant) VarFail) → Told (variables_once terms) result (variants_of th terms) → IfOk result (AreApart th.sig.sorts)
  promised_apart result told = if_ok (AreVariants th terms) (AreApart th.sig.sorts) (λ list are. are.apart) result (promised result told)

-- A renumbered term is well sorted where the term is.
use Rattle.std.proofs.Common.{◌≡◌, ℕ, ◌&&◌, List, [], ◌∷◌, map, slice_get, refl, ap, sym, ◌∙◌}
use Rattle.std.specs.List.{list_all}
use Rattle.npa_term.specs.declared.term.Term.{Term, App}
use Rattle.npa_term.specs.Parts.{least_sort}
use Rattle.npa_term.specs.Variables.{renamed}
use Rattle.npa_term.proofs.Induction.{Each, by_terms, term_cases}
use Rattle.npa_term.proofs.Rows.{renamed_app}
use Rattle.npa_sig.specs.Signature.{Signature}
use Rattle.npa_sig.specs.Sorting.{is_declared, well_sorted}
use Rattle.npa_sig.proofs.Rows.{well_sorted_at}

renamed_sort : (base : ℕ) (t : Term) → least_sort (renamed base t) ≡ least_sort t
renamed_sort base = term_cases (λ t. least_sort (renamed base t) ≡ least_sort t) (λ v. refl) (λ n. refl) (λ op ts. ap least_sort (renamed_app base op ts))

renamed_sorts : (base : ℕ) (ts : List Term) → map least_sort (map (renamed base) ts) ≡ map least_sort ts
renamed_sorts base [] = refl
renamed_sorts base (t ∷ ts) = ap (λ s. s ∷ map least_sort (map (renamed base) ts)) (renamed_sort base t) ∙ ap (λ ss. least_sort t ∷ ss) (renamed_sorts base ts)

all_renamed : (sig : Signature) (base : ℕ) (ts : List Term) → Each (λ t. well_sorted sig (renamed base t) ≡ well_sorted sig t) ts →
    list_all (well_sorted sig) (map (renamed base) ts) ≡ list_all (well_sorted sig) ts
all_renamed sig base [] each = refl
all_renamed sig base (t ∷ ts) each =
    ap (λ b. b && list_all (well_sorted sig) (map (renamed base) ts)) each.0 ∙ ap (λ b. well_sorted sig t && b) (all_renamed sig base ts each.1)

pub renamed_sorted : (sig : Signature) (base : ℕ) (t : Term) → well_sorted sig (renamed base t) ≡ well_sorted sig t
renamed_sorted sig base =
    by_terms (λ t. well_sorted sig (renamed base t) ≡ well_sorted sig t) (λ v. refl) (λ n. refl)
    (λ op ts each.
    well_sorted_at sig (renamed base (App op ts)) op (map (renamed base) ts) (renamed_app base op ts)
    ∙ ap (λ ss. is_declared sig op ss (slice_get sig.ops op.num) && list_all (well_sorted sig) (map (renamed base) ts)) (renamed_sorts base ts)
    ∙ ap (λ b. is_declared sig op (map least_sort ts) (slice_get sig.ops op.num) && b) (all_renamed sig base ts each)
    ∙ sym (well_sorted_at sig (App op ts) op ts refl))

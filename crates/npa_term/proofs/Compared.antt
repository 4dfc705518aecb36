-- What the computed test of equality says of operators and lists of arguments.
use Rattle.std.proofs.Common.{◌≡◌, true, false, ◌&&◌, ◌||◌, ℕ, zero, suc, List, ◌∷◌, refl, sym, ◌∙◌, ap, arith, ◌+◌, ◌<◌, drop, get_or, []}
use Rattle.std.proofs.lemmas.Bool.{and_parts}
use Rattle.std.proofs.Math.Bool.{and-false}
use Rattle.std.proofs.lemmas.List.{drop_more}
use Rattle.std.specs.Prelude.{length}
use Rattle.npa_term.specs.declared.term.Op.{Op}
use Rattle.npa_term.specs.declared.term.Term.{Term, App, Row_of-Term, end_of-Term, more_of-Term, items-the_row-Term, items_hidden-the_row-Term-0}
use Rattle.npa_term.specs.declared.term.Term.TheBlock.{hidden-the_row-Term-0}
use Rattle.npa_term.specs.Computed.{is_same, is_same_row, same_op, turned, all_same}

-- rows are compared as their lists
is_same_row_is : {n : _} (k : Row_of-Term n) (us : List Term) → is_same_row k us ≡ all_same (items-the_row-Term n k) us
is_same_row_is end_of-Term [] = refl
is_same_row_is end_of-Term (u ∷ us) = refl
is_same_row_is (more_of-Term t ts) [] = refl
is_same_row_is (more_of-Term t ts) (u ∷ us) = ap (λ b. is_same t u && b) (is_same_row_is ts us)

-- applications are compared by operator and arguments
pub same_apps : (f g : Op) (ts us : List Term) →
    is_same (App f ts) (App g us) ≡ (same_op f g && (all_same ts us || (f.com && all_same ts (turned us))))
same_apps f g ts us =
    let j = hidden-the_row-Term-0 ts in
    ap (λ vs. same_op f g && (is_same_row j vs || (f.com && is_same_row j (turned vs)))) (items_hidden-the_row-Term-0 us)
    ∙ ap (λ b. same_op f g && (b || (f.com && is_same_row j (turned us)))) (is_same_row_is j us)
    ∙ ap (λ b. same_op f g && (all_same (items-the_row-Term _ j) us || (f.com && b))) (is_same_row_is j (turned us))
    ∙ ap (λ vs. same_op f g && (all_same vs us || (f.com && all_same vs (turned us)))) (items_hidden-the_row-Term-0 ts)

-- applications of one operator are compared by their arguments
pub same_at : (t u : Term) (f g : Op) (ts us : List Term) → t ≡ App f ts → u ≡ App g us → same_op f g ≡ true →
    is_same t u ≡ (all_same ts us || (f.com && all_same ts (turned us)))
same_at t u f g ts us d e same =
    ap (λ v. is_same v u) d ∙ ap (is_same (App f ts)) e ∙ same_apps f g ts us ∙ ap (λ b. b && (all_same ts us || (f.com && all_same ts (turned us)))) same

pub other_at : (t u : Term) (f g : Op) (ts us : List Term) → t ≡ App f ts → u ≡ App g us → same_op f g ≡ false → is_same t u ≡ false
other_at t u f g ts us d e same =
    ap (λ v. is_same v u) d ∙ ap (is_same (App f ts)) e ∙ same_apps f g ts us ∙ ap (λ b. b && (all_same ts us || (f.com && all_same ts (turned us)))) same

-- lists that are equal place by place are as long
pub same_length : (ts us : List Term) → all_same ts us ≡ true → length ts ≡ length us
same_length [] [] e = refl
same_length [] (u ∷ us) e = cc
same_length (t ∷ ts) [] e = cc
same_length (t ∷ ts) (u ∷ us) e = let rest : length ts ≡ length us = same_length ts us (and_parts (is_same t u) (all_same ts us) e).1 in omega (arith, rest)

pub uneven_differ : (ts us : List Term) → (length ts ≡ length us → ⊥) → all_same ts us ≡ false
uneven_differ ts us ne =
    elim (all_same ts us) as (λ b. all_same ts us ≡ b → b ≡ false) [ true ↦ λ e. absurd (ne (same_length ts us e)) | false ↦ λ e. refl ] refl

-- only two arguments have another order
pub turned_other : (us : List Term) → (length us ≡ 2 → ⊥) → turned us ≡ us
turned_other [] ne = refl
turned_other (t ∷ []) ne = refl
turned_other (t ∷ u ∷ []) ne = absurd (ne (omega arith))
turned_other (t ∷ u ∷ v ∷ ts) ne = refl

-- the first place at which lists differ
pub differ_at : (ts us : List Term) (i : ℕ) (d : Term) → i < length ts → length ts ≡ length us → is_same (get_or ts i d) (get_or us i d) ≡ false → all_same ts us ≡ false
differ_at [] us i d small even other = absurd (let never : ⊥ = omega (arith, small) in never)
differ_at (t ∷ ts) [] i d small even other = refl
differ_at (t ∷ ts) (u ∷ us) zero d small even other = ap (λ b. b && all_same ts us) other
differ_at (t ∷ ts) (u ∷ us) (suc i) d small even other =
    ap (λ b. is_same t u && b) (differ_at ts us i d (omega (arith, small)) (omega (arith, even)) other) ∙ and-false (is_same t u)

pub all_same_step : (ts us : List Term) (i : ℕ) (d : Term) → i < length ts → length ts ≡ length us → is_same (get_or ts i d) (get_or us i d) ≡ true →
    all_same (drop (i + 1) ts) (drop (i + 1) us) ≡ all_same (drop i ts) (drop i us)
all_same_step ts us i d small even equal =
    sym (ap (λ vs. all_same vs (drop i us)) (drop_more ts i d small) ∙ ap (all_same (get_or ts i d ∷ drop (i + 1) ts)) (drop_more us i d (omega (arith, small, even)))
    ∙ ap (λ b. b && all_same (drop (i + 1) ts) (drop (i + 1) us)) equal)

-- Instances of terms.
use Rattle.std.proofs.Common.{◌≡◌, ℕ, zero, List, [], ◌∷◌, Some, None, map, refl, sym, ◌∙◌, ap, subst, arith}
use Rattle.std.specs.Prelude.{Contains, unwrap_or}
use Rattle.std.specs.List.{flat_map}
use Rattle.std.proofs.lemmas.List.Elements.{Contains-append_left, Contains-append_right}
use Rattle.npa_term.specs.declared.term.Op.{Op}
use Rattle.npa_term.specs.declared.term.Var.{Var as Variable}
use Rattle.npa_term.specs.declared.term.Term.{Term, Var, App}
use Rattle.npa_term.specs.Agreeing.{Agrees, ValuesAgree}
use Rattle.npa_term.specs.Bound.{value_of, applied}
use Rattle.npa_term.specs.Canonical.{canonical}
use Rattle.npa_term.specs.Variables.{variables}
use Rattle.npa_term.proofs.AgreeingLaws.{agrees_app, agrees_arguments, same_canonical, agrees_canonical}
use Rattle.npa_term.proofs.CanonicalLaws.{canonical_same}
use Rattle.npa_term.proofs.Induction.{Each, by_terms}
use Rattle.npa_term.proofs.Rows.{applied_app, variables_at}
use Rattle.npa_term.proofs.SameLaws.{same_sym, same_applied}

alike_members : (s u : List (Variable × Term)) (ts : List Term) → Each (λ t. ((v : Variable) → Contains (variables t) v → value_of s v ≡ value_of u v) → applied s t ≡ applied u t) ts →
    ((v : Variable) → Contains (flat_map variables ts) v → value_of s v ≡ value_of u v) → map (applied s) ts ≡ map (applied u) ts
alike_members s u [] each alike = refl
alike_members s u (t ∷ ts) each alike =
    ap (λ w. w ∷ map (applied s) ts) (each.0 (λ v c. alike v (Contains-append_left (variables t) (flat_map variables ts) v c)))
    ∙ ap (λ ws. applied u t ∷ ws) (alike_members s u ts each.1 (λ v c. alike v (Contains-append_right (variables t) (flat_map variables ts) v c)))

-- an instance depends on the values of the term's own variables alone
pub applied_alike : (s u : List (Variable × Term)) (t : Term) → ((v : Variable) → Contains (variables t) v → value_of s v ≡ value_of u v) → applied s t ≡ applied u t
applied_alike s u =
    by_terms (λ t. ((v : Variable) → Contains (variables t) v → value_of s v ≡ value_of u v) → applied s t ≡ applied u t)
    (λ v alike. ap (λ o. unwrap_or o (Var v)) (alike v (zero, omega arith, refl))) (λ n alike. refl)
    (λ op ts each alike.
    let whole : variables (App op ts) ≡ flat_map variables ts = variables_at (App op ts) op ts refl in
    applied_app s op ts
    ∙ ap (App op) (alike_members s u ts each (λ v c. alike v (subst (λ vs. Contains vs v) (sym whole) c)))
    ∙ sym (applied_app u op ts))

-- the empty substitution changes nothing
itself_members : (ts : List Term) → Each (λ t. applied [] t ≡ t) ts → map (applied []) ts ≡ ts
itself_members [] each = refl
itself_members (t ∷ ts) each = ap (λ u. u ∷ map (applied []) ts) each.0 ∙ ap (λ us. t ∷ us) (itself_members ts each.1)

pub applied-empty : (t : Term) → applied [] t ≡ t
applied-empty =
    by_terms (λ t. applied [] t ≡ t) (λ v. refl) (λ n. refl)
    (λ op ts each. applied_app [] op ts ∙ ap (App op) (itself_members ts each))

agrees_members : (decl : ℕ → Op) (s : List (Variable × Term)) (ts : List Term) → Each (λ t. Agrees decl t → Agrees decl (applied s t)) ts → Each (Agrees decl) ts → Each (Agrees decl) (map (applied s) ts)
agrees_members decl s [] each agrees = tt
agrees_members decl s (t ∷ ts) each agrees = (each.0 agrees.0, agrees_members decl s ts each.1 agrees.1)

-- where the operators of the values agree with a declaration, so do those of instances
pub agrees_applied : (decl : ℕ → Op) (s : List (Variable × Term)) → ValuesAgree decl s → (t : Term) → Agrees decl t → Agrees decl (applied s t)
agrees_applied decl s values =
    by_terms (λ t. Agrees decl t → Agrees decl (applied s t))
    (λ v a. elim (value_of s v) as (λ o. value_of s v ≡ o → Agrees decl (unwrap_or o (Var v))) [ Some t ↦ λ e. values v t e | None ↦ λ e. tt ] refl)
    (λ n a. a)
    (λ op ts each a. subst (Agrees decl) (sym (applied_app s op ts)) (agrees_app decl op (map (applied s) ts) a.0 (agrees_members decl s ts each (agrees_arguments decl op ts a))))

-- the instance of a canonical form has the canonical form of the instance
pub canonical-applied : (decl : ℕ → Op) (s : List (Variable × Term)) (t : Term) → ValuesAgree decl s → Agrees decl t → canonical (applied s (canonical t)) ≡ canonical (applied s t)
canonical-applied decl s t values a =
    same_canonical decl (applied s (canonical t)) (applied s t) (agrees_applied decl s values (canonical t) (agrees_canonical decl t a)) (agrees_applied decl s values t a)
    (same_sym (same_applied s (canonical_same t)))

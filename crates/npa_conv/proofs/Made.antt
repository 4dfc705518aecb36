-- Substitutions that are made of the values of a list of variables.
use Rattle.std.proofs.Common.{◌≡◌, true, false, cond, Some, List, [], ◌∷◌, ◌++◌, map, refl, sym, ◌∙◌, ap, subst, inl, inr}
use Rattle.std.specs.Prelude.{Contains}
use Rattle.npa_term.specs.declared.term.Var.{Var as Variable}
use Rattle.npa_term.specs.declared.term.Term.{Term}
use Rattle.npa_term.specs.Bound.{same_var, value_of}
use Rattle.npa_term.proofs.Equality.{var_equal, var_itself}
use Rattle.npa_unify.proofs.Members.{here, later, nowhere, member_cases}
use Rattle.npa_unify.proofs.PairVariables.{var_differ}

-- each variable under its new name, with its value
abbrev pub made : (Variable → Variable) → (Variable → Term) → List Variable → List (Variable × Term)
made g f vs = map (λ v. (g v, f v)) vs

pub made_has : (g : Variable → Variable) (f : Variable → Term) (vs : List Variable) (s : List (Variable × Term)) (v : Variable) → Contains vs v →
    ((w : Variable) → g w ≡ g v → f w ≡ f v) → value_of (made g f vs ++ s) (g v) ≡ Some (f v)
made_has g f [] s v c alike = absurd (nowhere v c)
made_has g f (w ∷ vs) s v c alike =
    elim (same_var (g w) (g v)) as (λ b. same_var (g w) (g v) ≡ b → cond b (Some (f w)) (value_of (made g f vs ++ s) (g v)) ≡ Some (f v)) [
      | true ↦ λ e. ap Some (alike w (var_equal (g w) (g v) e))
      | false ↦ λ e. elim (member_cases w v vs c) [
        | inl is ↦ absurd (let both : true ≡ false = sym (var_itself (g v)) ∙ sym (ap (λ x. same_var (g x) (g v)) is) ∙ e in cc)
        | inr d ↦ made_has g f vs s v d alike
      ]
    ] refl

pub made_misses : (g : Variable → Variable) (f : Variable → Term) (vs : List Variable) (s : List (Variable × Term)) (x : Variable) →
    ((w : Variable) → Contains vs w → g w ≡ x → ⊥) → value_of (made g f vs ++ s) x ≡ value_of s x
made_misses g f [] s x other = refl
made_misses g f (w ∷ vs) s x other =
    ap (λ b. cond b (Some (f w)) (value_of (made g f vs ++ s) x)) (var_differ (g w) x (other w (here w vs)))
    ∙ made_misses g f vs s x (λ v c. other v (later w v vs c))

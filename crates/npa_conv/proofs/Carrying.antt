-- Functions on terms that are carried into the arguments, as instances and renamings are: they agree on a
-- term where they agree on its variables.
use Rattle.std.proofs.Common.{◌≡◌, ℕ, List, [], ◌∷◌, ◌++◌, map, refl, sym, ◌∙◌, ap, subst}
use Rattle.std.specs.Prelude.{Contains}
use Rattle.std.specs.List.{flat_map}
use Rattle.std.proofs.lemmas.List.Elements.{Contains-append_left, Contains-append_right}
use Rattle.npa_term.specs.declared.term.Op.{Op}
use Rattle.npa_term.specs.declared.term.Var.{Var as Variable}
use Rattle.npa_term.specs.declared.term.Term.{Term, Var, Name, App}
use Rattle.npa_term.specs.Bound.{applied}
use Rattle.npa_term.specs.Same.{Same, itself, below, SameAll, nothing, first}
use Rattle.npa_term.specs.Variables.{renamed, variables}
use Rattle.npa_term.proofs.Induction.{Each, by_terms}
use Rattle.npa_term.proofs.Rows.{applied_app, renamed_app, variables_at}
use Rattle.npa_unify.proofs.Members.{here}

pub record Carries (f : Term → Term) : Type 0 where
  pub apps : (op : Op) (ts : List Term) → f (App op ts) ≡ App op (map f ts)
  pub names : (n : ℕ) → f (Name n) ≡ Name n

pub carries_applied : (s : List (Variable × Term)) → Carries (applied s)
carries_applied s = record { apps = applied_app s; names = λ n. refl }

pub carries_renamed : (base : ℕ) → Carries (renamed base)
carries_renamed base = record { apps = renamed_app base; names = λ n. refl }

map_both : (f g : Term → Term) (ts : List Term) → map g (map f ts) ≡ map (λ t. g (f t)) ts
map_both f g [] = refl
map_both f g (t ∷ ts) = ap (λ us. g (f t) ∷ us) (map_both f g ts)

-- one function after another
pub carries_both : (f g : Term → Term) → Carries f → Carries g → Carries (λ t. g (f t))
carries_both f g a b = record {
  apps = λ op ts. ap g (a.apps op ts) ∙ b.apps op (map f ts) ∙ ap (App op) (map_both f g ts);
  names = λ n. ap g (a.names n) ∙ b.names n;
}

module _ (f g : Term → Term) (a : Carries f) (b : Carries g) where
  abbrev Alike : Term → Type 0
  Alike t = ((v : Variable) → Contains (variables t) v → Same (f (Var v)) (g (Var v))) → Same (f t) (g t)

  carried_all : (ts : List Term) → Each Alike ts → ((v : Variable) → Contains (flat_map variables ts) v → Same (f (Var v)) (g (Var v))) → SameAll (map f ts) (map g ts)
  carried_all [] each e = nothing
  carried_all (t ∷ ts) each e =
      first (f t) (g t) (map f ts) (map g ts) (each.0 (λ v c. e v (Contains-append_left (variables t) (flat_map variables ts) v c)))
      (carried_all ts each.1 (λ v c. e v (Contains-append_right (variables t) (flat_map variables ts) v c)))

  -- equal modulo commutativity
  pub carried : (t : Term) → ((v : Variable) → Contains (variables t) v → Same (f (Var v)) (g (Var v))) → Same (f t) (g t)
  carried =
      by_terms Alike (λ v e. e v (here v []))
      (λ n e. subst (λ x. Same x (g (Name n))) (sym (a.names n)) (subst (Same (Name n)) (sym (b.names n)) (itself (Name n))))
      (λ op ts each e.
      subst (λ x. Same x (g (App op ts))) (sym (a.apps op ts))
      (subst (Same (App op (map f ts))) (sym (b.apps op ts))
      (below op (map f ts) (map g ts) (carried_all ts each (λ v c. e v (subst (λ vs. Contains vs v) (sym (variables_at (App op ts) op ts refl)) c))))))

  abbrev Equal : Term → Type 0
  Equal t = ((v : Variable) → Contains (variables t) v → f (Var v) ≡ g (Var v)) → f t ≡ g t

  equal_all : (ts : List Term) → Each Equal ts → ((v : Variable) → Contains (flat_map variables ts) v → f (Var v) ≡ g (Var v)) → map f ts ≡ map g ts
  equal_all [] each e = refl
  equal_all (t ∷ ts) each e =
      ap (λ u. u ∷ map f ts) (each.0 (λ v c. e v (Contains-append_left (variables t) (flat_map variables ts) v c)))
      ∙ ap (λ us. g t ∷ us) (equal_all ts each.1 (λ v c. e v (Contains-append_right (variables t) (flat_map variables ts) v c)))

  -- or one and the same
  pub carried_equal : (t : Term) → ((v : Variable) → Contains (variables t) v → f (Var v) ≡ g (Var v)) → f t ≡ g t
  carried_equal =
      by_terms Equal (λ v e. e v (here v [])) (λ n e. a.names n ∙ sym (b.names n))
      (λ op ts each e.
      a.apps op ts ∙ ap (App op) (equal_all ts each (λ v c. e v (subst (λ vs. Contains vs v) (sym (variables_at (App op ts) op ts refl)) c))) ∙ sym (b.apps op ts))

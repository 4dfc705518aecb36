-- A scope with one name more is indexed by its table with that name.
use Rattle.std.proofs.Common.{◌≡◌, ℕ, Bool, true, false, cond, List, [], ◌∷◌, ◌++◌, Option, None, Some, length, refl, sym, ap, subst, ◌∙◌}
use Rattle.std.specs.Prelude.{is_none, if◌then◌else◌}
use Rattle.std.specs.Str.{bytes_eq}
use Rattle.npa_term.specs.declared.term.Var.{Var as Variable_}
use Rattle.npa_names.specs.Names.{place_of}
use Rattle.npa_names.proofs.Growth.{or_last, tabled_more, even_more}
use Rattle.npa_sig.specs.declared.meaning.Scoped.{Scoped}
use Rattle.npa_sig.specs.Meaning.{variable_of}
use Rattle.npa_sig.specs.Scopes.{IsIndexed}

pub nothing_indexed : IsIndexed [] [] []
nothing_indexed = record { even = refl; found = λ word. refl }

variable_more : (word : List ℕ) (s : Scoped) (scope : List Scoped) → or_last (variable_of word scope) (bytes_eq word s.name) s.var ≡ variable_of word (scope ++ s ∷ [])
variable_more word s [] = refl
variable_more word s (r ∷ scope) = one (bytes_eq word r.name) (variable_more word s scope)
  where
    one : (b : Bool) → or_last (variable_of word scope) (bytes_eq word s.name) s.var ≡ variable_of word (scope ++ s ∷ []) →
        or_last (cond b (Some r.var) (variable_of word scope)) (bytes_eq word s.name) s.var ≡ cond b (Some r.var) (variable_of word (scope ++ s ∷ []))
    one true e = refl
    one false e = e

-- one name more, which the table is given where it hasn't it
module _ (names after : List (List ℕ)) (vars now : List Variable_) (scope new : List Scoped) (s : Scoped) (b : Bool) where
  one_indexed : b ≡ is_none (place_of s.name names) → IsIndexed names vars scope →
      IsIndexed (if b then names ++ s.name ∷ [] else names) (if b then vars ++ s.var ∷ [] else vars) (scope ++ s ∷ [])
  one_indexed is old = record {
    even = even_more names vars s.name s.var old.even b;
    found = λ word. tabled_more names vars s.name s.var old.even (λ (name : List ℕ). variable_of name scope) old.found b (sym is) word ∙ variable_more word s scope;
  }

  pub pushed_indexed : b ≡ is_none (place_of s.name names) → after ≡ (if b then names ++ s.name ∷ [] else names) →
      now ≡ (if b then vars ++ s.var ∷ [] else vars) → new ≡ scope ++ s ∷ [] → IsIndexed names vars scope → IsIndexed after now new
  pushed_indexed is after_is now_is new_is old =
      subst (λ (a : List (List ℕ)). IsIndexed a now new) (sym after_is)
      (subst (λ (n : List Variable_). IsIndexed (if b then names ++ s.name ∷ [] else names) n new) (sym now_is)
      (subst (IsIndexed (if b then names ++ s.name ∷ [] else names) (if b then vars ++ s.var ∷ [] else vars)) (sym new_is) (one_indexed is old)))

-- Facts that are kept once, and pairs that are kept apart.
use Rattle.std.proofs.Common.{◌≡◌, true, false, cond, not, List, [], ◌∷◌, ◌++◌, Contains, refl, subst, inl, inr, ◌⊎◌, ⊎_elim}
use Rattle.std.specs.List.{list_any}
use Rattle.std.proofs.lemmas.List.Elements.{Contains-append_cases}
use Rattle.npa_term.specs.declared.term.Term.{Term}
use Rattle.npa_term.specs.declared.term.Var.{Var as Variable}
use Rattle.npa_term.specs.Bound.{applied}
use Rattle.npa_term.specs.Computed.{is_same}
use Rattle.npa_term.specs.Same.{Same}
use Rattle.npa_term.proofs.Equality.{is_same_sound}
use Rattle.npa_unify.proofs.Members.{here, later, nowhere, only_one}
use Rattle.npa_variants.proofs.Members.{any_of}
use Rattle.npa_moves.specs.Finishing.{keeps_apart, kept_after, kept_once}

-- what is kept was kept before or is one of the list
pub of_kept : (kept ts : List Term) (t : Term) → Contains (kept_after kept ts) t → Contains kept t ⊎ Contains ts t
of_kept kept [] t c = inl c
of_kept kept (u ∷ ts) t c =
    elim (list_any (is_same u) kept) as (λ b. Contains (cond b (kept_after kept ts) (kept_after (kept ++ u ∷ []) ts)) t → Contains kept t ⊎ Contains (u ∷ ts) t) [
      | true ↦ λ d. elim (of_kept kept ts t d) [ inl e ↦ inl e | inr e ↦ inr (later u t ts e) ]
      | false ↦ λ d. elim (of_kept (kept ++ u ∷ []) ts t d) [
        | inl e ↦ elim (Contains-append_cases kept (u ∷ []) t e) [
          | inl f ↦ inl f
          | inr f ↦ inr (subst (λ (x : Term). Contains (u ∷ ts) x) (only_one u t f) (here u ts))
        ]
        | inr e ↦ inr (later u t ts e)
      ]
    ] c

pub once_is : (ts : List Term) (t : Term) → Contains (kept_once ts) t → Contains ts t
once_is ts t c = ⊎_elim (λ (d : Contains [] t). absurd (nowhere t d)) (λ (d : Contains ts t). d) (of_kept [] ts t c)

-- a unifier keeps pairs apart where it makes the members of none of them equal
pub keeps : (pairs : List (Term × Term)) (s : List (Variable × Term)) → ((p : Term × Term) → Contains pairs p → Same (applied s p.0) (applied s p.1) → ⊥) → keeps_apart pairs s ≡ true
keeps pairs s apart =
    elim (list_any (λ p. is_same (applied s p.0) (applied s p.1)) pairs) as (λ b. list_any (λ p. is_same (applied s p.0) (applied s p.1)) pairs ≡ b → not b ≡ true) [
      | true ↦ λ e. let one = any_of (λ (p : Term × Term). is_same (applied s p.0) (applied s p.1)) pairs e in
          absurd (apart one.0 one.1 (is_same_sound (applied s one.0.0) (applied s one.0.1) one.2))
      | false ↦ λ e. refl
    ] refl

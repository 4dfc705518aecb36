-- What a unifier and then new numbers make of terms, and substitutions that make the same.
use Rattle.std.proofs.Common.{◌≡◌, ℕ, true, false, cond, not, Option, unwrap_or, List, [], ◌∷◌, ◌++◌, map, zip, Contains, refl, sym, ◌∙◌, ap, subst, inl, inr}
use Rattle.std.specs.List.{list_any}
use Rattle.std.proofs.lemmas.List.Elements.{Contains-append_left, Contains-append_right}
use Rattle.npa_term.specs.declared.term.Term.{Term, Var}
use Rattle.npa_term.specs.declared.term.Var.{Var as Variable}
use Rattle.npa_term.specs.Bound.{applied}
use Rattle.npa_term.specs.Computed.{is_same}
use Rattle.npa_term.specs.Parts.{image}
use Rattle.npa_term.specs.Same.{Same, SameAll, itself, through, nothing, first}
use Rattle.npa_term.specs.Variables.{raised_var, renamed, variables}
use Rattle.npa_term.proofs.CanonicalLaws.{canonical_same}
use Rattle.npa_term.proofs.Equality.{is_same_complete, is_same_sound}
use Rattle.npa_term.proofs.Lifted.{lifted, lifted_renamed, lifted_value}
use Rattle.npa_term.proofs.RenamedLaws.{variables-renamed}
use Rattle.npa_term.proofs.SameLaws.{same_applied, same_sym}
use Rattle.npa_unify.proofs.Members.{here, member_cases, nowhere}
use Rattle.npa_variants.proofs.Members.{any_member, any_of, of_mapped}
use Rattle.npa_variants.proofs.Sound.{agree, image_zip}
use Rattle.npa_moves.specs.Finishing.{instance_of, keeps_apart, kept_after, kept_once}

module _ (μ ν : List (Variable × Term)) where
  -- a term under a unifier, and then in new numbers
  abbrev pub made : Term → Term
  made t = instance_of ν (instance_of μ t)

  pub made_same : (t : Term) → Same (applied ν (applied μ t)) (made t)
  made_same t =
      through (applied ν (applied μ t)) (applied ν (instance_of μ t)) (made t)
      (same_applied ν (canonical_same (applied μ t))) (canonical_same (applied ν (instance_of μ t)))

  -- a substitution makes the same of a term where it does so of its variables
  pub agree_made : (c : List (Variable × Term)) (t : Term) → ((v : Variable) → Contains (variables t) v → Same (image c v) (made (Var v))) → Same (applied c t) (made t)
  agree_made c t each =
      through (applied c t) (applied ν (applied μ t)) (made t)
      (same_sym (agree μ c ν t (λ v d. through (applied ν (image μ v)) (made (Var v)) (image c v) (made_same (Var v)) (same_sym (each v d)))))
      (made_same t)

  -- what the unifier makes equal stays so
  pub made_equal : (t u : Term) → Same (applied μ t) (applied μ u) → Same (made t) (made u)
  made_equal t u same =
      through (made t) (applied ν (applied μ t)) (made u) (same_sym (made_same t))
      (through (applied ν (applied μ t)) (applied ν (applied μ u)) (made u) (same_applied ν same) (made_same u))

  -- ## Variables of raised numbers

  -- a substitution that has for these variables what is made of them with raised numbers
  pub raised_values : ℕ → List Variable → List (Variable × Term)
  raised_values base vs = zip vs (map (λ v. made (Var (raised_var base v))) vs)

  pub raised_image : (base : ℕ) (vs : List Variable) (v : Variable) → Contains vs v → image (raised_values base vs) v ≡ made (Var (raised_var base v))
  unfolding raised_values
  raised_image base vs v c = image_zip (λ w. made (Var (raised_var base w))) vs v c

  abbrev raised_up : ℕ → List Variable → List (Variable × Term)
  raised_up base vs = lifted base (raised_values base vs) vs ++ []

  pub raised_agree : (base : ℕ) (vs : List Variable) (t : Term) → ((v : Variable) → Contains (variables t) v → Contains vs v) → Same (applied (raised_values base vs) t) (made (renamed base t))
  raised_agree base vs t within =
      subst (λ (x : Term). Same x (made (renamed base t))) (lifted_renamed base (raised_values base vs) [] vs t within)
      (agree_made (raised_up base vs) (renamed base t) each)
    where
      up_image : (y : Variable) → Contains (variables t) y → image (raised_up base vs) (raised_var base y) ≡ made (Var (raised_var base y))
      up_image y c = ap (λ (x : Option Term). unwrap_or x (Var (raised_var base y))) (lifted_value base (raised_values base vs) [] vs y (within y c)) ∙ raised_image base vs y (within y c)

      each : (x : Variable) → Contains (variables (renamed base t)) x → Same (image (raised_up base vs) x) (made (Var x))
      each x c =
          let y = of_mapped (raised_var base) (variables t) x (subst (λ (xs : List Variable). Contains xs x) (variables-renamed base t) c) in
          subst (λ (z : Variable). Same (image (raised_up base vs) z) (made (Var z))) (sym y.2)
          (subst (λ (w : Term). Same w (made (Var (raised_var base y.0)))) (sym (up_image y.0 y.1)) (itself (made (Var (raised_var base y.0)))))

-- ## Facts that are kept once

still_kept : (kept ts : List Term) (t : Term) → Contains kept t → Contains (kept_after kept ts) t
still_kept kept [] t c = c
still_kept kept (u ∷ ts) t c =
    elim (list_any (is_same u) kept) as (λ b. Contains (cond b (kept_after kept ts) (kept_after (kept ++ u ∷ []) ts)) t) [
      | true ↦ still_kept kept ts t c
      | false ↦ still_kept (kept ++ u ∷ []) ts t (Contains-append_left kept (u ∷ []) t c)
    ]

first_kept : (kept : List Term) (u : Term) (ts : List Term) → (w : Term) × Contains (kept_after kept (u ∷ ts)) w × Same u w
first_kept kept u ts =
    elim (list_any (is_same u) kept) as (λ b. list_any (is_same u) kept ≡ b → (w : Term) × Contains (cond b (kept_after kept ts) (kept_after (kept ++ u ∷ []) ts)) w × Same u w) [
      | true ↦ λ e. let one = any_of (is_same u) kept e in (one.0, still_kept kept ts one.0 one.1, is_same_sound u one.0 one.2)
      | false ↦ λ e. (u, still_kept (kept ++ u ∷ []) ts u (Contains-append_right kept (u ∷ []) u (here u [])), itself u)
    ] refl

-- each of the terms has an equal one that is kept
has_kept : (kept ts : List Term) (t : Term) → Contains ts t → (w : Term) × Contains (kept_after kept ts) w × Same t w
has_kept kept [] t c = absurd (nowhere t c)
has_kept kept (u ∷ ts) t c = elim (member_cases u t ts c) [
  | inl is ↦ subst (λ (x : Term). (w : Term) × Contains (kept_after kept (u ∷ ts)) w × Same x w) is (first_kept kept u ts)
  | inr d ↦ elim (list_any (is_same u) kept) as (λ b. (w : Term) × Contains (cond b (kept_after kept ts) (kept_after (kept ++ u ∷ []) ts)) w × Same t w) [
    | true ↦ has_kept kept ts t d
    | false ↦ has_kept (kept ++ u ∷ []) ts t d
  ]
]

pub once_keeps : (ts : List Term) (t : Term) → Contains ts t → (w : Term) × Contains (kept_once ts) w × Same t w
once_keeps ts t c = has_kept [] ts t c

-- ## Pairs that are kept apart

pub are_apart : (pairs : List (Term × Term)) (s : List (Variable × Term)) → keeps_apart pairs s ≡ true → (p : Term × Term) → Contains pairs p → Same (applied s p.0) (applied s p.1) → ⊥
are_apart pairs s apart p c same =
    let some : list_any (λ p. is_same (applied s p.0) (applied s p.1)) pairs ≡ true =
    any_member (λ (p : Term × Term). is_same (applied s p.0) (applied s p.1)) pairs p c (is_same_complete (applied s p.0) (applied s p.1) same) in
    falsely (sym (ap not some) ∙ apart)
  where
    falsely : false ≡ true → ⊥
    falsely e = cc

-- ## Lists that are equal member by member

pub same_joined : {ts us xs ys : List Term} → SameAll ts us → SameAll xs ys → SameAll (ts ++ xs) (us ++ ys)
same_joined nothing rest = rest
same_joined {xs = xs} {ys = ys} (first t u ts us p q) rest = first t u (ts ++ xs) (us ++ ys) p (same_joined q rest)

-- Values that are looked at one after another are variables and different exactly where no place has another
-- value and no two places have one variable.
use Rattle.std.proofs.Common.{◌≡◌, ◌≢◌, ◌⊎◌, inl, inr, ⊎_elim, ℕ, zero, suc, Bool, true, ◌||◌, ◌↔◌, List, [], ◌∷◌, ◌++◌, Some, slice_get, Contains, refl, ap, sym, ◌∙◌, subst, ◌+◌, ◌<◌, length, drop, get_or, arith}
use Rattle.std.specs.Prelude.{IsTrue}
use Rattle.std.specs.List.{list_any, flat_map}
use Rattle.std.proofs.lemmas.Bool.{or_left, or_right, or_cases}
use Rattle.std.proofs.lemmas.List.Elements.{Contains-append_left, Contains-append_right, Contains-push_cases}
use Rattle.std.proofs.lemmas.List.{drop_more}
use Rattle.std.proofs.lemmas.Option.{same_Some, none-some}
use Rattle.npa_term.specs.declared.term.Term.{Term}
use Rattle.npa_term.specs.declared.term.Term.TheVariants.{Var, Name, App'}
use Rattle.npa_term.specs.declared.term.Var.{Var as Variable}
use Rattle.npa_term.specs.Bound.{same_var}
use Rattle.npa_term.proofs.Equality.{var_equal, var_itself}
use Rattle.npa_rewrite.proofs.InstanceParts.{here}
use Rattle.npa_variants.proofs.Members.{any_of, any_member}
use Rattle.npa_sig.specs.declared.protocol.Strand.{Strand}
use Rattle.npa_model.specs.declared.pattern.Pattern.{Pattern}
use Rattle.npa_prune.specs.Pruned.{fresh_values, SharesFresh, bound, shared}
use Rattle.npa_prune.specs.Repeating.{repeats}

data IsRepeated (xs : List Term) : Type 0 where
  other : (k : ℕ) (t : Term) → slice_get xs k ≡ Some t → ((v : Variable) → t ≢ Var v) → IsRepeated xs
  twice : (j k : ℕ) (v : Variable) → j ≢ k → slice_get xs j ≡ Some (Var v) → slice_get xs k ≡ Some (Var v) → IsRepeated xs

-- a variable that was seen stands at a place
record IsAgain (seen : List Variable) (xs : List Term) : Type 0 where
  var : Variable
  place : ℕ
  was : Contains seen var
  at : slice_get xs place ≡ Some (Var var)

apart_suc : {j k : ℕ} → j ≢ k → suc j ≢ suc k
apart_suc d e = d (omega (arith, e))

zero_suc : {k : ℕ} → zero ≢ suc k
zero_suc e = cc

suc_zero : {k : ℕ} → suc k ≢ zero
suc_zero e = cc

later : (x : Term) (xs : List Term) → IsRepeated xs → IsRepeated (x ∷ xs)
later x xs (other k t at odd) = other (suc k) t at odd
later x xs (twice j k v apart at there) = twice (suc j) (suc k) v (apart_suc apart) at there

var_only : (v w : Variable) → Var v ≡ Var w → v ≡ w
var_only v w e = cc

seen_any : (seen : List Variable) (v : Variable) → Contains seen v → list_any (same_var v) seen ≡ true
seen_any seen v c = any_member (same_var v) seen v c (var_itself v)

any_seen : (seen : List Variable) (v : Variable) → list_any (same_var v) seen ≡ true → Contains seen v
any_seen seen v e =
    let found = any_of (same_var v) seen e in
    subst (Contains seen) (sym (var_equal v found.0 found.2)) found.1

repeated_of : (seen : List Variable) (xs : List Term) → repeats seen xs ≡ true → IsRepeated xs ⊎ IsAgain seen xs
repeated_of seen [] e = cc
repeated_of seen (Name n ∷ xs) e = inl (other zero (Name n) refl (λ v f. let never : ⊥ = cc in never))
repeated_of seen (App' op n args ∷ xs) e = inl (other zero (App' op n args) refl (λ v f. let never : ⊥ = cc in never))
repeated_of seen (Var v ∷ xs) e = ⊎_elim
    (λ a. inr (record { var = v; place = zero; was = any_seen seen v a; at = refl }))
    (λ b. ⊎_elim
    (λ (r : IsRepeated xs). inl (later (Var v) xs r))
    (λ (s : IsAgain (seen ++ v ∷ []) xs). ⊎_elim
    (λ (c : Contains seen s.var). inr (record { var = s.var; place = suc s.place; was = c; at = s.at }))
    (λ (is : v ≡ s.var). inl (twice zero (suc s.place) v zero_suc refl (s.at ∙ ap (λ w. Some (Var w)) (sym is))))
    (Contains-push_cases seen v s.var s.was))
    (repeated_of (seen ++ v ∷ []) xs b))
    (or_cases (list_any (same_var v) seen) (repeats (seen ++ v ∷ []) xs) e)

again_repeats : (seen : List Variable) (xs : List Term) (v : Variable) (k : ℕ) → Contains seen v → slice_get xs k ≡ Some (Var v) → repeats seen xs ≡ true
again_repeats seen [] v k c at = absurd (none-some (Var v) at)
again_repeats seen (Name n ∷ xs) v k c at = refl
again_repeats seen (App' op n args ∷ xs) v k c at = refl
again_repeats seen (Var w ∷ xs) v zero c at =
    or_left (list_any (same_var w) seen) (repeats (seen ++ w ∷ []) xs) (seen_any seen w (subst (Contains seen) (sym (var_only w v (same_Some (Var w) (Var v) at))) c))
again_repeats seen (Var w ∷ xs) v (suc k) c at =
    or_right (list_any (same_var w) seen) (repeats (seen ++ w ∷ []) xs) (again_repeats (seen ++ w ∷ []) xs v k (Contains-append_left seen (w ∷ []) v c) at)

of_repeated : (seen : List Variable) (xs : List Term) → IsRepeated xs → repeats seen xs ≡ true
of_repeated seen [] (other k t at odd) = absurd (none-some t at)
of_repeated seen [] (twice j k v apart at there) = absurd (none-some (Var v) at)
of_repeated seen (Name n ∷ xs) r = refl
of_repeated seen (App' op n args ∷ xs) r = refl
of_repeated seen (Var w ∷ xs) (other zero t at odd) = absurd (odd w (sym (same_Some (Var w) t at)))
of_repeated seen (Var w ∷ xs) (other (suc k) t at odd) =
    or_right (list_any (same_var w) seen) (repeats (seen ++ w ∷ []) xs) (of_repeated (seen ++ w ∷ []) xs (other k t at odd))
of_repeated seen (Var w ∷ xs) (twice zero zero v apart at there) = absurd (apart refl)
of_repeated seen (Var w ∷ xs) (twice zero (suc k) v apart at there) =
    or_right (list_any (same_var w) seen) (repeats (seen ++ w ∷ []) xs)
    (again_repeats (seen ++ w ∷ []) xs v k (Contains-append_right seen (w ∷ []) v (subst (Contains (w ∷ [])) (var_only w v (same_Some (Var w) (Var v) at)) (here w []))) there)
of_repeated seen (Var w ∷ xs) (twice (suc j) zero v apart at there) =
    or_right (list_any (same_var w) seen) (repeats (seen ++ w ∷ []) xs)
    (again_repeats (seen ++ w ∷ []) xs v j (Contains-append_right seen (w ∷ []) v (subst (Contains (w ∷ [])) (var_only w v (same_Some (Var w) (Var v) there)) (here w []))) at)
of_repeated seen (Var w ∷ xs) (twice (suc j) (suc k) v apart at there) =
    or_right (list_any (same_var w) seen) (repeats (seen ++ w ∷ []) xs)
    (of_repeated (seen ++ w ∷ []) xs (twice j k v (λ e. apart (ap (λ n. suc n) e)) at there))

none_seen : (xs : List Term) → IsAgain [] xs → ⊥
none_seen xs s = omega (arith, s.was.1)

module _ (strands : List Strand) (g : Pattern) where
  abbrev values : List Term
  values = fresh_values strands g

  to_shared : IsRepeated values → SharesFresh strands g
  to_shared (other k t at odd) = bound k t at odd
  to_shared (twice j k v apart at there) = shared j k v apart at there

  of_shared : SharesFresh strands g → IsRepeated values
  of_shared (bound k t at odd) = other k t at odd
  of_shared (shared j k v apart at there) = twice j k v apart at there

  -- the test of the values tells whether fresh values are shared
  pub repeats_exactly : (b : Bool) → repeats [] values ≡ b → IsTrue b ↔ SharesFresh strands g
  repeats_exactly b e = (
    λ t. to_shared (⊎_elim (λ (r : IsRepeated values). r) (λ (s : IsAgain [] values). absurd (none_seen values s)) (repeated_of [] values (e ∙ t))),
    λ s. sym e ∙ of_repeated [] values (of_shared s),
  )

-- a list's first value that is found to repeat
pub repeats_here : {X : Type 0} (f : X → List Term) (xs : List X) (i : ℕ) (x : X) (seen new : List Variable) (ts : List Term) (b : Bool) → i < length xs → x ≡ get_or xs i x → ts ≡ f x →
    ((rest : List Term) → repeats seen (ts ++ rest) ≡ (b || repeats new rest)) → b ≡ true → repeats seen (flat_map f (drop i xs)) ≡ true
repeats_here {X} f xs i x seen new ts b small at is told found =
    let rest = flat_map f (drop (i + 1) xs) in
    ap (λ (ys : List X). repeats seen (flat_map f ys)) (drop_more xs i x small ∙ ap (λ (y : X). y ∷ drop (i + 1) xs) (sym at))
    ∙ ap (λ (us : List Term). repeats seen (us ++ rest)) (sym is)
    ∙ told rest ∙ ap (λ (c : Bool). c || repeats new rest) found

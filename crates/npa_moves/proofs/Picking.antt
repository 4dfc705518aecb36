-- What is in a pick.
use Rattle.std.proofs.Common.{ℕ, ◌+◌, ◌⊎◌, List, [], ◌∷◌, ◌++◌, Contains, sym, subst, inl, inr, ⊎_elim}
use Rattle.std.proofs.lemmas.List.Elements.{Contains-append_cases}
use Rattle.npa_term.specs.declared.term.Term.{Term}
use Rattle.npa_unify.proofs.Members.{here, later, nowhere, member_cases, only_one}
use Rattle.npa_moves.specs.Picks.{Pick, picks_from, picks}

pushed : (ts us : List Term) (t u : Term) → Contains (ts ++ t ∷ []) u → Contains ts u ⊎ Contains (t ∷ us) u
pushed ts us t u c = elim (Contains-append_cases ts (t ∷ []) u c) [
  | inl d ↦ inl d
  | inr d ↦ inr (subst (λ (x : Term). Contains (t ∷ us) x) (only_one t u d) (here t us))
]

further : (ts us : List Term) (t u : Term) → Contains ts u ⊎ Contains us u → Contains ts u ⊎ Contains (t ∷ us) u
further ts us t u = ⊎_elim (λ (c : Contains ts u). inl c) (λ (c : Contains us u). inr (later t u us c))

pushed_further : (ts us : List Term) (t u : Term) → Contains (ts ++ t ∷ []) u ⊎ Contains us u → Contains ts u ⊎ Contains (t ∷ us) u
pushed_further ts us t u = ⊎_elim (λ (c : Contains (ts ++ t ∷ []) u). pushed ts us t u c) (λ (c : Contains us u). inr (later t u us c))

-- what is taken was taken before or is one of the list
pub is_taken : (taken left : List Term) (places : List ℕ) (k : ℕ) (ts : List Term) (pick : Pick) → Contains (picks_from taken left places k ts) pick →
    (u : Term) → Contains pick.taken u → Contains taken u ⊎ Contains ts u
is_taken taken left places k [] pick c u d = absurd (nowhere pick c)
is_taken taken left places k (t ∷ ts) pick c u d =
    let one : Pick = record { taken = taken ++ t ∷ []; left = left ++ ts; places = places ++ k ∷ [] } in
    let more = picks_from (taken ++ t ∷ []) left (places ++ k ∷ []) (k + 1) ts in
    let others = picks_from taken (left ++ t ∷ []) places (k + 1) ts in
    elim (member_cases one pick (more ++ others) c) [
      | inl is ↦ pushed taken ts t u (subst (λ (p : Pick). Contains p.taken u) (sym is) d)
      | inr e ↦ elim (Contains-append_cases more others pick e) [
        | inl f ↦ pushed_further taken ts t u (is_taken (taken ++ t ∷ []) left (places ++ k ∷ []) (k + 1) ts pick f u d)
        | inr f ↦ further taken ts t u (is_taken taken (left ++ t ∷ []) places (k + 1) ts pick f u d)
      ]
    ]

-- what is left was left before or is one of the list
pub is_left : (taken left : List Term) (places : List ℕ) (k : ℕ) (ts : List Term) (pick : Pick) → Contains (picks_from taken left places k ts) pick →
    (u : Term) → Contains pick.left u → Contains left u ⊎ Contains ts u
is_left taken left places k [] pick c u d = absurd (nowhere pick c)
is_left taken left places k (t ∷ ts) pick c u d =
    let one : Pick = record { taken = taken ++ t ∷ []; left = left ++ ts; places = places ++ k ∷ [] } in
    let more = picks_from (taken ++ t ∷ []) left (places ++ k ∷ []) (k + 1) ts in
    let others = picks_from taken (left ++ t ∷ []) places (k + 1) ts in
    elim (member_cases one pick (more ++ others) c) [
      | inl is ↦ further left ts t u (Contains-append_cases left ts u (subst (λ (p : Pick). Contains p.left u) (sym is) d))
      | inr e ↦ elim (Contains-append_cases more others pick e) [
        | inl f ↦ further left ts t u (is_left (taken ++ t ∷ []) left (places ++ k ∷ []) (k + 1) ts pick f u d)
        | inr f ↦ pushed_further left ts t u (is_left taken (left ++ t ∷ []) places (k + 1) ts pick f u d)
      ]
    ]

pub taken_of : (ts : List Term) (pick : Pick) → Contains (picks ts) pick → (u : Term) → Contains pick.taken u → Contains ts u
taken_of ts pick c u d = ⊎_elim (λ (e : Contains [] u). absurd (nowhere u e)) (λ (e : Contains ts u). e) (is_taken [] [] [] 0 ts pick c u d)

pub left_of : (ts : List Term) (pick : Pick) → Contains (picks ts) pick → (u : Term) → Contains pick.left u → Contains ts u
left_of ts pick c u d = ⊎_elim (λ (e : Contains [] u). absurd (nowhere u e)) (λ (e : Contains ts u). e) (is_left [] [] [] 0 ts pick c u d)

-- Equality modulo commutativity.
use Rattle.std.proofs.Common.{◌≡◌, ◌+◌, List, [], ◌∷◌, map, refl, sym, ◌∙◌, ap, subst, arith}
use Rattle.npa_term.specs.declared.term.Var.{Var as Variable}
use Rattle.npa_term.specs.declared.term.Term.{Term, App}
use Rattle.npa_term.specs.Bound.{applied}
use Rattle.npa_term.specs.Symbols.{symbol_count, all_count}
use Rattle.npa_term.specs.Same.{Same, itself, through, swapped, below, SameAll, nothing, first}
use Rattle.npa_term.proofs.Rows.{symbol_count_at, applied_app}

mutual
  pub same_sym : {t u : Term} → Same t u → Same u t
  same_sym (itself t) = itself t
  same_sym (through s t u p q) = through u t s (same_sym q) (same_sym p)
  same_sym (swapped op t u c) = swapped op u t c
  same_sym (below op ts us p) = below op us ts (same_all_sym p)

  pub same_all_sym : {ts us : List Term} → SameAll ts us → SameAll us ts
  same_all_sym nothing = nothing
  same_all_sym (first t u ts us p q) = first u t us ts (same_sym p) (same_all_sym q)

pub same_all_itself : (ts : List Term) → SameAll ts ts
same_all_itself [] = nothing
same_all_itself (t ∷ ts) = first t t ts ts (itself t) (same_all_itself ts)

mutual
  -- equal terms have as many symbols
  pub same_count : {t u : Term} → Same t u → symbol_count t ≡ symbol_count u
  same_count (itself t) = refl
  same_count (through s t u p q) = same_count p ∙ same_count q
  same_count (swapped op t u c) =
      let l = symbol_count_at (App op (t ∷ u ∷ [])) op (t ∷ u ∷ []) refl in
      let r = symbol_count_at (App op (u ∷ t ∷ [])) op (u ∷ t ∷ []) refl in
      l ∙ omega arith ∙ sym r
  same_count (below op ts us p) =
      symbol_count_at (App op ts) op ts refl ∙ ap (λ n. 1 + n) (same_all_count p) ∙ sym (symbol_count_at (App op us) op us refl)

  pub same_all_count : {ts us : List Term} → SameAll ts us → all_count ts ≡ all_count us
  same_all_count nothing = refl
  same_all_count (first t u ts us p q) =
      ap (λ n. n + all_count ts) (same_count p) ∙ ap (λ n. symbol_count u + n) (same_all_count q)

mutual
  -- the instances of equal terms are equal
  pub same_applied : {t u : Term} (s : List (Variable × Term)) → Same t u → Same (applied s t) (applied s u)
  same_applied s (itself t) = itself (applied s t)
  same_applied s (through t u v p q) = through (applied s t) (applied s u) (applied s v) (same_applied s p) (same_applied s q)
  same_applied s (swapped op t u c) =
      let l = applied_app s op (t ∷ u ∷ []) in
      let r = applied_app s op (u ∷ t ∷ []) in
      let P : Term → Type 0 = λ v. Same (applied s (App op (t ∷ u ∷ []))) v in
      let Q : Term → Type 0 = λ v. Same v (App op (applied s u ∷ applied s t ∷ [])) in
      subst P (sym r) (subst Q (sym l) (swapped op (applied s t) (applied s u) c))
  same_applied s (below op ts us p) =
      let P : Term → Type 0 = λ v. Same (applied s (App op ts)) v in
      let Q : Term → Type 0 = λ v. Same v (App op (map (applied s) us)) in
      subst P (sym (applied_app s op us)) (subst Q (sym (applied_app s op ts)) (below op (map (applied s) ts) (map (applied s) us) (same_all_applied s p)))

  pub same_all_applied : {ts us : List Term} (s : List (Variable × Term)) → SameAll ts us → SameAll (map (applied s) ts) (map (applied s) us)
  same_all_applied s nothing = nothing
  same_all_applied s (first t u ts us p q) =
      first (applied s t) (applied s u) (map (applied s) ts) (map (applied s) us) (same_applied s p) (same_all_applied s q)

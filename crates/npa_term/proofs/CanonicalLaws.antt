-- The canonical form of a term is the least of the terms that equal it modulo commutativity.
use Rattle.std.proofs.Common.{◌≡◌, Bool, true, false, ◌&&◌, cond, List, [], ◌∷◌, map, Ordering, Less, Equal, Greater, refl, sym, ◌∙◌, ap, subst}
use Rattle.std.specs.Cmp.Lexicographic.{slice_cmp}
use Rattle.std.specs.Ordering.{ordering_then, ordering_reverse, is_gt}
use Rattle.std.proofs.lemmas.Cmp.{upto, tied_itself, alike_right, nat_cmp_total}
use Rattle.npa_term.specs.declared.term.Op.{Op}
use Rattle.npa_term.specs.declared.term.Term.{Term, Var, Name, App}
use Rattle.npa_term.specs.Symbols.{symbol_count}
use Rattle.npa_term.specs.Order.{term_cmp}
use Rattle.npa_term.specs.Canonical.{ordered, canonical}
use Rattle.npa_term.specs.Same.{Same, itself, through, swapped, below, SameAll, nothing, first}
use Rattle.npa_term.proofs.Induction.{Each, by_terms}
use Rattle.npa_term.proofs.OrderLaws.{term_cmp_total, all_cmp_total}
use Rattle.npa_term.proofs.Rows.{cmp_apps, canonical_app}
use Rattle.npa_term.proofs.SameLaws.{same_count}

left_of : (a b : Bool) → a && b ≡ true → a ≡ true
left_of true b e = refl
left_of false b e = e

right_of : (a b : Bool) → a && b ≡ true → b ≡ true
right_of true b e = e
right_of false b e = cc

-- what holds of the arguments as they are, and of two that were swapped, holds of the sorted ones
pub by_order : (P : List Term → Type 0) (op : Op) (ts : List Term) → P ts →
    ((t u : Term) → ts ≡ t ∷ u ∷ [] → op.com ≡ true → is_gt (term_cmp t u) ≡ true → P (u ∷ t ∷ [])) → P (ordered op ts)
by_order P op [] kept turned = kept
by_order P op (t ∷ []) kept turned = kept
by_order P op (t ∷ u ∷ []) kept turned =
    elim (op.com && is_gt (term_cmp t u)) as (λ b. op.com && is_gt (term_cmp t u) ≡ b → P (cond b (u ∷ t ∷ []) (t ∷ u ∷ [])))
    [ true ↦ λ e. turned t u refl (left_of op.com (is_gt (term_cmp t u)) e) (right_of op.com (is_gt (term_cmp t u)) e) | false ↦ λ e. kept ] refl
by_order P op (t ∷ u ∷ v ∷ ts) kept turned = kept

-- sorting the arguments keeps the term in its class
pub ordered_same : (op : Op) (ts : List Term) → Same (App op ts) (App op (ordered op ts))
ordered_same op ts =
    by_order (λ us. Same (App op ts) (App op us)) op ts (itself (App op ts))
    (λ t u e swaps above. let P : List Term → Type 0 = λ us. Same (App op us) (App op (u ∷ t ∷ [])) in subst P (sym e) (swapped op t u swaps))

each_same : (ts : List Term) → Each (λ t. Same t (canonical t)) ts → SameAll ts (map canonical ts)
each_same [] each = nothing
each_same (t ∷ ts) each = first t (canonical t) ts (map canonical ts) each.0 (each_same ts each.1)

-- the canonical form is in the term's class
pub canonical_same : (t : Term) → Same t (canonical t)
canonical_same =
    by_terms (λ t. Same t (canonical t)) (λ v. itself (Var v)) (λ n. itself (Name n))
    (λ op ts each. let P : Term → Type 0 = λ u. Same (App op ts) u in
    subst P (sym (canonical_app op ts))
    (through (App op ts) (App op (map canonical ts)) (App op (ordered op (map canonical ts)))
    (below op ts (map canonical ts) (each_same ts each)) (ordered_same op (map canonical ts))))

-- it has as many symbols
pub symbol_count-canonical : (t : Term) → symbol_count (canonical t) ≡ symbol_count t
symbol_count-canonical t = sym (same_count (canonical_same t))

-- applications of one operator are compared by their arguments
pub cmp_same_op : (op : Op) (ts us : List Term) → term_cmp (App op ts) (App op us) ≡ slice_cmp term_cmp ts us
cmp_same_op op ts us =
    cmp_apps op op ts us ∙ ap (λ o. ordering_then o (slice_cmp term_cmp ts us)) (tied_itself nat_cmp_total op.num)

then_upto : (o p : Ordering) → is_gt o ≡ false → is_gt p ≡ false → is_gt (ordering_then o p) ≡ false
then_upto Less p a b = refl
then_upto Equal p a b = b
then_upto Greater p a b = a

above_is : (o : Ordering) → is_gt o ≡ true → o ≡ Greater
above_is Less e = cc
above_is Equal e = cc
above_is Greater e = refl

-- sorting two arguments never makes them greater
ordered_upto : (op : Op) (ts : List Term) → is_gt (slice_cmp term_cmp (ordered op ts) ts) ≡ false
ordered_upto op ts =
    by_order (λ us. is_gt (slice_cmp term_cmp us ts) ≡ false) op ts (ap is_gt (tied_itself all_cmp_total ts))
    (λ t u e swaps above.
    let less : term_cmp u t ≡ Less = term_cmp_total.antisymm u t ∙ ap ordering_reverse (above_is (term_cmp t u) above) in
    let P : List Term → Type 0 = λ us. is_gt (slice_cmp term_cmp (u ∷ t ∷ []) us) ≡ false in
    subst P (sym e) (ap (λ o. is_gt (ordering_then o (slice_cmp term_cmp (t ∷ []) (u ∷ [])))) less))

each_upto : (ts : List Term) → Each (λ t. is_gt (term_cmp (canonical t) t) ≡ false) ts → is_gt (slice_cmp term_cmp (map canonical ts) ts) ≡ false
each_upto [] each = refl
each_upto (t ∷ ts) each = then_upto (term_cmp (canonical t) t) (slice_cmp term_cmp (map canonical ts) ts) each.0 (each_upto ts each.1)

-- the canonical form is at or below the term
pub canonical_upto : (t : Term) → is_gt (term_cmp (canonical t) t) ≡ false
canonical_upto =
    by_terms (λ t. is_gt (term_cmp (canonical t) t) ≡ false)
    (λ v. ap is_gt (tied_itself term_cmp_total (Var v))) (λ n. ap is_gt (tied_itself term_cmp_total (Name n)))
    (λ op ts each.
    ap is_gt (ap (λ u. term_cmp u (App op ts)) (canonical_app op ts) ∙ cmp_same_op op (ordered op (map canonical ts)) ts)
    ∙ upto all_cmp_total (ordered op (map canonical ts)) (map canonical ts) ts (ordered_upto op (map canonical ts)) (each_upto ts each))

pub then_tied_left : (o p : Ordering) → ordering_then o p ≡ Equal → o ≡ Equal
then_tied_left Less p e = e
then_tied_left Equal p e = refl
then_tied_left Greater p e = e

pub then_tied_right : (o p : Ordering) → ordering_then o p ≡ Equal → p ≡ Equal
then_tied_right Less p e = cc
then_tied_right Equal p e = e
then_tied_right Greater p e = cc

-- lists of tied terms are tied when they are sorted
ordered_tied : (op : Op) (ts us : List Term) → slice_cmp term_cmp ts us ≡ Equal → slice_cmp term_cmp (ordered op ts) (ordered op us) ≡ Equal
ordered_tied op [] [] e = e
ordered_tied op [] (u ∷ []) e = e
ordered_tied op [] (u ∷ v ∷ []) e = cc
ordered_tied op [] (u ∷ v ∷ w ∷ us) e = e
ordered_tied op (t ∷ []) [] e = e
ordered_tied op (t ∷ []) (u ∷ []) e = e
ordered_tied op (t ∷ []) (u ∷ v ∷ []) e = let no = then_tied_right (term_cmp t u) Less e in cc
ordered_tied op (t ∷ []) (u ∷ v ∷ w ∷ us) e = e
ordered_tied op (t ∷ s ∷ []) [] e = cc
ordered_tied op (t ∷ s ∷ []) (u ∷ []) e = let no = then_tied_right (term_cmp t u) Greater e in cc
ordered_tied op (t ∷ s ∷ []) (u ∷ v ∷ []) e =
    let fst : term_cmp t u ≡ Equal = then_tied_left (term_cmp t u) (ordering_then (term_cmp s v) Equal) e in
    let snd : term_cmp s v ≡ Equal = then_tied_left (term_cmp s v) Equal (then_tied_right (term_cmp t u) (ordering_then (term_cmp s v) Equal) e) in
    let alike : term_cmp t s ≡ term_cmp u v = term_cmp_total.congr t u s fst ∙ alike_right term_cmp_total s v u snd in
    let crossed : slice_cmp term_cmp (s ∷ t ∷ []) (v ∷ u ∷ []) ≡ Equal =
    ap (λ o. ordering_then o (ordering_then (term_cmp t u) Equal)) snd ∙ ap (λ o. ordering_then o Equal) fst in
    let P : Bool → Type 0 = λ b. slice_cmp term_cmp (cond (op.com && is_gt (term_cmp t s)) (s ∷ t ∷ []) (t ∷ s ∷ [])) (cond b (v ∷ u ∷ []) (u ∷ v ∷ [])) ≡ Equal in
    let both : P (op.com && is_gt (term_cmp t s)) =
    elim (op.com && is_gt (term_cmp t s)) as (λ b. slice_cmp term_cmp (cond b (s ∷ t ∷ []) (t ∷ s ∷ [])) (cond b (v ∷ u ∷ []) (u ∷ v ∷ [])) ≡ Equal) [ true ↦ crossed | false ↦ e ] in
    subst P (ap (λ o. op.com && is_gt o) alike) both
ordered_tied op (t ∷ s ∷ []) (u ∷ v ∷ w ∷ us) e =
    let no = then_tied_right (term_cmp s v) Less (then_tied_right (term_cmp t u) (ordering_then (term_cmp s v) Less) e) in cc
ordered_tied op (t ∷ s ∷ r ∷ ts) [] e = e
ordered_tied op (t ∷ s ∷ r ∷ ts) (u ∷ []) e = e
ordered_tied op (t ∷ s ∷ r ∷ ts) (u ∷ v ∷ []) e =
    let no = then_tied_right (term_cmp s v) Greater (then_tied_right (term_cmp t u) (ordering_then (term_cmp s v) Greater) e) in cc
ordered_tied op (t ∷ s ∷ r ∷ ts) (u ∷ v ∷ w ∷ us) e = e

-- how two arguments of a commutative operator are sorted
ordered_by : (op : Op) (t u : Term) (o : Ordering) → op.com ≡ true → term_cmp t u ≡ o → ordered op (t ∷ u ∷ []) ≡ cond (is_gt o) (u ∷ t ∷ []) (t ∷ u ∷ [])
ordered_by op t u o swaps e =
    ap (λ b. cond (b && is_gt (term_cmp t u)) (u ∷ t ∷ []) (t ∷ u ∷ [])) swaps
    ∙ ap (λ p. cond (is_gt p) (u ∷ t ∷ []) (t ∷ u ∷ [])) e

-- the two orders of two arguments are tied when they are sorted
swapped_tied : (op : Op) (t u : Term) → op.com ≡ true → slice_cmp term_cmp (ordered op (t ∷ u ∷ [])) (ordered op (u ∷ t ∷ [])) ≡ Equal
swapped_tied op t u swaps =
    let back : (o : Ordering) → term_cmp t u ≡ o → term_cmp u t ≡ ordering_reverse o = λ o e. term_cmp_total.antisymm u t ∙ ap ordering_reverse e in
    let sorted : (ts us : List Term) → ordered op (t ∷ u ∷ []) ≡ ts → ordered op (u ∷ t ∷ []) ≡ us → slice_cmp term_cmp ts us ≡ Equal →
    slice_cmp term_cmp (ordered op (t ∷ u ∷ [])) (ordered op (u ∷ t ∷ [])) ≡ Equal =
    λ ts us d e tied. ap (λ vs. slice_cmp term_cmp vs (ordered op (u ∷ t ∷ []))) d ∙ ap (slice_cmp term_cmp ts) e ∙ tied in
    elim (term_cmp t u) as (λ o. term_cmp t u ≡ o → slice_cmp term_cmp (ordered op (t ∷ u ∷ [])) (ordered op (u ∷ t ∷ [])) ≡ Equal) [
      | Less ↦ λ e. sorted (t ∷ u ∷ []) (t ∷ u ∷ []) (ordered_by op t u Less swaps e) (ordered_by op u t Greater swaps (back Less e)) (tied_itself all_cmp_total (t ∷ u ∷ []))
      | Equal ↦ λ e. sorted (t ∷ u ∷ []) (u ∷ t ∷ []) (ordered_by op t u Equal swaps e) (ordered_by op u t Equal swaps (back Equal e))
          (ap (λ o. ordering_then o (ordering_then (term_cmp u t) Equal)) e ∙ ap (λ o. ordering_then o Equal) (back Equal e))
      | Greater ↦ λ e. sorted (u ∷ t ∷ []) (u ∷ t ∷ []) (ordered_by op t u Greater swaps e) (ordered_by op u t Less swaps (back Greater e)) (tied_itself all_cmp_total (u ∷ t ∷ []))
    ] refl

mutual
  -- the canonical forms of equal terms are tied
  pub same_tied : {t u : Term} → Same t u → term_cmp (canonical t) (canonical u) ≡ Equal
  same_tied (itself t) = tied_itself term_cmp_total (canonical t)
  same_tied (through s t u p q) = term_cmp_total.congr (canonical s) (canonical t) (canonical u) (same_tied p) ∙ same_tied q
  same_tied (swapped op t u swaps) =
      ap (λ v. term_cmp v (canonical (App op (u ∷ t ∷ [])))) (canonical_app op (t ∷ u ∷ []))
      ∙ ap (term_cmp (App op (ordered op (canonical t ∷ canonical u ∷ [])))) (canonical_app op (u ∷ t ∷ []))
      ∙ cmp_same_op op (ordered op (canonical t ∷ canonical u ∷ [])) (ordered op (canonical u ∷ canonical t ∷ []))
      ∙ swapped_tied op (canonical t) (canonical u) swaps
  same_tied (below op ts us p) =
      ap (λ v. term_cmp v (canonical (App op us))) (canonical_app op ts)
      ∙ ap (term_cmp (App op (ordered op (map canonical ts)))) (canonical_app op us)
      ∙ cmp_same_op op (ordered op (map canonical ts)) (ordered op (map canonical us))
      ∙ ordered_tied op (map canonical ts) (map canonical us) (same_all_tied p)

  same_all_tied : {ts us : List Term} → SameAll ts us → slice_cmp term_cmp (map canonical ts) (map canonical us) ≡ Equal
  same_all_tied nothing = refl
  same_all_tied (first t u ts us p q) =
      ap (λ o. ordering_then o (slice_cmp term_cmp (map canonical ts) (map canonical us))) (same_tied p) ∙ same_all_tied q

-- the canonical form is at or below each term of the class
pub canonical_least : (t u : Term) → Same t u → is_gt (term_cmp (canonical t) u) ≡ false
canonical_least t u p = ap is_gt (term_cmp_total.congr (canonical t) (canonical u) u (same_tied p)) ∙ canonical_upto u

-- in the words of the clause
pub canonical_not_above : (t u : Term) → Same t u → term_cmp (canonical t) u ≡ Greater → ⊥
canonical_not_above t u p above =
    let no : true ≡ false = sym (ap is_gt above) ∙ canonical_least t u p in
    cc

fixed_members : (ts : List Term) → Each (λ t. canonical (canonical t) ≡ canonical t) ts → map canonical (map canonical ts) ≡ map canonical ts
fixed_members [] each = refl
fixed_members (t ∷ ts) each = ap (λ u. u ∷ map canonical (map canonical ts)) each.0 ∙ ap (λ us. canonical t ∷ us) (fixed_members ts each.1)

-- sorted members are fixed where the members are
fixed_ordered : (op : Op) (ts : List Term) → map canonical ts ≡ ts → map canonical (ordered op ts) ≡ ordered op ts
fixed_ordered op ts fixed =
    by_order (λ us. map canonical us ≡ us) op ts fixed
    (λ t u e swaps above.
    let two : canonical t ∷ canonical u ∷ [] ≡ t ∷ u ∷ [] = subst (λ us. map canonical us ≡ us) e fixed in
    let fst : canonical t ≡ t = cc in
    let snd : canonical u ≡ u = cc in
    ap (λ v. v ∷ canonical t ∷ []) snd ∙ ap (λ v. u ∷ v ∷ []) fst)

-- sorting twice is sorting once
ordered_twice : (op : Op) (ts : List Term) → ordered op (ordered op ts) ≡ ordered op ts
ordered_twice op [] = refl
ordered_twice op (t ∷ []) = refl
ordered_twice op (t ∷ u ∷ []) =
    elim (op.com && is_gt (term_cmp t u)) as (λ b. op.com && is_gt (term_cmp t u) ≡ b → ordered op (cond b (u ∷ t ∷ []) (t ∷ u ∷ [])) ≡ cond b (u ∷ t ∷ []) (t ∷ u ∷ [])) [
      | true ↦ λ e.
          let less : term_cmp u t ≡ Less = term_cmp_total.antisymm u t ∙ ap ordering_reverse (above_is (term_cmp t u) (right_of op.com (is_gt (term_cmp t u)) e)) in
          ordered_by op u t Less (left_of op.com (is_gt (term_cmp t u)) e) less
      | false ↦ λ e. ap (λ b. cond b (u ∷ t ∷ []) (t ∷ u ∷ [])) e
    ] refl
ordered_twice op (t ∷ u ∷ v ∷ ts) = refl

-- the canonical form is its own canonical form
pub canonical-canonical : (t : Term) → canonical (canonical t) ≡ canonical t
canonical-canonical =
    by_terms (λ t. canonical (canonical t) ≡ canonical t) (λ v. refl) (λ n. refl)
    (λ op ts each.
    let form : canonical (App op ts) ≡ App op (ordered op (map canonical ts)) = canonical_app op ts in
    ap canonical form ∙ canonical_app op (ordered op (map canonical ts))
    ∙ ap (λ us. App op (ordered op us)) (fixed_ordered op (map canonical ts) (fixed_members ts each))
    ∙ ap (App op) (ordered_twice op (map canonical ts)) ∙ sym form)

-- the same of any term that is the canonical form
pub made_same : (t u : Term) → u ≡ canonical t → Same t u
made_same t u e = subst (Same t) (sym e) (canonical_same t)

pub made_least : (t u : Term) → u ≡ canonical t → (v : Term) → Same t v → term_cmp u v ≡ Greater → ⊥
made_least t u e v p above = canonical_not_above t v p (ap (λ w. term_cmp w v) (sym e) ∙ above)

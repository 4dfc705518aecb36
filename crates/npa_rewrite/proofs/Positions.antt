-- Rewriting at a position of the term itself, and rewriting in any equal term.
use Rattle.std.proofs.Common.{◌≡◌, List, [], ◌∷◌, ◌++◌, append_assoc, refl, sym, subst, inl, inr}
use Rattle.npa_term.specs.declared.term.Op.{Op}
use Rattle.npa_term.specs.declared.term.Term.{Term, App}
use Rattle.npa_term.specs.Bound.{applied}
use Rattle.npa_term.specs.Canonical.{canonical}
use Rattle.npa_term.specs.Same.{Same, itself, through, SameAll, first, Crossed, crossed, SameArguments}
use Rattle.npa_term.proofs.CanonicalLaws.{canonical_same, canonical-canonical}
use Rattle.npa_term.proofs.SameCases.{same_app, same_from_arguments}
use Rattle.npa_term.proofs.SameLaws.{same_sym, same_all_sym}
use Rattle.npa_rewrite.specs.declared.theory.Theory.{Theory}
use Rattle.npa_rewrite.specs.Reducing.{Reduces, top, under, ReducesOne, now, later}
use Rattle.npa_rewrite.specs.Rewriting.{Replaces, here, inside, Rewrites}
use Rattle.npa_rewrite.proofs.Under.{canonical_in, rewrites_in}

-- a step of one member is one of the list
pub one_at : (th : Theory) (before after : List Term) (t u : Term) → Reduces th t u → ReducesOne th (before ++ t ∷ after) (before ++ u ∷ after)
one_at th [] after t u r = now t u after r
one_at th (b ∷ before) after t u r = later b (before ++ t ∷ after) (before ++ u ∷ after) (one_at th before after t u r)

from_replaces : (th : Theory) {t u : Term} → Replaces th t u → Reduces th t u
from_replaces th (here e s c q) = top e s (applied s e.left) c q (itself (applied s e.left))
from_replaces th (inside op before after t u r) =
    under op (before ++ t ∷ after) (before ++ u ∷ after) (one_at th before after t u (from_replaces th r))

mutual
  -- a step at a position is a step
  pub rewrites : (th : Theory) {t u : Term} → Reduces th t u → Rewrites th t (canonical u)
  rewrites th (top e s t c q p) = record { from = applied s e.left; to = applied s e.right; same = p; replaces = here e s c q; form = refl }
  rewrites th (under op ts us r) = one_rewrites th op [] r

  one_rewrites : (th : Theory) (op : Op) (before : List Term) {ts us : List Term} → ReducesOne th ts us → Rewrites th (App op (before ++ ts)) (canonical (App op (before ++ us)))
  one_rewrites th op before (now t u ts r) =
      subst (Rewrites th (App op (before ++ t ∷ ts))) (canonical_in op before ts (canonical u) u (canonical-canonical u))
      (rewrites_in th op before ts t (canonical u) (rewrites th r))
  one_rewrites th op before (later t ts us r) =
      subst (λ xs. Rewrites th (App op (before ++ t ∷ ts)) (canonical (App op xs))) (append_assoc before (t ∷ []) us)
      (subst (λ xs. Rewrites th (App op xs) (canonical (App op ((before ++ t ∷ []) ++ us)))) (append_assoc before (t ∷ []) ts) (one_rewrites th op (before ++ t ∷ []) r))

pub nothing_reduces : (th : Theory) {ts us : List Term} → ReducesOne th ts us → ts ≡ [] → ⊥
nothing_reduces th (now t u ts r) e = cc
nothing_reduces th (later t ts us r) e = cc

mutual
  -- terms that are equal modulo commutativity make the same steps at their own positions
  pub classes : (th : Theory) {t u : Term} → Reduces th t u → (x : Term) → Same x t → (y : Term) × Reduces th x y × Same y u
  classes th (top e s t c q p) x same = (applied s e.right, top e s x c q (through x t (applied s e.left) same p), itself (applied s e.right))
  classes th (under op ts us r) x same =
      let cases = same_app (same_sym same) op ts refl in
      let one : (ys : List Term) × ReducesOne th cases.0 ys × SameArguments op ys us =
      elim cases.2 [
        | inl p ↦ let one = all_classes th r p in (one.0, one.1, inl one.2)
        | inr p ↦ let one = crossed_classes th op r p in (one.0, one.1, inr one.2)
      ] in
      (App op one.0, subst (λ z. Reduces th z (App op one.0)) (sym cases.1) (under op cases.0 one.0 one.1), same_from_arguments op one.0 us one.2)

  all_classes : (th : Theory) {ts us xs : List Term} → ReducesOne th ts us → SameAll ts xs → (ys : List Term) × ReducesOne th xs ys × SameAll ys us
  all_classes th (now t u ts r) (first _ x _ xs p q) =
      let one = classes th r x (same_sym p) in
      (one.0 ∷ xs, now x one.0 xs one.1, first one.0 u xs ts one.2 (same_all_sym q))
  all_classes th (later t ts us r) (first _ x _ xs p q) =
      let rest = all_classes th r q in
      (x ∷ rest.0, later x xs rest.0 rest.1, first x t rest.0 us (same_sym p) rest.2)

  crossed_classes : (th : Theory) (op : Op) {ts us xs : List Term} → ReducesOne th ts us → Crossed op ts xs → (ys : List Term) × ReducesOne th xs ys × Crossed op ys us
  crossed_classes th op (now t u ts r) (crossed a b c d swaps p q) =
      let one = classes th r d (same_sym p) in
      (c ∷ one.0 ∷ [], later c (d ∷ []) (one.0 ∷ []) (now d one.0 [] one.1), crossed c one.0 u b swaps (same_sym q) one.2)
  crossed_classes th op (later t ts us (now _ u _ r)) (crossed a b c d swaps p q) =
      let one = classes th r c (same_sym q) in
      (one.0 ∷ d ∷ [], now c one.0 (d ∷ []) one.1, crossed one.0 d a u swaps one.2 (same_sym p))
  crossed_classes th op (later t ts us (later _ _ _ r)) (crossed a b c d swaps p q) = absurd (nothing_reduces th r refl)

-- a step in an equal term is one at a position of the term itself
pub reduces : (th : Theory) (t v : Term) → Rewrites th t v → (u : Term) × Reduces th t u × Same u v
reduces th t v r =
    let one = classes th (from_replaces th r.replaces) t r.same in
    (one.0, one.1, through one.0 r.to v one.2 (subst (Same r.to) (sym r.form) (canonical_same r.to)))

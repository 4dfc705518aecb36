-- Patterns under a function, and what is alike.
use Rattle.std.proofs.Common.{◌≡◌, ℕ, zero, suc, ◌+◌, ◌<◌, Some, List, [], ◌∷◌, ◌++◌, map, take, slice_get, slice_set, Contains, refl, sym, ◌∙◌, ap, subst, arith}
use Rattle.std.proofs.lemmas.Option.{same_Some, none-some}
use Rattle.npa_term.specs.declared.term.Term.{Term}
use Rattle.npa_term.specs.Same.{itself}
use Rattle.npa_term.proofs.SameLaws.{same_all_itself}
use Rattle.npa_model.specs.declared.pattern.PStrand.{PStrand}
use Rattle.npa_model.specs.declared.pattern.Pattern.{Pattern}
use Rattle.npa_model.specs.Backward.{received, set_back}
use Rattle.npa_model.specs.Covering.{AreAlike, HasSame}
use Rattle.npa_model.specs.Patterns.{IsInitial, map_pattern, map_strand}
use Rattle.npa_model.proofs.Places.{front_mapped, at_mapped}
use Rattle.npa_moves.specs.Leading.{Alike}
use Rattle.npa_moves.proofs.OtherSteps.{map_push}

pub map_set : {X Y : Type 0} (f : X → Y) (xs : List X) (k : ℕ) (x : X) → map f (slice_set xs k x) ≡ slice_set (map f xs) k (f x)
map_set f [] k x = refl
map_set f (y ∷ xs) zero x = refl
map_set f (y ∷ xs) (suc k) x = ap (λ ys. f y ∷ ys) (map_set f xs k x)

-- what stands in a front stands in the list
pub taken_at : {X : Type 0} (n : ℕ) (xs : List X) (j : ℕ) (x : X) → slice_get (take n xs) j ≡ Some x → (j < n) × (slice_get xs j ≡ Some x)
taken_at zero xs j x e = absurd (none-some x e)
taken_at (suc n) [] j x e = absurd (none-some x e)
taken_at (suc n) (y ∷ xs) zero x e = (omega arith, e)
taken_at (suc n) (y ∷ xs) (suc j) x e = let rest = taken_at n xs j x e in (omega (arith, rest.0), rest.1)

has_itself : (ts : List Term) (t : Term) → Contains ts t → HasSame ts t
has_itself ts t c = (t, c, itself t)

pub alike_itself : (g : Pattern) → Alike g g
alike_itself g = record {
  as_many = refl;
  strands = λ k p q c d.
      let is : p ≡ q = same_Some p q (sym c ∙ d) in
      subst (AreAlike p) is (record { strand = refl; bar = refl; args = same_all_itself p.args; msgs = same_all_itself p.msgs });
  known = has_itself g.known;
  known_back = has_itself g.known;
  unknown = has_itself g.unknown;
  unknown_back = has_itself g.unknown;
}

module _ (f : Term → Term) where
  pub map_back : (p : PStrand) (bar : ℕ) → map_strand f (set_back p bar) ≡ set_back (map_strand f p) bar
  map_back p bar = ap (λ (ts : List Term). record { strand = p.strand; bar = bar; args = map f p.args; msgs = ts }) (sym (front_mapped f bar p.msgs))

  pub map_strands_back : (ps : List PStrand) (k : ℕ) (p : PStrand) (bar : ℕ) → map (map_strand f) (slice_set ps k (set_back p bar)) ≡ slice_set (map (map_strand f) ps) k (set_back (map_strand f p) bar)
  map_strands_back ps k p bar = map_set (map_strand f) ps k (set_back p bar) ∙ ap (slice_set (map (map_strand f) ps) k) (map_back p bar)

  pub map_received : (g : Pattern) (k : ℕ) (p : PStrand) (bar : ℕ) (m : Term) → map_pattern f (received k p bar m g) ≡ received k (map_strand f p) bar (f m) (map_pattern f g)
  map_received g k p bar m =
      ap (λ (ps : List PStrand). record { strands = ps; known = map f (g.known ++ m ∷ []); unknown = map f g.unknown }) (map_strands_back g.strands k p bar)
      ∙ ap (λ (ts : List Term). record { strands = slice_set (map (map_strand f) g.strands) k (set_back (map_strand f p) bar); known = ts; unknown = map f g.unknown }) (map_push f g.known m)

  -- a pattern is initial where it is under a function
  pub initial_mapped : (g : Pattern) → IsInitial (map_pattern f g) → IsInitial g
  initial_mapped g initial = record {
    bars = λ k p e. initial.bars k (map_strand f p) (at_mapped (map_strand f) g.strands k p e);
    known = no_facts g.known initial.known;
  }
    where
      no_facts : (ts : List Term) → map f ts ≡ [] → ts ≡ []
      no_facts [] e = refl
      no_facts (t ∷ ts) e = cc

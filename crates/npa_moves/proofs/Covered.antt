-- What comes of a move by a substitution that unifies its pairs is an instance of what comes of it by an
-- answer of which the substitution is an instance.
use Rattle.std.proofs.Common.{◌≡◌, ℕ, zero, suc, ◌+◌, ◌<◌, Some, List, [], ◌∷◌, ◌++◌, map, zip, length, slice_get, Contains, refl, sym, ◌∙◌, ap, subst, arith}
use Rattle.std.proofs.lemmas.List.{length-map}
use Rattle.std.proofs.lemmas.List.Elements.{Contains-append_left, Contains-append_right}
use Rattle.std.proofs.lemmas.Option.{same_Some, none-some}
use Rattle.npa_sorts.specs.Subsorts.{Subsorts, IsAtOrBelow}
use Rattle.npa_term.specs.declared.term.Term.{Term, Var}
use Rattle.npa_term.specs.declared.term.Var.{Var as Variable}
use Rattle.npa_term.specs.Bound.{applied}
use Rattle.npa_term.specs.Numbering.{numbering}
use Rattle.npa_term.specs.Parts.{image, least_sort}
use Rattle.npa_term.specs.Same.{Same, SameAll, through, nothing, first}
use Rattle.npa_term.specs.Variables.{variables}
use Rattle.npa_term.proofs.Parts.{only_member, same_sort}
use Rattle.npa_term.proofs.Renumbered.{from_variable}
use Rattle.npa_term.proofs.SameCases.{same_all_trans}
use Rattle.npa_unify.specs.Unifiers.{Factor, IsAnswer}
use Rattle.npa_unify.proofs.Members.{here, later}
use Rattle.npa_variants.proofs.Forms.{canonical_variables}
use Rattle.npa_variants.proofs.Members.{mapped_member, of_mapped}
use Rattle.npa_variants.proofs.Sound.{image_zip, map_map}
use Rattle.npa_model.specs.declared.pattern.PStrand.{PStrand}
use Rattle.npa_model.specs.declared.pattern.Pattern.{Pattern}
use Rattle.npa_model.specs.Covering.{AreAlike, HasSame, IsCover, Lies}
use Rattle.npa_model.specs.Patterns.{IsTermOf, of_args, of_msgs, of_known, of_unknown, Occurs, map_pattern, map_strand}
use Rattle.npa_model.proofs.CoverLaws.{of_mapped as term_mapped}
use Rattle.npa_model.proofs.Places.{mapped_at, at_mapped, within_at}
use Rattle.npa_moves.specs.Finishing.{instance_of, pattern_terms, kept_once, without_twice}
use Rattle.npa_moves.specs.Leading.{Alike}
use Rattle.npa_moves.proofs.Completing.{back_twice, follows, in_terms, old_of, onward, then_sort, with_twice}
use Rattle.npa_moves.proofs.Keeping.{once_is}

-- ## Each place of a list

abbrev pub places : ℕ → ℕ → List ℕ
places from zero = []
places from (suc n) = from ∷ places (from + 1) n

pub length_places : (from n : ℕ) → length (places from n) ≡ n
length_places from zero = refl
length_places from (suc n) = ap suc (length_places (from + 1) n)

pub at_places : (from n k m : ℕ) → slice_get (places from n) k ≡ Some m → m ≡ from + k
at_places from zero k m e = absurd (none-some m e)
at_places from (suc n) zero m e = omega (arith, same_Some from m e)
at_places from (suc n) (suc k) m e = omega (arith, at_places (from + 1) n k m e)

-- ## One function after another

pub same_list : (f g : Term → Term) (ts : List Term) → ((t : Term) → Contains ts t → Same (f t) (g t)) → SameAll (map f ts) (map g ts)
same_list f g [] each = nothing
same_list f g (t ∷ ts) each = first (f t) (g t) (map f ts) (map g ts) (each t (here t ts)) (same_list f g ts (λ u c. each u (later t u ts c)))

module _ (h n s : Term → Term) (g : Term → Term) where
  -- three functions one after another, and one that does the same
  pub same_thrice : (ts : List Term) → ((t : Term) → Contains ts t → Same (h (n (s t))) (g t)) → SameAll (map h (map n (map s ts))) (map g ts)
  same_thrice ts each =
      subst (λ (us : List Term). SameAll us (map g ts)) (sym (ap (map h) (map_map s n ts) ∙ map_map (λ t. n (s t)) h ts))
      (same_list (λ t. h (n (s t))) g ts each)

has_through : {t u : Term} (us : List Term) → Same t u → HasSame us u → HasSame us t
has_through {t} {u} us same (w, c, d) = (w, c, through t u w same d)

module _ (h n s : Term → Term) (σ : List (Variable × Term)) (from q : Pattern)
    (does : (t : Term) → IsTermOf from t → IsTermOf (without_twice (map_pattern s from)) (s t) → Same (h (n (s t))) (applied σ t)) (alike : Alike (map_pattern (applied σ) from) q) where
  -- the pattern that the three functions make
  abbrev made : Pattern
  made = map_pattern h (map_pattern n (without_twice (map_pattern s from)))

  made_alike : (k : ℕ) (p y : PStrand) → slice_get from.strands k ≡ Some p → AreAlike (map_strand (applied σ) p) y → AreAlike (map_strand h (map_strand n (map_strand s p))) y
  made_alike k p y e a = record {
    strand = a.strand;
    bar = a.bar;
    args = same_all_trans (same_thrice h n s (applied σ) p.args (λ t c. does t (of_args k p e c) (of_args k (map_strand s p) (at_mapped (map_strand s) from.strands k p e) (mapped_member s p.args t c)))) a.args;
    msgs = same_all_trans (same_thrice h n s (applied σ) p.msgs (λ t c. does t (of_msgs k p e c) (of_msgs k (map_strand s p) (at_mapped (map_strand s) from.strands k p e) (mapped_member s p.msgs t c)))) a.msgs;
  }

  strand_made : (k : ℕ) (p : PStrand) → slice_get made.strands k ≡ Some p → (y : PStrand) × (slice_get q.strands k ≡ Some y) × AreAlike p y
  strand_made k p e =
      let one = mapped_at (map_strand h) (map (map_strand n) (map (map_strand s) from.strands)) k p e in
      let two = mapped_at (map_strand n) (map (map_strand s) from.strands) k one.0 one.1 in
      let three = mapped_at (map_strand s) from.strands k two.0 two.1 in
      let p0 = three.0 in
      let there = at_mapped (map_strand (applied σ)) from.strands k p0 three.1 in
      let other = within_at q.strands (map (map_strand (applied σ)) from.strands) k (map_strand (applied σ) p0) (sym alike.as_many) there in
      let is : map_strand h (map_strand n (map_strand s p0)) ≡ p = ap (λ (x : PStrand). map_strand h (map_strand n x)) three.2 ∙ ap (map_strand h) two.2 ∙ one.2 in
      (other.0, other.1, subst (λ (x : PStrand). AreAlike x other.0) is (made_alike k p0 other.0 three.1 (alike.strands k (map_strand (applied σ) p0) other.0 there other.1)))

  fact_made : (ts us : List Term) → ((t : Term) → Contains ts t → IsTermOf from t) → ((t : Term) → Contains (kept_once (map s ts)) t → IsTermOf (without_twice (map_pattern s from)) t) → ((t : Term) → Contains (map (applied σ) ts) t → HasSame us t) →
      (x : Term) → Contains (map h (map n (kept_once (map s ts)))) x → HasSame us x
  fact_made ts us terms kept has x c =
      let one = of_mapped h (map n (kept_once (map s ts))) x c in
      let two = of_mapped n (kept_once (map s ts)) one.0 one.1 in
      let three = of_mapped s ts two.0 (once_is (map s ts) two.0 two.1) in
      let t = three.0 in
      let is : h (n (s t)) ≡ x = sym (one.2 ∙ ap h two.2 ∙ ap (λ y. h (n y)) three.2) in
      subst (HasSame us) is (has_through us (does t (terms t three.1) (subst (IsTermOf (without_twice (map_pattern s from))) three.2 (kept two.0 two.1))) (has (applied σ t) (mapped_member (applied σ) ts t three.1)))

  many : length made.strands ≡ length q.strands
  many = length-map (map (map_strand n) (map (map_strand s) from.strands)) (map_strand h)
      ∙ length-map (map (map_strand s) from.strands) (map_strand n)
      ∙ length-map from.strands (map_strand s)
      ∙ sym (length-map from.strands (map_strand (applied σ)))
      ∙ alike.as_many

  pub made_lies : Lies made q (places 0 (length q.strands))
  made_lies = record {
    as_many = length_places 0 (length q.strands) ∙ sym many;
    different = λ j k m c d. omega (arith, at_places 0 (length q.strands) j m c, at_places 0 (length q.strands) k m d);
    strands = λ k m p c e.
        let one = strand_made k p e in
        let place : m ≡ k = omega (arith, at_places 0 (length q.strands) k m c) in
        (one.0, ap (slice_get q.strands) place ∙ one.1, one.2);
    known = fact_made from.known q.known (λ t c. of_known c) (λ t c. of_known c) alike.known;
    unknown = fact_made from.unknown q.unknown (λ t c. of_unknown c) (λ t c. of_unknown c) alike.unknown;
  }

-- ## A draft

module _ (o : Subsorts) (pairs : List (Term × Term)) (next : ℕ) (σ s : List (Variable × Term)) (answer : IsAnswer o pairs next s) (factor : Factor o pairs next σ s)
    (vs : List Variable) (from q : Pattern)
    (low : (t : Term) (v : Variable) → IsTermOf from t → Contains (variables t) v → v.num < next)
    (fits : (t : Term) (v : Variable) → IsTermOf from t → Contains (variables t) v → IsAtOrBelow o (least_sort (image σ v)) v.sort)
    (small : (v : Variable) → Contains vs v → v.num < next)
    (alike : Alike (map_pattern (applied σ) from) q) where
  abbrev pub drafted : Pattern
  drafted = without_twice (map_pattern (instance_of s) from)

  abbrev pub terms : List Term
  terms = pattern_terms drafted ++ map (λ v. instance_of s (Var v)) vs

  -- the substitution that makes the pattern of the found one
  pub leads : List (Variable × Term)
  leads = onward s factor.then terms

  -- what it makes of the terms
  on_term : (t : Term) → ((v : Variable) → Contains (variables t) v → v.num < next) → Contains terms (instance_of s t) →
      Same (applied leads (instance_of (numbering terms) (instance_of s t))) (applied σ t)
  unfolding leads
  on_term t small c =
      through (applied leads (instance_of (numbering terms) (instance_of s t))) (applied factor.then (applied s t)) (applied σ t)
      (back_twice s factor.then terms t c)
      (follows o pairs next σ s answer factor t small)

  listed : (t : Term) → IsTermOf drafted t → Contains terms t
  listed t c = Contains-append_left (pattern_terms drafted) (map (λ v. instance_of s (Var v)) vs) t (in_terms drafted t c)

  -- the terms of the draft
  of_draft : (t : Term) → IsTermOf drafted t → (u : Term) × IsTermOf from u × (instance_of s u ≡ t)
  of_draft t c =
      let was = term_mapped (instance_of s) from (with_twice (map_pattern (instance_of s) from) t c) in
      (was.term, was.there, was.is)

  value_listed : (v : Variable) → Contains vs v → Contains terms (instance_of s (Var v))
  value_listed v c = Contains-append_right (pattern_terms drafted) (map (λ w. instance_of s (Var w)) vs) (instance_of s (Var v))
      (mapped_member (λ w. instance_of s (Var w)) vs v c)

  -- ## The found pattern

  abbrev pub found : Pattern
  found = map_pattern (instance_of (numbering terms)) drafted

  found_lies : Lies (map_pattern (applied leads) found) q (places 0 (length q.strands))
  found_lies = made_lies (applied leads) (instance_of (numbering terms)) (instance_of s) σ from q
      (λ t c d. on_term t (λ v e. low t v c e) (listed (instance_of s t) d)) alike

  found_sorts : (v : Variable) → Occurs v found → IsAtOrBelow o (least_sort (image leads v)) v.sort
  unfolding leads
  found_sorts v occurs =
      let was = term_mapped (instance_of (numbering terms)) drafted occurs.there in
      let back = old_of s factor.then terms was.term v (listed was.term was.there) (subst (λ (t : Term). Contains (variables t) v) (sym was.is) occurs.within) in
      let draft = of_draft was.term was.there in
      let u = draft.0 in
      let inner = from_variable s back.old u (canonical_variables (applied s u) back.old (subst (λ (t : Term). Contains (variables t) back.old) (sym draft.2) back.within)) in
      let fine = then_sort o pairs next σ s answer factor inner.0 back.old (low u inner.0 draft.1 inner.1) (fits u inner.0 draft.1 inner.1) inner.2 in
      subst (λ (n : ℕ). IsAtOrBelow o n v.sort) (sym (same_sort (image (onward s factor.then terms) v) (image factor.then back.old) back.stands))
      (subst (λ (n : ℕ). IsAtOrBelow o (least_sort (image factor.then back.old)) n) back.same_sort fine)

  pub found_covers : IsCover o found q leads (places 0 (length q.strands))
  found_covers = record { sorts = found_sorts; lies = found_lies }

  value_of_found : (v : Variable) → Contains vs v → image (zip vs (map (instance_of (numbering terms)) (map (λ w. instance_of s (Var w)) vs))) v ≡ instance_of (numbering terms) (instance_of s (Var v))
  value_of_found v c =
      ap (λ (us : List Term). image (zip vs us) v) (map_map (λ w. instance_of s (Var w)) (instance_of (numbering terms)) vs)
      ∙ image_zip (λ w. instance_of (numbering terms) (instance_of s (Var w))) vs v c

  pub found_agrees : (v : Variable) → Contains vs v → Same (applied leads (image (zip vs (map (instance_of (numbering terms)) (map (λ w. instance_of s (Var w)) vs))) v)) (image σ v)
  found_agrees v c = subst (λ (t : Term). Same (applied leads t) (image σ v)) (sym (value_of_found v c))
      (on_term (Var v) (λ w d. subst (λ (x : Variable). x.num < next) (only_member v w d) (small v c)) (value_listed v c))

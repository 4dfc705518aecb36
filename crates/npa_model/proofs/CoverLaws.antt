-- Covers is a preorder, what covers an initial pattern is initial, and who meets a pattern meets each one
-- that covers it.
use Rattle.std.proofs.Common.{◌≡◌, ℕ, zero, suc, ◌+◌, ⊎_elim, inl, inr, true, List, [], ◌∷◌, ◌++◌, Some, map, length, slice_get, get_or, Contains, refl, ap, sym, ◌∙◌, subst, arith}
use Rattle.std.specs.List.{flat_map}
use Rattle.std.proofs.lemmas.List.{length-map}
use Rattle.std.proofs.lemmas.Option.{same_Some, none-some, get_or_from_slice_get}
use Rattle.npa_sorts.specs.Subsorts.{Subsorts, IsAtOrBelow}
use Rattle.npa_sorts.proofs.Steps.{at_or_below_trans}
use Rattle.npa_term.specs.declared.term.Op.{Op}
use Rattle.npa_term.specs.declared.term.Term.{Term, Var, Name, App}
use Rattle.npa_term.specs.declared.term.Var.{Var as Variable}
use Rattle.npa_term.specs.Bound.{applied}
use Rattle.npa_term.specs.Composition.{composed}
use Rattle.npa_term.specs.Parts.{image, least_sort}
use Rattle.npa_term.specs.Same.{Same, itself, through, below, SameAll, nothing, first}
use Rattle.npa_term.specs.Variables.{variables}
use Rattle.npa_term.proofs.AppliedLaws.{applied-empty}
use Rattle.npa_term.proofs.CompositionLaws.{value_of-composed}
use Rattle.npa_term.proofs.Induction.{Each, by_terms}
use Rattle.npa_term.proofs.Parts.{same_sort}
use Rattle.npa_term.proofs.Rows.{applied_app}
use Rattle.npa_term.proofs.SameCases.{same_all_trans}
use Rattle.npa_term.proofs.SameLaws.{same_sym, same_applied, same_all_applied}
use Rattle.npa_rewrite.proofs.Instances.{in_app, same_variables, image_variables, sort_instance}
use Rattle.npa_rewrite.proofs.InstanceParts.{here, behind, member_cases}
use Rattle.std.proofs.lemmas.List.Elements.{Contains-append_left, Contains-append_right}
use Rattle.npa_model.specs.declared.pattern.PStrand.{PStrand}
use Rattle.npa_model.specs.declared.pattern.Pattern.{Pattern}
use Rattle.npa_model.specs.Patterns.{map_strand, map_pattern, IsTermOf, of_args, of_msgs, of_known, of_unknown, Occurs, IsInitial}
use Rattle.npa_model.specs.Covering.{HasSame, AreAlike, Lies, IsCover, Covers, DoesBoth}
use Rattle.npa_model.proofs.Places.{place_of, member_at, within_at, mapped_at, at_mapped, member_mapped, mapped_member}

-- ## Terms

-- one substitution does to a term what two do one after the other, where it does so to its variables
abbrev Agreeing : (u a w : List (Variable × Term)) → Term → Type 0
Agreeing u a w t = ((v : Variable) → Contains (variables t) v → Same (image w v) (applied a (image u v))) → Same (applied w t) (applied a (applied u t))

agreeing_all : (u a w : List (Variable × Term)) (ts : List Term) → Each (Agreeing u a w) ts → ((v : Variable) → Contains (flat_map variables ts) v → Same (image w v) (applied a (image u v))) → SameAll (map (applied w) ts) (map (applied a) (map (applied u) ts))
agreeing_all u a w [] each does = nothing
agreeing_all u a w (t ∷ ts) each does =
    first (applied w t) (applied a (applied u t)) (map (applied w) ts) (map (applied a) (map (applied u) ts))
    (each.0 (λ v c. does v (Contains-append_left (variables t) (flat_map variables ts) v c)))
    (agreeing_all u a w ts each.1 (λ v c. does v (Contains-append_right (variables t) (flat_map variables ts) v c)))

pub agree_term : (u a w : List (Variable × Term)) (t : Term) → Agreeing u a w t
agree_term u a w =
    by_terms (Agreeing u a w)
    (λ v does. does v (here v []))
    (λ n does. itself (Name n))
    (λ op ts each does.
    subst (λ (x : Term). Same x (applied a (applied u (App op ts)))) (sym (applied_app w op ts))
    (subst (λ (x : Term). Same (App op (map (applied w) ts)) x) (sym (ap (applied a) (applied_app u op ts) ∙ applied_app a op (map (applied u) ts)))
    (below op (map (applied w) ts) (map (applied a) (map (applied u) ts)) (agreeing_all u a w ts each (λ v c. does v (in_app op ts v c))))))

agree_list : (u a w : List (Variable × Term)) (ts : List Term) → ((t : Term) → Contains ts t → Same (applied w t) (applied a (applied u t))) → SameAll (map (applied w) ts) (map (applied a) (map (applied u) ts))
agree_list u a w [] each = nothing
agree_list u a w (t ∷ ts) each =
    first (applied w t) (applied a (applied u t)) (map (applied w) ts) (map (applied a) (map (applied u) ts)) (each t (here t ts)) (agree_list u a w ts (λ x c. each x (behind t x ts c)))

-- a member of a list has an equal one in a list that is equal place by place
same_member : {ts us : List Term} → SameAll ts us → (t : Term) → Contains ts t → HasSame us t
same_member nothing t c = absurd (omega (arith, c.1))
same_member (first x y ts us p q) t c = ⊎_elim
    (λ (e : x ≡ t). (y, here y us, subst (λ (z : Term). Same z y) e p))
    (λ (d : Contains ts t). let rest = same_member q t d in (rest.0, behind y rest.0 us rest.1, rest.2))
    (member_cases x t ts c)

-- the terms of a pattern that is sent through a function
pub record OfTerm (f : Term → Term) (g : Pattern) (t : Term) : Type 0 where
  pub term : Term
  pub there : IsTermOf g term
  pub is : f term ≡ t

pub of_mapped : (f : Term → Term) (g : Pattern) {t : Term} → IsTermOf (map_pattern f g) t → OfTerm f g t
of_mapped f g {t} (of_args k p e c) =
    let strand = mapped_at (map_strand f) g.strands k p e in
    let member = mapped_member f strand.0.args t (subst (λ (q : PStrand). Contains q.args t) (sym strand.2) c) in
    record { term = member.0; there = of_args k strand.0 strand.1 member.1; is = member.2 }
of_mapped f g {t} (of_msgs k p e c) =
    let strand = mapped_at (map_strand f) g.strands k p e in
    let member = mapped_member f strand.0.msgs t (subst (λ (q : PStrand). Contains q.msgs t) (sym strand.2) c) in
    record { term = member.0; there = of_msgs k strand.0 strand.1 member.1; is = member.2 }
of_mapped f g {t} (of_known c) = let member = mapped_member f g.known t c in record { term = member.0; there = of_known member.1; is = member.2 }
of_mapped f g {t} (of_unknown c) = let member = mapped_member f g.unknown t c in record { term = member.0; there = of_unknown member.1; is = member.2 }

-- ## Places

-- a list of places, led on by another
abbrev pub led : List ℕ → List ℕ → List ℕ
led at bt = map (λ n. get_or bt n 0) at

pub record Leads (at bt : List ℕ) (k m : ℕ) : Type 0 where
  pub n : ℕ
  pub first : slice_get at k ≡ Some n
  pub second : slice_get bt n ≡ Some m

pub is_led : {h g : Pattern} {at : List ℕ} → Lies h g at → (bt : List ℕ) → length bt ≡ length g.strands → (k m : ℕ) → slice_get (led at bt) k ≡ Some m → Leads at bt k m
is_led {h} {g} {at} l bt even k m e =
    let place = mapped_at (λ n. get_or bt n 0) at k m e in
    let n : ℕ = place.0 in
    let p = within_at h.strands at k n (sym l.as_many) place.1 in
    let q = l.strands k n p.0 place.1 p.1 in
    let there = within_at bt g.strands n q.0 even q.1 in
    record { n = n; first = place.1; second = there.1 ∙ ap Some (sym (get_or_from_slice_get bt n there.0 0 there.1) ∙ place.2) }

-- ## What lies in a pattern

alike_through : {p q r : PStrand} → AreAlike p q → AreAlike q r → AreAlike p r
alike_through a b = record { strand = b.strand ∙ a.strand; bar = b.bar ∙ a.bar; args = same_all_trans a.args b.args; msgs = same_all_trans a.msgs b.msgs }

same_through : {s t u : Term} → Same s t → Same t u → Same s u
same_through {s} {t} {u} p q = through s t u p q

pub lies_through : {h g f : Pattern} {at bt : List ℕ} → Lies h g at → Lies g f bt → Lies h f (led at bt)
lies_through {h} {g} {f} {at} {bt} a b = record {
  as_many = length-map at (λ n. get_or bt n 0) ∙ a.as_many;
  different = λ j k m c d.
      let x = is_led a bt b.as_many j m c in
      let y = is_led a bt b.as_many k m d in
      a.different j k x.n x.first (y.first ∙ ap Some (b.different y.n x.n m y.second x.second));
  strands = λ k m p c e.
      let x = is_led a bt b.as_many k m c in
      let q = a.strands k x.n p x.first e in
      let r = b.strands x.n m q.0 x.second q.1 in
      (r.0, r.1, alike_through q.2 r.2);
  known = λ t c. let x = a.known t c in let y = b.known x.0 x.1 in (y.0, y.1, same_through x.2 y.2);
  unknown = λ t c. let x = a.unknown t c in let y = b.unknown x.0 x.1 in (y.0, y.1, same_through x.2 y.2);
}

module _ (t s : Pattern) (u a w : List (Variable × Term)) (does : DoesBoth t u a w) where
  pub does_term : (f : Term) → IsTermOf t f → Same (applied w f) (applied a (applied u f))
  does_term f there = agree_term u a w f (λ v c. does v (record { term = f; there = there; within = c }))

  does_strand : (k : ℕ) (p q : PStrand) → slice_get t.strands k ≡ Some p → AreAlike (map_strand (applied u) p) q → AreAlike (map_strand (applied w) p) (map_strand (applied a) q)
  does_strand k p q e alike = record {
    strand = alike.strand;
    bar = alike.bar;
    args = same_all_trans (agree_list u a w p.args (λ f c. does_term f (of_args k p e c))) (same_all_applied a alike.args);
    msgs = same_all_trans (agree_list u a w p.msgs (λ f c. does_term f (of_msgs k p e c))) (same_all_applied a alike.msgs);
  }

  does_fact : (ts us : List Term) → ((f : Term) → Contains ts f → IsTermOf t f) → ((x : Term) → Contains (map (applied u) ts) x → HasSame us x) → (x : Term) → Contains (map (applied w) ts) x → HasSame (map (applied a) us) x
  does_fact ts us of lies x c =
      let member = mapped_member (applied w) ts x c in
      let f : Term = member.0 in
      let there = lies (applied u f) (member_mapped (applied u) ts f member.1) in
      (applied a there.0, member_mapped (applied a) us there.0 there.1, subst (λ (y : Term). Same y (applied a there.0)) member.2 (same_through (does_term f (of f member.1)) (same_applied a there.2)))

  -- what lies in a pattern lies there under a further substitution
  pub lies_under : {at : List ℕ} → Lies (map_pattern (applied u) t) s at → Lies (map_pattern (applied w) t) (map_pattern (applied a) s) at
  lies_under {at} l = record {
    as_many = l.as_many ∙ length-map t.strands (map_strand (applied u)) ∙ sym (length-map t.strands (map_strand (applied w)));
    different = l.different;
    strands = λ k n p c e.
        let strand = mapped_at (map_strand (applied w)) t.strands k p e in
        let q = l.strands k n (map_strand (applied u) strand.0) c (at_mapped (map_strand (applied u)) t.strands k strand.0 strand.1) in (
          map_strand (applied a) q.0,
          at_mapped (map_strand (applied a)) s.strands n q.0 q.1,
          subst (λ (x : PStrand). AreAlike x (map_strand (applied a) q.0)) strand.2 (does_strand k strand.0 q.0 strand.1 q.2),
        );
    known = does_fact t.known s.known (λ f c. of_known c) l.known;
    unknown = does_fact t.unknown s.unknown (λ f c. of_unknown c) l.unknown;
  }

-- ## Covers

module _ (t s : Pattern) (u : List (Variable × Term)) {at : List ℕ} (l : Lies (map_pattern (applied u) t) s at) where
  -- an equal term of the pattern that is covered
  pub record InCovered (f : Term) : Type 0 where
    pub term : Term
    pub there : IsTermOf s term
    pub same : Same (applied u f) term

  of_strand : (k : ℕ) (p : PStrand) → slice_get t.strands k ≡ Some p → (n : ℕ) × (q : PStrand) × (slice_get s.strands n ≡ Some q) × AreAlike (map_strand (applied u) p) q
  of_strand k p e =
      let there = at_mapped (map_strand (applied u)) t.strands k p e in
      let place = within_at at (map (map_strand (applied u)) t.strands) k (map_strand (applied u) p) l.as_many there in
      let q = l.strands k place.0 (map_strand (applied u) p) place.1 there in
      (place.0, q.0, q.1, q.2)

  pub cover_term : {f : Term} → IsTermOf t f → InCovered f
  cover_term {f} (of_args k p e c) =
      let q = of_strand k p e in
      let member = same_member q.3.args (applied u f) (member_mapped (applied u) p.args f c) in
      record { term = member.0; there = of_args q.0 q.1 q.2 member.1; same = member.2 }
  cover_term {f} (of_msgs k p e c) =
      let q = of_strand k p e in
      let member = same_member q.3.msgs (applied u f) (member_mapped (applied u) p.msgs f c) in
      record { term = member.0; there = of_msgs q.0 q.1 q.2 member.1; same = member.2 }
  cover_term {f} (of_known c) = let member = l.known (applied u f) (member_mapped (applied u) t.known f c) in record { term = member.0; there = of_known member.1; same = member.2 }
  cover_term {f} (of_unknown c) = let member = l.unknown (applied u f) (member_mapped (applied u) t.unknown f c) in record { term = member.0; there = of_unknown member.1; same = member.2 }

  -- the variables of a value of the substitution are variables of the pattern that is covered
  value_occurs : (v x : Variable) → Occurs v t → Contains (variables (image u v)) x → Occurs x s
  value_occurs v x occurs c =
      let found = cover_term occurs.there in
      record { term = found.term; there = found.there; within = same_variables found.same x (image_variables u v x occurs.term occurs.within c) }

-- a further substitution that respects sorts makes one that does
pub sorts_through : (o : Subsorts) (t s : Pattern) (u a w : List (Variable × Term)) (at : List ℕ) → IsCover o t s u at → DoesBoth t u a w → ((x : Variable) → Occurs x s → IsAtOrBelow o (least_sort (image a x)) x.sort) → (v : Variable) → Occurs v t → IsAtOrBelow o (least_sort (image w v)) v.sort
sorts_through o t s u a w at cover does fits v occurs =
    subst (λ (n : ℕ). IsAtOrBelow o n v.sort) (sym (same_sort (image w v) (applied a (image u v)) (does v occurs)))
    (at_or_below_trans (sort_instance o a (image u v) (λ x c. fits x (value_occurs t s u cover.lies v x occurs c))) (cover.sorts v occurs))

does_composed : (t : Pattern) (u a : List (Variable × Term)) → DoesBoth t u a (composed u a)
does_composed t u a v occurs = value_of-composed u a v

-- what covers a pattern covers what that one covers
pub covers_through : (o : Subsorts) (t s r : Pattern) → Covers o t s → Covers o s r → Covers o t r
covers_through o t s r (u, at, c) (a, bt, d) = (
  composed u a,
  led at bt,
  record {
    sorts = sorts_through o t s u a (composed u a) at c (does_composed t u a) d.sorts;
    lies = lies_through (lies_under t s u a (composed u a) (does_composed t u a) c.lies) d.lies;
  },
)

-- each place of a list, from a number on
abbrev places : ℕ → ℕ → List ℕ
places from zero = []
places from (suc n) = from ∷ places (from + 1) n

length_places : (from n : ℕ) → length (places from n) ≡ n
length_places from zero = refl
length_places from (suc n) = ap (λ m. suc m) (length_places (from + 1) n)

at_places : (from n k m : ℕ) → slice_get (places from n) k ≡ Some m → m ≡ from + k
at_places from zero k m e = absurd (none-some m e)
at_places from (suc n) zero m e = omega (arith, same_Some from m e)
at_places from (suc n) (suc k) m e = omega (arith, at_places (from + 1) n k m e)

empty_all : (ts : List Term) → SameAll (map (applied []) ts) ts
empty_all [] = nothing
empty_all (t ∷ ts) = first (applied [] t) t (map (applied []) ts) ts (subst (λ (x : Term). Same (applied [] t) x) (applied-empty t) (itself (applied [] t))) (empty_all ts)

empty_fact : (ts : List Term) (x : Term) → Contains (map (applied []) ts) x → HasSame ts x
empty_fact ts x c = same_member (empty_all ts) x c

-- a pattern covers itself
pub covers_itself : (o : Subsorts) (t : Pattern) → Covers o t t
covers_itself o t = (
  [],
  places 0 (length t.strands),
  record {
    sorts = λ v occurs. inl refl;
    lies = record {
      as_many = length_places 0 (length t.strands) ∙ sym (length-map t.strands (map_strand (applied [])));
      different = λ j k n c d. omega (arith, at_places 0 (length t.strands) j n c, at_places 0 (length t.strands) k n d);
      strands = λ k n p c e.
          let strand = mapped_at (map_strand (applied [])) t.strands k p e in
          let alike : AreAlike (map_strand (applied []) strand.0) strand.0 = record { strand = refl; bar = refl; args = empty_all strand.0.args; msgs = empty_all strand.0.msgs } in
          let place : n ≡ k = omega (arith, at_places 0 (length t.strands) k n c) in
          (strand.0, ap (slice_get t.strands) place ∙ strand.1, subst (λ (x : PStrand). AreAlike x strand.0) strand.2 alike);
      known = empty_fact t.known;
      unknown = empty_fact t.unknown;
    };
  },
)

no_terms : (ts : List Term) → ((t : Term) → Contains ts t → ⊥) → ts ≡ []
no_terms [] none = refl
no_terms (t ∷ ts) none = absurd (none t (here t ts))

-- what covers an initial pattern is initial
pub covers_initial : (o : Subsorts) (t s : Pattern) → Covers o t s → IsInitial s → IsInitial t
covers_initial o t s (u, at, c) initial = record {
  bars = λ k p e. let q = of_strand t s u c.lies k p e in sym q.3.bar ∙ initial.bars q.0 q.1 q.2;
  known = no_terms t.known (λ f d.
      let member = c.lies.known (applied u f) (member_mapped (applied u) t.known f d) in
      let none : Contains {X = Term} [] member.0 = subst (λ (ts : List Term). Contains ts member.0) initial.known member.1 in
      omega (arith, none.1));
}

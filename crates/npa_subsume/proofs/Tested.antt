-- The test of covers tells what it is to tell.
use Rattle.std.proofs.Common.{◌≡◌, ℕ, ◌+◌, ◌<◌, ◌↔◌, inl, inr, Bool, true, ◌&&◌, nat_eq, List, [], ◌∷◌, ◌++◌, Option, None, Some, length, map, slice_get, Contains, zip, refl, ap, sym, ◌∙◌, subst, arith}
use Rattle.std.specs.Prelude.{IsTrue, IfSome}
use Rattle.std.specs.Option.{is_some}
use Rattle.std.specs.List.{enumerate_from, flat_map, list_all}
use Rattle.std.proofs.lemmas.Bool.{and_parts, and_from, eqb-true, eq-eqb, true≢false}
use Rattle.std.proofs.lemmas.List.{length-map}
use Rattle.std.proofs.lemmas.List.Elements.{Contains-append_left, Contains-append_right, Contains-append_cases}
use Rattle.std.proofs.lemmas.Option.{same_Some, slice_get_within}
use Rattle.npa_sorts.specs.Subsorts.{Subsorts}
use Rattle.npa_term.specs.declared.term.Var.{Var as Variable}
use Rattle.npa_term.specs.declared.term.Term.{Term}
use Rattle.npa_term.specs.Bound.{applied}
use Rattle.npa_term.specs.Same.{Same}
use Rattle.npa_match.specs.Branches.{branches, first_of}
use Rattle.npa_match.specs.Matching.{Matches, IsMatcher}
use Rattle.npa_match.proofs.Answered.{first_answered, none_answered}
use Rattle.npa_choice.proofs.Matched.{in_pair, of_pair}
use Rattle.npa_choice.proofs.Places.{within_at}
use Rattle.npa_model.specs.declared.pattern.PStrand.{PStrand}
use Rattle.npa_model.specs.declared.pattern.Pattern.{Pattern}
use Rattle.npa_model.specs.Patterns.{map_strand, IsTermOf, of_args, of_msgs, of_known, of_unknown, IsInitial}
use Rattle.npa_model.specs.Covering.{HasSame, AreAlike, IsCover, Covers}
use Rattle.npa_model.proofs.Places.{place_of, member_at, mapped_at, at_mapped, member_mapped, mapped_member}
use Rattle.npa_subsume.specs.Offering.{AreKindred, strand_pairs}
use Rattle.npa_subsume.specs.Testing.{rows_of, are_different, is_kindred, sent_terms, sent_pairs, sends, sends_known, sends_strands, covers_test, is_unmoved, is_empty, initial_test}
use Rattle.npa_subsume.proofs.Covered.{collect}
use Rattle.npa_subsume.proofs.Ways.{any_to, any_from, all_to, all_from, flat_to, flat_from, some_with, some_since, same_truth, row_length, row_member, is_row, placed_to, placed_from, different_to, different_from, zip_at, at_zip}
use Rattle.npa_subsume.proofs.Zipped.{left_of_zip, beside, same_of_zip, zip_of_same, same_length}

kindred_to : (p : PStrand) (m : ℕ × PStrand) → is_kindred (p, m) ≡ true → AreKindred p m.1
kindred_to p m e =
    let q : PStrand = m.1 in
    let one = and_parts (nat_eq p.strand q.strand) (nat_eq p.bar q.bar && (nat_eq (length p.args) (length q.args) && nat_eq (length p.msgs) (length q.msgs))) e in
    let two = and_parts (nat_eq p.bar q.bar) (nat_eq (length p.args) (length q.args) && nat_eq (length p.msgs) (length q.msgs)) one.1 in
    let three = and_parts (nat_eq (length p.args) (length q.args)) (nat_eq (length p.msgs) (length q.msgs)) two.1 in
    record {
      strand = eqb-true p.strand q.strand one.0;
      bar = eqb-true p.bar q.bar two.0;
      args = eqb-true (length p.args) (length q.args) three.0;
      msgs = eqb-true (length p.msgs) (length q.msgs) three.1;
    }

kindred_from : (p : PStrand) (m : ℕ × PStrand) → AreKindred p m.1 → is_kindred (p, m) ≡ true
kindred_from p m k =
    let q : PStrand = m.1 in
    and_from (nat_eq p.strand q.strand) (nat_eq p.bar q.bar && (nat_eq (length p.args) (length q.args) && nat_eq (length p.msgs) (length q.msgs))) (eq-eqb p.strand q.strand k.strand)
    (and_from (nat_eq p.bar q.bar) (nat_eq (length p.args) (length q.args) && nat_eq (length p.msgs) (length q.msgs)) (eq-eqb p.bar q.bar k.bar)
    (and_from (nat_eq (length p.args) (length q.args)) (nat_eq (length p.msgs) (length q.msgs)) (eq-eqb (length p.args) (length q.args) k.args) (eq-eqb (length p.msgs) (length q.msgs) k.msgs)))

module _ (o : Subsorts) (t s : Pattern) where
  module _ (ms : List (ℕ × PStrand)) (ks us : List Term) where
    abbrev places : List ℕ
    places = map (λ m. m.0) ms

    abbrev pairs : List (Term × Term)
    pairs = sent_pairs t ms ks us

    abbrev strands_side : List (Term × Term)
    strands_side = flat_map sent_terms (zip t.strands ms)

    of_strands : (p : Term × Term) → Contains strands_side p → Contains pairs p
    of_strands p c = Contains-append_left strands_side (zip t.known ks ++ zip t.unknown us) p c

    of_facts : (p : Term × Term) → Contains (zip t.known ks) p → Contains pairs p
    of_facts p c = Contains-append_right strands_side (zip t.known ks ++ zip t.unknown us) p (Contains-append_left (zip t.known ks) (zip t.unknown us) p c)

    of_others : (p : Term × Term) → Contains (zip t.unknown us) p → Contains pairs p
    of_others p c = Contains-append_right strands_side (zip t.known ks ++ zip t.unknown us) p (Contains-append_right (zip t.known ks) (zip t.unknown us) p c)

    -- ## From a way to a cover
    module _ (even : length ms ≡ length t.strands) (even_known : length ks ≡ length t.known) (even_unknown : length us ≡ length t.unknown)
        (there : (m : ℕ × PStrand) → Contains ms m → slice_get s.strands m.0 ≡ Some m.1)
        (among_known : (f : Term) → Contains ks f → Contains s.known f) (among_unknown : (f : Term) → Contains us f → Contains s.unknown f)
        (different : are_different places ≡ true) (kindred : list_all is_kindred (zip t.strands ms) ≡ true)
        (u : List (Variable × Term)) (matches : Matches o pairs u) where
      record SentTo (k : ℕ) (p : PStrand) : Type 0 where
        pub to : ℕ × PStrand
        pub at : slice_get ms k ≡ Some to
        pub kin : AreKindred p (to.1)
        pub given : (x : Term × Term) → Contains (strand_pairs p (to.1)) x → Contains pairs x

      sent_to : (k : ℕ) (p : PStrand) → slice_get t.strands k ≡ Some p → SentTo k p
      sent_to k p e =
          let l = slice_get_within t.strands k p e in
          let m = within_at ms k (omega (arith, l, even)) in
          let c = zip_at t.strands ms k p m.0 e m.1 in
          record {
            to = m.0;
            at = m.1;
            kin = kindred_to p m.0 (all_to is_kindred (zip t.strands ms) kindred (p, m.0) c);
            given = λ x d. of_strands x (flat_from sent_terms (zip t.strands ms) (p, m.0) x c d);
          }

      paired : (f : Term) → IsTermOf t f → (g : Term) × Contains pairs (f, g)
      paired f (of_args k p e c) =
          let x = sent_to k p e in
          let q : PStrand = x.to.1 in
          let y = beside p.args q.args f x.kin.args c in
          (y.0, x.given (f, y.0) (Contains-append_left (zip p.args q.args) (zip p.msgs q.msgs) (f, y.0) y.1))
      paired f (of_msgs k p e c) =
          let x = sent_to k p e in
          let q : PStrand = x.to.1 in
          let y = beside p.msgs q.msgs f x.kin.msgs c in
          (y.0, x.given (f, y.0) (Contains-append_right (zip p.args q.args) (zip p.msgs q.msgs) (f, y.0) y.1))
      paired f (of_known c) = let y = beside t.known ks f (sym even_known) c in (y.0, of_facts (f, y.0) y.1)
      paired f (of_unknown c) = let y = beside t.unknown us f (sym even_unknown) c in (y.0, of_others (f, y.0) y.1)

      fact_lies : (ts gs among : List Term) → length gs ≡ length ts → ((g : Term) → Contains gs g → Contains among g) → ((x : Term × Term) → Contains (zip ts gs) x → Contains pairs x) →
          (f : Term) → Contains (map (applied u) ts) f → HasSame among f
      fact_lies ts gs among level in_ given f c =
          let m = mapped_member (applied u) ts f c in
          let y = beside ts gs m.0 (sym level) m.1 in
          let at = at_zip ts gs (m.0, y.0) y.1 in
          (y.0, in_ y.0 (member_at gs at.0 y.0 at.2), subst (λ (w : Term). Same w y.0) m.2 (matches.equal m.0 y.0 (given (m.0, y.0) y.1)))

      alike : (k n : ℕ) (p : PStrand) → slice_get places k ≡ Some n → slice_get (map (map_strand (applied u)) t.strands) k ≡ Some p → (q : PStrand) × (slice_get s.strands n ≡ Some q) × AreAlike p q
      alike k n p e d =
          let m = mapped_at (map_strand (applied u)) t.strands k p d in
          let x = sent_to k m.0 m.1 in
          let q : PStrand = x.to.1 in
          let place = mapped_at (λ (y : ℕ × PStrand). y.0) ms k n e in
          let same : x.to ≡ place.0 = same_Some x.to place.0 (sym x.at ∙ place.1) in
          let number : x.to.0 ≡ n = ap (λ (y : ℕ × PStrand). y.0) same ∙ place.2 in
          let args = zip m.0.args q.args in
          let msgs = zip m.0.msgs q.msgs in
          let alike_ : AreAlike (map_strand (applied u) m.0) q = record {
            strand = sym x.kin.strand;
            bar = sym x.kin.bar;
            args = same_of_zip (applied u) m.0.args q.args x.kin.args (λ a b c. matches.equal a b (x.given (a, b) (Contains-append_left args msgs (a, b) c)));
            msgs = same_of_zip (applied u) m.0.msgs q.msgs x.kin.msgs (λ a b c. matches.equal a b (x.given (a, b) (Contains-append_right args msgs (a, b) c)));
          } in
          (q, ap (slice_get s.strands) (sym number) ∙ there x.to (member_at ms k x.to x.at), subst (λ (r : PStrand). AreAlike r q) m.2 alike_)

      way_covers : IsCover o t s u places
      way_covers = record {
        sorts = λ v occurs. let y = paired occurs.term occurs.there in matches.sorts v (of_pair pairs (occurs.term, y.0) v y.1 occurs.within);
        lies = record {
          as_many = length-map ms (λ (m : ℕ × PStrand). m.0) ∙ even ∙ sym (length-map t.strands (map_strand (applied u)));
          different = different_to places different;
          strands = alike;
          known = fact_lies t.known ks s.known even_known among_known of_facts;
          unknown = fact_lies t.unknown us s.unknown even_unknown among_unknown of_others;
        };
      }

  module _ (test : covers_test o t s ≡ true) where
    some_way : (ms : List (ℕ × PStrand)) × Contains (rows_of (length t.strands) (enumerate_from 0 s.strands)) ms × (sends_strands o t s ms ≡ true)
    unfolding covers_test
    some_way = any_to (sends_strands o t s) (rows_of (length t.strands) (enumerate_from 0 s.strands)) test

    test_covers : Covers o t s
    test_covers =
        let x = some_way in
        let ms : List (ℕ × PStrand) = x.0 in
        let y = any_to (sends_known o t s ms) (rows_of (length t.known) s.known) x.2 in
        let ks : List Term = y.0 in
        let z = any_to (sends o t ms ks) (rows_of (length t.unknown) s.unknown) y.2 in
        let us : List Term = z.0 in
        let way = and_parts (are_different (places ms ks us)) (list_all is_kindred (zip t.strands ms) && is_some (first_of (branches o (pairs ms ks us)))) z.2 in
        let kin = and_parts (list_all is_kindred (zip t.strands ms)) (is_some (first_of (branches o (pairs ms ks us)))) way.1 in
        let found = some_with (IsMatcher o (pairs ms ks us)) (first_of (branches o (pairs ms ks us))) kin.1 (first_answered o (pairs ms ks us)) in
        let u : List (Variable × Term) = found.0 in
        let all : List (ℕ × PStrand) = enumerate_from 0 s.strands in (
          u,
          places ms ks us,
          way_covers ms ks us
              (row_length (length t.strands) all ms x.1) (row_length (length t.known) s.known ks y.1) (row_length (length t.unknown) s.unknown us z.1)
              (λ m c.
              let p = placed_to 0 s.strands m (row_member (length t.strands) all ms x.1 m c) in
              ap (slice_get s.strands) (let e : m.0 ≡ p.0 = omega (arith, p.1) in e) ∙ p.2)
              (row_member (length t.known) s.known ks y.1) (row_member (length t.unknown) s.unknown us z.1)
              way.0 kin.0 u found.1.matches,
        )

  -- ## From a cover to a way
  module _ (u : List (Variable × Term)) (at : List ℕ) (cover : IsCover o t s u at) where
    record Goes (k : ℕ) (m : ℕ × PStrand) : Type 0 where
      pub place : slice_get at k ≡ Some m.0
      pub there : slice_get s.strands m.0 ≡ Some m.1
      pub alike : (p : PStrand) → slice_get t.strands k ≡ Some p → AreAlike (map_strand (applied u) p) m.1

    goes : (k : ℕ) → k < length t.strands → (m : ℕ × PStrand) × Goes k m
    goes k l =
        let p = within_at t.strands k l in
        let n = within_at at k (omega (arith, l, cover.lies.as_many, length-map t.strands (map_strand (applied u)))) in
        let q = cover.lies.strands k n.0 (map_strand (applied u) p.0) n.1 (at_mapped (map_strand (applied u)) t.strands k p.0 p.1) in
        let r : PStrand = q.0 in
        let m : ℕ × PStrand = (n.0, r) in (
          m,
          record {
            place = n.1;
            there = q.1;
            alike = λ x e. subst (λ (y : PStrand). AreAlike (map_strand (applied u) y) r) (same_Some p.0 x (sym p.1 ∙ e)) q.2;
          },
        )

    record Serves (ts among : List Term) (k : ℕ) (g : Term) : Type 0 where
      pub within : Contains among g
      pub same : (f : Term) → slice_get ts k ≡ Some f → Same (applied u f) g

    serves : (ts among : List Term) → ((f : Term) → Contains (map (applied u) ts) f → HasSame among f) → (k : ℕ) → k < length ts → (g : Term) × Serves ts among k g
    serves ts among lies k l =
        let f = within_at ts k l in
        let x = lies (applied u f.0) (member_mapped (applied u) ts f.0 (member_at ts k f.0 f.1)) in
        let g : Term = x.0 in
        (g, record { within = x.1; same = λ y e. subst (λ (z : Term). Same (applied u z) g) (same_Some f.0 y (sym f.1 ∙ e)) x.2 })

    module _ (ms : List (ℕ × PStrand)) (even : length ms ≡ length t.strands) (each : (k : ℕ) (m : ℕ × PStrand) → slice_get ms k ≡ Some m → Goes k m)
        (ks : List Term) (even_known : length ks ≡ length t.known) (each_known : (k : ℕ) (g : Term) → slice_get ks k ≡ Some g → Serves t.known s.known k g)
        (us : List Term) (even_unknown : length us ≡ length t.unknown) (each_unknown : (k : ℕ) (g : Term) → slice_get us k ≡ Some g → Serves t.unknown s.unknown k g) where
      strand_pair : (x : Term × Term) → Contains (strands_side ms ks us) x → IsTermOf t x.0 × Same (applied u x.0) x.1
      strand_pair x c =
          let y = flat_to sent_terms (zip t.strands ms) x c in
          let k = at_zip t.strands ms y.0 y.1 in
          let p : PStrand = y.0.0 in
          let q : PStrand = y.0.1.1 in
          let alike = (each k.0 y.0.1 k.2).alike p k.1 in
          elim (Contains-append_cases (zip p.args q.args) (zip p.msgs q.msgs) x y.2) [
            | inl one ↦ (of_args k.0 p k.1 (left_of_zip p.args q.args x one), zip_of_same (applied u) p.args q.args alike.args x one)
            | inr two ↦ (of_msgs k.0 p k.1 (left_of_zip p.msgs q.msgs x two), zip_of_same (applied u) p.msgs q.msgs alike.msgs x two)
          ]

      pair_ : (x : Term × Term) → Contains (pairs ms ks us) x → IsTermOf t x.0 × Same (applied u x.0) x.1
      pair_ x c = elim (Contains-append_cases (strands_side ms ks us) (zip t.known ks ++ zip t.unknown us) x c) [
        | inl one ↦ strand_pair x one
        | inr more ↦ elim (Contains-append_cases (zip t.known ks) (zip t.unknown us) x more) [
          | inl two ↦ let k = at_zip t.known ks x two in (of_known (member_at t.known k.0 x.0 k.1), (each_known k.0 x.1 k.2).same x.0 k.1)
          | inr three ↦ let k = at_zip t.unknown us x three in (of_unknown (member_at t.unknown k.0 x.0 k.1), (each_unknown k.0 x.1 k.2).same x.0 k.1)
        ]
      ]

      way_matches : Matches o (pairs ms ks us) u
      way_matches = record {
        sorts = λ v c. let x = in_pair (pairs ms ks us) v c in cover.sorts v (record { term = x.0.0; there = (pair_ x.0 x.1).0; within = x.2 });
        equal = λ f g c. (pair_ (f, g) c).1;
      }

      is_kin : (x : PStrand × (ℕ × PStrand)) → Contains (zip t.strands ms) x → is_kindred x ≡ true
      is_kin x c =
          let k = at_zip t.strands ms x c in
          let p : PStrand = x.0 in
          let q : PStrand = x.1.1 in
          let alike = (each k.0 x.1 k.2).alike p k.1 in
          kindred_from p x.1 (record { strand = sym alike.strand; bar = sym alike.bar; args = same_length (applied u) p.args q.args alike.args; msgs = same_length (applied u) p.msgs q.msgs alike.msgs })

      apart : (j k n : ℕ) → slice_get (places ms ks us) j ≡ Some n → slice_get (places ms ks us) k ≡ Some n → j ≡ k
      apart j k n c d =
          let x = mapped_at (λ (y : ℕ × PStrand). y.0) ms j n c in
          let y = mapped_at (λ (y : ℕ × PStrand). y.0) ms k n d in
          cover.lies.different j k n ((each j x.0 x.1).place ∙ ap Some x.2) ((each k y.0 y.1).place ∙ ap Some y.2)

      sends_way : sends o t ms ks us ≡ true
      sends_way =
          and_from (are_different (places ms ks us)) (list_all is_kindred (zip t.strands ms) && is_some (first_of (branches o (pairs ms ks us)))) (different_from (places ms ks us) apart)
          (and_from (list_all is_kindred (zip t.strands ms)) (is_some (first_of (branches o (pairs ms ks us)))) (all_from is_kindred (zip t.strands ms) is_kin)
          (some_since (first_of (branches o (pairs ms ks us))) (λ none. none_answered o (pairs ms ks us) none u way_matches)))

      placed_member : (m : ℕ × PStrand) → Contains ms m → Contains (enumerate_from 0 s.strands) m
      placed_member m c =
          let k = place_of ms m c in
          subst (λ (n : ℕ). Contains (enumerate_from 0 s.strands) (n, m.1)) (let e : 0 + m.0 ≡ m.0 = omega arith in e) (placed_from 0 s.strands m.0 m.1 (each k.0 m k.1).there)

      known_member : (g : Term) → Contains ks g → Contains s.known g
      known_member g c = let k = place_of ks g c in (each_known k.0 g k.1).within

      unknown_member : (g : Term) → Contains us g → Contains s.unknown g
      unknown_member g c = let k = place_of us g c in (each_unknown k.0 g k.1).within

      way_test : covers_test o t s ≡ true
      unfolding covers_test
      way_test =
          any_from (sends_strands o t s) (rows_of (length t.strands) (enumerate_from 0 s.strands)) ms (is_row (length t.strands) (enumerate_from 0 s.strands) ms even placed_member)
          (any_from (sends_known o t s ms) (rows_of (length t.known) s.known) ks (is_row (length t.known) s.known ks even_known known_member)
          (any_from (sends o t ms ks) (rows_of (length t.unknown) s.unknown) us (is_row (length t.unknown) s.unknown us even_unknown unknown_member) sends_way))

    cover_test : covers_test o t s ≡ true
    cover_test =
        let ms = collect Goes (length t.strands) goes in
        let ks = collect (Serves t.known s.known) (length t.known) (serves t.known s.known cover.lies.known) in
        let us = collect (Serves t.unknown s.unknown) (length t.unknown) (serves t.unknown s.unknown cover.lies.unknown) in
        way_test ms.0 ms.1 ms.2 ks.0 ks.1 ks.2 us.0 us.1 us.2

pub covers_exact : (o : Subsorts) (t s : Pattern) → IsTrue (covers_test o t s) ↔ Covers o t s
covers_exact o t s = (λ e. test_covers o t s e, λ c. cover_test o t s c.0 c.1 c.2)

-- ## Initial patterns

known_to : (ts : List Term) → is_empty ts ≡ true → ts ≡ []
known_to [] e = refl
known_to (t ∷ ts) e = absurd (true≢false (sym e))

initial_to : (g : Pattern) → initial_test g ≡ true → IsInitial g
unfolding initial_test
initial_to g e =
    let both = and_parts (is_empty g.known) (list_all is_unmoved g.strands) e in
    record {
      bars = λ k p d. eqb-true p.bar 0 (all_to is_unmoved g.strands both.1 p (member_at g.strands k p d));
      known = known_to g.known both.0;
    }

initial_from : (g : Pattern) → IsInitial g → initial_test g ≡ true
unfolding initial_test
initial_from g initial =
    and_from (is_empty g.known) (list_all is_unmoved g.strands) (ap is_empty initial.known)
    (all_from is_unmoved g.strands (λ p c. let k = place_of g.strands p c in eq-eqb p.bar 0 (initial.bars k.0 p k.1)))

pub initial_exact : (g : Pattern) → IsTrue (initial_test g) ↔ IsInitial g
initial_exact g = (initial_to g, initial_from g)

-- what a search for a cover finds is what the test says
pub found_tells : {X : Type 0} (o : Subsorts) (t s : Pattern) (P : X → Type 0) → ((x : X) → P x → Covers o t s) → (found : Option X) (b : Bool) → b ≡ is_some found →
    IfSome found P → (found ≡ None → Covers o t s → ⊥) → b ≡ covers_test o t s
found_tells o t s P into found b is some none =
    same_truth b (covers_test o t s)
    (λ e. let x = some_with P found (sym is ∙ e) some in (covers_exact o t s).1 (into x.0 x.1))
    (λ e. is ∙ some_since found (λ d. none d ((covers_exact o t s).0 e)))

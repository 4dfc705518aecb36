-- A choice among what is offered to the strands and facts of a pattern is a cover, and a cover is such a
-- choice.
use Rattle.std.proofs.Common.{◌≡◌, ℕ, zero, suc, ◌+◌, ◌<◌, inl, inr, List, [], ◌∷◌, Option, None, Some, length, map, slice_get, Contains, zip, refl, ap, sym, ◌∙◌, subst, arith}
use Rattle.std.proofs.lemmas.List.{length-map}
use Rattle.std.proofs.lemmas.List.Elements.{Contains-append_left, Contains-append_right, Contains-append_cases}
use Rattle.std.proofs.lemmas.Option.{same_Some, none-some, slice_get_within}
use Rattle.npa_sorts.specs.Subsorts.{Subsorts, IsAtOrBelow}
use Rattle.npa_term.specs.declared.term.Var.{Var as Variable}
use Rattle.npa_term.specs.declared.term.Term.{Term}
use Rattle.npa_term.specs.Bound.{applied}
use Rattle.npa_term.specs.Parts.{image, least_sort}
use Rattle.npa_term.specs.Same.{Same}
use Rattle.npa_term.specs.Variables.{variables}
use Rattle.npa_term.proofs.Numbered.{member_first}
use Rattle.npa_match.specs.Matching.{Matches, read_pairs}
use Rattle.npa_choice.specs.declared.offer.Offer.{Offer}
use Rattle.npa_choice.specs.Choices.{IsChosen, IsChoice, HasChoice}
use Rattle.npa_choice.proofs.Matched.{in_pair, of_pair}
use Rattle.npa_choice.proofs.Places.{contains_one, within_at}
use Rattle.npa_model.specs.declared.pattern.PStrand.{PStrand}
use Rattle.npa_model.specs.declared.pattern.Pattern.{Pattern}
use Rattle.npa_model.specs.Patterns.{map_strand, IsTermOf, of_args, of_msgs, of_known, of_unknown}
use Rattle.npa_model.specs.Covering.{HasSame, AreAlike, IsCover, Covers}
use Rattle.npa_model.proofs.Places.{place_of, member_at, mapped_at, at_mapped, member_mapped, mapped_member}
use Rattle.npa_subsume.specs.Offering.{AreKindred, strand_pairs, OfStrand, OfFact, AreOffers, ForStrand, ForFact, AreAskers, ArePlaces}
use Rattle.npa_subsume.proofs.Adding.{old_kept, new_at, new_cases}
use Rattle.npa_subsume.proofs.Zipped.{left_of_zip, beside, same_of_zip, zip_of_same, same_length}

-- from a thing that is there for each number below n, a list of them
pub collect : {X : Type 0} (P : ℕ → X → Type 0) (n : ℕ) → ((k : ℕ) → k < n → (m : X) × P k m) → (at : List X) × (length at ≡ n) × ((k : ℕ) (m : X) → slice_get at k ≡ Some m → P k m)
collect P zero each = ([], refl, λ k m e. absurd (none-some m e))
collect {X} P (suc n) each =
    let one = each 0 (omega arith) in
    let rest = collect (λ (k : ℕ) (m : X). P (suc k) m) n (λ k l. each (suc k) (omega (arith, l))) in
    (one.0 ∷ rest.0, ap (λ m. suc m) rest.1, members one.0 one.1 rest.0 rest.2)
  where
    members : (x : X) → P 0 x → (xs : List X) → ((k : ℕ) (m : X) → slice_get xs k ≡ Some m → P (suc k) m) → (k : ℕ) (m : X) → slice_get (x ∷ xs) k ≡ Some m → P k m
    members x p xs more zero m e = subst (λ y. P 0 y) (same_Some x m e) p
    members x p xs more (suc k) m e = more k m e

module _ (o : Subsorts) (t s : Pattern) (askers : List (List Offer)) (are : AreAskers o t s askers) where
  -- ## Who asks
  strand_asker : (k : ℕ) (p : PStrand) → slice_get t.strands k ≡ Some p → (fs : List Offer) × (slice_get askers k ≡ Some fs) × ForStrand o s.strands p fs
  strand_asker k p e =
      let x = new_at (ForStrand o s.strands) t.strands [] are.first are.strands k p e in
      (x.0, old_kept (ForFact o s.unknown) t.unknown are.second askers are.unknown k x.0 (old_kept (ForFact o s.known) t.known are.first are.second are.known k x.0 (subst (λ i. slice_get are.first i ≡ Some x.0) (let d : 0 + k ≡ k = omega arith in d) x.1)), x.2)

  known_asker : (k : ℕ) (f : Term) → slice_get t.known k ≡ Some f → (fs : List Offer) × (slice_get askers (length are.first + k) ≡ Some fs) × ForFact o s.known f fs
  known_asker k f e =
      let x = new_at (ForFact o s.known) t.known are.first are.second are.known k f e in
      (x.0, old_kept (ForFact o s.unknown) t.unknown are.second askers are.unknown (length are.first + k) x.0 x.1, x.2)

  unknown_asker : (k : ℕ) (f : Term) → slice_get t.unknown k ≡ Some f → (fs : List Offer) × (slice_get askers (length are.second + k) ≡ Some fs) × ForFact o s.unknown f fs
  unknown_asker k f e = new_at (ForFact o s.unknown) t.unknown are.second askers are.unknown k f e

  -- ## From a choice
  module _ (numbers : List ℕ) (u : List (Variable × Term)) (choice : IsChoice o askers numbers u) where
    -- what is chosen for one of the askers
    record Chosen (P : Option ℕ → List (Term × Term) → Type 0) (k : ℕ) : Type 0 where
      pub offer : Offer
      pub chosen : IsChosen askers numbers k offer
      pub fits : P offer.place (read_pairs offer.pairs)

    chosen_for : (P : Option ℕ → List (Term × Term) → Type 0) (k : ℕ) (fs : List Offer) → slice_get askers k ≡ Some fs → AreOffers o P fs → Chosen P k
    chosen_for P k fs e offers =
        let x = choice.each k (slice_get_within askers k fs e) in
        let same : x.1.offers ≡ fs = same_Some x.1.offers fs (sym x.1.asker ∙ e) in
        record { offer = x.0; chosen = x.1; fits = offers.sound x.0 (member_at fs x.1.number x.0 (ap (λ gs. slice_get gs x.1.number) (sym same) ∙ x.1.offer)) }

    record SentStrand (k : ℕ) (p : PStrand) : Type 0 where
      pub offer : Offer
      pub chosen : IsChosen askers numbers k offer
      pub at : ℕ
      pub strand : PStrand
      pub there : slice_get s.strands at ≡ Some strand
      pub kindred : AreKindred p strand
      pub place : offer.place ≡ Some at
      pub matches : Matches o (strand_pairs p strand) u

    sent_strand : (k : ℕ) (p : PStrand) → slice_get t.strands k ≡ Some p → SentStrand k p
    sent_strand k p e =
        let x = strand_asker k p e in
        let y = chosen_for (OfStrand p s.strands (length s.strands)) k x.0 x.1 x.2 in
        record {
          offer = y.offer;
          chosen = y.chosen;
          at = y.fits.at;
          strand = y.fits.strand;
          there = y.fits.there;
          kindred = y.fits.kindred;
          place = y.fits.place_is;
          matches = subst (λ ps. Matches o ps u) y.fits.pairs_are (choice.matches k y.offer y.chosen);
        }

    record SentFact (us : List Term) (f : Term) : Type 0 where
      pub fact : Term
      pub among : Contains us fact
      pub matches : Matches o ((f, fact) ∷ []) u

    sent_fact : (us : List Term) (f : Term) (k : ℕ) (fs : List Offer) → slice_get askers k ≡ Some fs → ForFact o us f fs → SentFact us f
    sent_fact us f k fs e offers =
        let y = chosen_for (OfFact f us (length us)) k fs e offers in
        record { fact = y.fits.fact; among = member_at us y.fits.at y.fits.fact y.fits.there; matches = subst (λ ps. Matches o ps u) y.fits.pairs_are (choice.matches k y.offer y.chosen) }

    sent_known : (f : Term) → Contains t.known f → SentFact s.known f
    sent_known f c = let p = place_of t.known f c in let x = known_asker p.0 f p.1 in sent_fact s.known f (length are.first + p.0) x.0 x.1 x.2

    sent_unknown : (f : Term) → Contains t.unknown f → SentFact s.unknown f
    sent_unknown f c = let p = place_of t.unknown f c in let x = unknown_asker p.0 f p.1 in sent_fact s.unknown f (length are.second + p.0) x.0 x.1 x.2

    fact_sort : (us : List Term) (f : Term) (v : Variable) → SentFact us f → Contains (variables f) v → IsAtOrBelow o (least_sort (image u v)) v.sort
    fact_sort us f v x c = x.matches.sorts v (of_pair ((f, x.fact) ∷ []) (f, x.fact) v (member_first (f, x.fact) []) c)

    sort_of : (v : Variable) (f : Term) → IsTermOf t f → Contains (variables f) v → IsAtOrBelow o (least_sort (image u v)) v.sort
    sort_of v f (of_args k p e c) d =
        let x = sent_strand k p e in
        let y = beside p.args x.strand.args f x.kindred.args c in
        x.matches.sorts v (of_pair (strand_pairs p x.strand) (f, y.0) v (Contains-append_left (zip p.args x.strand.args) (zip p.msgs x.strand.msgs) (f, y.0) y.1) d)
    sort_of v f (of_msgs k p e c) d =
        let x = sent_strand k p e in
        let y = beside p.msgs x.strand.msgs f x.kindred.msgs c in
        x.matches.sorts v (of_pair (strand_pairs p x.strand) (f, y.0) v (Contains-append_right (zip p.args x.strand.args) (zip p.msgs x.strand.msgs) (f, y.0) y.1) d)
    sort_of v f (of_known c) d = fact_sort s.known f v (sent_known f c) d
    sort_of v f (of_unknown c) d = fact_sort s.unknown f v (sent_unknown f c) d

    fact_lies : (ts us : List Term) → ((f : Term) → Contains ts f → SentFact us f) → (x : Term) → Contains (map (applied u) ts) x → HasSame us x
    fact_lies ts us sent x c =
        let m = mapped_member (applied u) ts x c in
        let y = sent m.0 m.1 in
        (y.fact, y.among, subst (λ (w : Term). Same w y.fact) m.2 (y.matches.equal m.0 y.fact (member_first (m.0, y.fact) [])))

    module _ (at : List ℕ) (places : ArePlaces askers numbers (length t.strands) at) where
      -- the strand at place k is sent to the one at place n
      record SentTo (k n : ℕ) : Type 0 where
        pub strand : PStrand
        pub there : slice_get t.strands k ≡ Some strand
        pub sent : SentStrand k strand
        pub to : sent.at ≡ n
        pub place : sent.offer.place ≡ Some n

      sent_to : (k n : ℕ) → slice_get at k ≡ Some n → SentTo k n
      sent_to k n e =
          let l = slice_get_within at k n e in
          let p = within_at t.strands k (omega (arith, l, places.as_many)) in
          let x = sent_strand k p.0 p.1 in
          let to : n ≡ x.at = places.each k n x.at x.offer e x.chosen x.place in
          record { strand = p.0; there = p.1; sent = x; to = sym to; place = x.place ∙ ap Some (sym to) }

      alike_strand : (k n : ℕ) (p : PStrand) → slice_get at k ≡ Some n → slice_get (map (map_strand (applied u)) t.strands) k ≡ Some p → (q : PStrand) × (slice_get s.strands n ≡ Some q) × AreAlike p q
      alike_strand k n p e d =
          let m = mapped_at (map_strand (applied u)) t.strands k p d in
          let x = sent_strand k m.0 m.1 in
          let to : n ≡ x.at = places.each k n x.at x.offer e x.chosen x.place in
          let q : PStrand = x.strand in
          let alike : AreAlike (map_strand (applied u) m.0) q = record {
            strand = sym x.kindred.strand;
            bar = sym x.kindred.bar;
            args = same_of_zip (applied u) m.0.args q.args x.kindred.args (λ a b c. x.matches.equal a b (Contains-append_left (zip m.0.args q.args) (zip m.0.msgs q.msgs) (a, b) c));
            msgs = same_of_zip (applied u) m.0.msgs q.msgs x.kindred.msgs (λ a b c. x.matches.equal a b (Contains-append_right (zip m.0.args q.args) (zip m.0.msgs q.msgs) (a, b) c));
          } in
          (q, ap (slice_get s.strands) to ∙ x.there, subst (λ (r : PStrand). AreAlike r q) m.2 alike)

      pub choice_covers : IsCover o t s u at
      choice_covers = record {
        sorts = λ v occurs. sort_of v occurs.term occurs.there occurs.within;
        lies = record {
          as_many = places.as_many ∙ sym (length-map t.strands (map_strand (applied u)));
          different = λ j k n c d.
              let x = sent_to j n c in
              let y = sent_to k n d in
              choice.apart j k n x.sent.offer y.sent.offer x.sent.chosen y.sent.chosen x.place y.place;
          strands = alike_strand;
          known = fact_lies t.known s.known sent_known;
          unknown = fact_lies t.unknown s.unknown sent_unknown;
        };
      }

  -- ## From a cover
  module _ (u : List (Variable × Term)) (at : List ℕ) (cover : IsCover o t s u at) where
    -- an offer that the cover takes
    record Goes (k : ℕ) (f : Offer) : Type 0 where
      pub matches : Matches o (read_pairs f.pairs) u
      pub place : (n : ℕ) → f.place ≡ Some n → slice_get at k ≡ Some n

    record Picked (k m : ℕ) : Type 0 where
      pub offers : List Offer
      pub offer : Offer
      pub asker : slice_get askers k ≡ Some offers
      pub there : slice_get offers m ≡ Some offer
      pub goes : Goes k offer

    picked : (P : Option ℕ → List (Term × Term) → Type 0) (k : ℕ) (fs : List Offer) → slice_get askers k ≡ Some fs → AreOffers o P fs → (place : Option ℕ) (pairs : List (Term × Term)) → P place pairs →
        Matches o pairs u → ((n : ℕ) → place ≡ Some n → slice_get at k ≡ Some n) → (m : ℕ) × Picked k m
    picked P k fs e offers place pairs p matches taken =
        let h = offers.every place pairs p (record { by_ = u; matches = matches }) in
        let m = place_of fs h.offer h.among in (
          m.0,
          record {
            offers = fs;
            offer = h.offer;
            asker = e;
            there = m.1;
            goes = record { matches = subst (λ ps. Matches o ps u) (sym h.pairs_are) matches; place = λ n d. taken n (sym h.place_is ∙ d) };
          },
        )

    strand_matches : (k : ℕ) (p q : PStrand) → slice_get t.strands k ≡ Some p → AreAlike (map_strand (applied u) p) q → Matches o (strand_pairs p q) u
    strand_matches k p q e alike = record {
      sorts = λ v c.
          let x = in_pair (strand_pairs p q) v c in
          cover.sorts v (record {
            term = x.0.0;
            there = elim (Contains-append_cases (zip p.args q.args) (zip p.msgs q.msgs) x.0 x.1) [
              | inl one ↦ of_args k p e (left_of_zip p.args q.args x.0 one)
              | inr two ↦ of_msgs k p e (left_of_zip p.msgs q.msgs x.0 two)
            ];
            within = x.2;
          });
      equal = λ a b c. elim (Contains-append_cases (zip p.args q.args) (zip p.msgs q.msgs) (a, b) c) [
        | inl one ↦ zip_of_same (applied u) p.args q.args alike.args (a, b) one
        | inr two ↦ zip_of_same (applied u) p.msgs q.msgs alike.msgs (a, b) two
      ];
    }

    pick_strand : (k : ℕ) (p : PStrand) (fs : List Offer) → slice_get t.strands k ≡ Some p → slice_get askers k ≡ Some fs → ForStrand o s.strands p fs → (m : ℕ) × Picked k m
    pick_strand k p fs e asker offers =
        let there = at_mapped (map_strand (applied u)) t.strands k p e in
        let l = slice_get_within t.strands k p e in
        let n = within_at at k (omega (arith, l, cover.lies.as_many, length-map t.strands (map_strand (applied u)))) in
        let q = cover.lies.strands k n.0 (map_strand (applied u) p) n.1 there in
        let r : PStrand = q.0 in
        let kindred : AreKindred p r = record {
          strand = sym q.2.strand;
          bar = sym q.2.bar;
          args = same_length (applied u) p.args r.args q.2.args;
          msgs = same_length (applied u) p.msgs r.msgs q.2.msgs;
        } in
        picked (OfStrand p s.strands (length s.strands)) k fs asker offers (Some n.0) (strand_pairs p r)
        (record { at = n.0; strand = r; below = slice_get_within s.strands n.0 r q.1; there = q.1; kindred = kindred; place_is = refl; pairs_are = refl })
        (strand_matches k p r e q.2) (λ m d. n.1 ∙ d)

    pick_fact : (ts us : List Term) → ((f : Term) → Contains ts f → IsTermOf t f) → ((x : Term) → Contains (map (applied u) ts) x → HasSame us x) →
        (k j : ℕ) (f : Term) (fs : List Offer) → slice_get ts j ≡ Some f → slice_get askers k ≡ Some fs → ForFact o us f fs → (m : ℕ) × Picked k m
    pick_fact ts us of_ lies k j f fs e asker offers =
        let c = member_at ts j f e in
        let x = lies (applied u f) (member_mapped (applied u) ts f c) in
        let g : Term = x.0 in
        let p = place_of us g x.1 in
        let matches : Matches o ((f, g) ∷ []) u = record {
          sorts = λ v d. let y = in_pair ((f, g) ∷ []) v d in
              cover.sorts v (record { term = f; there = of_ f c; within = subst (λ (z : Term × Term). Contains (variables z.0) v) (sym (contains_one (f, g) y.0 y.1)) y.2 });
          equal = λ a b d. subst (λ (z : Term × Term). Same (applied u z.0) z.1) (contains_one (f, g) (a, b) d) x.2;
        } in
        picked (OfFact f us (length us)) k fs asker offers None ((f, g) ∷ [])
        (record { at = p.0; fact = g; below = slice_get_within us p.0 g p.1; there = p.1; place_is = refl; pairs_are = refl })
        matches (λ n d. absurd (none-some n d))

    pick : (k : ℕ) → k < length askers → (m : ℕ) × Picked k m
    pick k l =
        let fs = within_at askers k l in
        elim (new_cases (ForFact o s.unknown) t.unknown are.second askers are.unknown k fs.0 fs.1) [
          | inr x ↦ pick_fact t.unknown s.unknown (λ f c. of_unknown c) cover.lies.unknown k x.0 x.1 fs.0 x.3 fs.1 x.4
          | inl before ↦ elim (new_cases (ForFact o s.known) t.known are.first are.second are.known k fs.0 before) [
            | inr x ↦ pick_fact t.known s.known (λ f c. of_known c) cover.lies.known k x.0 x.1 fs.0 x.3 fs.1 x.4
            | inl first ↦ elim (new_cases (ForStrand o s.strands) t.strands [] are.first are.strands k fs.0 first) [
              | inr x ↦ pick_strand k x.1 fs.0 (ap (slice_get t.strands) (let d : k ≡ x.0 = omega (arith, x.2) in d) ∙ x.3) fs.1 x.4
              | inl none ↦ absurd (none-some fs.0 none)
            ]
          ]
        ]

    goes_chosen : (numbers : List ℕ) → ((k m : ℕ) → slice_get numbers k ≡ Some m → Picked k m) → (k : ℕ) (f : Offer) → IsChosen askers numbers k f → Goes k f
    goes_chosen numbers each k f c =
        let x = each k c.number c.chosen in
        let same : x.offers ≡ c.offers = same_Some x.offers c.offers (sym x.asker ∙ c.asker) in
        subst (λ (g : Offer). Goes k g) (same_Some x.offer f (sym x.there ∙ ap (λ gs. slice_get gs c.number) same ∙ c.offer)) x.goes

    pub cover_choice : HasChoice o askers
    cover_choice =
        let all = collect Picked (length askers) pick in
        let numbers : List ℕ = all.0 in
        record {
          at = numbers;
          by_ = u;
          is = record {
            as_many = all.1;
            each = λ k l.
                let m = within_at numbers k (omega (arith, l, all.1)) in
                let x = all.2 k m.0 m.1 in
                (x.offer, record { offers = x.offers; number = m.0; asker = x.asker; chosen = m.1; offer = x.there });
            apart = λ j k n f g c d p q.
                cover.lies.different j k n ((goes_chosen numbers all.2 j f c).place n p) ((goes_chosen numbers all.2 k g d).place n q);
            matches = λ k f c. (goes_chosen numbers all.2 k f c).matches;
          };
        }

  -- where there is no choice, there is no cover
  pub no_cover : (HasChoice o askers → ⊥) → Covers o t s → ⊥
  no_cover none (u, at, cover) = none (cover_choice u at cover)

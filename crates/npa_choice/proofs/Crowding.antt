-- Different askers take different places: where more of them than there are of some places can take no
-- others, there is no choice.
use Rattle.std.proofs.Common.{◌≡◌, ℕ, zero, suc, ◌+◌, ◌<◌, ◌≤◌, inl, inr, List, [], ◌∷◌, ◌++◌, Option, None, Some, length, get_or, slice_get, Contains, refl, ap, sym, ◌∙◌, subst, arith}
use Rattle.std.proofs.lemmas.List.{length-append}
use Rattle.std.proofs.lemmas.List.Elements.{Contains-append_left, Contains-append_right}
use Rattle.std.proofs.lemmas.Option.{same_Some, none-some, slice_get_within, slice_get_read}
use Rattle.npa_list.specs.Different.{AreDifferent}
use Rattle.npa_sorts.specs.Subsorts.{Subsorts}
use Rattle.npa_term.proofs.Numbered.{member_first, member_later}
use Rattle.npa_choice.specs.declared.offer.Offer.{Offer}
use Rattle.npa_choice.specs.Choices.{IsChosen, HasChoice}
use Rattle.npa_choice.specs.Partial.{placed}
use Rattle.npa_choice.specs.Room.{AreBound}
use Rattle.npa_choice.proofs.Places.{contains_cases, is_placed}

-- ## Different numbers among others are no more than those

-- a list without a member
record Without (ys : List ℕ) (x : ℕ) : Type 0 where
  pub rest : List ℕ
  pub size : length ys ≡ length rest + 1
  pub keeps : (y : ℕ) → Contains ys y → (x ≡ y → ⊥) → Contains rest y

without : (ys : List ℕ) (x : ℕ) → Contains ys x → Without ys x
without [] x c = absurd (let no : ⊥ = omega (arith, c.1) in no)
without (z ∷ ys) x c = elim (contains_cases z ys x c) [
  | inl is ↦ record {
    rest = ys;
    size = omega arith;
    keeps = λ y d ne. elim (contains_cases z ys y d) [ inl same ↦ absurd (ne (sym is ∙ same)) | inr later ↦ later ];
  }
  | inr later ↦
      let w = without ys x later in
      record {
        rest = z ∷ w.rest;
        size = omega (arith, w.size);
        keeps = λ y d ne. elim (contains_cases z ys y d) [
          | inl same ↦ subst (λ v. Contains (z ∷ w.rest) v) same (member_first z w.rest)
          | inr there ↦ member_later z y w.rest (w.keeps y there ne)
        ];
      }
]

pigeons : (xs ys : List ℕ) → AreDifferent xs → ((x : ℕ) → Contains xs x → Contains ys x) → length xs ≤ length ys
pigeons [] ys different among = omega arith
pigeons (x ∷ xs) ys different among =
    let w = without ys x (among x (member_first x xs)) in
    let rest = pigeons xs w.rest different.1 (λ y c. w.keeps y (among y (member_later x y xs c)) (λ same. different.0 (subst (λ z. Contains xs z) (sym same) c))) in
    omega (arith, rest, w.size)

-- ## Places of offers

abbrev places_in : List Offer → List ℕ
places_in [] = []
places_in (f ∷ fs) = placed f.place ++ places_in fs

few_placed : (place : Option ℕ) → length (placed place) ≤ 1
few_placed None = omega arith
few_placed (Some n) = omega arith

few_places : (fs : List Offer) → length (places_in fs) ≤ length fs
few_places [] = omega arith
few_places (f ∷ fs) =
    let one = few_placed f.place in
    let rest = few_places fs in
    let both = length-append (placed f.place) (places_in fs) in
    omega (arith, one, rest, both)

in_places : (fs : List Offer) (k n : ℕ) (f : Offer) → slice_get fs k ≡ Some f → f.place ≡ Some n → Contains (places_in fs) n
in_places [] k n f e d = absurd (none-some f e)
in_places (g ∷ fs) zero n f e d = Contains-append_left (placed g.place) (places_in fs) n (is_placed g.place n (ap (λ (x : Offer). x.place) (same_Some g f e) ∙ d))
in_places (g ∷ fs) (suc k) n f e d = Contains-append_right (placed g.place) (places_in fs) n (in_places fs k n f e d)

-- ## Askers that are bound

module _ (o : Subsorts) (askers : List (List Offer)) (h : HasChoice o askers) (room : List Offer) where
  -- a place of these that is taken by one of the first so many askers
  pub record Takes (index n : ℕ) : Type 0 where
    pub asker : ℕ
    pub before : asker < index
    pub offer : Offer
    pub chosen : IsChosen askers h.at asker offer
    pub place : offer.place ≡ Some n

  -- the places that so many of the first askers take
  pub record Crowd (index count : ℕ) : Type 0 where
    pub members : List ℕ
    pub size : length members ≡ count
    pub different : AreDifferent members
    pub taken : (n : ℕ) → Contains members n → Takes index n
    pub among : (n : ℕ) → Contains members n → Contains (places_in room) n

  crowd_none : Crowd 0 0
  crowd_none = record {
    members = [];
    size = refl;
    different = tt;
    taken = λ n c. absurd (let no : ⊥ = omega (arith, c.1) in no);
    among = λ n c. absurd (let no : ⊥ = omega (arith, c.1) in no);
  }

  still : (index n : ℕ) → Takes index n → Takes (index + 1) n
  still index n t = record { asker = t.asker; before = let l : t.asker < index + 1 = omega (arith, t.before) in l; offer = t.offer; chosen = t.chosen; place = t.place }

  crowd_same : (index count : ℕ) → Crowd index count → Crowd (index + 1) count
  crowd_same index count c = record { members = c.members; size = c.size; different = c.different; taken = λ n i. still index n (c.taken n i); among = c.among }

  crowd_more : (index count : ℕ) (fs : List Offer) → slice_get askers index ≡ Some fs → AreBound fs room → Crowd index count → Crowd (index + 1) (count + 1)
  crowd_more index count fs e bound c =
      let x = h.is.each index (slice_get_within askers index fs e) in
      let same : x.1.offers ≡ fs = same_Some x.1.offers fs (sym x.1.asker ∙ e) in
      let p = bound x.1.number x.0 (ap (λ gs. slice_get gs x.1.number) (sym same) ∙ x.1.offer) in
      let n : ℕ = p.number in
      let here : Takes (index + 1) n = record { asker = index; before = omega arith; offer = x.0; chosen = x.1; place = p.is } in
      record {
        members = n ∷ c.members;
        size = omega (arith, c.size);
        different = (
          (λ i. let t = c.taken n i in let place : t.asker ≡ index = h.is.apart t.asker index n t.offer x.0 t.chosen x.1 t.place p.is in omega (arith, place, t.before)),
          c.different,
        );
        taken = λ m i. elim (contains_cases n c.members m i) [ inl is ↦ subst (λ k. Takes (index + 1) k) is here | inr later ↦ still index m (c.taken m later) ];
        among = λ m i. elim (contains_cases n c.members m i) [
          | inl is ↦ subst (λ k. Contains (places_in room) k) is (in_places room p.at n p.offer p.there p.takes)
          | inr later ↦ c.among m later
        ];
      }

  few_crowd : (index count : ℕ) → Crowd index count → count ≤ length room
  few_crowd index count c =
      let fit = pigeons c.members (places_in room) c.different c.among in
      let few = few_places room in
      omega (arith, fit, few, c.size)

-- the same, whichever choice there is
pub record Bound (askers : List (List Offer)) (room : List Offer) (index count : ℕ) : Type 0 where
  pub each : (o : Subsorts) (h : HasChoice o askers) → Crowd o askers h room index count

pub bound_none : (askers : List (List Offer)) (room : List Offer) → Bound askers room 0 0
bound_none askers room = record { each = λ o h. crowd_none o askers h room }

pub bound_same : (askers : List (List Offer)) (room : List Offer) (index count : ℕ) → Bound askers room index count → Bound askers room (index + 1) count
bound_same askers room index count b = record { each = λ o h. crowd_same o askers h room index count (b.each o h) }

pub bound_more : (askers : List (List Offer)) (room : List Offer) (index count : ℕ) (fs : List Offer) → index < length askers → fs ≡ get_or askers index fs → AreBound fs room → Bound askers room index count →
    Bound askers room (index + 1) (count + 1)
bound_more askers room index count fs l is bound b =
    let e = slice_get_read askers (length askers) index fs refl l is in
    record { each = λ o h. crowd_more o askers h room index count fs e bound (b.each o h) }

-- more are bound to places than there are
pub crowded : (askers : List (List Offer)) (room : List Offer) (index count : ℕ) → Bound askers room index count → length room < count → (o : Subsorts) → HasChoice o askers → ⊥
crowded askers room index count b many o h = let few = few_crowd o askers h room index count (b.each o h) in omega (arith, many, few)

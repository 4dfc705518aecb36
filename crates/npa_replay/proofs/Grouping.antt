-- Where the parts before one can be met together, and the group of this one by itself, all of them
-- can be met together.
use Rattle.std.specs.Prelude.{◌⊎◌, nat_eq, ◌||◌}
use Rattle.std.proofs.Common.{◌≡◌, Bool, true, false, ℕ, zero, suc, ◌+◌, ◌<◌, ◌≤◌, ⊎_elim, inl, inr, List, [], ◌∷◌, ◌++◌, Option, None, Some, map, slice_get, length, Contains, refl, ap, sym, ◌∙◌, subst, arith}
use Rattle.std.proofs.lemmas.Bool.{eq-eqb, eqb-true, eqb-false, cases_lt}
use Rattle.std.proofs.lemmas.Option.{same_Some}
use Rattle.std.proofs.lemmas.List.Elements.{Contains-append_left, Contains-append_right, Contains-append_cases}
use Rattle.npa_sorts.specs.Subsorts.{Subsorts}
use Rattle.npa_term.specs.declared.term.Var.{Var as Variable}
use Rattle.npa_model.specs.declared.aim.Part.{Part}
use Rattle.npa_model.specs.declared.run.Instance.{Instance}
use Rattle.npa_model.specs.State.{State}
use Rattle.npa_match.specs.Matching.{HasMatch}
use Rattle.npa_replay.specs.Choices.{Can, IsMost, picked}
use Rattle.npa_replay.specs.Groups.{part_variables, variable_keys, strand_keys, AreLinks, IsClosed, HasChoice}
use Rattle.npa_list.specs.Different.{AreDifferent}
use Rattle.npa_replay.proofs.Members.{contains_cases, contains_head, contains_tail}
use Rattle.npa_replay.proofs.Joining.{AreApart, takes_apart, bindings, joined}
use Rattle.npa_replay.proofs.Picking.{has_matcher, chosen_can, from_can, front_choice, choice_front, can_leaf}

no_empty : {X : Type 0} (x : X) → Contains [] x → ⊥
no_empty x h = omega (arith, h.1)

-- whether a number is among these
abbrev is_member : List ℕ → ℕ → Bool
is_member [] i = false
is_member (n ∷ ns) i = nat_eq n i || is_member ns i

or_right : (a b : Bool) → b ≡ true → (a || b) ≡ true
or_right true b e = refl
or_right false b e = e

is_member-true : (ns : List ℕ) (i : ℕ) → Contains ns i → is_member ns i ≡ true
is_member-true [] i h = absurd (no_empty i h)
is_member-true (n ∷ ns) i h = ⊎_elim
    (λ (here : n ≡ i). ap (λ b. b || is_member ns i) (eq-eqb n i here))
    (λ later. or_right (nat_eq n i) (is_member ns i) (is_member-true ns i later))
    (contains_cases n ns i h)

is_member-false : (ns : List ℕ) (i : ℕ) → (Contains ns i → ⊥) → is_member ns i ≡ false
is_member-false [] i h = refl
is_member-false (n ∷ ns) i h =
    elim (nat_eq n i) as (λ b. nat_eq n i ≡ b → (b || is_member ns i) ≡ false) [
      | true ↦ λ e. absurd (h (subst (λ j. Contains (n ∷ ns) j) (eqb-true n i e) (contains_head n ns)))
      | false ↦ λ e. is_member-false ns i (λ later. h (contains_tail n ns i later))
    ] refl

decided : (ns : List ℕ) (i : ℕ) → Contains ns i ⊎ (Contains ns i → ⊥)
decided [] i = inr (no_empty i)
decided (n ∷ ns) i =
    elim (nat_eq n i) as (λ b. nat_eq n i ≡ b → Contains (n ∷ ns) i ⊎ (Contains (n ∷ ns) i → ⊥)) [
      | true ↦ λ e. inl (subst (λ j. Contains (n ∷ ns) j) (eqb-true n i e) (contains_head n ns))
      | false ↦ λ e. ⊎_elim (λ l. inl (contains_tail n ns i l)) (λ r. inr (λ h. ⊎_elim (λ (here : n ≡ i). eqb-false n i e here) (λ later. r later) (contains_cases n ns i h))) (decided ns i)
    ] refl

within_some : {X : Type 0} (xs : List X) (i : ℕ) (x : X) → slice_get xs i ≡ Some x → i < length xs
within_some [] i x e = cc
within_some (y ∷ ys) zero x e = omega arith
within_some (y ∷ ys) (suc i) x e = let l = within_some ys i x e in omega (arith, l)

some_within : {X : Type 0} (xs : List X) (i : ℕ) → i < length xs → (x : X) × (slice_get xs i ≡ Some x)
some_within [] i l = absurd (omega (arith, l))
some_within (x ∷ xs) zero l = (x, refl)
some_within (x ∷ xs) (suc i) l = some_within xs i (omega (arith, l))

map_at : {X Y : Type 0} (f : X → Y) (xs : List X) (i : ℕ) (x : X) → slice_get xs i ≡ Some x → slice_get (map f xs) i ≡ Some (f x)
map_at f [] i x e = cc
map_at f (y ∷ ys) zero x e = ap (λ z. Some (f z)) (same_Some y x e)
map_at f (y ∷ ys) (suc i) x e = map_at f ys i x e

map_member : {X Y : Type 0} (f : X → Y) (xs : List X) (x : X) → Contains xs x → Contains (map f xs) (f x)
map_member f [] x h = absurd (no_empty x h)
map_member f (y ∷ ys) x h = ⊎_elim
    (λ (here : y ≡ x). subst (λ z. Contains (f y ∷ map f ys) z) (ap f here) (contains_head (f y) (map f ys)))
    (λ later. contains_tail (f y) (map f ys) (f x) (map_member f ys x later))
    (contains_cases y ys x h)

-- what shares a key with a member of a closed group is in it
linked_in : (keys links : List (List ℕ)) → AreLinks keys links → (k : ℕ) (ns : List ℕ) → IsClosed links k ns → (i j key : ℕ) (ks ls : List ℕ) → slice_get keys i ≡ Some ks → slice_get keys j ≡ Some ls →
    Contains ks key → Contains ls key → Contains ns i → j ≤ k → Contains ns j
linked_in keys links are k ns closed i j key ks ls at there a b h l =
    let x = some_within links i (omega (arith, within_some keys i ks at, are.even)) in
    closed i h x.0 x.1 j (are.every i ks x.0 at x.1 j key ls there a b) l

abbrev option_variables : Option Part → List Variable
option_variables None = []
option_variables (Some p) = part_variables p

-- the variables of the parts at these places
abbrev group_variables : List Part → List ℕ → List Variable
group_variables parts [] = []
group_variables parts (n ∷ ns) = option_variables (slice_get parts n) ++ group_variables parts ns

group_has : (parts : List Part) (ns : List ℕ) (i : ℕ) (p : Part) → slice_get parts i ≡ Some p → Contains ns i → (v : Variable) → Contains (part_variables p) v → Contains (group_variables parts ns) v
group_has parts [] i p at h v o = absurd (no_empty i h)
group_has parts (n ∷ ns) i p at h v o = ⊎_elim
    (λ (here : n ≡ i).
    let own : option_variables (slice_get parts n) ≡ part_variables p = ap (λ x. option_variables x) (ap (slice_get parts) here ∙ at) in
    Contains-append_left (option_variables (slice_get parts n)) (group_variables parts ns) v (subst (λ (vs : List Variable). Contains vs v) (sym own) o))
    (λ later. Contains-append_right (option_variables (slice_get parts n)) (group_variables parts ns) v (group_has parts ns i p at later v o))
    (contains_cases n ns i h)

-- a part of the group in which a variable occurs
record OccursAmong (parts : List Part) (ns : List ℕ) (v : Variable) : Type 0 where
  number : ℕ
  part_ : Part
  at : slice_get parts number ≡ Some part_
  there : Contains ns number
  occurs : Contains (part_variables part_) v

occurs_among : (parts : List Part) (ns : List ℕ) (v : Variable) → Contains (group_variables parts ns) v → OccursAmong parts ns v
occurs_among parts [] v h = absurd (no_empty v h)
occurs_among parts (n ∷ ns) v h = ⊎_elim
    (λ here. elim (slice_get parts n) as (λ x. slice_get parts n ≡ x → Contains (option_variables x) v → OccursAmong parts (n ∷ ns) v) [
      | Some p ↦ λ e g. record { number = n; part_ = p; at = e; there = contains_head n ns; occurs = g }
      | None ↦ λ e g. absurd (no_empty v g)
    ] refl here)
    (λ later. let x = occurs_among parts ns v later in record { number = x.number; part_ = x.part_; at = x.at; there = contains_tail n ns x.number x.there; occurs = x.occurs })
    (Contains-append_cases (option_variables (slice_get parts n)) (group_variables parts ns) v h)

module _ (instances : List Instance) (state : State) (o : Subsorts) (parts : List Part) where
  -- a group in which each part up to k is that is linked to a member
  module _ (variable_links strand_links : List (List ℕ)) (by_variable : AreLinks (map variable_keys parts) variable_links) (by_strand : AreLinks (map strand_keys parts) strand_links)
      (k : ℕ) (ns : List ℕ) (first : Contains ns k) (within : (i : ℕ) → Contains ns i → i ≤ k) (different : AreDifferent ns)
      (shared : IsClosed variable_links k ns) (alike : IsClosed strand_links k ns) where
    far : (i j : ℕ) (p q : Part) → slice_get parts i ≡ Some p → slice_get parts j ≡ Some q → Contains ns i → (j ≤ k) × (Contains ns j → ⊥) → AreApart instances state p q
    far i j p q at there h other = record {
      variables_ = λ v a b. other.1 (linked_in (map variable_keys parts) variable_links by_variable k ns shared i j v.num (variable_keys p) (variable_keys q)
          (map_at variable_keys parts i p at) (map_at variable_keys parts j q there)
          (map_member (λ (w : Variable). w.num) (part_variables p) v a) (map_member (λ (w : Variable). w.num) (part_variables q) v b) h other.0);
      takes = takes_apart instances state p q (λ key a b. other.1 (linked_in (map strand_keys parts) strand_links by_strand k ns alike i j key (strand_keys p) (strand_keys q)
          (map_at strand_keys parts i p at) (map_at strand_keys parts j q there) a b h other.0));
    }

    others : HasChoice instances state o parts (λ i. i < k) → HasChoice instances state o parts (λ i. (i ≤ k) × (Contains ns i → ⊥))
    others c = record {
      at = c.at;
      by_ = c.by_;
      is = record {
        targets = λ i p at h. c.is.targets i p at (before i h);
        apart = λ i j p q at there h g. c.is.apart i j p q at there (before i h) (before j g);
        matches = λ i p at h. c.is.matches i p at (before i h);
      };
    }
      where
        before : (i : ℕ) → (i ≤ k) × (Contains ns i → ⊥) → i < k
        before i h = ⊎_elim (λ (l : i < k). l) (λ (m : k ≤ i). let same : k ≡ i = omega (arith, m, h.0) in absurd (h.1 (subst (λ j. Contains ns j) same first))) (cases_lt i k)

    -- the group can be met, and so can all parts up to k
    pub met_next : HasChoice instances state o parts (λ i. i < k) → Can instances state (HasMatch o) (picked parts ns) [] [] → HasChoice instances state o parts (λ i. i < k + 1)
    met_next c d =
        let x = from_can instances state o parts ns different [] [] d in
        let y = others c in
        let z = joined instances state o parts (λ i. Contains ns i) (λ i. (i ≤ k) × (Contains ns i → ⊥)) x.at y.at x.by_ y.by_ x.choice y.is
        (is_member ns) (is_member-true ns) (λ i h. is_member-false ns i h.1) far
        (group_variables parts ns) (group_has parts ns)
        (λ i p at h v occurs among. let w = occurs_among parts ns v among in (far w.number i w.part_ p w.at at w.there h).variables_ v w.occurs occurs) in
        record {
          at = _;
          by_ = bindings x.by_ (group_variables parts ns) ++ y.by_;
          is = record {
            targets = λ i p at h. z.targets i p at (either i h);
            apart = λ i j p q at there h g. z.apart i j p q at there (either i h) (either j g);
            matches = λ i p at h. z.matches i p at (either i h);
          };
        }
      where
        either : (i : ℕ) → i < k + 1 → Contains ns i ⊎ ((i ≤ k) × (Contains ns i → ⊥))
        either i l = ⊎_elim (λ h. inl h) (λ n. inr (omega (arith, l), n)) (decided ns i)

    -- the group can't be met
    pub most_before : HasChoice instances state o parts (λ i. i < k) → k < length parts → (Can instances state (HasMatch o) (picked parts ns) [] [] → ⊥) → IsMost instances state o parts [] [] k
    most_before c l none = record {
      within = omega (arith, l);
      met = can_leaf (has_matcher o) (choice_front instances state o parts k c);
      missed = λ m d. none (chosen_can instances state o parts (λ i. i < k + 1) (front_choice instances state o parts (k + 1) d) ns different (λ i h. let b = within i h in omega (arith, b)));
    }

  -- all parts can be met
  pub most_all : (k : ℕ) → HasChoice instances state o parts (λ i. i < k) → k ≡ length parts → IsMost instances state o parts [] [] k
  most_all k c e = record {
    within = omega (arith, e);
    met = can_leaf (has_matcher o) (choice_front instances state o parts k c);
    missed = λ l d. let no : ⊥ = omega (arith, e, l) in absurd no;
  }

  -- none is to be met
  pub none_chosen : HasChoice instances state o parts (λ i. i < 0)
  none_chosen = record {
    at = λ i. 0;
    by_ = [];
    is = record {
      targets = λ i p at h. absurd (below i h);
      apart = λ i j p q at there h g. absurd (below i h);
      matches = λ i p at h. absurd (below i h);
    };
  }
    where
      below : (i : ℕ) → i < 0 → ⊥
      below i h = omega (arith, h)

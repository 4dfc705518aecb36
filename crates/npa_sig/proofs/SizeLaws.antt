-- What the rounds keep: the sizes of the settled sorts are those of their least ground terms.
use Rattle.std.proofs.Common.{◌≡◌, ℕ, zero, suc, ◌+◌, ◌<◌, ◌≤◌, ◌-◌, ◌^◌, min, Bool, true, false, ◌⊎◌, List, [], ◌∷◌, Option, None, Some, map, length, replicate, get_or, cond, refl, sym, ◌∙◌, ap, subst, inl, inr, arith}
use Rattle.std.specs.Prelude.{Contains, IfSome, is_some, slice_get}
use Rattle.std.specs.Option.{option_and_then, option_map}
use Rattle.std.proofs.lemmas.Bool.{cases_lt, false_from_ne_true}
use Rattle.std.proofs.lemmas.List.Elements.{All-get_or}
use Rattle.std.proofs.lemmas.Option.{get_or_from_slice_get, slice_get_within}
use Rattle.npa_sorts.specs.Subsorts.{Subsorts, IsSort, IsAtOrBelow, AreSorts, at_or_below}
use Rattle.npa_sorts.proofs.Steps.{at_or_below_trans}
use Rattle.npa_sorts.proofs.Climbs.{decides, below_upper}
use Rattle.npa_term.specs.declared.term.Term.{Term}
use Rattle.npa_term.specs.declared.term.Term.TheVariants.{Name, App}
use Rattle.npa_term.specs.Symbols.{symbol_count, all_count}
use Rattle.npa_term.proofs.Rows.{symbol_count_at}
use Rattle.npa_sig.specs.declared.signature.OpDecl.{OpDecl}
use Rattle.npa_sig.specs.declared.least.Offer.{Offer}
use Rattle.npa_term.specs.Parts.{least_sort}
use Rattle.npa_sig.specs.Least.{declared_op, IsBuilt, a_name, an_application, AreBuilt, no_arguments, an_argument, IsBuiltOf, IsLeastCount}
use Rattle.npa_sig.specs.Operators.{HaveSorts}
use Rattle.npa_sig.specs.Sizes.{summed, offered, settled, IsCheapest, IsSizeOf, AreSizes}

-- how many sorts have no size
abbrev pub unsettled : List (Option ℕ) → ℕ
unsettled [] = 0
unsettled (None ∷ sizes) = 1 + unsettled sizes
unsettled (Some n ∷ sizes) = unsettled sizes

pub record AreSettled (o : Subsorts) (ops : List OpDecl) (sizes : List (Option ℕ)) : Type 0 where
  pub long : length sizes ≡ o.declared + 2
  pub names : (s : ℕ) → IsSort o s → IsAtOrBelow o 1 s → get_or sizes s None ≡ None → ⊥
  pub upward : (r s : ℕ) → IsSort o s → IsAtOrBelow o r s → get_or sizes s None ≡ None → get_or sizes r None ≡ None
  pub exact : (s n : ℕ) → get_or sizes s None ≡ Some n → IsLeastCount (IsBuiltOf o ops s) n

pub count_app : (num : ℕ) (decl : OpDecl) (ts : List Term) → symbol_count (App (declared_op num decl) ts) ≡ 1 + all_count ts
count_app num decl ts = symbol_count_at (App (declared_op num decl) ts) (declared_op num decl) ts refl

-- an option is none or some
pub option_cases : {X : Type 0} (C : Type 0) (o : Option X) → (o ≡ None → C) → ((x : X) → o ≡ Some x → C) → C
option_cases C None none some = none refl
option_cases C (Some x) none some = some x refl

offered_open : (sizes : List (Option ℕ)) (decl : OpDecl) (n : ℕ) → get_or sizes decl.result None ≡ None → summed sizes 1 decl.args ≡ Some n →
    offered sizes decl ≡ Some (record { sort = decl.result; size = n })
offered_open sizes decl n none some =
    ap (λ g. cond (is_some g) None (option_map (λ m. record { sort = decl.result; size = m }) (summed sizes 1 decl.args))) none
    ∙ ap (option_map (λ m. record { sort = decl.result; size = m })) some

-- the sizes are at most those of any terms of the sorts
module _ (o : Subsorts) (ops : List OpDecl) (sizes : List (Option ℕ)) (exact : (s n : ℕ) → get_or sizes s None ≡ Some n → IsLeastCount (IsBuiltOf o ops s) n) where
  pub known_count : {ss : List ℕ} {ts : List Term} → AreBuilt o ops ss ts → (m r : ℕ) → summed sizes m ss ≡ Some r → r ≤ m + all_count ts
  known_count no_arguments m r e = let same : m ≡ r = cc in omega (arith, same)
  known_count (an_argument s t ss ts b under rest) m r e =
      option_cases (r ≤ m + (symbol_count t + all_count ts)) (get_or sizes s None)
      (λ none. let no : None ≡ Some r = ap (option_and_then (λ v. summed sizes (min (m + v) (2 ^ 64 - 1)) ss)) (sym none) ∙ e in cc)
      (λ v some.
      let on : summed sizes (min (m + v) (2 ^ 64 - 1)) ss ≡ Some r = ap (option_and_then (λ w. summed sizes (min (m + w) (2 ^ 64 - 1)) ss)) (sym some) ∙ e in
      let here : v ≤ symbol_count t = (exact s v some).fewest t (b, under) in
      let later : r ≤ min (m + v) (2 ^ 64 - 1) + all_count ts = known_count rest (min (m + v) (2 ^ 64 - 1)) r on in
      grind (arith, here, later))

  -- and they are reached
  pub filled : (ss : List ℕ) (m r : ℕ) → m ≤ 2 ^ 64 - 1 → summed sizes m ss ≡ Some r → (ts : List Term) × AreBuilt o ops ss ts × (min (m + all_count ts) (2 ^ 64 - 1) ≡ r)
  filled [] m r fits e = ([], no_arguments, let same : m ≡ r = cc in grind (arith, same, fits))
  filled (s ∷ ss) m r fits e =
      option_cases ((ts : List Term) × AreBuilt o ops (s ∷ ss) ts × (min (m + all_count ts) (2 ^ 64 - 1) ≡ r)) (get_or sizes s None)
      (λ none. let no : None ≡ Some r = ap (option_and_then (λ v. summed sizes (min (m + v) (2 ^ 64 - 1)) ss)) (sym none) ∙ e in cc)
      (λ v some.
      let on : summed sizes (min (m + v) (2 ^ 64 - 1)) ss ≡ Some r = ap (option_and_then (λ w. summed sizes (min (m + w) (2 ^ 64 - 1)) ss)) (sym some) ∙ e in
      let least : IsLeastCount (IsBuiltOf o ops s) v = exact s v some in
      let more = filled ss (min (m + v) (2 ^ 64 - 1)) r (grind arith) on in
      (least.term ∷ more.0, an_argument s least.term ss more.0 least.reached.0 least.reached.1 more.1, saturated_sum m (symbol_count least.term) v (all_count more.0) r least.count more.2))
    where
      saturated_sum : (m c v rest r : ℕ) → min c (2 ^ 64 - 1) ≡ v → min (min (m + v) (2 ^ 64 - 1) + rest) (2 ^ 64 - 1) ≡ r → min (m + (c + rest)) (2 ^ 64 - 1) ≡ r
      saturated_sum m c v rest r e f = grind (arith, e, f)

-- a settled sort's names and operators

-- how many symbols each term of an unsettled sort has at least, where no operator offers fewer
module _ (o : Subsorts) (ops : List OpDecl) (sizes : List (Option ℕ)) (kept : AreSettled o ops sizes) (have : HaveSorts o ops) (n : ℕ)
    (all : (num : ℕ) (decl : OpDecl) → slice_get ops num ≡ Some decl → IfSome (offered sizes decl) (λ other. n ≤ other.size)) where
  at_operator : (num : ℕ) (decl : OpDecl) (count : ℕ) → slice_get ops num ≡ Some decl → get_or sizes decl.result None ≡ None →
      (summed sizes 1 decl.args ≡ None → n ≤ count) → ((m : ℕ) → summed sizes 1 decl.args ≡ Some m → m ≤ 1 + count) → n ≤ 1 + count
  at_operator num decl count at none unknown known =
      option_cases (n ≤ 1 + count) (summed sizes 1 decl.args)
      (λ e. let less : n ≤ count = unknown e in omega (arith, less))
      (λ m e.
      let offer : n ≤ m = subst (λ x. IfSome x (λ other. n ≤ other.size)) (offered_open sizes decl m none e) (all num decl at) in
      let bound : m ≤ 1 + count = known m e in
      omega (arith, offer, bound))

  at_argument : (s m c rest : ℕ) (ss : List ℕ) → summed sizes m (s ∷ ss) ≡ None → (get_or sizes s None ≡ None → n ≤ c) →
      ((k : ℕ) → summed sizes k ss ≡ None → n ≤ rest) → n ≤ c + rest
  at_argument s m c rest ss e here later =
      option_cases (n ≤ c + rest) (get_or sizes s None)
      (λ none. let less : n ≤ c = here none in omega (arith, less))
      (λ v some.
      let on : summed sizes (min (m + v) (2 ^ 64 - 1)) ss ≡ None = ap (option_and_then (λ w. summed sizes (min (m + w) (2 ^ 64 - 1)) ss)) (sym some) ∙ e in
      let less : n ≤ rest = later (min (m + v) (2 ^ 64 - 1)) on in
      omega (arith, less))

  mutual
    unsettled_count : {t : Term} → IsBuilt o ops t → (s : ℕ) → IsSort o s → IsAtOrBelow o (least_sort t) s → get_or sizes s None ≡ None → n ≤ symbol_count t
    unsettled_count (a_name m) s is under none = absurd (kept.names s is under none)
    unsettled_count (an_application num decl ts at args) s is under none =
        subst (λ x. n ≤ x) (sym (count_app num decl ts))
        (at_operator num decl (all_count ts) at (kept.upward decl.result s is under none)
        (unsettled_arguments args 1 (have num decl at).1) (known_count o ops sizes kept.exact args 1))

    unsettled_arguments : {ss : List ℕ} {ts : List Term} → AreBuilt o ops ss ts → (m : ℕ) → ((k a : ℕ) → slice_get ss k ≡ Some a → IsSort o a) → summed sizes m ss ≡ None → n ≤ all_count ts
    unsettled_arguments no_arguments m are e = cc
    unsettled_arguments (an_argument s t ss ts b under rest) m are e =
        at_argument s m (symbol_count t) (all_count ts) ss e (unsettled_count b s (are 0 s refl) under) (λ k. unsettled_arguments rest k (λ j. are (suc j)))

-- every ground term has a symbol
pub some_symbol : {o : Subsorts} {ops : List OpDecl} {t : Term} → IsBuilt o ops t → 1 ≤ symbol_count t
some_symbol (a_name m) = omega arith
some_symbol (an_application num decl ts at args) = omega (arith, count_app num decl ts)

pub past_end : (sizes : List (Option ℕ)) (s : ℕ) → length sizes ≤ s → get_or sizes s None ≡ None
past_end [] s past = refl
past_end (x ∷ sizes) zero past = absurd (let no : ⊥ = omega (arith, past) in no)
past_end (x ∷ sizes) (suc s) past = past_end sizes s (omega (arith, past))

-- what settling leaves without a size had none and isn't above
still_none : (old : Option ℕ) (b : Bool) (n : ℕ) → settled old b n ≡ None → (old ≡ None) × (b ≡ false)
still_none None true n e = absurd (let no : ⊥ = cc in no)
still_none None false n e = (refl, refl)
still_none (Some m) b n e = absurd (let no : ⊥ = cc in no)

stays_none : (old : Option ℕ) (b : Bool) (n : ℕ) → old ≡ None → b ≡ false → settled old b n ≡ None
stays_none old b n e f = ap (λ x. settled x b n) e ∙ ap (λ x. settled None x n) f

-- what has a size after it had it before, or is above
now_some : (old : Option ℕ) (b : Bool) (n m : ℕ) → settled old b n ≡ Some m → (old ≡ Some m) ⊎ ((b ≡ true) × (n ≡ m))
now_some None true n m e = inr (refl, cc)
now_some None false n m e = absurd (let no : ⊥ = cc in no)
now_some (Some k) b n m e = inl e

-- the sizes after an offer is settled
module _ (o : Subsorts) (ops : List OpDecl) (old new : List (Option ℕ)) (offer : Offer) (long : length new ≡ length old)
    (is : (s : ℕ) → s < length old → get_or new s None ≡ settled (get_or old s None) (at_or_below o offer.sort s) offer.size) where
  before_none : (s : ℕ) → s < length old → get_or new s None ≡ None → (get_or old s None ≡ None) × (at_or_below o offer.sort s ≡ false)
  before_none s small none = still_none (get_or old s None) (at_or_below o offer.sort s) offer.size (sym (is s small) ∙ none)

  -- upwards from a sort without a size
  settled_upward : (kept_long : length old ≡ o.declared + 2) → ((r s : ℕ) → IsSort o s → IsAtOrBelow o r s → get_or old s None ≡ None → get_or old r None ≡ None) →
      (r s : ℕ) → IsSort o s → IsAtOrBelow o r s → get_or new s None ≡ None → get_or new r None ≡ None
  settled_upward kept_long upward r s sort below none =
      let was = before_none s (omega (arith, kept_long, sort)) none in
      elim (cases_lt r (length old)) [
        | inl small ↦
            let apart : at_or_below o offer.sort r ≡ false =
            false_from_ne_true (at_or_below o offer.sort r) (λ up.
            let over : at_or_below o offer.sort s ≡ true = (decides o offer.sort s).1 (at_or_below_trans ((decides o offer.sort r).0 up) below) in
            let no : true ≡ false = sym over ∙ was.1 in
            cc) in
            is r small ∙ stays_none (get_or old r None) (at_or_below o offer.sort r) offer.size (upward r s sort below was.0) apart
        | inr past ↦ past_end new r (omega (arith, past, long))
      ]

  settled_exact : ((s n : ℕ) → get_or old s None ≡ Some n → IsLeastCount (IsBuiltOf o ops s) n) →
      ((s : ℕ) → s < length old → get_or old s None ≡ None → IsAtOrBelow o offer.sort s → IsLeastCount (IsBuiltOf o ops s) offer.size) →
      (s n : ℕ) → get_or new s None ≡ Some n → IsLeastCount (IsBuiltOf o ops s) n
  settled_exact exact count s n some =
      elim (cases_lt s (length old)) [
        | inl small ↦
            option_cases (IsLeastCount (IsBuiltOf o ops s) n) (get_or old s None)
            (λ none. elim (now_some (get_or old s None) (at_or_below o offer.sort s) offer.size n (sym (is s small) ∙ some)) [
              | inl was ↦ exact s n was
              | inr up ↦ subst (IsLeastCount (IsBuiltOf o ops s)) up.1 (count s small none ((decides o offer.sort s).0 up.0))
            ])
            (λ m was.
            let same : Some m ≡ Some n = ap (λ x. settled x (at_or_below o offer.sort s) offer.size) (sym was) ∙ sym (is s small) ∙ some in
            subst (λ x. IsLeastCount (IsBuiltOf o ops s) x) (let e : m ≡ n = cc in e) (exact s m was))
        | inr past ↦ let no : None ≡ Some n = sym (past_end new s (omega (arith, past, long))) ∙ some in cc
      ]

-- the sorts of fresh names are settled first
pub started : (o : Subsorts) (ops : List OpDecl) (old new : List (Option ℕ)) → length old ≡ o.declared + 2 → length new ≡ length old →
    ((s : ℕ) → get_or old s None ≡ None) →
    ((s : ℕ) → s < length old → get_or new s None ≡ settled (get_or old s None) (at_or_below o 1 s) 1) → AreSettled o ops new
started o ops old new size long bare is = record {
  long = long ∙ size;
  names = λ s sort below none.
      let was = before_none o ops old new (record { sort = 1; size = 1 }) long is s (omega (arith, size, sort)) none in
      let no : true ≡ false = sym ((decides o 1 s).1 below) ∙ was.1 in
      cc;
  upward = settled_upward o ops old new (record { sort = 1; size = 1 }) long is size (λ r s sort below none. bare r);
  exact = settled_exact o ops old new (record { sort = 1; size = 1 }) long is
      (λ s n some. let no : None ≡ Some n = sym (bare s) ∙ some in cc)
      (λ s small none below. record { term = Name 0; reached = (a_name 0, below); count = refl; fewest = λ t of. some_symbol of.0 });
}

-- the operator of an offer
offer_made : (sizes : List (Option ℕ)) (decl : OpDecl) (b : Offer) → offered sizes decl ≡ Some b →
    (get_or sizes decl.result None ≡ None) × (decl.result ≡ b.sort) × (summed sizes 1 decl.args ≡ Some b.size)
offer_made sizes decl b e =
    option_cases ((get_or sizes decl.result None ≡ None) × (decl.result ≡ b.sort) × (summed sizes 1 decl.args ≡ Some b.size)) (get_or sizes decl.result None)
    (λ none. option_cases ((get_or sizes decl.result None ≡ None) × (decl.result ≡ b.sort) × (summed sizes 1 decl.args ≡ Some b.size)) (summed sizes 1 decl.args)
    (λ unknown.
    let no : None ≡ Some b =
    sym (ap (λ g. cond (is_some g) None (option_map (λ m. record { sort = decl.result; size = m }) (summed sizes 1 decl.args))) none ∙ ap (option_map (λ m. record { sort = decl.result; size = m })) unknown) ∙ e in
    cc)
    (λ m known.
    let same : Some (record { sort = decl.result; size = m }) ≡ Some b = sym (offered_open sizes decl m none known) ∙ e in
    (none, some_sort decl.result m b same, known ∙ ap Some (some_size decl.result m b same))))
    (λ v some.
    let no : None ≡ Some b =
    sym (ap (λ g. cond (is_some g) None (option_map (λ m. record { sort = decl.result; size = m }) (summed sizes 1 decl.args))) some) ∙ e in
    cc)
  where
    some_sort : (r m : ℕ) (c : Offer) → Some (record { sort = r; size = m }) ≡ Some c → r ≡ c.sort
    some_sort r m c f = ap (λ x. elim x [ None ↦ r | Some y ↦ y.sort ]) f

    some_size : (r m : ℕ) (c : Offer) → Some (record { sort = r; size = m }) ≡ Some c → m ≡ c.size
    some_size r m c f = ap (λ x. elim x [ None ↦ m | Some y ↦ y.size ]) f

-- the operator that an offer among those of all comes from
contains_map : {X Y : Type 0} (f : X → Y) (xs : List X) (y : Y) → Contains (map f xs) y → (k : ℕ) × (x : X) × (slice_get xs k ≡ Some x) × (f x ≡ y)
contains_map f [] y has = absurd (let no : ⊥ = omega (arith, has.1) in no)
contains_map f (x ∷ xs) y (zero, small, is) = (zero, x, refl, is)
contains_map f (x ∷ xs) y (suc k, small, is) =
    let rest = contains_map f xs y (k, omega (arith, small), is) in
    (suc rest.0, rest.1, rest.2, rest.3)

-- no operator offers fewer symbols than the cheapest
cheapest_all : (sizes : List (Option ℕ)) (ops : List OpDecl) (b : Offer) → IsCheapest sizes ops (Some b) →
    (num : ℕ) (decl : OpDecl) → slice_get ops num ≡ Some decl → IfSome (offered sizes decl) (λ other. b.size ≤ other.size)
cheapest_all sizes ops b cheapest num decl at =
    subst (λ d. IfSome (offered sizes d) (λ other. b.size ≤ other.size)) (get_or_from_slice_get ops num decl decl at)
    (All-get_or (λ d. IfSome (offered sizes d) (λ other. b.size ≤ other.size)) ops num decl (slice_get_within ops num decl at) cheapest.1)

none_offered : (sizes : List (Option ℕ)) (ops : List OpDecl) (n : ℕ) → IsCheapest sizes ops None →
    (num : ℕ) (decl : OpDecl) → slice_get ops num ≡ Some decl → IfSome (offered sizes decl) (λ other. n ≤ other.size)
none_offered sizes ops n cheapest num decl at =
    let none : offered sizes decl ≡ None =
    subst (λ d. offered sizes d ≡ None) (get_or_from_slice_get ops num decl decl at) (All-get_or (λ d. offered sizes d ≡ None) ops num decl (slice_get_within ops num decl at) cheapest) in
    subst (λ x. IfSome x (λ other. n ≤ other.size)) (sym none) tt

-- an offer that is settled keeps what the rounds keep
pub settle_kept : (o : Subsorts) (ops : List OpDecl) (old new : List (Option ℕ)) (b : Offer) → AreSettled o ops old → HaveSorts o ops → IsCheapest old ops (Some b) → length new ≡ length old →
    ((s : ℕ) → s < length old → get_or new s None ≡ settled (get_or old s None) (at_or_below o b.sort s) b.size) → AreSettled o ops new
settle_kept o ops old new b kept have cheapest long is =
    let source = contains_map (offered old) ops (Some b) cheapest.0 in
    let num = source.0 in
    let decl = source.1 in
    let made = offer_made old decl b source.3 in
    let args = filled o ops old kept.exact decl.args 1 b.size (omega arith) made.2 in
    record {
      long = long ∙ kept.long;
      names = λ s sort below none. kept.names s sort below (before_none o ops old new b long is s (omega (arith, kept.long, sort)) none).0;
      upward = settled_upward o ops old new b long is kept.long kept.upward;
      exact = settled_exact o ops old new b long is kept.exact (λ s small none below. record {
        term = App (declared_op num decl) args.0;
        reached = (an_application num decl args.0 source.2 args.1, subst (λ r. IsAtOrBelow o r s) (sym made.1) below);
        count = ap (λ c. min c (2 ^ 64 - 1)) (count_app num decl args.0) ∙ args.2;
        fewest = λ t of. unsettled_count o ops old kept have b.size (cheapest_all old ops b cheapest) of.0 s (omega (arith, kept.long, small)) of.1 none;
      });
    }

-- the least sort of a ground term is a sort, and so are those above it
built_sort : {o : Subsorts} {ops : List OpDecl} {t : Term} → HaveSorts o ops → IsBuilt o ops t → IsSort o (least_sort t)
built_sort have (a_name n) = omega arith
built_sort have (an_application num decl ts at args) = (have num decl at).0

pub upper_sort : (o : Subsorts) → AreSorts o → (r s : ℕ) → IsSort o r → IsAtOrBelow o r s → IsSort o s
upper_sort o pairs r s sort (inl same) = subst (IsSort o) same sort
upper_sort o pairs r s sort (inr below) = below_upper pairs below

-- where no operator offers anything, all sizes are known
pub settled_all : (o : Subsorts) (ops : List OpDecl) (sizes : List (Option ℕ)) → AreSettled o ops sizes → HaveSorts o ops → AreSorts o → IsCheapest sizes ops None → AreSizes o ops sizes
settled_all o ops sizes kept have pairs cheapest = record {
  long = kept.long;
  exact = λ s. option_cases (IsSizeOf o ops s (get_or sizes s None)) (get_or sizes s None)
      (λ none. subst (IsSizeOf o ops s) (sym none) (λ t of.
      let sort : IsSort o s = upper_sort o pairs (least_sort t) s (built_sort have of.0) of.1 in
      let more : symbol_count t + 1 ≤ symbol_count t = unsettled_count o ops sizes kept have (symbol_count t + 1) (none_offered sizes ops (symbol_count t + 1) cheapest) of.0 s sort of.1 none in
      let no : ⊥ = omega (arith, more) in
      no))
      (λ n some. subst (IsSizeOf o ops s) (sym some) (kept.exact s n some));
}

-- each round leaves fewer sorts without a size

unsettled_le : (old new : List (Option ℕ)) → length new ≡ length old → ((s : ℕ) → s < length old → get_or new s None ≡ None → get_or old s None ≡ None) → unsettled new ≤ unsettled old
unsettled_le [] [] long stays = omega arith
unsettled_le [] (y ∷ new) long stays = absurd (let no : ⊥ = omega (arith, long) in no)
unsettled_le (x ∷ old) [] long stays = absurd (let no : ⊥ = omega (arith, long) in no)
unsettled_le (None ∷ old) (None ∷ new) long stays =
    let rest = unsettled_le old new (omega (arith, long)) (λ s small. stays (suc s) (omega (arith, small))) in omega (arith, rest)
unsettled_le (None ∷ old) (Some n ∷ new) long stays =
    let rest = unsettled_le old new (omega (arith, long)) (λ s small. stays (suc s) (omega (arith, small))) in omega (arith, rest)
unsettled_le (Some m ∷ old) (None ∷ new) long stays = absurd (let no : Some m ≡ None = stays 0 (omega arith) refl in let bad : ⊥ = cc in bad)
unsettled_le (Some m ∷ old) (Some n ∷ new) long stays = unsettled_le old new (omega (arith, long)) (λ s small. stays (suc s) (omega (arith, small)))

unsettled_less : (old new : List (Option ℕ)) (k n : ℕ) → length new ≡ length old → ((s : ℕ) → s < length old → get_or new s None ≡ None → get_or old s None ≡ None) →
    k < length old → get_or old k None ≡ None → get_or new k None ≡ Some n → unsettled new < unsettled old
unsettled_less [] new k n long stays small none some = absurd (let no : ⊥ = omega (arith, small) in no)
unsettled_less (x ∷ old) [] k n long stays small none some = absurd (let no : ⊥ = omega (arith, long) in no)
unsettled_less (None ∷ old) (None ∷ new) zero n long stays small none some = absurd (let bad : ⊥ = cc in bad)
unsettled_less (None ∷ old) (Some m ∷ new) zero n long stays small none some =
    let rest = unsettled_le old new (omega (arith, long)) (λ s low. stays (suc s) (omega (arith, low))) in omega (arith, rest)
unsettled_less (Some m ∷ old) (y ∷ new) zero n long stays small none some = absurd (let bad : ⊥ = cc in bad)
unsettled_less (None ∷ old) (None ∷ new) (suc k) n long stays small none some =
    let rest = unsettled_less old new k n (omega (arith, long)) (λ s low. stays (suc s) (omega (arith, low))) (omega (arith, small)) none some in omega (arith, rest)
unsettled_less (None ∷ old) (Some m ∷ new) (suc k) n long stays small none some =
    let rest = unsettled_less old new k n (omega (arith, long)) (λ s low. stays (suc s) (omega (arith, low))) (omega (arith, small)) none some in omega (arith, rest)
unsettled_less (Some m ∷ old) (None ∷ new) (suc k) n long stays small none some = absurd (let no : Some m ≡ None = stays 0 (omega arith) refl in let bad : ⊥ = cc in bad)
unsettled_less (Some m ∷ old) (Some l ∷ new) (suc k) n long stays small none some =
    unsettled_less old new k n (omega (arith, long)) (λ s low. stays (suc s) (omega (arith, low))) (omega (arith, small)) none some

pub settle_less : (o : Subsorts) (ops : List OpDecl) (old new : List (Option ℕ)) (b : Offer) → AreSettled o ops old → HaveSorts o ops → IsCheapest old ops (Some b) → length new ≡ length old →
    ((s : ℕ) → s < length old → get_or new s None ≡ settled (get_or old s None) (at_or_below o b.sort s) b.size) → unsettled new < unsettled old
settle_less o ops old new b kept have cheapest long is =
    let source = contains_map (offered old) ops (Some b) cheapest.0 in
    let made = offer_made old source.1 b source.3 in
    let sort : IsSort o b.sort = subst (IsSort o) made.1 (have source.0 source.1 source.2).0 in
    let none : get_or old b.sort None ≡ None = subst (λ r. get_or old r None ≡ None) made.1 made.0 in
    let small : b.sort < length old = omega (arith, sort, kept.long) in
    let up : at_or_below o b.sort b.sort ≡ true = (decides o b.sort b.sort).1 (inl refl) in
    unsettled_less old new b.sort b.size long (λ s low e. (before_none o ops old new b long is s low e).0) small none
    (is b.sort small ∙ ap (λ x. settled x (at_or_below o b.sort b.sort) b.size) none ∙ ap (λ x. settled None x b.size) up)

pub nothing_known : (n s : ℕ) → get_or (replicate {A = Option ℕ} n None) s None ≡ None
nothing_known zero s = refl
nothing_known (suc n) zero = refl
nothing_known (suc n) (suc s) = nothing_known n s

-- a relation that None has to None alone
pub only_none : (B : Option ℕ → Type 0) → ((n : ℕ) → B (Some n) → ⊥) → (y : Option ℕ) → B y → y ≡ None
only_none B never None b = refl
only_none B never (Some n) b = absurd (never n b)

-- The least terms of a sort are those of the first operator of the sort's size, on the least terms
-- of its argument sorts.
use Rattle.std.proofs.Common.{◌≡◌, ◌≢◌, ℕ, zero, suc, ◌+◌, ◌<◌, ◌≤◌, ◌-◌, ◌^◌, min, Bool, true, false, List, [], ◌∷◌, ◌++◌, Option, None, Some, take, length, get_or, Ordering, Less, Equal, Greater, refl, sym, ◌∙◌, ap, subst, inl, inr, arith}
use Rattle.std.specs.Prelude.{All, IfSome, IsSomeAnd, slice_get, cond, ◌==◌}
use Rattle.std.specs.Option.{option_and_then}
use Rattle.std.specs.Ordering.{nat_cmp, ordering_then}
use Rattle.std.specs.Cmp.Lexicographic.{slice_cmp}
use Rattle.std.proofs.lemmas.Bool.{and_parts, and_from, eqb-true, eq-eqb, cases_lt, cases_eq, lt-ltb, le-ltb}
use Rattle.std.proofs.lemmas.List.{take_more, get_or-take, length-take}
use Rattle.std.proofs.lemmas.List.Elements.{All-get_or, All-more}
use Rattle.std.proofs.lemmas.Option.{get_or_from_slice_get, slice_get_within, slice_get-get_or}
use Rattle.npa_sorts.specs.Subsorts.{Subsorts, IsAtOrBelow, at_or_below}
use Rattle.npa_sorts.proofs.Climbs.{decides}
use Rattle.npa_term.specs.declared.term.Op.{Op}
use Rattle.npa_term.specs.declared.term.Term.{Term}
use Rattle.npa_term.specs.declared.term.Term.TheVariants.{Name, App}
use Rattle.npa_term.specs.Order.{term_cmp}
use Rattle.npa_term.specs.Symbols.{symbol_count, all_count}
use Rattle.npa_term.proofs.Rows.{cmp_apps}
use Rattle.npa_sig.specs.declared.signature.OpDecl.{OpDecl}
use Rattle.npa_term.specs.Parts.{least_sort}
use Rattle.npa_sig.specs.Least.{declared_op, IsBuilt, a_name, an_application, AreBuilt, no_arguments, an_argument, IsBuiltOf, IsEmpty, IsLeastCount, IsLeastTerm, IsLeastIn}
use Rattle.npa_sig.specs.Operators.{HaveSorts}
use Rattle.npa_sig.specs.Sizes.{summed, same_size, is_least_op, IsFirstOp, IsSizeOf, AreSizes}
use Rattle.npa_sig.proofs.SizeLaws.{count_app, option_cases, known_count, filled, some_symbol}

abbrev pub size_or_zero : Option ℕ → ℕ
size_or_zero None = 0
size_or_zero (Some n) = n

-- the size of a sort, 0 where it has none
abbrev pub known_size : List (Option ℕ) → ℕ → ℕ
known_size sizes s = size_or_zero (get_or sizes s None)

-- least terms of sorts
abbrev pub AreLeast : Subsorts → List OpDecl → List ℕ → List Term → Type 0
AreLeast o ops [] [] = Unit {0}
AreLeast o ops (s ∷ ss) (t ∷ ts) = IsLeastTerm (IsBuiltOf o ops s) t × AreLeast o ops ss ts
AreLeast o ops [] (t ∷ ts) = ⊥
AreLeast o ops (s ∷ ss) [] = ⊥

are_least_push : (o : Subsorts) (ops : List OpDecl) (ss : List ℕ) (ts : List Term) (s : ℕ) (t : Term) → AreLeast o ops ss ts → IsLeastTerm (IsBuiltOf o ops s) t → AreLeast o ops (ss ++ s ∷ []) (ts ++ t ∷ [])
are_least_push o ops [] [] s t least this = (this, tt)
are_least_push o ops (r ∷ ss) (u ∷ ts) s t least this = (least.0, are_least_push o ops ss ts s t least.1 this)
are_least_push o ops [] (u ∷ ts) s t least this = absurd least
are_least_push o ops (r ∷ ss) [] s t least this = absurd least

pub are_least_more : (o : Subsorts) (ops : List OpDecl) (ss : List ℕ) (ts : List Term) (i s : ℕ) (t : Term) → i < length ss → s ≡ get_or ss i s → AreLeast o ops (take i ss) ts → IsLeastTerm (IsBuiltOf o ops s) t →
    AreLeast o ops (take (i + 1) ss) (ts ++ t ∷ [])
are_least_more o ops ss ts i s t small is least this =
    subst (λ rs. AreLeast o ops rs (ts ++ t ∷ [])) (ap (λ r. take i ss ++ r ∷ []) is ∙ sym (take_more ss i s small)) (are_least_push o ops (take i ss) ts s t least this)

are_built : (o : Subsorts) (ops : List OpDecl) (ss : List ℕ) (ts : List Term) → AreLeast o ops ss ts → AreBuilt o ops ss ts
are_built o ops [] [] least = no_arguments
are_built o ops (s ∷ ss) (t ∷ ts) least = an_argument s t ss ts least.0.is.0 least.0.is.1 (are_built o ops ss ts least.1)
are_built o ops [] (t ∷ ts) least = absurd least
are_built o ops (s ∷ ss) [] least = absurd least

-- a sum that isn't saturated is that of its parts
abbrev total : List (Option ℕ) → List ℕ → ℕ
total sizes [] = 0
total sizes (s ∷ ss) = known_size sizes s + total sizes ss

summed_total : (sizes : List (Option ℕ)) (ss : List ℕ) (m r : ℕ) → r ≤ 64 → summed sizes m ss ≡ Some r → r ≡ m + total sizes ss
summed_total sizes [] m r small e = let same : m ≡ r = cc in omega (arith, same)
summed_total sizes (s ∷ ss) m r small e =
    option_cases (r ≡ m + (size_or_zero (get_or sizes s None) + total sizes ss)) (get_or sizes s None)
    (λ none. let no : None ≡ Some r = ap (option_and_then (λ v. summed sizes (min (m + v) (2 ^ 64 - 1)) ss)) (sym none) ∙ e in cc)
    (λ v some.
    let on : summed sizes (min (m + v) (2 ^ 64 - 1)) ss ≡ Some r = ap (option_and_then (λ w. summed sizes (min (m + w) (2 ^ 64 - 1)) ss)) (sym some) ∙ e in
    let rest : r ≡ min (m + v) (2 ^ 64 - 1) + total sizes ss = summed_total sizes ss (min (m + v) (2 ^ 64 - 1)) r small on in
    let size : size_or_zero (get_or sizes s None) ≡ v = ap size_or_zero some in
    grind (arith, rest, size, small))

-- each sort of a sum has a size, which is less
summed_part : (sizes : List (Option ℕ)) (ss : List ℕ) (m r k s : ℕ) → 1 ≤ m → r ≤ 64 → summed sizes m ss ≡ Some r → slice_get ss k ≡ Some s → (v : ℕ) × (get_or sizes s None ≡ Some v) × (v < r)
summed_part sizes [] m r k s one small e at = absurd (let no : ⊥ = cc in no)
summed_part sizes (a ∷ ss) m r k s one small e at =
    option_cases ((v : ℕ) × (get_or sizes s None ≡ Some v) × (v < r)) (get_or sizes a None)
    (λ none. let no : None ≡ Some r = ap (option_and_then (λ v. summed sizes (min (m + v) (2 ^ 64 - 1)) ss)) (sym none) ∙ e in cc)
    (λ v some.
    let on : summed sizes (min (m + v) (2 ^ 64 - 1)) ss ≡ Some r = ap (option_and_then (λ w. summed sizes (min (m + w) (2 ^ 64 - 1)) ss)) (sym some) ∙ e in
    let sum : r ≡ min (m + v) (2 ^ 64 - 1) + total sizes ss = summed_total sizes ss (min (m + v) (2 ^ 64 - 1)) r small on in
    at_place k at v some on sum (summed_part sizes ss (min (m + v) (2 ^ 64 - 1)) r))
  where
    at_place : (k : ℕ) → slice_get (a ∷ ss) k ≡ Some s → (v : ℕ) → get_or sizes a None ≡ Some v → summed sizes (min (m + v) (2 ^ 64 - 1)) ss ≡ Some r → r ≡ min (m + v) (2 ^ 64 - 1) + total sizes ss →
        ((j b : ℕ) → 1 ≤ min (m + v) (2 ^ 64 - 1) → r ≤ 64 → summed sizes (min (m + v) (2 ^ 64 - 1)) ss ≡ Some r → slice_get ss j ≡ Some b → (w : ℕ) × (get_or sizes b None ≡ Some w) × (w < r)) →
        (w : ℕ) × (get_or sizes s None ≡ Some w) × (w < r)
    at_place zero at v some on sum later = (v, subst (λ x. get_or sizes x None ≡ Some v) (let same : a ≡ s = cc in same) some, grind (arith, sum, one, small))
    at_place (suc j) at v some on sum later = later j s (grind arith) small on at

-- a least term has as many symbols as the size says
pub least_size : (P : Term → Type 0) (n : ℕ) (t : Term) → n ≤ 64 → IsLeastCount P n → IsLeastTerm P t → symbol_count t ≡ n
least_size P n t small count least =
    let low : n ≤ symbol_count t = count.fewest t least.is in
    let high : symbol_count t ≤ symbol_count count.term = least.fewest count.term count.reached in
    let reached : min (symbol_count count.term) (2 ^ 64 - 1) ≡ n = count.count in
    grind (arith, low, high, reached, small)

-- where no operator passes a test, none does
pub never_passes : (ops : List OpDecl) (test : OpDecl → Bool) (j : ℕ) (d : OpDecl) → All (λ x. test x ≡ false) ops → slice_get ops j ≡ Some d → test d ≡ false
never_passes ops test j d all at = subst (λ x. test x ≡ false) (get_or_from_slice_get ops j d d at) (All-get_or (λ x. test x ≡ false) ops j d (slice_get_within ops j d at) all)

module _ (o : Subsorts) (ops : List OpDecl) (sizes : List (Option ℕ)) (known : AreSizes o ops sizes) (have : HaveSorts o ops) where
  pub size_exact : (s n : ℕ) → get_or sizes s None ≡ Some n → IsLeastCount (IsBuiltOf o ops s) n
  size_exact s n some = subst (IsSizeOf o ops s) some (known.exact s)

  pub size_none : (s : ℕ) → get_or sizes s None ≡ None → IsEmpty (IsBuiltOf o ops s)
  size_none s none = subst (IsSizeOf o ops s) none (known.exact s)

  -- the least arguments have as many symbols as the sizes say
  least_total : (ss : List ℕ) (ts : List Term) → ((k s : ℕ) → slice_get ss k ≡ Some s → (v : ℕ) × (get_or sizes s None ≡ Some v) × (v ≤ 64)) → AreLeast o ops ss ts → all_count ts ≡ total sizes ss
  least_total [] [] parts least = refl
  least_total (s ∷ ss) (t ∷ ts) parts least =
      let part = parts 0 s refl in
      let here : symbol_count t ≡ part.0 = least_size (IsBuiltOf o ops s) part.0 t part.2 (size_exact s part.0 part.1) least.0 in
      let size : size_or_zero (get_or sizes s None) ≡ part.0 = ap size_or_zero part.1 in
      let rest : all_count ts ≡ total sizes ss = least_total ss ts (λ k. parts (suc k)) least.1 in
      omega (arith, here, size, rest)
  least_total [] (t ∷ ts) parts least = absurd least
  least_total (s ∷ ss) [] parts least = absurd least

  -- arguments that are terms of their sorts have a sum
  summed_of : {ss : List ℕ} {ts : List Term} → AreBuilt o ops ss ts → (m : ℕ) → (r : ℕ) × (summed sizes m ss ≡ Some r)
  summed_of no_arguments m = (m, refl)
  summed_of (an_argument s t ss ts b under rest) m =
      let later : (v : ℕ) → (r : ℕ) × (summed sizes (min (m + v) (2 ^ 64 - 1)) ss ≡ Some r) = λ v. summed_of rest (min (m + v) (2 ^ 64 - 1)) in
      option_cases ((r : ℕ) × (summed sizes m (s ∷ ss) ≡ Some r)) (get_or sizes s None)
      (λ none. absurd (size_none s none t (b, under)))
      (λ v some. ((later v).0, ap (option_and_then (λ w. summed sizes (min (m + w) (2 ^ 64 - 1)) ss)) some ∙ (later v).1))

  -- an operator of a term of the sort with the least number of symbols passes the test
  passes : (s n num : ℕ) (decl : OpDecl) (us : List Term) → get_or sizes s None ≡ Some n → n ≤ 64 → slice_get ops num ≡ Some decl → AreBuilt o ops decl.args us → IsAtOrBelow o decl.result s →
      1 + all_count us ≡ n → is_least_op o sizes s decl ≡ true
  passes s n num decl us some small at args below count =
      let sum = summed_of args 1 in
      let high : sum.0 ≤ 1 + all_count us = known_count o ops sizes size_exact args 1 sum.0 sum.1 in
      let made = filled o ops sizes size_exact decl.args 1 sum.0 (omega arith) sum.1 in
      let low : n ≤ symbol_count (App (declared_op num decl) made.0) = (size_exact s n some).fewest (App (declared_op num decl) made.0) (an_application num decl made.0 at made.1, below) in
      let whole : symbol_count (App (declared_op num decl) made.0) ≡ 1 + all_count made.0 = count_app num decl made.0 in
      let reached : min (1 + all_count made.0) (2 ^ 64 - 1) ≡ sum.0 = made.2 in
      let same : sum.0 ≡ n = grind (arith, high, low, whole, reached, count, small) in
      and_from (at_or_below o decl.result s) (same_size (get_or sizes s None) (summed sizes 1 decl.args)) ((decides o decl.result s).1 below)
      (ap (λ x. same_size x (summed sizes 1 decl.args)) some ∙ ap (same_size (Some n)) (sum.1 ∙ ap Some same) ∙ eq-eqb n n refl)

  -- least arguments come first among those with as many symbols
  fewest_arguments : {ss : List ℕ} {us : List Term} → AreBuilt o ops ss us → (ts : List Term) → AreLeast o ops ss ts → all_count ts ≤ all_count us
  fewest_arguments no_arguments [] least = omega arith
  fewest_arguments no_arguments (t ∷ ts) least = absurd least
  fewest_arguments (an_argument s u ss us b under rest) [] least = absurd least
  fewest_arguments (an_argument s u ss us b under rest) (t ∷ ts) least =
      let here : symbol_count t ≤ symbol_count u = least.0.fewest u (b, under) in
      let later : all_count ts ≤ all_count us = fewest_arguments rest ts least.1 in
      omega (arith, here, later)

  then_not_greater : (p q : Ordering) → p ≢ Greater → q ≢ Greater → ordering_then p q ≢ Greater
  then_not_greater Less q a b = a
  then_not_greater Equal q a b = b
  then_not_greater Greater q a b = a

  first_arguments : {ss : List ℕ} {us : List Term} → AreBuilt o ops ss us → (ts : List Term) → AreLeast o ops ss ts → all_count us ≡ all_count ts → slice_cmp term_cmp ts us ≢ Greater
  first_arguments no_arguments [] least same = λ e. let no : ⊥ = cc in no
  first_arguments no_arguments (t ∷ ts) least same = absurd least
  first_arguments (an_argument s u ss us b under rest) [] least same = absurd least
  first_arguments (an_argument s u ss us b under rest) (t ∷ ts) least same =
      let here : symbol_count t ≤ symbol_count u = least.0.fewest u (b, under) in
      let later : all_count ts ≤ all_count us = fewest_arguments rest ts least.1 in
      then_not_greater (term_cmp t u) (slice_cmp term_cmp ts us) (least.0.first u (b, under) (omega (arith, here, later, same)))
      (first_arguments rest ts least.1 (omega (arith, here, later, same)))

  -- the parts of the test
  same_sizes : (a b : Option ℕ) → same_size a b ≡ true → (n : ℕ) × (a ≡ Some n) × (b ≡ Some n)
  same_sizes None b e = absurd (let no : ⊥ = cc in no)
  same_sizes (Some m) None e = absurd (let no : ⊥ = cc in no)
  same_sizes (Some m) (Some n) e = (m, refl, ap Some (sym (eqb-true m n e)))

  pub least_op_parts : (s : ℕ) (decl : OpDecl) → is_least_op o sizes s decl ≡ true → (n : ℕ) × (get_or sizes s None ≡ Some n) × (summed sizes 1 decl.args ≡ Some n) × IsAtOrBelow o decl.result s
  least_op_parts s decl passed =
      let parts = and_parts (at_or_below o decl.result s) (same_size (get_or sizes s None) (summed sizes 1 decl.args)) passed in
      let same = same_sizes (get_or sizes s None) (summed sizes 1 decl.args) parts.1 in
      (same.0, same.1, same.2, (decides o decl.result s).0 parts.0)

  -- an operator before the first that passes doesn't pass
  not_earlier : (test : OpDecl → Bool) (num j : ℕ) (d : OpDecl) → All (λ x. test x ≡ false) (take num ops) → j < num → slice_get ops j ≡ Some d → test d ≡ false
  not_earlier test num j d before less at =
      let within : j < length ops = slice_get_within ops j d at in
      let here : get_or (take num ops) j d ≡ d = get_or-take num ops j d less ∙ get_or_from_slice_get ops j d d at in
      subst (λ x. test x ≡ false) here (All-get_or (λ x. test x ≡ false) (take num ops) j d (grind (arith, length-take num ops, within, less)) before)

  less_first : (m n : ℕ) (q : Ordering) → m < n → ordering_then (nat_cmp m n) q ≢ Greater
  less_first m n q less =
      let is : nat_cmp m n ≡ Less = ap (λ b. cond b Less (cond (m == n) Equal Greater)) (lt-ltb m n less) in
      subst (λ p. ordering_then p q ≢ Greater) (sym is) (λ e. let no : ⊥ = cc in no)

  same_not_greater : (m n : ℕ) → m ≡ n → nat_cmp m n ≢ Greater
  same_not_greater m n same =
      let is : nat_cmp m n ≡ Equal = ap (λ b. cond b Less (cond (m == n) Equal Greater)) (le-ltb m n (omega (arith, same))) ∙ ap (λ b. cond b Equal Greater) (eq-eqb m n same) in
      subst (λ p. p ≢ Greater) (sym is) (λ e. let no : ⊥ = cc in no)

  -- the fresh name 0 is the first ground term
  name_first : {u : Term} → IsBuilt o ops u → term_cmp (Name 0) u ≢ Greater
  name_first (a_name zero) = λ e. let no : ⊥ = cc in no
  name_first (a_name (suc m)) = λ e. let no : ⊥ = grind (arith, e) in no
  name_first (an_application num decl ts at args) = λ e. let no : ⊥ = cc in no

  pub least_name : (s : ℕ) → IsAtOrBelow o 1 s → IsLeastTerm (IsBuiltOf o ops s) (Name 0)
  least_name s under = record {
    is = (a_name 0, under);
    fewest = λ u of. some_symbol of.0;
    first = λ u of count. name_first of.0;
  }

  -- where no operator passes there is no term
  count_unpassed : (s n : ℕ) {u : Term} → IsBuilt o ops u → IsAtOrBelow o (least_sort u) s → (IsAtOrBelow o 1 s → ⊥) → get_or sizes s None ≡ Some n → n ≤ 64 → min (symbol_count u) (2 ^ 64 - 1) ≡ n →
      All (λ decl. is_least_op o sizes s decl ≡ false) ops → ⊥
  count_unpassed s n (a_name m) under not_name some small count all = not_name under
  count_unpassed s n (an_application num decl us at args) under not_name some small count all =
      let whole : symbol_count (App (declared_op num decl) us) ≡ 1 + all_count us = count_app num decl us in
      let is : 1 + all_count us ≡ n = grind (arith, whole, count, small) in
      let no : true ≡ false = sym (passes s n num decl us some small at args under is) ∙ never_passes ops (is_least_op o sizes s) num decl all at in
      cc

  pub none_passes : (s : ℕ) → (IsAtOrBelow o 1 s → ⊥) → IfSome (get_or sizes s None) (λ n. n ≤ 64) → IsFirstOp (is_least_op o sizes s) ops None → IsEmpty (IsBuiltOf o ops s)
  none_passes s not_name small all =
      option_cases (IsEmpty (IsBuiltOf o ops s)) (get_or sizes s None)
      (λ none. size_none s none)
      (λ n some.
      let count = size_exact s n some in
      absurd (count_unpassed s n count.reached.0 count.reached.1 not_name some (subst (λ x. IfSome x (λ m. m ≤ 64)) some small) count.count all))

  -- a sort of a sum isn't empty
  pub part_not_empty : (ss : List ℕ) (n k s : ℕ) → n ≤ 64 → summed sizes 1 ss ≡ Some n → slice_get ss k ≡ Some s → IsEmpty (IsBuiltOf o ops s) → ⊥
  part_not_empty ss n k s small sum at empty =
      let part = summed_part sizes ss 1 n k s (omega arith) small sum at in
      let count = size_exact s part.0 part.1 in
      empty count.term count.reached

  -- a sort of a sum has a smaller size
  pub part_size : (ss : List ℕ) (n k s : ℕ) → n ≤ 64 → summed sizes 1 ss ≡ Some n → slice_get ss k ≡ Some s → (v : ℕ) × (get_or sizes s None ≡ Some v) × (v < n)
  part_size ss n k s small sum at = summed_part sizes ss 1 n k s (omega arith) small sum at

  -- the term of the first operator that passes, on least arguments
  module _ (s n num : ℕ) (decl : OpDecl) (ts : List Term) (some : get_or sizes s None ≡ Some n) (small : n ≤ 64) (sum : summed sizes 1 decl.args ≡ Some n) (under : IsAtOrBelow o decl.result s)
      (at : slice_get ops num ≡ Some decl) (not_name : IsAtOrBelow o 1 s → ⊥) (before : All (λ d. is_least_op o sizes s d ≡ false) (take num ops)) (least : AreLeast o ops decl.args ts) where
    made_count : symbol_count (App (declared_op num decl) ts) ≡ n
    made_count =
        let parts : (k a : ℕ) → slice_get decl.args k ≡ Some a → (v : ℕ) × (get_or sizes a None ≡ Some v) × (v ≤ 64) =
        λ k a here. let part = summed_part sizes decl.args 1 n k a (omega arith) small sum here in (part.0, part.1, omega (arith, part.2, small)) in
        omega (arith, count_app num decl ts, least_total decl.args ts parts least, summed_total sizes decl.args 1 n small sum)

    same_first : (num' : ℕ) (decl' : OpDecl) (us : List Term) → num ≡ num' → slice_get ops num' ≡ Some decl' → AreBuilt o ops decl'.args us → all_count us ≡ all_count ts → slice_cmp term_cmp ts us ≢ Greater
    same_first num' decl' us same at' args' count =
        let found : Some decl ≡ Some decl' = sym at ∙ ap (slice_get ops) same ∙ at' in
        first_arguments (subst (λ d. AreBuilt o ops d.args us) (sym (some_same found)) args') ts least count
      where
        some_same : {a b : OpDecl} → Some a ≡ Some b → a ≡ b
        some_same {a} e = ap (λ x. elim x [ None ↦ a | Some y ↦ y ]) e

    made_first : {u : Term} → IsBuilt o ops u → IsAtOrBelow o (least_sort u) s → symbol_count u ≡ symbol_count (App (declared_op num decl) ts) → term_cmp (App (declared_op num decl) ts) u ≢ Greater
    made_first (a_name m) below count = absurd (not_name below)
    made_first (an_application num' decl' us at' args') below count =
        let other : symbol_count (App (declared_op num' decl') us) ≡ 1 + all_count us = count_app num' decl' us in
        let this : symbol_count (App (declared_op num decl) ts) ≡ 1 + all_count ts = count_app num decl ts in
        let passed : is_least_op o sizes s decl' ≡ true = passes s n num' decl' us some small at' args' below (omega (arith, other, count, made_count)) in
        subst (λ p. p ≢ Greater) (sym (cmp_apps (declared_op num decl) (declared_op num' decl') ts us))
        (elim (cases_lt num' num) [
          | inl earlier ↦ let no : true ≡ false = sym passed ∙ not_earlier (is_least_op o sizes s) num num' decl' before earlier at' in absurd (let bad : ⊥ = cc in bad)
          | inr later ↦ elim (cases_eq num num') [
            | inl same ↦ then_not_greater (nat_cmp num num') (slice_cmp term_cmp ts us) (same_not_greater num num' same) (same_first num' decl' us same at' args' (omega (arith, other, this, count)))
            | inr apart ↦ less_first num num' (slice_cmp term_cmp ts us) (omega (arith, later, apart))
          ]
        ])

    pub made_least : IsLeastTerm (IsBuiltOf o ops s) (App (declared_op num decl) ts)
    made_least = record {
      is = (an_application num decl ts at (are_built o ops decl.args ts least), under);
      fewest = λ u of. let low : n ≤ symbol_count u = (size_exact s n some).fewest u of in omega (arith, low, made_count);
      first = λ u of count. made_first of.0 of.1 count;
    }

-- one more operator that doesn't pass
pub passed_more : (test : OpDecl → Bool) (ops : List OpDecl) (i : ℕ) (decl : OpDecl) → i < length ops → decl ≡ get_or ops i decl → test decl ≡ false →
    All (λ d. test d ≡ false) (take i ops) → All (λ d. test d ≡ false) (take (i + 1) ops)
passed_more test ops i decl small is fails before = All-more (λ d. test d ≡ false) ops i decl small before (subst (λ d. test d ≡ false) is fails)

-- the least term of the sort of fresh names
only_name : (o : Subsorts) (ops : List OpDecl) {t : Term} → IsBuilt o ops t → term_cmp t (Name 0) ≢ Greater → t ≡ Name 0
only_name o ops (a_name zero) first = refl
only_name o ops (a_name (suc m)) first = absurd (first (grind arith))
only_name o ops (an_application num decl ts at args) first = absurd (first refl)

least_of_fresh : (o : Subsorts) (ops : List OpDecl) (found : Option Term) → IsLeastIn (IsBuiltOf o ops 1) found → found ≡ Some (Name 0)
least_of_fresh o ops None empty = absurd (empty (Name 0) (a_name 0, inl refl))
least_of_fresh o ops (Some t) least =
    let high : symbol_count t ≤ 1 = least.fewest (Name 0) (a_name 0, inl refl) in
    let low : 1 ≤ symbol_count t = some_symbol least.is.0 in
    let count : symbol_count (Name 0) ≡ symbol_count t = omega (arith, high, low) in
    ap Some (only_name o ops least.is.0 (least.first (Name 0) (a_name 0, inl refl) count))

pub least_if_fresh : (o : Subsorts) (ops : List OpDecl) (s : ℕ) (found : Option Term) → IsLeastIn (IsBuiltOf o ops s) found → s ≡ 1 → found ≡ Some (Name 0)
least_if_fresh o ops s found least is = least_of_fresh o ops found (subst (λ r. IsLeastIn (IsBuiltOf o ops r) found) is least)

-- the first operator that passes
pub some_within : {X : Type 0} (P : X → Type 0) (xs : List X) (k : ℕ) → IsSomeAnd (slice_get xs k) P → k < length xs
some_within P [] k is = absurd is
some_within P (x ∷ xs) zero is = omega arith
some_within P (x ∷ xs) (suc k) is = let rest : k < length xs = some_within P xs k is in omega (arith, rest)

module _ (o : Subsorts) (ops : List OpDecl) (sizes : List (Option ℕ)) (known : AreSizes o ops sizes) (have : HaveSorts o ops) (s num : ℕ) (decl : OpDecl)
    (found : IsFirstOp (is_least_op o sizes s) ops (Some num)) (at : slice_get ops num ≡ Some decl) (small : IfSome (get_or sizes s None) (λ n. n ≤ 64)) where
  found_passes : is_least_op o sizes s decl ≡ true
  found_passes = subst (λ x. IsSomeAnd x (λ d. is_least_op o sizes s d ≡ true)) at found.0

  found_parts : (n : ℕ) × (get_or sizes s None ≡ Some n) × (summed sizes 1 decl.args ≡ Some n) × IsAtOrBelow o decl.result s
  found_parts = least_op_parts o ops sizes known have s decl found_passes

  found_small : found_parts.0 ≤ 64
  found_small = subst (λ x. IfSome x (λ n. n ≤ 64)) found_parts.1 small

  -- its argument at a place, as it is read
  module _ (k a : ℕ) (within : k < length decl.args) (is : a ≡ get_or decl.args k a) where
    place : slice_get decl.args k ≡ Some a
    place = slice_get-get_or decl.args k a within ∙ ap Some (sym is)

    part : (v : ℕ) × (get_or sizes a None ≡ Some v) × (v < found_parts.0)
    part = part_size o ops sizes known have decl.args found_parts.0 k a found_small found_parts.2 place

    pub found_less : known_size sizes a < known_size sizes s
    found_less =
        let here : known_size sizes a ≡ part.0 = ap size_or_zero part.1 in
        let whole : known_size sizes s ≡ found_parts.0 = ap size_or_zero found_parts.1 in
        omega (arith, here, whole, part.2)

    pub found_part : IfSome (get_or sizes a None) (λ n. n ≤ 64)
    found_part = subst (λ x. IfSome x (λ n. n ≤ 64)) (sym part.1) (omega (arith, part.2, found_small))

    pub found_nonempty : IsEmpty (IsBuiltOf o ops a) → ⊥
    found_nonempty empty = part_not_empty o ops sizes known have decl.args found_parts.0 k a found_small found_parts.2 place empty

  pub found_made : (ts us : List Term) (f : Op) → (IsAtOrBelow o 1 s → ⊥) → AreLeast o ops decl.args ts → us ≡ ts → f ≡ declared_op num decl → IsLeastTerm (IsBuiltOf o ops s) (App f us)
  found_made ts us f not_name least same is =
      subst (λ g. IsLeastTerm (IsBuiltOf o ops s) (App g us)) (sym is)
      (subst (λ vs. IsLeastTerm (IsBuiltOf o ops s) (App (declared_op num decl) vs)) (sym same)
      (made_least o ops sizes known have s found_parts.0 num decl ts found_parts.1 found_small found_parts.2 found_parts.3 at not_name found.1 least))

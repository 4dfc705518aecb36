-- The well-sorted terms without variables are those that are built from fresh names and operators.
use Rattle.std.proofs.Common.{◌≡◌, ℕ, ◌<◌, ◌≤◌, Bool, true, false, List, [], ◌∷◌, Option, None, Some, Ok, map, get_or, refl, sym, ◌∙◌, ap, subst, arith}
use Rattle.std.specs.Prelude.{slice_get, IfSome, IsSome, ◌==◌}
use Rattle.std.specs.List.{list_all}
use Rattle.std.proofs.lemmas.Bool.{and_parts, and_from, eqb-true, eq-eqb}
use Rattle.npa_sorts.specs.Subsorts.{IsSort, at_or_below}
use Rattle.npa_sorts.proofs.Climbs.{decides}
use Rattle.npa_term.specs.declared.term.Op.{Op}
use Rattle.npa_term.specs.declared.term.Term.{Term}
use Rattle.npa_term.specs.declared.term.Term.TheVariants.{App}
use Rattle.npa_term.specs.Symbols.{symbol_count}
use Rattle.npa_term.specs.Variables.{IsGround}
use Rattle.npa_term.proofs.Induction.{Each, by_terms}
use Rattle.npa_term.proofs.GroundLaws.{ground_app, ground_arguments}
use Rattle.npa_sig.specs.declared.signature.OpDecl.{OpDecl}
use Rattle.npa_sig.specs.Signature.{Signature}
use Rattle.npa_sig.specs.Sorting.{well_sorted, agrees, same_bool, all_below, is_declared}
use Rattle.npa_term.specs.Parts.{least_sort}
use Rattle.npa_sig.specs.Least.{declared_op, IsBuilt, a_name, an_application, AreBuilt, no_arguments, an_argument, IsBuiltOf, IsTermOf, IsEmpty, IsLeastCount, IsLeastTerm, IsLeastIn, IsLeastOf, IsSmall, IsInhabited, IsGroundFault}
use Rattle.npa_sig.specs.Operators.{HaveSorts}
use Rattle.npa_sig.specs.Sizes.{AreSizes, IsFirstEmpty, IsFirstPast}
use Rattle.npa_sig.specs.declared.fault.GroundFault.TheVariants.{Inhabited, Ground}
use Rattle.npa_sig.proofs.Rows.{well_sorted_at}
use Rattle.npa_sig.proofs.LeastTerms.{size_exact, size_none, least_size}
use Rattle.npa_sig.proofs.SizeLaws.{option_cases}

same_itself : (b : Bool) → same_bool b b ≡ true
same_itself true = refl
same_itself false = refl

same_is : (a b : Bool) → same_bool a b ≡ true → a ≡ b
same_is true true e = refl
same_is true false e = absurd (let no : ⊥ = cc in no)
same_is false true e = absurd (let no : ⊥ = cc in no)
same_is false false e = refl

module _ (sig : Signature) where
  -- what is built is well sorted and has no variables
  mutual
    built_sorted : {t : Term} → IsBuilt sig.sorts sig.ops t → well_sorted sig t ≡ true
    built_sorted (a_name n) = refl
    built_sorted (an_application num decl ts at args) =
        let op = declared_op num decl in
        let parts = arguments_sorted args in
        well_sorted_at sig (App (declared_op num decl) ts) (declared_op num decl) ts refl
        ∙ and_from (is_declared sig (declared_op num decl) (map least_sort ts) (slice_get sig.ops num)) (list_all (well_sorted sig) ts)
        (ap (is_declared sig (declared_op num decl) (map least_sort ts)) at
        ∙ and_from (agrees (declared_op num decl) decl) (all_below sig (map least_sort ts) decl.args)
        (and_from (decl.result == decl.result) (same_bool decl.«com» decl.«com») (eq-eqb decl.result decl.result refl) (same_itself decl.«com»)) parts.0)
        parts.1

    arguments_sorted : {ss : List ℕ} {ts : List Term} → AreBuilt sig.sorts sig.ops ss ts → (all_below sig (map least_sort ts) ss ≡ true) × (list_all (well_sorted sig) ts ≡ true)
    arguments_sorted no_arguments = (refl, refl)
    arguments_sorted (an_argument s t ss ts b under rest) =
        let later = arguments_sorted rest in (
          and_from (at_or_below sig.sorts (least_sort t) s) (all_below sig (map least_sort ts) ss) ((decides sig.sorts (least_sort t) s).1 under) later.0,
          and_from (well_sorted sig t) (list_all (well_sorted sig) ts) (built_sorted b) later.1,
        )

  mutual
    built_ground : {t : Term} → IsBuilt sig.sorts sig.ops t → IsGround t
    built_ground (a_name n) = refl
    built_ground (an_application num decl ts at args) = ground_app (declared_op num decl) ts (arguments_ground args)

    arguments_ground : {ss : List ℕ} {ts : List Term} → AreBuilt sig.sorts sig.ops ss ts → Each IsGround ts
    arguments_ground no_arguments = tt
    arguments_ground (an_argument s t ss ts b under rest) = (built_ground b, arguments_ground rest)

  -- and what is well sorted and has no variables is built
  arguments_built : (ss : List ℕ) (ts : List Term) → Each (λ t. well_sorted sig t ≡ true → IsGround t → IsBuilt sig.sorts sig.ops t) ts → list_all (well_sorted sig) ts ≡ true → Each IsGround ts →
      all_below sig (map least_sort ts) ss ≡ true → AreBuilt sig.sorts sig.ops ss ts
  arguments_built [] [] each sorted ground_each below = no_arguments
  arguments_built [] (t ∷ ts) each sorted ground_each below = absurd (let no : ⊥ = cc in no)
  arguments_built (s ∷ ss) [] each sorted ground_each below = absurd (let no : ⊥ = cc in no)
  arguments_built (s ∷ ss) (t ∷ ts) each sorted ground_each below =
      let here = and_parts (well_sorted sig t) (list_all (well_sorted sig) ts) sorted in
      let under = and_parts (at_or_below sig.sorts (least_sort t) s) (all_below sig (map least_sort ts) ss) below in
      an_argument s t ss ts (each.0 here.0 ground_each.0) ((decides sig.sorts (least_sort t) s).0 under.0) (arguments_built ss ts each.1 here.1 ground_each.1 under.1)

  declared_built : (op : Op) (ts : List Term) (found : Option OpDecl) → slice_get sig.ops op.num ≡ found → is_declared sig op (map least_sort ts) found ≡ true → list_all (well_sorted sig) ts ≡ true → Each IsGround ts →
      Each (λ t. well_sorted sig t ≡ true → IsGround t → IsBuilt sig.sorts sig.ops t) ts → IsBuilt sig.sorts sig.ops (App op ts)
  declared_built op ts None at declared sorted ground_each each = absurd (let no : ⊥ = cc in no)
  declared_built op ts (Some decl) at declared sorted ground_each each =
      let parts = and_parts (agrees op decl) (all_below sig (map least_sort ts) decl.args) declared in
      let agreed = and_parts (op.result == decl.result) (same_bool op.«com» decl.«com») parts.0 in
      let result : op.result ≡ decl.result = eqb-true op.result decl.result agreed.0 in
      let commutes : op.«com» ≡ decl.«com» = same_is op.«com» decl.«com» agreed.1 in
      let same : op ≡ declared_op op.num decl =
      ap (λ r. record { num = op.num; result = r; «com» = op.«com» }) result ∙ ap (λ b. record { num = op.num; result = decl.result; «com» = b }) commutes in
      subst (λ f. IsBuilt sig.sorts sig.ops (App f ts)) (sym same) (an_application op.num decl ts at (arguments_built decl.args ts each sorted ground_each parts.1))

  sorted_built : (t : Term) → well_sorted sig t ≡ true → IsGround t → IsBuilt sig.sorts sig.ops t
  sorted_built =
      by_terms (λ t. well_sorted sig t ≡ true → IsGround t → IsBuilt sig.sorts sig.ops t) (λ v sorted g. absurd (let no : ⊥ = cc in no)) (λ n sorted g. a_name n)
      (λ op ts each sorted g.
      let parts = and_parts (is_declared sig op (map least_sort ts) (slice_get sig.ops op.num)) (list_all (well_sorted sig) ts) (sym (well_sorted_at sig (App op ts) op ts refl) ∙ sorted) in
      declared_built op ts (slice_get sig.ops op.num) refl parts.0 parts.1 (ground_arguments op ts g) each)

  pub term_built : (s : ℕ) (t : Term) → IsTermOf sig s t → IsBuiltOf sig.sorts sig.ops s t
  term_built s t of = (sorted_built t of.sorted of.ground, of.below)

  pub built_term : (s : ℕ) (t : Term) → IsBuiltOf sig.sorts sig.ops s t → IsTermOf sig s t
  built_term s t of = record { sorted = built_sorted of.0; ground = built_ground of.0; below = of.1 }

  pub empty_term : (s : ℕ) → IsEmpty (IsBuiltOf sig.sorts sig.ops s) → IsEmpty (IsTermOf sig s)
  empty_term s empty = λ t of. empty t (term_built s t of)

  pub count_term : (s n : ℕ) → IsLeastCount (IsBuiltOf sig.sorts sig.ops s) n → IsLeastCount (IsTermOf sig s) n
  count_term s n least = record { term = least.term; reached = built_term s least.term least.reached; count = least.count; fewest = λ t of. least.fewest t (term_built s t of) }

  pub least_term : (s : ℕ) (t : Term) → IsLeastTerm (IsBuiltOf sig.sorts sig.ops s) t → IsLeastTerm (IsTermOf sig s) t
  least_term s t least = record { is = built_term s t least.is; fewest = λ u of. least.fewest u (term_built s u of); first = λ u of. least.first u (term_built s u of) }

  module _ (sizes : List (Option ℕ)) (known : AreSizes sig.sorts sig.ops sizes) (have : HaveSorts sig.sorts sig.ops) (s : ℕ) where
    pub answer_past : (n : ℕ) → get_or sizes s None ≡ Some n → 64 < n → (64 < n) × IsLeastCount (IsTermOf sig s) n
    answer_past n some past = (past, count_term s n (size_exact sig.sorts sig.ops sizes known have s n some))

    pub answer_least : IfSome (get_or sizes s None) (λ n. n ≤ 64) → (found : Option Term) → IsLeastIn (IsBuiltOf sig.sorts sig.ops s) found → IsLeastOf sig s (Ok found)
    answer_least small None empty = empty_term s empty
    answer_least small (Some t) least = (
      least_term s t least,
      option_cases (symbol_count t ≤ 64) (get_or sizes s None)
          (λ none. absurd (size_none sig.sorts sig.ops sizes known have s none t least.is))
          (λ n some.
          let few : n ≤ 64 = subst (λ x. IfSome x (λ m. m ≤ 64)) some small in
          let same : symbol_count t ≡ n = least_size (IsBuiltOf sig.sorts sig.ops s) n t few (size_exact sig.sorts sig.ops sizes known have s n some) least in
          omega (arith, few, same)),
    )

  -- the faults of the sorts' ground terms, by their sizes
  module _ (sizes : List (Option ℕ)) (known : AreSizes sig.sorts sig.ops sizes) (have : HaveSorts sig.sorts sig.ops) where
    inhabited : (s : ℕ) → IsSome (get_or sizes s None) → IsInhabited sig s
    inhabited s some =
        option_cases (IsInhabited sig s) (get_or sizes s None)
        (λ none. absurd (let wrong : IsSome {T = ℕ} None = subst IsSome none some in let none_left : ⊥ = cc in none_left))
        (λ n is. let count = count_term s n (size_exact sig.sorts sig.ops sizes known have s n is) in (count.term, count.reached))

    small_sort : (s : ℕ) → IsSome (get_or sizes s None) → IfSome (get_or sizes s None) (λ n. n ≤ 64) → IsSmall sig s
    small_sort s some few =
        option_cases (IsSmall sig s) (get_or sizes s None)
        (λ none. absurd (let wrong : IsSome {T = ℕ} None = subst IsSome none some in let none_left : ⊥ = cc in none_left))
        (λ n is. (n, subst (λ x. IfSome x (λ m. m ≤ 64)) is few, count_term s n (size_exact sig.sorts sig.ops sizes known have s n is)))

    pub fault_inhabited : (s : ℕ) → IsFirstEmpty sig.sorts sizes (Some s) → IsGroundFault sig (Some (Inhabited s))
    fault_inhabited s first = (first.0, empty_term s (size_none sig.sorts sig.ops sizes known have s first.1), λ r before. inhabited r (first.2 r before))

    pub fault_ground : (s n : ℕ) → IsFirstEmpty sig.sorts sizes None → IsFirstPast sig.sorts sizes (Some (s, n)) → IsGroundFault sig (Some (Ground s n))
    fault_ground s n none first = (
      first.0,
      first.1,
      count_term s n (size_exact sig.sorts sig.ops sizes known have s n first.2),
      λ r before. small_sort r (none r (let sort : IsSort sig.sorts s = first.0 in omega (arith, before, sort))) (first.3 r before),
      λ r sort. inhabited r (none r sort),
    )

    pub fault_none : IsFirstEmpty sig.sorts sizes None → IsFirstPast sig.sorts sizes None → IsGroundFault sig None
    fault_none none few = λ s sort. small_sort s (none s sort) (few s sort)

-- Instances of well-sorted terms are well sorted.
use Rattle.std.proofs.Common.{◌≡◌, ℕ, true, false, cond, List, [], ◌∷◌, Option, None, Some, map, slice_get, refl, ap, sym, ◌∙◌, subst, arith}
use Rattle.std.specs.Prelude.{Contains, unwrap_or}
use Rattle.std.specs.List.{list_all, flat_map}
use Rattle.std.proofs.lemmas.Bool.{and_parts, and_from}
use Rattle.std.proofs.lemmas.List.Elements.{Contains-append_left, Contains-append_right}
use Rattle.npa_sorts.specs.Subsorts.{IsSort, IsAtOrBelow}
use Rattle.npa_sorts.proofs.Climbs.{decides}
use Rattle.npa_term.specs.declared.term.Op.{Op}
use Rattle.npa_term.specs.declared.term.Var.{Var as Variable}
use Rattle.npa_term.specs.declared.term.Term.{Term, Var, App}
use Rattle.npa_term.specs.Bound.{applied, same_var}
use Rattle.npa_term.specs.Parts.{image, least_sort}
use Rattle.npa_term.specs.Variables.{variables}
use Rattle.npa_term.proofs.AppliedLaws.{applied-empty}
use Rattle.npa_term.proofs.Equality.{var_equal}
use Rattle.npa_term.proofs.Induction.{Each, by_terms}
use Rattle.npa_term.proofs.Numbered.{member_first}
use Rattle.npa_term.proofs.Parts.{each_member}
use Rattle.npa_term.proofs.Rows.{applied_app, variables_at}
use Rattle.npa_sig.specs.declared.signature.OpDecl.{OpDecl}
use Rattle.npa_sig.specs.Operators.{PairsCommute}
use Rattle.npa_sig.specs.Signature.{Signature}
use Rattle.npa_sig.specs.Sorting.{agrees, all_below, is_below, is_declared, is_sort, well_sorted}
use Rattle.npa_sig.proofs.Rows.{well_sorted_at}
use Rattle.npa_sig.proofs.SortedTerms.{arguments_sorted, below_itself, below_through, canonical_sorted}
use Rattle.npa_rewrite.proofs.Sorting.{image_sorted}
use Rattle.npa_unify.specs.Unifiers.{Keeps}

module _ (sig : Signature) where
  -- the term that stands for a variable is well sorted, of a sort at or below the variable's
  pub record IsGood (s : List (Variable × Term)) (v : Variable) : Type 0 where
    pub sorted : well_sorted sig (image s v) ≡ true
    pub below_ : is_below sig (least_sort (image s v)) v.sort ≡ true

  below_all : (ss ts us : List ℕ) → all_below sig ss ts ≡ true → all_below sig ts us ≡ true → all_below sig ss us ≡ true
  below_all [] [] us a b = b
  below_all [] (t ∷ ts) us a b = cc
  below_all (s ∷ ss) [] us a b = cc
  below_all (s ∷ ss) (t ∷ ts) [] a b = cc
  below_all (s ∷ ss) (t ∷ ts) (u ∷ us) a b =
      let first = and_parts (is_below sig s t) (all_below sig ss ts) a in
      let second = and_parts (is_below sig t u) (all_below sig ts us) b in
      and_from (is_below sig s u) (all_below sig ss us) (below_through sig s t u first.0 second.0) (below_all ss ts us first.1 second.1)

  lower_declared : (op : Op) (ss ts : List ℕ) (o : Option OpDecl) → all_below sig ss ts ≡ true → is_declared sig op ts o ≡ true → is_declared sig op ss o ≡ true
  lower_declared op ss ts None low e = cc
  lower_declared op ss ts (Some decl) low e =
      let both = and_parts (agrees op decl) (all_below sig ts decl.args) e in
      and_from (agrees op decl) (all_below sig ss decl.args) both.0 (below_all ss ts decl.args low both.1)

  pub record Stays (s : List (Variable × Term)) (t : Term) : Type 0 where
    pub sorted : well_sorted sig (applied s t) ≡ true
    pub below_ : is_below sig (least_sort (applied s t)) (least_sort t) ≡ true

  record AllStay (s : List (Variable × Term)) (ts : List Term) : Type 0 where
    sorted : list_all (well_sorted sig) (map (applied s) ts) ≡ true
    below_ : all_below sig (map least_sort (map (applied s) ts)) (map least_sort ts) ≡ true

  abbrev Holds : List (Variable × Term) → Term → Type 0
  Holds s t = well_sorted sig t ≡ true → ((v : Variable) → Contains (variables t) v → IsGood s v) → Stays s t

  all_stay : (s : List (Variable × Term)) (ts : List Term) → Each (Holds s) ts → list_all (well_sorted sig) ts ≡ true →
      ((v : Variable) → Contains (flat_map variables ts) v → IsGood s v) → AllStay s ts
  all_stay s [] each sorted good = record { sorted = refl; below_ = refl }
  all_stay s (t ∷ ts) each sorted good =
      let both = and_parts (well_sorted sig t) (list_all (well_sorted sig) ts) sorted in
      let one = each.0 both.0 (λ v c. good v (Contains-append_left (variables t) (flat_map variables ts) v c)) in
      let rest = all_stay s ts each.1 both.1 (λ v c. good v (Contains-append_right (variables t) (flat_map variables ts) v c)) in
      record {
        sorted = and_from (well_sorted sig (applied s t)) (list_all (well_sorted sig) (map (applied s) ts)) one.sorted rest.sorted;
        below_ = and_from (is_below sig (least_sort (applied s t)) (least_sort t)) (all_below sig (map least_sort (map (applied s) ts)) (map least_sort ts)) one.below_ rest.below_;
      }

  app_stays : (s : List (Variable × Term)) (op : Op) (ts : List Term) → Each (Holds s) ts → Holds s (App op ts)
  app_stays s op ts each sorted good =
      let all : variables (App op ts) ≡ flat_map variables ts = variables_at (App op ts) op ts refl in
      let both = and_parts (is_declared sig op (map least_sort ts) (slice_get sig.ops op.num)) (list_all (well_sorted sig) ts) (sym (well_sorted_at sig (App op ts) op ts refl) ∙ sorted) in
      let stay = all_stay s ts each both.1 (λ v c. good v (subst (λ (vs : List Variable). Contains vs v) (sym all) c)) in
      let made : applied s (App op ts) ≡ App op (map (applied s) ts) = applied_app s op ts in
      record {
        sorted = well_sorted_at sig (applied s (App op ts)) op (map (applied s) ts) made
            ∙ and_from (is_declared sig op (map least_sort (map (applied s) ts)) (slice_get sig.ops op.num)) (list_all (well_sorted sig) (map (applied s) ts))
            (lower_declared op (map least_sort (map (applied s) ts)) (map least_sort ts) (slice_get sig.ops op.num) stay.below_ both.0) stay.sorted;
        below_ = subst (λ u. is_below sig (least_sort u) op.result ≡ true) (sym made) (below_itself sig op.result);
      }

  -- an instance by such terms is well sorted, of a sort at or below the term's
  pub stays : (s : List (Variable × Term)) (t : Term) → Holds s t
  stays s =
      by_terms (Holds s) (λ v sorted good. let g = good v (member_first v []) in record { sorted = g.sorted; below_ = g.below_ })
      (λ n sorted good. record { sorted = refl; below_ = below_itself sig 1 }) (app_stays s)

  -- the variables of a well-sorted term are of sorts
  pub variable_sorted : (t : Term) (v : Variable) → well_sorted sig t ≡ true → Contains (variables t) v → is_sort sig v.sort ≡ true
  variable_sorted t v sorted c = image_sorted sig [] v t c (ap (well_sorted sig) (applied-empty t) ∙ sorted)

  put_good : (v : Variable) (t x : Term) → IsAtOrBelow sig.sorts (least_sort t) v.sort → well_sorted sig t ≡ true → well_sorted sig x ≡ true →
      (w : Variable) → Contains (variables x) w → IsGood ((v, t) ∷ []) w
  put_good v t x low p q w c =
      let itself : well_sorted sig (Var w) ≡ true = variable_sorted x w q c in
      let both : (well_sorted sig (image ((v, t) ∷ []) w) ≡ true) × (is_below sig (least_sort (image ((v, t) ∷ []) w)) w.sort ≡ true) =
      elim (same_var v w) as (λ b. same_var v w ≡ b → (well_sorted sig (unwrap_or (cond b (Some t) None) (Var w)) ≡ true) × (is_below sig (least_sort (unwrap_or (cond b (Some t) None) (Var w))) w.sort ≡ true)) [
        | true ↦ λ e. (p, subst (λ (y : Variable). is_below sig (least_sort t) y.sort ≡ true) (var_equal v w e) ((decides sig.sorts (least_sort t) v.sort).1 low))
        | false ↦ λ e. (itself, below_itself sig w.sort)
      ] refl in
      record { sorted = both.0; below_ = both.1 }

  pub sort_number : (s : ℕ) → is_sort sig s ≡ true → IsSort sig.sorts s
  sort_number s e = grind arith

  number_sort : (s : ℕ) → IsSort sig.sorts s → is_sort sig s ≡ true
  number_sort s e = grind arith

  -- well-sortedness is kept by what unification does
  pub keeps : PairsCommute sig → ((s t : ℕ) → IsAtOrBelow sig.sorts s t → IsSort sig.sorts t → IsSort sig.sorts s) → Keeps sig.sorts (λ t. well_sorted sig t ≡ true)
  keeps pairs lower = record {
    arguments = λ op ts t sorted c. each_member (λ u. well_sorted sig u ≡ true) ts t (arguments_sorted sig op ts sorted) c;
    form = canonical_sorted sig pairs;
    put_in = λ v t x low p q. (stays ((v, t) ∷ []) x q (put_good v t x low p q)).sorted;
    lower = λ v z p low. number_sort z.sort (lower z.sort v.sort low (sort_number v.sort p));
  }

-- The tests of whether a pattern fits tell what they are to tell.
use Rattle.std.proofs.Common.{◌≡◌, ◌≢◌, ℕ, zero, suc, ◌+◌, ◌<◌, ◌≤◌, ◌↔◌, ⊎_elim, Bool, true, false, not, ◌&&◌, ◌||◌, nat_eq, nat_le, nat_lt, List, [], ◌∷◌, ◌++◌, Option, None, Some, map, length, replicate, drop, get_or, slice_get, Contains, refl, ap, sym, ◌∙◌, subst, arith}
use Rattle.std.specs.Prelude.{IsTrue}
use Rattle.std.specs.List.{flat_map, list_all, list_any}
use Rattle.std.proofs.lemmas.Bool.{and_parts, and_from, or_parts, or_from, or_left, or_right, or_cases, eqb-true, eq-eqb, ltb-true, lt-ltb, leb-true, le-leb}
use Rattle.std.proofs.lemmas.List.Elements.{Contains-append_left, Contains-append_right, Contains-append_cases}
use Rattle.npa_term.specs.declared.term.Op.{Op}
use Rattle.npa_term.specs.declared.term.Term.{Term, Var, Name, App, Row_of-Term, end_of-Term, more_of-Term, items-the_row-Term}
use Rattle.npa_term.specs.declared.term.Var.{Var as Variable}
use Rattle.npa_term.specs.Parts.{IsPart, whole, inside, least_sort}
use Rattle.npa_term.specs.Variables.{variables}
use Rattle.std.proofs.lemmas.List.{length-map, length-append, length-replicate}
use Rattle.npa_term.specs.declared.term.Term.{items_hidden-the_row-Term-0}
use Rattle.npa_term.specs.declared.term.Term.TheBlock.{hidden-the_row-Term-0}
use Rattle.npa_term.proofs.Parts.{each_member}
use Rattle.npa_term.proofs.Induction.{Each, by_terms}
use Rattle.npa_sig.specs.declared.protocol.Protocol.{Protocol}
use Rattle.npa_sig.specs.declared.protocol.Strand.{Strand}
use Rattle.npa_sig.specs.Parameters.{param_sorts}
use Rattle.npa_sig.specs.Signature.{Signature}
use Rattle.npa_sig.specs.Sorting.{all_below, is_below, well_sorted}
use Rattle.npa_sig.specs.WellFormed.{IsNameless}
use Rattle.npa_sig.proofs.Declared.{all_below_apart, all_below_step, all_below_ends}
use Rattle.npa_rewrite.proofs.InstanceParts.{here, behind, member_cases, part_cases}
use Rattle.npa_model.specs.declared.pattern.PStrand.{PStrand}
use Rattle.npa_model.specs.declared.pattern.Pattern.{Pattern}
use Rattle.npa_model.specs.Fitting.{IsFit, IsFitStrand, has_name, row_has_name, is_plain, is_plain_strand, is_strand_of, is_fit_strand, strand_variables, pattern_variables, agree, has_one_sort, are_parts_fit, is_fit}
use Rattle.npa_model.specs.Patterns.{IsTermOf, of_args, of_msgs, of_known, of_unknown, Occurs}
use Rattle.npa_model.proofs.Places.{place_of, member_at}

-- ## Fresh names

row_names : {n : _} (k : Row_of-Term n) → row_has_name k ≡ list_any has_name (items-the_row-Term n k)
row_names end_of-Term = refl
row_names (more_of-Term t rest) = ap (λ b. has_name t || b) (row_names rest)

pub has_name_at : (t : Term) (op : Op) (ts : List Term) → t ≡ App op ts → has_name t ≡ list_any has_name ts
has_name_at t op ts e =
    let k = hidden-the_row-Term-0 ts in
    ap has_name e ∙ row_names k ∙ ap (list_any has_name) (items_hidden-the_row-Term-0 ts)

any_true : {X : Type 0} (p : X → Bool) (xs : List X) (x : X) → Contains xs x → p x ≡ true → list_any p xs ≡ true
any_true p [] x c e = absurd (omega (arith, c.1))
any_true {X} p (y ∷ xs) x c e = ⊎_elim
    (λ (s : y ≡ x). or_left (p y) (list_any p xs) (ap p s ∙ e))
    (λ (d : Contains xs x). or_right (p y) (list_any p xs) (any_true p xs x d e))
    (member_cases y x xs c)

any_false : {X : Type 0} (p : X → Bool) (xs : List X) → ((x : X) → Contains xs x → p x ≡ false) → list_any p xs ≡ false
any_false p [] each = refl
any_false p (y ∷ xs) each = or_from (p y) (list_any p xs) (each y (here y xs)) (any_false p xs (λ x c. each x (behind y x xs c)))

part_named : {p t : Term} → IsPart p t → (n : ℕ) → p ≡ Name n → has_name t ≡ true
part_named whole n e = ap has_name e
part_named (inside op us u c part) n e = has_name_at (App op us) op us refl ∙ any_true has_name us u c (part_named part n e)

nameless_test : (t : Term) → IsNameless t → has_name t ≡ false
nameless_test =
    by_terms (λ t. IsNameless t → has_name t ≡ false)
    (λ v nameless. refl)
    (λ n nameless. absurd (nameless n whole))
    (λ op ts each nameless. has_name_at (App op ts) op ts refl
    ∙ any_false has_name ts (λ t c. each_member (λ u. IsNameless u → has_name u ≡ false) ts t each c (λ n part. nameless n (inside op ts t c part))))

test_nameless : (t : Term) → has_name t ≡ false → IsNameless t
test_nameless t e n part = let both : false ≡ true = sym e ∙ part_named part n refl in cc

-- ## Lists

all_to : {X : Type 0} (p : X → Bool) (xs : List X) → list_all p xs ≡ true → (x : X) → Contains xs x → p x ≡ true
all_to p [] e x c = absurd (omega (arith, c.1))
all_to {X} p (y ∷ xs) e x c =
    let both = and_parts (p y) (list_all p xs) e in
    ⊎_elim (λ (s : y ≡ x). ap p (sym s) ∙ both.0) (λ (d : Contains xs x). all_to p xs both.1 x d) (member_cases y x xs c)

all_from : {X : Type 0} (p : X → Bool) (xs : List X) → ((x : X) → Contains xs x → p x ≡ true) → list_all p xs ≡ true
all_from p [] each = refl
all_from p (y ∷ xs) each = and_from (p y) (list_all p xs) (each y (here y xs)) (all_from p xs (λ x c. each x (behind y x xs c)))

flat_from : {X Y : Type 0} (f : X → List Y) (xs : List X) (x : X) (y : Y) → Contains xs x → Contains (f x) y → Contains (flat_map f xs) y
flat_from f [] x y c d = absurd (omega (arith, c.1))
flat_from {X} f (z ∷ xs) x y c d = ⊎_elim
    (λ (s : z ≡ x). Contains-append_left (f z) (flat_map f xs) y (subst (λ (w : X). Contains (f w) y) (sym s) d))
    (λ (e : Contains xs x). Contains-append_right (f z) (flat_map f xs) y (flat_from f xs x y e d))
    (member_cases z x xs c)

flat_to : {X Y : Type 0} (f : X → List Y) (xs : List X) (y : Y) → Contains (flat_map f xs) y → (x : X) × Contains xs x × Contains (f x) y
flat_to f [] y c = absurd (omega (arith, c.1))
flat_to {X} f (z ∷ xs) y c = ⊎_elim
    (λ d. (z, here z xs, d))
    (λ d. let rest = flat_to f xs y d in (rest.0, behind z rest.0 xs rest.1, rest.2))
    (Contains-append_cases (f z) (flat_map f xs) y c)

not_true : (b : Bool) → not b ≡ true → b ≡ false
not_true true e = cc
not_true false e = refl

true_not : (b : Bool) → b ≡ false → not b ≡ true
true_not true e = cc
true_not false e = refl

-- ## Terms and strands

module _ (protocol : Protocol) where
  plain_to : (t : Term) → is_plain protocol.sig t ≡ true → (well_sorted protocol.sig t ≡ true) × IsNameless t
  plain_to t e = let both = and_parts (well_sorted protocol.sig t) (not (has_name t)) e in (both.0, test_nameless t (not_true (has_name t) both.1))

  plain_from : (t : Term) → well_sorted protocol.sig t ≡ true → IsNameless t → is_plain protocol.sig t ≡ true
  plain_from t sorted nameless = and_from (well_sorted protocol.sig t) (not (has_name t)) sorted (true_not (has_name t) (nameless_test t nameless))

  strand_to : (p : PStrand) → is_fit_strand protocol p ≡ true → IsFitStrand protocol p
  strand_to p e = by (slice_get protocol.strands p.strand) refl e
    where
      by : (o : Option Strand) → slice_get protocol.strands p.strand ≡ o → is_strand_of protocol.sig p o ≡ true → IsFitStrand protocol p
      by None at f = cc
      by (Some strand) at f =
          let first = and_parts (nat_le p.bar (length strand.events)) (all_below protocol.sig (map least_sort p.args) (param_sorts strand) && nat_eq (length p.msgs) p.bar) f in
          let second = and_parts (all_below protocol.sig (map least_sort p.args) (param_sorts strand)) (nat_eq (length p.msgs) p.bar) first.1 in
          record { strand = strand; there = at; within = leb-true p.bar (length strand.events) first.0; below = second.0; messages = eqb-true (length p.msgs) p.bar second.1 }

  strand_from : (p : PStrand) → IsFitStrand protocol p → is_fit_strand protocol p ≡ true
  strand_from p s =
      ap (is_strand_of protocol.sig p) s.there
      ∙ and_from (nat_le p.bar (length s.strand.events)) (all_below protocol.sig (map least_sort p.args) (param_sorts s.strand) && nat_eq (length p.msgs) p.bar) (le-leb p.bar (length s.strand.events) s.within)
      (and_from (all_below protocol.sig (map least_sort p.args) (param_sorts s.strand)) (nat_eq (length p.msgs) p.bar) s.below (eq-eqb (length p.msgs) p.bar s.messages))

  module _ (g : Pattern) where
    -- ## Variables

    strand_variable : (k : ℕ) (p : PStrand) (v : Variable) → slice_get g.strands k ≡ Some p → Contains (strand_variables p) v → Contains (pattern_variables g) v
    strand_variable k p v e c =
        Contains-append_left (flat_map strand_variables g.strands) (flat_map variables g.known ++ flat_map variables g.unknown) v (flat_from strand_variables g.strands p v (member_at g.strands k p e) c)

    fact_variable : (v : Variable) → Contains (flat_map variables g.known ++ flat_map variables g.unknown) v → Contains (pattern_variables g) v
    fact_variable v c = Contains-append_right (flat_map strand_variables g.strands) (flat_map variables g.known ++ flat_map variables g.unknown) v c

    of_term : (t : Term) (v : Variable) → IsTermOf g t → Contains (variables t) v → Contains (pattern_variables g) v
    of_term t v (of_args k p e c) d = strand_variable k p v e (Contains-append_left (flat_map variables p.args) (flat_map variables p.msgs) v (flat_from variables p.args t v c d))
    of_term t v (of_msgs k p e c) d = strand_variable k p v e (Contains-append_right (flat_map variables p.args) (flat_map variables p.msgs) v (flat_from variables p.msgs t v c d))
    of_term t v (of_known c) d = fact_variable v (Contains-append_left (flat_map variables g.known) (flat_map variables g.unknown) v (flat_from variables g.known t v c d))
    of_term t v (of_unknown c) d = fact_variable v (Contains-append_right (flat_map variables g.known) (flat_map variables g.unknown) v (flat_from variables g.unknown t v c d))

    occurs_listed : (v : Variable) → Occurs v g → Contains (pattern_variables g) v
    occurs_listed v o = of_term o.term v o.there o.within

    of_strand : (v : Variable) (p : PStrand) → Contains g.strands p → Contains (strand_variables p) v → Occurs v g
    of_strand v p c d =
        let place = place_of g.strands p c in
        ⊎_elim
        (λ a. let found = flat_to variables p.args v a in record { term = found.0; there = of_args place.0 p place.1 found.1; within = found.2 })
        (λ m. let found = flat_to variables p.msgs v m in record { term = found.0; there = of_msgs place.0 p place.1 found.1; within = found.2 })
        (Contains-append_cases (flat_map variables p.args) (flat_map variables p.msgs) v d)

    listed_occurs : (v : Variable) → Contains (pattern_variables g) v → Occurs v g
    listed_occurs v c = ⊎_elim
        (λ s. let found = flat_to strand_variables g.strands v s in of_strand v found.0 found.1 found.2)
        (λ f. ⊎_elim
        (λ k. let found = flat_to variables g.known v k in record { term = found.0; there = of_known found.1; within = found.2 })
        (λ u. let found = flat_to variables g.unknown v u in record { term = found.0; there = of_unknown found.1; within = found.2 })
        (Contains-append_cases (flat_map variables g.known) (flat_map variables g.unknown) v f))
        (Contains-append_cases (flat_map strand_variables g.strands) (flat_map variables g.known ++ flat_map variables g.unknown) v c)

    -- ## The whole pattern

    abbrev few_strands : Bool
    few_strands = nat_lt (length g.strands) 65535

    abbrev few_known : Bool
    few_known = nat_lt (length g.known) 4294967295

    abbrev strands_fit : Bool
    strands_fit = list_all (is_fit_strand protocol) g.strands

    abbrev strands_plain : Bool
    strands_plain = list_all (is_plain_strand protocol.sig) g.strands

    abbrev known_plain : Bool
    known_plain = list_all (is_plain protocol.sig) g.known

    abbrev unknown_plain : Bool
    unknown_plain = list_all (is_plain protocol.sig) g.unknown

    plain_args : (k : ℕ) (p : PStrand) → strands_plain ≡ true → slice_get g.strands k ≡ Some p → (list_all (is_plain protocol.sig) p.args ≡ true) × (list_all (is_plain protocol.sig) p.msgs ≡ true)
    plain_args k p e at = and_parts (list_all (is_plain protocol.sig) p.args) (list_all (is_plain protocol.sig) p.msgs) (all_to (is_plain_strand protocol.sig) g.strands e p (member_at g.strands k p at))

    plain_term : strands_plain ≡ true → known_plain ≡ true → unknown_plain ≡ true → (t : Term) → IsTermOf g t → is_plain protocol.sig t ≡ true
    plain_term s e f t (of_args k p at c) = all_to (is_plain protocol.sig) p.args (plain_args k p s at).0 t c
    plain_term s e f t (of_msgs k p at c) = all_to (is_plain protocol.sig) p.msgs (plain_args k p s at).1 t c
    plain_term s e f t (of_known c) = all_to (is_plain protocol.sig) g.known e t c
    plain_term s e f t (of_unknown c) = all_to (is_plain protocol.sig) g.unknown f t c

    agree_to : (v w : Variable) → agree v w ≡ true → v.num ≡ w.num → v.sort ≡ w.sort
    agree_to v w e same = ⊎_elim
        (λ n. let both : false ≡ true = sym (not_true (nat_eq v.num w.num) n) ∙ eq-eqb v.num w.num same in absurd (let no : ⊥ = cc in no))
        (λ s. eqb-true v.sort w.sort s)
        (or_cases (not (nat_eq v.num w.num)) (nat_eq v.sort w.sort) e)

    agree_from : (v w : Variable) → (v.num ≡ w.num → v.sort ≡ w.sort) → agree v w ≡ true
    agree_from v w same = by (nat_eq v.num w.num) refl
      where
        by : (b : Bool) → nat_eq v.num w.num ≡ b → agree v w ≡ true
        by true e = or_right (not (nat_eq v.num w.num)) (nat_eq v.sort w.sort) (eq-eqb v.sort w.sort (same (eqb-true v.num w.num e)))
        by false e = or_left (not (nat_eq v.num w.num)) (nat_eq v.sort w.sort) (true_not (nat_eq v.num w.num) e)

    fits_to : IsTrue (is_fit protocol g) → IsFit protocol g
    fits_to t =
        let a = and_parts (are_parts_fit protocol g) (list_all (has_one_sort (pattern_variables g)) (pattern_variables g)) t in
        let b = and_parts few_strands (few_known && (strands_fit && (strands_plain && (known_plain && unknown_plain)))) a.0 in
        let c = and_parts few_known (strands_fit && (strands_plain && (known_plain && unknown_plain))) b.1 in
        let d = and_parts strands_fit (strands_plain && (known_plain && unknown_plain)) c.1 in
        let e = and_parts strands_plain (known_plain && unknown_plain) d.1 in
        let f = and_parts known_plain unknown_plain e.1 in
        let one : (v : Variable) → Occurs v g → (nat_lt v.num 1073741824 ≡ true) × (list_all (agree v) (pattern_variables g) ≡ true) = λ v o.
        and_parts (nat_lt v.num 1073741824) (list_all (agree v) (pattern_variables g)) (all_to (has_one_sort (pattern_variables g)) (pattern_variables g) a.1 v (occurs_listed v o)) in
        record {
          strands = λ k p at. strand_to p (all_to (is_fit_strand protocol) g.strands d.0 p (member_at g.strands k p at));
          sorted = λ u there. (plain_to u (plain_term e.0 f.0 f.1 u there)).0;
          nameless = λ u there. (plain_to u (plain_term e.0 f.0 f.1 u there)).1;
          small = λ v o. ltb-true v.num 1073741824 (one v o).0;
          one_sort = λ v w o q same. agree_to v w (all_to (agree v) (pattern_variables g) (one v o).1 w (occurs_listed w q)) same;
          few_strands = ltb-true (length g.strands) 65535 b.0;
          few_known = ltb-true (length g.known) 4294967295 c.0;
        }

    all_plain : (ts : List Term) → ((t : Term) → Contains ts t → IsTermOf g t) → IsFit protocol g → list_all (is_plain protocol.sig) ts ≡ true
    all_plain ts of fit = all_from (is_plain protocol.sig) ts (λ t c. plain_from t (fit.sorted t (of t c)) (fit.nameless t (of t c)))

    plain_strand : (p : PStrand) → Contains g.strands p → IsFit protocol g → is_plain_strand protocol.sig p ≡ true
    plain_strand p c fit =
        let place = place_of g.strands p c in
        and_from (list_all (is_plain protocol.sig) p.args) (list_all (is_plain protocol.sig) p.msgs)
        (all_plain p.args (λ t d. of_args place.0 p place.1 d) fit) (all_plain p.msgs (λ t d. of_msgs place.0 p place.1 d) fit)

    fits_from : IsFit protocol g → IsTrue (is_fit protocol g)
    fits_from fit =
        and_from (are_parts_fit protocol g) (list_all (has_one_sort (pattern_variables g)) (pattern_variables g))
        (and_from few_strands (few_known && (strands_fit && (strands_plain && (known_plain && unknown_plain)))) (lt-ltb (length g.strands) 65535 fit.few_strands)
        (and_from few_known (strands_fit && (strands_plain && (known_plain && unknown_plain))) (lt-ltb (length g.known) 4294967295 fit.few_known)
        (and_from strands_fit (strands_plain && (known_plain && unknown_plain)) (all_from (is_fit_strand protocol) g.strands (λ p c. let place = place_of g.strands p c in strand_from p (fit.strands place.0 p place.1)))
        (and_from strands_plain (known_plain && unknown_plain) (all_from (is_plain_strand protocol.sig) g.strands (λ p c. plain_strand p c fit))
        (and_from known_plain unknown_plain (all_plain g.known (λ t c. of_known c) fit) (all_plain g.unknown (λ t c. of_unknown c) fit))))))
        (all_from (has_one_sort (pattern_variables g)) (pattern_variables g) (λ v c.
        and_from (nat_lt v.num 1073741824) (list_all (agree v) (pattern_variables g)) (lt-ltb v.num 1073741824 (fit.small v (listed_occurs v c)))
        (all_from (agree v) (pattern_variables g) (λ w d. agree_from v w (fit.one_sort v w (listed_occurs v c) (listed_occurs w d))))))

    -- the test tells whether the pattern fits
    pub fits_exactly : (b : Bool) → b ≡ is_fit protocol g → IsTrue b ↔ IsFit protocol g
    fits_exactly b e = (λ t. fits_to (subst (λ (x : Bool). IsTrue x) e t), λ fit. subst (λ (x : Bool). IsTrue x) (sym e) (fits_from fit))

-- ## Parameters

pub below_apart : (sig : Signature) (args : List Term) (sorts : List ℕ) → length args ≢ length sorts → all_below sig (map least_sort args) sorts ≡ false
below_apart sig args sorts n = all_below_apart sig (map least_sort args) sorts (λ e. n (sym (length-map args least_sort) ∙ e))

pub params_length : (strand : Strand) → length (param_sorts strand) ≡ length strand.vars + strand.fresh
params_length strand = length-append strand.vars (replicate strand.fresh 1) ∙ ap (λ n. length strand.vars + n) (length-replicate strand.fresh 1)

pub below_step : (sig : Signature) (args : List Term) (sorts : List ℕ) (k : ℕ) (d : Term) → k < length args → k < length sorts →
    all_below sig (map least_sort (drop k args)) (drop k sorts) ≡ (is_below sig (least_sort (get_or args k d)) (get_or sorts k 0) && all_below sig (map least_sort (drop (k + 1) args)) (drop (k + 1) sorts))
below_step sig args sorts k d l m = all_below_step sig args sorts k d l m

pub below_ends : (sig : Signature) (args : List Term) (sorts : List ℕ) (k : ℕ) → length args ≤ k → length sorts ≤ k → all_below sig (map least_sort (drop k args)) (drop k sorts) ≡ true
below_ends sig args sorts k l m = all_below_ends sig args sorts k l m

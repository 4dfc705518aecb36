-- A term that is read off a text is well sorted where the sorts of the scope are sorts, and its
-- variables are those of the scope.
use Rattle.std.proofs.Common.{◌≡◌, ℕ, Bool, true, false, ◌==◌, ◌&&◌, cond, List, [], ◌∷◌, Option, None, Some, Result, Ok, Err, map, slice_get, suc, get_or, refl, subst, ap, sym, ◌∙◌, Contains, arith}
use Rattle.std.specs.Prelude.{IfOk}
use Rattle.std.specs.List.{All, list_all, flat_map}
use Rattle.std.specs.Option.{option_map, option_and_then, option_or}
use Rattle.std.specs.Str.{bytes_eq}
use Rattle.std.proofs.lemmas.List.Elements.{All-append}
use Rattle.npa_term.specs.declared.term.Var.{Var as Variable_}
use Rattle.npa_term.specs.declared.term.Term.{Term, App}
use Rattle.npa_term.specs.Variables.{variables}
use Rattle.npa_term.proofs.Rows.{variables_at}
use Rattle.npa_text.specs.declared.token.Token.{Token}
use Rattle.npa_text.specs.declared.token.Raw.{Raw, Raw', Row_of-Raw, end_of-Raw, more_of-Raw, outs-Raw'}
use Rattle.npa_text.specs.Texts.{text_of, number_of as number_in}
use Rattle.npa_sig.specs.declared.fault.UseFail.{UseFail}
use Rattle.npa_sig.specs.declared.meaning.Scoped.{Scoped}
use Rattle.npa_sig.specs.declared.meaning.Head.{Head}
use Rattle.npa_sig.specs.declared.meaning.Head.TheVariants.{Variable, Fresh, Operator}
use Rattle.npa_sig.specs.declared.signature.OpDecl.{OpDecl}
use Rattle.npa_sig.specs.Signature.{Signature, number_of}
use Rattle.npa_sig.specs.Sorting.{is_below, same_bool, agrees, all_below, is_declared, well_sorted}
use Rattle.npa_reading.specs.Reading.{mapped, in_front}
use Rattle.npa_sig.specs.Meaning.{variable_of, operator_at, operator_of, word_head, is_fresh_name, head_of, head_sort, sort_at, one_fits, all_fit, fits_decl, fits, is_none_left, built, judged, unfit, read, read_row, sorts_of_row, Gives, scope_variables, IsSorted}
use Rattle.npa_term.specs.Parts.{least_sort}
use Rattle.npa_sig.proofs.Rows.{well_sorted_at}

own_variable : (word : List ℕ) (scope : List Scoped) (v : Variable_) → variable_of word scope ≡ Some v → Contains (scope_variables scope) v
own_variable word [] v e = cc
own_variable word (s ∷ scope) v e = from (bytes_eq word s.name) (own_variable word scope v) e
  where
    further : Contains (scope_variables scope) v → Contains (scope_variables (s ∷ scope)) v
    further w = let lt = w.1 in (suc w.0, omega arith, w.2)

    from : (b : Bool) → (variable_of word scope ≡ Some v → Contains (scope_variables scope) v) → cond b (Some s.var) (variable_of word scope) ≡ Some v → Contains (scope_variables (s ∷ scope)) v
    from true rest e = let same : s.var ≡ v = cc in (0, omega arith, same)
    from false rest e = further (rest e)

same_number : (n : ℕ) → (n == n) ≡ true
same_number n = grind arith

same_bools : (b : Bool) → same_bool b b ≡ true
same_bools true = refl
same_bools false = refl

both : (a b : Bool) → a ≡ true → b ≡ true → (a && b) ≡ true
both true true p q = refl
both true false p q = cc
both false b p q = cc

first_true : (a b : Bool) → (a && b) ≡ true → a ≡ true
first_true true b e = refl
first_true false b e = cc

second_true : (a b : Bool) → (a && b) ≡ true → b ≡ true
second_true true b e = e
second_true false b e = cc

module _ (sig : Signature) (scope : List Scoped) where
  -- the variable is one of the scope, the operator one that is declared
  abbrev IsGood : Head → Type 0
  IsGood (Variable v) = Contains (scope_variables scope) v
  IsGood (Fresh n) = Unit {0}
  IsGood (Operator op) = (decl : OpDecl) × (slice_get sig.ops op.num ≡ Some decl) × (agrees op decl ≡ true)

  abbrev IsGoodHead : Option Head → Type 0
  IsGoodHead None = Unit {0}
  IsGoodHead (Some h) = IsGood h

  good_operator : (num : ℕ) → IsGoodHead (operator_at sig num)
  good_operator num = from (slice_get sig.ops num) refl
    where
      from : (o : Option OpDecl) → slice_get sig.ops num ≡ o → IsGoodHead (option_map (λ decl. Operator (record { num = num; result = decl.result; «com» = decl.«com» })) o)
      from None e = tt
      from (Some decl) e = (decl, e, both (decl.result == decl.result) (same_bool decl.«com» decl.«com») (same_number decl.result) (same_bools decl.«com»))

  good_operator_of : (word : List ℕ) → IsGoodHead (operator_of sig word)
  good_operator_of word = from (number_of sig word)
    where
      from : (o : Option ℕ) → IsGoodHead (option_and_then (operator_at sig) o)
      from None = tt
      from (Some num) = good_operator num

  good_word : (word : List ℕ) → IsGoodHead (word_head sig scope word)
  good_word word = from (variable_of word scope) refl
    where
      from : (o : Option Variable_) → variable_of word scope ≡ o → IsGoodHead (option_or (option_map Variable o) (operator_of sig word))
      from (Some v) e = own_variable word scope v e
      from None e = good_operator_of word

  good_head : (bytes : List ℕ) (token : Token) → IsGoodHead (head_of sig scope bytes token)
  good_head bytes token = from (is_fresh_name token.kind)
    where
      from : (b : Bool) → IsGoodHead (cond b (Some (Fresh (number_in bytes token))) (word_head sig scope (text_of bytes token)))
      from true = tt
      from false = good_word (text_of bytes token)

  -- what is known of a term that was read, whose first word tells this sort
  record IsRead (o : Option ℕ) (t : Term) : Type 0 where
    told : o ≡ Some (least_sort t)
    sorted : IsSorted sig scope → well_sorted sig t ≡ true
    own : All (Contains (scope_variables scope)) (variables t)

  abbrev AreRead : List (Option ℕ) → List Term → Type 0
  AreRead [] [] = Unit {0}
  AreRead [] (t ∷ ts) = ⊥
  AreRead (o ∷ os) [] = ⊥
  AreRead (o ∷ os) (t ∷ ts) = IsRead o t × AreRead os ts

  abbrev TermRead : Option ℕ → Result Term UseFail → Type 0
  TermRead o (Ok t) = IsRead o t
  TermRead o (Err e) = Unit {0}

  abbrev RowRead : List (Option ℕ) → Result (List Term) UseFail → Type 0
  RowRead os (Ok ts) = AreRead os ts
  RowRead os (Err e) = Unit {0}

  all_sorted : IsSorted sig scope → (os : List (Option ℕ)) (ts : List Term) → AreRead os ts → list_all (well_sorted sig) ts ≡ true
  all_sorted s [] [] are = refl
  all_sorted s [] (t ∷ ts) are = absurd are
  all_sorted s (o ∷ os) [] are = absurd are
  all_sorted s (o ∷ os) (t ∷ ts) are = both (well_sorted sig t) (list_all (well_sorted sig) ts) (are.0.sorted s) (all_sorted s os ts are.1)

  all_own : (os : List (Option ℕ)) (ts : List Term) → AreRead os ts → All (Contains (scope_variables scope)) (flat_map variables ts)
  all_own [] [] are = λ k d lt. absurd (let no : ⊥ = omega (arith, lt) in no)
  all_own [] (t ∷ ts) are = absurd are
  all_own (o ∷ os) [] are = absurd are
  all_own (o ∷ os) (t ∷ ts) are = All-append (Contains (scope_variables scope)) (variables t) (flat_map variables ts) are.0.own (all_own os ts are.1)

  none_left : (os : List (Option ℕ)) (ts : List Term) → is_none_left os ≡ true → AreRead os ts → ts ≡ []
  none_left [] [] e are = refl
  none_left [] (t ∷ ts) e are = absurd are
  none_left (o ∷ os) ts e are = cc

  sorts_fit : (os : List (Option ℕ)) (ts : List Term) (sorts : List ℕ) → AreRead os ts → all_fit sig os sorts ≡ true → all_below sig (map least_sort ts) sorts ≡ true
  sorts_fit [] [] [] are e = refl
  sorts_fit [] [] (s ∷ sorts) are e = cc
  sorts_fit [] (t ∷ ts) sorts are e = absurd are
  sorts_fit (o ∷ os) [] sorts are e = absurd are
  sorts_fit (o ∷ os) (t ∷ ts) [] are e = cc
  sorts_fit (o ∷ os) (t ∷ ts) (s ∷ sorts) are e =
      let fit : (is_below sig (least_sort t) s && all_fit sig os sorts) ≡ true = subst (λ x. (one_fits sig x s && all_fit sig os sorts) ≡ true) are.0.told e in
      both (is_below sig (least_sort t) s) (all_below sig (map least_sort ts) sorts) (first_true (is_below sig (least_sort t) s) (all_fit sig os sorts) fit)
      (sorts_fit os ts sorts are.1 (second_true (is_below sig (least_sort t) s) (all_fit sig os sorts) fit))

  built_read : (h : Head) (os : List (Option ℕ)) (ts : List Term) → IsGood h → fits sig h os ≡ true → AreRead os ts → IsRead (Some (head_sort h)) (built h ts)
  built_read (Variable v) os ts good fit are = record {
    told = refl;
    sorted = λ s. s v good;
    own = λ k d lt. let zero_ : k ≡ 0 = omega (arith, lt) in subst (λ (n : ℕ). Contains (scope_variables scope) (get_or (v ∷ []) n d)) (sym zero_) good;
  }
  built_read (Fresh n) os ts good fit are = record {
    told = refl;
    sorted = λ s. refl;
    own = λ k d lt. absurd (let no : ⊥ = omega (arith, lt) in no);
  }
  built_read (Operator op) os ts good fit are = record {
    told = refl;
    sorted = λ s.
        well_sorted_at sig (App op ts) op ts refl
        ∙ both (is_declared sig op (map least_sort ts) (slice_get sig.ops op.num)) (list_all (well_sorted sig) ts)
        (ap (is_declared sig op (map least_sort ts)) good.1 ∙ both (agrees op good.0) (all_below sig (map least_sort ts) good.0.args) good.2
        (sorts_fit os ts good.0.args are (ap (fits_decl sig os) (sym good.1) ∙ fit)))
        (all_sorted s os ts are);
    own = subst (All (Contains (scope_variables scope))) (sym (variables_at (App op ts) op ts refl)) (all_own os ts are);
  }

  judged_read : (bytes : List ℕ) (token : Token) (o : Option Head) (os : List (Option ℕ)) (args : Result (List Term) UseFail) →
      IsGoodHead o → RowRead os args → TermRead (option_map head_sort o) (judged sig bytes token o os args)
  judged_read bytes token None os args good are = tt
  judged_read bytes token (Some h) os args good are = from (fits sig h os) refl
    where
      with_read : fits sig h os ≡ true → (r : Result (List Term) UseFail) → RowRead os r → TermRead (Some (head_sort h)) (mapped (built h) r)
      with_read fit (Ok ts) are = built_read h os ts good fit are
      with_read fit (Err e) are = tt

      from : (b : Bool) → fits sig h os ≡ b → TermRead (Some (head_sort h)) (cond b (mapped (built h) args) (Err (unfit bytes token)))
      from true fit = with_read fit args are
      from false fit = tt

  front_read : (o : Option ℕ) (os : List (Option ℕ)) (r : Result Term UseFail) (rs : Result (List Term) UseFail) → TermRead o r → RowRead os rs → RowRead (o ∷ os) (in_front r rs)
  front_read o os (Ok t) (Ok ts) is are = (is, are)
  front_read o os (Ok t) (Err e) is are = tt
  front_read o os (Err e) rs is are = tt

  module _ (bytes : List ℕ) where
    mutual
      read_is : (raw : Raw) → TermRead (sort_at sig scope bytes raw) (read sig scope bytes raw)
      read_is (Raw' token n args) =
          subst (λ (h : Token). TermRead (option_map head_sort (head_of sig scope bytes h)) (read sig scope bytes (Raw' token n args)))
          (sym (ap (λ r. r.head) (outs-Raw' token n args)))
          (judged_read bytes token (head_of sig scope bytes token) (sorts_of_row sig scope bytes args) (read_row sig scope bytes args)
          (good_head bytes token) (row_is args))

      row_is : {m : _} (k : Row_of-Raw m) → RowRead (sorts_of_row sig scope bytes k) (read_row sig scope bytes k)
      row_is end_of-Raw = tt
      row_is (more_of-Raw r rest) =
          front_read (sort_at sig scope bytes r) (sorts_of_row sig scope bytes rest) (read sig scope bytes r) (read_row sig scope bytes rest) (read_is r) (row_is rest)

    given : (answer : Result Term UseFail) (raw : Raw) → Gives answer (read sig scope bytes raw) → TermRead (sort_at sig scope bytes raw) answer
    given (Ok t) raw e = subst (TermRead (sort_at sig scope bytes raw)) e (read_is raw)
    given (Err e) raw g = tt

    pub sorted_answer : (answer : Result Term UseFail) (raw : Raw) → Gives answer (read sig scope bytes raw) → IsSorted sig scope → IfOk answer (λ t. well_sorted sig t ≡ true)
    sorted_answer (Ok t) raw g s = (given (Ok t) raw g).sorted s
    sorted_answer (Err e) raw g s = tt

    pub own_answer : (answer : Result Term UseFail) (raw : Raw) → Gives answer (read sig scope bytes raw) → IfOk answer (λ t. All (Contains (scope_variables scope)) (variables t))
    own_answer (Ok t) raw g = (given (Ok t) raw g).own
    own_answer (Err e) raw g = tt

    pub told_answer : (answer : Result Term UseFail) (raw : Raw) → Gives answer (read sig scope bytes raw) → IfOk answer (λ t. sort_at sig scope bytes raw ≡ Some (least_sort t))
    told_answer (Ok t) raw g = (given (Ok t) raw g).told
    told_answer (Err e) raw g = tt

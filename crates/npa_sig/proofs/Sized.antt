-- A term that is read has no more symbols than the term of the text has words.
use Rattle.std.proofs.Common.{◌≡◌, ℕ, ◌+◌, ◌≤◌, Bool, true, false, cond, List, [], ◌∷◌, Option, None, Some, Result, Ok, Err, map, refl, ap, sym, ◌∙◌, subst, arith}
use Rattle.npa_term.specs.declared.term.Term.{Term}
use Rattle.npa_term.specs.declared.term.Op.{Op}
use Rattle.npa_term.specs.declared.term.Term.TheVariants.{App}
use Rattle.npa_term.specs.Symbols.{symbol_count, all_count}
use Rattle.npa_term.proofs.Rows.{symbol_count_at}
use Rattle.npa_text.specs.declared.token.Token.{Token}
use Rattle.npa_text.specs.declared.token.Raw.{Raw, Raw', out-Raw, out-roll-Raw, outs-Raw', Row_of-Raw, end_of-Raw, more_of-Raw, items-the_row-Raw, items_shown-the_row-Raw-0}
use Rattle.npa_text.specs.declared.token.Raw.TheFolds.{fold-Raw, fold_out-Raw}
use Rattle.npa_text.specs.Raws.{term_with}
use Rattle.npa_reading.specs.Reading.{mapped, in_front}
use Rattle.npa_sig.specs.declared.fault.UseFail.{UseFail}
use Rattle.npa_sig.specs.declared.meaning.Scoped.{Scoped}
use Rattle.npa_sig.specs.declared.meaning.Head.{Head}
use Rattle.npa_sig.specs.declared.meaning.Head.TheVariants.{Variable, Fresh, Operator}
use Rattle.npa_sig.specs.Signature.{Signature}
use Rattle.npa_sig.specs.Meaning.{head_of, fits, built, judged, unfit, read, read_row, sorts_of_row}

-- the numbers together
abbrev pub sum_of : List ℕ → ℕ
sum_of [] = 0
sum_of (n ∷ ns) = n + sum_of ns

-- how many words a term of a text has
abbrev pub raw_count : Raw → ℕ
raw_count raw = fold-Raw ℕ (λ layer. 1 + sum_of layer.args) raw

-- one more than its arguments together
pub raw_count_at : (raw : Raw) → raw_count raw ≡ 1 + sum_of (map raw_count (out-Raw raw).args)
raw_count_at raw = fold_out-Raw ℕ (λ layer. 1 + sum_of layer.args) raw

pub raw_count_with : (head : Token) (args : List Raw) → raw_count (term_with head args) ≡ 1 + sum_of (map raw_count args)
raw_count_with head args = raw_count_at (term_with head args) ∙ ap (λ layer. 1 + sum_of (map raw_count layer.args)) (out-roll-Raw (record { head = head; args = args }))

abbrev IsFew : ℕ → Result Term UseFail → Type 0
IsFew n (Ok t) = symbol_count t ≤ n
IsFew n (Err e) = Unit {0}

abbrev AreFew : ℕ → Result (List Term) UseFail → Type 0
AreFew n (Ok ts) = all_count ts ≤ n
AreFew n (Err e) = Unit {0}

front_few : (m n : ℕ) (r : Result Term UseFail) (rs : Result (List Term) UseFail) → IsFew m r → AreFew n rs → AreFew (m + n) (in_front r rs)
front_few m n (Ok t) (Ok ts) is are = omega (arith, is, are)
front_few m n (Ok t) (Err e) is are = tt
front_few m n (Err e) rs is are = tt

built_few : (n : ℕ) (h : Head) (ts : List Term) → all_count ts ≤ n → symbol_count (built h ts) ≤ 1 + n
built_few n (Variable v) ts are = omega arith
built_few n (Fresh m) ts are = omega arith
built_few n (Operator op) ts are = let whole : symbol_count (App op ts) ≡ 1 + all_count ts = symbol_count_at (App op ts) op ts refl in omega (arith, whole, are)

judged_few : (n : ℕ) (sig : Signature) (bytes : List ℕ) (token : Token) (o : Option Head) (os : List (Option ℕ)) (args : Result (List Term) UseFail) → AreFew n args → IsFew (1 + n) (judged sig bytes token o os args)
judged_few n sig bytes token None os args are = tt
judged_few n sig bytes token (Some h) os args are = split (fits sig h os)
  where
    with_few : (r : Result (List Term) UseFail) → AreFew n r → IsFew (1 + n) (mapped (built h) r)
    with_few (Ok ts) is = built_few n h ts is
    with_few (Err e) is = tt

    split : (b : Bool) → IsFew (1 + n) (cond b (mapped (built h) args) (Err (unfit bytes token)))
    split true = with_few args are
    split false = tt

module _ (sig : Signature) (scope : List Scoped) (bytes : List ℕ) where
  mutual
    read_few : (raw : Raw) → IsFew (raw_count raw) (read sig scope bytes raw)
    read_few (Raw' token n args) =
        let made = outs-Raw' token n args in
        let count : raw_count (Raw' token n args) ≡ 1 + sum_of (map raw_count (items-the_row-Raw _ args)) =
        raw_count_at (Raw' token n args) ∙ ap (λ rs. 1 + sum_of (map raw_count rs)) (ap (λ layer. layer.args) made ∙ items_shown-the_row-Raw-0 n args) in
        subst (λ k. IsFew k (read sig scope bytes (Raw' token n args))) (sym count)
        (judged_few (sum_of (map raw_count (items-the_row-Raw _ args))) sig bytes token (head_of sig scope bytes token) (sorts_of_row sig scope bytes args) (read_row sig scope bytes args) (row_few args))

    row_few : {m : _} (k : Row_of-Raw m) → AreFew (sum_of (map raw_count (items-the_row-Raw m k))) (read_row sig scope bytes k)
    row_few end_of-Raw = omega arith
    row_few {m} (more_of-Raw r rest) =
        front_few (raw_count r) (sum_of (map raw_count (items-the_row-Raw _ rest))) (read sig scope bytes r) (read_row sig scope bytes rest) (read_few r) (row_few rest)

  -- a term that is read has no more symbols than there are words
  pub few_symbols : (raw : Raw) (t : Term) → read sig scope bytes raw ≡ Ok t → symbol_count t ≤ raw_count raw
  few_symbols raw t e = subst (IsFew (raw_count raw)) e (read_few raw)

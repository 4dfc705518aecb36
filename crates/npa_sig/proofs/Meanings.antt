-- What a term of a text means, word by word.
use Rattle.std.proofs.Common.{◌≡◌, ◌≢◌, ℕ, suc, ◌+◌, ◌<◌, ◌≤◌, Bool, true, false, ◌&&◌, List, [], ◌∷◌, ◌++◌, Option, None, Some, Result, Ok, Err, refl, ap, sym, ◌∙◌, drop, map, length, get_or, drop-cons, add-one, cond, append_assoc, append-nil, inl, inr}
use Rattle.std.proofs.lemmas.List.{drop_all}
use Rattle.std.specs.Str.{bytes_eq}
use Rattle.npa_term.specs.declared.term.Var.{Var as Variable_}
use Rattle.npa_term.specs.declared.term.Op.{Op}
use Rattle.npa_term.specs.declared.term.Term.{Term, Var, Name, App}
use Rattle.npa_text.specs.declared.token.Raw.{Raw, out-Raw, is-Raw', Row_of-Raw, end_of-Raw, more_of-Raw, items-the_row-Raw, items_hidden-the_row-Raw-0}
use Rattle.npa_text.specs.declared.token.Raw.TheBlock.{hidden-the_row-Raw-0}
use Rattle.npa_sig.specs.declared.fault.UseFail.{UseFail}
use Rattle.npa_sig.specs.declared.fault.UseFail.TheVariants as use_fail
use Rattle.npa_sig.specs.declared.meaning.Scoped.{Scoped}
use Rattle.npa_sig.specs.declared.meaning.Head.{Head}
use Rattle.npa_sig.specs.declared.meaning.Head.TheVariants.{Variable, Fresh, Operator}
use Rattle.npa_sig.specs.Signature.{Signature}
use Rattle.npa_reading.specs.Reading.{mapped, in_front, with_front, Refuses}
use Rattle.npa_sig.specs.Meaning.{variable_of, head_of, sort_at, one_fits, all_fit, fits, is_none_left, unknown, unfit, built, judged, read, read_row, sorts_of_row, read_all, Tells}

front_none : (r : Result (List Term) UseFail) → r ≡ with_front [] r
front_none (Ok ts) = refl
front_none (Err e) = refl

front_more : (made : List Term) (t : Term) (r : Result (List Term) UseFail) → with_front made (in_front (Ok t) r) ≡ with_front (made ++ t ∷ []) r
front_more made t (Ok ts) = ap Ok (sym (append_assoc made (t ∷ []) ts))
front_more made t (Err e) = refl

module _ (sig : Signature) (scope : List Scoped) (bytes : List ℕ) where
  abbrev sorts : List Raw → List (Option ℕ)
  sorts raws = map (sort_at sig scope bytes) raws

  pub all_fit_apart : (ss : List (Option ℕ)) (ts : List ℕ) → length ss ≢ length ts → all_fit sig ss ts ≡ false
  all_fit_apart [] [] n = absurd (n refl)
  all_fit_apart (s ∷ ss) (t ∷ ts) n = rest (one_fits sig s t) (all_fit_apart ss ts (λ e. n (ap suc e)))
    where
      rest : (b : Bool) {x : Bool} → x ≡ false → (b && x) ≡ false
      rest true e = e
      rest false e = refl
  all_fit_apart [] (t ∷ ts) n = refl
  all_fit_apart (s ∷ ss) [] n = refl

  pub all_fit_step : (args : List Raw) (ts : List ℕ) (k : ℕ) (d : Raw) → k < length args → k < length ts →
      all_fit sig (sorts (drop k args)) (drop k ts) ≡ (one_fits sig (sort_at sig scope bytes (get_or args k d)) (get_or ts k 0) && all_fit sig (sorts (drop (k + 1) args)) (drop (k + 1) ts))
  all_fit_step args ts k d p q = rw (drop-cons args k d, drop-cons ts k 0, add-one) refl

  pub all_fit_ends : (args : List Raw) (ts : List ℕ) (k : ℕ) → length args ≤ k → length ts ≤ k → all_fit sig (sorts (drop k args)) (drop k ts) ≡ true
  all_fit_ends args ts k p q = ap (λ rs. all_fit sig (sorts rs) (drop k ts)) (drop_all k args p) ∙ ap (all_fit sig []) (drop_all k ts q)

  sorts_items : {n : _} (k : Row_of-Raw n) → sorts_of_row sig scope bytes k ≡ sorts (items-the_row-Raw n k)
  sorts_items end_of-Raw = refl
  sorts_items (more_of-Raw r rest) = ap (λ ss. sort_at sig scope bytes r ∷ ss) (sorts_items rest)

  read_items : {n : _} (k : Row_of-Raw n) → read_row sig scope bytes k ≡ read_all sig scope bytes (items-the_row-Raw n k)
  read_items end_of-Raw = refl
  read_items (more_of-Raw r rest) = ap (in_front (read sig scope bytes r)) (read_items rest)

  abbrev its_head : Raw → Option Head
  its_head raw = head_of sig scope bytes (out-Raw raw).head

  pub read_at : (raw : Raw) → read sig scope bytes raw ≡ judged sig bytes (out-Raw raw).head (its_head raw) (sorts (out-Raw raw).args) (read_all sig scope bytes (out-Raw raw).args)
  read_at raw =
      let k = hidden-the_row-Raw-0 (out-Raw raw).args in
      let listed = items_hidden-the_row-Raw-0 (out-Raw raw).args in
      ap (read sig scope bytes) (is-Raw' raw)
      ∙ ap (λ ss. judged sig bytes (out-Raw raw).head (its_head raw) ss (read_row sig scope bytes k)) (sorts_items k ∙ ap (λ rs. sorts rs) listed)
      ∙ ap (λ ts. judged sig bytes (out-Raw raw).head (its_head raw) (sorts (out-Raw raw).args) ts) (read_items k ∙ ap (read_all sig scope bytes) listed)

  tells : (e f : UseFail) (r : Result Term UseFail) → Tells e f → r ≡ Err f → Refuses use_fail.NoMemory e r
  tells e f r (inl none) is = inl none
  tells e f r (inr same) is = inr (is ∙ ap Err (sym same))

  module _ (raw : Raw) where
    pub is_unknown : (e : UseFail) → its_head raw ≡ None → Tells e (unknown bytes (out-Raw raw).head) → Refuses use_fail.NoMemory e (read sig scope bytes raw)
    is_unknown e none t = tells e (unknown bytes (out-Raw raw).head) _ t (read_at raw ∙ ap (λ h. judged sig bytes (out-Raw raw).head h (sorts (out-Raw raw).args) (read_all sig scope bytes (out-Raw raw).args)) none)

    module _ (h : Head) (found : its_head raw ≡ Some h) where
      judged_head : read sig scope bytes raw ≡ cond (fits sig h (sorts (out-Raw raw).args)) (mapped (built h) (read_all sig scope bytes (out-Raw raw).args)) (Err (unfit bytes (out-Raw raw).head))
      judged_head = read_at raw ∙ ap (λ o. judged sig bytes (out-Raw raw).head o (sorts (out-Raw raw).args) (read_all sig scope bytes (out-Raw raw).args)) found

      pub is_unfit : (e : UseFail) (args : List Raw) → args ≡ (out-Raw raw).args → fits sig h (sorts args) ≡ false → Tells e (unfit bytes (out-Raw raw).head) → Refuses use_fail.NoMemory e (read sig scope bytes raw)
      is_unfit e args same f' t =
          let f : fits sig h (sorts (out-Raw raw).args) ≡ false = ap (λ (rs : List Raw). fits sig h (sorts rs)) (sym same) ∙ f' in
          tells e (unfit bytes (out-Raw raw).head) _ t (judged_head ∙ ap (λ b. cond b (mapped (built h) (read_all sig scope bytes (out-Raw raw).args)) (Err (unfit bytes (out-Raw raw).head))) f)

      pub is_built : (args : List Raw) → args ≡ (out-Raw raw).args → fits sig h (sorts args) ≡ true → read sig scope bytes raw ≡ mapped (built h) (read_all sig scope bytes args)
      is_built args same f = judged_head ∙ ap (λ (rs : List Raw). cond (fits sig h (sorts rs)) (mapped (built h) (read_all sig scope bytes rs)) (Err (unfit bytes (out-Raw raw).head))) (sym same) ∙ ap (λ b. cond b (mapped (built h) (read_all sig scope bytes args)) (Err (unfit bytes (out-Raw raw).head))) f

    -- a variable takes no arguments
    pub is_variable : (v : Variable_) (args : List Raw) → args ≡ (out-Raw raw).args → its_head raw ≡ Some (Variable v) → fits sig (Variable v) (sorts args) ≡ true → read sig scope bytes raw ≡ Ok (Var v)
    is_variable v args same found f = is_built (Variable v) found args same f ∙ ap (mapped (built (Variable v))) (none args f)
      where
        none : (rs : List Raw) → is_none_left (sorts rs) ≡ true → read_all sig scope bytes rs ≡ Ok []
        none [] e = refl
        none (r ∷ rs) e = cc

    -- nor does a fresh name
    pub is_fresh : (n : ℕ) (args : List Raw) → args ≡ (out-Raw raw).args → its_head raw ≡ Some (Fresh n) → fits sig (Fresh n) (sorts args) ≡ true → read sig scope bytes raw ≡ Ok (Name n)
    is_fresh n args same found f = is_built (Fresh n) found args same f ∙ ap (mapped (built (Fresh n))) (none args f)
      where
        none : (rs : List Raw) → is_none_left (sorts rs) ≡ true → read_all sig scope bytes rs ≡ Ok []
        none [] e = refl
        none (r ∷ rs) e = cc

    module _ (op : Op) (args : List Raw) (same : args ≡ (out-Raw raw).args) (found : its_head raw ≡ Some (Operator op)) (f : fits sig (Operator op) (sorts args) ≡ true) (made : List Term) (k : ℕ)
        (front : read_all sig scope bytes args ≡ with_front made (read_all sig scope bytes (drop k args))) where
      next : (r : Raw) → k < length args → r ≡ get_or args k r → read_all sig scope bytes (drop k args) ≡ in_front (read sig scope bytes r) (read_all sig scope bytes (drop (k + 1) args))
      next r l at = step r l ∙ ap (λ (x : Raw). in_front (read sig scope bytes x) (read_all sig scope bytes (drop (k + 1) args))) (sym at)
        where
          step : (d : Raw) → k < length args → read_all sig scope bytes (drop k args) ≡ in_front (read sig scope bytes (get_or args k d)) (read_all sig scope bytes (drop (k + 1) args))
          step d p = rw (drop-cons args k d, add-one) refl

      fails : (r : Raw) (e : UseFail) → k < length args → r ≡ get_or args k r → read sig scope bytes r ≡ Err e → read sig scope bytes raw ≡ Err e
      fails r e l at is = is_built (Operator op) found args same f ∙ ap (mapped (built (Operator op))) (front ∙ ap (with_front made) (next r l at ∙ ap (λ (x : Result Term UseFail). in_front x (read_all sig scope bytes (drop (k + 1) args))) is))

      pub all_read : length args ≤ k → read sig scope bytes raw ≡ Ok (App op made)
      all_read l = is_built (Operator op) found args same f ∙ ap (mapped (built (Operator op))) (front ∙ ap (λ (rs : List Raw). with_front made (read_all sig scope bytes rs)) (drop_all k args l) ∙ ap Ok (append-nil made))

      pub one_read : (r : Raw) (t : Term) → k < length args → r ≡ get_or args k r → read sig scope bytes r ≡ Ok t → read_all sig scope bytes args ≡ with_front (made ++ t ∷ []) (read_all sig scope bytes (drop (k + 1) args))
      one_read r t l at e = front ∙ ap (with_front made) (next r l at ∙ ap (λ (x : Result Term UseFail). in_front x (read_all sig scope bytes (drop (k + 1) args))) e) ∙ front_more made t (read_all sig scope bytes (drop (k + 1) args))

      pub one_fails : (r : Raw) (e : UseFail) → k < length args → r ≡ get_or args k r → Refuses use_fail.NoMemory e (read sig scope bytes r) → Refuses use_fail.NoMemory e (read sig scope bytes raw)
      one_fails r e l at (inl none) = inl none
      one_fails r e l at (inr is) = inr (fails r e l at is)

pub fits_as : (sig : Signature) (ss : List (Option ℕ)) {h g : Head} {b : Bool} → h ≡ g → b ≡ fits sig h ss → b ≡ true → fits sig g ss ≡ true
fits_as sig ss {h} {g} {b} is e t = ap (λ (x : Head). fits sig x ss) (sym is) ∙ sym e ∙ t

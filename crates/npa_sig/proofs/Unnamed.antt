-- A term that is read off words alone has no fresh name in it.
use Rattle.std.proofs.Common.{◌≡◌, ℕ, Bool, true, false, not, ◌&&◌, cond, List, [], ◌∷◌, Option, None, Some, Result, Ok, Err, map, slice_get, refl, ap, sym, ◌∙◌, subst, Contains, ⊎_elim, arith}
use Rattle.std.specs.List.{list_all}
use Rattle.std.specs.Option.{option_map, option_and_then, option_or}
use Rattle.std.proofs.lemmas.Bool.{and_parts, and_from}
use Rattle.std.proofs.lemmas.List.Elements.{Contains-append_cases}
use Rattle.npa_term.specs.declared.term.Op.{Op}
use Rattle.npa_term.specs.declared.term.Var.{Var as Variable_}
use Rattle.npa_term.specs.declared.term.Term.{Term, Var, Name, App, App', Row_of-Term, end_of-Term, more_of-Term, items-the_row-Term, items_hidden-the_row-Term-0}
use Rattle.npa_term.specs.declared.term.Term.TheBlock.{hidden-the_row-Term-0}
use Rattle.npa_term.specs.Parts.{IsPart, whole, inside}
use Rattle.npa_term.proofs.Parts.{only_member}
use Rattle.npa_text.specs.declared.token.Token.{Token}
use Rattle.npa_text.specs.declared.token.Raw.{Raw, Raw', out-Raw, out-roll-Raw, outs-Raw', Row_of-Raw, end_of-Raw, more_of-Raw, items-the_row-Raw, items_shown-the_row-Raw-0}
use Rattle.npa_text.specs.declared.token.Raw.TheFolds.{fold-Raw, fold_out-Raw}
use Rattle.npa_text.specs.Raws.{term_with}
use Rattle.npa_text.specs.Texts.{text_of, number_of as number_in}
use Rattle.npa_sig.specs.declared.fault.UseFail.{UseFail}
use Rattle.npa_sig.specs.declared.meaning.Scoped.{Scoped}
use Rattle.npa_sig.specs.declared.meaning.Head.{Head}
use Rattle.npa_sig.specs.declared.meaning.Head.TheVariants.{Variable, Fresh, Operator}
use Rattle.npa_sig.specs.declared.signature.OpDecl.{OpDecl}
use Rattle.npa_sig.specs.Signature.{Signature, number_of}
use Rattle.npa_reading.specs.Reading.{mapped, in_front}
use Rattle.npa_sig.specs.Meaning.{variable_of, operator_at, operator_of, word_head, is_fresh_name, head_of, fits, built, judged, unfit, read, read_row, sorts_of_row}
use Rattle.npa_sig.specs.WellFormed.{IsNameless}

-- ## Terms without fresh names

abbrev mutual
  -- whether no fresh name stands in a term
  pub is_nameless : Term → Bool
  is_nameless (Var v) = true
  is_nameless (Name n) = false
  is_nameless (App' op n args) = is_nameless_row args

  pub is_nameless_row : {n : _} → Row_of-Term n → Bool
  is_nameless_row end_of-Term = true
  is_nameless_row (more_of-Term t rest) = is_nameless t && is_nameless_row rest

nameless_items : {n : _} (k : Row_of-Term n) → is_nameless_row k ≡ list_all is_nameless (items-the_row-Term n k)
nameless_items end_of-Term = refl
nameless_items (more_of-Term t rest) = ap (λ b. is_nameless t && b) (nameless_items rest)

-- that of an application, by its arguments
pub nameless_app : (op : Op) (ts : List Term) → is_nameless (App op ts) ≡ list_all is_nameless ts
nameless_app op ts = nameless_items (hidden-the_row-Term-0 ts) ∙ ap (list_all is_nameless) (items_hidden-the_row-Term-0 ts)

all_member : (P : Term → Bool) (ts : List Term) (t : Term) → list_all P ts ≡ true → Contains ts t → P t ≡ true
all_member P [] t e c = absurd (let lt = c.1 in let no : ⊥ = omega (arith, lt) in no)
all_member P (u ∷ ts) t e c =
    let both = and_parts (P u) (list_all P ts) e in
    ⊎_elim (λ first. subst (λ (v : Term). P v ≡ true) (only_member u t first) both.0) (λ rest. all_member P ts t both.1 rest) (Contains-append_cases (u ∷ []) ts t c)

part_nameless : {t u : Term} → IsPart t u → is_nameless u ≡ true → is_nameless t ≡ true
part_nameless whole e = e
part_nameless (inside op us u c p) e = part_nameless p (all_member is_nameless us u (sym (nameless_app op us) ∙ e) c)

-- and then none is a part of it
pub none_named : (t : Term) → is_nameless t ≡ true → IsNameless t
none_named t e n p = let clash : is_nameless (Name n) ≡ true = part_nameless p e in cc

-- ## Terms of a text

-- whether each word of a term of a text is no fresh name
abbrev pub is_plain : Raw → Bool
is_plain raw = fold-Raw Bool (λ layer. not (is_fresh_name layer.head.kind) && list_all (λ b. b) layer.args) raw

abbrev pub all_plain : List Raw → Bool
all_plain rs = list_all (λ b. b) (map is_plain rs)

plain_at : (raw : Raw) → is_plain raw ≡ (not (is_fresh_name (out-Raw raw).head.kind) && all_plain (out-Raw raw).args)
plain_at raw = fold_out-Raw Bool (λ layer. not (is_fresh_name layer.head.kind) && list_all (λ b. b) layer.args) raw

-- a word in front of such terms
pub plain_with : (head : Token) (args : List Raw) → is_fresh_name head.kind ≡ false → all_plain args ≡ true → is_plain (term_with head args) ≡ true
plain_with head args word each =
    plain_at (term_with head args)
    ∙ ap (λ layer. not (is_fresh_name layer.head.kind) && all_plain layer.args) (out-roll-Raw (record { head = head; args = args }))
    ∙ and_from (not (is_fresh_name head.kind)) (all_plain args) (ap not word) each

-- a head that isn't a fresh name
abbrev IsWordHead : Option Head → Type 0
IsWordHead None = Unit {0}
IsWordHead (Some (Variable v)) = Unit {0}
IsWordHead (Some (Fresh n)) = ⊥
IsWordHead (Some (Operator op)) = Unit {0}

operator_word : (sig : Signature) (o : Option ℕ) → IsWordHead (option_and_then (operator_at sig) o)
operator_word sig None = tt
operator_word sig (Some num) = split (slice_get sig.ops num)
  where
    split : (o : Option OpDecl) → IsWordHead (option_map (λ decl. Operator (record { num = num; result = decl.result; «com» = decl.«com» })) o)
    split None = tt
    split (Some decl) = tt

word_is : (sig : Signature) (scope : List Scoped) (word : List ℕ) → IsWordHead (word_head sig scope word)
word_is sig scope word = split (variable_of word scope)
  where
    split : (o : Option Variable_) → IsWordHead (option_or (option_map Variable o) (operator_of sig word))
    split (Some v) = tt
    split None = operator_word sig (number_of sig word)

head_is : (sig : Signature) (scope : List Scoped) (bytes : List ℕ) (token : Token) → is_fresh_name token.kind ≡ false → IsWordHead (head_of sig scope bytes token)
head_is sig scope bytes token word =
    subst (λ b. IsWordHead (cond b (Some (Fresh (number_in bytes token))) (word_head sig scope (text_of bytes token)))) (sym word) (word_is sig scope (text_of bytes token))

abbrev IsUnnamed : Result Term UseFail → Type 0
IsUnnamed (Ok t) = is_nameless t ≡ true
IsUnnamed (Err e) = Unit {0}

abbrev AreUnnamed : Result (List Term) UseFail → Type 0
AreUnnamed (Ok ts) = list_all is_nameless ts ≡ true
AreUnnamed (Err e) = Unit {0}

front_unnamed : (r : Result Term UseFail) (rs : Result (List Term) UseFail) → IsUnnamed r → AreUnnamed rs → AreUnnamed (in_front r rs)
front_unnamed (Ok t) (Ok ts) is are = and_from (is_nameless t) (list_all is_nameless ts) is are
front_unnamed (Ok t) (Err e) is are = tt
front_unnamed (Err e) rs is are = tt

built_unnamed : (h : Head) (ts : List Term) → IsWordHead (Some h) → list_all is_nameless ts ≡ true → is_nameless (built h ts) ≡ true
built_unnamed (Variable v) ts word are = refl
built_unnamed (Fresh n) ts word are = absurd word
built_unnamed (Operator op) ts word are = nameless_app op ts ∙ are

judged_unnamed : (sig : Signature) (bytes : List ℕ) (token : Token) (o : Option Head) (os : List (Option ℕ)) (args : Result (List Term) UseFail) → IsWordHead o → AreUnnamed args → IsUnnamed (judged sig bytes token o os args)
judged_unnamed sig bytes token None os args word are = tt
judged_unnamed sig bytes token (Some h) os args word are = split (fits sig h os)
  where
    with_unnamed : (r : Result (List Term) UseFail) → AreUnnamed r → IsUnnamed (mapped (built h) r)
    with_unnamed (Ok ts) is = built_unnamed h ts word is
    with_unnamed (Err e) is = tt

    split : (b : Bool) → IsUnnamed (cond b (mapped (built h) args) (Err (unfit bytes token)))
    split true = with_unnamed args are
    split false = tt

not_true : (b : Bool) → not b ≡ true → b ≡ false
not_true true e = cc
not_true false e = refl

module _ (sig : Signature) (scope : List Scoped) (bytes : List ℕ) where
  mutual
    read_unnamed : (raw : Raw) → is_plain raw ≡ true → IsUnnamed (read sig scope bytes raw)
    read_unnamed (Raw' token n args) plain =
        let made = outs-Raw' token n args in
        let all : (not (is_fresh_name token.kind) && all_plain (items-the_row-Raw _ args)) ≡ true =
        sym (ap (λ (x : Token). not (is_fresh_name x.kind) && all_plain (items-the_row-Raw _ args)) (ap (λ layer. layer.head) made))
        ∙ sym (ap (λ rs. not (is_fresh_name (out-Raw (Raw' token n args)).head.kind) && all_plain rs) (ap (λ layer. layer.args) made ∙ items_shown-the_row-Raw-0 n args))
        ∙ sym (plain_at (Raw' token n args)) ∙ plain in
        let both = and_parts (not (is_fresh_name token.kind)) (all_plain (items-the_row-Raw _ args)) all in
        judged_unnamed sig bytes token (head_of sig scope bytes token) (sorts_of_row sig scope bytes args) (read_row sig scope bytes args)
        (head_is sig scope bytes token (not_true (is_fresh_name token.kind) both.0)) (row_unnamed args both.1)

    row_unnamed : {m : _} (k : Row_of-Raw m) → all_plain (items-the_row-Raw m k) ≡ true → AreUnnamed (read_row sig scope bytes k)
    row_unnamed end_of-Raw plain = refl
    row_unnamed {m} (more_of-Raw r rest) plain =
        let both = and_parts (is_plain r) (all_plain (items-the_row-Raw _ rest)) plain in
        front_unnamed (read sig scope bytes r) (read_row sig scope bytes rest) (read_unnamed r both.0) (row_unnamed rest both.1)

  -- a term that is read off words alone has no fresh name
  pub nameless_read : (raw : Raw) (t : Term) → is_plain raw ≡ true → read sig scope bytes raw ≡ Ok t → IsNameless t
  nameless_read raw t plain e = none_named t (subst IsUnnamed e (read_unnamed raw plain))

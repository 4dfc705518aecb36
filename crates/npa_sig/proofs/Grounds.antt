-- With no scope no word stands for a variable, so a term of a text has none.
use Rattle.std.proofs.Common.{◌≡◌, ℕ, Bool, true, false, cond, List, [], Option, None, Some, Result, Ok, Err, subst, refl, ap, sym, ◌∙◌, slice_get}
use Rattle.std.specs.Prelude.{IfOk}
use Rattle.std.specs.Option.{option_map, option_and_then}
use Rattle.npa_term.specs.declared.term.Term.{Term}
use Rattle.npa_term.specs.Variables.{IsGround}
use Rattle.npa_term.proofs.Induction.{Each}
use Rattle.npa_term.proofs.GroundLaws.{ground_app}
use Rattle.npa_text.specs.declared.token.Token.{Token}
use Rattle.npa_text.specs.declared.token.Raw.{Raw, Raw', Row_of-Raw, end_of-Raw, more_of-Raw}
use Rattle.npa_text.specs.Texts.{text_of, number_of as number_in}
use Rattle.npa_sig.specs.declared.fault.UseFail.{UseFail}
use Rattle.npa_sig.specs.declared.meaning.Scoped.{Scoped}
use Rattle.npa_sig.specs.declared.meaning.Head.{Head}
use Rattle.npa_sig.specs.declared.meaning.Head.TheVariants.{Variable, Fresh, Operator}
use Rattle.npa_sig.specs.declared.signature.OpDecl.{OpDecl}
use Rattle.npa_sig.specs.Signature.{Signature, number_of}
use Rattle.npa_reading.specs.Reading.{mapped, in_front}
use Rattle.npa_sig.specs.Meaning.{operator_at, head_of, word_head, is_fresh_name, fits, built, judged, unfit, read, read_row, sorts_of_row, Gives}

-- the head is no variable
abbrev IsOperator : Option Head → Type 0
IsOperator None = Unit {0}
IsOperator (Some (Variable v)) = ⊥
IsOperator (Some (Fresh n)) = Unit {0}
IsOperator (Some (Operator op)) = Unit {0}

operator_head : (sig : Signature) (num : ℕ) → IsOperator (operator_at sig num)
operator_head sig num = from (slice_get sig.ops num)
  where
    from : (o : Option OpDecl) → IsOperator (option_map (λ decl. Operator (record { num = num; result = decl.result; «com» = decl.com })) o)
    from None = tt
    from (Some decl) = tt

unscoped_word : (sig : Signature) (word : List ℕ) → IsOperator (word_head sig [] word)
unscoped_word sig word = from (number_of sig word)
  where
    from : (o : Option ℕ) → IsOperator (option_and_then (operator_at sig) o)
    from None = tt
    from (Some num) = operator_head sig num

unscoped_head : (sig : Signature) (bytes : List ℕ) (token : Token) → IsOperator (head_of sig [] bytes token)
unscoped_head sig bytes token = from (is_fresh_name token.kind)
  where
    from : (b : Bool) → IsOperator (cond b (Some (Fresh (number_in bytes token))) (word_head sig [] (text_of bytes token)))
    from true = tt
    from false = unscoped_word sig (text_of bytes token)

-- where arguments were read, none has a variable
abbrev AreGround : Result (List Term) UseFail → Type 0
AreGround (Ok ts) = Each IsGround ts
AreGround (Err e) = Unit {0}

abbrev GroundRead : Result Term UseFail → Type 0
GroundRead r = IfOk r IsGround

front_ground : (r : Result Term UseFail) (rs : Result (List Term) UseFail) → GroundRead r → AreGround rs → AreGround (in_front r rs)
front_ground (Ok t) (Ok ts) g gs = (g, gs)
front_ground (Ok t) (Err e) g gs = tt
front_ground (Err e) rs g gs = tt

judged_ground : (sig : Signature) (bytes : List ℕ) (token : Token) (h : Option Head) (sorts : List (Option ℕ)) (args : Result (List Term) UseFail) →
    IsOperator h → AreGround args → GroundRead (judged sig bytes token h sorts args)
judged_ground sig bytes token None sorts args is gs = tt
judged_ground sig bytes token (Some (Variable v)) sorts args is gs = absurd is
judged_ground sig bytes token (Some (Fresh n)) sorts args is gs = chosen (fits sig (Fresh n) sorts)
  where
    built_ground : (rs : Result (List Term) UseFail) → GroundRead (mapped (built (Fresh n)) rs)
    built_ground (Ok ts) = refl
    built_ground (Err e) = tt

    chosen : (b : Bool) → GroundRead (cond b (mapped (built (Fresh n)) args) (Err (unfit bytes token)))
    chosen true = built_ground args
    chosen false = tt
judged_ground sig bytes token (Some (Operator op)) sorts args is gs = chosen (fits sig (Operator op) sorts)
  where
    built_ground : (rs : Result (List Term) UseFail) → AreGround rs → GroundRead (mapped (built (Operator op)) rs)
    built_ground (Ok ts) each = ground_app op ts each
    built_ground (Err e) each = tt

    chosen : (b : Bool) → GroundRead (cond b (mapped (built (Operator op)) args) (Err (unfit bytes token)))
    chosen true = built_ground args gs
    chosen false = tt

module _ (sig : Signature) (bytes : List ℕ) where
  mutual
    unscoped_ground : (raw : Raw) → GroundRead (read sig [] bytes raw)
    unscoped_ground (Raw' token n args) =
        judged_ground sig bytes token (head_of sig [] bytes token) (sorts_of_row sig [] bytes args) (read_row sig [] bytes args)
        (unscoped_head sig bytes token) (unscoped_row args)

    unscoped_row : {m : _} (k : Row_of-Raw m) → AreGround (read_row sig [] bytes k)
    unscoped_row end_of-Raw = tt
    unscoped_row (more_of-Raw r rest) = front_ground (read sig [] bytes r) (read_row sig [] bytes rest) (unscoped_ground r) (unscoped_row rest)

-- what is read with no scope has no variables
pub ground_read : (sig : Signature) (bytes : List ℕ) (raw : Raw) → GroundRead (read sig [] bytes raw)
ground_read sig bytes raw = unscoped_ground sig bytes raw

-- and so no answer has
pub ground_answer : (sig : Signature) (scope : List Scoped) (bytes : List ℕ) (raw : Raw) (answer : Result Term UseFail) →
    Gives answer (read sig scope bytes raw) → scope ≡ [] → IfOk answer IsGround
ground_answer sig scope bytes raw (Ok t) given none =
    subst GroundRead (sym (ap (λ (s : List Scoped). read sig s bytes raw) none) ∙ given) (unscoped_ground sig bytes raw)
ground_answer sig scope bytes raw (Err e) given none = tt

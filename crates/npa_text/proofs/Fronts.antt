-- Tokens and their terminals: a fault of the terminals is one of the text.
use Rattle.std.proofs.Common.{◌≡◌, ℕ, zero, suc, ◌+◌, ◌≤◌, List, [], ◌∷◌, ◌++◌, length, take, drop, Option, Some, None, Err, refl, sym, ap, ◌∙◌, subst, append-nil, take-append-drop, arith, length-append}
use Rattle.npa_syntax.specs.declared.node.Terminal.{Terminal}
use Rattle.npa_syntax.specs.declared.node.Node.{Node}
use Rattle.npa_syntax.specs.Grammars.{Begins, GoesOn}
use Rattle.npa_syntax.specs.Languages.{Language, rules_in, start_in, IsText, FaultAt}
use Rattle.npa_syntax.specs.declared.fault.ReadFault.{ReadFault}
use Rattle.npa_syntax.specs.declared.fault.ReadFault.TheVariants as read_fault
use Rattle.npa_syntax.specs.Answers.{PlacesFault}
use Rattle.npa_text.specs.declared.token.Token.{Token}
use Rattle.npa_text.specs.declared.place.Place.{Place}
use Rattle.npa_text.specs.declared.fault.TextFault.{TextFault}
use Rattle.npa_text.specs.declared.fault.TextFault.TheVariants.{Syntax}
use Rattle.npa_text.specs.declared.parser.Parsed.{Parsed}
use Rattle.npa_text.specs.Places.{first_place}
use Rattle.npa_text.specs.Lexing.{Lexes, ended, blank, comment, token, stuck}
use Rattle.npa_text.specs.Terminals.{terminal_of}
use Rattle.npa_text.specs.Parses.{terminals_from, place_at, CannotGoOn, StopsBehind, IsParse, IsFirstFault, PlacesFirstFault}
use Rattle.npa_text.proofs.Spellings.{begun}

-- a text has no more tokens than bytes
pub tokens_fit : {at : ℕ} {p : Place} {bs : List ℕ} {ts : List Token} {fault : Option Place} → Lexes at p bs ts fault → length ts ≤ length bs
tokens_fit (ended at p) = omega arith
tokens_fit (blank at p b rest ts fault h d) = omega (arith, tokens_fit d)
tokens_fit (comment at p line rest ts fault h e d) = omega (arith, tokens_fit d, length-append line rest)
tokens_fit (token at p k text rest ts fault s e d) =
    let b = begun s in
    let one : length text ≡ suc (length b.others) = ap length b.is in
    omega (arith, tokens_fit d, length-append text rest)
tokens_fit (stuck at p b rest h) = omega arith

pub terminals_length : (from : ℕ) (bytes : List ℕ) (ts : List Token) → length (terminals_from from bytes ts) ≡ length ts
terminals_length from bytes [] = refl
terminals_length from bytes (t ∷ ts) = ap suc (terminals_length (from + 1) bytes ts)

terminals_behind : (from n : ℕ) (bytes : List ℕ) (ts : List Token) → terminals_from (from + 1 + n) bytes ts ≡ terminals_from (from + suc n) bytes ts
terminals_behind from n bytes ts = let e : from + 1 + n ≡ from + suc n = omega arith in ap (λ (m : ℕ). terminals_from m bytes ts) e

terminals_here : (from : ℕ) (bytes : List ℕ) (ts : List Token) → terminals_from from bytes ts ≡ terminals_from (from + 0) bytes ts
terminals_here from bytes ts = let e : from ≡ from + 0 = omega arith in ap (λ (m : ℕ). terminals_from m bytes ts) e

pub terminals_append : (from : ℕ) (bytes : List ℕ) (ts us : List Token)
    → terminals_from from bytes (ts ++ us) ≡ terminals_from from bytes ts ++ terminals_from (from + length ts) bytes us
terminals_append from bytes [] us = terminals_here from bytes us
terminals_append from bytes (t ∷ ts) us =
    ap (λ xs. record { kind = terminal_of bytes t; at = from } ∷ xs)
    (terminals_append (from + 1) bytes ts us ∙ ap (λ xs. terminals_from (from + 1) bytes ts ++ xs) (terminals_behind from (length ts) bytes us))

pub terminals_take : (n from : ℕ) (bytes : List ℕ) (ts : List Token) → take n (terminals_from from bytes ts) ≡ terminals_from from bytes (take n ts)
terminals_take zero from bytes ts = refl
terminals_take (suc n) from bytes [] = refl
terminals_take (suc n) from bytes (t ∷ ts) = ap (λ xs. record { kind = terminal_of bytes t; at = from } ∷ xs) (terminals_take n (from + 1) bytes ts)

terminals_drop : (n from : ℕ) (bytes : List ℕ) (ts : List Token)
    → drop n (terminals_from from bytes ts) ≡ terminals_from (from + length (take n ts)) bytes (drop n ts)
terminals_drop zero from bytes ts = terminals_here from bytes ts
terminals_drop (suc n) from bytes [] = refl
terminals_drop (suc n) from bytes (t ∷ ts) =
    terminals_drop n (from + 1) bytes ts ∙ terminals_behind from (length (take n ts)) bytes (drop n ts)

cannot_go_on : (l : Language) (bytes : List ℕ) (from : ℕ) (front left : List Token) (broken : Option Place)
    → (GoesOn (rules_in l) (start_in l) (terminals_from from bytes front) (terminals_from (from + length front) bytes left) → ⊥)
    → CannotGoOn l bytes from front left broken
cannot_go_on l bytes from front (t ∷ left) broken h =
    λ b. h (subst (λ xs. Begins (rules_in l) (start_in l) xs) (terminals_append from bytes front (t ∷ [])) b)
cannot_go_on l bytes from front [] (Some p) h = tt
cannot_go_on l bytes from front [] None h = λ trees d. h (trees, d)

-- a fault of the terminals, which stand for tokens with this place behind them
pub stops_there : (l : Language) (bytes : List ℕ) (from : ℕ) (ts : List Token) (n : ℕ) (broken : Option Place)
    → FaultAt l (terminals_from from bytes ts) n
    → StopsBehind l bytes from (take n ts) (drop n ts) broken (place_at bytes (drop n ts) broken).line (place_at bytes (drop n ts) broken).col
stops_there l bytes from ts n broken f = record {
  begins = subst (λ xs. Begins (rules_in l) (start_in l) xs) (terminals_take n from bytes ts) f.stops.begins;
  stuck = cannot_go_on l bytes from (take n ts) (drop n ts) broken
      (subst (λ xs. GoesOn (rules_in l) (start_in l) (terminals_from from bytes (take n ts)) xs → ⊥) (terminals_drop n from bytes ts)
      (subst (λ xs. GoesOn (rules_in l) (start_in l) xs (drop n (terminals_from from bytes ts)) → ⊥) (terminals_take n from bytes ts) f.stops.stuck));
  place = refl;
}

-- the fault of a grammar, at a token or behind the last
pub fault_in : (l : Language) (bytes : List ℕ) (tokens : List Token) (broken : Option Place) (n : ℕ)
    → Lexes 0 first_place bytes tokens broken → FaultAt l (terminals_from 0 bytes tokens) n
    → IsFirstFault l bytes (place_at bytes (drop n tokens) broken).line (place_at bytes (drop n tokens) broken).col
fault_in l bytes tokens broken n d f = record {
  front = take n tokens;
  left = drop n tokens;
  broken = broken;
  lexes = subst (λ ts. Lexes 0 first_place bytes ts broken) (sym (take-append-drop n tokens)) d;
  stops = stops_there l bytes 0 tokens n broken f;
}

-- what is no token behind a whole text is a fault
pub fault_behind : (l : Language) (bytes : List ℕ) (tokens : List Token) (p : Place) (nodes : List Node)
    → Lexes 0 first_place bytes tokens (Some p) → IsText l (terminals_from 0 bytes tokens) nodes → IsFirstFault l bytes p.line p.col
fault_behind l bytes tokens p nodes d text = record {
  front = tokens;
  left = [];
  broken = Some p;
  lexes = subst (λ ts. Lexes 0 first_place bytes ts (Some p)) (sym (append-nil tokens)) d;
  stops = record {
    begins = record { more = []; trees = nodes; spells = subst (λ xs. IsText l xs nodes) (sym (append-nil (terminals_from 0 bytes tokens))) text };
    stuck = tt;
    place = refl;
  };
}

-- ## What the reader of a text answers: `given` are its tokens and `terminals` theirs

pub few : (bytes : List ℕ) (tokens given : List Token) (broken : Option Place) → Lexes 0 first_place bytes tokens broken → given ≡ tokens → length bytes ≤ 1048576 → length given ≤ 1048576
few bytes tokens given broken d e h = omega (arith, tokens_fit d, ap length e)

pub grammar_fault : (l : Language) (bytes : List ℕ) (tokens given : List Token) (terminals : List Terminal) (broken : Option Place) (e : ReadFault) (n : ℕ) (fault : TextFault)
    → Lexes 0 first_place bytes tokens broken → given ≡ tokens → terminals ≡ terminals_from 0 bytes given → PlacesFault {A = List Node} l terminals (Err e)
    → e ≡ read_fault.Syntax n → fault ≡ Syntax (place_at bytes (drop n given) broken).line (place_at bytes (drop n given) broken).col
    → PlacesFirstFault {A = Parsed} l bytes (Err fault)
grammar_fault l bytes tokens given terminals broken e n fault d same is f syntax at =
    let found : FaultAt l terminals n = subst (λ (x : ReadFault). PlacesFault {A = List Node} l terminals (Err x)) syntax f in
    subst (λ (x : TextFault). PlacesFirstFault {A = Parsed} l bytes (Err x)) (sym at)
    (fault_in l bytes given broken n (subst (λ ts. Lexes 0 first_place bytes ts broken) (sym same) d) (subst (λ ts. FaultAt l ts n) is found))

pub token_fault : (l : Language) (bytes : List ℕ) (tokens given : List Token) (terminals : List Terminal) (broken : Option Place) (p : Place) (nodes : List Node)
    → Lexes 0 first_place bytes tokens broken → given ≡ tokens → terminals ≡ terminals_from 0 bytes given → IsText l terminals nodes
    → broken ≡ Some p → IsFirstFault l bytes p.line p.col
token_fault l bytes tokens given terminals broken p nodes d e is text at =
    fault_behind l bytes given p nodes
    (subst (λ (x : Option Place). Lexes 0 first_place bytes given x) at (subst (λ ts. Lexes 0 first_place bytes ts broken) (sym e) d))
    (subst (λ ts. IsText l ts nodes) is text)

pub text_found : (l : Language) (bytes : List ℕ) (tokens given : List Token) (terminals : List Terminal) (broken : Option Place) (nodes : List Node)
    → Lexes 0 first_place bytes tokens broken → given ≡ tokens → terminals ≡ terminals_from 0 bytes given → IsText l terminals nodes
    → broken ≡ None → IsParse l bytes tokens nodes
text_found l bytes tokens given terminals broken nodes d e is text none = record {
  lexes = subst (λ (x : Option Place). Lexes 0 first_place bytes tokens x) none d;
  text = subst (λ ts. IsText l ts nodes) (is ∙ ap (terminals_from 0 bytes) e) text;
}

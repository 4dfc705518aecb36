-- Bytes have their first fault at one place, and a text of the language has none.
use Rattle.std.proofs.Common.{◌≡◌, ℕ, ◌+◌, List, [], ◌∷◌, ◌++◌, length, Option, Some, None, Result, Ok, Err, IfOk, refl, sym, ap, ◌∙◌, subst, append-nil, append_assoc}
use Rattle.npa_syntax.specs.declared.node.Terminal.{Terminal}
use Rattle.npa_syntax.specs.declared.node.Node.{Node}
use Rattle.npa_syntax.specs.Grammars.{Piece, Rules, Begins, Spells}
use Rattle.npa_syntax.specs.Languages.{Language, rules_in, start_in, IsText}
use Rattle.npa_text.specs.declared.token.Token.{Token}
use Rattle.npa_text.specs.declared.place.Place.{Place}
use Rattle.npa_text.specs.declared.fault.TextFault.{TextFault}
use Rattle.npa_text.specs.declared.fault.TextFault.TheVariants.{Syntax, NoMemory}
use Rattle.npa_text.specs.declared.parser.Parsed.{Parsed}
use Rattle.npa_text.specs.Lexing.{Lexes}
use Rattle.npa_text.specs.Parses.{terminals_from, place_at, CannotGoOn, IsParse, IsFirstFault, PlacesFirstFault, AnswersFirstFault}
use Rattle.npa_text.proofs.Lexings.{once}
use Rattle.npa_text.proofs.Fronts.{terminals_append}

-- bytes have one list of tokens, and at most one byte at which none begins
same_tokens : {at : ℕ} {p : Place} {bs : List ℕ} {ts us : List Token} {f g : Option Place} → Lexes at p bs ts f → Lexes at p bs us g → ts ≡ us
same_tokens d d' = ap (λ found. found.tokens) (sym (once d) ∙ once d')

same_fault : {at : ℕ} {p : Place} {bs : List ℕ} {ts us : List Token} {f g : Option Place} → Lexes at p bs ts f → Lexes at p bs us g → f ≡ g
same_fault d d' = ap (λ found. found.fault) (sym (once d) ∙ once d')

-- `further` goes on from `front` by the first of what is left
record Ahead (front left further : List Token) : Type 0 where
  next : Token
  rest : List Token
  more : List Token
  left_is : left ≡ next ∷ rest
  further_is : further ≡ (front ++ next ∷ []) ++ more

-- of two fronts of one list they are equal, or one goes on from the other
data Fronts (front left front' left' : List Token) : Type 0 where
  equal : front ≡ front' → left ≡ left' → Fronts front left front' left'
  behind : Ahead front left front' → Fronts front left front' left'
  before : Ahead front' left' front → Fronts front left front' left'

one_more : (t u : Token) (front left front' left' : List Token) → t ≡ u → Fronts front left front' left' → Fronts (t ∷ front) left (u ∷ front') left'
one_more t u front left front' left' e (equal f g) = equal (ap (λ x. x ∷ front) e ∙ ap (λ xs. u ∷ xs) f) g
one_more t u front left front' left' e (behind a) =
    behind (record { next = a.next; rest = a.rest; more = a.more; left_is = a.left_is; further_is = ap (λ x. x ∷ front') (sym e) ∙ ap (λ xs. t ∷ xs) a.further_is })
one_more t u front left front' left' e (before a) =
    before (record { next = a.next; rest = a.rest; more = a.more; left_is = a.left_is; further_is = ap (λ x. x ∷ front) e ∙ ap (λ xs. u ∷ xs) a.further_is })

fronts : (front left front' left' : List Token) → front ++ left ≡ front' ++ left' → Fronts front left front' left'
fronts [] left [] left' e = equal refl e
fronts [] left (u ∷ front') left' e = behind (record { next = u; rest = front' ++ left'; more = front'; left_is = e; further_is = refl })
fronts (t ∷ front) left [] left' e = before (record { next = t; rest = front ++ left; more = front; left_is = sym e; further_is = refl })
fronts (t ∷ front) left (u ∷ front') left' e =
    let first : t ≡ u = cc in
    let others : front ++ left ≡ front' ++ left' = cc in
    one_more t u front left front' left' first (fronts front left front' left' others)

begins_less : (rules : Rules) (ps : List Piece) (xs ys : List Terminal) → Begins rules ps (xs ++ ys) → Begins rules ps xs
begins_less rules ps xs ys b = record {
  more = ys ++ b.more;
  trees = b.trees;
  spells = subst (λ ts. Spells rules ps ts b.trees) (append_assoc xs ys b.more) b.spells;
}

-- nothing begins with more than what stands in front of a fault
not_ahead : (l : Language) (bytes : List ℕ) (from : ℕ) (front left further : List Token) (broken : Option Place) → CannotGoOn l bytes from front left broken
    → Ahead front left further → Begins (rules_in l) (start_in l) (terminals_from from bytes further) → ⊥
not_ahead l bytes from front left further broken stuck a b =
    let none : Begins (rules_in l) (start_in l) (terminals_from from bytes (front ++ a.next ∷ [])) → ⊥ =
    subst (λ xs. CannotGoOn l bytes from front xs broken) a.left_is stuck in
    let whole : terminals_from from bytes further ≡ terminals_from from bytes (front ++ a.next ∷ []) ++ terminals_from (from + length (front ++ a.next ∷ [])) bytes a.more =
    ap (terminals_from from bytes) a.further_is ∙ terminals_append from bytes (front ++ a.next ∷ []) a.more in
    none (begins_less (rules_in l) (start_in l) (terminals_from from bytes (front ++ a.next ∷ [])) (terminals_from (from + length (front ++ a.next ∷ [])) bytes a.more)
    (subst (λ xs. Begins (rules_in l) (start_in l) xs) whole b))

one_place : (l : Language) (bytes : List ℕ) (line col line' col' : ℕ) (f : IsFirstFault l bytes line col) (f' : IsFirstFault l bytes line' col')
    → Fronts f.front f.left f'.front f'.left → ◌≡◌ {A = Place} (record { line = line; col = col }) (record { line = line'; col = col' })
one_place l bytes line col line' col' f f' (equal e g) =
    sym f.stops.place ∙ ap (λ xs. place_at bytes xs f.broken) g ∙ ap (place_at bytes f'.left) (same_fault f.lexes f'.lexes) ∙ f'.stops.place
one_place l bytes line col line' col' f f' (behind a) = absurd (not_ahead l bytes 0 f.front f.left f'.front f.broken f.stops.stuck a f'.stops.begins)
one_place l bytes line col line' col' f f' (before a) = absurd (not_ahead l bytes 0 f'.front f'.left f.front f'.broken f'.stops.stuck a f.stops.begins)

one_fault : (l : Language) (bytes : List ℕ) (line col line' col' : ℕ) → IsFirstFault l bytes line col → IsFirstFault l bytes line' col'
    → (line ≡ line') × (col ≡ col')
one_fault l bytes line col line' col' f f' =
    let e = one_place l bytes line col line' col' f f' (fronts f.front f.left f'.front f'.left (same_tokens f.lexes f'.lexes)) in
    (ap (λ (p : Place). p.line) e, ap (λ (p : Place). p.col) e)

-- a text doesn't stop at any of its fronts
text_goes_on : (l : Language) (bytes : List ℕ) (front left : List Token) (broken : Option Place) (nodes : List Node) → broken ≡ None
    → IsText l (terminals_from 0 bytes (front ++ left)) nodes → CannotGoOn l bytes 0 front left broken → ⊥
text_goes_on l bytes front [] (Some p) nodes e text stuck = absurd (cc)
text_goes_on l bytes front [] None nodes e text stuck = stuck nodes (subst (λ ts. IsText l (terminals_from 0 bytes ts) nodes) (append-nil front) text)
text_goes_on l bytes front (t ∷ left) broken nodes e text stuck =
    let whole : terminals_from 0 bytes (front ++ t ∷ left) ≡ terminals_from 0 bytes (front ++ t ∷ []) ++ terminals_from (0 + length (front ++ t ∷ [])) bytes left =
    ap (terminals_from 0 bytes) (sym (append_assoc front (t ∷ []) left)) ∙ terminals_append 0 bytes (front ++ t ∷ []) left in
    stuck (record { more = terminals_from (0 + length (front ++ t ∷ [])) bytes left; trees = nodes; spells = subst (λ xs. IsText l xs nodes) whole text })

no_fault : (l : Language) (bytes : List ℕ) (tokens : List Token) (nodes : List Node) (line col : ℕ) → IsParse l bytes tokens nodes → IsFirstFault l bytes line col → ⊥
no_fault l bytes tokens nodes line col d f =
    text_goes_on l bytes f.front f.left f.broken nodes (same_fault f.lexes d.lexes)
    (subst (λ ts. IsText l (terminals_from 0 bytes ts) nodes) (same_tokens d.lexes f.lexes) d.text) f.stops.stuck

-- so an answer that is right is the only one
pub refuses_there : (l : Language) (bytes : List ℕ) (result : Result Parsed TextFault)
    → IfOk result (λ parsed. IsParse l bytes parsed.tokens parsed.nodes) → PlacesFirstFault l bytes result → AnswersFirstFault l bytes result
refuses_there l bytes (Ok parsed) d f = record { every = λ line col g. no_fault l bytes parsed.tokens parsed.nodes line col d g }
refuses_there l bytes (Err (Syntax at_line at_col)) d f = record { every = λ line col g. one_fault l bytes at_line at_col line col f g }
refuses_there l bytes (Err NoMemory) d f = record { every = λ line col g. tt }

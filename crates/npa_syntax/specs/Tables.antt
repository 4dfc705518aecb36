-- Grammars as tables of productions, and the test that one terminal of look-ahead decides.
use Rattle.std.specs.Prelude.{ℕ, zero, suc, Bool, true, false, cond, not, ◌&&◌, ◌==◌, List, [], ◌∷◌, ◌++◌, map, Option, Some, None}
use Rattle.std.specs.List.{list_all, list_any}
use Rattle.npa_syntax.specs.declared.production.Occurrence.TheVariants.{Once, Optional, Repeated}
use Rattle.npa_syntax.specs.declared.production.Part.{Part}
use Rattle.npa_syntax.specs.declared.production.Production.{Production}
use Rattle.npa_syntax.specs.Grammars.{Piece, Rules, is_needed, is_repeated}

-- A production as a plain value: a nonterminal, the kind of terminal it begins with, what follows.
pub record Rule : Type 0 where
  pub symbol : ℕ
  pub kind : ℕ
  pub parts : List Part

-- ## The words in which a table is written

abbrev pub one : ℕ → Part
one symbol = record { symbol = symbol; occurs = Once }

abbrev pub optional : ℕ → Part
optional symbol = record { symbol = symbol; occurs = Optional }

abbrev pub repeated : ℕ → Part
repeated symbol = record { symbol = symbol; occurs = Repeated }

abbrev pub rule : ℕ → ℕ → List Part → Rule
rule symbol kind parts = record { symbol = symbol; kind = kind; parts = parts }

-- ## From a table to the rules of a grammar

-- the plain value of a production of the code
abbrev pub plain : Production → Rule
plain p = record { symbol = p.symbol; kind = p.kind; parts = p.parts.now }

-- the parts of the production of a symbol that begins with a kind
abbrev pub parts_of : List Rule → ℕ → ℕ → Option (List Part)
parts_of [] symbol kind = None
parts_of (r ∷ rs) symbol kind = cond (r.symbol == symbol && r.kind == kind) (Some r.parts) (parts_of rs symbol kind)

-- the room inside a nonterminal: one less in the symbol that is counted, none past the limit
abbrev pub room_in : ℕ → ℕ → ℕ → Option ℕ
room_in nesting symbol zero = cond (symbol == nesting) None (Some zero)
room_in nesting symbol (suc room) = cond (symbol == nesting) (Some room) (Some (suc room))

-- a part in a nonterminal with this room
abbrev pub piece : ℕ → Part → Piece
piece room p = record { nonterminal = record { symbol = p.symbol; room = room }; occurs = p.occurs }

abbrev pub pieces_in : Option ℕ → Option (List Part) → Option (List Piece)
pieces_in None parts = None
pieces_in (Some room) None = None
pieces_in (Some room) (Some parts) = Some (map (piece room) parts)

-- the productions of a table, where the symbol `nesting` opens a bracket
abbrev pub rules_of : List Rule → ℕ → Rules
rules_of rs nesting n kind = pieces_in (room_in nesting n.symbol n.room) (parts_of rs n.symbol kind)

-- ## One terminal of look-ahead decides (LL(1) grammars; Aho, Sethi, Ullman 1986)

abbrev pub mem : ℕ → List ℕ → Bool
mem k ks = list_any (λ j. j == k) ks

-- the kinds with which a symbol begins
abbrev pub first_of : List Rule → ℕ → List ℕ
first_of [] symbol = []
first_of (r ∷ rs) symbol = cond (r.symbol == symbol) (r.kind ∷ first_of rs symbol) (first_of rs symbol)

-- the kinds that may come next where the parts are to come, and `after` may come after them
abbrev pub next_of : List Rule → List Part → List ℕ → List ℕ
next_of rs [] after = after
next_of rs (p ∷ ps) after = first_of rs p.symbol ++ cond (is_needed p.occurs) [] (next_of rs ps after)

-- the kinds that may come after a symbol, for each symbol
pub record Follow : Type 0 where
  pub symbol : ℕ
  pub kinds : List ℕ

abbrev pub follow_of : List Follow → ℕ → List ℕ
follow_of [] symbol = []
follow_of (f ∷ fs) symbol = cond (f.symbol == symbol) f.kinds (follow_of fs symbol)

-- after one occurrence of the first part
abbrev pub leaving_part : Part → List Part → List Part
leaving_part p ps = cond (is_repeated p.occurs) (p ∷ ps) ps

-- what may come after each part is among its follow kinds, and a part that may be left out begins
-- with no kind that may come in its place
abbrev pub parts_decide : List Rule → List Follow → List Part → List ℕ → Bool
parts_decide rs fs [] after = true
parts_decide rs fs (p ∷ ps) after =
    list_all (λ k. mem k (follow_of fs p.symbol)) (next_of rs (leaving_part p ps) after)
    && (cond (is_needed p.occurs) true (list_all (λ k. not (mem k (first_of rs p.symbol))) (next_of rs ps after))
    && parts_decide rs fs ps after)

abbrev pub rules_decide : List Rule → List Follow → List Rule → Bool
rules_decide rs fs [] = true
rules_decide rs fs (r ∷ more) = parts_decide rs fs r.parts (follow_of fs r.symbol) && rules_decide rs fs more

-- ## The least follow kinds, by rounds over the table

abbrev pub union : List ℕ → List ℕ → List ℕ
union [] js = js
union (k ∷ ks) js = let more = union ks js in cond (mem k more) more (k ∷ more)

abbrev pub add_follow : ℕ → List ℕ → List Follow → List Follow
add_follow symbol ks [] = record { symbol = symbol; kinds = ks } ∷ []
add_follow symbol ks (f ∷ fs) =
    cond (f.symbol == symbol) (record { symbol = symbol; kinds = union ks f.kinds } ∷ fs) (f ∷ add_follow symbol ks fs)

abbrev pub follow_parts : List Rule → List ℕ → List Part → List Follow → List Follow
follow_parts rs after [] fs = fs
follow_parts rs after (p ∷ ps) fs = follow_parts rs after ps (add_follow p.symbol (next_of rs (leaving_part p ps) after) fs)

abbrev pub follow_round : List Rule → List Rule → List Follow → List Follow
follow_round rs [] fs = fs
follow_round rs (r ∷ more) fs = follow_round rs more (follow_parts rs (follow_of fs r.symbol) r.parts fs)

abbrev pub follow_rounds : ℕ → List Rule → List Follow → List Follow
follow_rounds zero rs fs = fs
follow_rounds (suc n) rs fs = follow_rounds n rs (follow_round rs rs fs)

abbrev pub follows : List Rule → List Part → List Follow
follows rs start = follow_rounds 4 rs (follow_parts rs [] start [])

-- ## Every symbol that is needed has a text

-- each needed part is one of the symbols
abbrev pub needs_only : List ℕ → List Part → Bool
needs_only has [] = true
needs_only has (p ∷ ps) = cond (is_needed p.occurs) (mem p.symbol has) true && needs_only has ps

-- a table's production for this symbol and kind needs only these symbols
abbrev pub is_made : List ℕ → Option (List Part) → Bool
is_made has None = false
is_made has (Some parts) = needs_only has parts

-- adds each symbol, but the counted one, with a production whose needed parts are there
abbrev pub texts_round : List Rule → ℕ → List Rule → List ℕ → List ℕ
texts_round rs nesting [] has = has
texts_round rs nesting (r ∷ more) has =
    let had = texts_round rs nesting more has in
    cond (not (r.symbol == nesting) && is_made had (parts_of rs r.symbol r.kind)) (r.symbol ∷ had) had

abbrev pub texts_rounds : ℕ → List Rule → ℕ → List ℕ → List ℕ
texts_rounds zero rs nesting has = has
texts_rounds (suc n) rs nesting has = texts_rounds n rs nesting (texts_round rs nesting rs has)

-- symbols that have a text in which no bracket opens
abbrev pub texts : List Rule → ℕ → List ℕ
texts rs nesting = texts_rounds 4 rs nesting []

abbrev pub rules_need : List ℕ → List Rule → Bool
rules_need has [] = true
rules_need has (r ∷ more) = needs_only has r.parts && rules_need has more

-- No two productions of a symbol begin with one kind.
abbrev pub is_distinct : List Rule → Bool
is_distinct [] = true
is_distinct (r ∷ rs) = not (mem r.kind (first_of rs r.symbol)) && is_distinct rs

-- Wherever a part may be left out or come again, the kind of the next terminal says which.
abbrev pub is_decided : List Rule → List Part → Bool
is_decided rs start = let fs = follows rs start in parts_decide rs fs start [] && rules_decide rs fs rs

-- Every symbol that is needed somewhere has a text in which no bracket opens.
abbrev pub is_productive : List Rule → ℕ → List Part → Bool
is_productive rs nesting start = let has = texts rs nesting in needs_only has start && rules_need has rs

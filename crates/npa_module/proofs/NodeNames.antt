-- The words of a module text that stand where its grammar asks for a name are names.
use Rattle.std.proofs.Common.{◌≡◌, ◌≢◌, ℕ, zero, suc, ◌+◌, ◌-◌, ◌<◌, ◌≤◌, ◌==◌, ◌&&◌, not, Bool, true, false, if◌then◌else◌, List, [], ◌∷◌, ◌++◌, Option, Some, take, drop, length, get_or, refl, ap, sym, ◌∙◌, subst, arith, Contains, bytes_eq}
use Rattle.std.specs.Prelude.{slice_get}
use Rattle.std.specs.List.{list_all}
use Rattle.std.proofs.Math.Seq.{drop-append-add, take-append_seam}
use Rattle.std.proofs.lemmas.Slice.Eq.{bytes_eq-Decides}
use Rattle.npa_syntax.specs.declared.node.Terminal.{Terminal}
use Rattle.npa_syntax.specs.declared.node.Node.{Node}
use Rattle.npa_syntax.specs.Nodes.{symbol_of, head_of}
use Rattle.npa_syntax.proofs.Heads.{IsInside, has_row, node_row}
use Rattle.npa_text.specs.declared.terminals.TheConstants as terminal
use Rattle.npa_text.specs.declared.place.Place.{Place}
use Rattle.npa_text.specs.declared.token.Kind.{Kind}
use Rattle.npa_text.specs.declared.token.Kind.TheVariants.{Word, Number, FreshName, VariableMark, Open, Close, Comma, Colon, Semicolon, Equals, Less, Plus, Minus, Arrow}
use Rattle.npa_text.specs.declared.token.Token.{Token}
use Rattle.npa_text.specs.Languages.{module_language}
use Rattle.npa_text.specs.Lexemes.{Spells}
use Rattle.npa_text.specs.Lexing.{Lexes, ended, blank, comment, token, stuck, token_between}
use Rattle.npa_text.specs.Parses.{IsParse, terminals_from, terminals_of}
use Rattle.npa_text.specs.Raws.{no_token, token_at}
use Rattle.npa_text.specs.Terminals.{reserved, word_in, terminal_as, terminal_of}
use Rattle.npa_text.specs.Texts.{text_of}
use Rattle.npa_reading.specs.Trees.{word_at}
use Rattle.npa_sig.specs.Rules.{IsName}

-- ## The text of a token spells its kind

record IsSpelt (at : ℕ) (bs : List ℕ) (t : Token) : Type 0 where
  behind : at ≤ t.start
  spells : Spells t.kind (take (t.end - t.start) (drop (t.start - at) bs))

later : (at : ℕ) (front rest : List ℕ) (t : Token) → IsSpelt (at + length front) rest t → IsSpelt at (front ++ rest) t
later at front rest t s =
    let after = s.behind in
    let same : drop (t.start - at) (front ++ rest) ≡ drop (t.start - (at + length front)) rest =
    (let n : t.start - at ≡ length front + (t.start - (at + length front)) = omega (arith, after) in ap (λ (k : ℕ). drop k (front ++ rest)) n)
    ∙ drop-append-add front rest (t.start - (at + length front)) in
    record { behind = omega (arith, after); spells = subst (λ (bs : List ℕ). Spells t.kind (take (t.end - t.start) bs)) (sym same) s.spells }

first_token_spelt : (at : ℕ) (k : Kind) (text rest : List ℕ) (p : Place) → Spells k text → IsSpelt at (text ++ rest) (token_between k at (at + length text) p)
first_token_spelt at k text rest p spells =
    let wide : (at + length text) - at ≡ length text = omega arith in
    let none : at - at ≡ 0 = omega arith in
    let same : take ((at + length text) - at) (drop (at - at) (text ++ rest)) ≡ text =
    ap (λ (n : ℕ). take n (drop (at - at) (text ++ rest))) wide ∙ ap (λ (n : ℕ). take (length text) (drop n (text ++ rest))) none ∙ take-append_seam text rest in
    record { behind = omega arith; spells = subst (Spells k) (sym same) spells }

spelt : {at : ℕ} {p : Place} {bs : List ℕ} {ts : List Token} {fault : Option Place} → Lexes at p bs ts fault → (k : ℕ) (t : Token) → slice_get ts k ≡ Some t → IsSpelt at bs t
spelt (ended at p) k t e = absurd (cc)
spelt (blank at p b rest ts fault is d) k t e = later at (b ∷ []) rest t (spelt d k t e)
spelt (comment at p line rest ts fault is run d) k t e = later at (47 ∷ 47 ∷ line) rest t (spelt d k t e)
spelt (token at p kind text rest ts fault spells is d) zero t e =
    let same : token_between kind at (at + length text) p ≡ t = cc in
    subst (IsSpelt at (text ++ rest)) same (first_token_spelt at kind text rest p spells)
spelt (token at p kind text rest ts fault spells is d) (suc k) t e = later at text rest t (spelt d k t e)
spelt (stuck at p b rest nothing_) k t e = absurd (cc)

-- ## A terminal is that of a token

record IsOfToken (at : ℕ) (bytes : List ℕ) (tokens : List Token) (h : Terminal) : Type 0 where
  place : ℕ
  token_ : Token
  at_is : h.at ≡ at + place
  there : slice_get tokens place ≡ Some token_
  kind : h.kind ≡ terminal_of bytes token_

of_token : (at : ℕ) (bytes : List ℕ) (tokens : List Token) (h : Terminal) → Contains (terminals_from at bytes tokens) h → IsOfToken at bytes tokens h
of_token at bytes [] h c = let lt = c.1 in absurd (let no : ⊥ = omega (arith, lt) in no)
of_token at bytes (t ∷ tokens) h c = split c.0 c.1 c.2 (λ d. of_token (at + 1) bytes tokens h d)
  where
    here : Terminal
    here = record { kind = terminal_of bytes t; at = at }

    split : (j : ℕ) → j < suc (length (terminals_from (at + 1) bytes tokens)) → get_or (here ∷ terminals_from (at + 1) bytes tokens) j h ≡ h →
        (Contains (terminals_from (at + 1) bytes tokens) h → IsOfToken (at + 1) bytes tokens h) → IsOfToken at bytes (t ∷ tokens) h
    split zero lt q rest =
        record {
          place = 0;
          token_ = t;
          at_is = (let e : at ≡ h.at = ap (λ (x : Terminal). x.at) q in omega (arith, e));
          there = refl;
          kind = sym (ap (λ (x : Terminal). x.kind) q);
        }
    split (suc j) lt q rest =
        let r = rest (j, omega (arith, lt), q) in
        let n = r.at_is in
        record { place = suc r.place; token_ = r.token_; at_is = omega (arith, n); there = r.there; kind = r.kind }

got_at : (tokens : List Token) (k : ℕ) (t d : Token) → slice_get tokens k ≡ Some t → get_or tokens k d ≡ t
got_at [] k t d e = absurd (cc)
got_at (u ∷ tokens) zero t d e = cc
got_at (u ∷ tokens) (suc k) t d e = got_at tokens k t d e

-- ## A name is a word that isn't reserved

name_is_word : (kind : Kind) (text : List ℕ) → terminal_as kind text ≡ terminal.NAME → (kind ≡ Word) × (word_in reserved text ≡ terminal.NAME)
name_is_word Word text e = (refl, e)
name_is_word Number text e = absurd (let no : ⊥ = omega (arith, e) in no)
name_is_word FreshName text e = absurd (let no : ⊥ = omega (arith, e) in no)
name_is_word VariableMark text e = absurd (let no : ⊥ = omega (arith, e) in no)
name_is_word Open text e = absurd (let no : ⊥ = omega (arith, e) in no)
name_is_word Close text e = absurd (let no : ⊥ = omega (arith, e) in no)
name_is_word Comma text e = absurd (let no : ⊥ = omega (arith, e) in no)
name_is_word Colon text e = absurd (let no : ⊥ = omega (arith, e) in no)
name_is_word Semicolon text e = absurd (let no : ⊥ = omega (arith, e) in no)
name_is_word Equals text e = absurd (let no : ⊥ = omega (arith, e) in no)
name_is_word Less text e = absurd (let no : ⊥ = omega (arith, e) in no)
name_is_word Plus text e = absurd (let no : ⊥ = omega (arith, e) in no)
name_is_word Minus text e = absurd (let no : ⊥ = omega (arith, e) in no)
name_is_word Arrow text e = absurd (let no : ⊥ = omega (arith, e) in no)

-- no row of the table gives the terminal of names
abbrev gives_no_name : List (List ℕ × ℕ) → Bool
gives_no_name rows = list_all (λ row. not (row.1 == terminal.NAME)) rows

none_gives : gives_no_name reserved ≡ true
none_gives = refl

not_in : (rows : List (List ℕ × ℕ)) (text : List ℕ) → gives_no_name rows ≡ true → word_in rows text ≡ terminal.NAME → (row : List ℕ × ℕ) → Contains rows row → row.0 ≢ text
not_in [] text none e row c same = let lt = c.1 in let no : ⊥ = omega (arith, lt) in no
not_in (r ∷ rows) text none e row c same = split (bytes_eq r.0 text) refl (r.1 == terminal.NAME) refl e none (λ all q d. not_in rows text all q row d same) c.0 c.1 c.2
  where
    equal : (m n : ℕ) → m ≡ n → (m == n) ≡ true
    equal m n q = grind arith

    split : (b : Bool) → bytes_eq r.0 text ≡ b → (d : Bool) → (r.1 == terminal.NAME) ≡ d → (if b then r.1 else word_in rows text) ≡ terminal.NAME → (not d && gives_no_name rows) ≡ true →
        (gives_no_name rows ≡ true → word_in rows text ≡ terminal.NAME → Contains rows row → ⊥) → (j : ℕ) → j < suc (length rows) → get_or (r ∷ rows) j row ≡ row → ⊥
    split true is true js q all rest j lt there = let clash : false ≡ true = all in cc
    split true is false js q all rest j lt there = let clash : true ≡ false = sym (equal r.1 terminal.NAME q) ∙ js in cc
    split false is d js q all rest zero lt there =
        let first : r.0 ≡ text = ap (λ (x : List ℕ × ℕ). x.0) there ∙ same in
        let clash : true ≡ false = sym ((bytes_eq-Decides r.0 text).1 first) ∙ is in
        cc
    split false is true js q all rest (suc j) lt there = let clash : false ≡ true = all in cc
    split false is false js q all rest (suc j) lt there = rest all q (j, omega (arith, lt), there)

-- ## The word of a node

-- all productions of a symbol begin with a name
abbrev pub BeginsName : ℕ → Type 0
BeginsName s = (kind : ℕ) → has_row module_language.productions s kind ≡ true → kind ≡ terminal.NAME

module _ (bytes : List ℕ) (tokens : List Token) (nodes : List Node) (parse : IsParse module_language bytes tokens nodes) where
  -- a node that begins with a name
  named_head : (n : Node) → Contains (terminals_of bytes tokens) (head_of n) → (head_of n).kind ≡ terminal.NAME → IsName (word_at bytes tokens n)
  named_head n there kind =
      let o = of_token 0 bytes tokens (head_of n) there in
      let at : (head_of n).at ≡ o.place = (let e = o.at_is in omega (arith, e)) in
      let same : token_at tokens n ≡ o.token_ = ap (λ (k : ℕ). get_or tokens k no_token) at ∙ got_at tokens o.place o.token_ no_token o.there in
      let w = name_is_word o.token_.kind (text_of bytes o.token_) (sym o.kind ∙ kind) in
      let s = spelt parse.lexes o.place o.token_ o.there in
      let spells = s.spells in
      let text : text_of bytes o.token_ ≡ take (o.token_.end - o.token_.start) (drop (o.token_.start - 0) bytes) = (let n0 : o.token_.start ≡ o.token_.start - 0 = omega arith in ap (λ (k : ℕ). take (o.token_.end - o.token_.start) (drop k bytes)) n0) in
      subst (λ (t : Token). IsName (text_of bytes t)) (sym same) (record {
        word = subst (λ (k : Kind). Spells k (text_of bytes o.token_)) w.0 (subst (Spells o.token_.kind) (sym text) spells);
        unreserved = not_in reserved (text_of bytes o.token_) none_gives w.1;
      })

  pub named_node : (s : ℕ) → BeginsName s → (n : Node) → IsInside n nodes → symbol_of n ≡ s → IsName (word_at bytes tokens n)
  named_node s begins n inside is =
      let row = node_row module_language (terminals_of bytes tokens) nodes parse.text n inside in
      named_head n row.1 (begins (head_of n).kind (ap (λ (x : ℕ). has_row module_language.productions x (head_of n).kind) (sym is) ∙ row.0))

-- What a table that passes the test keeps: its rules are closed, and every piece has a text.
use Rattle.std.proofs.Common.{◌≡◌, ℕ, zero, suc, Bool, true, false, cond, not, ◌&&◌, ◌||◌, ◌==◌, List, [], ◌∷◌, ◌++◌, map, Some, None, refl, sym, ap, ◌∙◌, subst, inl, inr, eqb-true}
use Rattle.std.specs.List.{list_all}
use Rattle.npa_syntax.specs.declared.production.Part.{Part}
use Rattle.npa_syntax.specs.Grammars.{Nonterminal, Piece, is_needed, is_repeated, leaving}
use Rattle.npa_syntax.specs.Tables.{Rule, parts_of, room_in, piece, pieces_in, rules_of, mem, first_of, next_of, Follow, follow_of, leaving_part, parts_decide, rules_decide, follows, needs_only, is_made, texts_round, texts_rounds, texts, rules_need, is_decided, is_productive}
use Rattle.npa_syntax.proofs.Texts.{Next, Apart, Closed, Made, Ready, Sound, some_text}

pub first_true : (a b : Bool) → (a && b) ≡ true → a ≡ true
first_true true b e = refl
first_true false b e = absurd (cc)

pub second_true : (a b : Bool) → (a && b) ≡ true → b ≡ true
second_true true b e = e
second_true false b e = absurd (cc)

or_right : (a b : Bool) → b ≡ true → (a || b) ≡ true
or_right true b e = refl
or_right false b e = e

mem_left : (k : ℕ) (xs ys : List ℕ) → mem k xs ≡ true → mem k (xs ++ ys) ≡ true
mem_left k [] ys e = absurd (cc)
mem_left k (x ∷ xs) ys e =
    elim (x == k) as (λ b. (b || mem k xs) ≡ true → (b || mem k (xs ++ ys)) ≡ true) [ true ↦ λ h. refl | false ↦ λ h. mem_left k xs ys h ] e

mem_right : (k : ℕ) (xs ys : List ℕ) → mem k ys ≡ true → mem k (xs ++ ys) ≡ true
mem_right k [] ys e = e
mem_right k (x ∷ xs) ys e = or_right (x == k) (mem k (xs ++ ys)) (mem_right k xs ys e)

-- a test of each member holds at a member
at_member : (f : ℕ → Bool) (k : ℕ) (xs : List ℕ) → list_all f xs ≡ true → mem k xs ≡ true → f k ≡ true
at_member f k [] all e = absurd (cc)
at_member f k (x ∷ xs) all e =
    elim (x == k) as (λ b. (x == k) ≡ b → (b || mem k xs) ≡ true → f k ≡ true) [
      | true ↦ λ same h. ap f (sym (eqb-true x k same)) ∙ first_true (f x) (list_all f xs) all
      | false ↦ λ same h. at_member f k xs (second_true (f x) (list_all f xs) all) h
    ] refl e

-- a kind with which a production begins is among those of its symbol
starts_first : (rs : List Rule) (s k : ℕ) (parts : List Part) → parts_of rs s k ≡ Some parts → mem k (first_of rs s) ≡ true
starts_first [] s k parts e = absurd (cc)
starts_first (r ∷ rs) s k parts e =
    elim (r.symbol == s) as (λ b. cond (b && r.kind == k) (Some r.parts) (parts_of rs s k) ≡ Some parts → mem k (cond b (r.kind ∷ first_of rs s) (first_of rs s)) ≡ true) [
      | true ↦ elim (r.kind == k) as (λ b. cond b (Some r.parts) (parts_of rs s k) ≡ Some parts → (b || mem k (first_of rs s)) ≡ true)
          [ true ↦ λ h. refl | false ↦ λ h. starts_first rs s k parts h ]
      | false ↦ λ h. starts_first rs s k parts h
    ] e

pub record Ruled (rs : List Rule) (nesting : ℕ) (n : Nonterminal) (k : ℕ) (body : List Piece) : Type 0 where
  pub room : ℕ
  pub parts : List Part
  pub looked_up : parts_of rs n.symbol k ≡ Some parts
  pub is : map (piece room) parts ≡ body

pub ruled : (rs : List Rule) (nesting : ℕ) (n : Nonterminal) (k : ℕ) (body : List Piece) → rules_of rs nesting n k ≡ Some body → Ruled rs nesting n k body
ruled rs nesting n k body e =
    elim (room_in nesting n.symbol n.room) as (λ o. pieces_in o (parts_of rs n.symbol k) ≡ Some body → Ruled rs nesting n k body) [
      | None ↦ λ h. absurd (cc)
      | Some room ↦ λ h. elim (parts_of rs n.symbol k) as (λ q. parts_of rs n.symbol k ≡ q → pieces_in (Some room) q ≡ Some body → Ruled rs nesting n k body) [
        | None ↦ λ l h'. absurd (cc)
        | Some parts ↦ λ l h'. record { room = room; parts = parts; looked_up = l; is = cc }
      ] refl h
    ] e

leaving_map : (room : ℕ) (p : Part) (ps : List Part) → leaving (piece room p) (map (piece room) ps) ≡ map (piece room) (leaving_part p ps)
leaving_map room p ps =
    elim (is_repeated p.occurs) as (λ b. cond b (piece room p ∷ map (piece room) ps) (map (piece room) ps) ≡ map (piece room) (cond b (p ∷ ps) ps)) [ true ↦ refl | false ↦ refl ]

abbrev pub followed : List Follow → Nonterminal → ℕ → Type 0
followed fs n k = mem k (follow_of fs n.symbol) ≡ true

module _ (rs : List Rule) (nesting : ℕ) (end : ℕ → Type 0) (after : List ℕ) (listed : (k : ℕ) → end k → mem k after ≡ true) where
  next_listed : (room k : ℕ) (parts : List Part) → Next (rules_of rs nesting) end k (map (piece room) parts) → mem k (next_of rs parts after) ≡ true
  next_listed room k [] n = listed k n
  next_listed room k (p ∷ ps) (inl s) =
      let r = ruled rs nesting (record { symbol = p.symbol; room = room }) k s.body s.begins in
      mem_left k (first_of rs p.symbol) (cond (is_needed p.occurs) [] (next_of rs ps after)) (starts_first rs p.symbol k r.parts r.looked_up)
  next_listed room k (p ∷ ps) (inr n) =
      mem_right k (first_of rs p.symbol) (cond (is_needed p.occurs) [] (next_of rs ps after))
      (subst (λ b. mem k (cond b [] (next_of rs ps after)) ≡ true) (sym n.0) (next_listed room k ps n.1))

  not_first : (n : Nonterminal) (k : ℕ) → not (mem k (first_of rs n.symbol)) ≡ true → rules_of rs nesting n k ≡ None
  not_first n k e =
      elim (rules_of rs nesting n k) as (λ o. rules_of rs nesting n k ≡ o → o ≡ None) [
        | None ↦ λ h. refl
        | Some body ↦ λ h. let r = ruled rs nesting n k body h in
            let m : mem k (first_of rs n.symbol) ≡ true = starts_first rs n.symbol k r.parts r.looked_up in
            let f : false ≡ true = ap not (sym m) ∙ e in absurd (cc)
      ] refl

  pub parts_apart : (fs : List Follow) (room : ℕ) (parts : List Part) → parts_decide rs fs parts after ≡ true
      → Apart (rules_of rs nesting) (followed fs) end (map (piece room) parts)
  parts_apart fs room [] e = tt
  parts_apart fs room (p ∷ ps) e =
      let all = first_true (list_all (λ k. mem k (follow_of fs p.symbol)) (next_of rs (leaving_part p ps) after)) _ e in
      let more = second_true (list_all (λ k. mem k (follow_of fs p.symbol)) (next_of rs (leaving_part p ps) after)) _ e in
      let apart = first_true (cond (is_needed p.occurs) true (list_all (λ k. not (mem k (first_of rs p.symbol))) (next_of rs ps after))) (parts_decide rs fs ps after) more in
      let rest = second_true (cond (is_needed p.occurs) true (list_all (λ k. not (mem k (first_of rs p.symbol))) (next_of rs ps after))) (parts_decide rs fs ps after) more in (
        record {
          follows = λ k n. at_member (λ j. mem j (follow_of fs p.symbol)) k (next_of rs (leaving_part p ps) after) all
              (next_listed room k (leaving_part p ps) (subst (λ xs. Next (rules_of rs nesting) end k xs) (leaving_map room p ps) n));
          apart = λ needed k n. not_first (record { symbol = p.symbol; room = room }) k
              (at_member (λ j. not (mem j (first_of rs p.symbol))) k (next_of rs ps after)
              (subst (λ b. cond b true (list_all (λ j. not (mem j (first_of rs p.symbol))) (next_of rs ps after)) ≡ true) needed apart)
              (next_listed room k ps n));
        },
        parts_apart fs room ps rest,
      )

-- a test of each rule holds at the rule that is looked up
decides_at : (rs : List Rule) (fs : List Follow) (more : List Rule) (s k : ℕ) (parts : List Part) → rules_decide rs fs more ≡ true
    → parts_of more s k ≡ Some parts → parts_decide rs fs parts (follow_of fs s) ≡ true
decides_at rs fs [] s k parts e l = absurd (cc)
decides_at rs fs (r ∷ more) s k parts e l =
    elim (r.symbol == s) as (λ b. (r.symbol == s) ≡ b → cond (b && r.kind == k) (Some r.parts) (parts_of more s k) ≡ Some parts → parts_decide rs fs parts (follow_of fs s) ≡ true) [
      | true ↦ λ same h. elim (r.kind == k) as (λ b. cond b (Some r.parts) (parts_of more s k) ≡ Some parts → parts_decide rs fs parts (follow_of fs s) ≡ true) [
        | true ↦ λ h'. let found : r.parts ≡ parts = cc in
            subst (λ x. parts_decide rs fs x (follow_of fs s) ≡ true) found
            (subst (λ x. parts_decide rs fs r.parts (follow_of fs x) ≡ true) (eqb-true r.symbol s same)
            (first_true (parts_decide rs fs r.parts (follow_of fs r.symbol)) (rules_decide rs fs more) e))
        | false ↦ λ h'. decides_at rs fs more s k parts (second_true (parts_decide rs fs r.parts (follow_of fs r.symbol)) (rules_decide rs fs more) e) h'
      ] h
      | false ↦ λ same h. decides_at rs fs more s k parts (second_true (parts_decide rs fs r.parts (follow_of fs r.symbol)) (rules_decide rs fs more) e) h
    ] refl l

pub closed : (rs : List Rule) (nesting : ℕ) (fs : List Follow) → rules_decide rs fs rs ≡ true → Closed (rules_of rs nesting) (followed fs)
closed rs nesting fs e n k body begins =
    let r = ruled rs nesting n k body begins in
    subst (λ xs. Apart (rules_of rs nesting) (followed fs) (followed fs n) xs) r.is
    (parts_apart rs nesting (followed fs n) (follow_of fs n.symbol) (λ j h. h) fs r.room r.parts (decides_at rs fs rs n.symbol k r.parts e r.looked_up))

-- each of the symbols has a text, whatever the room
abbrev pub AllMade : List Rule → ℕ → List ℕ → Type 0
AllMade rs nesting has = (s : ℕ) → mem s has ≡ true → (room : ℕ) → Made (rules_of rs nesting) (record { symbol = s; room = room })

pub needs_ready : (rs : List Rule) (nesting : ℕ) (has : List ℕ) → AllMade rs nesting has → (room : ℕ) (parts : List Part)
    → needs_only has parts ≡ true → Ready (rules_of rs nesting) (map (piece room) parts)
needs_ready rs nesting has made room [] e = tt
needs_ready rs nesting has made room (p ∷ ps) e =
    let here = first_true (cond (is_needed p.occurs) (mem p.symbol has) true) (needs_only has ps) e in (
      (λ needed. made p.symbol (subst (λ b. cond b (mem p.symbol has) true ≡ true) needed here) room),
      needs_ready rs nesting has made room ps (second_true (cond (is_needed p.occurs) (mem p.symbol has) true) (needs_only has ps) e),
    )

outside : (nesting symbol room : ℕ) → not (symbol == nesting) ≡ true → room_in nesting symbol room ≡ Some room
outside nesting symbol zero e =
    elim (symbol == nesting) as (λ b. not b ≡ true → cond b None (Some zero) ≡ Some zero) [ true ↦ λ h. absurd (cc) | false ↦ λ h. refl ] e
outside nesting symbol (suc room) e =
    elim (symbol == nesting) as (λ b. not b ≡ true → cond b (Some room) (Some (suc room)) ≡ Some (suc room)) [ true ↦ λ h. absurd (cc) | false ↦ λ h. refl ] e

made_by : (rs : List Rule) (nesting : ℕ) (had : List ℕ) (symbol kind : ℕ) → AllMade rs nesting had → not (symbol == nesting) ≡ true
    → is_made had (parts_of rs symbol kind) ≡ true → (room : ℕ) → Made (rules_of rs nesting) (record { symbol = symbol; room = room })
made_by rs nesting had symbol kind made apart e room =
    elim (parts_of rs symbol kind) as (λ q. parts_of rs symbol kind ≡ q → is_made had q ≡ true → Made (rules_of rs nesting) (record { symbol = symbol; room = room })) [
      | None ↦ λ l h. absurd (cc)
      | Some parts ↦ λ l h. let x = some_text (rules_of rs nesting) (map (piece room) parts) (needs_ready rs nesting had made room parts h) in
          record {
            head = record { kind = kind; at = 0 };
            body = map (piece room) parts;
            rest = x.text;
            kids = x.trees;
            begins = ap (λ o. pieces_in o (parts_of rs symbol kind)) (outside nesting symbol room apart) ∙ ap (λ q. pieces_in (Some room) q) l;
            spells = x.spells;
          }
    ] refl e

made_round : (rs : List Rule) (nesting : ℕ) (more : List Rule) (has : List ℕ) → AllMade rs nesting has → AllMade rs nesting (texts_round rs nesting more has)
made_round rs nesting [] has made = made
made_round rs nesting (r ∷ more) has made =
    let had = texts_round rs nesting more has in
    let made' = made_round rs nesting more has made in
    elim (not (r.symbol == nesting) && is_made had (parts_of rs r.symbol r.kind))
    as (λ b. (not (r.symbol == nesting) && is_made had (parts_of rs r.symbol r.kind)) ≡ b → AllMade rs nesting (cond b (r.symbol ∷ had) had)) [
      | true ↦ λ e s m room. elim (r.symbol == s) as (λ b. (r.symbol == s) ≡ b → (b || mem s had) ≡ true → Made (rules_of rs nesting) (record { symbol = s; room = room })) [
        | true ↦ λ same h. subst (λ x. Made (rules_of rs nesting) (record { symbol = x; room = room })) (eqb-true r.symbol s same)
            (made_by rs nesting had r.symbol r.kind made' (first_true (not (r.symbol == nesting)) (is_made had (parts_of rs r.symbol r.kind)) e)
            (second_true (not (r.symbol == nesting)) (is_made had (parts_of rs r.symbol r.kind)) e) room)
        | false ↦ λ same h. made' s h room
      ] refl m
      | false ↦ λ e. made'
    ] refl

made_rounds : (n : ℕ) (rs : List Rule) (nesting : ℕ) (has : List ℕ) → AllMade rs nesting has → AllMade rs nesting (texts_rounds n rs nesting has)
made_rounds zero rs nesting has made = made
made_rounds (suc n) rs nesting has made = made_rounds n rs nesting (texts_round rs nesting rs has) (made_round rs nesting rs has made)

pub texts_made : (rs : List Rule) (nesting : ℕ) → AllMade rs nesting (texts rs nesting)
texts_made rs nesting = made_rounds 4 rs nesting [] (λ s m room. absurd (cc))

needs_at : (has : List ℕ) (more : List Rule) (s k : ℕ) (parts : List Part) → rules_need has more ≡ true → parts_of more s k ≡ Some parts → needs_only has parts ≡ true
needs_at has [] s k parts e l = absurd (cc)
needs_at has (r ∷ more) s k parts e l =
    elim (r.symbol == s && r.kind == k) as (λ b. cond b (Some r.parts) (parts_of more s k) ≡ Some parts → needs_only has parts ≡ true) [
      | true ↦ λ h. let found : r.parts ≡ parts = cc in
          subst (λ x. needs_only has x ≡ true) found (first_true (needs_only has r.parts) (rules_need has more) e)
      | false ↦ λ h. needs_at has more s k parts (second_true (needs_only has r.parts) (rules_need has more) e) h
    ] l

pub sound : (rs : List Rule) (nesting : ℕ) → rules_need (texts rs nesting) rs ≡ true → Sound (rules_of rs nesting)
sound rs nesting e n k body begins =
    let r = ruled rs nesting n k body begins in
    subst (λ xs. Ready (rules_of rs nesting) xs) r.is
    (needs_ready rs nesting (texts rs nesting) (texts_made rs nesting) r.room r.parts (needs_at (texts rs nesting) rs n.symbol k r.parts e r.looked_up))

-- what the tests of a table give, for texts of its start
pub record Decided (rs : List Rule) (nesting : ℕ) (start : List Part) : Type 0 where
  pub follow : List Follow
  pub rules_closed : Closed (rules_of rs nesting) (followed follow)
  pub rules_sound : Sound (rules_of rs nesting)
  pub start_apart : (room : ℕ) → Apart (rules_of rs nesting) (followed follow) (λ k. ⊥) (map (piece room) start)
  pub start_ready : (room : ℕ) → Ready (rules_of rs nesting) (map (piece room) start)

pub decided : (rs : List Rule) (nesting : ℕ) (start : List Part) → is_decided rs start ≡ true → is_productive rs nesting start ≡ true → Decided rs nesting start
decided rs nesting start d e =
    let fs = follows rs start in
    let has = texts rs nesting in
    let one = first_true (parts_decide rs fs start []) (rules_decide rs fs rs) d in
    let two = second_true (parts_decide rs fs start []) (rules_decide rs fs rs) d in
    let three = first_true (needs_only has start) (rules_need has rs) e in
    let four = second_true (needs_only has start) (rules_need has rs) e in
    record {
      follow = fs;
      rules_closed = closed rs nesting fs two;
      rules_sound = sound rs nesting four;
      start_apart = λ room. parts_apart rs nesting (λ k. ⊥) [] (λ k h. absurd h) fs room start one;
      start_ready = λ room. needs_ready rs nesting has (texts_made rs nesting) room start three;
    }

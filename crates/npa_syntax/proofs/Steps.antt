-- The steps of the reader, against the automaton and the relation at once.
use Rattle.std.proofs.Common.{◌≡◌, true, false, cond, List, [], ◌∷◌, ◌++◌, Some, None, refl, sym, ap, ◌∙◌, subst₂, append_assoc, append-nil}
use Rattle.npa_syntax.specs.declared.node.Terminal.{Terminal}
use Rattle.npa_syntax.specs.declared.node.Node.{Node}
use Rattle.npa_syntax.specs.Grammars.{Piece, Rules, Spells, nothing, without, taking, is_needed, is_repeated, leaving, tree}
use Rattle.npa_syntax.specs.Automata.{taken_or, after, may_end, going_on, fault, Follows, ends, same, Reads, Stuck, Pending, CantBegin}

pub leaving_append : (p : Piece) (ps qs : List Piece) → leaving p (ps ++ qs) ≡ leaving p ps ++ qs
leaving_append p ps qs =
    elim (is_repeated p.occurs) as (λ b. cond b (p ∷ (ps ++ qs)) (ps ++ qs) ≡ cond b (p ∷ ps) ps ++ qs) [ true ↦ refl | false ↦ refl ]

-- a piece that can't begin and may be left out is left out
fault_skipped : (rules : Rules) (p : Piece) (ps : List Piece) (left more : List Terminal) → is_needed p.occurs ≡ false
    → CantBegin rules p left → Follows left more → fault rules more (p ∷ ps) ≡ fault rules more ps
fault_skipped rules p ps _ _ needed cant (ends left) = ap (λ b. cond (cond b false (may_end ps)) None (Some [])) needed
fault_skipped rules p ps _ _ needed cant (same t left more) =
    ap (λ o. going_on (taken_or p ps o (after rules t.kind ps)) (λ qs. fault rules more qs) (t ∷ more)) cant
    ∙ ap (λ b. going_on (cond b None (after rules t.kind ps)) (λ qs. fault rules more qs) (t ∷ more)) needed

-- a piece that can't begin and is needed is the fault
fault_stuck : (rules : Rules) (p : Piece) (ps : List Piece) (left more : List Terminal) → is_needed p.occurs ≡ true
    → CantBegin rules p left → Follows left more → fault rules more (p ∷ ps) ≡ Some more
fault_stuck rules p ps _ _ needed cant (ends left) = ap (λ b. cond (cond b false (may_end ps)) None (Some [])) needed
fault_stuck rules p ps _ _ needed cant (same t left more) =
    ap (λ o. going_on (taken_or p ps o (after rules t.kind ps)) (λ qs. fault rules more qs) (t ∷ more)) cant
    ∙ ap (λ b. going_on (cond b None (after rules t.kind ps)) (λ qs. fault rules more qs) (t ∷ more)) needed

-- a piece that can begin is taken
pub fault_taken : (rules : Rules) (p : Piece) (ps : List Piece) (t : Terminal) (body : List Piece) (ts : List Terminal)
    → rules p.nonterminal t.kind ≡ Some body → fault rules (t ∷ ts) (p ∷ ps) ≡ fault rules ts (body ++ leaving p ps)
fault_taken rules p ps t body ts begins =
    ap (λ o. going_on (taken_or p ps o (after rules t.kind ps)) (λ qs. fault rules ts qs) (t ∷ ts)) begins

pub pending_first : (rules : Rules) (ps : List Piece) (ts : List Terminal) → Pending rules ps ps ts [] ts
pending_first rules ps ts = record { taken = []; all = refl; spells = λ us ms d. d; onward = λ more f st. refl }

pub pending_skip : (rules : Rules) (ps : List Piece) (p : Piece) (rest : List Piece) (ts : List Terminal) (nodes : List Node) (left : List Terminal)
    → Pending rules ps (p ∷ rest) ts nodes left → is_needed p.occurs ≡ false → CantBegin rules p left → Pending rules ps rest ts nodes left
pending_skip rules ps p rest ts nodes left before needed cant = record {
  taken = before.taken;
  all = before.all;
  spells = λ us ms d. before.spells us ms (without p rest us ms needed d);
  onward = λ more f st. before.onward more f st ∙ fault_skipped rules p (rest ++ st) left more needed cant f;
}

-- what comes before and a terminal with what it begins
pub fault_through : (rules : Rules) (ps : List Piece) (p : Piece) (rest : List Piece) (ts : List Terminal) (nodes : List Node) (t : Terminal) (l : List Terminal)
    → (before : Pending rules ps (p ∷ rest) ts nodes (t ∷ l)) → (body : List Piece) → rules p.nonterminal t.kind ≡ Some body
    → (us more : List Terminal) (st : List Piece)
    → fault rules ((before.taken ++ t ∷ us) ++ more) (ps ++ st) ≡ fault rules (us ++ more) (body ++ leaving p (rest ++ st))
fault_through rules ps p rest ts nodes t l before body begins us more st =
    ap (λ xs. fault rules xs (ps ++ st)) (append_assoc before.taken (t ∷ us) more)
    ∙ before.onward (t ∷ (us ++ more)) (same t l (us ++ more)) st
    ∙ fault_taken rules p (rest ++ st) t body (us ++ more) begins

all_through : (front : List Terminal) (t : Terminal) (l us mid ts : List Terminal) → ts ≡ front ++ t ∷ l → l ≡ us ++ mid → ts ≡ (front ++ t ∷ us) ++ mid
all_through front t l us mid ts e d = e ∙ ap (λ xs. front ++ t ∷ xs) d ∙ sym (append_assoc front (t ∷ us) mid)

pub pending_take : (rules : Rules) (ps : List Piece) (p : Piece) (rest : List Piece) (ts : List Terminal) (nodes : List Node) (t : Terminal) (l : List Terminal)
    (body : List Piece) (kids : List Node) (mid : List Terminal)
    → Pending rules ps (p ∷ rest) ts nodes (t ∷ l) → rules p.nonterminal t.kind ≡ Some body → Reads rules body l kids mid
    → Pending rules ps (leaving p rest) ts (nodes ++ tree p.nonterminal t kids ∷ []) mid
pending_take rules ps p rest ts nodes t l body kids mid before begins inner = record {
  taken = before.taken ++ t ∷ inner.taken;
  all = all_through before.taken t l inner.taken mid ts before.all inner.all;
  spells = λ us ms d.
      subst₂ (λ xs ns. Spells rules ps xs ns) (sym (append_assoc before.taken (t ∷ inner.taken) us)) (sym (append_assoc nodes (tree p.nonterminal t kids ∷ []) ms))
      (before.spells (t ∷ (inner.taken ++ us)) (tree p.nonterminal t kids ∷ ms) (taking p rest t body inner.taken us kids ms begins inner.spells d));
  onward = λ more f st. fault_through rules ps p rest ts nodes t l before body begins inner.taken more st
      ∙ inner.onward more f (leaving p (rest ++ st)) ∙ ap (λ qs. fault rules more qs) (leaving_append p rest st);
}

pub stuck_here : (rules : Rules) (ps : List Piece) (p : Piece) (rest : List Piece) (ts : List Terminal) (nodes : List Node) (left : List Terminal)
    → Pending rules ps (p ∷ rest) ts nodes left → is_needed p.occurs ≡ true → CantBegin rules p left → Stuck rules ps ts left
stuck_here rules ps p rest ts nodes left before needed cant = record {
  front = before.taken;
  all = before.all;
  stuck = λ more f st. before.onward more f st ∙ fault_stuck rules p (rest ++ st) left more needed cant f;
}

pub stuck_below : (rules : Rules) (ps : List Piece) (p : Piece) (rest : List Piece) (ts : List Terminal) (nodes : List Node) (t : Terminal) (l : List Terminal)
    (body : List Piece) (left : List Terminal)
    → Pending rules ps (p ∷ rest) ts nodes (t ∷ l) → rules p.nonterminal t.kind ≡ Some body → Stuck rules body l left → Stuck rules ps ts left
stuck_below rules ps p rest ts nodes t l body left before begins inner = record {
  front = before.taken ++ t ∷ inner.front;
  all = all_through before.taken t l inner.front left ts before.all inner.all;
  stuck = λ more f st. fault_through rules ps p rest ts nodes t l before body begins inner.front more st
      ∙ inner.stuck more f (leaving p (rest ++ st));
}

pub pending_last : (rules : Rules) (ps : List Piece) (ts : List Terminal) (nodes : List Node) (left : List Terminal)
    → Pending rules ps [] ts nodes left → Reads rules ps ts nodes left
pending_last rules ps ts nodes left before = record {
  taken = before.taken;
  all = before.all;
  spells = subst₂ (λ xs ns. Spells rules ps xs ns) (append-nil before.taken) (append-nil nodes) (before.spells [] [] nothing);
  onward = before.onward;
}

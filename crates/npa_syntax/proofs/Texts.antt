-- Texts of pieces, the automaton's steps as derivatives, and the place at which it stops, over any
-- rules that one terminal of look-ahead decides.
use Rattle.std.proofs.Common.{◌≡◌, ℕ, true, false, cond, List, [], ◌∷◌, ◌++◌, Some, None, refl, sym, ap, ◌∙◌, subst, subst₂, ◌⊎◌, inl, inr, append_assoc}
use Rattle.npa_syntax.specs.declared.production.Occurrence.{Occurrence}
use Rattle.npa_syntax.specs.declared.production.Occurrence.TheVariants.{Once, Optional, Repeated}
use Rattle.npa_syntax.specs.declared.node.Terminal.{Terminal}
use Rattle.npa_syntax.specs.declared.node.Node.{Node}
use Rattle.npa_syntax.specs.Grammars.{Nonterminal, Piece, Rules, Spells, nothing, without, taking, is_needed, is_repeated, leaving, tree, Begins, GoesOn, StopsAt}
use Rattle.npa_syntax.specs.Automata.{taken_or, after, may_end, going_on, fault}
use Rattle.npa_syntax.proofs.Steps.{leaving_append}

-- ## What may come next

pub record Starts (rules : Rules) (n : Nonterminal) (k : ℕ) : Type 0 where
  pub body : List Piece
  pub begins : rules n k ≡ Some body

-- the kind may come next where the pieces are to come and what `end` allows after them
abbrev pub Next : Rules → (ℕ → Type 0) → ℕ → List Piece → Type 0
Next rules end k [] = end k
Next rules end k (p ∷ ps) = Starts rules p.nonterminal k ⊎ ((is_needed p.occurs ≡ false) × Next rules end k ps)

pub record Clear (rules : Rules) (follow : Nonterminal → ℕ → Type 0) (end : ℕ → Type 0) (p : Piece) (ps : List Piece) : Type 0 where
  pub follows : (k : ℕ) → Next rules end k (leaving p ps) → follow p.nonterminal k
  pub apart : is_needed p.occurs ≡ false → (k : ℕ) → Next rules end k ps → rules p.nonterminal k ≡ None

-- each piece is apart from what may come in its place
abbrev pub Apart : Rules → (Nonterminal → ℕ → Type 0) → (ℕ → Type 0) → List Piece → Type 0
Apart rules follow end [] = Unit {0}
Apart rules follow end (p ∷ ps) = Clear rules follow end p ps × Apart rules follow end ps

next_weaker : (rules : Rules) (end inner : ℕ → Type 0) (qs : List Piece) → ((k : ℕ) → Next rules end k qs → inner k)
    → (k : ℕ) (ps : List Piece) → Next rules end k (ps ++ qs) → Next rules inner k ps
next_weaker rules end inner qs weaker k [] n = weaker k n
next_weaker rules end inner qs weaker k (p ∷ ps) (inl s) = inl s
next_weaker rules end inner qs weaker k (p ∷ ps) (inr n) = inr (n.0, next_weaker rules end inner qs weaker k ps n.1)

apart_append : (rules : Rules) (follow : Nonterminal → ℕ → Type 0) (end inner : ℕ → Type 0) (ps qs : List Piece)
    → Apart rules follow inner ps → ((k : ℕ) → Next rules end k qs → inner k) → Apart rules follow end qs → Apart rules follow end (ps ++ qs)
apart_append rules follow end inner [] qs a weaker b = b
apart_append rules follow end inner (p ∷ ps) qs a weaker b = (
  record {
    follows = λ k n. a.0.follows k (next_weaker rules end inner qs weaker k (leaving p ps) (subst (λ xs. Next rules end k xs) (leaving_append p ps qs) n));
    apart = λ e k n. a.0.apart e k (next_weaker rules end inner qs weaker k ps n);
  },
  apart_append rules follow end inner ps qs a.1 weaker b,
)

pub apart_leaving : (rules : Rules) (follow : Nonterminal → ℕ → Type 0) (end : ℕ → Type 0) (p : Piece) (ps : List Piece)
    → Apart rules follow end (p ∷ ps) → Apart rules follow end (leaving p ps)
apart_leaving rules follow end p ps a =
    elim (is_repeated p.occurs) as (λ b. Apart rules follow end (cond b (p ∷ ps) ps)) [ true ↦ a | false ↦ a.1 ]

-- what every production's pieces keep
abbrev pub Closed : Rules → (Nonterminal → ℕ → Type 0) → Type 0
Closed rules follow = (n : Nonterminal) (k : ℕ) (body : List Piece) → rules n k ≡ Some body → Apart rules follow (follow n) body

pub apart_taken : (rules : Rules) (follow : Nonterminal → ℕ → Type 0) (end : ℕ → Type 0) → Closed rules follow
    → (p : Piece) (ps : List Piece) (k : ℕ) (body : List Piece) → rules p.nonterminal k ≡ Some body
    → Apart rules follow end (p ∷ ps) → Apart rules follow end (body ++ leaving p ps)
apart_taken rules follow end closed p ps k body begins a =
    apart_append rules follow end (follow p.nonterminal) body (leaving p ps)
    (closed p.nonterminal k body begins) a.0.follows (apart_leaving rules follow end p ps a)

pub next_begins : {rules : Rules} (end : ℕ → Type 0) {ps : List Piece} {ts : List Terminal} {ns : List Node} → Spells rules ps ts ns
    → (t : Terminal) (us : List Terminal) → ts ≡ t ∷ us → Next rules end t.kind ps
next_begins end nothing t us e = absurd (cc)
next_begins end (without p ps ts ns needed d) t us e = inr (needed, next_begins end d t us e)
next_begins {rules = rules} end (taking p ps u body ts vs kids ns begins d d') t us e =
    let same : u ≡ t = cc in inl (record { body = body; begins = ap (λ x. rules p.nonterminal x.kind) (sym same) ∙ begins })

-- ## Joining and splitting texts

pub join : {rules : Rules} {ps : List Piece} {ts : List Terminal} {ns : List Node} → Spells rules ps ts ns
    → (qs : List Piece) (vs : List Terminal) (ms : List Node) → Spells rules qs vs ms → Spells rules (ps ++ qs) (ts ++ vs) (ns ++ ms)
join nothing qs vs ms e = e
join (without p ps ts ns needed d) qs vs ms e = without p (ps ++ qs) (ts ++ vs) (ns ++ ms) needed (join d qs vs ms e)
join {rules = rules} (taking p ps t body ts us kids ns begins d d') qs vs ms e =
    subst (λ xs. Spells rules (p ∷ (ps ++ qs)) xs (tree p.nonterminal t kids ∷ (ns ++ ms))) (sym (append_assoc (t ∷ ts) us vs))
    (taking p (ps ++ qs) t body ts (us ++ vs) kids (ns ++ ms) begins d
    (subst (λ xs. Spells rules xs (us ++ vs) (ns ++ ms)) (sym (leaving_append p ps qs)) (join d' qs vs ms e)))

pub record Split (rules : Rules) (ps qs : List Piece) (ts : List Terminal) : Type 0 where
  pub left : List Terminal
  pub right : List Terminal
  pub left_trees : List Node
  pub right_trees : List Node
  pub all : ts ≡ left ++ right
  pub first : Spells rules ps left left_trees
  pub second : Spells rules qs right right_trees

split_taking : (rules : Rules) (p : Piece) (ps qs : List Piece) (t : Terminal) (body : List Piece) (ts us : List Terminal) (kids : List Node)
    → rules p.nonterminal t.kind ≡ Some body → Spells rules body ts kids → Split rules (leaving p ps) qs us → Split rules (p ∷ ps) qs (t ∷ ts ++ us)
split_taking rules p ps qs t body ts us kids begins d s = record {
  left = t ∷ ts ++ s.left;
  right = s.right;
  left_trees = tree p.nonterminal t kids ∷ s.left_trees;
  right_trees = s.right_trees;
  all = ap (λ xs. t ∷ ts ++ xs) s.all ∙ sym (append_assoc (t ∷ ts) s.left s.right);
  first = taking p ps t body ts s.left kids s.left_trees begins d s.first;
  second = s.second;
}

split_without : (rules : Rules) (p : Piece) (ps qs : List Piece) (ts : List Terminal) → is_needed p.occurs ≡ false → Split rules ps qs ts → Split rules (p ∷ ps) qs ts
split_without rules p ps qs ts needed s = record {
  left = s.left;
  right = s.right;
  left_trees = s.left_trees;
  right_trees = s.right_trees;
  all = s.all;
  first = without p ps s.left s.left_trees needed s.first;
  second = s.second;
}

pub split : {rules : Rules} {xs : List Piece} {ts : List Terminal} {ns : List Node} → Spells rules xs ts ns
    → (ps qs : List Piece) → xs ≡ ps ++ qs → Split rules ps qs ts
split {rules = rules} {xs = xs} {ts = ts} {ns = ns} d [] qs e = record {
  left = [];
  right = ts;
  left_trees = [];
  right_trees = ns;
  all = refl;
  first = nothing;
  second = subst (λ ys. Spells rules ys ts ns) e d;
}
split nothing (q ∷ ps) qs e = absurd (cc)
split {rules = rules} (without p xs ts ns needed d) (q ∷ ps) qs e =
    let same : p ≡ q = cc in let rest : xs ≡ ps ++ qs = cc in
    split_without rules q ps qs ts (ap (λ x. is_needed x.occurs) (sym same) ∙ needed) (split d ps qs rest)
split {rules = rules} (taking p xs t body ts us kids ns begins d d') (q ∷ ps) qs e =
    let same : p ≡ q = cc in let rest : xs ≡ ps ++ qs = cc in
    split_taking rules q ps qs t body ts us kids (ap (λ x. rules x.nonterminal t.kind) (sym same) ∙ begins) d
    (split d' (leaving q ps) qs (subst₂ (λ x ys. leaving p xs ≡ leaving x ys) same rest refl ∙ leaving_append q ps qs))

-- ## The automaton's steps are derivatives

pub record Text (rules : Rules) (ps : List Piece) (ts : List Terminal) : Type 0 where
  pub trees : List Node
  pub spells : Spells rules ps ts trees

text_without : (rules : Rules) (p : Piece) (ps : List Piece) (ts : List Terminal) → is_needed p.occurs ≡ false → Text rules ps ts → Text rules (p ∷ ps) ts
text_without rules p ps ts needed x = record { trees = x.trees; spells = without p ps ts x.trees needed x.spells }

text_taking : (rules : Rules) (p : Piece) (ps : List Piece) (t : Terminal) (body qs : List Piece) (us : List Terminal) → rules p.nonterminal t.kind ≡ Some body
    → qs ≡ body ++ leaving p ps → Text rules qs us → Text rules (p ∷ ps) (t ∷ us)
text_taking rules p ps t body qs us begins e x =
    let s = split x.spells body (leaving p ps) e in
    record {
      trees = tree p.nonterminal t s.left_trees ∷ s.right_trees;
      spells = subst (λ xs. Spells rules (p ∷ ps) xs (tree p.nonterminal t s.left_trees ∷ s.right_trees)) (ap (λ xs. t ∷ xs) (sym s.all))
          (taking p ps t body s.left s.right s.left_trees s.right_trees begins s.first s.second);
    }

-- a text of what is to come after a terminal makes a text with it
pub back : (rules : Rules) (ps : List Piece) (t : Terminal) (qs : List Piece) (us : List Terminal)
    → after rules t.kind ps ≡ Some qs → Text rules qs us → Text rules ps (t ∷ us)
back rules [] t qs us e x = absurd (cc)
back rules (p ∷ ps) t qs us e x =
    elim (rules p.nonterminal t.kind) as (λ o. rules p.nonterminal t.kind ≡ o → taken_or p ps o (after rules t.kind ps) ≡ Some qs → Text rules (p ∷ ps) (t ∷ us)) [
      | Some body ↦ λ begins e'. text_taking rules p ps t body qs us begins (let same : qs ≡ body ++ leaving p ps = cc in same) x
      | None ↦ λ begins e'. elim (is_needed p.occurs) as (λ b. is_needed p.occurs ≡ b → cond b None (after rules t.kind ps) ≡ Some qs → Text rules (p ∷ ps) (t ∷ us)) [
        | true ↦ λ needed e''. absurd (cc)
        | false ↦ λ needed e''. text_without rules p ps (t ∷ us) needed (back rules ps t qs us e'' x)
      ] refl e'
    ] refl e

pub record Derived (rules : Rules) (follow : Nonterminal → ℕ → Type 0) (end : ℕ → Type 0) (ps : List Piece) (k : ℕ) (us : List Terminal) : Type 0 where
  pub stack : List Piece
  pub is : after rules k ps ≡ Some stack
  pub trees : List Node
  pub spells : Spells rules stack us trees
  pub apart : Apart rules follow end stack

derived_without : (rules : Rules) (follow : Nonterminal → ℕ → Type 0) (end : ℕ → Type 0) (p : Piece) (ps : List Piece) (k : ℕ) (us : List Terminal)
    → is_needed p.occurs ≡ false → rules p.nonterminal k ≡ None → Derived rules follow end ps k us → Derived rules follow end (p ∷ ps) k us
derived_without rules follow end p ps k us needed cant x = record {
  stack = x.stack;
  is = ap (λ o. taken_or p ps o (after rules k ps)) cant ∙ ap (λ b. cond b None (after rules k ps)) needed ∙ x.is;
  trees = x.trees;
  spells = x.spells;
  apart = x.apart;
}

-- with its first terminal taken, a text is a text of what is to come after it
pub forth : {rules : Rules} (follow : Nonterminal → ℕ → Type 0) (end : ℕ → Type 0) (closed : Closed rules follow)
    {ps : List Piece} {ts : List Terminal} {ns : List Node} → Spells rules ps ts ns → Apart rules follow end ps
    → (t : Terminal) (us : List Terminal) → ts ≡ t ∷ us → Derived rules follow end ps t.kind us
forth follow end closed nothing a t us e = absurd (cc)
forth {rules = rules} follow end closed (without p ps ts ns needed d) a t us e =
    derived_without rules follow end p ps t.kind us needed (a.0.apart needed t.kind (next_begins end d t us e)) (forth follow end closed d a.1 t us e)
forth {rules = rules} follow end closed (taking p ps u body ts vs kids ns begins d d') a t us e =
    let same : u ≡ t = cc in
    let rest : ts ++ vs ≡ us = cc in
    let begins' : rules p.nonterminal t.kind ≡ Some body = ap (λ x. rules p.nonterminal x.kind) (sym same) ∙ begins in
    record {
      stack = body ++ leaving p ps;
      is = ap (λ o. taken_or p ps o (after rules t.kind ps)) begins';
      trees = kids ++ ns;
      spells = subst (λ xs. Spells rules (body ++ leaving p ps) xs (kids ++ ns)) rest (join d (leaving p ps) vs ns d');
      apart = apart_taken rules follow end closed p ps t.kind body begins' a;
    }

pub ended : {rules : Rules} {ps : List Piece} {ts : List Terminal} {ns : List Node} → Spells rules ps ts ns → ts ≡ [] → may_end ps ≡ true
ended nothing e = refl
ended (without p ps ts ns needed d) e = ap (λ b. cond b false (may_end ps)) needed ∙ ended d e
ended (taking p ps t body ts us kids ns begins d d') e = absurd (cc)

-- ## A text is accepted

pub accepts : {rules : Rules} (follow : Nonterminal → ℕ → Type 0) (end : ℕ → Type 0) (closed : Closed rules follow)
    (ts : List Terminal) (ps : List Piece) (ns : List Node) → Apart rules follow end ps → Spells rules ps ts ns → fault rules ts ps ≡ None
accepts follow end closed [] ps ns a d = ap (λ b. cond b None (Some [])) (ended d refl)
accepts {rules = rules} follow end closed (t ∷ ts) ps ns a d =
    let x = forth follow end closed d a t ts refl in
    ap (λ o. going_on o (λ qs. fault rules ts qs) (t ∷ ts)) x.is ∙ accepts follow end closed ts x.stack x.trees x.apart x.spells

-- ## Every list of pieces has a text

pub record Made (rules : Rules) (n : Nonterminal) : Type 0 where
  pub head : Terminal
  pub body : List Piece
  pub rest : List Terminal
  pub kids : List Node
  pub begins : rules n head.kind ≡ Some body
  pub spells : Spells rules body rest kids

abbrev pub Ready : Rules → List Piece → Type 0
Ready rules [] = Unit {0}
Ready rules (p ∷ ps) = (is_needed p.occurs ≡ true → Made rules p.nonterminal) × Ready rules ps

pub record SomeText (rules : Rules) (ps : List Piece) : Type 0 where
  pub text : List Terminal
  pub trees : List Node
  pub spells : Spells rules ps text trees

pub needed_once : (o : Occurrence) → is_needed o ≡ true → is_repeated o ≡ false
needed_once Once e = refl
needed_once Optional e = refl
needed_once Repeated e = absurd (cc)

some_taking : (rules : Rules) (p : Piece) (ps : List Piece) → is_needed p.occurs ≡ true → Made rules p.nonterminal → SomeText rules ps → SomeText rules (p ∷ ps)
some_taking rules p ps needed m x = record {
  text = m.head ∷ m.rest ++ x.text;
  trees = tree p.nonterminal m.head m.kids ∷ x.trees;
  spells = taking p ps m.head m.body m.rest x.text m.kids x.trees m.begins m.spells
      (subst (λ b. Spells rules (cond b (p ∷ ps) ps) x.text x.trees) (sym (needed_once p.occurs needed)) x.spells);
}

some_without : (rules : Rules) (p : Piece) (ps : List Piece) → is_needed p.occurs ≡ false → SomeText rules ps → SomeText rules (p ∷ ps)
some_without rules p ps needed x = record { text = x.text; trees = x.trees; spells = without p ps x.text x.trees needed x.spells }

pub some_text : (rules : Rules) (ps : List Piece) → Ready rules ps → SomeText rules ps
some_text rules [] r = record { text = []; trees = []; spells = nothing }
some_text rules (p ∷ ps) r =
    elim (is_needed p.occurs) as (λ b. is_needed p.occurs ≡ b → SomeText rules (p ∷ ps)) [
      | true ↦ λ needed. some_taking rules p ps needed (r.0 needed) (some_text rules ps r.1)
      | false ↦ λ needed. some_without rules p ps needed (some_text rules ps r.1)
    ] refl

ready_append : (rules : Rules) (ps qs : List Piece) → Ready rules ps → Ready rules qs → Ready rules (ps ++ qs)
ready_append rules [] qs r s = s
ready_append rules (p ∷ ps) qs r s = (r.0, ready_append rules ps qs r.1 s)

ready_leaving : (rules : Rules) (p : Piece) (ps : List Piece) → Ready rules (p ∷ ps) → Ready rules (leaving p ps)
ready_leaving rules p ps r = elim (is_repeated p.occurs) as (λ b. Ready rules (cond b (p ∷ ps) ps)) [ true ↦ r | false ↦ r.1 ]

abbrev pub Sound : Rules → Type 0
Sound rules = (n : Nonterminal) (k : ℕ) (body : List Piece) → rules n k ≡ Some body → Ready rules body

pub ready_after : (rules : Rules) → Sound rules → (ps : List Piece) (k : ℕ) (qs : List Piece) → after rules k ps ≡ Some qs → Ready rules ps → Ready rules qs
ready_after rules sound [] k qs e r = absurd (cc)
ready_after rules sound (p ∷ ps) k qs e r =
    elim (rules p.nonterminal k) as (λ o. rules p.nonterminal k ≡ o → taken_or p ps o (after rules k ps) ≡ Some qs → Ready rules qs) [
      | Some body ↦ λ begins e'. let same : body ++ leaving p ps ≡ qs = cc in
          subst (λ xs. Ready rules xs) same (ready_append rules body (leaving p ps) (sound p.nonterminal k body begins) (ready_leaving rules p ps r))
      | None ↦ λ begins e'. elim (is_needed p.occurs) as (λ b. cond b None (after rules k ps) ≡ Some qs → Ready rules qs)
          [ true ↦ λ e''. absurd (cc) | false ↦ λ e''. ready_after rules sound ps k qs e'' r.1 ] e'
    ] refl e

-- ## The automaton stops at the first terminal at which no text can go on

pub record Stops (rules : Rules) (ps : List Piece) (ts left : List Terminal) : Type 0 where
  pub front : List Terminal
  pub all : ts ≡ front ++ left
  pub stops : StopsAt rules ps front left

begins_at : (rules : Rules) (ps : List Piece) → Ready rules ps → Begins rules ps []
begins_at rules ps r = let x = some_text rules ps r in record { more = x.text; trees = x.trees; spells = x.spells }

-- the text can't end where a piece is needed
stops_end : (rules : Rules) (ps : List Piece) → Ready rules ps → may_end ps ≡ false → StopsAt rules ps [] []
stops_end rules ps r e = record { begins = begins_at rules ps r; stuck = λ x. let may : may_end ps ≡ true = ended x.1 refl in absurd (cc) }

module _ (rules : Rules) (follow : Nonterminal → ℕ → Type 0) (end : ℕ → Type 0) (closed : Closed rules follow) where
  stops_here : (ps : List Piece) (t : Terminal) (ts : List Terminal) → Apart rules follow end ps → Ready rules ps
      → after rules t.kind ps ≡ None → StopsAt rules ps [] (t ∷ ts)
  stops_here ps t ts a r e = record {
    begins = begins_at rules ps r;
    stuck = λ x. let y = forth follow end closed x.spells a t x.more refl in let is : after rules t.kind ps ≡ Some y.stack = y.is in absurd (cc);
  }

  goes_on_later : (ps : List Piece) (t : Terminal) (qs : List Piece) (front left : List Terminal) → Apart rules follow end ps
      → after rules t.kind ps ≡ Some qs → GoesOn rules ps (t ∷ front) left → GoesOn rules qs front left
  goes_on_later ps t qs front [] a e x =
      let y = forth follow end closed x.1 a t front refl in
      let same : y.stack ≡ qs = (let is : after rules t.kind ps ≡ Some y.stack = y.is in cc) in
      (y.trees, subst (λ s. Spells rules s front y.trees) same y.spells)
  goes_on_later ps t qs front (u ∷ left) a e x =
      let y = forth follow end closed x.spells a t ((front ++ u ∷ []) ++ x.more) refl in
      let same : y.stack ≡ qs = (let is : after rules t.kind ps ≡ Some y.stack = y.is in cc) in
      record { more = x.more; trees = y.trees; spells = subst (λ s. Spells rules s ((front ++ u ∷ []) ++ x.more) y.trees) same y.spells }

  stops_later : (ps : List Piece) (t : Terminal) (qs : List Piece) (front left : List Terminal) → Apart rules follow end ps
      → after rules t.kind ps ≡ Some qs → StopsAt rules qs front left → StopsAt rules ps (t ∷ front) left
  stops_later ps t qs front left a e s =
      let x = back rules ps t qs (front ++ s.begins.more) e (record { trees = s.begins.trees; spells = s.begins.spells }) in
      record {
        begins = record { more = s.begins.more; trees = x.trees; spells = x.spells };
        stuck = λ y. s.stuck (goes_on_later ps t qs front left a e y);
      }

  derived_apart : (ps : List Piece) (k : ℕ) (qs : List Piece) → after rules k ps ≡ Some qs → Apart rules follow end ps → Apart rules follow end qs
  derived_apart [] k qs e a = absurd (cc)
  derived_apart (p ∷ ps) k qs e a =
      elim (rules p.nonterminal k) as (λ o. rules p.nonterminal k ≡ o → taken_or p ps o (after rules k ps) ≡ Some qs → Apart rules follow end qs) [
        | Some body ↦ λ begins e'. let same : body ++ leaving p ps ≡ qs = cc in
            subst (λ xs. Apart rules follow end xs) same (apart_taken rules follow end closed p ps k body begins a)
        | None ↦ λ begins e'. elim (is_needed p.occurs) as (λ b. cond b None (after rules k ps) ≡ Some qs → Apart rules follow end qs)
            [ true ↦ λ e''. absurd (cc) | false ↦ λ e''. derived_apart ps k qs e'' a.1 ] e'
      ] refl e

  stops_through : (ps : List Piece) (t : Terminal) (qs : List Piece) (ts left : List Terminal) → Apart rules follow end ps
      → after rules t.kind ps ≡ Some qs → Stops rules qs ts left → Stops rules ps (t ∷ ts) left
  stops_through ps t qs ts left a e s = record {
    front = t ∷ s.front;
    all = ap (λ xs. t ∷ xs) s.all;
    stops = stops_later ps t qs s.front left a e s.stops;
  }

  pub stops : (sound : Sound rules) (ts : List Terminal) (ps : List Piece) (left : List Terminal)
      → Apart rules follow end ps → Ready rules ps → fault rules ts ps ≡ Some left → Stops rules ps ts left
  stops sound [] ps left a r e =
      elim (may_end ps) as (λ b. may_end ps ≡ b → cond b None (Some []) ≡ Some left → Stops rules ps [] left) [
        | true ↦ λ m e'. absurd (cc)
        | false ↦ λ m e'. let same : [] ≡ left = cc in
            subst (λ xs. Stops rules ps [] xs) same (record { front = []; all = refl; stops = stops_end rules ps r m })
      ] refl e
  stops sound (t ∷ ts) ps left a r e =
      elim (after rules t.kind ps) as (λ o. after rules t.kind ps ≡ o → going_on o (λ qs. fault rules ts qs) (t ∷ ts) ≡ Some left → Stops rules ps (t ∷ ts) left) [
        | None ↦ λ is e'. let same : t ∷ ts ≡ left = cc in
            subst (λ xs. Stops rules ps (t ∷ ts) xs) same (record { front = []; all = refl; stops = stops_here ps t ts a r is })
        | Some qs ↦ λ is e'. stops_through ps t qs ts left a is
            (stops sound ts qs left (derived_apart ps t.kind qs is a) (ready_after rules sound ps t.kind qs is r) e')
      ] refl e

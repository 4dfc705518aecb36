-- A text has one tree: how far each piece reaches, and its trees, are decided.
use Rattle.std.proofs.Common.{◌≡◌, ℕ, false, List, [], ◌∷◌, ◌++◌, Some, None, refl, sym, ap, ◌∙◌, subst, append_assoc, append-nil}
use Rattle.std.proofs.lemmas.List.{append_cancel_left}
use Rattle.npa_syntax.specs.declared.node.Terminal.{Terminal}
use Rattle.npa_syntax.specs.declared.node.Node.{Node}
use Rattle.npa_syntax.specs.Grammars.{Nonterminal, Piece, Rules, Spells, nothing, without, taking, is_needed, leaving, tree}
use Rattle.npa_syntax.proofs.Steps.{leaving_append}
use Rattle.npa_syntax.proofs.Texts.{Clear, Apart, Closed, apart_leaving, apart_taken, next_begins, join}

pub record Same (ts ts' : List Terminal) (ns ns' : List Node) : Type 0 where
  pub terminals : ts ≡ ts'
  pub trees : ns ≡ ns'

-- a piece that is left out in one reading and taken in another
torn : (rules : Rules) (follow : Nonterminal → ℕ → Type 0) (end : ℕ → Type 0) (p : Piece) (ps : List Piece) (t : Terminal) (body : List Piece)
    (ts us : List Terminal) (ns : List Node) → Clear rules follow end p ps → is_needed p.occurs ≡ false → Spells rules ps ts ns → ts ≡ t ∷ us
    → rules p.nonterminal t.kind ≡ Some body → ⊥
torn rules follow end p ps t body ts us ns clear needed d e begins =
    let none : rules p.nonterminal t.kind ≡ None = clear.apart needed t.kind (next_begins end d t us e) in absurd (cc)

module _ (rules : Rules) (follow : Nonterminal → ℕ → Type 0) (end : ℕ → Type 0) (closed : Closed rules follow) where
  pub one_reading : {ps : List Piece} {ts : List Terminal} {ns : List Node} → Spells rules ps ts ns
      → {ps' : List Piece} {ts' : List Terminal} {ns' : List Node} → Spells rules ps' ts' ns' → ps ≡ ps'
      → (st : List Piece) (us us' : List Terminal) (ms ms' : List Node) → Apart rules follow end (ps ++ st)
      → Spells rules st us ms → Spells rules st us' ms' → ts ++ us ≡ ts' ++ us' → Same ts ts' ns ns'
  one_reading nothing nothing e st us us' ms ms' a f f' eq = record { terminals = refl; trees = refl }
  one_reading nothing (without p' ps' ts' ns' needed' d') e st us us' ms ms' a f f' eq = absurd (cc)
  one_reading nothing (taking p' ps' t' body' ts' vs' kids' ns' begins' d' g') e st us us' ms ms' a f f' eq = absurd (cc)
  one_reading (without p ps ts ns needed d) nothing e st us us' ms ms' a f f' eq = absurd (cc)
  one_reading (without p ps ts ns needed d) (without p' ps' ts' ns' needed' d') e st us us' ms ms' a f f' eq =
      let rest : ps ≡ ps' = cc in one_reading d d' rest st us us' ms ms' a.1 f f' eq
  one_reading (without p ps ts ns needed d) (taking p' ps' t' body' ts' vs' kids' ns' begins' d' g') e st us us' ms ms' a f f' eq =
      let same : p' ≡ p = cc in
      absurd (torn rules follow end p (ps ++ st) t' body' (ts ++ us) ((ts' ++ vs') ++ us') (ns ++ ms) a.0 needed (join d st us ms f) eq
      (ap (λ x. rules x.nonterminal t'.kind) (sym same) ∙ begins'))
  one_reading (taking p ps t body ts vs kids ns begins d g) nothing e st us us' ms ms' a f f' eq = absurd (cc)
  one_reading (taking p ps t body ts vs kids ns begins d g) (without p' ps' ts' ns' needed' d') e st us us' ms ms' a f f' eq =
      let same : p ≡ p' = cc in
      let rest : ps' ≡ ps = cc in
      absurd (torn rules follow end p (ps ++ st) t body (ts' ++ us') ((ts ++ vs) ++ us) (ns' ++ ms') a.0
      (ap (λ x. is_needed x.occurs) same ∙ needed')
      (subst (λ xs. Spells rules (xs ++ st) (ts' ++ us') (ns' ++ ms')) rest (join d' st us' ms' f')) (sym eq) begins)
  one_reading (taking p ps t body ts vs kids ns begins d g) (taking p' ps' t' body' ts' vs' kids' ns' begins' d' g') e st us us' ms ms' a f f' eq =
      let same_p : p ≡ p' = cc in
      let rest : ps ≡ ps' = cc in
      let same_t : t ≡ t' = cc in
      let same_body : body ≡ body' = (let same_rule : rules p.nonterminal t.kind ≡ rules p'.nonterminal t'.kind = cc in cc) in
      let leave : leaving p ps ≡ leaving p' ps' = cc in
      let tails : (ts ++ vs) ++ us ≡ (ts' ++ vs') ++ us' = cc in
      let split : ts ++ (vs ++ us) ≡ ts' ++ (vs' ++ us') = sym (append_assoc ts vs us) ∙ tails ∙ append_assoc ts' vs' us' in
      let a' = apart_taken rules follow end closed p (ps ++ st) t.kind body begins a in
      let a'' = subst (λ xs. Apart rules follow end (body ++ xs)) (leaving_append p ps st) a' in
      let inner : Same ts ts' kids kids' = one_reading d d' same_body (leaving p ps ++ st) (vs ++ us) (vs' ++ us') (ns ++ ms) (ns' ++ ms') a''
      (join g st us ms f) (subst (λ xs. Spells rules (xs ++ st) (vs' ++ us') (ns' ++ ms')) (sym leave) (join g' st us' ms' f')) split in
      let after : vs ++ us ≡ vs' ++ us' = append_cancel_left ts (vs ++ us) (vs' ++ us') (split ∙ ap (λ xs. xs ++ (vs' ++ us')) (sym inner.terminals)) in
      let outer : Same vs vs' ns ns' = one_reading g g' leave st us us' ms ms'
      (subst (λ xs. Apart rules follow end xs) (leaving_append p ps st) (apart_leaving rules follow end p (ps ++ st) a)) f f' after in
      record {
        terminals = ap (λ x. x ∷ ts ++ vs) same_t ∙ ap (λ xs. t' ∷ xs ++ vs) inner.terminals ∙ ap (λ xs. t' ∷ ts' ++ xs) outer.terminals;
        trees = ap (λ x. tree x.nonterminal t kids ∷ ns) same_p ∙ ap (λ x. tree p'.nonterminal x kids ∷ ns) same_t
            ∙ ap (λ xs. tree p'.nonterminal t' xs ∷ ns) inner.trees ∙ ap (λ xs. tree p'.nonterminal t' kids' ∷ xs) outer.trees;
      }

  pub one_tree : (ps : List Piece) (ts : List Terminal) (ns ns' : List Node) → Apart rules follow end ps
      → Spells rules ps ts ns → Spells rules ps ts ns' → ns ≡ ns'
  one_tree ps ts ns ns' a d d' =
      (one_reading d d' refl [] [] [] [] [] (subst (λ xs. Apart rules follow end xs) (sym (append-nil ps)) a) nothing nothing refl).trees

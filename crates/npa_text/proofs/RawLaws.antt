-- The terms that nodes stand for, one node after another.
use Rattle.std.proofs.Common.{◌≡◌, ℕ, ◌+◌, ◌<◌, true, false, cond, List, [], ◌∷◌, ◌++◌, length, drop, get_or, refl, sym, ap, ◌∙◌, append_assoc, drop-cons, add-one}
use Rattle.npa_syntax.specs.declared.node.Node.{Node}
use Rattle.npa_syntax.specs.Nodes.{symbol_of, children_of}
use Rattle.npa_syntax.proofs.Folds.{fold_node_at}
use Rattle.npa_text.specs.declared.token.Token.{Token}
use Rattle.npa_text.specs.declared.token.Raw.{Raw}
use Rattle.npa_text.specs.Raws.{is_term, term_with, token_at, terms_over, terms_in, terms_of, raw_of}

-- what a node stands for, by its children
pub terms_at : (tokens : List Token) (n : Node)
    → terms_in tokens n ≡ cond (is_term (symbol_of n)) (raw_of tokens n ∷ []) (terms_of tokens (children_of n))
terms_at tokens n = fold_node_at (terms_over tokens) n

terms_first : (tokens : List Token) (nodes : List Node) (i : ℕ) (n : Node) → i < length nodes → n ≡ get_or nodes i n
    → terms_of tokens (drop i nodes) ≡ terms_in tokens n ++ terms_of tokens (drop (i + 1) nodes)
terms_first tokens nodes i n h e =
    let first : drop i nodes ≡ get_or nodes i n ∷ drop (i + 1) nodes = rw (drop-cons nodes i n, add-one) refl in
    ap (terms_of tokens) first ∙ ap (λ m. terms_in tokens m ++ terms_of tokens (drop (i + 1) nodes)) (sym e)

-- the terms of a node behind those of the nodes before it
terms_next : (tokens : List Token) (nodes : List Node) (i : ℕ) (n : Node) (terms more wanted : List Raw) → i < length nodes → n ≡ get_or nodes i n
    → terms ++ terms_of tokens (drop i nodes) ≡ wanted → terms_in tokens n ≡ more
    → (terms ++ more) ++ terms_of tokens (drop (i + 1) nodes) ≡ wanted
terms_next tokens nodes i n terms more wanted h e so_far is =
    append_assoc terms more (terms_of tokens (drop (i + 1) nodes))
    ∙ ap (λ xs. terms ++ (xs ++ terms_of tokens (drop (i + 1) nodes))) (sym is)
    ∙ ap (λ xs. terms ++ xs) (sym (terms_first tokens nodes i n h e)) ∙ so_far

-- `args` are the terms below the node, `begun` the list that they were added to, `kids` the children
pub term_next : (tokens : List Token) (nodes : List Node) (i : ℕ) (n : Node) (terms new wanted : List Raw) (head : Token) (args begun : List Raw) (kids : List Node)
    → i < length nodes → n ≡ get_or nodes i n → terms ++ terms_of tokens (drop i nodes) ≡ wanted → is_term (symbol_of n) ≡ true
    → head ≡ token_at tokens n → begun ≡ [] → kids ≡ children_of n → args ≡ begun ++ terms_of tokens kids → new ≡ terms ++ term_with head args ∷ []
    → new ++ terms_of tokens (drop (i + 1) nodes) ≡ wanted
term_next tokens nodes i n terms new wanted head args begun kids h e so_far is first none below added pushed =
    let here : terms_in tokens n ≡ raw_of tokens n ∷ [] = terms_at tokens n ∙ ap (λ b. cond b (raw_of tokens n ∷ []) (terms_of tokens (children_of n))) is in
    let made : args ≡ terms_of tokens (children_of n) = added ∙ ap (λ xs. xs ++ terms_of tokens kids) none ∙ ap (terms_of tokens) below in
    ap (λ xs. xs ++ terms_of tokens (drop (i + 1) nodes)) (pushed ∙ ap (λ (t : Token). terms ++ term_with t args ∷ []) first ∙ ap (λ xs. terms ++ term_with (token_at tokens n) xs ∷ []) made)
    ∙ terms_next tokens nodes i n terms (raw_of tokens n ∷ []) wanted h e so_far here

pub others_next : (tokens : List Token) (nodes : List Node) (i : ℕ) (n : Node) (terms new wanted : List Raw) (kids : List Node) → i < length nodes → n ≡ get_or nodes i n
    → terms ++ terms_of tokens (drop i nodes) ≡ wanted → is_term (symbol_of n) ≡ false → kids ≡ children_of n → new ≡ terms ++ terms_of tokens kids
    → new ++ terms_of tokens (drop (i + 1) nodes) ≡ wanted
others_next tokens nodes i n terms new wanted kids h e so_far is below pushed =
    let here : terms_in tokens n ≡ terms_of tokens (children_of n) = terms_at tokens n ∙ ap (λ b. cond b (raw_of tokens n ∷ []) (terms_of tokens (children_of n))) is in
    ap (λ xs. xs ++ terms_of tokens (drop (i + 1) nodes)) (pushed ∙ ap (λ ns. terms ++ terms_of tokens ns) below)
    ∙ terms_next tokens nodes i n terms (terms_of tokens (children_of n)) wanted h e so_far here

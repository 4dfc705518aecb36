-- The trees of a text have no more nodes than it has tokens, and a term no more words.
use Rattle.std.proofs.Common.{◌≡◌, ℕ, suc, ◌+◌, ◌<◌, ◌≤◌, ◌==◌, Bool, true, false, cond, if◌then◌else◌, List, [], ◌∷◌, ◌++◌, Option, None, Some, map, filter, length, length-append, is_some, refl, ap, sym, ◌∙◌, subst, arith}
use Rattle.std.specs.Option.{option_map_or}
use Rattle.npa_names.specs.Names.{place_of}
use Rattle.npa_syntax.specs.declared.node.Terminal.{Terminal}
use Rattle.npa_syntax.specs.declared.node.Node.{Node, Node', out-roll-Node, Row_of-Node, end_of-Node, more_of-Node, items-the_row-Node}
use Rattle.npa_syntax.specs.Grammars.{Nonterminal, Piece, Rules, Spells, nothing, without, taking, tree}
use Rattle.npa_syntax.specs.Nodes.{symbol_of, children_of, first_with, fold_node}
use Rattle.npa_syntax.proofs.Folds.{fold_node_at, children_made}
use Rattle.npa_text.specs.declared.token.Token.{Token}
use Rattle.npa_text.specs.declared.token.Raw.{Raw, out-roll-Raw}
use Rattle.npa_text.specs.Raws.{is_term, no_token, term_with, token_at, terms_in, terms_of, raw_of}
use Rattle.npa_text.proofs.RawLaws.{terms_at}
use Rattle.npa_module.specs.declared.scopes.Binders.{Binders}
use Rattle.npa_reading.specs.Trees.{below, after}
use Rattle.npa_reading.specs.Trees.{raw_below}
use Rattle.npa_limits.specs.Limits.{total}
use Rattle.npa_module.specs.Items.{joined, bound, sort_in, met, occurring, words_in}
use Rattle.npa_module.proofs.Occurring.{words_at}

-- ## Nodes

-- how many nodes a tree has
abbrev pub node_count : Node → ℕ
node_count node = fold_node (λ symbol head below. suc (total below)) node

abbrev pub all_count : List Node → ℕ
all_count nodes = total (map node_count nodes)

count_at : (n : Node) → node_count n ≡ suc (all_count (children_of n))
count_at n = fold_node_at (λ symbol head below. suc (total below)) n

tree_count : (n : Nonterminal) (t : Terminal) (kids : List Node) → node_count (tree n t kids) ≡ suc (all_count kids)
tree_count n t kids =
    count_at (tree n t kids) ∙ ap (λ layer. suc (all_count layer.children)) (out-roll-Node (record { symbol = n.symbol; head = t; children = kids }))

-- a text has no more nodes than terminals
pub nodes_fit : {rules : Rules} {ps : List Piece} {ts : List Terminal} {ns : List Node} → Spells rules ps ts ns → all_count ns ≤ length ts
nodes_fit nothing = omega arith
nodes_fit (without p ps ts ns needed d) = nodes_fit d
nodes_fit (taking p ps t body ts us kids ns begins d d') =
    omega (arith, nodes_fit d, nodes_fit d', length-append ts us, tree_count p.nonterminal t kids)

pub count_children : (n : Node) → all_count (children_of n) < node_count n
count_children n = let e = count_at n in omega (arith, e)

pub count_filter : (p : Node → Bool) (ns : List Node) → all_count (filter p ns) ≤ all_count ns
count_filter p [] = omega arith
count_filter p (n ∷ ns) = split (p n) (count_filter p ns)
  where
    split : (b : Bool) → all_count (filter p ns) ≤ all_count ns → all_count (cond b (n ∷ filter p ns) (filter p ns)) ≤ node_count n + all_count ns
    split true le = omega (arith, le)
    split false le = omega (arith, le)

pub count_length : (ns : List Node) → length ns ≤ all_count ns
count_length [] = omega arith
count_length (n ∷ ns) = let e = count_at n in omega (arith, count_length ns, e)

-- the first node for a nonterminal is one of the nodes
pub count_first : (symbol : ℕ) (ns : List Node) (n : Node) → first_with symbol ns ≡ Some n → node_count n ≤ all_count ns
count_first symbol [] n e = absurd (cc)
count_first symbol (m ∷ ns) n e = split (symbol_of m == symbol) (count_first symbol ns n) e
  where
    split : (b : Bool) → (first_with symbol ns ≡ Some n → node_count n ≤ all_count ns) → cond b (Some m) (first_with symbol ns) ≡ Some n → node_count n ≤ node_count m + all_count ns
    split true rest q = let same : m ≡ n = cc in let count : node_count m ≡ node_count n = ap node_count same in omega (arith, count)
    split false rest q = omega (arith, rest q)

pub count_below : (symbol : ℕ) (ns : List Node) → all_count (below symbol ns) ≤ all_count ns
count_below symbol ns = split (first_with symbol ns) refl
  where
    split : (o : Option Node) → first_with symbol ns ≡ o → all_count (option_map_or children_of o []) ≤ all_count ns
    split None is = omega arith
    split (Some n) is = omega (arith, count_first symbol ns n is, count_children n)

pub count_after : (symbol : ℕ) (ns : List Node) → all_count (after symbol ns) ≤ all_count ns
count_after symbol [] = omega arith
count_after symbol (n ∷ ns) = split (symbol_of n == symbol) (count_after symbol ns)
  where
    split : (b : Bool) → all_count (after symbol ns) ≤ all_count ns → all_count (cond b ns (after symbol ns)) ≤ node_count n + all_count ns
    split true le = omega arith
    split false le = omega (arith, le)

-- ## Words

module _ (bytes : List ℕ) (tokens : List Token) where
  -- how many words terms have
  abbrev word_count : List Raw → ℕ
  word_count raws = length (joined (map (words_in bytes) raws))

  words_more : (raws more : List Raw) → word_count (raws ++ more) ≡ word_count raws + word_count more
  words_more [] more = omega arith
  words_more (r ∷ raws) more =
      let first = length-append (words_in bytes r) (joined (map (words_in bytes) (raws ++ more))) in
      let second = length-append (words_in bytes r) (joined (map (words_in bytes) raws)) in
      omega (arith, first, second, words_more raws more)

  words_with : (head : Token) (args : List Raw) → length (words_in bytes (term_with head args)) ≡ suc (word_count args)
  words_with head args =
      ap (λ (ws : List (List ℕ)). length ws) (words_at bytes (term_with head args))
      ∙ ap (λ layer. suc (word_count layer.args)) (out-roll-Raw (record { head = head; args = args }))

  node_split : (n : Node) → word_count (terms_of tokens (children_of n)) ≤ all_count (children_of n) → word_count (terms_in tokens n) ≤ node_count n
  node_split n inner = subst (λ (rs : List Raw). word_count rs ≤ node_count n) (sym (terms_at tokens n)) (split (is_term (symbol_of n)))
    where
      split : (b : Bool) → word_count (cond b (raw_of tokens n ∷ []) (terms_of tokens (children_of n))) ≤ node_count n
      split true =
          let one = words_with (token_at tokens n) (terms_of tokens (children_of n)) in
          let alone = length-append (words_in bytes (raw_of tokens n)) [] in
          omega (arith, one, alone, inner, count_at n)
      split false = omega (arith, inner, count_at n)

  mutual
    node_words : (n : Node) → word_count (terms_in tokens n) ≤ node_count n
    node_words (Node' symbol head shape row) =
        let kids = row_words row in
        let made = children_made symbol head shape row in
        let inner : word_count (terms_of tokens (children_of (Node' symbol head shape row))) ≤ all_count (children_of (Node' symbol head shape row)) =
        subst (λ (ns : List Node). word_count (terms_of tokens ns) ≤ all_count ns) (sym made) kids in
        node_split (Node' symbol head shape row) inner

    row_words : {m : _} (k : Row_of-Node m) → word_count (terms_of tokens (items-the_row-Node m k)) ≤ all_count (items-the_row-Node m k)
    row_words end_of-Node = omega arith
    row_words (more_of-Node n rest) =
        omega (arith, node_words n, row_words rest, words_more (terms_in tokens n) (terms_of tokens (items-the_row-Node _ rest)))

  list_words : (ns : List Node) → word_count (terms_of tokens ns) ≤ all_count ns
  list_words [] = omega arith
  list_words (n ∷ ns) = omega (arith, node_words n, list_words ns, words_more (terms_in tokens n) (terms_of tokens ns))

  -- the term of the first node for a nonterminal has no more words than there are nodes, and one
  pub few_words : (symbol : ℕ) (ns : List Node) → length (words_in bytes (raw_below tokens symbol ns)) ≤ suc (all_count ns)
  few_words symbol ns = split (first_with symbol ns) refl
    where
      split : (o : Option Node) → first_with symbol ns ≡ o → length (words_in bytes (option_map_or (raw_of tokens) o (term_with no_token []))) ≤ suc (all_count ns)
      split None is = let one = words_with no_token [] in omega (arith, one)
      split (Some n) is =
          let one = words_with (token_at tokens n) (terms_of tokens (children_of n)) in
          omega (arith, one, list_words (children_of n), count_children n, count_first symbol ns n is)

-- as many variables occur as there are words, at most
met_few : (vars found : Binders) (word : List ℕ) (o : Option ℕ) → length (met found word o).sorts ≤ length found.sorts + 1
met_few vars found word None = omega arith
met_few vars found word (Some s) = split (is_some (place_of word found.earlier))
  where
    split : (b : Bool) → length (if b then found else bound found word s).sorts ≤ length found.sorts + 1
    split true = omega arith
    split false = let more = length-append found.sorts (s ∷ []) in omega (arith, more)

pub occurring_few : (vars found : Binders) (words : List (List ℕ)) → length (occurring vars found words).sorts ≤ length found.sorts + length words
occurring_few vars found [] = omega arith
occurring_few vars found (w ∷ ws) =
    omega (arith, met_few vars found w (sort_in vars w), occurring_few vars (met found w (sort_in vars w)) ws)

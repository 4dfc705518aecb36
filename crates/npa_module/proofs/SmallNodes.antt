-- The terms of a module text have no more words than its limits allow symbols.
use Rattle.std.proofs.Common.{◌≡◌, ℕ, ◌+◌, ◌≤◌, ◌==◌, ◌||◌, Bool, true, false, cond, List, [], ◌∷◌, ◌++◌, Some, map, refl, ap, sym, ◌∙◌, subst, arith, Contains}
use Rattle.std.specs.Prelude.{get_or}
use Rattle.npa_syntax.specs.declared.node.Node.{Node, Node', Row_of-Node, end_of-Node, more_of-Node, items-the_row-Node}
use Rattle.npa_syntax.specs.Nodes.{symbol_of, head_of, children_of, first_with}
use Rattle.npa_syntax.proofs.Folds.{children_made}
use Rattle.npa_syntax.proofs.Heads.{IsInside, member, deeper, has_row, node_row}
use Rattle.npa_text.specs.declared.symbols.TheConstants as symbol
use Rattle.npa_text.specs.declared.token.Token.{Token}
use Rattle.npa_text.specs.declared.token.Raw.{Raw}
use Rattle.npa_text.specs.Languages.{module_language}
use Rattle.npa_text.specs.Parses.{IsParse, terminals_of}
use Rattle.npa_text.specs.Raws.{token_at, terms_in, terms_of, raw_of}
use Rattle.npa_text.proofs.RawLaws.{terms_at}
use Rattle.npa_reading.specs.Trees.{all_with, listed, after}
use Rattle.npa_limits.specs.Limits.{total, sizes, sizes_of}
use Rattle.npa_limits.proofs.LimitLaws.{total_at}
use Rattle.npa_sig.proofs.Sized.{sum_of, raw_count, raw_count_with}
use Rattle.npa_module.proofs.Formed.{EachOf}
use Rattle.npa_module.proofs.AimParts.{number_is}
use Rattle.npa_module.proofs.ItemNames.{inside_tail}

-- ## Sums

total_both : (ns ms : List ℕ) → total (ns ++ ms) ≡ total ns + total ms
total_both [] ms = omega arith
total_both (n ∷ ns) ms = omega (arith, total_both ns ms)

-- the sizes of nodes one behind another
pub total_nodes : (n : Node) (ns : List Node) → total (sizes_of (n ∷ ns)) ≡ total (sizes n) + total (sizes_of ns)
total_nodes n ns = total_both (sizes n) (sizes_of ns)

abbrev pub raws_count : List Raw → ℕ
raws_count raws = sum_of (map raw_count raws)

raws_both : (raws more : List Raw) → raws_count (raws ++ more) ≡ raws_count raws + raws_count more
raws_both [] more = omega arith
raws_both (r ∷ raws) more = omega (arith, raws_both raws more)

-- ## Nodes of a module text

-- each of the nodes, and each below them, applies a production of module texts
abbrev pub AreApplied : List Node → Type 0
AreApplied ns = (m : Node) → IsInside m ns → has_row module_language.productions (symbol_of m) (head_of m).kind ≡ true

pub applied_parse : (bytes : List ℕ) (tokens : List Token) (nodes : List Node) → IsParse module_language bytes tokens nodes → AreApplied nodes
applied_parse bytes tokens nodes parse m i = (node_row module_language (terminals_of bytes tokens) nodes parse.text m i).0

pub row_first : (n : Node) (ns : List Node) → AreApplied (n ∷ ns) → has_row module_language.productions (symbol_of n) (head_of n).kind ≡ true
row_first n ns applied = applied n (member (n ∷ ns) (0, omega arith, refl))

none_ground : (kind : ℕ) → has_row module_language.productions symbol.GROUND kind ≡ false
unfolding module_language
none_ground kind = refl

-- none is for a ground term of a run
not_ground : (n : Node) (ns : List Node) → AreApplied (n ∷ ns) → (symbol_of n == symbol.GROUND) ≡ false
not_ground n ns applied = split (symbol_of n == symbol.GROUND) refl
  where
    split : (b : Bool) → (symbol_of n == symbol.GROUND) ≡ b → b ≡ false
    split false is = refl
    split true is =
        let same : symbol_of n ≡ symbol.GROUND = number_is (symbol_of n) symbol.GROUND is in
        let clash : true ≡ false = sym (row_first n ns applied) ∙ ap (λ (x : ℕ). has_row module_language.productions x (head_of n).kind) same ∙ none_ground (head_of n).kind in
        clash

pub applied_kids : (n : Node) (ns : List Node) → AreApplied (n ∷ ns) → AreApplied (children_of n)
applied_kids n ns applied m i = applied m (deeper (n ∷ ns) n (0, omega arith, refl) i)

pub applied_rest : (n : Node) (ns : List Node) → AreApplied (n ∷ ns) → AreApplied ns
applied_rest n ns applied m i = applied m (inside_tail n m ns i)

pub equal_is : (i j : ℕ) → i ≡ j → (i == j) ≡ true
equal_is i j q = grind arith

first_of : (n m : Node) (ns : List Node) → Contains (n ∷ []) m → Contains (n ∷ ns) m
first_of n m ns h = let lt = h.1 in let at : h.0 ≡ 0 = omega (arith, lt) in (0, omega arith, sym (ap (λ k. get_or (n ∷ []) k m) at) ∙ h.2)

pub applied_one : (n : Node) (ns : List Node) → AreApplied (n ∷ ns) → AreApplied (n ∷ [])
applied_one n ns applied m (member nodes h) = applied m (member (n ∷ ns) (first_of n m ns h))
applied_one n ns applied m (deeper nodes x h i) = applied m (deeper (n ∷ ns) x (first_of n x ns h) i)

-- ## Terms

module _ (tokens : List Token) where
  node_split : (n : Node) → (symbol_of n == symbol.GROUND) ≡ false → raws_count (terms_of tokens (children_of n)) ≤ total (sizes_of (children_of n)) → raws_count (terms_in tokens n) ≤ total (sizes n)
  node_split n applied inner =
      subst (λ (rs : List Raw). raws_count rs ≤ total (sizes n)) (sym (terms_at tokens n))
      (split (symbol_of n == symbol.TERM) (symbol_of n == symbol.GROUND) applied (total_at n))
    where
      split : (b c : Bool) → c ≡ false → total (sizes n) ≡ cond b 1 0 + total (sizes_of (children_of n)) → raws_count (cond (b || c) (raw_of tokens n ∷ []) (terms_of tokens (children_of n))) ≤ total (sizes n)
      split true c is whole = let one = raw_count_with (token_at tokens n) (terms_of tokens (children_of n)) in omega (arith, one, inner, whole)
      split false false is whole = omega (arith, inner, whole)
      split false true is whole = absurd (cc)

  mutual
    node_words : (n : Node) → AreApplied (n ∷ []) → raws_count (terms_in tokens n) ≤ total (sizes n)
    node_words (Node' symbol head shape row) applied =
        let made = children_made symbol head shape row in
        let below_ : AreApplied (children_of (Node' symbol head shape row)) = applied_kids (Node' symbol head shape row) [] applied in
        let kids = row_words row (subst AreApplied made below_) in
        let inner : raws_count (terms_of tokens (children_of (Node' symbol head shape row))) ≤ total (sizes_of (children_of (Node' symbol head shape row))) =
        subst (λ (ns : List Node). raws_count (terms_of tokens ns) ≤ total (sizes_of ns)) (sym made) kids in
        node_split (Node' symbol head shape row) (not_ground (Node' symbol head shape row) [] applied) inner

    row_words : {m : _} (k : Row_of-Node m) → AreApplied (items-the_row-Node m k) → raws_count (terms_of tokens (items-the_row-Node m k)) ≤ total (sizes_of (items-the_row-Node m k))
    row_words end_of-Node applied = omega arith
    row_words (more_of-Node n rest) applied =
        let one : AreApplied (n ∷ []) = applied_one n (items-the_row-Node _ rest) applied in
        omega (arith, node_words n one, row_words rest (applied_rest n (items-the_row-Node _ rest) applied), raws_both (terms_in tokens n) (terms_of tokens (items-the_row-Node _ rest)), total_nodes n (items-the_row-Node _ rest))

  list_words : (ns : List Node) → AreApplied ns → raws_count (terms_of tokens ns) ≤ total (sizes_of ns)
  list_words [] applied = omega arith
  list_words (n ∷ ns) applied =
      omega (arith, node_words n (applied_one n ns applied), list_words ns (applied_rest n ns applied), raws_both (terms_in tokens n) (terms_of tokens ns), total_nodes n ns)

  -- the term of a node for one has no more words than that node's size
  pub term_words : (n : Node) → AreApplied (n ∷ []) → symbol_of n ≡ symbol.TERM → raw_count (raw_of tokens n) ≤ total (sizes n)
  term_words n applied is =
      let one = raw_count_with (token_at tokens n) (terms_of tokens (children_of n)) in
      let whole : total (sizes n) ≡ cond (symbol_of n == symbol.TERM) 1 0 + total (sizes_of (children_of n)) = total_at n in
      let yes : (symbol_of n == symbol.TERM) ≡ true = equal_is (symbol_of n) symbol.TERM is in
      let more : total (sizes n) ≡ 1 + total (sizes_of (children_of n)) = whole ∙ ap (λ b. cond b 1 0 + total (sizes_of (children_of n))) yes in
      omega (arith, one, list_words (children_of n) (applied_kids n [] applied), more)

-- ## What is true of nodes and of those below them

-- the first node for a nonterminal
pub record IsFirstFor (P : Node → Type 0) (s : ℕ) (n : Node) : Type 0 where
  pub is : P n
  pub symbol_is : symbol_of n ≡ s

each_both : {A : Type 0} (P : A → Type 0) (xs ys : List A) → EachOf P xs → EachOf P ys → EachOf P (xs ++ ys)
each_both P [] ys first second = second
each_both P (x ∷ xs) ys first second = (first.0, each_both P xs ys first.1 second)

module _ (P : Node → Type 0) (kids : (n : Node) → P n → EachOf P (children_of n)) where
  pub each_with : (s : ℕ) (ns : List Node) → EachOf P ns → EachOf (IsFirstFor P s) (all_with s ns)
  each_with s [] each = tt
  each_with s (n ∷ ns) each = split (symbol_of n == s) refl (each_with s ns each.1)
    where
      split : (b : Bool) → (symbol_of n == s) ≡ b → EachOf (IsFirstFor P s) (all_with s ns) → EachOf (IsFirstFor P s) (cond b (n ∷ all_with s ns) (all_with s ns))
      split true is rest = (record { is = each.0; symbol_is = number_is (symbol_of n) s is }, rest)
      split false is rest = rest

  pub each_listed : (s next : ℕ) (ns : List Node) → EachOf P ns → EachOf (IsFirstFor P s) (listed s next ns)
  each_listed s next [] each = tt
  each_listed s next (n ∷ ns) each = split (symbol_of n == s) refl (symbol_of n == next) (each_listed s next ns each.1)
    where
      split : (b : Bool) → (symbol_of n == s) ≡ b → (c : Bool) → EachOf (IsFirstFor P s) (listed s next ns) →
          EachOf (IsFirstFor P s) (cond b (n ∷ listed s next ns) (cond c (all_with s (children_of n) ++ listed s next ns) (listed s next ns)))
      split true is c rest = (record { is = each.0; symbol_is = number_is (symbol_of n) s is }, rest)
      split false is true rest = each_both (IsFirstFor P s) (all_with s (children_of n)) (listed s next ns) (each_with s (children_of n) (kids n each.0)) rest
      split false is false rest = rest

  pub each_after : (s : ℕ) (ns : List Node) → EachOf P ns → EachOf P (after s ns)
  each_after s [] each = tt
  each_after s (n ∷ ns) each = split (symbol_of n == s) (each_after s ns each.1)
    where
      split : (b : Bool) → EachOf P (after s ns) → EachOf P (cond b ns (after s ns))
      split true rest = each.1
      split false rest = rest

  pub one_first : (s : ℕ) (ns : List Node) (n : Node) → EachOf P ns → first_with s ns ≡ Some n → IsFirstFor P s n
  one_first s [] n each e = absurd (cc)
  one_first s (m ∷ ns) n each e = split (symbol_of m == s) refl (λ q. one_first s ns n each.1 q) e
    where
      split : (b : Bool) → (symbol_of m == s) ≡ b → (first_with s ns ≡ Some n → IsFirstFor P s n) → cond b (Some m) (first_with s ns) ≡ Some n → IsFirstFor P s n
      split true is rest q = let same : m ≡ n = cc in subst (IsFirstFor P s) same (record { is = each.0; symbol_is = number_is (symbol_of m) s is })
      split false is rest q = rest q

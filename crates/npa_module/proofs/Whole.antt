-- A module is made of what its items declare.
use Rattle.std.proofs.Common.{◌≡◌, ℕ, ◌≤◌, List, Result, length, ap, sym, ◌∙◌, arith, Bor}
use Rattle.std.proofs.lemmas.List.{length-map}
use Rattle.npa_syntax.specs.declared.node.Node.{Node}
use Rattle.npa_text.specs.declared.token.Token.{Token}
use Rattle.npa_text.specs.declared.symbols.TheConstants as symbol
use Rattle.npa_module.specs.declared.source.ReadError.{ReadError}
use Rattle.npa_module.specs.declared.draft.Draft.{Draft}
use Rattle.npa_reading.specs.Trees.{all_with, below, word_of, seen}
use Rattle.npa_module.specs.Drafts.{nothing}
use Rattle.npa_limits.specs.Later.{items_of}
use Rattle.npa_module.specs.Items.{items_read, fresh_nodes}
use Rattle.npa_reading.specs.Reading.{then_read}
use Rattle.npa_module.specs.Modules.{source_of, finished}

pub tree_read : (bytes : List ℕ) (tokens : List Token) (nodes inside items : List Node) (r : Result Draft ReadError) (name word : List ℕ) →
    inside ≡ below symbol.MODULE nodes → items ≡ all_with symbol.ITEM inside → name ≡ word → word ≡ word_of bytes tokens symbol.PROTOCOL_NAME inside →
    items_read bytes tokens nothing items ≡ r → source_of bytes tokens nodes ≡ then_read (finished name) r
tree_read bytes tokens nodes inside items r name word i j n w found =
    let whole : word_of bytes tokens symbol.PROTOCOL_NAME (below symbol.MODULE nodes) ≡ name = ap (word_of bytes tokens symbol.PROTOCOL_NAME) (sym i) ∙ sym (n ∙ w) in
    let all : items_read bytes tokens nothing (items_of nodes) ≡ r = ap (items_read bytes tokens nothing) (sym (j ∙ ap (all_with symbol.ITEM) i)) ∙ found in
    ap (then_read (finished (word_of bytes tokens symbol.PROTOCOL_NAME (below symbol.MODULE nodes)))) all
    ∙ ap (λ (x : List ℕ). then_read (finished x) r) whole

-- fresh values are as many as their nodes
pub few_fresh : (names : List (List ℕ)) (slice items : List (Bor Node)) (inside nodes : List Node) → length names ≡ length slice → slice ≡ items →
    seen items ≡ all_with symbol.FRESH_VALUE inside → inside ≡ below symbol.FRESH_VALUES nodes → length (fresh_nodes nodes) ≤ 65535 → length names ≤ 65535
few_fresh names slice items inside nodes many same found below_is few =
    let counted : length names ≡ length (fresh_nodes nodes) =
    many ∙ ap length same ∙ sym (length-map items (λ n. n.now)) ∙ ap length (found ∙ ap (all_with symbol.FRESH_VALUE) below_is) in
    omega (arith, counted, few)

-- The variables that occur in terms one behind another.
use Rattle.std.proofs.Common.{◌≡◌, ℕ, ◌+◌, ◌<◌, List, [], ◌∷◌, ◌++◌, Result, Ok, Err, map, drop, get_or, length, drop-cons, add-one, refl, ap, sym, ◌∙◌}
use Rattle.std.specs.Prelude.{IfOk}
use Rattle.std.specs.declared.alloc.AllocError.{AllocError}
use Rattle.npa_syntax.specs.declared.node.Node.{Node}
use Rattle.npa_syntax.specs.Nodes.{children_of}
use Rattle.npa_text.specs.declared.symbols.TheConstants as symbol
use Rattle.npa_text.specs.declared.token.Token.{Token}
use Rattle.npa_text.specs.declared.token.Raw.{Raw, out-Raw}
use Rattle.npa_text.specs.declared.token.Raw.TheFolds.{fold_out-Raw}
use Rattle.npa_text.specs.Raws.{token_at}
use Rattle.npa_text.specs.Texts.{text_of}
use Rattle.npa_sig.specs.declared.meaning.Scoped.{Scoped}
use Rattle.npa_module.specs.declared.source.ReadError.{ReadError}
use Rattle.npa_module.specs.declared.draft.Draft.{Draft}
use Rattle.npa_module.specs.declared.scopes.Binders.{Binders}
use Rattle.npa_reading.specs.Trees.{word_at, first_token}
use Rattle.npa_reading.specs.Reading.{told_if, then_read}
use Rattle.npa_module.specs.Refusals.{name_refusal}
use Rattle.npa_module.specs.Items.{joined, unbound, bound, is_taken, scope_from, scope_of, numbered, sort_in, met, occurring, words_in, one_sort_read, variable_read, variables_read}
use Rattle.npa_module.proofs.Growth.{ok_unless, ok_then, ok_is}

-- the words of a term: its first one, and those of its arguments
pub words_at : (bytes : List ℕ) (raw : Raw) → words_in bytes raw ≡ text_of bytes (out-Raw raw).head ∷ joined (map (words_in bytes) (out-Raw raw).args)
words_at bytes raw = fold_out-Raw (List (List ℕ)) (λ layer. text_of bytes layer.head ∷ joined layer.args) raw

pub occurring_append : (vars found : Binders) (ws more : List (List ℕ)) → occurring vars found (ws ++ more) ≡ occurring vars (occurring vars found ws) more
occurring_append vars found [] more = refl
occurring_append vars found (w ∷ ws) more = occurring_append vars (met found w (sort_in vars w)) ws more

pub words_step : (vars found : Binders) (bytes : List ℕ) (args : List Raw) (i : ℕ) (d : Raw) → i < length args →
    occurring vars found (joined (map (words_in bytes) (drop i args))) ≡ occurring vars (occurring vars found (words_in bytes (get_or args i d))) (joined (map (words_in bytes) (drop (i + 1) args)))
words_step vars found bytes args i d l =
    let first : drop i args ≡ get_or args i d ∷ drop (i + 1) args = rw (drop-cons args i d, add-one) refl in
    ap (λ (rs : List Raw). occurring vars found (joined (map (words_in bytes) rs))) first
    ∙ occurring_append vars found (words_in bytes (get_or args i d)) (joined (map (words_in bytes) (drop (i + 1) args)))

-- the variables of both sides, one side after the other
pub both_sides : (bytes : List ℕ) (vars : Binders) (left right : Raw) (none first second : Binders) (names : List (List ℕ)) (sorts : List ℕ) (r : Result (List Scoped) AllocError) →
    none ≡ unbound → first ≡ occurring vars none (words_in bytes left) → second ≡ occurring vars first (words_in bytes right) → names ≡ second.names → sorts ≡ second.sorts →
    IfOk r (λ scope. scope ≡ scope_from 0 names sorts) → IfOk r (λ scope. scope ≡ numbered bytes vars left right)
both_sides bytes vars left right none first second names sorts (Err x) n f s e g made = tt
both_sides bytes vars left right none first second names sorts (Ok scope) n f s e g made =
    let whole : second ≡ occurring vars unbound (words_in bytes left ++ words_in bytes right) =
    s ∙ ap (λ (b : Binders). occurring vars b (words_in bytes right)) (f ∙ ap (λ (b : Binders). occurring vars b (words_in bytes left)) n)
    ∙ sym (occurring_append vars unbound (words_in bytes left) (words_in bytes right)) in
    made ∙ ap (λ (ns : List (List ℕ)). scope_from 0 ns sorts) e ∙ ap (λ (ss : List ℕ). scope_from 0 second.names ss) g ∙ ap scope_of whole

-- ## Where no other names stand before an item's variables

abbrev answered : Binders → Result Binders ReadError
answered b = Ok b

module _ (bytes : List ℕ) (tokens : List Token) (d : Draft) where
  variable_alone : (b c : Binders) (n : Node) → variable_read bytes tokens d b n ≡ Ok c → b.earlier ≡ b.names → c.earlier ≡ c.names
  variable_alone b c n e alone =
      let word : List ℕ = word_at bytes tokens n in
      let sort : Token = first_token tokens symbol.VARIABLE_SORT (children_of n) in
      let inner : then_read (λ s. answered (bound b (word_at bytes tokens n) s)) (one_sort_read bytes d.sorts sort) ≡ Ok c =
      ok_unless (told_if (is_taken d.sig b.earlier (word_at bytes tokens n)) (name_refusal bytes (token_at tokens n)))
      (then_read (λ s. answered (bound b (word_at bytes tokens n) s)) (one_sort_read bytes d.sorts sort)) c e in
      let s = ok_then (λ s. answered (bound b (word_at bytes tokens n) s)) (one_sort_read bytes d.sorts sort) c inner in
      let same : bound b word s.value ≡ c = ok_is (bound b word s.value) c s.gives in
      sym (ap (λ (x : Binders). x.earlier) same) ∙ ap (λ (ns : List (List ℕ)). ns ++ word ∷ []) alone ∙ ap (λ (x : Binders). x.names) same

  pub variables_alone : (ns : List Node) (b c : Binders) → variables_read bytes tokens d b ns ≡ Ok c → b.earlier ≡ b.names → c.earlier ≡ c.names
  variables_alone [] b c e alone = let same : b ≡ c = ok_is b c e in sym (ap (λ (x : Binders). x.earlier) same) ∙ alone ∙ ap (λ (x : Binders). x.names) same
  variables_alone (n ∷ ns) b c e alone =
      let v = ok_then (λ m. variables_read bytes tokens d m ns) (variable_read bytes tokens d b n) c e in
      variables_alone ns v.value c v.gives (variable_alone b v.value n v.is alone)

-- Each item that is read keeps the limits of symbols.
use Rattle.std.proofs.Common.{◌≡◌, ℕ, ◌+◌, ◌≤◌, ◌==◌, ◌||◌, Bool, true, false, cond, List, [], ◌∷◌, ◌++◌, Option, None, Some, Result, Ok, Err, map, is_some, refl, ap, sym, ◌∙◌, subst, arith, Contains, ◌⊎◌, ⊎_elim, inl, inr, zero, suc}
use Rattle.std.specs.Prelude.{slice_get}
use Rattle.std.specs.Option.{option_map_or}
use Rattle.npa_syntax.specs.declared.node.Node.{Node}
use Rattle.npa_syntax.specs.Nodes.{symbol_of, children_of, first_with}
use Rattle.npa_syntax.specs.Languages.{rules_in}
use Rattle.npa_syntax.specs.Tables.{one}
use Rattle.npa_syntax.proofs.Folds.{fold_node_at}
use Rattle.npa_syntax.proofs.Heads.{has_row}
use Rattle.npa_text.specs.declared.symbols.TheConstants as symbol
use Rattle.npa_text.specs.declared.terminals.TheConstants as terminal
use Rattle.npa_text.specs.declared.token.Token.{Token}
use Rattle.npa_text.specs.declared.token.Raw.{Raw}
use Rattle.npa_text.specs.Languages.{module_language}
use Rattle.npa_text.specs.Parses.{IsParse}
use Rattle.npa_text.specs.Raws.{no_token, term_with, raw_of}
use Rattle.npa_text.specs.Texts.{text_of, number_of as number_in}
use Rattle.npa_names.specs.Names.{place_of}
use Rattle.npa_reading.specs.Reading.{told_if, then_read, in_front, all_read}
use Rattle.npa_reading.specs.Trees.{all_with, listed, below, after, kind_of, first_token, raw_below}
use Rattle.npa_limits.specs.Limits.{total, sizes, sizes_over, sizes_of, is_known}
use Rattle.npa_limits.specs.Later.{items_of}
use Rattle.npa_limits.proofs.LimitLaws.{total_at}
use Rattle.npa_term.specs.declared.term.Term.{Term}
use Rattle.npa_term.specs.Symbols.{symbol_count, all_count}
use Rattle.npa_term.proofs.Parts.{only_member}
use Rattle.npa_sig.specs.declared.meaning.Scoped.{Scoped}
use Rattle.npa_sig.specs.declared.protocol.Equation.{Equation}
use Rattle.npa_sig.specs.declared.protocol.Event.{Event}
use Rattle.npa_sig.specs.declared.protocol.Strand.{Strand}
use Rattle.npa_sig.specs.Meaning.{read}
use Rattle.npa_sig.specs.Parameters.{param_sorts}
use Rattle.npa_sig.specs.Rules.{IsSmallEquation, IsSmallStrand}
use Rattle.npa_sig.specs.Signature.{Signature}
use Rattle.npa_sig.proofs.Sized.{sum_of, raw_count, raw_count_with, few_symbols}
use Rattle.npa_model.specs.declared.aim.Part.{Part}
use Rattle.npa_model.specs.declared.aim.Aim.{Aim}
use Rattle.npa_model.specs.Accepted.{part_terms}
use Rattle.npa_model.specs.Rules.{IsSmallAim}
use Rattle.npa_module.specs.declared.draft.Draft.{Draft}
use Rattle.npa_module.specs.declared.scopes.Binders.{Binders}
use Rattle.npa_module.specs.declared.source.ReadError.{ReadError}
use Rattle.npa_module.specs.Drafts.{strand_number}
use Rattle.npa_module.specs.Refusals.{name_refusal}
use Rattle.npa_module.specs.Items.{unbound, behind, occurring, words_in, equation_with, right_read, equation_over, one_equation_read, scope_of, parameters, variable_nodes, fresh_nodes, event_nodes, part_nodes, parameter_nodes, fresh_read, variables_read, term_read, message_read, event_with, event_read, events_read, strand_with, strand_over, strand_behind, one_strand_read, argument_fault, argument_read, arguments_read, strand_part_with, strand_part_over, strand_part_at, strand_part_read, known_part, part_read, parts_read, aim_with, aim_over, one_aim_read}
use Rattle.npa_module.proofs.AimParts.{Somewhere, IsNode, each_node, number_is}
use Rattle.npa_module.proofs.Formed.{EachOf, ok_is, each_member, read_ok}
use Rattle.npa_module.proofs.Growth.{ok_unless, ok_then}
use Rattle.npa_module.proofs.ItemNames.{first_there, has_piece, pieces}
use Rattle.npa_module.proofs.PlainItems.{message_term}
use Rattle.npa_module.proofs.SmallNodes.{AreApplied, row_first, equal_is, applied_kids, applied_parse, each_with, applied_rest, applied_one, total_nodes, term_words, IsFirstFor, each_listed, each_after, one_first}

-- ## Terms of at most 1,024 symbols

abbrev AreLow : List ℕ → Type 0
AreLow ns = EachOf (λ n. n ≤ 1024) ns

pub low_from : (ns : List ℕ) → ((k n : ℕ) → slice_get ns k ≡ Some n → n ≤ 1024) → AreLow ns
low_from [] each = tt
low_from (n ∷ ns) each = (each 0 n refl, low_from ns (λ k m e. each (suc k) m e))

low_first : (ms ns : List ℕ) → AreLow (ms ++ ns) → AreLow ms
low_first [] ns low = tt
low_first (m ∷ ms) ns low = (low.0, low_first ms ns low.1)

low_second : (ms ns : List ℕ) → AreLow (ms ++ ns) → AreLow ns
low_second [] ns low = low
low_second (m ∷ ms) ns low = low_second ms ns low.1

low_total : (ns : List ℕ) → total ns ≤ 1024 → AreLow ns
low_total [] few = tt
low_total (n ∷ ns) few = (omega (arith, few), low_total ns (omega (arith, few)))

-- the sizes of a node by those of its children
sizes_by : (n : Node) → sizes n ≡ cond (symbol_of n == symbol.TERM) ((1 + total (sizes_of (children_of n))) ∷ []) (sizes_of (children_of n))
sizes_by n = fold_node_at sizes_over n

-- each term of the node is of at most 1,024 symbols, and no ground term of a run stands in it
pub record IsSmall (n : Node) : Type 0 where
  low : AreLow (sizes n)
  applied : AreApplied (n ∷ [])

pub each_small : (ns : List Node) → AreLow (sizes_of ns) → AreApplied ns → EachOf IsSmall ns
each_small [] low applied = tt
each_small (n ∷ ns) low applied =
    (record { low = low_first (sizes n) (sizes_of ns) low; applied = applied_one n ns applied }, each_small ns (low_second (sizes n) (sizes_of ns) low) (applied_rest n ns applied))

kids_small : (n : Node) → IsSmall n → EachOf IsSmall (children_of n)
kids_small n small = each_small (children_of n) (split (symbol_of n == symbol.TERM) (subst AreLow (sizes_by n) small.low)) (applied_kids n [] small.applied)
  where
    split : (b : Bool) → AreLow (cond b ((1 + total (sizes_of (children_of n))) ∷ []) (sizes_of (children_of n))) → AreLow (sizes_of (children_of n))
    split true low = let one = low.0 in low_total (sizes_of (children_of n)) (omega (arith, one))
    split false low = low

term_total : (n : Node) → symbol_of n ≡ symbol.TERM → AreLow (sizes n) → total (sizes n) ≤ 1024
term_total n is low =
    let shape : sizes n ≡ (1 + total (sizes_of (children_of n))) ∷ [] = sizes_by n ∙ ap (λ b. cond b ((1 + total (sizes_of (children_of n))) ∷ []) (sizes_of (children_of n))) (equal_is (symbol_of n) symbol.TERM is) in
    let one = (subst AreLow shape low).0 in
    let whole : total (sizes n) ≡ (1 + total (sizes_of (children_of n))) + 0 = ap total shape in
    omega (arith, one, whole)

-- what is read off each of these nodes
each_of : {B : Type 0} (P : Node → Type 0) (Q : B → Type 0) (f : Node → Result B ReadError) (ns : List Node) (xs : List B) → EachOf P ns →
    ((n : Node) (x : B) → P n → f n ≡ Ok x → Q x) → all_read (map f ns) ≡ Ok xs → EachOf Q xs
each_of P Q f [] xs each good e = let q : [] ≡ xs = cc in subst (EachOf Q) q tt
each_of {B} P Q f (n ∷ ns) xs each good e = split (f n) (all_read (map f ns)) refl (λ ys q. each_of P Q f ns ys each.1 good q) e
  where
    split : (r : Result B ReadError) (o : Result (List B) ReadError) → f n ≡ r → ((ys : List B) → o ≡ Ok ys → EachOf Q ys) → in_front r o ≡ Ok xs → EachOf Q xs
    split (Ok x) (Ok ys) is rest q = let same : x ∷ ys ≡ xs = cc in subst (EachOf Q) same (good n x each.0 is, rest ys refl)
    split (Ok x) (Err y) is rest q = absurd (cc)
    split (Err x) o is rest q = absurd (cc)

-- ## Sums over nodes

total_kids : (n : Node) → total (sizes_of (children_of n)) ≤ total (sizes n)
total_kids n = split (symbol_of n == symbol.TERM) (total_at n)
  where
    split : (b : Bool) → total (sizes n) ≡ cond b 1 0 + total (sizes_of (children_of n)) → total (sizes_of (children_of n)) ≤ total (sizes n)
    split true e = omega (arith, e)
    split false e = omega (arith, e)

total_first : (s : ℕ) (ns : List Node) (n : Node) → first_with s ns ≡ Some n → total (sizes n) ≤ total (sizes_of ns)
total_first s [] n e = absurd (cc)
total_first s (m ∷ ns) n e = split (symbol_of m == s) (λ q. total_first s ns n q) e
  where
    split : (b : Bool) → (first_with s ns ≡ Some n → total (sizes n) ≤ total (sizes_of ns)) → cond b (Some m) (first_with s ns) ≡ Some n → total (sizes n) ≤ total (sizes_of (m ∷ ns))
    split true rest q = let same : m ≡ n = cc in let one : total (sizes m) ≡ total (sizes n) = ap (λ x. total (sizes x)) same in omega (arith, one, total_nodes m ns)
    split false rest q = omega (arith, rest q, total_nodes m ns)

total_append : (ms ns : List Node) → total (sizes_of (ms ++ ns)) ≡ total (sizes_of ms) + total (sizes_of ns)
total_append [] ns = omega arith
total_append (m ∷ ms) ns = omega (arith, total_nodes m (ms ++ ns), total_nodes m ms, total_append ms ns)

total_with : (s : ℕ) (ns : List Node) → total (sizes_of (all_with s ns)) ≤ total (sizes_of ns)
total_with s [] = omega arith
total_with s (n ∷ ns) = split (symbol_of n == s) (total_with s ns)
  where
    split : (b : Bool) → total (sizes_of (all_with s ns)) ≤ total (sizes_of ns) → total (sizes_of (cond b (n ∷ all_with s ns) (all_with s ns))) ≤ total (sizes_of (n ∷ ns))
    split true rest = omega (arith, rest, total_nodes n ns, total_nodes n (all_with s ns))
    split false rest = omega (arith, rest, total_nodes n ns)

total_listed : (s next : ℕ) (ns : List Node) → total (sizes_of (listed s next ns)) ≤ total (sizes_of ns)
total_listed s next [] = omega arith
total_listed s next (n ∷ ns) = split (symbol_of n == s) (symbol_of n == next) (total_listed s next ns)
  where
    split : (b c : Bool) → total (sizes_of (listed s next ns)) ≤ total (sizes_of ns) →
        total (sizes_of (cond b (n ∷ listed s next ns) (cond c (all_with s (children_of n) ++ listed s next ns) (listed s next ns)))) ≤ total (sizes_of (n ∷ ns))
    split true c rest = omega (arith, rest, total_nodes n ns, total_nodes n (listed s next ns))
    split false true rest = omega (arith, rest, total_nodes n ns, total_append (all_with s (children_of n)) (listed s next ns), total_with s (children_of n), total_kids n)
    split false false rest = omega (arith, rest, total_nodes n ns)

-- ## Nodes of a module text

-- a node of a module text
pub record IsTree (n : Node) : Type 0 where
  pub node : IsNode (rules_in module_language) n
  pub applied : AreApplied (n ∷ [])

pub each_tree : (ns : List Node) → EachOf (IsNode (rules_in module_language)) ns → AreApplied ns → EachOf IsTree ns
each_tree [] each applied = tt
each_tree (n ∷ ns) each applied = (record { node = each.0; applied = applied_one n ns applied }, each_tree ns each.1 (applied_rest n ns applied))

pub tree_kids : (n : Node) → IsTree n → EachOf IsTree (children_of n)
tree_kids n is = each_tree (children_of n) (each_node is.node.spells) (applied_kids n [] is.applied)

-- ## An event has a term

term_needed_plus : (room : ℕ) → rules_in module_language (record { symbol = symbol.EVENT; room = room }) terminal.PLUS ≡ Some (pieces room [] (one symbol.TERM) [])
unfolding module_language
term_needed_plus zero = refl
term_needed_plus (suc room) = refl

term_needed_minus : (room : ℕ) → rules_in module_language (record { symbol = symbol.EVENT; room = room }) terminal.MINUS ≡ Some (pieces room [] (one symbol.TERM) [])
unfolding module_language
term_needed_minus zero = refl
term_needed_minus (suc room) = refl

event_begins : (kind : ℕ) → has_row module_language.productions symbol.EVENT kind ≡ true → (kind ≡ terminal.PLUS) ⊎ (kind ≡ terminal.MINUS)
unfolding module_language
event_begins kind e = either_number kind e
  where
    either_number : (kind : ℕ) → ((terminal.PLUS == kind) || ((terminal.MINUS == kind) || false)) ≡ true → (kind ≡ terminal.PLUS) ⊎ (kind ≡ terminal.MINUS)
    either_number kind q = split (terminal.PLUS == kind) refl (terminal.MINUS == kind) refl q
      where
        split : (b : Bool) → (terminal.PLUS == kind) ≡ b → (c : Bool) → (terminal.MINUS == kind) ≡ c → (b || (c || false)) ≡ true → (kind ≡ terminal.PLUS) ⊎ (kind ≡ terminal.MINUS)
        split true is c js r = inl (sym (number_is terminal.PLUS kind is))
        split false is true js r = inr (sym (number_is terminal.MINUS kind js))
        split false is false js r = absurd (cc)

event_term : (n : Node) → IsNode (rules_in module_language) n → has_row module_language.productions (symbol_of n) (kind_of n) ≡ true → symbol_of n ≡ symbol.EVENT → Somewhere symbol.TERM (children_of n)
event_term n is row symbol_is =
    let begins : has_row module_language.productions symbol.EVENT (kind_of n) ≡ true = ap (λ (x : ℕ). has_row module_language.productions x (kind_of n)) (sym symbol_is) ∙ row in
    ⊎_elim
    (λ plus. has_piece n is symbol.EVENT terminal.PLUS symbol_is plus [] (one symbol.TERM) [] term_needed_plus refl)
    (λ minus. has_piece n is symbol.EVENT terminal.MINUS symbol_is minus [] (one symbol.TERM) [] term_needed_minus refl)
    (event_begins (kind_of n) begins)

module _ (bytes : List ℕ) (tokens : List Token) where
  raw_small : (s : ℕ) (ns : List Node) → s ≡ symbol.TERM → EachOf IsSmall ns → raw_count (raw_below tokens s ns) ≤ 1024
  raw_small s ns term each = split (first_with s ns) refl
    where
      split : (o : Option Node) → first_with s ns ≡ o → raw_count (option_map_or (raw_of tokens) o (term_with no_token [])) ≤ 1024
      split None is = let one = raw_count_with no_token [] in omega (arith, one)
      split (Some n) is =
          let f = one_first IsSmall kids_small s ns n each is in
          let whole = term_total n (f.symbol_is ∙ term) f.is.low in
          omega (arith, term_words tokens n f.is.applied (f.symbol_is ∙ term), whole)

  term_small : (sig : Signature) (scope : List Scoped) (ns : List Node) (t : Term) → EachOf IsSmall ns → term_read bytes sig scope (raw_below tokens symbol.TERM ns) ≡ Ok t → symbol_count t ≤ 1024
  term_small sig scope ns t each e =
      let raw : Raw = raw_below tokens symbol.TERM ns in
      let few = few_symbols sig scope bytes (raw_below tokens symbol.TERM ns) t (read_ok (read sig scope bytes (raw_below tokens symbol.TERM ns)) t e) in
      omega (arith, few, raw_small symbol.TERM ns refl each)

  -- ## An equation

  pub equation_small : (d : Draft) (nodes : List Node) (equation : Equation) → EachOf IsSmall nodes → one_equation_read bytes tokens d nodes ≡ Ok equation → IsSmallEquation equation
  equation_small d nodes equation each e =
      let behind_ : List Node = after symbol.EQUALS_MARK nodes in
      let left : Raw = raw_below tokens symbol.TERM nodes in
      let right : Raw = raw_below tokens symbol.TERM (after symbol.EQUALS_MARK nodes) in
      let vars = ok_then (equation_over bytes tokens d nodes) (variables_read bytes tokens d unbound (variable_nodes nodes)) equation e in
      let found : Binders = occurring vars.value unbound (words_in bytes left ++ words_in bytes right) in
      let l = ok_then (right_read bytes d.sig (scope_of found) right) (message_read bytes d.sig (scope_of found) left) equation vars.gives in
      let r = ok_then (equation_with l.value) (message_read bytes d.sig (scope_of found) right) equation l.gives in
      subst IsSmallEquation (ok_is _ equation r.gives) (record {
        left = term_small d.sig (scope_of found) nodes l.value each (message_term bytes d.sig (scope_of found) left l.value l.is);
        right = term_small d.sig (scope_of found) behind_ r.value (each_after IsSmall kids_small symbol.EQUALS_MARK nodes each) (message_term bytes d.sig (scope_of found) right r.value r.is);
      })

  -- ## An aim

  abbrev AreSmallTerms : Part → Type 0
  AreSmallTerms p = (t : Term) → Contains (part_terms p) t → symbol_count t ≤ 1024

  abbrev IsFew : Term → Type 0
  IsFew t = symbol_count t ≤ 1024

  abbrev IsSmallFor : ℕ → Node → Type 0
  IsSmallFor s n = IsFirstFor IsSmall s n

  unfirst : (s : ℕ) (ns : List Node) → EachOf (IsFirstFor IsSmall s) ns → EachOf IsSmall ns
  unfirst s [] each = tt
  unfirst s (n ∷ ns) each = (each.0.is, unfirst s ns each.1)

  -- the parameters of a part
  each_parameter : (nodes : List Node) → EachOf IsSmall nodes → EachOf IsSmall (parameter_nodes nodes)
  each_parameter nodes each = split (first_with symbol.PARAMETERS nodes) refl
    where
      split : (o : Option Node) → first_with symbol.PARAMETERS nodes ≡ o → EachOf IsSmall (option_map_or (λ n. n ∷ listed symbol.PARAMETER symbol.NEXT_PARAMETER (children_of n)) o [])
      split None is = tt
      split (Some n) is =
          let f = one_first IsSmall kids_small symbol.PARAMETERS nodes n each is in
          (f.is, unfirst symbol.PARAMETER (listed symbol.PARAMETER symbol.NEXT_PARAMETER (children_of n)) (each_listed IsSmall kids_small symbol.PARAMETER symbol.NEXT_PARAMETER (children_of n) (kids_small n f.is)))

  module _ (d : Draft) (scope : List Scoped) where
    arguments_small : (names : List (List ℕ)) (sorts : List ℕ) (nodes : List Node) (args : List Term) → EachOf IsSmall nodes → arguments_read bytes tokens d.sig scope names sorts nodes ≡ Ok args → EachOf IsFew args
    arguments_small names sorts [] args each e = let q : [] ≡ args = cc in subst (EachOf IsFew) q tt
    arguments_small [] sorts (n ∷ nodes) args each e = absurd (cc)
    arguments_small (p ∷ names) [] (n ∷ nodes) args each e = absurd (cc)
    arguments_small (p ∷ names) (s ∷ sorts) (n ∷ nodes) args each e =
        split (argument_read bytes tokens d.sig scope p s n) (arguments_read bytes tokens d.sig scope names sorts nodes) refl (λ us q. arguments_small names sorts nodes us each.1 q) e
      where
        split : (r : Result Term ReadError) (o : Result (List Term) ReadError) → argument_read bytes tokens d.sig scope p s n ≡ r →
            ((us : List Term) → o ≡ Ok us → EachOf IsFew us) → in_front r o ≡ Ok args → EachOf IsFew args
        split (Ok t) (Ok us) is rest q =
            let same : t ∷ us ≡ args = cc in
            subst (EachOf IsFew) same (term_small d.sig scope (children_of n) t (kids_small n each.0) (ok_unless (argument_fault bytes tokens d.sig scope p s n) _ t is), rest us refl)
        split (Ok t) (Err y) is rest q = absurd (cc)
        split (Err x) o is rest q = absurd (cc)

    over_small : (nodes : List Node) (k : ℕ) (p : Part) (o : Option Strand) → EachOf IsSmall nodes → strand_part_over bytes tokens d scope nodes k o ≡ Ok p → AreSmallTerms p
    over_small nodes k p None each e = absurd (cc)
    over_small nodes k p (Some strand) each e =
        let a = ok_then (strand_part_with k (number_in bytes (first_token tokens symbol.BAR nodes))) _ p (ok_unless _ _ p e) in
        subst AreSmallTerms (ok_is _ p a.gives)
        (λ t h. each_member IsFew a.value (arguments_small strand.names (param_sorts strand) (parameter_nodes nodes) a.value (each_parameter nodes each) a.is) t h)

    at_small : (nodes : List Node) (p : Part) (o : Option ℕ) → EachOf IsSmall nodes → strand_part_at bytes tokens d scope nodes o ≡ Ok p → AreSmallTerms p
    at_small nodes p None each e = absurd (cc)
    at_small nodes p (Some k) each e = over_small nodes k p (slice_get d.strands.list k) each e

    part_small : (n : Node) (p : Part) → IsSmall n → part_read bytes tokens d scope n ≡ Ok p → AreSmallTerms p
    part_small n p small e = split (is_known n) e
      where
        split : (b : Bool) → cond b (then_read known_part (message_read bytes d.sig scope (raw_below tokens symbol.TERM (children_of n)))) (strand_part_read bytes tokens d scope (children_of n)) ≡ Ok p → AreSmallTerms p
        split true q =
            let m = ok_then known_part _ p q in
            let few = term_small d.sig scope (children_of n) m.value (kids_small n small) (message_term bytes d.sig scope (raw_below tokens symbol.TERM (children_of n)) m.value m.is) in
            subst AreSmallTerms (ok_is _ p m.gives) (λ t h. subst IsFew (only_member m.value t h) few)
        split false q = at_small (children_of n) p (strand_number d.strands.names (text_of bytes (first_token tokens symbol.PART_STRAND (children_of n)))) (kids_small n small) q

  pub aim_small : (d : Draft) (nodes : List Node) (aim : Aim) → EachOf IsSmall nodes → one_aim_read bytes tokens d nodes ≡ Ok aim → IsSmallAim aim
  aim_small d nodes aim each e =
      let name = first_token tokens symbol.AIM_NAME nodes in
      let inner : then_read (aim_over bytes tokens d name nodes) (variables_read bytes tokens d unbound (variable_nodes nodes)) ≡ Ok aim =
      ok_unless (told_if (is_some (place_of (text_of bytes name) d.aims.names)) (name_refusal bytes name)) (then_read (aim_over bytes tokens d name nodes) (variables_read bytes tokens d unbound (variable_nodes nodes))) aim e in
      let vars = ok_then (aim_over bytes tokens d name nodes) (variables_read bytes tokens d unbound (variable_nodes nodes)) aim inner in
      let parts = ok_then (aim_with bytes name vars.value) (parts_read bytes tokens d (scope_of vars.value) (part_nodes nodes)) aim vars.gives in
      let all : EachOf IsSmall (part_nodes nodes) = unfirst symbol.PART (part_nodes nodes) (each_listed IsSmall kids_small symbol.PART symbol.NEXT_PART nodes each) in
      let good : EachOf AreSmallTerms parts.value = each_of IsSmall AreSmallTerms (part_read bytes tokens d (scope_of vars.value)) (part_nodes nodes) parts.value all (λ n p small q. part_small d (scope_of vars.value) n p small q) parts.is in
      subst IsSmallAim (ok_is _ aim parts.gives) (λ p h. each_member AreSmallTerms parts.value good p h)

  -- ## A strand

  -- the term of an event, with its size
  event_words : (n : Node) → IsFirstFor IsTree symbol.EVENT n → raw_count (raw_below tokens symbol.TERM (children_of n)) ≤ total (sizes n)
  event_words n is =
      let f = first_there symbol.TERM (children_of n) (event_term n is.is.node (row_first n [] is.is.applied) is.symbol_is) in
      let same : raw_count (raw_below tokens symbol.TERM (children_of n)) ≡ raw_count (raw_of tokens f.node) = ap (λ o. raw_count (option_map_or (raw_of tokens) o (term_with no_token []))) f.is in
      let e = one_first IsTree tree_kids symbol.TERM (children_of n) f.node (tree_kids n is.is) f.is in
      omega (arith, same, term_words tokens f.node e.is.applied e.symbol_is, total_first symbol.TERM (children_of n) f.node f.is, total_kids n)

  -- the terms of events are within the sizes of their nodes
  events_words : (ns : List Node) → EachOf (IsFirstFor IsTree symbol.EVENT) ns → sum_of (map (λ n. raw_count (raw_below tokens symbol.TERM (children_of n))) ns) ≤ total (sizes_of ns)
  events_words [] each = omega arith
  events_words (n ∷ ns) each = omega (arith, event_words n each.0, events_words ns each.1, total_nodes n ns)

  event_small : (sig : Signature) (scope : List Scoped) (n : Node) (event : Event) → event_read bytes tokens sig scope n ≡ Ok event → symbol_count event.msg ≤ raw_count (raw_below tokens symbol.TERM (children_of n))
  event_small sig scope n event e =
      let m = ok_then (event_with n) _ event e in
      let raw : Raw = raw_below tokens symbol.TERM (children_of n) in
      let t = message_term bytes sig scope raw m.value m.is in
      let few = few_symbols sig scope bytes (raw_below tokens symbol.TERM (children_of n)) m.value (read_ok (read sig scope bytes (raw_below tokens symbol.TERM (children_of n))) m.value t) in
      let same : symbol_count m.value ≡ symbol_count event.msg = ap (λ (x : Event). symbol_count x.msg) (ok_is _ event m.gives) in
      omega (arith, few, same)

  events_small : (sig : Signature) (scope : List Scoped) (ns : List Node) (events : List Event) → events_read bytes tokens sig scope ns ≡ Ok events → all_count (map (λ event. event.msg) events) ≤ sum_of (map (λ n. raw_count (raw_below tokens symbol.TERM (children_of n))) ns)
  events_small sig scope [] events e = let q : [] ≡ events = cc in subst (λ (xs : List Event). all_count (map (λ event. event.msg) xs) ≤ 0) q (omega arith)
  events_small sig scope (n ∷ ns) events e = split (event_read bytes tokens sig scope n) (events_read bytes tokens sig scope ns) refl (λ xs q. events_small sig scope ns xs q) e
    where
      few : ℕ
      few = sum_of (map (λ m. raw_count (raw_below tokens symbol.TERM (children_of m))) (n ∷ ns))

      split : (r : Result Event ReadError) (o : Result (List Event) ReadError) → event_read bytes tokens sig scope n ≡ r →
          ((xs : List Event) → o ≡ Ok xs → all_count (map (λ event. event.msg) xs) ≤ sum_of (map (λ m. raw_count (raw_below tokens symbol.TERM (children_of m))) ns)) → in_front r o ≡ Ok events → all_count (map (λ event. event.msg) events) ≤ few
      split (Ok x) (Ok xs) is rest q =
          let same : x ∷ xs ≡ events = cc in
          subst (λ (ys : List Event). all_count (map (λ event. event.msg) ys) ≤ few) same (omega (arith, event_small sig scope n x is, rest xs refl))
      split (Ok x) (Err y) is rest q = absurd (cc)
      split (Err x) o is rest q = absurd (cc)

  pub strand_small : (d : Draft) (intruder : Bool) (nodes : List Node) (strand : Strand) → EachOf IsTree nodes → total (sizes_of nodes) ≤ 1024 → one_strand_read bytes tokens d intruder nodes ≡ Ok strand → IsSmallStrand strand
  strand_small d intruder nodes strand each few e =
      let name = first_token tokens symbol.STRAND_NAME nodes in
      let inner : then_read (strand_behind bytes tokens d intruder name nodes) (fresh_read bytes tokens d.sig unbound (fresh_nodes nodes)) ≡ Ok strand =
      ok_unless (told_if (is_some (strand_number d.strands.names (text_of bytes name))) (name_refusal bytes name)) (then_read (strand_behind bytes tokens d intruder name nodes) (fresh_read bytes tokens d.sig unbound (fresh_nodes nodes))) strand e in
      let fresh = ok_then (strand_behind bytes tokens d intruder name nodes) (fresh_read bytes tokens d.sig unbound (fresh_nodes nodes)) strand inner in
      let vars = ok_then (strand_over bytes tokens d intruder name nodes fresh.value.names) (variables_read bytes tokens d (behind fresh.value) (variable_nodes nodes)) strand fresh.gives in
      let events = ok_then (strand_with bytes intruder name fresh.value.names vars.value) (events_read bytes tokens d.sig (parameters fresh.value.names vars.value) (event_nodes nodes)) strand vars.gives in
      let words = events_words (event_nodes nodes) (each_listed IsTree tree_kids symbol.EVENT symbol.NEXT_EVENT nodes each) in
      let small = events_small d.sig (parameters fresh.value.names vars.value) (event_nodes nodes) events.value events.is in
      subst IsSmallStrand (ok_is _ strand events.gives) (omega (arith, words, small, total_listed symbol.EVENT symbol.NEXT_EVENT nodes, few))

-- ## Items

-- the items of a module text are nodes of one
pub items_trees : (bytes : List ℕ) (tokens : List Token) (nodes : List Node) → IsParse module_language bytes tokens nodes → EachOf IsTree (items_of nodes)
items_trees bytes tokens nodes parse = unfirst_tree (items_of nodes) (each_with IsTree tree_kids symbol.ITEM (below symbol.MODULE nodes) (split (first_with symbol.MODULE nodes) refl))
  where
    all : EachOf IsTree nodes
    all = each_tree nodes (each_node parse.text) (applied_parse bytes tokens nodes parse)

    split : (o : Option Node) → first_with symbol.MODULE nodes ≡ o → EachOf IsTree (option_map_or children_of o [])
    split None is = tt
    split (Some n) is = tree_kids n (one_first IsTree tree_kids symbol.MODULE nodes n all is).is

    unfirst_tree : (ns : List Node) → EachOf (IsFirstFor IsTree symbol.ITEM) ns → EachOf IsTree ns
    unfirst_tree [] each = tt
    unfirst_tree (n ∷ ns) each = (each.0.is, unfirst_tree ns each.1)

-- the children of an equation or an aim
pub terms_small : (n : Node) → IsTree n → ((k size : ℕ) → slice_get (sizes_of (children_of n)) k ≡ Some size → size ≤ 1024) → EachOf IsSmall (children_of n)
terms_small n tree few = each_small (children_of n) (low_from (sizes_of (children_of n)) few) (applied_kids n [] tree.applied)

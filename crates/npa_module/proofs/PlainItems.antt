-- The terms that an item has are plain: no fresh name stands in them, and their variables have small
-- numbers.
use Rattle.std.proofs.Common.{◌≡◌, ℕ, suc, ◌+◌, ◌<◌, ◌≤◌, ◌==◌, ◌^◌, Bool, true, false, cond, List, [], ◌∷◌, ◌++◌, Option, None, Some, Result, Ok, Err, length, refl, ap, ◌∙◌, subst, arith, is_some, length-append, All, Contains}
use Rattle.std.specs.Prelude.{slice_get}
use Rattle.std.proofs.lemmas.Option.{slice_get_within}
use Rattle.npa_syntax.specs.declared.node.Node.{Node}
use Rattle.npa_syntax.specs.Nodes.{symbol_of, children_of}
use Rattle.npa_text.specs.declared.token.Token.{Token}
use Rattle.npa_text.specs.declared.token.Raw.{Raw, out-Raw}
use Rattle.npa_text.specs.declared.symbols.TheConstants as symbol
use Rattle.npa_text.specs.Raws.{token_at}
use Rattle.npa_text.specs.Texts.{text_of, number_of as number_in}
use Rattle.npa_names.specs.Names.{place_of}
use Rattle.npa_term.specs.declared.term.Term.{Term}
use Rattle.npa_term.specs.Variables.{variables}
use Rattle.npa_term.proofs.Parts.{only_member}
use Rattle.npa_sig.specs.declared.meaning.Scoped.{Scoped}
use Rattle.npa_sig.specs.declared.protocol.Equation.{Equation}
use Rattle.npa_sig.specs.declared.protocol.Event.{Event}
use Rattle.npa_sig.specs.declared.protocol.Strand.{Strand}
use Rattle.npa_sig.specs.Parameters.{param_sorts}
use Rattle.npa_sig.specs.Signature.{Signature}
use Rattle.npa_sig.specs.Meaning.{read, scope_variables}
use Rattle.npa_sig.specs.WellFormed.{IsNameless, IsPlainTerm, IsPlainEquation}
use Rattle.npa_sig.proofs.Sorted.{own_answer}
use Rattle.npa_sig.proofs.Unnamed.{is_plain, nameless_read}
use Rattle.npa_model.specs.declared.aim.Part.{Part}
use Rattle.npa_model.specs.declared.aim.Aim.{Aim}
use Rattle.npa_model.specs.Accepted.{part_terms}
use Rattle.npa_module.specs.declared.source.ReadError.{ReadError}
use Rattle.npa_module.specs.declared.draft.Draft.{Draft}
use Rattle.npa_module.specs.declared.scopes.Binders.{Binders}
use Rattle.npa_reading.specs.Trees.{after, below}
use Rattle.npa_reading.specs.Trees.{word_at, first_token, raw_below, all_with}
use Rattle.npa_module.specs.Drafts.{strand_number}
use Rattle.npa_module.specs.Refusals.{name_refusal}
use Rattle.npa_reading.specs.Reading.{in_front}
use Rattle.npa_reading.specs.Reading.{told_if, then_read}
use Rattle.npa_limits.specs.Limits.{is_known}
use Rattle.npa_module.specs.Items.{unbound, bound, occurring, words_in, equation_with, right_read, equation_over, one_equation_read, behind, is_taken, scope_from, scope_of, parameters, variable_nodes, fresh_nodes, event_nodes, part_nodes, parameter_nodes, one_sort_read, fresh_read, variable_read, variables_read, term_read, message, message_read, event_with, event_read, events_read, strand_with, strand_over, strand_behind, one_strand_read, argument_fault, argument_read, arguments_read, strand_part_with, strand_part_over, strand_part_at, strand_part_read, known_part, part_read, parts_read, aim_with, aim_over, one_aim_read}
use Rattle.npa_module.proofs.Growth.{ok_unless, ok_then}
use Rattle.npa_module.proofs.Formed.{OkOf, ok_is, EachOf, each_member, each_read, read_ok, scope_own}
use Rattle.npa_module.proofs.Counting.{all_count, count_length, count_filter, count_below, count_after, few_words, occurring_few}

-- the variables that are read are as many as their nodes
module _ (bytes : List ℕ) (tokens : List Token) (d : Draft) where
  pub sorts_count : (ns : List Node) (b c : Binders) → variables_read bytes tokens d b ns ≡ Ok c → length c.sorts ≡ length b.sorts + length ns
  sorts_count [] b c e = let q : b ≡ c = cc in let n : length b.sorts ≡ length c.sorts = ap (λ (x : Binders). length x.sorts) q in omega (arith, n)
  sorts_count (n ∷ ns) b c e =
      let v = ok_then (λ m. variables_read bytes tokens d m ns) (variable_read bytes tokens d b n) c e in
      let inner : then_read (λ sort. OkOf (bound b (word_at bytes tokens n) sort)) (one_sort_read bytes d.sorts (first_token tokens symbol.VARIABLE_SORT (children_of n))) ≡ Ok v.value =
      ok_unless (told_if (is_taken d.sig b.earlier (word_at bytes tokens n)) (name_refusal bytes (token_at tokens n)))
      (then_read (λ sort. OkOf (bound b (word_at bytes tokens n) sort)) (one_sort_read bytes d.sorts (first_token tokens symbol.VARIABLE_SORT (children_of n)))) v.value v.is in
      let s = ok_then (λ sort. OkOf (bound b (word_at bytes tokens n) sort)) (one_sort_read bytes d.sorts (first_token tokens symbol.VARIABLE_SORT (children_of n))) v.value inner in
      let same : bound b (word_at bytes tokens n) s.value ≡ v.value = ok_is _ v.value s.gives in
      let one : length (b.sorts ++ s.value ∷ []) ≡ length b.sorts + 1 = length-append b.sorts (s.value ∷ []) in
      let more : length (bound b (word_at bytes tokens n) s.value).sorts ≡ length v.value.sorts = ap (λ (x : Binders). length x.sorts) same in
      omega (arith, one, more, sorts_count ns v.value c v.gives)

-- so they are few
pub few_variables : (nodes : List Node) → length (variable_nodes nodes) ≤ all_count nodes
few_variables nodes =
    let listed : length (all_with symbol.VARIABLE (below symbol.VARIABLES nodes)) ≤ all_count (all_with symbol.VARIABLE (below symbol.VARIABLES nodes)) = count_length (all_with symbol.VARIABLE (below symbol.VARIABLES nodes)) in
    omega (arith, listed, count_filter (λ n. symbol_of n == symbol.VARIABLE) (below symbol.VARIABLES nodes), count_below symbol.VARIABLES nodes)

-- no fresh name stands in an aim, and its variables are few
pub record IsGoodAim (aim : Aim) : Type 0 where
  pub nameless : (p : Part) → Contains aim.parts p → (t : Term) → Contains (part_terms p) t → IsNameless t
  pub few : length aim.sorts ≤ 2 ^ 30

-- a message is a term that was read
pub message_term : (bytes : List ℕ) (sig : Signature) (scope : List Scoped) (raw : Raw) (t : Term) → message_read bytes sig scope raw ≡ Ok t → term_read bytes sig scope raw ≡ Ok t
message_term bytes sig scope raw t e =
    let b = ok_then (message bytes (out-Raw raw).head) (term_read bytes sig scope raw) t e in
    b.is ∙ ap Ok (ok_is b.value t (ok_unless _ _ t b.gives))

module _ (bytes : List ℕ) (tokens : List Token) (plain : (symbol : ℕ) (ns : List Node) → is_plain (raw_below tokens symbol ns) ≡ true) where
  -- ## Terms

  term_nameless : (sig : Signature) (scope : List Scoped) (symbol : ℕ) (ns : List Node) (t : Term) → term_read bytes sig scope (raw_below tokens symbol ns) ≡ Ok t → IsNameless t
  term_nameless sig scope symbol ns t e =
      nameless_read sig scope bytes (raw_below tokens symbol ns) t (plain symbol ns) (read_ok (read sig scope bytes (raw_below tokens symbol ns)) t e)

  term_plain : (sig : Signature) (ns : List (List ℕ)) (ss : List ℕ) (symbol : ℕ) (nodes : List Node) (t : Term) → length ss ≤ 2 ^ 30 →
      term_read bytes sig (scope_from 0 ns ss) (raw_below tokens symbol nodes) ≡ Ok t → IsPlainTerm t
  term_plain sig ns ss symbol nodes t few e =
      let raw : Raw = raw_below tokens symbol nodes in
      let is : read sig (scope_from 0 ns ss) bytes (raw_below tokens symbol nodes) ≡ Ok t = read_ok (read sig (scope_from 0 ns ss) bytes (raw_below tokens symbol nodes)) t e in
      let all : All (Contains (scope_variables (scope_from 0 ns ss))) (variables t) = own_answer sig (scope_from 0 ns ss) bytes (Ok t) raw is in
      record {
        nameless = term_nameless sig (scope_from 0 ns ss) symbol nodes t e;
        small = λ v h.
            let there : slice_get ss v.num ≡ Some v.sort = scope_own ns ss v (subst (Contains (scope_variables (scope_from 0 ns ss))) h.2 (all h.0 v h.1)) in
            let within : v.num < length ss = slice_get_within ss v.num v.sort there in
            omega (arith, within, few);
      }

  -- ## An equation

  pub equation_plain : (d : Draft) (nodes : List Node) (equation : Equation) → all_count nodes ≤ 1048576 → one_equation_read bytes tokens d nodes ≡ Ok equation → IsPlainEquation equation
  equation_plain d nodes equation few e =
      let behind_ : List Node = after symbol.EQUALS_MARK nodes in
      let left : Raw = raw_below tokens symbol.TERM nodes in
      let right : Raw = raw_below tokens symbol.TERM (after symbol.EQUALS_MARK nodes) in
      let vars = ok_then (equation_over bytes tokens d nodes) (variables_read bytes tokens d unbound (variable_nodes nodes)) equation e in
      let words : List (List ℕ) = words_in bytes left ++ words_in bytes right in
      let found : Binders = occurring vars.value unbound words in
      let l = ok_then (right_read bytes d.sig (scope_of found) right) (message_read bytes d.sig (scope_of found) left) equation vars.gives in
      let r = ok_then (equation_with l.value) (message_read bytes d.sig (scope_of found) right) equation l.gives in
      let many : length (words_in bytes left ++ words_in bytes right) ≡ length (words_in bytes left) + length (words_in bytes right) = length-append (words_in bytes left) (words_in bytes right) in
      let first : length (words_in bytes left) ≤ suc (all_count nodes) = few_words bytes tokens symbol.TERM nodes in
      let second : length (words_in bytes right) ≤ suc (all_count behind_) = few_words bytes tokens symbol.TERM behind_ in
      let less : all_count behind_ ≤ all_count nodes = count_after symbol.EQUALS_MARK nodes in
      let occur : length found.sorts ≤ 0 + length words = occurring_few vars.value unbound words in
      let bound_ : length found.sorts ≤ 2 ^ 30 = omega (arith, many, first, second, less, occur, few) in
      subst IsPlainEquation (ok_is _ equation r.gives) (record {
        left = term_plain d.sig found.names found.sorts symbol.TERM nodes l.value bound_ (message_term bytes d.sig (scope_of found) left l.value l.is);
        right = term_plain d.sig found.names found.sorts symbol.TERM behind_ r.value bound_ (message_term bytes d.sig (scope_of found) right r.value r.is);
      })

  -- ## A strand

  event_nameless : (sig : Signature) (scope : List Scoped) (n : Node) (event : Event) → event_read bytes tokens sig scope n ≡ Ok event → IsNameless event.msg
  event_nameless sig scope n event e =
      let m = ok_then (event_with n) _ event e in
      subst (λ (x : Event). IsNameless x.msg) (ok_is _ event m.gives)
      (term_nameless sig scope symbol.TERM (children_of n) m.value (message_term bytes sig scope (raw_below tokens symbol.TERM (children_of n)) m.value m.is))

  pub strand_nameless : (d : Draft) (intruder : Bool) (nodes : List Node) (strand : Strand) → one_strand_read bytes tokens d intruder nodes ≡ Ok strand → (event : Event) → Contains strand.events event → IsNameless event.msg
  strand_nameless d intruder nodes strand e =
      let name = first_token tokens symbol.STRAND_NAME nodes in
      let inner : then_read (strand_behind bytes tokens d intruder name nodes) (fresh_read bytes tokens d.sig unbound (fresh_nodes nodes)) ≡ Ok strand =
      ok_unless (told_if (is_some (strand_number d.strands.names (text_of bytes name))) (name_refusal bytes name)) (then_read (strand_behind bytes tokens d intruder name nodes) (fresh_read bytes tokens d.sig unbound (fresh_nodes nodes))) strand e in
      let fresh = ok_then (strand_behind bytes tokens d intruder name nodes) (fresh_read bytes tokens d.sig unbound (fresh_nodes nodes)) strand inner in
      let vars = ok_then (strand_over bytes tokens d intruder name nodes fresh.value.names) (variables_read bytes tokens d (behind fresh.value) (variable_nodes nodes)) strand fresh.gives in
      let events = ok_then (strand_with bytes intruder name fresh.value.names vars.value) (events_read bytes tokens d.sig (parameters fresh.value.names vars.value) (event_nodes nodes)) strand vars.gives in
      let each : EachOf (λ (x : Event). IsNameless x.msg) events.value =
      each_read (λ (x : Event). IsNameless x.msg) (event_read bytes tokens d.sig (parameters fresh.value.names vars.value)) (event_nodes nodes) events.value
      (λ n x q. event_nameless d.sig (parameters fresh.value.names vars.value) n x q) events.is in
      subst (λ (s : Strand). (event : Event) → Contains s.events event → IsNameless event.msg) (ok_is _ strand events.gives)
      (λ x h. each_member (λ (y : Event). IsNameless y.msg) events.value each x h)

  -- ## An aim

  module _ (d : Draft) (scope : List Scoped) where
    arguments_nameless : (names : List (List ℕ)) (sorts : List ℕ) (nodes : List Node) (args : List Term) → arguments_read bytes tokens d.sig scope names sorts nodes ≡ Ok args → EachOf IsNameless args
    arguments_nameless names sorts [] args e = let q : [] ≡ args = cc in subst (EachOf IsNameless) q tt
    arguments_nameless [] sorts (n ∷ nodes) args e = absurd (cc)
    arguments_nameless (p ∷ names) [] (n ∷ nodes) args e = absurd (cc)
    arguments_nameless (p ∷ names) (s ∷ sorts) (n ∷ nodes) args e =
        split (argument_read bytes tokens d.sig scope p s n) (arguments_read bytes tokens d.sig scope names sorts nodes) refl (λ us q. arguments_nameless names sorts nodes us q) e
      where
        split : (r : Result Term ReadError) (o : Result (List Term) ReadError) → argument_read bytes tokens d.sig scope p s n ≡ r →
            ((us : List Term) → o ≡ Ok us → EachOf IsNameless us) → in_front r o ≡ Ok args → EachOf IsNameless args
        split (Ok t) (Ok us) is rest q =
            let same : t ∷ us ≡ args = cc in
            subst (EachOf IsNameless) same (term_nameless d.sig scope symbol.TERM (children_of n) t (ok_unless (argument_fault bytes tokens d.sig scope p s n) _ t is), rest us refl)
        split (Ok t) (Err y) is rest q = absurd (cc)
        split (Err x) o is rest q = absurd (cc)

    abbrev IsNamelessPart : Part → Type 0
    IsNamelessPart p = (t : Term) → Contains (part_terms p) t → IsNameless t

    over_nameless : (nodes : List Node) (k : ℕ) (p : Part) (o : Option Strand) → strand_part_over bytes tokens d scope nodes k o ≡ Ok p → IsNamelessPart p
    over_nameless nodes k p None e = absurd (cc)
    over_nameless nodes k p (Some strand) e =
        let a = ok_then (strand_part_with k (number_in bytes (first_token tokens symbol.BAR nodes))) _ p (ok_unless _ _ p e) in
        subst IsNamelessPart (ok_is _ p a.gives)
        (λ t h. each_member IsNameless a.value (arguments_nameless strand.names (param_sorts strand) (parameter_nodes nodes) a.value a.is) t h)

    at_nameless : (nodes : List Node) (p : Part) (o : Option ℕ) → strand_part_at bytes tokens d scope nodes o ≡ Ok p → IsNamelessPart p
    at_nameless nodes p None e = absurd (cc)
    at_nameless nodes p (Some k) e = over_nameless nodes k p (slice_get d.strands.list k) e

    part_nameless : (n : Node) (p : Part) → part_read bytes tokens d scope n ≡ Ok p → IsNamelessPart p
    part_nameless n p e = split (is_known n) e
      where
        split : (b : Bool) → cond b (then_read known_part (message_read bytes d.sig scope (raw_below tokens symbol.TERM (children_of n)))) (strand_part_read bytes tokens d scope (children_of n)) ≡ Ok p → IsNamelessPart p
        split true q =
            let m = ok_then known_part _ p q in
            let free = term_nameless d.sig scope symbol.TERM (children_of n) m.value (message_term bytes d.sig scope (raw_below tokens symbol.TERM (children_of n)) m.value m.is) in
            subst IsNamelessPart (ok_is _ p m.gives) (λ t h. subst IsNameless (only_member m.value t h) free)
        split false q = at_nameless (children_of n) p (strand_number d.strands.names (text_of bytes (first_token tokens symbol.PART_STRAND (children_of n)))) q

  pub aim_good : (d : Draft) (nodes : List Node) (aim : Aim) → all_count nodes ≤ 1048576 → one_aim_read bytes tokens d nodes ≡ Ok aim → IsGoodAim aim
  aim_good d nodes aim few e =
      let name = first_token tokens symbol.AIM_NAME nodes in
      let inner : then_read (aim_over bytes tokens d name nodes) (variables_read bytes tokens d unbound (variable_nodes nodes)) ≡ Ok aim =
      ok_unless (told_if (is_some (place_of (text_of bytes name) d.aims.names)) (name_refusal bytes name)) (then_read (aim_over bytes tokens d name nodes) (variables_read bytes tokens d unbound (variable_nodes nodes))) aim e in
      let vars = ok_then (aim_over bytes tokens d name nodes) (variables_read bytes tokens d unbound (variable_nodes nodes)) aim inner in
      let parts = ok_then (aim_with bytes name vars.value) (parts_read bytes tokens d (scope_of vars.value) (part_nodes nodes)) aim vars.gives in
      let each : EachOf (λ (p : Part). (t : Term) → Contains (part_terms p) t → IsNameless t) parts.value =
      each_read (λ (p : Part). (t : Term) → Contains (part_terms p) t → IsNameless t) (part_read bytes tokens d (scope_of vars.value)) (part_nodes nodes) parts.value
      (λ n p q. part_nameless d (scope_of vars.value) n p q) parts.is in
      let count : length vars.value.sorts ≡ 0 + length (variable_nodes nodes) = sorts_count bytes tokens d (variable_nodes nodes) unbound vars.value vars.is in
      subst IsGoodAim (ok_is _ aim parts.gives) (record {
        nameless = λ p h. each_member (λ (x : Part). (t : Term) → Contains (part_terms x) t → IsNameless t) parts.value each p h;
        few = omega (arith, count, few_variables nodes, few);
      })

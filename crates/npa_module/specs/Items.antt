-- The items of a module, in the order of the text: what each declares, or the first of its words that
-- breaks a rule on names or sorts.
use Rattle.std.specs.Prelude.{ℕ, ◌+◌, Bool, false, ◌==◌, ◌&&◌, ◌||◌, not, nat_lt, cond, if◌then◌else◌, List, [], ◌∷◌, ◌++◌, Option, None, Some, Result, Ok, Err, map, length, is_none, is_some, replicate, slice_get, unwrap_or}
use Rattle.std.specs.Option.{option_map_or, option_and_then}
use Rattle.std.specs.Str.{bytes_eq}
use Rattle.npa_syntax.specs.declared.node.Node.{Node}
use Rattle.npa_syntax.specs.Nodes.{children_of, first_with}
use Rattle.npa_text.specs.declared.token.Token.{Token}
use Rattle.npa_text.specs.declared.token.Raw.{Raw, out-Raw}
use Rattle.npa_text.specs.declared.token.Raw.TheFolds.{fold-Raw}
use Rattle.npa_text.specs.declared.terminals.TheConstants as terminal
use Rattle.npa_text.specs.declared.symbols.TheConstants as symbol
use Rattle.npa_text.specs.Raws.{token_at}
use Rattle.npa_text.specs.Texts.{text_of, number_of as number_in}
use Rattle.npa_names.specs.Names.{place_of}
use Rattle.npa_term.specs.declared.term.Term.{Term}
use Rattle.npa_sig.specs.declared.fault.UseFail.{UseFail}
use Rattle.npa_sig.specs.declared.signature.OpDecl.{OpDecl}
use Rattle.npa_sig.specs.declared.protocol.Equation.{Equation}
use Rattle.npa_sig.specs.declared.protocol.Event.{Event}
use Rattle.npa_sig.specs.declared.protocol.Strand.{Strand}
use Rattle.npa_sig.specs.declared.meaning.Scoped.{Scoped}
use Rattle.npa_sig.specs.Signature.{Signature, number_of}
use Rattle.npa_sig.specs.Sorting.{is_below}
use Rattle.npa_term.specs.Parts.{least_sort as sort_of}
use Rattle.npa_sig.specs.Meaning.{read, sort_at, one_fits}
use Rattle.npa_sig.specs.Parameters.{param_sorts}
use Rattle.npa_model.specs.declared.aim.Part.{Part}
use Rattle.npa_model.specs.declared.aim.Part.TheVariants as part
use Rattle.npa_model.specs.declared.aim.Aim.{Aim}
use Rattle.npa_module.specs.declared.source.ReadError.{ReadError}
use Rattle.npa_module.specs.declared.scopes.Binders.{Binders}
use Rattle.npa_reading.specs.Trees.{all_with, listed, has, below, word_at, kind_of, first_token, raw_below, after}
use Rattle.npa_module.specs.declared.draft.Draft.{Draft}
use Rattle.npa_module.specs.Drafts.{sort_number, strand_number, with_sort, with_pair, with_operator, with_equation, with_strand, with_aim}
use Rattle.npa_limits.specs.Limits.{is_sort, is_op, is_eq, is_strand, is_aim}
use Rattle.npa_reading.specs.Reading.{told_if, first_told, unless, then_read, in_front, all_read}
use Rattle.npa_module.specs.Refusals.{name_refusal, sort_refusal, use_refusal}

-- the sort of fresh values
abbrev pub is_fresh : Option ℕ → Bool
is_fresh None = false
is_fresh (Some s) = s == 1

-- whether the upper sort is at or below the lower one already, so that a pair of them closes a cycle
abbrev pub closes_cycle : Signature → Option ℕ → Option ℕ → Bool
closes_cycle sig (Some lower) (Some upper) = not (upper == 1) && is_below sig upper lower
closes_cycle sig None upper = false
closes_cycle sig (Some lower) None = false

-- two words that are the same
abbrev pub is_pair : List (List ℕ) → Bool
is_pair [] = false
is_pair (w ∷ []) = false
is_pair (w ∷ v ∷ []) = bytes_eq w v
is_pair (w ∷ v ∷ u ∷ ws) = false

-- lists of words one behind another
abbrev pub joined : List (List (List ℕ)) → List (List ℕ)
joined [] = []
joined (ws ∷ more) = ws ++ joined more

-- no names
abbrev pub unbound : Binders
unbound = record { earlier = []; names = []; sorts = [] }

-- one more name with its sort
abbrev pub bound : Binders → List ℕ → ℕ → Binders
bound b name sort = record { earlier = b.earlier ++ name ∷ []; names = b.names ++ name ∷ []; sorts = b.sorts ++ sort ∷ [] }

-- whether a name stood earlier in the item, or is that of an operator
abbrev pub is_taken : Signature → List (List ℕ) → List ℕ → Bool
is_taken sig earlier name = is_some (place_of name earlier) || is_some (number_of sig name)

-- variables of these names and sorts, numbered from k
abbrev pub scope_from : ℕ → List (List ℕ) → List ℕ → List Scoped
scope_from k [] sorts = []
scope_from k (n ∷ ns) [] = []
scope_from k (n ∷ ns) (s ∷ ss) = record { name = n; var = record { num = k; sort = s } } ∷ scope_from (k + 1) ns ss

abbrev pub scope_of : Binders → List Scoped
scope_of b = scope_from 0 b.names b.sorts

-- the parameters of a strand: its variables, then its fresh values
abbrev pub parameters : List (List ℕ) → Binders → List Scoped
parameters fresh vars = scope_from 0 (vars.names ++ fresh) (vars.sorts ++ replicate (length fresh) 1)

-- the sort of a variable of this name
abbrev pub sort_in : Binders → List ℕ → Option ℕ
sort_in vars word = option_and_then (slice_get vars.sorts) (place_of word vars.names)

-- a variable that is met for the first time stands behind those so far
abbrev pub met : Binders → List ℕ → Option ℕ → Binders
met found word None = found
met found word (Some sort) = if is_some (place_of word found.earlier) then found else bound found word sort

-- the variables that are among the words, each once, in the order of first occurrence
abbrev pub occurring : Binders → Binders → List (List ℕ) → Binders
occurring vars found [] = found
occurring vars found (w ∷ ws) = occurring vars (met found w (sort_in vars w)) ws

abbrev pub variable_nodes : List Node → List Node
variable_nodes nodes = all_with symbol.VARIABLE (below symbol.VARIABLES nodes)

abbrev pub fresh_nodes : List Node → List Node
fresh_nodes nodes = all_with symbol.FRESH_VALUE (below symbol.FRESH_VALUES nodes)

abbrev pub event_nodes : List Node → List Node
event_nodes nodes = listed symbol.EVENT symbol.NEXT_EVENT nodes

abbrev pub part_nodes : List Node → List Node
part_nodes nodes = listed symbol.PART symbol.NEXT_PART nodes

-- the parameters of a part: the first, and those behind the commas
abbrev pub parameter_nodes : List Node → List Node
parameter_nodes nodes = option_map_or (λ n. n ∷ listed symbol.PARAMETER symbol.NEXT_PARAMETER (children_of n)) (first_with symbol.PARAMETERS nodes) []

-- names that stood earlier in the item, and no variable so far
abbrev pub behind : Binders → Binders
behind fresh = record { earlier = fresh.earlier; names = []; sorts = [] }

abbrev pub term_from : Result Term UseFail → Result Term ReadError
term_from (Ok t) = Ok t
term_from (Err e) = Err (use_refusal e)

abbrev pub equation_with : Term → Term → Result Equation ReadError
equation_with left right = Ok (record { left = left; right = right })

abbrev pub event_with : Node → Term → Result Event ReadError
event_with node t = Ok (record { sent = kind_of node == terminal.PLUS; msg = t })

abbrev pub strand_part_with : ℕ → ℕ → List Term → Result Part ReadError
strand_part_with k bar args = Ok (part.Strand k bar args)

abbrev pub known_part : Term → Result Part ReadError
known_part t = Ok (part.Known t)

abbrev pub equation_declared : Draft → Equation → Result Draft ReadError
equation_declared d equation = Ok (with_equation d equation)

abbrev pub operator_declared : Draft → OpDecl → Result Draft ReadError
operator_declared d decl = Ok (with_operator d decl)

abbrev pub strand_declared : Draft → Strand → Result Draft ReadError
strand_declared d strand = Ok (with_strand d strand)

abbrev pub aim_declared : Draft → Aim → Result Draft ReadError
aim_declared d aim = Ok (with_aim d aim)

module _ (bytes : List ℕ) where
  -- Both sorts are declared, neither is Fresh, and the pair closes no cycle.
  abbrev pub subsort_fault : Draft → Token → Token → Option ReadError
  subsort_fault d lower upper =
      let l = sort_number d.sorts (text_of bytes lower) in
      let u = sort_number d.sorts (text_of bytes upper) in
      first_told (
      told_if (is_none l) (name_refusal bytes lower)
      ∷ told_if (is_fresh l || closes_cycle d.sig l u) (sort_refusal bytes lower)
      ∷ told_if (is_none u) (name_refusal bytes upper)
      ∷ told_if (is_fresh u) (sort_refusal bytes upper)
      ∷ [])

  -- the sort of a word, Msg where there is none
  abbrev pub sort_named : List (List ℕ) → Token → ℕ
  sort_named sorts token = unwrap_or (sort_number sorts (text_of bytes token)) 0

  -- a declared sort
  abbrev pub one_sort_read : List (List ℕ) → Token → Result ℕ ReadError
  one_sort_read sorts token = unless (told_if (is_none (sort_number sorts (text_of bytes token))) (name_refusal bytes token)) (Ok (sort_named sorts token))

  -- a declared sort that isn't Fresh
  abbrev pub not_fresh : Token → ℕ → Result ℕ ReadError
  not_fresh token sort = unless (told_if (sort == 1) (sort_refusal bytes token)) (Ok sort)

  abbrev pub result_read : List (List ℕ) → Token → Result ℕ ReadError
  result_read sorts token = then_read (not_fresh token) (one_sort_read sorts token)

  abbrev pub op_with : Token → Bool → List ℕ → ℕ → Result OpDecl ReadError
  op_with name commutes args result = Ok (record { name = text_of bytes name; args = args; result = result; «com» = commutes })

  abbrev pub term_read : Signature → List Scoped → Raw → Result Term ReadError
  term_read sig scope raw = term_from (read sig scope bytes raw)

  abbrev pub message : Token → Term → Result Term ReadError
  message head t = unless (told_if (sort_of t == 1) (sort_refusal bytes head)) (Ok t)

  -- a term that isn't of the sort Fresh
  abbrev pub message_read : Signature → List Scoped → Raw → Result Term ReadError
  message_read sig scope raw = then_read (message (out-Raw raw).head) (term_read sig scope raw)

  -- the words of a term, in the order of the text
  abbrev pub words_in : Raw → List (List ℕ)
  words_in raw = fold-Raw (List (List ℕ)) (λ layer. text_of bytes layer.head ∷ joined layer.args) raw

  -- the variables of an equation, numbered from 0 in the order of first occurrence in its sides, whatever
  -- their names are (Baader, Nipkow 1998, on renamings)
  abbrev pub numbered : Binders → Raw → Raw → List Scoped
  numbered vars left right = scope_of (occurring vars unbound (words_in left ++ words_in right))

  abbrev pub right_read : Signature → List Scoped → Raw → Term → Result Equation ReadError
  right_read sig scope right left = then_read (equation_with left) (message_read sig scope right)

  -- the left side, then the right one
  abbrev pub sides_read : Signature → List Scoped → Raw → Raw → Result Equation ReadError
  sides_read sig scope left right = then_read (right_read sig scope right) (message_read sig scope left)

  abbrev pub strand_with : Bool → Token → List (List ℕ) → Binders → List Event → Result Strand ReadError
  strand_with intruder name fresh vars events =
      Ok (record {
        name = text_of bytes name;
        intruder = intruder;
        vars = vars.sorts;
        fresh = length fresh;
        names = vars.names ++ fresh;
        events = events;
      })

  abbrev pub aim_with : Token → Binders → List Part → Result Aim ReadError
  aim_with name vars parts = Ok (record { name = text_of bytes name; sorts = vars.sorts; parts = parts })

module _ (bytes : List ℕ) (tokens : List Token) where
  -- ## A sort

  -- a sort has a name of its own
  abbrev pub sort_read : Draft → List Node → Result Draft ReadError
  sort_read d nodes =
      let name = first_token tokens symbol.SORT_NAME nodes in
      unless (told_if (is_some (sort_number d.sorts (text_of bytes name))) (name_refusal bytes name))
      (Ok (with_sort d (text_of bytes name)))

  -- ## A subsort

  abbrev pub subsort_read : Draft → List Node → Result Draft ReadError
  subsort_read d nodes =
      let lower = first_token tokens symbol.LOWER_SORT nodes in
      let upper = first_token tokens symbol.UPPER_SORT nodes in
      unless (subsort_fault bytes d lower upper) (Ok (with_pair d (sort_named bytes d.sorts lower) (sort_named bytes d.sorts upper)))

  -- ## An operator

  -- an operator has a name that no operator has, and no variable or fresh value of a strand; a
  -- commutative one has two arguments of one sort
  abbrev pub op_fault : Draft → Token → Bool → List Node → Option ReadError
  op_fault d name commutes args =
      first_told (
      told_if (is_some (number_of d.sig (text_of bytes name)) || is_some (place_of (text_of bytes name) d.strands.params)) (name_refusal bytes name)
      ∷ told_if (commutes && not (is_pair (map (word_at bytes tokens) args))) (sort_refusal bytes name)
      ∷ [])

  abbrev pub sorts_read : List (List ℕ) → List Node → Result (List ℕ) ReadError
  sorts_read sorts nodes = all_read (map (λ n. one_sort_read bytes sorts (token_at tokens n)) nodes)

  abbrev pub op_over : Draft → Token → Bool → List Node → List ℕ → Result OpDecl ReadError
  op_over d name commutes nodes args = then_read (op_with bytes name commutes args) (result_read bytes d.sorts (first_token tokens symbol.RESULT_SORT nodes))

  abbrev pub operator_read : Draft → List Node → Result OpDecl ReadError
  operator_read d nodes =
      let name = first_token tokens symbol.OPERATOR_NAME nodes in
      let commutes = has symbol.COMMUTATIVE nodes in
      let args = all_with symbol.ARGUMENT_SORT nodes in
      unless (op_fault d name commutes args) (then_read (op_over d name commutes nodes) (sorts_read d.sorts args))

  abbrev pub op_read : Draft → List Node → Result Draft ReadError
  op_read d nodes = then_read (operator_declared d) (operator_read d nodes)

  -- ## Variables and fresh values

  abbrev pub fresh_read : Signature → Binders → List Node → Result Binders ReadError
  fresh_read sig b [] = Ok b
  fresh_read sig b (n ∷ ns) =
      unless (told_if (is_taken sig b.earlier (word_at bytes tokens n)) (name_refusal bytes (token_at tokens n)))
      (fresh_read sig (bound b (word_at bytes tokens n) 1) ns)

  abbrev pub variable_read : Draft → Binders → Node → Result Binders ReadError
  variable_read d b n =
      unless (told_if (is_taken d.sig b.earlier (word_at bytes tokens n)) (name_refusal bytes (token_at tokens n)))
      (then_read (λ sort. Ok (bound b (word_at bytes tokens n) sort)) (one_sort_read bytes d.sorts (first_token tokens symbol.VARIABLE_SORT (children_of n))))

  abbrev pub variables_read : Draft → Binders → List Node → Result Binders ReadError
  variables_read d b [] = Ok b
  variables_read d b (n ∷ ns) = then_read (λ c. variables_read d c ns) (variable_read d b n)

  -- ## An equation

  -- the right side stands behind the mark `=`
  abbrev pub equation_over : Draft → List Node → Binders → Result Equation ReadError
  equation_over d nodes vars =
      let left = raw_below tokens symbol.TERM nodes in
      let right = raw_below tokens symbol.TERM (after symbol.EQUALS_MARK nodes) in
      sides_read bytes d.sig (numbered bytes vars left right) left right

  abbrev pub one_equation_read : Draft → List Node → Result Equation ReadError
  one_equation_read d nodes = then_read (equation_over d nodes) (variables_read d unbound (variable_nodes nodes))

  abbrev pub equation_read : Draft → List Node → Result Draft ReadError
  equation_read d nodes = then_read (equation_declared d) (one_equation_read d nodes)

  -- ## A strand

  -- an event sends behind `+` and receives behind `-`
  abbrev pub event_read : Signature → List Scoped → Node → Result Event ReadError
  event_read sig scope node = then_read (event_with node) (message_read bytes sig scope (raw_below tokens symbol.TERM (children_of node)))

  abbrev pub events_read : Signature → List Scoped → List Node → Result (List Event) ReadError
  events_read sig scope nodes = all_read (map (event_read sig scope) nodes)

  abbrev pub strand_over : Draft → Bool → Token → List Node → List (List ℕ) → Binders → Result Strand ReadError
  strand_over d intruder name nodes fresh vars =
      then_read (strand_with bytes intruder name fresh vars) (events_read d.sig (parameters fresh vars) (event_nodes nodes))

  abbrev pub strand_behind : Draft → Bool → Token → List Node → Binders → Result Strand ReadError
  strand_behind d intruder name nodes fresh =
      then_read (strand_over d intruder name nodes fresh.names) (variables_read d (behind fresh) (variable_nodes nodes))

  -- a strand has a name of its own; its fresh values stand before its variables in the text, and
  -- behind them among its parameters
  abbrev pub one_strand_read : Draft → Bool → List Node → Result Strand ReadError
  one_strand_read d intruder nodes =
      let name = first_token tokens symbol.STRAND_NAME nodes in
      unless (told_if (is_some (strand_number d.strands.names (text_of bytes name))) (name_refusal bytes name))
      (then_read (strand_behind d intruder name nodes) (fresh_read d.sig unbound (fresh_nodes nodes)))

  abbrev pub strand_read : Draft → Bool → List Node → Result Draft ReadError
  strand_read d intruder nodes = then_read (strand_declared d) (one_strand_read d intruder nodes)

  -- ## An aim

  -- the word is the parameter's name, and the term's sort, where its first word stands for something,
  -- is at or below the parameter's
  abbrev pub argument_fault : Signature → List Scoped → List ℕ → ℕ → Node → Option ReadError
  argument_fault sig scope name sort node =
      first_told (
      told_if (not (bytes_eq (word_at bytes tokens node) name)) (name_refusal bytes (token_at tokens node))
      ∷ told_if (not (one_fits sig (sort_at sig scope bytes (raw_below tokens symbol.TERM (children_of node))) sort)) (sort_refusal bytes (token_at tokens node))
      ∷ [])

  abbrev pub argument_read : Signature → List Scoped → List ℕ → ℕ → Node → Result Term ReadError
  argument_read sig scope name sort node =
      unless (argument_fault sig scope name sort node) (term_read bytes sig scope (raw_below tokens symbol.TERM (children_of node)))

  -- each parameter stands once, in order
  abbrev pub arguments_read : Signature → List Scoped → List (List ℕ) → List ℕ → List Node → Result (List Term) ReadError
  arguments_read sig scope names sorts [] = Ok []
  arguments_read sig scope [] sorts (n ∷ ns) = Err (name_refusal bytes (token_at tokens n))
  arguments_read sig scope (p ∷ ps) [] (n ∷ ns) = Err (name_refusal bytes (token_at tokens n))
  arguments_read sig scope (p ∷ ps) (s ∷ ss) (n ∷ ns) = in_front (argument_read sig scope p s n) (arguments_read sig scope ps ss ns)

  -- no parameter is missing, and the strand has as many events
  abbrev pub strand_part_over : Draft → List Scoped → List Node → ℕ → Option Strand → Result Part ReadError
  strand_part_over d scope nodes k None = Err (name_refusal bytes (first_token tokens symbol.PART_STRAND nodes))
  strand_part_over d scope nodes k (Some strand) =
      let bar = number_in bytes (first_token tokens symbol.BAR nodes) in
      unless (told_if (nat_lt (length (parameter_nodes nodes)) (length strand.names) || nat_lt (length strand.events) bar) (name_refusal bytes (first_token tokens symbol.PART_STRAND nodes)))
      (then_read (strand_part_with k bar) (arguments_read d.sig scope strand.names (param_sorts strand) (parameter_nodes nodes)))

  abbrev pub strand_part_at : Draft → List Scoped → List Node → Option ℕ → Result Part ReadError
  strand_part_at d scope nodes None = Err (name_refusal bytes (first_token tokens symbol.PART_STRAND nodes))
  strand_part_at d scope nodes (Some k) = strand_part_over d scope nodes k (slice_get d.strands.list k)

  -- an instance of a strand that stands earlier in the text
  abbrev pub strand_part_read : Draft → List Scoped → List Node → Result Part ReadError
  strand_part_read d scope nodes = strand_part_at d scope nodes (strand_number d.strands.names (text_of bytes (first_token tokens symbol.PART_STRAND nodes)))

  abbrev pub part_read : Draft → List Scoped → Node → Result Part ReadError
  part_read d scope node =
      cond (kind_of node == terminal.KNOWN)
      (then_read known_part (message_read bytes d.sig scope (raw_below tokens symbol.TERM (children_of node))))
      (strand_part_read d scope (children_of node))

  abbrev pub parts_read : Draft → List Scoped → List Node → Result (List Part) ReadError
  parts_read d scope nodes = all_read (map (part_read d scope) nodes)

  abbrev pub aim_over : Draft → Token → List Node → Binders → Result Aim ReadError
  aim_over d name nodes vars = then_read (aim_with bytes name vars) (parts_read d (scope_of vars) (part_nodes nodes))

  -- an aim has a name of its own
  abbrev pub one_aim_read : Draft → List Node → Result Aim ReadError
  one_aim_read d nodes =
      let name = first_token tokens symbol.AIM_NAME nodes in
      unless (told_if (is_some (place_of (text_of bytes name) d.aims.names)) (name_refusal bytes name))
      (then_read (aim_over d name nodes) (variables_read d unbound (variable_nodes nodes)))

  abbrev pub aim_read : Draft → List Node → Result Draft ReadError
  aim_read d nodes = then_read (aim_declared d) (one_aim_read d nodes)

  -- ## Items, in the order of the text

  abbrev pub item_read : Draft → Node → Result Draft ReadError
  item_read d node =
      cond (is_sort node) (sort_read d (children_of node))
      (cond (kind_of node == terminal.SUBSORT) (subsort_read d (children_of node))
      (cond (is_op node) (op_read d (children_of node))
      (cond (is_eq node) (equation_read d (children_of node))
      (cond (is_strand node) (strand_read d (kind_of node == terminal.INTRUDER) (children_of node))
      (cond (is_aim node) (aim_read d (children_of node)) (Ok d))))))

  abbrev pub items_read : Draft → List Node → Result Draft ReadError
  items_read d [] = Ok d
  items_read d (n ∷ ns) = then_read (λ e. items_read e ns) (item_read d n)

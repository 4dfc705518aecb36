-- Each item that is read keeps the module well formed.
use Rattle.std.proofs.Common.{◌≡◌, ℕ, zero, suc, ◌+◌, ◌<◌, ◌≤◌, ◌==◌, ◌&&◌, ◌||◌, not, nat_lt, Bool, true, false, cond, if◌then◌else◌, List, [], ◌∷◌, ◌++◌, Option, None, Some, Result, Ok, Err, map, filter, length, replicate, refl, ap, sym, ◌∙◌, subst, arith, is_some, length-append, bytes_eq, ⊎_elim}
use Rattle.std.specs.Prelude.{slice_get}
use Rattle.std.specs.Option.{option_and_then}
use Rattle.std.proofs.lemmas.List.{length-map, length-replicate, get_or-replicate}
use Rattle.std.proofs.lemmas.List.Elements.{Contains-push_cases, Contains-append_cases}
use Rattle.npa_syntax.specs.declared.node.Node.{Node}
use Rattle.npa_syntax.specs.Nodes.{children_of}
use Rattle.npa_text.specs.declared.token.Token.{Token}
use Rattle.npa_text.specs.declared.token.Raw.{Raw}
use Rattle.npa_text.specs.declared.terminals.TheConstants as terminal
use Rattle.npa_text.specs.declared.symbols.TheConstants as symbol
use Rattle.npa_text.specs.Raws.{token_at}
use Rattle.npa_text.specs.Texts.{text_of, number_of as number_in}
use Rattle.npa_term.specs.declared.term.Term.{Term}
use Rattle.npa_sig.specs.declared.meaning.Scoped.{Scoped}
use Rattle.npa_sig.specs.declared.signature.OpDecl.{OpDecl}
use Rattle.npa_sig.specs.declared.protocol.Equation.{Equation}
use Rattle.npa_sig.specs.declared.protocol.Event.{Event}
use Rattle.npa_sig.specs.declared.protocol.Strand.{Strand}
use Rattle.npa_sig.specs.declared.fault.SigFail.{SigFail}
use Rattle.npa_sig.specs.declared.fault.SigFail.TheVariants as sig_fail
use Rattle.npa_sig.specs.Signature.{Signature, number_of, is_pair as is_sort_pair, next_fault}
use Rattle.npa_names.specs.Names.{place_of}
use Rattle.npa_sig.specs.Operators.{HasSorts}
use Rattle.npa_sig.specs.Sorting.{is_sort as is_sort_number, is_below, all_below}
use Rattle.npa_term.specs.Parts.{least_sort as sort_of}
use Rattle.npa_sig.specs.Meaning.{read, sort_at, one_fits}
use Rattle.npa_sig.proofs.Sorted.{told_answer}
use Rattle.npa_model.specs.declared.aim.Part.{Part}
use Rattle.npa_model.specs.declared.aim.Aim.{Aim}
use Rattle.npa_sig.specs.Parameters.{param_sorts}
use Rattle.npa_model.specs.WellFormed.{IsWellFormedPart, IsWellFormedAim}
use Rattle.npa_sig.specs.WellFormed.{IsTermOver, IsMessageOver, AreSorts, IsWellFormedEquation, IsWellFormedStrand}
use Rattle.npa_module.specs.declared.source.ReadError.{ReadError}
use Rattle.npa_module.specs.declared.draft.Draft.{Draft}
use Rattle.npa_module.specs.declared.scopes.Binders.{Binders}
use Rattle.npa_reading.specs.Trees.{has, all_with, kind_of, word_at, first_token, raw_below, after}
use Rattle.npa_module.specs.Drafts.{strand_number}
use Rattle.npa_reading.specs.Reading.{told_if, then_read, in_front}
use Rattle.npa_module.specs.Refusals.{name_refusal, sort_refusal}
use Rattle.npa_limits.specs.Limits.{number, is_known, is_strand_part, params_of}
use Rattle.npa_module.specs.Items.{unbound, bound, sort_in, met, occurring, words_in, equation_with, right_read, equation_over, one_equation_read, behind, is_taken, scope_from, scope_of, parameters, variable_nodes, fresh_nodes, event_nodes, part_nodes, parameter_nodes, is_pair, one_sort_read, not_fresh, op_with, op_over, op_fault, operator_read, fresh_read, variable_read, variables_read, term_read, message_read, event_with, event_read, events_read, strand_with, strand_over, strand_behind, one_strand_read, argument_fault, argument_read, arguments_read, strand_part_with, strand_part_over, strand_part_at, strand_part_read, known_part, part_read, parts_read, aim_with, aim_over, one_aim_read}
use Rattle.npa_module.specs.Rooms.{IsNamed}
use Rattle.npa_module.proofs.Growth.{ok_unless, ok_then, same_length}
use Rattle.npa_module.proofs.Formed.{OkOf, got_contained, ok_is, none_unless, untold, untold_first, untold_rest, EachOf, each_member, each_read, sort_is, sort_is_number, pair_is, read_ok, term_over, message_over}

both : (a b : Bool) → a ≡ true → b ≡ true → (a && b) ≡ true
both true true p q = refl
both true false p q = cc
both false b p q = cc

not_false : (b : Bool) → not b ≡ false → b ≡ true
not_false true e = refl
not_false false e = cc

pub neither_first : (a b : Bool) → (a || b) ≡ false → a ≡ false
neither_first true b e = cc
neither_first false b e = refl

pub neither_second : (a b : Bool) → (a || b) ≡ false → b ≡ false
neither_second true b e = cc
neither_second false b e = e

unless_and : (a b : Bool) → (a && not b) ≡ false → a ≡ true → b ≡ true
unless_and true true e t = refl
unless_and true false e t = cc
unless_and false b e t = cc

at_most_not_less : (m n : ℕ) → nat_lt m n ≡ false → n ≤ m
at_most_not_less m n e = grind arith

one_is_sort : (n : ℕ) → nat_lt 1 (n + 2) ≡ true
one_is_sort n = grind arith

-- ## Variables and fresh values

-- the sorts are sorts, one for each name
pub record IsBound (sig : Signature) (b : Binders) : Type 0 where
  pub sorts : AreSorts sig b.sorts
  pub same : length b.names ≡ length b.sorts

pub none_bound : (sig : Signature) (b : Binders) → b.names ≡ [] → b.sorts ≡ [] → IsBound sig b
none_bound sig b n s = record {
  sorts = λ x h. let lt = h.1 in let none : length b.sorts ≡ 0 = ap length s in absurd (let no : ⊥ = omega (arith, lt, none) in no);
  same = ap length n ∙ sym (ap length s);
}

sorts_with : (sig : Signature) (ss : List ℕ) (s : ℕ) → AreSorts sig ss → is_sort_number sig s ≡ true → AreSorts sig (ss ++ s ∷ [])
sorts_with sig ss s are is x h = ⊎_elim (λ c. are x c) (λ q. subst (λ n. is_sort_number sig n ≡ true) q is) (Contains-push_cases ss s x h)

fresh_sorts : (sig : Signature) (ss : List ℕ) (n : ℕ) → AreSorts sig ss → AreSorts sig (ss ++ replicate n 1)
fresh_sorts sig ss n are x h =
    ⊎_elim (λ c. are x c)
    (λ c.
    let lt = c.1 in
    let ones : List ℕ = replicate n 1 in
    let long : length ones ≡ n = length-replicate n 1 in
    let inside : c.0 < n = omega (arith, lt, long) in
    let one : 1 ≡ x = sym (get_or-replicate n c.0 1 x inside) ∙ c.2 in
    subst (λ m. is_sort_number sig m ≡ true) one (one_is_sort sig.sorts.declared))
    (Contains-append_cases ss (replicate n 1) x h)

module _ (bytes : List ℕ) (tokens : List Token) where
  pub fresh_count : (sig : Signature) (ns : List Node) (b c : Binders) → fresh_read bytes tokens sig b ns ≡ Ok c → length c.names ≡ length b.names + length ns
  fresh_count sig [] b c e = let q : b ≡ c = cc in let n : length b.names ≡ length c.names = ap (λ (x : Binders). length x.names) q in omega (arith, n)
  fresh_count sig (n ∷ ns) b c e =
      let rest : length c.names ≡ length (bound b (word_at bytes tokens n) 1).names + length ns = fresh_count sig ns (bound b (word_at bytes tokens n) 1) c (ok_unless _ _ c e) in
      let one : length (b.names ++ word_at bytes tokens n ∷ []) ≡ length b.names + 1 = length-append b.names (word_at bytes tokens n ∷ []) in
      omega (arith, rest, one)

  module _ (d : Draft) (named : IsNamed d) where
    pub record Bounds (b c : Binders) (n : ℕ) : Type 0 where
      pub bound_is : IsBound d.sig c
      pub count : length c.names ≡ length b.names + n

    variable_bound : (b c : Binders) (n : Node) → IsBound d.sig b → variable_read bytes tokens d b n ≡ Ok c → Bounds b c 1
    variable_bound b c n is e =
        let word : List ℕ = word_at bytes tokens n in
        let inner : then_read (λ sort. OkOf (bound b (word_at bytes tokens n) sort)) (one_sort_read bytes d.sorts (first_token tokens symbol.VARIABLE_SORT (children_of n))) ≡ Ok c =
        ok_unless (told_if (is_taken d.sig b.earlier (word_at bytes tokens n)) (name_refusal bytes (token_at tokens n)))
        (then_read (λ sort. OkOf (bound b (word_at bytes tokens n) sort)) (one_sort_read bytes d.sorts (first_token tokens symbol.VARIABLE_SORT (children_of n)))) c e in
        let s = ok_then (λ sort. OkOf (bound b (word_at bytes tokens n) sort)) (one_sort_read bytes d.sorts (first_token tokens symbol.VARIABLE_SORT (children_of n))) c inner in
        let same : bound b (word_at bytes tokens n) s.value ≡ c = ok_is _ c s.gives in
        let one : length (b.names ++ word_at bytes tokens n ∷ []) ≡ length b.names + 1 = length-append b.names (word_at bytes tokens n ∷ []) in
        let two : length (b.sorts ++ s.value ∷ []) ≡ length b.sorts + 1 = length-append b.sorts (s.value ∷ []) in
        let even = is.same in
        subst (λ x. Bounds b x 1) same (record {
          bound_is = record { sorts = sorts_with d.sig b.sorts s.value is.sorts (sort_is_number bytes d named (first_token tokens symbol.VARIABLE_SORT (children_of n)) s.value s.is); same = omega (arith, one, two, even) };
          count = one;
        })

    vars_bound : (ns : List Node) (b c : Binders) → IsBound d.sig b → variables_read bytes tokens d b ns ≡ Ok c → Bounds b c (length ns)
    vars_bound [] b c is e = let q : b ≡ c = cc in subst (λ x. Bounds b x 0) q (record { bound_is = is; count = omega arith })
    vars_bound (n ∷ ns) b c is e =
        let v = ok_then (λ m. variables_read bytes tokens d m ns) (variable_read bytes tokens d b n) c e in
        let first = variable_bound b v.value n is v.is in
        let rest = vars_bound ns v.value c first.bound_is v.gives in
        let p = first.count in
        let q = rest.count in
        record { bound_is = rest.bound_is; count = omega (arith, p, q) }

    -- ## An operator

    pub record IsGoodDecl (decl : OpDecl) : Type 0 where
      pub sorts : HasSorts d.sig.sorts decl
      pub pair : decl.«com» ≡ true → is_sort_pair decl.args ≡ true
      pub declarable : next_fault d.sig decl ≡ None

    -- none of the tests of a signature refuses it
    none_refused : (a b c : Bool) (x y z : SigFail) → a ≡ false → b ≡ false → c ≡ false → cond a (Some x) (cond b (Some y) (cond c (Some z) None)) ≡ None
    none_refused true b c x y z p q r = cc
    none_refused false true c x y z p q r = cc
    none_refused false false true x y z p q r = cc
    none_refused false false false x y z p q r = refl

    kept_pair : (a b : Bool) → (a ≡ true → b ≡ true) → (a && not b) ≡ false
    kept_pair true true f = refl
    kept_pair true false f = sym (f refl)
    kept_pair false b f = refl

    got_each : (P : ℕ → Type 0) (xs : List ℕ) → EachOf P xs → (k s : ℕ) → slice_get xs k ≡ Some s → P s
    got_each P [] each k s e = absurd (cc)
    got_each P (x ∷ xs) each zero s e = let q : x ≡ s = cc in subst P q each.0
    got_each P (x ∷ xs) each (suc k) s e = got_each P xs each.1 k s e

    pub operator_formed : (nodes : List Node) (decl : OpDecl) → operator_read bytes tokens d nodes ≡ Ok decl → IsGoodDecl decl
    operator_formed nodes decl e =
        let name = first_token tokens symbol.OPERATOR_NAME nodes in
        let commutes = has symbol.COMMUTATIVE nodes in
        let args = all_with symbol.ARGUMENT_SORT nodes in
        let none = none_unless (op_fault bytes tokens d name commutes args) _ decl e in
        let a = ok_then (op_over bytes tokens d name commutes nodes) _ decl (ok_unless _ _ decl e) in
        let r = ok_then (op_with bytes name commutes a.value) _ decl a.gives in
        let told = first_token tokens symbol.RESULT_SORT nodes in
        let s = ok_then (not_fresh bytes (first_token tokens symbol.RESULT_SORT nodes)) (one_sort_read bytes d.sorts (first_token tokens symbol.RESULT_SORT nodes)) r.value r.is in
        let same_sort : s.value ≡ r.value = ok_is s.value r.value (ok_unless _ _ r.value s.gives) in
        let result_is : r.value < d.sig.sorts.declared + 2 = subst (λ n. n < d.sig.sorts.declared + 2) same_sort (sort_is bytes d named (first_token tokens symbol.RESULT_SORT nodes) s.value s.is) in
        let apart : (r.value == 1) ≡ false = ap (λ n. n == 1) (sym same_sort) ∙ untold (s.value == 1) _ (none_unless _ _ r.value s.gives) in
        let new : is_some (number_of d.sig (text_of bytes name)) ≡ false =
        neither_first (is_some (number_of d.sig (text_of bytes name))) (is_some (place_of (text_of bytes name) d.strands.params)) (untold_first _ _ _ none) in
        let each : EachOf (λ n. n < d.sig.sorts.declared + 2) a.value =
        each_read (λ n. n < d.sig.sorts.declared + 2) (λ n. one_sort_read bytes d.sorts (token_at tokens n)) args a.value (λ n x q. sort_is bytes d named (token_at tokens n) x q) a.is in
        let pair : commutes ≡ true → is_sort_pair a.value ≡ true =
        λ t. pair_is bytes tokens d.sorts args a.value (unless_and commutes (is_pair (map (word_at bytes tokens) args)) (untold_first (commutes && not (is_pair (map (word_at bytes tokens) args))) (sort_refusal bytes name) []
        (untold_rest (is_some (number_of d.sig (text_of bytes name)) || is_some (place_of (text_of bytes name) d.strands.params)) (name_refusal bytes name)
        (told_if (commutes && not (is_pair (map (word_at bytes tokens) args))) (sort_refusal bytes name) ∷ []) none)) t) a.is in
        subst IsGoodDecl (ok_is _ decl r.gives) (record {
          sorts = (result_is, λ k n q. got_each (λ m. m < d.sig.sorts.declared + 2) a.value each k n q);
          pair = pair;
          declarable = none_refused (r.value == 1) (commutes && not (is_sort_pair a.value)) (is_some (number_of d.sig (text_of bytes name)))
              (sig_fail.Fresh (length d.sig.ops)) (sig_fail.Comm (length d.sig.ops)) (sig_fail.Twice (length d.sig.ops)) apart (kept_pair commutes (is_sort_pair a.value) pair) new;
        })

    pub operator_sorts : (nodes : List Node) (decl : OpDecl) → operator_read bytes tokens d nodes ≡ Ok decl → HasSorts d.sig.sorts decl
    operator_sorts nodes decl e = (operator_formed nodes decl e).sorts

    pub operator_declarable : (nodes : List Node) (decl : OpDecl) → operator_read bytes tokens d nodes ≡ Ok decl → next_fault d.sig decl ≡ None
    operator_declarable nodes decl e = (operator_formed nodes decl e).declarable

    -- ## A strand

    pub record IsGoodStrand (strand : Strand) : Type 0 where
      pub formed : IsWellFormedStrand d.sig strand
      pub named_so : length strand.names ≡ length (param_sorts strand)

    event_formed : (ns : List (List ℕ)) (ss : List ℕ) → AreSorts d.sig ss → (n : Node) (event : Event) → event_read bytes tokens d.sig (scope_from 0 ns ss) n ≡ Ok event → IsMessageOver d.sig ss event.msg
    event_formed ns ss are n event e =
        let m = ok_then (event_with n) _ event e in
        subst (λ (x : Event). IsMessageOver d.sig ss x.msg) (ok_is _ event m.gives) (message_over bytes d.sig ns ss are (raw_below tokens symbol.TERM (children_of n)) m.value m.is)

    -- ## An equation

    met_bound : (vars found : Binders) (word : List ℕ) (o : Option ℕ) → ((s : ℕ) → o ≡ Some s → is_sort_number d.sig s ≡ true) → IsBound d.sig found → IsBound d.sig (met found word o)
    met_bound vars found word None sort is = is
    met_bound vars found word (Some s) sort is = split (is_some (place_of word found.earlier))
      where
        split : (b : Bool) → IsBound d.sig (if b then found else bound found word s)
        split true = is
        split false =
            let one : length (found.names ++ word ∷ []) ≡ length found.names + 1 = length-append found.names (word ∷ []) in
            let two : length (found.sorts ++ s ∷ []) ≡ length found.sorts + 1 = length-append found.sorts (s ∷ []) in
            let even = is.same in
            record { sorts = sorts_with d.sig found.sorts s is.sorts (sort s refl); same = omega (arith, one, two, even) }

    sort_in_is : (vars : Binders) (word : List ℕ) → AreSorts d.sig vars.sorts → (s : ℕ) → sort_in vars word ≡ Some s → is_sort_number d.sig s ≡ true
    sort_in_is vars word are s e = split (place_of word vars.names) e
      where
        split : (o : Option ℕ) → option_and_then (slice_get vars.sorts) o ≡ Some s → is_sort_number d.sig s ≡ true
        split None q = absurd (cc)
        split (Some k) q = are s (got_contained vars.sorts k s q)

    occurring_bound : (vars : Binders) (words : List (List ℕ)) (found : Binders) → AreSorts d.sig vars.sorts → IsBound d.sig found → IsBound d.sig (occurring vars found words)
    occurring_bound vars [] found are is = is
    occurring_bound vars (w ∷ ws) found are is =
        occurring_bound vars ws (met found w (sort_in vars w)) are (met_bound vars found w (sort_in vars w) (sort_in_is vars w are) is)

    pub equation_formed : (nodes : List Node) (equation : Equation) → one_equation_read bytes tokens d nodes ≡ Ok equation → IsWellFormedEquation d.sig equation
    equation_formed nodes equation e =
        let left : Raw = raw_below tokens symbol.TERM nodes in
        let right : Raw = raw_below tokens symbol.TERM (after symbol.EQUALS_MARK nodes) in
        let vars = ok_then (equation_over bytes tokens d nodes) (variables_read bytes tokens d unbound (variable_nodes nodes)) equation e in
        let bounds = vars_bound (variable_nodes nodes) unbound vars.value (none_bound d.sig unbound refl refl) vars.is in
        let words : List (List ℕ) = words_in bytes left ++ words_in bytes right in
        let found : Binders = occurring vars.value unbound words in
        let own = occurring_bound vars.value words unbound bounds.bound_is.sorts (none_bound d.sig unbound refl refl) in
        let l = ok_then (right_read bytes d.sig (scope_of found) right) (message_read bytes d.sig (scope_of found) left) equation vars.gives in
        let r = ok_then (equation_with l.value) (message_read bytes d.sig (scope_of found) right) equation l.gives in
        subst (IsWellFormedEquation d.sig) (ok_is _ equation r.gives) (record {
          sorts = found.sorts;
          are_sorts = own.sorts;
          left = message_over bytes d.sig found.names found.sorts own.sorts left l.value l.is;
          right = message_over bytes d.sig found.names found.sorts own.sorts right r.value r.is;
        })

    pub strand_formed : (intruder : Bool) (nodes : List Node) (strand : Strand) → length (event_nodes nodes) ≤ 32 → params_of nodes ≤ 64 → one_strand_read bytes tokens d intruder nodes ≡ Ok strand → IsGoodStrand strand
    strand_formed intruder nodes strand few_events few_params e =
        let name = first_token tokens symbol.STRAND_NAME nodes in
        let inner : then_read (strand_behind bytes tokens d intruder name nodes) (fresh_read bytes tokens d.sig unbound (fresh_nodes nodes)) ≡ Ok strand =
        ok_unless (told_if (is_some (strand_number d.strands.names (text_of bytes name))) (name_refusal bytes name)) (then_read (strand_behind bytes tokens d intruder name nodes) (fresh_read bytes tokens d.sig unbound (fresh_nodes nodes))) strand e in
        let fresh = ok_then (strand_behind bytes tokens d intruder name nodes) (fresh_read bytes tokens d.sig unbound (fresh_nodes nodes)) strand inner in
        let vars = ok_then (strand_over bytes tokens d intruder name nodes fresh.value.names) (variables_read bytes tokens d (behind fresh.value) (variable_nodes nodes)) strand fresh.gives in
        let events = ok_then (strand_with bytes intruder name fresh.value.names vars.value) (events_read bytes tokens d.sig (parameters fresh.value.names vars.value) (event_nodes nodes)) strand vars.gives in
        let bounds = vars_bound (variable_nodes nodes) (behind fresh.value) vars.value (none_bound d.sig (behind fresh.value) refl refl) vars.is in
        let count = length fresh.value.names in
        let ns : List (List ℕ) = vars.value.names ++ fresh.value.names in
        let ss : List ℕ = vars.value.sorts ++ replicate (length fresh.value.names) 1 in
        let are : AreSorts d.sig ss = fresh_sorts d.sig vars.value.sorts (length fresh.value.names) bounds.bound_is.sorts in
        let each : EachOf (λ (x : Event). IsMessageOver d.sig (vars.value.sorts ++ replicate (length fresh.value.names) 1) x.msg) events.value =
        each_read (λ (x : Event). IsMessageOver d.sig (vars.value.sorts ++ replicate (length fresh.value.names) 1) x.msg)
        (event_read bytes tokens d.sig (scope_from 0 (vars.value.names ++ fresh.value.names) (vars.value.sorts ++ replicate (length fresh.value.names) 1))) (event_nodes nodes) events.value
        (λ n x q. event_formed (vars.value.names ++ fresh.value.names) (vars.value.sorts ++ replicate (length fresh.value.names) 1) are n x q) events.is in
        let many : length events.value ≡ length (event_nodes nodes) =
        same_length (map (event_read bytes tokens d.sig (scope_from 0 (vars.value.names ++ fresh.value.names) (vars.value.sorts ++ replicate (length fresh.value.names) 1))) (event_nodes nodes)) events.value events.is
        ∙ length-map (event_nodes nodes) (event_read bytes tokens d.sig (scope_from 0 (vars.value.names ++ fresh.value.names) (vars.value.sorts ++ replicate (length fresh.value.names) 1))) in
        let fresh_many : length fresh.value.names ≡ 0 + length (fresh_nodes nodes) = fresh_count d.sig (fresh_nodes nodes) unbound fresh.value fresh.is in
        let vars_many = bounds.count in
        let even = bounds.bound_is.same in
        let long_names : length (vars.value.names ++ fresh.value.names) ≡ length vars.value.names + length fresh.value.names = length-append vars.value.names fresh.value.names in
        let ones : List ℕ = replicate (length fresh.value.names) 1 in
        let long_sorts : length (vars.value.sorts ++ ones) ≡ length vars.value.sorts + length ones = length-append vars.value.sorts ones in
        let copies : length ones ≡ length fresh.value.names = length-replicate (length fresh.value.names) 1 in
        let within : length vars.value.sorts + length fresh.value.names ≤ 64 = omega (arith, few_params, fresh_many, vars_many, even) in
        subst IsGoodStrand (ok_is _ strand events.gives) (record {
          formed = record {
            sorts = bounds.bound_is.sorts;
            messages = λ x h. each_member (λ (y : Event). IsMessageOver d.sig (vars.value.sorts ++ replicate (length fresh.value.names) 1) y.msg) events.value each x h;
            countable = omega (arith, many, few_events);
            params = omega (arith, long_sorts, copies, within);
          };
          named_so = omega (arith, long_names, long_sorts, copies, even);
        })

    -- ## An aim

    module _ (ns : List (List ℕ)) (ss : List ℕ) (are : AreSorts d.sig ss) where
      scope : List Scoped
      scope = scope_from 0 ns ss

      fits_below : (o : Option ℕ) (t s : ℕ) → o ≡ Some t → one_fits d.sig o s ≡ true → is_below d.sig t s ≡ true
      fits_below o t s is e = sym (ap (λ x. one_fits d.sig x s) is) ∙ e

      argument_formed : (name : List ℕ) (s : ℕ) (n : Node) (t : Term) → argument_read bytes tokens d.sig (scope_from 0 ns ss) name s n ≡ Ok t → IsTermOver d.sig ss t × (is_below d.sig (sort_of t) s ≡ true)
      argument_formed name s n t e =
          let raw = raw_below tokens symbol.TERM (children_of n) in
          let none = none_unless (argument_fault bytes tokens d.sig (scope_from 0 ns ss) name s n) _ t e in
          let term : term_read bytes d.sig (scope_from 0 ns ss) raw ≡ Ok t = ok_unless _ _ t e in
          let fit : one_fits d.sig (sort_at d.sig (scope_from 0 ns ss) bytes raw) s ≡ true =
          not_false (one_fits d.sig (sort_at d.sig (scope_from 0 ns ss) bytes raw) s)
          (untold_first (not (one_fits d.sig (sort_at d.sig (scope_from 0 ns ss) bytes raw) s)) (sort_refusal bytes (token_at tokens n)) []
          (untold_rest (not (bytes_eq (word_at bytes tokens n) name)) (name_refusal bytes (token_at tokens n))
          (told_if (not (one_fits d.sig (sort_at d.sig (scope_from 0 ns ss) bytes raw) s)) (sort_refusal bytes (token_at tokens n)) ∷ []) none)) in
          let told : sort_at d.sig (scope_from 0 ns ss) bytes raw ≡ Some (sort_of t) = told_answer d.sig (scope_from 0 ns ss) bytes (Ok t) raw (read_ok (read d.sig (scope_from 0 ns ss) bytes raw) t term) in
          (term_over bytes d.sig ns ss are raw t term, fits_below (sort_at d.sig (scope_from 0 ns ss) bytes raw) (sort_of t) s told fit)

      abbrev AreArguments : List ℕ → List Term → Type 0
      AreArguments sorts args = EachOf (IsTermOver d.sig ss) args × (all_below d.sig (map sort_of args) sorts ≡ true)

      arguments_formed : (names : List (List ℕ)) (sorts : List ℕ) (nodes : List Node) (args : List Term) → length names ≡ length sorts → length names ≤ length nodes →
          arguments_read bytes tokens d.sig (scope_from 0 ns ss) names sorts nodes ≡ Ok args → AreArguments sorts args
      arguments_formed [] [] [] args even enough e = let q : [] ≡ args = cc in subst (AreArguments []) q (tt, refl)
      arguments_formed [] (s ∷ sorts) [] args even enough e = absurd (let no : ⊥ = omega (arith, even) in no)
      arguments_formed (p ∷ names) sorts [] args even enough e = absurd (let no : ⊥ = omega (arith, enough) in no)
      arguments_formed [] sorts (n ∷ nodes) args even enough e = absurd (cc)
      arguments_formed (p ∷ names) [] (n ∷ nodes) args even enough e = absurd (cc)
      arguments_formed (p ∷ names) (s ∷ sorts) (n ∷ nodes) args even enough e =
          split (argument_read bytes tokens d.sig (scope_from 0 ns ss) p s n) (arguments_read bytes tokens d.sig (scope_from 0 ns ss) names sorts nodes) refl
          (λ us q. arguments_formed names sorts nodes us (omega (arith, even)) (omega (arith, enough)) q) e
        where
          split : (r : Result Term ReadError) (o : Result (List Term) ReadError) → argument_read bytes tokens d.sig (scope_from 0 ns ss) p s n ≡ r →
              ((us : List Term) → o ≡ Ok us → AreArguments sorts us) → in_front r o ≡ Ok args → AreArguments (s ∷ sorts) args
          split (Ok t) (Ok us) is rest q =
              let same : t ∷ us ≡ args = cc in
              let one = argument_formed p s n t is in
              let more = rest us refl in
              subst (AreArguments (s ∷ sorts)) same ((one.0, more.0), both (is_below d.sig (sort_of t) s) (all_below d.sig (map sort_of us) sorts) one.1 more.1)
          split (Ok t) (Err y) is rest q = absurd (cc)
          split (Err x) o is rest q = absurd (cc)

      module _ (good : (k : ℕ) (strand : Strand) → slice_get d.strands.list k ≡ Some strand → IsGoodStrand strand) where
        over_formed : (nodes : List Node) (k : ℕ) (p : Part) (o : Option Strand) → slice_get d.strands.list k ≡ o → strand_part_over bytes tokens d (scope_from 0 ns ss) nodes k o ≡ Ok p → IsWellFormedPart d.sig d.strands.list ss p
        over_formed nodes k p None is e = absurd (cc)
        over_formed nodes k p (Some strand) is e =
            let bar = number_in bytes (first_token tokens symbol.BAR nodes) in
            let short = nat_lt (length (parameter_nodes nodes)) (length strand.names) in
            let long = nat_lt (length strand.events) (number_in bytes (first_token tokens symbol.BAR nodes)) in
            let none : (nat_lt (length (parameter_nodes nodes)) (length strand.names) || nat_lt (length strand.events) (number_in bytes (first_token tokens symbol.BAR nodes))) ≡ false =
            untold (nat_lt (length (parameter_nodes nodes)) (length strand.names) || nat_lt (length strand.events) (number_in bytes (first_token tokens symbol.BAR nodes))) (name_refusal bytes (first_token tokens symbol.PART_STRAND nodes)) (none_unless _ _ p e) in
            let enough : length strand.names ≤ length (parameter_nodes nodes) = at_most_not_less (length (parameter_nodes nodes)) (length strand.names) (neither_first short long none) in
            let within : number_in bytes (first_token tokens symbol.BAR nodes) ≤ length strand.events = at_most_not_less (length strand.events) (number_in bytes (first_token tokens symbol.BAR nodes)) (neither_second short long none) in
            let a = ok_then (strand_part_with k bar) _ p (ok_unless _ _ p e) in
            let args = arguments_formed strand.names (param_sorts strand) (parameter_nodes nodes) a.value (good k strand is).named_so enough a.is in
            subst (IsWellFormedPart d.sig d.strands.list ss) (ok_is _ p a.gives) (record {
              strand = strand;
              there = is;
              within = within;
              terms = λ t h. each_member (IsTermOver d.sig ss) a.value args.0 t h;
              below = args.1;
            })

        at_formed : (nodes : List Node) (p : Part) (o : Option ℕ) → strand_part_at bytes tokens d (scope_from 0 ns ss) nodes o ≡ Ok p → IsWellFormedPart d.sig d.strands.list ss p
        at_formed nodes p None e = absurd (cc)
        at_formed nodes p (Some k) e = over_formed nodes k p (slice_get d.strands.list k) refl e

        part_formed : (n : Node) (p : Part) → part_read bytes tokens d (scope_from 0 ns ss) n ≡ Ok p → IsWellFormedPart d.sig d.strands.list ss p
        part_formed n p e = split (kind_of n == terminal.KNOWN) e
          where
            split : (b : Bool) → cond b (then_read known_part (message_read bytes d.sig (scope_from 0 ns ss) (raw_below tokens symbol.TERM (children_of n)))) (strand_part_read bytes tokens d (scope_from 0 ns ss) (children_of n)) ≡ Ok p →
                IsWellFormedPart d.sig d.strands.list ss p
            split true q =
                let m = ok_then known_part _ p q in
                subst (IsWellFormedPart d.sig d.strands.list ss) (ok_is _ p m.gives) (message_over bytes d.sig ns ss are (raw_below tokens symbol.TERM (children_of n)) m.value m.is)
            split false q = at_formed (children_of n) p (strand_number d.strands.names (text_of bytes (first_token tokens symbol.PART_STRAND (children_of n)))) q

    parts_split : (ns : List Node) → length ns ≡ number is_strand_part ns + number is_known ns
    parts_split [] = refl
    parts_split (n ∷ ns) = split (is_known n) (parts_split ns)
      where
        split : (b : Bool) → length ns ≡ number is_strand_part ns + number is_known ns → suc (length ns) ≡ length (cond (not b) (n ∷ filter is_strand_part ns) (filter is_strand_part ns)) + length (cond b (n ∷ filter is_known ns) (filter is_known ns))
        split true rest = omega (arith, rest)
        split false rest = omega (arith, rest)

    pub aim_formed : (good : (k : ℕ) (strand : Strand) → slice_get d.strands.list k ≡ Some strand → IsGoodStrand strand) →
        (nodes : List Node) (aim : Aim) → number is_strand_part (part_nodes nodes) ≤ 32 → number is_known (part_nodes nodes) ≤ 64 → 1 ≤ length (part_nodes nodes) →
        one_aim_read bytes tokens d nodes ≡ Ok aim → IsWellFormedAim d.sig d.strands.list aim
    aim_formed good nodes aim few_strands few_known some e =
        let name = first_token tokens symbol.AIM_NAME nodes in
        let inner : then_read (aim_over bytes tokens d name nodes) (variables_read bytes tokens d unbound (variable_nodes nodes)) ≡ Ok aim =
        ok_unless (told_if (is_some (place_of (text_of bytes name) d.aims.names)) (name_refusal bytes name)) (then_read (aim_over bytes tokens d name nodes) (variables_read bytes tokens d unbound (variable_nodes nodes))) aim e in
        let vars = ok_then (aim_over bytes tokens d name nodes) (variables_read bytes tokens d unbound (variable_nodes nodes)) aim inner in
        let parts = ok_then (aim_with bytes name vars.value) (parts_read bytes tokens d (scope_of vars.value) (part_nodes nodes)) aim vars.gives in
        let bounds = vars_bound (variable_nodes nodes) unbound vars.value (none_bound d.sig unbound refl refl) vars.is in
        let each : EachOf (IsWellFormedPart d.sig d.strands.list vars.value.sorts) parts.value =
        each_read (IsWellFormedPart d.sig d.strands.list vars.value.sorts) (part_read bytes tokens d (scope_from 0 vars.value.names vars.value.sorts)) (part_nodes nodes) parts.value
        (λ n p q. part_formed vars.value.names vars.value.sorts bounds.bound_is.sorts good n p q) parts.is in
        let many : length parts.value ≡ length (part_nodes nodes) =
        same_length (map (part_read bytes tokens d (scope_from 0 vars.value.names vars.value.sorts)) (part_nodes nodes)) parts.value parts.is
        ∙ length-map (part_nodes nodes) (part_read bytes tokens d (scope_from 0 vars.value.names vars.value.sorts)) in
        let both_kinds = parts_split (part_nodes nodes) in
        subst (IsWellFormedAim d.sig d.strands.list) (ok_is _ aim parts.gives) (record {
          sorts = bounds.bound_is.sorts;
          parts = λ p h. each_member (IsWellFormedPart d.sig d.strands.list vars.value.sorts) parts.value each p h;
          has_parts = omega (arith, some, many);
          few = omega (arith, many, both_kinds, few_strands, few_known);
        })

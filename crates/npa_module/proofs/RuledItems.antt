-- Each item that is read keeps the rules on names and the limits of numbers.
use Rattle.std.proofs.Common.{◌≡◌, ℕ, suc, ◌+◌, ◌≤◌, ◌==◌, ◌&&◌, ◌||◌, not, Bool, true, false, cond, List, [], ◌∷◌, ◌++◌, Option, None, Some, Result, Ok, Err, map, filter, length, replicate, refl, ap, sym, ◌∙◌, subst, arith, is_some, length-append, Contains, append_assoc, append-nil}
use Rattle.std.specs.Prelude.{slice_get}
use Rattle.std.proofs.lemmas.List.{length-map, length-replicate}
use Rattle.npa_syntax.specs.declared.node.Node.{Node}
use Rattle.npa_syntax.specs.Nodes.{children_of}
use Rattle.npa_text.specs.declared.token.Token.{Token}
use Rattle.npa_text.specs.declared.terminals.TheConstants as terminal
use Rattle.npa_text.specs.declared.symbols.TheConstants as symbol
use Rattle.npa_text.specs.Raws.{token_at}
use Rattle.npa_text.specs.Texts.{text_of, number_of as number_in}
use Rattle.npa_names.specs.Names.{place_of}
use Rattle.npa_sig.specs.declared.meaning.Scoped.{Scoped}
use Rattle.npa_sig.specs.declared.signature.OpDecl.{OpDecl}
use Rattle.npa_sig.specs.declared.protocol.Strand.{Strand}
use Rattle.npa_sig.specs.Parameters.{param_sorts}
use Rattle.npa_sig.specs.Signature.{Signature, number_of}
use Rattle.npa_model.specs.declared.aim.Part.{Part}
use Rattle.npa_model.specs.declared.aim.Aim.{Aim}
use Rattle.npa_module.specs.declared.source.ReadError.{ReadError}
use Rattle.npa_module.specs.declared.draft.Draft.{Draft}
use Rattle.npa_module.specs.declared.scopes.Binders.{Binders}
use Rattle.npa_reading.specs.Trees.{has, all_with, kind_of, word_at, first_token, raw_below}
use Rattle.npa_reading.specs.Reading.{told_if, then_read, in_front}
use Rattle.npa_limits.specs.Limits.{number, is_known, is_strand_part, params_of}
use Rattle.npa_module.specs.Drafts.{strand_number}
use Rattle.npa_module.specs.Refusals.{name_refusal, sort_refusal}
use Rattle.npa_module.specs.Items.{unbound, bound, behind, is_taken, is_pair, scope_of, parameters, variable_nodes, fresh_nodes, event_nodes, part_nodes, one_sort_read, result_read, op_with, op_over, op_fault, operator_read, sorts_read, fresh_read, variable_read, variables_read, message_read, events_read, strand_with, strand_over, strand_behind, one_strand_read, strand_part_with, strand_part_over, strand_part_at, strand_part_read, known_part, part_read, parts_read, aim_with, aim_over, one_aim_read}
use Rattle.npa_sig.specs.Rules.{IsName, AreNames, AreApart, IsNamedStrand, IsWithinOperator, IsWithinStrand}
use Rattle.npa_model.specs.Rules.{is_known_part, IsWithinAim}
use Rattle.npa_module.proofs.Growth.{ok_unless, ok_then, same_length, strand_events}
use Rattle.npa_module.proofs.Formed.{OkOf, ok_is, none_unless, untold, untold_first}
use Rattle.npa_module.proofs.FormedItems.{neither_first, neither_second, fresh_count}
use Rattle.npa_module.proofs.FormedModules.{last_or_earlier}
use Rattle.npa_module.proofs.PlainItems.{sorts_count}
use Rattle.npa_module.proofs.ItemNames.{in_tail}
use Rattle.npa_module.proofs.NameTables.{none_found, apart_more, moved, apart_moved}

-- ## Variables and fresh values

-- the names so far are names, all different, and none is that of an operator
record IsGoodBinders (sig : Signature) (front : List (List ℕ)) (b : Binders) : Type 0 where
  earlier : b.earlier ≡ front ++ b.names
  names : AreNames b.earlier
  apart : AreApart b.earlier
  no_operator : (k : ℕ) (name : List ℕ) → slice_get b.earlier k ≡ Some name → number_of sig name ≡ None
  even : length b.names ≡ length b.sorts

bound_good : (sig : Signature) (front : List (List ℕ)) (b : Binders) (name : List ℕ) (sort : ℕ) → IsGoodBinders sig front b → is_taken sig b.earlier name ≡ false → IsName name → IsGoodBinders sig front (bound b name sort)
bound_good sig front b name sort good free named =
    let out : is_some (place_of name b.earlier) ≡ false = neither_first (is_some (place_of name b.earlier)) (is_some (number_of sig name)) free in
    let none : number_of sig name ≡ None = none_found (number_of sig name) (neither_second (is_some (place_of name b.earlier)) (is_some (number_of sig name)) free) in
    let one : length (b.names ++ name ∷ []) ≡ length b.names + 1 = length-append b.names (name ∷ []) in
    let two : length (b.sorts ++ sort ∷ []) ≡ length b.sorts + 1 = length-append b.sorts (sort ∷ []) in
    let even = good.even in
    record {
      earlier = ap (λ (ns : List (List ℕ)). ns ++ name ∷ []) good.earlier ∙ append_assoc front b.names (name ∷ []);
      names = last_or_earlier IsName b.earlier name good.names named;
      apart = apart_more b.earlier name good.apart out;
      no_operator = last_or_earlier (λ (n : List ℕ). number_of sig n ≡ None) b.earlier name good.no_operator none;
      even = omega (arith, one, two, even);
    }

unbound_good : (sig : Signature) → IsGoodBinders sig [] unbound
unbound_good sig = record { earlier = refl; names = λ k name e. absurd (cc); apart = λ j k name e f. absurd (cc); no_operator = λ k name e. absurd (cc); even = refl }

module _ (bytes : List ℕ) (tokens : List Token) where
  abbrev AllNamed : List Node → Type 0
  AllNamed ns = (m : Node) → Contains ns m → IsName (word_at bytes tokens m)

  fresh_good : (sig : Signature) (front : List (List ℕ)) (ns : List Node) → AllNamed ns → (b c : Binders) → IsGoodBinders sig front b → fresh_read bytes tokens sig b ns ≡ Ok c → IsGoodBinders sig front c
  fresh_good sig front [] named b c good e = subst (IsGoodBinders sig front) (ok_is b c e) good
  fresh_good sig front (n ∷ ns) named b c good e =
      let next : Binders = bound b (word_at bytes tokens n) 1 in
      let taken : Bool = is_taken sig b.earlier (word_at bytes tokens n) in
      let refusal : ReadError = name_refusal bytes (token_at tokens n) in
      let free : is_taken sig b.earlier (word_at bytes tokens n) ≡ false =
      untold taken refusal (none_unless (told_if (is_taken sig b.earlier (word_at bytes tokens n)) (name_refusal bytes (token_at tokens n))) (fresh_read bytes tokens sig (bound b (word_at bytes tokens n) 1) ns) c e) in
      fresh_good sig front ns (λ m h. named m (in_tail n m ns h)) next c
      (bound_good sig front b (word_at bytes tokens n) 1 good free (named n (0, omega arith, refl)))
      (ok_unless (told_if (is_taken sig b.earlier (word_at bytes tokens n)) (name_refusal bytes (token_at tokens n))) (fresh_read bytes tokens sig (bound b (word_at bytes tokens n) 1) ns) c e)

  variable_good : (d : Draft) (front : List (List ℕ)) (n : Node) → IsName (word_at bytes tokens n) → (b c : Binders) → IsGoodBinders d.sig front b → variable_read bytes tokens d b n ≡ Ok c → IsGoodBinders d.sig front c
  variable_good d front n named b c good e =
      let read : Result Binders ReadError = then_read (λ sort. OkOf (bound b (word_at bytes tokens n) sort)) (one_sort_read bytes d.sorts (first_token tokens symbol.VARIABLE_SORT (children_of n))) in
      let free : is_taken d.sig b.earlier (word_at bytes tokens n) ≡ false =
      untold (is_taken d.sig b.earlier (word_at bytes tokens n)) (name_refusal bytes (token_at tokens n))
      (none_unless (told_if (is_taken d.sig b.earlier (word_at bytes tokens n)) (name_refusal bytes (token_at tokens n))) read c e) in
      let inner : then_read (λ sort. OkOf (bound b (word_at bytes tokens n) sort)) (one_sort_read bytes d.sorts (first_token tokens symbol.VARIABLE_SORT (children_of n))) ≡ Ok c =
      ok_unless (told_if (is_taken d.sig b.earlier (word_at bytes tokens n)) (name_refusal bytes (token_at tokens n))) read c e in
      let s = ok_then (λ sort. OkOf (bound b (word_at bytes tokens n) sort)) (one_sort_read bytes d.sorts (first_token tokens symbol.VARIABLE_SORT (children_of n))) c inner in
      let same : bound b (word_at bytes tokens n) s.value ≡ c = ok_is _ c s.gives in
      subst (IsGoodBinders d.sig front) same (bound_good d.sig front b (word_at bytes tokens n) s.value good free named)

  vars_good : (d : Draft) (front : List (List ℕ)) (ns : List Node) → AllNamed ns → (b c : Binders) → IsGoodBinders d.sig front b → variables_read bytes tokens d b ns ≡ Ok c → IsGoodBinders d.sig front c
  vars_good d front [] named b c good e = subst (IsGoodBinders d.sig front) (ok_is b c e) good
  vars_good d front (n ∷ ns) named b c good e =
      let v = ok_then (λ m. variables_read bytes tokens d m ns) (variable_read bytes tokens d b n) c e in
      vars_good d front ns (λ m h. named m (in_tail n m ns h)) v.value c (variable_good d front n (named n (0, omega arith, refl)) b v.value good v.is) v.gives

-- ## An operator

pub record IsRuledOperator (d : Draft) (decl : OpDecl) : Type 0 where
  pub name : IsName decl.name
  pub new : is_some (number_of d.sig decl.name) ≡ false
  pub apart : is_some (place_of decl.name d.strands.params) ≡ false
  pub args : IsWithinOperator decl

pub operator_ruled : (bytes : List ℕ) (tokens : List Token) (d : Draft) (nodes : List Node) (decl : OpDecl) → IsName (text_of bytes (first_token tokens symbol.OPERATOR_NAME nodes)) →
    length (all_with symbol.ARGUMENT_SORT nodes) ≤ 16 → operator_read bytes tokens d nodes ≡ Ok decl → IsRuledOperator d decl
operator_ruled bytes tokens d nodes decl named few e =
    let name = first_token tokens symbol.OPERATOR_NAME nodes in
    let commutes = has symbol.COMMUTATIVE nodes in
    let args = all_with symbol.ARGUMENT_SORT nodes in
    let fault : Option ReadError = op_fault bytes tokens d name commutes args in
    let inside : Result OpDecl ReadError = then_read (op_over bytes tokens d name commutes nodes) (sorts_read bytes tokens d.sorts args) in
    let none : op_fault bytes tokens d name commutes args ≡ None = none_unless fault inside decl e in
    let inner : then_read (op_over bytes tokens d name commutes nodes) (sorts_read bytes tokens d.sorts args) ≡ Ok decl = ok_unless fault inside decl e in
    let a = ok_then (op_over bytes tokens d name commutes nodes) (sorts_read bytes tokens d.sorts args) decl inner in
    let result : Result ℕ ReadError = result_read bytes d.sorts (first_token tokens symbol.RESULT_SORT nodes) in
    let r = ok_then (op_with bytes name commutes a.value) (result_read bytes d.sorts (first_token tokens symbol.RESULT_SORT nodes)) decl a.gives in
    let free : (is_some (number_of d.sig (text_of bytes name)) || is_some (place_of (text_of bytes name) d.strands.params)) ≡ false =
    untold_first (is_some (number_of d.sig (text_of bytes name)) || is_some (place_of (text_of bytes name) d.strands.params)) (name_refusal bytes name)
    (told_if (commutes && not (is_pair (map (word_at bytes tokens) args))) (sort_refusal bytes name) ∷ []) none in
    let many : length a.value ≡ length (all_with symbol.ARGUMENT_SORT nodes) =
    same_length (map (λ n. one_sort_read bytes d.sorts (token_at tokens n)) (all_with symbol.ARGUMENT_SORT nodes)) a.value a.is
    ∙ length-map (all_with symbol.ARGUMENT_SORT nodes) (λ n. one_sort_read bytes d.sorts (token_at tokens n)) in
    subst (IsRuledOperator d) (ok_is _ decl r.gives) (record {
      name = named;
      new = neither_first (is_some (number_of d.sig (text_of bytes name))) (is_some (place_of (text_of bytes name) d.strands.params)) free;
      apart = neither_second (is_some (number_of d.sig (text_of bytes name))) (is_some (place_of (text_of bytes name) d.strands.params)) free;
      args = omega (arith, many, few);
    })

-- ## A strand

pub record IsRuledStrand (d : Draft) (strand : Strand) : Type 0 where
  pub named : IsNamedStrand d.sig strand
  pub new : is_some (place_of strand.name d.strands.names) ≡ false
  pub few : length (param_sorts strand) ≤ 64

pub strand_ruled : (bytes : List ℕ) (tokens : List Token) (d : Draft) (intruder : Bool) (nodes : List Node) (strand : Strand) → IsName (text_of bytes (first_token tokens symbol.STRAND_NAME nodes)) →
    AllNamed bytes tokens (fresh_nodes nodes) → AllNamed bytes tokens (variable_nodes nodes) → params_of nodes ≤ 64 → one_strand_read bytes tokens d intruder nodes ≡ Ok strand → IsRuledStrand d strand
strand_ruled bytes tokens d intruder nodes strand named fresh_named vars_named few e =
    let name = first_token tokens symbol.STRAND_NAME nodes in
    let inside : Result Strand ReadError = then_read (strand_behind bytes tokens d intruder name nodes) (fresh_read bytes tokens d.sig unbound (fresh_nodes nodes)) in
    let out : is_some (strand_number d.strands.names (text_of bytes name)) ≡ false =
    untold (is_some (strand_number d.strands.names (text_of bytes name))) (name_refusal bytes name) (none_unless (told_if (is_some (strand_number d.strands.names (text_of bytes name))) (name_refusal bytes name)) inside strand e) in
    let inner : then_read (strand_behind bytes tokens d intruder name nodes) (fresh_read bytes tokens d.sig unbound (fresh_nodes nodes)) ≡ Ok strand =
    ok_unless (told_if (is_some (strand_number d.strands.names (text_of bytes name))) (name_refusal bytes name)) inside strand e in
    let fresh = ok_then (strand_behind bytes tokens d intruder name nodes) (fresh_read bytes tokens d.sig unbound (fresh_nodes nodes)) strand inner in
    let vars = ok_then (strand_over bytes tokens d intruder name nodes fresh.value.names) (variables_read bytes tokens d (behind fresh.value) (variable_nodes nodes)) strand fresh.gives in
    let events = ok_then (strand_with bytes intruder name fresh.value.names vars.value) (events_read bytes tokens d.sig (parameters fresh.value.names vars.value) (event_nodes nodes)) strand vars.gives in
    let values = fresh_good bytes tokens d.sig [] (fresh_nodes nodes) fresh_named unbound fresh.value (unbound_good d.sig) fresh.is in
    let first : List (List ℕ) = fresh.value.names in
    let begun : IsGoodBinders d.sig fresh.value.names (behind fresh.value) = record {
      earlier = values.earlier ∙ sym (append-nil fresh.value.names);
      names = values.names;
      apart = values.apart;
      no_operator = values.no_operator;
      even = refl;
    } in
    let good = vars_good bytes tokens d fresh.value.names (variable_nodes nodes) vars_named (behind fresh.value) vars.value begun vars.is in
    let even = good.even in
    let apart : AreApart (fresh.value.names ++ vars.value.names) = subst AreApart good.earlier good.apart in
    let at : (k : ℕ) (n : List ℕ) → slice_get (vars.value.names ++ fresh.value.names) k ≡ Some n → (i : ℕ) × (slice_get vars.value.earlier i ≡ Some n) =
    (λ k n q. let m = moved fresh.value.names vars.value.names k n q in (m.place, ap (λ (ns : List (List ℕ)). slice_get ns m.place) good.earlier ∙ m.there)) in
    let fresh_many : length fresh.value.names ≡ 0 + length (fresh_nodes nodes) = fresh_count bytes tokens d.sig (fresh_nodes nodes) unbound fresh.value fresh.is in
    let vars_many : length vars.value.sorts ≡ 0 + length (variable_nodes nodes) = sorts_count bytes tokens d (variable_nodes nodes) (behind fresh.value) vars.value vars.is in
    let long_names : length (vars.value.names ++ fresh.value.names) ≡ length vars.value.names + length fresh.value.names = length-append vars.value.names fresh.value.names in
    let ones : List ℕ = replicate (length fresh.value.names) 1 in
    let long_sorts : length (vars.value.sorts ++ ones) ≡ length vars.value.sorts + length ones = length-append vars.value.sorts ones in
    let copies : length ones ≡ length fresh.value.names = length-replicate (length fresh.value.names) 1 in
    subst (IsRuledStrand d) (ok_is _ strand events.gives) (record {
      named = record {
        name = named;
        each = omega (arith, long_names, long_sorts, copies, even);
        params = λ k n q. (let m = at k n q in good.names m.0 n m.1);
        params_apart = apart_moved fresh.value.names vars.value.names apart;
        no_operator = λ k n q. (let m = at k n q in good.no_operator m.0 n m.1);
      };
      new = out;
      few = omega (arith, long_sorts, copies, fresh_many, vars_many, few);
    })

-- a strand has at least one event and few of them
pub strand_counted : (bytes : List ℕ) (tokens : List Token) (d : Draft) (intruder : Bool) (nodes : List Node) (strand : Strand) → 1 ≤ length (event_nodes nodes) → length (event_nodes nodes) ≤ 32 →
    length (param_sorts strand) ≤ 64 → one_strand_read bytes tokens d intruder nodes ≡ Ok strand → IsWithinStrand strand
strand_counted bytes tokens d intruder nodes strand some few params e =
    let many = strand_events bytes tokens d intruder nodes strand e in
    record { some = omega (arith, many, some); events = omega (arith, many, few); params = params }

-- ## An aim

pub record IsRuledAim (d : Draft) (aim : Aim) : Type 0 where
  pub name : IsName aim.name
  pub new : is_some (place_of aim.name d.aims.names) ≡ false
  pub within : IsWithinAim aim

module _ (bytes : List ℕ) (tokens : List Token) (d : Draft) (scope : List Scoped) where
  over_kind : (nodes : List Node) (k : ℕ) (p : Part) (o : Option Strand) → strand_part_over bytes tokens d scope nodes k o ≡ Ok p → is_known_part p ≡ false
  over_kind nodes k p None e = absurd (cc)
  over_kind nodes k p (Some strand) e =
      let a = ok_then (strand_part_with k (number_in bytes (first_token tokens symbol.BAR nodes))) _ p (ok_unless _ _ p e) in
      ap is_known_part (sym (ok_is _ p a.gives))

  at_kind : (nodes : List Node) (p : Part) (o : Option ℕ) → strand_part_at bytes tokens d scope nodes o ≡ Ok p → is_known_part p ≡ false
  at_kind nodes p None e = absurd (cc)
  at_kind nodes p (Some k) e = over_kind nodes k p (slice_get d.strands.list k) e

  part_kind : (n : Node) (p : Part) → part_read bytes tokens d scope n ≡ Ok p → is_known_part p ≡ is_known n
  part_kind n p e = split (kind_of n == terminal.KNOWN) e
    where
      split : (b : Bool) → cond b (then_read known_part (message_read bytes d.sig scope (raw_below tokens symbol.TERM (children_of n)))) (strand_part_read bytes tokens d scope (children_of n)) ≡ Ok p → is_known_part p ≡ b
      split true q = let m = ok_then known_part _ p q in ap is_known_part (sym (ok_is _ p m.gives))
      split false q = at_kind (children_of n) p (strand_number d.strands.names (text_of bytes (first_token tokens symbol.PART_STRAND (children_of n)))) q

  abbrev SameKinds : List Node → List Part → Type 0
  SameKinds ns ps = (length (filter is_known_part ps) ≡ number is_known ns) × (length (filter (λ p. not (is_known_part p)) ps) ≡ number is_strand_part ns)

  same_kinds : (ns : List Node) (ps : List Part) → parts_read bytes tokens d scope ns ≡ Ok ps → SameKinds ns ps
  same_kinds [] ps e = let q : [] ≡ ps = cc in subst (SameKinds []) q (refl, refl)
  same_kinds (n ∷ ns) ps e = split (part_read bytes tokens d scope n) refl (parts_read bytes tokens d scope ns) (λ qs q. same_kinds ns qs q) e
    where
      one : (p : Part) (qs : List Part) (b c : Bool) → b ≡ c → SameKinds ns qs →
          (length (cond b (p ∷ filter is_known_part qs) (filter is_known_part qs)) ≡ length (cond c (n ∷ filter is_known ns) (filter is_known ns)))
          × (length (cond (not b) (p ∷ filter (λ x. not (is_known_part x)) qs) (filter (λ x. not (is_known_part x)) qs)) ≡ length (cond (not c) (n ∷ filter is_strand_part ns) (filter is_strand_part ns)))
      one p qs true true q s = (ap suc s.0, s.1)
      one p qs false false q s = (s.0, ap suc s.1)
      one p qs true false q s = absurd (cc)
      one p qs false true q s = absurd (cc)

      split : (r : Result Part ReadError) → part_read bytes tokens d scope n ≡ r → (o : Result (List Part) ReadError) → ((qs : List Part) → o ≡ Ok qs → SameKinds ns qs) → in_front r o ≡ Ok ps → SameKinds (n ∷ ns) ps
      split (Ok p) is (Ok qs) rest q =
          let same : p ∷ qs ≡ ps = cc in
          subst (SameKinds (n ∷ ns)) same (one p qs (is_known_part p) (is_known n) (part_kind n p is) (rest qs refl))
      split (Ok p) is (Err y) rest q = absurd (cc)
      split (Err x) is o rest q = absurd (cc)

pub aim_ruled : (bytes : List ℕ) (tokens : List Token) (d : Draft) (nodes : List Node) (aim : Aim) → IsName (text_of bytes (first_token tokens symbol.AIM_NAME nodes)) →
    number is_strand_part (part_nodes nodes) ≤ 32 → number is_known (part_nodes nodes) ≤ 64 → one_aim_read bytes tokens d nodes ≡ Ok aim → IsRuledAim d aim
aim_ruled bytes tokens d nodes aim named few_strands few_known e =
    let name = first_token tokens symbol.AIM_NAME nodes in
    let inside : Result Aim ReadError = then_read (aim_over bytes tokens d name nodes) (variables_read bytes tokens d unbound (variable_nodes nodes)) in
    let out : is_some (place_of (text_of bytes name) d.aims.names) ≡ false =
    untold (is_some (place_of (text_of bytes name) d.aims.names)) (name_refusal bytes name) (none_unless (told_if (is_some (place_of (text_of bytes name) d.aims.names)) (name_refusal bytes name)) inside aim e) in
    let inner : then_read (aim_over bytes tokens d name nodes) (variables_read bytes tokens d unbound (variable_nodes nodes)) ≡ Ok aim =
    ok_unless (told_if (is_some (place_of (text_of bytes name) d.aims.names)) (name_refusal bytes name)) inside aim e in
    let vars = ok_then (aim_over bytes tokens d name nodes) (variables_read bytes tokens d unbound (variable_nodes nodes)) aim inner in
    let parts = ok_then (aim_with bytes name vars.value) (parts_read bytes tokens d (scope_of vars.value) (part_nodes nodes)) aim vars.gives in
    let kinds = same_kinds bytes tokens d (scope_of vars.value) (part_nodes nodes) parts.value parts.is in
    let known = kinds.0 in
    let strands = kinds.1 in
    subst (IsRuledAim d) (ok_is _ aim parts.gives) (record {
      name = named;
      new = out;
      within = record { strand_parts = omega (arith, strands, few_strands); known_parts = omega (arith, known, few_known) };
    })

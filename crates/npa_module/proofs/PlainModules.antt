-- A module that is read has plain terms alone, and few equations, strands, operators and aims.
use Rattle.std.proofs.Common.{◌≡◌, ℕ, ◌+◌, ◌<◌, ◌≤◌, ◌==◌, ◌^◌, Bool, true, false, cond, List, [], ◌∷◌, ◌++◌, None, Some, Result, Ok, filter, length, length-append, is_some, ap, ◌∙◌, subst, arith, Contains}
use Rattle.std.specs.Prelude.{slice_get}
use Rattle.std.proofs.lemmas.Option.{slice_get_within}
use Rattle.npa_syntax.specs.declared.node.Node.{Node}
use Rattle.npa_syntax.specs.Nodes.{symbol_of, children_of}
use Rattle.npa_text.specs.declared.token.Token.{Token}
use Rattle.npa_text.specs.declared.terminals.TheConstants as terminal
use Rattle.npa_text.specs.declared.symbols.TheConstants as symbol
use Rattle.npa_text.specs.Texts.{text_of}
use Rattle.npa_term.specs.declared.term.Var.{Var as Variable}
use Rattle.npa_term.specs.declared.term.Term.{Term}
use Rattle.npa_term.specs.Variables.{variables}
use Rattle.npa_term.proofs.Parts.{only_member}
use Rattle.npa_sig.specs.declared.protocol.Equation.{Equation}
use Rattle.npa_sig.specs.declared.protocol.Event.{Event}
use Rattle.npa_sig.specs.declared.protocol.Strand.{Strand}
use Rattle.npa_sig.specs.Parameters.{param_sorts}
use Rattle.npa_sig.specs.WellFormed.{IsNameless, IsOwn, IsPlainEquation}
use Rattle.npa_sig.proofs.Unnamed.{is_plain}
use Rattle.npa_model.specs.declared.aim.Part.{Part}
use Rattle.npa_model.specs.declared.aim.Part.TheVariants as part
use Rattle.npa_model.specs.declared.aim.Aim.{Aim}
use Rattle.npa_model.specs.Accepted.{part_terms}
use Rattle.npa_model.specs.WellFormed.{IsWellFormedPart}
use Rattle.npa_module.specs.declared.source.Source.{Source}
use Rattle.npa_module.specs.declared.source.ReadError.{ReadError}
use Rattle.npa_module.specs.declared.draft.Draft.{Draft}
use Rattle.npa_reading.specs.Trees.{below}
use Rattle.npa_reading.specs.Trees.{kind_of, word_of, first_token, raw_below}
use Rattle.npa_module.specs.Drafts.{nothing, with_sort, with_pair, with_operator, with_equation, with_strand, with_aim, sort_number}
use Rattle.npa_module.specs.Refusals.{name_refusal}
use Rattle.npa_reading.specs.Reading.{told_if}
use Rattle.npa_limits.specs.Limits.{number, is_sort}
use Rattle.npa_limits.specs.Limits.{limit_of, is_op, is_eq, is_strand, is_aim}
use Rattle.npa_limits.specs.Later.{items_of}
use Rattle.npa_module.specs.Items.{sort_named, subsort_fault, sort_read, subsort_read, op_read, operator_read, operator_declared, equation_read, one_equation_read, equation_declared, strand_read, one_strand_read, strand_declared, aim_read, one_aim_read, aim_declared, item_read, items_read}
use Rattle.npa_module.specs.Rooms.{HaveRoom}
use Rattle.npa_module.specs.Modules.{source_of, finished}
use Rattle.npa_module.specs.Forms.{IsWellFormedSource, IsPlainSource}
use Rattle.npa_module.proofs.Counting.{node_count, all_count, count_children, count_filter, count_below}
use Rattle.npa_module.proofs.Growth.{ok_unless, ok_then, one_if, room_behind, room_at_first}
use Rattle.npa_module.proofs.Formed.{ok_is}
use Rattle.npa_module.proofs.FormedModules.{last_or_earlier}
use Rattle.npa_limits.proofs.KeptLimits.{kept_limits}
use Rattle.npa_module.proofs.PlainItems.{IsGoodAim, equation_plain, strand_nameless, aim_good}

-- ## The module so far

pub record IsPlainDraft (d : Draft) : Type 0 where
  pub equations : (k : ℕ) (equation : Equation) → slice_get d.equations k ≡ Some equation → IsPlainEquation equation
  pub strands : (k : ℕ) (strand : Strand) → slice_get d.strands.list k ≡ Some strand → (event : Event) → Contains strand.events event → IsNameless event.msg
  pub aims : (k : ℕ) (aim : Aim) → slice_get d.aims.list k ≡ Some aim → IsGoodAim aim

pub plain_at_first : IsPlainDraft nothing
plain_at_first = record {
  equations = λ k equation e. absurd (cc);
  strands = λ k strand e. absurd (cc);
  aims = λ k aim e. absurd (cc);
}

-- one more item, with so many equations and aims at most
record IsStep (d e : Draft) (equations aims : ℕ) : Type 0 where
  plain : IsPlainDraft e
  few_equations : length e.equations ≤ length d.equations + equations
  few_aims : length e.aims.list ≤ length d.aims.list + aims

widened : (d e : Draft) (i j m n : ℕ) → i ≤ m → j ≤ n → IsStep d e i j → IsStep d e m n
widened d e i j m n wide deep s = record { plain = s.plain; few_equations = (let f = s.few_equations in omega (arith, f, wide)); few_aims = (let f = s.few_aims in omega (arith, f, deep)) }

module _ (bytes : List ℕ) (tokens : List Token) (words : (symbol : ℕ) (ns : List Node) → is_plain (raw_below tokens symbol ns) ≡ true) (d e : Draft) (plain : IsPlainDraft d) where
  -- the lists of terms stay
  kept : d.equations ≡ e.equations → d.strands ≡ e.strands → d.aims ≡ e.aims → IsStep d e 0 0
  kept equations strands aims =
      let first : length d.equations ≡ length e.equations = ap (λ (x : List Equation). length x) equations in
      let last : length d.aims.list ≡ length e.aims.list = ap (λ x. length x.list) aims in
      record {
        plain = record {
          equations = λ k equation q. plain.equations k equation (ap (λ (x : List Equation). slice_get x k) equations ∙ q);
          strands = λ k strand q. plain.strands k strand (ap (λ x. slice_get x.list k) strands ∙ q);
          aims = λ k aim q. plain.aims k aim (ap (λ x. slice_get x.list k) aims ∙ q);
        };
        few_equations = omega (arith, first);
        few_aims = omega (arith, last);
      }

  by_sort : (nodes : List Node) → sort_read bytes tokens d nodes ≡ Ok e → IsStep d e 0 0
  by_sort nodes q =
      let name = text_of bytes (first_token tokens symbol.SORT_NAME nodes) in
      let same : with_sort d name ≡ e = ok_is (with_sort d name) e (ok_unless (told_if (is_some (sort_number d.sorts name)) (name_refusal bytes (first_token tokens symbol.SORT_NAME nodes))) (Ok (with_sort d name)) e q) in
      kept (ap (λ (x : Draft). x.equations) same) (ap (λ (x : Draft). x.strands) same) (ap (λ (x : Draft). x.aims) same)

  by_subsort : (nodes : List Node) → subsort_read bytes tokens d nodes ≡ Ok e → IsStep d e 0 0
  by_subsort nodes q =
      let lower = first_token tokens symbol.LOWER_SORT nodes in
      let upper = first_token tokens symbol.UPPER_SORT nodes in
      let same : with_pair d (sort_named bytes d.sorts lower) (sort_named bytes d.sorts upper) ≡ e =
      ok_is (with_pair d (sort_named bytes d.sorts lower) (sort_named bytes d.sorts upper)) e (ok_unless (subsort_fault bytes d lower upper) (Ok (with_pair d (sort_named bytes d.sorts lower) (sort_named bytes d.sorts upper))) e q) in
      kept (ap (λ (x : Draft). x.equations) same) (ap (λ (x : Draft). x.strands) same) (ap (λ (x : Draft). x.aims) same)

  by_op : (nodes : List Node) → op_read bytes tokens d nodes ≡ Ok e → IsStep d e 0 0
  by_op nodes q =
      let o = ok_then (operator_declared d) (operator_read bytes tokens d nodes) e q in
      let same : with_operator d o.value ≡ e = ok_is (with_operator d o.value) e o.gives in
      kept (ap (λ (x : Draft). x.equations) same) (ap (λ (x : Draft). x.strands) same) (ap (λ (x : Draft). x.aims) same)

  by_equation : (nodes : List Node) → all_count nodes ≤ 1048576 → equation_read bytes tokens d nodes ≡ Ok e → IsStep d e 1 0
  by_equation nodes few q =
      let o = ok_then (equation_declared d) (one_equation_read bytes tokens d nodes) e q in
      let same : with_equation d o.value ≡ e = ok_is (with_equation d o.value) e o.gives in
      let more : length (d.equations ++ o.value ∷ []) ≡ length d.equations + 1 = length-append d.equations (o.value ∷ []) in
      subst (λ x. IsStep d x 1 0) same (record {
        plain = record {
          equations = last_or_earlier IsPlainEquation d.equations o.value plain.equations (equation_plain bytes tokens words d nodes o.value few o.is);
          strands = plain.strands;
          aims = plain.aims;
        };
        few_equations = omega (arith, more);
        few_aims = omega arith;
      })

  by_strand : (intruder : Bool) (nodes : List Node) → strand_read bytes tokens d intruder nodes ≡ Ok e → IsStep d e 0 0
  by_strand intruder nodes q =
      let o = ok_then (strand_declared d) (one_strand_read bytes tokens d intruder nodes) e q in
      let same : with_strand d o.value ≡ e = ok_is (with_strand d o.value) e o.gives in
      subst (λ x. IsStep d x 0 0) same (record {
        plain = record {
          equations = plain.equations;
          strands = last_or_earlier (λ (s : Strand). (event : Event) → Contains s.events event → IsNameless event.msg) d.strands.list o.value plain.strands (strand_nameless bytes tokens words d intruder nodes o.value o.is);
          aims = plain.aims;
        };
        few_equations = omega arith;
        few_aims = omega arith;
      })

  by_aim : (nodes : List Node) → all_count nodes ≤ 1048576 → aim_read bytes tokens d nodes ≡ Ok e → IsStep d e 0 1
  by_aim nodes few q =
      let o = ok_then (aim_declared d) (one_aim_read bytes tokens d nodes) e q in
      let same : with_aim d o.value ≡ e = ok_is (with_aim d o.value) e o.gives in
      let more : length (d.aims.list ++ o.value ∷ []) ≡ length d.aims.list + 1 = length-append d.aims.list (o.value ∷ []) in
      subst (λ x. IsStep d x 0 1) same (record {
        plain = record {
          equations = plain.equations;
          strands = plain.strands;
          aims = last_or_earlier IsGoodAim d.aims.list o.value plain.aims (aim_good bytes tokens words d nodes o.value few o.is);
        };
        few_equations = omega arith;
        few_aims = omega (arith, more);
      })

  by_kind : (b1 b2 b3 b4 b5 b6 : Bool) (r1 r2 r3 r4 r5 r6 : Result Draft ReadError) →
      (r1 ≡ Ok e → IsStep d e 0 0) → (r2 ≡ Ok e → IsStep d e 0 0) → (r3 ≡ Ok e → IsStep d e 0 0) → (r4 ≡ Ok e → IsStep d e 1 0) → (r5 ≡ Ok e → IsStep d e 0 0) → (r6 ≡ Ok e → IsStep d e 0 1) →
      cond b1 r1 (cond b2 r2 (cond b3 r3 (cond b4 r4 (cond b5 r5 (cond b6 r6 (Ok d)))))) ≡ Ok e → IsStep d e (one_if b4) (one_if b6)
  by_kind true b2 b3 b4 b5 b6 r1 r2 r3 r4 r5 r6 f1 f2 f3 f4 f5 f6 q = widened d e 0 0 (one_if b4) (one_if b6) (omega arith) (omega arith) (f1 q)
  by_kind false true b3 b4 b5 b6 r1 r2 r3 r4 r5 r6 f1 f2 f3 f4 f5 f6 q = widened d e 0 0 (one_if b4) (one_if b6) (omega arith) (omega arith) (f2 q)
  by_kind false false true b4 b5 b6 r1 r2 r3 r4 r5 r6 f1 f2 f3 f4 f5 f6 q = widened d e 0 0 (one_if b4) (one_if b6) (omega arith) (omega arith) (f3 q)
  by_kind false false false true b5 b6 r1 r2 r3 r4 r5 r6 f1 f2 f3 f4 f5 f6 q = widened d e 1 0 1 (one_if b6) (omega arith) (omega arith) (f4 q)
  by_kind false false false false true b6 r1 r2 r3 r4 r5 r6 f1 f2 f3 f4 f5 f6 q = widened d e 0 0 0 (one_if b6) (omega arith) (omega arith) (f5 q)
  by_kind false false false false false true r1 r2 r3 r4 r5 r6 f1 f2 f3 f4 f5 f6 q = f6 q
  by_kind false false false false false false r1 r2 r3 r4 r5 r6 f1 f2 f3 f4 f5 f6 q =
      let same = ok_is d e q in
      kept (ap (λ (x : Draft). x.equations) same) (ap (λ (x : Draft). x.strands) same) (ap (λ (x : Draft). x.aims) same)

  item_step : (n : Node) → node_count n ≤ 1048576 → item_read bytes tokens d n ≡ Ok e → IsStep d e (one_if (is_eq n)) (one_if (is_aim n))
  item_step n few q =
      let inside : all_count (children_of n) ≤ 1048576 = omega (arith, few, count_children n) in
      by_kind (is_sort n) (kind_of n == terminal.SUBSORT) (is_op n) (is_eq n) (is_strand n) (is_aim n)
      (sort_read bytes tokens d (children_of n)) (subsort_read bytes tokens d (children_of n)) (op_read bytes tokens d (children_of n)) (equation_read bytes tokens d (children_of n))
      (strand_read bytes tokens d (kind_of n == terminal.INTRUDER) (children_of n)) (aim_read bytes tokens d (children_of n))
      (by_sort (children_of n)) (by_subsort (children_of n)) (by_op (children_of n)) (by_equation (children_of n) inside)
      (by_strand (kind_of n == terminal.INTRUDER) (children_of n)) (by_aim (children_of n) inside) q

-- ## The module

number_more : (p : Node → Bool) (n : Node) (ns : List Node) → number p (n ∷ ns) ≡ one_if (p n) + number p ns
number_more p n ns = split (p n)
  where
    split : (b : Bool) → length (cond b (n ∷ filter p ns) (filter p ns)) ≡ one_if b + number p ns
    split true = omega arith
    split false = omega arith

-- the module has plain terms, and few of everything
pub record IsDone (e : Draft) : Type 0 where
  pub plain : IsPlainDraft e
  pub few_sorts : e.sig.sorts.declared ≤ 256
  pub few_equations : length e.equations ≤ 256
  pub few_ops : length e.sig.ops ≤ 4096
  pub few_strands : length e.strands.list ≤ 1024
  pub few_aims : length e.aims.list ≤ 256

module _ (bytes : List ℕ) (tokens : List Token) (words : (symbol : ℕ) (ns : List Node) → is_plain (raw_below tokens symbol ns) ≡ true) where
  pub items_done : (ns : List Node) (d e : Draft) → HaveRoom d ns → all_count ns ≤ 1048576 → length d.equations + number is_eq ns ≤ 256 → length d.aims.list + number is_aim ns ≤ 256 → IsPlainDraft d → items_read bytes tokens d ns ≡ Ok e → IsDone e
  items_done [] d e room few equations aims plain q =
      let sorts = room.sorts in
      let strands = room.strands in
      let ops = room.ops in
      subst IsDone (ok_is d e q) (record { plain = plain; few_sorts = omega (arith, sorts); few_equations = omega (arith, equations); few_ops = omega (arith, ops); few_strands = omega (arith, strands); few_aims = omega (arith, aims) })
  items_done (n ∷ ns) d e room few equations aims plain q =
      let m = ok_then (λ x. items_read bytes tokens x ns) (item_read bytes tokens d n) e q in
      let step = item_step bytes tokens words d m.value plain n (omega (arith, few)) m.is in
      let more = step.few_equations in
      let longer = step.few_aims in
      items_done ns m.value e (room_behind bytes tokens d m.value n ns m.is room) (omega (arith, few))
      (omega (arith, equations, more, number_more is_eq n ns)) (omega (arith, aims, longer, number_more is_aim n ns)) step.plain m.gives

  -- a term over few variables has small numbers
  small_own : (sorts : List ℕ) (t : Term) → length sorts ≤ 2 ^ 30 → IsOwn sorts t → (v : Variable) → Contains (variables t) v → v.num < 2 ^ 30
  small_own sorts t few own v h = let within : v.num < length sorts = slice_get_within sorts v.num v.sort (own v h) in omega (arith, within, few)

  part_own : (source : Source) (sorts : List ℕ) (p : Part) → IsWellFormedPart source.protocol.sig source.protocol.strands sorts p → (t : Term) → Contains (part_terms p) t → IsOwn sorts t
  part_own source sorts (part.Known u) formed t h = subst (IsOwn sorts) (only_member u t h) formed.term.own
  part_own source sorts (part.Strand number_ bar args) formed t h = (formed.terms t h).own

  pub source_done : (nodes : List Node) (d : Draft) → all_count nodes ≤ 1048576 → limit_of nodes ≡ None → items_read bytes tokens nothing (items_of nodes) ≡ Ok d → IsDone d
  source_done nodes d few within q =
      let limits = kept_limits nodes within in
      let items : all_count (items_of nodes) ≤ 1048576 = omega (arith, few, count_filter (λ n. symbol_of n == symbol.ITEM) (below symbol.MODULE nodes), count_below symbol.MODULE nodes) in
      let equations = limits.equations in
      let aims = limits.aims in
      items_done (items_of nodes) nothing d (room_at_first nodes within) items (omega (arith, equations)) (omega (arith, aims)) plain_at_first q

  pub source_plain : (nodes : List Node) (source : Source) → all_count nodes ≤ 1048576 → limit_of nodes ≡ None → IsWellFormedSource source → source_of bytes tokens nodes ≡ Ok source → IsPlainSource source
  source_plain nodes source few within formed q =
      let name = word_of bytes tokens symbol.PROTOCOL_NAME (below symbol.MODULE nodes) in
      let d = ok_then (finished name) (items_read bytes tokens nothing (items_of nodes)) source q in
      let done = source_done nodes d.value few within d.is in
      let same = ok_is _ source d.gives in
      let few_equations = done.few_equations in
      let few_ops = done.few_ops in
      let few_strands = done.few_strands in
      let few_aims = done.few_aims in
      let list : d.value.strands.list ≡ source.protocol.strands = ap (λ (s : Source). s.protocol.strands) same in
      let others : d.value.aims.list ≡ source.aims = ap (λ (s : Source). s.aims) same in
      let plain = done.plain in
      record {
        protocol = record {
          equations = subst (λ (s : Source). (k : ℕ) (equation : Equation) → slice_get s.protocol.equations k ≡ Some equation → IsPlainEquation equation) same plain.equations;
          strands = λ k strand is event h.
              let ws = formed.protocol.strands k strand is in
              let params = ws.params in
              record {
                nameless = plain.strands k strand (ap (λ (x : List Strand). slice_get x k) list ∙ is) event h;
                small = small_own (param_sorts strand) event.msg (omega (arith, params)) (ws.messages event h).term.own;
              };
          few_equations = subst (λ (s : Source). length s.protocol.equations < 65535) same (omega (arith, few_equations));
          few_strands = subst (λ (s : Source). length s.protocol.strands < 65535) same (omega (arith, few_strands));
          few_ops = subst (λ (s : Source). length s.protocol.sig.ops < 65535) same (omega (arith, few_ops));
        };
        aims = λ k aim is p h t c.
            let good = plain.aims k aim (ap (λ (x : List Aim). slice_get x k) others ∙ is) in
            record {
              nameless = good.nameless p h t c;
              small = small_own aim.sorts t good.few (part_own source aim.sorts p ((formed.aims k aim is).parts p h) t c);
            };
        few_aims = subst (λ (s : Source). length s.aims < 65535) same (omega (arith, few_aims));
      }

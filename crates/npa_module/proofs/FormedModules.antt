-- A module that is read is well formed, item by item.
use Rattle.std.proofs.Common.{◌≡◌, ℕ, zero, suc, ◌≤◌, ◌==◌, Bool, true, false, cond, List, [], ◌∷◌, ◌++◌, None, Some, Result, Ok, length, is_some, refl, ap, sym, ◌∙◌, subst, arith}
use Rattle.std.specs.Prelude.{slice_get}
use Rattle.npa_syntax.specs.declared.node.Node.{Node}
use Rattle.npa_syntax.specs.Nodes.{children_of}
use Rattle.npa_text.specs.declared.token.Token.{Token}
use Rattle.npa_text.specs.declared.terminals.TheConstants as terminal
use Rattle.npa_text.specs.declared.symbols.TheConstants as symbol
use Rattle.npa_text.specs.Texts.{text_of}
use Rattle.npa_term.specs.declared.term.Term.{Term}
use Rattle.npa_sig.specs.declared.protocol.Equation.{Equation}
use Rattle.npa_sig.specs.declared.protocol.Strand.{Strand}
use Rattle.npa_sig.specs.Signature.{Signature, with_op, with_subsort, with_sort as sig_with_sort}
use Rattle.npa_sig.specs.Operators.{IsWellFormedSignature}
use Rattle.npa_sig.proofs.Operators.{formed_bare, formed_sort, formed_subsort, formed_op}
use Rattle.npa_sig.proofs.Growing.{Grows, grows_itself, grows_sort, grows_subsort, grows_op, still_sorted, still_below}
use Rattle.npa_model.specs.declared.aim.Part.{Part}
use Rattle.npa_model.specs.declared.aim.Part.TheVariants as part
use Rattle.npa_model.specs.declared.aim.Aim.{Aim}
use Rattle.npa_sig.specs.Parameters.{param_sorts}
use Rattle.npa_model.specs.WellFormed.{IsWellFormedPart, IsWellFormedAim}
use Rattle.npa_sig.specs.WellFormed.{IsTermOver, IsMessageOver, AreSorts, IsWellFormedEquation, IsWellFormedStrand}
use Rattle.npa_module.specs.declared.source.Source.{Source}
use Rattle.npa_module.specs.declared.source.ReadError.{ReadError}
use Rattle.npa_module.specs.declared.draft.Draft.{Draft}
use Rattle.npa_reading.specs.Trees.{kind_of, word_of, below, first_token}
use Rattle.npa_module.specs.Drafts.{nothing, with_sort, with_pair, with_operator, with_equation, with_strand, with_aim, sort_number}
use Rattle.npa_reading.specs.Reading.{told_if}
use Rattle.npa_module.specs.Refusals.{name_refusal}
use Rattle.npa_limits.specs.Limits.{limit_of, number, is_known, is_strand_part, params_of, is_sort, is_op, is_eq, is_strand, is_aim}
use Rattle.npa_limits.specs.Later.{items_of}
use Rattle.npa_module.specs.Items.{part_nodes, event_nodes, sort_named, subsort_fault, sort_read, subsort_read, op_read, operator_read, operator_declared, equation_read, one_equation_read, equation_declared, strand_read, one_strand_read, strand_declared, aim_read, one_aim_read, aim_declared, item_read, items_read}
use Rattle.npa_limits.specs.Within.{IsItemWithin}
use Rattle.npa_module.specs.Rooms.{IsNamed, HaveRoom}
use Rattle.npa_module.specs.Modules.{source_of, finished}
use Rattle.npa_module.specs.Forms.{AreWellFormedAims, IsWellFormedSource}
use Rattle.npa_module.proofs.Growth.{ok_unless, ok_then, room_behind, room_at_first}
use Rattle.npa_module.proofs.Formed.{ok_is}
use Rattle.npa_module.proofs.FormedItems.{IsGoodStrand, operator_formed, equation_formed, strand_formed, aim_formed}

-- ## What stays well formed while a signature grows

module _ (small large : Signature) (grows : Grows small large) where
  over_still : (sorts : List ℕ) (t : Term) → IsTermOver small sorts t → IsTermOver large sorts t
  over_still sorts t x = record { sorted = still_sorted small large grows t x.sorted; own = x.own }

  message_still : (sorts : List ℕ) (t : Term) → IsMessageOver small sorts t → IsMessageOver large sorts t
  message_still sorts t x = record { term = over_still sorts t x.term; not_fresh = x.not_fresh }

  sorts_still : (sorts : List ℕ) → AreSorts small sorts → AreSorts large sorts
  sorts_still sorts are s h = grows.sorts s (are s h)

  equation_still : (equation : Equation) → IsWellFormedEquation small equation → IsWellFormedEquation large equation
  equation_still equation x = record {
    sorts = x.sorts;
    are_sorts = sorts_still x.sorts x.are_sorts;
    left = message_still x.sorts equation.left x.left;
    right = message_still x.sorts equation.right x.right;
  }

  pub strand_still : (strand : Strand) → IsWellFormedStrand small strand → IsWellFormedStrand large strand
  strand_still strand x = record {
    sorts = sorts_still strand.vars x.sorts;
    messages = λ event h. message_still (param_sorts strand) event.msg (x.messages event h);
    countable = x.countable;
    params = x.params;
  }

  module _ (few many : List Strand) (more : (k : ℕ) (strand : Strand) → slice_get few k ≡ Some strand → slice_get many k ≡ Some strand) where
    part_still : (sorts : List ℕ) (p : Part) → IsWellFormedPart small few sorts p → IsWellFormedPart large many sorts p
    part_still sorts (part.Known t) x = message_still sorts t x
    part_still sorts (part.Strand number bar args) x = record {
      strand = x.strand;
      there = more number x.strand x.there;
      within = x.within;
      terms = λ t h. over_still sorts t (x.terms t h);
      below = still_below small large grows _ _ x.below;
    }

    pub aim_still : (aim : Aim) → IsWellFormedAim small few aim → IsWellFormedAim large many aim
    aim_still aim x = record {
      sorts = sorts_still aim.sorts x.sorts;
      parts = λ p h. part_still aim.sorts p (x.parts p h);
      has_parts = x.has_parts;
      few = x.few;
    }

-- ## Lists with one member more

pub last_or_earlier : {A : Type 0} (P : A → Type 0) (xs : List A) (x : A) → ((k : ℕ) (y : A) → slice_get xs k ≡ Some y → P y) → P x →
    (k : ℕ) (y : A) → slice_get (xs ++ x ∷ []) k ≡ Some y → P y
last_or_earlier P [] x each p zero y e = let q : x ≡ y = cc in subst P q p
last_or_earlier P [] x each p (suc k) y e = absurd (cc)
last_or_earlier P (z ∷ xs) x each p zero y e = each zero y e
last_or_earlier P (z ∷ xs) x each p (suc k) y e = last_or_earlier P xs x (λ j w f. each (suc j) w f) p k y e

earlier_still : {A : Type 0} (xs : List A) (x : A) (k : ℕ) (y : A) → slice_get xs k ≡ Some y → slice_get (xs ++ x ∷ []) k ≡ Some y
earlier_still [] x k y e = absurd (cc)
earlier_still (z ∷ xs) x zero y e = e
earlier_still (z ∷ xs) x (suc k) y e = earlier_still xs x k y e

-- ## The module so far

pub record IsFormed (d : Draft) : Type 0 where
  pub signature : IsWellFormedSignature d.sig
  pub equations : (k : ℕ) (equation : Equation) → slice_get d.equations k ≡ Some equation → IsWellFormedEquation d.sig equation
  pub strands : (k : ℕ) (strand : Strand) → slice_get d.strands.list k ≡ Some strand → IsWellFormedStrand d.sig strand
  pub named_so : (k : ℕ) (strand : Strand) → slice_get d.strands.list k ≡ Some strand → length strand.names ≡ length (param_sorts strand)
  pub aims : AreWellFormedAims d.sig d.strands.list d.aims.list

pub formed_at_first : IsFormed nothing
formed_at_first = record {
  signature = formed_bare;
  equations = λ k equation e. absurd (cc);
  strands = λ k strand e. absurd (cc);
  named_so = λ k strand e. absurd (cc);
  aims = λ k aim e. absurd (cc);
}

-- an aim has a part
abbrev pub HasParts : Node → Type 0
HasParts n = is_aim n ≡ true → 1 ≤ length (part_nodes (children_of n))

module _ (bytes : List ℕ) (tokens : List Token) (d e : Draft) (named : IsNamed d) (formed : IsFormed d) where
  good : (k : ℕ) (strand : Strand) → slice_get d.strands.list k ≡ Some strand → IsGoodStrand bytes tokens d named strand
  good k strand is = record { formed = formed.strands k strand is; named_so = formed.named_so k strand is }

  grown_sig : (sig : Signature) → Grows d.sig sig → IsWellFormedSignature sig → sig ≡ e.sig → d.equations ≡ e.equations → d.strands ≡ e.strands → d.aims ≡ e.aims → IsFormed e
  grown_sig sig grows signature same equations strands aims =
      let large : Grows d.sig e.sig = subst (Grows d.sig) same grows in
      let lists = ap (λ x. x.list) strands in
      record {
        signature = subst IsWellFormedSignature same signature;
        equations = λ k equation q. equation_still d.sig e.sig large equation (formed.equations k equation (ap (λ (x : List Equation). slice_get x k) equations ∙ q));
        strands = λ k strand q. strand_still d.sig e.sig large strand (formed.strands k strand (ap (λ (x : List Strand). slice_get x k) lists ∙ q));
        named_so = λ k strand q. formed.named_so k strand (ap (λ (x : List Strand). slice_get x k) lists ∙ q);
        aims = λ k aim q.
            aim_still d.sig e.sig large d.strands.list e.strands.list (λ j strand f. sym (ap (λ (x : List Strand). slice_get x j) lists) ∙ f) aim
            (formed.aims k aim (ap (λ x. slice_get x.list k) aims ∙ q));
      }

  sort_kept : (nodes : List Node) → sort_read bytes tokens d nodes ≡ Ok e → IsFormed e
  sort_kept nodes q =
      let name = text_of bytes (first_token tokens symbol.SORT_NAME nodes) in
      let same : with_sort d name ≡ e = ok_is (with_sort d name) e (ok_unless (told_if (is_some (sort_number d.sorts name)) (name_refusal bytes (first_token tokens symbol.SORT_NAME nodes))) (Ok (with_sort d name)) e q) in
      grown_sig (sig_with_sort d.sig name) (grows_sort d.sig name)
      (formed_sort d.sig name formed.signature)
      (ap (λ (x : Draft). x.sig) same) (ap (λ (x : Draft). x.equations) same) (ap (λ (x : Draft). x.strands) same) (ap (λ (x : Draft). x.aims) same)

  subsort_kept : (nodes : List Node) → subsort_read bytes tokens d nodes ≡ Ok e → IsFormed e
  subsort_kept nodes q =
      let lower = first_token tokens symbol.LOWER_SORT nodes in
      let upper = first_token tokens symbol.UPPER_SORT nodes in
      let pair : Draft = with_pair d (sort_named bytes d.sorts lower) (sort_named bytes d.sorts upper) in
      let same : with_pair d (sort_named bytes d.sorts lower) (sort_named bytes d.sorts upper) ≡ e =
      ok_is (with_pair d (sort_named bytes d.sorts lower) (sort_named bytes d.sorts upper)) e (ok_unless (subsort_fault bytes d lower upper) (Ok (with_pair d (sort_named bytes d.sorts lower) (sort_named bytes d.sorts upper))) e q) in
      grown_sig (with_subsort d.sig (sort_named bytes d.sorts lower) (sort_named bytes d.sorts upper)) (grows_subsort d.sig (sort_named bytes d.sorts lower) (sort_named bytes d.sorts upper))
      (formed_subsort d.sig (sort_named bytes d.sorts lower) (sort_named bytes d.sorts upper) formed.signature)
      (ap (λ (x : Draft). x.sig) same) (ap (λ (x : Draft). x.equations) same) (ap (λ (x : Draft). x.strands) same) (ap (λ (x : Draft). x.aims) same)

  op_kept : (nodes : List Node) → op_read bytes tokens d nodes ≡ Ok e → IsFormed e
  op_kept nodes q =
      let o = ok_then (operator_declared d) (operator_read bytes tokens d nodes) e q in
      let decl = operator_formed bytes tokens d named nodes o.value o.is in
      let same : with_operator d o.value ≡ e = ok_is (with_operator d o.value) e o.gives in
      grown_sig (with_op d.sig o.value) (grows_op d.sig o.value)
      (formed_op d.sig o.value formed.signature decl.sorts decl.declarable)
      (ap (λ (x : Draft). x.sig) same) (ap (λ (x : Draft). x.equations) same) (ap (λ (x : Draft). x.strands) same) (ap (λ (x : Draft). x.aims) same)

  equation_kept : (nodes : List Node) → equation_read bytes tokens d nodes ≡ Ok e → IsFormed e
  equation_kept nodes q =
      let o = ok_then (equation_declared d) (one_equation_read bytes tokens d nodes) e q in
      let same : with_equation d o.value ≡ e = ok_is (with_equation d o.value) e o.gives in
      subst IsFormed same (record {
        signature = formed.signature;
        equations = last_or_earlier (IsWellFormedEquation d.sig) d.equations o.value formed.equations (equation_formed bytes tokens d named nodes o.value o.is);
        strands = formed.strands;
        named_so = formed.named_so;
        aims = formed.aims;
      })

  strand_kept : (intruder : Bool) (nodes : List Node) → length (event_nodes nodes) ≤ 32 → params_of nodes ≤ 64 → strand_read bytes tokens d intruder nodes ≡ Ok e → IsFormed e
  strand_kept intruder nodes few_events few_params q =
      let o = ok_then (strand_declared d) (one_strand_read bytes tokens d intruder nodes) e q in
      let strand = strand_formed bytes tokens d named intruder nodes o.value few_events few_params o.is in
      let same : with_strand d o.value ≡ e = ok_is (with_strand d o.value) e o.gives in
      subst IsFormed same (record {
        signature = formed.signature;
        equations = formed.equations;
        strands = last_or_earlier (IsWellFormedStrand d.sig) d.strands.list o.value formed.strands strand.formed;
        named_so = last_or_earlier (λ (x : Strand). length x.names ≡ length (param_sorts x)) d.strands.list o.value formed.named_so strand.named_so;
        aims = λ k aim f.
            aim_still d.sig d.sig (grows_itself d.sig) d.strands.list (d.strands.list ++ o.value ∷ []) (λ j x g. earlier_still d.strands.list o.value j x g) aim (formed.aims k aim f);
      })

  aim_kept : (nodes : List Node) → number is_strand_part (part_nodes nodes) ≤ 32 → number is_known (part_nodes nodes) ≤ 64 → 1 ≤ length (part_nodes nodes) → aim_read bytes tokens d nodes ≡ Ok e → IsFormed e
  aim_kept nodes few_strands few_known some q =
      let o = ok_then (aim_declared d) (one_aim_read bytes tokens d nodes) e q in
      let aim = aim_formed bytes tokens d named good nodes o.value few_strands few_known some o.is in
      let same : with_aim d o.value ≡ e = ok_is (with_aim d o.value) e o.gives in
      subst IsFormed same (record {
        signature = formed.signature;
        equations = formed.equations;
        strands = formed.strands;
        named_so = formed.named_so;
        aims = last_or_earlier (IsWellFormedAim d.sig d.strands.list) d.aims.list o.value formed.aims aim;
      })

  by_kind : (b1 b2 b3 b4 b5 b6 : Bool) (r1 r2 r3 r4 r5 r6 : Result Draft ReadError) →
      (r1 ≡ Ok e → IsFormed e) → (r2 ≡ Ok e → IsFormed e) → (r3 ≡ Ok e → IsFormed e) → (r4 ≡ Ok e → IsFormed e) → (b5 ≡ true → r5 ≡ Ok e → IsFormed e) → (b6 ≡ true → r6 ≡ Ok e → IsFormed e) →
      cond b1 r1 (cond b2 r2 (cond b3 r3 (cond b4 r4 (cond b5 r5 (cond b6 r6 (Ok d)))))) ≡ Ok e → IsFormed e
  by_kind true b2 b3 b4 b5 b6 r1 r2 r3 r4 r5 r6 f1 f2 f3 f4 f5 f6 q = f1 q
  by_kind false true b3 b4 b5 b6 r1 r2 r3 r4 r5 r6 f1 f2 f3 f4 f5 f6 q = f2 q
  by_kind false false true b4 b5 b6 r1 r2 r3 r4 r5 r6 f1 f2 f3 f4 f5 f6 q = f3 q
  by_kind false false false true b5 b6 r1 r2 r3 r4 r5 r6 f1 f2 f3 f4 f5 f6 q = f4 q
  by_kind false false false false true b6 r1 r2 r3 r4 r5 r6 f1 f2 f3 f4 f5 f6 q = f5 refl q
  by_kind false false false false false true r1 r2 r3 r4 r5 r6 f1 f2 f3 f4 f5 f6 q = f6 refl q
  by_kind false false false false false false r1 r2 r3 r4 r5 r6 f1 f2 f3 f4 f5 f6 q = subst IsFormed (ok_is d e q) formed

  pub item_kept : (n : Node) → IsItemWithin n → HasParts n → item_read bytes tokens d n ≡ Ok e → IsFormed e
  item_kept n within some q =
      by_kind (is_sort n) (kind_of n == terminal.SUBSORT) (is_op n) (is_eq n) (is_strand n) (is_aim n)
      (sort_read bytes tokens d (children_of n)) (subsort_read bytes tokens d (children_of n)) (op_read bytes tokens d (children_of n)) (equation_read bytes tokens d (children_of n))
      (strand_read bytes tokens d (kind_of n == terminal.INTRUDER) (children_of n)) (aim_read bytes tokens d (children_of n))
      (sort_kept (children_of n)) (subsort_kept (children_of n)) (op_kept (children_of n)) (equation_kept (children_of n))
      (λ t. strand_kept (kind_of n == terminal.INTRUDER) (children_of n) (within.events t) (within.params t))
      (λ t. aim_kept (children_of n) (within.strand_parts t) (within.known_parts t) (some t)) q

-- each aim among the items has a part
abbrev pub AllHaveParts : List Node → Type 0
AllHaveParts ns = (k : ℕ) (n : Node) → slice_get ns k ≡ Some n → HasParts n

module _ (bytes : List ℕ) (tokens : List Token) where
  pub record Kept (e : Draft) : Type 0 where
    pub formed : IsFormed e
    pub few : length e.strands.list ≤ 1024

  items_kept : (ns : List Node) (d e : Draft) → HaveRoom d ns → AllHaveParts ns → IsFormed d → items_read bytes tokens d ns ≡ Ok e → Kept e
  items_kept [] d e room some formed q =
      let t = room.strands in
      subst Kept (ok_is d e q) (record { formed = formed; few = omega (arith, t) })
  items_kept (n ∷ ns) d e room some formed q =
      let m = ok_then (λ x. items_read bytes tokens x ns) (item_read bytes tokens d n) e q in
      items_kept ns m.value e (room_behind bytes tokens d m.value n ns m.is room) (λ k x f. some (suc k) x f)
      (item_kept bytes tokens d m.value room.named formed n (room.each 0 n refl) (some 0 n refl) m.is) m.gives

  pub source_formed : (nodes : List Node) (source : Source) → limit_of nodes ≡ None → AllHaveParts (items_of nodes) → source_of bytes tokens nodes ≡ Ok source → IsWellFormedSource source
  source_formed nodes source within some q =
      let name = word_of bytes tokens symbol.PROTOCOL_NAME (below symbol.MODULE nodes) in
      let d = ok_then (finished name) (items_read bytes tokens nothing (items_of nodes)) source q in
      let kept = items_kept (items_of nodes) nothing d.value (room_at_first nodes within) some formed_at_first d.is in
      subst IsWellFormedSource (ok_is _ source d.gives) (record {
        protocol = record { signature = kept.formed.signature; equations = kept.formed.equations; strands = kept.formed.strands };
        aims = kept.formed.aims;
        few_strands = (let f = kept.few in omega (arith, f));
      })

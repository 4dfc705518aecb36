-- A module that is read keeps the rules on names and the limits of numbers, item by item.
use Rattle.std.proofs.Common.{◌≡◌, ℕ, suc, ◌+◌, ◌≤◌, ◌==◌, ◌||◌, Bool, true, false, cond, List, [], ◌∷◌, ◌++◌, None, Some, Result, Ok, codes, length, length-append, is_some, refl, ap, sym, ◌∙◌, subst, arith}
use Rattle.std.specs.Prelude.{slice_get}
use Rattle.std.proofs.lemmas.List.{map-append}
use Rattle.npa_syntax.specs.declared.node.Node.{Node}
use Rattle.npa_syntax.specs.Nodes.{children_of}
use Rattle.npa_text.specs.declared.token.Token.{Token}
use Rattle.npa_text.specs.declared.terminals.TheConstants as terminal
use Rattle.npa_text.specs.declared.symbols.TheConstants as symbol
use Rattle.npa_text.specs.Languages.{module_language}
use Rattle.npa_text.specs.Parses.{IsParse}
use Rattle.npa_text.specs.Texts.{text_of}
use Rattle.npa_names.specs.Names.{place_of}
use Rattle.npa_sig.specs.declared.protocol.Equation.{Equation}
use Rattle.npa_sig.specs.declared.protocol.Strand.{Strand}
use Rattle.npa_sig.specs.declared.signature.OpDecl.{OpDecl}
use Rattle.npa_sig.specs.Signature.{Signature, names_of, number_of, with_op, with_subsort, with_sort as sig_with_sort}
use Rattle.npa_sig.proofs.Unnamed.{is_plain}
use Rattle.npa_model.specs.declared.aim.Aim.{Aim}
use Rattle.npa_module.specs.declared.source.Source.{Source}
use Rattle.npa_module.specs.declared.source.ReadError.{ReadError}
use Rattle.npa_module.specs.declared.draft.Draft.{Draft}
use Rattle.npa_reading.specs.Trees.{all_with, kind_of, word_of, below, first_token, raw_below}
use Rattle.npa_reading.specs.Reading.{told_if}
use Rattle.npa_limits.specs.Later.{items_of}
use Rattle.npa_limits.specs.Limits.{limit_of, is_sort, is_op, is_eq, is_strand, is_aim}
use Rattle.npa_limits.specs.Within.{IsItemWithin}
use Rattle.npa_limits.proofs.KeptLimits.{kept_limits}
use Rattle.npa_module.specs.Drafts.{nothing, with_sort, with_pair, with_operator, with_equation, with_strand, with_aim, sort_number, given}
use Rattle.npa_module.specs.Refusals.{name_refusal}
use Rattle.npa_module.specs.Items.{sort_named, subsort_fault, sort_read, subsort_read, op_read, operator_read, operator_declared, equation_read, one_equation_read, equation_declared, strand_read, one_strand_read, strand_declared, aim_read, one_aim_read, aim_declared, item_read, items_read}
use Rattle.npa_module.specs.Modules.{source_of, finished}
use Rattle.npa_sig.specs.Rules.{IsName, AreApart, IsNamedSignature, IsNamedStrand, strand_names, IsWithinOperator, IsWithinStrand, IsSmallEquation, IsSmallStrand}
use Rattle.npa_model.specs.Rules.{AreNamedAims, aim_names, IsWithinAim, IsSmallAim}
use Rattle.npa_module.specs.Forms.{IsNamedSource, IsWithinSource, IsSmallSource}
use Rattle.npa_module.proofs.Counting.{all_count}
use Rattle.npa_module.proofs.Growth.{ok_unless, ok_then}
use Rattle.npa_module.proofs.Formed.{EachOf, ok_is, none_unless, untold}
use Rattle.npa_module.proofs.FormedModules.{last_or_earlier}
use Rattle.npa_module.proofs.PlainModules.{source_done}
use Rattle.npa_module.proofs.ItemNames.{HasNames, all_names, protocol_named}
use Rattle.npa_module.proofs.NameTables.{IsIn, none_more, apart_if, given_more, given_each, apart_more}
use Rattle.npa_module.proofs.SmallItems.{IsTree, tree_kids, items_trees, terms_small, equation_small, strand_small, aim_small}
use Rattle.npa_module.proofs.RuledItems.{operator_ruled, strand_ruled, strand_counted, aim_ruled}

-- ## The module so far

-- the parameters of the strands are in the table of their names
abbrev AreTabled : List (List ℕ) → List Strand → Type 0
AreTabled table strands = (k : ℕ) (strand : Strand) → slice_get strands k ≡ Some strand → (j : ℕ) (name : List ℕ) → slice_get strand.names j ≡ Some name → IsIn table name

record IsRuled (d : Draft) : Type 0 where
  sorts : d.sorts ≡ codes "Msg" ∷ codes "Fresh" ∷ d.sig.sort_names
  signature : IsNamedSignature d.sig
  args : (k : ℕ) (decl : OpDecl) → slice_get d.sig.ops k ≡ Some decl → IsWithinOperator decl
  strands : (k : ℕ) (strand : Strand) → slice_get d.strands.list k ≡ Some strand → IsNamedStrand d.sig strand
  counted : (k : ℕ) (strand : Strand) → slice_get d.strands.list k ≡ Some strand → IsWithinStrand strand
  strand_table : d.strands.names ≡ strand_names d.strands.list
  strands_apart : AreApart (strand_names d.strands.list)
  params : AreTabled d.strands.params d.strands.list
  aims : AreNamedAims d.aims.list
  aim_table : d.aims.names ≡ aim_names d.aims.list
  parts : (k : ℕ) (aim : Aim) → slice_get d.aims.list k ≡ Some aim → IsWithinAim aim
  equations : (k : ℕ) (equation : Equation) → slice_get d.equations k ≡ Some equation → IsSmallEquation equation
  messages : (k : ℕ) (strand : Strand) → slice_get d.strands.list k ≡ Some strand → IsSmallStrand strand
  terms : (k : ℕ) (aim : Aim) → slice_get d.aims.list k ≡ Some aim → IsSmallAim aim

built_in_apart : AreApart (codes "Msg" ∷ codes "Fresh" ∷ [])
built_in_apart = apart_more (codes "Msg" ∷ []) (codes "Fresh") (apart_more [] (codes "Msg") (λ j k name e f. absurd (cc)) refl) refl

ruled_at_first : IsRuled nothing
ruled_at_first = record {
  sorts = refl;
  signature = record {
    each_sort = refl;
    sorts = λ k name e. absurd (cc);
    sorts_apart = built_in_apart;
    ops = λ k name e. absurd (cc);
    ops_apart = λ j k name e f. absurd (cc);
  };
  args = λ k decl e. absurd (cc);
  strands = λ k strand e. absurd (cc);
  counted = λ k strand e. absurd (cc);
  strand_table = refl;
  strands_apart = λ j k name e f. absurd (cc);
  params = λ k strand e j name f. absurd (cc);
  aims = record { names = λ k name e. absurd (cc); apart = λ j k name e f. absurd (cc) };
  aim_table = refl;
  parts = λ k aim e. absurd (cc);
  equations = λ k equation e. absurd (cc);
  messages = λ k strand e. absurd (cc);
  terms = λ k aim e. absurd (cc);
}

-- one of two tests
left_true : (a b : Bool) → a ≡ true → (a || b) ≡ true
left_true true b e = refl
left_true false b e = absurd (cc)

either_true : (a b : Bool) → b ≡ true → (a || b) ≡ true
either_true true b e = refl
either_true false b e = e

-- a strand has its names also where the signature has other sorts
other_sorts : (small large : Signature) (strand : Strand) → large.ops ≡ small.ops → IsNamedStrand small strand → IsNamedStrand large strand
other_sorts small large strand same named = record {
  name = named.name;
  each = named.each;
  params = named.params;
  params_apart = named.params_apart;
  no_operator = λ k name e. ap (λ (ops : List OpDecl). place_of name (names_of ops)) same ∙ named.no_operator k name e;
}

names_with : (ops : List OpDecl) (decl : OpDecl) → names_of (ops ++ decl ∷ []) ≡ names_of ops ++ decl.name ∷ []
names_with ops decl = map-append (λ (x : OpDecl). x.name) ops (decl ∷ [])

strands_with : (strands : List Strand) (strand : Strand) → strand_names (strands ++ strand ∷ []) ≡ strand_names strands ++ strand.name ∷ []
strands_with strands strand = map-append (λ (x : Strand). x.name) strands (strand ∷ [])

aims_with : (aims : List Aim) (aim : Aim) → aim_names (aims ++ aim ∷ []) ≡ aim_names aims ++ aim.name ∷ []
aims_with aims aim = map-append (λ (x : Aim). x.name) aims (aim ∷ [])

module _ (bytes : List ℕ) (tokens : List Token) (d e : Draft) (ruled : IsRuled d) where
  by_sort : (nodes : List Node) → IsName (text_of bytes (first_token tokens symbol.SORT_NAME nodes)) → sort_read bytes tokens d nodes ≡ Ok e → IsRuled e
  by_sort nodes named q =
      let token = first_token tokens symbol.SORT_NAME nodes in
      let name = text_of bytes token in
      let added : Result Draft ReadError = Ok (with_sort d name) in
      let same : with_sort d name ≡ e = ok_is (with_sort d name) e (ok_unless (told_if (is_some (sort_number d.sorts name)) (name_refusal bytes token)) added e q) in
      let free : is_some (place_of name d.sorts) ≡ false = untold (is_some (sort_number d.sorts name)) (name_refusal bytes token) (none_unless (told_if (is_some (sort_number d.sorts name)) (name_refusal bytes token)) added e q) in
      let out : is_some (place_of name (codes "Msg" ∷ codes "Fresh" ∷ d.sig.sort_names)) ≡ false = ap (λ (ns : List (List ℕ)). is_some (place_of name ns)) (sym ruled.sorts) ∙ free in
      let signature = ruled.signature in
      let each = signature.each_sort in
      let one : length (d.sig.sort_names ++ name ∷ []) ≡ length d.sig.sort_names + 1 = length-append d.sig.sort_names (name ∷ []) in
      subst IsRuled same (record {
        sorts = ap (λ (ns : List (List ℕ)). ns ++ name ∷ []) ruled.sorts;
        signature = record {
          each_sort = omega (arith, each, one);
          sorts = last_or_earlier IsName d.sig.sort_names name signature.sorts named;
          sorts_apart = apart_more (codes "Msg" ∷ codes "Fresh" ∷ d.sig.sort_names) name signature.sorts_apart out;
          ops = signature.ops;
          ops_apart = signature.ops_apart;
        };
        args = ruled.args;
        strands = λ k strand f. other_sorts d.sig (sig_with_sort d.sig name) strand refl (ruled.strands k strand f);
        counted = ruled.counted;
        strand_table = ruled.strand_table;
        strands_apart = ruled.strands_apart;
        params = ruled.params;
        aims = ruled.aims;
        aim_table = ruled.aim_table;
        parts = ruled.parts;
        equations = ruled.equations;
        messages = ruled.messages;
        terms = ruled.terms;
      })

  by_subsort : (nodes : List Node) → subsort_read bytes tokens d nodes ≡ Ok e → IsRuled e
  by_subsort nodes q =
      let lower = first_token tokens symbol.LOWER_SORT nodes in
      let upper = first_token tokens symbol.UPPER_SORT nodes in
      let same : with_pair d (sort_named bytes d.sorts lower) (sort_named bytes d.sorts upper) ≡ e =
      ok_is (with_pair d (sort_named bytes d.sorts lower) (sort_named bytes d.sorts upper)) e (ok_unless (subsort_fault bytes d lower upper) (Ok (with_pair d (sort_named bytes d.sorts lower) (sort_named bytes d.sorts upper))) e q) in
      let signature = ruled.signature in
      subst IsRuled same (record {
        sorts = ruled.sorts;
        signature = record { each_sort = signature.each_sort; sorts = signature.sorts; sorts_apart = signature.sorts_apart; ops = signature.ops; ops_apart = signature.ops_apart };
        args = ruled.args;
        strands = λ k strand f. other_sorts d.sig (with_subsort d.sig (sort_named bytes d.sorts lower) (sort_named bytes d.sorts upper)) strand refl (ruled.strands k strand f);
        counted = ruled.counted;
        strand_table = ruled.strand_table;
        strands_apart = ruled.strands_apart;
        params = ruled.params;
        aims = ruled.aims;
        aim_table = ruled.aim_table;
        parts = ruled.parts;
        equations = ruled.equations;
        messages = ruled.messages;
        terms = ruled.terms;
      })

  by_op : (nodes : List Node) → IsName (text_of bytes (first_token tokens symbol.OPERATOR_NAME nodes)) → length (all_with symbol.ARGUMENT_SORT nodes) ≤ 16 → op_read bytes tokens d nodes ≡ Ok e → IsRuled e
  by_op nodes named few q =
      let o = ok_then (operator_declared d) (operator_read bytes tokens d nodes) e q in
      let decl = o.value in
      let good = operator_ruled bytes tokens d nodes o.value named few o.is in
      let same : with_operator d o.value ≡ e = ok_is (with_operator d o.value) e o.gives in
      let signature = ruled.signature in
      let names = names_with d.sig.ops o.value in
      let free : (k : ℕ) (strand : Strand) → slice_get d.strands.list k ≡ Some strand → (j : ℕ) (name : List ℕ) → slice_get strand.names j ≡ Some name → number_of (with_op d.sig o.value) name ≡ None =
      (λ k strand f j name g.
      ap (place_of name) names
      ∙ none_more (names_of d.sig.ops) o.value.name name ((ruled.strands k strand f).no_operator j name g) (apart_if d.strands.params o.value.name name (ruled.params k strand f j name g) good.apart)) in
      subst IsRuled same (record {
        sorts = ruled.sorts;
        signature = record {
          each_sort = signature.each_sort;
          sorts = signature.sorts;
          sorts_apart = signature.sorts_apart;
          ops = subst (λ (ns : List (List ℕ)). (k : ℕ) (name : List ℕ) → slice_get ns k ≡ Some name → IsName name) (sym names) (last_or_earlier IsName (names_of d.sig.ops) o.value.name signature.ops good.name);
          ops_apart = subst AreApart (sym names) (apart_more (names_of d.sig.ops) o.value.name signature.ops_apart good.new);
        };
        args = last_or_earlier IsWithinOperator d.sig.ops o.value ruled.args good.args;
        strands = λ k strand f. (let s = ruled.strands k strand f in record { name = s.name; each = s.each; params = s.params; params_apart = s.params_apart; no_operator = free k strand f });
        counted = ruled.counted;
        strand_table = ruled.strand_table;
        strands_apart = ruled.strands_apart;
        params = ruled.params;
        aims = ruled.aims;
        aim_table = ruled.aim_table;
        parts = ruled.parts;
        equations = ruled.equations;
        messages = ruled.messages;
        terms = ruled.terms;
      })

  by_equation : (n : Node) → IsTree n → IsItemWithin n → is_eq n ≡ true → equation_read bytes tokens d (children_of n) ≡ Ok e → IsRuled e
  by_equation n tree within t q =
      let o = ok_then (equation_declared d) (one_equation_read bytes tokens d (children_of n)) e q in
      let same : with_equation d o.value ≡ e = ok_is (with_equation d o.value) e o.gives in
      subst IsRuled same (record {
        sorts = ruled.sorts;
        signature = ruled.signature;
        args = ruled.args;
        strands = ruled.strands;
        counted = ruled.counted;
        strand_table = ruled.strand_table;
        strands_apart = ruled.strands_apart;
        params = ruled.params;
        aims = ruled.aims;
        aim_table = ruled.aim_table;
        parts = ruled.parts;
        equations = last_or_earlier IsSmallEquation d.equations o.value ruled.equations (equation_small bytes tokens d (children_of n) o.value (terms_small n tree (within.terms (left_true (is_eq n) (is_aim n) t))) o.is);
        messages = ruled.messages;
        terms = ruled.terms;
      })

  by_strand : (n : Node) (intruder : Bool) → IsTree n → HasNames bytes tokens n → IsItemWithin n → is_strand n ≡ true → strand_read bytes tokens d intruder (children_of n) ≡ Ok e → IsRuled e
  by_strand n intruder tree named within t q =
      let nodes = children_of n in
      let o = ok_then (strand_declared d) (one_strand_read bytes tokens d intruder (children_of n)) e q in
      let good = strand_ruled bytes tokens d intruder (children_of n) o.value (named.strand t) named.fresh named.variables (within.params t) o.is in
      let counted = strand_counted bytes tokens d intruder (children_of n) o.value (named.events t) (within.events t) good.few o.is in
      let same : with_strand d o.value ≡ e = ok_is (with_strand d o.value) e o.gives in
      let names = strands_with d.strands.list o.value in
      let new : is_some (place_of o.value.name (strand_names d.strands.list)) ≡ false = ap (λ (ns : List (List ℕ)). is_some (place_of o.value.name ns)) (sym ruled.strand_table) ∙ good.new in
      subst IsRuled same (record {
        sorts = ruled.sorts;
        signature = ruled.signature;
        args = ruled.args;
        strands = last_or_earlier (IsNamedStrand d.sig) d.strands.list o.value ruled.strands good.named;
        counted = last_or_earlier IsWithinStrand d.strands.list o.value ruled.counted counted;
        strand_table = ap (λ (ns : List (List ℕ)). ns ++ o.value.name ∷ []) ruled.strand_table ∙ sym names;
        strands_apart = subst AreApart (sym names) (apart_more (strand_names d.strands.list) o.value.name ruled.strands_apart new);
        params =
            last_or_earlier (λ (s : Strand). (j : ℕ) (name : List ℕ) → slice_get s.names j ≡ Some name → IsIn (given d.strands.params o.value.names) name) d.strands.list o.value
            (λ k strand f j name g. given_more d.strands.params o.value.names name (ruled.params k strand f j name g))
            (λ j name g. given_each d.strands.params o.value.names j name g);
        aims = ruled.aims;
        aim_table = ruled.aim_table;
        parts = ruled.parts;
        equations = ruled.equations;
        messages = last_or_earlier IsSmallStrand d.strands.list o.value ruled.messages (strand_small bytes tokens d intruder (children_of n) o.value (tree_kids n tree) (within.symbols t) o.is);
        terms = ruled.terms;
      })

  by_aim : (n : Node) → IsTree n → HasNames bytes tokens n → IsItemWithin n → is_aim n ≡ true → aim_read bytes tokens d (children_of n) ≡ Ok e → IsRuled e
  by_aim n tree named within t q =
      let o = ok_then (aim_declared d) (one_aim_read bytes tokens d (children_of n)) e q in
      let good = aim_ruled bytes tokens d (children_of n) o.value (named.aim t) (within.strand_parts t) (within.known_parts t) o.is in
      let same : with_aim d o.value ≡ e = ok_is (with_aim d o.value) e o.gives in
      let names = aims_with d.aims.list o.value in
      let new : is_some (place_of o.value.name (aim_names d.aims.list)) ≡ false = ap (λ (ns : List (List ℕ)). is_some (place_of o.value.name ns)) (sym ruled.aim_table) ∙ good.new in
      let aims = ruled.aims in
      subst IsRuled same (record {
        sorts = ruled.sorts;
        signature = ruled.signature;
        args = ruled.args;
        strands = ruled.strands;
        counted = ruled.counted;
        strand_table = ruled.strand_table;
        strands_apart = ruled.strands_apart;
        params = ruled.params;
        aims = record {
          names = subst (λ (ns : List (List ℕ)). (k : ℕ) (name : List ℕ) → slice_get ns k ≡ Some name → IsName name) (sym names) (last_or_earlier IsName (aim_names d.aims.list) o.value.name aims.names good.name);
          apart = subst AreApart (sym names) (apart_more (aim_names d.aims.list) o.value.name aims.apart new);
        };
        aim_table = ap (λ (ns : List (List ℕ)). ns ++ o.value.name ∷ []) ruled.aim_table ∙ sym names;
        parts = last_or_earlier IsWithinAim d.aims.list o.value ruled.parts good.within;
        equations = ruled.equations;
        messages = ruled.messages;
        terms = last_or_earlier IsSmallAim d.aims.list o.value ruled.terms (aim_small bytes tokens d (children_of n) o.value (terms_small n tree (within.terms (either_true (is_eq n) (is_aim n) t))) o.is);
      })

  by_kind : (b1 b2 b3 b4 b5 b6 : Bool) (r1 r2 r3 r4 r5 r6 : Result Draft ReadError) →
      (b1 ≡ true → r1 ≡ Ok e → IsRuled e) → (r2 ≡ Ok e → IsRuled e) → (b3 ≡ true → r3 ≡ Ok e → IsRuled e) → (b4 ≡ true → r4 ≡ Ok e → IsRuled e) → (b5 ≡ true → r5 ≡ Ok e → IsRuled e) → (b6 ≡ true → r6 ≡ Ok e → IsRuled e) →
      cond b1 r1 (cond b2 r2 (cond b3 r3 (cond b4 r4 (cond b5 r5 (cond b6 r6 (Ok d)))))) ≡ Ok e → IsRuled e
  by_kind true b2 b3 b4 b5 b6 r1 r2 r3 r4 r5 r6 f1 f2 f3 f4 f5 f6 q = f1 refl q
  by_kind false true b3 b4 b5 b6 r1 r2 r3 r4 r5 r6 f1 f2 f3 f4 f5 f6 q = f2 q
  by_kind false false true b4 b5 b6 r1 r2 r3 r4 r5 r6 f1 f2 f3 f4 f5 f6 q = f3 refl q
  by_kind false false false true b5 b6 r1 r2 r3 r4 r5 r6 f1 f2 f3 f4 f5 f6 q = f4 refl q
  by_kind false false false false true b6 r1 r2 r3 r4 r5 r6 f1 f2 f3 f4 f5 f6 q = f5 refl q
  by_kind false false false false false true r1 r2 r3 r4 r5 r6 f1 f2 f3 f4 f5 f6 q = f6 refl q
  by_kind false false false false false false r1 r2 r3 r4 r5 r6 f1 f2 f3 f4 f5 f6 q = subst IsRuled (ok_is d e q) ruled

  item_ruled : (n : Node) → IsTree n → HasNames bytes tokens n → IsItemWithin n → item_read bytes tokens d n ≡ Ok e → IsRuled e
  item_ruled n tree named within q =
      by_kind (is_sort n) (kind_of n == terminal.SUBSORT) (is_op n) (is_eq n) (is_strand n) (is_aim n)
      (sort_read bytes tokens d (children_of n)) (subsort_read bytes tokens d (children_of n)) (op_read bytes tokens d (children_of n)) (equation_read bytes tokens d (children_of n))
      (strand_read bytes tokens d (kind_of n == terminal.INTRUDER) (children_of n)) (aim_read bytes tokens d (children_of n))
      (λ t. by_sort (children_of n) (named.sort t)) (by_subsort (children_of n)) (λ t. by_op (children_of n) (named.op t) (within.args t)) (λ t. by_equation n tree within t)
      (λ t. by_strand n (kind_of n == terminal.INTRUDER) tree named within t) (λ t. by_aim n tree named within t) q

-- ## The module

module _ (bytes : List ℕ) (tokens : List Token) where
  items_ruled : (ns : List Node) (d e : Draft) → EachOf IsTree ns → ((k : ℕ) (n : Node) → slice_get ns k ≡ Some n → HasNames bytes tokens n) → ((k : ℕ) (n : Node) → slice_get ns k ≡ Some n → IsItemWithin n) →
      IsRuled d → items_read bytes tokens d ns ≡ Ok e → IsRuled e
  items_ruled [] d e trees named within ruled q = subst IsRuled (ok_is d e q) ruled
  items_ruled (n ∷ ns) d e trees named within ruled q =
      let m = ok_then (λ x. items_read bytes tokens x ns) (item_read bytes tokens d n) e q in
      items_ruled ns m.value e trees.1 (λ k x f. named (suc k) x f) (λ k x f. within (suc k) x f) (item_ruled bytes tokens d m.value ruled n trees.0 (named 0 n refl) (within 0 n refl) m.is) m.gives

-- the rules on names and the limits of numbers
pub record IsRuledSource (source : Source) : Type 0 where
  pub named : IsNamedSource source
  pub within : IsWithinSource source
  pub small : IsSmallSource source

pub source_ruled : (bytes : List ℕ) (tokens : List Token) (nodes : List Node) (source : Source) → IsParse module_language bytes tokens nodes → all_count nodes ≤ 1048576 →
    ((symbol : ℕ) (ns : List Node) → is_plain (raw_below tokens symbol ns) ≡ true) → limit_of nodes ≡ None → source_of bytes tokens nodes ≡ Ok source → IsRuledSource source
source_ruled bytes tokens nodes source parse few words within q =
    let name = word_of bytes tokens symbol.PROTOCOL_NAME (below symbol.MODULE nodes) in
    let d = ok_then (finished name) (items_read bytes tokens nothing (items_of nodes)) source q in
    let limits = kept_limits nodes within in
    let done = source_done bytes tokens words nodes d.value few within d.is in
    let ruled = items_ruled bytes tokens (items_of nodes) nothing d.value (items_trees bytes tokens nodes parse) (all_names bytes tokens nodes parse) limits.each ruled_at_first d.is in
    subst IsRuledSource (ok_is _ source d.gives) (record {
      named = record {
        name = protocol_named bytes tokens nodes parse;
        protocol = record { signature = ruled.signature; strands = ruled.strands; strands_apart = ruled.strands_apart };
        aims = ruled.aims;
      };
      within = record {
        protocol = record { sorts = done.few_sorts; ops = done.few_ops; args = ruled.args; equations = done.few_equations; strands = done.few_strands; each_strand = ruled.counted };
        aims = record { few = done.few_aims; each = ruled.parts };
      };
      small = record { protocol = record { equations = ruled.equations; strands = ruled.messages }; aims = ruled.terms };
    })

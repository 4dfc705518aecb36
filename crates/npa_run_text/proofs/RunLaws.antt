-- What a run text stands for: its terms are ground and well sorted, and it has no more instances and
-- steps than trees.
use Rattle.std.proofs.Common.{◌≡◌, ℕ, ◌≤◌, ◌==◌, Bool, true, false, cond, List, [], ◌∷◌, Option, Some, Result, Ok, Err, length, map, filter, refl, sym, ap, subst, ◌∙◌, inl, inr, Contains, arith, zero, suc}
use Rattle.std.proofs.lemmas.List.{length-map}
use Rattle.std.specs.Prelude.{IfOk, slice_get}
use Rattle.std.specs.Option.{option_map_or}
use Rattle.std.specs.List.{find}
use Rattle.npa_syntax.specs.declared.node.Node.{Node}
use Rattle.npa_syntax.specs.Nodes.{symbol_of, children_of}
use Rattle.npa_text.specs.declared.token.Token.{Token}
use Rattle.npa_text.specs.declared.symbols.TheConstants as symbol
use Rattle.npa_text.specs.declared.fault.TextFault.{TextFault}
use Rattle.npa_text.specs.declared.fault.TextFault.TheVariants.{Syntax, NoMemory}
use Rattle.npa_text.specs.Raws.{raw_of, token_at}
use Rattle.npa_text.specs.Texts.{text_of}
use Rattle.npa_text.specs.Sizes.{IsFew}
use Rattle.npa_term.specs.declared.term.Term.{Term}
use Rattle.npa_term.specs.declared.term.Term.TheVariants.{Name}
use Rattle.npa_term.specs.Variables.{IsGround}
use Rattle.npa_sig.specs.declared.fault.UseFail.{UseFail}
use Rattle.npa_sig.specs.declared.protocol.Protocol.{Protocol}
use Rattle.npa_sig.specs.Signature.{Signature}
use Rattle.npa_sig.specs.Sorting.{well_sorted, IsGroundTerm}
use Rattle.npa_sig.specs.Meaning.{read, IsSorted, Gives as GivesTerm}
use Rattle.npa_sig.proofs.Grounds.{ground_read}
use Rattle.npa_sig.proofs.Sorted.{sorted_answer}
use Rattle.npa_model.specs.declared.run.Instance.{Instance}
use Rattle.npa_model.specs.declared.run.Run.{Run}
use Rattle.npa_model.specs.WellFormed.{IsWellFormedRun}
use Rattle.npa_reading.specs.Reading.{mapped, then_read, in_front, all_read, found_or}
use Rattle.npa_reading.specs.Trees.{all_with, below, word_at, child_for}
use Rattle.npa_reading.specs.Verdicts.{text_refusal}
use Rattle.npa_run_text.specs.declared.strand_table.StrandTable.{StrandTable}
use Rattle.npa_run_text.specs.declared.fault.RunTextFail.{RunTextFail}
use Rattle.npa_run_text.specs.RunTexts.{chosen, same_names, strand_of, found_in, IsTableOf, term_or, fail_of, run_reader, unknown, value_read, values_read, params_at, strand_read, instance_of, instance_with, instance_read, instances_read, step_at, run_with, run_of, Gives}

-- ## Lists

abbrev pub At : {A : Type 0} → (A → Type 0) → List A → Type 0
At {A} P xs = (k : ℕ) (x : A) → slice_get xs k ≡ Some x → P x

at_none : {A : Type 0} (P : A → Type 0) → At P []
at_none P k x e = absurd (cc)

at_first : {A : Type 0} (P : A → Type 0) (x : A) (xs : List A) → P x → At P xs → At P (x ∷ xs)
at_first P x xs p all zero y e = let same : x ≡ y = cc in subst P same p
at_first P x xs p all (suc k) y e = all k y e

-- what holds at each place holds of each member
from_places : {A : Type 0} (P : A → Type 0) (xs : List A) → At P xs → (x : A) → Contains xs x → P x
from_places P [] each x (k, l, e) = absurd (omega (arith, l))
from_places P (y ∷ ys) each x (zero, l, e) = subst P e (each zero y refl)
from_places P (y ∷ ys) each x (suc k, l, e) = from_places P ys (λ j z h. each (suc j) z h) x (k, omega (arith, l), e)

kept_fewer : {A : Type 0} (p : A → Bool) (xs : List A) → length (filter p xs) ≤ length xs
kept_fewer p [] = omega arith
kept_fewer {A} p (x ∷ xs) = one (p x) (kept_fewer p xs)
  where
    one : (b : Bool) → length (filter p xs) ≤ length xs → length (cond b (x ∷ filter p xs) (filter p xs)) ≤ length (x ∷ xs)
    one true fewer = omega (arith, fewer)
    one false fewer = omega (arith, fewer)

-- the first of some nodes has as few children as each
first_few : (p : Node → Bool) (nodes : List Node) → At (λ n. length (children_of n) ≤ 1048576) nodes →
    length (option_map_or children_of (find p nodes) []) ≤ 1048576
first_few p [] few = omega arith
first_few p (n ∷ ns) few = one (p n) (few zero n refl) (first_few p ns (λ k m e. few (suc k) m e))
  where
    one : (b : Bool) → length (children_of n) ≤ 1048576 → length (option_map_or children_of (find p ns) []) ≤ 1048576 →
        length (option_map_or children_of (cond b (Some n) (find p ns)) []) ≤ 1048576
    one true here there = here
    one false here there = there

-- a list of values has as many as were asked for, and each is as it is to be
record AreRead {A : Type 0} (P : A → Type 0) (n : ℕ) (xs : List A) : Type 0 where
  pub many : length xs ≡ n
  pub each : At P xs

all_are : {N A E : Type 0} (P : A → Type 0) (f : N → Result A E) → ((n : N) → IfOk (f n) P) → (ns : List N) → IfOk (all_read (map f ns)) (AreRead P (length ns))
all_are P f each [] = record { many = refl; each = at_none P }
all_are {N} {A} {E} P f each (n ∷ ns) = more (f n) (each n) (all_read (map f ns)) (all_are P f each ns)
  where
    more : (r : Result A E) → IfOk r P → (rs : Result (List A) E) → IfOk rs (AreRead P (length ns)) →
        IfOk (in_front r rs) (AreRead P (suc (length ns)))
    more (Err e) p rs q = tt
    more (Ok x) p (Err e) q = tt
    more (Ok x) p (Ok xs) q = record { many = ap suc q.many; each = at_first P x xs p q.each }

-- ## Ground terms

-- what a text means is what it gives
gives_itself : (r : Result Term UseFail) → GivesTerm r r
gives_itself (Ok t) = refl
gives_itself (Err e) = inr refl

-- a scope without variables has no unsorted one
none_unsorted : (sig : Signature) → IsSorted sig []
none_unsorted sig v (k, l, e) = absurd (omega (arith, l))

module _ (bytes : List ℕ) (tokens : List Token) (protocol : Protocol) where
  abbrev AreGoodAt : List Term → Type 0
  AreGoodAt terms = At (IsGroundTerm protocol.sig) terms

  abbrev GoodInstance : Instance → Type 0
  GoodInstance instance = AreGoodAt instance.args

  term_good : (r : Result Term UseFail) → IfOk r IsGround → IfOk r (λ t. well_sorted protocol.sig t ≡ true) → IfOk (term_or r) (IsGroundTerm protocol.sig)
  term_good (Ok t) ground sorted = record { sorted = sorted; ground = ground }
  term_good (Err e) ground sorted = tt

  value_good : (node : Node) → IfOk (value_read bytes tokens protocol node) (IsGroundTerm protocol.sig)
  value_good node =
      let raw = raw_of tokens (child_for symbol.GROUND node) in
      term_good (read protocol.sig [] bytes raw) (ground_read protocol.sig bytes raw)
      (sorted_answer protocol.sig [] bytes (read protocol.sig [] bytes raw) raw (gives_itself (read protocol.sig [] bytes raw)) (none_unsorted protocol.sig))

  values_good : (nodes : List Node) → IfOk (values_read bytes tokens protocol nodes) (AreRead (IsGroundTerm protocol.sig) (length nodes))
  values_good nodes = all_are (IsGroundTerm protocol.sig) (value_read bytes tokens protocol) value_good nodes

  -- the terms of an instance are ground, whether they are its values or a list of a wrong length
  chosen_good : (named : Bool) (params : ℕ) (terms : List Term) → AreGoodAt terms → AreGoodAt (chosen named params terms)
  chosen_good true params terms each = each
  chosen_good false params terms each = one (params == 0)
    where
      one : (b : Bool) → AreGoodAt (cond b (Name 0 ∷ []) [])
      one true = at_first (IsGroundTerm protocol.sig) (Name 0) [] (record { sorted = refl; ground = refl }) (at_none (IsGroundTerm protocol.sig))
      one false = at_none (IsGroundTerm protocol.sig)

  instance_good : (node : Node) → IfOk (instance_read bytes tokens protocol node) GoodInstance
  instance_good node = at_strand (strand_read bytes tokens protocol (token_at tokens (child_for symbol.USED_STRAND node)))
    where
      values : List Node
      values = all_with symbol.VALUE (children_of node)

      with_terms : (k : ℕ) (r : Result (List Term) RunTextFail) → IfOk r (AreRead (IsGroundTerm protocol.sig) (length values)) →
          IfOk (mapped (instance_with bytes tokens protocol values k) r) GoodInstance
      with_terms k (Err e) good = tt
      with_terms k (Ok terms) good = chosen_good (same_names (map (word_at bytes tokens) values) (params_at protocol k)) (length (params_at protocol k)) terms good.each

      at_strand : (r : Result ℕ RunTextFail) → IfOk (then_read (instance_of bytes tokens protocol values) r) GoodInstance
      at_strand (Err e) = tt
      at_strand (Ok k) = with_terms k (values_read bytes tokens protocol values) (values_good values)

  instances_good : (nodes : List Node) → IfOk (instances_read bytes tokens protocol nodes) (AreRead GoodInstance (length nodes))
  instances_good nodes = all_are GoodInstance (instance_read bytes tokens protocol) instance_good nodes

  run_good : (nodes : List Node) → IsFew nodes → IfOk (run_of bytes tokens protocol nodes) (IsWellFormedRun protocol.sig)
  run_good nodes few = with_instances (instances_read bytes tokens protocol (all_with symbol.USED nodes)) (instances_good (all_with symbol.USED nodes))
    where
      with_instances : (r : Result (List Instance) RunTextFail) → IfOk r (AreRead GoodInstance (length (all_with symbol.USED nodes))) →
          IfOk (mapped (run_with bytes tokens protocol nodes) r) (IsWellFormedRun protocol.sig)
      with_instances (Err e) good = tt
      with_instances (Ok instances) good = record {
        terms = λ k instance e t inside. from_places (IsGroundTerm protocol.sig) instance.args (good.each k instance e) t inside;
        few_instances = omega (arith, good.many, kept_fewer (λ n. symbol_of n == symbol.USED) nodes, few.trees);
        few_steps = omega (
          arith,
          length-map (all_with symbol.STEP (below symbol.SCHEDULE nodes)) (step_at bytes tokens),
          kept_fewer (λ n. symbol_of n == symbol.STEP) (below symbol.SCHEDULE nodes),
          first_few (λ n. symbol_of n == symbol.SCHEDULE) nodes few.children,
        );
      }

  -- so a run that is answered is well formed
  pub run_answer : (nodes : List Node) (answer : Result Run RunTextFail) → Gives answer (run_of bytes tokens protocol nodes) → IsFew nodes → IfOk answer (IsWellFormedRun protocol.sig)
  run_answer nodes (Ok run) given few = subst (λ (r : Result Run RunTextFail). IfOk r (IsWellFormedRun protocol.sig)) given (run_good nodes few)
  run_answer nodes (Err e) given few = tt

-- ## An instance

module _ (bytes : List ℕ) (tokens : List Token) (protocol : Protocol) where
  -- the instance of a node, where a table has its strand
  pub instance_at : (node child : Node) (kids values : List Node) (table : StrandTable) (name : Token) (word : List ℕ) (k : ℕ) → IsTableOf protocol.strands table →
      child ≡ child_for symbol.USED_STRAND node → name ≡ token_at tokens child → word ≡ text_of bytes name → found_in table word ≡ Some k →
      kids ≡ children_of node → values ≡ all_with symbol.VALUE kids → instance_read bytes tokens protocol node ≡ instance_of bytes tokens protocol values k
  instance_at node child kids values table name word k tabled child_is name_is word_is found kids_is values_is =
      let there : strand_of (text_of bytes (token_at tokens (child_for symbol.USED_STRAND node))) protocol.strands ≡ Some k =
      ap (λ (w : List ℕ). strand_of w protocol.strands) (sym (word_is ∙ ap (text_of bytes) (name_is ∙ ap (token_at tokens) child_is))) ∙ sym (tabled word) ∙ found in
      ap (λ (o : Option ℕ). then_read (instance_of bytes tokens protocol (all_with symbol.VALUE (children_of node))) (found_or (unknown bytes (token_at tokens (child_for symbol.USED_STRAND node))) o)) there
      ∙ ap (λ (vs : List Node). instance_of bytes tokens protocol vs k) (sym (values_is ∙ ap (all_with symbol.VALUE) kids_is))

  pub instance_refused : (node : Node) (values : List Node) (k : ℕ) (fail : RunTextFail) → instance_read bytes tokens protocol node ≡ instance_of bytes tokens protocol values k →
      Gives (Err fail) (values_read bytes tokens protocol values) → Gives (Err fail) (instance_read bytes tokens protocol node)
  instance_refused node values k fail is (inl none) = inl none
  instance_refused node values k fail is (inr same) = inr (is ∙ ap (mapped (instance_with bytes tokens protocol values k)) same)

  abbrev made : ℕ → List Term → Result Instance RunTextFail
  made k args = Ok (record { strand = k; args = args })

  pub instance_made : (node : Node) (values others : List Node) (k : ℕ) (terms args : List Term) (named : Bool) (params : List (List ℕ)) →
      instance_read bytes tokens protocol node ≡ instance_of bytes tokens protocol values k → Gives (Ok terms) (values_read bytes tokens protocol values) →
      params ≡ params_at protocol k → others ≡ values → named ≡ same_names (map (word_at bytes tokens) others) params → args ≡ chosen named (length params) terms →
      Gives (made k args) (instance_read bytes tokens protocol node)
  instance_made node values others k terms args named params is same params_is others_is named_is args_is =
      let chosen_args : args ≡ chosen (same_names (map (word_at bytes tokens) values) (params_at protocol k)) (length (params_at protocol k)) terms =
      args_is ∙ ap (λ (b : Bool). chosen b (length params) terms) (named_is ∙ ap (λ (vs : List Node). same_names (map (word_at bytes tokens) vs) params) others_is)
      ∙ ap (λ (ps : List (List ℕ)). chosen (same_names (map (word_at bytes tokens) values) ps) (length ps) terms) params_is in
      is ∙ ap (mapped (instance_with bytes tokens protocol values k)) same ∙ ap (made k) (sym chosen_args)

-- ## Refusals

pub same_fail : (protocol : Protocol) (bytes : List ℕ) (fault : TextFault) → fail_of fault ≡ text_refusal (run_reader protocol bytes) fault
same_fail protocol bytes (Syntax line col) = refl
same_fail protocol bytes NoMemory = refl

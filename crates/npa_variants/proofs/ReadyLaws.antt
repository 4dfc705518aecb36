-- What holds of a protocol of which all strands' variants are found and originate.
use Rattle.std.proofs.Common.{◌≡◌, ◌≢◌, ◌<◌, ℕ, zero, suc, Bool, true, Option, Some, None, Result, Ok, Err, List, [], ◌∷◌, length, map, get_or, slice_get, refl, sym, ◌∙◌, ap, subst, arith}
use Rattle.std.specs.Prelude.{Contains}
use Rattle.npa_sorts.specs.Subsorts.{AreSorts, IsBelow}
use Rattle.npa_term.specs.declared.term.Term.{Term}
use Rattle.npa_term.specs.Numbering.{variables_once}
use Rattle.npa_term.specs.Parts.{least_sort}
use Rattle.npa_sig.specs.declared.protocol.Protocol.{Protocol}
use Rattle.npa_sig.specs.declared.protocol.Strand.{Strand}
use Rattle.npa_sig.specs.Parameters.{param_sorts}
use Rattle.npa_sig.specs.Sorting.{all_below}
use Rattle.npa_rewrite.specs.declared.theory.Theory.{Theory}
use Rattle.npa_rewrite.specs.Normal.{IsNormalTerm}
use Rattle.npa_rewrite.specs.Rewriting.{GivesNormalForms}
use Rattle.npa_rewrite.specs.Theories.{theory_of}
use Rattle.npa_rewrite.proofs.InstanceParts.{here, behind}
use Rattle.npa_variants.specs.declared.variant.Variant.{Variant}
use Rattle.npa_variants.specs.Origination.{Originates}
use Rattle.npa_variants.specs.Originating.{IsOriginating}
use Rattle.npa_variants.specs.Ready.{strand_rows, strand_list, IsFound, IsReady}
use Rattle.npa_variants.specs.Rows.{Row}
use Rattle.npa_variants.specs.Search.{Stop}
use Rattle.npa_variants.specs.Strands.{param_count, strand_terms}
use Rattle.npa_variants.specs.StrandVariants.{AreStrandVariants, IsInstanceOf}
use Rattle.npa_variants.proofs.StrandInstances.{strand_instance}
use Rattle.npa_variants.proofs.StrandOrigins.{HasOrigins, strands_originate}
use Rattle.npa_variants.proofs.StrandRows.{strand_narrowable, strand_variants}

-- the list that is found is one
pub found_one : (th : Theory) (strand : Strand) (a b : List Variant) → IsFound th strand a → IsFound th strand b → a ≡ b
found_one th strand a b first second =
    let same : first.rows ≡ second.rows = rows_same first.rows second.rows (strand_rows th strand) first.found second.found in
    first.is ∙ ap (strand_list strand) same ∙ sym second.is
  where
    rows_same : (x y : List Row) (r : Result (List Row) Stop) → r ≡ Ok x → r ≡ Ok y → x ≡ y
    rows_same x y r e f = cc

-- a place below the length has a member
pub there_is : {X : Type 0} (xs : List X) (k : ℕ) → k < length xs → (x : X) × (slice_get xs k ≡ Some x)
there_is [] k small = absurd (let no : ⊥ = omega (arith, small) in no)
there_is (x ∷ xs) zero small = (x, refl)
there_is (x ∷ xs) (suc k) small = there_is xs k (omega (arith, small))

member_below : {X : Type 0} (xs : List X) (k : ℕ) (x : X) → slice_get xs k ≡ Some x → k < length xs
member_below [] k x e = cc
member_below (y ∷ ys) zero x e = omega arith
member_below (y ∷ ys) (suc k) x e = let rest = member_below ys k x e in omega (arith, rest)

-- a strand's list is there
pub list_below : (protocol : Protocol) (lists : List (List Variant)) → IsReady protocol lists → (k : ℕ) → k < length protocol.strands → k < length lists
list_below protocol lists ready k small =
    let strand = there_is protocol.strands k small in
    let found = ready.found k strand.0 strand.1 in
    member_below lists k found.0 found.1

there_member : {X : Type 0} (xs : List X) (k : ℕ) (x : X) → slice_get xs k ≡ Some x → Contains xs x
there_member [] k x e = cc
there_member (y ∷ ys) zero x e = subst (Contains (y ∷ ys)) (let same : y ≡ x = cc in same) (here y ys)
there_member (y ∷ ys) (suc k) x e = behind y x ys (there_member ys k x e)

some_same : {X : Type 0} (o : Option X) (x y : X) → o ≡ Some x → o ≡ Some y → x ≡ y
some_same o x y e f = cc

pub list_found : (protocol : Protocol) (lists : List (List Variant)) → IsReady protocol lists → (k : ℕ) (list : List Variant) → slice_get lists k ≡ Some list → (strand : Strand) →
    slice_get protocol.strands k ≡ Some strand → IsFound (theory_of protocol) strand list
list_found protocol lists ready k list is strand at =
    let found = ready.found k strand at in
    subst (IsFound (theory_of protocol) strand) (some_same (slice_get lists k) found.0 list found.1 is) found.2

module _ (protocol : Protocol) (lists : List (List Variant)) (ready : IsReady protocol lists) (sorts : AreSorts protocol.sig.sorts)
    (acyclic : (r : ℕ) → IsBelow protocol.sig.sorts r r → ⊥) where
  pub ready_variants : (s : ℕ) (strand : Strand) (list : List Variant) → slice_get protocol.strands s ≡ Some strand → IsFound (theory_of protocol) strand list →
      AreStrandVariants (theory_of protocol) strand list
  ready_variants s strand list at found =
      let given = strand_narrowable protocol ready.formed ready.plain ready.cancelling ready.convergent sorts acyclic strand (there_member protocol.strands s strand at) in
      subst (AreStrandVariants (theory_of protocol) strand) (sym found.is)
      (strand_variants (theory_of protocol) strand (ready.formed.strands s strand at) (ready.plain.strands s strand at) given found.rows found.found)

  pub ready_originates : (s : ℕ) (strand : Strand) (list : List Variant) → slice_get protocol.strands s ≡ Some strand → IsFound (theory_of protocol) strand list →
      (v : Variant) → Contains list v → Originates protocol.sig (param_count strand) strand v.terms
  ready_originates s strand list at found v c =
      let own = ready.found s strand at in
      ready.originate s strand own.0 at own.1 v (subst (λ l. Contains l v) (found_one (theory_of protocol) strand list own.0 found own.2) c)

  strand_origins : (s : ℕ) (strand : Strand) → slice_get protocol.strands s ≡ Some strand → HasOrigins (theory_of protocol) strand
  strand_origins s strand at =
      let own = ready.found s strand at in
      let are = ready_variants s strand own.0 at own.2 in
      record {
        variants = own.0;
        complete = are.variants.complete;
        nameless = λ v c t d. (are.each v c).nameless t d;
        originate = λ v c. ready_originates s strand own.0 at own.2 v c;
      }

  pub ready_originating : ((s t : ℕ) → IsBelow protocol.sig.sorts s t → (s ≢ 1) × (t ≢ 1)) → (nf : Term → Term) → GivesNormalForms (theory_of protocol) nf →
      IsOriginating nf protocol.sig protocol.strands
  ready_originating alone nf gives =
      strands_originate (theory_of protocol) nf gives ready.convergent alone ready.formed.signature.not_fresh protocol.strands ready.formed.strands strand_origins

  pub ready_instances : (nf : Term → Term) → GivesNormalForms (theory_of protocol) nf → (s : ℕ) (strand : Strand) (list : List Variant) → slice_get protocol.strands s ≡ Some strand →
      IsFound (theory_of protocol) strand list → (args : List Term) → all_below protocol.sig (map least_sort args) (param_sorts strand) ≡ true →
      ((t : Term) → Contains args t → IsNormalTerm nf protocol.sig t) → (v : Variant) × Contains list v × IsInstanceOf nf protocol.sig strand args v
  ready_instances nf gives s strand list at found args low normal =
      strand_instance (theory_of protocol) nf gives ready.cancelling ready.formed.signature.pairs ready.convergent strand (ready.formed.strands s strand at) args low normal list
      (ready_variants s strand list at found).variants.complete

-- the list that is read is the strand's
pub list_read : (protocol : Protocol) (lists ls : List (List Variant)) → IsReady protocol lists → (k : ℕ) (list : List Variant) → k < length protocol.strands → ls ≡ lists → list ≡ get_or ls k list →
    (strand : Strand) → slice_get protocol.strands k ≡ Some strand → IsFound (theory_of protocol) strand list
list_read protocol lists ls ready k list small same is =
    list_found protocol lists ready k list (read lists k list (list_below protocol lists ready k small) (is ∙ ap (λ l. get_or l k list) same))
  where
    read : (xs : List (List Variant)) (i : ℕ) (x : List Variant) → i < length xs → x ≡ get_or xs i x → slice_get xs i ≡ Some x
    read [] i x less e = absurd (let no : ⊥ = omega (arith, less) in no)
    read (y ∷ ys) zero x less e = ap Some (sym e)
    read (y ∷ ys) (suc i) x less e = read ys i x (omega (arith, less)) e

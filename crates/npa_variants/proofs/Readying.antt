-- What the check of a protocol answers: the first fault of its strands, or lists of variants that are found
-- and originate.
use Rattle.std.proofs.Common.{◌≡◌, ◌≢◌, ◌⊎◌, ◌↔◌, ◌<◌, ◌≤◌, ◌^◌, ℕ, zero, suc, ◌+◌, Bool, true, false, Option, Some, None, Result, Ok, Err, List, [], ◌∷◌, ◌++◌, length, map, take, drop, get_or, slice_get, refl, sym, ◌∙◌, ap, subst, inl, inr, arith, lt-length-set}
use Rattle.std.specs.Prelude.{⊤, Contains, IfSome}
use Rattle.std.specs.Option.{option_or}
use Rattle.std.proofs.lemmas.List.{drop_more, take_more}
use Rattle.npa_term.specs.declared.term.Var.{Var as Variable}
use Rattle.npa_term.specs.declared.term.Term.{Term}
use Rattle.npa_term.specs.Numbering.{variables_once}
use Rattle.npa_sig.specs.declared.protocol.Protocol.{Protocol}
use Rattle.npa_sig.specs.declared.protocol.Strand.{Strand}
use Rattle.npa_sig.specs.Nameless.{CarriesNames, AreCarriers}
use Rattle.npa_sig.specs.Signature.{Signature}
use Rattle.npa_sig.specs.WellFormed.{IsWellFormedProtocol, IsPlainProtocol}
use Rattle.npa_rewrite.specs.declared.theory.Theory.{Theory}
use Rattle.npa_rewrite.specs.Rewriting.{AllCancel, IsConvergent}
use Rattle.npa_rewrite.specs.Theories.{theory_of}
use Rattle.npa_rewrite.proofs.InstanceParts.{here, behind, member_cases}
use Rattle.npa_variants.specs.declared.error.VarFail.{VarFail}
use Rattle.npa_variants.specs.declared.error.VarFail.TheVariants as var_fail
use Rattle.npa_variants.specs.declared.fault.ReadyFail.{ReadyFail}
use Rattle.npa_variants.specs.declared.fault.ReadyFail.TheVariants as fail
use Rattle.npa_variants.specs.declared.variant.Variant.{Variant}
use Rattle.npa_variants.specs.Origination.{Originates, row_fault, at_variant, origin_fault}
use Rattle.npa_variants.specs.Ready.{strand_rows, strand_list, search_fault, at_strand, list_fault, strand_fault, first_fault, searches_fault, origins_fault, ready_fault, Tells, Answers, IsFound, IsReady, AreFound, lists_fault}
use Rattle.npa_variants.specs.Rows.{Row}
use Rattle.npa_variants.specs.Search.{Stop, too_many, unifiers, symbols, start_row}
use Rattle.npa_variants.specs.Strands.{param_count, strand_terms}
use Rattle.npa_variants.specs.Told.{Told}
use Rattle.npa_variants.specs.Variants.{variant_of}
use Rattle.npa_variants.proofs.Few.{Holds, OneMore, variants_few}
use Rattle.npa_variants.proofs.Members.{none_there, mapped_member}
use Rattle.npa_variants.proofs.OriginSteps.{rest_at}
use Rattle.npa_variants.proofs.Originating.{originating}

-- ## One strand

-- what the search tells of a strand is told of it
pub told_strand : (th : Theory) (number : ℕ) (strand : Strand) (terms : List Term) (list : List Variant) → terms ≡ strand_terms strand →
    Told (variables_once terms) (Ok list) (strand_rows th strand) → Answers (IsFound th strand) (Ok list) (search_fault number strand (strand_rows th strand))
told_strand th number strand terms list are told = by (strand_rows th strand) refl (subst (λ ts. Told (variables_once ts) (Ok list) (strand_rows th strand)) are told)
  where
    by : (r : Result (List Row) Stop) → strand_rows th strand ≡ r → Told (variables_once (strand_terms strand)) (Ok list) r → Answers (IsFound th strand) (Ok list) (search_fault number strand r)
    by (Ok rows) is told_ = (record { rows = rows; found = is; is = told_ }, refl)
    by (Err stop) is told_ = absurd told_

pub told_many : (number : ℕ) (strand : Strand) (terms : List Term) (list : List Variant) (r : Result (List Row) Stop) → terms ≡ strand_terms strand →
    Told (variables_once terms) (Err (var_fail.TooMany list)) r → search_fault number strand r ≡ Some (fail.Variants number list)
told_many number strand terms list (Ok rows) are told = absurd told
told_many number strand terms list (Err (too_many rows)) are told =
    ap (λ l. Some (fail.Variants number l)) (ap (λ ts. map (variant_of (variables_once ts)) rows) (sym are) ∙ sym told)
told_many number strand terms list (Err unifiers) are told = absurd told
told_many number strand terms list (Err (symbols n)) are told = absurd told

-- ## One strand after the other

option_none : {X : Type 0} (a b : Option X) → option_or a b ≡ None → (a ≡ None) × (b ≡ None)
option_none (Some x) b e = cc
option_none None b e = (refl, e)

-- a fault in front is the first
pub tells_first : (e : ReadyFail) (a b : Option ReadyFail) → Tells e a → Tells e (option_or a b)
tells_first (fail.Variants s list) a b told = ap (λ o. option_or o b) told
tells_first (fail.Unifiers s) a b told = ap (λ o. option_or o b) told
tells_first (fail.Symbols s n) a b told = ap (λ o. option_or o b) told
tells_first (fail.Origin s at v) a b told = ap (λ o. option_or o b) told
tells_first fail.NoMemory a b told = tt

-- and where there is none, the next
pub tells_next : (e : ReadyFail) (a b : Option ReadyFail) → a ≡ None → Tells e b → Tells e (option_or a b)
tells_next e a b none told = subst (λ o. Tells e (option_or o b)) (sym none) told

pub tells_same : (e : ReadyFail) (a b : Option ReadyFail) → a ≡ b → Tells e a → Tells e b
tells_same e a b same told = subst (Tells e) same told

pub search_step : (th : Theory) (strands : List Strand) (at : ℕ) (strand : Strand) → at < length strands → strand ≡ get_or strands at strand →
    searches_fault th at (drop at strands) ≡ option_or (search_fault at strand (strand_rows th strand)) (searches_fault th (at + 1) (drop (at + 1) strands))
search_step th strands at strand small is = ap (searches_fault th at) (rest_at strands at strand small is)

pub found_push : (th : Theory) (strands : List Strand) (lists : List (List Variant)) (strand : Strand) (list : List Variant) → AreFound th strands lists → IsFound th strand list →
    AreFound th (strands ++ strand ∷ []) (lists ++ list ∷ [])
found_push th [] [] strand list are is = (is, tt)
found_push th [] (l ∷ ls) strand list are is = absurd are
found_push th (s ∷ ss) [] strand list are is = absurd are
found_push th (s ∷ ss) (l ∷ ls) strand list are is = (are.0, found_push th ss ls strand list are.1 is)

pub found_step : (th : Theory) (strands : List Strand) (lists new : List (List Variant)) (at : ℕ) (strand : Strand) (list : List Variant) → at < length strands →
    strand ≡ get_or strands at strand → AreFound th (take at strands) lists → IsFound th strand list → new ≡ lists ++ list ∷ [] → AreFound th (take (at + 1) strands) new
found_step th strands lists new at strand list small is are found made =
    subst (AreFound th (take (at + 1) strands)) (sym made)
    (subst (λ ss. AreFound th ss (lists ++ list ∷ [])) (sym (take_more strands at strand small ∙ ap (λ x. take at strands ++ x ∷ []) (sym is)))
    (found_push th (take at strands) lists strand list are found))

pub found_length : (th : Theory) (strands : List Strand) (lists : List (List Variant)) → AreFound th strands lists → length lists ≡ length strands
found_length th [] [] are = refl
found_length th [] (l ∷ ls) are = absurd are
found_length th (s ∷ ss) [] are = absurd are
found_length th (s ∷ ss) (l ∷ ls) are = ap suc (found_length th ss ls are.1)

pub found_at : (th : Theory) (strands : List Strand) (lists : List (List Variant)) → AreFound th strands lists → (s : ℕ) (strand : Strand) → slice_get strands s ≡ Some strand →
    (list : List Variant) × (slice_get lists s ≡ Some list) × IsFound th strand list
found_at th [] lists are s strand at = cc
found_at th (x ∷ xs) [] are s strand at = absurd are
found_at th (x ∷ xs) (l ∷ ls) are zero strand at = (l, refl, subst (λ y. IsFound th y l) (let same : x ≡ strand = cc in same) are.0)
found_at th (x ∷ xs) (l ∷ ls) are (suc s) strand at = found_at th xs ls are.1 s strand at

-- ## Origins

-- a list that is found has 64 members at most
mapped_length : {X Y : Type 0} (f : X → Y) (xs : List X) → length (map f xs) ≡ length xs
mapped_length f [] = refl
mapped_length f (x ∷ xs) = ap suc (mapped_length f xs)

pub found_few : (th : Theory) (strand : Strand) (list : List Variant) → IsFound th strand list → length list ≤ 64
found_few th strand list found =
    let terms = strand_terms strand in
    let few = variants_few 64 th (length (variables_once terms)) (start_row th (variables_once terms) terms) (omega arith) in
    let rows : length found.rows ≤ 64 = subst (Holds (λ L. length L ≤ 64) (OneMore 64)) found.found few in
    subst (λ n. n ≤ 64) (sym (ap length found.is ∙ mapped_length (variant_of (variables_once terms)) found.rows)) rows

-- the variant that is told is one of the list
pub fault_within : (marks : List Bool) (m : ℕ) (strand : Strand) (j : ℕ) (rows : List Row) (f : ℕ × Variable) → origin_fault marks m strand j rows ≡ Some f → f.0 < j + length rows
fault_within marks m strand j [] f e = cc
fault_within marks m strand j (row ∷ rows) f e =
    elim (row_fault marks m strand row) as (λ o. at_variant j row o (origin_fault marks m strand (j + 1) rows) ≡ Some f → f.0 < j + suc (length rows)) [
      | None ↦ λ d. let rest = fault_within marks m strand (j + 1) rows f d in omega (arith, rest)
      | Some v ↦ λ d. let same : j ≡ f.0 = ap (number_of j) d in omega (arith, same)
    ] e
  where
    number_of : ℕ → Option (ℕ × Variable) → ℕ
    number_of k None = k
    number_of k (Some x) = x.0

pub lists_step : (marks : List Bool) (strands : List Strand) (lists : List (List Variant)) (at : ℕ) (strand : Strand) (list : List Variant) → at < length strands → at < length lists →
    strand ≡ get_or strands at strand → list ≡ get_or lists at list →
    lists_fault marks at (drop at strands) (drop at lists) ≡ option_or (list_fault marks at strand list) (lists_fault marks (at + 1) (drop (at + 1) strands) (drop (at + 1) lists))
lists_step marks strands lists at strand list small few is there =
    ap (λ ss. lists_fault marks at ss (drop at lists)) (rest_at strands at strand small is)
    ∙ ap (lists_fault marks at (strand ∷ drop (at + 1) strands)) (rest_at lists at list few there)

-- the lists that are found have the faults of the strands
pub lists_origins : (marks : List Bool) (th : Theory) (s : ℕ) (strands : List Strand) (lists : List (List Variant)) → AreFound th strands lists →
    lists_fault marks s strands lists ≡ origins_fault marks th s strands
lists_origins marks th s [] lists are = refl
lists_origins marks th s (strand ∷ strands) [] are = absurd are
lists_origins marks th s (strand ∷ strands) (list ∷ lists) are =
    let own : list_fault marks s strand list ≡ strand_fault marks s strand (strand_rows th strand) =
    ap (list_fault marks s strand) are.0.is ∙ sym (ap (strand_fault marks s strand) are.0.found) in
    ap (λ o. option_or o (lists_fault marks (s + 1) strands lists)) own
    ∙ ap (option_or (strand_fault marks s strand (strand_rows th strand))) (lists_origins marks th (s + 1) strands lists are.1)

-- ## Marks

same_bools : (a b : List Bool) → length a ≡ length b → ((s : ℕ) → get_or a s false ≡ get_or b s false) → a ≡ b
same_bools [] [] long same = refl
same_bools [] (y ∷ ys) long same = absurd (let no : ⊥ = omega (arith, long) in no)
same_bools (x ∷ xs) [] long same = absurd (let no : ⊥ = omega (arith, long) in no)
same_bools (x ∷ xs) (y ∷ ys) long same =
    ap (λ z. z ∷ xs) (same 0) ∙ ap (λ zs. y ∷ zs) (same_bools xs ys (omega (arith, long)) (λ s. same (suc s)))

-- the marks of a signature are one list
pub marks_one : (sig : Signature) (a b : List Bool) → AreCarriers sig a → AreCarriers sig b → a ≡ b
marks_one sig a b first second =
    same_bools a b (first.long ∙ sym second.long) (λ s. same (get_or a s false) (get_or b s false) (λ e. (second.exact s).1 ((first.exact s).0 e)) (λ e. (first.exact s).1 ((second.exact s).0 e)))
  where
    same : (x y : Bool) → (x ≡ true → y ≡ true) → (y ≡ true → x ≡ true) → x ≡ y
    same true y f g = sym (f refl)
    same false true f g = g refl
    same false false f g = refl

-- ## The protocol

list_originates : (sig : Signature) (marks : List Bool) → AreCarriers sig marks → (s : ℕ) (strand : Strand) (list : List Variant) → list_fault marks s strand list ≡ None →
    (v : Variant) → Contains list v → Originates sig (param_count strand) strand v.terms
list_originates sig marks are s strand list none v c =
    (originating sig marks are (param_count strand) strand 0 (map (λ w. w.terms) list)).0 (no_fault (origin_fault marks (param_count strand) strand 0 (map (λ w. w.terms) list)) none)
    v.terms (mapped_member (λ w. w.terms) list v c)
  where
    no_fault : (o : Option (ℕ × Variable)) → at_strand s o ≡ None → o ≡ None
    no_fault None e = refl
    no_fault (Some f) e = cc

pub lists_originate : (sig : Signature) (marks : List Bool) → AreCarriers sig marks → (j : ℕ) (strands : List Strand) (lists : List (List Variant)) → lists_fault marks j strands lists ≡ None →
    (s : ℕ) (strand : Strand) (list : List Variant) → slice_get strands s ≡ Some strand → slice_get lists s ≡ Some list → (v : Variant) → Contains list v →
    Originates sig (param_count strand) strand v.terms
lists_originate sig marks are j [] lists none s strand list at there v c = cc
lists_originate sig marks are j (x ∷ xs) [] none s strand list at there v c = cc
lists_originate sig marks are j (x ∷ xs) (l ∷ ls) none zero strand list at there v c =
    let both = option_none (list_fault marks j x l) (lists_fault marks (j + 1) xs ls) none in
    let same : x ≡ strand = cc in
    let list_is : l ≡ list = cc in
    list_originates sig marks are j strand list (subst (λ y. list_fault marks j y list ≡ None) same (subst (λ y. list_fault marks j x y ≡ None) list_is both.0)) v c
lists_originate sig marks are j (x ∷ xs) (l ∷ ls) none (suc s) strand list at there v c =
    let both = option_none (list_fault marks j x l) (lists_fault marks (j + 1) xs ls) none in
    lists_originate sig marks are (j + 1) xs ls both.1 s strand list at there v c

pub ready_made : (protocol : Protocol) (th : Theory) (lists : List (List Variant)) (marks : List Bool) → AllCancel (theory_of protocol) → IsConvergent (theory_of protocol) →
    IsWellFormedProtocol protocol → IsPlainProtocol protocol → th ≡ theory_of protocol → AreFound th protocol.strands lists → AreCarriers protocol.sig marks →
    lists_fault marks 0 protocol.strands lists ≡ None → IsReady protocol lists
ready_made protocol th lists marks cancel convergent formed plain is are carriers none = record {
  cancelling = cancel;
  convergent = convergent;
  formed = formed;
  plain = plain;
  found = found_at (theory_of protocol) protocol.strands lists (subst (λ t. AreFound t protocol.strands lists) is are);
  originate = lists_originate protocol.sig marks carriers 0 protocol.strands lists none;
}

-- what is answered, whatever the marks
module _ (protocol : Protocol) (th : Theory) (is : th ≡ theory_of protocol) where
  pub ready_none : (lists : List (List Variant)) (own marks : List Bool) → AreCarriers protocol.sig own → AreCarriers protocol.sig marks → searches_fault th 0 protocol.strands ≡ None →
      AreFound th protocol.strands lists → lists_fault own 0 protocol.strands lists ≡ None → ready_fault marks protocol ≡ None
  ready_none lists own marks first second none are originate =
      ap (λ t. option_or (searches_fault t 0 protocol.strands) (origins_fault marks t 0 protocol.strands)) (sym is)
      ∙ ap (λ o. option_or o (origins_fault marks th 0 protocol.strands)) none
      ∙ sym (lists_origins marks th 0 protocol.strands lists are) ∙ ap (λ m. lists_fault m 0 protocol.strands lists) (marks_one protocol.sig marks own second first) ∙ originate

  pub ready_unfound : (marks : List Bool) (e : ReadyFail) → Tells e (searches_fault th 0 protocol.strands) → Tells e (ready_fault marks protocol)
  ready_unfound marks e told =
      tells_first e (searches_fault (theory_of protocol) 0 protocol.strands) (origins_fault marks (theory_of protocol) 0 protocol.strands)
      (subst (λ t. Tells e (searches_fault t 0 protocol.strands)) is told)

  pub ready_unoriginated : (lists : List (List Variant)) (own marks : List Bool) (e : ReadyFail) → AreCarriers protocol.sig own → AreCarriers protocol.sig marks →
      searches_fault th 0 protocol.strands ≡ None → AreFound th protocol.strands lists → Tells e (lists_fault own 0 protocol.strands lists) → Tells e (ready_fault marks protocol)
  ready_unoriginated lists own marks e first second none are told =
      let faults : lists_fault own 0 protocol.strands lists ≡ origins_fault marks (theory_of protocol) 0 protocol.strands =
      ap (λ m. lists_fault m 0 protocol.strands lists) (marks_one protocol.sig own marks first second) ∙ lists_origins marks th 0 protocol.strands lists are
      ∙ ap (λ t. origins_fault marks t 0 protocol.strands) is in
      tells_next e (searches_fault (theory_of protocol) 0 protocol.strands) (origins_fault marks (theory_of protocol) 0 protocol.strands)
      (sym (ap (λ t. searches_fault t 0 protocol.strands) is) ∙ none) (subst (Tells e) faults told)

-- ## Steps of the loops

take_past : {X : Type 0} (xs : List X) (n : ℕ) → length xs ≤ n → take n xs ≡ xs
take_past [] zero long = refl
take_past [] (suc n) long = refl
take_past (x ∷ xs) zero long = absurd (let no : ⊥ = omega (arith, long) in no)
take_past (x ∷ xs) (suc n) long = ap (λ ys. x ∷ ys) (take_past xs n (omega (arith, long)))

drop_past : {X : Type 0} (xs : List X) (n : ℕ) → length xs ≤ n → drop n xs ≡ []
drop_past [] zero long = refl
drop_past [] (suc n) long = refl
drop_past (x ∷ xs) zero long = absurd (let no : ⊥ = omega (arith, long) in no)
drop_past (x ∷ xs) (suc n) long = drop_past xs n (omega (arith, long))

module _ (th : Theory) (strands : List Strand) (at : ℕ) where
  abbrev Rest : Type 0
  Rest = searches_fault th at (drop at strands) ≡ searches_fault th 0 strands

  pub unfound_here : (strand : Strand) (e : ReadyFail) → at < length strands → strand ≡ get_or strands at strand → Rest → Tells e (search_fault at strand (strand_rows th strand)) →
      Tells e (searches_fault th 0 strands)
  unfound_here strand e small is rest told =
      tells_same e (option_or (search_fault at strand (strand_rows th strand)) (searches_fault th (at + 1) (drop (at + 1) strands))) (searches_fault th 0 strands)
      (sym (search_step th strands at strand small is) ∙ rest)
      (tells_first e (search_fault at strand (strand_rows th strand)) (searches_fault th (at + 1) (drop (at + 1) strands)) told)

  pub found_here : (strand : Strand) → at < length strands → strand ≡ get_or strands at strand → Rest → search_fault at strand (strand_rows th strand) ≡ None →
      searches_fault th (at + 1) (drop (at + 1) strands) ≡ searches_fault th 0 strands
  found_here strand small is rest none =
      sym (search_step th strands at strand small is ∙ ap (λ o. option_or o (searches_fault th (at + 1) (drop (at + 1) strands))) none) ∙ rest

  pub found_all : (lists new : List (List Variant)) → length strands ≤ at → AreFound th (take at strands) lists → Rest → new ≡ lists →
      AreFound th strands new × (searches_fault th 0 strands ≡ None)
  found_all lists new long are rest is = (
    subst (AreFound th strands) (sym is) (subst (λ ss. AreFound th ss lists) (take_past strands at long) are),
    sym rest ∙ ap (searches_fault th at) (drop_past strands at long),
  )

module _ (marks : List Bool) (strands : List Strand) (lists : List (List Variant)) (at : ℕ) where
  abbrev Later : Type 0
  Later = lists_fault marks at (drop at strands) (drop at lists) ≡ lists_fault marks 0 strands lists

  fault_is : (strand : Strand) (list ls : List Variant) (fault : Option (ℕ × Variable)) → ls ≡ list →
      fault ≡ origin_fault marks (param_count strand) strand 0 (map (λ v. v.terms) ls) → list_fault marks at strand list ≡ at_strand at fault
  fault_is strand list ls fault same is = ap (λ l. at_strand at (origin_fault marks (param_count strand) strand 0 (map (λ v. v.terms) l))) (sym same) ∙ ap (at_strand at) (sym is)

  pub originates_here : (strand : Strand) (list ls : List Variant) (fault : Option (ℕ × Variable)) → at < length strands → at < length lists → strand ≡ get_or strands at strand →
      list ≡ get_or lists at list → ls ≡ list → fault ≡ origin_fault marks (param_count strand) strand 0 (map (λ v. v.terms) ls) → fault ≡ None → Later →
      lists_fault marks (at + 1) (drop (at + 1) strands) (drop (at + 1) lists) ≡ lists_fault marks 0 strands lists
  originates_here strand list ls fault small few is there same given none later =
      sym (lists_step marks strands lists at strand list small few is there
      ∙ ap (λ o. option_or o (lists_fault marks (at + 1) (drop (at + 1) strands) (drop (at + 1) lists))) (fault_is strand list ls fault same given ∙ ap (at_strand at) none)) ∙ later

  pub unoriginated_here : (strand : Strand) (list ls : List Variant) (fault : Option (ℕ × Variable)) (f : ℕ × Variable) → at < length strands → at < length lists → strand ≡ get_or strands at strand →
      list ≡ get_or lists at list → ls ≡ list → fault ≡ origin_fault marks (param_count strand) strand 0 (map (λ v. v.terms) ls) → fault ≡ Some f → Later →
      Some (fail.Origin at f.0 f.1) ≡ lists_fault marks 0 strands lists
  unoriginated_here strand list ls fault f small few is there same given some later =
      sym (sym later ∙ lists_step marks strands lists at strand list small few is there
      ∙ ap (λ o. option_or o (lists_fault marks (at + 1) (drop (at + 1) strands) (drop (at + 1) lists))) (fault_is strand list ls fault same given ∙ ap (at_strand at) some))

  pub originates_all : length strands ≤ at → Later → None ≡ lists_fault marks 0 strands lists
  originates_all long later = sym (sym later ∙ ap (λ ss. lists_fault marks at ss (drop at lists)) (drop_past strands at long))

  -- the number of a variant has 16 bits
  pub variant_small : (th : Theory) (strand : Strand) (list ls : List Variant) (fault : Option (ℕ × Variable)) (f : ℕ × Variable) → AreFound th strands lists → at < length strands → at < length lists →
      strand ≡ get_or strands at strand → list ≡ get_or lists at list → ls ≡ list → fault ≡ origin_fault marks (param_count strand) strand 0 (map (λ v. v.terms) ls) → fault ≡ Some f → f.0 < 64
  variant_small th strand list ls fault f are small few is there same given some =
      let within = fault_within marks (param_count strand) strand 0 (map (λ v. v.terms) ls) f (sym given ∙ some) in
      let size : length (map (λ v. v.terms) ls) ≡ length list = mapped_length (λ v. v.terms) ls ∙ ap length same in
      let found = found_get th strands lists are at strand list small few is there in
      let short = found_few th strand list found in
      omega (arith, within, size, short)
    where
      found_get : (t : Theory) (ss : List Strand) (ls_ : List (List Variant)) → AreFound t ss ls_ → (i : ℕ) (x : Strand) (l : List Variant) → i < length ss → i < length ls_ → x ≡ get_or ss i x →
          l ≡ get_or ls_ i l → IsFound t x l
      found_get t [] ls_ a i x l less few_ e g = absurd (let no : ⊥ = omega (arith, less) in no)
      found_get t (y ∷ ys) [] a i x l less few_ e g = absurd a
      found_get t (y ∷ ys) (m ∷ ms) a zero x l less few_ e g = subst (λ z. IsFound t z l) (sym e) (subst (IsFound t y) (sym g) a.0)
      found_get t (y ∷ ys) (m ∷ ms) a (suc i) x l less few_ e g = found_get t ys ms a.1 i x l (omega (arith, less)) (omega (arith, few_)) e g

pub tells_some : (e : ReadyFail) (o : Option ReadyFail) → o ≡ Some e → Tells e o
tells_some (fail.Variants s list) o is = is
tells_some (fail.Unifiers s) o is = is
tells_some (fail.Symbols s n) o is = is
tells_some (fail.Origin s at v) o is = is
tells_some fail.NoMemory o is = tt

pub fault_alike : (fault : Option ReadyFail) (ms marks : List Bool) (ss strands : List Strand) (ls lists : List (List Variant)) → fault ≡ lists_fault ms 0 ss ls → ms ≡ marks → ss ≡ strands → ls ≡ lists →
    fault ≡ lists_fault marks 0 strands lists
fault_alike fault ms marks ss strands ls lists is a b c =
    is ∙ ap (λ m. lists_fault m 0 ss ls) a ∙ ap (λ s. lists_fault marks 0 s ls) b ∙ ap (lists_fault marks 0 strands) c

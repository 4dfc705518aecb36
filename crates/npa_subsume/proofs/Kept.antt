-- What every cover keeps: the kinds of strands, and the operators of facts.
use Rattle.std.proofs.Common.{◌≡◌, ℕ, zero, suc, ◌+◌, ◌<◌, ◌≤◌, Bool, true, false, cond, nat_eq, ◌&&◌, List, [], ◌∷◌, Some, length, map, get_or, slice_get, slice_set, Contains, refl, ap, sym, ◌∙◌, arith}
use Rattle.std.proofs.lemmas.List.{length-map}
use Rattle.std.proofs.lemmas.Option.{same_Some, none-some, slice_get_read}
use Rattle.npa_sorts.specs.Subsorts.{Subsorts}
use Rattle.npa_term.specs.declared.term.Op.{Op}
use Rattle.npa_term.specs.declared.term.Var.{Var as Variable}
use Rattle.npa_term.specs.declared.term.Term.{Term, App}
use Rattle.npa_term.specs.Bound.{applied}
use Rattle.npa_term.specs.Same.{Same}
use Rattle.npa_term.proofs.Rows.{applied_at}
use Rattle.npa_term.proofs.SameCases.{same_app}
use Rattle.npa_model.specs.declared.pattern.PStrand.{PStrand}
use Rattle.npa_model.specs.declared.pattern.Pattern.{Pattern}
use Rattle.npa_model.specs.Patterns.{map_strand}
use Rattle.npa_model.specs.Covering.{HasSame, Covers}
use Rattle.npa_model.proofs.Places.{member_at, mapped_at, at_mapped, member_mapped, set_elsewhere}
use Rattle.npa_subsume.specs.Early.{is_kind, kind_count, AreSent}

-- ## Strands

-- how many are true
abbrev trues : List Bool → ℕ
trues [] = 0
trues (b ∷ bs) = cond b 1 0 + trues bs

kinds_true : (strand bar : ℕ) (ps : List PStrand) → kind_count strand bar ps ≡ trues (map (is_kind strand bar) ps)
kinds_true strand bar [] = refl
kinds_true strand bar (p ∷ ps) = ap (λ n. cond (is_kind strand bar p) 1 0 + n) (kinds_true strand bar ps)

one_less : (bs : List Bool) (n : ℕ) → slice_get bs n ≡ Some true → trues bs ≡ 1 + trues (slice_set bs n false)
one_less [] n e = absurd (none-some true e)
one_less (b ∷ bs) zero e = let one = ap (λ c. cond c 1 0 + trues bs) (same_Some b true e) in omega (arith, one)
one_less (b ∷ bs) (suc n) e = let rest = one_less bs n e in omega (arith, rest)

-- what is true is sent to different places that are true
trues_fit : (as_ bs : List Bool) (at : List ℕ) → length at ≡ length as_ → ((j k n : ℕ) → slice_get at j ≡ Some n → slice_get at k ≡ Some n → j ≡ k) →
    ((k n : ℕ) → slice_get at k ≡ Some n → slice_get as_ k ≡ Some true → slice_get bs n ≡ Some true) → trues as_ ≤ trues bs
trues_fit [] bs at even different each = omega arith
trues_fit (a ∷ as_) bs [] even different each = absurd (let no : ⊥ = omega (arith, even) in no)
trues_fit (false ∷ as_) bs (n ∷ at) even different each =
    let rest = trues_fit as_ bs at (omega (arith, even)) (λ j k m c d. omega (arith, different (suc j) (suc k) m c d)) (λ k m c d. each (suc k) m c d) in
    omega (arith, rest)
trues_fit (true ∷ as_) bs (n ∷ at) even different each =
    let here : slice_get bs n ≡ Some true = each 0 n refl refl in
    let rest : trues as_ ≤ trues (slice_set bs n false) =
    trues_fit as_ (slice_set bs n false) at (omega (arith, even)) (λ j k m c d. omega (arith, different (suc j) (suc k) m c d))
    (λ k m c d. set_elsewhere bs n m false (λ same. let no : 0 ≡ suc k = different 0 (suc k) n refl (c ∙ ap Some same) in let none : ⊥ = omega (arith, no) in none) ∙ each (suc k) m c d) in
    let less = one_less bs n here in
    omega (arith, rest, less)

pub kinds_fit : (ps qs : List PStrand) (at : List ℕ) (strand bar : ℕ) → AreSent ps qs at → kind_count strand bar ps ≤ kind_count strand bar qs
kinds_fit ps qs at strand bar sent =
    let fit : trues (map (is_kind strand bar) ps) ≤ trues (map (is_kind strand bar) qs) =
    trues_fit (map (is_kind strand bar) ps) (map (is_kind strand bar) qs) at (sent.as_many ∙ sym (length-map ps (is_kind strand bar))) sent.different
    (λ k n c d.
    let p = mapped_at (is_kind strand bar) ps k true d in
    let q = sent.each k n p.0 c p.1 in
    at_mapped (is_kind strand bar) qs n q.0 q.1 ∙ ap Some (ap (λ x. nat_eq x strand && nat_eq q.0.bar bar) q.2 ∙ ap (λ x. nat_eq p.0.strand strand && nat_eq x bar) q.3 ∙ p.2)) in
    let one = kinds_true strand bar ps in
    let two = kinds_true strand bar qs in
    omega (arith, fit, one, two)

pub sent_strands : (o : Subsorts) (t s : Pattern) → Covers o t s → (at : List ℕ) × AreSent t.strands s.strands at
sent_strands o t s (u, at, c) = (
  at,
  record {
    as_many = c.lies.as_many ∙ length-map t.strands (map_strand (applied u));
    different = c.lies.different;
    each = λ k n p e d.
        let q = c.lies.strands k n (map_strand (applied u) p) e (at_mapped (map_strand (applied u)) t.strands k p d) in
        (q.0, q.1, q.2.strand, q.2.bar);
  },
)

-- ## Facts

pub other_head : (op : Op) (ts : List Term) (t u : Term) → t ≡ App op ts → ((us : List Term) → u ≡ App op us → ⊥) → (s : List (Variable × Term)) → Same (applied s t) u → ⊥
other_head op ts t u e none s same = let x = same_app same op (map (applied s) ts) (applied_at s t op ts e) in none x.0 x.1

pub instance_in : (ts us : List Term) (i : ℕ) (t : Term) (s : List (Variable × Term)) → i < length ts → t ≡ get_or ts i t → ((x : Term) → Contains (map (applied s) ts) x → HasSame us x) → HasSame us (applied s t)
instance_in ts us i t s l is each = each (applied s t) (member_mapped (applied s) ts t (member_at ts i t (slice_get_read ts (length ts) i t refl l is)))

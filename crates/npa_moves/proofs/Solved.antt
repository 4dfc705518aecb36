-- What is supposed of unification and of variants holds in a protocol that is ready.
use Rattle.std.proofs.lemmas.Bool.{cases_eq}
use Rattle.std.proofs.Common.{◌≡◌, ℕ, ◌+◌, ◌<◌, inl, inr, arith, Bool, true, false, cond, nat_le, None, Some, Option, Result, Ok, Err, List, length, map, Contains, slice_get, sym, ◌∙◌, ap, subst}
use Rattle.std.specs.List.{flat_map}
use Rattle.npa_sorts.specs.Subsorts.{Subsorts, AreSorts, IsBelow}
use Rattle.npa_term.specs.declared.term.Term.{Term}
use Rattle.npa_term.specs.declared.term.Var.{Var as Variable}
use Rattle.npa_term.specs.Variables.{variables}
use Rattle.npa_sig.specs.declared.protocol.Protocol.{Protocol}
use Rattle.npa_sig.specs.declared.protocol.Strand.{Strand}
use Rattle.npa_unify.specs.declared.error.UnifyFail.{UnifyFail}
use Rattle.npa_unify.specs.declared.error.UnifyFail.TheVariants.{NoMemory, TooLarge, TooMany}
use Rattle.npa_unify.specs.Answers.{distinct, first_large, judged_as, unifiers}
use Rattle.npa_unify.specs.Laws.{AreAnswers, AreComplete}
use Rattle.npa_unify.specs.Unifiers.{IsComplete}
use Rattle.npa_unify.proofs.Choosing.{from_distinct}
use Rattle.npa_unify.proofs.Judging.{judged_distinct}
use Rattle.npa_term.specs.Parts.{least_sort}
use Rattle.npa_sig.specs.Parameters.{param_sorts}
use Rattle.npa_sig.specs.Sorting.{all_below}
use Rattle.npa_rewrite.specs.Normal.{IsNormalTerm}
use Rattle.npa_rewrite.specs.Rewriting.{GivesNormalForms}
use Rattle.npa_rewrite.specs.Theories.{theory_of}
use Rattle.npa_variants.specs.declared.variant.Variant.{Variant}
use Rattle.npa_variants.specs.Ready.{IsFound}
use Rattle.npa_variants.specs.StrandVariants.{AreStrandVariants, IsInstanceOf}
use Rattle.npa_model.specs.declared.pattern.Pattern.{Pattern}
use Rattle.npa_model.specs.declared.pattern.PStrand.{PStrand}
use Rattle.npa_model.specs.Fitting.{IsFit}
use Rattle.npa_model.specs.declared.run.Instance.{Instance}
use Rattle.npa_model.specs.Instances.{AreInstances}
use Rattle.npa_model.proofs.Places.{place_of}
use Rattle.npa_moves.proofs.BackedOther.{Variation}
use Rattle.std.proofs.lemmas.Option.{same_Some, slice_get_within}
use Rattle.npa_term.proofs.Renumbered.{member_variable, of_member}
use Rattle.npa_sig.specs.WellFormed.{IsOwn}
use Rattle.npa_sig.specs.Signature.{Signature}
use Rattle.npa_unify.proofs.Members.{only_one}
use Rattle.npa_variants.proofs.Members.{flat_member, of_flat}
use Rattle.npa_model.specs.declared.aim.Aim.{Aim}
use Rattle.npa_model.specs.declared.aim.Part.{Part}
use Rattle.npa_model.specs.declared.aim.Part.TheVariants as part
use Rattle.npa_model.specs.Accepted.{part_terms}
use Rattle.npa_model.specs.WellFormed.{IsWellFormedAim, IsWellFormedPart}
use Rattle.npa_moves.specs.RootLeading.{aim_variables}
use Rattle.npa_moves.specs.Solving.{AreOneSorted, HasOneSort, IsOneSorted, Solves}
use Rattle.npa_moves.specs.Steps.{found_variants, listed, solve_over}

abbrev Substitutions : Type 0
Substitutions = List (List (Variable × Term))

other_answer : {ss : Substitutions} {e : UnifyFail} → ◌≡◌ {A = Result Substitutions UnifyFail} (Ok ss) (Err e) → ⊥
other_answer e = cc

many_not_memory : ◌≡◌ {A = Result Substitutions UnifyFail} (Err TooMany) (Err NoMemory) → ⊥
many_not_memory e = cc

large_not_memory : (n : ℕ) → ◌≡◌ {A = Result Substitutions UnifyFail} (Err (TooLarge n)) (Err NoMemory) → ⊥
large_not_memory n e = cc

never_as : (large : Option ℕ) (ss : Substitutions) → judged_as large ss ≡ Err NoMemory → ⊥
never_as (Some n) ss = large_not_memory n
never_as None ss =
    elim (nat_le 4097 (length ss)) as (λ (b : Bool). ◌≡◌ {A = Result Substitutions UnifyFail} (cond b (Err TooMany) (Ok (distinct ss))) (Err NoMemory) → ⊥) [
      | true ↦ many_not_memory
      | false ↦ other_answer
    ]

pub solves_over : (o : Subsorts) → AreSorts o → ((r : ℕ) → IsBelow o r r → ⊥) → AreAnswers → AreComplete → Solves o (solve_over o)
unfolding solve_over
solves_over o sorts acyclic answers complete = record {
  always = λ next pairs e. never_as (first_large (unifiers o pairs next)) (unifiers o pairs next) e;
  answers = λ next pairs ss s low one is c.
      answers o pairs next s low one (from_distinct (unifiers o pairs next) s (subst (λ (xs : Substitutions). Contains xs s) (judged_distinct (unifiers o pairs next) ss is) c));
  complete = λ next pairs ss low is.
      subst (λ (xs : Substitutions). IsComplete o pairs next xs) (sym (judged_distinct (unifiers o pairs next) ss is)) (complete o pairs next sorts acyclic low).1;
}

-- the list that is found is the one that is defined
pub found_is : (protocol : Protocol) (strand : Strand) (list : List Variant) → IsFound (theory_of protocol) strand list → list ≡ found_variants protocol strand
unfolding found_variants
found_is protocol strand list found = found.is ∙ sym (ap (listed strand) found.found)

pub found_itself : (protocol : Protocol) (strand : Strand) (list : List Variant) → IsFound (theory_of protocol) strand list → IsFound (theory_of protocol) strand (found_variants protocol strand)
found_itself protocol strand list found = subst (IsFound (theory_of protocol) strand) (found_is protocol strand list found) found

pub one_sorted : (protocol : Protocol) → ((s : ℕ) (strand : Strand) → slice_get protocol.strands s ≡ Some strand → IsFound (theory_of protocol) strand (found_variants protocol strand)) →
    ((s : ℕ) (strand : Strand) (list : List Variant) → slice_get protocol.strands s ≡ Some strand → IsFound (theory_of protocol) strand list → AreStrandVariants (theory_of protocol) strand list) →
    AreOneSorted protocol.strands (found_variants protocol)
one_sorted protocol found laws s strand v there c =
    ((laws s strand (found_variants protocol strand) there (found s strand there)).each v c).numbered.one

same_variable : (v w : Variable) → v.num ≡ w.num → v.sort ≡ w.sort → v ≡ w
same_variable v w e d = ap (λ (n : ℕ). record { num = n; sort = v.sort }) e ∙ ap (λ (s : ℕ). record { num = w.num; sort = s }) d

pub fit_sorted : (protocol : Protocol) (g : Pattern) → IsFit protocol g → IsOneSorted g
fit_sorted protocol g fit v w c d e = same_variable v w e (fit.one_sort v w c d e)

-- one strand further
pub found_further : (protocol : Protocol) (s : ℕ) →
    ((k : ℕ) (strand : Strand) → k < s → slice_get protocol.strands k ≡ Some strand → IsFound (theory_of protocol) strand (found_variants protocol strand)) →
    ((strand : Strand) → slice_get protocol.strands s ≡ Some strand → IsFound (theory_of protocol) strand (found_variants protocol strand)) →
    (k : ℕ) (strand : Strand) → k < s + 1 → slice_get protocol.strands k ≡ Some strand → IsFound (theory_of protocol) strand (found_variants protocol strand)
found_further protocol s before here k strand less there = elim (cases_eq k s) [
  | inl is ↦ here strand (ap (slice_get protocol.strands) (sym is) ∙ there)
  | inr other ↦ before k strand (omega (arith, less, other)) there
]

-- each instance of a run goes through a variant of the list
pub all_varied : (protocol : Protocol) (nf : Term → Term) → GivesNormalForms (theory_of protocol) nf →
    ((s : ℕ) (strand : Strand) → slice_get protocol.strands s ≡ Some strand → IsFound (theory_of protocol) strand (found_variants protocol strand)) →
    ((s : ℕ) (strand : Strand) (list : List Variant) → slice_get protocol.strands s ≡ Some strand → IsFound (theory_of protocol) strand list → (args : List Term) →
    all_below protocol.sig (map least_sort args) (param_sorts strand) ≡ true → ((t : Term) → Contains args t → IsNormalTerm nf protocol.sig t) →
    (v : Variant) × Contains list v × IsInstanceOf nf protocol.sig strand args v) →
    (instances : List Instance) → AreInstances nf protocol.sig protocol.strands instances →
    (n : ℕ) (instance : Instance) → slice_get instances n ≡ Some instance → Variation nf (theory_of protocol) protocol.strands (found_variants protocol) instance
all_varied protocol nf gives found laws instances are n instance there =
    let one = are.each n instance there in
    let through = laws instance.strand one.strand (found_variants protocol one.strand) one.there (found instance.strand one.strand one.there) instance.args one.sorts one.normal in
    let place = place_of (found_variants protocol one.strand) through.0 through.1 in
    record {
      strand = one.strand;
      there = one.there;
      n = place.0;
      v = through.0;
      listed = place.1;
      through = through.2;
    }

pub fit_messages : (protocol : Protocol) (g : Pattern) → IsFit protocol g → (k : ℕ) (p : PStrand) → slice_get g.strands k ≡ Some p → length p.msgs ≡ p.bar
fit_messages protocol g fit k p there = (fit.strands k p there).messages

-- ## The variables of an aim

pub aim_variable : (sig : Signature) (strands : List Strand) (aim : Aim) → IsWellFormedAim sig strands aim → (v : Variable) → Contains (aim_variables aim) v → slice_get aim.sorts v.num ≡ Some v.sort
aim_variable sig strands aim formed v c =
    let t = of_member (flat_map part_terms aim.parts) v c in
    let p = of_flat part_terms aim.parts t.0 t.1 in
    part_own p.0 (formed.parts p.0 p.1) t.0 p.2 v t.2
  where
    part_own : (p : Part) → IsWellFormedPart sig strands aim.sorts p → (t : Term) → Contains (part_terms p) t → (v : Variable) → Contains (variables t) v → slice_get aim.sorts v.num ≡ Some v.sort
    part_own (part.Known u) is t c v d = subst (λ (x : Term). (w : Variable) → Contains (variables x) w → slice_get aim.sorts w.num ≡ Some w.sort) (only_one u t c) is.term.own v d
    part_own (part.Strand s bar args) is t c v d = (is.terms t c).own v d

-- each term of an aim is over its variables
pub aim_own : (sig : Signature) (strands : List Strand) (aim : Aim) → IsWellFormedAim sig strands aim → (p : Part) → Contains aim.parts p → (t : Term) → Contains (part_terms p) t → IsOwn aim.sorts t
aim_own sig strands aim formed p c t d v e =
    aim_variable sig strands aim formed v (member_variable (flat_map part_terms aim.parts) t v (flat_member part_terms aim.parts p t c d) e)

pub aim_low : (sig : Signature) (strands : List Strand) (aim : Aim) → IsWellFormedAim sig strands aim → (v : Variable) → Contains (aim_variables aim) v → v.num < length aim.sorts
aim_low sig strands aim formed v c = slice_get_within aim.sorts v.num v.sort (aim_variable sig strands aim formed v c)

pub aim_sorted : (sig : Signature) (strands : List Strand) (aim : Aim) → IsWellFormedAim sig strands aim → HasOneSort (aim_variables aim)
aim_sorted sig strands aim formed v w c d e =
    same_variable v w e (same_Some v.sort w.sort (sym (aim_variable sig strands aim formed v c) ∙ ap (slice_get aim.sorts) e ∙ aim_variable sig strands aim formed w d))

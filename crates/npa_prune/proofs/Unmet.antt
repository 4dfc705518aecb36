-- No run meets a pruned pattern.
use Rattle.std.proofs.Common.{◌≡◌, ◌≢◌, ⊎_elim, ℕ, zero, suc, ◌+◌, true, false, List, [], ◌∷◌, Option, None, Some, length, take, drop, map, slice_get, Contains, refl, ap, sym, ◌∙◌, subst, arith}
use Rattle.std.proofs.lemmas.Option.{same_Some}
use Rattle.npa_sorts.specs.Subsorts.{IsBelow}
use Rattle.npa_term.specs.declared.term.Term.{Term, Var, Name, App}
use Rattle.npa_term.specs.declared.term.Var.{Var as Variable}
use Rattle.npa_term.specs.Bound.{applied}
use Rattle.npa_term.specs.Canonical.{canonical}
use Rattle.npa_term.specs.Parts.{IsPart, whole, least_sort}
use Rattle.npa_term.proofs.CanonicalLaws.{canonical_same}
use Rattle.npa_term.proofs.Induction.{term_cases}
use Rattle.npa_term.proofs.Rows.{applied_app}
use Rattle.npa_term.proofs.SameCases.{same_only_name}
use Rattle.npa_term.proofs.SameLaws.{same_sym, same_applied}
use Rattle.npa_sig.specs.declared.protocol.Protocol.{Protocol}
use Rattle.npa_sig.specs.declared.protocol.Strand.{Strand}
use Rattle.npa_sig.specs.Operators.{PairsCommute, NoneIsFresh}
use Rattle.npa_sig.specs.Parameters.{fresh_terms}
use Rattle.npa_sig.specs.WellFormed.{IsNameless}
use Rattle.npa_rewrite.specs.Innermost.{normalized}
use Rattle.npa_rewrite.specs.Rewriting.{AllCancel, IsConvergent, GivesNormalForms}
use Rattle.npa_rewrite.specs.Theories.{theory_of}
use Rattle.npa_rewrite.proofs.InstanceParts.{part_applied}
use Rattle.npa_rewrite.proofs.InstanceSteps.{normal_of_instance}
use Rattle.npa_rewrite.proofs.Normalized.{own_form, same_form}
use Rattle.npa_rewrite.proofs.Sorting.{sorted_canonical}
use Rattle.npa_variants.proofs.CarriedNames.{fresh_name, last_sort, same_name}
use Rattle.npa_model.specs.declared.run.Instance.{Instance}
use Rattle.npa_model.specs.declared.pattern.PStrand.{PStrand}
use Rattle.npa_model.specs.declared.pattern.Pattern.{Pattern}
use Rattle.npa_model.specs.declared.pattern.Standing.TheVariants.{Exactly}
use Rattle.npa_model.specs.Freshness.{HasSent, fresh_of}
use Rattle.npa_model.specs.Instances.{AreInstances}
use Rattle.npa_model.specs.Meeting.{Serves, MeetsBy}
use Rattle.npa_model.specs.Patterns.{map_strand, IsTermOf, of_args, of_known, events_at}
use Rattle.npa_model.specs.Runs.{Executes, events_of, message_of}
use Rattle.npa_model.proofs.Apart.{names_apart}
use Rattle.npa_model.proofs.Places.{place_of, member_at, within_at, mapped_at, at_mapped, member_mapped}
use Rattle.npa_close.specs.Fresh.{IsKept, IsUnsent, IsUnheard}
use Rattle.npa_prune.specs.declared.rule.PruneRule.{PruneRule}
use Rattle.npa_prune.specs.declared.rule.PruneRule.TheVariants.{Reducible, Clash, SharedFresh, EarlyFresh}
use Rattle.npa_prune.specs.Pruned.{IsReducible, Clashes, SharesFresh, bound, shared, IsEarly, IsSilent, IsHeard, in_fact, in_message, Prunes, fresh_args}
use Rattle.npa_prune.proofs.Flattened.{IsWithin, within, start, in_front, drop_mapped}

pub fresh_mapped : (f : Term → Term) (strand : Option Strand) (ts : List Term) → map f (fresh_terms strand ts) ≡ fresh_terms strand (map f ts)
fresh_mapped f None ts = refl
fresh_mapped f (Some strand) ts = drop_mapped f (length strand.vars) ts

pub fresh_member : (strand : Option Strand) (ts : List Term) (t : Term) → Contains (fresh_terms strand ts) t → (role : Strand) × (strand ≡ Some role) × Contains (drop (length role.vars) ts) t
fresh_member None ts t c = absurd (omega (arith, c.1))
fresh_member (Some role) ts t c = (role, refl, c)

pub drop_member : {X : Type 0} (n : ℕ) (xs : List X) (x : X) → Contains (drop n xs) x → Contains xs x
drop_member n xs x c = let at = place_of (drop n xs) x c in found n xs at.0 x at.1
  where
    found : {X : Type 0} (n : ℕ) (xs : List X) (k : ℕ) (x : X) → slice_get (drop n xs) k ≡ Some x → Contains xs x
    found zero xs k x e = member_at xs k x e
    found (suc n) [] k x e = member_at [] k x e
    found (suc n) (y ∷ xs) k x e = let rest = found n xs k x e in let at = place_of xs x rest in member_at (y ∷ xs) (suc at.0) x at.1

name_only : (m n : ℕ) → Name m ≡ Name n → m ≡ n
name_only m n e = cc

-- what has the canonical form of a name is the name
canonical_name : (t x : Term) (n : ℕ) → canonical x ≡ canonical t → x ≡ Name n → t ≡ Name n
canonical_name t x n same is = same_only_name (same_sym (canonical_same t)) n (sym same ∙ ap canonical is)

named_at : (ts : List Term) (i : ℕ) (x : Term) (n : ℕ) → slice_get ts i ≡ Some x → x ≡ Name n → slice_get ts i ≡ Some (Name n)
named_at ts i x n at is = at ∙ ap Some is

-- a term whose instance is a name is a name or a variable
name_before : (s : List (Variable × Term)) (n : ℕ) (t : Term) → ((v : Variable) → t ≢ Var v) → applied s t ≡ Name n → t ≡ Name n
name_before s n =
    term_cases (λ t. ((v : Variable) → t ≢ Var v) → applied s t ≡ Name n → t ≡ Name n) (λ v proper e. absurd (proper v refl)) (λ k proper e. e)
    (λ op ts proper e. let made : App op (map (applied s) ts) ≡ Name n = sym (applied_app s op ts) ∙ e in let never : ⊥ = cc in absurd never)

module _ (protocol : Protocol) (cancel : AllCancel (theory_of protocol)) (convergent : IsConvergent (theory_of protocol)) (pairs : PairsCommute protocol.sig) (none_fresh : NoneIsFresh protocol.sig)
    (alone : (s t : ℕ) → IsBelow protocol.sig.sorts s t → (s ≢ 1) × (t ≢ 1)) (nf : Term → Term) (gives : GivesNormalForms (theory_of protocol) nf) (instances : List Instance)
    (are : AreInstances nf protocol.sig protocol.strands instances) (schedule : List ℕ) (sent : List Term) (g : Pattern) (a : List (Variable × Term))
    (m : MeetsBy nf protocol.strands instances schedule Exactly protocol.sig sent g a) where
  -- ## Terms and facts

  unmet_reducible : IsReducible (theory_of protocol) g → ⊥
  unmet_reducible r =
      let th = theory_of protocol in
      let n = m.terms r.term r.there in
      let form : normalized th (applied a r.term) ≡ canonical (applied a r.term) = sym (same_form th nf (applied a r.term) cancel convergent gives n.term.sorted) ∙ n.normal in
      r.reducible (normal_of_instance th a r.term (λ v c. m.sorts v (record { term = r.term; there = r.there; within = c })) ((own_form th (applied a r.term) cancel).1 form))

  unmet_clash : Clashes g → ⊥
  unmet_clash c =
      let u = c.unknown.0 in
      m.meets.unknown (applied a u) (member_mapped (applied a) g.unknown u c.unknown.1)
      (subst (Contains sent) (sorted_canonical protocol.sig pairs (applied a c.fact) (applied a u) (same_applied a c.unknown.2) (m.terms c.fact (of_known c.known)).term.sorted)
      (m.meets.known (applied a c.fact) (member_mapped (applied a) g.known c.fact c.known)))

  -- ## Strands

  abbrev Serving : ℕ → PStrand → Type 0
  Serving = Serves nf protocol.strands instances schedule Exactly

  record Served (k : ℕ) (p : PStrand) : Type 0 where
    n : ℕ
    chosen : slice_get m.chosen k ≡ Some n
    serves : Serving n (map_strand (applied a) p)

  served : (k : ℕ) (p : PStrand) → slice_get g.strands k ≡ Some p → Served k p
  served k p e =
      let there = at_mapped (map_strand (applied a)) g.strands k p e in
      let n = within_at m.chosen (map (map_strand (applied a)) g.strands) k (map_strand (applied a) p) m.meets.served.as_many there in
      record { n = n.0; chosen = n.1; serves = m.meets.served.serves k n.0 (map_strand (applied a) p) n.1 there }

  -- a value of a fresh parameter of an instance is a name
  named : (n : ℕ) (instance : Instance) → slice_get instances n ≡ Some instance → (x : Term) → Contains (fresh_of protocol.strands instance) x → (i : ℕ) × (x ≡ Name i)
  named n instance there x c =
      let is = are.each n instance there in
      let own : Contains (drop (length is.strand.vars) instance.args) x = subst (λ (role : Option Strand). Contains (fresh_terms role instance.args) x) is.there c in
      let normal = is.normal x (drop_member (length is.strand.vars) instance.args x own) in
      fresh_name protocol.sig none_fresh x normal.term.sorted normal.term.ground
      (⊎_elim (λ (e : least_sort x ≡ 1). e) (λ (b : IsBelow protocol.sig.sorts (least_sort x) 1). absurd ((alone (least_sort x) 1 b).1 refl))
      (last_sort protocol.sig instance.args is.strand.vars is.strand.fresh 1 x is.sorts own))

  -- the value of a fresh parameter of a strand, and the name that it has in the run
  record IsNamed {k : ℕ} {p : PStrand} (s : Served k p) (i : ℕ) (t : Term) : Type 0 where
    name : ℕ
    value : slice_get (fresh_of protocol.strands s.serves.instance) i ≡ Some (Name name)
    is : applied a t ≡ Name name

  name_of : {k : ℕ} {p : PStrand} (s : Served k p) (i : ℕ) (t : Term) → slice_get (fresh_args protocol.strands p) i ≡ Some t → IsNamed s i t
  name_of {k} {p} s i t at =
      let instance = s.serves.instance in
      let role = slice_get protocol.strands p.strand in
      let own : fresh_of protocol.strands instance ≡ fresh_terms role instance.args = ap (λ n. fresh_terms (slice_get protocol.strands n) instance.args) s.serves.suits.same_strand in
      let same : map canonical (fresh_of protocol.strands instance) ≡ map canonical (map (applied a) (fresh_args protocol.strands p)) =
      ap (map canonical) own ∙ fresh_mapped canonical role instance.args ∙ ap (fresh_terms role) s.serves.suits.same_values
      ∙ sym (fresh_mapped canonical role (map (applied a) p.args)) ∙ ap (map canonical) (sym (fresh_mapped (applied a) role p.args)) in
      let there : slice_get (map canonical (map (applied a) (fresh_args protocol.strands p))) i ≡ Some (canonical (applied a t)) =
      at_mapped canonical (map (applied a) (fresh_args protocol.strands p)) i (applied a t) (at_mapped (applied a) (fresh_args protocol.strands p) i t at) in
      let x = mapped_at canonical (fresh_of protocol.strands instance) i (canonical (applied a t)) (ap (λ (ts : List Term). slice_get ts i) same ∙ there) in
      let name = named s.n instance s.serves.there x.0 (member_at (fresh_of protocol.strands instance) i x.0 x.1) in
      record {
        name = name.0;
        value = named_at (fresh_of protocol.strands instance) i x.0 name.0 x.1 name.1;
        is = canonical_name (applied a t) x.0 name.0 x.2 name.1;
      }

  -- ## Fresh values

  abbrev Place : ℕ → Term → Type 0
  Place j t = IsWithin (fresh_args protocol.strands) g.strands j t

  -- a variable is the value of one fresh parameter
  one_place : (j k : ℕ) (v : Variable) → Place j (Var v) → Place k (Var v) → j ≡ k
  one_place j k v p q =
      let s = served p.k p.member p.there in
      let r = served q.k q.member q.there in
      let x = name_of s p.i (Var v) p.at in
      let y = name_of r q.i (Var v) q.at in
      let one : x.name ≡ y.name = name_only x.name y.name (sym x.is ∙ y.is) in
      let both = names_apart protocol.strands instances are.apart s.n r.n p.i q.i y.name s.serves.instance r.serves.instance s.serves.there r.serves.there (x.value ∙ ap (λ i. Some (Name i)) one) y.value in
      let strand : p.k ≡ q.k = m.meets.served.apart p.k q.k s.n s.chosen (r.chosen ∙ ap Some (sym both.0)) in
      sym p.place ∙ ap (λ n. start (fresh_args protocol.strands) g.strands n + p.i) strand ∙ ap (λ n. start (fresh_args protocol.strands) g.strands q.k + n) both.1 ∙ q.place

  unmet_shared : ((t : Term) → IsTermOf g t → IsNameless t) → SharesFresh protocol.strands g → ⊥
  unmet_shared nameless (shared j k v apart at there) =
      apart (one_place j k v (within (fresh_args protocol.strands) g.strands j (Var v) at) (within (fresh_args protocol.strands) g.strands k (Var v) there))
  unmet_shared nameless (bound j t at odd) =
      let p = within (fresh_args protocol.strands) g.strands j t at in
      let x = name_of (served p.k p.member p.there) p.i t p.at in
      let own = fresh_member (slice_get protocol.strands p.member.strand) p.member.args t (member_at (fresh_args protocol.strands p.member) p.i t p.at) in
      nameless t (of_args p.k p.member p.there (drop_member (length own.0.vars) p.member.args t own.2)) x.name
      (subst (λ (u : Term). IsPart (Name x.name) u) (sym (name_before a x.name t odd x.is)) whole)

  -- ## Early use

  -- a strand that has sent nothing is served by an instance that has sent nothing
  still_silent : {k : ℕ} {p : PStrand} (s : Served k p) → IsSilent protocol.strands p → HasSent nf protocol.strands instances schedule s.n → ⊥
  still_silent {k} {p} s silent has =
      let instance : has.instance ≡ s.serves.instance = same_Some has.instance s.serves.instance (sym has.next.there ∙ s.serves.there) in
      let at : slice_get (events_at protocol.strands p.strand) has.place ≡ Some has.event =
      ap (λ n. slice_get (events_at protocol.strands n) has.place) (sym s.serves.suits.same_strand)
      ∙ ap (λ (x : Instance). slice_get (events_of protocol.strands x) has.place) (sym instance) ∙ has.next.next in
      let both : false ≡ true = sym (silent has.place has.event (omega (arith, has.executed, s.serves.suits.counted)) at) ∙ has.sends in
      cc

  name_in : (value u : Term) (n : ℕ) → applied a value ≡ Name n → IsPart value u → IsPart (Name n) (canonical (applied a u))
  name_in value u n is part = same_name (canonical_same (applied a u)) n (subst (λ (x : Term). IsPart x (applied a u)) is (part_applied a part))

  module _ (unsent : IsUnsent nf protocol.strands instances) (unheard : IsUnheard nf protocol.strands instances) (ex : Executes nf protocol.strands instances schedule sent) where
    not_heard : (value : Term) (n : ℕ) → applied a value ≡ Name n → IsKept nf protocol.strands instances schedule n → IsHeard g value → ⊥
    not_heard value n is kept (in_fact f) =
        unsent schedule sent ex n kept (canonical (applied a f.0)) (m.meets.known (applied a f.0) (member_mapped (applied a) g.known f.0 f.1)) (name_in value f.0 n is f.2)
    not_heard value n is kept (in_message q c f) =
        let k = place_of g.strands q c in
        let s = served k.0 q k.1 in
        let instance = s.serves.instance in
        let j = place_of q.msgs f.0 f.1 in
        let there : slice_get (map canonical (map (applied a) q.msgs)) j.0 ≡ Some (canonical (applied a f.0)) = at_mapped canonical (map (applied a) q.msgs) j.0 (applied a f.0) (at_mapped (applied a) q.msgs j.0 f.0 j.1) in
        let event = mapped_at (message_of nf protocol.strands instances instance) (take q.bar (events_of protocol.strands instance)) j.0 (canonical (applied a f.0)) (ap (λ (ts : List Term). slice_get ts j.0) s.serves.suits.same_messages ∙ there) in
        let front = in_front q.bar (events_of protocol.strands instance) j.0 event.0 event.1 in
        unheard schedule sent ex n kept s.n j.0 instance event.0 (omega (arith, front.before, s.serves.suits.counted)) (record { there = s.serves.there; next = front.at })
        (subst (λ (x : Term). IsPart (Name n) x) (sym event.2) (name_in value f.0 n is f.2))

    unmet_early : IsEarly protocol.strands g → ⊥
    unmet_early e =
        let k = place_of g.strands e.owner e.there in
        let s = served k.0 e.owner k.1 in
        let i = place_of (fresh_args protocol.strands e.owner) e.value e.fresh in
        let x = name_of s i.0 e.value i.1 in
        not_heard e.value x.name x.is
        (record {
          place = s.n;
          instance = s.serves.instance;
          there = s.serves.there;
          silent = still_silent s e.silent;
          fresh = member_at (fresh_of protocol.strands s.serves.instance) i.0 (Name x.name) x.value;
        })
        e.heard

    -- a pattern that is met is pruned by no rule
    pub unmet : ((t : Term) → IsTermOf g t → IsNameless t) → (rule : PruneRule) → Prunes protocol rule g → ⊥
    unmet nameless Reducible r = unmet_reducible r
    unmet nameless Clash r = unmet_clash r
    unmet nameless SharedFresh r = unmet_shared nameless r
    unmet nameless EarlyFresh r = unmet_early r

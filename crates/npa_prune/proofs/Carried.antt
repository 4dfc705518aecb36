-- A pattern that a pruned pattern covers is pruned, by the same rule.
use Rattle.std.proofs.Common.{◌≡◌, ◌≢◌, ⊎_elim, ℕ, zero, suc, ◌+◌, true, List, Option, None, Some, length, drop, map, slice_get, Contains, refl, ap, sym, ◌∙◌, subst, arith}
use Rattle.std.specs.Prelude.{◌==◌}
use Rattle.std.specs.List.{list_all}
use Rattle.std.proofs.lemmas.Bool.{and_parts, eqb-true}
use Rattle.std.proofs.lemmas.Option.{same_Some, none-some, slice_get_within}
use Rattle.npa_sorts.specs.Subsorts.{IsBelow, IsAtOrBelow}
use Rattle.npa_sorts.proofs.Steps.{at_or_below_trans}
use Rattle.npa_term.specs.declared.term.Op.{Op}
use Rattle.npa_term.specs.declared.term.Term.{Term, Var, Name, App}
use Rattle.npa_term.specs.declared.term.Var.{Var as Variable}
use Rattle.npa_term.specs.Bound.{applied}
use Rattle.npa_term.specs.Parts.{IsPart, least_sort}
use Rattle.npa_term.specs.Same.{Same, through, SameAll, nothing, first}
use Rattle.npa_term.proofs.Induction.{term_cases}
use Rattle.npa_term.proofs.Parts.{same_sort}
use Rattle.npa_term.proofs.Rows.{applied_app}
use Rattle.npa_term.proofs.SameCases.{same_only_name, same_only_var}
use Rattle.npa_term.proofs.SameLaws.{same_sym, same_applied}
use Rattle.npa_sig.specs.declared.signature.OpDecl.{OpDecl}
use Rattle.npa_sig.specs.declared.protocol.Protocol.{Protocol}
use Rattle.npa_sig.specs.declared.protocol.Strand.{Strand}
use Rattle.npa_sig.specs.Operators.{NoneIsFresh}
use Rattle.npa_sig.specs.Parameters.{fresh_terms}
use Rattle.npa_sig.specs.Signature.{Signature}
use Rattle.npa_sig.specs.Sorting.{agrees, all_below, is_declared, same_bool, well_sorted}
use Rattle.npa_sig.proofs.Rows.{well_sorted_at}
use Rattle.npa_rewrite.specs.Theories.{theory_of}
use Rattle.npa_rewrite.proofs.InstanceParts.{part_applied, same_part}
use Rattle.npa_rewrite.proofs.InstanceSteps.{normal_of_instance}
use Rattle.npa_rewrite.proofs.Instances.{sort_instance}
use Rattle.npa_rewrite.proofs.Under.{normal_same}
use Rattle.npa_variants.proofs.CarriedNames.{last_sort}
use Rattle.npa_model.specs.declared.pattern.PStrand.{PStrand}
use Rattle.npa_model.specs.declared.pattern.Pattern.{Pattern}
use Rattle.npa_model.specs.Covering.{AreAlike, IsCover}
use Rattle.npa_model.specs.Fitting.{IsFit}
use Rattle.npa_model.specs.Patterns.{map_strand, IsTermOf, of_args, events_at}
use Rattle.npa_model.proofs.CoverLaws.{cover_term}
use Rattle.npa_model.proofs.Places.{place_of, member_at, within_at, at_mapped, member_mapped}
use Rattle.npa_prune.specs.declared.rule.PruneRule.{PruneRule}
use Rattle.npa_prune.specs.declared.rule.PruneRule.TheVariants.{Reducible, Clash, SharedFresh, EarlyFresh}
use Rattle.npa_prune.specs.Pruned.{IsReducible, Clashes, SharesFresh, bound, shared, IsEarly, IsSilent, IsHeard, in_fact, in_message, Prunes, fresh_args, fresh_values}
use Rattle.npa_prune.proofs.Flattened.{IsWithin, within, start, at_start, start_apart}
use Rattle.npa_prune.proofs.Unmet.{fresh_mapped, fresh_member, drop_member}

-- ## Terms

-- what stands at the same place of lists that are equal place by place
record IsSameAt (us : List Term) (i : ℕ) (t : Term) : Type 0 where
  term : Term
  at : slice_get us i ≡ Some term
  same : Same t term

same_at : {ts us : List Term} → SameAll ts us → (i : ℕ) (t : Term) → slice_get ts i ≡ Some t → IsSameAt us i t
same_at nothing i t e = absurd (none-some t e)
same_at (first x y ts us p q) zero t e = record { term = y; at = refl; same = subst (λ (z : Term). Same z y) (same_Some x t e) p }
same_at (first x y ts us p q) (suc i) t e = let rest = same_at q i t e in record { term = rest.term; at = rest.at; same = rest.same }

same_drop : (n : ℕ) {ts us : List Term} → SameAll ts us → SameAll (drop n ts) (drop n us)
same_drop zero s = s
same_drop (suc n) nothing = nothing
same_drop (suc n) (first x y ts us p q) = same_drop n q

same_fresh : (role : Option Strand) {ts us : List Term} → SameAll ts us → SameAll (fresh_terms role ts) (fresh_terms role us)
same_fresh None s = nothing
same_fresh (Some strand) s = same_drop (length strand.vars) s

same_through : {s t u : Term} → Same s t → Same t u → Same s u
same_through {s} {t} {u} p q = through s t u p q

-- only a variable has an instance that is one
variable_before : (s : List (Variable × Term)) (v : Variable) (t : Term) → ((w : Variable) → t ≢ Var w) → applied s t ≡ Var v → ⊥
variable_before s v =
    term_cases (λ t. ((w : Variable) → t ≢ Var w) → applied s t ≡ Var v → ⊥) (λ w proper e. proper w refl) (λ n proper e. let made : Name n ≡ Var v = e in cc)
    (λ op ts proper e. let made : App op (map (applied s) ts) ≡ Var v = sym (applied_app s op ts) ∙ e in cc)

-- terms of the sort of fresh values, where no operator makes them: each equals itself alone
module _ (sig : Signature) (none_fresh : NoneIsFresh sig) where
  result_is : (op : Op) (ts : List Term) → well_sorted sig (App op ts) ≡ true → op.result ≢ 1
  result_is op ts e is =
      let both = and_parts (is_declared sig op (map least_sort ts) (slice_get sig.ops op.num)) (list_all (well_sorted sig) ts) (sym (well_sorted_at sig (App op ts) op ts refl) ∙ e) in
      declared (slice_get sig.ops op.num) refl both.0
    where
      declared : (o : Option OpDecl) → slice_get sig.ops op.num ≡ o → is_declared sig op (map least_sort ts) o ≡ true → ⊥
      declared None at d = cc
      declared (Some decl) at d =
          let both = and_parts (agrees op decl) (all_below sig (map least_sort ts) decl.args) d in
          let parts = and_parts (op.result == decl.result) (same_bool op.«com» decl.«com») both.0 in
          none_fresh op.num decl at (sym (eqb-true op.result decl.result parts.0) ∙ is)

  alone_same : (x y : Term) → well_sorted sig x ≡ true → least_sort x ≡ 1 → Same x y → y ≡ x
  alone_same =
      term_cases (λ x. (y : Term) → well_sorted sig x ≡ true → least_sort x ≡ 1 → Same x y → y ≡ x)
      (λ v y sorted is same. same_only_var same v refl)
      (λ n y sorted is same. same_only_name same n refl)
      (λ op ts y sorted is same. absurd (result_is op ts sorted is))

-- ## Covers

module _ (protocol : Protocol) (none_fresh : NoneIsFresh protocol.sig) (alone : (r q : ℕ) → IsBelow protocol.sig.sorts r q → (r ≢ 1) × (q ≢ 1)) (t s : Pattern) (fit : IsFit protocol t)
    (sorted : (x : Term) → IsTermOf s x → well_sorted protocol.sig x ≡ true) (u : List (Variable × Term)) (at : List ℕ) (cover : IsCover protocol.sig.sorts t s u at) where
  carried_reducible : IsReducible (theory_of protocol) t → IsReducible (theory_of protocol) s
  carried_reducible r =
      let th = theory_of protocol in
      let found = cover_term t s u cover.lies r.there in
      record {
        term = found.term;
        there = found.there;
        reducible = λ normal. r.reducible (normal_of_instance th u r.term (λ v c. cover.sorts v (record { term = r.term; there = r.there; within = c }))
            (normal_same th found.term (applied u r.term) (same_sym found.same) normal));
      }

  carried_clash : Clashes t → Clashes s
  carried_clash c =
      let w = c.unknown.0 in
      let known = cover.lies.known (applied u c.fact) (member_mapped (applied u) t.known c.fact c.known) in
      let unknown = cover.lies.unknown (applied u w) (member_mapped (applied u) t.unknown w c.unknown.1) in
      record {
        fact = known.0;
        known = known.1;
        unknown = (unknown.0, unknown.1, same_through (same_sym known.2) (same_through (same_applied u c.unknown.2) unknown.2));
      }

  -- the strand that a strand is sent to
  record Sent (k : ℕ) (p : PStrand) : Type 0 where
    n : ℕ
    chosen : slice_get at k ≡ Some n
    strand : PStrand
    there : slice_get s.strands n ≡ Some strand
    alike : AreAlike (map_strand (applied u) p) strand

  sent_to : (k : ℕ) (p : PStrand) → slice_get t.strands k ≡ Some p → Sent k p
  sent_to k p e =
      let there = at_mapped (map_strand (applied u)) t.strands k p e in
      let place = within_at at (map (map_strand (applied u)) t.strands) k (map_strand (applied u) p) cover.lies.as_many there in
      let q = cover.lies.strands k place.0 (map_strand (applied u) p) place.1 there in
      record { n = place.0; chosen = place.1; strand = q.0; there = q.1; alike = q.2 }

  abbrev fresh : PStrand → List Term
  fresh = fresh_args protocol.strands

  -- the value of its fresh parameter
  value_at : {k : ℕ} {p : PStrand} (to : Sent k p) (i : ℕ) (x : Term) → slice_get (fresh p) i ≡ Some x → IsSameAt (fresh to.strand) i (applied u x)
  value_at {k} {p} to i x e =
      let role = slice_get protocol.strands p.strand in
      let same : SameAll (fresh_terms role (map (applied u) p.args)) (fresh to.strand) =
      subst (λ n. SameAll (fresh_terms role (map (applied u) p.args)) (fresh_terms (slice_get protocol.strands n) to.strand.args)) (sym to.alike.strand) (same_fresh role to.alike.args) in
      same_at same i (applied u x) (ap (λ (ts : List Term). slice_get ts i) (sym (fresh_mapped (applied u) role p.args)) ∙ at_mapped (applied u) (fresh p) i x e)

  abbrev Place : ℕ → Term → Type 0
  Place j x = IsWithin fresh t.strands j x

  -- the place of a fresh value, and what stands there in the pattern that is covered
  record Moved (j : ℕ) (x : Term) : Type 0 where
    place : ℕ
    term : Term
    there : slice_get (fresh_values protocol.strands s) place ≡ Some term
    same : Same (applied u x) term

  moved_to : (j : ℕ) (x : Term) → Place j x → Moved j x
  moved_to j x p =
      let to = sent_to p.k p.member p.there in
      let y = value_at to p.i x p.at in
      record { place = start fresh s.strands to.n + p.i; term = y.term; there = at_start fresh s.strands to.n p.i to.strand y.term to.there y.at; same = y.same }

  moved_apart : (j k : ℕ) (x y : Term) (p : Place j x) (q : Place k y) → (moved_to j x p).place ≡ (moved_to k y q).place → j ≡ k
  unfolding moved_to
  moved_apart j k x y p q same =
      let to = sent_to p.k p.member p.there in
      let into = sent_to q.k q.member q.there in
      let a = value_at to p.i x p.at in
      let b = value_at into q.i y q.at in
      let both = start_apart fresh s.strands to.n into.n p.i q.i to.strand into.strand to.there into.there (slice_get_within (fresh to.strand) p.i a.term a.at) (slice_get_within (fresh into.strand) q.i b.term b.at) same in
      let strand : p.k ≡ q.k = cover.lies.different p.k q.k into.n (to.chosen ∙ ap Some both.0) into.chosen in
      sym p.place ∙ ap (λ n. start fresh t.strands n + p.i) strand ∙ ap (λ n. start fresh t.strands q.k + n) both.1 ∙ q.place

  shared_at : (j k : ℕ) (v : Variable) → j ≢ k → (p : Place j (Var v)) (q : Place k (Var v)) → (x : Term) → x ≡ (moved_to j (Var v) p).term → SharesFresh protocol.strands s
  shared_at j k v apart p q =
      let a = moved_to j (Var v) p in
      let b = moved_to k (Var v) q in
      let here : (x : Term) → x ≡ a.term → slice_get (fresh_values protocol.strands s) a.place ≡ Some x = λ x e. a.there ∙ ap Some (sym e) in
      term_cases (λ x. x ≡ a.term → SharesFresh protocol.strands s)
      (λ w e.
      let value : applied u (Var v) ≡ Var w = same_only_var (same_sym a.same) w (sym e) in
      let other : b.term ≡ Var w = same_only_var b.same w value in
      shared a.place b.place w (λ same. apart (moved_apart j k (Var v) (Var v) p q same)) (here (Var w) e) (b.there ∙ ap Some other))
      (λ n e. bound a.place (Name n) (here (Name n) e) (λ w f. let other : Name n ≡ Var w = f in cc))
      (λ op ts e. bound a.place (App op ts) (here (App op ts) e) (λ w f. let other : App op ts ≡ Var w = f in cc))

  carried_shared : SharesFresh protocol.strands t → SharesFresh protocol.strands s
  carried_shared (bound j x e odd) =
      let a = moved_to j x (within fresh t.strands j x e) in
      bound a.place a.term a.there (λ v f. variable_before u v x odd (same_only_var (same_sym a.same) v f))
  carried_shared (shared j k v apart e d) =
      let p = within fresh t.strands j (Var v) e in
      shared_at j k v apart p (within fresh t.strands k (Var v) d) (moved_to j (Var v) p).term refl

  -- the value of a fresh parameter in the pattern that is covered equals itself alone
  alone_value : {k : ℕ} {p : PStrand} → slice_get t.strands k ≡ Some p → (to : Sent k p) (i : ℕ) (x : Term) (e : slice_get (fresh p) i ≡ Some x) → (y : Term) → Same (applied u x) y → y ≡ (value_at to i x e).term
  alone_value {k} {p} there to i x e y same =
      let a = value_at to i x e in
      let strand = fit.strands k p there in
      let own : Contains (drop (length strand.strand.vars) p.args) x = subst (λ (role : Option Strand). Contains (fresh_terms role p.args) x) strand.there (member_at (fresh p) i x e) in
      let arg : Contains p.args x = drop_member (length strand.strand.vars) p.args x own in
      let below : IsAtOrBelow protocol.sig.sorts (least_sort (applied u x)) 1 =
      at_or_below_trans (sort_instance protocol.sig.sorts u x (λ v c. cover.sorts v (record { term = x; there = of_args k p there arg; within = c }))) (last_sort protocol.sig p.args strand.strand.vars strand.strand.fresh 1 x strand.below own) in
      let sort : least_sort a.term ≡ 1 = sym (same_sort (applied u x) a.term a.same)
      ∙ ⊎_elim (λ (f : least_sort (applied u x) ≡ 1). f) (λ (b : IsBelow protocol.sig.sorts (least_sort (applied u x)) 1). absurd ((alone (least_sort (applied u x)) 1 b).1 refl)) below in
      let theirs = fresh_member (slice_get protocol.strands to.strand.strand) to.strand.args a.term (member_at (fresh to.strand) i a.term a.at) in
      alone_same protocol.sig none_fresh a.term y (sorted a.term (of_args to.n to.strand to.there (drop_member (length theirs.0.vars) to.strand.args a.term theirs.2))) sort
      (same_through (same_sym a.same) same)

  -- a part of a term is kept where it equals itself alone
  part_kept : (x y f w : Term) → ((z : Term) → Same (applied u x) z → z ≡ y) → IsPart x f → Same (applied u f) w → IsPart y w
  part_kept x y f w only part same =
      let found = same_part same (part_applied u part) in
      subst (λ (z : Term). IsPart z w) (only found.part found.same) found.there

  heard_still : (x y : Term) → ((z : Term) → Same (applied u x) z → z ≡ y) → IsHeard t x → IsHeard s y
  heard_still x y only (in_fact f) =
      let k = cover.lies.known (applied u f.0) (member_mapped (applied u) t.known f.0 f.1) in
      in_fact (k.0, k.1, part_kept x y f.0 k.0 only f.2 k.2)
  heard_still x y only (in_message p c f) =
      let place = place_of t.strands p c in
      let to = sent_to place.0 p place.1 in
      let j = place_of p.msgs f.0 f.1 in
      let m = same_at to.alike.msgs j.0 (applied u f.0) (at_mapped (applied u) p.msgs j.0 f.0 j.1) in
      in_message to.strand (member_at s.strands to.n to.strand to.there) (m.term, member_at to.strand.msgs j.0 m.term m.at, part_kept x y f.0 m.term only f.2 m.same)

  silent_still : (p q : PStrand) → q.strand ≡ p.strand → q.bar ≡ p.bar → IsSilent protocol.strands p → IsSilent protocol.strands q
  silent_still p q strand bar silent k event before e =
      silent k event (omega (arith, before, bar)) (ap (λ n. slice_get (events_at protocol.strands n) k) (sym strand) ∙ e)

  carried_early : IsEarly protocol.strands t → IsEarly protocol.strands s
  carried_early e =
      let k = place_of t.strands e.owner e.there in
      let to = sent_to k.0 e.owner k.1 in
      let i = place_of (fresh e.owner) e.value e.fresh in
      let y = value_at to i.0 e.value i.1 in
      record {
        owner = to.strand;
        there = member_at s.strands to.n to.strand to.there;
        silent = silent_still e.owner to.strand to.alike.strand to.alike.bar e.silent;
        value = y.term;
        fresh = member_at (fresh to.strand) i.0 y.term y.at;
        heard = heard_still e.value y.term (alone_value k.1 to i.0 e.value i.1) e.heard;
      }

  -- the rule that prunes the one prunes the other
  pub carried : (rule : PruneRule) → Prunes protocol rule t → Prunes protocol rule s
  carried Reducible r = carried_reducible r
  carried Clash r = carried_clash r
  carried SharedFresh r = carried_shared r
  carried EarlyFresh r = carried_early r

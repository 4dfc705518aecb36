-- The unifiers are answers, and each unifier is an instance of one of them.
use Rattle.std.proofs.Common.{◌≡◌, ℕ, ◌+◌, ◌<◌, ◌≤◌, true, List, [], ◌∷◌, refl, sym, ◌∙◌, ap, subst, inl, inr, arith}
use Rattle.std.specs.Prelude.{Contains, ◌⊎◌, ◌↔◌}
use Rattle.npa_sorts.specs.Subsorts.{Subsorts, IsAtOrBelow, AreSorts}
use Rattle.npa_sorts.proofs.LowerLaws.{IsAcyclic, has_lower, filter_of}
use Rattle.npa_term.specs.declared.term.Var.{Var as Variable}
use Rattle.npa_term.specs.declared.term.Term.{Term, Var}
use Rattle.npa_term.specs.Bound.{applied}
use Rattle.npa_term.specs.Parts.{image, least_sort}
use Rattle.npa_term.specs.Same.{Same}
use Rattle.npa_term.proofs.SameLaws.{same_sym}
use Rattle.npa_unify.specs.Answers.{finished, started, unifiers}
use Rattle.npa_unify.specs.Branches.{Branch, pair_variables, is_end, ends, visited}
use Rattle.npa_unify.specs.Unifiers.{IsUnifier, IsAnswer, Factor, IsComplete, AreLow, HaveOneSort}
use Rattle.npa_unify.proofs.Finishing.{own_follows, follows_finished, finished_sort, finished_once, value_sort, value_named, value_form, value_among, value_free, not_named, names_bound, image_variables}
use Rattle.npa_unify.proofs.Members.{nowhere, member_cases, here, later, map_member, member_map}
use Rattle.npa_unify.proofs.Numbering.{numbers_below}
use Rattle.npa_unify.proofs.Progress.{Among, Fits, Goes, bound_variables, reaches_end}
use Rattle.npa_unify.proofs.Solutions.{Equates, Solves, end_solves}
use Rattle.npa_unify.proofs.Wholeness.{Whole, IsNew, whole_visited}

pub equates_member : (u : List (Variable × Term)) (ps : List (Term × Term)) → Equates u ps → (t x : Term) → Contains ps (t, x) → Same (applied u t) (applied u x)
equates_member u [] e t x c = absurd (nowhere (t, x) c)
equates_member u (p ∷ ps) e t x c =
    elim (member_cases p (t, x) ps c) [
      | inl is ↦ subst (λ (q : Term × Term). Same (applied u q.0) (applied u q.1)) is e.0
      | inr d ↦ equates_member u ps e.1 t x d
    ]

pub equates_from : (u : List (Variable × Term)) (ps : List (Term × Term)) → ((t x : Term) → Contains ps (t, x) → Same (applied u t) (applied u x)) → Equates u ps
equates_from u [] all = tt
equates_from u (p ∷ ps) all = (all p.0 p.1 (here p ps), equates_from u ps (λ t x c. all t x (later p (t, x) ps c)))

-- a unifier is what a branch that has succeeded has bound
pub end_of : (o : Subsorts) (ps : List (Term × Term)) (next : ℕ) (s : List (Variable × Term)) → Contains (unifiers o ps next) s →
    (c : Branch) × Contains (visited o (started ps next)) c × (is_end c ≡ true) × (finished c.bound ≡ s)
end_of o ps next s member =
    let is = map_member (λ (b : Branch). finished b.bound) (ends o (started ps next)) s member in
    let found = filter_of is_end (visited o (started ps next)) is.0 is.1 in
    (is.0, found.0, found.1, is.2)

-- a variable of the pairs, or a new one
abbrev pub Known : List (Term × Term) → ℕ → Variable → Type 0
Known ps next v = Contains (pair_variables ps) v ⊎ (next ≤ v.num)

known_new : (ps : List (Term × Term)) (next : ℕ) → IsNew (Known ps next) next
known_new ps next z more = inr more

whole_start : (o : Subsorts) (ps : List (Term × Term)) (next : ℕ) → AreLow ps next → Whole o (Known ps next) next (started ps next)
whole_start o ps next low = record {
  apart = λ v c d. nowhere v c;
  chained = tt;
  sorts = tt;
  from = omega arith;
  low = λ v c. elim c [ inl d ↦ low v d | inr d ↦ absurd (nowhere v d) ];
  known = λ v c. elim c [ inl d ↦ inl d | inr d ↦ absurd (nowhere v d) ];
}

pub whole_end : (o : Subsorts) (ps : List (Term × Term)) (next : ℕ) (c : Branch) → AreLow ps next → Contains (visited o (started ps next)) c → Whole o (Known ps next) next c
whole_end o ps next c low member = whole_visited o (Known ps next) next (known_new ps next) (started ps next) c member (whole_start o ps next low)

end_unifies : (o : Subsorts) (ps : List (Term × Term)) (next : ℕ) (c : Branch) → AreLow ps next → Contains (visited o (started ps next)) c → is_end c ≡ true → IsUnifier o ps (finished c.bound)
end_unifies o ps next c low member ended =
    let whole = whole_end o ps next c low member in
    let solves : Solves (finished c.bound) (started ps next) = end_solves o (finished c.bound) (started ps next) c member ended (own_follows c.bound whole.chained) in
    record {
      sorts = λ v d. finished_sort o c.bound whole.sorts (Var v);
      equal = equates_member (finished c.bound) ps solves.pairs;
    }

pub unifies : (o : Subsorts) (ps : List (Term × Term)) (next : ℕ) (s : List (Variable × Term)) → AreLow ps next → Contains (unifiers o ps next) s → IsUnifier o ps s
unifies o ps next s low member =
    let at = end_of o ps next s member in
    subst (IsUnifier o ps) at.3 (end_unifies o ps next at.0 low at.1 at.2)

end_answers : (o : Subsorts) (ps : List (Term × Term)) (next : ℕ) (c : Branch) → AreLow ps next → HaveOneSort ps → Contains (visited o (started ps next)) c → is_end c ≡ true →
    IsAnswer o ps next (finished c.bound)
end_answers o ps next c low one member ended =
    let whole = whole_end o ps next c low member in
    let most : c.next ≤ next + next = numbers_below o ps next c low one member in
    record {
      unifier = end_unifies o ps next c low member ended;
      once = finished_once c.bound whole.chained;
      sorts = value_sort o c.bound whole.sorts;
      own = λ v t e. whole.known v (inr (names_bound c.bound v (value_named c.bound v t e)));
      values = λ v t w e d.
          let among : Contains (bound_variables c.bound) w = value_among c.bound v t w e d in
          let less : w.num < c.next = whole.low w (inr among) in
          (whole.known w (inr among), not_named c.bound w (value_free c.bound whole.chained v t w e d), omega (arith, less, most));
      form = value_form c.bound;
    }

pub answered : (o : Subsorts) (ps : List (Term × Term)) (next : ℕ) (s : List (Variable × Term)) → AreLow ps next → HaveOneSort ps → Contains (unifiers o ps next) s → IsAnswer o ps next s
answered o ps next s low one member =
    let at = end_of o ps next s member in
    subst (IsAnswer o ps next) at.3 (end_answers o ps next at.0 low one at.1 at.2)

-- complete

unifier_fits : (o : Subsorts) (ps : List (Term × Term)) (next : ℕ) (u : List (Variable × Term)) → AreLow ps next → IsUnifier o ps u → Fits o u (started ps next)
unifier_fits o ps next u low unifier = record {
  solves = record { pairs = equates_from u ps unifier.equal; bound = tt };
  sorts = λ v c. elim c [ inl d ↦ unifier.sorts v d | inr d ↦ absurd (nowhere v d) ];
  low = λ v c. elim c [ inl d ↦ low v d | inr d ↦ absurd (nowhere v d) ];
}

start_among : (ps : List (Term × Term)) (next : ℕ) (v : Variable) → Among (started ps next) v → Contains (pair_variables ps) v
start_among ps next v (inl c) = c
start_among ps next v (inr c) = absurd (nowhere v c)

end_factor : (o : Subsorts) (ps : List (Term × Term)) (next : ℕ) (u : List (Variable × Term)) (c : Branch) → AreLow ps next → IsUnifier o ps u → Goes o u (started ps next) c →
    Factor o ps next u (finished c.bound)
end_factor o ps next u c low unifier goes =
    let w : List (Variable × Term) = goes.values in
    record {
      then = w;
      old = goes.old;
      equal = λ v less. same_sym (subst (Same (applied w (image (finished c.bound) v))) (goes.old v less) (follows_finished w c.bound goes.fits.solves.bound (Var v)));
      sorts = λ v x d e. elim (image_variables c.bound v x e) [
        | inl is ↦ subst (λ y. IsAtOrBelow o (least_sort (image w y)) y.sort) is
            (subst (λ t. IsAtOrBelow o (least_sort t) v.sort) (sym (goes.old v (low v d))) (unifier.sorts v d))
        | inr among ↦ goes.fits.sorts x (inr among)
      ];
      taken = λ v x d e. elim (image_variables c.bound v x e) [
        | inl is ↦ (v, d, ap (image w) (sym is) ∙ goes.old v (low v d))
        | inr among ↦ let from = goes.taken x (inr among) in (from.0, start_among ps next from.0 from.1, from.2)
      ];
    }

pub complete : (o : Subsorts) (ps : List (Term × Term)) (next : ℕ) → AreSorts o → IsAcyclic o → AreLow ps next → IsComplete o ps next (unifiers o ps next)
complete o ps next sorts acyclic low u unifier =
    let end = reaches_end o (has_lower o sorts acyclic) u (started ps next) (unifier_fits o ps next u low unifier) in (
      finished end.0.bound,
      member_map (λ (b : Branch). finished b.bound) (ends o (started ps next)) end.0 end.1,
      end_factor o ps next u end.0 low unifier end.2,
    )

-- there is no unifier exactly where the list is empty
pub none_exactly : (o : Subsorts) (ps : List (Term × Term)) (next : ℕ) → AreSorts o → IsAcyclic o → AreLow ps next →
    (unifiers o ps next ≡ []) ↔ ((u : List (Variable × Term)) → IsUnifier o ps u → ⊥)
none_exactly o ps next sorts acyclic low = (
  λ e u unifier. let found = complete o ps next sorts acyclic low u unifier in nowhere found.0 (subst (λ ss. Contains ss found.0) e found.1),
  λ none. empty_of (unifiers o ps next) (λ s c. none s (unifies o ps next s low c)),
)
  where
    empty_of : (ss : List (List (Variable × Term))) → ((s : List (Variable × Term)) → Contains ss s → ⊥) → ss ≡ []
    empty_of [] never = refl
    empty_of (s ∷ ss) never = absurd (never s (here s ss))

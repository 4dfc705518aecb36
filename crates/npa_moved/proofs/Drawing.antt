-- Where a result of a list comes from.
use Rattle.std.proofs.Common.{◌≡◌, ℕ, ◌+◌, inl, inr, true, None, Result, Ok, Err, List, [], ◌∷◌, map, length, Contains, refl, sym, subst}
use Rattle.std.specs.List.{filter}
use Rattle.std.proofs.lemmas.List.Elements.{Contains-append_cases}
use Rattle.npa_term.specs.declared.term.Term.{Term}
use Rattle.npa_term.specs.declared.term.Var.{Var as Variable}
use Rattle.npa_unify.specs.declared.error.UnifyFail.{UnifyFail}
use Rattle.npa_unify.proofs.Members.{here, later, member_cases, nowhere}
use Rattle.npa_variants.proofs.Members.{of_filtered, of_flat, of_mapped}
use Rattle.npa_moves.specs.Finishing.{Found, draft_of, excess, found_of, keeps_apart}
use Rattle.npa_moves.specs.Gathering.{Drawn, Solve, all_drawn, drawn_by, followed, gathered, joined, measured, problem_excess, solved, unifiers_in}
use Rattle.npa_moves.specs.Moves.{Move}
use Rattle.npa_moves.proofs.Gathered.{followed_ok, joined_ok, unless_ok}

in_unifiers : (r : Result (List (List (Variable × Term))) UnifyFail) (s : List (Variable × Term)) → Contains (unifiers_in r) s → (ss : List (List (Variable × Term))) × (r ≡ Ok ss) × Contains ss s
in_unifiers (Ok ss) s c = (ss, refl, c)
in_unifiers (Err e) s c = absurd (nowhere s c)

module _ {L : Type 0} (solve : Solve) (vs : List Variable) where
  -- A result is what comes of a move by a unifier that keeps apart what is to be, within the limits.
  pub record IsDrawn (ps : List (List (Move L))) (found : Found L) : Type 0 where
    pub problem : List (Move L)
    pub listed : Contains ps problem
    pub move : Move L
    pub member : Contains problem move
    pub unifiers : List (List (Variable × Term))
    pub solves : solve move.next move.pairs ≡ Ok unifiers
    pub unifier : List (Variable × Term)
    pub among : Contains unifiers unifier
    pub apart : keeps_apart move.apart unifier ≡ true
    pub fine : excess (draft_of vs move.from unifier).pattern ≡ None
    pub is : found ≡ found_of move.label vs (draft_of vs move.from unifier)

  -- a result of measured ones was drawn, and isn't too large
  record IsMeasured (ds : List (Drawn L)) (found : Found L) : Type 0 where
    pub drawn : Drawn L
    pub listed : Contains ds drawn
    pub fine : excess drawn.draft.pattern ≡ None
    pub is : found ≡ found_of drawn.label vs drawn.draft

  of_measured : (at : ℕ) (ds : List (Drawn L)) (fs : List (Found L)) (f : Found L) → measured vs at ds ≡ Ok fs → Contains fs f → IsMeasured ds f
  of_measured at [] fs f e c = absurd (nowhere f (subst (λ (xs : List (Found L)). Contains xs f) (sym (same_ok e)) c))
    where
      same_ok : {E : Type 0} {x y : List (Found L)} → ◌≡◌ {A = Result (List (Found L)) E} (Ok x) (Ok y) → x ≡ y
      same_ok e = cc
  of_measured at (d ∷ ds) fs f e c =
      let one = found_of d.label vs d.draft in
      let fine = unless_ok at (excess d.draft.pattern) (joined (one ∷ []) (measured vs (at + 1) ds)) fs e in
      let j = joined_ok (one ∷ []) (measured vs (at + 1) ds) fs fine.1 in
      elim (member_cases one f j.rest (subst (λ (xs : List (Found L)). Contains xs f) j.joins c)) [
        | inl is ↦ record { drawn = d; listed = here d ds; fine = fine.0; is = sym is }
        | inr rest ↦
            let m = of_measured (at + 1) ds j.rest f j.is rest in
            record { drawn = m.drawn; listed = later d m.drawn ds m.listed; fine = m.fine; is = m.is }
      ]

  of_problem : (ps : List (List (Move L))) (problem : List (Move L)) (f : Found L) → Contains ps problem → IsMeasured (all_drawn solve vs problem) f → IsDrawn ps f
  of_problem ps problem f listed m =
      let of = of_flat (drawn_by solve vs) problem m.drawn m.listed in
      let move = of.0 in
      let s = of_mapped (λ s. record { label = move.label; draft = draft_of vs move.from s }) (filter (keeps_apart move.apart) (unifiers_in (solved solve move))) m.drawn of.2 in
      let kept = of_filtered (keeps_apart move.apart) (unifiers_in (solved solve move)) s.0 s.1 in
      let all = in_unifiers (solved solve move) s.0 kept.0 in
      record {
        problem = problem;
        listed = listed;
        move = move;
        member = of.1;
        unifiers = all.0;
        solves = all.1;
        unifier = s.0;
        among = all.2;
        apart = kept.1;
        fine = subst (λ (d : Drawn L). excess d.draft.pattern ≡ None) s.2 m.fine;
        is = subst (λ (d : Drawn L). f ≡ found_of d.label vs d.draft) s.2 m.is;
      }

  further : (p : List (Move L)) (ps : List (List (Move L))) (f : Found L) → IsDrawn ps f → IsDrawn (p ∷ ps) f
  further p ps f d = record {
    problem = d.problem;
    listed = later p d.problem ps d.listed;
    move = d.move;
    member = d.member;
    unifiers = d.unifiers;
    solves = d.solves;
    unifier = d.unifier;
    among = d.among;
    apart = d.apart;
    fine = d.fine;
    is = d.is;
  }

  pub of_gathered : (at : ℕ) (ps : List (List (Move L))) (fs : List (Found L)) (f : Found L) → gathered solve vs at ps ≡ Ok fs → Contains fs f → IsDrawn ps f
  of_gathered at [] fs f e c = absurd (nowhere f (subst (λ (xs : List (Found L)). Contains xs f) (sym (same_ok e)) c))
    where
      same_ok : {E : Type 0} {x y : List (Found L)} → ◌≡◌ {A = Result (List (Found L)) E} (Ok x) (Ok y) → x ≡ y
      same_ok e = cc
  of_gathered at (p ∷ ps) fs f e c =
      let more = gathered solve vs (at + length (all_drawn solve vs p)) ps in
      let fine = unless_ok at (problem_excess 0 (map (solved solve) p)) (followed (measured vs at (all_drawn solve vs p)) more) fs e in
      let parts = followed_ok (measured vs at (all_drawn solve vs p)) more fs fine.1 in
      elim (Contains-append_cases parts.0 parts.2.rest f (subst (λ (xs : List (Found L)). Contains xs f) parts.2.joins c)) [
        | inl d ↦ of_problem (p ∷ ps) p f (here p ps) (of_measured at (all_drawn solve vs p) parts.0 f parts.1 d)
        | inr d ↦ further p ps f (of_gathered (at + length (all_drawn solve vs p)) ps parts.2.rest f parts.2.is d)
      ]

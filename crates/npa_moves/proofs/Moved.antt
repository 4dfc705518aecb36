-- What comes of a move by any substitution is an instance of one of its results.
use Rattle.std.proofs.Common.{◌≡◌, ℕ, ◌<◌, true, List, length, Contains, sym, subst}
use Rattle.std.specs.List.{filter}
use Rattle.npa_sorts.specs.Subsorts.{Subsorts, IsAtOrBelow}
use Rattle.npa_term.specs.declared.term.Term.{Term}
use Rattle.npa_term.specs.declared.term.Var.{Var as Variable}
use Rattle.npa_term.specs.Bound.{applied}
use Rattle.npa_term.specs.Parts.{image, least_sort}
use Rattle.npa_term.specs.Same.{Same, through}
use Rattle.npa_term.specs.Variables.{variables}
use Rattle.npa_term.proofs.SameLaws.{same_sym, same_applied}
use Rattle.npa_unify.specs.Unifiers.{AreLow, HaveOneSort, IsUnifier}
use Rattle.npa_variants.proofs.Members.{filtered_member, mapped_member}
use Rattle.npa_model.specs.declared.pattern.Pattern.{Pattern}
use Rattle.npa_model.specs.Covering.{IsCover}
use Rattle.npa_model.specs.Patterns.{IsTermOf, map_pattern}
use Rattle.npa_moves.specs.Finishing.{Found, draft_of, keeps_apart}
use Rattle.npa_moves.specs.Gathering.{Drawn, Solve, drawn_by, solved, unifiers_in}
use Rattle.npa_moves.specs.Leading.{Alike}
use Rattle.npa_moves.specs.Moves.{Move}
use Rattle.npa_moves.specs.Solving.{Solves}
use Rattle.npa_moves.proofs.Completing.{follows}
use Rattle.npa_moves.proofs.Covered.{found_agrees, found_covers, leads, places}
use Rattle.npa_moves.proofs.Gathered.{IsGathered, found_from}
use Rattle.npa_moves.proofs.Keeping.{keeps}

-- A pattern is an instance of a found one, and the values agree.
pub record IsInstance {L : Type 0} (o : Subsorts) (found : Found L) (vs : List Variable) (σ : List (Variable × Term)) (q : Pattern) : Type 0 where
  pub by_ : List (Variable × Term)
  pub places : List ℕ
  pub covers : IsCover o found.pattern q by_ places
  pub agrees : (v : Variable) → Contains vs v → Same (applied by_ (image found.unifier v)) (image σ v)

-- A substitution makes a pattern of a move: it unifies the pairs, keeps apart what is to be, and respects
-- sorts; and the numbers of all variables are below the move's.
pub record Makes {L : Type 0} (o : Subsorts) (m : Move L) (vs : List Variable) (σ : List (Variable × Term)) (q : Pattern) : Type 0 where
  pub unifies : IsUnifier o m.pairs σ
  pub pairs_low : AreLow m.pairs m.next
  pub one : HaveOneSort m.pairs
  pub apart : (p : Term × Term) → Contains m.apart p → Same (applied σ p.0) (applied σ p.1) → ⊥
  pub left_low : (p : Term × Term) (v : Variable) → Contains m.apart p → Contains (variables p.0) v → v.num < m.next
  pub right_low : (p : Term × Term) (v : Variable) → Contains m.apart p → Contains (variables p.1) v → v.num < m.next
  pub low : (t : Term) (v : Variable) → IsTermOf m.from t → Contains (variables t) v → v.num < m.next
  pub fits : (t : Term) (v : Variable) → IsTermOf m.from t → Contains (variables t) v → IsAtOrBelow o (least_sort (image σ v)) v.sort
  pub small : (v : Variable) → Contains vs v → v.num < m.next
  pub alike : Alike (map_pattern (applied σ) m.from) q

pub found_instance : {L : Type 0} (o : Subsorts) (solve : Solve) (solves : Solves o solve) (m : Move L) (vs : List Variable) (σ : List (Variable × Term)) (q : Pattern) (list : List (Found L)) →
    Makes o m vs σ q → IsGathered solve vs list m → (found : Found L) × Contains list found × IsInstance o found vs σ q
found_instance {L} o solve solves m vs σ q list makes gathered =
    let complete = solves.complete m.next m.pairs gathered.unifiers makes.pairs_low gathered.solves σ makes.unifies in
    let s = complete.0 in
    let factor = complete.2 in
    let answer = solves.answers m.next m.pairs gathered.unifiers s makes.pairs_low makes.one gathered.solves complete.1 in
    let kept : keeps_apart m.apart s ≡ true = keeps m.apart s (λ p c same.
    makes.apart p c
    (through (applied σ p.0) (applied factor.then (applied s p.0)) (applied σ p.1)
    (same_sym (follows o m.pairs m.next σ s answer factor p.0 (λ v d. makes.left_low p v c d)))
    (through (applied factor.then (applied s p.0)) (applied factor.then (applied s p.1)) (applied σ p.1)
    (same_applied factor.then same)
    (follows o m.pairs m.next σ s answer factor p.1 (λ v d. makes.right_low p v c d))))) in
    let member : Contains (unifiers_in (solved solve m)) s = subst (λ r. Contains (unifiers_in r) s) (sym gathered.solves) complete.1 in
    let d : Drawn L = record { label = m.label; draft = draft_of vs m.from s } in
    let drawn : Contains (drawn_by solve vs m) d =
    mapped_member (λ s. record { label = m.label; draft = draft_of vs m.from s }) (filter (keeps_apart m.apart) (unifiers_in (solved solve m))) s
    (filtered_member (keeps_apart m.apart) (unifiers_in (solved solve m)) s member kept) in (
      found_from solve vs d,
      gathered.has d drawn,
      record {
        by_ = leads o m.pairs m.next σ s answer factor vs m.from q makes.low makes.fits makes.small makes.alike;
        places = places 0 (length q.strands);
        covers = found_covers o m.pairs m.next σ s answer factor vs m.from q makes.low makes.fits makes.small makes.alike;
        agrees = found_agrees o m.pairs m.next σ s answer factor vs m.from q makes.low makes.fits makes.small makes.alike;
      },
    )

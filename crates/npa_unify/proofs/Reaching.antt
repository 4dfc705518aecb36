-- What holds of the branches that a search visits, and of their ends.
use Rattle.std.proofs.Common.{◌≡◌, ℕ, ◌+◌, ◌<◌, ◌≤◌, ◌^◌, Bool, false, cond, List, [], ◌∷◌, ◌++◌, length, refl, sym, ◌∙◌, ap, subst, inl, inr, arith}
use Rattle.std.specs.Prelude.{Contains, flat_map}
use Rattle.std.specs.List.{filter}
use Rattle.std.proofs.lemmas.Grind.{flat_map-append}
use Rattle.std.proofs.lemmas.List.Elements.{filter-append}
use Rattle.npa_sorts.specs.Subsorts.{Subsorts, IsSort, AreSorts}
use Rattle.npa_sorts.proofs.Steps.{at_or_below_sort}
use Rattle.npa_term.specs.declared.term.Var.{Var as Variable}
use Rattle.npa_term.specs.declared.term.Term.{Term, Var, App}
use Rattle.npa_term.specs.Variables.{variables}
use Rattle.npa_term.proofs.Rows.{variables_at}
use Rattle.npa_unify.specs.Answers.{started}
use Rattle.npa_unify.specs.Branches.{Branch, at_variables, move, moved, pair_variables, visited, is_end, ends}
use Rattle.npa_unify.specs.Searches.{nexts}
use Rattle.npa_unify.specs.Seen.{IsReached, solved}
use Rattle.npa_unify.specs.Unifiers.{Keeps}
use Rattle.npa_unify.proofs.Answering.{whole_end}
use Rattle.npa_unify.proofs.Finishing.{canonical_variables, names, names_bound}
use Rattle.npa_unify.proofs.Keeping.{InPairs, kept_visited}
use Rattle.npa_unify.proofs.Members.{here, only_one, member_flat_map}
use Rattle.npa_unify.proofs.Numbering.{numbers_below}
use Rattle.npa_unify.proofs.PairVariables.{put_term, first_has, second_has, rest_has}
use Rattle.npa_unify.proofs.Progress.{Among, bound_variables, visited_first, visited_later}
use Rattle.npa_unify.proofs.Seeing.{names_solved}
use Rattle.npa_unify.proofs.Solutions.{visited_cases}
use Rattle.npa_unify.proofs.Steps.{unfolded, by_branches}

-- a branch that a visited one becomes is visited
visited_on : (o : Subsorts) (s b c : Branch) → Contains (visited o s) b → Contains (nexts (moved o b)) c → Contains (visited o s) c
visited_on o s b c member next =
    by_branches o (λ d. Contains (visited o d) b → Contains (visited o d) c)
    (λ d on found. elim (visited_cases o d b found) [
      | inl e ↦ visited_later o d c c (subst (λ x. Contains (nexts (moved o x)) c) (sym e) next) (visited_first o c)
      | inr more ↦ visited_later o d more.0 c more.1 (on more.0 more.1 more.2)
    ]) s member

pub reached_next : (o : Subsorts) (b c : Branch) → IsReached o b → Contains (nexts (moved o b)) c → IsReached o c
reached_next o b c r next = record {
  pairs = r.pairs;
  next = r.next;
  order = r.order;
  few = r.few;
  low = r.low;
  one = r.one;
  sorts = r.sorts;
  visited = visited_on o (started r.pairs r.next) b c r.visited next;
}

pub reached_room : (o : Subsorts) (b : Branch) → IsReached o b → b.next ≤ 2 ^ 32
reached_room o b r =
    let most : b.next ≤ r.next + r.next = numbers_below o r.pairs r.next b r.low r.one r.visited in
    let few : r.next ≤ 2 ^ 31 = r.few in
    omega (arith, most, few)

pub reached_low : (o : Subsorts) (b : Branch) → IsReached o b → (v : Variable) → Among b v → v.num < b.next
reached_low o b r v among = (whole_end o r.pairs r.next b r.low r.visited).low v among

-- the sorts of variables

abbrev AllSorts : Subsorts → Term → Type 0
AllSorts o t = (v : Variable) → Contains (variables t) v → IsSort o v.sort

sorts_keep : (o : Subsorts) → AreSorts o → Keeps o (AllSorts o)
sorts_keep o order = record {
  arguments = λ op ts t all member v c. all v (subst (λ l. Contains l v) (sym (variables_at (App op ts) op ts refl)) (member_flat_map variables ts t v member c));
  form = λ t all v c. all v (canonical_variables v t c);
  put_in = λ v t x low value all w c. elim (put_term v t w x c) [ inl d ↦ all w d.0 | inr d ↦ value w d ];
  lower = λ v z all low w c. subst (λ (y : Variable). IsSort o y.sort) (only_one z w c) (at_or_below_sort o z.sort v.sort order low (all v (here v [])));
}

start_sorts : (o : Subsorts) (keeps : Keeps o (AllSorts o)) (ps : List (Term × Term)) → ((v : Variable) → Contains (pair_variables ps) v → IsSort o v.sort) → InPairs o (AllSorts o) keeps ps
start_sorts o keeps [] all = tt
start_sorts o keeps (p ∷ ps) all = (((λ v c. all v (first_has p ps v c)), (λ v c. all v (second_has p ps v c))), start_sorts o keeps ps (λ v c. all v (rest_has p ps v c)))

pub reached_sorts : (o : Subsorts) (b : Branch) (p : Term × Term) (ps : List (Term × Term)) → IsReached o b → b.pairs ≡ p ∷ ps → AllSorts o p.0 × AllSorts o p.1
reached_sorts o b p ps r e =
    let keeps : Keeps o (AllSorts o) = sorts_keep o r.order in
    let kept = kept_visited o (AllSorts o) keeps (started r.pairs r.next) b r.visited (record { pairs = start_sorts o keeps r.pairs r.sorts; values = tt }) in
    (subst (InPairs o (AllSorts o) keeps) e kept.pairs).0

-- the ends of a branch

filter_flat_map : {X Y : Type 0} (p : Y → Bool) (f : X → List Y) (xs : List X) → filter p (flat_map f xs) ≡ flat_map (λ x. filter p (f x)) xs
filter_flat_map p f [] = refl
filter_flat_map p f (x ∷ xs) = filter-append p (f x) (flat_map f xs) ∙ ap (λ ys. filter p (f x) ++ ys) (filter_flat_map p f xs)

pub ends_on : (o : Subsorts) (b : Branch) → is_end b ≡ false → ends o b ≡ flat_map (ends o) (nexts (moved o b))
ends_on o b e =
    ap (filter is_end) (unfolded o b) ∙ ap (λ c. cond c (b ∷ filter is_end (flat_map (visited o) (nexts (moved o b)))) (filter is_end (flat_map (visited o) (nexts (moved o b))))) e
    ∙ filter_flat_map is_end (visited o) (nexts (moved o b))

pub ends_here : (o : Subsorts) (n : ℕ) (s : List (Variable × Term)) → ends o (record { pairs = []; bound = s; next = n }) ≡ record { pairs = []; bound = s; next = n } ∷ []
ends_here o n s = ap (filter is_end) (unfolded o (record { pairs = []; bound = s; next = n }))

flat_map_behind : {X Y : Type 0} (f : X → List Y) (xs ys : List X) → flat_map f (xs ++ ys) ≡ flat_map f xs ++ flat_map f ys
flat_map_behind f xs ys = flat_map-append f xs ys

pub ends_follow : (o : Subsorts) (b : Branch) (ws us : List Branch) → is_end b ≡ false → us ≡ nexts (moved o b) ++ ws → flat_map (ends o) us ≡ flat_map (ends o) (b ∷ ws)
ends_follow o b ws us left e =
    ap (flat_map (ends o)) e ∙ flat_map_behind (ends o) (nexts (moved o b)) ws ∙ ap (λ xs. xs ++ flat_map (ends o) ws) (sym (ends_on o b left))

pub visits_follow : (o : Subsorts) (b : Branch) (ws us : List Branch) → us ≡ nexts (moved o b) ++ ws → length (flat_map (visited o) us) < length (flat_map (visited o) (b ∷ ws))
visits_follow o b ws us e =
    let all : flat_map (visited o) us ≡ flat_map (visited o) (nexts (moved o b)) ++ flat_map (visited o) ws = ap (flat_map (visited o)) e ∙ flat_map_behind (visited o) (nexts (moved o b)) ws in
    let more : length (flat_map (visited o) (b ∷ ws)) ≡ length (b ∷ flat_map (visited o) (nexts (moved o b)) ++ flat_map (visited o) ws) = ap (λ xs. length (xs ++ flat_map (visited o) ws)) (unfolded o b) in
    let less : length (flat_map (visited o) us) ≡ length (flat_map (visited o) (nexts (moved o b)) ++ flat_map (visited o) ws) = ap length all in
    omega (arith, more, less)

-- two variables at the front

pub pair_sorts : (o : Subsorts) (b : Branch) (t u : Term) (ps : List (Term × Term)) (v w : Variable) → IsReached o b → b.pairs ≡ (t, u) ∷ ps → t ≡ Var v → u ≡ Var w → IsSort o v.sort × IsSort o w.sort
pair_sorts o b t u ps v w r is e f =
    let both = reached_sorts o b (t, u) ps r is in
    (both.0 v (subst (λ x. Contains (variables x) v) (sym e) (here v [])), both.1 w (subst (λ x. Contains (variables x) w) (sym f) (here w [])))

pub pair_low : (o : Subsorts) (b : Branch) (t u : Term) (ps : List (Term × Term)) (v w : Variable) → IsReached o b → b.pairs ≡ (t, u) ∷ ps → t ≡ Var v → u ≡ Var w → (v.num < b.next) × (w.num < b.next)
pair_low o b t u ps v w r is e f = (
  reached_low o b r v (inl (subst (λ qs. Contains (pair_variables qs) v) (sym is) (first_has (t, u) ps v (subst (λ x. Contains (variables x) v) (sym e) (here v []))))),
  reached_low o b r w (inl (subst (λ qs. Contains (pair_variables qs) w) (sym is) (second_has (t, u) ps w (subst (λ x. Contains (variables x) w) (sym f) (here w []))))),
)

pub names_low : (o : Subsorts) (b : Branch) (bs : List (Variable × Term)) → IsReached o b → b.bound ≡ solved bs → (x : Variable) → Contains (names bs) x → x.num < b.next
names_low o b bs r is x c =
    reached_low o b r x (inr (subst (λ s. Contains (bound_variables s) x) (sym is) (names_bound (solved bs) x (subst (λ l. Contains l x) (sym (names_solved [] bs)) c))))

pub pair_room : (o : Subsorts) (b r : Branch) (t u : Term) (v w : Variable) → IsReached o b → nexts (moved o b) ≡ nexts (move o t u r) → t ≡ Var v → u ≡ Var w →
    (c : Branch) → Contains (nexts (at_variables o v w r)) c → c.next ≤ 2 ^ 32
pair_room o b r t u v w reached is e f c member =
    let same : nexts (at_variables o v w r) ≡ nexts (moved o b) = ap (λ z. nexts (move o z (Var w) r)) (sym e) ∙ ap (λ z. nexts (move o t z r)) (sym f) ∙ sym is in
    reached_room o c (reached_next o b c reached (subst (λ cs. Contains cs c) same member))

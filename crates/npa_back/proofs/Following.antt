-- The steps of problems, those of each behind those before.
use Rattle.std.proofs.Common.{◌≡◌, ℕ, suc, ◌+◌, ◌≤◌, Option, None, Some, Result, Ok, Err, List, [], ◌∷◌, ◌++◌, map, length, drop, drop-cons, slice_get, refl, sym, ◌∙◌, ap, subst, arith}
use Rattle.std.proofs.lemmas.List.{append-nil, append_assoc, drop_all}
use Rattle.std.proofs.lemmas.Option.{get_or_from_slice_get, slice_get_within}
use Rattle.fold_core.specs.declared.error.Large.{Large}
use Rattle.fold_core.specs.declared.error.Measure.{Measure}
use Rattle.npa_term.specs.declared.term.Var.{Var as Variable}
use Rattle.npa_moves.specs.declared.error.StepFail.{StepFail}
use Rattle.npa_moves.specs.declared.error.StepFail.TheVariants as fail
use Rattle.npa_moves.specs.declared.step.Rule.{Rule}
use Rattle.npa_moves.specs.declared.step.Step.{Step}
use Rattle.npa_moves.specs.Finishing.{Found, excess, found_of}
use Rattle.npa_moves.specs.Gathering.{Drawn, Solve, all_drawn, followed, gathered, joined, measured, problem_excess, solved, unless_large}
use Rattle.npa_moves.specs.Lists.{each_place}
use Rattle.npa_moves.specs.Moves.{Move}
use Rattle.npa_moves.specs.Steps.{Gives, mapped, step_of}
use Rattle.npa_back.specs.Behind.{all_behind, and_then, drawn_behind, problem_behind}

pub joined_none : {A : Type 0} (r : Result (List A) Large) → joined [] r ≡ r
joined_none (Ok xs) = refl
joined_none (Err e) = refl

joined_twice : {A : Type 0} (xs ys : List A) (r : Result (List A) Large) → joined xs (joined ys r) ≡ joined (xs ++ ys) r
joined_twice xs ys (Ok zs) = ap Ok (sym (append_assoc xs ys zs))
joined_twice xs ys (Err e) = refl

joined_followed : {A : Type 0} (xs : List A) (r s : Result (List A) Large) → joined xs (followed r s) ≡ followed (joined xs r) s
joined_followed xs (Ok ys) s = joined_twice xs ys s
joined_followed xs (Err e) s = refl

unless_followed : {A : Type 0} (at : ℕ) (o : Option (Measure × ℕ)) (r s : Result (List A) Large) → unless_large at o (followed r s) ≡ followed (unless_large at o r) s
unless_followed at None r s = refl
unless_followed at (Some m) r s = refl

map_both : {A B : Type 0} (f : A → B) (xs ys : List A) → map f (xs ++ ys) ≡ map f xs ++ map f ys
map_both f [] ys = refl
map_both f (x ∷ xs) ys = ap (λ zs. f x ∷ zs) (map_both f xs ys)

pub length_both : {A : Type 0} (xs ys : List A) → length (xs ++ ys) ≡ length xs + length ys
length_both [] ys = let n : length ys ≡ 0 + length ys = omega arith in n
length_both (x ∷ xs) ys = let rest = length_both xs ys in let n : suc (length (xs ++ ys)) ≡ suc (length xs) + length ys = omega (arith, rest) in n

map_length : {A B : Type 0} (f : A → B) (xs : List A) → length (map f xs) ≡ length xs
map_length f [] = refl
map_length f (x ∷ xs) = ap suc (map_length f xs)

mapped_joined : (xs : List (Found Rule)) (r : Result (List (Found Rule)) Large) → mapped step_of (joined xs r) ≡ joined (map step_of xs) (mapped step_of r)
mapped_joined xs (Ok ys) = ap Ok (map_both step_of xs ys)
mapped_joined xs (Err e) = refl

-- ## Drawn results

module _ (vs : List Variable) where
  measured_both : (at : ℕ) (xs ys : List (Drawn Rule)) → measured vs at (xs ++ ys) ≡ followed (measured vs at xs) (measured vs (at + length xs) ys)
  measured_both at [] ys = sym (joined_none (measured vs (at + 0) ys) ∙ ap (λ n. measured vs n ys) (let n : at + 0 ≡ at = omega arith in n))
  measured_both at (d ∷ ds) ys =
      let x = found_of d.label vs d.draft in
      ap (λ r. unless_large at (excess d.draft.pattern) (joined (x ∷ []) r))
      (measured_both (at + 1) ds ys ∙ ap (λ n. followed (measured vs (at + 1) ds) (measured vs n ys)) (let n : (at + 1) + length ds ≡ at + suc (length ds) = omega arith in n))
      ∙ ap (unless_large at (excess d.draft.pattern)) (joined_followed (x ∷ []) (measured vs (at + 1) ds) (measured vs (at + suc (length ds)) ys))
      ∙ unless_followed at (excess d.draft.pattern) (joined (x ∷ []) (measured vs (at + 1) ds)) (measured vs (at + suc (length ds)) ys)

  as_many : (at : ℕ) (ds : List (Drawn Rule)) (xs : List (Found Rule)) → measured vs at ds ≡ Ok xs → length xs ≡ length ds
  as_many at [] xs e = let same : [] ≡ xs = cc in ap length (sym same)
  as_many at (d ∷ ds) xs e =
      elim (excess d.draft.pattern) as (λ o. unless_large at o (joined (found_of d.label vs d.draft ∷ []) (measured vs (at + 1) ds)) ≡ Ok xs → length xs ≡ suc (length ds)) [
        | None ↦ λ f. by_rest (λ ys g. as_many (at + 1) ds ys g) (measured vs (at + 1) ds) refl f
        | Some m ↦ λ f. let never : ⊥ = cc in absurd never
      ] e
    where
      by_rest : ((ys : List (Found Rule)) → measured vs (at + 1) ds ≡ Ok ys → length ys ≡ length ds) → (r : Result (List (Found Rule)) Large) → measured vs (at + 1) ds ≡ r →
          joined (found_of d.label vs d.draft ∷ []) r ≡ Ok xs → length xs ≡ suc (length ds)
      by_rest again (Ok ys) g f = let same : found_of d.label vs d.draft ∷ ys ≡ xs = cc in ap length (sym same) ∙ ap suc (again ys g)
      by_rest again (Err x) g f = let never : ⊥ = cc in absurd never

  pub drawn_both : (made : List Step) (xs ys : List (Drawn Rule)) → drawn_behind vs made (xs ++ ys) ≡ and_then (drawn_behind vs made xs) (λ m. drawn_behind vs m ys)
  drawn_both made xs ys =
      ap (λ r. joined made (mapped step_of r)) (measured_both (length made) xs ys)
      ∙ by_first (measured vs (length made) xs) refl
    where
      by_first : (r : Result (List (Found Rule)) Large) → measured vs (length made) xs ≡ r →
          joined made (mapped step_of (followed r (measured vs (length made + length xs) ys))) ≡ and_then (joined made (mapped step_of r)) (λ m. drawn_behind vs m ys)
      by_first (Ok zs) e =
          let rest = measured vs (length made + length xs) ys in
          ap (joined made) (mapped_joined zs rest)
          ∙ joined_twice made (map step_of zs) (mapped step_of rest)
          ∙ ap (λ n. joined (made ++ map step_of zs) (mapped step_of (measured vs n ys)))
          (ap (λ n. length made + n) (sym (map_length step_of zs ∙ as_many (length made) xs zs e)) ∙ sym (length_both made (map step_of zs)))
      by_first (Err x) e = refl

  pub none_drawn : (made : List Step) → drawn_behind vs made [] ≡ Ok made
  none_drawn made = ap Ok (append-nil made)

-- ## Problems

module _ (solve : Solve) (vs : List Variable) where
  pub all_both : (made : List Step) (ps qs : List (List (Move Rule))) → all_behind solve vs made (ps ++ qs) ≡ and_then (all_behind solve vs made ps) (λ m. all_behind solve vs m qs)
  all_both made [] qs = refl
  all_both made (p ∷ ps) qs = by_first (λ m. all_both m ps qs) (problem_behind solve vs made p)
    where
      by_first : ((m : List Step) → all_behind solve vs m (ps ++ qs) ≡ and_then (all_behind solve vs m ps) (λ n. all_behind solve vs n qs)) → (r : Result (List Step) Large) →
          and_then r (λ m. all_behind solve vs m (ps ++ qs)) ≡ and_then (and_then r (λ m. all_behind solve vs m ps)) (λ m. all_behind solve vs m qs)
      by_first again (Ok m) = again m
      by_first again (Err x) = refl

  pub one_problem : (made : List Step) (p : List (Move Rule)) → all_behind solve vs made (p ∷ []) ≡ problem_behind solve vs made p
  one_problem made p = by_answer (problem_behind solve vs made p)
    where
      by_answer : (r : Result (List Step) Large) → and_then r (λ m. Ok m) ≡ r
      by_answer (Ok m) = refl
      by_answer (Err x) = refl

  pub gathered_behind : (made : List Step) (ps : List (List (Move Rule))) → joined made (mapped step_of (gathered solve vs (length made) ps)) ≡ all_behind solve vs made ps
  gathered_behind made [] = ap Ok (append-nil made)
  gathered_behind made (p ∷ ps) =
      by_problem (λ m. gathered_behind m ps) (problem_excess 0 (map (solved solve) p))
    where
      ds : List (Drawn Rule)
      ds = all_drawn solve vs p

      by_measured : ((m : List Step) → joined m (mapped step_of (gathered solve vs (length m) ps)) ≡ all_behind solve vs m ps) → (r : Result (List (Found Rule)) Large) → measured vs (length made) ds ≡ r →
          joined made (mapped step_of (followed r (gathered solve vs (length made + length ds) ps))) ≡ and_then (joined made (mapped step_of r)) (λ m. all_behind solve vs m ps)
      by_measured again (Ok zs) e =
          let rest = gathered solve vs (length made + length ds) ps in
          ap (joined made) (mapped_joined zs rest)
          ∙ joined_twice made (map step_of zs) (mapped step_of rest)
          ∙ ap (λ n. joined (made ++ map step_of zs) (mapped step_of (gathered solve vs n ps)))
          (ap (λ n. length made + n) (sym (map_length step_of zs ∙ as_many vs (length made) ds zs e)) ∙ sym (length_both made (map step_of zs)))
          ∙ again (made ++ map step_of zs)
      by_measured again (Err x) e = refl

      by_problem : ((m : List Step) → joined m (mapped step_of (gathered solve vs (length m) ps)) ≡ all_behind solve vs m ps) → (o : Option (Measure × ℕ)) → joined made (mapped step_of (unless_large (length made) o (followed (measured vs (length made) ds) (gathered solve vs (length made + length ds) ps))))
          ≡ and_then (unless_large (length made) o (drawn_behind vs made ds)) (λ m. all_behind solve vs m ps)
      by_problem again None = by_measured again (measured vs (length made) ds) refl
      by_problem again (Some m) = refl

-- ## Answers

pub stops : (e : StepFail) (r : Result (List Step) Large) (f : List Step → Result (List Step) Large) → Gives (Err e) r → Gives (Err e) (and_then r f)
stops (fail.Large k measure value) r f t = ap (λ x. and_then x f) t
stops fail.NoMemory r f t = tt

pub handed : {A : Type 0} (r : Result (List A) StepFail) (d e : StepFail) (x : Result (List A) Large) → r ≡ Err d → d ≡ e → Gives {A = List A} (Err e) x → Gives r x
handed r d e x is same t = subst (λ q. Gives q x) (sym (is ∙ ap Err same)) t

pub goes_on : (made : List Step) (r x : Result (List Step) Large) (f : List Step → Result (List Step) Large) → r ≡ Ok made → and_then r f ≡ x → f made ≡ x
goes_on made r x f is e = sym (ap (λ q. and_then q f) is) ∙ e

-- ## Lists by places

dropped : {A : Type 0} (xs : List A) (i : ℕ) (x : A) → slice_get xs i ≡ Some x → drop i xs ≡ x ∷ drop (i + 1) xs
dropped xs i x there =
    drop-cons xs i x (slice_get_within xs i x there) ∙ ap (λ y. y ∷ drop (suc i) xs) (get_or_from_slice_get xs i x x there) ∙ ap (λ n. x ∷ drop n xs) (let n : suc i ≡ i + 1 = omega arith in n)

module _ (solve : Solve) (vs : List Variable) {A : Type 0} (f : ℕ → A → List (List (Move Rule))) (xs : List A) (whole : Result (List Step) Large) where
  at_place : (made : List Step) (i : ℕ) (x : A) → slice_get xs i ≡ Some x →
      all_behind solve vs made (each_place f i (drop i xs)) ≡ and_then (all_behind solve vs made (f i x)) (λ m. all_behind solve vs m (each_place f (i + 1) (drop (i + 1) xs)))
  at_place made i x there =
      ap (λ ys. all_behind solve vs made (each_place f i ys)) (dropped xs i x there)
      ∙ all_both solve vs made (f i x) (each_place f (i + 1) (drop (i + 1) xs))

  pub next_place : (made more : List Step) (i : ℕ) (x : A) → slice_get xs i ≡ Some x → all_behind solve vs made (each_place f i (drop i xs)) ≡ whole → all_behind solve vs made (f i x) ≡ Ok more →
      all_behind solve vs more (each_place f (i + 1) (drop (i + 1) xs)) ≡ whole
  next_place made more i x there so one =
      goes_on more (all_behind solve vs made (f i x)) whole (λ m. all_behind solve vs m (each_place f (i + 1) (drop (i + 1) xs))) one (sym (at_place made i x there) ∙ so)

  pub place_stops : (made : List Step) (i : ℕ) (x : A) (e : StepFail) → slice_get xs i ≡ Some x → all_behind solve vs made (each_place f i (drop i xs)) ≡ whole →
      Gives {A = List Step} (Err e) (all_behind solve vs made (f i x)) → Gives {A = List Step} (Err e) whole
  place_stops made i x e there so one =
      subst (Gives {A = List Step} (Err e)) (sym (at_place made i x there) ∙ so)
      (stops e (all_behind solve vs made (f i x)) (λ m. all_behind solve vs m (each_place f (i + 1) (drop (i + 1) xs))) one)

  pub places_end : (made : List Step) (i : ℕ) → length xs ≤ i → all_behind solve vs made (each_place f i (drop i xs)) ≡ whole → whole ≡ Ok made
  places_end made i beyond so = sym so ∙ ap (λ ys. all_behind solve vs made (each_place f i ys)) (drop_all i xs beyond)

-- A loop of the search, which takes one member after another until one stops.
use Rattle.std.proofs.Common.{◌≡◌, ℕ, suc, ◌+◌, ◌<◌, ◌≤◌, List, [], ◌∷◌, length, drop, get_or, map, drop-cons, add-one, Result, Ok, Err, refl, sym, ◌∙◌, ap, subst}
use Rattle.std.proofs.lemmas.List.{drop_all}
use Rattle.npa_variants.specs.declared.kept.Stop.{Stop as FoundStop}
use Rattle.npa_variants.specs.declared.kept.Stop.TheVariants.{TooMany, Unifiers, Symbols, NoMemory}
use Rattle.npa_variants.specs.Search.{Stop, followed, folded}
use Rattle.npa_variants.specs.Told.{GivesAs}

-- a search that stops stops all that follows
pub stops : {S T U V : Type 0} (see : S → T) (look : U → V) (e : FoundStop) (r : Result T Stop) (f : T → Result V Stop) →
    GivesAs see (Err e) r → GivesAs look (Err e) (followed r f)
stops see look (TooMany rows) r f t = ap (λ x. followed x f) t
stops see look Unifiers r f t = ap (λ x. followed x f) t
stops see look (Symbols n) r f t = ap (λ x. followed x f) t
stops see look NoMemory r f t = t

-- and it is handed on as it is
pub handed : {S T : Type 0} (see : S → T) (r : Result S FoundStop) (d e : FoundStop) (x : Result T Stop) → r ≡ Err d → d ≡ e → GivesAs see (Err e) x → GivesAs see r x
handed see r d e x is same t = subst (λ q. GivesAs see q x) (sym (is ∙ ap Err same)) t

pub want : {S T : Type 0} (see : S → T) (r : Result S FoundStop) (d : FoundStop) (x : Result T Stop) → r ≡ Err d → d ≡ NoMemory → GivesAs see r x
want see r d x is same = handed see r d NoMemory x is same tt

folded_drop : {X S : Type 0} (f : X → S → Result S Stop) (items : List X) (i : ℕ) (x : X) (k : S) → i < length items → x ≡ get_or items i x →
    folded f (drop i items) k ≡ followed (f x k) (folded f (drop (i + 1) items))
folded_drop f items i x k small is =
    rw (drop-cons items i x, add-one) (ap (λ y. followed (f y k) (folded f (drop (suc i) items))) (sym is))

-- a member goes on
pub folded_passed : {X S : Type 0} (f : X → S → Result S Stop) (items : List X) (i : ℕ) (x : X) (k l : S) (whole : Result S Stop) →
    i < length items → x ≡ get_or items i x → f x k ≡ Ok l → folded f (drop i items) k ≡ whole → folded f (drop (i + 1) items) l ≡ whole
folded_passed f items i x k l whole small is on all =
    sym (ap (λ r. followed r (folded f (drop (i + 1) items))) on) ∙ sym (folded_drop f items i x k small is) ∙ all

-- a member stops
pub folded_stopped : {X S U : Type 0} (see : U → S) (f : X → S → Result S Stop) (items : List X) (i : ℕ) (x : X) (k : S) (e : FoundStop) (whole : Result S Stop) →
    i < length items → x ≡ get_or items i x → GivesAs see (Err e) (f x k) → folded f (drop i items) k ≡ whole → GivesAs see (Err e) whole
folded_stopped see f items i x k e whole small is stop all =
    subst (GivesAs see (Err e)) (sym (folded_drop f items i x k small is) ∙ all) (stops see see e (f x k) (folded f (drop (i + 1) items)) stop)

-- none is left
pub folded_ends : {X S : Type 0} (f : X → S → Result S Stop) (items : List X) (i : ℕ) (k : S) (whole : Result S Stop) → length items ≤ i →
    folded f (drop i items) k ≡ whole → whole ≡ Ok k
folded_ends f items i k whole ended all =
    let none : drop i items ≡ [] = drop_all i items ended in sym all ∙ ap (λ xs. folded f xs k) none

-- members that are seen through a function
followed_alike : {S T : Type 0} (r : Result S Stop) (g h : S → Result T Stop) → ((l : S) → g l ≡ h l) → followed r g ≡ followed r h
followed_alike (Ok l) g h e = e l
followed_alike (Err s) g h e = refl

pub folded_seen : {X Y S : Type 0} (see : Y → X) (f : X → S → Result S Stop) (ys : List Y) (k : S) → folded (λ y. f (see y)) ys k ≡ folded f (map see ys) k
folded_seen see f [] k = refl
folded_seen see f (y ∷ ys) k = followed_alike (f (see y) k) (folded (λ z. f (see z)) ys) (folded f (map see ys)) (folded_seen see f ys)

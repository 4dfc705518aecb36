-- What the states of the search stand for.
use Rattle.std.proofs.Common.{◌≡◌, ℕ, ◌+◌, ◌-◌, ◌^◌, ◌<◌, ◌≤◌, drop, Bool, true, false, cond, nat_eq, ◌&&◌, List, [], ◌∷◌, ◌++◌, map, reverse, refl, sym, ◌∙◌, ap, subst, inl, inr, arith}
use Rattle.std.specs.Prelude.{Contains, ◌⊎◌, zip, length, get_or}
use Rattle.std.specs.Borrow.{Bor}
use Rattle.std.proofs.lemmas.Bool.{eq-eqb, eqb-true, false_from_ne_true}
use Rattle.std.proofs.lemmas.List.{drop_more, length-map, reverse-append}
use Rattle.std.proofs.lemmas.List.Elements.{Contains-append_cases}
use Rattle.npa_sorts.specs.Lowers.{lowers}
use Rattle.npa_sorts.specs.Subsorts.{Subsorts, at_or_below}
use Rattle.npa_term.specs.declared.term.Op.{Op}
use Rattle.npa_term.specs.declared.term.Var.{Var as Variable}
use Rattle.npa_term.specs.declared.term.Term.{Term, Var, Name, App}
use Rattle.npa_term.specs.Bound.{applied, same_var}
use Rattle.npa_term.specs.Computed.{same_op, turned}
use Rattle.npa_term.specs.Parts.{least_sort}
use Rattle.npa_term.specs.Variables.{variables}
use Rattle.npa_term.proofs.AgreeingLaws.{same_variable}
use Rattle.npa_term.proofs.Induction.{term_cases}
use Rattle.npa_unify.specs.declared.heads.Head.{Head}
use Rattle.npa_unify.specs.declared.search.State.{State}
use Rattle.npa_unify.specs.Branches.{Branch, put, has_var, are_two, arranged, at_arguments, at_variable, at_variables, fork as forked, move, with_pairs}
use Rattle.npa_unify.specs.Searches.{Move, nexts, splits, binds}
use Rattle.npa_unify.specs.Seen.{AreSound, Follows, IsSound, IsUnbound, full, full_pairs, goal_pairs, head_term, raw, seen, seen_as, seen_all, solved}
use Rattle.npa_unify.proofs.Members.{here, only_one}
use Rattle.npa_unify.proofs.PairVariables.{has_no_var, put_pairs}
use Rattle.npa_unify.proofs.Steps.{move_apps}
use Rattle.npa_unify.proofs.Seeing.{full_app, full_more, full_name, full_unbound, names_behind, solved_more, sound_more, var_injective}

-- one more binding

pub raw_more : (bs : List (Variable × Head)) (v : Variable) (h : Head) → raw (bs ++ (v, h) ∷ []) ≡ raw bs ++ (v, head_term h) ∷ []
raw_more [] v h = refl
raw_more (b ∷ bs) v h = ap (λ r. (b.0, head_term b.1) ∷ r) (raw_more bs v h)

pairs_more : (bs : List (Variable × Term)) (v : Variable) (t : Term) (ps : List (Term × Term)) →
    full_pairs (bs ++ (v, t) ∷ []) ps ≡ put_pairs v (full bs t) (full_pairs bs ps)
pairs_more bs v t [] = refl
pairs_more bs v t (p ∷ ps) =
    ap (λ x. (x, full (bs ++ (v, t) ∷ []) p.1) ∷ full_pairs (bs ++ (v, t) ∷ []) ps) (full_more bs v t p.0)
    ∙ ap (λ x. (applied ((v, full bs t) ∷ []) (full bs p.0), x) ∷ full_pairs (bs ++ (v, t) ∷ []) ps) (full_more bs v t p.1)
    ∙ ap (λ r. (applied ((v, full bs t) ∷ []) (full bs p.0), applied ((v, full bs t) ∷ []) (full bs p.1)) ∷ r) (pairs_more bs v t ps)

-- it is put into the branch
pub seen_put : (gs : List (Bor Term × Bor Term)) (bs cs : List (Variable × Head)) (n : ℕ) (v : Variable) (h : Head) → cs ≡ bs ++ (v, h) ∷ [] →
    seen_as gs cs n ≡ put v (full (raw bs) (head_term h)) (seen_as gs bs n)
seen_put gs bs cs n v h e =
    let new : raw cs ≡ raw bs ++ (v, head_term h) ∷ [] = ap raw e ∙ raw_more bs v h in
    let pairs : full_pairs (raw cs) (goal_pairs gs) ≡ put_pairs v (full (raw bs) (head_term h)) (full_pairs (raw bs) (goal_pairs gs)) =
    ap (λ r. full_pairs r (goal_pairs gs)) new ∙ pairs_more (raw bs) v (head_term h) (goal_pairs gs) in
    let bound : solved (raw cs) ≡ solved (raw bs) ++ (v, full (raw bs) (head_term h)) ∷ [] = ap solved new ∙ solved_more (raw bs) v (head_term h) in
    λ i. record { pairs = pairs i; bound = bound i; next = n }

-- one more branch waits

pub seen_more : (ws : List State) (s : State) (us : List State) → us ≡ ws ++ s ∷ [] → seen_all us ≡ seen s ∷ seen_all ws
seen_more ws s us e = ap seen_all e ∙ ap (map seen) (reverse-append ws (s ∷ []))

pub are_sound_more : (ws : List State) (s : State) (us : List State) → us ≡ ws ++ s ∷ [] → IsSound (raw s.bound.items) → AreSound ws → AreSound us
are_sound_more ws s us e new sound x c =
    elim (Contains-append_cases ws (s ∷ []) x (subst (λ l. Contains l x) e c)) [
      | inl d ↦ sound x d
      | inr d ↦ subst (λ (y : State). IsSound (raw y.bound.items)) (only_one s x d) new
    ]

-- a variable against a term

variable_fails : (o : Subsorts) (v : Variable) (t : Term) (b : Branch) → true ≡ has_var (variables t) v → [] ≡ nexts (at_variable o v t b)
variable_fails o v t b e = ap (λ c. nexts (cond c (splits []) (cond (at_or_below o (least_sort t) v.sort) (binds (put v t b ∷ [])) (splits [])))) e

pub fails_at : (o : Subsorts) (v : Variable) (t : Term) (b : Branch) (bs : List Branch) → true ≡ has_var (variables t) v → bs ≡ nexts (at_variable o v t b) ++ bs
fails_at o v t b bs e = ap (λ x. x ++ bs) (variable_fails o v t b e)

head_sort : (bs : List (Variable × Term)) (t : Term) → IsUnbound bs t → least_sort (full bs t) ≡ least_sort t
head_sort bs =
    term_cases (λ t. IsUnbound bs t → least_sort (full bs t) ≡ least_sort t)
    (λ w other. ap least_sort (full_unbound bs w (other w refl))) (λ n other. ap least_sort (full_name bs n)) (λ f ts other. ap least_sort (full_app bs f ts))

variable_next : (o : Subsorts) (bs : List (Variable × Term)) (v : Variable) (t : Term) (b : Branch) (c : Bool) → IsUnbound bs t → false ≡ has_var (variables (full bs t)) v →
    c ≡ at_or_below o (least_sort t) v.sort → nexts (cond c (binds (put v (full bs t) b ∷ [])) (splits [])) ≡ nexts (at_variable o v (full bs t) b)
variable_next o bs v t b c other free low =
    ap (λ d. nexts (cond d (binds (put v (full bs t) b ∷ [])) (splits []))) (low ∙ sym (ap (λ n. at_or_below o n v.sort) (head_sort bs t other)))
    ∙ ap (λ d. nexts (cond d (splits []) (cond (at_or_below o (least_sort (full bs t)) v.sort) (binds (put v (full bs t) b ∷ [])) (splits [])))) free

pub above_at : (o : Subsorts) (bs : List (Variable × Term)) (v : Variable) (t : Term) (b : Branch) (us : List Branch) → IsUnbound bs t → false ≡ has_var (variables (full bs t)) v →
    false ≡ at_or_below o (least_sort t) v.sort → us ≡ nexts (at_variable o v (full bs t) b) ++ us
above_at o bs v t b us other free low = ap (λ x. x ++ us) (variable_next o bs v t b false other free low)

pub bound_at : (o : Subsorts) (bs : List (Variable × Term)) (v : Variable) (t : Term) (b : Branch) (us : List Branch) → IsUnbound bs t → false ≡ has_var (variables (full bs t)) v →
    true ≡ at_or_below o (least_sort t) v.sort → put v (full bs t) b ∷ us ≡ nexts (at_variable o v (full bs t) b) ++ us
bound_at o bs v t b us other free low = ap (λ x. x ++ us) (variable_next o bs v t b true other free low)

pub follows_at : (bs : List (Variable × Term)) (v : Variable) (t : Term) → IsUnbound bs (Var v) → IsUnbound bs t → false ≡ has_var (variables (full bs t)) v → Follows bs v t
follows_at bs v t var value free = record {
  other = var v refl;
  free = has_no_var (variables (full bs t)) v (sym free);
  head = value;
}

pub sound_at : (bs cs : List (Variable × Term)) (v : Variable) (t : Term) → cs ≡ bs ++ (v, t) ∷ [] → IsSound bs → Follows bs v t → IsSound cs
sound_at bs cs v t e sound new = subst IsSound (sym e) (sound_more bs v t sound new)

-- the pairs of two arguments on each side

abbrev goal_pair : Bor Term × Bor Term → Term × Term
goal_pair g = (g.0.now, g.1.now)

map_one : (gs : List (Bor Term × Bor Term)) (x : Bor Term × Bor Term) → map goal_pair (gs ++ x ∷ []) ≡ map goal_pair gs ++ goal_pair x ∷ []
map_one [] x = refl
map_one (g ∷ gs) x = ap (λ r. goal_pair g ∷ r) (map_one gs x)

goals_one : (gs : List (Bor Term × Bor Term)) (x : Bor Term × Bor Term) → goal_pairs (gs ++ x ∷ []) ≡ goal_pair x ∷ goal_pairs gs
goals_one gs x = ap reverse (map_one gs x) ∙ reverse-append (map goal_pair gs) (goal_pair x ∷ [])

goals_two : (gs : List (Bor Term × Bor Term)) (x y : Bor Term × Bor Term) → goal_pairs ((gs ++ x ∷ []) ++ y ∷ []) ≡ goal_pair y ∷ goal_pair x ∷ goal_pairs gs
goals_two gs x y = goals_one (gs ++ x ∷ []) y ∙ ap (λ ps. goal_pair y ∷ ps) (goals_one gs x)

pub seen_two : (gs cs : List (Bor Term × Bor Term)) (bs ds : List (Variable × Head)) (n : ℕ) (a b c d : Bor Term) (xs ys : List Term) →
    cs ≡ (gs ++ (b, d) ∷ []) ++ (a, c) ∷ [] → ds ≡ bs → full (raw bs) a.now ∷ full (raw bs) b.now ∷ [] ≡ xs → full (raw bs) c.now ∷ full (raw bs) d.now ∷ [] ≡ ys →
    seen_as cs ds n ≡ with_pairs (zip xs ys) (seen_as gs bs n)
seen_two gs cs bs ds n a b c d xs ys goals bound first second =
    ap (λ l. seen_as cs l n) bound
    ∙ ap (λ (ps : List (Term × Term)). record { pairs = full_pairs (raw bs) ps; bound = solved (raw bs); next = n }) (ap goal_pairs goals ∙ goals_two gs (b, d) (a, c))
    ∙ ap (λ zs. with_pairs (zip zs (full (raw bs) c.now ∷ full (raw bs) d.now ∷ [])) (seen_as gs bs n)) first
    ∙ ap (λ zs. with_pairs (zip xs zs) (seen_as gs bs n)) second

pub two_items : (h : Term → Term) (ts : List Term) (t u : Term) → length ts ≡ 2 → t ≡ get_or ts 0 t → u ≡ get_or ts 1 u → map h ts ≡ h t ∷ h u ∷ []
two_items h [] t u long first second = absurd (let none : ⊥ = omega (arith, long) in none)
two_items h (x ∷ []) t u long first second = absurd (let none : ⊥ = omega (arith, long) in none)
two_items h (x ∷ y ∷ []) t u long first second = ap (λ z. h z ∷ h y ∷ []) (sym first) ∙ ap (λ z. h t ∷ h z ∷ []) (sym second)
two_items h (x ∷ y ∷ z ∷ ts) t u long first second = absurd (let none : ⊥ = omega (arith, long) in none)

-- arguments in order

full_zip : (bs : List (Variable × Term)) (ts us : List Term) (ps : List (Term × Term)) → full_pairs bs (zip ts us ++ ps) ≡ zip (map (full bs) ts) (map (full bs) us) ++ full_pairs bs ps
full_zip bs [] us ps = refl
full_zip bs (t ∷ ts) [] ps = refl
full_zip bs (t ∷ ts) (u ∷ us) ps = ap (λ r. (full bs t, full bs u) ∷ r) (full_zip bs ts us ps)

pub seen_zip : (gs cs : List (Bor Term × Bor Term)) (bs : List (Variable × Head)) (n : ℕ) (ts us : List Term) → goal_pairs cs ≡ zip ts us ++ goal_pairs gs →
    seen_as cs bs n ≡ with_pairs (zip (map (full (raw bs)) ts) (map (full (raw bs)) us)) (seen_as gs bs n)
seen_zip gs cs bs n ts us e =
    ap (λ (ps : List (Term × Term)). record { pairs = ps; bound = solved (raw bs); next = n }) (ap (full_pairs (raw bs)) e ∙ full_zip (raw bs) ts us (goal_pairs gs))

map_two : (h : Term → Term) (ts : List Term) → are_two (map h ts) ≡ are_two ts
map_two h [] = refl
map_two h (t ∷ []) = refl
map_two h (t ∷ u ∷ []) = refl
map_two h (t ∷ u ∷ x ∷ ts) = refl

even_maps : (h : Term → Term) (ts us : List Term) → length ts ≡ length us → nat_eq (length (map h ts)) (length (map h us)) ≡ true
even_maps h ts us even = eq-eqb (length (map h ts)) (length (map h us)) (length-map ts h ∙ even ∙ sym (length-map us h))

chosen : (h : Term → Term) (op : Op) (ts us : List Term) (b : Branch) (c : Bool) → length ts ≡ length us → c ≡ (op.com && are_two ts) →
    at_arguments op (map h ts) (map h us) b ≡
    cond c (splits (with_pairs (zip (arranged (map h ts)) (arranged (map h us))) b ∷ with_pairs (zip (arranged (map h ts)) (turned (arranged (map h us)))) b ∷ []))
    (splits (with_pairs (zip (map h ts) (map h us)) b ∷ []))
chosen h op ts us b c even is =
    ap (λ d. cond d
    (cond (op.com && are_two (map h ts))
    (splits (with_pairs (zip (arranged (map h ts)) (arranged (map h us))) b ∷ with_pairs (zip (arranged (map h ts)) (turned (arranged (map h us)))) b ∷ []))
    (splits (with_pairs (zip (map h ts) (map h us)) b ∷ [])))
    (splits [])) (even_maps h ts us even)
    ∙ ap (λ d. cond d (splits (with_pairs (zip (arranged (map h ts)) (arranged (map h us))) b ∷ with_pairs (zip (arranged (map h ts)) (turned (arranged (map h us)))) b ∷ []))
    (splits (with_pairs (zip (map h ts) (map h us)) b ∷ []))) (ap (λ d. op.com && d) (map_two h ts) ∙ sym is)

pub straight_at : (h : Term → Term) (op : Op) (ts us : List Term) (b c : Branch) (ws : List Branch) → length ts ≡ length us → false ≡ (op.com && are_two ts) →
    c ≡ with_pairs (zip (map h ts) (map h us)) b → c ∷ ws ≡ nexts (at_arguments op (map h ts) (map h us) b) ++ ws
straight_at h op ts us b c ws even is e = ap (λ x. x ∷ ws) e ∙ sym (ap (λ mv. nexts mv ++ ws) (chosen h op ts us b false even is))

pub crossed_at : (h : Term → Term) (op : Op) (ts us : List Term) (b : Branch) (ws : List Branch) → length ts ≡ length us → true ≡ (op.com && are_two ts) →
    with_pairs (zip (arranged (map h ts)) (arranged (map h us))) b ∷ with_pairs (zip (arranged (map h ts)) (turned (arranged (map h us)))) b ∷ ws
    ≡ nexts (at_arguments op (map h ts) (map h us) b) ++ ws
crossed_at h op ts us b ws even is = sym (ap (λ mv. nexts mv ++ ws) (chosen h op ts us b true even is))

pub uneven_at : (h : Term → Term) (op : Op) (ts us : List Term) (b : Branch) (ws : List Branch) → (length ts ≡ length us → ⊥) → ws ≡ nexts (at_arguments op (map h ts) (map h us) b) ++ ws
uneven_at h op ts us b ws other =
    sym (ap (λ d. nexts (cond d
    (cond (op.com && are_two (map h ts))
    (splits (with_pairs (zip (arranged (map h ts)) (arranged (map h us))) b ∷ with_pairs (zip (arranged (map h ts)) (turned (arranged (map h us)))) b ∷ []))
    (splits (with_pairs (zip (map h ts) (map h us)) b ∷ [])))
    (splits [])) ++ ws)
    (false_from_ne_true (nat_eq (length (map h ts)) (length (map h us)))
    (λ e. other (sym (length-map ts h) ∙ eqb-true (length (map h ts)) (length (map h us)) e ∙ length-map us h))))

-- a new variable for two

pub forked_seen : (gs : List (Bor Term × Bor Term)) (bs : List (Variable × Head)) (n : ℕ) (v w z : Variable) (one two : Branch) (cs : List (Variable × Term)) →
    z.num ≡ n → ((x : Variable) → Contains (map (λ (b : Variable × Term). b.0) (raw bs)) x → x.num < n) → v.num < n →
    one ≡ put v (full (raw bs) (Var z)) (seen_as gs bs (n + 1)) → cs ≡ raw bs ++ (v, Var z) ∷ [] → two ≡ put w (full cs (Var z)) one →
    two ≡ forked z.sort v w (seen_as gs bs n)
forked_seen gs bs n v w z one two cs new low own first raws second =
    let unbound : full (raw bs) (Var z) ≡ Var z = full_unbound (raw bs) z (λ c. let less : z.num < n = low z c in let none : ⊥ = omega (arith, less, new) in none) in
    let other : Contains (map (λ (b : Variable × Term). b.0) (raw bs ++ (v, Var z) ∷ [])) z → ⊥ = λ c. elim (names_behind (raw bs) (v, Var z) z c) [
      | inl d ↦ let less : z.num < n = low z d in let none : ⊥ = omega (arith, less, new) in none
      | inr e ↦ let same : v.num ≡ z.num = ap (λ (y : Variable). y.num) e in let none : ⊥ = omega (arith, same, own, new) in none
    ] in
    let after : full cs (Var z) ≡ Var z = ap (λ r. full r (Var z)) raws ∙ full_unbound (raw bs ++ (v, Var z) ∷ []) z other in
    let named : z ≡ record { num = n; sort = z.sort } = same_variable z (record { num = n; sort = z.sort }) new refl in
    second ∙ ap (λ t. put w t one) after ∙ ap (λ x. put w (Var z) x) (first ∙ ap (λ t. put v t (seen_as gs bs (n + 1))) unbound)
    ∙ ap (λ x. put w (Var x) (put v (Var x) (seen_as gs bs (n + 1)))) named

pub forked_sound : (bs cs ds : List (Variable × Term)) (n : ℕ) (v w z : Variable) → z.num ≡ n → ((x : Variable) → Contains (map (λ (b : Variable × Term). b.0) bs) x → x.num < n) →
    v.num < n → w.num < n → (v ≡ w → ⊥) → IsUnbound bs (Var v) → IsUnbound bs (Var w) → IsSound bs → cs ≡ bs ++ (v, Var z) ∷ [] → ds ≡ cs ++ (w, Var z) ∷ [] → IsSound ds
forked_sound bs cs ds n v w z new low own_v own_w other first second sound one two =
    let apart : Contains (map (λ (b : Variable × Term). b.0) bs) z → ⊥ = λ c. let less : z.num < n = low z c in let none : ⊥ = omega (arith, less, new) in none in
    let z_v : z ≡ v → ⊥ = λ e. let same : z.num ≡ v.num = ap (λ (y : Variable). y.num) e in let none : ⊥ = omega (arith, same, own_v, new) in none in
    let z_w : z ≡ w → ⊥ = λ e. let same : z.num ≡ w.num = ap (λ (y : Variable). y.num) e in let none : ⊥ = omega (arith, same, own_w, new) in none in
    let behind : (x : Variable) → Contains (map (λ (b : Variable × Term). b.0) cs) x → Contains (map (λ (b : Variable × Term). b.0) bs) x ⊎ (v ≡ x) =
    λ x c. names_behind bs (v, Var z) x (subst (λ l. Contains (map (λ (b : Variable × Term). b.0) l) x) one c) in
    let is_z : full bs (Var z) ≡ Var z = full_unbound bs z apart in
    let z_after : Contains (map (λ (b : Variable × Term). b.0) cs) z → ⊥ = λ c. elim (behind z c) [ inl d ↦ apart d | inr e ↦ z_v (sym e) ] in
    let is_z_after : full cs (Var z) ≡ Var z = full_unbound cs z z_after in
    let step : IsSound cs = sound_at bs cs v (Var z) one sound (record {
      other = first v refl;
      free = λ c. z_v (only_one z v (subst (λ t. Contains (variables t) v) is_z c));
      head = λ x e c. apart (subst (λ y. Contains (map (λ (b : Variable × Term). b.0) bs) y) (sym (var_injective z x e)) c);
    }) in
    sound_at cs ds w (Var z) two step (record {
      other = λ c. elim (behind w c) [ inl d ↦ second w refl d | inr e ↦ other e ];
      free = λ c. z_w (only_one z w (subst (λ t. Contains (variables t) w) is_z_after c));
      head = λ x e c. z_after (subst (λ y. Contains (map (λ (b : Variable × Term). b.0) cs) y) (sym (var_injective z x e)) c);
    })

pub forked_copy : (gs hs : List (Bor Term × Bor Term)) (bs ds : List (Variable × Head)) (n : ℕ) (v w z : Variable) (one two : Branch) (cs : List (Variable × Term)) →
    hs ≡ gs → ds ≡ bs → ((x : Variable) → Contains (map (λ (b : Variable × Term). b.0) (raw bs)) x → x.num < n) → v.num < n →
    one ≡ put v (full (raw ds) (Var z)) (seen_as hs ds (n + 1)) → cs ≡ raw ds ++ (v, Var z) ∷ [] → two ≡ put w (full cs (Var z)) one → z.num ≡ n →
    two ≡ forked z.sort v w (seen_as gs bs n)
forked_copy gs hs bs ds n v w z one two cs goals bound low own first raws second new =
    forked_seen gs bs n v w z one two cs new low own
    (first ∙ ap (λ l. put v (full (raw l) (Var z)) (seen_as hs l (n + 1))) bound ∙ ap (λ l. put v (full (raw bs) (Var z)) (seen_as l bs (n + 1))) goals)
    (raws ∙ ap (λ l. raw l ++ (v, Var z) ∷ []) bound) second

pub fork_step : (f : ℕ → Branch) (ls : List ℕ) (i d : ℕ) (news olds base : List Branch) → i < length ls → news ≡ f (get_or ls (length ls - 1 - i) d) ∷ olds →
    olds ≡ map f (drop (length ls - i) ls) ++ base → news ≡ map f (drop (length ls - (i + 1)) ls) ++ base
fork_step f ls i d news olds base small new old =
    let at : length ls - 1 - i ≡ length ls - (i + 1) = omega (arith, small) in
    let next : length ls - (i + 1) + 1 ≡ length ls - i = omega (arith, small) in
    let within : length ls - (i + 1) < length ls = omega (arith, small) in
    new ∙ ap (λ bs. f (get_or ls (length ls - 1 - i) d) ∷ bs) old ∙ ap (λ k. f (get_or ls k d) ∷ map f (drop (length ls - i) ls) ++ base) at
    ∙ sym (ap (λ xs. map f xs ++ base) (drop_more ls (length ls - (i + 1)) d within ∙ ap (λ k. get_or ls (length ls - (i + 1)) d ∷ drop k ls) next))

pub forked_copy_sound : (bs ds : List (Variable × Head)) (cs es : List (Variable × Term)) (n : ℕ) (v w z : Variable) → ds ≡ bs →
    ((x : Variable) → Contains (map (λ (b : Variable × Term). b.0) (raw bs)) x → x.num < n) →
    v.num < n → w.num < n → (v ≡ w → ⊥) → IsUnbound (raw bs) (Var v) → IsUnbound (raw bs) (Var w) → IsSound (raw bs) →
    cs ≡ raw ds ++ (v, Var z) ∷ [] → es ≡ cs ++ (w, Var z) ∷ [] → z.num ≡ n → IsSound es
forked_copy_sound bs ds cs es n v w z bound low own_v own_w other first second sound one two new =
    forked_sound (raw bs) cs es n v w z new low own_v own_w other first second sound (one ∙ ap (λ l. raw l ++ (v, Var z) ∷ []) bound) two

-- two variables

abbrev tested : Subsorts → Variable → Variable → Branch → Bool → Bool → Bool → Move Branch
tested o v w b same below above =
    cond same (splits (b ∷ []))
    (cond below (binds (put w (Var v) b ∷ []))
    (cond above (binds (put v (Var w) b ∷ []))
    (binds (map (λ r. forked r v w b) (lowers o v.sort w.sort)))))

tested_is : (o : Subsorts) (v w : Variable) (b : Branch) (same below above : Bool) → same ≡ same_var v w → below ≡ at_or_below o v.sort w.sort → above ≡ at_or_below o w.sort v.sort →
    tested o v w b same below above ≡ at_variables o v w b
tested_is o v w b same below above e f g =
    ap (λ x. tested o v w b x below above) e ∙ ap (λ x. tested o v w b (same_var v w) x above) f ∙ ap (tested o v w b (same_var v w) (at_or_below o v.sort w.sort)) g

pub second_bound : (o : Subsorts) (bs : List (Variable × Term)) (v w : Variable) (b c : Branch) (ws : List Branch) → false ≡ same_var v w → true ≡ at_or_below o v.sort w.sort → IsUnbound bs (Var v) →
    c ≡ put w (full bs (Var v)) b → c ∷ ws ≡ nexts (at_variables o v w b) ++ ws
second_bound o bs v w b c ws e f unbound is =
    ap (λ x. x ∷ ws) (is ∙ ap (λ t. put w t b) (full_unbound bs v (unbound v refl)))
    ∙ ap (λ mv. nexts mv ++ ws) (tested_is o v w b false true (at_or_below o w.sort v.sort) e f refl)

pub first_bound : (o : Subsorts) (bs : List (Variable × Term)) (v w : Variable) (b c : Branch) (ws : List Branch) → false ≡ same_var v w → false ≡ at_or_below o v.sort w.sort →
    true ≡ at_or_below o w.sort v.sort → IsUnbound bs (Var w) → c ≡ put v (full bs (Var w)) b → c ∷ ws ≡ nexts (at_variables o v w b) ++ ws
first_bound o bs v w b c ws e f g unbound is =
    ap (λ x. x ∷ ws) (is ∙ ap (λ t. put v t b) (full_unbound bs w (unbound w refl)))
    ∙ ap (λ mv. nexts mv ++ ws) (tested_is o v w b false false true e f g)

pub variable_follows : (bs : List (Variable × Term)) (v w : Variable) → (v ≡ w → ⊥) → IsUnbound bs (Var v) → IsUnbound bs (Var w) → Follows bs w (Var v)
variable_follows bs v w other first second = record {
  other = second w refl;
  free = λ c. other (only_one v w (subst (λ t. Contains (variables t) w) (full_unbound bs v (first v refl)) c));
  head = first;
}

pub fork_room : (o : Subsorts) (v w : Variable) (b : Branch) (ls : List ℕ) → ls ≡ lowers o v.sort w.sort → false ≡ same_var v w → false ≡ at_or_below o v.sort w.sort → false ≡ at_or_below o w.sort v.sort →
    ((c : Branch) → Contains (nexts (at_variables o v w b)) c → c.next ≤ 2 ^ 32) → 0 < length ls → b.next < 2 ^ 32
fork_room o v w b [] is e f g room some = absurd (let none : ⊥ = omega (arith, some) in none)
fork_room o v w b (s ∷ ls) is e f g room some =
    let member : Contains (map (λ r. forked r v w b) (s ∷ ls)) (forked s v w b) = here (forked s v w b) (map (λ r. forked r v w b) ls) in
    let all : map (λ r. forked r v w b) (s ∷ ls) ≡ nexts (at_variables o v w b) = ap (map (λ r. forked r v w b)) is ∙ ap nexts (tested_is o v w b false false false e f g) in
    let most : b.next + 1 ≤ 2 ^ 32 = room (forked s v w b) (subst (λ cs. Contains cs (forked s v w b)) all member) in
    omega (arith, most)

-- the move by a pair, by the heads of its members

pub moves : (o : Subsorts) (r : Branch) (ws : List Branch) (t u x y : Term) → t ≡ x → u ≡ y → nexts (move o x y r) ++ ws ≡ nexts (move o t u r) ++ ws
moves o r ws t u x y e f = ap (λ z. nexts (move o z y r) ++ ws) (sym e) ∙ ap (λ z. nexts (move o t z r) ++ ws) (sym f)

pub variable_name : (o : Subsorts) (r : Branch) (ws : List Branch) (t u x : Term) (v : Variable) (n : ℕ) → t ≡ Var v → u ≡ Name n → x ≡ u → nexts (at_variable o v x r) ++ ws ≡ nexts (move o t u r) ++ ws
variable_name o r ws t u x v n e f is = ap (λ z. nexts (at_variable o v z r) ++ ws) (is ∙ f) ∙ moves o r ws t u (Var v) (Name n) e f

pub variable_app : (o : Subsorts) (r : Branch) (ws : List Branch) (t u x : Term) (v : Variable) (f : Op) (ts : List Term) → t ≡ Var v → u ≡ App f ts → x ≡ u →
    nexts (at_variable o v x r) ++ ws ≡ nexts (move o t u r) ++ ws
variable_app o r ws t u x v f ts e g is = ap (λ z. nexts (at_variable o v z r) ++ ws) (is ∙ g) ∙ moves o r ws t u (Var v) (App f ts) e g

pub name_variable : (o : Subsorts) (r : Branch) (ws : List Branch) (t u x : Term) (v : Variable) (n : ℕ) → t ≡ Name n → u ≡ Var v → x ≡ t → nexts (at_variable o v x r) ++ ws ≡ nexts (move o t u r) ++ ws
name_variable o r ws t u x v n e f is = ap (λ z. nexts (at_variable o v z r) ++ ws) (is ∙ e) ∙ moves o r ws t u (Name n) (Var v) e f

pub app_variable : (o : Subsorts) (r : Branch) (ws : List Branch) (t u x : Term) (v : Variable) (f : Op) (ts : List Term) → t ≡ App f ts → u ≡ Var v → x ≡ t →
    nexts (at_variable o v x r) ++ ws ≡ nexts (move o t u r) ++ ws
app_variable o r ws t u x v f ts e g is = ap (λ z. nexts (at_variable o v z r) ++ ws) (is ∙ e) ∙ moves o r ws t u (App f ts) (Var v) e g

pub two_apps : (o : Subsorts) (r : Branch) (ws : List Branch) (t u : Term) (f g : Op) (ts us : List Term) → t ≡ App f ts → u ≡ App g us →
    nexts (cond (same_op f g) (at_arguments f ts us r) (splits [])) ++ ws ≡ nexts (move o t u r) ++ ws
two_apps o r ws t u f g ts us e is = ap (λ mv. nexts mv ++ ws) (sym (move_apps o f g ts us r)) ∙ moves o r ws t u (App f ts) (App g us) e is

-- the pair that is taken off
pub seen_popped : (gs hs : List (Bor Term × Bor Term)) (bs : List (Variable × Head)) (n : ℕ) (t u : Bor Term) → gs ≡ hs ++ (t, u) ∷ [] →
    seen_as gs bs n ≡ with_pairs ((full (raw bs) t.now, full (raw bs) u.now) ∷ []) (seen_as hs bs n)
seen_popped gs hs bs n t u e =
    ap (λ (ps : List (Term × Term)). record { pairs = full_pairs (raw bs) ps; bound = solved (raw bs); next = n }) (ap goal_pairs e ∙ goals_one hs (t, u))

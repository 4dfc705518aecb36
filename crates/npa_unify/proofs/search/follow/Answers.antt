use Rattle.std.proofs.Common.{◌≡◌, [], ◌∷◌, map, refl, subst, sym, ◌∙◌, ap}
use Rattle.npa_term.specs.declared.term.Term.{Var, Name, App}
use Rattle.npa_unify.specs.Branches.{with_pairs}
use Rattle.npa_unify.specs.Seen.{IsUnbound, full, full_pairs, goal_pairs, head_term, raw, seen, seen_all, walked}
use Rattle.npa_unify.proofs.Following.{moves, variable_name, variable_app, name_variable, app_variable, two_apps}
use Rattle.npa_unify.proofs.Outcomes.{on_ok}
use Rattle.npa_unify.proofs.Reaching.{pair_sorts, pair_low, names_low, pair_room}
use Rattle.npa_unify.proofs.Seeing.{walk_is, walk_unbound, walk_var, walk_name, walk_app}
use Rattle.npa_unify.proofs.search.follow.Goals as goal

pub variables-requires-clause-first : goal.variables-requires-clause-first
variables-requires-clause-first c =
    let bs = raw c.args.state.bound.items in
    let e : Var c.in-Var.v ≡ walked bs c.args.t.now = sym (ap head_term c.in-Var.is) ∙ c.walk-left.ensures ∙ ap (λ l. walked (raw l) c.args.t.now) c.as_slice.ensures.value in
    subst (IsUnbound bs) (sym e) (walk_unbound bs c.args.t.now c.requires.sound)

pub variables-requires-clause-second : goal.variables-requires-clause-second
variables-requires-clause-second c =
    let bs = raw c.args.state.bound.items in
    let f : Var c.in-Var-right.w ≡ walked bs c.args.u.now = sym (ap head_term c.in-Var-right.is) ∙ c.walk-right.ensures ∙ ap (λ l. walked (raw l) c.args.u.now) c.as_slice-2.ensures.value in
    subst (IsUnbound bs) (sym f) (walk_unbound bs c.args.u.now c.requires.sound)

pub variables-requires-clause-sorts : goal.variables-requires-clause-sorts
variables-requires-clause-sorts c =
    let bs = raw c.args.state.bound.items in
    let b = with_pairs ((full bs c.args.t.now, full bs c.args.u.now) ∷ []) (seen c.args.state) in
    let e : Var c.in-Var.v ≡ walked bs c.args.t.now = sym (ap head_term c.in-Var.is) ∙ c.walk-left.ensures ∙ ap (λ l. walked (raw l) c.args.t.now) c.as_slice.ensures.value in
    let f : Var c.in-Var-right.w ≡ walked bs c.args.u.now = sym (ap head_term c.in-Var-right.is) ∙ c.walk-right.ensures ∙ ap (λ l. walked (raw l) c.args.u.now) c.as_slice-2.ensures.value in
    pair_sorts c.args.sorts.now b (full bs c.args.t.now) (full bs c.args.u.now) (full_pairs bs (goal_pairs c.args.state.goals.items)) c.in-Var.v c.in-Var-right.w c.requires.reached refl (walk_var bs c.args.t.now c.in-Var.v c.requires.sound e) (walk_var bs c.args.u.now c.in-Var-right.w c.requires.sound f)

pub variables-requires-clause-low : goal.variables-requires-clause-low
variables-requires-clause-low c =
    let bs = raw c.args.state.bound.items in
    let b = with_pairs ((full bs c.args.t.now, full bs c.args.u.now) ∷ []) (seen c.args.state) in
    names_low c.args.sorts.now b bs c.requires.reached refl

pub variables-requires-clause-own : goal.variables-requires-clause-own
variables-requires-clause-own c =
    let bs = raw c.args.state.bound.items in
    let b = with_pairs ((full bs c.args.t.now, full bs c.args.u.now) ∷ []) (seen c.args.state) in
    let e : Var c.in-Var.v ≡ walked bs c.args.t.now = sym (ap head_term c.in-Var.is) ∙ c.walk-left.ensures ∙ ap (λ l. walked (raw l) c.args.t.now) c.as_slice.ensures.value in
    let f : Var c.in-Var-right.w ≡ walked bs c.args.u.now = sym (ap head_term c.in-Var-right.is) ∙ c.walk-right.ensures ∙ ap (λ l. walked (raw l) c.args.u.now) c.as_slice-2.ensures.value in
    pair_low c.args.sorts.now b (full bs c.args.t.now) (full bs c.args.u.now) (full_pairs bs (goal_pairs c.args.state.goals.items)) c.in-Var.v c.in-Var-right.w c.requires.reached refl (walk_var bs c.args.t.now c.in-Var.v c.requires.sound e) (walk_var bs c.args.u.now c.in-Var-right.w c.requires.sound f)

pub variables-requires-clause-room : goal.variables-requires-clause-room
variables-requires-clause-room c =
    let bs = raw c.args.state.bound.items in
    let b = with_pairs ((full bs c.args.t.now, full bs c.args.u.now) ∷ []) (seen c.args.state) in
    let e : Var c.in-Var.v ≡ walked bs c.args.t.now = sym (ap head_term c.in-Var.is) ∙ c.walk-left.ensures ∙ ap (λ l. walked (raw l) c.args.t.now) c.as_slice.ensures.value in
    let f : Var c.in-Var-right.w ≡ walked bs c.args.u.now = sym (ap head_term c.in-Var-right.is) ∙ c.walk-right.ensures ∙ ap (λ l. walked (raw l) c.args.u.now) c.as_slice-2.ensures.value in
    pair_room c.args.sorts.now b (seen c.args.state) (full bs c.args.t.now) (full bs c.args.u.now) c.in-Var.v c.in-Var-right.w c.requires.reached refl (walk_var bs c.args.t.now c.in-Var.v c.requires.sound e) (walk_var bs c.args.u.now c.in-Var-right.w c.requires.sound f)

pub variable-requires-clause-var : goal.variable-requires-clause-var
variable-requires-clause-var c =
    let bs = raw c.args.state.bound.items in
    let e : Var c.in-Var.v ≡ walked bs c.args.t.now = sym (ap head_term c.in-Var.is) ∙ c.walk-left.ensures ∙ ap (λ l. walked (raw l) c.args.t.now) c.as_slice.ensures.value in
    subst (IsUnbound bs) (sym e) (walk_unbound bs c.args.t.now c.requires.sound)

pub variable-requires-in-App-right-clause-var : goal.variable-requires-in-App-right-clause-var
variable-requires-in-App-right-clause-var c =
    let bs = raw c.args.state.bound.items in
    let e : Var c.in-Var.v ≡ walked bs c.args.t.now = sym (ap head_term c.in-Var.is) ∙ c.walk-left.ensures ∙ ap (λ l. walked (raw l) c.args.t.now) c.as_slice.ensures.value in
    subst (IsUnbound bs) (sym e) (walk_unbound bs c.args.t.now c.requires.sound)

pub variable-requires-in-Var-right-2-clause-var : goal.variable-requires-in-Var-right-2-clause-var
variable-requires-in-Var-right-2-clause-var c =
    let bs = raw c.args.state.bound.items in
    let f : Var c.in-Var-right-2.w ≡ walked bs c.args.u.now = sym (ap head_term c.in-Var-right-2.is) ∙ c.walk-right.ensures ∙ ap (λ l. walked (raw l) c.args.u.now) c.as_slice-2.ensures.value in
    subst (IsUnbound bs) (sym f) (walk_unbound bs c.args.u.now c.requires.sound)

pub variable-requires-in-Var-right-3-clause-var : goal.variable-requires-in-Var-right-3-clause-var
variable-requires-in-Var-right-3-clause-var c =
    let bs = raw c.args.state.bound.items in
    let f : Var c.in-Var-right-3.w ≡ walked bs c.args.u.now = sym (ap head_term c.in-Var-right-3.is) ∙ c.walk-right.ensures ∙ ap (λ l. walked (raw l) c.args.u.now) c.as_slice-2.ensures.value in
    subst (IsUnbound bs) (sym f) (walk_unbound bs c.args.u.now c.requires.sound)

pub returns-in-Var-right-clause-all : goal.returns-in-Var-right-clause-all
returns-in-Var-right-clause-all c =
    let bs = raw c.args.state.bound.items in
    let e : Var c.in-Var.v ≡ walked bs c.args.t.now = sym (ap head_term c.in-Var.is) ∙ c.walk-left.ensures ∙ ap (λ l. walked (raw l) c.args.t.now) c.as_slice.ensures.value in
    let f : Var c.in-Var-right.w ≡ walked bs c.args.u.now = sym (ap head_term c.in-Var-right.is) ∙ c.walk-right.ensures ∙ ap (λ l. walked (raw l) c.args.u.now) c.as_slice-2.ensures.value in
    on_ok c.variables.result (λ g. g ∙ moves c.args.sorts.now (seen c.args.state) (seen_all c.args.waiting.now.items) (full bs c.args.t.now) (full bs c.args.u.now) (Var c.in-Var.v) (Var c.in-Var-right.w) (walk_var bs c.args.t.now c.in-Var.v c.requires.sound e) (walk_var bs c.args.u.now c.in-Var-right.w c.requires.sound f)) c.variables.ensures.all

pub returns-in-Name-right-clause-all : goal.returns-in-Name-right-clause-all
returns-in-Name-right-clause-all c =
    let bs = raw c.args.state.bound.items in
    let e : Var c.in-Var.v ≡ walked bs c.args.t.now = sym (ap head_term c.in-Var.is) ∙ c.walk-left.ensures ∙ ap (λ l. walked (raw l) c.args.t.now) c.as_slice.ensures.value in
    let f : Name c.in-Name-right.field-0 ≡ walked bs c.args.u.now = sym (ap head_term c.in-Name-right.is) ∙ c.walk-right.ensures ∙ ap (λ l. walked (raw l) c.args.u.now) c.as_slice-2.ensures.value in
    let is : full bs (head_term c.walk-right.result) ≡ full bs c.args.u.now = ap (full bs) (c.walk-right.ensures ∙ ap (λ l. walked (raw l) c.args.u.now) c.as_slice-2.ensures.value) ∙ walk_is bs c.args.u.now c.requires.sound in
    on_ok c.variable.result (λ g. g ∙ variable_name c.args.sorts.now (seen c.args.state) (seen_all c.args.waiting.now.items) (full bs c.args.t.now) (full bs c.args.u.now) (full bs (head_term c.walk-right.result)) c.in-Var.v c.in-Name-right.field-0 (walk_var bs c.args.t.now c.in-Var.v c.requires.sound e) (walk_name bs c.args.u.now c.in-Name-right.field-0 c.requires.sound f) is) c.variable.ensures.all

pub returns-in-App-right-clause-all : goal.returns-in-App-right-clause-all
returns-in-App-right-clause-all c =
    let bs = raw c.args.state.bound.items in
    let e : Var c.in-Var.v ≡ walked bs c.args.t.now = sym (ap head_term c.in-Var.is) ∙ c.walk-left.ensures ∙ ap (λ l. walked (raw l) c.args.t.now) c.as_slice.ensures.value in
    let f : App c.in-App-right.field-0 c.in-App-right.field-1.now ≡ walked bs c.args.u.now = sym (ap head_term c.in-App-right.is) ∙ c.walk-right.ensures ∙ ap (λ l. walked (raw l) c.args.u.now) c.as_slice-2.ensures.value in
    let is : full bs (head_term c.walk-right.result) ≡ full bs c.args.u.now = ap (full bs) (c.walk-right.ensures ∙ ap (λ l. walked (raw l) c.args.u.now) c.as_slice-2.ensures.value) ∙ walk_is bs c.args.u.now c.requires.sound in
    on_ok c.variable-in-App-right.result (λ g. g ∙ variable_app c.args.sorts.now (seen c.args.state) (seen_all c.args.waiting.now.items) (full bs c.args.t.now) (full bs c.args.u.now) (full bs (head_term c.walk-right.result)) c.in-Var.v c.in-App-right.field-0 (map (full bs) c.in-App-right.field-1.now) (walk_var bs c.args.t.now c.in-Var.v c.requires.sound e) (walk_app bs c.args.u.now c.in-App-right.field-0 c.in-App-right.field-1.now c.requires.sound f) is) c.variable-in-App-right.ensures.all

pub returns-in-Var-right-2-clause-all : goal.returns-in-Var-right-2-clause-all
returns-in-Var-right-2-clause-all c =
    let bs = raw c.args.state.bound.items in
    let e : Name c.in-Name.m ≡ walked bs c.args.t.now = sym (ap head_term c.in-Name.is) ∙ c.walk-left.ensures ∙ ap (λ l. walked (raw l) c.args.t.now) c.as_slice.ensures.value in
    let f : Var c.in-Var-right-2.w ≡ walked bs c.args.u.now = sym (ap head_term c.in-Var-right-2.is) ∙ c.walk-right.ensures ∙ ap (λ l. walked (raw l) c.args.u.now) c.as_slice-2.ensures.value in
    let is : full bs (head_term c.walk-left.result) ≡ full bs c.args.t.now = ap (full bs) (c.walk-left.ensures ∙ ap (λ l. walked (raw l) c.args.t.now) c.as_slice.ensures.value) ∙ walk_is bs c.args.t.now c.requires.sound in
    on_ok c.variable-in-Var-right-2.result (λ g. g ∙ name_variable c.args.sorts.now (seen c.args.state) (seen_all c.args.waiting.now.items) (full bs c.args.t.now) (full bs c.args.u.now) (full bs (head_term c.walk-left.result)) c.in-Var-right-2.w c.in-Name.m (walk_name bs c.args.t.now c.in-Name.m c.requires.sound e) (walk_var bs c.args.u.now c.in-Var-right-2.w c.requires.sound f) is) c.variable-in-Var-right-2.ensures.all

pub returns-in-Name-right-2-clause-all : goal.returns-in-Name-right-2-clause-all
returns-in-Name-right-2-clause-all c =
    let bs = raw c.args.state.bound.items in
    let e : Name c.in-Name.m ≡ walked bs c.args.t.now = sym (ap head_term c.in-Name.is) ∙ c.walk-left.ensures ∙ ap (λ l. walked (raw l) c.args.t.now) c.as_slice.ensures.value in
    let f : Name c.in-Name-right-2.n ≡ walked bs c.args.u.now = sym (ap head_term c.in-Name-right-2.is) ∙ c.walk-right.ensures ∙ ap (λ l. walked (raw l) c.args.u.now) c.as_slice-2.ensures.value in
    on_ok c.names.result (λ g. g ∙ moves c.args.sorts.now (seen c.args.state) (seen_all c.args.waiting.now.items) (full bs c.args.t.now) (full bs c.args.u.now) (Name c.in-Name.m) (Name c.in-Name-right-2.n) (walk_name bs c.args.t.now c.in-Name.m c.requires.sound e) (walk_name bs c.args.u.now c.in-Name-right-2.n c.requires.sound f)) c.names.ensures.all

pub returns-in-App-right-2-clause-all : goal.returns-in-App-right-2-clause-all
returns-in-App-right-2-clause-all c =
    let bs = raw c.args.state.bound.items in
    let e : Name c.in-Name.m ≡ walked bs c.args.t.now = sym (ap head_term c.in-Name.is) ∙ c.walk-left.ensures ∙ ap (λ l. walked (raw l) c.args.t.now) c.as_slice.ensures.value in
    let f : App c.in-App-right-2.field-0 c.in-App-right-2.field-1.now ≡ walked bs c.args.u.now = sym (ap head_term c.in-App-right-2.is) ∙ c.walk-right.ensures ∙ ap (λ l. walked (raw l) c.args.u.now) c.as_slice-2.ensures.value in
    moves c.args.sorts.now (seen c.args.state) (seen_all c.args.waiting.now.items) (full bs c.args.t.now) (full bs c.args.u.now) (Name c.in-Name.m) (App c.in-App-right-2.field-0 (map (full bs) c.in-App-right-2.field-1.now)) (walk_name bs c.args.t.now c.in-Name.m c.requires.sound e) (walk_app bs c.args.u.now c.in-App-right-2.field-0 c.in-App-right-2.field-1.now c.requires.sound f)

pub returns-in-Var-right-3-clause-all : goal.returns-in-Var-right-3-clause-all
returns-in-Var-right-3-clause-all c =
    let bs = raw c.args.state.bound.items in
    let e : App c.in-App.f c.in-App.ts.now ≡ walked bs c.args.t.now = sym (ap head_term c.in-App.is) ∙ c.walk-left.ensures ∙ ap (λ l. walked (raw l) c.args.t.now) c.as_slice.ensures.value in
    let f : Var c.in-Var-right-3.w ≡ walked bs c.args.u.now = sym (ap head_term c.in-Var-right-3.is) ∙ c.walk-right.ensures ∙ ap (λ l. walked (raw l) c.args.u.now) c.as_slice-2.ensures.value in
    let is : full bs (head_term c.walk-left.result) ≡ full bs c.args.t.now = ap (full bs) (c.walk-left.ensures ∙ ap (λ l. walked (raw l) c.args.t.now) c.as_slice.ensures.value) ∙ walk_is bs c.args.t.now c.requires.sound in
    on_ok c.variable-in-Var-right-3.result (λ g. g ∙ app_variable c.args.sorts.now (seen c.args.state) (seen_all c.args.waiting.now.items) (full bs c.args.t.now) (full bs c.args.u.now) (full bs (head_term c.walk-left.result)) c.in-Var-right-3.w c.in-App.f (map (full bs) c.in-App.ts.now) (walk_app bs c.args.t.now c.in-App.f c.in-App.ts.now c.requires.sound e) (walk_var bs c.args.u.now c.in-Var-right-3.w c.requires.sound f) is) c.variable-in-Var-right-3.ensures.all

pub returns-in-Name-right-3-clause-all : goal.returns-in-Name-right-3-clause-all
returns-in-Name-right-3-clause-all c =
    let bs = raw c.args.state.bound.items in
    let e : App c.in-App.f c.in-App.ts.now ≡ walked bs c.args.t.now = sym (ap head_term c.in-App.is) ∙ c.walk-left.ensures ∙ ap (λ l. walked (raw l) c.args.t.now) c.as_slice.ensures.value in
    let f : Name c.in-Name-right-3.field-0 ≡ walked bs c.args.u.now = sym (ap head_term c.in-Name-right-3.is) ∙ c.walk-right.ensures ∙ ap (λ l. walked (raw l) c.args.u.now) c.as_slice-2.ensures.value in
    moves c.args.sorts.now (seen c.args.state) (seen_all c.args.waiting.now.items) (full bs c.args.t.now) (full bs c.args.u.now) (App c.in-App.f (map (full bs) c.in-App.ts.now)) (Name c.in-Name-right-3.field-0) (walk_app bs c.args.t.now c.in-App.f c.in-App.ts.now c.requires.sound e) (walk_name bs c.args.u.now c.in-Name-right-3.field-0 c.requires.sound f)

pub returns-in-App-right-3-clause-all : goal.returns-in-App-right-3-clause-all
returns-in-App-right-3-clause-all c =
    let bs = raw c.args.state.bound.items in
    let e : App c.in-App.f c.in-App.ts.now ≡ walked bs c.args.t.now = sym (ap head_term c.in-App.is) ∙ c.walk-left.ensures ∙ ap (λ l. walked (raw l) c.args.t.now) c.as_slice.ensures.value in
    let f : App c.in-App-right-3.g c.in-App-right-3.us.now ≡ walked bs c.args.u.now = sym (ap head_term c.in-App-right-3.is) ∙ c.walk-right.ensures ∙ ap (λ l. walked (raw l) c.args.u.now) c.as_slice-2.ensures.value in
    on_ok c.operators.result (λ h. h ∙ two_apps c.args.sorts.now (seen c.args.state) (seen_all c.args.waiting.now.items) (full bs c.args.t.now) (full bs c.args.u.now) c.in-App.f c.in-App-right-3.g (map (full bs) c.in-App.ts.now) (map (full bs) c.in-App-right-3.us.now) (walk_app bs c.args.t.now c.in-App.f c.in-App.ts.now c.requires.sound e) (walk_app bs c.args.u.now c.in-App-right-3.g c.in-App-right-3.us.now c.requires.sound f)) c.operators.ensures.all

-- A step of an instance is made in the term of a variable, or at a place of the term itself.
use Rattle.std.proofs.Common.{◌≡◌, ◌⊎◌, ℕ, List, [], ◌∷◌, map, refl, sym, ◌∙◌, ap, subst, inl, inr}
use Rattle.std.specs.Prelude.{Contains}
use Rattle.std.specs.List.{flat_map}
use Rattle.std.proofs.lemmas.List.Elements.{Contains-append_left, Contains-append_right}
use Rattle.npa_term.specs.declared.term.Op.{Op}
use Rattle.npa_term.specs.declared.term.Var.{Var as Variable}
use Rattle.npa_term.specs.declared.term.Term.{Term, Var, Name, App}
use Rattle.npa_term.specs.Bound.{applied}
use Rattle.npa_term.specs.Parts.{image}
use Rattle.npa_term.specs.Same.{Same}
use Rattle.npa_term.specs.Variables.{variables}
use Rattle.npa_term.proofs.Induction.{Each, by_terms}
use Rattle.npa_term.proofs.Rows.{applied_app, applied_at}
use Rattle.npa_term.proofs.SameCases.{app_injective, same_only_name, same_only_var}
use Rattle.npa_sig.specs.declared.protocol.Equation.{Equation}
use Rattle.npa_rewrite.specs.declared.theory.Theory.{Theory}
use Rattle.npa_rewrite.specs.Lightening.{Lightens}
use Rattle.npa_rewrite.specs.Reducing.{Reduces, top, under, ReducesOne, now, later, Leads, step}
use Rattle.npa_rewrite.specs.Rewriting.{FitsSorts}
use Rattle.npa_rewrite.proofs.Instances.{in_app}
use Rattle.npa_rewrite.proofs.Leading.{LeadsAll, leads_all, leads_itself, spread, spread_all}
use Rattle.npa_rewrite.proofs.Positions.{nothing_reduces}
use Rattle.npa_unify.proofs.Members.{here, later as behind}
use Rattle.npa_conv.specs.Overlaps.{hole, holes, list_holes}
use Rattle.npa_conv.proofs.Holes.{bound_image, holes_app, map_member, plain}

-- a step of the term itself
pub record Top (th : Theory) (t u : Term) : Type 0 where
  pub equation : Equation
  pub values : List (Variable × Term)
  pub listed : Contains th.equations equation
  pub fits : FitsSorts th.sig.sorts (variables equation.left) values
  pub same : Same t (applied values equation.left)
  pub form : u ≡ applied values equation.right

-- a step of an argument
pub record InOne (th : Theory) (op : Op) (ts : List Term) (u : Term) : Type 0 where
  pub arguments : List Term
  pub form : u ≡ App op arguments
  pub reduces : ReducesOne th ts arguments

-- a step of an application is one of these
pub cases_app : (th : Theory) {t u : Term} → Reduces th t u → (op : Op) (ts : List Term) → t ≡ App op ts → Top th t u ⊎ InOne th op ts u
cases_app th (top e s t c q p) op ts is = inl (record { equation = e; values = s; listed = c; fits = q; same = p; form = refl })
cases_app th (under f ss us r) op ts is =
    let same = app_injective f op ss ts is in
    inr (record { arguments = us; form = ap (λ g. App g us) same.0; reduces = subst (λ xs. ReducesOne th xs us) same.1 r })

-- a step in a list is one of its first member or one of the others
pub record OfFirst (th : Theory) (t : Term) (ts us : List Term) : Type 0 where
  pub to : Term
  pub form : us ≡ to ∷ ts
  pub reduces : Reduces th t to

pub record OfRest (th : Theory) (t : Term) (ts us : List Term) : Type 0 where
  pub to : List Term
  pub form : us ≡ t ∷ to
  pub reduces : ReducesOne th ts to

pub cases_one : (th : Theory) {t : Term} {ts us : List Term} → ReducesOne th (t ∷ ts) us → OfFirst th t ts us ⊎ OfRest th t ts us
cases_one th (now t u ts r) = inl (record { to = u; form = refl; reduces = r })
cases_one th (later t ts us r) = inr (record { to = us; form = refl; reduces = r })

module _ (th : Theory) (weigh : Term → ℕ) (light : Lightens th weigh) where
  -- a variable and a name make no step
  pub no_variable : {t u : Term} → Reduces th t u → (v : Variable) → t ≡ Var v → ⊥
  no_variable (top e s t c q p) v is =
      let left = light.left e c in
      let app : applied s e.left ≡ App left.0 (map (applied s) left.1) = applied_at s e.left left.0 left.1 left.2 in
      let var : applied s e.left ≡ Var v = same_only_var p v is in
      cc
  no_variable (under op ts us r) v is = cc

  pub no_name : {t u : Term} → Reduces th t u → (n : ℕ) → t ≡ Name n → ⊥
  no_name (top e s t c q p) n is =
      let left = light.left e c in
      let app : applied s e.left ≡ App left.0 (map (applied s) left.1) = applied_at s e.left left.0 left.1 left.2 in
      let name : applied s e.left ≡ Name n = same_only_name p n is in
      cc
  no_name (under op ts us r) n is = cc

-- an instance of a term makes a step in the term of a variable
pub record Below (th : Theory) (s : List (Variable × Term)) (l v : Term) : Type 0 where
  pub var : Variable
  pub to : Term
  pub occurs : Contains (variables l) var
  pub reduces : Reduces th (image s var) to
  pub leads : Leads th v (applied ((var, to) ∷ s) l)

-- or by an equation at a place of the term
pub record At (th : Theory) (s : List (Variable × Term)) (l v : Term) : Type 0 where
  pub part : Term
  pub around : Term
  pub is : Contains (holes l) (part, around)
  pub equation : Equation
  pub values : List (Variable × Term)
  pub listed : Contains th.equations equation
  pub fits : FitsSorts th.sig.sorts (variables equation.left) values
  pub same : Same (applied s part) (applied values equation.left)
  pub form : v ≡ applied ((hole, applied values equation.right) ∷ s) around

-- the same of a list
record BelowAll (th : Theory) (s : List (Variable × Term)) (ls vs : List Term) : Type 0 where
  var : Variable
  to : Term
  occurs : Contains (flat_map variables ls) var
  reduces : Reduces th (image s var) to
  leads : LeadsAll th vs (map (applied ((var, to) ∷ s)) ls)

record AtAll (th : Theory) (s : List (Variable × Term)) (ls vs : List Term) : Type 0 where
  part : Term
  around : List Term
  is : Contains (list_holes ls) (part, around)
  equation : Equation
  values : List (Variable × Term)
  listed : Contains th.equations equation
  fits : FitsSorts th.sig.sorts (variables equation.left) values
  same : Same (applied s part) (applied values equation.left)
  form : vs ≡ map (applied ((hole, applied values equation.right) ∷ s)) around

pub plain_all : (s : List (Variable × Term)) (r : Term) (ts : List Term) → (Contains (flat_map variables ts) hole → ⊥) → map (applied s) ts ≡ map (applied ((hole, r) ∷ s)) ts
plain_all s r [] free = refl
plain_all s r (t ∷ ts) free =
    ap (λ u. u ∷ map (applied s) ts) (plain s r t (λ c. free (Contains-append_left (variables t) (flat_map variables ts) hole c)))
    ∙ ap (λ us. applied ((hole, r) ∷ s) t ∷ us) (plain_all s r ts (λ c. free (Contains-append_right (variables t) (flat_map variables ts) hole c)))

pub leads_itself_all : (th : Theory) (ts : List Term) → LeadsAll th ts ts
leads_itself_all th [] = tt
leads_itself_all th (t ∷ ts) = (leads_itself th t, leads_itself_all th ts)

module _ (th : Theory) (weigh : Term → ℕ) (light : Lightens th weigh) (s : List (Variable × Term)) where
  abbrev Placed : Term → Type 0
  Placed l = (v : Term) → (Contains (variables l) hole → ⊥) → Reduces th (applied s l) v → Below th s l v ⊎ At th s l v

  -- in the first member
  first_below : (t : Term) (ts : List Term) (u : Term) → Below th s t u → BelowAll th s (t ∷ ts) (u ∷ map (applied s) ts)
  first_below t ts u b = record {
    var = b.var;
    to = b.to;
    occurs = Contains-append_left (variables t) (flat_map variables ts) b.var b.occurs;
    reduces = b.reduces;
    leads = (b.leads, spread_all th s b.var b.to (step (image s b.var) b.to b.reduces) ts);
  }

  first_at : (t : Term) (ts : List Term) (u : Term) → (Contains (flat_map variables ts) hole → ⊥) → At th s t u → AtAll th s (t ∷ ts) (u ∷ map (applied s) ts)
  first_at t ts u free a =
      let r : Term = applied a.values a.equation.right in
      record {
        part = a.part;
        around = a.around ∷ ts;
        is = Contains-append_left (map (λ p. (p.0, p.1 ∷ ts)) (holes t)) (map (λ p. (p.0, t ∷ p.1)) (list_holes ts)) (a.part, a.around ∷ ts)
            (map_member (λ (p : Term × Term). (p.0, p.1 ∷ ts)) (holes t) (a.part, a.around) a.is);
        equation = a.equation;
        values = a.values;
        listed = a.listed;
        fits = a.fits;
        same = a.same;
        form = ap (λ x. x ∷ map (applied s) ts) a.form ∙ ap (λ xs. applied ((hole, r) ∷ s) a.around ∷ xs) (plain_all s r ts free);
      }

  -- in the others
  rest_below : (t : Term) (ts us : List Term) → BelowAll th s ts us → BelowAll th s (t ∷ ts) (applied s t ∷ us)
  rest_below t ts us b = record {
    var = b.var;
    to = b.to;
    occurs = Contains-append_right (variables t) (flat_map variables ts) b.var b.occurs;
    reduces = b.reduces;
    leads = (spread th s b.var b.to (step (image s b.var) b.to b.reduces) t, b.leads);
  }

  rest_at : (t : Term) (ts us : List Term) → (Contains (variables t) hole → ⊥) → AtAll th s ts us → AtAll th s (t ∷ ts) (applied s t ∷ us)
  rest_at t ts us free a =
      let r : Term = applied a.values a.equation.right in
      record {
        part = a.part;
        around = t ∷ a.around;
        is = Contains-append_right (map (λ p. (p.0, p.1 ∷ ts)) (holes t)) (map (λ p. (p.0, t ∷ p.1)) (list_holes ts)) (a.part, t ∷ a.around)
            (map_member (λ (p : Term × List Term). (p.0, t ∷ p.1)) (list_holes ts) (a.part, a.around) a.is);
        equation = a.equation;
        values = a.values;
        listed = a.listed;
        fits = a.fits;
        same = a.same;
        form = ap (λ x. x ∷ us) (plain s r t free) ∙ ap (λ xs. applied ((hole, r) ∷ s) t ∷ xs) a.form;
      }

  all_places : (ts : List Term) → Each Placed ts → (us : List Term) → (Contains (flat_map variables ts) hole → ⊥) → ReducesOne th (map (applied s) ts) us → BelowAll th s ts us ⊎ AtAll th s ts us
  all_places [] each us free r = absurd (nothing_reduces th r refl)
  all_places (t ∷ ts) each us free r =
      let own : Contains (variables t) hole → ⊥ = λ c. free (Contains-append_left (variables t) (flat_map variables ts) hole c) in
      let others : Contains (flat_map variables ts) hole → ⊥ = λ c. free (Contains-append_right (variables t) (flat_map variables ts) hole c) in
      elim (cases_one th r) [
        | inl f ↦ subst (λ xs. BelowAll th s (t ∷ ts) xs ⊎ AtAll th s (t ∷ ts) xs) (sym f.form)
            (elim (each.0 f.to own f.reduces) [ inl b ↦ inl (first_below t ts f.to b) | inr a ↦ inr (first_at t ts f.to others a) ])
        | inr f ↦ subst (λ xs. BelowAll th s (t ∷ ts) xs ⊎ AtAll th s (t ∷ ts) xs) (sym f.form)
            (elim (all_places ts each.1 f.to others f.reduces) [ inl b ↦ inl (rest_below t ts f.to b) | inr a ↦ inr (rest_at t ts f.to own a) ])
      ]

  -- a step of an application itself, and one of its arguments
  app_top : (op : Op) (ts : List Term) (v : Term) → Top th (applied s (App op ts)) v → At th s (App op ts) v
  app_top op ts v f = record {
    part = App op ts;
    around = Var hole;
    is = subst (λ ps. Contains ps (App op ts, Var hole)) (sym (holes_app op ts)) (here (App op ts, Var hole) (map (λ p. (p.0, App op p.1)) (list_holes ts)));
    equation = f.equation;
    values = f.values;
    listed = f.listed;
    fits = f.fits;
    same = f.same;
    form = f.form ∙ sym (bound_image s hole (applied f.values f.equation.right));
  }

  app_below : (op : Op) (ts : List Term) (v : Term) (us : List Term) → v ≡ App op us → BelowAll th s ts us → Below th s (App op ts) v
  app_below op ts v us is b =
      let r : List (Variable × Term) = (b.var, b.to) ∷ s in
      record {
        var = b.var;
        to = b.to;
        occurs = in_app op ts b.var b.occurs;
        reduces = b.reduces;
        leads = subst (λ x. Leads th x (applied r (App op ts))) (sym is)
            (subst (Leads th (App op us)) (sym (applied_app r op ts)) (leads_all th op [] us (map (applied r) ts) b.leads));
      }

  app_at : (op : Op) (ts : List Term) (v : Term) (us : List Term) → v ≡ App op us → AtAll th s ts us → At th s (App op ts) v
  app_at op ts v us is a =
      let r : List (Variable × Term) = (hole, applied a.values a.equation.right) ∷ s in
      record {
        part = a.part;
        around = App op a.around;
        is = subst (λ ps. Contains ps (a.part, App op a.around)) (sym (holes_app op ts))
            (behind (App op ts, Var hole) (a.part, App op a.around) (map (λ p. (p.0, App op p.1)) (list_holes ts))
            (map_member (λ (p : Term × List Term). (p.0, App op p.1)) (list_holes ts) (a.part, a.around) a.is));
        equation = a.equation;
        values = a.values;
        listed = a.listed;
        fits = a.fits;
        same = a.same;
        form = is ∙ ap (App op) a.form ∙ sym (applied_app r op a.around);
      }

  pub places : (l v : Term) → (Contains (variables l) hole → ⊥) → Reduces th (applied s l) v → Below th s l v ⊎ At th s l v
  places l v free r =
      by_terms Placed
      (λ x v free r. inl (record {
        var = x;
        to = v;
        occurs = here x [];
        reduces = r;
        leads = subst (Leads th v) (sym (bound_image s x v)) (leads_itself th v);
      }))
      (λ n v free r. absurd (no_name th weigh light r n refl))
      (λ op ts each v free r.
      elim (cases_app th r op (map (applied s) ts) (applied_app s op ts)) [
        | inl f ↦ inr (app_top op ts v f)
        | inr f ↦ elim (all_places ts each f.arguments (λ c. free (in_app op ts hole c)) f.reduces) [
          | inl b ↦ inl (app_below op ts v f.arguments f.form b)
          | inr a ↦ inr (app_at op ts v f.arguments f.form a)
        ]
      ])
      l v free r

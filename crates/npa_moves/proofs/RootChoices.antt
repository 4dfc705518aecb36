-- Each choice of variants is in the list, and its parts are as the aim asks for them.
use Rattle.std.proofs.Common.{◌≡◌, ℕ, ◌+◌, ◌<◌, inl, inr, List, [], ◌∷◌, ◌++◌, map, take, zip, Contains, sym, ◌∙◌, ap, subst}
use Rattle.std.specs.List.{flat_map}
use Rattle.std.proofs.lemmas.List.Elements.{Contains-append_cases}
use Rattle.npa_sorts.specs.Subsorts.{Subsorts, IsAtOrBelow}
use Rattle.npa_term.specs.declared.term.Term.{Term}
use Rattle.npa_term.specs.declared.term.Var.{Var as Variable}
use Rattle.npa_term.specs.Bound.{applied}
use Rattle.npa_term.specs.Parts.{image, least_sort}
use Rattle.npa_term.specs.Same.{Same, SameAll}
use Rattle.npa_term.specs.Variables.{renamed, variables}
use Rattle.npa_term.proofs.Renumbered.{of_member}
use Rattle.npa_sig.specs.declared.protocol.Strand.{Strand}
use Rattle.npa_unify.specs.Branches.{pair_variables}
use Rattle.npa_unify.proofs.Members.{member_cases, nowhere, only_one}
use Rattle.npa_unify.proofs.PairVariables.{first_has, rest_has, second_has}
use Rattle.npa_variants.specs.declared.variant.Variant.{Variant}
use Rattle.npa_variants.specs.StrandVariants.{args_of, messages_of}
use Rattle.npa_variants.specs.Strands.{param_count}
use Rattle.npa_variants.proofs.Members.{of_taken}
use Rattle.npa_variants.proofs.Sound.{map_equal, map_map}
use Rattle.npa_model.specs.declared.aim.Part.TheVariants as part
use Rattle.npa_model.specs.declared.pattern.PStrand.{PStrand}
use Rattle.npa_model.specs.declared.pattern.Pattern.{Pattern}
use Rattle.npa_model.specs.Patterns.{IsTermOf, of_args, of_msgs, of_known, of_unknown}
use Rattle.npa_moves.specs.Leading.{FitsVariables}
use Rattle.npa_moves.specs.Lists.{Made, with_known, with_strand}
use Rattle.npa_moves.specs.Moves.{raised_strand}
use Rattle.npa_moves.specs.RootLeading.{known}
use Rattle.npa_moves.specs.Solving.{AreOneSorted, HasOneSort}
use Rattle.npa_moves.proofs.OtherSteps.{message_member, push_at}
use Rattle.npa_moves.proofs.RootMoves.{agreeing, image_below, pairs_cases, raised, raised_below, raised_new, wide_fits, wide_low, wide_old, wide_one, wide_term, wider, zip_cases, zip_same}

-- the variables of a pair are those of the pairs
left_variable : (ps : List (Term × Term)) (t u : Term) (x : Variable) → Contains ps (t, u) → Contains (variables t) x → Contains (pair_variables ps) x
left_variable [] t u x c d = absurd (nowhere (t, u) c)
left_variable (p ∷ ps) t u x c d = elim (member_cases p (t, u) ps c) [
  | inl is ↦ first_has p ps x (subst (λ (y : Term). Contains (variables y) x) (sym (ap (λ (z : Term × Term). z.0) is)) d)
  | inr e ↦ rest_has p ps x (left_variable ps t u x e d)
]

right_variable : (ps : List (Term × Term)) (t u : Term) (x : Variable) → Contains ps (t, u) → Contains (variables u) x → Contains (pair_variables ps) x
right_variable [] t u x c d = absurd (nowhere (t, u) c)
right_variable (p ∷ ps) t u x c d = elim (member_cases p (t, u) ps c) [
  | inl is ↦ second_has p ps x (subst (λ (y : Term). Contains (variables y) x) (sym (ap (λ (z : Term × Term). z.1) is)) d)
  | inr e ↦ rest_has p ps x (right_variable ps t u x e d)
]

-- one pattern behind another
abbrev pub joined : Pattern → Pattern → Pattern
joined g h = record { strands = g.strands ++ h.strands; known = g.known ++ h.known; unknown = g.unknown ++ h.unknown }

module _ (o : Subsorts) (strands : List Strand) (variants : Strand → List Variant) (sorted : AreOneSorted strands variants) (a : List (Variable × Term)) (vs : List Variable) where
  -- A choice that is made in part: its variables are in a scope of low numbers, and a substitution makes of
  -- it what the parts ask for.
  pub record Grown (scope : List Variable) (m : Made) (σ : List (Variable × Term)) : Type 0 where
    pub low : (v : Variable) → Contains scope v → v.num < m.next
    pub fits : (v : Variable) → Contains scope v → IsAtOrBelow o (least_sort (image σ v)) v.sort
    pub one : HasOneSort scope
    pub terms : (t : Term) (v : Variable) → IsTermOf m.from t → Contains (variables t) v → Contains scope v
    pub pair : (v : Variable) → Contains (pair_variables m.pairs) v → Contains scope v
    pub equal : (t u : Term) → Contains m.pairs (t, u) → Same (applied σ t) (applied σ u)
    pub apart : m.apart ≡ []
    pub own : (v : Variable) → Contains vs v → Contains scope v
    pub same : (v : Variable) → Contains vs v → image σ v ≡ image a v

  -- The terms of an aim are as one substitution has them.
  pub own_terms : (scope : List Variable) (m : Made) (σ : List (Variable × Term)) → Grown scope m σ → (t : Term) → ((v : Variable) → Contains (variables t) v → Contains vs v) → applied σ t ≡ applied a t
  own_terms scope m σ grown t own = agreeing σ a t (λ v c. grown.same v (own v c))

  pub known_grown : (scope : List Variable) (m : Made) (σ : List (Variable × Term)) → Grown scope m σ → (t : Term) → ((v : Variable) → Contains (variables t) v → Contains vs v) → Grown scope (with_known t m) σ
  known_grown scope m σ grown t own = record {
    low = grown.low;
    fits = grown.fits;
    one = grown.one;
    terms = in_scope;
    pair = grown.pair;
    equal = grown.equal;
    apart = grown.apart;
    own = grown.own;
    same = grown.same;
  }
    where
      in_scope : (u : Term) (v : Variable) → IsTermOf (with_known t m).from u → Contains (variables u) v → Contains scope v
      in_scope u v (of_args k p e c) d = grown.terms u v (of_args k p e c) d
      in_scope u v (of_msgs k p e c) d = grown.terms u v (of_msgs k p e c) d
      in_scope u v (of_known c) d = elim (Contains-append_cases m.from.known (t ∷ []) u c) [
        | inl f ↦ grown.terms u v (of_known f) d
        | inr f ↦ grown.own v (own v (subst (λ (x : Term). Contains (variables x) v) (sym (only_one t u f)) d))
      ]
      in_scope u v (of_unknown c) d = grown.terms u v (of_unknown c) d

  module _ (scope : List Variable) (m : Made) (σ : List (Variable × Term)) (grown : Grown scope m σ) (s bar : ℕ) (args : List Term) (role : Strand) (n : ℕ) (v : Variant) (b : List (Variable × Term))
      (own_args : (t : Term) → Contains args t → (x : Variable) → Contains (variables t) x → Contains vs x) (own_one : HasOneSort (flat_map variables v.terms))
      (fitting : FitsVariables o (flat_map variables v.terms) b) (equal_args : SameAll (map (applied a) args) (map (applied b) (args_of role v))) where
    abbrev pub after : List (Variable × Term)
    after = raised o m.next b σ v

    abbrev pub wide : List Variable
    wide = wider o m.next b σ v scope grown.low

    pub old_list : (ts : List Term) → ((t : Term) → Contains ts t → IsTermOf m.from t) → map (applied after) ts ≡ map (applied σ) ts
    old_list ts each = map_equal (applied after) (applied σ) ts (λ t c. raised_below o m.next b σ v t (λ x d. grown.low x (grown.terms t x (each t c) d)))

    pub new_list : (ts : List Term) → ((t : Term) → Contains ts t → Contains v.terms t) → map (applied after) (map (renamed m.next) ts) ≡ map (applied b) ts
    new_list ts each = map_map (renamed m.next) (applied after) ts ∙ map_equal (λ t. applied after (renamed m.next t)) (applied b) ts (λ t c. raised_new o m.next b σ v t (each t c))

    args_list : map (applied after) args ≡ map (applied a) args
    args_list = map_equal (applied after) (applied a) args (λ t c.
        raised_below o m.next b σ v t (λ x d. grown.low x (grown.own x (own_args t c x d)))
        ∙ own_terms scope m σ grown t (own_args t c))

    same_args : SameAll (map (applied after) args) (map (applied after) (map (renamed m.next) (args_of role v)))
    same_args = subst (λ (ts : List Term). SameAll ts (map (applied after) (map (renamed m.next) (args_of role v)))) (sym args_list)
        (subst (λ (ts : List Term). SameAll (map (applied a) args) ts) (sym (new_list (args_of role v) (λ t c. of_taken (param_count role) v.terms t c))) equal_args)

    pair_wide : (x : Variable) → Contains (pair_variables (with_strand s bar args role n v m).pairs) x → Contains wide x
    pair_wide x c = elim (pairs_cases m.pairs (zip args (map (renamed m.next) (args_of role v))) x c) [
      | inl d ↦ wide_old o m.next b σ v scope grown.low x (grown.pair x d)
      | inr d ↦ elim (zip_cases args (map (renamed m.next) (args_of role v)) x d) [
        | inl e ↦ let t = of_member args x e in wide_old o m.next b σ v scope grown.low x (grown.own x (own_args t.0 t.1 x t.2))
        | inr e ↦
            let t = of_member (map (renamed m.next) (args_of role v)) x e in
            wide_term o m.next b σ v scope grown.low (args_of role v) (λ u f. of_taken (param_count role) v.terms u f) t.0 x t.1 t.2
      ]
    ]

    pair_same : (t u : Term) → Contains (with_strand s bar args role n v m).pairs (t, u) → Same (applied after t) (applied after u)
    pair_same t u c = elim (Contains-append_cases m.pairs (zip args (map (renamed m.next) (args_of role v))) (t, u) c) [
      | inl d ↦
          subst (λ (x : Term). Same x (applied after u)) (sym (raised_below o m.next b σ v t (λ x e. grown.low x (grown.pair x (left_variable m.pairs t u x d e)))))
          (subst (λ (x : Term). Same (applied σ t) x) (sym (raised_below o m.next b σ v u (λ x e. grown.low x (grown.pair x (right_variable m.pairs t u x d e))))) (grown.equal t u d))
      | inr d ↦ zip_same (applied after) (applied after) args (map (renamed m.next) (args_of role v)) same_args t u d
    ]

    strand_wide : (t : Term) (x : Variable) → IsTermOf (with_strand s bar args role n v m).from t → Contains (variables t) x → Contains wide x
    strand_wide t x (of_args k p e c) d = elim (push_at m.from.strands (raised_strand m.next s role v bar) p k e) [
      | inl there ↦ wide_old o m.next b σ v scope grown.low x (grown.terms t x (of_args k p there c) d)
      | inr is ↦ wide_term o m.next b σ v scope grown.low (args_of role v) (λ u f. of_taken (param_count role) v.terms u f) t x (subst (λ (y : PStrand). Contains y.args t) (sym is) c) d
    ]
    strand_wide t x (of_msgs k p e c) d = elim (push_at m.from.strands (raised_strand m.next s role v bar) p k e) [
      | inl there ↦ wide_old o m.next b σ v scope grown.low x (grown.terms t x (of_msgs k p there c) d)
      | inr is ↦ wide_term o m.next b σ v scope grown.low (take bar (messages_of role v)) (λ u f. message_member role v u (of_taken bar (messages_of role v) u f)) t x (subst (λ (y : PStrand). Contains y.msgs t) (sym is) c) d
    ]
    strand_wide t x (of_known c) d = wide_old o m.next b σ v scope grown.low x (grown.terms t x (of_known c) d)
    strand_wide t x (of_unknown c) d = wide_old o m.next b σ v scope grown.low x (grown.terms t x (of_unknown c) d)

    pub strand_grown : Grown wide (with_strand s bar args role n v m) after
    strand_grown = record {
      low = wide_low o m.next b σ v scope grown.low;
      fits = wide_fits o m.next b σ v scope grown.low grown.fits fitting;
      one = wide_one o m.next b σ v scope grown.low grown.one own_one;
      terms = strand_wide;
      pair = pair_wide;
      equal = pair_same;
      apart = grown.apart;
      own = λ x c. wide_old o m.next b σ v scope grown.low x (grown.own x c);
      same = λ x c. image_below o m.next b σ v x (grown.low x (grown.own x c)) ∙ grown.same x c;
    }

-- The numbers that the variables of a result get.
use Rattle.std.proofs.Common.{◌≡◌, ℕ, zero, suc, ◌+◌, ◌<◌, ◌≤◌, inl, inr, true, false, cond, Option, Some, unwrap_or, List, [], ◌∷◌, ◌++◌, append-nil, length, slice_get, Contains, refl, sym, ◌∙◌, ap, subst, arith}
use Rattle.std.specs.List.{flat_map}
use Rattle.std.proofs.lemmas.Grind.{flat_map-append}
use Rattle.std.proofs.lemmas.List.{append_assoc, length-append}
use Rattle.std.proofs.lemmas.List.Elements.{Contains-append_left}
use Rattle.std.proofs.lemmas.Option.{none-some, same_Some, slice_get_within}
use Rattle.npa_term.specs.declared.term.Term.{Term, Var, App}
use Rattle.npa_term.specs.declared.term.Var.{Var as Variable}
use Rattle.npa_term.specs.Bound.{applied, same_var, value_of}
use Rattle.npa_term.specs.Numbering.{anew, is_listed, numbered, once_after, variables_once}
use Rattle.npa_term.specs.Parts.{image}
use Rattle.npa_term.specs.Symbols.{all_count, symbol_count}
use Rattle.npa_term.specs.Variables.{variables}
use Rattle.npa_term.proofs.Equality.{var_equal, var_itself}
use Rattle.npa_term.proofs.Induction.{Each, by_terms}
use Rattle.npa_term.proofs.Numbered.{once_after-append}
use Rattle.npa_term.proofs.Parts.{only_member}
use Rattle.npa_term.proofs.Renumbered.{among_once, from_variable}
use Rattle.npa_term.proofs.Rows.{symbol_count_at, variables_at}
use Rattle.npa_unify.proofs.Members.{member_cases, nowhere}
use Rattle.npa_variants.proofs.Forms.{canonical_variables}
use Rattle.npa_variants.proofs.Members.{cond_false, cond_true}
use Rattle.npa_model.specs.declared.pattern.PStrand.{PStrand}
use Rattle.npa_model.specs.declared.pattern.Pattern.{Pattern}
use Rattle.npa_model.specs.Patterns.{IsTermOf, pattern_symbols, strand_symbols}
use Rattle.npa_moves.specs.Finishing.{Draft, instance_of, new_numbers, pattern_terms, strand_terms}
use Rattle.npa_moves.proofs.Completing.{in_terms}

-- ## The place of a variable is its number

pub record IsPlaced (k : ℕ) (vs : List Variable) (v : Variable) : Type 0 where
  pub place : ℕ
  pub there : slice_get vs place ≡ Some v
  pub bound : value_of (numbered k vs) v ≡ Some (Var (anew (k + place) v))

pub placed : (k : ℕ) (vs : List Variable) (v : Variable) → Contains vs v → IsPlaced k vs v
placed k [] v c = absurd (nowhere v c)
placed k (w ∷ vs) v c =
    elim (same_var w v) as (λ b. same_var w v ≡ b → IsPlaced k (w ∷ vs) v) [
      | true ↦ λ e. record {
        place = zero;
        there = ap Some (var_equal w v e);
        bound = cond_true (same_var w v) (Some (Var (anew k w))) (value_of (numbered (k + 1) vs) v) e
            ∙ ap (λ (x : Variable). Some (Var (anew k x))) (var_equal w v e)
            ∙ ap (λ n. Some (Var (anew n v))) (let n : k ≡ k + zero = omega arith in n);
      }
      | false ↦ λ e. elim (member_cases w v vs c) [
        | inl is ↦ absurd (falsely (sym (ap (same_var w) is ∙ e) ∙ var_itself w))
        | inr d ↦
            let rest = placed (k + 1) vs v d in
            record {
              place = suc rest.place;
              there = rest.there;
              bound = cond_false (same_var w v) (Some (Var (anew k w))) (value_of (numbered (k + 1) vs) v) e
                  ∙ rest.bound
                  ∙ ap (λ n. Some (Var (anew n v))) (let n : k + 1 + rest.place ≡ k + suc rest.place = omega arith in n);
            }
      ]
    ] refl
  where
    falsely : false ≡ true → ⊥
    falsely e = cc

-- what is numbered in front has the same number in the whole list
numbered_front : (k : ℕ) (vs ws : List Variable) (v : Variable) (t : Term) → value_of (numbered k vs) v ≡ Some t → value_of (numbered k (vs ++ ws)) v ≡ Some t
numbered_front k [] ws v t = λ e. absurd (none-some t e)
numbered_front k (x ∷ vs) ws v t =
    elim (same_var x v) as (λ b. cond b (Some (Var (anew k x))) (value_of (numbered (k + 1) vs) v) ≡ Some t → cond b (Some (Var (anew k x))) (value_of (numbered (k + 1) (vs ++ ws)) v) ≡ Some t) [
      | true ↦ λ e. e
      | false ↦ λ e. numbered_front (k + 1) vs ws v t e
    ]

-- ## Variables that were seen come first

once_extends : (seen vs : List Variable) → (more : List Variable) × (once_after seen vs ≡ seen ++ more)
once_extends seen [] = ([], sym (append-nil seen))
once_extends seen (v ∷ vs) =
    elim (is_listed seen v) as (λ b. (more : List Variable) × (cond b (once_after seen vs) (once_after (seen ++ v ∷ []) vs) ≡ seen ++ more)) [
      | true ↦ once_extends seen vs
      | false ↦ let rest = once_extends (seen ++ v ∷ []) vs in (v ∷ rest.0, rest.1 ∙ append_assoc seen (v ∷ []) rest.0)
    ]

once_length : (seen vs : List Variable) → length (once_after seen vs) ≤ length seen + length vs
once_length seen [] = omega arith
once_length seen (v ∷ vs) =
    elim (is_listed seen v) as (λ b. length (cond b (once_after seen vs) (once_after (seen ++ v ∷ []) vs)) ≤ length seen + suc (length vs)) [
      | true ↦ let rest : length (once_after seen vs) ≤ length seen + length vs = once_length seen vs in omega (arith, rest)
      | false ↦
          let rest : length (once_after (seen ++ v ∷ []) vs) ≤ length (seen ++ v ∷ []) + length vs = once_length (seen ++ v ∷ []) vs in
          let more : length (seen ++ v ∷ []) ≡ length seen + 1 = length-append seen (v ∷ []) in
          omega (arith, rest, more)
    ]

-- ## There are no more variables than symbols

each_counted : (ts : List Term) → Each (λ t. length (variables t) ≤ symbol_count t) ts → length (flat_map variables ts) ≤ all_count ts
each_counted [] each = omega arith
each_counted (t ∷ ts) each =
    let first : length (variables t) ≤ symbol_count t = each.0 in
    let rest : length (flat_map variables ts) ≤ all_count ts = each_counted ts each.1 in
    let whole : length (variables t ++ flat_map variables ts) ≡ length (variables t) + length (flat_map variables ts) = length-append (variables t) (flat_map variables ts) in
    omega (arith, first, rest, whole)

variables_counted : (t : Term) → length (variables t) ≤ symbol_count t
variables_counted =
    by_terms (λ t. length (variables t) ≤ symbol_count t) (λ v. omega arith) (λ n. omega arith)
    (λ op ts each.
    let inside : length (variables (App op ts)) ≡ length (flat_map variables ts) = ap length (variables_at (App op ts) op ts refl) in
    let rest : length (flat_map variables ts) ≤ all_count ts = each_counted ts each in
    let count : symbol_count (App op ts) ≡ 1 + all_count ts = symbol_count_at (App op ts) op ts refl in
    omega (arith, inside, rest, count))

all_variables_counted : (ts : List Term) → length (flat_map variables ts) ≤ all_count ts
all_variables_counted [] = omega arith
all_variables_counted (t ∷ ts) =
    let first : length (variables t) ≤ symbol_count t = variables_counted t in
    let rest : length (flat_map variables ts) ≤ all_count ts = all_variables_counted ts in
    let whole : length (variables t ++ flat_map variables ts) ≡ length (variables t) + length (flat_map variables ts) = length-append (variables t) (flat_map variables ts) in
    omega (arith, first, rest, whole)

joined_count : (ts us : List Term) → all_count (ts ++ us) ≡ all_count ts + all_count us
joined_count [] us = omega arith
joined_count (t ∷ ts) us = let rest : all_count (ts ++ us) ≡ all_count ts + all_count us = joined_count ts us in omega (arith, rest)

strands_count : (ps : List PStrand) → all_count (flat_map strand_terms ps) ≡ strand_symbols ps
strands_count [] = omega arith
strands_count (p ∷ ps) =
    let whole : all_count (strand_terms p ++ flat_map strand_terms ps) ≡ all_count (strand_terms p) + all_count (flat_map strand_terms ps) = joined_count (strand_terms p) (flat_map strand_terms ps) in
    let first : all_count (p.args ++ p.msgs) ≡ all_count p.args + all_count p.msgs = joined_count p.args p.msgs in
    let rest : all_count (flat_map strand_terms ps) ≡ strand_symbols ps = strands_count ps in
    omega (arith, whole, first, rest)

pattern_count : (g : Pattern) → all_count (pattern_terms g) ≡ pattern_symbols g
pattern_count g =
    let whole : all_count (pattern_terms g) ≡ all_count (flat_map strand_terms g.strands) + all_count (g.known ++ g.unknown) = joined_count (flat_map strand_terms g.strands) (g.known ++ g.unknown) in
    let facts : all_count (g.known ++ g.unknown) ≡ all_count g.known + all_count g.unknown = joined_count g.known g.unknown in
    let strands : all_count (flat_map strand_terms g.strands) ≡ strand_symbols g.strands = strands_count g.strands in
    omega (arith, whole, facts, strands)

-- ## The numbers of a draft

module _ (d : Draft) where
  pub own_variables : List Variable
  own_variables = variables_once (pattern_terms d.pattern)

  own_length : length own_variables ≤ pattern_symbols d.pattern
  unfolding own_variables
  own_length =
      let once : length (variables_once (pattern_terms d.pattern)) ≤ 0 + length (flat_map variables (pattern_terms d.pattern)) = once_length [] (flat_map variables (pattern_terms d.pattern)) in
      let few : length (flat_map variables (pattern_terms d.pattern)) ≤ all_count (pattern_terms d.pattern) = all_variables_counted (pattern_terms d.pattern) in
      let count : all_count (pattern_terms d.pattern) ≡ pattern_symbols d.pattern = pattern_count d.pattern in
      omega (arith, once, few, count)

  own_first : (more : List Variable) × (variables_once (pattern_terms d.pattern ++ d.values) ≡ own_variables ++ more)
  unfolding own_variables
  own_first =
      let terms = pattern_terms d.pattern in
      let rest = once_extends (variables_once terms) (flat_map variables d.values) in
      (rest.0, ap (once_after []) (flat_map-append variables terms d.values) ∙ once_after-append [] (flat_map variables terms) (flat_map variables d.values) ∙ rest.1)

  -- A new variable of the pattern has the number of an old one's place, and its sort.
  pub record IsNew (v : Variable) : Type 0 where
    pub old : Variable
    pub there : slice_get own_variables v.num ≡ Some old
    pub same_sort : v.sort ≡ old.sort

  pub new_small : (v : Variable) → IsNew v → v.num < pattern_symbols d.pattern
  new_small v new = let within : v.num < length own_variables = slice_get_within own_variables v.num new.old new.there in omega (arith, within, own_length)

  pub new_sorted : (v w : Variable) → IsNew v → IsNew w → v.num ≡ w.num → v.sort ≡ w.sort
  new_sorted v w a b e =
      let same : a.old ≡ b.old = same_Some a.old b.old (sym a.there ∙ ap (slice_get own_variables) e ∙ b.there) in
      a.same_sort ∙ ap (λ (x : Variable). x.sort) same ∙ sym b.same_sort

  numbered_new : (w : Variable) → Contains own_variables w → (v : Variable) → image (new_numbers d) w ≡ Var v → IsNew v
  numbered_new w c v is =
      let p = placed 0 own_variables w c in
      let front = numbered_front 0 own_variables own_first.0 w (Var (anew (0 + p.place) w)) p.bound in
      let value : value_of (new_numbers d) w ≡ Some (Var (anew (0 + p.place) w)) = ap (λ (vs : List Variable). value_of (numbered 0 vs) w) own_first.1 ∙ front in
      let image_is : Var (anew (0 + p.place) w) ≡ Var v = sym (ap (λ (o : Option Term). unwrap_or o (Var w)) value) ∙ is in
      let same : anew (0 + p.place) w ≡ v = same_variable (anew (0 + p.place) w) v image_is in
      let num : p.place ≡ v.num = (let zero_less : p.place ≡ 0 + p.place = omega arith in zero_less) ∙ ap (λ (x : Variable). x.num) same in
      record { old = w; there = ap (slice_get own_variables) (sym num) ∙ p.there; same_sort = sym (ap (λ (x : Variable). x.sort) same) }
    where
      same_variable : (x y : Variable) → Var x ≡ Var y → x ≡ y
      same_variable x y e = cc

  -- so it is with the variables of the pattern in new numbers
  pub new_variable : (t : Term) (v : Variable) → IsTermOf d.pattern t → Contains (variables (instance_of (new_numbers d) t)) v → IsNew v
  unfolding own_variables
  new_variable t v there c =
      let from = from_variable (new_numbers d) v t (canonical_variables (applied (new_numbers d) t) v c) in
      let own = among_once (pattern_terms d.pattern) t (in_terms d.pattern t there) from.0 from.1 in
      let p = placed 0 (variables_once (pattern_terms d.pattern ++ d.values)) from.0 (listed from.0 own) in
      let is : image (new_numbers d) from.0 ≡ Var (anew (0 + p.place) from.0) = ap (λ (o : Option Term). unwrap_or o (Var from.0)) p.bound in
      let same : anew (0 + p.place) from.0 ≡ v = only_member (anew (0 + p.place) from.0) v (subst (λ (x : Term). Contains (variables x) v) is from.2) in
      numbered_new from.0 own v (is ∙ ap Var same)
    where
      listed : (w : Variable) → Contains own_variables w → Contains (variables_once (pattern_terms d.pattern ++ d.values)) w
      listed w c = subst (λ (vs : List Variable). Contains vs w) (sym own_first.1) (Contains-append_left own_variables own_first.0 w c)

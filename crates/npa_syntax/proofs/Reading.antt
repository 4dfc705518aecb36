-- The steps of the reader at places of the list of terminals and of the list of parts.
use Rattle.std.proofs.Common.{◌≡◌, ℕ, ◌+◌, ◌<◌, ◌≤◌, true, false, cond, List, [], ◌∷◌, ◌++◌, map, length, drop, get_or, refl, sym, ap, ◌∙◌, subst, subst₂, drop-cons, add-one, add-zero, drop_of_length-le, arith, Err}
use Rattle.npa_syntax.specs.declared.production.Occurrence.{Occurrence}
use Rattle.npa_syntax.specs.declared.production.Occurrence.TheVariants.{Once, Optional, Repeated}
use Rattle.npa_syntax.specs.declared.production.Part.{Part}
use Rattle.npa_syntax.specs.declared.node.Terminal.{Terminal}
use Rattle.npa_syntax.specs.declared.node.Node.{Node}
use Rattle.npa_syntax.specs.declared.opening.Opening.{Opening}
use Rattle.npa_syntax.specs.declared.fault.ReadFault.{ReadFault}
use Rattle.npa_syntax.specs.declared.fault.ReadFault.TheVariants.{Syntax, NoMemory}
use Rattle.npa_syntax.specs.Grammars.{Rules, is_needed, is_repeated, leaving, tree}
use Rattle.npa_syntax.specs.Tables.{piece}
use Rattle.npa_syntax.specs.Automata.{Pending, CantBegin, passed_by}
use Rattle.npa_syntax.specs.Openings.{OpensBy}
use Rattle.npa_syntax.specs.Answers.{ReadsBetween, StuckAt, ReadsOrStops}
use Rattle.npa_syntax.proofs.Steps.{pending_skip, pending_take, pending_last, stuck_here, stuck_below}

at_part : {A : Type 0} (xs : List A) (i : ℕ) (d : A) → i < length xs → drop i xs ≡ get_or xs i d ∷ drop (i + 1) xs
at_part xs i d h = drop-cons xs i d h ∙ ap (λ n. get_or xs i d ∷ drop n xs) (sym (add-one i))

module _ (rules : Rules) (room : ℕ) (parts : List Part) (ts : List Terminal) (from : ℕ) (nodes : List Node) (next at : ℕ) (d : Part)
    (along : next < length parts)
    (before : Pending rules (map (piece room) parts) (map (piece room) (drop next parts)) (drop from ts) nodes (drop at ts)) where
  cons_parts : map (piece room) (drop next parts) ≡ piece room (get_or parts next d) ∷ map (piece room) (drop (next + 1) parts)
  cons_parts = ap (λ xs. map (piece room) xs) (at_part parts next d along)

  before_cons : Pending rules (map (piece room) parts) (piece room (get_or parts next d) ∷ map (piece room) (drop (next + 1) parts)) (drop from ts) nodes (drop at ts)
  before_cons = subst (λ qs. Pending rules (map (piece room) parts) qs (drop from ts) nodes (drop at ts)) cons_parts before

  -- a part that can't begin is left out
  pub left_out : is_needed (get_or parts next d).occurs ≡ false → CantBegin rules (piece room (get_or parts next d)) (drop at ts)
      → Pending rules (map (piece room) parts) (map (piece room) (drop (next + 1) parts)) (drop from ts) nodes (drop at ts)
  left_out needed cant = pending_skip rules (map (piece room) parts) (piece room (get_or parts next d)) (map (piece room) (drop (next + 1) parts))
      (drop from ts) nodes (drop at ts) before_cons needed cant

  -- a needed part that can't begin is the fault
  pub fault_at : from ≤ at → at ≤ length ts → is_needed (get_or parts next d).occurs ≡ true → CantBegin rules (piece room (get_or parts next d)) (drop at ts)
      → StuckAt rules (map (piece room) parts) ts from at
  fault_at forward within needed cant = record {
    forward = forward;
    within = within;
    stuck = stuck_here rules (map (piece room) parts) (piece room (get_or parts next d)) (map (piece room) (drop (next + 1) parts))
        (drop from ts) nodes (drop at ts) before_cons needed cant;
  }

  leaving_at : leaving (piece room (get_or parts next d)) (map (piece room) (drop (next + 1) parts))
      ≡ map (piece room) (drop (next + passed_by (get_or parts next d).occurs) parts)
  leaving_at =
      elim ((get_or parts next d).occurs) as (λ o. cond (is_repeated o) (piece room (get_or parts next d) ∷ map (piece room) (drop (next + 1) parts)) (map (piece room) (drop (next + 1) parts))
      ≡ map (piece room) (drop (next + passed_by o) parts)) [
        | Once ↦ refl
        | Optional ↦ refl
        | Repeated ↦ sym cons_parts ∙ ap (λ n. map (piece room) (drop n parts)) (sym (add-zero next))
      ]

  module _ (o : Opening) (opens : OpensBy rules (piece room (get_or parts next d)) ts at o) where
    before_next : Pending rules (map (piece room) parts) (piece room (get_or parts next d) ∷ map (piece room) (drop (next + 1) parts)) (drop from ts) nodes
        (o.head ∷ drop (at + 1) ts)
    before_next = subst (λ xs. Pending rules (map (piece room) parts) (piece room (get_or parts next d) ∷ map (piece room) (drop (next + 1) parts)) (drop from ts) nodes xs)
        opens.next before_cons

    -- a part that begins is taken
    pub taken_at : (kids : List Node) (end k : ℕ) (grown : List Node) → ReadsBetween rules (map (piece o.room) o.parts.now) ts (at + 1) kids end
        → k ≡ passed_by (get_or parts next d).occurs
        → grown ≡ nodes ++ tree (piece room (get_or parts next d)).nonterminal o.head kids ∷ []
        → Pending rules (map (piece room) parts) (map (piece room) (drop (next + k) parts)) (drop from ts) grown (drop end ts)
    taken_at kids end k grown inner passed is =
        let after = pending_take rules (map (piece room) parts) (piece room (get_or parts next d)) (map (piece room) (drop (next + 1) parts)) (drop from ts) nodes
        o.head (drop (at + 1) ts) (map (piece o.room) o.parts.now) kids (drop end ts) before_next opens.begins inner.reads in
        subst₂ (λ qs ns. Pending rules (map (piece room) parts) qs (drop from ts) ns (drop end ts))
        (leaving_at ∙ ap (λ n. map (piece room) (drop (next + n) parts)) (sym passed)) (sym is) after

    -- a fault inside a part that begins is the fault
    pub fault_inside : from ≤ at → (place : ℕ) → StuckAt rules (map (piece o.room) o.parts.now) ts (at + 1) place
        → StuckAt rules (map (piece room) parts) ts from place
    fault_inside forward place inner = record {
      forward = omega (arith, forward, inner.forward);
      within = inner.within;
      stuck = stuck_below rules (map (piece room) parts) (piece room (get_or parts next d)) (map (piece room) (drop (next + 1) parts)) (drop from ts) nodes
          o.head (drop (at + 1) ts) (map (piece o.room) o.parts.now) (drop place ts) before_next opens.begins inner.stuck;
    }

    pub fault_passed : from ≤ at → (fault : ReadFault) → ReadsOrStops rules (map (piece o.room) o.parts.now) ts (at + 1) (Err fault)
        → ReadsOrStops rules (map (piece room) parts) ts from (Err fault)
    fault_passed forward (Syntax place) inner = fault_inside forward place inner
    fault_passed forward NoMemory inner = tt

-- with no part to come, the parts are read
pub all_read : (rules : Rules) (room : ℕ) (parts : List Part) (ts : List Terminal) (from : ℕ) (nodes : List Node) (next at : ℕ)
    → from ≤ at → at ≤ length ts → length parts ≤ next
    → Pending rules (map (piece room) parts) (map (piece room) (drop next parts)) (drop from ts) nodes (drop at ts)
    → ReadsBetween rules (map (piece room) parts) ts from nodes at
all_read rules room parts ts from nodes next at forward within past before = record {
  forward = forward;
  within = within;
  reads = pending_last rules (map (piece room) parts) (drop from ts) nodes (drop at ts)
      (subst (λ qs. Pending rules (map (piece room) parts) qs (drop from ts) nodes (drop at ts)) (ap (λ xs. map (piece room) xs) (drop_of_length-le parts past)) before);
}

-- the parts that are done with are not more than there are
pub passed_along : (o : Occurrence) (next n k : ℕ) → next < n → k ≡ passed_by o → next + k ≤ n
passed_along Once next n k h e = omega arith
passed_along Optional next n k h e = omega arith
passed_along Repeated next n k h e = omega arith

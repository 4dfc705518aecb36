-- How a list holds its members, so that a type may reach itself through a list of its own values.
-- Contracts see a list as its members, so its shape is that of the plain list.
use mathlib.Core.Path.{◌≡◌, refl, sym}
use mathlib.Core.List.{List as ListOf, []}
use mathlib.Core.Former.{Former, this, list, via, children}
use base.Stored.{code_map}
use denote.RattleType.{RattleType}
use denote.HoleLaws.{Alike}
use denote.HolePlaces.{Recodes, struct_places, laid}
use denote.Hole.Carrier.{listed, list-listed}
use denote.Hole.Fix.{over}
use denote.Param.Weighed.{Weighed, w_list}
use denote.Model.Placed.{view_places}
use Rattle.std.specs.formers.vec.Vec as vec
use Rattle.std.specs.declared.alloc.Global.{Global}
use Rattle.std.specs.contracts.alloc.Global as heap
use Rattle.std.specs.contracts.impls.GlobalAllocator.TheImpl.{ghosts}
use Rattle.npa_list.specs.declared.list.List.TheInside.{Inside}
use Rattle.npa_list.specs.declared.list.List.TheView.{view, invariant}
use Rattle.npa_list.specs.contracts.list.List as whole
use Rattle.npa_list.specs.contracts.list.List.TheInside as inside

abbrev pub the_former : Former {0} → Former {0}
the_former member = list member

abbrev pub the_weighed : {member : Former {0}} → Weighed member → Weighed (the_former member)
the_weighed weight = w_list weight

pub the_empty : ListOf ⊥
the_empty = []

abbrev pub the_items : (X : Type 0) → ListOf X → ListOf X
the_items X members = members

pub the_items_listed : (X : Type 0) (members : ListOf X) → listed _ (children (the_former this) X members) ≡ the_items X members
the_items_listed X members = list-listed X members

-- the one field, a vector
abbrev stored : Former {0}
stored = via (vec.the_former this Global) Inside (λ X l. l.members) (λ X v. record { members = v }) (λ X l. refl) (λ X v. refl)

module _ (From To : RattleType) (along : From.Denot → To.Denot) where
  pub the_places : Alike From To along → Alike (whole.the_row From) (whole.the_row To) ((the_former this).map From.Denot To.Denot along)
  the_places same = view_places stored (list this) view (λ X Y k u. refl) (λ X u. refl)
      From.Denot To.Denot along (whole.the_row From).coded (whole.the_row To).coded
      (invariant From.Denot) (invariant To.Denot) (λ u p q. refl) (λ u p q. refl) (λ u e. tt) (λ u e. tt)
      (over (inside.the_row From)) (over (inside.the_row To))
      (struct_places (inside.the_type From) (inside.the_type To) (vec.mapped along, tt) _ (λ d. refl) refl
      (laid _ _ _ (vec.the_places heap.the_row ghosts From To along same), tt))

  pub the_codes_placed : Recodes From To along → Recodes (whole.the_row From) (whole.the_row To) ((the_former this).map From.Denot To.Denot along)
  the_codes_placed recoded members = sym (code_map From.coded.code To.coded.code along (λ x. sym (recoded x)) members)

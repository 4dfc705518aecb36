-- What the items of a module have declared so far, and what a name stands for among them.
use Rattle.std.specs.Prelude.{ℕ, List, [], ◌∷◌, ◌++◌, Option, codes, is_none, if◌then◌else◌}
use Rattle.npa_names.specs.Names.{place_of}
use Rattle.npa_sig.specs.declared.protocol.Equation.{Equation}
use Rattle.npa_sig.specs.declared.protocol.Strand.{Strand}
use Rattle.npa_sig.specs.declared.signature.OpDecl.{OpDecl}
use Rattle.npa_sig.specs.Signature.{Signature, bare, with_op, with_subsort, with_sort as sig_with_sort}
use Rattle.npa_model.specs.declared.aim.Aim.{Aim}
use Rattle.npa_module.specs.declared.draft.Draft.{Draft}
use Rattle.npa_module.specs.declared.draft.Rest.{Rest}
use Rattle.npa_module.specs.declared.draft.StrandSpace.{StrandSpace}
use Rattle.npa_module.specs.declared.draft.AimSpace.{AimSpace}

-- Msg and Fresh alone
abbrev pub nothing : Draft
nothing = record {
  sig = bare;
  sorts = codes "Msg" ∷ codes "Fresh" ∷ [];
  equations = [];
  strands = record { list = []; names = []; params = [] };
  aims = record { list = []; names = [] };
}

-- the number of the sort of a name: Msg is 0, Fresh is 1, and the declared sorts follow in order
abbrev pub sort_number : List (List ℕ) → List ℕ → Option ℕ
sort_number sorts name = place_of name sorts

-- the number of the strand of a name
abbrev pub strand_number : List (List ℕ) → List ℕ → Option ℕ
strand_number strands name = place_of name strands

-- a table of names and further ones, each once
abbrev pub given : List (List ℕ) → List (List ℕ) → List (List ℕ)
given table [] = table
given table (n ∷ ns) = given (if is_none (place_of n table) then table ++ n ∷ [] else table) ns

-- what is declared beside the signature
abbrev pub rest_of : Draft → Rest
rest_of d = record { sorts = d.sorts; equations = d.equations; strands = d.strands; aims = d.aims }

-- a signature and what is declared beside it
abbrev pub joined : Signature → Rest → Draft
joined sig rest = record { sig = sig; sorts = rest.sorts; equations = rest.equations; strands = rest.strands; aims = rest.aims }

-- ## What a declaration adds

abbrev pub with_sig : Draft → Signature → Draft
with_sig d sig = record d { sig = sig }

abbrev pub with_sort : Draft → List ℕ → Draft
with_sort d name = record d { sig = sig_with_sort d.sig name; sorts = d.sorts ++ name ∷ [] }

abbrev pub with_pair : Draft → ℕ → ℕ → Draft
with_pair d lower upper = record d { sig = with_subsort d.sig lower upper }

abbrev pub with_operator : Draft → OpDecl → Draft
with_operator d decl = record d { sig = with_op d.sig decl }

abbrev pub with_equation : Draft → Equation → Draft
with_equation d equation = record d { equations = d.equations ++ equation ∷ [] }

-- a strand, with its name and those of its variables and fresh values
abbrev pub strand_added : StrandSpace → Strand → StrandSpace
strand_added space strand = record { list = space.list ++ strand ∷ []; names = space.names ++ strand.name ∷ []; params = given space.params strand.names }

abbrev pub with_strand : Draft → Strand → Draft
with_strand d strand = record d { strands = strand_added d.strands strand }

abbrev pub aim_added : AimSpace → Aim → AimSpace
aim_added space aim = record { list = space.list ++ aim ∷ []; names = space.names ++ aim.name ∷ [] }

abbrev pub with_aim : Draft → Aim → Draft
with_aim d aim = record d { aims = aim_added d.aims aim }

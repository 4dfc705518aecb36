use Rattle.std.proofs.Common.{◌≡◌, drop}
use Rattle.npa_module.specs.Drafts.{given}
use Rattle.npa_module.proofs.draft.give_names.Given as goal

abbrev pub invariant-loop-name : goal.invariant-loop-name
invariant-loop-name l = given l.table (drop l.name-index l.names) ≡ given l.fn.table l.names

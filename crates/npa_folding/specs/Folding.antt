-- The rules by which the patterns of a backwards search are folded: which covers which, and which are
-- initial (folding variant narrowing: Escobar, Sasse, Meseguer 2012).
use Rattle.std.specs.Prelude.{Bool, cond, ◌&&◌, Result, Ok, List, []}
use Rattle.fold_core.specs.declared.error.Large.{Large}
use Rattle.fold_core.specs.Rules.{Rules}
use Rattle.npa_sig.specs.declared.protocol.Protocol.{Protocol}
use Rattle.npa_model.specs.declared.pattern.Pattern.{Pattern}
use Rattle.npa_model.specs.Fitting.{is_fit}
use Rattle.npa_subsume.specs.Testing.{covers_test, initial_test}
use Rattle.npa_folding.specs.Equality.{equal_pattern}

-- Whether a pattern covers another in a search. A pattern that doesn't fit the protocol, which no search
-- makes, covers itself alone.
unfoldable pub covers_item : Protocol → Pattern → Pattern → Bool
covers_item protocol t s =
    cond (is_fit protocol t && is_fit protocol s) (covers_test protocol.sig.sorts t s) (equal_pattern t s)

-- What a pattern expands to, where these are the children of those that fit the protocol. One that doesn't
-- fit has none.
unfoldable pub expansion_with : (Protocol → Pattern → Result (List Pattern) Large) → Protocol → Pattern → Result (List Pattern) Large
expansion_with children protocol p = cond (is_fit protocol p) (children protocol p) (Ok [])

-- The rules of a search over a protocol, where these are the children.
abbrev pub rules_with : (Protocol → Pattern → Result (List Pattern) Large) → Protocol → Rules Pattern
rules_with children protocol = record {
  covers = covers_item protocol;
  initial = initial_test;
  expansion = expansion_with children protocol;
}

-- The faults of a text.
use Rattle.std.specs.Prelude.{◌≡◌, List, Option, Some, Result, Ok, Err}
use Rattle.npa_text.specs.declared.fault.TextFault.{TextFault}
use Rattle.npa_text.specs.declared.fault.TextFault.TheVariants.{Syntax, NoMemory}
use Rattle.npa_text.specs.declared.place.Place.{Place}
use Rattle.npa_text.specs.declared.token.Token.{Token}

-- a syntax fault is answered at this place, and at no other; want of memory may come at any time
abbrev pub IsFaultOf : TextFault → Option Place → Type 0
IsFaultOf (Syntax line col) place = place ≡ Some (record { line = line; col = col })
IsFaultOf NoMemory place = Unit {0}

-- these tokens are the answer, unless memory was wanting
abbrev pub GivesTokens : Result (List Token) TextFault → List Token → Type 0
GivesTokens (Ok us) ts = us ≡ ts
GivesTokens (Err (Syntax line col)) ts = ⊥
GivesTokens (Err NoMemory) ts = Unit {0}

-- The theory of a protocol.
use Rattle.npa_sig.specs.declared.protocol.Protocol.{Protocol}
use Rattle.npa_rewrite.specs.declared.theory.Theory.{Theory}

-- the theory of a protocol: its operators and its equations
abbrev pub theory_of : Protocol → Theory
theory_of protocol = record { sig = protocol.sig; equations = protocol.equations }

use Rattle.npa_accept.proofs.Firsts.{IsApartUpTo}
use Rattle.npa_accept.proofs.trying.first_equation.Given as goal

abbrev pub invariant-loop-i : goal.invariant-loop-i
invariant-loop-i l = IsApartUpTo l.th l.t l.i

use mathlib.Core.Path.{◌≡◌}
use lib.ListN.{take}
use Rattle.rules.specs.Layout.{pairs}
use Rattle.rules.specs.Faults.{pair_among}
use Rattle.faults.proofs.pair.is_pair_among.Given as goal

abbrev pub invariant-loop-i : goal.invariant-loop-i
invariant-loop-i l = l.found ≡ pair_among l.issuer l.subject (pairs (take l.i l.issuers) (take l.i l.subjects))

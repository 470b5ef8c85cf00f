-- The invariant: the policy was found if it is among the values before.
use mathlib.Core.Path.{◌≡◌}
use lib.ListN.{take}
use Rattle.rules.specs.Sets.{◌∈◌}
use Rattle.faults.proofs.is_among.Given as goal

abbrev pub invariant-loop-value : goal.invariant-loop-value
invariant-loop-value l = l.found ≡ l.policy ∈ take l.value-index l.values

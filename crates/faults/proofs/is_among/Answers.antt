-- `faults::is_among` meets its contract.
use mathlib.Core.Bool.{◌||◌}
use mathlib.Core.Path.{refl, sym, ap, ◌∙◌}
use native.Mathlib.Omega.{arith}
use lib.Dec.{eqb}
use lib.ListN.{get_or}
use Rattle.rules.specs.Sets.{◌∈◌}
use Rattle.faults.proofs.Laws.{seen_more}
use Rattle.faults.proofs.is_among.Goals as goal

pub loop-value-init : goal.loop-value-init
unfolding ◌∈◌
loop-value-init c = refl

pub loop-value-preserved : goal.loop-value-preserved
loop-value-preserved c =
    let a = c.args in
    let i = c.loop-value.value-index in
    ap (λ found. found || eqb a.policy (get_or a.values.now i 0)) c.loop-value.invariant ∙ sym (seen_more a.policy i a.values.now (omega arith))

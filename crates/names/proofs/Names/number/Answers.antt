use Rattle.names.proofs.Turns.{turn_next, turn_last}
use Rattle.names.proofs.Names.number.Goals as goal

pub loop-policy-preserved : goal.loop-policy-preserved
loop-policy-preserved g c =
    turn_next c.loop-policy.invariant c.loop-policy-test.true c.place_of.ensures.place c.place_of.ensures.names_after

pub returns-clause-list_after : goal.returns-clause-list_after
returns-clause-list_after g c = (turn_last c.loop-policy.invariant c.loop-policy-test.false).0

pub returns-clause-names_after : goal.returns-clause-names_after
returns-clause-names_after g c = (turn_last c.loop-policy.invariant c.loop-policy-test.false).1

-- The value, and the skip value that its content says.
use Rattle.policy_constraints.proofs.Cases.{no_value, a_skip, no_skip}
use Rattle.policy_constraints.proofs.read_skip.Goals as goal

pub returns-in_default : goal.returns-in_default
returns-in_default c = no_value _ _ c.in_default.ensures

pub returns-in-Some-skip_value : goal.returns-in-Some-skip_value
returns-in-Some-skip_value c = a_skip _ _ _ c.in-Some.ensures _ c.in-Some-skip_value.ensures

pub returns-in-None : goal.returns-in-None
returns-in-None c = no_skip _ _ _ c.in-Some.ensures c.in-None.ensures

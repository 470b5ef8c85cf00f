-- What is left of the list, numbered from the names as they are, gives the whole.
use Rattle.names.proofs.Turns.{Turn}
use Rattle.names.proofs.Names.number.Given as goal

abbrev pub invariant-loop-policy : goal.invariant-loop-policy
invariant-loop-policy g l = Turn l.initial.list l.initial.self l.list l.self l.policy-index

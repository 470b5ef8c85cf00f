-- `k` is 0 or a place of the policy's slot, and the policy has no place above it.
use lib.ListN.{length}
use Rattle.names.proofs.Search.{Searched}
use Rattle.names.proofs.Names.find.Given as goal

abbrev pub invariant-loop-k : goal.invariant-loop-k
invariant-loop-k g l = Searched l.self-inside.names (length l.self-inside.heads) l.self-inside.used l.policy l.k

abbrev pub decreases-loop-k : goal.decreases-loop-k
decreases-loop-k g l = l.k

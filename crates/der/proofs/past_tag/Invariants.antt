-- The invariant: what follows the tag in what is left follows it in all. What is left falls.
use mathlib.Core.Path.{◌≡◌}
use lib.ListN.{length}
use Rattle.extension_rules.specs.Der.{past_tag}
use Rattle.der.proofs.past_tag.Given as goal

abbrev pub invariant-loop-first : goal.invariant-loop-first
invariant-loop-first l = past_tag l.left ≡ past_tag l.s

abbrev pub decreases-loop-first : goal.decreases-loop-first
decreases-loop-first l = length l.left

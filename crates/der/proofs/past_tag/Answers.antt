-- `der::past_tag` meets its contract.
use mathlib.Core.Path.{sym, ◌∙◌}
use native.Mathlib.Omega.{arith}
use Rattle.der.proofs.Laws.{past_tag_none, past_tag_last, past_tag_on}
use Rattle.der.proofs.past_tag.Goals as goal

pub returns-then-first-lt128 : goal.returns-then-first-lt128
returns-then-first-lt128 c = sym (past_tag_last c.in-Some.ensures.cases.0 (omega arith)) ∙ c.loop-first.invariant

pub loop-first-preserved : goal.loop-first-preserved
loop-first-preserved c = sym (past_tag_on c.in-Some.ensures.cases.0 (omega arith)) ∙ c.loop-first.invariant

pub returns : goal.returns
returns c = sym (past_tag_none c.loop-first.left.now c.in_default.ensures.cases) ∙ c.loop-first.invariant

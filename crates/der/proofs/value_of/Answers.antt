-- `der::value_of` meets its contract, by cases of the first octet.
use mathlib.Core.Path.{sym, ap, ◌∙◌}
use native.Mathlib.Omega.{arith}
use Rattle.der.specs.Values.{read_of}
use Rattle.der.proofs.Laws.{value_none, value_other, value_tagged}
use Rattle.der.proofs.value_of.Goals as goal

pub returns-in_err-first : goal.returns-in_err-first
returns-in_err-first c = ap read_of c.from_residual.ensures ∙ sym (value_none c.args.tag c.args.s.now c.in_err-first.ensures.cases)

pub returns-then-first-tag : goal.returns-then-first-tag
returns-then-first-tag c = sym (value_other c.in_ok-first.ensures.cases.0 c.args.tag (λ e. omega arith))

pub returns : goal.returns
returns c = c.measured.ensures ∙ sym (value_tagged c.in_ok-first.ensures.cases.0 c.args.tag (omega arith))

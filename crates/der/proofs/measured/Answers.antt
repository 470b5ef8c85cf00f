-- `der::measured` meets its contract, by cases of the length's first octet.
use mathlib.Core.Path.{sym, ap, ◌∙◌}
use native.Mathlib.Omega.{arith}
use Rattle.der.specs.Values.{read_of}
use Rattle.der.proofs.Laws.{measured_none, measured_short, measured_long}
use Rattle.der.proofs.measured.Goals as goal

pub returns-in_err-octet : goal.returns-in_err-octet
returns-in_err-octet c = ap read_of c.from_residual.ensures ∙ sym (measured_none c.args.s.now c.in_err-octet.ensures.cases)

pub returns-then-octet-lt128 : goal.returns-then-octet-lt128
returns-then-octet-lt128 c = c.content_of.ensures ∙ measured_short c.in_ok-octet.ensures.cases.0 c.from.ensures (omega arith)

pub returns : goal.returns
returns c = c.long_form.ensures ∙ measured_long c.in_ok-octet.ensures.cases.0 c.from-2.ensures (omega arith)

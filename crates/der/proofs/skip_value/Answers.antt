-- `der::skip_value` meets its contract, by cases of the first two octets and of how many there are.
use native.Mathlib.Omega.{arith}
use Rattle.der.proofs.Laws.{skip_none, skip_negative, skip_one, skip_large, skip_padded, skip_two, skip_long}
use Rattle.der.proofs.skip_value.Goals as goal

pub returns-in-empty : goal.returns-in-empty
returns-in-empty c = skip_none c.args.s.now (omega arith)

pub returns-in-len1-up : goal.returns-in-len1-up
returns-in-len1-up c = skip_negative c.args.s.now (omega arith)

pub returns-in-len1 : goal.returns-in-len1
returns-in-len1 c = skip_one c.args.s.now (omega arith) (omega arith)

pub returns-in-len1-up-2 : goal.returns-in-len1-up-2
returns-in-len1-up-2 c = skip_large c.args.s.now (omega arith) (omega arith) (λ e. omega arith)

pub returns-in-len2-up : goal.returns-in-len2-up
returns-in-len2-up c = skip_padded c.args.s.now (omega arith) (omega arith) (omega arith)

pub returns-in-len2 : goal.returns-in-len2
returns-in-len2 c = skip_two c.args.s.now (omega arith) (omega arith) (omega arith) (omega (arith, c.type_inv.s 1))

pub returns-in_default : goal.returns-in_default
returns-in_default c = skip_long c.args.s.now (omega arith) (omega arith) (omega arith)

-- What the code's answers stand for: a value at the start of some octets, or none; a skip value as the number that a record has for it, or 0 where there
-- is none.
use Rattle.std.specs.Prelude.{ℕ, suc, Option, Some, None}
use Rattle.rules.specs.Numbers as Numbers
use Rattle.der.specs.declared.Value.{Value}
use Rattle.extension_rules.specs.Outcomes.{Outcome, fault, fine}
use Rattle.extension_rules.specs.Der.{Part}

abbrev pub read_of : Option Value → Outcome Part
read_of None = fault Numbers.not_der
read_of (Some v) = fine (record { content = v.content.now; rest = v.rest.now })

abbrev pub skip_said : Option ℕ → ℕ
skip_said None = 0
skip_said (Some n) = suc n

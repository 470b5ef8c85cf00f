-- `der::any_value` meets its contract: the length follows the tag.
use mathlib.Core.Path.{◌∙◌}
use Rattle.der.proofs.Laws.{any_value_is}
use Rattle.der.proofs.any_value.Goals as goal

pub returns : goal.returns
returns c = c.measured.ensures ∙ any_value_is c.args.s.now c.untagged.ensures

-- The number of what was read: 256 times the places, or the refusal's.
use Rattle.std.specs.Prelude.{ℕ, ◌*◌}
use Rattle.std.specs.declared.result.Result.{Result}
use Rattle.std.specs.declared.result.Result.TheVariants.{Ok, Err}
use Rattle.rules.specs.declared.Refusal.{Refusal}
use Rattle.rules.specs.Refusals.{number_of}

abbrev pub number_answered : Result ℕ Refusal → ℕ
number_answered (Ok places) = 256 * places
number_answered (Err refusal) = number_of refusal

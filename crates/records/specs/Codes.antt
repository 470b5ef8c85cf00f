-- A length, or the refusal in its place, as one number for C.
use Rattle.std.specs.Prelude.{ℕ, ◌*◌}
use Rattle.std.specs.declared.result.Result.{Result}
use Rattle.std.specs.declared.result.Result.TheVariants.{Ok, Err}
use Rattle.rules.specs.declared.Refusal.{Refusal}
use Rattle.rules.specs.Refusals.{number_of}

-- the refusal's number, or 256 times the length
abbrev pub code_of : Result ℕ Refusal → ℕ
code_of (Ok length) = 256 * length
code_of (Err refusal) = number_of refusal

-- The number of each failure, of what may fail, 0 where it does not, and of each verdict.
use Rattle.std.specs.Prelude.{ℕ}
use Rattle.std.specs.declared.result.Result.{Result}
use Rattle.std.specs.declared.result.Result.TheVariants.{Ok, Err}
use Rattle.rules.specs.declared.Failure.{Failure}
use Rattle.rules.specs.declared.Failure.TheVariants.{NoGraph, AnyMapped, UserEmpty}
use Rattle.rules.specs.declared.Verdict.{Verdict}
use Rattle.rules.specs.declared.Verdict.TheVariants.{Valid, Refused, Failed}
use Rattle.rules.specs.Numbers as Numbers
use Rattle.rules.specs.Refusals.{number_of}

abbrev pub failure_number : Failure → ℕ
failure_number NoGraph = Numbers.no_graph
failure_number AnyMapped = Numbers.any_mapped
failure_number UserEmpty = Numbers.user_empty

abbrev pub failure_of : {A : Type 0} → Result A Failure → ℕ
failure_of (Ok _) = 0
failure_of (Err failure) = failure_number failure

abbrev pub verdict_number : Verdict → ℕ
verdict_number Valid = Numbers.valid
verdict_number (Refused refusal) = number_of refusal
verdict_number (Failed failure) = failure_number failure

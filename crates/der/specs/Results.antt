-- What a reading gives as a Result: the value as `says` reads it, or the refusal's number.
use Rattle.std.specs.declared.result.Result.{Result}
use Rattle.std.specs.declared.result.Result.TheVariants.{Ok, Err}
use Rattle.rules.specs.declared.Refusal.{Refusal}
use Rattle.rules.specs.Refusals.{number_of}
use Rattle.extension_rules.specs.Outcomes.{Outcome, fault, fine}

abbrev pub outcome_of : {A B : Type 0} → (A → B) → Result A Refusal → Outcome B
outcome_of says (Ok value) = fine (says value)
outcome_of says (Err refusal) = fault (number_of refusal)

-- A refusal that `?` passes on, as an outcome.
use mathlib.Core.Path.{◌≡◌, ap}
use Rattle.std.specs.declared.result.Result.{Result}
use Rattle.std.specs.declared.result.Result.TheVariants.{Ok, Err}
use Rattle.std.specs.Result.{IsErrAnd}
use Rattle.rules.specs.declared.Refusal.{Refusal}
use Rattle.rules.specs.Refusals.{number_of}
use Rattle.extension_rules.specs.Outcomes.{Outcome, fault}
use Rattle.der.specs.Results.{outcome_of}

pub outcome_passed : {A B : Type 0} (says : A → B) (r : Result A Refusal) (e : Refusal) → IsErrAnd r (λ f. f ≡ e) → outcome_of says r ≡ fault (number_of e)
outcome_passed says (Ok _) e h = absurd h
outcome_passed says (Err _) e h = ap (λ f. fault (number_of f)) h

-- Laws of what may be refused, and of what may fail: what `?` passes on, and that no refusal and no failure has the number 0.
use Prim.Native.Nat.{ℕ}
use mathlib.Core.Path.{◌≡◌, ap}
use native.Mathlib.Omega.{arith}
use Rattle.std.specs.declared.result.Result.{Result}
use Rattle.std.specs.declared.result.Result.TheVariants.{Ok, Err}
use Rattle.std.specs.Result.{IsErrAnd}
use Rattle.rules.specs.declared.Refusal.{Refusal}
use Rattle.rules.specs.declared.Refusal.TheVariants.{SheetEnds, WrongEdition, WrongCount, PolicyZero, PolicyRepeats, NotAtEnd, TableShort, PairRepeats, NotDer, RegisterFull, IdentifierLong, RegisterBad}
use Rattle.rules.specs.declared.Failure.{Failure}
use Rattle.rules.specs.declared.Failure.TheVariants.{NoGraph, AnyMapped, UserEmpty}
use Rattle.rules.specs.Refusals.{number_of, fault_of}
use Rattle.rules.specs.Verdicts.{failure_number, failure_of}

-- a refusal that `?` passes on
pub passed_on : {A : Type 0} (r : Result A Refusal) (e : Refusal) → IsErrAnd r (λ f. f ≡ e) → fault_of r ≡ number_of e
passed_on (Ok _) e h = absurd h
passed_on (Err _) e h = ap number_of h

pub number_nonzero : (e : Refusal) → number_of e ≡ 0 → ⊥
number_nonzero SheetEnds h = omega (arith, h)
number_nonzero WrongEdition h = omega (arith, h)
number_nonzero WrongCount h = omega (arith, h)
number_nonzero PolicyZero h = omega (arith, h)
number_nonzero PolicyRepeats h = omega (arith, h)
number_nonzero NotAtEnd h = omega (arith, h)
number_nonzero TableShort h = omega (arith, h)
number_nonzero PairRepeats h = omega (arith, h)
number_nonzero NotDer h = omega (arith, h)
number_nonzero RegisterFull h = omega (arith, h)
number_nonzero IdentifierLong h = omega (arith, h)
number_nonzero RegisterBad h = omega (arith, h)

-- a failure that `?` passes on
pub failed_on : {A : Type 0} (r : Result A Failure) (e : Failure) → IsErrAnd r (λ f. f ≡ e) → failure_of r ≡ failure_number e
failed_on (Ok _) e h = absurd h
failed_on (Err _) e h = ap failure_number h

pub failure_nonzero : (e : Failure) → failure_number e ≡ 0 → ⊥
failure_nonzero NoGraph h = omega (arith, h)
failure_nonzero AnyMapped h = omega (arith, h)
failure_nonzero UserEmpty h = omega (arith, h)

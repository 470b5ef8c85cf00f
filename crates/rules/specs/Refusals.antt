-- The number of each refusal, and of what may be refused: 0 where it is not.
use Rattle.std.specs.Prelude.{ℕ}
use Rattle.std.specs.declared.result.Result.{Result}
use Rattle.std.specs.declared.result.Result.TheVariants.{Ok, Err}
use Rattle.rules.specs.declared.Refusal.{Refusal}
use Rattle.rules.specs.declared.Refusal.TheVariants.{SheetEnds, WrongEdition, WrongCount, PolicyZero, PolicyRepeats, NotAtEnd, TableShort, PairRepeats, NotDer, RegisterFull, IdentifierLong, RegisterBad}
use Rattle.rules.specs.Numbers as Numbers

abbrev pub number_of : Refusal → ℕ
number_of SheetEnds = Numbers.sheet_ends
number_of WrongEdition = Numbers.wrong_edition
number_of WrongCount = Numbers.wrong_count
number_of PolicyZero = Numbers.policy_zero
number_of PolicyRepeats = Numbers.policy_repeats
number_of NotAtEnd = Numbers.not_at_end
number_of TableShort = Numbers.table_short
number_of PairRepeats = Numbers.pair_repeats
number_of NotDer = Numbers.not_der
number_of RegisterFull = Numbers.register_full
number_of IdentifierLong = Numbers.identifier_long
number_of RegisterBad = Numbers.register_bad

abbrev pub fault_of : {A : Type 0} → Result A Refusal → ℕ
fault_of (Ok _) = 0
fault_of (Err refusal) = number_of refusal

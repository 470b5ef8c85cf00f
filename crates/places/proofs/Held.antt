-- The certificates of a record of places are whole.
use Prim.Native.Nat.{ℕ, ◌+◌, ◌<◌}
use mathlib.Core.List.{List}
use mathlib.Core.Path.{◌≡◌, subst⁻¹, ap, ◌∙◌}
use lib.ListN.{drop}
use Rattle.record.specs.Record.{size}
use Rattle.record.specs.Unpacked.{unpacked_certificate}
use Rattle.record.specs.Whole.{Whole}
use Rattle.record.proofs.Whole.{stands_whole}
use Rattle.names.specs.Places.{at}
use Rattle.places.specs.Numbered.{Numbered}

pub whole_at : {rec starts names : List ℕ} (N : Numbered rec starts names) (i : ℕ) → i < at rec 0 → {k : ℕ} → k ≡ at starts i → Whole (drop k rec)
whole_at {rec} {starts} N i h e = subst⁻¹ (λ j. Whole (drop j rec)) e (stands_whole rec (at starts i) (N.held i h).stands)

-- where the certificate after the one at place k starts
pub next_place : (rec numbers : List ℕ) (k n : ℕ) → n ≡ size (unpacked_certificate numbers) → numbers ≡ drop k rec → k + n ≡ k + size (unpacked_certificate (drop k rec))
next_place rec numbers k n s d = ap (λ m. k + m) (s ∙ ap (λ xs. size (unpacked_certificate xs)) d)

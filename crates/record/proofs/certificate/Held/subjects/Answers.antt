-- The part that the pair count says, after the issuers.
use Prim.Native.Nat.{◌+◌, ◌-◌}
use mathlib.Core.Path.{◌≡◌, sym, ap₂, ◌∙◌}
use native.Mathlib.Omega.{arith}
use lib.ListN.{take, drop, get_or}
use Rattle.record.proofs.Whole.{whole_subjects}
use Rattle.record.proofs.certificate.Held.subjects.Goals as goal

pub returns : goal.returns
returns c =
    let held = c.args.self.now in
    let xs = held.numbers.now in
    let first : 6 + c.from.result + c.from-pairs.result ≡ 6 + get_or xs 1 0 + get_or xs 2 0 = omega arith in
    let count : 6 + c.from.result + c.from-pairs.result + c.from-pairs.result - (6 + c.from.result + c.from-pairs.result) ≡ get_or xs 2 0 = omega arith in
    ap₂ (λ n k. take n (drop k xs)) count first ∙ sym (whole_subjects xs held.whole)

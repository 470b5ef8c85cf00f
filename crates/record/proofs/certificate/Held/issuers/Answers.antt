-- The part that the pair count says, after the policies.
use Prim.Native.Nat.{◌+◌, ◌-◌}
use mathlib.Core.Path.{◌≡◌, sym, ap₂, ◌∙◌}
use native.Mathlib.Omega.{arith}
use lib.ListN.{take, drop, get_or}
use Rattle.record.proofs.Whole.{whole_issuers}
use Rattle.record.proofs.certificate.Held.issuers.Goals as goal

pub returns : goal.returns
returns c =
    let held = c.args.self.now in
    let xs = held.numbers.now in
    let first : 6 + c.from-first.result ≡ 6 + get_or xs 1 0 = omega arith in
    let count : 6 + c.from-first.result + c.from.result - (6 + c.from-first.result) ≡ get_or xs 2 0 = omega arith in
    ap₂ (λ n k. take n (drop k xs)) count first ∙ sym (whole_issuers xs held.whole)

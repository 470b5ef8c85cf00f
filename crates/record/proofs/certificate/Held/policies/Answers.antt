-- The part that the policy count says, after the head.
use Prim.Native.Nat.{◌+◌, ◌-◌}
use mathlib.Core.Path.{◌≡◌, ap}
use native.Mathlib.Omega.{arith}
use lib.ListN.{take, drop, get_or}
use Rattle.record.specs.Unpacked.{unpacked_certificate}
use Rattle.record.proofs.certificate.Held.policies.Goals as goal

pub returns : goal.returns
unfolding unpacked_certificate
returns c =
    let xs = c.args.self.now.numbers.now in
    let count : 6 + c.from-end.result - 6 ≡ get_or xs 1 0 = omega arith in
    ap (λ n. take n (drop 6 xs)) count

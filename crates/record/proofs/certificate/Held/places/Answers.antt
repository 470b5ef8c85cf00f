-- The head, the policies, the issuers and the subjects.
use native.Mathlib.Omega.{arith}
use Rattle.record.proofs.Whole.{whole_size}
use Rattle.record.proofs.certificate.Held.places.Goals as goal

pub returns : goal.returns
returns c = omega (arith, whole_size c.args.self.now.numbers.now c.args.self.now.whole)

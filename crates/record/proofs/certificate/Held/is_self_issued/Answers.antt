-- A flag that is not 0 is set.
use Rattle.record.specs.Unpacked.{unpacked_certificate}
use Rattle.record.proofs.Unpacked.{flag_is}
use Rattle.record.proofs.certificate.Held.is_self_issued.Goals as goal

pub returns : goal.returns
unfolding unpacked_certificate
returns c = flag_is _

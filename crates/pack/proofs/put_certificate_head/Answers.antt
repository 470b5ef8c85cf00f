-- `pack::put_certificate_head` meets its contract: the six numbers of a certificate's head, copied.
use Rattle.record.proofs.Put.{puts_same}
use Rattle.pack.proofs.Stored.{certificate_head_is}
use Rattle.pack.proofs.put_certificate_head.Goals as goal

pub returns : goal.returns
returns c = puts_same (certificate_head_is c.args.c.now c.from.ensures c.skip_number.ensures c.skip_number-2.ensures c.skip_number-3.ensures) c.copy.ensures

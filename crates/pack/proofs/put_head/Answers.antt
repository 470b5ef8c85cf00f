-- `pack::put_head` meets its contract: the five numbers of the path's head, copied.
use Rattle.record.proofs.Put.{puts_same}
use Rattle.pack.proofs.Stored.{head_is}
use Rattle.pack.proofs.put_head.Goals as goal

pub returns : goal.returns
returns c = puts_same (head_is c.args.path.now c.from.ensures c.from-2.ensures c.from-3.ensures) c.copy.ensures

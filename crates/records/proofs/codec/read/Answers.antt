-- `read` meets its contract: a short record first, then what reading into a record that is long enough gives.
use Rattle.records.proofs.Sheets.{read_short}
use Rattle.records.proofs.codec.read.Goals as goal

pub returns-then-lent-lt-RECORD-clause-recorded : goal.returns-then-lent-lt-RECORD-clause-recorded
returns-then-lent-lt-RECORD-clause-recorded c =
    read_short _ _ c.if-lent-lt-RECORD.true

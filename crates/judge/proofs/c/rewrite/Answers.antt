-- `rewrite` gives the sheet back: a short buffer first, then by a record with room for its path.
use Rattle.judge.proofs.Rewrite.{short}
use Rattle.judge.proofs.c.rewrite.Goals as goal

pub returns-then-buffer-lt-SHEET_BYTES-clause-rewritten : goal.returns-then-buffer-lt-SHEET_BYTES-clause-rewritten
returns-then-buffer-lt-SHEET_BYTES-clause-rewritten c =
    short _ _ c.if-buffer-lt-SHEET_BYTES.true

-- `write` meets its contract: a short buffer first, then the record's refusal, then the sheet of the record's path.
use native.Mathlib.Omega.{arith}
use mathlib.Core.Path.{sym}
use Rattle.accept.proofs.Sound.{sound_path}
use Rattle.accept.proofs.Given.{given_near, given_most}
use Rattle.records.proofs.Codes.{code_passed_on}
use Rattle.records.proofs.Sheets.{write_short, write_refused}
use Rattle.records.proofs.codec.write.Goals as goal

pub returns-then-buffer-lt-SHEET_BYTES-clause-written : goal.returns-then-buffer-lt-SHEET_BYTES-clause-written
returns-then-buffer-lt-SHEET_BYTES-clause-written c =
    write_short _ _ c.if-buffer-lt-SHEET_BYTES.true

pub returns-in_err-record_fault-clause-written : goal.returns-in_err-record_fault-clause-written
returns-in_err-record_fault-clause-written c =
    write_refused _ _ c.if-buffer-lt-SHEET_BYTES.false _ (code_passed_on _ _ c.from_residual.ensures.1) c.in_err-record_fault.ensures

pub bounds-given-0 : goal.bounds-given-0
bounds-given-0 c =
    omega (arith, (sound_path _ (sym c.in_ok-record_fault.ensures)).room)

pub write_in-requires-clause-path_fits : goal.write_in-requires-clause-path_fits
write_in-requires-clause-path_fits c =
    omega (arith, given_near _ (sym c.in_ok-record_fault.ensures), c.if-from-le-NEAR_CERTIFICATES.true)

pub write_in-requires-else-from-le-NEAR_CERTIFICATES-clause-path_fits : goal.write_in-requires-else-from-le-NEAR_CERTIFICATES-clause-path_fits
write_in-requires-else-from-le-NEAR_CERTIFICATES-clause-path_fits c =
    given_most _ (sym c.in_ok-record_fault.ensures)

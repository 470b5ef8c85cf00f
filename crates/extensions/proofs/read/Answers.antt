-- `extensions::read` meets its contract: 7, then 20, then the values' first refusal, or the certificate and the register.
use mathlib.Core.Path.{◌≡◌, sym, ap, ◌∙◌}
use native.Mathlib.Omega.{arith}
use lib.ListN.{length}
use Rattle.std.proofs.lemmas.Result.{IfOk-at_ok}
use Rattle.laws.proofs.Refused.{number_nonzero}
use Rattle.extension_rules.specs.Outcomes.{fine}
use Rattle.identify.specs.Known.{known}
use Rattle.der.specs.Results.{outcome_of}
use Rattle.extensions.specs.Gathering.{certificate_of}
use Rattle.extension_laws.proofs.Outcomes.{when_yes, when_no}
use Rattle.extensions.proofs.Certificates.{certificate_size}
use Rattle.extensions.proofs.Whole.{register_short, certificate_short, refusal, reading, placed, placed_size, passed_number}
use Rattle.extensions.proofs.read.Goals as goal
use Rattle.extensions.proofs.read.Goals.{then-reg-lt-REGISTER_BYTES-via-then-reg-lt-REGISTER_BYTES, then-reg-lt-REGISTER_BYTES-via-else-reg-lt-REGISTER_BYTES+then-certificate-lt-CERTIFICATE_PLACES}

pub returns-then-reg-lt-REGISTER_BYTES-clause-fact : goal.returns-then-reg-lt-REGISTER_BYTES-clause-fact
returns-then-reg-lt-REGISTER_BYTES-clause-fact c =
    elim c.then-reg-lt-REGISTER_BYTES.branch [
      | then-reg-lt-REGISTER_BYTES-via-then-reg-lt-REGISTER_BYTES w ↦ sym (register_short _ _ _ _ _ _ _ w.if-reg-lt-REGISTER_BYTES.true)
      | then-reg-lt-REGISTER_BYTES-via-else-reg-lt-REGISTER_BYTES+then-certificate-lt-CERTIFICATE_PLACES w ↦ sym (certificate_short _ _ _ _ _ _ _ w.if-certificate-lt-CERTIFICATE_PLACES.true)
    ]

pub returns-then-not-is_register-clause-fact : goal.returns-then-not-is_register-clause-fact
returns-then-not-is_register-clause-fact c =
    refusal _ _ _ _ _ _ _ (omega arith) (omega arith) _ _ (λ e. omega arith) c.clear_certificate.ensures (when_no _ _ (sym c.is_register.ensures ∙ c.if-not-is_register.true))

pub returns-in_err-skips-clause-fact : goal.returns-in_err-skips-clause-fact
returns-in_err-skips-clause-fact c =
    passed_number _ _ c.from_residual.ensures.1
    (refusal _ _ _ _ _ _ _ (omega arith) (omega arith) _ _ (number_nonzero _) c.clear_certificate.ensures
    (when_yes _ _ (sym c.is_register.ensures ∙ c.if-not-is_register.false) ∙ sym (c.gather.ensures.gathered c.args.own) ∙ ap (outcome_of _) c.in_err-skips.was))

pub returns-clause-few_places : goal.returns-clause-few_places
returns-clause-few_places c =
    let full = IfOk-at_ok _ c.in_ok-skips.was c.gather.ensures.full in
    let ps = c.as_slice.result.now in
    let is = c.issuers.result.now in
    let ss = c.subjects.result.now in
    let paired : length ss ≡ length is = omega (arith, ap length c.subjects.ensures.places, ap length c.issuers.ensures.places, c.subjects.ensures.paired) in
    let size = certificate_size c.in_ok-skips.skips c.args.own ps is ss paired (omega (arith, ap length c.as_slice.ensures.places, full.few_policies)) (omega (arith, ap length c.issuers.ensures.places, full.few_pairs)) in
    omega (arith, placed_size _ _ _ _ c.put_certificate-places.ensures, size)

pub returns-clause-fact : goal.returns-clause-fact
returns-clause-fact c =
    let full = IfOk-at_ok _ c.in_ok-skips.was c.gather.ensures.full in
    let ps = c.as_slice.result.now in
    let is = c.issuers.result.now in
    let ss = c.subjects.result.now in
    let paired : length ss ≡ length is = omega (arith, ap length c.subjects.ensures.places, ap length c.issuers.ensures.places, c.subjects.ensures.paired) in
    let size = certificate_size c.in_ok-skips.skips c.args.own ps is ss paired (omega (arith, ap length c.as_slice.ensures.places, full.few_policies)) (omega (arith, ap length c.issuers.ensures.places, full.few_pairs)) in
    reading _ _ _ _ _ _ _ (omega arith) (omega arith) _ c.gather.new.f _ _ _ (sym c.is_register.ensures ∙ c.if-not-is_register.false)
    (sym (c.gather.ensures.gathered c.args.own)
    ∙ ap (outcome_of _) c.in_ok-skips.was
    ∙ (λ i. fine (record { certificate = certificate_of c.in_ok-skips.skips c.args.own (sym c.as_slice.ensures.places i) (sym c.issuers.ensures.places i) (sym c.subjects.ensures.places i); known = known c.args.reg.now c.gather.new.f })))
    (placed_size _ _ _ _ c.put_certificate-places.ensures)
    c.enter_fresh.ensures
    (placed _ _ c.args.certificate.now _ _ c.clear_certificate.ensures size c.put_certificate-places.ensures)

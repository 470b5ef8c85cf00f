-- `pack::certificate` meets its contract: each part is that of the certificate that stands there.
use mathlib.Core.Path.{refl, ap, ◌∙◌}
use native.Mathlib.Omega.{arith}
use Rattle.record.specs.Record.{skip_number}
use Rattle.pack.proofs.Made.{number_back, made_certificate}
use Rattle.pack.proofs.certificate.Goals as goal

pub skip-requires : goal.skip-requires
skip-requires c = omega (arith, number_back c.require_explicit.result, ap skip_number c.require_explicit.ensures, c.requires.require_explicit)

pub skip-requires-2 : goal.skip-requires-2
skip-requires-2 c = omega (arith, number_back c.inhibit_mapping.result, ap skip_number c.inhibit_mapping.ensures, c.requires.inhibit_mapping)

pub skip-requires-3 : goal.skip-requires-3
skip-requires-3 c = omega (arith, number_back c.inhibit_any.result, ap skip_number c.inhibit_any.ensures, c.requires.inhibit_any)

pub returns : goal.returns
returns c =
    made_certificate _ c.is_self_issued.ensures c.policies-policies.ensures c.issuers-issuers.ensures c.subjects-subjects.ensures refl c.listed.ensures refl c.listed-2.ensures c.listed-3.ensures
    (c.skip.ensures ∙ c.require_explicit.ensures)
    (c.skip-2.ensures ∙ c.inhibit_mapping.ensures)
    (c.skip-3.ensures ∙ c.inhibit_any.ensures)

-- `extensions::certificate::clear_certificate` meets its contract: a part filled with zeros.
use mathlib.Core.List.{◌++◌}
use mathlib.Core.Path.{ap, ◌∙◌}
use lib.ListN.{drop, replicate}
use lib.Seq.{length-take-le}
use Rattle.extension_rules.specs.Face.{certificate_places}
use Rattle.extensions.proofs.certificate.clear_certificate.Goals as goal

pub returns : goal.returns
returns c =
    ap (λ z. z ++ drop certificate_places c.args.certificate.now) (c.fill.ensures.after (λ y e. e) ∙ ap (λ n. replicate n 0) (length-take-le certificate_places c.args.certificate.now c.requires))

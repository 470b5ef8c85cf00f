-- The answer that says a verdict alone. Of a refusal it is rules/Face.refused_answer, by computation.
use Rattle.std.specs.Prelude.{replicate}
use Rattle.rules.specs.declared.Answer.{Answer}
use Rattle.rules.specs.declared.Verdict.{Verdict}
use Rattle.rules.specs.Limits as Limits

-- place 0, every count 0, every counter 0
abbrev pub refused_as : Verdict → Answer
refused_as v = record { verdict = v; place = 0; counts = replicate Limits.depths 0; counters = record { explicit = 0; mapping = 0; any = 0 } }

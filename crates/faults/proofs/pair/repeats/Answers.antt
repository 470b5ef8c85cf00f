use mathlib.Core.Path.{sym, ◌∙◌}
use Rattle.faults.proofs.Pairs.{among_new, among_new_subject}
use Rattle.faults.proofs.pair.repeats.Goals as goal
use Rattle.faults.proofs.pair.repeats.Goals.{then-is_among, else-is_among}

pub returns-else-is_among-2 : goal.returns-else-is_among-2
returns-else-is_among-2 c =
    elim c.if-is_among.branch [
      | then-is_among w ↦ c.if-is_among-2.false ∙ sym (among_new_subject _ _ _ _ (sym w.is_among-then-is_among.ensures ∙ sym w.value-is ∙ c.if-is_among-2.false))
      | else-is_among w ↦ c.if-is_among-2.false ∙ sym (among_new _ _ _ _ (sym c.is_among.ensures ∙ w.if-is_among.false))
    ]

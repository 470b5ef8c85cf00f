-- `der::untagged` meets its contract, by cases of the tag's first two octets.
use mathlib.Core.Path.{sym, ◌∙◌}
use native.Mathlib.Omega.{arith}
use Rattle.der.proofs.Parts.{nothing}
use Rattle.der.proofs.Laws.{tag_none, tag_one, tag_low, tag_padded, tag_more, first_or_none}
use Rattle.der.proofs.untagged.Goals as goal
use Rattle.der.proofs.untagged.Goals.{then-is_empty-via-then-is_empty, then-is_empty-via-else-is_empty+then-rest-lt31, then-is_empty-via-else-is_empty+else-rest-lt31+then-rest}

pub returns-in_default : goal.returns-in_default
returns-in_default c = sym (tag_none c.args.s.now c.in_default.ensures.cases)

pub returns-then-first-ne31 : goal.returns-then-first-ne31
returns-then-first-ne31 c = sym (tag_one c.in-Some.ensures.cases.0 (λ e. omega arith))

pub returns-then-is_empty : goal.returns-then-is_empty
returns-then-is_empty c =
    let split = c.in-Some.ensures.cases.0 in
    let rest = c.in-Some.rest.now in
    sym (elim c.then-is_empty.branch [ then-is_empty-via-then-is_empty w ↦ tag_low split (omega arith) (first_or_none rest (nothing c.is_empty.ensures w.if-is_empty.true)) | then-is_empty-via-else-is_empty+then-rest-lt31 w ↦ tag_low split (omega arith) (omega arith) | then-is_empty-via-else-is_empty+else-rest-lt31+then-rest w ↦ tag_padded split (omega arith) (omega arith) ])

pub returns : goal.returns
returns c = c.past_tag.ensures ∙ sym (tag_more c.in-Some.ensures.cases.0 (omega arith) (omega arith) (λ e. omega arith))

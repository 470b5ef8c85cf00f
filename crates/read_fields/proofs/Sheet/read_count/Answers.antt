-- `read_fields::Sheet::read_count` meets its contract: the flag and the count are parts of the sixteen bits fetched.
use native.Mathlib.Omega.{arith}
use Rattle.read_fields.proofs.Fields.{no_count, absent_count, short_count, zero_count, large_count, whole_count}
use Rattle.read_fields.proofs.Sheet.read_count.Goals as goal
use Rattle.read_fields.proofs.Sheet.read_count.Goals.{then-count-eq0-via-then-count-eq0, then-count-eq0-via-else-count-eq0+then-from-gt-LISTED}

pub returns-then-self-at-clause-value : goal.returns-then-self-at-clause-value
returns-then-self-at-clause-value c =
    no_count c.args.self.now.counted c.args.at c.requires c.if-self-at.true

pub returns-then-fetched-lt32768-clause-value : goal.returns-then-fetched-lt32768-clause-value
returns-then-fetched-lt32768-clause-value c =
    absent_count c.args.self.now.counted c.args.at c.requires c.peek-fetched.ensures c.if-self-at.false c.if-fetched-lt32768.true

pub returns-then-self-at-2-clause-value : goal.returns-then-self-at-2-clause-value
returns-then-self-at-2-clause-value c =
    short_count c.args.self.now.counted c.args.at c.requires c.peek-fetched.ensures c.if-self-at.false c.if-fetched-lt32768.false c.if-self-at-2.true

pub returns-then-count-eq0-clause-value : goal.returns-then-count-eq0-clause-value
returns-then-count-eq0-clause-value c =
    let b = c.args.self.now.counted in
    let e = c.peek-fetched.ensures in
    elim c.then-count-eq0.branch [
      | then-count-eq0-via-then-count-eq0 w ↦ zero_count b c.args.at c.requires e c.if-self-at.false c.if-fetched-lt32768.false c.if-self-at-2.false w.if-count-eq0.true
      | then-count-eq0-via-else-count-eq0+then-from-gt-LISTED w ↦ large_count b c.args.at c.requires e c.if-self-at.false c.if-fetched-lt32768.false c.if-self-at-2.false (omega arith)
    ]

pub returns-clause-value : goal.returns-clause-value
returns-clause-value c =
    whole_count c.args.self.now.counted c.args.at c.requires c.peek-fetched.ensures c.if-self-at.false c.if-fetched-lt32768.false c.if-self-at-2.false c.if-count-eq0.false (omega arith)

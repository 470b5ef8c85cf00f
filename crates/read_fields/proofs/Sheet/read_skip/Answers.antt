-- `read_fields::Sheet::read_skip` meets its contract: the flag and the value are parts of the sixteen bits fetched.
use Rattle.read_fields.proofs.Fields.{no_skip, absent_skip, short_skip, whole_skip}
use Rattle.read_fields.proofs.Sheet.read_skip.Goals as goal

pub returns-then-self-at-clause-value : goal.returns-then-self-at-clause-value
returns-then-self-at-clause-value c =
    no_skip c.args.self.now.counted c.args.at c.requires c.if-self-at.true

pub returns-then-fetched-lt32768-clause-value : goal.returns-then-fetched-lt32768-clause-value
returns-then-fetched-lt32768-clause-value c =
    absent_skip c.args.self.now.counted c.args.at c.requires c.peek-fetched.ensures c.if-self-at.false c.if-fetched-lt32768.true

pub returns-then-self-at-2-clause-value : goal.returns-then-self-at-2-clause-value
returns-then-self-at-2-clause-value c =
    short_skip c.args.self.now.counted c.args.at c.requires c.peek-fetched.ensures c.if-self-at.false c.if-fetched-lt32768.false c.if-self-at-2.true

pub returns-clause-value : goal.returns-clause-value
returns-clause-value c =
    whole_skip c.args.self.now.counted c.args.at c.requires c.peek-fetched.ensures c.if-self-at.false c.if-fetched-lt32768.false c.if-self-at-2.false

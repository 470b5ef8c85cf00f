use Prim.Native.Nat.{◌<◌}
use native.Mathlib.Omega.{arith}
use mathlib.Core.Path.{sym, ◌∙◌}
use lib.ListN.{length}
use Rattle.rules.specs.Layout.{pairs}
use Rattle.faults.proofs.Pairs.{among_none, among_here, among_other_issuer, among_other_subject}
use Rattle.faults.proofs.pair.is_pair_among.Goals as goal
use Rattle.faults.proofs.pair.is_pair_among.Goals.{then-issuers-i+then-subjects-i, else-issuers-i, else-issuers-i-via-then-issuers-i+else-subjects-i, else-issuers-i-via-else-issuers-i}

pub loop-i-init : goal.loop-i-init
unfolding pairs
loop-i-init c = sym (among_none _ _)

pub loop-i-preserved : goal.loop-i-preserved
loop-i-preserved c =
    let a = c.args in
    let i = c.loop-i.i in
    let h : i < length a.issuers.now = omega arith in
    let k : i < length a.subjects.now = omega arith in
    elim c.if-issuers-i.branch [
      | then-issuers-i+then-subjects-i w ↦ w.found-is ∙ sym (among_here _ _ _ _ _ h k w.if-issuers-i.true w.if-subjects-i.true)
      | else-issuers-i w ↦ w.found-is ∙ c.loop-i.invariant ∙ elim w.else-issuers-i.branch [
        | else-issuers-i-via-then-issuers-i+else-subjects-i v ↦ sym (among_other_subject _ _ _ _ _ h k v.if-subjects-i.false)
        | else-issuers-i-via-else-issuers-i v ↦ sym (among_other_issuer _ _ _ _ _ h k v.if-issuers-i.false)
      ]
    ]

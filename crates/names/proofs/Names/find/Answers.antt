use Rattle.std.proofs.Common.{◌≡◌, length, ap, ◌∙◌, sym, arith, rules}
use Rattle.names.specs.Names.{place}
use Rattle.names.specs.Slots.{slot}
use Rattle.names.proofs.Search.{search_first, search_start, search_falls, search_next, search_found, search_missed}
use Rattle.names.proofs.Names.find.Goals as goal

pub returns-then-policy-self : goal.returns-then-policy-self
returns-then-policy-self g c =
    search_first _ _ _ _ _ c.self.invariant (sym c.if-policy-self.true) ∙ ap (place c.args.policy) c.self.view_is

pub loop-k-init : goal.loop-k-init
loop-k-init g c =
    let slots : length c.self.inside.heads ≡ g.row.SLOTS = search rules in
    let s = c.slot_of-slot in
    search_start _ _ _ _ _ c.self.invariant s.result _
    (s.ensures.0 ∙ ap (λ n. slot n c.args.policy) (sym slots)) (omega arith) c.from-k.ensures

pub returns-then-self-k : goal.returns-then-self-k
returns-then-self-k g c =
    search_found _ _ _ _ _ c.self.invariant c.loop-k.k (c.loop-k.invariant.under c.loop-k-test.true) c.if-self-k.true ∙ ap (place c.args.policy) c.self.view_is

pub loop-k-smaller : goal.loop-k-smaller
loop-k-smaller g c =
    search_falls _ _ _ _ c.args.policy c.self.invariant c.loop-k.k _ c.loop-k-test.true (c.loop-k.invariant.under c.loop-k-test.true) c.from-k-in-loop-k.ensures

pub loop-k-preserved : goal.loop-k-preserved
loop-k-preserved g c =
    search_next _ _ _ _ _ c.self.invariant c.loop-k.k _ c.loop-k.invariant c.loop-k-test.true c.if-self-k.false c.from-k-in-loop-k.ensures

pub returns : goal.returns
returns g c =
    search_missed _ _ _ _ _ c.self.invariant c.loop-k.k c.loop-k.invariant c.loop-k-test.false (λ e. c.if-policy-self.false (sym e)) ∙ ap (place c.args.policy) c.self.view_is

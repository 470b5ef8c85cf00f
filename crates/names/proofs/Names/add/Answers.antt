use Rattle.std.proofs.Common.{◌≡◌, length, take, ap, ◌∙◌, sym, arith, rules}
use lib.Seq.{length-take-le}
use Rattle.names.specs.Names.{place}
use Rattle.names.specs.Slots.{slot}
use Rattle.names.proofs.Links.{linked_next, linked_few}
use Rattle.names.proofs.Names.add.Goals as goal

pub overflow_cast-self : goal.overflow_cast-self
overflow_cast-self g c =
    omega (arith, linked_few c.self.invariant c.self.view_is (λ j. search rules) c.args.policy (search rules) c.requires.new)

pub invariant_of-self : goal.invariant_of-self
invariant_of-self g c =
    let n = c.self.inside in
    let slots : length n.heads ≡ g.row.SLOTS = search rules in
    let places : length n.names ≡ g.row.PLACES = search rules in
    let count : length (take n.used n.names) ≡ n.used = length-take-le n.used n.names c.self.invariant.names_fit in
    let now = c.self.view_is in
    linked_next n.names n.links n.heads n.used c.args.policy c.slot_of-slot.result c.self.invariant (omega (arith, ap length now))
    (linked_few c.self.invariant now (λ j. search rules) c.args.policy (search rules) c.requires.new)
    (c.slot_of-slot.ensures.0 ∙ ap (λ m. slot m c.args.policy) (sym slots)) (omega arith)
    (ap (place c.args.policy) now ∙ c.requires.new ∙ sym (ap length now) ∙ count)

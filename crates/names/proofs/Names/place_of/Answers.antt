use Rattle.std.proofs.Common.{◌≡◌, length, ap, ◌∙◌, sym, arith, rules}
use lib.Seq.{length-take-le}
use Rattle.names.proofs.Numbers.{with_new, with_known}
use Rattle.names.proofs.Links.{linked_place}
use Rattle.names.proofs.Names.place_of.Goals as goal
use Rattle.names.proofs.Names.place_of.Goals.{then-k-self, else-k-self}

pub overflow_cast-result : goal.overflow_cast-result
overflow_cast-result g c =
    omega (arith, c.find-k.ensures, linked_place c.self.invariant c.self.view_is (λ j. search rules) c.args.policy (search rules))

pub returns-clause-names_after : goal.returns-clause-names_after
returns-clause-names_after g c =
    let n = c.self.inside in
    let count : n.used ≡ length c.args.self.now = sym (length-take-le n.used n.names c.self.invariant.names_fit) ∙ ap length c.self.view_is in
    elim c.if-k-self.branch [
      | then-k-self w ↦
          w.self-is ∙ w.add.ensures ∙ sym (with_new c.args.policy c.args.self.now (sym c.find-k.ensures ∙ w.if-k-self.true ∙ count))
      | else-k-self w ↦
          w.self-is ∙ sym (with_known c.args.policy c.args.self.now (λ e. w.if-k-self.false (c.find-k.ensures ∙ e ∙ sym count)))
    ]

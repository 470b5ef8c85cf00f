use Rattle.names.proofs.Links.{linked_none}
use Rattle.names.proofs.Names.new.Goals as goal

pub invariant_of-result : goal.invariant_of-result
invariant_of-result g c = linked_none _ _ c.requires

-- A certificate of a record of places is whole.
use Rattle.places.proofs.Held.{whole_at}
use Rattle.places.proofs.path.Places.certificate.Goals as goal

pub at-requires : goal.at-requires
at-requires c =
    whole_at c.args.self.now.numbered c.args.i c.requires c.from.ensures

-- That places are numbered has at most one proof, so it may stand in a ghost field.
use Prim.Native.Nat.{ℕ}
use mathlib.Core.List.{List, [], ◌∷◌}
use Rattle.std.proofs.Props.{props}
use Rattle.laws.proofs.Sets.{Unique}

pub unique_prop : (xs : List ℕ) → IsProp (Unique xs)
unique_prop [] = Prim.hlevel props
unique_prop (x ∷ xs) = let tail = unique_prop xs in Prim.hlevel (props, tail)

pub ruleset numbered_props = (props, unique_prop)

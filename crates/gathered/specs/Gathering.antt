-- What the register, the scratch list and the lists stand for together, and the room that is left in them.
use Rattle.std.specs.Prelude.{ℕ, ◌+◌, ◌*◌, ◌≤◌, List, [], length}
use Rattle.rules.specs.Limits as Limits
use Rattle.extension_rules.specs.Extensions.{Gathered}
use Rattle.identify.specs.Known.{fresh_count, known, Holds}
use Rattle.gathered.specs.Pairs.{Listed}

-- what was gathered: register and scratch list, and the policies; then the pairs too
abbrev pub with_policies : List ℕ → List ℕ → List ℕ → Gathered
with_policies r f ps = record { known = known r f; policies = ps; issuers = []; subjects = [] }

abbrev pub with_pairs : List ℕ → List ℕ → List ℕ → Listed → Gathered
with_pairs r f ps ms = record { known = known r f; policies = ps; issuers = ms.issuers; subjects = ms.subjects }

-- no more policies, and no more new identifiers, than there are places for
pub record FewPolicies (r f ps : List ℕ) : Type 0 where
  pub holds : Holds r f
  pub few : length ps ≤ Limits.listed
  pub news : fresh_count f ≤ length ps

-- the same for the pairs, after the policies
pub record FewPairs (r f : List ℕ) (ms : Listed) : Type 0 where
  pub holds : Holds r f
  pub few : length ms.issuers ≤ Limits.listed
  pub news : fresh_count f ≤ Limits.listed + 2 * length ms.issuers

-- Numbers that a whole certificate starts.
use Rattle.std.specs.Prelude.{ℕ, ◌+◌, ◌≤◌, List, length, get_or}
use Rattle.record.specs.Record.{certificate_head_places}

-- the head, and as many policies, issuers and subjects as it says; other numbers may follow
abbrev pub Whole : List ℕ → Type 0
Whole xs = certificate_head_places + get_or xs 1 0 + get_or xs 2 0 + get_or xs 2 0 ≤ length xs

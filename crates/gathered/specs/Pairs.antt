-- Pairs gathered in their order: the issuers, and the subjects.
use Rattle.std.specs.Prelude.{ℕ, List, [], ◌∷◌, ◌++◌}

pub record Listed : Type 0 where
  pub issuers : List ℕ
  pub subjects : List ℕ

abbrev pub no_pairs : Listed
no_pairs = record { issuers = []; subjects = [] }

abbrev pub with_pair : ℕ → ℕ → Listed → Listed
with_pair issuer subject ps = record { issuers = ps.issuers ++ issuer ∷ []; subjects = ps.subjects ++ subject ∷ [] }

-- An identifier that is too long, and one that was read.
use Prim.Native.Nat.{ℕ, ◌<◌}
use mathlib.Core.Bool.{true, not}
use mathlib.Core.List.{List}
use mathlib.Core.Path.{◌≡◌, sym, ap, ◌∙◌}
use native.Mathlib.Omega.{arith}
use lib.ListN.{length}
use borrow.Author.Tests.{lt-ltb}
use Rattle.rules.specs.Numbers as Numbers
use Rattle.laws.proofs.Sets.{by_cases}
use Rattle.extension_rules.specs.Outcomes.{Outcome, fault, fine, ◌then◌, when}
use Rattle.extension_rules.specs.Der.{Part, object_identifier, value_of, identifier, identifier_content}
use Rattle.extension_rules.specs.Register.{most_octets, numbered}
use Rattle.extension_laws.proofs.Outcomes.{when_yes, when_no}

pub numbered_long : (ids : List (List ℕ)) (id : List ℕ) → most_octets < length id → numbered ids id ≡ fault Numbers.identifier_long
unfolding numbered
numbered_long ids id h = when_no _ _ (ap not (lt-ltb _ _ h))

identified : (o : Outcome Part) (p : Part) → (o then λ q. when (identifier_content q.content) Numbers.not_der (fine q)) ≡ fine p → identifier_content p.content ≡ true
unfolding ◌then◌
identified (fault n) p e = let z : ◌≡◌ {A = ℕ} 0 1 = cc in absurd (omega arith)
identified (fine q) p e =
    by_cases (identifier_content q.content)
    (λ t.
    let f : fine q ≡ fine p = sym (when_yes Numbers.not_der (fine q) t) ∙ e in
    let same : q ≡ p = cc in
    ap (λ x. identifier_content x.content) (sym same) ∙ t)
    (λ f.
    let g : fault Numbers.not_der ≡ fine p = sym (when_no Numbers.not_der (fine q) f) ∙ e in
    let z : ◌≡◌ {A = ℕ} 0 1 = cc in
    absurd (omega arith))

pub identifier_valid : (s : List ℕ) (p : Part) → identifier s ≡ fine p → identifier_content p.content ≡ true
unfolding identifier
identifier_valid s p e = identified (value_of object_identifier s) p e

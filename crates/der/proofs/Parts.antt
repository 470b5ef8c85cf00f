-- What `is_empty` says of a part's length, that nothing follows a value, and that the content of an identifier which is read is valid.
use Prim.Native.Nat.{ℕ, ◌<◌}
use mathlib.Core.Bool.{Bool, true, false}
use mathlib.Core.List.{List}
use mathlib.Core.Path.{◌≡◌, refl, sym, ap, ◌∙◌}
use native.Mathlib.Omega.{arith}
use lib.Dec.{eqb}
use lib.ListN.{length}
use borrow.Author.Tests.{eqb-true, eqb-false}
use Rattle.rules.specs.Numbers as Numbers
use Rattle.rules.specs.Sets.{pick}
use Rattle.laws.proofs.Sets.{by_cases}
use Rattle.extension_rules.specs.Outcomes.{Outcome, fault, fine, ◌then◌, when}
use Rattle.extension_rules.specs.Der.{Part, object_identifier, value_of, identifier_content, identifier}
use Rattle.extension_rules.specs.Extensions.{ended}
use Rattle.extension_laws.proofs.Outcomes.{when_yes, when_no}
use Rattle.extension_laws.proofs.Elements.{ended_yes, ended_no}

pub nothing : {n : ℕ} {b : Bool} → b ≡ eqb n 0 → b ≡ true → n ≡ 0
nothing e t = eqb-true _ 0 (sym e ∙ t)

pub something : {n : ℕ} {b : Bool} → b ≡ eqb n 0 → b ≡ false → 0 < n
something e f = omega (arith, eqb-false _ 0 (sym e ∙ f))

pub ended_is : {A : Type 0} (rest : List ℕ) (a : A) {b : Bool} → b ≡ eqb (length rest) 0 → when b Numbers.not_der (fine a) ≡ ended rest a
ended_is rest a e =
    by_cases (eqb (length rest) 0)
    (λ q. when_yes _ _ (e ∙ q) ∙ sym (ended_yes rest a (eqb-true _ 0 q)))
    (λ q. when_no _ _ (e ∙ q) ∙ sym (ended_no rest a (omega (arith, eqb-false _ 0 q))))

-- what passes a test and is kept passes it

kept : (b : Bool) (q p : Part) → fine p ≡ when b Numbers.not_der (fine q) → b ≡ identifier_content q.content → identifier_content p.content ≡ true
unfolding when pick
kept true q p e f = let same : p ≡ q = cc in ap (λ r. identifier_content r.content) same ∙ sym f
kept false q p e f = let z : ◌≡◌ {A = ℕ} 0 1 = cc in absurd (omega arith)

valid_after : (o : Outcome Part) (p : Part) → fine p ≡ (o then λ q. when (identifier_content q.content) Numbers.not_der (fine q)) → identifier_content p.content ≡ true
unfolding ◌then◌
valid_after (fault n) p e = let z : ◌≡◌ {A = ℕ} 0 1 = cc in absurd (omega arith)
valid_after (fine q) p e = kept (identifier_content q.content) q p e refl

pub identifier_is_valid : (s : List ℕ) {p : Part} → fine p ≡ identifier s → identifier_content p.content ≡ true
unfolding identifier
identifier_is_valid s {p} e = valid_after (value_of object_identifier s) p e

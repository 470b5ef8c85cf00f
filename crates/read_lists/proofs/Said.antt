-- From the code's answer to the reading that it answers, and back.
use Prim.Native.Nat.{ℕ}
use native.Mathlib.Omega.{arith}
use mathlib.Core.List.{List}
use mathlib.Core.Path.{◌≡◌, refl, sym, ap, ◌∙◌}
use lib.Seq.{sets}
use Rattle.std.specs.declared.result.Result.{Result}
use Rattle.std.specs.declared.result.Result.TheVariants.{Ok, Err}
use Rattle.std.specs.Result.{IsErrAnd}
use Rattle.rules.specs.declared.Refusal.{Refusal}
use Rattle.rules.specs.Refusals.{number_of}
use Rattle.rules.specs.Sheet.{Read, refused, read}
use Rattle.read_lists.specs.Lists.{numbered, answer, Reads}

-- what reading gives, taken apart

read_value : {A : Type 0} {a b : A} {m n : ℕ} → read a m ≡ read b n → a ≡ b
read_value e = cc

not_read : {A : Type 0} {k : ℕ} {b : A} {n : ℕ} → refused k ≡ read b n → ⊥
not_read e = let z : ◌≡◌ {A = ℕ} 0 1 = cc in omega arith

numbered_on : {V : Type 0} (r : Result V Refusal) (e : Refusal) → IsErrAnd r (λ f. f ≡ e) → numbered r ≡ Err (number_of e)
numbered_on (Ok v) e h = absurd h
numbered_on (Err f) e h = ap (λ f. Err (number_of f)) h

module _ {A V : Type 0} (held : A → ℕ → V) where
  -- the answer is a refusal: so is the reading
  pub refused_by : (x : Read A) {k : ℕ} → ◌≡◌ {A = Result V ℕ} (Err k) (answer held x) → x ≡ refused k
  refused_by (refused j) {k = k} e = let f : k ≡ j = cc in ap refused (sym f)
  refused_by (read a n) e = let z : ◌≡◌ {A = ℕ} 0 1 = cc in absurd (omega arith)

  -- the answer v holds what the reading gave
  pub record Held (x : Read A) (v : V) : Type 0 where
    pub value : A
    pub at : ℕ
    pub said : x ≡ read value at
    pub holds : v ≡ held value at

  pub held_by : (x : Read A) {v : V} → ◌≡◌ {A = Result V ℕ} (Ok v) (answer held x) → Held x v
  held_by (refused j) e = let z : ◌≡◌ {A = ℕ} 0 1 = cc in absurd (omega arith)
  held_by (read a n) {v = v} e = let f : v ≡ held a n = cc in record { value = a; at = n; said = refl; holds = f }

  -- an answer that `?` passes on is that to a reading that refuses so
  pub answers_on : (x : Read A) (r : Result V Refusal) (e : Refusal) → IsErrAnd r (λ f. f ≡ e) → x ≡ refused (number_of e) → numbered r ≡ answer held x
  answers_on x r e h f = numbered_on r e h ∙ ap (answer held) (sym f)

  module _ {x : Read A} (numbers : A → List ℕ) {s : List ℕ} {k : ℕ} {t : List ℕ} where
    pub reads_refused : (e : Refusal) → x ≡ refused (number_of e) → Reads held x numbers s k t (Err e)
    reads_refused e f = record { said = ap (answer held) (sym f); places = λ a at h. absurd (not_read (sym f ∙ h)) }

    -- the same of an answer that `?` passes on
    pub reads_on : (r : Result V Refusal) (e : Refusal) → IsErrAnd r (λ f. f ≡ e) → x ≡ refused (number_of e) → Reads held x numbers s k t r
    reads_on r e h f = record { said = answers_on x r e h f; places = λ a at h. absurd (not_read (sym f ∙ h)) }

    pub reads_value : {a : A} {n : ℕ} {v : V} → x ≡ read a n → v ≡ held a n → t ≡ sets s k (numbers a) → Reads held x numbers s k t (Ok v)
    reads_value e g p = record { said = ap Ok g ∙ ap (answer held) (sym e); places = λ b at h. p ∙ ap (λ a. sets s k (numbers a)) (read_value (sym e ∙ h)) }

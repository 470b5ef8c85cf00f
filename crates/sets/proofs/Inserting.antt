-- An insertion into a sorted list that stands in places: p goes in after the members below it, and what stands from there on moves one place on.
use Prim.Native.Nat.{ℕ, zero, suc, ◌+◌, ◌-◌, ◌≤◌, ◌<◌}
use native.Mathlib.Numerals.{add-one}
use native.Mathlib.Omega.{arith}
use mathlib.Core.Bool.{true, false}
use mathlib.Core.List.{List, [], ◌∷◌, ◌++◌, append_assoc}
use mathlib.Core.Path.{◌≡◌, refl, sym, ap, ap₂, ◌∙◌}
use lib.Dec.{eqb, ltb}
use borrow.Author.Tests.{lt-ltb, le-ltb, ltb-true, ltb-false, eqb-false}
use lib.ListN.{length, take, drop, set, get_or}
use lib.Seq.{length-take-le, take-suc, append_snoc, set_at, take-take, take-add, drop_at, paste}
use Rattle.std.specs.List.Sorted.{IsPartitionPoint, IsPartitionedBy}
use Rattle.std.proofs.lemmas.List.Sorted.{IsNonDecreasingBy-from_default, IsPartitionedBy-ltb}
use Rattle.rules.specs.Sets.{pick, ◌∈◌, select, insert}
use Rattle.laws.proofs.Sets.{by_cases, or_none, here, there, In-mem, mem_In, select_same, select_none, Sorted}

mem_at : (xs : List ℕ) (i : ℕ) → i < length xs → get_or xs i 0 ∈ xs ≡ true
mem_at [] i h = absurd (omega arith)
mem_at (x ∷ xs) zero h = In-mem here
mem_at (x ∷ xs) (suc i) h = In-mem (there (mem_In (get_or xs i 0) xs (mem_at xs i (omega arith))))

sorted_at : (xs : List ℕ) (i j : ℕ) → Sorted xs → i ≤ j → j < length xs → get_or xs i 0 ≤ get_or xs j 0
sorted_at [] i j s h k = absurd (omega arith)
sorted_at (x ∷ xs) zero zero s h k = omega arith
sorted_at (x ∷ xs) (suc i) zero s h k = absurd (omega arith)
sorted_at (x ∷ xs) zero (suc j) s h k = omega (arith, s.0 (get_or xs j 0) (mem_at xs j (omega arith)))
sorted_at (x ∷ xs) (suc i) (suc j) s h k = sorted_at xs i j s.1 (omega arith) (omega arith)

-- a sorted list is parted by the test whether a member is below p
pub parted : (xs : List ℕ) (p : ℕ) → Sorted xs → IsPartitionedBy (λ q. ltb q p) xs
parted xs p s = IsPartitionedBy-ltb (λ q. q) xs p (IsNonDecreasingBy-from_default (λ q. q) xs 0 (λ i j. sorted_at xs i j s))

-- the place where it parts says how many are below p
pub point_count : (xs : List ℕ) (p b : ℕ) → b ≤ length xs → IsPartitionPoint (λ q. ltb q p ≡ true) (λ q. ltb q p ≡ false) xs b → b ≡ length (select (λ q. ltb q p) xs)
unfolding select pick
point_count [] p b h s = omega arith
point_count (x ∷ xs) p zero h s =
    rw (s.1 0 0 (omega arith) (omega arith)) (point_count xs p zero (omega arith) ((λ k d l m. absurd (omega arith)), (λ k d l m. s.1 (suc k) d (omega arith) (omega arith))))
point_count (x ∷ xs) p (suc b) h s =
    rw (s.0 0 0 (omega arith) (omega arith)) (ap suc (point_count xs p b (omega arith) ((λ k d l m. s.0 (suc k) d (omega arith) (omega arith)), (λ k d l m. s.1 (suc k) d (omega arith) (omega arith)))))

-- in a sorted list p goes in after the members below it

none_below : (p x : ℕ) (xs : List ℕ) → p ≤ x → Sorted (x ∷ xs) → select (λ q. ltb q p) xs ≡ []
none_below p x xs h s =
    select_same (λ q. ltb q p) (λ q. false) xs (λ q i. le-ltb q p (omega (arith, s.0 q (In-mem i)))) ∙ select_none (λ q. false) xs (λ q. refl)

insert_at : (p : ℕ) (xs : List ℕ) → Sorted xs → p ∈ xs ≡ false → insert p xs ≡ take (length (select (λ q. ltb q p) xs)) xs ++ (p ∷ drop (length (select (λ q. ltb q p) xs)) xs)
unfolding insert select pick ◌∈◌
insert_at p [] s n = refl
insert_at p (x ∷ xs) s n =
    let ne = or_none (eqb p x) n in
    by_cases (ltb x p)
    (λ e. let lt = ltb-true x p e in rw (e, le-ltb p x (omega arith), ne.0) (ap (λ l. x ∷ l) (insert_at p xs s.1 ne.1)))
    (λ e. let le = ltb-false x p e in let lt : p < x = omega (arith, eqb-false p x ne.0) in rw (e, none_below p x xs le s, lt-ltb p x lt))

pub inserted : (d : List ℕ) (len p at : ℕ) → len < length d → Sorted (take len d) → p ∈ take len d ≡ false → at ≤ len → at ≡ length (select (λ q. ltb q p) (take len d))
    → set (paste d (at + 1) (drop at d) (len - at)) at p ≡ insert p (take len d) ++ drop (len + 1) d
inserted d len p at fits s n inside e =
    ap (λ l. set l at p) open_place
    ∙ set_at (take at d) (get_or d at 0) rest p at (length-take-le at d (omega arith))
    ∙ sym (append_assoc (take at d) (p ∷ moved) (drop (len + 1) d))
    ∙ ap (λ l. l ++ drop (len + 1) d) (sym whole)
  where
    moved : List ℕ
    moved = take (len - at) (drop at d)

    rest : List ℕ
    rest = moved ++ drop (len + 1) d

    open_place : paste d (at + 1) (drop at d) (len - at) ≡ take at d ++ (get_or d at 0 ∷ rest)
    open_place =
        let end : at + 1 + (len - at) ≡ len + 1 = omega arith in
        append_assoc (take (at + 1) d) moved (drop (at + 1 + (len - at)) d)
        ∙ ap₂ (λ l k. l ++ (moved ++ drop k d)) (ap (λ m. take m d) (add-one at) ∙ take-suc d at 0 (omega arith)) end
        ∙ append_snoc (take at d) (get_or d at 0) rest

    part : drop at (take len d) ≡ moved
    part =
        let q : len ≡ at + (len - at) = omega arith in
        ap (λ m. drop at (take m d)) q ∙ ap (drop at) (take-add at (len - at) d) ∙ drop_at (take at d) _ at (length-take-le at d (omega arith))

    whole : insert p (take len d) ≡ take at d ++ (p ∷ moved)
    whole =
        insert_at p (take len d) s n ∙ ap (λ b. take b (take len d) ++ (p ∷ drop b (take len d))) (sym e) ∙ ap₂ (λ a b. a ++ (p ∷ b)) (take-take at len d inside) part

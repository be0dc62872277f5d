-- Tests of all numbers below n, as the library's `all` and `any` over a range make them.
-- Assumes nothing.
use Rattle.std.proofs.Common.{◌≡◌, ℕ, zero, suc, ◌+◌, Bool, true, false, ◌&&◌, ◌||◌, List, Option, refl, sym, ap, ◌∙◌, add-zero, arith}
use Rattle.std.specs.Fn.{Called}
use Rattle.std.specs.Iterator.{YieldsThen}
use Rattle.std.specs.List.{FoldsTo, list_all, list_any, range_with_len}
use Rattle.std.specs.Option.{MatchOption}
use Rattle.std.specs.declared.ops.Range.{Range}
use Rattle.std.proofs.iter.Yields.{nat_range_steps}
use Rattle.std.proofs.lemmas.Iterator.{YieldsList-from_range}
use Rattle.std.proofs.lemmas.Iterator.Search.{all_from_yields_List, any_from_yields_List}
use denote.Param.Members.{Mut}
use Rattle.books.specs.Numbers.{every, some}
use Rattle.books.proofs.Numbers.{every_front, every_ext, some_front, some_ext}

-- a test of all numbers of a range
every_range : (test : ℕ → Bool) (n a : ℕ) → list_all test (range_with_len a n) ≡ every n (λ i. test (a + i))
unfolding every
every_range test zero a = refl
every_range test (suc n) a =
    ap (λ (b : Bool). test a && b) (every_range test n (a + 1) ∙ every_ext (λ i. test (a + 1 + i)) (λ i. test (a + suc i)) n (λ i h. ap test (omega arith)))
    ∙ ap (λ (k : ℕ). test k && every n (λ i. test (a + suc i))) (sym (add-zero a))
    ∙ sym (every_front (λ i. test (a + i)) n)

-- what `all` answers over the numbers below n, where the closure answers the test
pub all_every : {F : Type 0} {g : Mut F (ℕ × Unit {0}) Bool} (test : ℕ → Bool) (n : ℕ) {u : Range ℕ} {f : F} (r : Bool)
    → (xs : List ℕ) × (o : Option ℕ) × (j : F) × YieldsThen nat_range_steps (record { start = 0; end = n }) xs o u × FoldsTo (λ p x q. Called g p (x, tt) true q) f xs j
    × MatchOption o (r ≡ true) (λ x. (r ≡ false) × ((h : F) × Called g j (x, tt) false h))
    → ((x : ℕ) (b : Bool) (q : F) → Called g f (x, tt) b q → (q ≡ f) × (b ≡ test x)) → r ≡ every n test
all_every test n r ran says =
    all_from_yields_List test _ _ r ran (YieldsList-from_range 0 n n refl (omega arith)) says ∙ every_range test n 0 ∙ every_ext (λ i. test (0 + i)) test n (λ i h. ap test (omega arith))

-- a test of some number of a range
some_range : (test : ℕ → Bool) (n a : ℕ) → list_any test (range_with_len a n) ≡ some n (λ i. test (a + i))
unfolding some
some_range test zero a = refl
some_range test (suc n) a =
    ap (λ (b : Bool). test a || b) (some_range test n (a + 1) ∙ some_ext (λ i. test (a + 1 + i)) (λ i. test (a + suc i)) n (λ i h. ap test (omega arith)))
    ∙ ap (λ (k : ℕ). test k || some n (λ i. test (a + suc i))) (sym (add-zero a))
    ∙ sym (some_front (λ i. test (a + i)) n)

-- what `any` answers over the numbers below n, where the closure answers the test
pub any_some : {F : Type 0} {g : Mut F (ℕ × Unit {0}) Bool} (test : ℕ → Bool) (n : ℕ) {u : Range ℕ} {f : F} (r : Bool)
    → (xs : List ℕ) × (o : Option ℕ) × (j : F) × YieldsThen nat_range_steps (record { start = 0; end = n }) xs o u × FoldsTo (λ p x q. Called g p (x, tt) false q) f xs j
    × MatchOption o (r ≡ false) (λ x. (r ≡ true) × ((h : F) × Called g j (x, tt) true h))
    → ((x : ℕ) (b : Bool) (q : F) → Called g f (x, tt) b q → (q ≡ f) × (b ≡ test x)) → r ≡ some n test
any_some test n r ran says =
    any_from_yields_List test _ _ r ran (YieldsList-from_range 0 n n refl (omega arith)) says ∙ some_range test n 0 ∙ some_ext (λ i. test (0 + i)) test n (λ i h. ap test (omega arith))

-- What the searches in code find, by the definitions: the first number that passes a test.
-- Assumes nothing.
use mathlib.Core.Path.{◌≡◌, refl, sym, ◌∙◌}
use mathlib.Core.Bool.{Bool, true, false, cond, not, true≢false}
use mathlib.Core.List.{List}
use Prim.Native.Nat.{ℕ, ◌-◌, ◌≤◌, ◌<◌}
use native.Mathlib.Omega.{arith}
use lib.Dec.{ltb, eqb}
use lib.ListN.{length, get_or}
use borrow.Author.Tests.{ltb-true, ltb-false, eqb-true, ne_eqb}
use Rattle.std.specs.Prelude.{Option, Some, None, MatchOption, unwrap_or}
use Rattle.std.specs.List.{AllWithin, HoldsAt}
use Rattle.books.specs.Numbers.{first}
use Rattle.books.specs.Books.{object_limit, against, lowest_against}
use Rattle.books.proofs.Numbers.{first-most, first_at, first-before}
use Rattle.store.specs.Layout.{objects, read}
use Rattle.store.specs.Store.{object_byte, home, held_of, heard_of, transit_of}
use Rattle.stretches.specs.Stretches.{home_of}
use Rattle.machine.specs.Effects.{lowest_free}
use Rattle.machine.specs.Machine.{standing}

-- the first number below n that passes is k, if none before k passes, and k itself does unless it is n
first_is : (p : ℕ → Bool) (n k : ℕ) → k ≤ n → ((i : ℕ) → i < k → p i ≡ false) → (k < n → p k ≡ true) → first n p ≡ k
first_is p n k m before at = go (ltb (first n p) k) refl (ltb k (first n p)) refl
  where
    go : (a : Bool) → ltb (first n p) k ≡ a → (b : Bool) → ltb k (first n p) ≡ b → first n p ≡ k
    go true q b r = let l = ltb-true (first n p) k q in absurd (true≢false (sym (first_at p n (omega arith)) ∙ before (first n p) l))
    go false q true r =
        let l = ltb-true k (first n p) r in
        let h : k < n = omega (arith, first-most p n) in
        absurd (true≢false (sym (at h) ∙ first-before p n k h l))
    go false q false r = omega (arith, ltb-false (first n p) k q, ltb-false k (first n p) r)

-- the home as the code has it, 0 of a free object
pub home_or_0 : (n o : ℕ) (s : List ℕ) → unwrap_or (home_of n o s) 0 ≡ home n o s
home_or_0 n o s = go (object_byte n o s) (eqb (object_byte n o s) 0) refl
  where
    go : (b : ℕ) (t : Bool) → eqb b 0 ≡ t → unwrap_or (cond (not t) (Some (b - 1)) None) 0 ≡ b - 1
    go b true q = omega (arith, eqb-true b 0 q)
    go b false q = refl

-- does port p stand against retiring o, whose home is h?
abbrev pub stands : ℕ → ℕ → List ℕ → ℕ → ℕ → Bool
stands n o s h = against n h (λ p. heard_of n p o s) (λ p. transit_of n p o s) (held_of n h o s)

-- k is the port that the code finds, n if it finds none
pub standing_is : (n o h : ℕ) (s : List ℕ) → h ≡ home n o s → (k : ℕ) → k ≤ n → ((i : ℕ) → i < k → stands n o s h i ≡ false)
    → (k < n → stands n o s h k ≡ true) → standing n o s ≡ k
unfolding standing lowest_against
standing_is n o h s e k m before at = rw (← e) (first_is (stands n o s h) n k m before at)

-- a free object's byte, and the byte of one in use
abbrev pub Free : ℕ → Type 0
Free b = b ≡ 0

abbrev pub Used : ℕ → Type 0
Used b = ¬ (b ≡ 0)

-- is object o free, r being the object bytes?
abbrev is_free : List ℕ → ℕ → Bool
is_free r o = not (not (eqb (get_or r o 0) 0))

-- r is the object bytes, and k the place of the first free one, if there is one
pub lowest_free_is : (n : ℕ) (s r : List ℕ) → r ≡ read n objects s → length r ≡ object_limit → (k : Option ℕ)
    → MatchOption k (AllWithin Used r 0 (length r)) (λ i. (i < length r) × HoldsAt Free r i × AllWithin Used r 0 i)
    → MatchOption k (lowest_free n s ≡ object_limit) (λ i. i ≡ lowest_free n s)
unfolding lowest_free
lowest_free_is n s r is long None f =
    rw (← is)
    (first_is (is_free r) object_limit object_limit (omega arith) (λ i h. rw (ne_eqb _ _ (f i 0 (omega arith) (omega (arith, long))))) (λ h. absurd (omega (arith, h))))
lowest_free_is n s r is long (Some k) f =
    rw (← is)
    (sym (first_is (is_free r) object_limit k (omega (arith, f.0, long)) (λ i h. rw (ne_eqb _ _ (f.2 i 0 (omega arith) h))) (λ h. rw (f.1 0))))

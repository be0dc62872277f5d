-- A lane as the list of its entries, the oldest first, each read by f: adding puts an entry at the end, taking takes the front. One
-- law for both widths.
-- Assumes nothing.
use mathlib.Core.Path.{◌≡◌, refl, ap, ◌∙◌}
use mathlib.Core.List.{List, [], ◌∷◌, ◌++◌}
use Prim.Native.Nat.{ℕ, zero, suc, ◌+◌, ◌-◌, ◌<◌, ◌≤◌}
use native.Mathlib.Numerals.{add-one}
use native.Mathlib.Omega.{arith}
use lib.ListN.{length, length-append}
use Rattle.books.specs.Numbers.{list_to}
use Rattle.lanes.specs.Lane.{count, entry, added, taken}
use Rattle.lanes.proofs.Lane.{lane_bytes, count-added, entry-added, entry_new, count-taken, entry-taken}

-- lists of what agrees below n; their length; the first apart from the rest
module _ {X : Type 0} where
  pub list_ext : (f g : ℕ → X) (n : ℕ) → ((i : ℕ) → i < n → f i ≡ g i) → list_to n f ≡ list_to n g
  unfolding list_to
  list_ext f g zero h = refl
  list_ext f g (suc n) h = rw (list_ext f g n (λ i k. h i (omega arith)), h n (omega arith))

  pub list_length : (f : ℕ → X) (n : ℕ) → length (list_to n f) ≡ n
  unfolding list_to
  list_length f zero = refl
  list_length f (suc n) = rw (length-append, list_length f n) (omega arith)

  list_front : (f : ℕ → X) (n : ℕ) → list_to (suc n) f ≡ f 0 ∷ list_to n (λ i. f (suc i))
  unfolding list_to
  list_front f zero = refl
  list_front f (suc n) = ap (λ (l : List X). l ++ (f (suc n) ∷ [])) (list_front f n)

-- the entries of a lane, each read by f
module _ {X : Type 0} (w : ℕ) (f : List ℕ → X) where
  abbrev pub entries : List ℕ → List X
  entries l = list_to (count l) (λ i. f (entry w i l))

  -- a lane whose list is not empty has an entry; one whose list is not as long as its places has a place
  pub entries-some : (l : List ℕ) → ¬ (length (entries l) ≡ 0) → 0 < count l
  entries-some l d = let q : length (entries l) ≡ count l = list_length _ _ in omega arith

  module _ (places : ℕ) where
    pub entries-room : (l : List ℕ) → count l ≤ places → ¬ (length (entries l) ≡ places) → count l < places
    entries-room l few d = let q : length (entries l) ≡ count l = list_length _ _ in omega arith

    -- with an entry more at its end, and with the oldest taken
    pub entries-added : (e l : List ℕ) → length l ≡ lane_bytes w places → length e ≡ w → count l < places → entries (added w e l) ≡ entries l ++ (f e ∷ [])
    unfolding list_to
    entries-added e l long wide room =
        rw (count-added w places e l long wide, add-one, list_ext _ _ (count l) (λ i h. ap f (entry-added w places e l long wide room i h)), entry_new w places e l long wide room)

    pub entries-taken : (l : List ℕ) → length l ≡ lane_bytes w places → count l ≤ places → 0 < count l → entries l ≡ f (entry w 0 l) ∷ entries (taken w l)
    entries-taken l long few some =
        let c : count l ≡ suc (count l - 1) = omega arith in
        ap (λ (k : ℕ). list_to k (λ i. f (entry w i l))) c
        ∙ list_front (λ i. f (entry w i l)) (count l - 1)
        ∙ rw (count-taken w places l long few some, list_ext _ _ (count l - 1) (λ i h. ap f (entry-taken w places l long few some i h)))
        (ap (λ (r : List X). f (entry w 0 l) ∷ r) (list_ext (λ i. f (entry w (suc i) l)) (λ i. f (entry w (i + 1) l)) (count l - 1) (λ i h. rw add-one)))

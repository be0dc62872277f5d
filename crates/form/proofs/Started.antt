-- What START leaves.
-- Assumes nothing.
use mathlib.Core.Path.{◌≡◌, refl, sym, ap, ◌∙◌}
use mathlib.Core.Bool.{Bool, true, cond}
use mathlib.Core.List.{List, [], ◌∷◌, ◌++◌, append_assoc}
use Prim.Native.Nat.{ℕ, zero, suc, ◌+◌, ◌-◌, ◌*◌, ◌/◌, ◌%◌, ◌≤◌}
use native.Mathlib.Omega.{arith}
use native.Mathlib.Numerals.{add-one}
use lib.Dec.{eqb}
use lib.ListN.{length, set, drop, replicate, length-replicate, replicate-append-replicate, length-append, length-drop}
use lib.Seq.{set_at, take_at, drop_at, append_snoc, drop-drop}
use borrow.Author.Tests.{eq-eqb}
use borrow.Rule.Slice.PartMut.{put_mid}
use Rattle.books.specs.Books.{object_limit, transit_zero}
use Rattle.store.specs.Layout.{transit, pointers, extent, size, section_at, place}
use Rattle.store.specs.Store.{words, fresh}

words_long : (m k : ℕ) → length (words m k) ≡ 2 * m
unfolding words
words_long zero k = refl
words_long (suc m) k = omega (arith, words_long m k)

-- one word more
words_more : (m k : ℕ) (r : List ℕ) → words m k ++ ((k % 256) ∷ (k / 256) ∷ r) ≡ words (suc m) k ++ r
unfolding words
words_more zero k r = refl
words_more (suc m) k r = ap (λ (x : List ℕ). (k % 256) ∷ (k / 256) ∷ x) (words_more m k r)

-- two bytes written, on a list whose rest still has two
two : (p q : List ℕ) (n a b : ℕ) → length p ≡ n → 2 ≤ length q → set (set (p ++ q) n a) (n + 1) b ≡ p ++ (a ∷ b ∷ drop 2 q)
two p [] n a b h k = absurd (omega arith)
two p (x ∷ []) n a b h k = absurd (omega arith)
two p (x ∷ y ∷ q) n a b h k =
    ap (λ (r : List ℕ). set r (n + 1) b) (set_at p x (y ∷ q) a n h ∙ sym (append_snoc p a (y ∷ q)))
    ∙ set_at (p ++ (a ∷ [])) y q b (n + 1) (length-append p (a ∷ []) ∙ ap (λ (m : ℕ). m + 1) h)
    ∙ append_snoc p a (b ∷ q)

-- one turn of the loop that writes words
module _ (k : ℕ) (s : List ℕ) where
  pub words_turn : (l : List ℕ) (i low high : ℕ) → low ≡ k % 256 → high ≡ k / 256 → l ≡ words i k ++ drop (2 * i) s → 2 * i + 2 ≤ length s
      → set (set l (2 * i) low) (2 * i + 1) high ≡ words (i + 1) k ++ drop (2 * (i + 1)) s
  words_turn l i low high p r e h =
      rw (p, r)
      (ap (λ (t : List ℕ). set (set t (2 * i) (k % 256)) (2 * i + 1) (k / 256)) e
      ∙ two (words i k) (drop (2 * i) s) (2 * i) (k % 256) (k / 256) (words_long i k) (rw length-drop (omega arith))
      ∙ words_more i k (drop 2 (drop (2 * i) s))
      ∙ (let q : 2 * i + 2 ≡ 2 * suc i = omega arith in rw (drop-drop 2 (2 * i) s, add-one i, q)))

-- zeros with a part put in their middle
middle : (a k r : ℕ) (ys : List ℕ) → put_mid a k (replicate {A = ℕ} (a + (k + r)) 0) ys ≡ replicate a 0 ++ (ys ++ replicate r 0)
middle a k r ys =
    rw (
      ← replicate-append-replicate {A = ℕ} a (k + r) 0,
      ← replicate-append-replicate {A = ℕ} k r 0,
      take_at (replicate a 0) (replicate k 0 ++ replicate r 0) a (length-replicate {A = ℕ} a 0),
      drop_at (replicate a 0) (replicate k 0 ++ replicate r 0) a (length-replicate {A = ℕ} a 0),
      drop_at (replicate k 0) (replicate r 0) k (length-replicate {A = ℕ} k 0),
    )

put : (a k A K R : ℕ) (m ys : List ℕ) → a ≡ A → k ≡ K → m ≡ replicate (A + (K + R)) 0 → put_mid a k m ys ≡ replicate A 0 ++ (ys ++ replicate R 0)
put a k A K R m ys ea ek em = rw (ea, ek, em) (middle A K R ys)

module _ (n : ℕ) (s : List ℕ) where
  -- the bytes of a section
  abbrev pub part : ℕ → ℕ
  part i = extent (section_at n i)

  abbrev pub before : ℕ
  before = part 0 + (part 1 + part 2)

  abbrev pub behind : ℕ
  behind = part 4 + part 5

  fresh_parts : replicate before 0 ++ (words (object_limit * n) (transit_zero n) ++ replicate behind 0) ≡ fresh n
  unfolding fresh
  fresh_parts = go (part 0) (part 1) (part 2) (part 4) (part 5) (words (object_limit * n) (transit_zero n))
    where
      go : (a b c d e : ℕ) (w : List ℕ) → replicate (a + (b + c)) 0 ++ (w ++ replicate (d + e) 0)
          ≡ replicate a 0 ++ (replicate b 0 ++ (replicate c 0 ++ (w ++ (replicate d 0 ++ replicate e 0))))
      go a b c d e w =
          rw (← replicate-append-replicate {A = ℕ} a (b + c) 0, ← replicate-append-replicate {A = ℕ} b c 0, ← replicate-append-replicate {A = ℕ} d e 0)
          (append_assoc (replicate a 0) (replicate b 0 ++ replicate c 0) (w ++ (replicate d 0 ++ replicate e 0))
          ∙ ap (λ (l : List ℕ). replicate a 0 ++ l) (append_assoc (replicate b 0) (replicate c 0) (w ++ (replicate d 0 ++ replicate e 0))))

  -- what START answers and leaves
  abbrev pub Started : Bool → List ℕ → Type 0
  Started r t = (r ≡ eqb (length s) (size n)) × (t ≡ cond (eqb (length s) (size n)) (fresh n) s)

  -- a store: cleared, then its transits written
  pub start_done : (m ys : List ℕ) (a e : ℕ) → length s ≡ size n → m ≡ replicate (length s) 0 → ys ≡ words (object_limit * n) (transit_zero n)
      → a ≡ place n (transit 0) → e ≡ place n (pointers 0 0) → Started true (put_mid a (e - a) m ys)
  start_done m ys a e h em ey ea ee =
      let q = eq-eqb (length s) (size n) h in
      let z : length s ≡ before + (part 3 + behind) = omega arith in (
        sym q,
        rw q (put a (e - a) before (part 3) behind m ys (omega arith) (omega arith) (em ∙ ap (λ (k : ℕ). replicate k 0) z) ∙ rw ey fresh_parts),
      )

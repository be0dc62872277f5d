-- The fresh store is well formed, for any number of ports.
-- Assumes nothing.
use mathlib.Core.Path.{◌≡◌, refl, sym, ap, ◌∙◌}
use mathlib.Core.Bool.{Bool, true}
use mathlib.Core.List.{List, [], ◌∷◌, ◌++◌, append-nil}
use Prim.Native.Nat.{ℕ, zero, suc, ◌+◌, ◌-◌, ◌*◌, ◌/◌, ◌%◌, ◌<◌, ◌≤◌}
use native.Mathlib.Nat.{zero-add, add_assoc, not-suc-le-zero, mod-add-div}
use native.Mathlib.Omega.{arith}
use lib.Dec.{eqb}
use lib.ListN.{length, get_or, drop, replicate, length-append, length-drop, length-replicate, replicate-append-replicate}
use lib.Seq.{take-nil, drop-nil, take_at, drop_at, take-append-le, drop-append-le, drop-append-add, get_or-take, get_or-drop}
use Rattle.books.specs.Books.{object_limit, transit_zero}
use Rattle.books.proofs.Parts.{part}
use Rattle.lanes.specs.Lane.{pointer_width, pointer_places, report_width, report_places, count}
use Rattle.lanes.proofs.Lane.{LaneForm, silent-drop, silent-zeros}
use Rattle.store.specs.Layout.{Section, Stretch, objects, held, heard, transit, pointers, reports, extent, total, layout, size, section_at, long, place, read}
use Rattle.store.specs.Store.{words, zeros, fresh, object_byte, held_of, heard_of, transit_of, well_formed}
use Rattle.store.proofs.Sections.{section_of, begins, within_section}
use Rattle.store.proofs.Frame.{inside, port-inside, lane_inside}
use Rattle.store.proofs.Formed.{means_formed}

-- a store as the bytes of its sections, one after another
abbrev joined : List (List ℕ) → List ℕ
joined [] = []
joined (x ∷ xs) = x ++ joined xs

-- a part of nothing
part_nil : (a k : ℕ) → part a k [] ≡ []
part_nil a k = rw drop-nil (take-nil k)

-- all of its bytes
length-joined : (ks : List Section) (xs : List (List ℕ)) → ((i : ℕ) → length (get_or xs i []) ≡ extent (section_of ks i)) → length (joined xs) ≡ total ks
length-joined [] [] f = refl
length-joined [] (x ∷ xs) f = rw (length-append, f 0, length-joined [] xs (λ i. f (suc i)))
length-joined (s ∷ ks) [] f = rw (← length-joined ks [] (λ i. f (suc i)), ← f 0)
length-joined (s ∷ ks) (x ∷ xs) f = rw (length-append, f 0, length-joined ks xs (λ i. f (suc i)))

-- a part of a section's bytes
part-joined : (ks : List Section) (xs : List (List ℕ)) → ((i : ℕ) → length (get_or xs i []) ≡ extent (section_of ks i)) → (k a m : ℕ)
    → a + m ≤ extent (section_of ks k) → part (begins ks k + a) m (joined xs) ≡ part a m (get_or xs k [])
part-joined ks [] f k a m h = part_nil (begins ks k + a) m ∙ sym (part_nil a m)
part-joined ks (x ∷ xs) f zero a m h =
    let e = f 0 in
    rw (zero-add a, drop-append-le a x (joined xs) (omega arith)) (take-append-le m (drop a x) (joined xs) (rw length-drop (omega arith)))
part-joined [] (x ∷ xs) f (suc k) a m h = let e : m ≡ 0 = omega arith in rw e
part-joined (s ∷ ks) (x ∷ xs) f (suc k) a m h =
    let e : length x + (begins ks k + a) ≡ extent s + begins ks k + a = rw (f 0) (sym (add_assoc (extent s) (begins ks k) a)) in
    rw (← e, drop-append-add x (joined xs) (begins ks k + a)) (part-joined ks xs (λ i. f (suc i)) k a m h)

-- so many zeros, and a part of them
abbrev silence : ℕ → List ℕ
silence k = replicate k 0

silence-long : (k : ℕ) → length (silence k) ≡ k
silence-long k = length-replicate k 0

part-zeros : (a k m : ℕ) → a + k ≤ m → part a k (silence m) ≡ silence k
part-zeros a k m h =
    let rest = m - (a + k) in
    let e : a + (k + rest) ≡ m = omega arith in
    let q : silence m ≡ silence a ++ (silence k ++ silence rest)
    = sym (ap (λ (x : List ℕ). silence a ++ x) (replicate-append-replicate k rest 0) ∙ replicate-append-replicate a (k + rest) 0 ∙ ap silence e) in
    rw (q, drop_at (silence a) (silence k ++ silence rest) a (silence-long a)) (take_at (silence k) (silence rest) k (silence-long k))

zero_at : (k i : ℕ) → get_or (silence k) i 0 ≡ 0
zero_at zero i = refl
zero_at (suc k) zero = refl
zero_at (suc k) (suc i) = zero_at k i

-- a number written many times in two bytes
length-words : (m k : ℕ) → length (words m k) ≡ 2 * m
unfolding words
length-words zero k = refl
length-words (suc m) k = rw (length-words m k) (omega arith)

words_at : (m k i : ℕ) → i < m → (get_or (words m k) (2 * i) 0 ≡ k % 256) × (get_or (words m k) (2 * i + 1) 0 ≡ k / 256)
unfolding words
words_at zero k i h = absurd (not-suc-le-zero h)
words_at (suc m) k zero h = (refl, refl)
words_at (suc m) k (suc i) h =
    let p : 2 * suc i ≡ suc (suc (2 * i)) = omega arith in
    let q : 2 * suc i + 1 ≡ suc (suc (2 * i + 1)) = omega arith in
    let e = words_at m k i (omega arith) in
    (rw p e.0, rw q e.1)

module _ (n : ℕ) where
  -- the bytes of the fresh store's sections
  abbrev sections : List (List ℕ)
  sections = zeros n 0 ∷ zeros n 1 ∷ zeros n 2 ∷ words (object_limit * n) (transit_zero n) ∷ zeros n 4 ∷ zeros n 5 ∷ []

  words_long : length (words (object_limit * n) (transit_zero n)) ≡ extent (section_at n 3)
  words_long = rw length-words (omega arith)

  sections-long : (i : ℕ) → length (get_or sections i []) ≡ extent (section_of (layout n) i)
  sections-long zero = silence-long _
  sections-long (suc zero) = silence-long _
  sections-long (suc (suc zero)) = silence-long _
  sections-long (suc (suc (suc zero))) = words_long
  sections-long (suc (suc (suc (suc zero)))) = silence-long _
  sections-long (suc (suc (suc (suc (suc zero))))) = silence-long _
  sections-long (suc (suc (suc (suc (suc (suc i)))))) = refl

  fresh-joined : fresh n ≡ joined sections
  unfolding fresh
  fresh-joined = rw (append-nil (zeros n 5))

  fresh-long : length (fresh n) ≡ size n
  fresh-long = rw fresh-joined (length-joined (layout n) sections sections-long)

  -- a stretch of it
  fresh-read : (c : Stretch) → inside n c ≡ true → read n c (fresh n) ≡ part (long n c * ((section_at n c.part).columns * c.row + c.column)) (long n c) (get_or sections c.part [])
  unfolding read
  fresh-read c h =
      ap (λ (s : List ℕ). part (place n c) (long n c) s) fresh-joined
      ∙ part-joined (layout n) sections sections-long c.part (long n c * ((section_at n c.part).columns * c.row + c.column)) (long n c) (within_section (layout n) c h)

  -- a stretch of a section of zeros
  fresh-silent : (c : Stretch) → inside n c ≡ true → get_or sections c.part [] ≡ zeros n c.part → read n c (fresh n) ≡ silence (long n c)
  fresh-silent c h e =
      fresh-read c h
      ∙ ap (λ (s : List ℕ). part (long n c * ((section_at n c.part).columns * c.row + c.column)) (long n c) s) e
      ∙ part-zeros _ (long n c) (extent (section_at n c.part)) (within_section (layout n) c h)

  -- a lane of it, of either kind
  lane_silent : (w places : ℕ) (own : Bool) (right : List ℕ → Bool) (l : List ℕ) (k : ℕ) → l ≡ silence k → LaneForm w places own right l
  lane_silent w places own right l k e =
      let c : count l ≡ 0 = rw e (zero_at k 0) in
      record {
        few = omega arith;
        rest = silent-drop (1 + w * count l) l (rw e (silent-zeros k));
        none = λ q. c;
        all = λ i h. absurd (not-suc-le-zero (rw c at h));
      }

  object_0 : (o : ℕ) → object_byte n o (fresh n) ≡ 0
  object_0 o = rw (fresh-silent objects refl refl) (zero_at (long n objects) o)

  held_0 : (p o : ℕ) → p < n → held_of n p o (fresh n) ≡ 0
  held_0 p o h = rw (fresh-silent (held p) (port-inside n p h) refl) (zero_at (long n (held p)) o)

  heard_0 : (p o : ℕ) → p < n → heard_of n p o (fresh n) ≡ 0
  heard_0 p o h = rw (fresh-silent (heard p) (port-inside n p h) refl) (zero_at (long n (heard p)) o)

  transit_0 : (p o : ℕ) → p < n → o < object_limit → transit_of n p o (fresh n) ≡ transit_zero n
  transit_0 p o h k =
      let e = words_at (object_limit * n) (transit_zero n) (object_limit * p + o) (omega arith) in
      rw (byte (2 * o) (2 * (object_limit * p + o)) (omega arith) (omega arith), byte (2 * o + 1) (2 * (object_limit * p + o) + 1) (omega arith) (omega arith), e.0, e.1)
      (mod-add-div (transit_zero n) 256)
    where
      byte : (i j : ℕ) → i < long n (transit p) → j ≡ 2 * (object_limit * p) + i → get_or (read n (transit p) (fresh n)) i 0 ≡ get_or (words (object_limit * n) (transit_zero n)) j 0
      byte i j l e =
          let at = long n (transit p) * ((section_at n (transit p).part).columns * p + 0) in
          let q : at + i ≡ j = omega arith in
          rw (
            fresh-read (transit p) (port-inside n p h),
            get_or-take (long n (transit p)) (drop at (words (object_limit * n) (transit_zero n))) i 0 l,
            get_or-drop at (words (object_limit * n) (transit_zero n)) i 0,
            q,
          )

  pub fresh-formed : well_formed n (fresh n) ≡ true
  fresh-formed = means_formed n (fresh n) (record {
    sized = fresh-long;
    homes = λ o h. omega (arith, object_0 o);
    holdings = λ p o h k. record {
      held_low = omega (arith, held_0 p o h);
      heard_low = omega (arith, heard_0 p o h);
      held_free = λ e. held_0 p o h;
      heard_free = λ e. heard_0 p o h;
      heard_home = λ e. heard_0 p o h ∙ sym (held_0 p o h);
    };
    transits = λ p o h k. record { transit_low = omega (arith, transit_0 p o h k); transit_free = λ e. transit_0 p o h k };
    pointer_lanes = λ a b h k. lane_silent pointer_width pointer_places (eqb a b) _ _ (long n (pointers a b)) (fresh-silent (pointers a b) (lane_inside n a b h k) refl);
    report_lanes = λ a b h k. lane_silent report_width report_places (eqb a b) _ _ (long n (reports a b)) (fresh-silent (reports a b) (lane_inside n a b h k) refl);
  })

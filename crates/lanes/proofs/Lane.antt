-- Laws of one lane: what a well formed lane is, entry by entry; what adding and taking do to its length, its entries and its
-- form. One law for both widths.
-- Assumes nothing.
use mathlib.Core.Path.{◌≡◌, refl, sym, ap, ◌∙◌}
use mathlib.Core.Bool.{Bool, true, false, not, ◌&&◌, ◌||◌, and_assoc, true≢false}
use mathlib.Core.List.{List, [], ◌∷◌, ◌++◌}
use Prim.Native.Nat.{ℕ, zero, suc, ◌+◌, ◌-◌, ◌*◌, ◌<◌, ◌≤◌}
use native.Mathlib.Nat.{mul-suc, mul-le-mul_left}
use native.Mathlib.Numerals.{one-add}
use native.Mathlib.Decide.{ℕ_discrete}
use native.Mathlib.Omega.{arith}
use lib.Dec.{leb, eqb}
use lib.ListN.{length, take, drop, replicate, length-set, length-drop, length-append, length-replicate}
use lib.Seq.{sets, length-sets, get_or-set_same, drop-set-lt, take-append-le, drop-append-le, drop-drop}
use borrow.Author.Tests.{leb-true, le-leb, eqb-true, eq-eqb}
use Rattle.books.specs.Numbers.{every}
use Rattle.books.proofs.Booleans.{left_true, right_true, both_true, bool_ext}
use Rattle.books.proofs.Numbers.{every_at, every_all}
use Rattle.books.proofs.Parts.{put, sets-put, put_same, put-before, put_rest}
use Rattle.lanes.specs.Lane.{count, entry, added, taken, silent, lane_formed}

-- silence of two lists one after another, and of zeros
pub silent_append : (x y : List ℕ) → silent (x ++ y) ≡ (silent x && silent y)
unfolding silent
silent_append [] y = refl
silent_append (b ∷ x) y = rw (silent_append x y) (sym (and_assoc (eqb b 0) (silent x) (silent y)))

pub silent-zeros : (k : ℕ) → silent (replicate k 0) ≡ true
unfolding silent
silent-zeros zero = refl
silent-zeros (suc k) = silent-zeros k

pub silent-drop : (k : ℕ) (x : List ℕ) → silent x ≡ true → silent (drop k x) ≡ true
unfolding silent
silent-drop zero x h = h
silent-drop (suc k) [] h = h
silent-drop (suc k) (b ∷ x) h = silent-drop k x (right_true (eqb b 0) (silent x) h)

module _ (w places : ℕ) where
  -- the bytes of a lane of so many places
  abbrev pub lane_bytes : ℕ
  lane_bytes = 1 + w * places

  -- entry i lies within such a lane, and before an entry k above it
  next_entry : (i k : ℕ) → i < k → 1 + w * i + w ≤ 1 + w * k
  next_entry i k h = omega (arith, mul-suc w i, mul-le-mul_left w h)

  module _ (own : Bool) (right : List ℕ → Bool) where
    -- what a well formed lane is
    pub record LaneForm (l : List ℕ) : Type 0 where
      pub few : count l ≤ places
      pub rest : silent (drop (1 + w * count l) l) ≡ true
      pub none : own ≡ true → count l ≡ 0
      pub all : (i : ℕ) → i < count l → right (entry w i l) ≡ true

    none_means : (k : ℕ) (b : Bool) → (not b || eqb k 0) ≡ true → b ≡ true → k ≡ 0
    none_means k true h e = eqb-true k 0 h
    none_means k false h e = absurd (true≢false (sym e))

    means_none : (k : ℕ) (b : Bool) → (b ≡ true → k ≡ 0) → (not b || eqb k 0) ≡ true
    means_none k true f = eq-eqb k 0 (f refl)
    means_none k false f = refl

    module _ (l : List ℕ) where
      abbrev t1 : Bool
      t1 = leb (count l) places

      abbrev t2 : Bool
      t2 = silent (drop (1 + w * count l) l)

      abbrev t3 : Bool
      t3 = not own || eqb (count l) 0

      abbrev t4 : Bool
      t4 = every (count l) (λ i. right (entry w i l))

      pub lane_means : lane_formed w places own right l ≡ true → LaneForm l
      unfolding lane_formed
      lane_means e = record {
        few = leb-true (count l) places (left_true t1 t2 (left_true (t1 && t2) t3 (left_true (t1 && t2 && t3) t4 e)));
        rest = right_true t1 t2 (left_true (t1 && t2) t3 (left_true (t1 && t2 && t3) t4 e));
        none = none_means (count l) own (right_true (t1 && t2) t3 (left_true (t1 && t2 && t3) t4 e));
        all = λ i h. every_at _ (count l) i (right_true (t1 && t2 && t3) t4 e) h;
      }

      pub means_lane : LaneForm l → lane_formed w places own right l ≡ true
      unfolding lane_formed
      means_lane f =
          both_true (t1 && t2 && t3) t4
          (both_true (t1 && t2) t3 (both_true t1 t2 (le-leb (count l) places f.few) f.rest) (means_none (count l) own f.none))
          (every_all _ (count l) f.all)

  -- a well formed lane by another rule of what is right: its entries are left to test
  pub lane_right : (own : Bool) (right right' : List ℕ → Bool) (l : List ℕ) → lane_formed w places own right l ≡ true
      → lane_formed w places own right' l ≡ every (count l) (λ i. right' (entry w i l))
  lane_right own right right' l e =
      let f = lane_means own right l e in
      bool_ext (lane_formed w places own right' l) (every (count l) (λ i. right' (entry w i l)))
      (λ h. every_all _ (count l) (lane_means own right' l h).all)
      (λ h. means_lane own right' l (record { few = f.few; rest = f.rest; none = f.none; all = λ i k. every_at _ (count l) i h k }))

  -- ENTRY e ADDED to a lane that has room
  module _ (e l : List ℕ) (long : length l ≡ lane_bytes) (wide : length e ≡ w) where
    pub length-added : length (added w e l) ≡ lane_bytes
    unfolding added
    length-added = rw (length-set, length-sets) long

    pub count-added : count (added w e l) ≡ count l + 1
    unfolding added
    count-added = get_or-set_same (sets l (1 + w * count l) e) 0 (count l + 1) 0 (rw length-sets (omega arith))

    module _ (room : count l < places) where
      fits : 1 + w * count l + w ≤ length l
      fits = omega (arith, next_entry (count l) places room)

      -- behind the length, the new entry stands in the first free place
      added-behind : (j : ℕ) → 0 < j → drop j (added w e l) ≡ drop j (put (1 + w * count l) w e l)
      unfolding added
      added-behind j h = drop-set-lt j (sets l (1 + w * count l) e) 0 (count l + 1) h ∙ ap (λ (x : List ℕ). drop j x) (sets-put l (1 + w * count l) e w wide fits)

      pub entry-added : (i : ℕ) → i < count l → entry w i (added w e l) ≡ entry w i l
      entry-added i h =
          ap (λ (x : List ℕ). take w x) (added-behind (1 + w * i) (omega arith))
          ∙ put-before (1 + w * count l) w e l fits wide (1 + w * i) w (next_entry i (count l) h)

      pub entry_new : entry w (count l) (added w e l) ≡ e
      entry_new = ap (λ (x : List ℕ). take w x) (added-behind (1 + w * count l) (omega arith)) ∙ put_same (1 + w * count l) w e l fits wide

      added_rest : drop (1 + w * (count l + 1)) (added w e l) ≡ drop w (drop (1 + w * count l) l)
      added_rest =
          let q : 1 + w * (count l + 1) ≡ 1 + w * count l + w = omega arith in
          rw (q, added-behind (1 + w * count l + w) (omega arith), put_rest (1 + w * count l) w e l fits wide, drop-drop w (1 + w * count l) l)

      -- the lane is well formed exactly when the new entry is right
      pub added-formed : (right : List ℕ → Bool) → lane_formed w places false right l ≡ true → lane_formed w places false right (added w e l) ≡ right e
      added-formed right h =
          bool_ext (lane_formed w places false right (added w e l)) (right e)
          (λ g. sym (ap right entry_new) ∙ (lane_means false right (added w e l) g).all (count l) (rw count-added (omega arith)))
          (λ g. means_lane false right (added w e l) (record {
            few = rw count-added (omega arith);
            rest = rw (count-added, added_rest) (silent-drop w (drop (1 + w * count l) l) f.rest);
            none = λ q. absurd (true≢false (sym q));
            all = λ i k. each g i (rw count-added at k) (ℕ_discrete i (count l));
          }))
        where
          f : LaneForm false right l
          f = lane_means false right l h

          each : right e ≡ true → (i : ℕ) → i < count l + 1 → Dec (i ≡ count l) → right (entry w i (added w e l)) ≡ true
          each g i k (yes q) = rw (q, entry_new) g
          each g i k (no q) = let b : i < count l = omega arith in rw (entry-added i b) (f.all i b)

  -- THE OLDEST ENTRY TAKEN from a lane that has one
  module _ (l : List ℕ) (long : length l ≡ lane_bytes) (few : count l ≤ places) (some : 0 < count l) where
    first_fits : 1 + w ≤ length l
    first_fits = omega (arith, next_entry 0 places (omega arith))

    pub length_taken : length (taken w l) ≡ lane_bytes
    unfolding taken
    length_taken = rw (length-append, length-drop, length-replicate) (omega (arith, first_fits))

    pub count-taken : count (taken w l) ≡ count l - 1
    unfolding taken
    count-taken = refl

    -- behind the length, what stood behind the oldest, and then zeros
    taken-behind : (j : ℕ) → 1 + w + j ≤ length l → drop (1 + j) (taken w l) ≡ drop (1 + w + j) l ++ replicate w 0
    unfolding taken
    taken-behind j h =
        rw (
          one-add j,
          drop-append-le j (drop (1 + w) l) (replicate w 0) (rw length-drop (omega arith)),
          drop-drop j (1 + w) l,
        )

    pub entry-taken : (i : ℕ) → i < count l - 1 → entry w i (taken w l) ≡ entry w (i + 1) l
    entry-taken i h =
        let q : 1 + w + w * i ≡ 1 + w * (i + 1) = omega arith in
        let r : 1 + w + w * i + w ≤ length l = omega (arith, next_entry (i + 1) places (omega arith)) in
        rw (taken-behind (w * i) (omega arith), take-append-le w (drop (1 + w + w * i) l) (replicate w 0) (rw length-drop (omega arith)), q)

    pub taken-formed : (own : Bool) (right : List ℕ → Bool) → lane_formed w places own right l ≡ true → lane_formed w places own right (taken w l) ≡ true
    taken-formed own right h =
        let f = lane_means own right l h in
        means_lane own right (taken w l) (record {
          few = rw count-taken (omega arith);
          rest = rw (count-taken, behind) (both f.rest);
          none = λ q. absurd (¬0 (f.none q));
          all = λ i k. rest_right f i (rw count-taken at k);
        })
      where
        ¬0 : ¬ (count l ≡ 0)
        ¬0 q = omega arith

        behind : drop (1 + w * (count l - 1)) (taken w l) ≡ drop (1 + w * count l) l ++ replicate w 0
        behind =
            let c : count l ≡ suc (count l - 1) = omega arith in
            let q : 1 + w + w * (count l - 1) ≡ 1 + w * count l = omega (arith, ap (λ (x : ℕ). w * x) c, mul-suc w (count l - 1)) in
            rw (taken-behind (w * (count l - 1)) (omega (arith, mul-le-mul_left w few)), q)

        both : silent (drop (1 + w * count l) l) ≡ true → silent (drop (1 + w * count l) l ++ replicate w 0) ≡ true
        both e = silent_append (drop (1 + w * count l) l) (replicate w 0) ∙ both_true _ _ e (silent-zeros w)

        rest_right : LaneForm own right l → (i : ℕ) → i < count l - 1 → right (entry w i (taken w l)) ≡ true
        rest_right f i k = rw (entry-taken i k) (f.all (i + 1) (omega arith))

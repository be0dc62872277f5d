-- Laws of a lane's bytes as the code reads and writes them: an entry added, the oldest taken, the entries that are o counted, all tested,
-- one tested.
-- Assumes nothing.
use mathlib.Core.Path.{◌≡◌, refl, sym, ap, ◌∙◌}
use mathlib.Core.Bool.{Bool, true, false, cond, not}
use mathlib.Core.List.{List, [], ◌∷◌, ◌++◌, append-nil}
use Prim.Native.Nat.{ℕ, zero, suc, ◌+◌, ◌-◌, ◌*◌, ◌%◌, ◌<◌, ◌≤◌}
use native.Mathlib.Numerals.{add-one}
use native.Mathlib.Decide.{ℕ_discrete}
use native.Mathlib.Omega.{arith}
use lib.Dec.{eqb}
use lib.ListN.{length, get_or, set, take, drop, replicate, length-drop, drop_of_length-le}
use lib.Seq.{sets, length-take-le, take_all, get_or-drop, get_or-take}
use borrow.Author.Tests.{eq-eqb, ne_eqb}
use borrow.Rule.Slice.PartMut.{put_mid}
use Rattle.std.specs.List.{copy_within, count_by, sum_by}
use Rattle.std.proofs.lemmas.List.Sums.{sum_by_more, count_by-le-length}
use Rattle.std.proofs.lemmas.List.{length-append, drop-drop}
use Rattle.std.proofs.lemmas.List.Edits.{paste_all}
use Rattle.books.specs.Numbers.{every, sum_to}
use Rattle.books.specs.Books.{object_limit}
use Rattle.books.proofs.Parts.{put_seam, sets-put}
use Rattle.books.proofs.Numbers.{every_ext}
use Rattle.lanes.specs.Lane.{pointer_width, report_width, count, entry, added, taken}
use Rattle.cursors.specs.Cursor.{unnamed}

-- an entry written after the newest, and the length one more: the entry is added
pub added_written : (w n : ℕ) (e m l : List ℕ) → m ≡ sets l (1 + w * n) e → n ≡ count l → set m 0 (n + 1) ≡ added w e l
unfolding added
added_written w n e m l q h = rw (q, h)

-- a place's zeros, one or two
zeros : (w : ℕ) → pointer_width ≤ w → w ≤ report_width → take {A = ℕ} w (0 ∷ 0 ∷ []) ≡ replicate w 0
zeros w p q = elim (ℕ_discrete w pointer_width) [ yes e ↦ rw e | no e ↦ (let t : w ≡ report_width = omega arith in rw t) ]

-- the others moved up, zeros at the last place, and the length one less: the oldest entry is taken
pub taken_written : (w n : ℕ) (l p m s : List ℕ) → pointer_width ≤ w → w ≤ report_width → w < length l → p ≡ take (length l - 1) (drop 1 l)
    → m ≡ copy_within p w (length p) 0 → s ≡ sets (put_mid 1 (length l - 1) l m) (length l - w) (take {A = ℕ} w (0 ∷ 0 ∷ [])) → n ≡ count l - 1 → set s 0 n ≡ taken w l
unfolding taken
taken_written w n [] p m s a b h q r v c = absurd (omega arith)
taken_written w n (x ∷ l) p m s a b h q r v c =
    let size = length (x ∷ l) in
    let e = take {A = ℕ} w (0 ∷ 0 ∷ []) in
    let t = drop w l in
    let rest = drop (length l - w) l in
    let whole : p ≡ l = q ∙ take_all (size - 1) l (omega arith) in
    let d : length t ≡ length l - w = length-drop w l in
    let f : length rest ≡ w = length-drop (length l - w) l ∙ omega arith in
    let moved : m ≡ t ++ rest =
    r ∙ ap (λ (y : List ℕ). copy_within y w (length y) 0) whole ∙ paste_all l 0 t (length l - w) (sym d)
    ∙ ap (λ (i : ℕ). t ++ drop i l) (omega arith) in
    let none : drop (size - 1) l ≡ [] = drop_of_length-le l {i = size - 1} (omega arith) in
    let lane : put_mid 1 (size - 1) (x ∷ l) m ≡ (x ∷ t) ++ rest = put_seam 1 (size - 1) m (x ∷ []) l refl ∙ rw (none, append-nil, moved) in
    let over : drop w rest ≡ [] = drop_of_length-le rest {i = w} (omega arith) in
    ap (λ (y : List ℕ). set y 0 n)
    (v ∙ ap (λ (y : List ℕ). sets y (size - w) e) lane
    ∙ sets-put ((x ∷ t) ++ rest) (size - w) e w (length-take-le w (0 ∷ 0 ∷ []) b) (rw length-append (omega arith))
    ∙ put_seam (size - w) w e (x ∷ t) rest (omega arith))
    ∙ rw (over, append-nil, zeros w a b, c, ← drop-drop w 1 (x ∷ l))

module _ (w : ℕ) (l : List ℕ) where
  -- byte j of entry i
  pub entry_byte : (i j : ℕ) → j < w → get_or (entry w i l) j 0 ≡ get_or l (1 + w * i + j) 0
  entry_byte i j h = get_or-take w (drop (1 + w * i) l) j 0 h ∙ get_or-drop (1 + w * i) l j 0

-- the first byte of entry i
first_byte : (w i : ℕ) (l : List ℕ) → 0 < w → get_or (entry w i l) 0 0 ≡ get_or l (1 + w * i) 0
first_byte w i l h = entry_byte w l i 0 h ∙ ap (λ (k : ℕ). get_or l k 0) (omega arith)

-- the entries of a pointer lane that are o, counted byte by byte
pub counted : (o n : ℕ) (l : List ℕ) → n < length l → count_by (λ x. eqb x o) (take n (drop 1 l)) ≡ sum_to n (λ i. cond (eqb (get_or (entry pointer_width i l) 0 0) o) 1 0)
unfolding sum_to
counted o zero l h = refl
counted o (suc n) l h =
    let byte : get_or (drop 1 l) n 0 ≡ get_or (entry pointer_width n l) 0 0 = get_or-drop 1 l n 0 ∙ ap (λ (k : ℕ). get_or l k 0) (omega arith) ∙ sym (first_byte pointer_width n l (omega arith)) in
    ap (λ (k : ℕ). count_by (λ x. eqb x o) (take k (drop 1 l))) (sym (add-one n))
    ∙ sum_by_more (λ x. cond (eqb x o) 1 0) (drop 1 l) n 0 (rw length-drop (omega arith))
    ∙ rw (counted o n l (omega arith), byte)

-- of so many entries no more are o
pub few : (o k : ℕ) (l : List ℕ) → length l ≤ k → sum_by (λ x. cond (eqb x o) 1 0) l ≤ k
few o k l h = omega (arith, h, count_by-le-length (λ x. eqb x o) l)

-- no entry is about o, by the first byte of each
pub first_bytes : (w o : ℕ) (l : List ℕ) → 0 < w → every (count l) (λ i. not (eqb (get_or l (1 + w * i) 0 % object_limit) o)) ≡ unnamed w o l
first_bytes w o l h = every_ext _ _ (count l) (λ i k. ap (λ (x : ℕ). not (eqb (x % object_limit) o)) (sym (first_byte w i l h)))

-- entry i is not about o, by its first byte
module _ (w o : ℕ) (l : List ℕ) where
  abbrev pub other : ℕ → Bool
  other i = not (eqb (get_or (entry w i l) 0 0 % object_limit) o)

  first_at : (i at : ℕ) → 0 < w → at ≡ 1 + w * i → get_or (entry w i l) 0 0 ≡ get_or l at 0
  first_at i at h e = first_byte w i l h ∙ ap (λ (k : ℕ). get_or l k 0) (omega arith)

  pub is-o : (i at : ℕ) → 0 < w → at ≡ 1 + w * i → get_or l at 0 % object_limit ≡ o → other i ≡ false
  is-o i at h e q = ap not (eq-eqb _ o (ap (λ (k : ℕ). k % object_limit) (first_at i at h e) ∙ q))

  pub not-o : (i at : ℕ) → 0 < w → at ≡ 1 + w * i → (get_or l at 0 % object_limit ≡ o → ⊥) → other i ≡ true
  not-o i at h e q = ap not (ne_eqb _ o (λ r. q (ap (λ (k : ℕ). k % object_limit) (sym (first_at i at h e)) ∙ r)))

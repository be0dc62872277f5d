-- The full check, walked from the front to the back of the store: what costs one reading of the store where the definition, which
-- reads each lane from the store's start, costs a hundred. The two are the same test.
-- Assumes nothing.
use mathlib.Core.Path.{◌≡◌, refl, sym, ap, ◌∙◌}
use mathlib.Core.Bool.{Bool, true, ◌&&◌}
use mathlib.Core.List.{List, [], ◌∷◌}
use Prim.Native.Nat.{ℕ, zero, suc, ◌+◌, ◌-◌, ◌*◌, ◌<◌, ◌≤◌}
use native.Mathlib.Nat.{mul-suc, mul_assoc, mul-add, mul-le-mul_left, mul-zero, add-zero, zero-add, sub-zero, zero-sub, suc-sub-suc}
use native.Mathlib.Numerals.{one-add}
use native.Mathlib.Omega.{arith}
use lib.Dec.{leb, eqb, lit<}
use lib.ListN.{length, get_or, take, drop}
use lib.Seq.{take-take, take-nil, drop-drop, get_or-take, get_or-drop}
use Rattle.books.specs.Numbers.{every, sum_to}
use Rattle.books.specs.Books.{object_limit, transit_at}
use Rattle.books.proofs.Numbers.{every_ext, every_front, sum_ext, sum_front, sum_rows}
use Rattle.lanes.specs.Lane.{pointer_width, pointer_places, report_width, report_places, count, lane_formed}
use Rattle.store.specs.Layout.{objects, held, heard, transit, pointers, reports, layout, total, long, read, size}
use Rattle.machine.specs.Effects.{settling}
use Rattle.store.specs.Store.{holding_formed, transit_formed, pointer_right, report_right, well_formed}

-- f holds of the k parts of w bytes each that l begins with, numbered from i
unfoldable pub walk : ℕ → ℕ → ℕ → (ℕ → List ℕ → Bool) → List ℕ → Bool
walk w zero i f l = true
walk w (suc k) i f l = f i (take w l) && walk w k (suc i) f (drop w l)

-- ... which are rows of n
unfoldable pub walk_rows : ℕ → ℕ → (ℕ → ℕ → List ℕ → Bool) → List ℕ → Bool
walk_rows w n f l = walk (w * n) n 0 (λ a r. walk w n 0 (f a) r) l

-- the lengths of the k lanes of w bytes each that l begins with
unfoldable pub lengths : ℕ → ℕ → List ℕ → ℕ
lengths w zero l = 0
lengths w (suc k) l = count l + lengths w k (drop w l)

-- the objects' holdings and transits at one port, k objects being left
unfoldable pub holdings_walked : ℕ → ℕ → List ℕ → List ℕ → List ℕ → Bool
holdings_walked zero p b t h = true
holdings_walked (suc k) p b t h = holding_formed p (get_or b 0 0) (get_or t 0 0) (get_or h 0 0) && holdings_walked k p (drop 1 b) (drop 1 t) (drop 1 h)

unfoldable pub transits_walked : ℕ → ℕ → List ℕ → List ℕ → Bool
transits_walked zero n b x = true
transits_walked (suc k) n b x = transit_formed n (get_or b 0 0) (transit_at 0 x) && transits_walked k n (drop 1 b) (drop 2 x)

-- the lanes of both kinds
unfoldable pub pointers_walked : ℕ → List ℕ → List ℕ → Bool
pointers_walked n obj s =
    walk_rows (long n (pointers 0 0)) n (λ a b l. lane_formed pointer_width pointer_places (eqb a b) (pointer_right obj) l)
    (drop (total (take (pointers 0 0).part (layout n))) s)

unfoldable pub reports_walked : ℕ → List ℕ → List ℕ → Bool
reports_walked n obj s =
    walk_rows (long n (reports 0 0)) n (λ a b l. lane_formed report_width report_places (eqb a b) (report_right n obj a b) l)
    (drop (total (take (reports 0 0).part (layout n))) s)

-- the whole check; obj is the object bytes of s
unfoldable pub checked : ℕ → List ℕ → List ℕ → Bool
checked n obj s =
    eqb (length s) (size n)
    && every object_limit (λ o. leb (get_or obj o 0) n)
    && every n (λ p. holdings_walked object_limit p obj (read n (held p) s) (read n (heard p) s))
    && every n (λ p. transits_walked object_limit n obj (read n (transit p) s))
    && pointers_walked n obj s
    && reports_walked n obj s

-- a walk tests each part
walk_parts : (w k i : ℕ) (f : ℕ → List ℕ → Bool) (l : List ℕ) → walk w k i f l ≡ every k (λ j. f (i + j) (take w (drop (w * j) l)))
unfolding walk every
walk_parts w zero i f l = refl
walk_parts w (suc k) i f l =
    ap (λ (b : Bool). f i (take w l) && b) (walk_parts w k (suc i) f (drop w l) ∙ every_ext _ _ k (λ j h. later j))
    ∙ ap (λ (b : Bool). b && every k (λ j. f (i + suc j) (take w (drop (w * suc j) l)))) front
    ∙ sym (every_front (λ j. f (i + j) (take w (drop (w * j) l))) k)
  where
    later : (j : ℕ) → f (suc i + j) (take w (drop (w * j) (drop w l))) ≡ f (i + suc j) (take w (drop (w * suc j) l))
    later j =
        let e : suc i + j ≡ i + suc j = omega arith in
        let d : w + w * j ≡ w * suc j = omega (arith, mul-suc w j) in
        rw (e, drop-drop (w * j) w l, d)

    front : f i (take w l) ≡ f (i + 0) (take w (drop (w * 0) l))
    front = rw (add-zero i, mul-zero w)

drop-take : (i m : ℕ) (l : List ℕ) → drop i (take m l) ≡ take (m - i) (drop i l)
drop-take zero m l = rw sub-zero
drop-take (suc i) zero l = rw zero-sub
drop-take (suc i) (suc m) [] = sym (take-nil (suc m - suc i))
drop-take (suc i) (suc m) (x ∷ l) = rw suc-sub-suc (drop-take i m l)

-- part b of part a
part-part : (w n a b : ℕ) (l : List ℕ) → b < n → take w (drop (w * b) (take (w * n) (drop (w * n * a) l))) ≡ take w (drop (w * (n * a + b)) l)
part-part w n a b l h =
    let e : w * n * a + w * b ≡ w * (n * a + b) = rw (mul_assoc w n a, mul-add) in
    let k : w ≤ w * n - w * b = omega (arith, mul-suc w b, mul-le-mul_left w h) in
    rw (drop-take, take-take w (w * n - w * b) _ k, drop-drop, e)

rows_parts : (w n : ℕ) (f : ℕ → ℕ → List ℕ → Bool) (l : List ℕ)
    → walk_rows w n f l ≡ every n (λ a. every n (λ b. f a b (take w (drop (w * (n * a + b)) l))))
unfolding walk_rows
rows_parts w n f l =
    walk_parts (w * n) n 0 (λ a r. walk w n 0 (f a) r) l
    ∙ every_ext _ _ n (λ a h. rw zero-add (walk_parts w n 0 (f a) (take (w * n) (drop (w * n * a) l)) ∙ every_ext _ _ n (λ b k. rw (zero-add, part-part w n a b l k))))

-- the lanes of a section whose first is at place p
lanes_walked : (w n p : ℕ) (f : ℕ → ℕ → List ℕ → Bool) (s : List ℕ)
    → walk_rows w n f (drop p s) ≡ every n (λ a. every n (λ b. f a b (take w (drop (p + w * (n * a + b)) s))))
lanes_walked w n p f s = rows_parts w n f (drop p s) ∙ every_ext _ _ n (λ a h. every_ext _ _ n (λ b k. rw drop-drop))

pointers_walked_lem : (n : ℕ) (obj s : List ℕ)
    → pointers_walked n obj s ≡ every n (λ a. every n (λ b. lane_formed pointer_width pointer_places (eqb a b) (pointer_right obj) (read n (pointers a b) s)))
unfolding pointers_walked read
pointers_walked_lem n obj s = lanes_walked (long n (pointers 0 0)) n (total (take (pointers 0 0).part (layout n))) _ s

reports_walked_lem : (n : ℕ) (obj s : List ℕ)
    → reports_walked n obj s ≡ every n (λ a. every n (λ b. lane_formed report_width report_places (eqb a b) (report_right n obj a b) (read n (reports a b) s)))
unfolding reports_walked read
reports_walked_lem n obj s = lanes_walked (long n (reports 0 0)) n (total (take (reports 0 0).part (layout n))) _ s

-- the objects at one port, walked
next : (l : List ℕ) (o : ℕ) → get_or (drop 1 l) o 0 ≡ get_or l (suc o) 0
next l o = rw (get_or-drop, one-add)

holdings_walked_lem : (k p : ℕ) (b t h : List ℕ) → holdings_walked k p b t h ≡ every k (λ o. holding_formed p (get_or b o 0) (get_or t o 0) (get_or h o 0))
unfolding holdings_walked every
holdings_walked_lem zero p b t h = refl
holdings_walked_lem (suc k) p b t h =
    ap (λ (x : Bool). holding_formed p (get_or b 0 0) (get_or t 0 0) (get_or h 0 0) && x)
    (holdings_walked_lem k p (drop 1 b) (drop 1 t) (drop 1 h) ∙ every_ext _ _ k (λ o i. rw (next b o, next t o, next h o)))
    ∙ sym (every_front (λ o. holding_formed p (get_or b o 0) (get_or t o 0) (get_or h o 0)) k)

transits_walked_lem : (k n : ℕ) (b x : List ℕ) → transits_walked k n b x ≡ every k (λ o. transit_formed n (get_or b o 0) (transit_at o x))
unfolding transits_walked every
transits_walked_lem zero n b x = refl
transits_walked_lem (suc k) n b x =
    ap (λ (y : Bool). transit_formed n (get_or b 0 0) (transit_at 0 x) && y)
    (transits_walked_lem k n (drop 1 b) (drop 2 x) ∙ every_ext _ _ k (λ o i. rw (next b o, later o)))
    ∙ sym (every_front (λ o. transit_formed n (get_or b o 0) (transit_at o x)) k)
  where
    later : (o : ℕ) → transit_at o (drop 2 x) ≡ transit_at (suc o) x
    later o =
        let e : 2 + 2 * o ≡ 2 * suc o = omega arith in
        let f : 2 + (2 * o + 1) ≡ 2 * suc o + 1 = omega arith in
        rw (get_or-drop 2 x (2 * o) 0, get_or-drop 2 x (2 * o + 1) 0, e, f)

-- the walked check is the check
pub check_walked : (n : ℕ) (s : List ℕ) → checked n (read n objects s) s ≡ well_formed n s
unfolding well_formed checked
check_walked n s = simp (holdings_walked_lem object_limit, transits_walked_lem object_limit n, pointers_walked_lem n, reports_walked_lem n)

-- the lengths of the lanes, walked
lengths_parts : (w k : ℕ) (l : List ℕ) → lengths w k l ≡ sum_to k (λ j. count (drop (w * j) l))
unfolding lengths sum_to
lengths_parts w zero l = refl
lengths_parts w (suc k) l =
    ap (λ (x : ℕ). count l + x) (lengths_parts w k (drop w l) ∙ sum_ext _ _ k (λ j h. later j))
    ∙ ap (λ (x : ℕ). x + sum_to k (λ j. count (drop (w * suc j) l))) (rw mul-zero)
    ∙ sym (sum_front (λ j. count (drop (w * j) l)) k)
  where
    later : (j : ℕ) → count (drop (w * j) (drop w l)) ≡ count (drop (w * suc j) l)
    later j = let d : w + w * j ≡ w * suc j = omega (arith, mul-suc w j) in rw (drop-drop (w * j) w l, d)

-- the lanes of a section whose first is at place p
lengths_walked : (w n p : ℕ) (s : List ℕ) → 0 < w
    → lengths w (n * n) (drop p s) ≡ sum_to n (λ a. sum_to n (λ b. count (take w (drop (p + w * (n * a + b)) s))))
lengths_walked w n p s h =
    lengths_parts w (n * n) (drop p s)
    ∙ sum_rows (λ j. count (drop (w * j) (drop p s))) n n
    ∙ sum_ext _ _ n (λ a i. sum_ext _ _ n (λ b j. rw (drop-drop, get_or-take w (drop (p + w * (n * a + b)) s) 0 0 h)))

-- the settling number, walked
unfoldable pub settling_walked : ℕ → List ℕ → ℕ
settling_walked n s =
    2 * lengths (long n (pointers 0 0)) (n * n) (drop (total (take (pointers 0 0).part (layout n))) s)
    + lengths (long n (reports 0 0)) (n * n) (drop (total (take (reports 0 0).part (layout n))) s)

pub settling_walked_lem : (n : ℕ) (s : List ℕ) → settling_walked n s ≡ settling n s
unfolding settling_walked settling read
settling_walked_lem n s =
    rw (
      lengths_walked (long n (pointers 0 0)) n (total (take (pointers 0 0).part (layout n))) s (lit< tt),
      lengths_walked (long n (reports 0 0)) n (total (take (reports 0 0).part (layout n))) s (lit< tt),
    )

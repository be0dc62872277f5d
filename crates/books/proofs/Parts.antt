-- A part of a list of bytes, and a list with other bytes in a part's place.
-- Assumes nothing.
use mathlib.Core.Path.{◌≡◌, sym, ap, ◌∙◌}
use mathlib.Core.List.{List, ◌++◌, append_assoc}
use Prim.Native.Nat.{ℕ, ◌+◌, ◌-◌, ◌≤◌}
use native.Mathlib.Omega.{arith}
use lib.ListN.{length, take, drop, length-append, length-drop, take-append-drop}
use lib.Seq.{sets, sets-eq, length-take-le, take_at, drop_at, drop-drop, take-append-le, drop-append-le, drop-append-add}
use borrow.Rule.Slice.PartMut.{same_len_mid}

-- the k bytes from byte a on, and a list with l in their place
abbrev pub part : ℕ → ℕ → List ℕ → List ℕ
part a k s = take k (drop a s)

pub part-long : (a k : ℕ) (s : List ℕ) → a + k ≤ length s → length (part a k s) ≡ k
part-long a k s h = length-take-le k (drop a s) (rw length-drop (omega arith))

abbrev pub put : ℕ → ℕ → List ℕ → List ℕ → List ℕ
put a k l s = take a s ++ (l ++ drop k (drop a s))

pub put_none : (a k : ℕ) (s : List ℕ) → put a k (part a k s) s ≡ s
put_none a k s = ap (λ (r : List ℕ). take a s ++ r) (take-append-drop k (drop a s)) ∙ take-append-drop a s

-- a part within the first of two lists, and a part at the seam
pub put_left : (a k : ℕ) (l x y : List ℕ) → a + k ≤ length x → put a k l (x ++ y) ≡ put a k l x ++ y
put_left a k l x y h =
    rw (take-append-le a x y (omega arith), drop-append-le a x y (omega arith), drop-append-le k (drop a x) y (rw length-drop (omega arith)))
    (ap (λ (z : List ℕ). take a x ++ z) (sym (append_assoc l (drop k (drop a x)) y)) ∙ sym (append_assoc (take a x) (l ++ drop k (drop a x)) y))

pub put_seam : (a k : ℕ) (l x y : List ℕ) → length x ≡ a → put a k l (x ++ y) ≡ x ++ (l ++ drop k y)
put_seam a k l x y e = rw (take_at x y a e, drop_at x y a e)

module _ (a k : ℕ) (l s : List ℕ) (fit : a + k ≤ length s) (keeps : length l ≡ k) where
  pub put-long : length (put a k l s) ≡ length s
  put-long = same_len_mid a k s l (keeps ∙ sym (part-long a k s fit))

  pub put_same : part a k (put a k l s) ≡ l
  put_same = rw (drop_at (take a s) (l ++ drop k (drop a s)) a (length-take-le a s (omega arith))) (take_at l (drop k (drop a s)) k keeps)

  -- what lies before it, and what lies behind it
  before : (b m : ℕ) (x : List ℕ) → b + m ≤ a → part b m (take a s ++ x) ≡ part b m (take a s)
  before b m x h =
      let e : length (take a s) ≡ a = length-take-le a s (omega arith) in
      rw (drop-append-le b (take a s) x (omega arith)) (take-append-le m (drop b (take a s)) x (rw length-drop (omega arith)))

  pub put-before : (b m : ℕ) → b + m ≤ a → part b m (put a k l s) ≡ part b m s
  put-before b m h =
      before b m (l ++ drop k (drop a s)) h ∙ sym (before b m (drop a s) h) ∙ ap (λ (x : List ℕ). part b m x) (take-append-drop a s)

  behind : (b m : ℕ) (y z : List ℕ) → length y ≡ k → a + k ≤ b → part b m (take a s ++ (y ++ z)) ≡ part (b - (a + k)) m z
  behind b m y z e h =
      let q : length (take a s ++ y) + (b - (a + k)) ≡ b = rw (length-append, length-take-le a s (omega arith)) (omega arith) in
      rw (← append_assoc (take a s) y z, ← q, drop-append-add (take a s ++ y) z, q)

  pub put-behind : (b m : ℕ) → a + k ≤ b → part b m (put a k l s) ≡ part b m s
  put-behind b m h =
      behind b m l (drop k (drop a s)) keeps h
      ∙ sym (behind b m (part a k s) (drop k (drop a s)) (part-long a k s fit) h)
      ∙ ap (λ (x : List ℕ). part b m x) (put_none a k s)

  -- all that lies behind it
  pub put_rest : drop (a + k) (put a k l s) ≡ drop (a + k) s
  put_rest =
      let e : length (take a s ++ l) ≡ a + k = rw (length-append, length-take-le a s (omega arith), keeps) in
      rw (← append_assoc (take a s) l (drop k (drop a s)), drop_at (take a s ++ l) (drop k (drop a s)) (a + k) e, drop-drop k a s)

-- two parts, the first before the second, may be put in either order
pub put_swap : (a k b m : ℕ) (l r s : List ℕ) → a + k ≤ b → b + m ≤ length s → length l ≡ k → put a k l (put b m r s) ≡ put b m r (put a k l s)
put_swap a k b m l r s h fit keeps =
    let e : length (take b s) ≡ b = length-take-le b s (omega arith) in
    let q : length (put a k l (take b s)) ≡ b = put-long a k l (take b s) (omega arith) keeps ∙ e in
    put_left a k l (take b s) (r ++ drop m (drop b s)) (omega arith)
    ∙ sym (put_seam b m r (put a k l (take b s)) (drop b s) q)
    ∙ ap (λ (x : List ℕ). put b m r x) (sym (put_left a k l (take b s) (drop b s) (omega arith)) ∙ ap (λ (x : List ℕ). put a k l x) (take-append-drop b s))

-- a run of bytes written one after another
pub sets-put : (l : List ℕ) (a : ℕ) (e : List ℕ) (k : ℕ) → length e ≡ k → a + k ≤ length l → sets l a e ≡ put a k e l
sets-put l a e k q fit =
    sets-eq e l a (omega arith)
    ∙ append_assoc (take a l) e (drop (a + length e) l)
    ∙ rw (q, drop-drop k a l)

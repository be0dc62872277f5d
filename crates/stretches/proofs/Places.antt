-- A stretch as code has it, from the place r that the code computes: what is read there, and the store once that part, lent, is back.
-- Assumes nothing.
use mathlib.Core.Path.{◌≡◌, sym, ap, ◌∙◌}
use mathlib.Core.Bool.{true}
use mathlib.Core.List.{List}
use Prim.Native.Nat.{ℕ, ◌+◌, ◌-◌, ◌<◌}
use native.Mathlib.Omega.{arith}
use lib.ListN.{length, set, take, drop, take-append-drop}
use lib.Seq.{length-take-le, set-append_left}
use borrow.Rule.Slice.PartMut.{put_mid}
use Rattle.books.specs.Books.{object_limit}
use Rattle.books.proofs.Parts.{part-long}
use Rattle.store.specs.Store.{well_formed}
use Rattle.store.specs.Layout.{Stretch, objects, size, long, place, read, edit}
use Rattle.stretches.specs.Stretches.{Begins, LanesLow}
use Rattle.store.proofs.Formed.{formed_means}
use Rattle.store.proofs.Frame.{read_is, edit_is}

-- one object byte written
pub object-set : (n : ℕ) (s : List ℕ) (o b : ℕ) → o < object_limit → length s ≡ size n → set s o b ≡ edit n objects (λ r. set r o b) s
unfolding edit read
object-set n s o b low sized =
    let fits : o < length (take object_limit s) = omega (arith, length-take-le object_limit s (omega arith)) in
    ap (λ (l : List ℕ). set l o b) (sym (take-append-drop object_limit s)) ∙ set-append_left (take object_limit s) (drop object_limit s) o b fits

module _ {n : ℕ} {c : Stretch} {r : ℕ} (h : Begins n c r) (s : List ℕ) where
  -- all its bytes
  pub bytes-long : length s ≡ size n → length (read n c s) ≡ long n c
  unfolding read
  bytes-long sized = part-long (place n c) (long n c) s (omega (arith, h.at, h.ends))

  -- the part from r to e, and the store once that part is back as ys
  pub part-at : (e : ℕ) → e ≡ r + long n c → take (e - r) (drop r s) ≡ read n c s
  part-at e k = rw h.at (read_is n c s e (k ∙ ap (λ (x : ℕ). x + long n c) h.at))

  pub back-at : (e : ℕ) → e ≡ r + long n c → (f : List ℕ → List ℕ) (ys : List ℕ) → ys ≡ f (take (e - r) (drop r s)) → put_mid r (e - r) s ys ≡ edit n c f s
  back-at e k f ys p = rw h.at (edit_is n c s e (k ∙ ap (λ (x : ℕ). x + long n c) h.at) f ys (p ∙ ap (λ (x : ℕ). f (take (e - x) (drop x s))) h.at))

  -- the part that is lent, b bytes of it, and the store once it is back as ys
  pub part_is : {b : ℕ} → long n c ≡ b → take (r + b - r) (drop r s) ≡ read n c s
  part_is {b} k = part-at (r + b) (ap (λ (x : ℕ). r + x) (sym k))

  pub back_is : {b : ℕ} → long n c ≡ b → (f : List ℕ → List ℕ) (ys : List ℕ) → ys ≡ f (take (r + b - r) (drop r s)) → put_mid r (r + b - r) s ys ≡ edit n c f s
  back_is {b} k = back-at (r + b) (ap (λ (x : ℕ). r + x) (sym k))

-- what a well formed store offers to who counts pointers
pub lanes_low : (n p : ℕ) (s : List ℕ) → well_formed n s ≡ true → p < n → LanesLow n p s
lanes_low n p s formed low a h = ((formed_means n s formed).pointer_lanes a p h low).few

-- What an event does to a port's row of holdings and to its row of transits, object by object, and when the count that it changes
-- stays in range.
-- Assumes nothing.
use mathlib.Core.Path.{◌≡◌, refl, sym, ap, ◌∙◌}
use mathlib.Core.List.{List}
use Prim.Native.Nat.{ℕ, ◌+◌, ◌-◌, ◌*◌, ◌/◌, ◌%◌, ◌<◌, ◌≤◌}
use native.Mathlib.Decide.{dec_lt}
use native.Mathlib.Omega.{arith}
use lib.Dec.{leb, ltb}
use lib.ListN.{length, get_or, set, length-set}
use lib.Seq.{get_or-set_same, get_or-set_other}
use borrow.Author.Tests.{le-leb, lt-leb, lt-ltb, le-ltb}
use Rattle.paper.specs.Paper.{Kind, send, receive, create, delete}
use Rattle.books.specs.Fits.{holding_fits, transit_fits}
use Rattle.books.specs.Books.{holding_limit, transit_top, transit_at, set_transit, transit_effect, holding_effect}

-- one up is at most m where it was below m
up_fits : (x m : ℕ) → leb (x + 1) m ≡ ltb x m
up_fits x m = elim (dec_lt x m) [ yes p ↦ rw (lt-ltb x m p, le-leb (x + 1) m (omega arith)) | no p ↦ rw (le-ltb x m (omega arith), lt-leb (x + 1) m (omega arith)) ]

-- ---- the row of holdings
pub length_holding : (k : Kind) (o : ℕ) (r : List ℕ) → length (holding_effect k o r) ≡ length r
unfolding holding_effect
length_holding send o r = refl
length_holding receive o r = length-set r o _
length_holding create o r = length-set r o _
length_holding delete o r = length-set r o _

pub holding_other : (k : Kind) (o : ℕ) (r : List ℕ) (j : ℕ) → ¬ (j ≡ o) → get_or (holding_effect k o r) j 0 ≡ get_or r j 0
unfolding holding_effect
holding_other send o r j d = refl
holding_other receive o r j d = get_or-set_other r o j _ 0 d
holding_other create o r j d = get_or-set_other r o j _ 0 d
holding_other delete o r j d = get_or-set_other r o j _ 0 d

-- the count that it changes
module _ (o : ℕ) (r : List ℕ) (h : o < length r) where
  pub holding_up : get_or (holding_effect create o r) o 0 ≡ get_or r o 0 + 1
  unfolding holding_effect
  holding_up = get_or-set_same r o (get_or r o 0 + 1) 0 h

  pub holding_down : get_or (holding_effect delete o r) o 0 ≡ (get_or r o 0 + 255) % 256
  unfolding holding_effect
  holding_down = get_or-set_same r o ((get_or r o 0 + 255) % 256) 0 h

  pub holding_fits_lem : (k : Kind) → get_or r o 0 ≤ holding_limit → leb (get_or (holding_effect k o r) o 0) holding_limit ≡ holding_fits k (get_or r o 0)
  unfolding holding_effect
  holding_fits_lem send l = le-leb _ holding_limit l
  holding_fits_lem receive l = rw holding_up (up_fits (get_or r o 0) holding_limit)
  holding_fits_lem create l = rw holding_up (up_fits (get_or r o 0) holding_limit)
  holding_fits_lem delete l = rw holding_down (down (get_or r o 0) l)
    where
      down : (x : ℕ) → x ≤ holding_limit → leb ((x + 255) % 256) holding_limit ≡ ltb 0 x
      down x b = elim (dec_lt 0 x) [ yes p ↦ rw (lt-ltb 0 x p, le-leb ((x + 255) % 256) holding_limit (omega arith)) | no p ↦ rw (le-ltb 0 x (omega arith), lt-leb ((x + 255) % 256) holding_limit (omega arith)) ]

-- it changes equal counts alike
pub holding_alike : (k : Kind) (o : ℕ) (r t : List ℕ) → o < length r → o < length t → get_or r o 0 ≡ get_or t o 0
    → get_or (holding_effect k o r) o 0 ≡ get_or (holding_effect k o t) o 0
unfolding holding_effect
holding_alike send o r t h l e = e
holding_alike receive o r t h l e = holding_up o r h ∙ ap (λ (x : ℕ). x + 1) e ∙ sym (holding_up o t l)
holding_alike create o r t h l e = holding_up o r h ∙ ap (λ (x : ℕ). x + 1) e ∙ sym (holding_up o t l)
holding_alike delete o r t h l e = holding_down o r h ∙ ap (λ (x : ℕ). (x + 255) % 256) e ∙ sym (holding_down o t l)

-- ---- the row of transits
pub transit-set_other : (o k : ℕ) (r : List ℕ) (j : ℕ) → ¬ (j ≡ o) → transit_at j (set_transit o k r) ≡ transit_at j r
unfolding set_transit
transit-set_other o k r j d =
    let a : ¬ (2 * j ≡ 2 * o + 1) = λ q. omega arith in
    let b : ¬ (2 * j ≡ 2 * o) = λ q. d (omega arith) in
    let c : ¬ (2 * j + 1 ≡ 2 * o + 1) = λ q. d (omega arith) in
    let e : ¬ (2 * j + 1 ≡ 2 * o) = λ q. omega arith in
    simp get_or-set_other

pub transit-set : (o k : ℕ) (r : List ℕ) → 2 * o + 1 < length r → transit_at o (set_transit o k r) ≡ k % 65536
unfolding set_transit
transit-set o k r h =
    let r1 = set r (2 * o) (k % 256) in
    let p : get_or (set r1 (2 * o + 1) (k / 256 % 256)) (2 * o) 0 ≡ k % 256 = get_or-set_other r1 (2 * o + 1) (2 * o) (k / 256 % 256) 0 (λ q. omega arith) ∙ get_or-set_same r (2 * o) (k % 256) 0 (omega arith) in
    let q : get_or (set r1 (2 * o + 1) (k / 256 % 256)) (2 * o + 1) 0 ≡ k / 256 % 256 = get_or-set_same r1 (2 * o + 1) (k / 256 % 256) 0 (rw length-set (omega arith)) in
    rw (p, q) (omega arith)

pub length-transit : (k : Kind) (o : ℕ) (r : List ℕ) → length (transit_effect k o r) ≡ length r
unfolding transit_effect set_transit
length-transit send o r = simp length-set
length-transit receive o r = simp length-set
length-transit create o r = refl
length-transit delete o r = refl

pub transit_other : (k : Kind) (o : ℕ) (r : List ℕ) (j : ℕ) → ¬ (j ≡ o) → transit_at j (transit_effect k o r) ≡ transit_at j r
unfolding transit_effect
transit_other send o r j d = transit-set_other o _ r j d
transit_other receive o r j d = transit-set_other o _ r j d
transit_other create o r j d = refl
transit_other delete o r j d = refl

-- one up and one down in two bytes
word_up : (x m : ℕ) → x ≤ m → m < 65535 → (x + 1) % 65536 ≡ x + 1
word_up x m l h = omega arith

word_down : (x m : ℕ) → x ≤ m → m < 65535 → 0 < x → (x + 65535) % 65536 ≡ x - 1
word_down x m l h p = omega arith

word_fits : (x m : ℕ) → x ≤ m → m < 65535 → leb ((x + 65535) % 65536) m ≡ ltb 0 x
word_fits x m l h = elim (dec_lt 0 x) [ yes p ↦ rw (lt-ltb 0 x p, word_down x m l h p, le-leb (x - 1) m (omega arith)) | no p ↦ rw (le-ltb 0 x (omega arith), lt-leb ((x + 65535) % 65536) m (omega arith)) ]

-- the count that it changes, where n is small enough for two bytes
module _ (n : ℕ) (few : transit_top n < 65535) (o : ℕ) (r : List ℕ) (h : 2 * o + 1 < length r) (l : transit_at o r ≤ transit_top n) where
  pub transit_up : transit_at o (transit_effect send o r) ≡ transit_at o r + 1
  unfolding transit_effect
  transit_up = transit-set o (transit_at o r + 1) r h ∙ word_up (transit_at o r) (transit_top n) l few

  pub transit_down : 0 < transit_at o r → transit_at o (transit_effect receive o r) ≡ transit_at o r - 1
  unfolding transit_effect
  transit_down q = transit-set o (transit_at o r + 65535) r h ∙ word_down (transit_at o r) (transit_top n) l few q

  pub transit_fits_lem : (k : Kind) → leb (transit_at o (transit_effect k o r)) (transit_top n) ≡ transit_fits n k (transit_at o r)
  unfolding transit_effect
  transit_fits_lem send = rw transit_up (up_fits (transit_at o r) (transit_top n))
  transit_fits_lem receive = rw (transit-set o (transit_at o r + 65535) r h) (word_fits (transit_at o r) (transit_top n) l few)
  transit_fits_lem create = le-leb _ (transit_top n) l
  transit_fits_lem delete = le-leb _ (transit_top n) l

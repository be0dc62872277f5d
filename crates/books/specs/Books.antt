-- The home's books: the limits of counts, a port's row of holdings and its row of transits, what an event does to each when it is
-- heard, the verdict read off them, and the ports standing against retiring. n is the number of ports, which is 8.
-- Assumes nothing.
use Rattle.std.specs.Prelude.{Bool, cond, not, ◌&&◌, ◌||◌, List, ℕ, ◌+◌, ◌-◌, ◌*◌, ◌/◌, ◌%◌, ltb, eqb, get_or, set}
use Rattle.paper.specs.Paper.{Kind, send, receive, create, delete}
use Rattle.books.specs.Numbers.{some, first}

-- objects are 0 to 63, holdings 0 to 200
abbrev pub object_limit : ℕ
object_limit = 64

abbrev pub holding_limit : ℕ
holding_limit = 200

-- a transit is stored plus this, so that the least, -224, is stored as 0; the greatest, 144, as it is stored
abbrev pub transit_zero : ℕ → ℕ
transit_zero n = 32 * (n - 1)

abbrev pub transit_top : ℕ → ℕ
transit_top n = transit_zero n + 16 * (n + 1)

-- o's transit in a port's row, as it is stored: two bytes, low byte first; read and written
abbrev pub transit_at : ℕ → List ℕ → ℕ
transit_at o r = get_or r (2 * o) 0 + 256 * get_or r (2 * o + 1) 0

unfoldable pub set_transit : ℕ → ℕ → List ℕ → List ℕ
set_transit o k r = set (set r (2 * o) (k % 256)) (2 * o + 1) (k / 256 % 256)

-- An event about o is heard: what it does to the row of transits, and to the row of holdings, of the port that it names. A fall from
-- 0 goes as bytes do, to 65,535 and to 255, which are out of range. As an event happens it does the latter to the true holdings too.
unfoldable pub transit_effect : Kind → ℕ → List ℕ → List ℕ
transit_effect send o r = set_transit o (transit_at o r + 1) r
transit_effect receive o r = set_transit o (transit_at o r + 65535) r
transit_effect create o r = r
transit_effect delete o r = r

unfoldable pub holding_effect : Kind → ℕ → List ℕ → List ℕ
holding_effect send o r = r
holding_effect receive o r = set r o (get_or r o 0 + 1)
holding_effect create o r = set r o (get_or r o 0 + 1)
holding_effect delete o r = set r o ((get_or r o 0 + 255) % 256)

-- the books of one object: its home, and of each port its heard holding and its heard transit, as it is stored
module _ (n home : ℕ) (holding transit : ℕ → ℕ) where
  -- 0, in use: a port other than the home has heard holding above 0, or any port heard transit above 0; else 2, early: some heard
  -- transit is below 0; else 1, absent
  unfoldable pub verdict : ℕ
  verdict =
      cond (some n (λ p. not (eqb p home) && ltb 0 (holding p)) || some n (λ p. ltb (transit_zero n) (transit p))) 0
      (cond (some n (λ p. ltb (transit p) (transit_zero n))) 2 1)

  -- p stands against retiring: the home if it holds the object (held is its true holding), another port whose heard holding is
  -- above 0, any port whose heard transit is not 0; and the lowest such port, n if there is none
  unfoldable pub against : ℕ → ℕ → Bool
  against held p = cond (eqb p home) (ltb 0 held) (ltb 0 (holding p)) || not (eqb (transit p) (transit_zero n))

  unfoldable pub lowest_against : ℕ → ℕ
  lowest_against held = first n (against held)

-- What an event does to a row of holdings and to a row of transits, as Table 3's two columns: nothing is cut off where the counts before
-- and after are in range.
-- Assumes nothing.
use mathlib.Core.Path.{◌≡◌, refl, sym, subst, ◌∙◌}
use mathlib.Core.Bool.{Bool, true, false, cond, ◌&&◌}
use mathlib.Core.List.{List}
use Prim.Native.Nat.{ℕ, ◌+◌, ◌*◌, ◌≤◌, ◌<◌}
use native.Mathlib.Omega.{arith}
use native.Mathlib.Decide.{ℕ_discrete}
use lib.Dec.{eqb}
use lib.ListN.{length, get_or}
use borrow.Author.Tests.{eq-eqb, le-leb, ltb-true}
use Rattle.paper.specs.Paper.{Kind, send, receive, create, delete, number, Event}
use Rattle.books.specs.Books.{holding_limit, transit_top, transit_at, holding_effect, transit_effect}
use Rattle.books.proofs.Effects.{holding_up, holding_down, holding_other, transit_up, transit_down, transit_other, transit_fits_lem}
use Rattle.demands.proofs.Events.{one, gain, loss, Names, Proper, one_object}

-- what an event counts of its own object at the port that it names
one_here : (k : Kind) (e : Event) → one k e.object e.names e ≡ cond (eqb (number e.kind) (number k)) 1 0
unfolding one
one_here k e = rw (eq-eqb e.object e.object refl, eq-eqb e.names e.names refl) (go (eqb (number e.kind) (number k)))
  where
    go : (b : Bool) → ◌≡◌ {A = ℕ} (cond (b && true) 1 0) (cond b 1 0)
    go true = refl
    go false = refl

module _ (e : Event) (r : List ℕ) where
  -- its kind and its object
  abbrev k : Kind
  k = e.kind

  abbrev o : ℕ
  o = e.object

  -- the row of holdings of the port that the event names
  module _ (h : o < length r) (low : get_or r o 0 ≤ holding_limit) (kept : get_or (holding_effect k o r) o 0 ≤ holding_limit) where
    -- the object's own count, by kind
    moved : (j : Kind) → get_or r o 0 ≤ holding_limit → get_or (holding_effect j o r) o 0 ≤ holding_limit
        → get_or (holding_effect j o r) o 0 + cond (eqb (number j) (number delete)) 1 0
        ≡ get_or r o 0 + (cond (eqb (number j) (number receive)) 1 0 + cond (eqb (number j) (number create)) 1 0)
    moved send l q = unfold holding_effect in refl
    moved receive l q = unfold holding_effect in omega (arith, holding_up o r h)
    moved create l q = omega (arith, holding_up o r h)
    moved delete l q = omega (arith, holding_down o r h)

    -- every object's count
    pub holding_moves : (x : ℕ) → get_or (holding_effect k o r) x 0 + loss x e.names e ≡ get_or r x 0 + gain x e.names e
    holding_moves x = go (ℕ_discrete o x)
      where
        go : Dec (o ≡ x) → get_or (holding_effect k o r) x 0 + loss x e.names e ≡ get_or r x 0 + gain x e.names e
        go (yes q) = rw (← q, one_here delete e, one_here receive e, one_here create e) (moved k low kept)
        go (no d) = rw (holding_other k o r x (λ q. d (sym q)), one_object delete x e.names e d, one_object receive x e.names e d, one_object create x e.names e d)

    -- and of the port at which it happens, which is that port unless the event is s
    pub held_moves : (n : ℕ) → Proper n e → (x : ℕ) → get_or (holding_effect k o r) x 0 + loss x e.at e ≡ get_or r x 0 + gain x e.at e
    held_moves n w x = go k refl w.names
      where
        there : e.names ≡ e.at → get_or (holding_effect k o r) x 0 + loss x e.at e ≡ get_or r x 0 + gain x e.at e
        there q = subst (λ (y : ℕ). get_or (holding_effect k o r) x 0 + loss x y e ≡ get_or r x 0 + gain x y e) q (holding_moves x)

        go : (j : Kind) → k ≡ j → Names j n e.at e.names → get_or (holding_effect k o r) x 0 + loss x e.at e ≡ get_or r x 0 + gain x e.at e
        go send q p = unfold one holding_effect in rw q
        go receive q p = there p
        go create q p = there p
        go delete q p = there p

  -- the row of transits of that port
  module _ (n : ℕ) (few : transit_top n < 65535) (h : 2 * o + 1 < length r) (low : transit_at o r ≤ transit_top n)
      (kept : transit_at o (transit_effect k o r) ≤ transit_top n) where
    -- the object's own count, by kind
    lowered : (j : Kind) → transit_at o (transit_effect j o r) ≤ transit_top n
        → transit_at o (transit_effect j o r) + cond (eqb (number j) (number receive)) 1 0 ≡ transit_at o r + cond (eqb (number j) (number send)) 1 0
    lowered send q = rw (transit_up n few o r h low) (omega arith)
    lowered receive q =
        let p : 0 < transit_at o r = ltb-true 0 (transit_at o r) (sym (transit_fits_lem n few o r h low receive) ∙ le-leb _ (transit_top n) q) in
        omega (arith, transit_down n few o r h low p)
    lowered create q = unfold transit_effect in refl
    lowered delete q = unfold transit_effect in refl

    -- every object's count
    pub transit_moves : (x : ℕ) → transit_at x (transit_effect k o r) + one receive x e.names e ≡ transit_at x r + one send x e.names e
    transit_moves x = go (ℕ_discrete o x)
      where
        go : Dec (o ≡ x) → transit_at x (transit_effect k o r) + one receive x e.names e ≡ transit_at x r + one send x e.names e
        go (yes q) = rw (← q, one_here receive e, one_here send e) (lowered k kept)
        go (no d) = rw (transit_other k o r x (λ q. d (sym q)), one_object receive x e.names e d, one_object send x e.names e d)

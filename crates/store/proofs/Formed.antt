-- A well formed store as what holds of each of its objects, ports and lanes.
-- Assumes nothing.
use mathlib.Core.Path.{◌≡◌, refl}
use mathlib.Core.Bool.{Bool, true, false, not, ◌&&◌, ◌||◌}
use mathlib.Core.List.{List}
use Prim.Native.Nat.{ℕ, ◌+◌, ◌<◌, ◌≤◌}
use lib.Dec.{leb, eqb}
use lib.ListN.{length}
use borrow.Author.Tests.{leb-true, le-leb, eqb-true, eq-eqb}
use Rattle.books.specs.Numbers.{every}
use Rattle.books.specs.Books.{object_limit, holding_limit, transit_zero, transit_top}
use Rattle.books.proofs.Booleans.{left_true, right_true, both_true}
use Rattle.books.proofs.Numbers.{every_at, every_all}
use Rattle.lanes.specs.Lane.{pointer_width, pointer_places, report_width, report_places, lane_formed}
use Rattle.lanes.proofs.Lane.{LaneForm, lane_means, means_lane}
use Rattle.store.specs.Layout.{objects, pointers, reports, size, read}
use Rattle.store.specs.Store.{holding_formed, transit_formed, pointer_right, report_right, object_byte, held_of, heard_of, transit_of, well_formed}

-- what a right holding and a right transit are, b being the object byte
pub record HoldingForm (p b t h : ℕ) : Type 0 where
  pub held_low : t ≤ holding_limit
  pub heard_low : h ≤ holding_limit
  pub held_free : b ≡ 0 → t ≡ 0
  pub heard_free : b ≡ 0 → h ≡ 0
  pub heard_home : b ≡ p + 1 → h ≡ t

pub record TransitForm (n b x : ℕ) : Type 0 where
  pub transit_low : x ≤ transit_top n
  pub transit_free : b ≡ 0 → x ≡ transit_zero n

-- an implication as a test
if_means : (b k : ℕ) (t : Bool) → (not (eqb b k) || t) ≡ true → b ≡ k → t ≡ true
if_means b k t h e = rw (eq-eqb b k e) at h

means_if : (b k : ℕ) (t : Bool) → (b ≡ k → t ≡ true) → (not (eqb b k) || t) ≡ true
means_if b k t f = go (eqb b k) refl
  where
    go : (x : Bool) → eqb b k ≡ x → (not x || t) ≡ true
    go true e = f (eqb-true b k e)
    go false e = refl

module _ (p b t h : ℕ) where
  abbrev h1 : Bool
  h1 = leb t holding_limit

  abbrev h2 : Bool
  h2 = leb h holding_limit

  abbrev h3 : Bool
  h3 = not (eqb b 0) || eqb t 0 && eqb h 0

  abbrev h4 : Bool
  h4 = not (eqb b (p + 1)) || eqb h t

  pub holding_means : holding_formed p b t h ≡ true → HoldingForm p b t h
  holding_means e =
      let f = if_means b 0 (eqb t 0 && eqb h 0) (right_true (h1 && h2) h3 (left_true (h1 && h2 && h3) h4 e)) in
      record {
        held_low = leb-true t holding_limit (left_true h1 h2 (left_true (h1 && h2) h3 (left_true (h1 && h2 && h3) h4 e)));
        heard_low = leb-true h holding_limit (right_true h1 h2 (left_true (h1 && h2) h3 (left_true (h1 && h2 && h3) h4 e)));
        held_free = λ q. eqb-true t 0 (left_true (eqb t 0) (eqb h 0) (f q));
        heard_free = λ q. eqb-true h 0 (right_true (eqb t 0) (eqb h 0) (f q));
        heard_home = λ q. eqb-true h t (if_means b (p + 1) (eqb h t) (right_true (h1 && h2 && h3) h4 e) q);
      }

  pub means_holding : HoldingForm p b t h → holding_formed p b t h ≡ true
  means_holding f =
      both_true (h1 && h2 && h3) h4
      (both_true (h1 && h2) h3 (both_true h1 h2 (le-leb t holding_limit f.held_low) (le-leb h holding_limit f.heard_low))
      (means_if b 0 (eqb t 0 && eqb h 0) (λ q. both_true (eqb t 0) (eqb h 0) (eq-eqb t 0 (f.held_free q)) (eq-eqb h 0 (f.heard_free q)))))
      (means_if b (p + 1) (eqb h t) (λ q. eq-eqb h t (f.heard_home q)))

module _ (n b x : ℕ) where
  pub transit_means : transit_formed n b x ≡ true → TransitForm n b x
  transit_means e = record {
    transit_low = leb-true x (transit_top n) (left_true (leb x (transit_top n)) (not (eqb b 0) || eqb x (transit_zero n)) e);
    transit_free = λ q. eqb-true x (transit_zero n) (if_means b 0 (eqb x (transit_zero n)) (right_true (leb x (transit_top n)) (not (eqb b 0) || eqb x (transit_zero n)) e) q);
  }

  pub means_transit : TransitForm n b x → transit_formed n b x ≡ true
  means_transit f =
      both_true (leb x (transit_top n)) (not (eqb b 0) || eqb x (transit_zero n)) (le-leb x (transit_top n) f.transit_low)
      (means_if b 0 (eqb x (transit_zero n)) (λ q. eq-eqb x (transit_zero n) (f.transit_free q)))

-- A WELL FORMED STORE
pub record Formed (n : ℕ) (s : List ℕ) : Type 0 where
  pub sized : length s ≡ size n
  pub homes : (o : ℕ) → o < object_limit → object_byte n o s ≤ n
  pub holdings : (p o : ℕ) → p < n → o < object_limit → HoldingForm p (object_byte n o s) (held_of n p o s) (heard_of n p o s)
  pub transits : (p o : ℕ) → p < n → o < object_limit → TransitForm n (object_byte n o s) (transit_of n p o s)
  pub pointer_lanes : (a b : ℕ) → a < n → b < n
      → LaneForm pointer_width pointer_places (eqb a b) (pointer_right (read n objects s)) (read n (pointers a b) s)
  pub report_lanes : (a b : ℕ) → a < n → b < n
      → LaneForm report_width report_places (eqb a b) (report_right n (read n objects s) a b) (read n (reports a b) s)

module _ (n : ℕ) (s : List ℕ) where
  abbrev t1 : Bool
  t1 = eqb (length s) (size n)

  abbrev t2 : Bool
  t2 = every object_limit (λ o. leb (object_byte n o s) n)

  abbrev t3 : Bool
  t3 = every n (λ p. every object_limit (λ o. holding_formed p (object_byte n o s) (held_of n p o s) (heard_of n p o s)))

  abbrev t4 : Bool
  t4 = every n (λ p. every object_limit (λ o. transit_formed n (object_byte n o s) (transit_of n p o s)))

  abbrev t5 : Bool
  t5 = every n (λ a. every n (λ b. lane_formed pointer_width pointer_places (eqb a b) (pointer_right (read n objects s)) (read n (pointers a b) s)))

  abbrev t6 : Bool
  t6 = every n (λ a. every n (λ b. lane_formed report_width report_places (eqb a b) (report_right n (read n objects s) a b) (read n (reports a b) s)))

  pub formed_means : well_formed n s ≡ true → Formed n s
  unfolding well_formed
  formed_means e =
      let e5 = left_true (t1 && t2 && t3 && t4 && t5) t6 e in
      let e4 = left_true (t1 && t2 && t3 && t4) t5 e5 in
      let e3 = left_true (t1 && t2 && t3) t4 e4 in
      let e2 = left_true (t1 && t2) t3 e3 in
      record {
        sized = eqb-true (length s) (size n) (left_true t1 t2 e2);
        homes = λ o h. leb-true _ n (every_at (λ o. leb (object_byte n o s) n) object_limit o (right_true t1 t2 e2) h);
        holdings = λ p o h k. holding_means p _ _ _
            (every_at (λ o. holding_formed p (object_byte n o s) (held_of n p o s) (heard_of n p o s)) object_limit o (every_at _ n p (right_true (t1 && t2) t3 e3) h) k);
        transits = λ p o h k. transit_means n _ _
            (every_at (λ o. transit_formed n (object_byte n o s) (transit_of n p o s)) object_limit o (every_at _ n p (right_true (t1 && t2 && t3) t4 e4) h) k);
        pointer_lanes = λ a b h k. lane_means pointer_width pointer_places (eqb a b) (pointer_right (read n objects s)) (read n (pointers a b) s)
            (every_at (λ b. lane_formed pointer_width pointer_places (eqb a b) (pointer_right (read n objects s)) (read n (pointers a b) s)) n b (every_at _ n a (right_true (t1 && t2 && t3 && t4) t5 e5) h) k);
        report_lanes = λ a b h k. lane_means report_width report_places (eqb a b) (report_right n (read n objects s) a b) (read n (reports a b) s)
            (every_at (λ b. lane_formed report_width report_places (eqb a b) (report_right n (read n objects s) a b) (read n (reports a b) s)) n b (every_at _ n a (right_true (t1 && t2 && t3 && t4 && t5) t6 e) h) k);
      }

  pub means_formed : Formed n s → well_formed n s ≡ true
  unfolding well_formed
  means_formed f =
      both_true (t1 && t2 && t3 && t4 && t5) t6
      (both_true (t1 && t2 && t3 && t4) t5
      (both_true (t1 && t2 && t3) t4
      (both_true (t1 && t2) t3
      (both_true t1 t2 (eq-eqb (length s) (size n) f.sized) (every_all _ object_limit (λ o h. le-leb _ n (f.homes o h))))
      (every_all _ n (λ p h. every_all _ object_limit (λ o k. means_holding p _ _ _ (f.holdings p o h k)))))
      (every_all _ n (λ p h. every_all _ object_limit (λ o k. means_transit n _ _ (f.transits p o h k)))))
      (every_all _ n (λ a h. every_all _ n (λ b k. means_lane pointer_width pointer_places (eqb a b) (pointer_right (read n objects s)) (read n (pointers a b) s) (f.pointer_lanes a b h k)))))
      (every_all _ n (λ a h. every_all _ n (λ b k. means_lane report_width report_places (eqb a b) (report_right n (read n objects s) a b) (read n (reports a b) s) (f.report_lanes a b h k))))

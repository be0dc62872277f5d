-- The checks in the model's words: when each rule of the refusal table does not apply to an act on a well formed store.
-- Assumes nothing.
use mathlib.Core.Path.{◌≡◌, refl, sym, ap, ◌∙◌}
use mathlib.Core.Bool.{Bool, true, false, not, ◌&&◌, ◌||◌, true≢false}
use mathlib.Core.Logic.{◌↔◌}
use mathlib.Core.List.{List}
use Prim.Native.Nat.{ℕ, ◌+◌, ◌-◌, ◌<◌}
use native.Mathlib.Omega.{arith}
use native.Mathlib.Decide.{ℕ_discrete}
use lib.Dec.{leb, eqb}
use lib.ListN.{length}
use borrow.Author.Tests.{leb-false, lt-leb, eqb-false, eq-eqb, ne_eqb}
use Rattle.paper.specs.Paper.{Event}
use Rattle.books.specs.Books.{object_limit, holding_limit}
use Rattle.lanes.specs.Lane.{pointer_places, report_places, count}
use Rattle.lanes.proofs.Entries.{list_length}
use Rattle.store.specs.Layout.{pointers, reports, read}
use Rattle.store.specs.Store.{well_formed, object_byte, held_of}
use Rattle.store.specs.Store as Store
use Rattle.store.proofs.Frame.{lane_inside, view_in}
use Rattle.machine.specs.Acts.{Act, row_of, is, HEAR}
use Rattle.machine.specs.Effects.{lowest_free, event_in}
use Rattle.machine.specs.Machine.{rule}
use Rattle.demands.proofs.Model.{M, on_way, lowest}
use Rattle.demands.proofs.Steps.{Tellable}
use Rattle.demands.proofs.Bridge.{model, owner_is, held_is}
use Rattle.demands.proofs.BridgeCounts.{way_is, lowest_is}
use Rattle.demands.proofs.BridgeFormed.{owner-low}

-- two tests neither of which holds
or_false : (a b : Bool) → ((a || b) ≡ false) ↔ ((a ≡ false) × (b ≡ false))
or_false true b = (λ e. absurd (true≢false e), λ e. e.0)
or_false false b = (λ e. (refl, e), λ e. e.1)

-- a number is not another; a number is below another
differs : (x y z : ℕ) → z ≡ x → (eqb x y ≡ false) ↔ ¬ (z ≡ y)
differs x y z q = (λ e r. eqb-false x y e (sym q ∙ r), λ d. ne_eqb x y (λ r. d (q ∙ r)))

under : (x y z : ℕ) → z ≡ x → (leb y x ≡ false) ↔ (z < y)
under x y z q = (λ e. rw q (leb-false y x e), λ d. lt-leb y x (rw q at d))

module _ (n : ℕ) (s : List ℕ) (a : Act) where
  -- the store's model
  abbrev m : M
  m = model n s

  -- 3, of an act that names port A alone, or both ports
  pub port_check : (row_of a).names_a ≡ true → (row_of a).names_b ≡ false → (rule n a s 3 ≡ false) ↔ (a.A < n)
  unfolding rule
  port_check p q = rw (p, q) (
    λ e. leb-false n a.A ((or_false (leb n a.A) false).0 e).0,
    λ h. (or_false (leb n a.A) false).1 (lt-leb n a.A h, refl),
  )

  pub ports_check : (row_of a).names_a ≡ true → (row_of a).names_b ≡ true → (rule n a s 3 ≡ false) ↔ ((a.A < n) × (a.B < n))
  unfolding rule
  ports_check p q = rw (p, q) (
    λ e. (let k = (or_false (leb n a.A) (leb n a.B)).0 e in (leb-false n a.A k.0, leb-false n a.B k.1)),
    λ h. (or_false (leb n a.A) (leb n a.B)).1 (lt-leb n a.A h.0, lt-leb n a.B h.1),
  )

  -- 4 and 5
  pub object_check : (rule n a s 4 ≡ false) ↔ (a.o < object_limit)
  unfolding rule
  object_check = under a.o object_limit a.o refl

  pub used_check : (rule n a s 5 ≡ false) ↔ ¬ (m.owner a.o ≡ 0)
  unfolding rule
  used_check = twice (object_byte n a.o s) (owner_is n s a.o)
    where
      twice : (x : ℕ) → m.owner a.o ≡ x → (not (not (eqb x 0)) ≡ false) ↔ ¬ (m.owner a.o ≡ 0)
      twice x q = (λ e r. absurd (true≢false (sym (ap (λ (b : Bool). not (not b)) (eq-eqb x 0 (sym q ∙ r))) ∙ e)), λ d. rw (ne_eqb x 0 (λ r. d (q ∙ r))))

  -- 6
  pub apart_check : (rule n a s 6 ≡ false) ↔ ¬ (a.A ≡ a.B)
  unfolding rule
  apart_check = differs a.A a.B a.A refl

  -- 7 and 8
  pub holds_check : a.A < n → (rule n a s 7 ≡ false) ↔ ¬ (m.held a.A a.o ≡ 0)
  unfolding rule
  holds_check h = differs (held_of n a.A a.o s) 0 (m.held a.A a.o) (held_is n s a.A a.o h)

  -- 8, of the port p that would gain one
  pub room_check : (p : ℕ) → p < n → (event_in n a s).names ≡ p → (rule n a s 8 ≡ false) ↔ (m.held p a.o + on_way n m.pointers p a.o < holding_limit)
  unfolding rule
  room_check p h q = rw q (under (held_of n p a.o s + Store.on_way n p a.o s) holding_limit (m.held p a.o + on_way n m.pointers p a.o) (rw (held_is n s p a.o h, way_is n s p a.o h)))

  -- 9, of a pointer lane and of a report lane; 10
  module _ (ha : a.A < n) (hb : a.B < n) where
    -- the lanes named are as long as they say
    pointers-long : length (m.pointers a.A a.B) ≡ count (read n (pointers a.A a.B) s)
    pointers-long = rw (view_in n (pointers a.A a.B) s (lane_inside n a.A a.B ha hb)) (list_length _ _)

    reports-long : length (m.reports a.A a.B) ≡ count (read n (reports a.A a.B) s)
    reports-long = rw (view_in n (reports a.A a.B) s (lane_inside n a.A a.B ha hb)) (list_length _ _)

    -- 9, of a delivery and of a hearing
    pub pointer_check : is HEAR a ≡ false → (rule n a s 9 ≡ false) ↔ ¬ (length (m.pointers a.A a.B) ≡ 0)
    unfolding rule
    pointer_check q = rw q (differs _ 0 (length (m.pointers a.A a.B)) pointers-long)

    pub report_check : is HEAR a ≡ true → (rule n a s 9 ≡ false) ↔ ¬ (length (m.reports a.A a.B) ≡ 0)
    unfolding rule
    report_check q = rw q (differs _ 0 (length (m.reports a.A a.B)) reports-long)

    -- 10
    pub place_check : (rule n a s 10 ≡ false) ↔ ¬ (length (m.pointers a.A a.B) ≡ pointer_places)
    unfolding rule
    place_check = differs _ pointer_places (length (m.pointers a.A a.B)) pointers-long

  -- 12
  pub free_check : (rule n a s 12 ≡ false) ↔ ¬ (lowest m ≡ object_limit)
  unfolding rule
  free_check = differs (lowest_free n s) object_limit (lowest m) (lowest_is n s)

  -- 11, of an event at a port about an object in use
  module _ (formed : well_formed n s ≡ true) (e : Event) (is-e : event_in n a s ≡ e) (port : e.at < n) (used : ¬ (m.owner e.object ≡ 0)) where
    -- the object's byte
    abbrev b : ℕ
    b = object_byte n e.object s

    -- the report lane to its home is as long as it says
    lane_long : (h : ℕ) → m.owner e.object ≡ h + 1 → length (m.reports e.at h) ≡ count (read n (reports e.at h) s)
    lane_long h q = rw (view_in n (reports e.at h) s (lane_inside n e.at h port (omega (arith, owner-low n s formed e.object)))) (list_length _ _)

    -- the acting port is the home, or that lane has a place
    pub told_check : (rule n a s 11 ≡ false) ↔ Tellable e m
    unfolding rule
    told_check = rw is-e (only, back (ℕ_discrete b (e.at + 1)))
      where
        only : (not (eqb b (e.at + 1)) && eqb (count (read n (reports e.at (b - 1)) s)) report_places) ≡ false → Tellable e m
        only t h q d full =
            let z : b ≡ h + 1 = sym (owner_is n s e.object) ∙ q in
            let y : h + 1 - 1 ≡ h = omega arith in
            let u : eqb (count (read n (reports e.at h) s)) report_places ≡ false = rw (z, ne_eqb (h + 1) (e.at + 1) (λ r. d (omega arith)), y) at t in
            eqb-false _ report_places u (sym (lane_long h q) ∙ full)

        back : Dec (b ≡ e.at + 1) → Tellable e m → (not (eqb b (e.at + 1)) && eqb (count (read n (reports e.at (b - 1)) s)) report_places) ≡ false
        back (yes q) t = rw (eq-eqb b (e.at + 1) q)
        back (no d) t =
            let o = owner_is n s e.object in
            let q : m.owner e.object ≡ b - 1 + 1 = omega (arith, o) in
            rw (ne_eqb b (e.at + 1) d) (ne_eqb _ report_places (λ full. t (b - 1) q (λ r. d (omega (arith, o))) (lane_long (b - 1) q ∙ full)))

-- A hearing keeps what every home looks at, and what it lowers stands above 0.
-- Assumes nothing.
use mathlib.Core.Path.{◌≡◌, sym, ap, ◌∙◌}
use mathlib.Core.List.{List, [], ◌∷◌, nil≢cons}
use Prim.Native.Nat.{ℕ, ◌+◌, ◌≤◌, ◌<◌}
use native.Mathlib.Omega.{arith}
use native.Mathlib.Decide.{ℕ_discrete, dec_lt}
use Rattle.paper.specs.Paper.{send, receive, create, delete, Event}
use Rattle.books.specs.Books.{holding_limit, transit_zero}
use Rattle.demands.proofs.Lists.{All, all_map, total, total_more}
use Rattle.demands.proofs.Order.{from, front_at, front-has, without, without_same, without_other, all_without, total-without}
use Rattle.demands.proofs.Order.{Fine, fine_more, fine_head, fine_tail, fine_early}
use Rattle.demands.proofs.Events.{one, gain, loss, Proper, transit_count, holder_count, room_count, at_other, kinds_le, one_object}
use Rattle.demands.proofs.Model.{M, on_way, Heard}
use Rattle.demands.proofs.Home.{Home, untouched_home}

-- e is the oldest report from A to h, a home; l are the others
module _ (n A h : ℕ) (m : M) (i : Home n h m) {e : Event} {l : List Event} (lane : m.reports A h ≡ e ∷ l) where
  front : from A i.order ≡ e ∷ l
  front = sym (i.lanes A) ∙ lane

  -- it is about an object of this home, happened at A, and can be
  pub oldest-named : m.owner e.object ≡ h + 1
  oldest-named = front-has (λ f. m.owner f.object ≡ h + 1) A i.order front i.named

  pub oldest_at : e.at ≡ A
  oldest_at = front_at A i.order front

  pub oldest_proper : Proper n e
  oldest_proper = front-has (Proper n) A i.order front i.proper

  -- a report of another lane that lowers the transit that e lowers: there is none
  apart : (o B : ℕ) → All (λ f. ¬ (f.at ≡ A) → 0 < one receive o B f → one receive o B e ≡ 0) i.order
  apart o B = all_map _ _ i.order one_lane i.proper
    where
      one_lane : (f : Event) → Proper n f → ¬ (f.at ≡ A) → 0 < one receive o B f → one receive o B e ≡ 0
      one_lane f p d k = go (ℕ_discrete f.at B)
        where
          go : Dec (f.at ≡ B) → one receive o B e ≡ 0
          go (no r) = absurd (omega (arith, k, (at_other n o B f p r).0))
          go (yes r) = (at_other n o B e oldest_proper (λ q. d (r ∙ sym q ∙ oldest_at))).0

  module _ (m' : M) (t : Heard A h e m m') (rest : m'.reports A h ≡ l) where
    mine : (o : ℕ) → m'.owner o ≡ h + 1 → m.owner o ≡ h + 1
    mine o w = sym (t.owner o) ∙ w

    other : (X o : ℕ) → ¬ (X ≡ A) → (one receive o X e ≡ 0) × (one create o X e ≡ 0) × (one delete o X e ≡ 0)
    other X o d = at_other n o X e oldest_proper (λ q. d (sym q ∙ oldest_at))

    still : (X : ℕ) → ¬ (X ≡ A) → m'.reports X h ≡ m.reports X h
    still X d = t.taken.rest X h (λ k. d k.0)

    pub hear_home : Home n h m'
    hear_home = record {
      order = without A i.order;
      lanes = λ X. lanes X (ℕ_discrete X A);
      quiet = quiet (ℕ_discrete h A);
      named = all_without A _ i.order (all_map _ _ i.order (λ f w. t.owner f.object ∙ w) i.named);
      proper = all_without A _ i.order i.proper;
      ear = λ X o w. ear X o (mine o w) (ℕ_discrete X A);
      holder = λ X o w. holder X o (mine o w) (ℕ_discrete X A);
      room = λ X o w. room X o (mine o w) (ℕ_discrete X A);
      holding = λ X o w. holding X o (mine o w) (ℕ_discrete X A);
      transits = λ B o w. fine_more (transit_count o B) (without A i.order) (m.transit B o + one send o B e) (transit_zero n + one receive o B e)
          (m'.transit B o) (transit_zero n) (omega (arith, t.books.transit B o))
          (fine_early (transit_count o B) A i.order (m.transit B o) (transit_zero n) front (apart o B) (i.transits B o (mine o w)));
      travel = λ B o w. rw (way B o) (omega (
        arith,
        i.travel B o (mine o w),
        t.books.transit B o,
        total-without A (one send o B) i.order front,
        total-without A (one receive o B) i.order front,
      ));
    }
      where
        way : (B o : ℕ) → on_way n m'.pointers B o ≡ on_way n m.pointers B o
        way B o = unfold on_way in simp t.pointers

        lanes : (X : ℕ) → Dec (X ≡ A) → m'.reports X h ≡ from X (without A i.order)
        lanes X (yes q) = rw q (rest ∙ sym (without_same A i.order front))
        lanes X (no d) = still X d ∙ i.lanes X ∙ sym (without_other A X i.order d)

        quiet : Dec (h ≡ A) → m'.reports h h ≡ []
        quiet (yes q) = absurd (nil≢cons (sym i.quiet ∙ ap (λ (X : ℕ). m.reports X h) q ∙ lane))
        quiet (no d) = still h d ∙ i.quiet

        ear : (X o : ℕ) → m.owner o ≡ h + 1 → Dec (X ≡ A) → m'.heard X o ≤ holding_limit
        ear X o w (no d) = (let z = other X o d in omega (arith, i.ear X o w, t.books.heard X o, z.0, z.1))
        ear X o w (yes q) = go (dec_lt 0 (gain o X e))
          where
            go : Dec (0 < gain o X e) → m'.heard X o ≤ holding_limit
            go (no k) = omega (arith, i.ear X o w, t.books.heard X o)
            go (yes k) = (let r : m.heard X o < holding_limit = fine_head (room_count o X) e l holding_limit (m.heard X o)
                (rw (ap (λ (Y : ℕ). m.reports Y h) q ∙ lane) at (i.room X o w)) k in
                omega (arith, t.books.heard X o, kinds_le o X e))

        holder : (X o : ℕ) → m.owner o ≡ h + 1 → Dec (X ≡ A) → Fine (holder_count o X) (m'.heard X o) 0 (m'.reports X h)
        holder X o w (no d) = (let z = other X o d in rw (still X d) (fine_more (holder_count o X) (m.reports X h) (m.heard X o) 0 (m'.heard X o) 0
            (omega (arith, t.books.heard X o, z.0, z.1, z.2)) (i.holder X o w)))
        holder X o w (yes q) = rw (ap (λ (Y : ℕ). m'.reports Y h) q ∙ rest)
            (fine_more (holder_count o X) l (m.heard X o + gain o X e) (0 + loss o X e) (m'.heard X o) 0 (omega (arith, t.books.heard X o))
            (fine_tail (holder_count o X) e l (m.heard X o) 0 (rw (ap (λ (Y : ℕ). m.reports Y h) q ∙ lane) at (i.holder X o w))))

        room : (X o : ℕ) → m.owner o ≡ h + 1 → Dec (X ≡ A) → Fine (room_count o X) holding_limit (m'.heard X o) (m'.reports X h)
        room X o w (no d) = (let z = other X o d in rw (still X d) (fine_more (room_count o X) (m.reports X h) holding_limit (m.heard X o) holding_limit (m'.heard X o)
            (omega (arith, t.books.heard X o, z.0, z.1, z.2)) (i.room X o w)))
        room X o w (yes q) = rw (ap (λ (Y : ℕ). m'.reports Y h) q ∙ rest)
            (fine_more (room_count o X) l (holding_limit + loss o X e) (m.heard X o + gain o X e) holding_limit (m'.heard X o) (omega (arith, t.books.heard X o))
            (fine_tail (room_count o X) e l holding_limit (m.heard X o) (rw (ap (λ (Y : ℕ). m.reports Y h) q ∙ lane) at (i.room X o w))))

        holding : (X o : ℕ) → m.owner o ≡ h + 1 → Dec (X ≡ A)
            → m'.heard X o + total (gain o X) (m'.reports X h) ≡ m'.held X o + total (loss o X) (m'.reports X h)
        holding X o w (no d) = (let z = other X o d in rw (still X d) (omega (arith, t.books.heard X o, t.held X o, i.holding X o w, z.0, z.1, z.2)))
        holding X o w (yes q) = rw (ap (λ (Y : ℕ). m'.reports Y h) q ∙ rest) (omega (
          arith,
          t.books.heard X o,
          t.held X o,
          rw (ap (λ (Y : ℕ). m.reports Y h) q ∙ lane) at (i.holding X o w),
          total_more (gain o X) e l,
          total_more (loss o X) e l,
        ))

-- another home looks at nothing that the hearing changes
pub hear_other : (n A h k : ℕ) (e : Event) (m m' : M) → Home n h m → Home n k m → Heard A h e m m' → ¬ (k ≡ h) → Home n k m'
hear_other n A h k e m m' i j t d = untouched_home n k m m' (record {
  kept = λ o w. sym (t.owner o) ∙ w;
  named = λ o w. t.owner o ∙ w;
  held = λ p o w. t.held p o;
  heard = λ p o w. (let r = other o w in
      omega (arith, t.books.heard p o, one_object receive o p e r, one_object create o p e r, one_object delete o p e r));
  transit = λ p o w. (let r = other o w in omega (arith, t.books.transit p o, one_object receive o p e r, one_object send o p e r));
  way = λ p o w. unfold on_way in simp t.pointers;
  reports = λ X. t.taken.rest X k (λ r. d r.1);
}) j
  where
    other : (o : ℕ) → m.owner o ≡ k + 1 → ¬ (e.object ≡ o)
    other o w q = d (omega (arith, w, rw q at (oldest-named n A h m i t.taken.here)))

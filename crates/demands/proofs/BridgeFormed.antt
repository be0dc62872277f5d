-- What a well formed store says of its model: counts in range, owners, and what stands on the lanes.
-- Assumes nothing.
use mathlib.Core.Path.{◌≡◌, refl, sym, ◌∙◌}
use mathlib.Core.Bool.{true, false, ◌&&◌, and-false}
use mathlib.Core.List.{List, [], ◌∷◌}
use Prim.Native.Nat.{ℕ, ◌+◌, ◌*◌, ◌≤◌, ◌<◌}
use native.Mathlib.Omega.{arith}
use native.Mathlib.Decide.{dec_lt}
use lib.Dec.{eqb, ltb}
use lib.ListN.{length, get_or, get_or-eq_default}
use borrow.Author.Tests.{lt-ltb, le-ltb, eqb-false, not-true}
use Rattle.paper.specs.Paper.{Event}
use Rattle.books.specs.Books.{object_limit, transit_zero}
use Rattle.lanes.specs.Lane.{pointer_places, report_places, pointer_width, report_width, count, entry, taken}
use Rattle.lanes.proofs.Lane.{LaneForm}
use Rattle.lanes.proofs.Entries.{entries-taken}
use Rattle.store.specs.Layout.{Stretch, objects, held, heard, transit, pointers, reports}
use Rattle.store.specs.Store.{reported, object_byte, well_formed, pointer_right, report_right}
use Rattle.store.proofs.Frame.{port-inside, lane_inside, view, view_in, Viewed, viewed, read_viewed}
use Rattle.store.proofs.Formed.{Formed, formed_means}
use Rattle.demands.proofs.Events.{Proper}
use Rattle.demands.proofs.Bridge.{model, pointers_in, reports_in, long_viewed, row-long, view_out, owner_is, held_is, heard_is, transit_is}
use Rattle.demands.proofs.BridgeReports.{reported_home, reported-low, reported_proper}
use Rattle.demands.proofs.BridgeEvents.{Ranged}

module _ (n : ℕ) (s : List ℕ) (formed : well_formed n s ≡ true) where
  -- what it says, and that its stretches are its own
  abbrev form : Formed n s
  form = formed_means n s formed

  abbrev pub seen : Viewed n s (view n s)
  seen = viewed n s form.sized

  -- its counts are in range
  pub ranged : (v : Stretch → List ℕ) → Viewed n s v → Ranged n v
  ranged v k = record {
    held = λ p o h l. rw (← read_viewed n (held p) s v k (port-inside n p h)) (form.holdings p o h l).held_low;
    heard = λ p o h l. rw (← read_viewed n (heard p) s v k (port-inside n p h)) (form.holdings p o h l).heard_low;
    transit = λ p o h l. rw (← read_viewed n (transit p) s v k (port-inside n p h)) (form.transits p o h l).transit_low;
  }

  -- an object that has an owner is an object, and its owner a port's number plus 1
  pub owned-low : (o : ℕ) → ¬ ((model n s).owner o ≡ 0) → o < object_limit
  owned-low o d = go (dec_lt o object_limit)
    where
      go : Dec (o < object_limit) → o < object_limit
      go (yes k) = k
      go (no k) = absurd (d (get_or-eq_default (view n s objects) 0 (omega (arith, long_viewed n s (view n s) seen objects refl))))

  pub owner-low : (o : ℕ) → (model n s).owner o ≤ n
  owner-low o = go (dec_lt o object_limit)
    where
      go : Dec (o < object_limit) → (model n s).owner o ≤ n
      go (yes k) = rw (owner_is n s o) (form.homes o k)
      go (no k) = rw (get_or-eq_default (view n s objects) 0 {n = o} (omega (arith, long_viewed n s (view n s) seen objects refl))) (omega arith)

  -- a number that is no object's has no counts
  past : (l : List ℕ) (o : ℕ) → length l ≡ object_limit → ¬ (o < object_limit) → get_or l o 0 ≡ 0
  past l o q d = get_or-eq_default l 0 {n = o} (omega arith)

  -- a free object has no counts, at any port
  module _ (p o : ℕ) (free : (model n s).owner o ≡ 0) where
    -- its byte is 0
    byte_free : object_byte n o s ≡ 0
    byte_free = sym (owner_is n s o) ∙ free

    -- its true holding, its heard holding and its transit
    pub held_free_lem : (model n s).held p o ≡ 0
    held_free_lem = go (dec_lt p n) (dec_lt o object_limit)
      where
        go : Dec (p < n) → Dec (o < object_limit) → (model n s).held p o ≡ 0
        go (yes h) (yes k) = held_is n s p o h ∙ (form.holdings p o h k).held_free byte_free
        go (yes h) (no k) = past (view n s (held p)) o (row-long n s (view n s) seen p h).0 k
        go (no h) k = rw (view_out n (held p) s (le-ltb p n (omega arith)))

    pub heard_free_lem : (model n s).heard p o ≡ 0
    heard_free_lem = go (dec_lt p n) (dec_lt o object_limit)
      where
        go : Dec (p < n) → Dec (o < object_limit) → (model n s).heard p o ≡ 0
        go (yes h) (yes k) = heard_is n s p o h ∙ (form.holdings p o h k).heard_free byte_free
        go (yes h) (no k) = past (view n s (heard p)) o (row-long n s (view n s) seen p h).1 k
        go (no h) k = rw (view_out n (heard p) s (le-ltb p n (omega arith)))

    pub transit_free_lem : (model n s).transit p o ≡ transit_zero n
    transit_free_lem = go (dec_lt p n) (dec_lt o object_limit)
      where
        go : Dec (p < n) → Dec (o < object_limit) → (model n s).transit p o ≡ transit_zero n
        go (yes h) (yes k) = transit_is n s p o h k ∙ (form.transits p o h k).transit_free byte_free
        go (yes h) (no k) = rw (lt-ltb p n h, le-ltb o object_limit (omega arith))
        go (no h) k = rw (le-ltb p n (omega arith))

  -- a lane that the store has not is empty
  no_lane : (A B : ℕ) → ¬ ((A < n) × (B < n)) → (ltb B n && ltb A n) ≡ false
  no_lane A B d = go (dec_lt A n) (dec_lt B n)
    where
      go : Dec (A < n) → Dec (B < n) → (ltb B n && ltb A n) ≡ false
      go (yes h) (yes k) = absurd (d (h, k))
      go (yes h) (no k) = rw (le-ltb B n (omega arith))
      go (no h) k = rw (le-ltb A n (omega arith), and-false (ltb B n))

  pub pointers_out : (A B : ℕ) → ¬ ((A < n) × (B < n)) → view n s (pointers A B) ≡ []
  pointers_out A B d = view_out n (pointers A B) s (no_lane A B d)

  pub reports_out : (A B : ℕ) → ¬ ((A < n) × (B < n)) → view n s (reports A B) ≡ []
  reports_out A B d = view_out n (reports A B) s (no_lane A B d)

  -- so no report lane is longer than its places
  pub reports_short : (A B : ℕ) → count (view n s (reports A B)) ≤ report_places
  reports_short A B = go (dec_lt A n) (dec_lt B n)
    where
      go : Dec (A < n) → Dec (B < n) → count (view n s (reports A B)) ≤ report_places
      go (yes h) (yes k) = rw (view_in n (reports A B) s (lane_inside n A B h k)) (form.report_lanes A B h k).few
      go (yes h) (no k) = rw (reports_out A B (λ t. k t.1)) (omega arith)
      go (no h) k = rw (reports_out A B (λ t. h t.0)) (omega arith)

  module _ (A B : ℕ) (ha : A < n) (hb : B < n) where
    -- the form of the lanes from A to B
    pub pointers_lane : LaneForm pointer_width pointer_places (eqb A B) (pointer_right (view n s objects)) (view n s (pointers A B))
    pointers_lane = rw (view_in n (pointers A B) s (lane_inside n A B ha hb), view_in n objects s refl) (form.pointer_lanes A B ha hb)

    pub reports_lane : LaneForm report_width report_places (eqb A B) (report_right n (view n s objects) A B) (view n s (reports A B))
    reports_lane = rw (view_in n (reports A B) s (lane_inside n A B ha hb), view_in n objects s refl) (form.report_lanes A B ha hb)

    -- their bytes
    pub pointers-long : length (view n s (pointers A B)) ≡ 1 + pointer_width * pointer_places
    pointers-long = long_viewed n s (view n s) seen (pointers A B) (lane_inside n A B ha hb)

    pub reports-long : length (view n s (reports A B)) ≡ 1 + report_width * report_places
    reports-long = long_viewed n s (view n s) seen (reports A B) (lane_inside n A B ha hb)

    -- a lane that has an entry: the oldest, then the others
    pub pointers-front : 0 < count (view n s (pointers A B))
        → (model n s).pointers A B ≡ get_or (entry pointer_width 0 (view n s (pointers A B))) 0 0 ∷ pointers_in (taken pointer_width (view n s (pointers A B)))
    pointers-front k = entries-taken pointer_width (λ e. get_or e 0 0) pointer_places (view n s (pointers A B)) pointers-long pointers_lane.few k

    pub reports-front : 0 < count (view n s (reports A B))
        → (model n s).reports A B ≡ reported A (entry report_width 0 (view n s (reports A B))) ∷ reports_in A (taken report_width (view n s (reports A B)))
    reports-front k = entries-taken report_width (reported A) report_places (view n s (reports A B)) reports-long reports_lane.few k

    -- the oldest pointer is to an object in use
    pub oldest-used : 0 < count (view n s (pointers A B)) → ¬ ((model n s).owner (get_or (entry pointer_width 0 (view n s (pointers A B))) 0 0) ≡ 0)
    oldest-used k = eqb-false _ 0 (not-true _ (pointers_lane.all 0 k))

    -- the oldest report is of an object of B's, and of an event that can be
    module _ (k : 0 < count (view n s (reports A B))) where
      -- its event
      abbrev oldest : Event
      oldest = reported A (entry report_width 0 (view n s (reports A B)))

      -- its bytes are right
      right : report_right n (view n s objects) A B (entry report_width 0 (view n s (reports A B))) ≡ true
      right = reports_lane.all 0 k

      -- the event can be, its object is an object, and B is its home
      pub oldest_proper : Proper n oldest
      oldest_proper = reported_proper n A B (view n s objects) (entry report_width 0 (view n s (reports A B))) right ha

      pub oldest-low : oldest.object < object_limit
      oldest-low = reported-low n A B (view n s objects) (entry report_width 0 (view n s (reports A B))) right

      pub oldest_home : (model n s).owner oldest.object ≡ B + 1
      oldest_home = reported_home n A B (view n s objects) (entry report_width 0 (view n s (reports A B))) right

-- The bridge from bytes to the model: what a store says, read stretch by stretch, as the model. A port that is none has nothing, and
-- neither has a number that is no object.
-- Assumes nothing.
use mathlib.Core.Path.{◌≡◌, refl, sym, ap, ◌∙◌}
use mathlib.Core.Bool.{true, false, cond, ◌&&◌}
use mathlib.Core.List.{List, []}
use Prim.Native.Nat.{ℕ, ◌*◌, ◌<◌}
use lib.Dec.{ltb}
use lib.ListN.{length, get_or}
use borrow.Author.Tests.{lt-ltb}
use Rattle.paper.specs.Paper.{Event}
use Rattle.books.specs.Books.{object_limit, transit_zero, transit_at}
use Rattle.lanes.specs.Lane.{pointer_width, report_width}
use Rattle.lanes.proofs.Entries.{entries}
use Rattle.store.specs.Layout.{Stretch, objects, held, heard, transit, pointers, reports, long}
use Rattle.store.specs.Store.{reported, object_byte, held_of, heard_of, transit_of}
use Rattle.store.proofs.Frame.{inside, port-inside, lane_inside, read-long, view, view_in, Viewed, read_viewed}
use Rattle.demands.specs.Demands.{pointers_on, reports_on}
use Rattle.demands.proofs.Model.{M}

-- the objects that a pointer lane's bytes name, and the events that the bytes of a report lane from port a report
abbrev pub pointers_in : List ℕ → List ℕ
pointers_in l = entries pointer_width (λ e. get_or e 0 0) l

abbrev pub reports_in : ℕ → List ℕ → List Event
reports_in a l = entries report_width (reported a) l

module _ (n : ℕ) where
  -- what the stretches v say; what a store says
  abbrev pub model_of : (Stretch → List ℕ) → M
  model_of v = record {
    owner = λ o. get_or (v objects) o 0;
    held = λ p o. get_or (v (held p)) o 0;
    heard = λ p o. get_or (v (heard p)) o 0;
    transit = λ p o. cond (ltb p n && ltb o object_limit) (transit_at o (v (transit p))) (transit_zero n);
    pointers = λ A B. pointers_in (v (pointers A B));
    reports = λ A B. reports_in A (v (reports A B));
  }

  abbrev pub model : List ℕ → M
  model s = model_of (view n s)

  -- the model of a store whose stretches are v
  pub model_viewed : (s : List ℕ) (v : Stretch → List ℕ) → Viewed n s v → model s ≡ model_of v
  model_viewed s v k = ap model_of k.seen

  -- a stretch of the view is as long as the stretch
  pub long_viewed : (s : List ℕ) (v : Stretch → List ℕ) → Viewed n s v → (c : Stretch) → inside n c ≡ true → length (v c) ≡ long n c
  long_viewed s v k c h = ap length (sym (read_viewed n c s v k h)) ∙ read-long n c s k.sized h

  -- so are a port's rows
  pub row-long : (s : List ℕ) (v : Stretch → List ℕ) → Viewed n s v → (p : ℕ) → p < n
      → (length (v (held p)) ≡ object_limit) × (length (v (heard p)) ≡ object_limit) × (length (v (transit p)) ≡ 2 * object_limit)
  row-long s v k p h =
      let i = port-inside n p h in
      (long_viewed s v k (held p) i, long_viewed s v k (heard p) i, long_viewed s v k (transit p) i)

  -- nothing stands in a stretch that the store has not
  pub view_out : (c : Stretch) (s : List ℕ) → inside n c ≡ false → view n s c ≡ []
  unfolding view
  view_out c s h = rw h

  -- THE READERS, in the model's words
  module _ (s : List ℕ) where
    -- an object's owner is its object byte
    pub owner_is : (o : ℕ) → (model s).owner o ≡ object_byte n o s
    owner_is o = rw (view_in n objects s refl)

    -- a port's true holding, heard holding and heard transit of an object
    pub held_is : (p o : ℕ) → p < n → (model s).held p o ≡ held_of n p o s
    held_is p o h = rw (view_in n (held p) s (port-inside n p h))

    pub heard_is : (p o : ℕ) → p < n → (model s).heard p o ≡ heard_of n p o s
    heard_is p o h = rw (view_in n (heard p) s (port-inside n p h))

    pub transit_is : (p o : ℕ) → p < n → o < object_limit → (model s).transit p o ≡ transit_of n p o s
    transit_is p o h l = rw (lt-ltb p n h, lt-ltb o object_limit l, view_in n (transit p) s (port-inside n p h))

    -- what stands on the lanes from one port to another
    pub pointers_are_lem : (A B : ℕ) → A < n → B < n → (model s).pointers A B ≡ pointers_on n A B s
    pointers_are_lem A B h k = rw (view_in n (pointers A B) s (lane_inside n A B h k))

    pub reports_are_lem : (A B : ℕ) → A < n → B < n → (model s).reports A B ≡ reports_on n A B s
    reports_are_lem A B h k = rw (view_in n (reports A B) s (lane_inside n A B h k))

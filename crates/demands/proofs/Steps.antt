-- The acts on the model: what document 01's refusals leave, 1 and 14 apart, what an act that is taken does, and the models that acts
-- reach from a fresh one.
-- Assumes nothing.
use mathlib.Core.Path.{◌≡◌}
use mathlib.Core.List.{List, [], ◌∷◌}
use Prim.Native.Nat.{ℕ, ◌+◌, ◌<◌}
use lib.ListN.{length}
use Rattle.paper.specs.Paper.{Event, receive, create, delete}
use Rattle.books.specs.Books.{object_limit, holding_limit, transit_zero}
use Rattle.lanes.specs.Lane.{pointer_places, report_places}
use Rattle.machine.specs.Acts.{Act, Name, MAKE, SEND, COPY, DROP, DELIVER, HEAR, ASK, RETIRE, SETTLE, HOLD, act, event, sending}
use Rattle.demands.proofs.Model.{M, on_way, lowest, Effect}

-- not 11: the acting port is the home, or its report lane to the home has a place
abbrev pub Tellable : Event → M → Type 0
Tellable e m = (h : ℕ) → m.owner e.object ≡ h + 1 → ¬ (e.at ≡ h) → ¬ (length (m.reports e.at h) ≡ report_places)

module _ (n : ℕ) where
  -- not 4 and 5: the number is an object's, which is in use
  pub record Used (o : ℕ) (m : M) : Type 0 where
    pub numbered : o < object_limit
    pub owned : ¬ (m.owner o ≡ 0)

  -- not 3 12
  pub record MayMake (A : ℕ) (m : M) : Type 0 where
    pub port : A < n
    pub free : ¬ (lowest m ≡ object_limit)

  -- not 3 4 5 6 7 8 10 11
  pub record MaySend (A o B : ℕ) (m : M) : Type 0 where
    pub sender : A < n
    pub receiver : B < n
    pub used : Used o m
    pub apart : ¬ (A ≡ B)
    pub holds : ¬ (m.held A o ≡ 0)
    pub room : m.held B o + on_way n m.pointers B o < holding_limit
    pub place : ¬ (length (m.pointers A B) ≡ pointer_places)
    pub told : Tellable (sending o A B) m

  -- not 3 4 5 7 8 11
  pub record MayCopy (A o : ℕ) (m : M) : Type 0 where
    pub port : A < n
    pub used : Used o m
    pub holds : ¬ (m.held A o ≡ 0)
    pub room : m.held A o + on_way n m.pointers A o < holding_limit
    pub told : Tellable (event create o A) m

  -- not 3 4 5 7 11
  pub record MayDrop (A o : ℕ) (m : M) : Type 0 where
    pub port : A < n
    pub used : Used o m
    pub holds : ¬ (m.held A o ≡ 0)
    pub told : Tellable (event delete o A) m

  -- not 3 6 9 11
  pub record MayDeliver (A B : ℕ) (m : M) : Type 0 where
    pub sender : A < n
    pub receiver : B < n
    pub apart : ¬ (A ≡ B)
    pub waits : ¬ (length (m.pointers A B) ≡ 0)
    pub told : (x : ℕ) (l : List ℕ) → m.pointers A B ≡ x ∷ l → Tellable (event receive x B) m

  -- not 3 6 9
  pub record MayHear (A B : ℕ) (m : M) : Type 0 where
    pub sender : A < n
    pub receiver : B < n
    pub apart : ¬ (A ≡ B)
    pub waits : ¬ (length (m.reports A B) ≡ 0)

  -- not 4 5 13: the home does not hold the object, no other port has a heard holding, every heard transit is 0
  pub record MayRetire (o : ℕ) (m : M) : Type 0 where
    pub used : Used o m
    pub home : (h : ℕ) → m.owner o ≡ h + 1 → m.held h o ≡ 0
    pub away : (h p : ℕ) → m.owner o ≡ h + 1 → p < n → ¬ (p ≡ h) → m.heard p o ≡ 0
    pub moved : (p : ℕ) → p < n → m.transit p o ≡ transit_zero n

  -- what the refusals leave of an act
  abbrev pub Guard : Name → ℕ → ℕ → ℕ → M → Type 0
  Guard MAKE A o B m = MayMake A m
  Guard SEND A o B m = MaySend A o B m
  Guard COPY A o B m = MayCopy A o m
  Guard DROP A o B m = MayDrop A o m
  Guard DELIVER A o B m = MayDeliver A B m
  Guard HEAR A o B m = MayHear A B m
  Guard ASK A o B m = Used o m
  Guard RETIRE A o B m = MayRetire o m
  Guard SETTLE A o B m = Unit {0}
  Guard HOLD A o B m = (A < n) × Used o m

  -- an act that is taken
  pub data Step (m : M) : Act → M → Type 0 where
    step : {m' : M} (k : Name) (A o B : ℕ) → Guard k A o B m → Effect k A o B m m' → Step m (act k A o B) m'

  -- a model with no objects, no entries and all counts 0
  pub record Fresh (m : M) : Type 0 where
    pub owner : (o : ℕ) → m.owner o ≡ 0
    pub held : (p o : ℕ) → m.held p o ≡ 0
    pub heard : (p o : ℕ) → m.heard p o ≡ 0
    pub transit : (p o : ℕ) → m.transit p o ≡ transit_zero n
    pub pointers : (A B : ℕ) → m.pointers A B ≡ []
    pub reports : (A B : ℕ) → m.reports A B ≡ []

  -- the acts that were taken, the latest first, and a model that they reach
  pub data Reached : List Act → M → Type 0 where
    begin : {m : M} → Fresh m → Reached [] m
    next : {acts : List Act} {m m' : M} {a : Act} → Reached acts m → Step m a m' → Reached (a ∷ acts) m'

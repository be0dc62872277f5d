-- The model of a store of n ports: what its bytes say, as numbers and lists; and what an event, a hearing and each act do to it. Each is
-- stated as equations between the model before and the model after, so that nothing is cut off at 0: what an event lowers stands on
-- the side of the model after.
-- Assumes nothing.
use mathlib.Core.Path.{◌≡◌}
use mathlib.Core.List.{List, [], ◌∷◌, ◌++◌}
use Prim.Native.Nat.{ℕ, ◌+◌}
use lib.Dec.{eqb}
use lib.ListN.{length}
use Rattle.paper.specs.Paper.{send, receive, create, delete, Event}
use Rattle.books.specs.Numbers.{first, sum_to}
use Rattle.books.specs.Books.{object_limit}
use Rattle.machine.specs.Acts.{Name, MAKE, SEND, COPY, DROP, DELIVER, HEAR, ASK, RETIRE, SETTLE, HOLD, event, sending}
use Rattle.demands.specs.History.{those}
use Rattle.demands.proofs.Events.{one, gain, loss}

-- An object's owner, 0 if it is free, else home plus 1; a port's true holding, heard holding and heard transit (as it is stored) of an
-- object; the objects on the pointer lane and the events on the report lane from one port to another, the oldest first.
pub record M : Type 0 where
  pub owner : ℕ → ℕ
  pub held : ℕ → ℕ → ℕ
  pub heard : ℕ → ℕ → ℕ
  pub transit : ℕ → ℕ → ℕ
  pub pointers : ℕ → ℕ → List ℕ
  pub reports : ℕ → ℕ → List Event

-- lanes between ports; all lanes stay as they are
abbrev pub Lanes : Type 0 → Type 0
Lanes E = ℕ → ℕ → List E

abbrev pub SameLanes : {E : Type 0} → Lanes E → Lanes E → Type 0
SameLanes f g = (A B : ℕ) → g A B ≡ f A B

-- x goes to the end of the lane from A to B; x, the oldest there, is taken from it; no other lane changes
pub record Added {E : Type 0} (A B : ℕ) (x : E) (f g : Lanes E) : Type 0 where
  pub here : g A B ≡ f A B ++ (x ∷ [])
  pub rest : (X Y : ℕ) → ¬ ((X ≡ A) × (Y ≡ B)) → g X Y ≡ f X Y

pub record Taken {E : Type 0} (A B : ℕ) (x : E) (f g : Lanes E) : Type 0 where
  pub here : f A B ≡ x ∷ g A B
  pub rest : (X Y : ℕ) → ¬ ((X ≡ A) × (Y ≡ B)) → g X Y ≡ f X Y

-- the pointers to o on all lanes to port p
unfoldable pub on_way : ℕ → Lanes ℕ → ℕ → ℕ → ℕ
on_way n f p o = sum_to n (λ A. length (those (λ x. eqb x o) (f A p)))

-- the lowest free object number, or 64
abbrev pub lowest : M → ℕ
lowest m = first object_limit (λ o. eqb (m.owner o) 0)

-- event e is heard: Table 3's two columns; the books stay as they are
pub record Hears (e : Event) (m m' : M) : Type 0 where
  pub heard : (p o : ℕ) → m'.heard p o + loss o p e ≡ m.heard p o + gain o p e
  pub transit : (p o : ℕ) → m'.transit p o + one receive o p e ≡ m.transit p o + one send o p e

pub record Deaf (m m' : M) : Type 0 where
  pub heard : (p o : ℕ) → m'.heard p o ≡ m.heard p o
  pub transit : (p o : ℕ) → m'.transit p o ≡ m.transit p o

-- Event e happens and is told: its effect on the true holdings; at the home it is heard at once; elsewhere it goes to the end of the
-- report lane to the home. The pointer lanes are not spoken of: an act changes them in its own way.
pub record Happens (e : Event) (m m' : M) : Type 0 where
  pub owner : (o : ℕ) → m'.owner o ≡ m.owner o
  pub held : (p o : ℕ) → m'.held p o + loss o p e ≡ m.held p o + gain o p e
  pub home : m.owner e.object ≡ e.at + 1 → Hears e m m'
  pub away : ¬ (m.owner e.object ≡ e.at + 1) → Deaf m m'
  pub put : (h : ℕ) → m.owner e.object ≡ h + 1 → ¬ (e.at ≡ h) → m'.reports e.at h ≡ m.reports e.at h ++ (e ∷ [])
  pub rest : (A B : ℕ) → ¬ ((A ≡ e.at) × (m.owner e.object ≡ B + 1) × ¬ (A ≡ B)) → m'.reports A B ≡ m.reports A B

-- o's owner becomes b, and nothing else changes; nothing changes
pub record Owned (o b : ℕ) (m m' : M) : Type 0 where
  pub here : m'.owner o ≡ b
  pub rest : (q : ℕ) → ¬ (q ≡ o) → m'.owner q ≡ m.owner q
  pub held : (p q : ℕ) → m'.held p q ≡ m.held p q
  pub books : Deaf m m'
  pub pointers : SameLanes m.pointers m'.pointers
  pub reports : SameLanes m.reports m'.reports

pub record Same (m m' : M) : Type 0 where
  pub owner : (o : ℕ) → m'.owner o ≡ m.owner o
  pub held : (p o : ℕ) → m'.held p o ≡ m.held p o
  pub books : Deaf m m'
  pub pointers : SameLanes m.pointers m'.pointers
  pub reports : SameLanes m.reports m'.reports

-- the oldest report e from A is heard at B
pub record Heard (A B : ℕ) (e : Event) (m m' : M) : Type 0 where
  pub owner : (o : ℕ) → m'.owner o ≡ m.owner o
  pub held : (p o : ℕ) → m'.held p o ≡ m.held p o
  pub pointers : SameLanes m.pointers m'.pointers
  pub taken : Taken A B e m.reports m'.reports
  pub books : Hears e m m'

-- MAKE changes the owner of a free object first; then the object's creation happens at its home
pub record Made (A x : ℕ) (m m' : M) : Type 0 where
  pub between : M
  pub owned : Owned x (A + 1) m between
  pub happens : Happens (event create x A) between m'
  pub pointers : SameLanes between.pointers m'.pointers

-- what an act that is taken does
abbrev pub Effect : Name → ℕ → ℕ → ℕ → M → M → Type 0
Effect MAKE A o B m m' = Made A (lowest m) m m'
Effect SEND A o B m m' = Added A B o m.pointers m'.pointers × Happens (sending o A B) m m'
Effect COPY A o B m m' = SameLanes m.pointers m'.pointers × Happens (event create o A) m m'
Effect DROP A o B m m' = SameLanes m.pointers m'.pointers × Happens (event delete o A) m m'
Effect DELIVER A o B m m' = (x : ℕ) × Taken A B x m.pointers m'.pointers × Happens (event receive x B) m m'
Effect HEAR A o B m m' = (e : Event) × Heard A B e m m'
Effect ASK A o B m m' = Same m m'
Effect RETIRE A o B m m' = Owned o 0 m m'
Effect SETTLE A o B m m' = Same m m'
Effect HOLD A o B m m' = Same m m'

-- What the refusals leave of an act is enough for its event: lanes with a pointer more or less, room, and that the event can happen.
-- Assumes nothing.
use mathlib.Core.Path.{◌≡◌, refl, sym, ◌∙◌}
use mathlib.Core.List.{◌∷◌}
use Prim.Native.Nat.{ℕ, ◌+◌, ◌≤◌, ◌<◌}
use native.Mathlib.Omega.{arith}
use native.Mathlib.Decide.{ℕ_discrete, dec_lt}
use lib.Dec.{eqb}
use lib.ListN.{length, length-append}
use borrow.Author.Tests.{eqb-true}
use Rattle.paper.specs.Paper.{send, receive, create, delete, Event}
use Rattle.books.proofs.Numbers.{first-most, first_at}
use Rattle.books.specs.Books.{object_limit, holding_limit}
use Rattle.lanes.specs.Lane.{pointer_places, report_places}
use Rattle.machine.specs.Acts.{SEND, COPY, DROP, DELIVER, event, sending}
use Rattle.demands.proofs.Events.{one, kinds_le, one_kind, one_concerns}
use Rattle.demands.proofs.Model.{M, Lanes, SameLanes, Added, Taken, on_way, lowest, Effect}
use Rattle.demands.proofs.Home.{Can}
use Rattle.demands.proofs.Sums.{added_way, taken_way}
use Rattle.demands.proofs.Core.{Laned, Core}
use Rattle.demands.proofs.Steps.{Tellable, MaySend, MayCopy, MayDrop, MayDeliver}

-- a port's true holding of an object and the pointers on the way to it are together within the limit
abbrev pub Room : ℕ → M → Type 0
Room n m = (p o : ℕ) → m.held p o + on_way n m.pointers p o ≤ holding_limit

-- pointer lanes of which one, between two ports, changes within its range
module _ (n A B : ℕ) (f g : Lanes ℕ) (w : Laned n f) (la : A < n) (lb : B < n) (d : ¬ (A ≡ B)) (rest : (X Y : ℕ) → ¬ ((X ≡ A) × (Y ≡ B)) → g X Y ≡ f X Y) where
  laned_changed : length (g A B) ≤ pointer_places → Laned n g
  laned_changed k = record {
    narrow = λ X Y. narrow X Y (ℕ_discrete X A) (ℕ_discrete Y B);
    self = λ X. rest X X (λ t. d (sym t.0 ∙ t.1)) ∙ w.self X;
    sender = λ X Y l. rest X Y (λ t. omega (arith, t.0)) ∙ w.sender X Y l;
    receiver = λ X Y l. rest X Y (λ t. omega (arith, t.1)) ∙ w.receiver X Y l;
  }
    where
      narrow : (X Y : ℕ) → Dec (X ≡ A) → Dec (Y ≡ B) → length (g X Y) ≤ pointer_places
      narrow X Y (no r) s = rw (rest X Y (λ t. r t.0)) (w.narrow X Y)
      narrow X Y (yes q) (no r) = rw (rest X Y (λ t. r t.1)) (w.narrow X Y)
      narrow X Y (yes q) (yes r) = rw (q, r) k

-- with a pointer more, or less
module _ (n A B x : ℕ) (f g : Lanes ℕ) (w : Laned n f) (la : A < n) (lb : B < n) (d : ¬ (A ≡ B)) where
  pub laned_added : ¬ (length (f A B) ≡ pointer_places) → Added A B x f g → Laned n g
  laned_added place t = laned_changed n A B f g w la lb d t.rest (rw (t.here, length-append) (omega (arith, w.narrow A B)))

  pub laned_taken : Taken A B x f g → Laned n g
  laned_taken t = laned_changed n A B f g w la lb d t.rest (let k : length (x ∷ g A B) ≤ pointer_places = rw t.here at (w.narrow A B) in omega arith)

module _ (n : ℕ) where
  pub lowest_free_lem : (m : M) → ¬ (lowest m ≡ object_limit) → (lowest m < object_limit) × (m.owner (lowest m) ≡ 0)
  lowest_free_lem m d =
      let l : lowest m < object_limit = omega (arith, first-most (λ o. eqb (m.owner o) 0) object_limit) in
      (l, eqb-true (m.owner (lowest m)) 0 (first_at (λ o. eqb (m.owner o) 0) object_limit l))

  -- room after an event: only a creation and a sending ask for it
  pub room-event : (e : Event) (m m' : M) → Can n e m m' → Room n m
      → ((p o : ℕ) → 0 < one create o p e + one send o p e → m.held p o + on_way n m.pointers p o < holding_limit) → Room n m'
  room-event e m m' c r k p o = go (dec_lt 0 (one create o p e + one send o p e))
    where
      go : Dec (0 < one create o p e + one send o p e) → m'.held p o + on_way n m'.pointers p o ≤ holding_limit
      go (yes t) = omega (arith, k p o t, c.happens.held p o, c.moves p o, kinds_le o p e)
      go (no t) = omega (arith, r p o, c.happens.held p o, c.moves p o)

  -- of an object in use and of room on the report lane
  pub place : (e : Event) (m : M) → Core n m → Tellable e m → (h : ℕ) → m.owner e.object ≡ h + 1 → ¬ (e.at ≡ h) → length (m.reports e.at h) < report_places
  place e m g t h q d = (let k : ¬ (length (m.reports e.at h) ≡ report_places) = t h q d in omega (arith, g.short e.at h))

  pub same_way : (m m' : M) → SameLanes m.pointers m'.pointers → (p o : ℕ) → on_way n m'.pointers p o ≡ on_way n m.pointers p o
  same_way m m' s p o = unfold on_way in simp s

  -- the four events of acts can happen
  pub send_can : (A o B : ℕ) (m m' : M) → MaySend n A o B m → Effect SEND A o B m m' → Can n (sending o A B) m m'
  send_can A o B m m' w t = record {
    proper = record { port = w.sender; names = (w.receiver, λ q. w.apart (sym q)) };
    able = λ d k. (let z : ¬ (m.held A o ≡ 0) = w.holds in omega arith);
    fits = λ p q k. absurd (omega (arith, k, one_kind receive q p (sending o A B) (λ z. omega arith), one_kind create q p (sending o A B) (λ z. omega arith)));
    moves = λ p q. omega (arith, added_way n A B o m.pointers m'.pointers w.sender t.0 p q, one_kind receive q p (sending o A B) (λ z. omega arith));
    happens = t.1;
  }

  pub copy_can : (A o B : ℕ) (m m' : M) → MayCopy n A o m → Effect COPY A o B m m' → Can n (event create o A) m m'
  copy_can A o B m m' w t = record {
    proper = record { port = w.port; names = refl };
    able = λ d k. (let z : ¬ (m.held A o ≡ 0) = w.holds in omega arith);
    fits = λ p q k. (let c = one_concerns create q p (event create o A) (omega (arith, k, one_kind receive q p (event create o A) (λ z. omega arith))) in
        rw (← c.0, ← c.1) (omega (arith, w.room)));
    moves = λ p q. omega (arith, same_way m m' t.0 p q, one_kind receive q p (event create o A) (λ z. omega arith), one_kind send q p (event create o A) (λ z. omega arith));
    happens = t.1;
  }

  pub drop_can : (A o B : ℕ) (m m' : M) → MayDrop n A o m → Effect DROP A o B m m' → Can n (event delete o A) m m'
  drop_can A o B m m' w t = record {
    proper = record { port = w.port; names = refl };
    able = λ d k. (let z : ¬ (m.held A o ≡ 0) = w.holds in omega arith);
    fits = λ p q k. absurd (omega (arith, k, one_kind receive q p (event delete o A) (λ z. omega arith), one_kind create q p (event delete o A) (λ z. omega arith)));
    moves = λ p q. omega (arith, same_way m m' t.0 p q, one_kind receive q p (event delete o A) (λ z. omega arith), one_kind send q p (event delete o A) (λ z. omega arith));
    happens = t.1;
  }

  pub deliver_can : (A o B : ℕ) (m m' : M) → Room n m → MayDeliver n A B m → (t : Effect DELIVER A o B m m') → Can n (event receive t.0 B) m m'
  deliver_can A o B m m' r w t = record {
    proper = record { port = w.receiver; names = refl };
    able = λ d k. absurd k.0;
    fits = λ p q k. omega (arith, k, r p q, way p q, one_kind create q p (event receive t.0 B) (λ z. omega arith));
    moves = λ p q. omega (arith, way p q, one_kind send q p (event receive t.0 B) (λ z. omega arith));
    happens = t.2;
  }
    where
      way : (p q : ℕ) → on_way n m'.pointers p q + one receive q p (event receive t.0 B) ≡ on_way n m.pointers p q
      way = taken_way n A B t.0 m.pointers m'.pointers w.sender t.1

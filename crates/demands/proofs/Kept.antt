-- Every act keeps Core and room, so all that well formed asks holds of every model that acts reach: refusal 14 is never met.
-- Assumes nothing.
use mathlib.Core.Path.{◌≡◌, refl, sym, ap, ◌∙◌}
use mathlib.Core.List.{List, []}
use Prim.Native.Nat.{ℕ, zero, suc, ◌+◌, ◌≤◌, ◌<◌}
use native.Mathlib.Omega.{arith}
use native.Mathlib.Decide.{ℕ_discrete, dec_lt}
use lib.Dec.{eqb}
use lib.ListN.{length}
use Rattle.paper.specs.Paper.{send, receive, create, delete, Event}
use Rattle.machine.specs.Acts.{Act, Name, MAKE, SEND, COPY, DROP, DELIVER, HEAR, ASK, RETIRE, SETTLE, HOLD, event, sending}
use Rattle.demands.specs.History.{those}
use Rattle.demands.proofs.Lists.{all_nil, all_map}
use Rattle.demands.proofs.Events.{one_kind, one_self, one_concerns}
use Rattle.demands.proofs.Model.{M, Lanes, Taken, on_way, lowest, Owned, Same, Made, Effect}
use Rattle.demands.proofs.Home.{Can, untouched_home, home_hears_itself}
use Rattle.demands.proofs.Absent.{Absent, Gone, Unnamed, Bare, absent_unnamed, absent_gone}
use Rattle.demands.proofs.Sums.{taken_way, sum_zero}
use Rattle.demands.proofs.Core.{Laned, laned_same, Core, event_core, hear_core, owned_core}
use Rattle.demands.proofs.Steps.{Guard, MayMake, MayRetire, step, Fresh, Reached, begin, next}
use Rattle.demands.proofs.Acts.{Room, laned_added, laned_taken, lowest_free_lem, room-event, place, same_way, send_can, copy_can, drop_can, deliver_can}

-- what every act keeps
pub record Kept (n : ℕ) (m : M) : Type 0 where
  pub core : Core n m
  pub room : Room n m

-- nothing is on the way to a port that is none
outside_way : (n : ℕ) (f : Lanes ℕ) → Laned n f → (p o : ℕ) → n ≤ p → on_way n f p o ≡ 0
unfolding on_way
outside_way n f w p o l = sum_zero n (λ A. length (those (λ x. eqb x o) (f A p))) (λ A k. rw (w.receiver A p l) (unfold those in refl))

module _ (n : ℕ) where
  -- an object whose pointer waits is in use
  pub waiting_used : (A B x : ℕ) (m : M) (g : Lanes ℕ) → Core n m → A < n → Taken A B x m.pointers g → ¬ (m.owner x ≡ 0)
  waiting_used A B x m g c l t q =
      omega (arith, taken_way n A B x m.pointers g l t B x, (c.clean x q B).3, one_self receive (event receive x B) refl)

  made : (A : ℕ) (m m' : M) → Kept n m → MayMake n A m → Made A (lowest m) m m' → Kept n m'
  made A m m' k w t = record {
    core = event_core n e m₁ m' core₁ can (λ q. omega (arith, q, t.owned.here)) (λ h q d. absurd (d (omega (arith, q, t.owned.here))))
        (laned_same n m₁.pointers m'.pointers t.pointers core₁.lanes);
    room = room-event n e m₁ m' can (λ p o. omega (arith, t.owned.held p o, same_way n m m₁ t.owned.pointers p o, k.room p o))
        (λ p o r. (let b = bare p in let c = one_concerns create o p e (omega (arith, r, one_kind send o p e (λ z. omega arith))) in
        rw (← c.0) (omega (arith, b.0, b.3))));
  }
    where
      e : Event
      e = event create (lowest m) A

      m₁ : M
      m₁ = t.between

      free : m.owner (lowest m) ≡ 0
      free = (lowest_free_lem n m w.free).1

      core₁ : Core n m₁
      core₁ = owned_core n (lowest m) (A + 1) m m₁ k.core t.owned (omega (arith, w.port)) (k.core.clean (lowest m) free)
          (λ h. all_map _ _ (k.core.home h).order (λ f q r. omega (arith, q, free, ap m.owner r)) (k.core.home h).named)

      bare : (p : ℕ) → Bare n p (lowest m) m₁
      bare p = (let b = k.core.clean (lowest m) free p in (
        t.owned.held p (lowest m) ∙ b.0,
        t.owned.books.heard p (lowest m) ∙ b.1,
        t.owned.books.transit p (lowest m) ∙ b.2,
        same_way n m m₁ t.owned.pointers p (lowest m) ∙ b.3,
      ))

      can : Can n e m₁ m'
      can = record {
        proper = record { port = w.port; names = refl };
        able = λ d r. absurd (d t.owned.here);
        fits = λ p o r. (let c = one_concerns create o p e (omega (arith, r, one_kind receive o p e (λ z. omega arith))) in rw (← c.0) (omega (arith, (bare p).0)));
        moves = λ p o. omega (arith, same_way n m₁ m' t.pointers p o, one_kind receive o p e (λ z. omega arith), one_kind send o p e (λ z. omega arith));
        happens = t.happens;
      }

  retired : (o : ℕ) (m m' : M) → Kept n m → MayRetire n o m → Owned o 0 m m' → Kept n m'
  retired o m m' k w t = go (m.owner o) refl
    where
      room : Room n m'
      room p q = omega (arith, t.held p q, same_way n m m' t.pointers p q, k.room p q)

      go : (x : ℕ) → m.owner o ≡ x → Kept n m'
      go zero q = absurd (w.used.owned q)
      go (suc h) q = record { core = owned_core n o 0 m m' k.core t (omega arith) (λ p. bare p (dec_lt p n) (ℕ_discrete p h)) (λ j. all j (ℕ_discrete j h)); room = room }
        where
          mine : m.owner o ≡ h + 1
          mine = omega arith

          absent : Absent n h o m
          absent = record { away = λ X l d. w.away h X mine l d; none = λ B l. omega (arith, w.moved B l) }

          gone : Gone n h o m
          gone = absent_gone n h o m (k.core.home h) mine absent

          bare : (p : ℕ) → Dec (p < n) → Dec (p ≡ h) → Bare n p o m
          bare p (yes l) (yes r) = (
            ap (λ (x : ℕ). m.held x o) r ∙ w.home h mine,
            ap (λ (x : ℕ). m.heard x o) r ∙ home_hears_itself n h m (k.core.home h) o mine ∙ w.home h mine,
            w.moved p l,
            gone.none p l,
          )
          bare p (yes l) (no d) = (gone.away p l d, w.away h p mine l d, w.moved p l, gone.none p l)
          bare p (no l) r = (let v = k.core.outside p o (omega arith) in (v.0, v.1, v.2, outside_way n m.pointers k.core.lanes p o (omega arith)))

          all : (j : ℕ) → Dec (j ≡ h) → Unnamed o (k.core.home j).order
          all j (yes r) = rw r (absent_unnamed n h o m (k.core.home h) mine absent)
          all j (no d) = all_map _ _ (k.core.home j).order (λ f v s. d (omega (arith, v, mine, ap m.owner s))) (k.core.home j).named

  same : (m m' : M) → Kept n m → Same m m' → Kept n m'
  same m m' k t = record {
    core = record {
      home = λ h. untouched_home n h m m' (record {
        kept = λ o w. sym (t.owner o) ∙ w;
        named = λ o w. t.owner o ∙ w;
        held = λ p o w. t.held p o;
        heard = λ p o w. t.books.heard p o;
        transit = λ p o w. t.books.transit p o;
        way = λ p o w. same_way n m m' t.pointers p o;
        reports = λ X. t.reports X h;
      }) (k.core.home h);
      owners = λ o. omega (arith, t.owner o, k.core.owners o);
      clean = λ o w p. (let b = k.core.clean o (sym (t.owner o) ∙ w) p in
          (t.held p o ∙ b.0, t.books.heard p o ∙ b.1, t.books.transit p o ∙ b.2, same_way n m m' t.pointers p o ∙ b.3));
      outside = λ p o l. (let v = k.core.outside p o l in (t.held p o ∙ v.0, t.books.heard p o ∙ v.1, t.books.transit p o ∙ v.2));
      top = λ p o. rw (t.held p o) (k.core.top p o);
      short = λ A B. rw (t.reports A B) (k.core.short A B);
      lanes = laned_same n m.pointers m'.pointers t.pointers k.core.lanes;
    };
    room = λ p o. omega (arith, t.held p o, same_way n m m' t.pointers p o, k.room p o);
  }

  -- an act that is taken keeps all
  pub act_kept : (k : Name) (A o B : ℕ) (m m' : M) → Guard n k A o B m → Effect k A o B m m' → Kept n m → Kept n m'
  act_kept MAKE A o B m m' w t k = made A m m' k w t
  act_kept SEND A o B m m' w t k = record {
    core = event_core n (sending o A B) m m' k.core (send_can n A o B m m' w t) w.used.owned (place n (sending o A B) m k.core w.told)
        (laned_added n A B o m.pointers m'.pointers k.core.lanes w.sender w.receiver w.apart w.place t.0);
    room = room-event n (sending o A B) m m' (send_can n A o B m m' w t) k.room
        (λ p q r. (let c = one_concerns send q p (sending o A B) (omega (arith, r, one_kind create q p (sending o A B) (λ z. omega arith))) in rw (← c.0, ← c.1) w.room));
  }
  act_kept COPY A o B m m' w t k = record {
    core = event_core n (event create o A) m m' k.core (copy_can n A o B m m' w t) w.used.owned (place n (event create o A) m k.core w.told)
        (laned_same n m.pointers m'.pointers t.0 k.core.lanes);
    room = room-event n (event create o A) m m' (copy_can n A o B m m' w t) k.room
        (λ p q r. (let c = one_concerns create q p (event create o A) (omega (arith, r, one_kind send q p (event create o A) (λ z. omega arith))) in rw (← c.0, ← c.1) w.room));
  }
  act_kept DROP A o B m m' w t k = record {
    core = event_core n (event delete o A) m m' k.core (drop_can n A o B m m' w t) w.used.owned (place n (event delete o A) m k.core w.told)
        (laned_same n m.pointers m'.pointers t.0 k.core.lanes);
    room = room-event n (event delete o A) m m' (drop_can n A o B m m' w t) k.room
        (λ p q r. absurd (omega (arith, r, one_kind create q p (event delete o A) (λ z. omega arith), one_kind send q p (event delete o A) (λ z. omega arith))));
  }
  act_kept DELIVER A o B m m' w t k = record {
    core = event_core n (event receive t.0 B) m m' k.core (deliver_can n A o B m m' k.room w t) (waiting_used A B t.0 m m'.pointers k.core w.sender t.1)
        (place n (event receive t.0 B) m k.core (w.told t.0 (m'.pointers A B) t.1.here))
        (laned_taken n A B t.0 m.pointers m'.pointers k.core.lanes w.sender w.receiver w.apart t.1);
    room = room-event n (event receive t.0 B) m m' (deliver_can n A o B m m' k.room w t) k.room
        (λ p q r. absurd (omega (arith, r, one_kind create q p (event receive t.0 B) (λ z. omega arith), one_kind send q p (event receive t.0 B) (λ z. omega arith))));
  }
  act_kept HEAR A o B m m' w t k = record {
    core = hear_core n A B t.0 m m' k.core t.1;
    room = λ p q. omega (arith, t.1.held p q, same_way n m m' t.1.pointers p q, k.room p q);
  }
  act_kept ASK A o B m m' w t k = same m m' k t
  act_kept RETIRE A o B m m' w t k = retired o m m' k w t
  act_kept SETTLE A o B m m' w t k = same m m' k t
  act_kept HOLD A o B m m' w t k = same m m' k t

  fresh_kept : (m : M) → Fresh n m → Kept n m
  fresh_kept m f = record {
    core = record {
      home = λ h. record {
        order = [];
        lanes = λ X. f.reports X h ∙ sym (unfold those in refl);
        quiet = f.reports h h;
        named = all_nil _;
        proper = all_nil _;
        ear = λ X o w. omega (arith, f.heard X o);
        holder = λ X o w. absurd (omega (arith, w, f.owner o));
        room = λ X o w. absurd (omega (arith, w, f.owner o));
        holding = λ X o w. absurd (omega (arith, w, f.owner o));
        transits = λ B o w. absurd (omega (arith, w, f.owner o));
        travel = λ B o w. absurd (omega (arith, w, f.owner o));
      };
      owners = λ o. omega (arith, f.owner o);
      clean = λ o w p. (f.held p o, f.heard p o, f.transit p o, way p o);
      outside = λ p o l. (f.held p o, f.heard p o, f.transit p o);
      top = λ p o. omega (arith, f.held p o);
      short = λ A B. rw (f.reports A B) (omega arith);
      lanes = record {
        narrow = λ A B. rw (f.pointers A B) (omega arith);
        self = λ A. f.pointers A A;
        sender = λ A B l. f.pointers A B;
        receiver = λ A B l. f.pointers A B;
      };
    };
    room = λ p o. omega (arith, f.held p o, way p o);
  }
    where
      way : (p o : ℕ) → on_way n m.pointers p o ≡ 0
      way p o = unfold on_way in sum_zero n (λ A. length (those (λ x. eqb x o) (m.pointers A p))) (λ A k. rw (f.pointers A p) (unfold those in refl))

  pub reached_kept : (acts : List Act) (m : M) → Reached n acts m → Kept n m
  reached_kept acts m (begin f) = fresh_kept m f
  reached_kept acts m (next {acts = before} {m = m₀} r (step k A o B w t)) = act_kept k A o B m₀ m w t (reached_kept before m₀ r)

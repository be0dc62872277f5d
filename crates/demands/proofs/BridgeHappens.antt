-- What an event that is heard, or that happens, makes of the stretches is what it makes of the model.
-- Assumes nothing.
use mathlib.Core.Path.{◌≡◌, refl, sym, ap, ◌∙◌}
use mathlib.Core.Bool.{cond, ◌&&◌}
use mathlib.Core.List.{List, [], ◌∷◌, ◌++◌}
use Prim.Native.Nat.{ℕ, ◌+◌, ◌*◌, ◌≤◌, ◌<◌}
use native.Mathlib.Omega.{arith}
use native.Mathlib.Decide.{ℕ_discrete, dec_lt}
use lib.Dec.{ltb, eqb}
use lib.ListN.{length, get_or}
use borrow.Author.Tests.{eq-eqb, ne_eqb, lt-ltb, le-ltb}
use Rattle.paper.specs.Paper.{send, receive, create, delete, Event}
use Rattle.books.specs.Books.{object_limit, holding_limit, transit_zero, transit_top, transit_at, holding_effect, transit_effect}
use Rattle.lanes.specs.Lane.{report_places, report_width, count}
use Rattle.lanes.proofs.Entries.{entries-added}
use Rattle.store.specs.Layout.{Stretch, objects, held, heard, transit, reports}
use Rattle.store.specs.Store.{report, reported}
use Rattle.store.proofs.Frame.{lane_inside, upd, Viewed}
use Rattle.machine.specs.Effects.{happens}
use Rattle.demands.proofs.Events.{one, gain, loss, Proper, at_other, names-port, one_object, one_names}
use Rattle.demands.proofs.Model.{SameLanes, Hears, Happens}
use Rattle.demands.proofs.History.{at_lane, off_lane}
use Rattle.demands.proofs.Bridge.{model_of, long_viewed, row-long, reports_in}
use Rattle.demands.proofs.BridgeReports.{reported-report}
use Rattle.demands.proofs.BridgeRows.{holding_moves, held_moves, transit_moves}
use Rattle.demands.proofs.BridgeEvents.{Ranged, heard_in, held_in, told_in, held_viewed, happens_home, happens-away}

module _ (n : ℕ) (few : transit_top n < 65535) (s : List ℕ) (v : Stretch → List ℕ) (seen : Viewed n s v) (e : Event) (proper : Proper n e)
    (low : e.object < object_limit) (before : Ranged n v) where
  -- the port that it names, and its own
  abbrev p : ℕ
  p = e.names

  abbrev a : ℕ
  a = e.at

  -- AN EVENT IS HEARD
  module _ (after : Ranged n (heard_in n e v)) where
    -- the heard holdings, and the transits
    hears-heard : (q x : ℕ) → (model_of n (heard_in n e v)).heard q x + loss x q e ≡ (model_of n v).heard q x + gain x q e
    unfolding upd
    hears-heard q x = go (ℕ_discrete p q)
      where
        l : length (v (heard p)) ≡ object_limit
        l = (row-long n s v seen p (names-port n e proper)).1

        kept : get_or (holding_effect e.kind e.object (v (heard p))) e.object 0 ≤ holding_limit
        kept = rw (eq-eqb p p refl) at (after.heard p e.object (names-port n e proper) low)

        go : Dec (p ≡ q) → get_or (cond (eqb p q) (holding_effect e.kind e.object (v (heard p))) (v (heard q))) x 0 + loss x q e ≡ get_or (v (heard q)) x 0 + gain x q e
        go (yes r) = rw (← r, eq-eqb p p refl) (holding_moves e (v (heard p)) (omega (arith, l)) (before.heard p e.object (names-port n e proper) low) kept x)
        go (no d) = rw (ne_eqb p q d, one_names delete x q e d, one_names receive x q e d, one_names create x q e d)

    hears-transit : (q x : ℕ) → (model_of n (heard_in n e v)).transit q x + one receive x q e ≡ (model_of n v).transit q x + one send x q e
    unfolding upd
    hears-transit q x = go (ℕ_discrete p q)
      where
        port : p < n
        port = names-port n e proper

        l : length (v (transit p)) ≡ 2 * object_limit
        l = (row-long n s v seen p port).2

        kept : transit_at e.object (transit_effect e.kind e.object (v (transit p))) ≤ transit_top n
        kept = rw (eq-eqb p p refl) at (after.transit p e.object port low)

        here : Dec (x < object_limit) → cond (ltb x object_limit) (transit_at x (transit_effect e.kind e.object (v (transit p)))) (transit_zero n) + one receive x p e
            ≡ cond (ltb x object_limit) (transit_at x (v (transit p))) (transit_zero n) + one send x p e
        here (yes k) = rw (lt-ltb x object_limit k) (transit_moves e (v (transit p)) n few (omega (arith, l)) (before.transit p e.object port low) kept x)
        here (no k) =
            let d : ¬ (e.object ≡ x) = λ r. k (omega arith) in
            rw (le-ltb x object_limit (omega arith), one_object receive x p e d, one_object send x p e d)

        go : Dec (p ≡ q)
            → cond (ltb q n && ltb x object_limit) (transit_at x (cond (eqb p q) (transit_effect e.kind e.object (v (transit p))) (v (transit q)))) (transit_zero n) + one receive x q e
            ≡ cond (ltb q n && ltb x object_limit) (transit_at x (v (transit q))) (transit_zero n) + one send x q e
        go (yes r) = rw (← r, eq-eqb p p refl, lt-ltb p n port) (here (dec_lt x object_limit))
        go (no d) = rw (ne_eqb p q d, one_names receive x q e d, one_names send x q e d)

    -- so it is heard in the model
    pub hears-model : Hears e (model_of n v) (model_of n (heard_in n e v))
    hears-model = record { heard = hears-heard; transit = hears-transit }

  -- it changes the holdings of its port
  pub held-model : Ranged n (held_in n e v) → (q x : ℕ) → (model_of n (held_in n e v)).held q x + loss x q e ≡ (model_of n v).held q x + gain x q e
  unfolding upd
  held-model after q x = go (ℕ_discrete a q)
    where
      l : length (v (held a)) ≡ object_limit
      l = (row-long n s v seen a proper.port).0

      kept : get_or (holding_effect e.kind e.object (v (held a))) e.object 0 ≤ holding_limit
      kept = rw (eq-eqb a a refl) at (after.held a e.object proper.port low)

      go : Dec (a ≡ q) → get_or (cond (eqb a q) (holding_effect e.kind e.object (v (held a))) (v (held q))) x 0 + loss x q e ≡ get_or (v (held q)) x 0 + gain x q e
      go (yes r) = rw (← r, eq-eqb a a refl) (held_moves e (v (held a)) (omega (arith, l)) (before.held a e.object proper.port low) kept n proper x)
      go (no d) = (let z = at_other n x q e proper d in rw (ne_eqb a q d, z.0, z.1, z.2))

  -- it goes to the end of the report lane to the home h
  module _ (h : ℕ) (port : h < n) (room : count (v (reports a h)) < report_places) where
    -- it stands there, and no other report lane changes
    pub told-put : (model_of n (told_in n e h v)).reports a h ≡ (model_of n v).reports a h ++ (e ∷ [])
    unfolding upd
    told-put =
        rw (at_lane h a, entries-added report_width (reported a) report_places (report e) (v (reports a h)) (long_viewed n s v seen (reports a h) (lane_inside n a h proper.port port)) refl room)
        (ap (λ (f : Event). reports_in a (v (reports a h)) ++ (f ∷ [])) (reported-report n e proper low))

    pub told_rest : (A B : ℕ) → ¬ ((A ≡ a) × (B ≡ h)) → (model_of n (told_in n e h v)).reports A B ≡ (model_of n v).reports A B
    unfolding upd
    told_rest A B d = rw (off_lane h a B A (λ k. d (k.1, k.0)))

-- AN EVENT HAPPENS: its object is of home h, and where that is not its port its report lane has room
module _ (n : ℕ) (few : transit_top n < 65535) (s : List ℕ) (v : Stretch → List ℕ) (seen : Viewed n s v) (e : Event) (proper : Proper n e)
    (low : e.object < object_limit) (before : Ranged n v) (h : ℕ) (port : h < n) (homed : get_or (v objects) e.object 0 ≡ h + 1)
    (room : ¬ (e.at ≡ h) → count (v (reports e.at h)) < report_places) where
  -- the stretches after it
  pub happens_in : Dec (e.at ≡ h) → Stretch → List ℕ
  happens_in (yes q) = heard_in n e (held_in n e v)
  happens_in (no d) = told_in n e h (held_in n e v)

  -- so the bytes say
  pub happens_viewed : (d : Dec (e.at ≡ h)) → Viewed n (happens n e s) (happens_in d)
  unfolding happens_in
  happens_viewed (yes q) = happens_home n s v seen e proper (homed ∙ ap (λ (x : ℕ). x + 1) (sym q))
  happens_viewed (no d) = happens-away n s v seen e proper h port homed d

  -- no pointer lane changes
  pub happens-pointers : (d : Dec (e.at ≡ h)) → SameLanes (model_of n v).pointers (model_of n (happens_in d)).pointers
  unfolding happens_in upd
  happens-pointers (yes q) A B = refl
  happens-pointers (no d) A B = refl

  -- the event happens in the model
  pub happens-model : (d : Dec (e.at ≡ h)) → Ranged n (happens_in d) → Happens e (model_of n v) (model_of n (happens_in d))
  unfolding happens_in upd
  happens-model (yes q) after =
      let mid : Ranged n (held_in n e v) = record { held = λ x o. after.held x o; heard = λ x o. before.heard x o; transit = λ x o. before.transit x o } in
      let k = hears-model n few _ (held_in n e v) (held_viewed n s v seen e proper) e proper low mid after in
      record {
        owner = λ o. refl;
        held = λ x o. held-model n few s v seen e proper low before mid x o;
        home = λ _. record { heard = λ x o. k.heard x o; transit = λ x o. k.transit x o };
        away = λ r. absurd (r (homed ∙ ap (λ (x : ℕ). x + 1) (sym q)));
        put = λ g r d. absurd (d (omega (arith, r, homed)));
        rest = λ A B d. refl;
      }
  happens-model (no d) after =
      let mid : Ranged n (held_in n e v) = record { held = λ x o. after.held x o; heard = λ x o. before.heard x o; transit = λ x o. before.transit x o } in
      let i = held_viewed n s v seen e proper in
      record {
        owner = λ o. refl;
        held = λ x o. held-model n few s v seen e proper low before mid x o;
        home = λ r. absurd (d (omega (arith, r, homed)));
        away = λ _. record { heard = λ x o. refl; transit = λ x o. refl };
        put = λ g r c. put g (omega (arith, r, homed));
        rest = λ A B c. told_rest n few _ (held_in n e v) i e proper low mid h port (room d) A B (λ t. c (t.0, homed ∙ ap (λ (x : ℕ). x + 1) (sym t.1), λ z. d (sym t.0 ∙ z ∙ t.1)));
      }
    where
      put : (g : ℕ) → g ≡ h → (model_of n (told_in n e h (held_in n e v))).reports e.at g ≡ (model_of n v).reports e.at g ++ (e ∷ [])
      put g q = rw q (told-put n few _ (held_in n e v) (held_viewed n s v seen e proper) e proper low
          (record { held = λ x o. after.held x o; heard = λ x o. before.heard x o; transit = λ x o. before.transit x o }) h port (room d))

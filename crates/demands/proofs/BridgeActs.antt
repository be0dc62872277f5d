-- Each act of the table, in the bytes, is the model's act: on a well formed store that none of its refusals stands against, and whose
-- store after the act is well formed.
-- Assumes nothing.
use mathlib.Core.Path.{◌≡◌, refl, sym, subst, ap, ◌∙◌}
use mathlib.Core.Bool.{true}
use mathlib.Core.List.{List, [], ◌∷◌}
use Prim.Native.Nat.{ℕ, ◌+◌, ◌-◌, ◌*◌, ◌≤◌, ◌<◌}
use native.Mathlib.Omega.{arith}
use native.Mathlib.Decide.{ℕ_discrete}
use lib.ListN.{length, get_or}
use Rattle.paper.specs.Paper.{Event, receive, create, delete}
use Rattle.books.specs.Books.{object_limit, transit_top}
use Rattle.lanes.specs.Lane.{pointer_places, report_places, pointer_width, report_width, count, entry, added, taken}
use Rattle.lanes.proofs.Lane.{length-added, length_taken}
use Rattle.lanes.proofs.Entries.{entries-some, entries-room, entries-added}
use Rattle.store.specs.Layout.{Stretch, objects, pointers, reports, edit}
use Rattle.store.specs.Store.{reported, well_formed}
use Rattle.store.proofs.Frame.{lane_inside, view, upd, view_in, Viewed, edit_viewed}
use Rattle.machine.specs.Acts.{act, event, sending, SEND, COPY, DROP, DELIVER}
use Rattle.machine.specs.Effects.{happens, oldest_pointer, after}
use Rattle.demands.proofs.Events.{Proper}
use Rattle.demands.proofs.Model.{M, SameLanes, Added, Taken, Happens, Effect}
use Rattle.demands.proofs.Steps.{Tellable, MayDeliver, Guard}
use Rattle.demands.proofs.History.{at_lane, off_lane}
use Rattle.demands.proofs.Bridge.{model, model_of, model_viewed}
use Rattle.demands.proofs.BridgeEvents.{Ranged}
use Rattle.demands.proofs.BridgeHappens.{happens_in, happens_viewed, happens-pointers, happens-model}
use Rattle.demands.proofs.BridgeFormed.{seen, ranged, owned-low, owner-low, reports_short, pointers_lane, pointers-long, pointers-front, oldest-used}

module _ (n : ℕ) (few : transit_top n < 65535) where
  -- AN EVENT HAPPENS on a store whose stretches are v, and the store after it is well formed
  module _ (s : List ℕ) (v : Stretch → List ℕ) (is : Viewed n s v) (e : Event) (proper : Proper n e) (low : e.object < object_limit) (before : Ranged n v)
      (used : ¬ (get_or (v objects) e.object 0 ≡ 0)) (port : get_or (v objects) e.object 0 ≤ n) (short : (A B : ℕ) → count (v (reports A B)) ≤ report_places)
      (told : Tellable e (model_of n v)) (kept : well_formed n (happens n e s) ≡ true) where
    -- the object's home is a port
    abbrev h : ℕ
    h = get_or (v objects) e.object 0 - 1

    homed : get_or (v objects) e.object 0 ≡ h + 1
    homed = omega arith

    below : h < n
    below = omega arith

    -- elsewhere than at home, the report lane has a place
    room : ¬ (e.at ≡ h) → count (v (reports e.at h)) < report_places
    room d = entries-room report_width (reported e.at) report_places (v (reports e.at h)) (short e.at h) (told h homed d)

    -- the event happens in the model, and no pointer lane changes
    pub happened : Happens e (model_of n v) (model n (happens n e s)) × SameLanes (model_of n v).pointers (model n (happens n e s)).pointers
    happened = go (ℕ_discrete e.at h)
      where
        go : Dec (e.at ≡ h) → Happens e (model_of n v) (model n (happens n e s)) × SameLanes (model_of n v).pointers (model n (happens n e s)).pointers
        go d =
            let w : Stretch → List ℕ = happens_in n few s v is e proper low before h below homed room d in
            let i : Viewed n (happens n e s) w = happens_viewed n few s v is e proper low before h below homed room d in
            subst (λ (m : M). Happens e (model_of n v) m × SameLanes (model_of n v).pointers m.pointers) (sym (model_viewed n (happens n e s) w i)) (
              happens-model n few s v is e proper low before h below homed room d (ranged n (happens n e s) kept w i),
              happens-pointers n few s v is e proper low before h below homed room d,
            )

  -- an event happens alike where the pointers alone differ
  repointed : (e : Event) (v : Stretch → List ℕ) (A B : ℕ) (l : List ℕ) (m : M) → Happens e (model_of n (upd n (pointers A B) l v)) m → Happens e (model_of n v) m
  unfolding upd
  repointed e v A B l m w = record {
    owner = w.owner;
    held = w.held;
    home = λ q. record { heard = (w.home q).heard; transit = (w.home q).transit };
    away = λ d. record { heard = (w.away d).heard; transit = (w.away d).transit };
    put = w.put;
    rest = w.rest;
  }

  -- ON A WELL FORMED STORE
  module _ (s : List ℕ) (formed : well_formed n s ≡ true) where
    -- its model and its stretches
    abbrev m : M
    m = model n s

    abbrev v : Stretch → List ℕ
    v = view n s

    -- an event about an object in use, with one pointer lane replaced before it
    module _ (A B : ℕ) (ha : A < n) (hb : B < n) (f : List ℕ → List ℕ) (keeps : length (f (v (pointers A B))) ≡ 1 + pointer_width * pointer_places)
        (e : Event) (proper : Proper n e) (used : ¬ (m.owner e.object ≡ 0)) (told : Tellable e m)
        (kept : well_formed n (happens n e (edit n (pointers A B) f s)) ≡ true) where
      -- the stretches with that lane replaced
      abbrev w : Stretch → List ℕ
      w = upd n (pointers A B) (f (v (pointers A B))) v

      -- the event happens in the model, and the pointer lanes are those with that lane replaced
      pub moved : Happens e m (model n (happens n e (edit n (pointers A B) f s)))
          × SameLanes (model_of n w).pointers (model n (happens n e (edit n (pointers A B) f s))).pointers
      unfolding upd
      moved =
          let i : Viewed n (edit n (pointers A B) f s) w = edit_viewed n (pointers A B) f s v (seen n s formed) (lane_inside n A B ha hb) keeps in
          let r = ranged n s formed v (seen n s formed) in
          let k = happened (edit n (pointers A B) f s) w i e proper (owned-low n s formed e.object used)
          (record { held = λ p o. r.held p o; heard = λ p o. r.heard p o; transit = λ p o. r.transit p o })
          used (owner-low n s formed e.object) (reports_short n s formed) told kept in
          (repointed e v A B (f (v (pointers A B))) _ k.0, k.1)

    -- the same with no lane replaced
    still : (e : Event) → Proper n e → ¬ (m.owner e.object ≡ 0) → Tellable e m → well_formed n (happens n e s) ≡ true
        → SameLanes m.pointers (model n (happens n e s)).pointers × Happens e m (model n (happens n e s))
    still e proper used told kept =
        let k = happened s v (seen n s formed) e proper (owned-low n s formed e.object used) (ranged n s formed v (seen n s formed)) used
        (owner-low n s formed e.object) (reports_short n s formed) told kept in
        (k.1, k.0)

    -- COPY
    pub copy_effect : (A o B : ℕ) → Guard n COPY A o B m → well_formed n (after n (act COPY A o B) s) ≡ true → Effect COPY A o B m (model n (after n (act COPY A o B) s))
    unfolding after
    copy_effect A o B g kept = still (event create o A) (record { port = g.port; names = refl }) g.used.owned g.told kept

    -- DROP
    pub drop_effect : (A o B : ℕ) → Guard n DROP A o B m → well_formed n (after n (act DROP A o B) s) ≡ true → Effect DROP A o B m (model n (after n (act DROP A o B) s))
    unfolding after
    drop_effect A o B g kept = still (event delete o A) (record { port = g.port; names = refl }) g.used.owned g.told kept

    -- the pointer lane from A to B with a pointer at its end, and with its oldest taken
    module _ (A B : ℕ) (ha : A < n) (hb : B < n) where
      -- o goes to its end, where it has a place
      added_lane : (o : ℕ) → ¬ (length (m.pointers A B) ≡ pointer_places)
          → Added A B o m.pointers (model_of n (upd n (pointers A B) (added pointer_width (o ∷ []) (v (pointers A B))) v)).pointers
      unfolding upd
      added_lane o full = record {
        here = rw (at_lane B A) (entries-added pointer_width (λ e. get_or e 0 0) pointer_places (o ∷ []) (v (pointers A B)) (pointers-long n s formed A B ha hb) refl
            (entries-room pointer_width (λ e. get_or e 0 0) pointer_places (v (pointers A B)) (pointers_lane n s formed A B ha hb).few full));
        rest = λ X Y d. rw (off_lane B A Y X (λ k. d (k.1, k.0)));
      }

      module _ (waits : 0 < count (v (pointers A B))) where
        -- its oldest is taken
        taken-long : length (taken pointer_width (v (pointers A B))) ≡ 1 + pointer_width * pointer_places
        taken-long = length_taken pointer_width pointer_places (v (pointers A B)) (pointers-long n s formed A B ha hb) (pointers_lane n s formed A B ha hb).few waits

        taken_lane : Taken A B (get_or (entry pointer_width 0 (v (pointers A B))) 0 0) m.pointers (model_of n (upd n (pointers A B) (taken pointer_width (v (pointers A B))) v)).pointers
        unfolding upd
        taken_lane = record {
          here = rw (at_lane B A) (pointers-front n s formed A B ha hb waits);
          rest = λ X Y d. rw (off_lane B A Y X (λ k. d (k.1, k.0)));
        }

    -- SEND
    pub send_effect : (A o B : ℕ) → Guard n SEND A o B m → well_formed n (after n (act SEND A o B) s) ≡ true → Effect SEND A o B m (model n (after n (act SEND A o B) s))
    unfolding after
    send_effect A o B g kept =
        let k = moved A B g.sender g.receiver (added pointer_width (o ∷ []))
        (length-added pointer_width pointer_places (o ∷ []) (v (pointers A B)) (pointers-long n s formed A B g.sender g.receiver) refl)
        (sending o A B) (record { port = g.sender; names = (g.receiver, λ q. g.apart (sym q)) }) g.used.owned g.told kept in
        let t = added_lane A B g.sender g.receiver o g.place in
        (record { here = k.1 A B ∙ t.here; rest = λ X Y d. k.1 X Y ∙ t.rest X Y d }, k.0)

    -- x, the oldest pointer, is delivered
    delivered : (A B x : ℕ) (g : MayDeliver n A B m) → get_or (entry pointer_width 0 (v (pointers A B))) 0 0 ≡ x
        → well_formed n (happens n (event receive x B) (edit n (pointers A B) (taken pointer_width) s)) ≡ true
        → Taken A B x m.pointers (model n (happens n (event receive x B) (edit n (pointers A B) (taken pointer_width) s))).pointers
        × Happens (event receive x B) m (model n (happens n (event receive x B) (edit n (pointers A B) (taken pointer_width) s)))
    delivered A B x g q kept =
        let t = rw q at (taken_lane A B g.sender g.receiver waits) in
        let k = moved A B g.sender g.receiver (taken pointer_width) (taken-long A B g.sender g.receiver waits)
        (event receive x B) (record { port = g.receiver; names = refl }) (rw q at (oldest-used n s formed A B g.sender g.receiver waits)) (g.told x _ t.here) kept in
        (record { here = t.here ∙ ap (λ (l : List ℕ). x ∷ l) (sym (k.1 A B)); rest = λ X Y d. k.1 X Y ∙ t.rest X Y d }, k.0)
      where
        waits : 0 < count (v (pointers A B))
        waits = entries-some pointer_width (λ e. get_or e 0 0) (v (pointers A B)) g.waits

    -- DELIVER
    pub deliver_effect : (A o B : ℕ) → Guard n DELIVER A o B m → well_formed n (after n (act DELIVER A o B) s) ≡ true
        → Effect DELIVER A o B m (model n (after n (act DELIVER A o B) s))
    unfolding after
    deliver_effect A o B g kept =
        let k = delivered A B (oldest_pointer n A B s) g (rw (view_in n (pointers A B) s (lane_inside n A B g.sender g.receiver))) kept in
        (oldest_pointer n A B s, k.0, k.1)

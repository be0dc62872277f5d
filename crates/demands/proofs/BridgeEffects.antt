-- The other acts in the bytes are the model's acts too: MAKE, HEAR, RETIRE and those that change nothing; and so is every act.
-- Assumes nothing.
use mathlib.Core.Path.{◌≡◌, refl, sym, subst, ap, ◌∙◌}
use mathlib.Core.Bool.{true}
use mathlib.Core.List.{List, ◌∷◌}
use Prim.Native.Nat.{ℕ, ◌+◌, ◌≤◌, ◌<◌}
use native.Mathlib.Omega.{arith}
use lib.ListN.{length, get_or, set, length-set}
use lib.Seq.{get_or-set_same, get_or-set_other}
use Rattle.paper.specs.Paper.{Event, create}
use Rattle.books.specs.Books.{object_limit, transit_top}
use Rattle.lanes.specs.Lane.{report_places, report_width, count, entry, taken}
use Rattle.lanes.proofs.Lane.{length_taken}
use Rattle.lanes.proofs.Entries.{entries-some}
use Rattle.store.specs.Layout.{Stretch, objects, reports, edit}
use Rattle.store.specs.Store.{reported, well_formed}
use Rattle.store.proofs.Frame.{lane_inside, view, upd, view_in, Viewed, edit_viewed}
use Rattle.machine.specs.Acts.{Name, act, event, MAKE, SEND, COPY, DROP, DELIVER, HEAR, ASK, RETIRE, SETTLE, HOLD}
use Rattle.machine.specs.Effects.{happens, hears, owned, lowest_free, oldest_report, after}
use Rattle.demands.proofs.Events.{Proper}
use Rattle.demands.proofs.Model.{M, Owned, Same, Heard, Made, Effect}
use Rattle.demands.proofs.Steps.{MayHear, Guard}
use Rattle.demands.proofs.Acts.{lowest_free_lem}
use Rattle.demands.proofs.History.{at_lane, off_lane}
use Rattle.demands.proofs.Bridge.{model, model_of, model_viewed, long_viewed, reports_in}
use Rattle.demands.proofs.BridgeCounts.{lowest_is}
use Rattle.demands.proofs.BridgeEvents.{Ranged, heard_in, hears_viewed}
use Rattle.demands.proofs.BridgeHappens.{hears-model}
use Rattle.demands.proofs.BridgeFormed.{seen, ranged, reports_short, reports_lane, reports-long, reports-front, oldest_proper, oldest-low}
use Rattle.demands.proofs.BridgeActs.{happened, send_effect, copy_effect, drop_effect, deliver_effect}

module _ (n : ℕ) (few : transit_top n < 65535) (s : List ℕ) (formed : well_formed n s ≡ true) where
  -- the store's model and its stretches
  abbrev m : M
  m = model n s

  abbrev v : Stretch → List ℕ
  v = view n s

  -- the stretches once o's object byte has become b
  module _ (o b : ℕ) (low : o < object_limit) where
    -- the object bytes are replaced, and no other stretch
    abbrev owned_in : Stretch → List ℕ
    owned_in = upd n objects (set (v objects) o b) v

    objects-long : length (v objects) ≡ object_limit
    objects-long = long_viewed n s v (seen n s formed) objects refl

    -- so the bytes say
    owned_viewed : Viewed n (owned n o b s) owned_in
    unfolding owned
    owned_viewed = edit_viewed n objects (λ r. set r o b) s v (seen n s formed) refl (length-set (v objects) o b ∙ objects-long)

    -- so the model has another owner of o
    owned-model : Owned o b m (model_of n owned_in)
    unfolding upd
    owned-model = record {
      here = get_or-set_same (v objects) o b 0 (omega (arith, objects-long));
      rest = λ q d. get_or-set_other (v objects) o q b 0 d;
      held = λ p q. refl;
      books = record { heard = λ p q. refl; transit = λ p q. refl };
      pointers = λ A B. refl;
      reports = λ A B. refl;
    }

    -- the counts stay in range, and the report lanes as long as they were
    owned_ranged : Ranged n owned_in
    unfolding upd
    owned_ranged =
        let r = ranged n s formed v (seen n s formed) in
        record { held = λ p q. r.held p q; heard = λ p q. r.heard p q; transit = λ p q. r.transit p q }

    owned_short : (A B : ℕ) → count (owned_in (reports A B)) ≤ report_places
    unfolding upd
    owned_short A B = reports_short n s formed A B

  -- x is made at A
  made : (A x : ℕ) → A < n → x < object_limit → well_formed n (happens n (event create x A) (owned n x (A + 1) s)) ≡ true
      → Made A x m (model n (happens n (event create x A) (owned n x (A + 1) s)))
  made A x port low kept =
      let t = owned-model x (A + 1) low in
      let q : get_or (owned_in x (A + 1) low objects) x 0 ≡ A + 1 = t.here in
      let k = happened n few (owned n x (A + 1) s) (owned_in x (A + 1) low) (owned_viewed x (A + 1) low) (event create x A) (record { port = port; names = refl }) low
      (owned_ranged x (A + 1) low) (λ z. omega arith) (omega arith) (owned_short x (A + 1) low) (λ h w d. absurd (d (omega (arith, w)))) kept in
      record { between = model_of n (owned_in x (A + 1) low); owned = t; happens = k.0; pointers = k.1 }

  -- the oldest report e from A is heard at B
  module _ (A B : ℕ) (g : MayHear n A B m) (e : Event) (q : reported A (entry report_width 0 (v (reports A B))) ≡ e) where
    -- the stretches once the report is taken from its lane
    abbrev taken_in : Stretch → List ℕ
    taken_in = upd n (reports A B) (taken report_width (v (reports A B))) v

    -- the lane has an entry
    waits : 0 < count (v (reports A B))
    waits = entries-some report_width (reported A) (v (reports A B)) g.waits

    -- so the bytes say, and the counts stay in range
    taken_viewed : Viewed n (edit n (reports A B) (taken report_width) s) taken_in
    taken_viewed = edit_viewed n (reports A B) (taken report_width) s v (seen n s formed) (lane_inside n A B g.sender g.receiver)
        (length_taken report_width report_places (v (reports A B)) (reports-long n s formed A B g.sender g.receiver) (reports_lane n s formed A B g.sender g.receiver).few waits)

    taken_ranged : Ranged n taken_in
    unfolding upd
    taken_ranged =
        let r = ranged n s formed v (seen n s formed) in
        record { held = λ p o. r.held p o; heard = λ p o. r.heard p o; transit = λ p o. r.transit p o }

    -- then its event is heard
    heard_all : well_formed n (hears n e (edit n (reports A B) (taken report_width) s)) ≡ true → Heard A B e m (model n (hears n e (edit n (reports A B) (taken report_width) s)))
    unfolding upd
    heard_all kept =
        let w = subst (λ (f : Event). Proper n f) q (oldest_proper n s formed A B g.sender g.receiver waits) in
        let l = subst (λ (f : Event). f.object < object_limit) q (oldest-low n s formed A B g.sender g.receiver waits) in
        let i = hears_viewed n (edit n (reports A B) (taken report_width) s) taken_in taken_viewed e w in
        let k = hears-model n few (edit n (reports A B) (taken report_width) s) taken_in taken_viewed e w l taken_ranged (ranged n _ kept (heard_in n e taken_in) i) in
        subst (λ (u : M). Heard A B e m u) (sym (model_viewed n _ (heard_in n e taken_in) i))
        (record {
          owner = λ o. refl;
          held = λ p o. refl;
          pointers = λ X Y. refl;
          taken = record {
            here = rw (at_lane B A) (reports-front n s formed A B g.sender g.receiver waits ∙ ap (λ (f : Event). f ∷ reports_in A (taken report_width (v (reports A B)))) q);
            rest = λ X Y d. rw (off_lane B A Y X (λ k. d (k.1, k.0)));
          };
          books = record { heard = k.heard; transit = k.transit };
        })

  -- MAKE
  pub make_effect : (A o B : ℕ) → Guard n MAKE A o B m → well_formed n (after n (act MAKE A o B) s) ≡ true → Effect MAKE A o B m (model n (after n (act MAKE A o B) s))
  unfolding after
  make_effect A o B g kept =
      subst (λ (x : ℕ). Made A x m (model n (happens n (event create (lowest_free n s) A) (owned n (lowest_free n s) (A + 1) s)))) (sym (lowest_is n s))
      (made A (lowest_free n s) g.port (rw (lowest_is n s) at (lowest_free_lem n m g.free).0) kept)

  -- HEAR
  pub hear_effect : (A o B : ℕ) → Guard n HEAR A o B m → well_formed n (after n (act HEAR A o B) s) ≡ true → Effect HEAR A o B m (model n (after n (act HEAR A o B) s))
  unfolding after
  hear_effect A o B g kept =
      (oldest_report n A B s, heard_all A B g (oldest_report n A B s) (rw (view_in n (reports A B) s (lane_inside n A B g.sender g.receiver))) kept)

  -- RETIRE
  pub retire_effect : (A o B : ℕ) → Guard n RETIRE A o B m → Effect RETIRE A o B m (model n (after n (act RETIRE A o B) s))
  unfolding after
  retire_effect A o B g =
      let l = g.used.numbered in
      subst (λ (u : M). Owned o 0 m u) (sym (model_viewed n _ _ (owned_viewed o 0 l))) (owned-model o 0 l)

  -- the acts that change nothing
  same_model : Same m m
  same_model = record {
    owner = λ o. refl;
    held = λ p o. refl;
    books = record { heard = λ p o. refl; transit = λ p o. refl };
    pointers = λ A B. refl;
    reports = λ A B. refl;
  }

  -- EVERY ACT
  pub act_effect : (k : Name) (A o B : ℕ) → Guard n k A o B m → well_formed n (after n (act k A o B) s) ≡ true → Effect k A o B m (model n (after n (act k A o B) s))
  unfolding after
  act_effect MAKE A o B g kept = make_effect A o B g kept
  act_effect SEND A o B g kept = send_effect n few s formed A o B g kept
  act_effect COPY A o B g kept = copy_effect n few s formed A o B g kept
  act_effect DROP A o B g kept = drop_effect n few s formed A o B g kept
  act_effect DELIVER A o B g kept = deliver_effect n few s formed A o B g kept
  act_effect HEAR A o B g kept = hear_effect A o B g kept
  act_effect ASK A o B g kept = same_model
  act_effect RETIRE A o B g kept = retire_effect A o B g
  act_effect SETTLE A o B g kept = same_model
  act_effect HOLD A o B g kept = same_model

-- COPY, DROP, SEND, DELIVER and HEAR on a well formed store, none of whose own checks applies: the store after the act is well formed
-- exactly when the act fits.
-- Assumes nothing.
use mathlib.Core.Path.{◌≡◌, refl, sym, ap, ◌∙◌}
use mathlib.Core.Bool.{Bool, true, false, cond, not}
use mathlib.Core.List.{List, [], ◌∷◌}
use Prim.Native.Nat.{ℕ, ◌+◌, ◌<◌}
use native.Mathlib.Nat.{pos_of_ne-zero}
use native.Mathlib.Decide.{dec_lt}
use native.Mathlib.Omega.{arith}
use lib.Dec.{eqb}
use lib.ListN.{length, get_or-eq_default}
use borrow.Author.Tests.{ne_eqb, eqb-false, lt-ltb, not-true}
use Rattle.paper.specs.Paper.{Kind, receive, create, delete, number, Event}
use Rattle.books.specs.Books.{object_limit, holding_limit, transit_top}
use Rattle.lanes.specs.Lane.{pointer_width, pointer_places, report_places, count, added, taken}
use Rattle.lanes.proofs.Lane.{LaneForm, means_lane, length-added, added-formed, length_taken, taken-formed}
use Rattle.store.specs.Layout.{Stretch, objects, held, transit, pointers, reports, long, read, edit}
use Rattle.store.specs.Store.{pointer_right, object_byte, home, held_of, well_formed}
use Rattle.store.proofs.Sections.{same}
use Rattle.store.proofs.Frame.{inside, port-inside, lane_inside, read-long, read_other}
use Rattle.store.proofs.Formed.{Formed, formed_means}
use Rattle.store.proofs.Written.{pointers_written}
use Rattle.machine.specs.Acts.{act, SEND, COPY, DROP, DELIVER, row_of, event, sending}
use Rattle.machine.specs.Effects.{happens, oldest_pointer, after}
use Rattle.machine.specs.Machine.{rule}
use Rattle.machine.proofs.Firsts.{NoneOf}
use Rattle.machine.proofs.Passed.{passed_A, passed_B, passed_4, passed_5, passed_6, passed_7, passed_8, passed_9, passed_10, passed_11}
use Rattle.machine.specs.Fits.{happens_fits}
use Rattle.machine.proofs.Kept.{Proper, happens_kept}

-- an event of a kind that is not s, at a port
pub proper_at : (n : ℕ) (k : Kind) (o p : ℕ) → p < n → o < object_limit → 0 < number k → Proper n (event k o p)
proper_at n k o p hp ho d = record { port = hp; named = hp; thing = ho; sent = λ q. absurd (omega (arith, ap number q)); other = λ q. refl }

cond-true : (b : Bool) → cond b true true ≡ true
cond-true true = refl
cond-true false = refl

module _ (n : ℕ) (few : transit_top n < 65535) (s : List ℕ) (formed : well_formed n s ≡ true) where
  abbrev form : Formed n s
  form = formed_means n s formed

  -- COPY: refusal 8 has left room for one more
  pub copy_kept : (A o B : ℕ) → NoneOf (rule n (act COPY A o B) s) (2 ∷ (row_of (act COPY A o B)).checks) → well_formed n (after n (act COPY A o B) s) ≡ true
  unfolding after
  copy_kept A o B f =
      let a = act COPY A o B in
      let hp = passed_A n a s refl f.1.0 in
      let ho = passed_4 n a s f.1.1.0 in
      let used = passed_5 n a s f.1.1.1.0 in
      let room = passed_8 n a s f.1.1.1.1.1.0 in
      happens_kept n few s formed (event create o A) (proper_at n create o A hp ho (omega arith)) used (passed_11 n a s f.1.1.1.1.1.1.0)
      ∙ rw (lt-ltb (held_of n A o s) holding_limit (omega arith)) (cond-true (eqb (object_byte n o s) (A + 1)))

  -- DROP: refusal 7 has seen one to drop
  pub drop_kept : (A o B : ℕ) → NoneOf (rule n (act DROP A o B) s) (2 ∷ (row_of (act DROP A o B)).checks) → well_formed n (after n (act DROP A o B) s) ≡ true
  unfolding after
  drop_kept A o B f =
      let a = act DROP A o B in
      let hp = passed_A n a s refl f.1.0 in
      let ho = passed_4 n a s f.1.1.0 in
      let used = passed_5 n a s f.1.1.1.0 in
      let some = passed_7 n a s f.1.1.1.1.0 in
      happens_kept n few s formed (event delete o A) (proper_at n delete o A hp ho (omega arith)) used (passed_11 n a s f.1.1.1.1.1.0)
      ∙ rw (lt-ltb 0 (held_of n A o s) (pos_of_ne-zero some)) (cond-true (eqb (object_byte n o s) (A + 1)))

  -- an event that happens once a pointer lane has changed
  module _ (A B : ℕ) (ha : A < n) (hb : B < n) (g : List ℕ → List ℕ) (keeps : length (g (read n (pointers A B) s)) ≡ long n (pointers A B)) where
    abbrev s0 : List ℕ
    s0 = edit n (pointers A B) g s

    same_in : (c : Stretch) → inside n c ≡ true → same (pointers A B) c ≡ false → read n c s0 ≡ read n c s
    same_in c hc d = read_other n (pointers A B) g s form.sized (lane_inside n A B ha hb) keeps c hc d

    then_happens : well_formed n s0 ≡ true → (e : Event) → Proper n e → ¬ (object_byte n e.object s ≡ 0)
        → (¬ (object_byte n e.object s ≡ e.at + 1) → ¬ (count (read n (reports e.at (home n e.object s)) s) ≡ report_places))
        → well_formed n (happens n e s0) ≡ happens_fits n e s
    then_happens formed0 e proper used room =
        let o = same_in objects refl refl in
        let low : home n e.object s < n = omega (arith, form.homes e.object proper.thing, pos_of_ne-zero used) in
        let r = same_in (reports e.at (home n e.object s)) (lane_inside n e.at (home n e.object s) proper.port low) refl in
        happens_kept n few s0 formed0 e proper (rw o used) (rw (o, r) room)
        ∙ rw (o, same_in (held e.at) (port-inside n e.at proper.port) refl, same_in (transit e.names) (port-inside n e.names proper.named) refl)

  -- a byte of the objects that is not 0 is an object's
  named : (b : ℕ) → not (eqb b 0) ≡ true → ¬ (b ≡ 0)
  named b e = eqb-false b 0 (not-true (eqb b 0) e)

  byte_low : (o : ℕ) → ¬ (object_byte n o s ≡ 0) → o < object_limit
  byte_low o u =
      elim (dec_lt o object_limit) [
        | yes h ↦ h
        | no h ↦ absurd (u (get_or-eq_default (read n objects s) 0 (omega (arith, read-long n objects s form.sized refl))))
      ]

  -- a pointer lane as it stands
  pointer_long : (A B : ℕ) → A < n → B < n → length (read n (pointers A B) s) ≡ long n (pointers A B)
  pointer_long A B ha hb = read-long n (pointers A B) s form.sized (lane_inside n A B ha hb)

  -- the oldest pointer of a lane is an object in use
  module _ (A B : ℕ) (ha : A < n) (hb : B < n) (some : 0 < count (read n (pointers A B) s)) where
    pub oldest-used : ¬ (object_byte n (oldest_pointer n A B s) s ≡ 0)
    oldest-used = named (object_byte n (oldest_pointer n A B s) s) ((form.pointer_lanes A B ha hb).all 0 some)

    pub oldest-low : oldest_pointer n A B s < object_limit
    oldest-low = byte_low (oldest_pointer n A B s) oldest-used

    pub pointer_keeps : length (taken pointer_width (read n (pointers A B) s)) ≡ long n (pointers A B)
    pointer_keeps = length_taken pointer_width pointer_places (read n (pointers A B) s) (pointer_long A B ha hb) (form.pointer_lanes A B ha hb).few some

  -- SEND: by the home, the transit of B must not be at its top
  pub send_kept : (A o B : ℕ) → NoneOf (rule n (act SEND A o B) s) (2 ∷ (row_of (act SEND A o B)).checks)
      → well_formed n (after n (act SEND A o B) s) ≡ happens_fits n (sending o A B) s
  unfolding after
  send_kept A o B f = then_happens A B ha hb (added pointer_width (o ∷ [])) keeps formed0 (sending o A B) proper used (passed_11 n (act SEND A o B) s f.1.1.1.1.1.1.1.1.0)
    where
      ha : A < n
      ha = passed_A n (act SEND A o B) s refl f.1.0

      hb : B < n
      hb = passed_B n (act SEND A o B) s refl f.1.0

      used : ¬ (object_byte n o s ≡ 0)
      used = passed_5 n (act SEND A o B) s f.1.1.1.0

      ne : ¬ (A ≡ B)
      ne = passed_6 n (act SEND A o B) s f.1.1.1.1.0

      proper : Proper n (sending o A B)
      proper = record { port = ha; named = hb; thing = passed_4 n (act SEND A o B) s f.1.1.0; sent = λ q r. ne (sym r); other = λ q. absurd (q refl) }

      lane : LaneForm pointer_width pointer_places (eqb A B) (pointer_right (read n objects s)) (read n (pointers A B) s)
      lane = form.pointer_lanes A B ha hb

      keeps : length (added pointer_width (o ∷ []) (read n (pointers A B) s)) ≡ long n (pointers A B)
      keeps = length-added pointer_width pointer_places (o ∷ []) (read n (pointers A B) s) (pointer_long A B ha hb) refl

      room : count (read n (pointers A B) s) < pointer_places
      room = omega (arith, lane.few, passed_10 n (act SEND A o B) s f.1.1.1.1.1.1.1.0)

      formed0 : well_formed n (edit n (pointers A B) (added pointer_width (o ∷ [])) s) ≡ true
      formed0 =
          pointers_written n s formed A B ha hb (added pointer_width (o ∷ [])) keeps
          ∙ rw (ne_eqb A B ne)
          (added-formed pointer_width pointer_places (o ∷ []) (read n (pointers A B) s) (pointer_long A B ha hb) refl room (pointer_right (read n objects s))
          (rw (ne_eqb A B ne) at (means_lane pointer_width pointer_places (eqb A B) (pointer_right (read n objects s)) (read n (pointers A B) s) lane))
          ∙ rw (ne_eqb (object_byte n o s) 0 used))

  -- DELIVER: B's true holding must be below its limit and, at the home, its transit above the least
  pub deliver_kept : (A o B : ℕ) → NoneOf (rule n (act DELIVER A o B) s) (2 ∷ (row_of (act DELIVER A o B)).checks)
      → well_formed n (after n (act DELIVER A o B) s) ≡ happens_fits n (event receive (oldest_pointer n A B s) B) s
  unfolding after
  deliver_kept A o B f =
      then_happens A B ha hb (taken pointer_width) (pointer_keeps A B ha hb some) formed0 (event receive (oldest_pointer n A B s) B)
      (proper_at n receive (oldest_pointer n A B s) B hb (oldest-low A B ha hb some) (omega arith)) (oldest-used A B ha hb some) (passed_11 n (act DELIVER A o B) s f.1.1.1.1.0)
    where
      ha : A < n
      ha = passed_A n (act DELIVER A o B) s refl f.1.0

      hb : B < n
      hb = passed_B n (act DELIVER A o B) s refl f.1.0

      some : 0 < count (read n (pointers A B) s)
      some = pos_of_ne-zero (passed_9 n (act DELIVER A o B) s f.1.1.1.0)

      lane : LaneForm pointer_width pointer_places (eqb A B) (pointer_right (read n objects s)) (read n (pointers A B) s)
      lane = form.pointer_lanes A B ha hb

      formed0 : well_formed n (edit n (pointers A B) (taken pointer_width) s) ≡ true
      formed0 =
          pointers_written n s formed A B ha hb (taken pointer_width) (pointer_keeps A B ha hb some)
          ∙ taken-formed pointer_width pointer_places (read n (pointers A B) s) (pointer_long A B ha hb) lane.few some (eqb A B) (pointer_right (read n objects s))
          (means_lane pointer_width pointer_places (eqb A B) (pointer_right (read n objects s)) (read n (pointers A B) s) lane)

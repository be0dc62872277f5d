-- HEAR on a well formed store, none of whose own checks applies: the store after it is well formed exactly when the report that it
-- hears fits the books.
-- Assumes nothing.
use mathlib.Core.Path.{◌≡◌, refl, ap, ◌∙◌}
use mathlib.Core.Bool.{Bool, true, false, cond, not, ◌&&◌}
use mathlib.Core.List.{List, [], ◌∷◌}
use Prim.Native.Nat.{ℕ, ◌+◌, ◌/◌, ◌%◌, ◌<◌}
use native.Mathlib.Nat.{pos_of_ne-zero}
use native.Mathlib.Omega.{arith}
use lib.Dec.{ltb, eqb}
use lib.ListN.{length, get_or}
use borrow.Author.Tests.{eqb-true, ltb-true}
use Rattle.paper.specs.Paper.{send, receive, create, delete, number, Event}
use Rattle.books.specs.Books.{object_limit, transit_top}
use Rattle.books.proofs.Booleans.{left_true, right_true}
use Rattle.lanes.specs.Lane.{report_width, report_places, count, entry, taken}
use Rattle.lanes.proofs.Lane.{LaneForm, means_lane, length_taken, taken-formed}
use Rattle.store.specs.Layout.{Stretch, objects, heard, transit, reports, long, read, edit}
use Rattle.store.specs.Store.{report_right, object_byte, well_formed}
use Rattle.store.proofs.Sections.{same}
use Rattle.store.proofs.Frame.{inside, port-inside, lane_inside, read-long, read_other}
use Rattle.store.proofs.Formed.{Formed, formed_means}
use Rattle.store.proofs.Written.{reports_written}
use Rattle.machine.specs.Acts.{act, HEAR, row_of}
use Rattle.machine.specs.Effects.{hears, oldest_report, after}
use Rattle.machine.specs.Machine.{rule}
use Rattle.machine.proofs.Firsts.{NoneOf}
use Rattle.machine.proofs.Passed.{passed_A, passed_B, passed_6, passed_9}
use Rattle.machine.specs.Fits.{hears_fits}
use Rattle.machine.proofs.Kept.{hears_kept}

module _ (n : ℕ) (few : transit_top n < 65535) (s : List ℕ) (formed : well_formed n s ≡ true) (A B : ℕ) (ha : A < n) (hb : B < n) (ne : ¬ (A ≡ B))
    (some : 0 < count (read n (reports A B) s)) where
  abbrev form : Formed n s
  form = formed_means n s formed

  abbrev l : List ℕ
  l = read n (reports A B) s

  abbrev e : Event
  e = oldest_report n A B s

  -- the two bytes of the oldest report
  abbrev x : ℕ
  x = get_or (entry report_width 0 l) 0 0

  abbrev y : ℕ
  y = get_or (entry report_width 0 l) 1 0

  lane : LaneForm report_width report_places (eqb A B) (report_right n (read n objects s) A B) l
  lane = form.report_lanes A B ha hb

  -- what the oldest report says: its object is in use with B as home, and the port that it names is a port
  abbrev home_test : Bool
  home_test = eqb (get_or (read n objects s) (x % object_limit) 0) (B + 1)

  abbrev port_test : Bool
  port_test = cond (eqb (x / object_limit) (number send)) (ltb y n && not (eqb y A)) (eqb y 0)

  pub oldest_home : object_byte n e.object s ≡ B + 1
  oldest_home = eqb-true _ (B + 1) (left_true home_test port_test (lane.all 0 some))

  pub oldest-names : e.names < n
  oldest-names = go (eqb (x / object_limit) (number send)) (right_true home_test port_test (lane.all 0 some))
    where
      go : (b : Bool) → cond b (ltb y n && not (eqb y A)) (eqb y 0) ≡ true → cond b y A < n
      go true q = ltb-true y n (left_true (ltb y n) (not (eqb y A)) q)
      go false q = ha

  -- it names the home only if it is s
  pub oldest-away : e.names ≡ B → e.kind ≡ send
  oldest-away q = go (eqb (x / object_limit) (number send)) refl q
    where
      go : (b : Bool) → eqb (x / object_limit) (number send) ≡ b → cond b y A ≡ B → get_or (send ∷ receive ∷ create ∷ []) (x / object_limit) delete ≡ send
      go true r w = let z : x / object_limit ≡ 0 = eqb-true _ _ r in rw z
      go false r w = absurd (ne w)

  lane_long : length l ≡ long n (reports A B)
  lane_long = read-long n (reports A B) s form.sized (lane_inside n A B ha hb)

  pub keeps : length (taken report_width l) ≡ long n (reports A B)
  keeps = length_taken report_width report_places l lane_long lane.few some

  abbrev s0 : List ℕ
  s0 = edit n (reports A B) (taken report_width) s

  formed0 : well_formed n s0 ≡ true
  formed0 =
      reports_written n s formed A B ha hb (taken report_width) keeps
      ∙ taken-formed report_width report_places l lane_long lane.few some (eqb A B) (report_right n (read n objects s) A B)
      (means_lane report_width report_places (eqb A B) (report_right n (read n objects s) A B) l lane)

  same_in : (c : Stretch) → inside n c ≡ true → same (reports A B) c ≡ false → read n c s0 ≡ read n c s
  same_in c hc d = read_other n (reports A B) (taken report_width) s form.sized (lane_inside n A B ha hb) keeps c hc d

  hearing_kept : well_formed n (hears n e s0) ≡ hears_fits n e s
  hearing_kept =
      let b : object_byte n e.object s0 ≡ B + 1 = ap (λ (r : List ℕ). get_or r e.object 0) (same_in objects refl refl) ∙ oldest_home in
      hears_kept n few s0 formed0 e oldest-names (omega arith) (λ q. omega (arith, b, q)) (λ q. oldest-away (omega (arith, b, q)))
      ∙ rw (same_in (heard e.names) (port-inside n e.names oldest-names) refl, same_in (transit e.names) (port-inside n e.names oldest-names) refl)

-- HEAR: the counts of the books that the report changes must stay in range
pub hear_kept : (n : ℕ) → transit_top n < 65535 → (s : List ℕ) → well_formed n s ≡ true → (A o B : ℕ) → NoneOf (rule n (act HEAR A o B) s) (2 ∷ (row_of (act HEAR A o B)).checks)
    → well_formed n (after n (act HEAR A o B) s) ≡ hears_fits n (oldest_report n A B s) s
unfolding after
hear_kept n few s formed A o B f =
    let a = act HEAR A o B in
    hearing_kept n few s formed A B (passed_A n a s refl f.1.0) (passed_B n a s refl f.1.0) (passed_6 n a s f.1.1.0)
    (pos_of_ne-zero (passed_9 n a s f.1.1.1.0))

-- Events on a well formed store: heard, told, happening. The store after each is well formed exactly when the counts fit.
-- Assumes nothing.
use mathlib.Core.Path.{◌≡◌, refl, sym, ap, ◌∙◌}
use mathlib.Core.Bool.{Bool, true, false, cond, not, ◌&&◌, and-true, and_self, true≢false}
use mathlib.Core.List.{List, [], ◌∷◌}
use Prim.Native.Nat.{ℕ, ◌+◌, ◌*◌, ◌/◌, ◌%◌, ◌<◌}
use native.Mathlib.Nat.{pos_of_ne-zero}
use native.Mathlib.Omega.{arith}
use lib.Dec.{ltb, eqb}
use lib.ListN.{length, get_or}
use borrow.Author.Tests.{eq-eqb, ne_eqb, eqb-true, eqb-false, lt-ltb}
use Rattle.paper.specs.Paper.{Kind, send, receive, create, delete, number, Event}
use Rattle.books.specs.Books.{object_limit, transit_top, transit_effect, holding_effect}
use Rattle.books.specs.Fits.{holding_fits, transit_fits}
use Rattle.books.proofs.Effects.{length_holding}
use Rattle.lanes.specs.Lane.{report_width, report_places, count, added}
use Rattle.lanes.proofs.Lane.{means_lane, length-added, added-formed}
use Rattle.store.specs.Layout.{Stretch, objects, held, heard, transit, reports, long, read, edit}
use Rattle.store.specs.Store.{report, report_right, object_byte, home, held_of, heard_of, transit_of, well_formed}
use Rattle.store.proofs.Sections.{same}
use Rattle.store.proofs.Frame.{inside, port-inside, lane_inside, read-long, read_other, edit_none, edit_swap}
use Rattle.store.proofs.Formed.{Formed, formed_means}
use Rattle.store.proofs.Written.{reports_written}
use Rattle.store.proofs.Rows.{rows-event}
use Rattle.machine.specs.Effects.{hears, tells, happens}
use Rattle.machine.specs.Fits.{hears_fits, happens_fits}

-- An event that can happen: its ports are ports, its object is an object, and it names another port if it is s, else its own.
pub record Proper (n : ℕ) (e : Event) : Type 0 where
  pub port : e.at < n
  pub named : e.names < n
  pub thing : e.object < object_limit
  pub sent : e.kind ≡ send → ¬ (e.names ≡ e.at)
  pub other : ¬ (e.kind ≡ send) → e.names ≡ e.at

-- is a kind s
sends : Kind → Bool
sends send = true
sends receive = false
sends create = false
sends delete = false

pub is_send : (k : Kind) → Dec (k ≡ send)
unfolding sends
is_send send = yes refl
is_send receive = no (λ q. true≢false (sym (ap sends q)))
is_send create = no (λ q. true≢false (sym (ap sends q)))
is_send delete = no (λ q. true≢false (sym (ap sends q)))

-- the report of an event is right on the lane from a to its object's home h
told_right : (n : ℕ) (obj : List ℕ) (a h o q : ℕ) (k : Kind) → o < object_limit → get_or obj o 0 ≡ h + 1 → (k ≡ send → ltb q n && not (eqb q a) ≡ true)
    → report_right n obj a h ((o + object_limit * number k) ∷ cond (eqb (number k) (number send)) q 0 ∷ []) ≡ true
told_right n obj a h o q k ho e f =
    let r : (o + object_limit * number k) % object_limit ≡ o = omega arith in
    let d : (o + object_limit * number k) / object_limit ≡ number k = omega arith in
    rw (r, d, eq-eqb (get_or obj o 0) (h + 1) e) (go k f)
  where
    go : (j : Kind) → (j ≡ send → ltb q n && not (eqb q a) ≡ true)
        → cond (eqb (number j) (number send)) (ltb (cond (eqb (number j) (number send)) q 0) n && not (eqb (cond (eqb (number j) (number send)) q 0) a)) (eqb (cond (eqb (number j) (number send)) q 0) 0) ≡ true
    go send g = g refl
    go receive g = refl
    go create g = refl
    go delete g = refl

module _ (n : ℕ) (few : transit_top n < 65535) where
  module _ (s : List ℕ) (formed : well_formed n s ≡ true) where
    abbrev form : Formed n s
    form = formed_means n s formed

    -- HEARD: of its own port not at the home, unless it is s
    pub hears_kept : (e : Event) → e.names < n → e.object < object_limit → ¬ (object_byte n e.object s ≡ 0)
        → (object_byte n e.object s ≡ e.names + 1 → e.kind ≡ send) → well_formed n (hears n e s) ≡ hears_fits n e s
    unfolding hears holding_effect
    hears_kept e hp ho used away =
        ap (λ (t : List ℕ). well_formed n (edit n (heard e.names) (holding_effect e.kind e.object) (edit n (transit e.names) (transit_effect e.kind e.object) t)))
        (sym (edit_none n (held e.names) s))
        ∙ rows-event n few s formed e.names e.object hp ho used send e.kind e.kind (λ q. sym (away q))

    -- HAPPENING, where its report has room
    module _ (e : Event) (proper : Proper n e) (used : ¬ (object_byte n e.object s ≡ 0))
        (room : ¬ (object_byte n e.object s ≡ e.at + 1) → ¬ (count (read n (reports e.at (home n e.object s)) s) ≡ report_places)) where
      abbrev p : ℕ
      p = e.at

      abbrev q : ℕ
      q = e.names

      abbrev o : ℕ
      o = e.object

      abbrev k : Kind
      k = e.kind

      abbrev b : ℕ
      b = object_byte n o s

      -- the true holding changed
      abbrev s1 : List ℕ
      s1 = edit n (held p) (holding_effect k o) s

      keeps : length (holding_effect k o (read n (held p) s)) ≡ long n (held p)
      keeps = length_holding k o (read n (held p) s) ∙ read-long n (held p) s form.sized (port-inside n p proper.port)

      same_byte : object_byte n o s1 ≡ b
      same_byte = ap (λ (r : List ℕ). get_or r o 0) (read_other n (held p) (holding_effect k o) s form.sized (port-inside n p proper.port) keeps objects refl refl)

      -- it is s, which changes no holding, or names its own port
      moved : s1 ≡ edit n (held q) (holding_effect k o) s
      unfolding holding_effect
      moved = go (is_send k)
        where
          nothing : (c : ℕ) → k ≡ send → edit n (held c) (holding_effect k o) s ≡ s
          nothing c w = ap (λ (x : Kind). edit n (held c) (holding_effect x o) s) w ∙ edit_none n (held c) s

          go : Dec (k ≡ send) → s1 ≡ edit n (held q) (holding_effect k o) s
          go (yes w) = nothing p w ∙ sym (nothing q w)
          go (no w) = ap (λ (x : ℕ). edit n (held x) (holding_effect k o) s) (sym (proper.other w))

      once : b ≡ p + 1 → (holding_fits k (held_of n q o s) && holding_fits k (heard_of n q o s)) ≡ holding_fits k (held_of n p o s)
      once h = go (is_send k)
        where
          go : Dec (k ≡ send) → (holding_fits k (held_of n q o s) && holding_fits k (heard_of n q o s)) ≡ holding_fits k (held_of n p o s)
          go (yes w) = rw w
          go (no w) = rw (proper.other w, (form.holdings p o proper.port proper.thing).heard_home h) (and_self (holding_fits k (held_of n p o s)))

      at_home : b ≡ p + 1 → well_formed n (hears n e s1) ≡ (holding_fits k (held_of n p o s) && transit_fits n k (transit_of n q o s))
      unfolding hears
      at_home h =
          ap (λ (t : List ℕ). well_formed n (hears n e t)) moved
          ∙ rows-event n few s formed q o proper.named proper.thing used k k k (λ r. refl)
          ∙ ap (λ (x : Bool). x && transit_fits n k (transit_of n q o s)) (once h)

      -- away from the home
      abbrev h : ℕ
      h = home n o s

      abbrev l : List ℕ
      l = read n (reports p h) s

      abbrev s2 : List ℕ
      s2 = edit n (reports p h) (added report_width (report e)) s

      h-low : h < n
      h-low = omega (arith, form.homes o proper.thing, pos_of_ne-zero used)

      h_byte : b ≡ h + 1
      h_byte = omega (arith, pos_of_ne-zero used)

      module _ (away : ¬ (b ≡ p + 1)) where
        not_own : ¬ (p ≡ h)
        not_own w = away (omega (arith, h_byte))

        lane_long : length l ≡ long n (reports p h)
        lane_long = read-long n (reports p h) s form.sized (lane_inside n p h proper.port h-low)

        lane_room : count l < report_places
        lane_room = omega (arith, (form.report_lanes p h proper.port h-low).few, room away)

        keeps2 : length (added report_width (report e) l) ≡ long n (reports p h)
        keeps2 = length-added report_width report_places (report e) l lane_long refl

        formed2 : well_formed n s2 ≡ true
        formed2 =
            reports_written n s formed p h proper.port h-low (added report_width (report e)) keeps2
            ∙ rw (ne_eqb p h not_own)
            (added-formed report_width report_places (report e) l lane_long refl lane_room (report_right n (read n objects s) p h)
            (rw (ne_eqb p h not_own) at (means_lane report_width report_places (eqb p h) (report_right n (read n objects s) p h) l (form.report_lanes p h proper.port h-low)))
            ∙ told_right n (read n objects s) p h o q k proper.thing h_byte (λ w. rw (lt-ltb q n proper.named, ne_eqb q p (proper.sent w))))

        same_in : (c : Stretch) → inside n c ≡ true → same (reports p h) c ≡ false → read n c s2 ≡ read n c s
        same_in c hc d = read_other n (reports p h) (added report_width (report e)) s form.sized (lane_inside n p h proper.port h-low) keeps2 c hc d

        told-away : well_formed n (edit n (reports p h) (added report_width (report e)) s1) ≡ holding_fits k (held_of n p o s)
        unfolding holding_effect transit_effect
        told-away =
            let i = port-inside n p proper.port in
            let j = lane_inside n p h proper.port h-low in
            let u : object_byte n o s2 ≡ b = ap (λ (r : List ℕ). get_or r o 0) (same_in objects refl refl) in
            let t = edit n (held p) (holding_effect k o) s2 in
            ap (λ (x : List ℕ). well_formed n x)
            (edit_swap n (held p) (reports p h) (holding_effect k o) (added report_width (report e)) s form.sized i j refl keeps keeps2
            ∙ sym (edit_none n (transit p) t)
            ∙ sym (edit_none n (heard p) (edit n (transit p) (λ r. r) t)))
            ∙ rows-event n few s2 formed2 p o proper.port proper.thing (λ w. used (sym u ∙ w)) k send create (λ w. absurd (away (sym u ∙ w)))
            ∙ and-true _
            ∙ and-true _
            ∙ ap (λ (r : List ℕ). holding_fits k (get_or r o 0)) (same_in (held p) i refl)

      pub happens_kept : well_formed n (happens n e s) ≡ happens_fits n e s
      unfolding happens tells
      happens_kept = rw same_byte (go (eqb b (p + 1)) refl)
        where
          go : (x : Bool) → eqb b (p + 1) ≡ x
              → well_formed n (cond x (hears n e s1) (edit n (reports p h) (added report_width (report e)) s1)) ≡ (holding_fits k (held_of n p o s) && cond x (transit_fits n k (transit_of n q o s)) true)
          go true w = at_home (eqb-true b (p + 1) w)
          go false w = told-away (eqb-false b (p + 1) w) ∙ sym (and-true (holding_fits k (held_of n p o s)))

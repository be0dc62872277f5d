-- What an act's silent checks leave of it is the model's guard; of a delivery and of a hearing the guard is also enough.
-- Assumes nothing.
use mathlib.Core.Path.{◌≡◌, refl, sym, subst, ap, ◌∙◌}
use mathlib.Core.Bool.{Bool, true≢false, ◌||◌, true, false, cond, not}
use mathlib.Core.List.{List, [], ◌∷◌}
use Prim.Native.Nat.{ℕ, ◌≤◌, ◌<◌}
use native.Mathlib.Omega.{arith}
use lib.Dec.{ltb, eqb}
use lib.ListN.{length, get_or}
use borrow.Author.Tests.{ltb-false, eqb-true, eq-eqb, ne_eqb, not-false}
use Rattle.paper.specs.Paper.{receive, create, delete}
use Rattle.books.specs.Numbers.{first}
use Rattle.books.specs.Books.{transit_zero, against, lowest_against}
use Rattle.books.proofs.Booleans.{left_false, right_false}
use Rattle.books.proofs.Numbers.{first-before}
use Rattle.lanes.specs.Lane.{pointer_width, report_width, count, entry, taken}
use Rattle.lanes.proofs.Entries.{entries-some}
use Rattle.store.specs.Layout.{pointers, reports, read}
use Rattle.store.specs.Store.{reported, well_formed, home, held_of, heard_of, transit_of}
use Rattle.store.proofs.Frame.{lane_inside, view, view_in}
use Rattle.machine.specs.Acts.{Act, Name, act, row_of, event, sending, MAKE, SEND, COPY, DROP, DELIVER, HEAR, ASK, RETIRE, SETTLE, HOLD}
use Rattle.machine.specs.Effects.{oldest_pointer, oldest_report}
use Rattle.machine.specs.Machine.{standing, rule}
use Rattle.machine.proofs.Firsts.{NoneOf}
use Rattle.demands.proofs.Model.{M}
use Rattle.demands.proofs.Steps.{Used, MayRetire, Guard}
use Rattle.demands.proofs.Bridge.{model, pointers_in, reports_in, owner_is, held_is, heard_is, transit_is}
use Rattle.demands.proofs.BridgeFormed.{owner-low, pointers-front, reports-front, oldest-used}
use Rattle.demands.proofs.BridgeChecks.{port_check, ports_check, object_check, used_check, apart_check, holds_check, room_check, pointer_check, report_check, place_check, told_check, free_check}

-- j stands in the list; a number of a list of which none passes a test does not pass it
unfoldable has : ℕ → List ℕ → Bool
has j [] = false
has j (k ∷ ks) = eqb j k || has j ks

none_at : (p : ℕ → Bool) (ks : List ℕ) → NoneOf p ks → (j : ℕ) → has j ks ≡ true → p j ≡ false
unfolding has
none_at p [] f j h = absurd (true≢false (sym h))
none_at p (k ∷ ks) f j h = go (eqb j k) refl h (λ t. none_at p ks f.1 j t)
  where
    go : (b : Bool) → eqb j k ≡ b → (b || has j ks) ≡ true → (has j ks ≡ true → p j ≡ false) → p j ≡ false
    go true q t g = ap p (eqb-true j k q) ∙ f.0
    go false q t g = g t

module _ (n : ℕ) (s : List ℕ) (formed : well_formed n s ≡ true) where
  -- the store's model
  abbrev m : M
  m = model n s

  -- none of the act's own checks applies
  abbrev pub Silent : Name → ℕ → ℕ → ℕ → Type 0
  Silent k A o B = NoneOf (rule n (act k A o B) s) (2 ∷ (row_of (act k A o B)).checks)

  -- a lane that has an entry: its oldest, and the others
  module _ (A B : ℕ) (ha : A < n) (hb : B < n) where
    -- the two lanes from A to B, as they are seen and as they are read
    abbrev pointer_lane : List ℕ
    pointer_lane = view n s (pointers A B)

    abbrev report_lane : List ℕ
    report_lane = view n s (reports A B)

    pointer_lane_lem : pointer_lane ≡ read n (pointers A B) s
    pointer_lane_lem = view_in n (pointers A B) s (lane_inside n A B ha hb)

    report_lane_lem : report_lane ≡ read n (reports A B) s
    report_lane_lem = view_in n (reports A B) s (lane_inside n A B ha hb)

    module _ (waits : ¬ (length (m.pointers A B) ≡ 0)) where
      -- the pointer lane has a pointer: the oldest, then the others
      some_pointer : 0 < count pointer_lane
      some_pointer = entries-some pointer_width (λ e. get_or e 0 0) pointer_lane waits

      pub pointers-first : m.pointers A B ≡ oldest_pointer n A B s ∷ pointers_in (taken pointer_width pointer_lane)
      pointers-first =
          pointers-front n s formed A B ha hb some_pointer
          ∙ ap (λ (l : List ℕ). get_or (entry pointer_width 0 l) 0 0 ∷ pointers_in (taken pointer_width pointer_lane)) pointer_lane_lem

      -- so the oldest is the list's first, and an object in use
      pub oldest_is : (x : ℕ) (l : List ℕ) → m.pointers A B ≡ x ∷ l → oldest_pointer n A B s ≡ x
      oldest_is x l h = ap (λ (k : List ℕ). get_or k 0 0) (sym pointers-first ∙ h)

      pub oldest-owned : ¬ (m.owner (oldest_pointer n A B s) ≡ 0)
      oldest-owned = subst (λ (l : List ℕ). ¬ (m.owner (get_or (entry pointer_width 0 l) 0 0) ≡ 0)) pointer_lane_lem (oldest-used n s formed A B ha hb some_pointer)

    module _ (waits : ¬ (length (m.reports A B) ≡ 0)) where
      -- the report lane has a report: the oldest, then the others
      some-report : 0 < count report_lane
      some-report = entries-some report_width (reported A) report_lane waits

      pub reports-first : m.reports A B ≡ oldest_report n A B s ∷ reports_in A (taken report_width report_lane)
      reports-first =
          reports-front n s formed A B ha hb some-report
          ∙ ap (λ (l : List ℕ). reported A (entry report_width 0 l) ∷ reports_in A (taken report_width report_lane)) report_lane_lem

  -- 13: no port stands against retiring
  module _ (A o B : ℕ) (used : Used n o m) (silent : rule n (act RETIRE A o B) s 13 ≡ false) where
    -- the object's home
    abbrev h : ℕ
    h = home n o s

    -- the test that a port stands against
    abbrev stands : ℕ → Bool
    stands = against n h (λ q. heard_of n q o s) (λ q. transit_of n q o s) (held_of n h o s)

    -- the first that passes it is none, so none passes it
    beyond : n ≤ first n stands
    unfolding rule standing lowest_against
    beyond = ltb-false (standing n o s) n silent

    none : (p : ℕ) → p < n → stands p ≡ false
    none p l = first-before stands n p l (omega (arith, beyond))

    -- its two parts: a holding, a transit; neither passes
    abbrev held_test : ℕ → Bool
    held_test p = cond (eqb p h) (ltb 0 (held_of n h o s)) (ltb 0 (heard_of n p o s))

    abbrev moved_test : ℕ → Bool
    moved_test p = not (eqb (transit_of n p o s) (transit_zero n))

    both : (p : ℕ) → p < n → (held_test p ≡ false) × (moved_test p ≡ false)
    unfolding against
    both p l = (left_false (held_test p) (moved_test p) (none p l), right_false (held_test p) (moved_test p) (none p l))

    -- so the object may be retired
    retirable : MayRetire n o m
    retirable = record {
      used = used;
      home = λ g q. (let b = owner_is n s o in let z : h ≡ g = omega (arith, b, q) in let l : g < n = omega (arith, q, owner-low n s formed o) in
          held_is n s g o l ∙ at_home g l z);
      away = λ g p q l d. (let b = owner_is n s o in let z : h ≡ g = omega (arith, b, q) in heard_is n s p o l ∙ off_home p l (λ r. d (r ∙ z)));
      moved = λ p l. transit_is n s p o l used.numbered ∙ eqb-true _ (transit_zero n) (not-false _ (both p l).1);
    }
      where
        at_home : (g : ℕ) → g < n → h ≡ g → held_of n g o s ≡ 0
        at_home g l z =
            let l' : h < n = omega (arith, l, z) in
            let t : ltb 0 (held_of n h o s) ≡ false = rw (eq-eqb h h refl) at (both h l').0 in
            ap (λ (x : ℕ). held_of n x o s) (sym z) ∙ omega (arith, ltb-false 0 (held_of n h o s) t)

        off_home : (p : ℕ) → p < n → ¬ (p ≡ h) → heard_of n p o s ≡ 0
        off_home p l d =
            let t : ltb 0 (heard_of n p o s) ≡ false = rw (ne_eqb p h d) at (both p l).0 in
            omega (arith, ltb-false 0 (heard_of n p o s) t)

  -- not 4 and 5
  in_use_lem : (a : Act) → rule n a s 4 ≡ false → rule n a s 5 ≡ false → Used n a.o m
  in_use_lem a c d = record { numbered = (object_check n s a).0 c; owned = (used_check n s a).0 d }

  -- THE GUARD of an act whose own checks are silent
  pub guard : (k : Name) (A o B : ℕ) → Silent k A o B → Guard n k A o B m
  unfolding has
  guard MAKE A o B f =
      let a = act MAKE A o B in
      let c = none_at (rule n a s) (2 ∷ (row_of a).checks) f in
      record { port = (port_check n s a refl refl).0 (c 3 refl); free = (free_check n s a).0 (c 12 refl) }
  guard SEND A o B f =
      let a = act SEND A o B in
      let c = none_at (rule n a s) (2 ∷ (row_of a).checks) f in
      let p = (ports_check n s a refl refl).0 (c 3 refl) in
      let u = in_use_lem a (c 4 refl) (c 5 refl) in
      record {
        sender = p.0;
        receiver = p.1;
        used = u;
        apart = (apart_check n s a).0 (c 6 refl);
        holds = (holds_check n s a p.0).0 (c 7 refl);
        room = (room_check n s a B p.1 refl).0 (c 8 refl);
        place = (place_check n s a p.0 p.1).0 (c 10 refl);
        told = (told_check n s a formed (sending o A B) refl p.0 u.owned).0 (c 11 refl);
      }
  guard COPY A o B f =
      let a = act COPY A o B in
      let c = none_at (rule n a s) (2 ∷ (row_of a).checks) f in
      let p = (port_check n s a refl refl).0 (c 3 refl) in
      let u = in_use_lem a (c 4 refl) (c 5 refl) in
      record {
        port = p;
        used = u;
        holds = (holds_check n s a p).0 (c 7 refl);
        room = (room_check n s a A p refl).0 (c 8 refl);
        told = (told_check n s a formed (event create o A) refl p u.owned).0 (c 11 refl);
      }
  guard DROP A o B f =
      let a = act DROP A o B in
      let c = none_at (rule n a s) (2 ∷ (row_of a).checks) f in
      let p = (port_check n s a refl refl).0 (c 3 refl) in
      let u = in_use_lem a (c 4 refl) (c 5 refl) in
      record { port = p; used = u; holds = (holds_check n s a p).0 (c 7 refl); told = (told_check n s a formed (event delete o A) refl p u.owned).0 (c 11 refl) }
  guard DELIVER A o B f =
      let a = act DELIVER A o B in
      let c = none_at (rule n a s) (2 ∷ (row_of a).checks) f in
      let p = (ports_check n s a refl refl).0 (c 3 refl) in
      let w = (pointer_check n s a p.0 p.1 refl).0 (c 9 refl) in
      record {
        sender = p.0;
        receiver = p.1;
        apart = (apart_check n s a).0 (c 6 refl);
        waits = w;
        told = λ x l h. rw (oldest_is A B p.0 p.1 w x l h) at
            ((told_check n s a formed (event receive (oldest_pointer n A B s) B) refl p.1 (oldest-owned A B p.0 p.1 w)).0 (c 11 refl));
      }
  guard HEAR A o B f =
      let a = act HEAR A o B in
      let c = none_at (rule n a s) (2 ∷ (row_of a).checks) f in
      let p = (ports_check n s a refl refl).0 (c 3 refl) in
      record { sender = p.0; receiver = p.1; apart = (apart_check n s a).0 (c 6 refl); waits = (report_check n s a p.0 p.1 refl).0 (c 9 refl) }
  guard ASK A o B f =
      let a = act ASK A o B in
      let c = none_at (rule n a s) (2 ∷ (row_of a).checks) f in
      in_use_lem a (c 4 refl) (c 5 refl)
  guard RETIRE A o B f =
      let a = act RETIRE A o B in
      let c = none_at (rule n a s) (2 ∷ (row_of a).checks) f in
      retirable A o B (in_use_lem a (c 4 refl) (c 5 refl)) (c 13 refl)
  guard SETTLE A o B f = tt
  guard HOLD A o B f =
      let a = act HOLD A o B in
      let c = none_at (rule n a s) (2 ∷ (row_of a).checks) f in
      ((port_check n s a refl refl).0 (c 3 refl), in_use_lem a (c 4 refl) (c 5 refl))

  -- AND BACK: a delivery and a hearing that the model leaves
  pub deliver_silent : (A o B : ℕ) → Guard n DELIVER A o B m → Silent DELIVER A o B
  deliver_silent A o B g =
      let a = act DELIVER A o B in
      let x : ℕ = oldest_pointer n A B s in
      let t = g.told x (pointers_in (taken pointer_width (view n s (pointers A B)))) (pointers-first A B g.sender g.receiver g.waits) in (
        unfold rule in refl,
        (
          (ports_check n s a refl refl).1 (g.sender, g.receiver),
          (
            (apart_check n s a).1 g.apart,
            (
              (pointer_check n s a g.sender g.receiver refl).1 g.waits,
              ((told_check n s a formed (event receive x B) refl g.receiver (oldest-owned A B g.sender g.receiver g.waits)).1 t, tt),
            ),
          ),
        ),
      )

  pub hear_silent : (A o B : ℕ) → Guard n HEAR A o B m → Silent HEAR A o B
  hear_silent A o B g =
      let a = act HEAR A o B in (
        unfold rule in refl,
        (
          (ports_check n s a refl refl).1 (g.sender, g.receiver),
          (
            (apart_check n s a).1 g.apart,
            ((report_check n s a g.sender g.receiver refl).1 g.waits, tt),
          ),
        ),
      )

-- MAKE and RETIRE on a well formed store, none of whose own checks applies: MAKE leaves it well formed, RETIRE exactly when nothing
-- holds or names the object any more.
-- Assumes nothing.
use mathlib.Core.Path.{◌≡◌, refl, sym, ap, ◌∙◌}
use mathlib.Core.Bool.{Bool, true, false, cond, not, ◌&&◌, and-true}
use mathlib.Core.List.{List, ◌∷◌}
use Prim.Native.Nat.{ℕ, ◌+◌, ◌%◌, ◌<◌, ◌≤◌}
use native.Mathlib.Nat.{pos_of_ne-zero}
use native.Mathlib.Decide.{ℕ_discrete}
use native.Mathlib.Omega.{arith}
use lib.Dec.{ltb, eqb, leb-zero}
use lib.ListN.{length, get_or, set, length-set}
use lib.Seq.{get_or-set_same, get_or-set_other}
use borrow.Author.Tests.{eqb-true, eqb-false, eq-eqb, ne_eqb, le-leb, ltb-false, not-true, not-false}
use Rattle.paper.specs.Paper.{create}
use Rattle.books.specs.Numbers.{every}
use Rattle.books.specs.Books.{object_limit, holding_limit, transit_zero, transit_top, against, lowest_against}
use Rattle.books.proofs.Booleans.{left_true, left_false, right_false}
use Rattle.books.proofs.Numbers.{every_all, every_ext, every_but, first-most, first_at, first-before}
use Rattle.lanes.specs.Lane.{pointer_width, report_width, count, entry}
use Rattle.store.specs.Layout.{objects, held, pointers, reports, read, edit}
use Rattle.store.specs.Store.{holding_formed, transit_formed, pointer_right, report_right, object_byte, in_use, home, held_of, heard_of, transit_of, well_formed}
use Rattle.store.proofs.Frame.{port-inside, read-long, read_same, read_other}
use Rattle.store.proofs.Formed.{Formed, formed_means, means_holding, means_transit}
use Rattle.store.proofs.Objects.{pointers_named, reports_named, object_written}
use Rattle.machine.specs.Acts.{act, MAKE, RETIRE, row_of, event}
use Rattle.machine.specs.Effects.{owned, lowest_free, happens, after}
use Rattle.machine.specs.Machine.{rule, standing}
use Rattle.machine.proofs.Firsts.{NoneOf}
use Rattle.machine.proofs.Passed.{passed_A, passed_4, passed_5, passed_12, passed_13}
use Rattle.machine.specs.Fits.{none_holds, no_pointer, no_report, retire_fits}
use Rattle.machine.proofs.Kept.{happens_kept}
use Rattle.machine.proofs.KeptActs.{proper_at}

module _ (n : ℕ) (s : List ℕ) (formed : well_formed n s ≡ true) where
  abbrev form : Formed n s
  form = formed_means n s formed

  abbrev obj : List ℕ
  obj = read n objects s

  obj-long : length obj ≡ object_limit
  obj-long = read-long n objects s form.sized refl

  -- entry i of a lane names an object in use, by the object bytes as they were
  abbrev pointed : ℕ → ℕ → ℕ → List ℕ
  pointed x y i = entry pointer_width i (read n (pointers x y) s)

  abbrev told : ℕ → ℕ → ℕ → List ℕ
  told x y i = entry report_width i (read n (reports x y) s)

  told_home : (x y i : ℕ) → x < n → y < n → i < count (read n (reports x y) s) → get_or obj (get_or (told x y i) 0 0 % object_limit) 0 ≡ y + 1
  told_home x y i hx hy hi =
      eqb-true _ (y + 1) (left_true (eqb (get_or obj (get_or (told x y i) 0 0 % object_limit) 0) (y + 1)) _ ((form.report_lanes x y hx hy).all i hi))

  -- ---- MAKE
  module _ (A o : ℕ) (ha : A < n) (ho : o < object_limit) (free : object_byte n o s ≡ 0) where
    abbrev now : List ℕ
    now = set obj o (A + 1)

    named_still : (j : ℕ) → ¬ (get_or obj j 0 ≡ 0) → get_or now j 0 ≡ get_or obj j 0
    named_still j u = get_or-set_other obj o j (A + 1) 0 (λ q. u (ap (λ (k : ℕ). get_or obj k 0) q ∙ free))

    holdings_free : every n (λ p. holding_formed p (A + 1) (held_of n p o s) (heard_of n p o s)) ≡ true
    holdings_free = every_all _ n (λ p h.
        let f = form.holdings p o h ho in
        means_holding p (A + 1) _ _ (record {
          held_low = f.held_low;
          heard_low = f.heard_low;
          held_free = λ q. f.held_free free;
          heard_free = λ q. f.heard_free free;
          heard_home = λ q. f.heard_free free ∙ sym (f.held_free free);
        }))

    transits_free : every n (λ p. transit_formed n (A + 1) (transit_of n p o s)) ≡ true
    transits_free = every_all _ n (λ p h.
        let f = form.transits p o h ho in
        means_transit n (A + 1) _ (record { transit_low = f.transit_low; transit_free = λ q. f.transit_free free }))

    pointers_still : pointers_named n now s ≡ true
    pointers_still = every_all _ n (λ x hx. every_all _ n (λ y hy. every_all _ (count (read n (pointers x y) s)) (λ i hi.
        let r = (form.pointer_lanes x y hx hy).all i hi in
        ap (λ (k : ℕ). not (eqb k 0)) (named_still (get_or (pointed x y i) 0 0) (eqb-false _ 0 (not-true _ r))) ∙ r)))

    reports_still : reports_named n now s ≡ true
    reports_still = every_all _ n (λ x hx. every_all _ n (λ y hy. every_all _ (count (read n (reports x y) s)) (λ i hi.
        let r = (form.report_lanes x y hx hy).all i hi in
        rw (named_still (get_or (told x y i) 0 0 % object_limit) (λ q. omega (arith, q, told_home x y i hx hy hi))) r)))

    pub owned-formed : well_formed n (owned n o (A + 1) s) ≡ true
    unfolding owned
    owned-formed =
        object_written n o (A + 1) s formed ho
        ∙ rw (le-leb (A + 1) n (omega arith), holdings_free, transits_free, pointers_still, reports_still)

    -- its first holding, heard at once
    module _ (few : transit_top n < 65535) where
      abbrev s0 : List ℕ
      s0 = edit n objects (λ r. set r o (A + 1)) s

      keeps : length (set obj o (A + 1)) ≡ object_limit
      keeps = rw length-set obj-long

      made : object_byte n o s0 ≡ A + 1
      made =
          ap (λ (r : List ℕ). get_or r o 0) (read_same n objects (λ r. set r o (A + 1)) s form.sized refl keeps)
          ∙ get_or-set_same obj o (A + 1) 0 (omega (arith, obj-long))

      nothing : held_of n A o s0 ≡ 0
      nothing =
          ap (λ (r : List ℕ). get_or r o 0) (read_other n objects (λ r. set r o (A + 1)) s form.sized refl keeps (held A) (port-inside n A ha) refl)
          ∙ (form.holdings A o ha ho).held_free free

      pub making_kept : well_formed n (happens n (event create o A) (owned n o (A + 1) s)) ≡ true
      unfolding owned
      making_kept =
          happens_kept n few s0 owned-formed (event create o A) (proper_at n create o A ha ho (omega arith)) (λ q. omega (arith, q, made)) (λ w. absurd (w made))
          ∙ rw (nothing, eq-eqb (object_byte n o s0) (A + 1) made)

  -- the lowest free object, where there is one
  free_low : ¬ (lowest_free n s ≡ object_limit) → lowest_free n s < object_limit
  unfolding lowest_free
  free_low d = omega (arith, d, first-most (λ o. not (in_use n o s)) object_limit)

  free_byte : lowest_free n s < object_limit → object_byte n (lowest_free n s) s ≡ 0
  unfolding lowest_free
  free_byte h = eqb-true _ 0 (not-false _ (not-true _ (first_at (λ o. not (in_use n o s)) object_limit h)))

  -- MAKE leaves the store well formed
  pub make_kept : transit_top n < 65535 → (A o B : ℕ) → NoneOf (rule n (act MAKE A o B) s) (2 ∷ (row_of (act MAKE A o B)).checks) → well_formed n (after n (act MAKE A o B) s) ≡ true
  unfolding after
  make_kept few A o B f =
      let a = act MAKE A o B in
      let low = free_low (passed_12 n a s f.1.1.0) in
      making_kept A (lowest_free n s) (passed_A n a s refl f.1.0) low (free_byte low) few

  -- ---- RETIRE
  module _ (o : ℕ) (ho : o < object_limit) (used : ¬ (object_byte n o s ≡ 0)) (none : n ≤ standing n o s) where
    abbrev gone : List ℕ
    gone = set obj o 0

    abbrev h : ℕ
    h = home n o s

    h-low : h < n
    h-low = omega (arith, form.homes o ho, pos_of_ne-zero used)

    h_byte : object_byte n o s ≡ h + 1
    h_byte = omega (arith, pos_of_ne-zero used)

    -- no port stands against
    not-against : (p : ℕ) → p < n → against n h (λ q. heard_of n q o s) (λ q. transit_of n q o s) (held_of n h o s) p ≡ false
    unfolding standing lowest_against
    not-against p hp = first-before (against n h (λ q. heard_of n q o s) (λ q. transit_of n q o s) (held_of n h o s)) n p hp (omega (arith, none))

    transit_none : (p : ℕ) → p < n → transit_of n p o s ≡ transit_zero n
    unfolding against
    transit_none p hp = eqb-true _ _ (not-false _ (right_false (cond (eqb p h) (ltb 0 (held_of n h o s)) (ltb 0 (heard_of n p o s))) (not (eqb (transit_of n p o s) (transit_zero n))) (not-against p hp)))

    heard_none : (p : ℕ) → p < n → heard_of n p o s ≡ 0
    unfolding against
    heard_none p hp = go (eqb p h) refl (left_false (cond (eqb p h) (ltb 0 (held_of n h o s)) (ltb 0 (heard_of n p o s))) (not (eqb (transit_of n p o s) (transit_zero n))) (not-against p hp))
      where
        go : (b : Bool) → eqb p h ≡ b → cond b (ltb 0 (held_of n h o s)) (ltb 0 (heard_of n p o s)) ≡ false → heard_of n p o s ≡ 0
        go true q e =
            let w : p ≡ h = eqb-true p h q in
            rw w ((form.holdings h o h-low ho).heard_home h_byte ∙ (omega (arith, ltb-false 0 (held_of n h o s) e)))
        go false q e = omega (arith, ltb-false 0 (heard_of n p o s) e)

    -- so what is left of the object's counts is that no port holds it
    held_left : every n (λ p. holding_formed p 0 (held_of n p o s) (heard_of n p o s)) ≡ none_holds n o s
    held_left = every_ext _ _ n (λ p hp. rw (heard_none p hp) (one p (held_of n p o s) (form.holdings p o hp ho).held_low))
      where
        one : (p t : ℕ) → t ≤ holding_limit → holding_formed p 0 t 0 ≡ eqb t 0
        one p t l = rw (le-leb t holding_limit l, ne_eqb 0 (p + 1) (λ q. omega arith), and-true (eqb t 0 && true), and-true (eqb t 0))

    transits_left : every n (λ p. transit_formed n 0 (transit_of n p o s)) ≡ true
    transits_left = every_all _ n (λ p hp.
        means_transit n 0 _ (record { transit_low = (form.transits p o hp ho).transit_low; transit_free = λ q. transit_none p hp }))

    -- and of the lanes, that no entry names it
    gone_at : get_or gone o 0 ≡ 0
    gone_at = get_or-set_same obj o 0 0 (omega (arith, obj-long))

    pointer_left : (e : List ℕ) → pointer_right obj e ≡ true → pointer_right gone e ≡ not (eqb (get_or e 0 0) o)
    pointer_left e r = go (ℕ_discrete (get_or e 0 0) o)
      where
        go : Dec (get_or e 0 0 ≡ o) → pointer_right gone e ≡ not (eqb (get_or e 0 0) o)
        go (yes q) = rw (q, gone_at, eq-eqb o o refl)
        go (no q) = rw (get_or-set_other obj o (get_or e 0 0) 0 0 q, r, ne_eqb (get_or e 0 0) o q)

    pointers_left : pointers_named n gone s ≡ no_pointer n o s
    pointers_left = every_ext _ _ n (λ x hx. every_ext _ _ n (λ y hy. every_ext _ _ (count (read n (pointers x y) s)) (λ i hi.
        pointer_left (pointed x y i) ((form.pointer_lanes x y hx hy).all i hi))))

    report_left : (x y : ℕ) (e : List ℕ) → report_right n obj x y e ≡ true → report_right n gone x y e ≡ not (eqb (get_or e 0 0 % object_limit) o)
    report_left x y e r = go (ℕ_discrete (get_or e 0 0 % object_limit) o)
      where
        go : Dec (get_or e 0 0 % object_limit ≡ o) → report_right n gone x y e ≡ not (eqb (get_or e 0 0 % object_limit) o)
        go (yes q) = rw (q, gone_at, eq-eqb o o refl, ne_eqb 0 (y + 1) (λ z. omega arith))
        go (no q) = rw (get_or-set_other obj o (get_or e 0 0 % object_limit) 0 0 q, r, ne_eqb (get_or e 0 0 % object_limit) o q)

    -- a report about it can stand only on a lane to its home
    abbrev unnamed : ℕ → ℕ → Bool
    unnamed x y = every (count (read n (reports x y) s)) (λ i. not (eqb (get_or (told x y i) 0 0 % object_limit) o))

    elsewhere : (x y : ℕ) → x < n → y < n → ¬ (y ≡ h) → unnamed x y ≡ true
    elsewhere x y hx hy d = every_all _ (count (read n (reports x y) s)) (λ i hi.
        rw (ne_eqb (get_or (told x y i) 0 0 % object_limit) o (λ q. d (omega (arith, told_home x y i hx hy hi, ap (λ (k : ℕ). get_or obj k 0) q, h_byte)))))

    reports_left : reports_named n gone s ≡ no_report n o s
    reports_left = every_ext _ _ n (λ x hx.
        every_ext _ (unnamed x) n (λ y hy. every_ext _ _ (count (read n (reports x y) s)) (λ i hi. report_left x y (told x y i) ((form.report_lanes x y hx hy).all i hi)))
        ∙ every_but (λ y. true) (unnamed x) n h h-low (every_all (λ y. true) n (λ y hy. refl)) (λ y hy d. elsewhere x y hx hy d))

    pub retiring_kept : well_formed n (owned n o 0 s) ≡ retire_fits n o s
    unfolding owned
    retiring_kept = object_written n o 0 s formed ho ∙ rw (leb-zero n, held_left, transits_left, pointers_left, reports_left, and-true (none_holds n o s))

  -- RETIRE: no port holds it, no pointer is it, no report is about it
  pub retire_kept : (A o B : ℕ) → NoneOf (rule n (act RETIRE A o B) s) (2 ∷ (row_of (act RETIRE A o B)).checks) → well_formed n (after n (act RETIRE A o B) s) ≡ retire_fits n o s
  unfolding after
  retire_kept A o B f =
      let a = act RETIRE A o B in
      retiring_kept o (passed_4 n a s f.1.0) (passed_5 n a s f.1.1.0) (passed_13 n a s f.1.1.1.0)

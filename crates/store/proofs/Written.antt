-- A well formed store with one port's rows, or one lane, replaced: it is well formed exactly when what was written is right. The
-- laws are equations, so that refusal 14 is decided both ways at once. A row that is not replaced is replaced by itself (edit_none).
-- Assumes nothing.
use mathlib.Core.Path.{◌≡◌, refl, sym, ap, ◌∙◌}
use mathlib.Core.Bool.{Bool, true, false, cond, ◌&&◌, and-true, and-false}
use mathlib.Core.List.{List}
use Prim.Native.Nat.{ℕ, ◌<◌}
use lib.Dec.{leb, eqb}
use lib.ListN.{length, get_or}
use borrow.Author.Tests.{eq-eqb, ne_eqb, eqb-true}
use Rattle.books.specs.Numbers.{every}
use Rattle.books.specs.Books.{object_limit, transit_at}
use Rattle.books.proofs.Booleans.{left_true, right_true}
use Rattle.books.proofs.Numbers.{every_ext, every_but, every_but_pair}
use Rattle.lanes.specs.Lane.{pointer_width, pointer_places, report_width, report_places, lane_formed}
use Rattle.store.specs.Layout.{Stretch, objects, held, heard, transit, pointers, reports, size, long, read, edit}
use Rattle.store.specs.Store.{holding_formed, transit_formed, pointer_right, report_right, well_formed}
use Rattle.store.proofs.Formed.{formed_means}
use Rattle.store.proofs.Frame.{inside, port-inside, lane_inside, view, upd, view_in, Viewed, viewed, edit_viewed}

-- two tests among five, the others true
five : (a b c d e x y : Bool) → a ≡ true → b ≡ x → c ≡ y → d ≡ true → e ≡ true → (a && b && c && d && e) ≡ (x && y)
five a b c d e x y p q r t u = rw (p, q, r, t, u, and-true (x && y && true), and-true (x && y))

module _ (n : ℕ) where
  -- one port's holdings and transits, one pointer lane, one report lane, obj being the object bytes
  unfoldable pub holdings_right : ℕ → List ℕ → List ℕ → List ℕ → Bool
  holdings_right p obj t h = every object_limit (λ o. holding_formed p (get_or obj o 0) (get_or t o 0) (get_or h o 0))

  unfoldable pub transits_right : List ℕ → List ℕ → Bool
  transits_right obj x = every object_limit (λ o. transit_formed n (get_or obj o 0) (transit_at o x))

  abbrev pub pointer_lane_right : ℕ → ℕ → List ℕ → List ℕ → Bool
  pointer_lane_right a b obj l = lane_formed pointer_width pointer_places (eqb a b) (pointer_right obj) l

  abbrev pub report_lane_right : ℕ → ℕ → List ℕ → List ℕ → Bool
  report_lane_right a b obj l = lane_formed report_width report_places (eqb a b) (report_right n obj a b) l

  -- the tests of a store, said of its stretches
  unfoldable pub homes_in : (Stretch → List ℕ) → Bool
  homes_in v = every object_limit (λ o. leb (get_or (v objects) o 0) n)

  unfoldable pub holdings_in : (Stretch → List ℕ) → Bool
  holdings_in v = every n (λ p. holdings_right p (v objects) (v (held p)) (v (heard p)))

  unfoldable pub transits_in : (Stretch → List ℕ) → Bool
  transits_in v = every n (λ p. transits_right (v objects) (v (transit p)))

  unfoldable pub pointers_in : (Stretch → List ℕ) → Bool
  pointers_in v = every n (λ a. every n (λ b. pointer_lane_right a b (v objects) (v (pointers a b))))

  unfoldable pub reports_in : (Stretch → List ℕ) → Bool
  reports_in v = every n (λ a. every n (λ b. report_lane_right a b (v objects) (v (reports a b))))

  abbrev pub formed_in : (Stretch → List ℕ) → Bool
  formed_in v = homes_in v && holdings_in v && transits_in v && pointers_in v && reports_in v

  pub record FormedIn (v : Stretch → List ℕ) : Type 0 where
    pub homes_are : homes_in v ≡ true
    pub holdings_are : holdings_in v ≡ true
    pub transits_are : transits_in v ≡ true
    pub pointers_are : pointers_in v ≡ true
    pub reports_are : reports_in v ≡ true

  -- the test of the bytes is the test of the stretches
  pub formed-view : (s : List ℕ) → length s ≡ size n → well_formed n s ≡ formed_in (view n s)
  unfolding well_formed homes_in holdings_in transits_in pointers_in reports_in holdings_right transits_right
  formed-view s e = rw (eq-eqb (length s) (size n) e, ho, tr, po, re, view_in n objects s refl)
    where
      ho : every n (λ p. every object_limit (λ o. holding_formed p (get_or (read n objects s) o 0) (get_or (read n (held p) s) o 0) (get_or (read n (heard p) s) o 0)))
          ≡ every n (λ p. every object_limit (λ o. holding_formed p (get_or (read n objects s) o 0) (get_or (view n s (held p)) o 0) (get_or (view n s (heard p)) o 0)))
      ho = every_ext _ _ n (λ p h. rw (view_in n (held p) s (port-inside n p h), view_in n (heard p) s (port-inside n p h)))

      tr : every n (λ p. every object_limit (λ o. transit_formed n (get_or (read n objects s) o 0) (transit_at o (read n (transit p) s))))
          ≡ every n (λ p. every object_limit (λ o. transit_formed n (get_or (read n objects s) o 0) (transit_at o (view n s (transit p)))))
      tr = every_ext _ _ n (λ p h. rw (view_in n (transit p) s (port-inside n p h)))

      po : every n (λ a. every n (λ b. pointer_lane_right a b (read n objects s) (read n (pointers a b) s)))
          ≡ every n (λ a. every n (λ b. pointer_lane_right a b (read n objects s) (view n s (pointers a b))))
      po = every_ext _ _ n (λ a h. every_ext _ _ n (λ b k. rw (view_in n (pointers a b) s (lane_inside n a b h k))))

      re : every n (λ a. every n (λ b. report_lane_right a b (read n objects s) (read n (reports a b) s)))
          ≡ every n (λ a. every n (λ b. report_lane_right a b (read n objects s) (view n s (reports a b))))
      re = every_ext _ _ n (λ a h. every_ext _ _ n (λ b k. rw (view_in n (reports a b) s (lane_inside n a b h k))))

  pub formed_viewed : (s : List ℕ) (v : Stretch → List ℕ) → Viewed n s v → well_formed n s ≡ formed_in v
  formed_viewed s v k = formed-view s k.sized ∙ ap (λ (u : Stretch → List ℕ). formed_in u) k.seen

  pub formed_in_lem : (v : Stretch → List ℕ) → formed_in v ≡ true → FormedIn v
  formed_in_lem v e =
      let e4 = left_true (homes_in v && holdings_in v && transits_in v && pointers_in v) (reports_in v) e in
      let e3 = left_true (homes_in v && holdings_in v && transits_in v) (pointers_in v) e4 in
      let e2 = left_true (homes_in v && holdings_in v) (transits_in v) e3 in
      record {
        homes_are = left_true (homes_in v) (holdings_in v) e2;
        holdings_are = right_true (homes_in v) (holdings_in v) e2;
        transits_are = right_true (homes_in v && holdings_in v) (transits_in v) e3;
        pointers_are = right_true (homes_in v && holdings_in v && transits_in v) (pointers_in v) e4;
        reports_are = right_true (homes_in v && holdings_in v && transits_in v && pointers_in v) (reports_in v) e;
      }

  -- Two stores u and v with the same object bytes, v passing a test: where they differ at port p alone, or at one lane alone, u's
  -- test is the test of that.
  module _ (u v : Stretch → List ℕ) (same-objects : u objects ≡ v objects) where
    holdings_but : (p : ℕ) → p < n → holdings_in v ≡ true → ((j : ℕ) → ¬ (j ≡ p) → (u (held j) ≡ v (held j)) × (u (heard j) ≡ v (heard j)))
        → holdings_in u ≡ holdings_right p (v objects) (u (held p)) (u (heard p))
    unfolding holdings_in
    holdings_but p h e f =
        every_but (λ j. holdings_right j (v objects) (v (held j)) (v (heard j))) (λ j. holdings_right j (u objects) (u (held j)) (u (heard j))) n p h e
        (λ j k d. rw (same-objects, (f j d).0, (f j d).1))
        ∙ rw same-objects

    transits_but : (p : ℕ) → p < n → transits_in v ≡ true → ((j : ℕ) → ¬ (j ≡ p) → u (transit j) ≡ v (transit j))
        → transits_in u ≡ transits_right (v objects) (u (transit p))
    unfolding transits_in
    transits_but p h e f =
        every_but (λ j. transits_right (v objects) (v (transit j))) (λ j. transits_right (u objects) (u (transit j))) n p h e
        (λ j k d. rw (same-objects, f j d))
        ∙ rw same-objects

    -- lanes of either kind
    lanes_but : (lane : ℕ → ℕ → Stretch) (right : ℕ → ℕ → List ℕ → List ℕ → Bool) (a b : ℕ) → a < n → b < n
        → every n (λ i. every n (λ j. right i j (v objects) (v (lane i j)))) ≡ true → ((i j : ℕ) → (i ≡ a → ¬ (j ≡ b)) → u (lane i j) ≡ v (lane i j))
        → every n (λ i. every n (λ j. right i j (u objects) (u (lane i j)))) ≡ right a b (v objects) (u (lane a b))
    lanes_but lane right a b ha hb e f =
        every_but_pair (λ i j. right i j (v objects) (v (lane i j))) (λ i j. right i j (u objects) (u (lane i j))) n a b ha hb e
        (λ i j d. rw (same-objects, f i j d))
        ∙ rw same-objects

  -- ---- a well formed store
  module _ (s : List ℕ) (formed : well_formed n s ≡ true) where
    abbrev now : Viewed n s (view n s)
    now = viewed n s (formed_means n s formed).sized

    abbrev is : FormedIn (view n s)
    is = formed_in_lem (view n s) (sym (formed_viewed s (view n s) now) ∙ formed)

    -- PORT p'S ROWS are replaced
    module _ (p : ℕ) (h : p < n) (f g k : List ℕ → List ℕ)
        (f-keeps : length (f (read n (held p) s)) ≡ long n (held p))
        (g-keeps : length (g (read n (transit p) s)) ≡ long n (transit p))
        (k-keeps : length (k (read n (heard p) s)) ≡ long n (heard p)) where
      seen : (c : Stretch) → inside n c ≡ true → read n c s ≡ view n s c
      seen c e = sym (view_in n c s e)

      pub port_written : well_formed n (edit n (heard p) k (edit n (transit p) g (edit n (held p) f s)))
          ≡ (holdings_right p (read n objects s) (f (read n (held p) s)) (k (read n (heard p) s)) && transits_right (read n objects s) (g (read n (transit p) s)))
      unfolding upd homes_in pointers_in reports_in
      port_written =
          let i = port-inside n p h in
          let v = view n s in
          let v1 = upd n (held p) (f (v (held p))) v in
          let v2 = upd n (transit p) (g (v (transit p))) v1 in
          let v3 = upd n (heard p) (k (v (heard p))) v2 in
          let t1 = edit_viewed n (held p) f s v now i (rw (← seen (held p) i) f-keeps) in
          let t2 = edit_viewed n (transit p) g _ v1 t1 i (rw (← seen (transit p) i) g-keeps) in
          let t3 = edit_viewed n (heard p) k _ v2 t2 i (rw (← seen (heard p) i) k-keeps) in
          formed_viewed _ v3 t3
          ∙ five (homes_in v3) (holdings_in v3) (transits_in v3) (pointers_in v3) (reports_in v3)
          (holdings_right p (read n objects s) (f (read n (held p) s)) (k (read n (heard p) s))) (transits_right (read n objects s) (g (read n (transit p) s)))
          is.homes_are
          (holdings_but v3 v refl p h is.holdings_are (λ j d. other j d) ∙ rw (eq-eqb p p refl, ← seen objects refl, ← seen (held p) i, ← seen (heard p) i))
          (transits_but v3 v refl p h is.transits_are (λ j d. rw (ne_eqb p j (λ q. d (sym q)))) ∙ rw (eq-eqb p p refl, ← seen objects refl, ← seen (transit p) i))
          is.pointers_are is.reports_are
        where
          other : (j : ℕ) → ¬ (j ≡ p)
              → (cond (eqb p j) (f (view n s (held p))) (view n s (held j)) ≡ view n s (held j))
              × (cond (eqb p j) (k (view n s (heard p))) (view n s (heard j)) ≡ view n s (heard j))
          other j d = (rw (ne_eqb p j (λ q. d (sym q))), rw (ne_eqb p j (λ q. d (sym q))))

    -- any stretch replaced
    edited : (c : Stretch) → inside n c ≡ true → (f : List ℕ → List ℕ) → length (f (read n c s)) ≡ long n c
        → well_formed n (edit n c f s) ≡ formed_in (upd n c (f (read n c s)) (view n s))
    edited c i f keeps =
        let q = view_in n c s i in
        formed_viewed _ _ (edit_viewed n c f s (view n s) now i (rw q keeps)) ∙ ap (λ (r : List ℕ). formed_in (upd n c (f r) (view n s))) q

    -- A LANE from a to b is replaced
    module _ (a b : ℕ) (ha : a < n) (hb : b < n) (f : List ℕ → List ℕ) where
      this_lane : (x y : List ℕ) → cond (eqb b b && eqb a a) x y ≡ x
      this_lane x y = rw (eq-eqb b b refl, eq-eqb a a refl)

      other_lane : (i j : ℕ) → (i ≡ a → ¬ (j ≡ b)) → (x y : List ℕ) → cond (eqb b j && eqb a i) x y ≡ y
      other_lane i j d x y = go (eqb a i) refl
        where
          go : (t : Bool) → eqb a i ≡ t → cond (eqb b j && t) x y ≡ y
          go true q = rw (ne_eqb b j (λ r. d (sym (eqb-true a i q)) (sym r)))
          go false q = rw (and-false (eqb b j))

      pub pointers_written : length (f (read n (pointers a b) s)) ≡ long n (pointers a b)
          → well_formed n (edit n (pointers a b) f s) ≡ pointer_lane_right a b (read n objects s) (f (read n (pointers a b) s))
      unfolding upd homes_in holdings_in transits_in pointers_in reports_in
      pointers_written keeps =
          let u = upd n (pointers a b) (f (read n (pointers a b) s)) (view n s) in
          edited (pointers a b) (lane_inside n a b ha hb) f keeps
          ∙ rw (is.homes_are, is.holdings_are, is.transits_are, is.reports_are, and-true (pointers_in u))
          (lanes_but u (view n s) refl pointers pointer_lane_right a b ha hb is.pointers_are (λ x y d. other_lane x y d _ _) ∙ rw (this_lane, view_in n objects s refl))

      pub reports_written : length (f (read n (reports a b) s)) ≡ long n (reports a b)
          → well_formed n (edit n (reports a b) f s) ≡ report_lane_right a b (read n objects s) (f (read n (reports a b) s))
      unfolding upd homes_in holdings_in transits_in pointers_in reports_in
      reports_written keeps =
          let u = upd n (reports a b) (f (read n (reports a b) s)) (view n s) in
          edited (reports a b) (lane_inside n a b ha hb) f keeps
          ∙ rw (is.homes_are, is.holdings_are, is.transits_are, is.pointers_are)
          (lanes_but u (view n s) refl reports report_lane_right a b ha hb is.reports_are (λ x y d. other_lane x y d _ _) ∙ rw (this_lane, view_in n objects s refl))

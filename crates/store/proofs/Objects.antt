-- A well formed store with one object byte replaced. It is the one stretch that every test reads, so what is left to test is that
-- object's counts at every port, and the entries of every lane.
-- Assumes nothing.
use mathlib.Core.Path.{◌≡◌, refl, ◌∙◌}
use mathlib.Core.Bool.{Bool, true, ◌&&◌}
use mathlib.Core.List.{List}
use Prim.Native.Nat.{ℕ, ◌<◌}
use lib.Dec.{leb, eqb}
use lib.ListN.{length, get_or, set, length-set}
use lib.Seq.{get_or-set_same, get_or-set_other}
use native.Mathlib.Omega.{arith}
use borrow.Author.Tests.{le-leb}
use Rattle.books.specs.Numbers.{every}
use Rattle.books.specs.Books.{object_limit}
use Rattle.books.proofs.Numbers.{every_all, every_ext, every_but}
use Rattle.lanes.specs.Lane.{pointer_width, pointer_places, report_width, report_places, count, entry}
use Rattle.lanes.proofs.Lane.{means_lane, lane_right}
use Rattle.store.specs.Layout.{Stretch, objects, held, heard, transit, pointers, reports, read, edit}
use Rattle.store.specs.Store.{holding_formed, transit_formed, pointer_right, report_right, held_of, heard_of, transit_of, well_formed}
use Rattle.store.proofs.Frame.{port-inside, lane_inside, read-long, view, upd, view_in, viewed, edit_viewed}
use Rattle.store.proofs.Formed.{Formed, formed_means, means_holding, means_transit}
use Rattle.store.proofs.Written.{holdings_right, transits_right, homes_in, holdings_in, transits_in, pointers_in, reports_in, formed_viewed}

module _ (n : ℕ) where
  -- the entries of every lane are right by the object bytes obj
  abbrev pub pointers_named : List ℕ → List ℕ → Bool
  pointers_named obj s = every n (λ x. every n (λ y. every (count (read n (pointers x y) s)) (λ i. pointer_right obj (entry pointer_width i (read n (pointers x y) s)))))

  abbrev pub reports_named : List ℕ → List ℕ → Bool
  reports_named obj s = every n (λ x. every n (λ y. every (count (read n (reports x y) s)) (λ i. report_right n obj x y (entry report_width i (read n (reports x y) s)))))

  -- OBJECT BYTE o BECOMES b
  module _ (o b : ℕ) (s : List ℕ) (formed : well_formed n s ≡ true) (ho : o < object_limit) where
    abbrev obj : List ℕ
    obj = set (read n objects s) o b

    abbrev v : Stretch → List ℕ
    v = view n s

    abbrev u : Stretch → List ℕ
    u = upd n objects (set (v objects) o b) v

    abbrev form : Formed n s
    form = formed_means n s formed

    seen : v objects ≡ read n objects s
    seen = view_in n objects s refl

    obj-long : length (read n objects s) ≡ object_limit
    obj-long = read-long n objects s form.sized refl

    -- the byte written, and the others
    written : get_or obj o 0 ≡ b
    written = get_or-set_same (read n objects s) o b 0 (omega (arith, obj-long))

    homes_written : homes_in n u ≡ leb b n
    unfolding homes_in upd
    homes_written =
        rw seen
        (every_but (λ i. leb (get_or (read n objects s) i 0) n) (λ i. leb (get_or obj i 0) n) object_limit o ho
        (every_all _ object_limit (λ i k. le-leb _ n (form.homes i k))) (λ j k d. rw (get_or-set_other (read n objects s) o j b 0 d))
        ∙ rw written)

    holdings_written : holdings_in n u ≡ every n (λ p. holding_formed p b (held_of n p o s) (heard_of n p o s))
    unfolding holdings_in upd holdings_right
    holdings_written =
        rw seen
        (every_ext _ _ n (λ p h. rw (view_in n (held p) s (port-inside n p h), view_in n (heard p) s (port-inside n p h)) (one p h)))
      where
        one : (p : ℕ) → p < n → every object_limit (λ i. holding_formed p (get_or obj i 0) (held_of n p i s) (heard_of n p i s)) ≡ holding_formed p b (held_of n p o s) (heard_of n p o s)
        one p h =
            every_but (λ i. holding_formed p (get_or (read n objects s) i 0) (held_of n p i s) (heard_of n p i s)) (λ i. holding_formed p (get_or obj i 0) (held_of n p i s) (heard_of n p i s)) object_limit o ho
            (every_all _ object_limit (λ i k. means_holding p _ _ _ (form.holdings p i h k)))
            (λ j k d. rw (get_or-set_other (read n objects s) o j b 0 d))
            ∙ rw written

    transits_written : transits_in n u ≡ every n (λ p. transit_formed n b (transit_of n p o s))
    unfolding transits_in upd transits_right
    transits_written = rw seen (every_ext _ _ n (λ p h. rw (view_in n (transit p) s (port-inside n p h)) (one p h)))
      where
        one : (p : ℕ) → p < n → every object_limit (λ i. transit_formed n (get_or obj i 0) (transit_of n p i s)) ≡ transit_formed n b (transit_of n p o s)
        one p h =
            every_but (λ i. transit_formed n (get_or (read n objects s) i 0) (transit_of n p i s)) (λ i. transit_formed n (get_or obj i 0) (transit_of n p i s)) object_limit o ho
            (every_all _ object_limit (λ i k. means_transit n _ _ (form.transits p i h k))) (λ j k d. rw (get_or-set_other (read n objects s) o j b 0 d))
            ∙ rw written

    pointers_named_lem : pointers_in n u ≡ pointers_named obj s
    unfolding pointers_in upd
    pointers_named_lem =
        rw seen
        (every_ext _ _ n (λ x h. every_ext _ _ n (λ y k. rw (view_in n (pointers x y) s (lane_inside n x y h k))
        (lane_right pointer_width pointer_places (eqb x y) (pointer_right (read n objects s)) (pointer_right obj) (read n (pointers x y) s)
        (means_lane pointer_width pointer_places (eqb x y) (pointer_right (read n objects s)) (read n (pointers x y) s) (form.pointer_lanes x y h k))))))

    reports_named_lem : reports_in n u ≡ reports_named obj s
    unfolding reports_in upd
    reports_named_lem =
        rw seen
        (every_ext _ _ n (λ x h. every_ext _ _ n (λ y k. rw (view_in n (reports x y) s (lane_inside n x y h k))
        (lane_right report_width report_places (eqb x y) (report_right n (read n objects s) x y) (report_right n obj x y) (read n (reports x y) s)
        (means_lane report_width report_places (eqb x y) (report_right n (read n objects s) x y) (read n (reports x y) s) (form.report_lanes x y h k))))))

    pub object_written : well_formed n (edit n objects (λ r. set r o b) s)
        ≡ (leb b n
        && every n (λ p. holding_formed p b (held_of n p o s) (heard_of n p o s))
        && every n (λ p. transit_formed n b (transit_of n p o s))
        && pointers_named obj s
        && reports_named obj s)
    object_written =
        formed_viewed n (edit n objects (λ r. set r o b) s) u
        (edit_viewed n objects (λ r. set r o b) s v (viewed n s form.sized) refl (rw (length-set, seen) obj-long))
        ∙ rw (homes_written, holdings_written, transits_written, pointers_named_lem, reports_named_lem)

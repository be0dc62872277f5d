-- The P table: the eight cases, computed over the definitions on the store of 7,360 bytes.
-- Assumes nothing.
use mathlib.Core.Path.{◌≡◌, refl, sym, ◌∙◌}
use mathlib.Core.Bool.{true}
use mathlib.Core.List.{List}
use Rattle.books.specs.Numbers.{every, some, first, sum_to}
use Rattle.books.specs.Books.{set_transit, transit_effect, holding_effect, verdict, against, lowest_against}
use Rattle.lanes.specs.Lane.{added, taken, pointers_to, silent, lane_formed}
use Rattle.store.specs.Layout.{objects, read, edit}
use Rattle.store.specs.Store.{words, fresh, well_formed, on_way}
use Rattle.machine.specs.Effects.{hears, tells, happens, owned, lowest_free, after, verdict_on, value_of}
use Rattle.machine.specs.Machine.{first_in, standing, rule, outcome}
use Rattle.cases.specs.Cases.{ports, Line, passes, case1, case2, case3, case4, case5, case6, case7, case8, table, all_pass}
use Rattle.cases.proofs.Walk.{walk, walk_rows, lengths, holdings_walked, transits_walked, pointers_walked, reports_walked, checked, check_walked, settling_walked}
use Rattle.cases.proofs.Quick.{formed, value, quickly, runs, runs-passes}

-- each case runs through, and the fresh store is well formed
pub record Runs : Type 0 where
  pub formed0 : checked ports (read ports objects (fresh ports)) (fresh ports) ≡ true
  pub run1 : runs case1 (fresh ports) ≡ true
  pub run2 : runs case2 (fresh ports) ≡ true
  pub run3 : runs case3 (fresh ports) ≡ true
  pub run4 : runs case4 (fresh ports) ≡ true
  pub run5 : runs case5 (fresh ports) ≡ true
  pub run6 : runs case6 (fresh ports) ≡ true
  pub run7 : runs case7 (fresh ports) ≡ true
  pub run8 : runs case8 (fresh ports) ≡ true

computed : Runs
unfolding every some first sum_to set_transit transit_effect holding_effect verdict against lowest_against added taken pointers_to silent lane_formed read edit words fresh on_way hears tells happens owned lowest_free after verdict_on value_of first_in standing rule outcome walk walk_rows lengths holdings_walked transits_walked pointers_walked reports_walked checked settling_walked formed value quickly runs
computed = record { formed0 = refl; run1 = refl; run2 = refl; run3 = refl; run4 = refl; run5 = refl; run6 = refl; run7 = refl; run8 = refl }

fresh-formed : well_formed ports (fresh ports) ≡ true
fresh-formed = sym (check_walked ports (fresh ports)) ∙ computed.formed0

-- a case that runs through passes
passed : (c : List Line) → runs c (fresh ports) ≡ true → passes c (fresh ports) ≡ true
passed c e = sym (runs-passes c (fresh ports) fresh-formed) ∙ e

-- THE P TABLE: every case passes
pub p-table : all_pass table ≡ true
unfolding all_pass
p-table =
    rw (
      passed case1 computed.run1,
      passed case2 computed.run2,
      passed case3 computed.run3,
      passed case4 computed.run4,
      passed case5 computed.run5,
      passed case6 computed.run6,
      passed case7 computed.run7,
      passed case8 computed.run8,
    )

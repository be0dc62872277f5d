-- The lines of a case, run with the walked check in place of the full one. On a well formed store that is the same run.
-- Assumes nothing.
use mathlib.Core.Path.{◌≡◌, refl}
use mathlib.Core.Bool.{Bool, true, false, cond, ◌&&◌}
use mathlib.Core.List.{List, [], ◌∷◌}
use Prim.Native.Nat.{ℕ}
use lib.Dec.{eqb}
use borrow.Author.Tests.{eqb-true}
use Rattle.store.specs.Layout.{objects, read}
use Rattle.store.specs.Store.{well_formed, heard_of, transit_of}
use Rattle.machine.specs.Acts.{Act, SETTLE, code_of, is, Outcome, gives}
use Rattle.machine.specs.Effects.{after, value_of}
use Rattle.machine.specs.Machine.{refusal, outcome, does}
use Rattle.machine.proofs.Judged.{judged, own, refusal-judged, does-formed}
use Rattle.cases.specs.Cases.{ports, Line, gets, says, agrees, passes}
use Rattle.cases.proofs.Walk.{checked, check_walked, settling_walked, settling_walked_lem}

-- a store is well formed, by the walked check
unfoldable pub formed : List ℕ → Bool
formed s = checked ports (read ports objects s) s

-- the value of an act that is taken
unfoldable pub value : Act → List ℕ → ℕ
value a s = cond (is SETTLE a) (settling_walked ports s) (value_of ports a s)

-- an act on a well formed store
abbrev pub number : Act → List ℕ → ℕ
number a s = judged (own ports a s) (formed (after ports a s))

unfoldable pub quickly : Act → List ℕ → Outcome
quickly a s = cond (eqb (number a s) 0) (gives 0 (value a s) (after ports a s)) (outcome ports (number a s) a s)

unfoldable pub runs : List Line → List ℕ → Bool
runs [] s = true
runs (gets a k v ∷ ls) s = let t = quickly a s in agrees t.answer k v && runs ls t.bytes
runs (says p h x ∷ ls) s = eqb (heard_of ports p 0 s) h && eqb (transit_of ports p 0 s) x && runs ls s

formed_is : (s : List ℕ) → formed s ≡ well_formed ports s
unfolding formed
formed_is s = check_walked ports s

value_is : (a : Act) (s : List ℕ) → value a s ≡ value_of ports a s
unfolding value
value_is a s = go (is SETTLE a) refl
  where
    go : (b : Bool) → is SETTLE a ≡ b → cond b (settling_walked ports s) (value_of ports a s) ≡ value_of ports a s
    go false e = refl
    go true e = unfold value_of in rw (settling_walked_lem, eqb-true a.code (code_of SETTLE) e)

quickly_is : (a : Act) (s : List ℕ) → well_formed ports s ≡ true → quickly a s ≡ does ports a s
unfolding quickly does outcome
quickly_is a s h = rw (value_is, formed_is (after ports a s), ← refusal-judged ports a s h) (go (eqb (refusal ports a s) 0) _ _)
  where
    go : (b : Bool) (x y : Outcome) → cond b x (cond b x y) ≡ cond b x y
    go true x y = refl
    go false x y = refl

pub runs-passes : (ls : List Line) (s : List ℕ) → well_formed ports s ≡ true → runs ls s ≡ passes ls s
unfolding runs passes
runs-passes [] s h = refl
runs-passes (gets a k v ∷ ls) s h = rw (quickly_is a s h, runs-passes ls (does ports a s).bytes (does-formed ports a s h))
runs-passes (says p k x ∷ ls) s h = rw (runs-passes ls s h)

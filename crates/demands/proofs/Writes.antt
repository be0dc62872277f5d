-- No act is merely nodded at: on any well formed store, an act that is taken, unless it is ASK, SETTLE or HOLD, changes a byte.
-- Assumes nothing.
use mathlib.Core.Path.{◌≡◌, refl, sym, subst, ap, ◌∙◌}
use mathlib.Core.Bool.{true}
use mathlib.Core.List.{List, [], ◌∷◌}
use Prim.Native.Nat.{ℕ, ◌<◌}
use native.Mathlib.Omega.{arith}
use lib.ListN.{length, length-append}
use Rattle.paper.specs.Paper.{create, delete}
use Rattle.books.specs.Books.{transit_top}
use Rattle.store.specs.Store.{well_formed}
use Rattle.machine.specs.Acts.{Act, Name, code_of, event, MAKE, SEND, COPY, DROP, DELIVER, HEAR, ASK, RETIRE, SETTLE, HOLD}
use Rattle.machine.specs.Machine.{does}
use Rattle.machine.proofs.Refusals.{answers}
use Rattle.demands.specs.Demands.{Taken}
use Rattle.demands.proofs.Events.{one_self, kinds_le}
use Rattle.demands.proofs.Model.{M, Effect, lowest}
use Rattle.demands.proofs.Steps.{Guard, Step, step}
use Rattle.demands.proofs.Acts.{lowest_free_lem}
use Rattle.demands.proofs.Bridge.{model}
use Rattle.demands.proofs.Run.{taken-bytes, taken_step}

-- an act that has something to write
pub record Writing (a : Act) : Type 0 where
  pub not_ask : ¬ (a.code ≡ code_of ASK)
  pub not_settle : ¬ (a.code ≡ code_of SETTLE)
  pub not_hold : ¬ (a.code ≡ code_of HOLD)

-- no such act leaves the model as it is: MAKE and RETIRE change an owner, COPY and DROP a holding, the others a lane
never_same : (n : ℕ) (m : M) (a : Act) → Writing a → ¬ (Step n m a m)
never_same n m a w (step k A o B g e) = go k w g e
  where
    go : (k : Name) → Writing (record { code = code_of k; A = A; o = o; B = B }) → Guard n k A o B m → Effect k A o B m m → ⊥
    go MAKE w g e = omega (arith, e.happens.owner (lowest m), e.owned.here, (lowest_free_lem n m g.free).1)
    go SEND w g e = omega (arith, ap length e.0.here, length-append (m.pointers A B) (o ∷ []))
    go COPY w g e = omega (arith, e.1.held A o, one_self create (event create o A) refl, kinds_le o A (event create o A))
    go DROP w g e = omega (arith, e.1.held A o, one_self delete (event delete o A) refl, kinds_le o A (event delete o A))
    go DELIVER w g e = omega (arith, ap length e.1.here)
    go HEAR w g e = omega (arith, ap length e.1.taken.here)
    go ASK w g e = w.not_ask refl
    go RETIRE w g e = g.used.owned e.here
    go SETTLE w g e = w.not_settle refl
    go HOLD w g e = w.not_hold refl

-- AN ACT THAT IS TAKEN WRITES
pub taken_writes : (n : ℕ) → transit_top n < 65535 → (s : List ℕ) → well_formed n s ≡ true → (a : Act) → Writing a → Taken n a s → ¬ ((does n a s).bytes ≡ s)
taken_writes n few s formed a w t same =
    let q = sym (answers n a s) ∙ t in
    never_same n (model n s) a w (subst (λ (u : List ℕ). Step n (model n s) a (model n u)) (sym (taken-bytes n s a q) ∙ same) (taken_step n few s formed a q))

-- HOLD: what it gives by each way out of its code.
-- Assumes nothing.
use mathlib.Core.Path.{◌≡◌, refl}
use mathlib.Core.Bool.{false}
use mathlib.Core.List.{List, [], ◌∷◌}
use Prim.Native.Nat.{ℕ, ◌≤◌, ◌<◌}
use native.Mathlib.Omega.{arith}
use Rattle.books.specs.Books.{object_limit}
use Rattle.store.specs.Store.{object_byte, held_of}
use Rattle.std.specs.Result.{IsErrAnd}
use Rattle.std.specs.Prelude.{Result, Ok, Err}
use Rattle.acts.specs.declared.Refusal.{Refusal}
use Rattle.acts.specs.declared.Refusal.TheVariants.{NoSuchObject}
use Rattle.acts.specs.Replies.{numbers}
use Rattle.machine.specs.Acts.{Act, Outcome, act, HOLD, gives}
use Rattle.machine.specs.Effects.{after, value_of}
use Rattle.machine.specs.Machine.{rule, does}
use Rattle.acts.specs.Ready.{Ready}
use Rattle.machine.proofs.Outcomes.{refuses, takes}
use Rattle.machine.proofs.Rules.{port_high, port-low, object_high, object-low, object_free, object-used}

module _ (n A o B : ℕ) (s : List ℕ) (ready : Ready n s) where
  abbrev a : Act
  a = act HOLD A o B

  known : rule n a s 2 ≡ false
  unfolding rule
  known = refl

  pub hold_3 : n ≤ A → gives 3 0 s ≡ does n a s
  hold_3 h = refuses n a s ready.formed (2 ∷ []) (4 ∷ 5 ∷ []) 3 refl (known, tt) (port_high n a s refl h) (λ q. omega arith) (λ q. omega arith)

  module _ (port : A < n) where
    pub hold_4 : object_limit ≤ o → gives 4 0 s ≡ does n a s
    hold_4 h =
        refuses n a s ready.formed (2 ∷ 3 ∷ []) (5 ∷ []) 4 refl (known, (port-low n a s refl refl port, tt)) (object_high n a s h) (λ q. omega arith) (λ q. omega arith)

    -- as the code has it: what is answered is an error, which is that one
    pub unnumbered : object_limit ≤ o → (r : Result ℕ Refusal) → IsErrAnd r (λ e. e ≡ NoSuchObject) → ◌≡◌ {A = Outcome} (record { answer = numbers r; bytes = s }) (does n a s)
    unnumbered h (Err e) q = rw q (hold_4 h)
    unnumbered h (Ok v) q = absurd q

    module _ (object : o < object_limit) where
      pub hold_5 : object_byte n o s ≡ 0 → gives 5 0 s ≡ does n a s
      hold_5 e =
          refuses n a s ready.formed (2 ∷ 3 ∷ 4 ∷ []) [] 5 refl (known, (port-low n a s refl refl port, (object-low n a s object, tt))) (object_free n a s e)
          (λ q. omega arith) (λ q. omega arith)

      pub hold-taken : (object_byte n o s ≡ 0 → ⊥) → (v : ℕ) → v ≡ held_of n A o s → gives 0 v s ≡ does n a s
      unfolding after value_of
      hold-taken e v q = takes n a s ready.formed (known, (port-low n a s refl refl port, (object-low n a s object, (object-used n a s e, tt)))) ready.formed v s q refl

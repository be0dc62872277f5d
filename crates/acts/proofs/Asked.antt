-- ASK: what it gives by each way out of its code.
-- Assumes nothing.
use mathlib.Core.Path.{◌≡◌, refl}
use mathlib.Core.Bool.{false}
use mathlib.Core.List.{List, [], ◌∷◌}
use Prim.Native.Nat.{ℕ, ◌≤◌, ◌<◌}
use native.Mathlib.Omega.{arith}
use denote.Enum.Declared.{tag_of}
use Rattle.books.specs.Books.{object_limit}
use Rattle.store.specs.Store.{object_byte}
use Rattle.std.specs.Result.{IsErrAnd}
use Rattle.std.specs.Prelude.{Result, Ok, Err}
use Rattle.acts.specs.declared.Refusal.{Refusal}
use Rattle.acts.specs.declared.Refusal.TheVariants.{NoSuchObject}
use Rattle.acts.specs.declared.ask.Verdict.{Verdict}
use Rattle.acts.specs.declared.ask.Verdict.TheVariants.{InUse, Absent, Early}
use Rattle.acts.specs.contracts.ask.Verdict.{the_type}
use Rattle.acts.specs.Replies.{numbers}
use Rattle.acts.specs.Verdicts.{number_of}
use Rattle.machine.specs.Acts.{Act, Outcome, act, ASK, gives}
use Rattle.machine.specs.Effects.{after, verdict_on, value_of}
use Rattle.machine.specs.Machine.{rule, does}
use Rattle.acts.specs.Ready.{Ready}
use Rattle.machine.proofs.Outcomes.{refuses, takes}
use Rattle.machine.proofs.Rules.{object_high, object-low, object_free, object-used}

-- a verdict's number is what `as` makes of it
pub as_number : (v : Verdict) → tag_of the_type v ≡ number_of v
as_number InUse = refl
as_number Absent = refl
as_number Early = refl

module _ (n A o B : ℕ) (s : List ℕ) (ready : Ready n s) where
  abbrev a : Act
  a = act ASK A o B

  known : rule n a s 2 ≡ false
  unfolding rule
  known = refl

  ask_4 : object_limit ≤ o → gives 4 0 s ≡ does n a s
  ask_4 h = refuses n a s ready.formed (2 ∷ []) (5 ∷ []) 4 refl (known, tt) (object_high n a s h) (λ q. omega arith) (λ q. omega arith)

  -- as the code has it: what is answered is an error, which is that one
  pub unnumbered : object_limit ≤ o → (r : Result ℕ Refusal) → IsErrAnd r (λ e. e ≡ NoSuchObject) → ◌≡◌ {A = Outcome} (record { answer = numbers r; bytes = s }) (does n a s)
  unnumbered h (Err e) q = rw q (ask_4 h)
  unnumbered h (Ok v) q = absurd q

  module _ (object : o < object_limit) where
    pub ask_5 : object_byte n o s ≡ 0 → gives 5 0 s ≡ does n a s
    ask_5 e =
        refuses n a s ready.formed (2 ∷ 4 ∷ []) [] 5 refl (known, (object-low n a s object, tt)) (object_free n a s e) (λ q. omega arith) (λ q. omega arith)

    pub ask-taken : ¬ (object_byte n o s ≡ 0) → (v : ℕ) → v ≡ verdict_on n o s → gives 0 v s ≡ does n a s
    unfolding after value_of
    ask-taken e v q = takes n a s ready.formed (known, (object-low n a s object, (object-used n a s e, tt))) ready.formed v s q refl

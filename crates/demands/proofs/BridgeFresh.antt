-- The fresh store is the model with no objects, no entries and all counts 0.
-- Assumes nothing.
use mathlib.Core.Path.{◌≡◌, refl, ap, ◌∙◌}
use mathlib.Core.List.{[]}
use Prim.Native.Nat.{ℕ, zero, suc, ◌<◌}
use native.Mathlib.Omega.{arith}
use native.Mathlib.Decide.{dec_lt}
use lib.ListN.{get_or, replicate, get_or-replicate, length-replicate, get_or-eq_default}
use Rattle.books.specs.Numbers.{list_to}
use Rattle.books.specs.Books.{object_limit}
use Rattle.lanes.specs.Lane.{report_width, count, entry}
use Rattle.store.specs.Layout.{objects, pointers, reports, read}
use Rattle.store.specs.Store.{fresh, reported}
use Rattle.store.proofs.Frame.{view}
use Rattle.store.proofs.Fresh.{fresh-formed}
use Rattle.demands.proofs.Steps.{Fresh}
use Rattle.demands.proofs.Bridge.{model, pointers_in, reports_in, owner_is}
use Rattle.demands.proofs.BridgeFormed.{held_free_lem, heard_free_lem, transit_free_lem, pointers_out, reports_out, oldest-used, oldest_home}

module _ (n : ℕ) where
  -- its object bytes are 0, so no object has an owner
  fresh-objects : read n objects (fresh n) ≡ replicate object_limit 0
  unfolding read fresh
  fresh-objects = refl

  unowned : (o : ℕ) → (model n (fresh n)).owner o ≡ 0
  unowned o = owner_is n (fresh n) o ∙ rw fresh-objects (go (dec_lt o object_limit))
    where
      go : Dec (o < object_limit) → ◌≡◌ {A = ℕ} (get_or (replicate object_limit 0) o 0) 0
      go (yes k) = get_or-replicate object_limit o 0 0 k
      go (no k) = get_or-eq_default (replicate object_limit 0) 0 {n = o} (omega (arith, length-replicate {A = ℕ} object_limit 0))

  -- a lane on which nothing can be is empty
  empty {ℓ} : {X : Type ℓ} (k : ℕ) (f : ℕ → X) → ¬ (0 < k) → list_to k f ≡ []
  unfolding list_to
  empty zero f d = refl
  empty (suc k) f d = absurd (d (omega arith))

  -- an entry would name an object in use
  no_pointers : (A B : ℕ) → (model n (fresh n)).pointers A B ≡ []
  no_pointers A B = go (dec_lt A n) (dec_lt B n)
    where
      go : Dec (A < n) → Dec (B < n) → (model n (fresh n)).pointers A B ≡ []
      go (yes h) (yes k) = empty (count (view n (fresh n) (pointers A B))) _ (λ w. oldest-used n (fresh n) (fresh-formed n) A B h k w (unowned _))
      go (yes h) (no k) = ap pointers_in (pointers_out n (fresh n) (fresh-formed n) A B (λ t. k t.1)) ∙ empty 0 _ (λ z. omega arith)
      go (no h) k = ap pointers_in (pointers_out n (fresh n) (fresh-formed n) A B (λ t. h t.0)) ∙ empty 0 _ (λ z. omega arith)

  no_reports : (A B : ℕ) → (model n (fresh n)).reports A B ≡ []
  no_reports A B = go (dec_lt A n) (dec_lt B n)
    where
      go : Dec (A < n) → Dec (B < n) → (model n (fresh n)).reports A B ≡ []
      go (yes h) (yes k) = empty (count (view n (fresh n) (reports A B))) _ (λ w. omega (arith, oldest_home n (fresh n) (fresh-formed n) A B h k w, unowned (reported A (entry report_width 0 (view n (fresh n) (reports A B)))).object))
      go (yes h) (no k) = ap (reports_in A) (reports_out n (fresh n) (fresh-formed n) A B (λ t. k t.1)) ∙ empty 0 _ (λ z. omega arith)
      go (no h) k = ap (reports_in A) (reports_out n (fresh n) (fresh-formed n) A B (λ t. h t.0)) ∙ empty 0 _ (λ z. omega arith)

  -- THE FRESH STORE
  pub fresh-model : Fresh n (model n (fresh n))
  fresh-model = record {
    owner = unowned;
    held = λ p o. held_free_lem n (fresh n) (fresh-formed n) p o (unowned o);
    heard = λ p o. heard_free_lem n (fresh n) (fresh-formed n) p o (unowned o);
    transit = λ p o. transit_free_lem n (fresh n) (fresh-formed n) p o (unowned o);
    pointers = no_pointers;
    reports = no_reports;
  }

-- Refusal 14 on a store whose model is one that acts reach: where an act's own checks are silent, the act fits, so that it is taken.
-- Assumes nothing.
use mathlib.Core.Path.{◌≡◌, refl, sym, subst, ap, ◌∙◌}
use mathlib.Core.Bool.{Bool, true, false, cond, not, ◌&&◌}
use mathlib.Core.List.{List, [], ◌∷◌, ◌++◌}
use Prim.Native.Nat.{ℕ, zero, suc, ◌+◌, ◌-◌, ◌%◌, ◌<◌}
use native.Mathlib.Omega.{arith}
use native.Mathlib.Decide.{ℕ_discrete}
use lib.Dec.{ltb, eqb}
use lib.ListN.{get_or}
use borrow.Author.Tests.{lt-ltb, eq-eqb, ne_eqb}
use Rattle.paper.specs.Paper.{Event, receive}
use Rattle.books.specs.Numbers.{list_to}
use Rattle.books.specs.Books.{object_limit, holding_limit, transit_top}
use Rattle.books.specs.Fits.{holding_fits, transit_fits}
use Rattle.books.proofs.Booleans.{both_true}
use Rattle.books.proofs.Numbers.{every_all}
use Rattle.lanes.specs.Lane.{pointer_width, report_width, count, entry}
use Rattle.store.specs.Layout.{pointers, reports, read}
use Rattle.store.specs.Store.{well_formed, object_byte, home}
use Rattle.machine.specs.Acts.{Act, Name, act, row_of, event, sending, MAKE, SEND, COPY, DROP, DELIVER, HEAR, ASK, RETIRE, SETTLE, HOLD}
use Rattle.machine.specs.Effects.{oldest_pointer, oldest_report, after}
use Rattle.machine.specs.Fits.{hears_fits, happens_fits, none_holds, no_pointer, no_report, retire_fits, fits}
use Rattle.machine.specs.Machine.{rule, refusal}
use Rattle.machine.proofs.Firsts.{NoneOf, none_first}
use Rattle.machine.proofs.Judged.{refusal-judged}
use Rattle.machine.proofs.Decided.{kept}
use Rattle.demands.specs.History.{those}
use Rattle.demands.proofs.Lists.{All, none_those}
use Rattle.demands.proofs.Events.{names-port}
use Rattle.demands.proofs.Model.{M}
use Rattle.demands.proofs.Hearing.{oldest_proper, oldest-named}
use Rattle.demands.proofs.Steps.{Guard}
use Rattle.demands.proofs.Kept.{Kept}
use Rattle.demands.proofs.Fits.{send_fits, deliver_room, deliver_transit, hear_holding_fits, hear_transit_fits, retire_holds, retire_pointers, retire_reports}
use Rattle.demands.proofs.Bridge.{model, owner_is, held_is, heard_is, transit_is, pointers_are_lem, reports_are_lem}
use Rattle.demands.proofs.BridgeFormed.{owned-low, owner-low}
use Rattle.demands.proofs.BridgeGuards.{Silent, guard, pointers-first, reports-first, oldest-owned}
use Rattle.demands.proofs.Run.{named}

-- what holds of every member of a list holds of each number's
all_last : {E : Type 0} (P : E → Type 0) (l : List E) (x : E) → All P (l ++ (x ∷ [])) → All P l × P x
unfolding All
all_last P [] x w = (tt, w.0)
all_last P (y ∷ l) x w = let r = all_last P l x w.1 in ((w.0, r.0), r.1)

all_listed : {E : Type 0} (P : E → Type 0) (k : ℕ) (f : ℕ → E) → All P (list_to k f) → (i : ℕ) → i < k → P (f i)
unfolding list_to
all_listed P zero f w i h = absurd (omega arith)
all_listed P (suc k) f w i h = go (ℕ_discrete i k) (all_last P (list_to k f) (f k) w) (λ v l. all_listed P k f v i l)
  where
    go : Dec (i ≡ k) → All P (list_to k f) × P (f k) → (All P (list_to k f) → i < k → P (f i)) → P (f i)
    go (yes q) v ih = rw q v.1
    go (no d) v ih = ih v.0 (omega arith)

module _ (n : ℕ) (few : transit_top n < 65535) (s : List ℕ) (formed : well_formed n s ≡ true) (k : Kept n (model n s)) where
  -- the store's model
  abbrev m : M
  m = model n s

  -- a test at the home only
  at_home : (b t : Bool) → (b ≡ true → t ≡ true) → cond b t true ≡ true
  at_home true t f = f refl
  at_home false t f = refl

  -- SEND
  sends_fit : (A o B : ℕ) → Guard n SEND A o B m → happens_fits n (sending o A B) s ≡ true
  sends_fit A o B g =
      at_home (eqb (object_byte n o s) (A + 1)) _ (λ _. ap (λ (x : ℕ). ltb x (transit_top n)) (sym (transit_is n s B o g.receiver g.used.numbered)) ∙ lt-ltb (m.transit B o) (transit_top n) (send_fits n m k A o B g))

  -- DELIVER
  delivers_fit : (A o B : ℕ) → Guard n DELIVER A o B m → happens_fits n (event receive (oldest_pointer n A B s) B) s ≡ true
  delivers_fit A o B g =
      let x : ℕ = oldest_pointer n A B s in
      let front = pointers-first n s formed A B g.sender g.receiver g.waits in
      let used = oldest-owned n s formed A B g.sender g.receiver g.waits in
      both_true _ _ (ap (λ (y : ℕ). ltb y holding_limit) (sym (held_is n s B x g.receiver)) ∙ lt-ltb (m.held B x) holding_limit (deliver_room n m k A B x _ g front))
      (at_home (eqb (object_byte n x s) (B + 1)) _ (λ _. ap (λ (y : ℕ). ltb 0 y) (sym (transit_is n s B x g.receiver (owned-low n s formed x used)))
      ∙ lt-ltb 0 (m.transit B x) (deliver_transit n m k A B x _ g front (m.owner x - 1) (omega arith))))

  -- HEAR
  hears_fit : (A o B : ℕ) → Guard n HEAR A o B m → hears_fits n (oldest_report n A B s) s ≡ true
  hears_fit A o B g =
      let e : Event = oldest_report n A B s in
      let front = reports-first n s formed A B g.sender g.receiver g.waits in
      let port = names-port n e (oldest_proper n A B m (k.core.home B) front) in
      let mine = oldest-named n A B m (k.core.home B) front in
      let low = owned-low n s formed e.object (λ z. omega (arith, z, mine)) in
      both_true _ _ (ap (λ (y : ℕ). holding_fits e.kind y) (sym (heard_is n s e.names e.object port)) ∙ hear_holding_fits n m k A B e _ front)
      (ap (λ (y : ℕ). transit_fits n e.kind y) (sym (transit_is n s e.names e.object port low)) ∙ hear_transit_fits n m k A B e _ front)

  -- RETIRE
  retires_fit : (A o B : ℕ) → Guard n RETIRE A o B m → retire_fits n o s ≡ true
  retires_fit A o B g =
      both_true (none_holds n o s && no_pointer n o s) (no_report n o s)
      (both_true (none_holds n o s) (no_pointer n o s)
      (every_all _ n (λ p l. eq-eqb _ 0 (sym (held_is n s p o l) ∙ retire_holds n m k o h homed g p l)))
      (every_all _ n (λ a la. every_all _ n (λ b lb. every_all _ (count (read n (pointers a b) s)) (λ i l. ap not (pointer a b la lb i l))))))
      (every_all _ n (λ a la. every_all _ (count (read n (reports a (home n o s)) s)) (λ i l. ap not (report a la i l))))
    where
      h : ℕ
      h = home n o s

      homed : m.owner o ≡ h + 1
      homed = (let b = owner_is n s o in let d : ¬ (m.owner o ≡ 0) = g.used.owned in omega (arith, b))

      port : h < n
      port = omega (arith, homed, owner-low n s formed o)

      pointer : (a b : ℕ) → a < n → b < n → (i : ℕ) → i < count (read n (pointers a b) s) → eqb (get_or (entry pointer_width i (read n (pointers a b) s)) 0 0) o ≡ false
      pointer a b la lb i l =
          all_listed (λ x. eqb x o ≡ false) (count (read n (pointers a b) s)) (λ j. get_or (entry pointer_width j (read n (pointers a b) s)) 0 0)
          (none_those (λ x. eqb x o) _ (ap (those (λ x. eqb x o)) (sym (pointers_are_lem n s a b la lb)) ∙ retire_pointers n m k o h homed g a b la lb)) i l

      report : (a : ℕ) → a < n → (i : ℕ) → i < count (read n (reports a h) s) → eqb (get_or (entry report_width i (read n (reports a h) s)) 0 0 % object_limit) o ≡ false
      report a la i l =
          ne_eqb _ o (all_listed (λ e. ¬ (e.object ≡ o)) (count (read n (reports a h) s)) _
          (subst (λ (x : List Event). All (λ e. ¬ (e.object ≡ o)) x) (reports_are_lem n s a h la port) (retire_reports n m k o h homed g a)) i l)

  -- every act whose own checks are silent fits
  fits-named : (j : Name) (A o B : ℕ) → Silent n s formed j A o B → fits n (act j A o B) s ≡ true
  unfolding fits
  fits-named MAKE A o B f = refl
  fits-named SEND A o B f = sends_fit A o B (guard n s formed SEND A o B f)
  fits-named COPY A o B f = refl
  fits-named DROP A o B f = refl
  fits-named DELIVER A o B f = delivers_fit A o B (guard n s formed DELIVER A o B f)
  fits-named HEAR A o B f = hears_fit A o B (guard n s formed HEAR A o B f)
  fits-named ASK A o B f = refl
  fits-named RETIRE A o B f = retires_fit A o B (guard n s formed RETIRE A o B f)
  fits-named SETTLE A o B f = refl
  fits-named HOLD A o B f = refl

  -- so 14 does not apply, and the act is taken
  module _ (a : Act) (f : NoneOf (rule n a s) (2 ∷ (row_of a).checks)) where
    pub after-formed : well_formed n (after n a s) ≡ true
    after-formed =
        let w = named n s a f.0 in
        kept n few s formed a f
        ∙ subst (λ (x : Act). fits n x s ≡ true) (sym w.1) (fits-named w.0 a.A a.o a.B (subst (λ (x : Act). NoneOf (rule n x s) (2 ∷ (row_of x).checks)) w.1 f))

    pub silent-taken : refusal n a s ≡ 0
    silent-taken = refusal-judged n a s formed ∙ rw (none_first (rule n a s) (2 ∷ (row_of a).checks) f, after-formed)

-- The lanes are what is left: on every model that acts reach, an object's owner is what the history makes it, a pointer lane is the
-- undelivered sendings and a report lane the unheard events, in order.
-- Assumes nothing.
use mathlib.Core.Path.{◌≡◌, refl, sym, ap, ◌∙◌}
use mathlib.Core.Bool.{Bool, true, false, cond, not, ◌&&◌}
use mathlib.Core.List.{List, [], ◌∷◌, ◌++◌, append-nil}
use Prim.Native.Nat.{ℕ, ◌+◌}
use native.Mathlib.Omega.{arith}
use native.Mathlib.Decide.{ℕ_discrete}
use lib.Dec.{eqb}
use lib.ListN.{get_or}
use borrow.Author.Tests.{eq-eqb, ne_eqb}
use Rattle.paper.specs.Paper.{Event, receive, create, delete}
use Rattle.machine.specs.Acts.{Act, Name, MAKE, SEND, COPY, DROP, DELIVER, HEAR, ASK, RETIRE, SETTLE, HOLD, act, is, event, sending}
use Rattle.demands.specs.History.{owner, next_free, times, sent, told, undelivered, unheard, events_of}
use Rattle.demands.proofs.Model.{M, Added, Taken, lowest, Happens, Owned, Same, Made, Effect}
use Rattle.demands.proofs.Steps.{step, Reached, begin, next}
use Rattle.demands.proofs.History.{Left, left_added, left_taken, owner_other, owner-made, owner_retired, times_other, times_here, times_there, sent_other, sent_here, sent_there, told_none, told-event}

-- the history of acts and the model that they reach say the same
pub record Follows (acts : List Act) (m : M) : Type 0 where
  pub owners : (o : ℕ) → owner acts o ≡ m.owner o
  pub pointers : (A B : ℕ) → Left (sent A B acts) (times DELIVER A B acts) (m.pointers A B)
  pub reports : (A B : ℕ) → Left (told A B acts) (times HEAR A B acts) (m.reports A B)

-- so MAKE's object, and the object that a delivery delivers, are the history's
pub next_lowest : (acts : List Act) (m : M) → Follows acts m → next_free acts ≡ lowest m
next_lowest acts m f = simp f.owners

pub oldest_left : (acts : List Act) (m : M) → Follows acts m → (A B x : ℕ) (l : List ℕ) → m.pointers A B ≡ x ∷ l → get_or (undelivered A B acts) 0 0 ≡ x
oldest_left acts m f A B x l h = rw ((f.pointers A B).left, h)

-- what is left, with its three parts put another way
rewritten : {E : Type 0} {all all' : List E} {k k' : ℕ} {lane lane' : List E} → all' ≡ all → k' ≡ k → lane' ≡ lane → Left all k lane → Left all' k' lane'
rewritten p q r w = rw (p, q, r) w

-- the pointer lanes of an act that neither sends nor delivers
still_pointers : (a : Act) (acts : List Act) (m m' : M) → is SEND a ≡ false → is DELIVER a ≡ false → ((A B : ℕ) → m'.pointers A B ≡ m.pointers A B)
    → Follows acts m → (A B : ℕ) → Left (sent A B (a ∷ acts)) (times DELIVER A B (a ∷ acts)) (m'.pointers A B)
still_pointers a acts m m' p q s f A B = rewritten (sent_other a acts A B p) (times_other a acts A B DELIVER q) (s A B) (f.pointers A B)

-- the report lanes of an act that is no event and no hearing
still_reports : (a : Act) (acts : List Act) (m m' : M) → events_of a acts ≡ [] → is HEAR a ≡ false → ((A B : ℕ) → m'.reports A B ≡ m.reports A B)
    → Follows acts m → (A B : ℕ) → Left (told A B (a ∷ acts)) (times HEAR A B (a ∷ acts)) (m'.reports A B)
still_reports a acts m m' p q s f A B = rewritten (told_none a acts A B p) (times_other a acts A B HEAR q) (s A B) (f.reports A B)

-- the report lanes of an act that is one event e, from m, which follows acts but for its owners, to m'
event-reports : (a : Act) (acts : List Act) (e : Event) (m m' : M) → events_of a acts ≡ e ∷ [] → is HEAR a ≡ false → owner (a ∷ acts) e.object ≡ m.owner e.object
    → Happens e m m' → (X Y : ℕ) → Left (told X Y acts) (times HEAR X Y acts) (m.reports X Y)
    → Left (told X Y (a ∷ acts)) (times HEAR X Y (a ∷ acts)) (m'.reports X Y)
event-reports a acts e m m' p q s w X Y f = go (ℕ_discrete e.at X) (ℕ_discrete (m.owner e.object) (Y + 1)) (ℕ_discrete X Y)
  where
    quiet : told X Y (a ∷ acts) ≡ told X Y acts → m'.reports X Y ≡ m.reports X Y → Left (told X Y (a ∷ acts)) (times HEAR X Y (a ∷ acts)) (m'.reports X Y)
    quiet t r = rewritten t (times_other a acts X Y HEAR q) r f

    none : (b : Bool) → (eqb e.at X && eqb (m.owner e.object) (Y + 1) && not (eqb X Y)) ≡ b → b ≡ false → told X Y (a ∷ acts) ≡ told X Y acts
    none b r z = told-event a acts X Y e p ∙ rw (s, r, z) (append-nil (told X Y acts))

    right : (b : Bool) → (b && false) ≡ false
    right true = refl
    right false = refl

    go : Dec (e.at ≡ X) → Dec (m.owner e.object ≡ Y + 1) → Dec (X ≡ Y) → Left (told X Y (a ∷ acts)) (times HEAR X Y (a ∷ acts)) (m'.reports X Y)
    go (no d) r t = quiet (none _ refl (rw (ne_eqb e.at X d))) (w.rest X Y (λ k. d (sym k.0)))
    go (yes u) (no d) t = quiet (none _ refl (rw (eq-eqb e.at X u, ne_eqb (m.owner e.object) (Y + 1) d))) (w.rest X Y (λ k. d k.1))
    go (yes u) (yes r) (yes t) = quiet (none _ refl (rw (eq-eqb e.at X u, eq-eqb (m.owner e.object) (Y + 1) r, eq-eqb X Y t))) (w.rest X Y (λ k. k.2 t))
    go (yes u) (yes r) (no d) = rewritten
        (told-event a acts X Y e p ∙ rw (s, eq-eqb e.at X u, eq-eqb (m.owner e.object) (Y + 1) r, ne_eqb X Y d))
        (times_other a acts X Y HEAR q)
        (ap (λ (Z : ℕ). m'.reports Z Y) (sym u) ∙ w.put Y r (λ k. d (sym u ∙ k)) ∙ ap (λ (Z : ℕ). m.reports Z Y ++ (e ∷ [])) u)
        (left_added e (told X Y acts) (times HEAR X Y acts) (m.reports X Y) f)

-- lanes from which one is taken, by an act of name k
taken_left : {E : Type 0} (k : Name) (acts : List Act) (A o B : ℕ) (x : E) (all : ℕ → ℕ → List E) (f g : ℕ → ℕ → List E)
    → ((X Y : ℕ) → Left (all X Y) (times k X Y acts) (f X Y)) → Taken A B x f g → (X Y : ℕ) → Left (all X Y) (times k X Y (act k A o B ∷ acts)) (g X Y)
taken_left k acts A o B x all f g w t X Y = go (ℕ_discrete X A) (ℕ_discrete Y B)
  where
    other : ¬ ((X ≡ A) × (Y ≡ B)) → Left (all X Y) (times k X Y (act k A o B ∷ acts)) (g X Y)
    other d = rewritten refl (times_there acts A o B k X Y d) (t.rest X Y d) (w X Y)

    go : Dec (X ≡ A) → Dec (Y ≡ B) → Left (all X Y) (times k X Y (act k A o B ∷ acts)) (g X Y)
    go (no d) r = other (λ j. d j.0)
    go (yes q) (no d) = other (λ j. d j.1)
    go (yes q) (yes r) = rw (q, r) (rewritten refl (times_here acts A o B k) refl (left_taken x (all A B) (times k A B acts) (g A B) (rw t.here at (w A B))))

sent_left : (acts : List Act) (A o B : ℕ) (m m' : M) → Follows acts m → Added A B o m.pointers m'.pointers
    → (X Y : ℕ) → Left (sent X Y (act SEND A o B ∷ acts)) (times DELIVER X Y (act SEND A o B ∷ acts)) (m'.pointers X Y)
sent_left acts A o B m m' f t X Y = go (ℕ_discrete X A) (ℕ_discrete Y B)
  where
    count : times DELIVER X Y (act SEND A o B ∷ acts) ≡ times DELIVER X Y acts
    count = times_other (act SEND A o B) acts X Y DELIVER refl

    other : ¬ ((X ≡ A) × (Y ≡ B)) → Left (sent X Y (act SEND A o B ∷ acts)) (times DELIVER X Y (act SEND A o B ∷ acts)) (m'.pointers X Y)
    other d = rewritten (sent_there acts A o B X Y d) count (t.rest X Y d) (f.pointers X Y)

    go : Dec (X ≡ A) → Dec (Y ≡ B) → Left (sent X Y (act SEND A o B ∷ acts)) (times DELIVER X Y (act SEND A o B ∷ acts)) (m'.pointers X Y)
    go (no d) r = other (λ j. d j.0)
    go (yes q) (no d) = other (λ j. d j.1)
    go (yes q) (yes r) = rw (q, r) (rewritten (sent_here acts A o B) (times_other (act SEND A o B) acts A B DELIVER refl) t.here
        (left_added o (sent A B acts) (times DELIVER A B acts) (m.pointers A B) (f.pointers A B)))

-- an act of one event that makes and retires nothing; an act that is no event
event_follows : (a : Act) (acts : List Act) (e : Event) (m m' : M) → is MAKE a ≡ false → is RETIRE a ≡ false → is HEAR a ≡ false → events_of a acts ≡ e ∷ []
    → Happens e m m' → ((A B : ℕ) → Left (sent A B (a ∷ acts)) (times DELIVER A B (a ∷ acts)) (m'.pointers A B)) → Follows acts m → Follows (a ∷ acts) m'
event_follows a acts e m m' p q r s w l f = record {
  owners = λ o. owner_other a acts o 0 p q ∙ f.owners o ∙ sym (w.owner o);
  pointers = l;
  reports = λ X Y. event-reports a acts e m m' s r (owner_other a acts e.object 0 p q ∙ f.owners e.object) w X Y (f.reports X Y);
}

same_follows : (a : Act) (acts : List Act) (m m' : M) → is MAKE a ≡ false → is RETIRE a ≡ false → is SEND a ≡ false → is DELIVER a ≡ false → is HEAR a ≡ false
    → events_of a acts ≡ [] → Same m m' → Follows acts m → Follows (a ∷ acts) m'
same_follows a acts m m' p q r s u v t f = record {
  owners = λ o. owner_other a acts o 0 p q ∙ f.owners o ∙ sym (t.owner o);
  pointers = still_pointers a acts m m' r s t.pointers f;
  reports = still_reports a acts m m' v u t.reports f;
}

-- the owner of an object that is given another owner
owned-owner : (x b : ℕ) (m m' : M) → Owned x b m m' → (q : ℕ) → cond (eqb q x) b (m.owner q) ≡ m'.owner q
owned-owner x b m m' t q = go (ℕ_discrete q x)
  where
    go : Dec (q ≡ x) → cond (eqb q x) b (m.owner q) ≡ m'.owner q
    go (yes r) = rw (eq-eqb q x r) (sym (ap m'.owner r ∙ t.here))
    go (no d) = rw (ne_eqb q x d) (sym (t.rest q d))

make_follows : (A o B : ℕ) (acts : List Act) (m m' : M) → Made A (lowest m) m m' → Follows acts m → Follows (act MAKE A o B ∷ acts) m'
make_follows A o B acts m m' t f = record {
  owners = λ q. owner-between q ∙ sym (t.happens.owner q);
  pointers = still_pointers (act MAKE A o B) acts m m' refl refl (λ X Y. t.pointers X Y ∙ t.owned.pointers X Y) f;
  reports = λ X Y. event-reports (act MAKE A o B) acts (event create (lowest m) A) t.between m' made refl (owner-between (lowest m)) t.happens X Y
      (rewritten refl refl (t.owned.reports X Y) (f.reports X Y));
}
  where
    made : events_of (act MAKE A o B) acts ≡ event create (lowest m) A ∷ []
    made = unfold events_of in ap (λ (x : ℕ). event create x A ∷ []) (next_lowest acts m f)

    owner-between : (q : ℕ) → owner (act MAKE A o B ∷ acts) q ≡ t.between.owner q
    owner-between q = owner-made acts A o B q ∙ rw (next_lowest acts m f, f.owners q) (owned-owner (lowest m) (A + 1) m t.between t.owned q)

-- an act that is taken
pub act_follows : (k : Name) (A o B : ℕ) (acts : List Act) (m m' : M) → Effect k A o B m m' → Follows acts m → Follows (act k A o B ∷ acts) m'
unfolding events_of
act_follows MAKE A o B acts m m' t f = make_follows A o B acts m m' t f
act_follows SEND A o B acts m m' t f =
    event_follows (act SEND A o B) acts (sending o A B) m m' refl refl refl refl t.1 (sent_left acts A o B m m' f t.0) f
act_follows COPY A o B acts m m' t f =
    event_follows (act COPY A o B) acts (event create o A) m m' refl refl refl refl t.1 (still_pointers (act COPY A o B) acts m m' refl refl t.0 f) f
act_follows DROP A o B acts m m' t f =
    event_follows (act DROP A o B) acts (event delete o A) m m' refl refl refl refl t.1 (still_pointers (act DROP A o B) acts m m' refl refl t.0 f) f
act_follows DELIVER A o B acts m m' t f =
    event_follows (act DELIVER A o B) acts (event receive t.0 B) m m' refl refl refl
    (ap (λ (x : ℕ). event receive x B ∷ []) (oldest_left acts m f A B t.0 (m'.pointers A B) t.1.here)) t.2
    (λ X Y. rewritten (sent_other (act DELIVER A o B) acts X Y refl) refl refl (taken_left DELIVER acts A o B t.0 (λ X Y. sent X Y acts) m.pointers m'.pointers f.pointers t.1 X Y)) f
act_follows HEAR A o B acts m m' t f = record {
  owners = λ q. owner_other (act HEAR A o B) acts q 0 refl refl ∙ f.owners q ∙ sym (t.1.owner q);
  pointers = still_pointers (act HEAR A o B) acts m m' refl refl t.1.pointers f;
  reports = λ X Y. rewritten (told_none (act HEAR A o B) acts X Y refl) refl refl
      (taken_left HEAR acts A o B t.0 (λ X Y. told X Y acts) m.reports m'.reports f.reports t.1.taken X Y);
}
act_follows ASK A o B acts m m' t f = same_follows (act ASK A o B) acts m m' refl refl refl refl refl refl t f
act_follows RETIRE A o B acts m m' t f = record {
  owners = λ q. owner_retired acts A o B q ∙ rw (f.owners q) (owned-owner o 0 m m' t q);
  pointers = still_pointers (act RETIRE A o B) acts m m' refl refl t.pointers f;
  reports = still_reports (act RETIRE A o B) acts m m' refl refl t.reports f;
}
act_follows SETTLE A o B acts m m' t f = same_follows (act SETTLE A o B) acts m m' refl refl refl refl refl refl t f
act_follows HOLD A o B acts m m' t f = same_follows (act HOLD A o B) acts m m' refl refl refl refl refl refl t f

-- DEMAND: the lanes are what is left
pub reached_follows : (n : ℕ) (acts : List Act) (m : M) → Reached n acts m → Follows acts m
reached_follows n acts m (begin f) = record {
  owners = λ o. unfold owner in sym (f.owner o);
  pointers = λ A B. rw (f.pointers A B) (unfold sent times in record { left = refl; few = omega arith });
  reports = λ A B. rw (f.reports A B) (unfold told times in record { left = refl; few = omega arith });
}
reached_follows n acts m (next {acts = before} {m = m₀} r (step k A o B w t)) = act_follows k A o B before m₀ m t (reached_follows n before m₀ r)

-- lane by lane
pub pointers_left : (n : ℕ) (acts : List Act) (m : M) → Reached n acts m → (A B : ℕ) → m.pointers A B ≡ undelivered A B acts
pointers_left n acts m r A B = sym ((reached_follows n acts m r).pointers A B).left

pub reports_left : (n : ℕ) (acts : List Act) (m : M) → Reached n acts m → (A B : ℕ) → m.reports A B ≡ unheard A B acts
reports_left n acts m r A B = sym ((reached_follows n acts m r).reports A B).left

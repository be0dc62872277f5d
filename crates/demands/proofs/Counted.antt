-- Document 004 on every model that acts reach: what happened about an object is legal; the true holdings and the pointers on the way are
-- the counts of what happened, the books those of what the home has heard.
-- Assumes nothing.
use mathlib.Core.Path.{◌≡◌, refl, sym, ap, ◌∙◌}
use mathlib.Core.Bool.{Bool, true, false, cond}
use mathlib.Core.List.{List, [], ◌∷◌, ◌++◌}
use Prim.Native.Nat.{ℕ, ◌+◌}
use native.Mathlib.Omega.{arith}
use native.Mathlib.Decide.{ℕ_discrete}
use lib.Dec.{eqb}
use lib.ListN.{take}
use borrow.Author.Tests.{eq-eqb, ne_eqb}
use Rattle.paper.specs.Paper.{Kind, send, receive, create, delete, Event, count}
use Rattle.books.specs.Books.{transit_zero}
use Rattle.machine.specs.Acts.{Act, Name, MAKE, SEND, COPY, DROP, DELIVER, HEAR, ASK, RETIRE, SETTLE, HOLD, act, is, event, sending}
use Rattle.demands.specs.History.{those, owner, next_free, events_of, learnt, since, happened, heard}
use Rattle.demands.proofs.Events.{one, count_more, count_none, one_object, one_kind}
use Rattle.demands.proofs.Model.{M, on_way, lowest, Deaf, Made, Effect}
use Rattle.demands.proofs.Home.{Can}
use Rattle.demands.proofs.Steps.{Guard, MayMake, step, Reached, begin, next}
use Rattle.demands.proofs.Acts.{lowest_free_lem, same_way, send_can, copy_can, drop_can, deliver_can}
use Rattle.demands.proofs.Kept.{Kept, reached_kept}
use Rattle.demands.proofs.Left.{Follows, next_lowest, oldest_left, act_follows, reached_follows}

-- what f gives of the acts about q, one act more: an event, no event, MAKE
module _ (f : Act → List Act → List Event) (a : Act) (acts : List Act) (q : ℕ) where
  pub since-event : (e : Event) → is MAKE a ≡ false → f a acts ≡ e ∷ [] → since f q (a ∷ acts) ≡ cond (eqb e.object q) (e ∷ since f q acts) (since f q acts)
  unfolding since those
  since-event e h k = rw (h, k) (go (eqb e.object q))
    where
      go : (b : Bool) → cond b (e ∷ []) [] ++ since f q acts ≡ cond b (e ∷ since f q acts) (since f q acts)
      go true = refl
      go false = refl

  pub since_none : is MAKE a ≡ false → f a acts ≡ [] → since f q (a ∷ acts) ≡ since f q acts
  unfolding since those
  since_none h k = rw (h, k)

  -- so it counts the event more
  pub count-event : (e : Event) → is MAKE a ≡ false → f a acts ≡ e ∷ [] → (k : Kind) (p : ℕ) → count k q p (since f q (a ∷ acts)) ≡ one k q p e + count k q p (since f q acts)
  count-event e h t k p = rw (since-event e h t) (go (ℕ_discrete e.object q))
    where
      go : Dec (e.object ≡ q) → count k q p (cond (eqb e.object q) (e ∷ since f q acts) (since f q acts)) ≡ one k q p e + count k q p (since f q acts)
      go (yes r) = rw (eq-eqb e.object q r) (count_more k q p e (since f q acts))
      go (no d) = rw (ne_eqb e.object q d) (omega (arith, one_object k q p e d))

module _ (f : Act → List Act → List Event) (A o B : ℕ) (acts : List Act) (e : Event) (w : f (act MAKE A o B) acts ≡ e ∷ []) (x : e.object ≡ next_free acts) where
  pub since-made : since f e.object (act MAKE A o B ∷ acts) ≡ e ∷ []
  unfolding since those
  since-made = rw (w, eq-eqb e.object e.object refl, eq-eqb e.object (next_free acts) x)

  pub since_others : (q : ℕ) → ¬ (q ≡ e.object) → since f q (act MAKE A o B ∷ acts) ≡ since f q acts
  unfolding since those
  since_others q d = rw (w, ne_eqb e.object q (λ r. d (sym r)), ne_eqb q (next_free acts) (λ r. d (r ∙ sym x)))

-- what an act that is one event e tells the home: e at the home, else nothing
module _ (a : Act) (acts : List Act) (e : Event) (h : is HEAR a ≡ false) (w : events_of a acts ≡ e ∷ []) where
  pub learnt_home : owner (a ∷ acts) e.object ≡ e.at + 1 → learnt a acts ≡ e ∷ []
  unfolding learnt those
  learnt_home q = rw (h, w, eq-eqb (owner (a ∷ acts) e.object) (e.at + 1) q)

  pub learnt-away : ¬ (owner (a ∷ acts) e.object ≡ e.at + 1) → learnt a acts ≡ []
  unfolding learnt those
  learnt-away q = rw (h, w, ne_eqb (owner (a ∷ acts) e.object) (e.at + 1) q)

-- 004's counts of a history E are a holding; they are a transit, above z
abbrev pub HoldingOf : ℕ → ℕ → List Event → ℕ → Type 0
HoldingOf o p E k = k + count delete o p E ≡ count receive o p E + count create o p E

abbrev pub TransitOf : ℕ → ℕ → ℕ → List Event → ℕ → Type 0
TransitOf z o p E k = k + count receive o p E ≡ z + count send o p E

-- the true holdings and the pointers on the way count what happened; the books what was heard
pub record Counted (n : ℕ) (acts : List Act) (m : M) : Type 0 where
  pub held : (p o : ℕ) → HoldingOf o p (happened o acts) (m.held p o)
  pub way : (p o : ℕ) → TransitOf 0 o p (happened o acts) (on_way n m.pointers p o)
  pub books : (p o : ℕ) → HoldingOf o p (heard o acts) (m.heard p o)
  pub transits : (p o : ℕ) → TransitOf (transit_zero n) o p (heard o acts) (m.transit p o)

module _ (n : ℕ) where
  -- an act that is one event and makes nothing
  event-counted : (a : Act) (acts : List Act) (e : Event) (m m' : M) → is MAKE a ≡ false → is HEAR a ≡ false → events_of a acts ≡ e ∷ []
      → owner (a ∷ acts) e.object ≡ m.owner e.object → Can n e m m' → Counted n acts m → Counted n (a ∷ acts) m'
  event-counted a acts e m m' h j w s c k = record {
    held = λ p o. (let i = count-event events_of a acts o e h w in omega (arith, k.held p o, c.happens.held p o, i delete p, i receive p, i create p));
    way = λ p o. (let i = count-event events_of a acts o e h w in omega (arith, k.way p o, c.moves p o, i receive p, i send p));
    books = λ p o. books p o (ℕ_discrete (m.owner e.object) (e.at + 1));
    transits = λ p o. transits p o (ℕ_discrete (m.owner e.object) (e.at + 1));
  }
    where
      books : (p o : ℕ) → Dec (m.owner e.object ≡ e.at + 1) → HoldingOf o p (heard o (a ∷ acts)) (m'.heard p o)
      books p o (yes q) = (let i = count-event learnt a acts o e h (learnt_home a acts e j w (s ∙ q)) in
          omega (arith, k.books p o, (c.happens.home q).heard p o, i delete p, i receive p, i create p))
      books p o (no d) = rw (since_none learnt a acts o h (learnt-away a acts e j w (λ q. d (sym s ∙ q))), (c.happens.away d).heard p o) (k.books p o)

      transits : (p o : ℕ) → Dec (m.owner e.object ≡ e.at + 1) → TransitOf (transit_zero n) o p (heard o (a ∷ acts)) (m'.transit p o)
      transits p o (yes q) = (let i = count-event learnt a acts o e h (learnt_home a acts e j w (s ∙ q)) in
          omega (arith, k.transits p o, (c.happens.home q).transit p o, i send p, i receive p))
      transits p o (no d) = rw (since_none learnt a acts o h (learnt-away a acts e j w (λ q. d (sym s ∙ q))), (c.happens.away d).transit p o) (k.transits p o)

  -- MAKE: the history of the object begins anew, and nothing was kept of it
  make_counted : (A o B : ℕ) (acts : List Act) (m m' : M) → Kept n m → MayMake n A m → Made A (lowest m) m m' → Follows acts m
      → Follows (act MAKE A o B ∷ acts) m' → Counted n acts m → Counted n (act MAKE A o B ∷ acts) m'
  make_counted A o B acts m m' g w t f f' k = record {
    held = λ p q. held p q (ℕ_discrete q x);
    way = λ p q. way p q (ℕ_discrete q x);
    books = λ p q. books p q (ℕ_discrete q x);
    transits = λ p q. transits p q (ℕ_discrete q x);
  }
    where
      x : ℕ
      x = lowest m

      e : Event
      e = event create x A

      happens : events_of (act MAKE A o B) acts ≡ e ∷ []
      happens = unfold events_of in ap (λ (y : ℕ). event create y A ∷ []) (next_lowest acts m f)

      mine : t.between.owner x ≡ A + 1
      mine = t.owned.here

      learns : learnt (act MAKE A o B) acts ≡ e ∷ []
      learns = learnt_home (act MAKE A o B) acts e refl happens (f'.owners x ∙ t.happens.owner x ∙ mine)

      bare : (p : ℕ) → (m.held p x ≡ 0) × (m.heard p x ≡ 0) × (m.transit p x ≡ transit_zero n) × (on_way n m.pointers p x ≡ 0)
      bare = g.core.clean x (lowest_free_lem n m w.free).1

      way_same : (p q : ℕ) → on_way n m'.pointers p q ≡ on_way n m.pointers p q
      way_same p q = same_way n t.between m' t.pointers p q ∙ same_way n m t.between t.owned.pointers p q

      only : (k : Kind) (p : ℕ) → count k x p (e ∷ []) ≡ one k x p e
      only k p = omega (arith, count_more k x p e [], count_none k x p)

      other : (q : ℕ) → ¬ (q ≡ x) → (p : ℕ) (k : Kind) → one k q p e ≡ 0
      other q d p k = one_object k q p e (λ r. d (sym r))

      held : (p q : ℕ) → Dec (q ≡ x) → HoldingOf q p (happened q (act MAKE A o B ∷ acts)) (m'.held p q)
      held p q (yes r) = rw (r, since-made events_of A o B acts e happens (sym (next_lowest acts m f)))
          (omega (arith, only delete p, only receive p, only create p, t.happens.held p x, t.owned.held p x, (bare p).0))
      held p q (no d) = rw (since_others events_of A o B acts e happens (sym (next_lowest acts m f)) q d)
          (omega (arith, k.held p q, t.happens.held p q, t.owned.held p q, other q d p delete, other q d p receive, other q d p create))

      way : (p q : ℕ) → Dec (q ≡ x) → TransitOf 0 q p (happened q (act MAKE A o B ∷ acts)) (on_way n m'.pointers p q)
      way p q (yes r) = rw (r, since-made events_of A o B acts e happens (sym (next_lowest acts m f)))
          (omega (arith, only send p, only receive p, way_same p x, (bare p).3, one_kind send x p e (λ z. omega arith), one_kind receive x p e (λ z. omega arith)))
      way p q (no d) = rw (since_others events_of A o B acts e happens (sym (next_lowest acts m f)) q d, way_same p q) (k.way p q)

      books : (p q : ℕ) → Dec (q ≡ x) → HoldingOf q p (heard q (act MAKE A o B ∷ acts)) (m'.heard p q)
      books p q (yes r) = rw (r, since-made learnt A o B acts e learns (sym (next_lowest acts m f)))
          (omega (arith, only delete p, only receive p, only create p, (t.happens.home mine).heard p x, t.owned.books.heard p x, (bare p).1))
      books p q (no d) = rw (since_others learnt A o B acts e learns (sym (next_lowest acts m f)) q d)
          (omega (arith, k.books p q, (t.happens.home mine).heard p q, t.owned.books.heard p q, other q d p delete, other q d p receive, other q d p create))

      transits : (p q : ℕ) → Dec (q ≡ x) → TransitOf (transit_zero n) q p (heard q (act MAKE A o B ∷ acts)) (m'.transit p q)
      transits p q (yes r) = rw (r, since-made learnt A o B acts e learns (sym (next_lowest acts m f)))
          (omega (arith, only send p, only receive p, (t.happens.home mine).transit p x, t.owned.books.transit p x, (bare p).2))
      transits p q (no d) = rw (since_others learnt A o B acts e learns (sym (next_lowest acts m f)) q d)
          (omega (arith, k.transits p q, (t.happens.home mine).transit p q, t.owned.books.transit p q, other q d p send, other q d p receive))

  -- HEAR: what was the oldest unheard event is heard
  hear_counted : (A o B : ℕ) (acts : List Act) (m m' : M) → (t : Effect HEAR A o B m m') → Follows acts m → Counted n acts m → Counted n (act HEAR A o B ∷ acts) m'
  hear_counted A o B acts m m' t f k = record {
    held = λ p q. rw (quiet q, t.1.held p q) (k.held p q);
    way = λ p q. rw (quiet q, same_way n m m' t.1.pointers p q) (k.way p q);
    books = λ p q. (let i = count-event learnt (act HEAR A o B) acts q t.0 refl hears in omega (arith, k.books p q, t.1.books.heard p q, i delete p, i receive p, i create p));
    transits = λ p q. (let i = count-event learnt (act HEAR A o B) acts q t.0 refl hears in omega (arith, k.transits p q, t.1.books.transit p q, i send p, i receive p));
  }
    where
      quiet : (q : ℕ) → happened q (act HEAR A o B ∷ acts) ≡ happened q acts
      quiet q = since_none events_of (act HEAR A o B) acts q refl (unfold events_of in refl)

      hears : learnt (act HEAR A o B) acts ≡ t.0 ∷ []
      hears = unfold learnt in ap (take 1) ((f.reports A B).left ∙ t.1.taken.here)

  -- an act that is no event and no hearing
  still_counted : (a : Act) (acts : List Act) (m m' : M) → is MAKE a ≡ false → is HEAR a ≡ false → events_of a acts ≡ []
      → ((p o : ℕ) → m'.held p o ≡ m.held p o) → Deaf m m' → ((A B : ℕ) → m'.pointers A B ≡ m.pointers A B) → Counted n acts m → Counted n (a ∷ acts) m'
  still_counted a acts m m' h j w held deaf s k = record {
    held = λ p o. rw (since_none events_of a acts o h w, held p o) (k.held p o);
    way = λ p o. rw (since_none events_of a acts o h w, same_way n m m' s p o) (k.way p o);
    books = λ p o. rw (since_none learnt a acts o h quiet, deaf.heard p o) (k.books p o);
    transits = λ p o. rw (since_none learnt a acts o h quiet, deaf.transit p o) (k.transits p o);
  }
    where
      quiet : learnt a acts ≡ []
      quiet = unfold learnt those in rw (j, w)

  act-counted : (k : Name) (A o B : ℕ) (acts : List Act) (m m' : M) → Kept n m → Follows acts m → Follows (act k A o B ∷ acts) m' → Guard n k A o B m → Effect k A o B m m'
      → Counted n acts m → Counted n (act k A o B ∷ acts) m'
  act-counted MAKE A o B acts m m' g f f' w t c = make_counted A o B acts m m' g w t f f' c
  act-counted SEND A o B acts m m' g f f' w t c =
      event-counted (act SEND A o B) acts (sending o A B) m m' refl refl (unfold events_of in refl) (f'.owners o ∙ t.1.owner o) (send_can n A o B m m' w t) c
  act-counted COPY A o B acts m m' g f f' w t c =
      event-counted (act COPY A o B) acts (event create o A) m m' refl refl (unfold events_of in refl) (f'.owners o ∙ t.1.owner o) (copy_can n A o B m m' w t) c
  act-counted DROP A o B acts m m' g f f' w t c =
      event-counted (act DROP A o B) acts (event delete o A) m m' refl refl (unfold events_of in refl) (f'.owners o ∙ t.1.owner o) (drop_can n A o B m m' w t) c
  act-counted DELIVER A o B acts m m' g f f' w t c =
      event-counted (act DELIVER A o B) acts (event receive t.0 B) m m' refl refl
      (unfold events_of in ap (λ (x : ℕ). event receive x B ∷ []) (oldest_left acts m f A B t.0 (m'.pointers A B) t.1.here))
      (f'.owners t.0 ∙ t.2.owner t.0) (deliver_can n A o B m m' g.room w t) c
  act-counted HEAR A o B acts m m' g f f' w t c = hear_counted A o B acts m m' t f c
  act-counted ASK A o B acts m m' g f f' w t c = still_counted (act ASK A o B) acts m m' refl refl (unfold events_of in refl) t.held t.books t.pointers c
  act-counted RETIRE A o B acts m m' g f f' w t c = still_counted (act RETIRE A o B) acts m m' refl refl (unfold events_of in refl) t.held t.books t.pointers c
  act-counted SETTLE A o B acts m m' g f f' w t c = still_counted (act SETTLE A o B) acts m m' refl refl (unfold events_of in refl) t.held t.books t.pointers c
  act-counted HOLD A o B acts m m' g f f' w t c = still_counted (act HOLD A o B) acts m m' refl refl (unfold events_of in refl) t.held t.books t.pointers c

  pub reached_counted : (acts : List Act) (m : M) → Reached n acts m → Counted n acts m
  unfolding since count
  reached_counted acts m (begin f) = record {
    held = λ p o. omega (arith, f.held p o);
    way = λ p o. omega (arith, ((reached_kept n acts m (begin f)).core.clean o (f.owner o) p).3);
    books = λ p o. omega (arith, f.heard p o);
    transits = λ p o. omega (arith, f.transit p o);
  }
  reached_counted acts m (next {acts = before} {m = m₀} r (step k A o B w t)) =
      act-counted k A o B before m₀ m (reached_kept n before m₀ r) (reached_follows n before m₀ r)
      (act_follows k A o B before m₀ m t (reached_follows n before m₀ r)) w t (reached_counted before m₀ r)

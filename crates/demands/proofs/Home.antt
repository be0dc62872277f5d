-- One home: what its books, the reports on the way to it and the pointers to its objects have to do with one another, and that an event
-- and a hearing keep that. There is one order of the unheard reports, all of the home's objects together and each lane's own order kept,
-- in which no receipt takes a transit below 0; a port's holdings depend on its own lane alone.
-- Assumes nothing.
use mathlib.Core.Path.{◌≡◌, refl, sym, ap, ◌∙◌}
use mathlib.Core.List.{List, [], ◌∷◌, ◌++◌}
use Prim.Native.Nat.{ℕ, ◌+◌, ◌≤◌, ◌<◌}
use native.Mathlib.Omega.{arith}
use native.Mathlib.Decide.{ℕ_discrete, dec_lt}
use Rattle.paper.specs.Paper.{Kind, send, receive, create, delete, Event}
use Rattle.books.specs.Books.{holding_limit, transit_zero}
use Rattle.demands.proofs.Lists.{All, all_nil, all_snoc, all_map, all_both, total, total_snoc}
use Rattle.demands.proofs.Order.{from, from_none, from_snoc, from_skip}
use Rattle.demands.proofs.Order.{Fine, fine_more, fine_snoc, fine_none}
use Rattle.demands.proofs.Events.{one, gain, loss, Proper, Holder, transit_count, holder_count, room_count, at_other, kinds_le, one_object}
use Rattle.demands.proofs.Model.{M, on_way, Hears, Happens}

-- the holding of o that the home has heard that X has, the reports of X's lane to h counted in, is X's true holding
abbrev pub Holdings : ℕ → ℕ → ℕ → M → Type 0
Holdings h X o m = m.heard X o + total (gain o X) (m.reports X h) ≡ m.held X o + total (loss o X) (m.reports X h)

module _ (n h : ℕ) where
  -- what this home's books, the report lanes to it and the pointers to its objects keep
  pub record Home (m : M) : Type 0 where
    pub order : List Event
    pub lanes : (X : ℕ) → m.reports X h ≡ from X order
    pub quiet : m.reports h h ≡ []
    pub named : All (λ e. m.owner e.object ≡ h + 1) order
    pub proper : All (Proper n) order
    pub ear : (X o : ℕ) → m.owner o ≡ h + 1 → m.heard X o ≤ holding_limit
    pub holder : (X o : ℕ) → m.owner o ≡ h + 1 → Fine (holder_count o X) (m.heard X o) 0 (m.reports X h)
    pub room : (X o : ℕ) → m.owner o ≡ h + 1 → Fine (room_count o X) holding_limit (m.heard X o) (m.reports X h)
    pub holding : (X o : ℕ) → m.owner o ≡ h + 1 → Holdings h X o m
    pub transits : (B o : ℕ) → m.owner o ≡ h + 1 → Fine (transit_count o B) (m.transit B o) (transit_zero n) order
    pub travel : (B o : ℕ) → m.owner o ≡ h + 1
        → m.transit B o + total (one send o B) order ≡ transit_zero n + total (one receive o B) order + on_way n m.pointers B o

  -- what the home has of its own objects, and what it has heard, are one
  pub home_hears_itself : (m : M) → Home m → (o : ℕ) → m.owner o ≡ h + 1 → m.heard h o ≡ m.held h o
  unfolding total
  home_hears_itself m i o w = omega (arith, rw i.quiet at (i.holding h o w))

-- What an event asks of the model in which it happens. Away from home it is by a holder if it is no receipt; where it gains one there is
-- room; and what is sent sets out as what is received arrives.
pub record Can (n : ℕ) (e : Event) (m m' : M) : Type 0 where
  pub proper : Proper n e
  pub able : ¬ (m.owner e.object ≡ e.at + 1) → Holder e.object e → 0 < m.held e.at e.object
  pub fits : (p o : ℕ) → 0 < gain o p e → m.held p o < holding_limit
  pub moves : (p o : ℕ) → on_way n m'.pointers p o + one receive o p e ≡ on_way n m.pointers p o + one send o p e
  pub happens : Happens e m m'

module _ (n h : ℕ) (e : Event) (m m' : M) (c : Can n e m m') (i : Home n h m) where
  mine : (o : ℕ) → m'.owner o ≡ h + 1 → m.owner o ≡ h + 1
  mine o w = sym (c.happens.owner o) ∙ w

  named : All (λ f. m'.owner f.object ≡ h + 1) i.order
  named = all_map _ _ i.order (λ f w. c.happens.owner f.object ∙ w) i.named

  -- the event is about an object of this home and happens away from it: it is the last of the order
  module _ (about : m.owner e.object ≡ h + 1) (off : ¬ (e.at ≡ h)) where
    deaf : ¬ (m.owner e.object ≡ e.at + 1)
    deaf q = off (omega arith)

    rest : (X : ℕ) → ¬ (X ≡ e.at) → m'.reports X h ≡ m.reports X h
    rest X d = c.happens.rest X h (λ t. d t.0)

    put : m'.reports e.at h ≡ m.reports e.at h ++ (e ∷ [])
    put = c.happens.put h about off

    -- at X's lane: what is said of it holds if it holds of the lane with the event added, where X is the port
    at_lane : (P : ℕ → List Event → Type 0) → P e.at (m.reports e.at h ++ (e ∷ [])) → ((X : ℕ) → ¬ (X ≡ e.at) → P X (m.reports X h))
        → (X : ℕ) → P X (m'.reports X h)
    at_lane P here there X = go (ℕ_discrete X e.at)
      where
        go : Dec (X ≡ e.at) → P X (m'.reports X h)
        go (yes q) = rw (q, put) here
        go (no d) = rw (rest X d) (there X d)

    pub away_home : Home n h m'
    away_home = record {
      order = i.order ++ (e ∷ []);
      lanes = at_lane (λ X l. l ≡ from X (i.order ++ (e ∷ [])))
          (rw (i.lanes e.at) (sym (from_snoc e.at i.order e refl)))
          (λ X d. i.lanes X ∙ sym (from_skip X i.order e (λ q. d (sym q))));
      quiet = rest h (λ q. off (sym q)) ∙ i.quiet;
      named = all_snoc _ i.order e named (c.happens.owner e.object ∙ about);
      proper = all_snoc _ i.order e i.proper c.proper;
      ear = λ X o w. omega (arith, (c.happens.away deaf).heard X o, i.ear X o (mine o w));
      holder = λ X o w. at_lane (λ Y l. Fine (holder_count o Y) (m'.heard Y o) 0 l)
          (rw ((c.happens.away deaf).heard e.at o) (fine_snoc (holder_count o e.at) (m.reports e.at h) e (m.heard e.at o) 0
          (i.holder e.at o (mine o w)) (λ k. (let q : 0 < m.held e.at o = rw k.1 at (c.able deaf (k.0, refl)) in omega (arith, i.holding e.at o (mine o w))))))
          (λ Y d. rw ((c.happens.away deaf).heard Y o) (i.holder Y o (mine o w))) X;
      room = λ X o w. at_lane (λ Y l. Fine (room_count o Y) holding_limit (m'.heard Y o) l)
          (rw ((c.happens.away deaf).heard e.at o) (fine_snoc (room_count o e.at) (m.reports e.at h) e holding_limit (m.heard e.at o)
          (i.room e.at o (mine o w)) (λ k. (let q : m.held e.at o < holding_limit = c.fits e.at o k in omega (arith, i.holding e.at o (mine o w))))))
          (λ Y d. rw ((c.happens.away deaf).heard Y o) (i.room Y o (mine o w))) X;
      holding = λ X o w. at_lane (λ Y l. m'.heard Y o + total (gain o Y) l ≡ m'.held Y o + total (loss o Y) l)
          (omega (
            arith,
            (c.happens.away deaf).heard e.at o,
            c.happens.held e.at o,
            i.holding e.at o (mine o w),
            total_snoc (gain o e.at) (m.reports e.at h) e,
            total_snoc (loss o e.at) (m.reports e.at h) e,
          ))
          (λ Y d. (let z = at_other n o Y e c.proper (λ q. d (sym q)) in omega (arith, (c.happens.away deaf).heard Y o, c.happens.held Y o, i.holding Y o (mine o w), z.0, z.1, z.2))) X;
      transits = λ B o w. rw ((c.happens.away deaf).transit B o) (fine_snoc (transit_count o B) i.order e (m.transit B o) (transit_zero n)
          (i.transits B o (mine o w)) (λ k. (let q : 0 < one receive o B e = k in omega (arith, i.travel B o (mine o w), c.moves B o, kinds_le o B e))));
      travel = λ B o w. omega (
        arith,
        i.travel B o (mine o w),
        c.moves B o,
        (c.happens.away deaf).transit B o,
        total_snoc (one send o B) i.order e,
        total_snoc (one receive o B) i.order e,
      );
    }

  -- the event is about an object of this home and happens there: it is heard at once
  module _ (about : m.owner e.object ≡ h + 1) (here : e.at ≡ h) where
    hears : Hears e m m'
    hears = c.happens.home (omega arith)

    still : (X : ℕ) → m'.reports X h ≡ m.reports X h
    still X = c.happens.rest X h (λ t. t.2 (t.0 ∙ here))

    -- at another port the event changes nothing
    elsewhere : (X o : ℕ) → ¬ (X ≡ h) → (one receive o X e ≡ 0) × (one create o X e ≡ 0) × (one delete o X e ≡ 0)
    elsewhere X o d = at_other n o X e c.proper (λ q. d (sym q ∙ here))

    pub here_home : Home n h m'
    here_home = record {
      order = i.order;
      lanes = λ X. still X ∙ i.lanes X;
      quiet = still h ∙ i.quiet;
      named = named;
      proper = i.proper;
      ear = λ X o w. ear X o (mine o w) (ℕ_discrete X h);
      holder = λ X o w. rw (still X) (holder X o (mine o w) (ℕ_discrete X h));
      room = λ X o w. rw (still X) (room X o (mine o w) (ℕ_discrete X h));
      holding = λ X o w. rw (still X) (omega (arith, hears.heard X o, c.happens.held X o, i.holding X o (mine o w)));
      transits = λ B o w. transits B o (mine o w) (ℕ_discrete B h);
      travel = λ B o w. omega (arith, i.travel B o (mine o w), hears.transit B o, c.moves B o);
    }
      where
        ear : (X o : ℕ) → m.owner o ≡ h + 1 → Dec (X ≡ h) → m'.heard X o ≤ holding_limit
        ear X o w (no d) = (let z = elsewhere X o d in omega (arith, i.ear X o w, hears.heard X o, z.0, z.1))
        ear X o w (yes q) = go (dec_lt 0 (gain o X e))
          where
            itself : m.heard X o ≡ m.held X o
            itself = rw q (home_hears_itself n h m i o w)

            go : Dec (0 < gain o X e) → m'.heard X o ≤ holding_limit
            go (yes k) = omega (arith, itself, c.fits X o k, hears.heard X o, kinds_le o X e)
            go (no k) = omega (arith, i.ear X o w, hears.heard X o)

        holder : (X o : ℕ) → m.owner o ≡ h + 1 → Dec (X ≡ h) → Fine (holder_count o X) (m'.heard X o) 0 (m.reports X h)
        holder X o w (yes q) = rw (q, i.quiet) (fine_none (holder_count o h) [] (m'.heard h o) 0 (all_nil _))
        holder X o w (no d) = (let z = elsewhere X o d in fine_more (holder_count o X) (m.reports X h) (m.heard X o) 0 (m'.heard X o) 0
            (omega (arith, hears.heard X o, z.0, z.1, z.2)) (i.holder X o w))

        room : (X o : ℕ) → m.owner o ≡ h + 1 → Dec (X ≡ h) → Fine (room_count o X) holding_limit (m'.heard X o) (m.reports X h)
        room X o w (yes q) = rw (q, i.quiet) (fine_none (room_count o h) [] holding_limit (m'.heard h o) (all_nil _))
        room X o w (no d) = (let z = elsewhere X o d in fine_more (room_count o X) (m.reports X h) holding_limit (m.heard X o) holding_limit (m'.heard X o)
            (omega (arith, hears.heard X o, z.0, z.1, z.2)) (i.room X o w))

        -- all that lowers the home's own transit happens at the home, of which no report is on the way
        transits : (B o : ℕ) → m.owner o ≡ h + 1 → Dec (B ≡ h) → Fine (transit_count o B) (m'.transit B o) (transit_zero n) i.order
        transits B o w (yes q) = fine_none (transit_count o B) i.order (m'.transit B o) (transit_zero n)
            (all_both _ _ _ i.order (λ f p d k. (let z = at_other n o B f p (λ r. d (r ∙ q)) in omega (arith, z.0, k))) i.proper
            (from_none h i.order (sym (i.lanes h) ∙ i.quiet)))
        transits B o w (no d) = (let z = elsewhere B o d in fine_more (transit_count o B) i.order (m.transit B o) (transit_zero n) (m'.transit B o) (transit_zero n)
            (omega (arith, hears.transit B o, z.0)) (i.transits B o w))

-- Nothing that this home looks at changes.
pub record Untouched (n h : ℕ) (m m' : M) : Type 0 where
  pub kept : (o : ℕ) → m'.owner o ≡ h + 1 → m.owner o ≡ h + 1
  pub named : (o : ℕ) → m.owner o ≡ h + 1 → m'.owner o ≡ h + 1
  pub held : (p o : ℕ) → m.owner o ≡ h + 1 → m'.held p o ≡ m.held p o
  pub heard : (p o : ℕ) → m.owner o ≡ h + 1 → m'.heard p o ≡ m.heard p o
  pub transit : (p o : ℕ) → m.owner o ≡ h + 1 → m'.transit p o ≡ m.transit p o
  pub way : (p o : ℕ) → m.owner o ≡ h + 1 → on_way n m'.pointers p o ≡ on_way n m.pointers p o
  pub reports : (X : ℕ) → m'.reports X h ≡ m.reports X h

-- then it keeps what it kept
pub untouched_home : (n h : ℕ) (m m' : M) → Untouched n h m m' → Home n h m → Home n h m'
untouched_home n h m m' u i = record {
  order = i.order;
  lanes = λ X. u.reports X ∙ i.lanes X;
  quiet = u.reports h ∙ i.quiet;
  named = all_map _ _ i.order (λ f. u.named f.object) i.named;
  proper = i.proper;
  ear = λ X o w. rw (u.heard X o (u.kept o w)) (i.ear X o (u.kept o w));
  holder = λ X o w. rw (u.reports X, u.heard X o (u.kept o w)) (i.holder X o (u.kept o w));
  room = λ X o w. rw (u.reports X, u.heard X o (u.kept o w)) (i.room X o (u.kept o w));
  holding = λ X o w. rw (u.reports X, u.heard X o (u.kept o w), u.held X o (u.kept o w)) (i.holding X o (u.kept o w));
  transits = λ B o w. rw (u.transit B o (u.kept o w)) (i.transits B o (u.kept o w));
  travel = λ B o w. rw (u.transit B o (u.kept o w), u.way B o (u.kept o w)) (i.travel B o (u.kept o w));
}

-- what an event that counts nothing of o at p leaves alone
pub unconcerned : (e : Event) (m m' : M) → Happens e m m' → (p o : ℕ) → ((k : Kind) → one k o p e ≡ 0)
    → (m'.held p o ≡ m.held p o) × (m'.heard p o ≡ m.heard p o) × (m'.transit p o ≡ m.transit p o)
unconcerned e m m' w p o z = go (ℕ_discrete (m.owner e.object) (e.at + 1))
  where
    held : m'.held p o ≡ m.held p o
    held = omega (arith, w.held p o, z receive, z create, z delete)

    go : Dec (m.owner e.object ≡ e.at + 1) → (m'.held p o ≡ m.held p o) × (m'.heard p o ≡ m.heard p o) × (m'.transit p o ≡ m.transit p o)
    go (no d) = (held, (w.away d).heard p o, (w.away d).transit p o)
    go (yes q) = (held, omega (arith, (w.home q).heard p o, z receive, z create, z delete), omega (arith, (w.home q).transit p o, z send, z receive))

-- an event keeps what every home looks at
pub event_home : (n h : ℕ) (e : Event) (m m' : M) → Can n e m m' → Home n h m → Home n h m'
event_home n h e m m' c i = go (ℕ_discrete (m.owner e.object) (h + 1)) (ℕ_discrete e.at h)
  where
    other : ¬ (m.owner e.object ≡ h + 1) → (p o : ℕ) → m.owner o ≡ h + 1 → (k : Kind) → one k o p e ≡ 0
    other d p o w k = one_object k o p e (λ q. d (ap m.owner q ∙ w))

    go : Dec (m.owner e.object ≡ h + 1) → Dec (e.at ≡ h) → Home n h m'
    go (yes q) (yes r) = here_home n h e m m' c i q r
    go (yes q) (no r) = away_home n h e m m' c i q r
    go (no d) r = untouched_home n h m m' (record {
      kept = λ o w. sym (c.happens.owner o) ∙ w;
      named = λ o w. c.happens.owner o ∙ w;
      held = λ p o w. (unconcerned e m m' c.happens p o (other d p o w)).0;
      heard = λ p o w. (unconcerned e m m' c.happens p o (other d p o w)).1;
      transit = λ p o w. (unconcerned e m m' c.happens p o (other d p o w)).2;
      way = λ p o w. omega (arith, c.moves p o, other d p o w receive, other d p o w send);
      reports = λ X. c.happens.rest X h (λ t. d t.1);
    }) i

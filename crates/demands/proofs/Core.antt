-- What every event and every hearing keeps of the model: each home's invariant, and all that well formed asks but the transits' range,
-- which follows (Range). Room is apart, since whole acts keep it, not events.
-- Assumes nothing.
use mathlib.Core.Path.{◌≡◌, refl, sym, ap, ◌∙◌}
use mathlib.Core.List.{[], ◌∷◌}
use Prim.Native.Nat.{ℕ, ◌+◌, ◌≤◌, ◌<◌}
use native.Mathlib.Omega.{arith}
use native.Mathlib.Decide.{ℕ_discrete, dec_lt}
use lib.ListN.{length, length-append}
use Rattle.paper.specs.Paper.{Kind, send, receive, create, delete, Event}
use Rattle.books.specs.Books.{holding_limit, transit_zero}
use Rattle.lanes.specs.Lane.{pointer_places, report_places}
use Rattle.demands.proofs.Lists.{All, all_both, all_those, all_never}
use Rattle.demands.proofs.Order.{from_at}
use Rattle.demands.proofs.Events.{one, gain, Proper, kinds_le, names-port, one_object, one_names}
use Rattle.demands.proofs.Model.{M, Lanes, SameLanes, on_way, Heard, Owned}
use Rattle.demands.proofs.Home.{Home, Can, unconcerned, event_home}
use Rattle.demands.proofs.Hearing.{oldest-named, oldest_proper, hear_home, hear_other}
use Rattle.demands.proofs.Absent.{Unnamed, Bare, owned_home}

-- pointer lanes: in range, none from a port to itself, none but between ports
pub record Laned (n : ℕ) (f : Lanes ℕ) : Type 0 where
  pub narrow : (A B : ℕ) → length (f A B) ≤ pointer_places
  pub self : (A : ℕ) → f A A ≡ []
  pub sender : (A B : ℕ) → n ≤ A → f A B ≡ []
  pub receiver : (A B : ℕ) → n ≤ B → f A B ≡ []

-- the same lanes
pub laned_same : (n : ℕ) (f g : Lanes ℕ) → SameLanes f g → Laned n f → Laned n g
laned_same n f g s w = record {
  narrow = λ A B. rw (s A B) (w.narrow A B);
  self = λ A. s A A ∙ w.self A;
  sender = λ A B k. s A B ∙ w.sender A B k;
  receiver = λ A B k. s A B ∙ w.receiver A B k;
}

-- nothing is kept of a port that is none
abbrev pub Void : ℕ → ℕ → ℕ → M → Type 0
Void n p o m = (m.held p o ≡ 0) × (m.heard p o ≡ 0) × (m.transit p o ≡ transit_zero n)

-- every home's invariant; owners are ports; of a free object and outside the ports nothing is kept; holdings and lanes in range
pub record Core (n : ℕ) (m : M) : Type 0 where
  pub home : (h : ℕ) → Home n h m
  pub owners : (o : ℕ) → m.owner o ≤ n
  pub clean : (o : ℕ) → m.owner o ≡ 0 → (p : ℕ) → Bare n p o m
  pub outside : (p o : ℕ) → n ≤ p → Void n p o m
  pub top : (p o : ℕ) → m.held p o ≤ holding_limit
  pub short : (A B : ℕ) → length (m.reports A B) ≤ report_places
  pub lanes : Laned n m.pointers

-- a report lane is between ports
module _ (n : ℕ) (m : M) (g : Core n m) (A B : ℕ) where
  pub report_proper : All (Proper n) (m.reports A B)
  report_proper = rw ((g.home B).lanes A) (all_those (Proper n) _ (g.home B).order (g.home B).proper)

  pub report-named : All (λ e. m.owner e.object ≡ B + 1) (m.reports A B)
  report-named = rw ((g.home B).lanes A) (all_those (λ e. m.owner e.object ≡ B + 1) _ (g.home B).order (g.home B).named)

  pub report_at : All (λ e. e.at ≡ A) (m.reports A B)
  report_at = rw ((g.home B).lanes A) (from_at A (g.home B).order)

  pub report_sender : n ≤ A → m.reports A B ≡ []
  report_sender k = all_never (λ e. (e.at ≡ A) × (e.at < n)) (m.reports A B)
      (all_both _ _ _ (m.reports A B) (λ e q w. (q, w.port)) report_at report_proper) (λ e w. omega (arith, w.0, w.1))

module _ (n : ℕ) where
  -- an event about an object in use, with room on its report lane
  pub event_core : (e : Event) (m m' : M) → Core n m → Can n e m m' → ¬ (m.owner e.object ≡ 0)
      → ((h : ℕ) → m.owner e.object ≡ h + 1 → ¬ (e.at ≡ h) → length (m.reports e.at h) < report_places) → Laned n m'.pointers → Core n m'
  event_core e m m' g c used place lanes = record {
    home = λ h. event_home n h e m m' c (g.home h);
    owners = λ o. omega (arith, c.happens.owner o, g.owners o);
    clean = λ o w p. (let k : m.owner o ≡ 0 = sym (c.happens.owner o) ∙ w in
        let u = unconcerned e m m' c.happens p o (other o p k) in let b = g.clean o k p in
        (u.0 ∙ b.0, u.1 ∙ b.1, u.2 ∙ b.2, omega (arith, c.moves p o, other o p k send, other o p k receive, b.3)));
    outside = λ p o l. (let u = unconcerned e m m' c.happens p o (λ k. one_names k o p e (λ q. omega (arith, names-port n e c.proper))) in
        let b = g.outside p o l in (u.0 ∙ b.0, u.1 ∙ b.1, u.2 ∙ b.2));
    top = λ p o. top p o (dec_lt 0 (gain o p e));
    short = λ A B. short A B (ℕ_discrete A e.at) (ℕ_discrete (m.owner e.object) (B + 1)) (ℕ_discrete A B);
    lanes = lanes;
  }
    where
      other : (o p : ℕ) → m.owner o ≡ 0 → (k : Kind) → one k o p e ≡ 0
      other o p w k = one_object k o p e (λ q. used (ap m.owner q ∙ w))

      top : (p o : ℕ) → Dec (0 < gain o p e) → m'.held p o ≤ holding_limit
      top p o (yes k) = omega (arith, c.fits p o k, c.happens.held p o, kinds_le o p e)
      top p o (no k) = omega (arith, g.top p o, c.happens.held p o)

      short : (A B : ℕ) → Dec (A ≡ e.at) → Dec (m.owner e.object ≡ B + 1) → Dec (A ≡ B) → length (m'.reports A B) ≤ report_places
      short A B (no d) r s = rw (c.happens.rest A B (λ t. d t.0)) (g.short A B)
      short A B (yes q) (no d) s = rw (c.happens.rest A B (λ t. d t.1)) (g.short A B)
      short A B (yes q) (yes r) (yes s) = rw (c.happens.rest A B (λ t. t.2 s)) (g.short A B)
      short A B (yes q) (yes r) (no d) = (let off : ¬ (e.at ≡ B) = λ s. d (q ∙ s) in
          rw (q, c.happens.put B r off, length-append) (omega (arith, place B r off)))

  -- a hearing
  pub hear_core : (A h : ℕ) (e : Event) (m m' : M) → Core n m → Heard A h e m m' → Core n m'
  hear_core A h e m m' g t = record {
    home = λ k. home k (ℕ_discrete k h);
    owners = λ o. omega (arith, t.owner o, g.owners o);
    clean = λ o w p. (let k : m.owner o ≡ 0 = sym (t.owner o) ∙ w in let b = g.clean o k p in let z = other o p k in (
      t.held p o ∙ b.0,
      omega (arith, t.books.heard p o, b.1, z receive, z create, z delete),
      omega (arith, t.books.transit p o, b.2, z send, z receive),
      way p o ∙ b.3,
    ));
    outside = λ p o l. (let b = g.outside p o l in let z = away o p l in (
      t.held p o ∙ b.0,
      omega (arith, t.books.heard p o, b.1, z receive, z create, z delete),
      omega (arith, t.books.transit p o, b.2, z send, z receive),
    ));
    top = λ p o. rw (t.held p o) (g.top p o);
    short = λ X Y. short X Y (ℕ_discrete X A) (ℕ_discrete Y h);
    lanes = laned_same n m.pointers m'.pointers t.pointers g.lanes;
  }
    where
      home : (k : ℕ) → Dec (k ≡ h) → Home n k m'
      home k (yes q) = rw q (hear_home n A h m (g.home h) t.taken.here m' t refl)
      home k (no d) = hear_other n A h k e m m' (g.home h) (g.home k) t d

      way : (p o : ℕ) → on_way n m'.pointers p o ≡ on_way n m.pointers p o
      way p o = unfold on_way in simp t.pointers

      other : (o p : ℕ) → m.owner o ≡ 0 → (k : Kind) → one k o p e ≡ 0
      other o p w k = one_object k o p e (λ q. omega (arith, w, rw q at (oldest-named n A h m (g.home h) t.taken.here)))

      away : (o p : ℕ) → n ≤ p → (k : Kind) → one k o p e ≡ 0
      away o p l k = one_names k o p e (λ q. omega (arith, names-port n e (oldest_proper n A h m (g.home h) t.taken.here)))

      short : (X Y : ℕ) → Dec (X ≡ A) → Dec (Y ≡ h) → length (m'.reports X Y) ≤ report_places
      short X Y (no d) r = rw (t.taken.rest X Y (λ k. d k.0)) (g.short X Y)
      short X Y (yes q) (no d) = rw (t.taken.rest X Y (λ k. d k.1)) (g.short X Y)
      short X Y (yes q) (yes r) = rw (q, r) (let k : length (e ∷ m'.reports A h) ≤ report_places = rw t.taken.here at (g.short A h) in omega arith)

  -- a change of owner of an object of which nothing is kept and nothing said
  pub owned_core : (x b : ℕ) (m m' : M) (g : Core n m) → Owned x b m m' → b ≤ n → ((p : ℕ) → Bare n p x m) → ((h : ℕ) → Unnamed x (g.home h).order) → Core n m'
  owned_core x b m m' g t l bare all = record {
    home = λ h. owned_home n h x b m m' t (g.home h) (all h) bare;
    owners = λ o. owners o (ℕ_discrete o x);
    clean = λ o w p. (let k = clean o w p (ℕ_discrete o x) in (t.held p o ∙ k.0, t.books.heard p o ∙ k.1, t.books.transit p o ∙ k.2, way p o ∙ k.3));
    outside = λ p o k. (let v = g.outside p o k in (t.held p o ∙ v.0, t.books.heard p o ∙ v.1, t.books.transit p o ∙ v.2));
    top = λ p o. rw (t.held p o) (g.top p o);
    short = λ A B. rw (t.reports A B) (g.short A B);
    lanes = laned_same n m.pointers m'.pointers t.pointers g.lanes;
  }
    where
      way : (p o : ℕ) → on_way n m'.pointers p o ≡ on_way n m.pointers p o
      way p o = unfold on_way in simp t.pointers

      owners : (o : ℕ) → Dec (o ≡ x) → m'.owner o ≤ n
      owners o (yes q) = rw (q, t.here) l
      owners o (no d) = rw (t.rest o d) (g.owners o)

      clean : (o : ℕ) → m'.owner o ≡ 0 → (p : ℕ) → Dec (o ≡ x) → Bare n p o m
      clean o w p (yes q) = rw q (bare p)
      clean o w p (no d) = g.clean o (sym (t.rest o d) ∙ w) p

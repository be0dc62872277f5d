-- The frame of the store: what an edit of one stretch does to every stretch. All that follows for the acts follows from `view-edit`.
-- Assumes nothing.
use mathlib.Core.Path.{◌≡◌, refl, sym, ap, ◌∙◌, fun_ext}
use mathlib.Core.Bool.{Bool, true, false, cond, ◌&&◌}
use mathlib.Core.Logic.{⊎_elim}
use mathlib.Core.List.{List, []}
use Prim.Native.Nat.{ℕ, ◌+◌, ◌-◌, ◌<◌, ◌≤◌}
use native.Mathlib.Omega.{arith}
use lib.Dec.{ltb}
use lib.ListN.{length, get_or, take, drop}
use lib.Seq.{length-take-le, get_or-take, get_or-drop, drop_at}
use borrow.Author.Tests.{lt-ltb}
use borrow.Rule.Slice.PartMut.{put_mid}
use Rattle.books.proofs.Parts.{put, part-long, put_none, put_seam, put-long, put_same, put-before, put-behind, put_swap}
use Rattle.store.specs.Layout.{Stretch, layout, size, long, place, read, edit}
use Rattle.store.proofs.Sections.{same, same_is, same_swap, inside_of, ApartOf, ends_of, apart_of}

module _ (n : ℕ) where
  -- a stretch that the store of n ports has: a port's row, a lane
  abbrev pub inside : Stretch → Bool
  inside c = inside_of (layout n) c

  pub port-inside : (p : ℕ) → p < n → ltb p n ≡ true
  port-inside p h = lt-ltb p n h

  pub lane_inside : (a b : ℕ) → a < n → b < n → (ltb b n && ltb a n) ≡ true
  lane_inside a b h k = rw (lt-ltb b n k, lt-ltb a n h)

  -- it ends within the store, and two that are not one lie apart
  pub ends : (c : Stretch) → inside c ≡ true → place n c + long n c ≤ size n
  ends c h = ends_of (layout n) c h

  pub apart : (c d : Stretch) → inside c ≡ true → inside d ≡ true → same c d ≡ false → ApartOf (layout n) c d
  apart c d hc hd e = apart_of (layout n) c d hc hd e

  -- the bytes of a stretch, one by one
  pub read-long : (c : Stretch) (s : List ℕ) → length s ≡ size n → inside c ≡ true → length (read n c s) ≡ long n c
  unfolding read
  read-long c s sized hc = part-long (place n c) (long n c) s (omega (arith, ends c hc))

  pub read_at : (c : Stretch) (s : List ℕ) (i : ℕ) → i < long n c → get_or (read n c s) i 0 ≡ get_or s (place n c + i) 0
  unfolding read
  read_at c s i h = rw (get_or-take (long n c) (drop (place n c) s) i 0 h, get_or-drop)

  -- an edit that changes nothing
  pub edit_none : (c : Stretch) (s : List ℕ) → edit n c (λ r. r) s ≡ s
  unfolding edit read
  edit_none c s = put_none (place n c) (long n c) s

  -- edits that write the same
  pub edit_ext : (c : Stretch) (f g : List ℕ → List ℕ) (s : List ℕ) → f (read n c s) ≡ g (read n c s) → edit n c f s ≡ edit n c g s
  unfolding edit
  edit_ext c f g s e = rw e

  module _ (c : Stretch) (f : List ℕ → List ℕ) (s : List ℕ) (sized : length s ≡ size n) (hc : inside c ≡ true) (keeps : length (f (read n c s)) ≡ long n c) where
    fits : place n c + long n c ≤ length s
    fits = omega (arith, ends c hc)

    pub length-edit : length (edit n c f s) ≡ size n
    unfolding edit read
    length-edit = put-long (place n c) (long n c) (f (read n c s)) s fits keeps ∙ sized

    pub read_same : read n c (edit n c f s) ≡ f (read n c s)
    unfolding edit read
    read_same = put_same (place n c) (long n c) (f (read n c s)) s fits keeps

    pub read_other : (d : Stretch) → inside d ≡ true → same c d ≡ false → read n d (edit n c f s) ≡ read n d s
    unfolding edit read
    read_other d hd e =
        ⊎_elim (λ h. put-behind (place n c) (long n c) (f (read n c s)) s fits keeps (place n d) (long n d) h)
        (λ h. put-before (place n c) (long n c) (f (read n c s)) s fits keeps (place n d) (long n d) h) (apart c d hc hd e)

    -- two edits of one stretch are one edit
    pub edit-edit : (g : List ℕ → List ℕ) → edit n c g (edit n c f s) ≡ edit n c (λ r. g (f r)) s
    unfolding edit read
    edit-edit g =
        let e : length (take (place n c) s) ≡ place n c = length-take-le (place n c) s (omega (arith, fits)) in
        put_seam (place n c) (long n c) (g (read n c (edit n c f s))) (take (place n c) s) _ e
        ∙ rw (read_same, drop_at (f (read n c s)) (drop (long n c) (drop (place n c) s)) (long n c) keeps)

  -- edits of different stretches may be made in either order
  pub edit_swap : (c d : Stretch) (f g : List ℕ → List ℕ) (s : List ℕ) → length s ≡ size n → inside c ≡ true → inside d ≡ true → same c d ≡ false
      → length (f (read n c s)) ≡ long n c → length (g (read n d s)) ≡ long n d → edit n d g (edit n c f s) ≡ edit n c f (edit n d g s)
  unfolding edit
  edit_swap c d f g s sized hc hd e keeps keeps' =
      ap (λ (x : List ℕ). put (place n d) (long n d) (g x) (edit n c f s)) (read_other c f s sized hc keeps d hd e)
      ∙ ⊎_elim (λ h. sym (put_swap (place n c) (long n c) (place n d) (long n d) (f (read n c s)) (g (read n d s)) s h (omega (arith, ends d hd)) keeps))
      (λ h. put_swap (place n d) (long n d) (place n c) (long n c) (g (read n d s)) (f (read n c s)) s h (omega (arith, ends c hc)) keeps') (apart c d hc hd e)
      ∙ sym (ap (λ (x : List ℕ). put (place n c) (long n c) (f x) (edit n d g s)) (read_other d g s sized hd keeps' c hc (same_swap c d ∙ e)))

  -- the store as a function of its stretches, and such a function with one stretch replaced
  unfoldable pub view : List ℕ → Stretch → List ℕ
  view s c = cond (inside c) (read n c s) []

  unfoldable pub upd : Stretch → List ℕ → (Stretch → List ℕ) → Stretch → List ℕ
  upd c l v d = cond (same c d) l (v d)

  pub view_in : (c : Stretch) (s : List ℕ) → inside c ≡ true → view s c ≡ read n c s
  unfolding view
  view_in c s h = rw h

  -- THE FRAME: an edit replaces its stretch, and no other
  pub view-edit : (c : Stretch) (f : List ℕ → List ℕ) (s : List ℕ) → length s ≡ size n → inside c ≡ true → length (f (read n c s)) ≡ long n c
      → view (edit n c f s) ≡ upd c (f (read n c s)) (view s)
  unfolding view upd
  view-edit c f s sized hc keeps = fun_ext (λ d. go d (same c d) (inside d) refl refl)
    where
      go : (d : Stretch) (a b : Bool) → same c d ≡ a → inside d ≡ b → cond b (read n d (edit n c f s)) [] ≡ cond a (f (read n c s)) (cond b (read n d s) [])
      go d true b p q = rw (sym q ∙ ap inside (sym (same_is c d p)) ∙ hc, ← same_is c d p) (read_same c f s sized hc keeps)
      go d false true p q = read_other c f s sized hc keeps d q p
      go d false false p q = refl

  -- a store whose stretches are v, and so after an edit
  pub record Viewed (s : List ℕ) (v : Stretch → List ℕ) : Type 0 where
    pub sized : length s ≡ size n
    pub seen : view s ≡ v

  pub viewed : (s : List ℕ) → length s ≡ size n → Viewed s (view s)
  viewed s e = record { sized = e; seen = refl }

  pub read_viewed : (c : Stretch) (s : List ℕ) (v : Stretch → List ℕ) → Viewed s v → inside c ≡ true → read n c s ≡ v c
  read_viewed c s v k hc = sym (view_in c s hc) ∙ ap (λ (u : Stretch → List ℕ). u c) k.seen

  pub edit_viewed : (c : Stretch) (f : List ℕ → List ℕ) (s : List ℕ) (v : Stretch → List ℕ) → Viewed s v → inside c ≡ true → length (f (v c)) ≡ long n c
      → Viewed (edit n c f s) (upd c (f (v c)) v)
  edit_viewed c f s v k hc keeps =
      let r = read_viewed c s v k hc in
      let q : length (f (read n c s)) ≡ long n c = rw r keeps in
      record {
        sized = length-edit c f s k.sized hc q;
        seen = view-edit c f s k.sized hc q ∙ rw (r, k.seen);
      }

  -- A stretch as code has it, from its place to e: what is read there, and the store once that part, lent, is back as ys.
  pub read_is : (c : Stretch) (s : List ℕ) (e : ℕ) → e ≡ place n c + long n c → take (e - place n c) (drop (place n c) s) ≡ read n c s
  unfolding read
  read_is c s e h = let k : e - place n c ≡ long n c = omega arith in rw k

  pub edit_is : (c : Stretch) (s : List ℕ) (e : ℕ) → e ≡ place n c + long n c → (f : List ℕ → List ℕ) (ys : List ℕ)
      → ys ≡ f (take (e - place n c) (drop (place n c) s)) → put_mid (place n c) (e - place n c) s ys ≡ edit n c f s
  unfolding read edit
  edit_is c s e h f ys p = let k : e - place n c ≡ long n c = omega arith in rw (p, k)

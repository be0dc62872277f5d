-- Where the stretches of a table of sections lie: each ends within its section, and no two that differ lie over each other. Said
-- of any table, so that a section more asks for no proof more.
-- Assumes nothing.
use mathlib.Core.Path.{◌≡◌, refl, sym, ap, ◌∙◌}
use mathlib.Core.Bool.{Bool, true, false, ◌&&◌, true≢false}
use mathlib.Core.Logic.{◌⊎◌, inl, inr, ⊎_elim}
use mathlib.Core.List.{List, [], ◌∷◌}
use Prim.Native.Nat.{ℕ, zero, suc, ◌+◌, ◌*◌, ◌<◌, ◌≤◌}
use native.Mathlib.Nat.{add-zero, zero-add, add_assoc, mul-suc, mul_comm, mul-le-mul_left, le_refl, le_of_suc-le-suc, eq-or-lt_of_le}
use native.Mathlib.Decide.{dec_lt, ℕ_discrete}
use native.Mathlib.Omega.{arith}
use lib.Dec.{ltb, eqb}
use lib.ListN.{length, get_or, take}
use lib.Seq.{take_all}
use borrow.Author.Tests.{ltb-true, eqb-true, eq-eqb}
use Rattle.books.proofs.Booleans.{left_true, right_true, bool_ext}
use Rattle.store.specs.Layout.{Section, Stretch, extent, total}

-- two stretches are one: the same section, column and row
abbrev pub same : Stretch → Stretch → Bool
same c d = eqb c.part d.part && eqb c.column d.column && eqb c.row d.row

stretch_ext : (c d : Stretch) → c.part ≡ d.part → c.row ≡ d.row → c.column ≡ d.column → c ≡ d
stretch_ext c d p q r = λ i. record { part = p i; row = q i; column = r i }

pub same_is : (c d : Stretch) → same c d ≡ true → c ≡ d
same_is c d e =
    let p = eqb c.part d.part in
    let q = eqb c.column d.column in
    let r = eqb c.row d.row in
    let a : c.part ≡ d.part = eqb-true _ _ (left_true p q (left_true (p && q) r e)) in
    let b : c.column ≡ d.column = eqb-true _ _ (right_true p q (left_true (p && q) r e)) in
    let k : c.row ≡ d.row = eqb-true _ _ (right_true (p && q) r e) in
    stretch_ext c d a k b

same_refl : (c : Stretch) → same c c ≡ true
same_refl c = rw (eq-eqb c.part c.part refl, eq-eqb c.column c.column refl, eq-eqb c.row c.row refl)

pub same_swap : (c d : Stretch) → same d c ≡ same c d
same_swap c d = bool_ext (same d c) (same c d) (λ e. turned d c (same_is d c e)) (λ e. turned c d (same_is c d e))
  where
    turned : (x y : Stretch) → x ≡ y → same y x ≡ true
    turned x y e = rw e (same_refl y)

-- two numbers that differ
either_below : (p q : ℕ) → ¬ (p ≡ q) → (p < q) ⊎ (q < p)
either_below p q e = elim (dec_lt p q) [ yes h ↦ inl h | no h ↦ elim (dec_lt q p) [ yes k ↦ inr k | no k ↦ absurd (e (omega arith)) ] ]

-- the numbers of a table of so many columns: a later row begins behind the whole of an earlier
next_row : (columns r t : ℕ) → r < t → columns * r + columns ≤ columns * t
next_row columns r t h = rw (mul-suc columns r) at (mul-le-mul_left columns h)

-- n parts of w bytes each end where part n begins
parts_end : (w i n : ℕ) → i < n → w * i + w ≤ w * n
parts_end w i n h = next_row w i n h

-- section k of a table, none behind its end; where it begins
abbrev pub section_of : List Section → ℕ → Section
section_of ks k = get_or ks k (record { rows = 0; columns = 0; bytes = 0 })

abbrev pub begins : List Section → ℕ → ℕ
begins ks k = total (take k ks)

-- each section begins where the one before it ends
begins_next : (ks : List Section) (k : ℕ) → begins ks (suc k) ≡ begins ks k + extent (section_of ks k)
begins_next [] zero = refl
begins_next [] (suc k) = refl
begins_next (x ∷ ks) zero = add-zero (extent x) ∙ sym (zero-add (extent x))
begins_next (x ∷ ks) (suc k) = ap (λ (i : ℕ). extent x + i) (begins_next ks k) ∙ sym (add_assoc (extent x) (begins ks k) (extent (section_of ks k)))

module _ (ks : List Section) where
  begins_later : (k m : ℕ) → k ≤ m → begins ks k ≤ begins ks m
  begins_later k zero h = let e : k ≡ 0 = omega arith in rw e (le_refl (begins ks 0))
  begins_later k (suc m) h =
      ⊎_elim (λ e. rw e (le_refl (begins ks (suc m)))) (λ l. omega (arith, begins_later k m (le_of_suc-le-suc l), begins_next ks m)) (eq-or-lt_of_le h)

  section_ends : (k : ℕ) → begins ks k + extent (section_of ks k) ≤ total ks
  section_ends k =
      let e : begins ks (suc k + length ks) ≡ total ks = ap total (take_all (suc k + length ks) ks (omega arith)) in
      omega (arith, begins_next ks k, begins_later (suc k) (suc k + length ks) (omega arith))

  -- a stretch in a table of sections: it has such a row and column, its length, its place
  abbrev pub inside_of : Stretch → Bool
  inside_of c = ltb c.column (section_of ks c.part).columns && ltb c.row (section_of ks c.part).rows

  abbrev long_of : Stretch → ℕ
  long_of c = (section_of ks c.part).bytes

  abbrev number_of : Stretch → ℕ
  number_of c = (section_of ks c.part).columns * c.row + c.column

  abbrev place_of : Stretch → ℕ
  place_of c = begins ks c.part + long_of c * number_of c

  module _ (c : Stretch) (hc : inside_of c ≡ true) where
    column-low : c.column < (section_of ks c.part).columns
    column-low = ltb-true _ _ (left_true (ltb c.column (section_of ks c.part).columns) (ltb c.row (section_of ks c.part).rows) hc)

    row_low : c.row < (section_of ks c.part).rows
    row_low = ltb-true _ _ (right_true (ltb c.column (section_of ks c.part).columns) (ltb c.row (section_of ks c.part).rows) hc)

    number-low : number_of c < (section_of ks c.part).rows * (section_of ks c.part).columns
    number-low =
        let k = section_of ks c.part in
        omega (arith, column-low, next_row k.columns c.row k.rows row_low, mul_comm k.rows k.columns)

    -- a stretch ends within its section, and within the table
    pub within_section : long_of c * number_of c + long_of c ≤ extent (section_of ks c.part)
    within_section = parts_end (long_of c) (number_of c) _ number-low

    ends_section : place_of c + long_of c ≤ begins ks (suc c.part)
    ends_section = omega (arith, within_section, begins_next ks c.part)

    pub ends_of : place_of c + long_of c ≤ total ks
    ends_of = omega (arith, within_section, section_ends c.part)

  -- one of them ends before the other begins
  abbrev pub ApartOf : Stretch → Stretch → Type 0
  ApartOf c d = (place_of c + long_of c ≤ place_of d) ⊎ (place_of d + long_of d ≤ place_of c)

  earlier : (c d : Stretch) → inside_of c ≡ true → c.part < d.part → place_of c + long_of c ≤ place_of d
  earlier c d hc h = omega (arith, ends_section c hc, begins_later (suc c.part) d.part h)

  -- in one section, the one of the lower number comes first
  lower : (c d : Stretch) → c.part ≡ d.part → number_of c < number_of d → place_of c + long_of c ≤ place_of d
  lower c d e h =
      let l : long_of c * number_of d ≡ long_of d * number_of d = rw e in
      let b : begins ks c.part ≡ begins ks d.part = rw e in
      omega (arith, parts_end (long_of c) (number_of c) (number_of d) h)

  number_apart : (c d : Stretch) → inside_of c ≡ true → inside_of d ≡ true → c.part ≡ d.part → (c.row ≡ d.row → ¬ (c.column ≡ d.column))
      → (number_of c < number_of d) ⊎ (number_of d < number_of c)
  number_apart c d hc hd e ne =
      let w : (section_of ks d.part).columns ≡ (section_of ks c.part).columns = rw e in
      let a = column-low c hc in
      let b : d.column < (section_of ks c.part).columns = rw w at (column-low d hd) in
      rw w
      (elim (ℕ_discrete c.row d.row) [
        | yes q ↦ rw q (⊎_elim (λ h. inl (omega arith)) (λ h. inr (omega arith)) (either_below c.column d.column (ne q)))
        | no q ↦ ⊎_elim (λ h. inl (omega (arith, next_row (section_of ks c.part).columns c.row d.row h)))
            (λ h. inr (omega (arith, next_row (section_of ks c.part).columns d.row c.row h)))
            (either_below c.row d.row q)
      ])

  -- two stretches of a table that are not one lie apart
  pub apart_of : (c d : Stretch) → inside_of c ≡ true → inside_of d ≡ true → same c d ≡ false → ApartOf c d
  apart_of c d hc hd e =
      elim (ℕ_discrete c.part d.part) [
        | yes q ↦ ⊎_elim (λ h. inl (lower c d q h)) (λ h. inr (lower d c (sym q) h)) (number_apart c d hc hd q (differ q))
        | no q ↦ ⊎_elim (λ h. inl (earlier c d hc h)) (λ h. inr (earlier d c hd h)) (either_below c.part d.part q)
      ]
    where
      differ : c.part ≡ d.part → c.row ≡ d.row → ¬ (c.column ≡ d.column)
      differ p r q = true≢false (sym (rw (eq-eqb c.part d.part p, eq-eqb c.row d.row r, eq-eqb c.column d.column q)) ∙ e)

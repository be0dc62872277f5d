-- Document 004, sections 2 and 3: events, any, the legal event sets, absence, and the two counts that the home keeps. A set of
-- events is a list, the latest first, and all pairing is by counting, as footnote 4 says.
-- Assumes nothing.
use Rattle.std.specs.Prelude.{◌≡◌, Bool, cond, ◌&&◌, List, [], ◌∷◌, ℕ, ◌+◌, ◌≤◌, ◌<◌, eqb, ℤ, pos}
use Rattle.std.proofs.Math.IntN.{suc_ℤ, pred_ℤ}

-- Table 1: the events s, r, + and -; and document 01's numbers for them
pub data Kind : Type 0 where
  send receive create delete : Kind

abbrev pub number : Kind → ℕ
number send = 0
number receive = 1
number create = 2
number delete = 3

-- An event: its kind, its object, the node at which it happens, and the node that Table 1 writes in it: of an s the node sent to,
-- of any other the node at which it happens.
pub record Event : Type 0 where
  pub kind : Kind
  pub object : ℕ
  pub at : ℕ
  pub names : ℕ

-- e is about o and names Y; how many events ⟨k, o, Y⟩ are in E
abbrev pub concerns : ℕ → ℕ → Event → Bool
concerns o Y e = eqb e.object o && eqb e.names Y

unfoldable pub count : Kind → ℕ → ℕ → List Event → ℕ
count k o Y [] = 0
count k o Y (e ∷ E) = cond (eqb (number e.kind) (number k) && concerns o Y e) 1 0 + count k o Y E

-- any(o, Y, E), by footnote 4
abbrev pub Any : ℕ → ℕ → List Event → Type 0
Any o Y E = count delete o Y E < count receive o Y E + count create o Y E

-- Table 2: an event of the kind, about o, may be added to E at node Y. Sending and copying want a pointer there; a receipt, a
-- sending not yet received; a deletion, a receipt or creation not yet paired with one, which is any again.
abbrev pub MayAt : Kind → ℕ → ℕ → List Event → Type 0
MayAt send o Y E = Any o Y E
MayAt receive o Y E = count receive o Y E < count send o Y E
MayAt create o Y E = Any o Y E
MayAt delete o Y E = Any o Y E

abbrev pub May : Event → List Event → Type 0
May e E = MayAt e.kind e.object e.at E

-- Table 2: the legal event sets about o, whose home is H; H's creation of the object comes before all else
pub data Legal (H o : ℕ) : List Event → Type 0 where
  none : Legal H o []
  made : Legal H o (record { kind = create; object = o; at = H; names = H } ∷ [])
  more : {E : List Event} (e : Event) → e.object ≡ o → Legal H o E → May e E → Legal H o (e ∷ E)

-- absence(o, E), H being the home: no other node has a pointer, and each sending is paired with a receipt
pub record Absence (H o : ℕ) (E : List Event) : Type 0 where
  pub nowhere : (X : ℕ) → ¬ (X ≡ H) → ¬ (Any o X E)
  pub paired : (B : ℕ) → count send o B E ≤ count receive o B E

-- Table 3: what an event does to in_transit and to pointers_to of its object at the node that it names
abbrev pub in_transit_after : Kind → ℤ → ℤ
in_transit_after send k = suc_ℤ k
in_transit_after receive k = pred_ℤ k
in_transit_after create k = k
in_transit_after delete k = k

abbrev pub pointers_to_after : Kind → ℤ → ℤ
pointers_to_after send k = k
pointers_to_after receive k = suc_ℤ k
pointers_to_after create k = suc_ℤ k
pointers_to_after delete k = pred_ℤ k

-- the two counts at the home once it has heard of E
unfoldable pub in_transit : ℕ → ℕ → List Event → ℤ
in_transit o B [] = pos 0
in_transit o B (e ∷ E) = cond (concerns o B e) (in_transit_after e.kind (in_transit o B E)) (in_transit o B E)

unfoldable pub pointers_to : ℕ → ℕ → List Event → ℤ
pointers_to o B [] = pos 0
pointers_to o B (e ∷ E) = cond (concerns o B e) (pointers_to_after e.kind (pointers_to o B E)) (pointers_to o B E)

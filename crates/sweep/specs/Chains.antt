-- The record of a sweep while it goes: one chain of cuts for each dimension by significance, each with an open part at its end.
use Rattle.std.specs.Prelude.{◌≡◌, ℕ, zero, suc, ◌-◌, ◌<◌, ◌≤◌, length, slice_index, nat_eq, if◌then◌else◌, ℤ, pos, ◌+ℤ◌, ◌≤ℤ◌, ◌<ℤ◌, Bool, true, false, List, ◌∷◌, ◌++◌}
use Rattle.geo_base.specs.Ways.{toward, key}
use Rattle.derivation.specs.declared.event.Event.{Event}
use Rattle.derivation.specs.declared.side.Side.{Side}
use Rattle.derivation.specs.declared.side.Side.TheVariants.{Upto, From}
use Rattle.derivation.specs.Covers.{CoverTree, IsCut, cut_event, events_of}
use Rattle.derivation.specs.Points.{CoversPoints}

-- the points of a box that is given by its keys
abbrev pub Keys : ℕ → ℕ → Bool → (ℕ → ℤ) → (ℕ → ℤ) → List ℤ → Type 0
Keys K lead up lo hi q = (i : ℕ) → i < K → (lo i ≤ℤ key K lead up q i) × (key K lead up q i ≤ℤ hi i)

-- the side of v that comes first in the way's direction
abbrev pub way_side : Bool → ℕ → ℤ → Side
way_side true d v = Upto d v
way_side false d v = From d v

-- the event is the cut of a way in the dimension d whose first part ends just before x, as the way counts
abbrev pub IsCutBefore : ℕ → Bool → ℕ → ℤ → Event → Type 0
IsCutBefore K up d x e = (v : ℤ) × (e ≡ cut_event (way_side up d v)) × (toward up v +ℤ pos 1 ≡ x) × IsCut K (way_side up d v)

-- Chain p: the events E stand before the open part of the dimension at place p. Whatever box lies between c and the jump in the more
-- significant dimensions: completed by a cover of its part from c on, they cover it.
pub record IsChain (K lead : ℕ) (up : Bool) (R : ℕ → List ℤ → List ℤ → Bool) (first past : ℕ → ℤ) (p : ℕ) (c n : ℕ → ℤ) (E : List Event) : Type 0 where
  pub plug : CoverTree → CoverTree
  pub events : (t : CoverTree) → events_of (plug t) ≡ E ++ events_of t
  pub covers : (lo hi : ℕ → ℤ) → ((i : ℕ) → i < K → (first i ≤ℤ lo i) × (hi i <ℤ past i)) → ((i : ℕ) → i < p → (c i ≤ℤ lo i) × (hi i <ℤ n i))
      → (t : CoverTree) → CoversPoints K R t (λ q. Keys K lead up lo hi q × (c p ≤ℤ key K lead up q p)) → CoversPoints K R (plug t) (Keys K lead up lo hi)

-- a function changed at one place
abbrev pub override : (ℕ → ℤ) → ℕ → ℤ → ℕ → ℤ
override f p v i = if nat_eq i p then v else f i

-- the record down to chain q: each chain but the last is followed by the event that holds a place for the cut round the next chain
abbrev pub open_upto : List Event → (ℕ → List Event) → (ℕ → Event) → ℕ → List Event
open_upto base chain holder zero = base ++ chain 0
open_upto base chain holder (suc p) = open_upto base chain holder p ++ (holder p ∷ chain (suc p))

-- the list is an open record of q + 1 chains behind base, and marks tells where its place holders stand
pub record IsOpen (K lead : ℕ) (up : Bool) (R : ℕ → List ℤ → List ℤ → Bool) (first past : ℕ → ℤ) (q : ℕ) (c n : ℕ → ℤ) (marks : List ℕ) (base list : List Event) : Type 0 where
  pub chain : ℕ → List Event
  pub holder : ℕ → Event
  pub list_is : list ≡ open_upto base chain holder q
  pub marks_are : (p : ℕ) → p < q → slice_index marks p ≡ length (open_upto base chain holder p)
  pub chains : (p : ℕ) → p ≤ q → IsChain K lead up R first past p c n (chain p)

-- the same, but the last chain has come to the jump in its own dimension
pub record IsOpenAtJump (K lead : ℕ) (up : Bool) (R : ℕ → List ℤ → List ℤ → Bool) (first past : ℕ → ℤ) (q : ℕ) (c n : ℕ → ℤ) (marks : List ℕ) (base list : List Event) : Type 0 where
  pub chain : ℕ → List Event
  pub holder : ℕ → Event
  pub list_is : list ≡ open_upto base chain holder q
  pub marks_are : (p : ℕ) → p < q → slice_index marks p ≡ length (open_upto base chain holder p)
  pub chains : (p : ℕ) → p < q → IsChain K lead up R first past p c n (chain p)
  pub last_chain : IsChain K lead up R first past q (override c q (n q)) n (chain q)

-- it is an open record for some test and behind some events; and at the jump, for some point
abbrev pub SomeOpen : ℕ → ℕ → Bool → (ℕ → ℤ) → (ℕ → ℤ) → (ℕ → ℤ) → (ℕ → ℤ) → List ℕ → List Event → Type 0
SomeOpen K lead up first past c n marks list = (R : ℕ → List ℤ → List ℤ → Bool) × (base : List Event) × IsOpen K lead up R first past (K - 1) c n marks base list

abbrev pub SomeOpenAtJump : ℕ → ℕ → Bool → (ℕ → ℤ) → (ℕ → ℤ) → (ℕ → ℤ) → List ℕ → List Event → Type 0
SomeOpenAtJump K lead up first past n marks list =
    (R : ℕ → List ℤ → List ℤ → Bool) × (base : List Event) × (c : ℕ → ℤ) × IsOpenAtJump K lead up R first past (K - 1) c n marks base list

-- some test is true of a condition and a box, and for it the list is an open record
pub record SomeOpenBy (K lead : ℕ) (up : Bool) (i : ℕ) (blo bhi : List ℤ) (first past c n : ℕ → ℤ) (marks : List ℕ) (list : List Event) : Type 0 where
  pub test : ℕ → List ℤ → List ℤ → Bool
  pub base : List Event
  pub known : test i blo bhi ≡ true
  pub is_open : IsOpen K lead up test first past (K - 1) c n marks base list

-- the events behind base in the list are a cover of P
abbrev pub IsRecordOf : ℕ → (ℕ → List ℤ → List ℤ → Bool) → List Event → List Event → (List ℤ → Type 0) → Type 0
IsRecordOf K R base list P = (t : CoverTree) × (list ≡ base ++ events_of t) × CoversPoints K R t P

-- The orders in which points are swept. Where dimensions are counted by significance, place 0 is the most significant one.
use Rattle.std.specs.Prelude.{◌≡◌, ◌≢◌, ℕ, ◌+◌, ◌-◌, ◌<◌, ℤ, pos, negsuc, neg_ℤ, ◌+ℤ◌, ◌≤ℤ◌, ◌<ℤ◌, Bool, true, false, if◌then◌else◌, nat_lt, List}
use Rattle.geo_base.specs.Boxes.{coordinate}

-- the coordinates of p lie within the limits, so that one more or less does not overflow
abbrev pub IsSmallPoint : ℕ → List ℤ → Type 0
IsSmallPoint K p = (d : ℕ) → d < K → (negsuc 1999999 ≤ℤ coordinate p d) × (coordinate p d ≤ℤ pos 2000000)

-- the dimension at a place of significance: the lead, those after it, and around
abbrev pub dimension : ℕ → ℕ → ℕ → ℕ
dimension K lead j = if nat_lt (lead + j) K then lead + j else lead + j - K

-- v as a way counts it, so that the way always goes up
abbrev pub toward : Bool → ℤ → ℤ
toward true v = v
toward false v = neg_ℤ v

-- the coordinate of p at the place j of significance, as the way counts it
abbrev pub key : ℕ → ℕ → Bool → List ℤ → ℕ → ℤ
key K lead up p j = toward up (coordinate p (dimension K lead j))

-- p comes strictly before q in the way's order
abbrev pub Before : ℕ → ℕ → Bool → List ℤ → List ℤ → Type 0
Before K lead up p q = (j : ℕ) × (j < K) × (key K lead up p j <ℤ key K lead up q j) × ((i : ℕ) → i < j → key K lead up p i ≡ key K lead up q i)

-- the corner of a box where a way starts, and the one where it ends
abbrev pub start : Bool → List ℤ → List ℤ → List ℤ
start up lo hi = if up then lo else hi

abbrev pub end : Bool → List ℤ → List ℤ → List ℤ
end up lo hi = if up then hi else lo

-- one past, at each place
abbrev pub one_past : (ℕ → ℤ) → ℕ → ℤ
one_past last j = last j +ℤ pos 1

-- One advance, in the way's count: c becomes c', and the jump n becomes n'. The coordinate at one place moves on to the jump; the less
-- significant ones have run out, and begin again; the more significant ones stay.
pub record Advances (K : ℕ) (first past c n c' n' : ℕ → ℤ) : Type 0 where
  pub level : ℕ
  pub level_in : level < K
  pub moves : c' level ≡ n level
  pub more_left : n level ≢ past level
  pub reset : n' level ≡ past level
  pub stays : (i : ℕ) → i < level → (c' i ≡ c i) × (n' i ≡ n i)
  pub ran_out : (i : ℕ) → level < i → i < K → (n i ≡ past i) × (c' i ≡ first i) × (n' i ≡ past i)

-- each coordinate has run out
abbrev pub RunsOut : ℕ → (ℕ → ℤ) → (ℕ → ℤ) → Type 0
RunsOut K past n = (i : ℕ) → i < K → n i ≡ past i

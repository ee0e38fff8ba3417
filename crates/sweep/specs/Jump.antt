-- The jump vector. A point is read by its keys: a function from a place of significance to a coordinate, as the way counts it.
use Rattle.std.specs.Prelude.{◌≡◌, ℕ, ◌<◌, ℤ, pos, negsuc, ◌+ℤ◌, ◌≤ℤ◌, ◌<ℤ◌, Bool, List, ◌⊎◌}
use Rattle.std.specs.Int.{int_min}
use Rattle.geo_base.specs.Boxes.{coordinate, Has}
use Rattle.geo_base.specs.Ways.{Advances, toward, key, start, end}

-- The points that are done: read from the most significant coordinate down, one stays before the jump n until a coordinate comes before c's.
pub record IsDone (K : ℕ) (c n q : ℕ → ℤ) : Type 0 where
  pub level : ℕ
  pub level_in : level < K
  pub before : q level <ℤ c level
  pub within : (i : ℕ) → i < level → q i <ℤ n i

-- c lies in the region, and the jump n lies past c and at most one past the region
pub record IsPlaced (K : ℕ) (first past c n : ℕ → ℤ) : Type 0 where
  pub from_first : (i : ℕ) → i < K → first i ≤ℤ c i
  pub onward : (i : ℕ) → i < K → c i <ℤ n i
  pub to_past : (i : ℕ) → i < K → n i ≤ℤ past i

-- c' comes after c
pub record ComesAfter (K : ℕ) (c c' : ℕ → ℤ) : Type 0 where
  pub level : ℕ
  pub level_in : level < K
  pub same : (i : ℕ) → i < level → c' i ≡ c i
  pub rises : c level <ℤ c' level

-- the sweep jumps on from c and n to c' and n', over the box from blo to bhi: what is done now was done before, or lies in that box
pub record JumpsOn (K lead : ℕ) (up : Bool) (lo hi blo bhi past c n c' n' : List ℤ) : Type 0 where
  pub placed : IsPlaced K (key K lead up (start up lo hi)) (key K lead up past) (key K lead up c') (key K lead up n')
  pub after : ComesAfter K (key K lead up c) (key K lead up c')
  pub done : (q : List ℤ) → Has K lo hi q → IsDone K (key K lead up c') (key K lead up n') (key K lead up q)
      → IsDone K (key K lead up c) (key K lead up n) (key K lead up q) ⊎ Has K blo bhi q
  pub drawn : List ℤ
  pub drawn_is : (i : ℕ) → i < K → key K lead up drawn i ≡ int_min (key K lead up n i) (key K lead up (end up blo bhi) i +ℤ pos 1)
  pub step : Advances K (key K lead up (start up lo hi)) (key K lead up past) (key K lead up c) (key K lead up drawn) (key K lead up c') (key K lead up n')

-- nothing is left: every point of the region was done before, or lies in the box
abbrev pub IsUsedUp : ℕ → ℕ → Bool → List ℤ → List ℤ → List ℤ → List ℤ → List ℤ → List ℤ → Type 0
IsUsedUp K lead up lo hi blo bhi c n = (q : List ℤ) → Has K lo hi q → IsDone K (key K lead up c) (key K lead up n) (key K lead up q) ⊎ Has K blo bhi q

-- the keys f are those of a point of the region that x refutes and that no point that x refutes goes past
abbrev pub IsLast : ℕ → ℕ → Bool → List ℤ → List ℤ → (List ℤ → List ℤ → Type 0) → (ℕ → ℤ) → Type 0
IsLast K lead up lo hi refuted f = (e : List ℤ) × ((i : ℕ) → i < K → key K lead up e i ≡ f i) × Has K lo hi e × refuted e e
    × ((q : List ℤ) → Has K lo hi q → refuted q q → (i : ℕ) → i < K → key K lead up q i ≤ℤ f i)

-- the coordinates of a jump are at most one past the limits
abbrev pub IsSmallJump : ℕ → List ℤ → Type 0
IsSmallJump K n = (d : ℕ) → d < K → (negsuc 2000000 ≤ℤ coordinate n d) × (coordinate n d ≤ℤ pos 2000001)

-- the point past is one past the end of the box from lo to hi in each dimension
abbrev pub IsPast : ℕ → Bool → List ℤ → List ℤ → List ℤ → Type 0
IsPast K up lo hi past = (d : ℕ) → d < K → toward up (coordinate past d) ≡ toward up (coordinate (end up lo hi) d) +ℤ pos 1

-- The text of a derivation: a line for each of its events, and the line `qed`.
use Rattle.std.specs.Prelude.{◌+◌, ◌-◌, ◌<◌, ◌≤◌, ◌++◌, ℕ, ℤ, pos, List, [], ◌∷◌, length, codes, flat_map, slice_index_or}
use Rattle.std.specs.Fmt.{signed_decimal}
use Rattle.geo_tokens.specs.Names.{NameTable}
use Rattle.derivation.specs.declared.event.Event.{Event}
use Rattle.derivation.specs.declared.event.Event.TheVariants.{SplitShape, SplitUpto, SplitFrom, Drop, Raise, Lower, Gone, Dead, Cover, EndCovers, By, Cut, CutFrom}

-- the name of an object, and its shapes, by their positions
abbrev pub object_name : NameTable → ℕ → List ℕ
object_name n o = (slice_index_or n.objects o ([], [])).0

abbrev pub shapes_of : NameTable → ℕ → List ℕ
shapes_of n o = (slice_index_or n.objects o ([], [])).1

-- the name of the object's shape at that place. Places count from 1
abbrev pub shape_name : NameTable → ℕ → ℕ → List ℕ
shape_name n o s = slice_index_or n.shapes (slice_index_or (shapes_of n o) (s - 1) 0) []

-- texts one behind the other
abbrev pub joined : List (List ℕ) → List ℕ
joined parts = flat_map (λ p. p) parts

-- a number; a dimension, which a text counts from 1
abbrev pub number : ℕ → List ℕ
number n = signed_decimal (pos n)

abbrev pub dimension : ℕ → List ℕ
dimension d = number (d + 1)

-- a line that names a coordinate of an object and a number; one that names a shape of an object; one that cuts a box; one with a number
abbrev pub coordinate_line : List ℕ → List ℕ → ℕ → List ℕ → ℤ → List ℕ → List ℕ
coordinate_line word name d between v end = joined (word ∷ name ∷ codes " " ∷ dimension d ∷ between ∷ signed_decimal v ∷ end ∷ [])

abbrev pub shape_line : List ℕ → List ℕ → List ℕ → List ℕ → List ℕ
shape_line word name between shape = joined (word ∷ name ∷ between ∷ shape ∷ codes "\n" ∷ [])

abbrev pub cut_line : List ℕ → ℕ → ℤ → List ℕ
cut_line word d v = joined (word ∷ dimension d ∷ codes " " ∷ signed_decimal v ∷ codes "\n" ∷ [])

abbrev pub number_line : List ℕ → ℕ → List ℕ
number_line word n = joined (word ∷ number n ∷ codes "\n" ∷ [])

-- a line that begins a list of covers of an object; one that names the shape of a cover
abbrev pub gone_line : List ℕ → List ℕ
gone_line name = joined (codes "gone " ∷ name ∷ codes " [\n" ∷ [])

abbrev pub cover_line : List ℕ → List ℕ
cover_line shape = joined (shape ∷ codes "\n" ∷ [])

-- the line of an event, where o is the object whose covers are listed
abbrev pub line_of : NameTable → ℕ → Event → List ℕ
line_of n o (SplitShape u s) = shape_line (codes "split ") (object_name n u.0) (codes " shape ") (shape_name n u.0 s)
line_of n o (SplitUpto u d v) = coordinate_line (codes "split ") (object_name n u.0) d (codes " upto ") v (codes "\n")
line_of n o (SplitFrom u d v) = coordinate_line (codes "split ") (object_name n u.0) d (codes " from ") v (codes "\n")
line_of n o (Drop u s) = shape_line (codes "drop ") (object_name n u.0) (codes " ") (shape_name n u.0 s)
line_of n o (Raise u d v) = coordinate_line (codes "raise ") (object_name n u.0) d (codes " ") v (codes " [\n")
line_of n o (Lower u d v) = coordinate_line (codes "lower ") (object_name n u.0) d (codes " ") v (codes " [\n")
line_of n o (Gone u) = gone_line (object_name n u.0)
line_of n o (Dead i) = number_line (codes "dead ") i
line_of n o (Cover s) = cover_line (shape_name n o s)
line_of n o EndCovers = codes "]\n"
line_of n o (By i) = number_line (codes "by ") i
line_of n o (Cut d v) = cut_line (codes "cut ") d v
line_of n o (CutFrom d v) = cut_line (codes "from ") d v

-- the object whose covers are listed behind an event
abbrev pub listed : ℕ → Event → ℕ
listed o (Raise u d v) = u.0
listed o (Lower u d v) = u.0
listed o (Gone u) = u.0
listed o (SplitShape u s) = o
listed o (SplitUpto u d v) = o
listed o (SplitFrom u d v) = o
listed o (Drop u s) = o
listed o (Dead i) = o
listed o (Cover s) = o
listed o EndCovers = o
listed o (By i) = o
listed o (Cut d v) = o
listed o (CutFrom d v) = o

-- the lines of events, where o is the object whose covers are listed at first
abbrev pub lines_of : NameTable → ℕ → List Event → List ℕ
lines_of n o [] = []
lines_of n o (e ∷ es) = line_of n o e ++ lines_of n (listed o e) es

abbrev pub derivation_text : NameTable → List Event → List ℕ
derivation_text n es = lines_of n 0 es ++ codes "qed\n"

-- the object has a name, and a shape at that place
abbrev pub HasShape : NameTable → ℕ → ℕ → Type 0
HasShape n o s = (o < length n.objects) × (1 ≤ s) × (s ≤ length (shapes_of n o))

-- a dimension that the table has
abbrev pub HasDimension : NameTable → ℕ → Type 0
HasDimension n d = d < n.dims

-- what the event names has a name, where o is the object whose covers are listed
abbrev pub IsNamed : NameTable → ℕ → Event → Type 0
IsNamed n o (SplitShape u s) = HasShape n u.0 s
IsNamed n o (SplitUpto u d v) = (u.0 < length n.objects) × HasDimension n d
IsNamed n o (SplitFrom u d v) = (u.0 < length n.objects) × HasDimension n d
IsNamed n o (Drop u s) = HasShape n u.0 s
IsNamed n o (Raise u d v) = (u.0 < length n.objects) × HasDimension n d
IsNamed n o (Lower u d v) = (u.0 < length n.objects) × HasDimension n d
IsNamed n o (Gone u) = u.0 < length n.objects
IsNamed n o (Dead i) = Unit {0}
IsNamed n o (Cover s) = HasShape n o s
IsNamed n o EndCovers = Unit {0}
IsNamed n o (By i) = Unit {0}
IsNamed n o (Cut d v) = HasDimension n d
IsNamed n o (CutFrom d v) = HasDimension n d

abbrev pub AreNamed : NameTable → ℕ → List Event → Type 0
AreNamed n o [] = Unit {0}
AreNamed n o (e ∷ es) = IsNamed n o e × AreNamed n (listed o e) es

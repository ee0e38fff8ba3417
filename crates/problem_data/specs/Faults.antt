-- The faults of statements: at which places there is what wrong. `k` is the number of dimensions that the text states.
use Rattle.std.specs.Prelude.{◌≡◌, ℕ, ℤ, pos, negsuc, ◌≤◌, ◌<ℤ◌, ◌≤ℤ◌, ◌+ℤ◌, ◌-◌, List, [], ◌∷◌, length, take, map, Option, Some, None, slice_get, ◌⊎◌}
use Rattle.std.specs.List.{Contains}
use Rattle.rule_syntax.specs.declared.tree.PlacedName.{PlacedName}
use Rattle.geo_tokens.specs.declared.fault.FaultWord.TheVariants as words
use Rattle.problem_data.specs.declared.fault.Fault.{Fault}
use Rattle.problem_data.specs.declared.tree.Int.{Int}
use Rattle.problem_data.specs.declared.tree.RangeText.{RangeText}
use Rattle.problem_data.specs.declared.tree.AttributeText.{AttributeText}
use Rattle.problem_data.specs.declared.tree.SideText.{SideText}
use Rattle.problem_data.specs.declared.tree.ParamText.{ParamText}
use Rattle.problem_data.specs.Tree.{BoxTree, ShapeTree, ObjectTree, OrderTree, SidesTree, MacroTree, DemandTree, apart, within, plain, RuleTree}
use Rattle.problem_data.specs.Least.{fault}
use Rattle.problem_data.specs.Limits.{IsSmall, IsSize, IsFieldName, IsVersion, most_dims_in, most_shapes, most_boxes, most_objects, most_object_shapes, most_pieces, most_attributes, most_macros, most_params, most_rules}
use Rattle.problem_data.specs.Divisors.{body_zeros, formula_zeros}
use Rattle.problem_data.specs.Parts.{Parts}

-- ---- lists

-- some item of the list has the fault, by itself and by the items before it
pub record Among {A : Type 0} (R : List A → A → Fault → Type 0) (xs : List A) (f : Fault) : Type 0 where
  pub index : ℕ
  pub item : A
  pub there : slice_get xs index ≡ Some item
  pub wrong : R (take index xs) item f

abbrev pub text_of : PlacedName → List ℕ
text_of n = n.name

-- `limit` at the name of an item past the limit
abbrev pub PastLimit : ℕ → List PlacedName → Fault → Type 0
PastLimit most = Among (λ before n f. (most ≤ length before) × (f ≡ fault n.place words.Limit))

-- `twice` at a name that the list has already
abbrev pub Repeated : List PlacedName → Fault → Type 0
Repeated = Among (λ before n f. Contains (map text_of before) n.name × (f ≡ fault n.place words.Twice))

-- names past the limit, and names that are repeated
abbrev pub NamesFault : ℕ → List PlacedName → Fault → Type 0
NamesFault most names f = PastLimit most names f ⊎ Repeated names f

-- `unknown` at a name of nothing that is made
abbrev pub NotMade : List (List ℕ) → List PlacedName → Fault → Type 0
NotMade made = Among (λ before n f. (Contains made n.name → ⊥) × (f ≡ fault n.place words.Unknown))

-- ---- numbers and ranges

abbrev pub first_place : {A : Type 0} → (A → ℕ) → List A → ℕ
first_place place_of [] = 0
first_place place_of (x ∷ xs) = place_of x

-- `limit` at the first token of a list that has not exactly k members
abbrev pub Miscounted : {A : Type 0} → (A → ℕ) → ℕ → List A → Fault → Type 0
Miscounted place_of k xs f = (length xs ≡ k → ⊥) × (f ≡ fault (first_place place_of xs) words.Limit)

abbrev pub int_place : Int → ℕ
int_place i = i.place

abbrev pub range_place : RangeText → ℕ
range_place r = r.low.place

abbrev pub side_place : SideText → ℕ
side_place s = s.place

-- `limit` at an offset or an end of a range outside its limits
abbrev pub OffsetFault : Int → Fault → Type 0
OffsetFault i f = (IsSmall i.value → ⊥) × (f ≡ fault i.place words.Limit)

-- `size` at a size outside its limits
abbrev pub SizeFault : Int → Fault → Type 0
SizeFault i f = (IsSize i.value → ⊥) × (f ≡ fault i.place words.Size)

abbrev pub OffsetsFault : ℕ → List Int → Fault → Type 0
OffsetsFault k xs f = Miscounted int_place k xs f ⊎ Among (λ before. OffsetFault) xs f

abbrev pub SizesFault : ℕ → List Int → Fault → Type 0
SizesFault k xs f = Miscounted int_place k xs f ⊎ Among (λ before. SizeFault) xs f

-- `range` at a range whose low end is above its high end
abbrev pub UpsideDown : RangeText → Fault → Type 0
UpsideDown r f = (r.high.value <ℤ r.low.value) × (f ≡ fault r.low.place words.Range)

abbrev pub RangeFault : RangeText → Fault → Type 0
RangeFault r f = OffsetFault r.low f ⊎ OffsetFault r.high f ⊎ UpsideDown r f

abbrev pub RangesFault : ℕ → List RangeText → Fault → Type 0
RangesFault k rs f = Miscounted range_place k rs f ⊎ Among (λ before. RangeFault) rs f

-- ---- pieces of ranges

-- `limit` at a piece past the limit
abbrev pub PastPiece : List RangeText → RangeText → Fault → Type 0
PastPiece before r f = (most_pieces ≤ length before) × (f ≡ fault r.low.place words.Limit)

-- s is the last of the list
abbrev pub IsLast : List RangeText → RangeText → Type 0
IsLast rs s = slice_get rs (length rs - 1) ≡ Some s

-- the piece begins at most one above the end of the piece just before it
abbrev pub IsTooNear : List RangeText → RangeText → Type 0
IsTooNear before r = (s : RangeText) × IsLast before s × (r.low.value ≤ℤ (s.high.value +ℤ pos 1))

-- `range` at a piece that leaves out no number behind the one just before it
abbrev pub TooNear : List RangeText → RangeText → Fault → Type 0
TooNear before r f = IsTooNear before r × (f ≡ fault r.low.place words.Range)

abbrev pub PieceFault : List RangeText → RangeText → Fault → Type 0
PieceFault before r f = PastPiece before r f ⊎ RangeFault r f ⊎ TooNear before r f

abbrev pub PiecesFault : List RangeText → Fault → Type 0
PiecesFault = Among PieceFault

abbrev pub pieces_place : List RangeText → ℕ
pieces_place rs = first_place range_place rs

-- the faults of the ranges of an object
abbrev pub OriginFault : ℕ → List (List RangeText) → Fault → Type 0
OriginFault k ps f = Miscounted pieces_place k ps f ⊎ Among (λ before. PiecesFault) ps f

-- ---- shapes

-- `limit` at the word of a box past the limit
abbrev pub PastBox : List BoxTree → BoxTree → Fault → Type 0
PastBox before b f = (most_boxes ≤ length before) × (f ≡ fault b.place words.Limit)

abbrev pub BoxFault : ℕ → List BoxTree → BoxTree → Fault → Type 0
BoxFault k before b f = PastBox before b f ⊎ OffsetsFault k b.offsets f ⊎ SizesFault k b.sizes f

abbrev pub ShapeFault : ℕ → ShapeTree → Fault → Type 0
ShapeFault k s = Among (BoxFault k) s.boxes

abbrev pub shape_name : ShapeTree → PlacedName
shape_name s = s.name

abbrev pub ShapesFault : ℕ → List ShapeTree → Fault → Type 0
ShapesFault k ss f = NamesFault most_shapes (map shape_name ss) f ⊎ Among (λ before. ShapeFault k) ss f

-- ---- objects

abbrev pub object_name : ObjectTree → PlacedName
object_name o = o.name

abbrev pub attribute_name : AttributeText → PlacedName
attribute_name a = a.name

-- `twice` at an attribute with the name of a field that objects have anyway
abbrev pub FieldFault : AttributeText → Fault → Type 0
FieldFault a f = IsFieldName a.name.name × (f ≡ fault a.name.place words.Twice)

abbrev pub AttributesFault : List AttributeText → Fault → Type 0
AttributesFault xs f = NamesFault most_attributes (map attribute_name xs) f ⊎ Among (λ before. FieldFault) xs f

-- `limit` at the word `absent` behind as many shapes as there may be
abbrev pub AbsentFault : ObjectTree → Fault → Type 0
AbsentFault o f = (place : ℕ) × (o.absent ≡ Some place) × (most_object_shapes ≤ length o.shapes) × (f ≡ fault place words.Limit)

-- `made` are the names of the shapes that statements make
abbrev pub ObjectFault : ℕ → List (List ℕ) → ObjectTree → Fault → Type 0
ObjectFault k made o f = NamesFault most_object_shapes o.shapes f ⊎ NotMade made o.shapes f ⊎ OriginFault k o.pieces f ⊎ AttributesFault o.attributes f ⊎ AbsentFault o f

abbrev pub ObjectsFault : ℕ → List (List ℕ) → List ObjectTree → Fault → Type 0
ObjectsFault k made os f = NamesFault most_objects (map object_name os) f ⊎ Among (λ before. ObjectFault k made) os f

-- ---- the order and the sides

-- `twice` at the word of a second order
abbrev pub SecondOrder : List OrderTree → OrderTree → Fault → Type 0
SecondOrder before o f = (1 ≤ length before) × (f ≡ fault o.place words.Twice)

-- each of the names is in the order
abbrev pub IsComplete : List (List ℕ) → OrderTree → Type 0
IsComplete made o = (name : List ℕ) → Contains made name → Contains (map text_of o.names) name

-- `order` at the word of an order that leaves an object out
abbrev pub Incomplete : List (List ℕ) → OrderTree → Fault → Type 0
Incomplete made o f = (IsComplete made o → ⊥) × (f ≡ fault o.place words.Order)

-- `made` are the names of the objects that statements make
abbrev pub OrderFault : List (List ℕ) → List OrderTree → OrderTree → Fault → Type 0
OrderFault made before o f = SecondOrder before o f ⊎ Repeated o.names f ⊎ NotMade made o.names f ⊎ Incomplete made o f

-- `twice` at the word of second sides
abbrev pub SecondSides : List SidesTree → SidesTree → Fault → Type 0
SecondSides before s f = (1 ≤ length before) × (f ≡ fault s.place words.Twice)

abbrev pub SidesFault : ℕ → List SidesTree → SidesTree → Fault → Type 0
SidesFault k before s f = SecondSides before s f ⊎ Miscounted side_place k s.sides f

-- ---- macros and rules

abbrev pub macro_name : MacroTree → PlacedName
macro_name m = m.name

abbrev pub param_name : ParamText → PlacedName
param_name p = p.name

abbrev pub rule_name : RuleTree → PlacedName
rule_name r = r.name

-- `limit` at a number behind `div` or `mod` that is 0
abbrev pub DivisorFault : List ℕ → Fault → Type 0
DivisorFault zeros f = (place : ℕ) × Contains zeros place × (f ≡ fault place words.Limit)

-- the fault at this place, where there is one
abbrev pub divisor_at : Option ℕ → Option Fault
divisor_at None = None
divisor_at (Some place) = Some (fault place words.Limit)

abbrev pub MacroFault : MacroTree → Fault → Type 0
MacroFault m f = NamesFault most_params (map param_name m.params) f ⊎ DivisorFault (body_zeros m.body) f

abbrev pub MacrosFault : List MacroTree → Fault → Type 0
MacrosFault ms f = NamesFault most_macros (map macro_name ms) f ⊎ Among (λ before. MacroFault) ms f

abbrev pub DemandFault : ℕ → DemandTree → Fault → Type 0
DemandFault k apart f = ⊥
DemandFault k (within rs) f = RangesFault k rs f
DemandFault k (plain t) f = DivisorFault (formula_zeros t) f

abbrev pub RuleFault : ℕ → RuleTree → Fault → Type 0
RuleFault k r = DemandFault k r.demand

abbrev pub RulesFault : ℕ → List RuleTree → Fault → Type 0
RulesFault k rs f = NamesFault most_rules (map rule_name rs) f ⊎ Among (λ before. RuleFault k) rs f

-- ---- all statements

-- the number of dimensions that is stated
abbrev pub count_of : ℤ → ℕ
count_of (pos n) = n
count_of (negsuc n) = 0

-- `limit` at a version that does not exist
abbrev pub VersionFault : Int → Fault → Type 0
VersionFault v f = (IsVersion v.value → ⊥) × (f ≡ fault v.place words.Limit)

abbrev pub IsDims : ℤ → ℤ → Type 0
IsDims version k = (pos 1 ≤ℤ k) × (k ≤ℤ pos (most_dims_in (count_of version)))

-- `limit` at a number of dimensions that is not 1 to the greatest one of the version
abbrev pub DimsFault : Int → Int → Fault → Type 0
DimsFault v d f = (IsDims v.value d.value → ⊥) × (f ≡ fault d.place words.Limit)

abbrev pub shape_names : List ShapeTree → List (List ℕ)
shape_names ss = map text_of (map shape_name ss)

abbrev pub object_names : List ObjectTree → List (List ℕ)
object_names os = map text_of (map object_name os)

pub data IsFault (p : Parts) (f : Fault) : Type 0 where
  version : VersionFault p.version f → IsFault p f
  dims : DimsFault p.version p.dims f → IsFault p f
  shapes : ShapesFault (count_of p.dims.value) p.shapes f → IsFault p f
  objects : ObjectsFault (count_of p.dims.value) (shape_names p.shapes) p.objects f → IsFault p f
  orders : Among (OrderFault (object_names p.objects)) p.orders f → IsFault p f
  sides : Among (SidesFault (count_of p.dims.value)) p.sides f → IsFault p f
  macros : MacrosFault p.macros f → IsFault p f
  rules : RulesFault (count_of p.dims.value) p.rules f → IsFault p f

-- The language of derivations, by trees: which tokens are a text of which tree of nodes, over what
-- names and numbers stand for.
--
--   text   = [ 'none' ] node 'qed'
--   node   = 'split' NAME half node node
--          | 'drop' NAME place cover node
--          | 'raise' NAME NUM int covers node | 'lower' NAME NUM int covers node
--          | 'gone' NAME covers | 'dead' NUM
--   half   = 'shape' place | NUM 'upto' int | NUM 'from' int
--   place  = NAME | 'absent'
--   covers = '[' { place cover } ']'
--   cover  = 'by' NUM | 'cut' NUM int cover cover | 'from' NUM int cover cover
--   int    = [ '-' ] NUM
use Rattle.std.specs.Prelude.{◌≡◌, ◌++◌, ℕ, ℤ, pos, neg_ℤ, List, [], ◌∷◌, codes, Some}
use Rattle.derivation.specs.declared.event.Event.{Event}
use Rattle.derivation.specs.declared.side.Side.TheVariants.{Upto, From}
use Rattle.derivation.specs.declared.half.Half.{Half}
use Rattle.derivation.specs.declared.half.Half.TheVariants.{OfPlace, OfSide}
use Rattle.derivation.specs.Covers.{CoverTree, Leaf, Fork}
use Rattle.derivation.specs.PlaceCovers.{PlaceCover}
use Rattle.derivation.specs.Nodes.{Node, Split, DropNode, Bound, GoneNode, DeadNode, node_events}
use Rattle.derivation_reading.specs.declared.symbol.Terminal.{Terminal}
use Rattle.derivation_reading.specs.declared.symbol.Terminal.TheVariants as terminals
use Rattle.derivation_reading.specs.Terminals.{Lexeme}
use Rattle.derivation_reading.specs.Grammar.{Lookup}

-- ---- languages

-- which lists of tokens there are
abbrev pub Words : Type 1
Words = List Lexeme → Type 0

-- no token
abbrev pub Empty : Words
Empty ws = ws ≡ []

-- one token, which is such
pub record One (P : Lexeme → Type 0) (ws : List Lexeme) : Type 0 where
  pub token : Lexeme
  pub is : P token
  pub words : ws ≡ token ∷ []

infixr 4 ◌⨾◌
-- one behind the other
pub record ◌⨾◌ (P Q : Words) (ws : List Lexeme) : Type 0 where
  pub first : List Lexeme
  pub second : List Lexeme
  pub front : P first
  pub behind : Q second
  pub words : ws ≡ first ++ second

-- with these tokens, or without them
pub data Perhaps (P : Words) (ws : List Lexeme) : Type 0 where
  there : P ws → Perhaps P ws
  not_there : ws ≡ [] → Perhaps P ws

-- those of each element, in turn
abbrev pub Each : {A : Type 0} → (A → Words) → List A → Words
Each P [] = Empty
Each P (a ∷ more) = P a ⨾ Each P more

-- ---- tokens

-- a mark, a number or a reserved word
abbrev pub Mark : Terminal → Words
Mark t = One (λ w. w.is ≡ t)

-- a word that is known by its place
abbrev pub IsWord : List ℕ → Lexeme → Type 0
IsWord name w = (w.is ≡ terminals.Name) × (w.name ≡ name)

abbrev pub Word : List ℕ → Words
Word name = One (IsWord name)

-- the name of this object
abbrev pub IsObject : Lookup → ℕ → Lexeme → Type 0
IsObject L o w = (w.is ≡ terminals.Name) × (L.object w.name ≡ Some o)

abbrev pub ObjectWord : Lookup → ℕ → Words
ObjectWord L o = One (IsObject L o)

-- this place of the object, by the name of its shape or by the word `absent`
pub data IsPlaceOf (L : Lookup) (o s : ℕ) (w : Lexeme) : Type 0 where
  named : w.is ≡ terminals.Name → L.place o w.name ≡ Some s → IsPlaceOf L o s w
  absent : w.is ≡ terminals.Absent → L.place o (codes "absent") ≡ Some s → IsPlaceOf L o s w

abbrev pub PlaceWord : Lookup → ℕ → ℕ → Words
PlaceWord L o s = One (IsPlaceOf L o s)

-- this dimension, by the number from 1 that a text has for it
abbrev pub IsDimension : Lookup → ℕ → Lexeme → Type 0
IsDimension L d w = (n : ℕ) × (w.is ≡ terminals.Number n) × (L.dimension n ≡ Some d)

abbrev pub DimensionWord : Lookup → ℕ → Words
DimensionWord L d = One (IsDimension L d)

abbrev pub NumberWord : ℕ → Words
NumberWord n = Mark (terminals.Number n)

-- this integer: its number, or a minus and the number of its negative
pub data IntWords (v : ℤ) (ws : List Lexeme) : Type 0 where
  plain : (n : ℕ) → v ≡ pos n → NumberWord n ws → IntWords v ws
  negative : (n : ℕ) → v ≡ neg_ℤ (pos n) → (Mark terminals.Minus ⨾ NumberWord n) ws → IntWords v ws

-- ---- trees

abbrev pub CoverWords : Lookup → CoverTree → Words
CoverWords L (Leaf i) = Word (codes "by") ⨾ NumberWord i
CoverWords L (Fork (Upto d v) a b) =
    Word (codes "cut") ⨾ DimensionWord L d ⨾ IntWords v ⨾ CoverWords L a ⨾ CoverWords L b
CoverWords L (Fork (From d v) a b) =
    Word (codes "from") ⨾ DimensionWord L d ⨾ IntWords v ⨾ CoverWords L a ⨾ CoverWords L b

abbrev pub PlaceCoverWords : Lookup → ℕ → PlaceCover → Words
PlaceCoverWords L o c = PlaceWord L o c.place ⨾ CoverWords L c.tree

abbrev pub CoversWords : Lookup → ℕ → List PlaceCover → Words
CoversWords L o list = Mark terminals.Open ⨾ Each (PlaceCoverWords L o) list ⨾ Mark terminals.Close

abbrev pub HalfWords : Lookup → ℕ → Half → Words
HalfWords L o (OfPlace s) = Mark terminals.Shape ⨾ PlaceWord L o s
HalfWords L o (OfSide (Upto d v)) = DimensionWord L d ⨾ Word (codes "upto") ⨾ IntWords v
HalfWords L o (OfSide (From d v)) = DimensionWord L d ⨾ Word (codes "from") ⨾ IntWords v

abbrev pub NodeWords : Lookup → Node → Words
NodeWords L (Split o half a b) =
    Word (codes "split") ⨾ ObjectWord L o ⨾ HalfWords L o half ⨾ NodeWords L a ⨾ NodeWords L b
NodeWords L (DropNode o s tree rest) =
    Word (codes "drop") ⨾ ObjectWord L o ⨾ PlaceWord L o s ⨾ CoverWords L tree ⨾ NodeWords L rest
NodeWords L (Bound o (From d v) list rest) =
    Word (codes "raise") ⨾ ObjectWord L o ⨾ DimensionWord L d ⨾ IntWords v
    ⨾ CoversWords L o list ⨾ NodeWords L rest
NodeWords L (Bound o (Upto d v) list rest) =
    Word (codes "lower") ⨾ ObjectWord L o ⨾ DimensionWord L d ⨾ IntWords v
    ⨾ CoversWords L o list ⨾ NodeWords L rest
NodeWords L (GoneNode o list) = Word (codes "gone") ⨾ ObjectWord L o ⨾ CoversWords L o list
NodeWords L (DeadNode i) = Word (codes "dead") ⨾ NumberWord i

abbrev pub TextWords : Lookup → Node → Words
TextWords L root = Perhaps (Word (codes "none")) ⨾ NodeWords L root ⨾ Mark terminals.Qed

-- the tokens are a text of a tree, whose events these are
pub record IsTextOf (L : Lookup) (ws : List Lexeme) (es : List Event) : Type 0 where
  pub root : Node
  pub words : TextWords L root ws
  pub events : node_events root ≡ es

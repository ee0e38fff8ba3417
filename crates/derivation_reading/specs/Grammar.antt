-- The grammar of derivations' texts. Each production begins with a token, and by it is told from the others: what may come next
-- becomes, at a token, what may come behind it, and the events that are whole with that token.
--
--   text   = [ 'none' ] node 'qed'
--   node   = 'split' NAME 'shape' place node node
--          | 'split' NAME NUM 'upto' int node node | 'split' NAME NUM 'from' int node node
--          | 'drop' NAME place cover node
--          | 'raise' NAME NUM int covers node | 'lower' NAME NUM int covers node
--          | 'gone' NAME covers | 'dead' NUM
--   place  = NAME | 'absent'
--   covers = '[' { place cover } ']'
--   cover  = 'by' NUM | 'cut' NUM int cover cover | 'from' NUM int cover cover
--   int    = [ '-' ] NUM
--
-- Language says the same by trees of nodes, with no table, and Laws that both are one.
use Rattle.std.specs.Prelude.{◌-◌, ◌&&◌, nat_le, ℕ, Bool, ℤ, pos, neg_ℤ, suc, List, [], ◌∷◌, codes, slice_index_or, Option, Some, None, option_map, if◌then◌else◌}
use Rattle.std.specs.List.{position}
use Rattle.std.specs.Str.{bytes_eq}
use Rattle.geo_tokens.specs.Names.{NameTable}
use Rattle.geo_conditions.specs.declared.object.ObjId.{ObjId}
use Rattle.derivation.specs.declared.event.Event.{Event}
use Rattle.derivation.specs.declared.event.Event.TheVariants as events
use Rattle.derivation_reading.specs.declared.symbol.Part.{Part}
use Rattle.derivation_reading.specs.declared.symbol.Part.TheVariants.{Upto, From}
use Rattle.derivation_reading.specs.declared.symbol.Sign.{Sign}
use Rattle.derivation_reading.specs.declared.symbol.Sign.TheVariants.{Plus, Minus}
use Rattle.derivation_reading.specs.declared.symbol.Symbol.{Symbol}
use Rattle.derivation_reading.specs.declared.symbol.Symbol.TheVariants.{Text, Node, Qed, SplitObject, SplitBy, SplitShape, SplitPart, SplitNumber, DropObject, DropShape, BoundObject, BoundDimension, BoundNumber, BoundCovers, GoneObject, GoneCovers, DeadNumber, Covers, Cover, ByNumber, CutDimension, CutNumber}
use Rattle.derivation_reading.specs.declared.symbol.Terminal.{Terminal}
use Rattle.derivation_reading.specs.declared.symbol.Terminal.TheVariants as terminals
use Rattle.derivation_reading.specs.Terminals.{Lexeme}

-- ---- names

-- What names and numbers stand for: the number of an object, from 0; the place, from 1, of a shape in the list of an object, or of
-- the word `absent`; a dimension, from 0, that a text counts from 1.
pub record Lookup : Type 0 where
  pub object : List ℕ → Option ℕ
  pub place : ℕ → List ℕ → Option ℕ
  pub dimension : ℕ → Option ℕ

-- the shape at that position has this name
abbrev pub has_name : NameTable → List ℕ → ℕ → Bool
has_name n name s = bytes_eq name (slice_index_or n.shapes s [])

-- the positions of the object's shapes
abbrev pub shapes_of : NameTable → ℕ → List ℕ
shapes_of n o = (slice_index_or n.objects o ([], [])).1

-- by a table of names
abbrev pub lookup : NameTable → Lookup
lookup n = record {
  object = λ name. position (λ o. bytes_eq name o.0) n.objects;
  place = λ o name. option_map suc (position (has_name n name) (shapes_of n o));
  dimension = λ d. if nat_le 1 d && nat_le d n.dims then Some (d - 1) else None;
}

-- each name and each dimension stands for something
abbrev pub anything : Lookup
anything = record { object = λ name. Some 0; place = λ o name. Some 1; dimension = λ d. Some 0 }

-- ---- what becomes of what may come next

-- It goes on in no text; or the name or the dimension that is wanted stands for nothing; or what may come behind, and the events.
pub data Next : Type 0 where
  Wrong : Next
  Unknown : Next
  Goes : List Symbol → List Event → Next

abbrev pub goes : List Symbol → Next
goes ss = Goes ss []

abbrev pub gives : Event → List Symbol → Next
gives e ss = Goes ss (e ∷ [])

-- where it stands for something
abbrev pub known : Option ℕ → (ℕ → Next) → Next
known None f = Unknown
known (Some n) f = f n

-- the words that begin a node, what then follows, and `more` behind the node
abbrev pub node_by : List ℕ → List Symbol → Next
node_by w more =
    if bytes_eq w (codes "split") then goes (SplitObject ∷ more)
    else if bytes_eq w (codes "drop") then goes (DropObject ∷ more)
    else if bytes_eq w (codes "raise") then goes (BoundObject From ∷ more)
    else if bytes_eq w (codes "lower") then goes (BoundObject Upto ∷ more)
    else if bytes_eq w (codes "gone") then goes (GoneObject ∷ more)
    else if bytes_eq w (codes "dead") then goes (DeadNumber ∷ more)
    else Wrong

-- the words that begin a text
abbrev pub text_by : List ℕ → Next
text_by w = if bytes_eq w (codes "none") then goes (Node ∷ Qed ∷ []) else node_by w (Qed ∷ [])

-- the words that begin a cover
abbrev pub cover_by : List ℕ → Next
cover_by w =
    if bytes_eq w (codes "by") then goes (ByNumber ∷ [])
    else if bytes_eq w (codes "cut") then goes (CutDimension Upto ∷ [])
    else if bytes_eq w (codes "from") then goes (CutDimension From ∷ [])
    else Wrong

abbrev pub part_by : ObjId → ℕ → List ℕ → Next
part_by o d w =
    if bytes_eq w (codes "upto") then goes (SplitNumber Upto o d Plus ∷ [])
    else if bytes_eq w (codes "from") then goes (SplitNumber From o d Plus ∷ [])
    else Wrong

abbrev pub an : ℕ → ObjId
an o = record { 0 = o }

abbrev pub signed : Sign → ℕ → ℤ
signed Plus n = pos n
signed Minus n = neg_ℤ (pos n)

abbrev pub split_at : Part → ObjId → ℕ → ℤ → Event
split_at Upto o d v = events.SplitUpto o d v
split_at From o d v = events.SplitFrom o d v

abbrev pub bound_at : Part → ObjId → ℕ → ℤ → Event
bound_at Upto o d v = events.Lower o d v
bound_at From o d v = events.Raise o d v

abbrev pub cut_at : Part → ℕ → ℤ → Event
cut_at Upto d v = events.Cut d v
cut_at From d v = events.CutFrom d v

-- a place of an object
abbrev pub place_by : Lookup → Symbol → List ℕ → Next
place_by L (SplitShape o) w = known (L.place o.0 w) (λ s. gives (events.SplitShape o s) (Node ∷ Node ∷ []))
place_by L (DropShape o) w = known (L.place o.0 w) (λ s. gives (events.Drop o s) (Cover ∷ Node ∷ []))
place_by L (Covers o) w = known (L.place o.0 w) (λ s. gives (events.Cover s) (Cover ∷ Covers o ∷ []))
place_by L s w = Wrong

-- the productions
abbrev pub next : Lookup → Symbol → Terminal → List ℕ → Next
next L Text terminals.Name w = text_by w
next L Node terminals.Name w = node_by w []
next L Qed terminals.Qed w = goes []
next L SplitObject terminals.Name w = known (L.object w) (λ o. goes (SplitBy (an o) ∷ []))
next L (SplitBy o) terminals.Shape w = goes (SplitShape o ∷ [])
next L (SplitBy o) (terminals.Number n) w = known (L.dimension n) (λ d. goes (SplitPart o d ∷ []))
next L (SplitShape o) terminals.Name w = place_by L (SplitShape o) w
next L (SplitShape o) terminals.Absent w = place_by L (SplitShape o) (codes "absent")
next L (SplitPart o d) terminals.Name w = part_by o d w
next L (SplitNumber part o d Plus) terminals.Minus w = goes (SplitNumber part o d Minus ∷ [])
next L (SplitNumber part o d sign) (terminals.Number n) w = gives (split_at part o d (signed sign n)) (Node ∷ Node ∷ [])
next L DropObject terminals.Name w = known (L.object w) (λ o. goes (DropShape (an o) ∷ []))
next L (DropShape o) terminals.Name w = place_by L (DropShape o) w
next L (DropShape o) terminals.Absent w = place_by L (DropShape o) (codes "absent")
next L (BoundObject part) terminals.Name w = known (L.object w) (λ o. goes (BoundDimension part (an o) ∷ []))
next L (BoundDimension part o) (terminals.Number n) w = known (L.dimension n) (λ d. goes (BoundNumber part o d Plus ∷ []))
next L (BoundNumber part o d Plus) terminals.Minus w = goes (BoundNumber part o d Minus ∷ [])
next L (BoundNumber part o d sign) (terminals.Number n) w = goes (BoundCovers part o d (signed sign n) ∷ [])
next L (BoundCovers part o d v) terminals.Open w = gives (bound_at part o d v) (Covers o ∷ Node ∷ [])
next L GoneObject terminals.Name w = known (L.object w) (λ o. goes (GoneCovers (an o) ∷ []))
next L (GoneCovers o) terminals.Open w = gives (events.Gone o) (Covers o ∷ [])
next L DeadNumber (terminals.Number i) w = gives (events.Dead i) []
next L (Covers o) terminals.Name w = place_by L (Covers o) w
next L (Covers o) terminals.Absent w = place_by L (Covers o) (codes "absent")
next L (Covers o) terminals.Close w = gives events.EndCovers []
next L Cover terminals.Name w = cover_by w
next L ByNumber (terminals.Number i) w = gives (events.By i) []
next L (CutDimension part) (terminals.Number n) w = known (L.dimension n) (λ d. goes (CutNumber part d Plus ∷ []))
next L (CutNumber part d Plus) terminals.Minus w = goes (CutNumber part d Minus ∷ [])
next L (CutNumber part d sign) (terminals.Number n) w = gives (cut_at part d (signed sign n)) (Cover ∷ Cover ∷ [])
next L s t w = Wrong

-- the same of a token
abbrev pub at : Lookup → Symbol → Lexeme → Next
at L s w = next L s w.is w.name

-- What the table reads is a text of the grammar: each of the open symbols says what is left of its part of a tree.
use Rattle.std.proofs.Common.{◌≡◌, ℕ, ℤ, Bool, true, false, List, [], ◌∷◌, ◌++◌, Option, Some, None, if◌then◌else◌, refl, sym, ap, ◌∙◌, append_assoc, subst}
use Rattle.std.specs.Prelude.{pos, neg_ℤ, codes}
use Rattle.std.specs.Str.{bytes_eq}
use Rattle.std.proofs.lemmas.List.{append-nil}
use Rattle.std.proofs.lemmas.Slice.Eq.{bytes_eq-Decides}
use Rattle.geo_conditions.specs.declared.object.ObjId.{ObjId}
use Rattle.derivation.specs.declared.event.Event.{Event}
use Rattle.derivation.specs.declared.event.Event.TheVariants as events
use Rattle.derivation.specs.declared.side.Side.TheVariants as sides
use Rattle.derivation.specs.declared.half.Half.{Half}
use Rattle.derivation.specs.declared.half.Half.TheVariants.{OfPlace, OfSide}
use Rattle.derivation.specs.Covers.{CoverTree, Leaf, Fork, events_of}
use Rattle.derivation.specs.PlaceCovers.{PlaceCover, open_events, covers_events}
use Rattle.derivation.specs.Nodes as nodes
use Rattle.derivation.specs.Nodes.{split_event, node_events}
use Rattle.derivation_reading.specs.declared.symbol.Part.{Part}
use Rattle.derivation_reading.specs.declared.symbol.Part.TheVariants.{Upto, From}
use Rattle.derivation_reading.specs.declared.symbol.Sign.{Sign}
use Rattle.derivation_reading.specs.declared.symbol.Sign.TheVariants.{Plus, Minus}
use Rattle.derivation_reading.specs.declared.symbol.Symbol.{Symbol}
use Rattle.derivation_reading.specs.declared.symbol.Symbol.TheVariants.{Text, Node, Qed, SplitObject, SplitBy, SplitShape, SplitPart, SplitNumber, DropObject, DropShape, BoundObject, BoundDimension, BoundNumber, BoundCovers, GoneObject, GoneCovers, DeadNumber, Covers, Cover, ByNumber, CutDimension, CutNumber}
use Rattle.derivation_reading.specs.declared.symbol.Terminal.{Terminal}
use Rattle.derivation_reading.specs.declared.symbol.Terminal.TheVariants as terminals
use Rattle.derivation_reading.specs.Terminals.{Lexeme}
use Rattle.derivation_reading.specs.Grammar.{Lookup, Next, Wrong, Unknown, Goes, goes, known, an, signed, split_at, bound_at, cut_at, node_by, cover_by, part_by, next, at}
use Rattle.derivation_reading.specs.Machine.{Leaves, here, on, Spells}
use Rattle.derivation_reading.specs.Language.{Words, ◌⨾◌, Perhaps, there, not_there, Each, Mark, IsWord, Word, IsObject, ObjectWord, IsPlaceOf, named, absent, PlaceWord, IsDimension, DimensionWord, NumberWord, IntWords, plain, negative, CoverWords, PlaceCoverWords, CoversWords, HalfWords, NodeWords, TextWords, IsTextOf}
use Rattle.derivation_reading.proofs.Languages.{part_word, put, to_left}

-- ---- what symbols say

-- lists of tokens with events
abbrev Piece : Type 1
Piece = List Lexeme → List Event → Type 0

-- an event, with two nodes; a cover and a node; a list of covers and a node; two covers. Their words stand behind others
abbrev TwoNodes : Lookup → (Words → Words) → Event → Piece
TwoNodes L front e ws es =
    (a b : nodes.Node) × front (NodeWords L a ⨾ NodeWords L b) ws
    × (e ∷ (node_events a ++ node_events b) ≡ es)

abbrev CoverAndNode : Lookup → (Words → Words) → Event → Piece
CoverAndNode L front e ws es =
    (tree : CoverTree) × (n : nodes.Node) × front (CoverWords L tree ⨾ NodeWords L n) ws
    × (e ∷ (events_of tree ++ node_events n) ≡ es)

abbrev CoversAndNode : Lookup → ℕ → (Words → Words) → Event → Piece
CoversAndNode L o front e ws es =
    (list : List PlaceCover) × (n : nodes.Node) × front (CoversWords L o list ⨾ NodeWords L n) ws
    × (e ∷ (covers_events list ++ node_events n) ≡ es)

abbrev TwoCovers : Lookup → (Words → Words) → Event → Piece
TwoCovers L front e ws es =
    (a b : CoverTree) × front (CoverWords L a ⨾ CoverWords L b) ws
    × (e ∷ (events_of a ++ events_of b) ≡ es)

-- what is left of an integer
abbrev SignedWords : Sign → ℤ → Words
SignedWords Plus v = IntWords v
SignedWords Minus v = λ ws. (n : ℕ) × (v ≡ neg_ℤ (pos n)) × NumberWord n ws

-- what a symbol says: what is left of a text, a node, a cover or a list of covers
abbrev Says : Lookup → Symbol → Piece
Says L Text ws es = (n : nodes.Node) × TextWords L n ws × (node_events n ≡ es)
Says L Node ws es = (n : nodes.Node) × NodeWords L n ws × (node_events n ≡ es)
Says L Qed ws es = Mark terminals.Qed ws × (es ≡ [])
Says L SplitObject ws es = (o : ℕ) × (half : Half)
    × TwoNodes L (λ R. ObjectWord L o ⨾ HalfWords L o half ⨾ R) (split_event o half) ws es
Says L (SplitBy o) ws es = (half : Half)
    × TwoNodes L (λ R. HalfWords L o.0 half ⨾ R) (split_event o.0 half) ws es
Says L (SplitShape o) ws es = (s : ℕ)
    × TwoNodes L (λ R. PlaceWord L o.0 s ⨾ R) (events.SplitShape o s) ws es
Says L (SplitPart o d) ws es = (part : Part) × (v : ℤ)
    × TwoNodes L (λ R. Word (part_word part) ⨾ IntWords v ⨾ R) (split_at part o d v) ws es
Says L (SplitNumber part o d sign) ws es = (v : ℤ)
    × TwoNodes L (λ R. SignedWords sign v ⨾ R) (split_at part o d v) ws es
Says L DropObject ws es = (o s : ℕ)
    × CoverAndNode L (λ R. ObjectWord L o ⨾ PlaceWord L o s ⨾ R) (events.Drop (an o) s) ws es
Says L (DropShape o) ws es = (s : ℕ)
    × CoverAndNode L (λ R. PlaceWord L o.0 s ⨾ R) (events.Drop o s) ws es
Says L (BoundObject part) ws es = (o d : ℕ) × (v : ℤ)
    × CoversAndNode L o (λ R. ObjectWord L o ⨾ DimensionWord L d ⨾ IntWords v ⨾ R)
    (bound_at part (an o) d v) ws es
Says L (BoundDimension part o) ws es = (d : ℕ) × (v : ℤ)
    × CoversAndNode L o.0 (λ R. DimensionWord L d ⨾ IntWords v ⨾ R) (bound_at part o d v) ws es
Says L (BoundNumber part o d sign) ws es = (v : ℤ)
    × CoversAndNode L o.0 (λ R. SignedWords sign v ⨾ R) (bound_at part o d v) ws es
Says L (BoundCovers part o d v) ws es =
    CoversAndNode L o.0 (λ R. R) (bound_at part o d v) ws es
Says L GoneObject ws es = (o : ℕ) × (list : List PlaceCover)
    × (ObjectWord L o ⨾ CoversWords L o list) ws × (events.Gone (an o) ∷ covers_events list ≡ es)
Says L (GoneCovers o) ws es = (list : List PlaceCover)
    × CoversWords L o.0 list ws × (events.Gone o ∷ covers_events list ≡ es)
Says L DeadNumber ws es = (i : ℕ) × NumberWord i ws × (events.Dead i ∷ [] ≡ es)
Says L (Covers o) ws es = (list : List PlaceCover)
    × (Each (PlaceCoverWords L o.0) list ⨾ Mark terminals.Close) ws × (covers_events list ≡ es)
Says L Cover ws es = (t : CoverTree) × CoverWords L t ws × (events_of t ≡ es)
Says L ByNumber ws es = (i : ℕ) × NumberWord i ws × (events.By i ∷ [] ≡ es)
Says L (CutDimension part) ws es = (d : ℕ) × (v : ℤ)
    × TwoCovers L (λ R. DimensionWord L d ⨾ IntWords v ⨾ R) (cut_at part d v) ws es
Says L (CutNumber part d sign) ws es = (v : ℤ)
    × TwoCovers L (λ R. SignedWords sign v ⨾ R) (cut_at part d v) ws es

-- one piece behind the other
record Pieces (P Q : Piece) (ws : List Lexeme) (es : List Event) : Type 0 where
  us : List Lexeme
  vs : List Lexeme
  a : List Event
  b : List Event
  front : P us a
  behind : Q vs b
  words : ws ≡ us ++ vs
  events : es ≡ a ++ b

-- a piece for each of the symbols
abbrev SayAll : Lookup → List Symbol → Piece
SayAll L [] = λ ws es. (ws ≡ []) × (es ≡ [])
SayAll L (s ∷ ss) = Pieces (Says L s) (SayAll L ss)

module _ (L : Lookup) where
  say_both : (ss more : List Symbol) (ws : List Lexeme) (es : List Event) → SayAll L (ss ++ more) ws es
      → Pieces (SayAll L ss) (SayAll L more) ws es
  say_both [] more ws es m = record { us = []; vs = ws; a = []; b = es; front = (refl, refl); behind = m; words = refl; events = refl }
  say_both (s ∷ ss) more ws es m =
      let r = say_both ss more m.vs m.b m.behind in
      record {
        us = m.us ++ r.us;
        vs = r.vs;
        a = m.a ++ r.a;
        b = r.b;
        front = record { us = m.us; vs = r.us; a = m.a; b = r.a; front = m.front; behind = r.front; words = refl; events = refl };
        behind = r.behind;
        words = m.words ∙ ap (λ (x : List Lexeme). m.us ++ x) r.words ∙ sym (append_assoc m.us r.us r.vs);
        events = m.events ∙ ap (λ (x : List Event). m.a ++ x) r.events ∙ sym (append_assoc m.a r.a r.b);
      }

  -- the piece of one symbol, and those of two
  only : (s : Symbol) (ws : List Lexeme) (es : List Event) → SayAll L (s ∷ []) ws es → Says L s ws es
  only s ws es m =
      subst (λ (x : List Lexeme). Says L s x es) (sym (m.words ∙ ap (λ (x : List Lexeme). m.us ++ x) m.behind.0 ∙ append-nil m.us))
      (subst (λ (x : List Event). Says L s m.us x) (sym (m.events ∙ ap (λ (x : List Event). m.a ++ x) m.behind.1 ∙ append-nil m.a)) m.front)

  two : (s t : Symbol) (ws : List Lexeme) (es : List Event) → SayAll L (s ∷ t ∷ []) ws es → Pieces (Says L s) (Says L t) ws es
  two s t ws es m = record { us = m.us; vs = m.vs; a = m.a; b = m.b; front = m.front; behind = only t m.vs m.b m.behind; words = m.words; events = m.events }

  -- with a token in front
  put_front : (s t : Symbol) (w : Lexeme) (more : List Symbol) → ((ws : List Lexeme) (es : List Event) → Says L s ws es → Says L t (w ∷ ws) es) → (ws : List Lexeme) (es : List Event)
      → SayAll L (s ∷ more) ws es → SayAll L (t ∷ more) (w ∷ ws) es
  put_front s t w more f ws es m =
      record { us = w ∷ m.us; vs = m.vs; a = m.a; b = m.b; front = f m.us m.a m.front; behind = m.behind; words = ap (λ (x : List Lexeme). w ∷ x) m.words; events = m.events }

-- ---- what one step adds

-- where it goes on, what comes behind and its events make such
abbrev Adds : Lookup → Piece → Next → Type 0
Adds L P Wrong = Unit {0}
Adds L P Unknown = Unit {0}
Adds L P (Goes more ds) = (ws : List Lexeme) (es : List Event) → SayAll L more ws es → P ws (ds ++ es)

-- a token of this terminal and name
abbrev token : Terminal → List ℕ → Lexeme
token t name = record { is = t; name = name }

-- what a symbol says, without its first token
abbrev Behind : Lookup → Symbol → Lexeme → Piece
Behind L s w ws es = Says L s (w ∷ ws) es

module _ (L : Lookup) (P : Piece) where
  adds_if : (b : Bool) (x y : Next) → (b ≡ true → Adds L P x) → Adds L P y → Adds L P (if b then x else y)
  adds_if true x y f g = f refl
  adds_if false x y f g = g

  adds_word : (name word : List ℕ) (x y : Next) → (name ≡ word → Adds L P x) → Adds L P y → Adds L P (if bytes_eq name word then x else y)
  adds_word name word x y f g = adds_if (bytes_eq name word) x y (λ e. f ((bytes_eq-Decides name word).0 e)) g

  adds_known : (o : Option ℕ) (f : ℕ → Next) → ((i : ℕ) → o ≡ Some i → Adds L P (f i)) → Adds L P (known o f)
  adds_known None f g = tt
  adds_known (Some i) f g = g i refl

  adds_one : (s : Symbol) → ((ws : List Lexeme) (es : List Event) → Says L s ws es → P ws es) → Adds L P (goes (s ∷ []))
  adds_one s f ws es m = f ws es (only L s ws es m)

-- what a word in front does to what stands behind it
abbrev Fronts : (Words → Words) → Lexeme → Type 1
Fronts front w = (R : Words) (ws : List Lexeme) → R ws → front R (w ∷ ws)

module _ (L : Lookup) (front : Words → Words) (w : Lexeme) (fronts : Fronts front w) (e : Event) (ws : List Lexeme) (es : List Event) where
  two_nodes : SayAll L (Node ∷ Node ∷ []) ws es → TwoNodes L front e (w ∷ ws) (e ∷ es)
  two_nodes m =
      let r = two L Node Node ws es m in
      let x = r.front.0 in
      let y = r.behind.0 in
      (x, y, fronts (NodeWords L x ⨾ NodeWords L y) ws (record { first = r.us; second = r.vs; front = r.front.1; behind = r.behind.1; words = r.words }), cc (r.front.2, r.behind.2, r.events))

  cover_and_node : SayAll L (Cover ∷ Node ∷ []) ws es → CoverAndNode L front e (w ∷ ws) (e ∷ es)
  cover_and_node m =
      let r = two L Cover Node ws es m in
      let x = r.front.0 in
      let y = r.behind.0 in
      (x, y, fronts (CoverWords L x ⨾ NodeWords L y) ws (record { first = r.us; second = r.vs; front = r.front.1; behind = r.behind.1; words = r.words }), cc (r.front.2, r.behind.2, r.events))

  two_covers : SayAll L (Cover ∷ Cover ∷ []) ws es → TwoCovers L front e (w ∷ ws) (e ∷ es)
  two_covers m =
      let r = two L Cover Cover ws es m in
      let x = r.front.0 in
      let y = r.behind.0 in
      (x, y, fronts (CoverWords L x ⨾ CoverWords L y) ws (record { first = r.us; second = r.vs; front = r.front.1; behind = r.behind.1; words = r.words }), cc (r.front.2, r.behind.2, r.events))

module _ (L : Lookup) where
  -- ---- names and integers in front

  object_front : (o : ℕ) (name : List ℕ) → L.object name ≡ Some o → Fronts (λ R. ObjectWord L o ⨾ R) (token terminals.Name name)
  object_front o name e R ws r = put (IsObject L o) R (token terminals.Name name) ws (refl, e) r

  name_front : (o s : ℕ) (name : List ℕ) → L.place o name ≡ Some s → Fronts (λ R. PlaceWord L o s ⨾ R) (token terminals.Name name)
  name_front o s name e R ws r = put (IsPlaceOf L o s) R (token terminals.Name name) ws (named refl e) r

  absent_front : (o s : ℕ) (name : List ℕ) → L.place o (codes "absent") ≡ Some s → Fronts (λ R. PlaceWord L o s ⨾ R) (token terminals.Absent name)
  absent_front o s name e R ws r = put (IsPlaceOf L o s) R (token terminals.Absent name) ws (absent refl e) r

  dimension_front : (d n : ℕ) (name : List ℕ) → L.dimension n ≡ Some d → Fronts (λ R. DimensionWord L d ⨾ R) (token (terminals.Number n) name)
  dimension_front d n name e R ws r = put (IsDimension L d) R (token (terminals.Number n) name) ws (n, refl, e) r

number_only : (n : ℕ) (name : List ℕ) → NumberWord n (token (terminals.Number n) name ∷ [])
number_only n name = record { token = token (terminals.Number n) name; is = refl; words = refl }

number_front : (sign : Sign) (n : ℕ) (name : List ℕ) → Fronts (λ R. SignedWords sign (signed sign n) ⨾ R) (token (terminals.Number n) name)
number_front Plus n name R ws r =
    record { first = token (terminals.Number n) name ∷ []; second = ws; front = plain n refl (number_only n name); behind = r; words = refl }
number_front Minus n name R ws r =
    record { first = token (terminals.Number n) name ∷ []; second = ws; front = (n, refl, number_only n name); behind = r; words = refl }

minus_front : (v : ℤ) (name : List ℕ) (R : Words) (ws : List Lexeme) → (SignedWords Minus v ⨾ R) ws → (IntWords v ⨾ R) (token terminals.Minus name ∷ ws)
minus_front v name R ws h =
    let w = token terminals.Minus name in
    record {
      first = w ∷ h.first;
      second = h.second;
      front = negative h.front.0 h.front.1 (put (λ (x : Lexeme). x.is ≡ terminals.Minus) (NumberWord h.front.0) w h.first refl h.front.2);
      behind = h.behind;
      words = ap (λ (x : List Lexeme). w ∷ x) h.words;
    }

mark_front : (t : Terminal) (name : List ℕ) (R : Words) (ws : List Lexeme) → R ws → (Mark t ⨾ R) (token t name ∷ ws)
mark_front t name R ws r = put (λ (x : Lexeme). x.is ≡ t) R (token t name) ws refl r

word_front : (name word : List ℕ) → name ≡ word → (R : Words) (ws : List Lexeme) → R ws → (Word word ⨾ R) (token terminals.Name name ∷ ws)
word_front name word e R ws r = put (IsWord word) R (token terminals.Name name) ws (refl, e) r

-- one token alone
mark_only : (t : Terminal) (name : List ℕ) (ws : List Lexeme) → ws ≡ [] → Mark t (token t name ∷ ws)
mark_only t name ws e = record { token = token t name; is = refl; words = ap (λ (x : List Lexeme). token t name ∷ x) e }

module _ (L : Lookup) where
  adds_map : (P Q : Piece) → ((ws : List Lexeme) (es : List Event) → P ws es → Q ws es) → (x : Next) → Adds L P x → Adds L Q x
  adds_map P Q f Wrong g = tt
  adds_map P Q f Unknown g = tt
  adds_map P Q f (Goes more ds) g = λ ws es m. f ws (ds ++ es) (g ws es m)

  -- ---- the words that begin a node

  module _ (name : List ℕ) where
    split_node : name ≡ codes "split" → (ws : List Lexeme) (es : List Event) → Says L SplitObject ws es → Says L Node (token terminals.Name name ∷ ws) es
    split_node e ws es h = (
      nodes.Split h.0 h.1 h.2.0 h.2.1,
      word_front name (codes "split") e (ObjectWord L h.0 ⨾ HalfWords L h.0 h.1 ⨾ NodeWords L h.2.0 ⨾ NodeWords L h.2.1) ws h.2.2,
      h.2.3,
    )

    drop_node : name ≡ codes "drop" → (ws : List Lexeme) (es : List Event) → Says L DropObject ws es → Says L Node (token terminals.Name name ∷ ws) es
    drop_node e ws es h = (
      nodes.DropNode h.0 h.1 h.2.0 h.2.1,
      word_front name (codes "drop") e (ObjectWord L h.0 ⨾ PlaceWord L h.0 h.1 ⨾ CoverWords L h.2.0 ⨾ NodeWords L h.2.1) ws h.2.2,
      h.2.3,
    )

    raise_node : name ≡ codes "raise" → (ws : List Lexeme) (es : List Event) → Says L (BoundObject From) ws es → Says L Node (token terminals.Name name ∷ ws) es
    raise_node e ws es h = (
      nodes.Bound h.0 (sides.From h.1 h.2) h.3.0 h.3.1,
      word_front name (codes "raise") e (ObjectWord L h.0 ⨾ DimensionWord L h.1 ⨾ IntWords h.2 ⨾ CoversWords L h.0 h.3.0 ⨾ NodeWords L h.3.1) ws h.3.2,
      h.3.3,
    )

    lower_node : name ≡ codes "lower" → (ws : List Lexeme) (es : List Event) → Says L (BoundObject Upto) ws es → Says L Node (token terminals.Name name ∷ ws) es
    lower_node e ws es h = (
      nodes.Bound h.0 (sides.Upto h.1 h.2) h.3.0 h.3.1,
      word_front name (codes "lower") e (ObjectWord L h.0 ⨾ DimensionWord L h.1 ⨾ IntWords h.2 ⨾ CoversWords L h.0 h.3.0 ⨾ NodeWords L h.3.1) ws h.3.2,
      h.3.3,
    )

    gone_node : name ≡ codes "gone" → (ws : List Lexeme) (es : List Event) → Says L GoneObject ws es → Says L Node (token terminals.Name name ∷ ws) es
    gone_node e ws es h = (nodes.GoneNode h.0 h.1, word_front name (codes "gone") e (ObjectWord L h.0 ⨾ CoversWords L h.0 h.1) ws h.2, h.3)

    dead_node : name ≡ codes "dead" → (ws : List Lexeme) (es : List Event) → Says L DeadNumber ws es → Says L Node (token terminals.Name name ∷ ws) es
    dead_node e ws es h = (nodes.DeadNode h.0, word_front name (codes "dead") e (NumberWord h.0) ws h.1, h.2)

    adds_node : (more : List Symbol) → Adds L (λ ws es. SayAll L (Node ∷ more) (token terminals.Name name ∷ ws) es) (node_by name more)
    adds_node more =
        let w = token terminals.Name name in
        let P : Piece = λ ws es. SayAll L (Node ∷ more) (w ∷ ws) es in
        adds_word L P name (codes "split") _ _ (λ e. put_front L SplitObject Node w more (split_node e))
        (adds_word L P name (codes "drop") _ _ (λ e. put_front L DropObject Node w more (drop_node e))
        (adds_word L P name (codes "raise") _ _ (λ e. put_front L (BoundObject From) Node w more (raise_node e))
        (adds_word L P name (codes "lower") _ _ (λ e. put_front L (BoundObject Upto) Node w more (lower_node e))
        (adds_word L P name (codes "gone") _ _ (λ e. put_front L GoneObject Node w more (gone_node e))
        (adds_word L P name (codes "dead") _ _ (λ e. put_front L DeadNumber Node w more (dead_node e)) tt)))))

  -- ---- a whole text

  says_text : (us : List Lexeme) → Perhaps (Word (codes "none")) us → (ws : List Lexeme) (es : List Event) → SayAll L (Node ∷ Qed ∷ []) ws es → Says L Text (us ++ ws) es
  says_text us none ws es m =
      let r = two L Node Qed ws es m in (
        r.front.0,
        record {
          first = us;
          second = ws;
          front = none;
          behind = record { first = r.us; second = r.vs; front = r.front.1; behind = r.behind.0; words = r.words };
          words = refl;
        },
        r.front.2 ∙ sym (r.events ∙ ap (λ (x : List Event). r.a ++ x) r.behind.1 ∙ append-nil r.a),
      )

  adds_text : (name : List ℕ) → Adds L (Behind L Text (token terminals.Name name)) (next L Text terminals.Name name)
  adds_text name =
      let w = token terminals.Name name in
      adds_word L (Behind L Text w) name (codes "none") _ _
      (λ e ws es m. says_text (w ∷ []) (there (record { token = w; is = (refl, e); words = refl })) ws es m)
      (adds_map (λ ws es. SayAll L (Node ∷ Qed ∷ []) (w ∷ ws) es) (Behind L Text w) (λ ws es m. says_text [] (not_there refl) (w ∷ ws) es m)
      (node_by name (Qed ∷ [])) (adds_node name (Qed ∷ [])))

  -- ---- covers

  adds_cover : (name : List ℕ) → Adds L (Behind L Cover (token terminals.Name name)) (cover_by name)
  adds_cover name =
      let P : Piece = Behind L Cover (token terminals.Name name) in
      adds_word L P name (codes "by") _ _ (λ e. adds_one L P ByNumber (λ ws es h. (Leaf h.0, word_front name (codes "by") e (NumberWord h.0) ws h.1, h.2)))
      (adds_word L P name (codes "cut") _ _ (λ e. adds_one L P (CutDimension Upto) (λ ws es h. (
        Fork (sides.Upto h.0 h.1) h.2.0 h.2.1,
        word_front name (codes "cut") e (DimensionWord L h.0 ⨾ IntWords h.1 ⨾ CoverWords L h.2.0 ⨾ CoverWords L h.2.1) ws h.2.2,
        h.2.3,
      )))
      (adds_word L P name (codes "from") _ _ (λ e. adds_one L P (CutDimension From) (λ ws es h. (
        Fork (sides.From h.0 h.1) h.2.0 h.2.1,
        word_front name (codes "from") e (DimensionWord L h.0 ⨾ IntWords h.1 ⨾ CoverWords L h.2.0 ⨾ CoverWords L h.2.1) ws h.2.2,
        h.2.3,
      ))) tt))

  module _ (o : ObjId) where
    -- a place with its cover, in front of the rest of a list
    place_cover : (w : Lexeme) (s : ℕ) → Fronts (λ R. PlaceWord L o.0 s ⨾ R) w → (ws : List Lexeme) (es : List Event) → SayAll L (Cover ∷ Covers o ∷ []) ws es
        → Says L (Covers o) (w ∷ ws) (events.Cover s ∷ es)
    place_cover w s fronts ws es m =
        let r = two L Cover (Covers o) ws es m in
        let t = r.front.0 in
        let list = r.behind.0 in
        let c : PlaceCover = record { place = s; tree = t } in
        let E = Each (PlaceCoverWords L o.0) list in
        let close = Mark terminals.Close in
        let same : events_of t ++ covers_events list ≡ es = cc (r.front.2, r.behind.2, r.events) in (
          c ∷ list,
          to_left (PlaceCoverWords L o.0 c) E close (w ∷ ws) (to_left (PlaceWord L o.0 s) (CoverWords L t) (E ⨾ close) (w ∷ ws)
              (fronts (CoverWords L t ⨾ E ⨾ close) ws (record { first = r.us; second = r.vs; front = r.front.1; behind = r.behind.1; words = r.words }))),
          ap (λ (x : List Event). events.Cover s ∷ x) (append_assoc (events_of t) (open_events list) (events.EndCovers ∷ []) ∙ same),
        )

    list_ends : (name : List ℕ) (ws : List Lexeme) (es : List Event) → (ws ≡ []) × (es ≡ []) → Says L (Covers o) (token terminals.Close name ∷ ws) (events.EndCovers ∷ es)
    list_ends name ws es m = (
      [],
      record { first = []; second = token terminals.Close name ∷ ws; front = refl; behind = mark_only terminals.Close name ws m.0; words = refl },
      ap (λ (x : List Event). events.EndCovers ∷ x) (sym m.1),
    )

    -- a bracket in front of a list of covers
    bound_covers : (name : List ℕ) (part : Part) (d : ℕ) (v : ℤ) (ws : List Lexeme) (es : List Event) → SayAll L (Covers o ∷ Node ∷ []) ws es
        → Says L (BoundCovers part o d v) (token terminals.Open name ∷ ws) (bound_at part o d v ∷ es)
    bound_covers name part d v ws es m =
        let w = token terminals.Open name in
        let r = two L (Covers o) Node ws es m in (
          r.front.0,
          r.behind.0,
          record {
            first = w ∷ r.us;
            second = r.vs;
            front = mark_front terminals.Open name (Each (PlaceCoverWords L o.0) r.front.0 ⨾ Mark terminals.Close) r.us r.front.1;
            behind = r.behind.1;
            words = ap (λ (x : List Lexeme). w ∷ x) r.words;
          },
          cc (r.front.2, r.behind.2, r.events),
        )

    gone_covers : (name : List ℕ) (ws : List Lexeme) (es : List Event) → SayAll L (Covers o ∷ []) ws es → Says L (GoneCovers o) (token terminals.Open name ∷ ws) (events.Gone o ∷ es)
    gone_covers name ws es m =
        let h = only L (Covers o) ws es m in (
          h.0,
          mark_front terminals.Open name (Each (PlaceCoverWords L o.0) h.0 ⨾ Mark terminals.Close) ws h.1,
          ap (λ (x : List Event). events.Gone o ∷ x) h.2,
        )

    -- ---- splits

    shape_half : (name : List ℕ) (ws : List Lexeme) (es : List Event) → Says L (SplitShape o) ws es → Says L (SplitBy o) (token terminals.Shape name ∷ ws) es
    shape_half name ws es h =
        let s = h.0 in
        let R = NodeWords L h.1.0 ⨾ NodeWords L h.1.1 in
        let w = token terminals.Shape name in (
          OfPlace s,
          (h.1.0, h.1.1, to_left (Mark terminals.Shape) (PlaceWord L o.0 s) R (w ∷ ws) (mark_front terminals.Shape name (PlaceWord L o.0 s ⨾ R) ws h.1.2), h.1.3),
        )

    side_words : (d n : ℕ) (name : List ℕ) → L.dimension n ≡ Some d → (P Q R : Words) (ws : List Lexeme) → (P ⨾ Q ⨾ R) ws → ((DimensionWord L d ⨾ P ⨾ Q) ⨾ R) (token (terminals.Number n) name ∷ ws)
    side_words d n name e P Q R ws h =
        to_left (DimensionWord L d) (P ⨾ Q) R (token (terminals.Number n) name ∷ ws) (dimension_front L d n name e ((P ⨾ Q) ⨾ R) ws (to_left P Q R ws h))

    side_half : (d n : ℕ) (name : List ℕ) → L.dimension n ≡ Some d → (ws : List Lexeme) (es : List Event) → Says L (SplitPart o d) ws es
        → Says L (SplitBy o) (token (terminals.Number n) name ∷ ws) es
    side_half d n name e ws es (Upto, v, t) = (
      OfSide (sides.Upto d v),
      (t.0, t.1, side_words d n name e (Word (codes "upto")) (IntWords v) (NodeWords L t.0 ⨾ NodeWords L t.1) ws t.2, t.3),
    )
    side_half d n name e ws es (From, v, t) = (
      OfSide (sides.From d v),
      (t.0, t.1, side_words d n name e (Word (codes "from")) (IntWords v) (NodeWords L t.0 ⨾ NodeWords L t.1) ws t.2, t.3),
    )

    adds_part : (d : ℕ) (name : List ℕ) → Adds L (Behind L (SplitPart o d) (token terminals.Name name)) (part_by o d name)
    adds_part d name =
        let P : Piece = Behind L (SplitPart o d) (token terminals.Name name) in
        adds_word L P name (codes "upto") _ _ (λ e. adds_one L P (SplitNumber Upto o d Plus) (λ ws es h. (
          Upto,
          h.0,
          (h.1.0, h.1.1, word_front name (codes "upto") e (IntWords h.0 ⨾ NodeWords L h.1.0 ⨾ NodeWords L h.1.1) ws h.1.2, h.1.3),
        )))
        (adds_word L P name (codes "from") _ _ (λ e. adds_one L P (SplitNumber From o d Plus) (λ ws es h. (
          From,
          h.0,
          (h.1.0, h.1.1, word_front name (codes "from") e (IntWords h.0 ⨾ NodeWords L h.1.0 ⨾ NodeWords L h.1.1) ws h.1.2, h.1.3),
        ))) tt)

-- ---- all steps

adds_next : (L : Lookup) (s : Symbol) (t : Terminal) (w : List ℕ) → Adds L (Behind L s (token t w)) (next L s t w)
adds_next L Text terminals.Name w = adds_text L w
adds_next L Node terminals.Name w =
    let x = token terminals.Name w in
    adds_map L (λ ws es. SayAll L (Node ∷ []) (x ∷ ws) es) (Behind L Node x) (λ ws es m. only L Node (x ∷ ws) es m) (node_by w []) (adds_node L w [])
adds_next L Qed terminals.Qed w = λ ws es m. (mark_only terminals.Qed w ws m.0, m.1)
adds_next L SplitObject terminals.Name w =
    let P : Piece = Behind L SplitObject (token terminals.Name w) in
    adds_known L P (L.object w) _ (λ o e. adds_one L P (SplitBy (an o)) (λ ws es h. (
      o,
      h.0,
      (h.1.0, h.1.1, object_front L o w e (HalfWords L o h.0 ⨾ NodeWords L h.1.0 ⨾ NodeWords L h.1.1) ws h.1.2, h.1.3),
    )))
adds_next L (SplitBy o) terminals.Shape w = adds_one L (Behind L (SplitBy o) (token terminals.Shape w)) (SplitShape o) (shape_half L o w)
adds_next L (SplitBy o) (terminals.Number n) w =
    let P : Piece = Behind L (SplitBy o) (token (terminals.Number n) w) in
    adds_known L P (L.dimension n) _ (λ d e. adds_one L P (SplitPart o d) (side_half L o d n w e))
adds_next L (SplitShape o) terminals.Name w =
    adds_known L (Behind L (SplitShape o) (token terminals.Name w)) (L.place o.0 w) _
    (λ s e ws es m. (s, two_nodes L (λ R. PlaceWord L o.0 s ⨾ R) (token terminals.Name w) (name_front L o.0 s w e) (events.SplitShape o s) ws es m))
adds_next L (SplitShape o) terminals.Absent w =
    adds_known L (Behind L (SplitShape o) (token terminals.Absent w)) (L.place o.0 (codes "absent")) _
    (λ s e ws es m. (s, two_nodes L (λ R. PlaceWord L o.0 s ⨾ R) (token terminals.Absent w) (absent_front L o.0 s w e) (events.SplitShape o s) ws es m))
adds_next L (SplitPart o d) terminals.Name w = adds_part L o d w
adds_next L (SplitNumber part o d Plus) terminals.Minus w =
    adds_one L (Behind L (SplitNumber part o d Plus) (token terminals.Minus w)) (SplitNumber part o d Minus)
    (λ ws es h. (h.0, (h.1.0, h.1.1, minus_front h.0 w (NodeWords L h.1.0 ⨾ NodeWords L h.1.1) ws h.1.2, h.1.3)))
adds_next L (SplitNumber part o d Plus) (terminals.Number n) w = λ ws es m.
    (signed Plus n, two_nodes L (λ R. SignedWords Plus (signed Plus n) ⨾ R) (token (terminals.Number n) w) (number_front Plus n w) (split_at part o d (signed Plus n)) ws es m)
adds_next L (SplitNumber part o d Minus) (terminals.Number n) w = λ ws es m.
    (signed Minus n, two_nodes L (λ R. SignedWords Minus (signed Minus n) ⨾ R) (token (terminals.Number n) w) (number_front Minus n w) (split_at part o d (signed Minus n)) ws es m)
adds_next L DropObject terminals.Name w =
    let P : Piece = Behind L DropObject (token terminals.Name w) in
    adds_known L P (L.object w) _ (λ o e. adds_one L P (DropShape (an o)) (λ ws es h. (
      o,
      h.0,
      (h.1.0, h.1.1, object_front L o w e (PlaceWord L o h.0 ⨾ CoverWords L h.1.0 ⨾ NodeWords L h.1.1) ws h.1.2, h.1.3),
    )))
adds_next L (DropShape o) terminals.Name w =
    adds_known L (Behind L (DropShape o) (token terminals.Name w)) (L.place o.0 w) _
    (λ s e ws es m. (s, cover_and_node L (λ R. PlaceWord L o.0 s ⨾ R) (token terminals.Name w) (name_front L o.0 s w e) (events.Drop o s) ws es m))
adds_next L (DropShape o) terminals.Absent w =
    adds_known L (Behind L (DropShape o) (token terminals.Absent w)) (L.place o.0 (codes "absent")) _
    (λ s e ws es m. (s, cover_and_node L (λ R. PlaceWord L o.0 s ⨾ R) (token terminals.Absent w) (absent_front L o.0 s w e) (events.Drop o s) ws es m))
adds_next L (BoundObject part) terminals.Name w =
    let P : Piece = Behind L (BoundObject part) (token terminals.Name w) in
    adds_known L P (L.object w) _ (λ o e. adds_one L P (BoundDimension part (an o)) (λ ws es h. (
      o,
      h.0,
      h.1,
      (h.2.0, h.2.1, object_front L o w e (DimensionWord L h.0 ⨾ IntWords h.1 ⨾ CoversWords L o h.2.0 ⨾ NodeWords L h.2.1) ws h.2.2, h.2.3),
    )))
adds_next L (BoundDimension part o) (terminals.Number n) w =
    let P : Piece = Behind L (BoundDimension part o) (token (terminals.Number n) w) in
    adds_known L P (L.dimension n) _ (λ d e. adds_one L P (BoundNumber part o d Plus) (λ ws es h. (
      d,
      h.0,
      (h.1.0, h.1.1, dimension_front L d n w e (IntWords h.0 ⨾ CoversWords L o.0 h.1.0 ⨾ NodeWords L h.1.1) ws h.1.2, h.1.3),
    )))
adds_next L (BoundNumber part o d Plus) terminals.Minus w =
    adds_one L (Behind L (BoundNumber part o d Plus) (token terminals.Minus w)) (BoundNumber part o d Minus)
    (λ ws es h. (h.0, (h.1.0, h.1.1, minus_front h.0 w (CoversWords L o.0 h.1.0 ⨾ NodeWords L h.1.1) ws h.1.2, h.1.3)))
adds_next L (BoundNumber part o d Plus) (terminals.Number n) w =
    adds_one L (Behind L (BoundNumber part o d Plus) (token (terminals.Number n) w)) (BoundCovers part o d (signed Plus n))
    (λ ws es h. (signed Plus n, (h.0, h.1, number_front Plus n w (CoversWords L o.0 h.0 ⨾ NodeWords L h.1) ws h.2, h.3)))
adds_next L (BoundNumber part o d Minus) (terminals.Number n) w =
    adds_one L (Behind L (BoundNumber part o d Minus) (token (terminals.Number n) w)) (BoundCovers part o d (signed Minus n))
    (λ ws es h. (signed Minus n, (h.0, h.1, number_front Minus n w (CoversWords L o.0 h.0 ⨾ NodeWords L h.1) ws h.2, h.3)))
adds_next L (BoundCovers part o d v) terminals.Open w = bound_covers L o w part d v
adds_next L GoneObject terminals.Name w =
    let P : Piece = Behind L GoneObject (token terminals.Name w) in
    adds_known L P (L.object w) _ (λ o e. adds_one L P (GoneCovers (an o)) (λ ws es h. (o, h.0, object_front L o w e (CoversWords L o h.0) ws h.1, h.2)))
adds_next L (GoneCovers o) terminals.Open w = gone_covers L o w
adds_next L DeadNumber (terminals.Number i) w = λ ws es m. (i, mark_only (terminals.Number i) w ws m.0, ap (λ (x : List Event). events.Dead i ∷ x) (sym m.1))
adds_next L (Covers o) terminals.Name w =
    adds_known L (Behind L (Covers o) (token terminals.Name w)) (L.place o.0 w) _ (λ s e. place_cover L o (token terminals.Name w) s (name_front L o.0 s w e))
adds_next L (Covers o) terminals.Absent w =
    adds_known L (Behind L (Covers o) (token terminals.Absent w)) (L.place o.0 (codes "absent")) _
    (λ s e. place_cover L o (token terminals.Absent w) s (absent_front L o.0 s w e))
adds_next L (Covers o) terminals.Close w = list_ends L o w
adds_next L Cover terminals.Name w = adds_cover L w
adds_next L ByNumber (terminals.Number i) w = λ ws es m. (i, mark_only (terminals.Number i) w ws m.0, ap (λ (x : List Event). events.By i ∷ x) (sym m.1))
adds_next L (CutDimension part) (terminals.Number n) w =
    let P : Piece = Behind L (CutDimension part) (token (terminals.Number n) w) in
    adds_known L P (L.dimension n) _ (λ d e. adds_one L P (CutNumber part d Plus) (λ ws es h. (
      d,
      h.0,
      (h.1.0, h.1.1, dimension_front L d n w e (IntWords h.0 ⨾ CoverWords L h.1.0 ⨾ CoverWords L h.1.1) ws h.1.2, h.1.3),
    )))
adds_next L (CutNumber part d Plus) terminals.Minus w =
    adds_one L (Behind L (CutNumber part d Plus) (token terminals.Minus w)) (CutNumber part d Minus)
    (λ ws es h. (h.0, (h.1.0, h.1.1, minus_front h.0 w (CoverWords L h.1.0 ⨾ CoverWords L h.1.1) ws h.1.2, h.1.3)))
adds_next L (CutNumber part d Plus) (terminals.Number n) w = λ ws es m.
    (signed Plus n, two_covers L (λ R. SignedWords Plus (signed Plus n) ⨾ R) (token (terminals.Number n) w) (number_front Plus n w) (cut_at part d (signed Plus n)) ws es m)
adds_next L (CutNumber part d Minus) (terminals.Number n) w = λ ws es m.
    (signed Minus n, two_covers L (λ R. SignedWords Minus (signed Minus n) ⨾ R) (token (terminals.Number n) w) (number_front Minus n w) (cut_at part d (signed Minus n)) ws es m)
adds_next L s t w = tt

adds_at : (L : Lookup) (s : Symbol) (w : Lexeme) (x : Next) → at L s w ≡ x → Adds L (Behind L s w) x
adds_at L s w x e = subst (Adds L (Behind L s w)) e (adds_next L s w.is w.name)

-- tokens that take symbols away say these
says_all : (L : Lookup) (ss : List Symbol) (ws : List Lexeme) (es : List Event) → Leaves L [] ss ws es → SayAll L ss ws es
says_all L ss ws es (here _ _ _ a b c) = subst (λ (x : List Symbol). SayAll L x ws es) (sym a) (b, c)
says_all L ss ws es (on s w more ts ds us _ vs a d e) =
    let r = say_both L more ts vs us (says_all L (more ++ ts) vs us d) in
    record {
      us = w ∷ r.us;
      vs = r.vs;
      a = ds ++ r.a;
      b = r.b;
      front = adds_at L s w (Goes more ds) a r.us r.a r.front;
      behind = r.behind;
      words = ap (λ (x : List Lexeme). w ∷ x) r.words;
      events = e ∙ ap (λ (x : List Event). ds ++ x) r.events ∙ sym (append_assoc ds r.a r.b);
    }

-- a whole text is a text of the grammar
pub spells_text : (L : Lookup) (ws : List Lexeme) (es : List Event) → Spells L ws es → IsTextOf L ws es
spells_text L ws es d = (let h = only L Text ws es (says_all L (Text ∷ []) ws es d) in record { root = h.0; words = h.1; events = h.2 })

-- so its events are those of a tree
pub spells_tree : (L : Lookup) (ws : List Lexeme) (es : List Event) → Spells L ws es → (root : nodes.Node) × (nodes.node_events root ≡ es)
spells_tree L ws es d = let h = spells_text L ws es d in (h.root, h.events)

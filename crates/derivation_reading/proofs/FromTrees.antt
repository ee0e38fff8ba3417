-- A text of the grammar is read by the table: the tokens of a tree take its symbol away, whatever stands behind it.
use Rattle.std.proofs.Common.{◌≡◌, ℕ, ℤ, Bool, true, false, List, [], ◌∷◌, ◌++◌, Option, Some, if◌then◌else◌, inl, inr, refl, sym, ap, ◌∙◌, append_assoc, subst}
use Rattle.std.specs.Prelude.{codes}
use Rattle.std.specs.Str.{bytes_eq}
use Rattle.std.proofs.lemmas.Bool.{cases_Bool}
use Rattle.std.proofs.lemmas.List.{append-nil}
use Rattle.std.proofs.lemmas.Slice.Eq.{bytes_eq-Decides}
use Rattle.geo_conditions.specs.declared.object.ObjId.{ObjId}
use Rattle.derivation.specs.declared.event.Event.{Event}
use Rattle.derivation.specs.declared.event.Event.TheVariants as events
use Rattle.derivation.specs.declared.side.Side.TheVariants as sides
use Rattle.derivation.specs.declared.half.Half.{Half}
use Rattle.derivation.specs.declared.half.Half.TheVariants.{OfPlace, OfSide}
use Rattle.derivation.specs.Covers.{CoverTree, Leaf, Fork, events_of}
use Rattle.derivation.specs.PlaceCovers.{PlaceCover, open_events, covers_events}
use Rattle.derivation.specs.Nodes as nodes
use Rattle.derivation.specs.Nodes.{split_event, node_events}
use Rattle.derivation_reading.specs.declared.symbol.Part.{Part}
use Rattle.derivation_reading.specs.declared.symbol.Part.TheVariants.{Upto, From}
use Rattle.derivation_reading.specs.declared.symbol.Sign.{Sign}
use Rattle.derivation_reading.specs.declared.symbol.Sign.TheVariants.{Plus, Minus}
use Rattle.derivation_reading.specs.declared.symbol.Symbol.{Symbol}
use Rattle.derivation_reading.specs.declared.symbol.Symbol.TheVariants.{Text, Node, Qed, SplitObject, SplitBy, SplitShape, SplitPart, SplitNumber, DropObject, DropShape, BoundObject, BoundDimension, BoundNumber, BoundCovers, GoneObject, GoneCovers, DeadNumber, Covers, Cover, ByNumber, CutDimension, CutNumber}
use Rattle.derivation_reading.specs.declared.symbol.Terminal.{Terminal}
use Rattle.derivation_reading.specs.declared.symbol.Terminal.TheVariants as terminals
use Rattle.derivation_reading.specs.Terminals.{Lexeme}
use Rattle.derivation_reading.specs.Grammar.{Lookup, Next, Wrong, Goes, goes, gives, known, an, signed, split_at, bound_at, cut_at, node_by, text_by, next, at}
use Rattle.derivation_reading.specs.Machine.{Leaves, on, Spells}
use Rattle.derivation_reading.specs.Language.{Words, One, ◌⨾◌, Perhaps, there, not_there, Each, Mark, IsWord, Word, IsObject, ObjectWord, IsPlaceOf, named, absent, PlaceWord, IsDimension, DimensionWord, NumberWord, IntWords, plain, negative, CoverWords, PlaceCoverWords, CoversWords, HalfWords, NodeWords, IsTextOf}
use Rattle.derivation_reading.proofs.Languages.{part_word, to_right}
use Rattle.derivation_reading.proofs.Steps.{none_taken, first_step, joined, alone}

-- ---- steps

module _ (L : Lookup) where
  -- what the table says of this terminal and name, it says of the token
  at_as : (s : Symbol) (w : Lexeme) (t : Terminal) (name : List ℕ) (x : Next) → w.is ≡ t → w.name ≡ name → next L s t name ≡ x → at L s w ≡ x
  at_as s w t name x e f g = ap (λ (y : Terminal). next L s y w.name) e ∙ ap (λ (y : List ℕ). next L s t y) f ∙ g

  at_mark : (s : Symbol) (w : Lexeme) (t : Terminal) (x : Next) → w.is ≡ t → next L s t w.name ≡ x → at L s w ≡ x
  at_mark s w t x e g = at_as s w t w.name x e refl g

  at_word : (s : Symbol) (word : List ℕ) (x : Next) → next L s terminals.Name word ≡ x → (w : Lexeme) → IsWord word w → at L s w ≡ x
  at_word s word x g w h = at_as s w terminals.Name word x h.0 h.1 g

  known_is : (o : Option ℕ) (i : ℕ) (f : ℕ → Next) → o ≡ Some i → known o f ≡ f i
  known_is o i f e = ap (λ (x : Option ℕ). known x f) e

  module _ (left : List Symbol) where
    -- a token in front, which makes of a symbol what takes the rest
    take : (P : Lexeme → Type 0) (X : Words) (s : Symbol) (more ss : List Symbol) (ds es : List Event) → ((w : Lexeme) → P w → at L s w ≡ Goes more ds)
        → ((vs : List Lexeme) → X vs → Leaves L left (more ++ ss) vs es) → (ws : List Lexeme) → (One P ⨾ X) ws → Leaves L left (s ∷ ss) ws (ds ++ es)
    take P X s more ss ds es step rest ws h =
        let w = h.front.token in
        subst (λ (x : List Lexeme). Leaves L left (s ∷ ss) x (ds ++ es)) (sym (h.words ∙ ap (λ (x : List Lexeme). x ++ h.second) h.front.words))
        (on s w more ss ds es (ds ++ es) h.second (step w h.front.is) (rest h.second h.behind) refl)

    -- a part that takes its symbol away, and then the rest
    behind : (P Q : Words) (s : Symbol) (ss : List Symbol) (a b : List Event) → ((us : List Lexeme) → P us → Leaves L ss (s ∷ ss) us a)
        → ((vs : List Lexeme) → Q vs → Leaves L left ss vs b) → (ws : List Lexeme) → (P ⨾ Q) ws → Leaves L left (s ∷ ss) ws (a ++ b)
    behind P Q s ss a b f g ws h =
        subst (λ (x : List Lexeme). Leaves L left (s ∷ ss) x (a ++ b)) (sym h.words) (joined h.first h.second a b (f h.first h.front) (g h.second h.behind))

    -- an integer in front, with the symbols before and behind a minus
    module _ (X : Words) (number : Sign → Symbol) (more : ℤ → List Symbol) (ds : ℤ → List Event) (ss : List Symbol)
        (to_minus : (w : Lexeme) → w.is ≡ terminals.Minus → at L (number Plus) w ≡ goes (number Minus ∷ []))
        (to_value : (sign : Sign) (n : ℕ) (w : Lexeme) → w.is ≡ terminals.Number n → at L (number sign) w ≡ Goes (more (signed sign n)) (ds (signed sign n))) where
      value_taken : (sign : Sign) (n : ℕ) (v : ℤ) (es : List Event) → v ≡ signed sign n → ((vs : List Lexeme) → X vs → Leaves L left (more v ++ ss) vs es) → (ws : List Lexeme)
          → (NumberWord n ⨾ X) ws → Leaves L left (number sign ∷ ss) ws (ds v ++ es)
      value_taken sign n v es e rest ws h =
          take (λ w. w.is ≡ terminals.Number n) X (number sign) (more v) ss (ds v) es
          (λ w is. subst (λ (x : ℤ). at L (number sign) w ≡ Goes (more x) (ds x)) (sym e) (to_value sign n w is)) rest ws h

      int_taken : (v : ℤ) (es : List Event) → ((vs : List Lexeme) → X vs → Leaves L left (more v ++ ss) vs es) → (us vs ws : List Lexeme) → IntWords v us → X vs → ws ≡ us ++ vs
          → Leaves L left (number Plus ∷ ss) ws (ds v ++ es)
      int_taken v es rest us vs ws (plain n e h) x words = value_taken Plus n v es e rest ws (record { first = us; second = vs; front = h; behind = x; words = words })
      int_taken v es rest us vs ws (negative n e h) x words =
          take (λ w. w.is ≡ terminals.Minus) (NumberWord n ⨾ X) (number Plus) (number Minus ∷ []) ss [] (ds v ++ es) to_minus (value_taken Minus n v es e rest) ws
          (to_right (Mark terminals.Minus) (NumberWord n) X ws (record { first = us; second = vs; front = h; behind = x; words = words }))

      take_int : (v : ℤ) (es : List Event) → ((vs : List Lexeme) → X vs → Leaves L left (more v ++ ss) vs es) → (ws : List Lexeme) → (IntWords v ⨾ X) ws
          → Leaves L left (number Plus ∷ ss) ws (ds v ++ es)
      take_int v es rest ws h = int_taken v es rest h.first h.second ws h.front h.behind h.words

  -- one token alone
  take_one : (P : Lexeme → Type 0) (s : Symbol) (ss : List Symbol) (ds : List Event) → ((w : Lexeme) → P w → at L s w ≡ Goes [] ds) → (ws : List Lexeme) → One P ws → Leaves L ss (s ∷ ss) ws ds
  take_one P s ss ds step ws h = subst (λ (x : List Lexeme). Leaves L ss (s ∷ ss) x ds) (sym h.words) (alone s h.token (step h.token h.is))

-- ---- parts of a tree

-- the words take the symbol away, with these events, whatever stands behind it
abbrev Takes : Lookup → Words → Symbol → List Event → Type 0
Takes L P s es = (ss : List Symbol) (ws : List Lexeme) → P ws → Leaves L ss (s ∷ ss) ws es

module _ (L : Lookup) where
  number_taken : (i : ℕ) (s : Symbol) (e : Event) → ((name : List ℕ) → next L s (terminals.Number i) name ≡ gives e []) → Takes L (NumberWord i) s (e ∷ [])
  number_taken i s e g ss = take_one L (λ w. w.is ≡ terminals.Number i) s ss (e ∷ []) (λ w h. at_mark L s w (terminals.Number i) (gives e []) h (g w.name))

  fork_taken : (part : Part) (d : ℕ) (v : ℤ) (a b : CoverTree) → Takes L (CoverWords L a) Cover (events_of a) → Takes L (CoverWords L b) Cover (events_of b)
      → Takes L (DimensionWord L d ⨾ IntWords v ⨾ CoverWords L a ⨾ CoverWords L b) (CutDimension part) (cut_at part d v ∷ (events_of a ++ events_of b))
  fork_taken part d v a b f g ss =
      let es = events_of a ++ events_of b in
      let X = CoverWords L a ⨾ CoverWords L b in
      take L ss (IsDimension L d) (IntWords v ⨾ X) (CutDimension part) (CutNumber part d Plus ∷ []) ss [] (cut_at part d v ∷ es)
      (λ w h. at_mark L (CutDimension part) w (terminals.Number h.0) _ h.1 (known_is L (L.dimension h.0) d (λ d. goes (CutNumber part d Plus ∷ [])) h.2))
      (take_int L ss X (CutNumber part d) (λ v. Cover ∷ Cover ∷ []) (λ v. cut_at part d v ∷ []) ss
      (λ w h. at_mark L (CutNumber part d Plus) w terminals.Minus _ h refl) (cut_number part d) v es
      (behind L ss (CoverWords L a) (CoverWords L b) Cover (Cover ∷ ss) (events_of a) (events_of b) (f (Cover ∷ ss)) (g ss)))
    where
      cut_number : (part : Part) (d : ℕ) (sign : Sign) (n : ℕ) (w : Lexeme) → w.is ≡ terminals.Number n
          → at L (CutNumber part d sign) w ≡ Goes (Cover ∷ Cover ∷ []) (cut_at part d (signed sign n) ∷ [])
      cut_number part d Plus n w h = at_mark L (CutNumber part d Plus) w (terminals.Number n) _ h refl
      cut_number part d Minus n w h = at_mark L (CutNumber part d Minus) w (terminals.Number n) _ h refl

  cover_taken : (t : CoverTree) → Takes L (CoverWords L t) Cover (events_of t)
  cover_taken (Leaf i) ss =
      take L ss (IsWord (codes "by")) (NumberWord i) Cover (ByNumber ∷ []) ss [] (events.By i ∷ []) (at_word L Cover (codes "by") _ refl)
      (number_taken i ByNumber (events.By i) (λ name. refl) ss)
  cover_taken (Fork (sides.Upto d v) a b) ss =
      take L ss (IsWord (codes "cut")) (DimensionWord L d ⨾ IntWords v ⨾ CoverWords L a ⨾ CoverWords L b) Cover (CutDimension Upto ∷ []) ss []
      (events.Cut d v ∷ (events_of a ++ events_of b)) (at_word L Cover (codes "cut") _ refl) (fork_taken Upto d v a b (cover_taken a) (cover_taken b) ss)
  cover_taken (Fork (sides.From d v) a b) ss =
      take L ss (IsWord (codes "from")) (DimensionWord L d ⨾ IntWords v ⨾ CoverWords L a ⨾ CoverWords L b) Cover (CutDimension From ∷ []) ss []
      (events.CutFrom d v ∷ (events_of a ++ events_of b)) (at_word L Cover (codes "from") _ refl) (fork_taken From d v a b (cover_taken a) (cover_taken b) ss)

  -- a place by its name or by the word `absent`
  at_place : (s : Symbol) (o p : ℕ) (f : ℕ → Next) → ((name : List ℕ) → next L s terminals.Name name ≡ known (L.place o name) f)
      → ((name : List ℕ) → next L s terminals.Absent name ≡ known (L.place o (codes "absent")) f) → (w : Lexeme) → IsPlaceOf L o p w → at L s w ≡ f p
  at_place s o p f g k w (named e h) = at_mark L s w terminals.Name (f p) e (g w.name ∙ known_is L (L.place o w.name) p f h)
  at_place s o p f g k w (absent e h) = at_mark L s w terminals.Absent (f p) e (k w.name ∙ known_is L (L.place o (codes "absent")) p f h)

  at_object : (s : Symbol) (o : ℕ) (f : ℕ → Next) → ((name : List ℕ) → next L s terminals.Name name ≡ known (L.object name) f) → (w : Lexeme) → IsObject L o w → at L s w ≡ f o
  at_object s o f g w h = at_mark L s w terminals.Name (f o) h.0 (g w.name ∙ known_is L (L.object w.name) o f h.1)

  at_dimension : (s : Symbol) (d : ℕ) (f : ℕ → Next) → ((n : ℕ) (name : List ℕ) → next L s (terminals.Number n) name ≡ known (L.dimension n) f) → (w : Lexeme) → IsDimension L d w → at L s w ≡ f d
  at_dimension s d f g w h = at_mark L s w (terminals.Number h.0) (f d) h.1 (g h.0 w.name ∙ known_is L (L.dimension h.0) d f h.2)

  -- what stands in the brackets
  list_taken : (o : ObjId) (list : List PlaceCover) → Takes L (Each (PlaceCoverWords L o.0) list ⨾ Mark terminals.Close) (Covers o) (covers_events list)
  list_taken o [] ss ws h =
      subst (λ (x : List Lexeme). Leaves L ss (Covers o ∷ ss) x (events.EndCovers ∷ [])) (sym (h.words ∙ ap (λ (x : List Lexeme). x ++ h.second) h.front))
      (take_one L (λ w. w.is ≡ terminals.Close) (Covers o) ss (events.EndCovers ∷ []) (λ w e. at_mark L (Covers o) w terminals.Close _ e refl) h.second h.behind)
  list_taken o (c ∷ more) ss ws h =
      let E = Each (PlaceCoverWords L o.0) more in
      let close = Mark terminals.Close in
      let C = CoverWords L c.tree in
      let es = events_of c.tree ++ covers_events more in
      let r = to_right (PlaceWord L o.0 c.place) C (E ⨾ close) ws (to_right (PlaceCoverWords L o.0 c) E close ws h) in
      subst (λ (x : List Event). Leaves L ss (Covers o ∷ ss) ws (events.Cover c.place ∷ x)) (sym (append_assoc (events_of c.tree) (open_events more) (events.EndCovers ∷ [])))
      (take L ss (IsPlaceOf L o.0 c.place) (C ⨾ E ⨾ close) (Covers o) (Cover ∷ Covers o ∷ []) ss (events.Cover c.place ∷ []) es
      (at_place (Covers o) o.0 c.place (λ s. gives (events.Cover s) (Cover ∷ Covers o ∷ [])) (λ name. refl) (λ name. refl))
      (behind L ss C (E ⨾ close) Cover (Covers o ∷ ss) (events_of c.tree) (covers_events more) (cover_taken c.tree (Covers o ∷ ss)) (list_taken o more ss)) ws r)

  -- ---- nodes

  -- a node behind its first word
  module _ (o : ObjId) (X : Words) (es : List Event) (ss : List Symbol) (rest : (vs : List Lexeme) → X vs → Leaves L ss (Node ∷ Node ∷ ss) vs es) where
    split_number : (part : Part) (d : ℕ) (sign : Sign) (n : ℕ) (w : Lexeme) → w.is ≡ terminals.Number n
        → at L (SplitNumber part o d sign) w ≡ Goes (Node ∷ Node ∷ []) (split_at part o d (signed sign n) ∷ [])
    split_number part d Plus n w h = at_mark L (SplitNumber part o d Plus) w (terminals.Number n) _ h refl
    split_number part d Minus n w h = at_mark L (SplitNumber part o d Minus) w (terminals.Number n) _ h refl

    part_step : (part : Part) (d : ℕ) → next L (SplitPart o d) terminals.Name (part_word part) ≡ goes (SplitNumber part o d Plus ∷ [])
    part_step Upto d = refl
    part_step From d = refl

    side_taken : (part : Part) (d : ℕ) (v : ℤ) (ws : List Lexeme) → ((DimensionWord L d ⨾ Word (part_word part) ⨾ IntWords v) ⨾ X) ws
        → Leaves L ss (SplitBy o ∷ ss) ws (split_at part o d v ∷ es)
    side_taken part d v ws h =
        let W = Word (part_word part) in
        let e = split_at part o d v in
        take L ss (IsDimension L d) ((W ⨾ IntWords v) ⨾ X) (SplitBy o) (SplitPart o d ∷ []) ss [] (e ∷ es)
        (at_dimension (SplitBy o) d (λ d. goes (SplitPart o d ∷ [])) (λ n name. refl))
        (λ vs k. take L ss (IsWord (part_word part)) (IntWords v ⨾ X) (SplitPart o d) (SplitNumber part o d Plus ∷ []) ss [] (e ∷ es)
        (at_word L (SplitPart o d) (part_word part) _ (part_step part d))
        (take_int L ss X (SplitNumber part o d) (λ v. Node ∷ Node ∷ []) (λ v. split_at part o d v ∷ []) ss
        (λ w m. at_mark L (SplitNumber part o d Plus) w terminals.Minus _ m refl) (split_number part d) v es rest) vs
        (to_right W (IntWords v) X vs k)) ws (to_right (DimensionWord L d) (W ⨾ IntWords v) X ws h)

    half_taken : (half : Half) (ws : List Lexeme) → (HalfWords L o.0 half ⨾ X) ws → Leaves L ss (SplitBy o ∷ ss) ws (split_event o.0 half ∷ es)
    half_taken (OfPlace s) ws h =
        take L ss (λ w. w.is ≡ terminals.Shape) (PlaceWord L o.0 s ⨾ X) (SplitBy o) (SplitShape o ∷ []) ss [] (events.SplitShape o s ∷ es)
        (λ w m. at_mark L (SplitBy o) w terminals.Shape _ m refl)
        (take L ss (IsPlaceOf L o.0 s) X (SplitShape o) (Node ∷ Node ∷ []) ss (events.SplitShape o s ∷ []) es
        (at_place (SplitShape o) o.0 s (λ s. gives (events.SplitShape o s) (Node ∷ Node ∷ [])) (λ name. refl) (λ name. refl)) rest) ws
        (to_right (Mark terminals.Shape) (PlaceWord L o.0 s) X ws h)
    half_taken (OfSide (sides.Upto d v)) ws h = side_taken Upto d v ws h
    half_taken (OfSide (sides.From d v)) ws h = side_taken From d v ws h

  module _ (part : Part) (o d : ℕ) (v : ℤ) (list : List PlaceCover) (n : nodes.Node) (node : Takes L (NodeWords L n) Node (node_events n)) (ss : List Symbol) where
    bound_number : (sign : Sign) (i : ℕ) (w : Lexeme) → w.is ≡ terminals.Number i
        → at L (BoundNumber part (an o) d sign) w ≡ Goes (BoundCovers part (an o) d (signed sign i) ∷ []) []
    bound_number Plus i w h = at_mark L (BoundNumber part (an o) d Plus) w (terminals.Number i) _ h refl
    bound_number Minus i w h = at_mark L (BoundNumber part (an o) d Minus) w (terminals.Number i) _ h refl

    bound_covered : (ws : List Lexeme) → (CoversWords L o list ⨾ NodeWords L n) ws
        → Leaves L ss (BoundCovers part (an o) d v ∷ ss) ws (bound_at part (an o) d v ∷ (covers_events list ++ node_events n))
    bound_covered ws h =
        let C = Each (PlaceCoverWords L o) list ⨾ Mark terminals.Close in
        take L ss (λ w. w.is ≡ terminals.Open) (C ⨾ NodeWords L n) (BoundCovers part (an o) d v) (Covers (an o) ∷ Node ∷ []) ss (bound_at part (an o) d v ∷ [])
        (covers_events list ++ node_events n) (λ w m. at_mark L (BoundCovers part (an o) d v) w terminals.Open _ m refl)
        (behind L ss C (NodeWords L n) (Covers (an o)) (Node ∷ ss) (covers_events list) (node_events n) (list_taken (an o) list (Node ∷ ss)) (node ss)) ws
        (to_right (Mark terminals.Open) C (NodeWords L n) ws h)

    bound_taken : (ws : List Lexeme) → (ObjectWord L o ⨾ DimensionWord L d ⨾ IntWords v ⨾ CoversWords L o list ⨾ NodeWords L n) ws
        → Leaves L ss (BoundObject part ∷ ss) ws (bound_at part (an o) d v ∷ (covers_events list ++ node_events n))
    bound_taken =
        let X = CoversWords L o list ⨾ NodeWords L n in
        let es = bound_at part (an o) d v ∷ (covers_events list ++ node_events n) in
        take L ss (IsObject L o) (DimensionWord L d ⨾ IntWords v ⨾ X) (BoundObject part) (BoundDimension part (an o) ∷ []) ss [] es
        (at_object (BoundObject part) o (λ o. goes (BoundDimension part (an o) ∷ [])) (λ name. refl))
        (take L ss (IsDimension L d) (IntWords v ⨾ X) (BoundDimension part (an o)) (BoundNumber part (an o) d Plus ∷ []) ss [] es
        (at_dimension (BoundDimension part (an o)) d (λ d. goes (BoundNumber part (an o) d Plus ∷ [])) (λ n name. refl))
        (take_int L ss X (BoundNumber part (an o) d) (λ v. BoundCovers part (an o) d v ∷ []) (λ v. []) ss
        (λ w m. at_mark L (BoundNumber part (an o) d Plus) w terminals.Minus _ m refl) bound_number v es bound_covered))

  node_taken : (n : nodes.Node) → Takes L (NodeWords L n) Node (node_events n)
  node_taken (nodes.Split o half a b) ss =
      let X = NodeWords L a ⨾ NodeWords L b in
      let es = node_events a ++ node_events b in
      let both = behind L ss (NodeWords L a) (NodeWords L b) Node (Node ∷ ss) (node_events a) (node_events b) (node_taken a (Node ∷ ss)) (node_taken b ss) in
      take L ss (IsWord (codes "split")) (ObjectWord L o ⨾ HalfWords L o half ⨾ X) Node (SplitObject ∷ []) ss [] (split_event o half ∷ es) (at_word L Node (codes "split") _ refl)
      (take L ss (IsObject L o) (HalfWords L o half ⨾ X) SplitObject (SplitBy (an o) ∷ []) ss [] (split_event o half ∷ es)
      (at_object SplitObject o (λ o. goes (SplitBy (an o) ∷ [])) (λ name. refl)) (half_taken (an o) X es ss both half))
  node_taken (nodes.DropNode o s tree rest) ss =
      let X = CoverWords L tree ⨾ NodeWords L rest in
      let es = events_of tree ++ node_events rest in
      take L ss (IsWord (codes "drop")) (ObjectWord L o ⨾ PlaceWord L o s ⨾ X) Node (DropObject ∷ []) ss [] (events.Drop (an o) s ∷ es) (at_word L Node (codes "drop") _ refl)
      (take L ss (IsObject L o) (PlaceWord L o s ⨾ X) DropObject (DropShape (an o) ∷ []) ss [] (events.Drop (an o) s ∷ es)
      (at_object DropObject o (λ o. goes (DropShape (an o) ∷ [])) (λ name. refl))
      (take L ss (IsPlaceOf L o s) X (DropShape (an o)) (Cover ∷ Node ∷ []) ss (events.Drop (an o) s ∷ []) es
      (at_place (DropShape (an o)) o s (λ s. gives (events.Drop (an o) s) (Cover ∷ Node ∷ [])) (λ name. refl) (λ name. refl))
      (behind L ss (CoverWords L tree) (NodeWords L rest) Cover (Node ∷ ss) (events_of tree) (node_events rest) (cover_taken tree (Node ∷ ss)) (node_taken rest ss))))
  node_taken (nodes.Bound o (sides.From d v) list rest) ss =
      take L ss (IsWord (codes "raise")) (ObjectWord L o ⨾ DimensionWord L d ⨾ IntWords v ⨾ CoversWords L o list ⨾ NodeWords L rest) Node (BoundObject From ∷ []) ss []
      (events.Raise (an o) d v ∷ (covers_events list ++ node_events rest)) (at_word L Node (codes "raise") _ refl) (bound_taken From o d v list rest (node_taken rest) ss)
  node_taken (nodes.Bound o (sides.Upto d v) list rest) ss =
      take L ss (IsWord (codes "lower")) (ObjectWord L o ⨾ DimensionWord L d ⨾ IntWords v ⨾ CoversWords L o list ⨾ NodeWords L rest) Node (BoundObject Upto ∷ []) ss []
      (events.Lower (an o) d v ∷ (covers_events list ++ node_events rest)) (at_word L Node (codes "lower") _ refl) (bound_taken Upto o d v list rest (node_taken rest) ss)
  node_taken (nodes.GoneNode o list) ss =
      let C = Each (PlaceCoverWords L o) list ⨾ Mark terminals.Close in
      let es = events.Gone (an o) ∷ covers_events list in
      take L ss (IsWord (codes "gone")) (ObjectWord L o ⨾ CoversWords L o list) Node (GoneObject ∷ []) ss [] es (at_word L Node (codes "gone") _ refl)
      (take L ss (IsObject L o) (CoversWords L o list) GoneObject (GoneCovers (an o) ∷ []) ss [] es (at_object GoneObject o (λ o. goes (GoneCovers (an o) ∷ [])) (λ name. refl))
      (take L ss (λ w. w.is ≡ terminals.Open) C (GoneCovers (an o)) (Covers (an o) ∷ []) ss (events.Gone (an o) ∷ []) (covers_events list)
      (λ w m. at_mark L (GoneCovers (an o)) w terminals.Open _ m refl) (list_taken (an o) list ss)))
  node_taken (nodes.DeadNode i) ss =
      take L ss (IsWord (codes "dead")) (NumberWord i) Node (DeadNumber ∷ []) ss [] (events.Dead i ∷ []) (at_word L Node (codes "dead") _ refl)
      (number_taken i DeadNumber (events.Dead i) (λ name. refl) ss)

-- ---- a whole text

-- The second goes on as the first does, with the word `qed` wanted behind that.
abbrev WithQed : Next → Next → Type 0
WithQed x y = (more : List Symbol) (ds : List Event) → x ≡ Goes more ds → y ≡ Goes (more ++ Qed ∷ []) ds

qed_if : (b : Bool) (x y z u : Next) → WithQed x z → WithQed y u → WithQed (if b then x else y) (if b then z else u)
qed_if true x y z u f g = f
qed_if false x y z u f g = g

qed_goes : (s : Symbol) → WithQed (goes (s ∷ [])) (goes (s ∷ Qed ∷ []))
qed_goes s more ds e =
    let same : s ∷ [] ≡ more = cc in
    let none : [] ≡ ds = cc in
    ap (λ (ss : List Symbol). Goes (ss ++ Qed ∷ []) []) same ∙ ap (λ (es : List Event). Goes (more ++ Qed ∷ []) es) none

qed_wrong : (y : Next) → WithQed Wrong y
qed_wrong y more ds e = absurd cc

qed_node : (w : List ℕ) → WithQed (node_by w []) (node_by w (Qed ∷ []))
qed_node w =
    qed_if (bytes_eq w (codes "split")) _ _ _ _ (qed_goes SplitObject) (qed_if (bytes_eq w (codes "drop")) _ _ _ _ (qed_goes DropObject)
    (qed_if (bytes_eq w (codes "raise")) _ _ _ _ (qed_goes (BoundObject From)) (qed_if (bytes_eq w (codes "lower")) _ _ _ _ (qed_goes (BoundObject Upto))
    (qed_if (bytes_eq w (codes "gone")) _ _ _ _ (qed_goes GoneObject) (qed_if (bytes_eq w (codes "dead")) _ _ _ _ (qed_goes DeadNumber) (qed_wrong Wrong))))))

-- the word `none` begins no node
qed_text : (w : List ℕ) → WithQed (node_by w []) (text_by w)
qed_text w = elim (cases_Bool (bytes_eq w (codes "none"))) [
  | inl e ↦ subst (λ (v : List ℕ). WithQed (node_by v []) (text_by v)) (sym ((bytes_eq-Decides w (codes "none")).0 e)) (qed_wrong (text_by (codes "none")))
  | inr e ↦ subst (λ (b : Bool). WithQed (node_by w []) (if b then goes (Node ∷ Qed ∷ []) else node_by w (Qed ∷ []))) (sym e) (qed_node w)
]

qed_next : (L : Lookup) (t : Terminal) (w : List ℕ) → WithQed (next L Node t w) (next L Text t w)
qed_next L terminals.Name w = qed_text w
qed_next L _ w = qed_wrong Wrong

-- what is read as a node and the word `qed` is read as a text
text_read : (L : Lookup) (ws : List Lexeme) (es : List Event) → Leaves L [] (Node ∷ Qed ∷ []) ws es → Spells L ws es
text_read L [] es d = absurd (let r = none_taken d in let e : Node ∷ Qed ∷ [] ≡ [] = r.0 in cc)
text_read L (w ∷ ws) es d =
    let r = first_step d in
    on Text w (r.0 ++ Qed ∷ []) [] r.1 r.2 es ws (qed_next L w.is w.name r.0 r.1 r.3) (subst (λ (ss : List Symbol). Leaves L [] ss ws r.2) (sym (append-nil (r.0 ++ Qed ∷ []))) r.4) r.5

module _ (L : Lookup) (root : nodes.Node) where
  node_qed : (ws : List Lexeme) → (NodeWords L root ⨾ Mark terminals.Qed) ws → Leaves L [] (Node ∷ Qed ∷ []) ws (node_events root)
  node_qed ws h =
      subst (λ (x : List Event). Leaves L [] (Node ∷ Qed ∷ []) ws x) (append-nil (node_events root))
      (behind L [] (NodeWords L root) (Mark terminals.Qed) Node (Qed ∷ []) (node_events root) [] (node_taken L root (Qed ∷ []))
      (take_one L (λ w. w.is ≡ terminals.Qed) Qed [] [] (λ w m. at_mark L Qed w terminals.Qed _ m refl)) ws h)

  text_taken : (us vs ws : List Lexeme) → Perhaps (Word (codes "none")) us → (NodeWords L root ⨾ Mark terminals.Qed) vs → ws ≡ us ++ vs → Spells L ws (node_events root)
  text_taken us vs ws (there h) x words =
      take L [] (IsWord (codes "none")) (NodeWords L root ⨾ Mark terminals.Qed) Text (Node ∷ Qed ∷ []) [] [] (node_events root) (at_word L Text (codes "none") _ refl) node_qed ws
      (record { first = us; second = vs; front = h; behind = x; words = words })
  text_taken us vs ws (not_there e) x words =
      subst (λ (v : List Lexeme). Spells L v (node_events root)) (sym (words ∙ ap (λ (v : List Lexeme). v ++ vs) e)) (text_read L vs (node_events root) (node_qed vs x))

pub text_spells : (L : Lookup) (ws : List Lexeme) (es : List Event) → IsTextOf L ws es → Spells L ws es
text_spells L ws es h = subst (Spells L ws) h.events (text_taken L h.root h.words.first h.words.second ws h.words.front h.words.behind h.words.words)

-- What a derivation names has a name in a table of the state that it fits.
use Rattle.std.proofs.Common.{◌≡◌, ℕ, zero, suc, ◌<◌, true, List, [], ◌∷◌, ◌++◌, length, inl, inr, sym, ap, ◌∙◌, subst, append_assoc, arith}
use Rattle.std.proofs.lemmas.Bool.{cases_lt, false≢true}
use Rattle.std.proofs.lemmas.List.{append-nil, get_or_past}
use Rattle.geo_tokens.specs.Names.{NameTable}
use Rattle.geo_conditions.specs.Reach.{State, Reach, nowhere, has, place_in, dims}
use Rattle.derivation.specs.declared.event.Event.{Event}
use Rattle.derivation.specs.declared.event.Event.TheVariants.{EndCovers}
use Rattle.derivation.specs.declared.side.Side.{Side}
use Rattle.derivation.specs.declared.side.Side.TheVariants.{Upto, From}
use Rattle.derivation.specs.declared.half.Half.{Half}
use Rattle.derivation.specs.declared.half.Half.TheVariants.{OfPlace, OfSide}
use Rattle.derivation.specs.Covers.{CoverTree, Leaf, Fork, events_of, IsCut, HasNumbersIn}
use Rattle.derivation.specs.PlaceCovers.{PlaceCover, open_events, covers_events}
use Rattle.derivation.specs.Chains.{bound_event}
use Rattle.derivation.specs.Nodes.{Node, Split, DropNode, Bound, GoneNode, DeadNode, split_event, node_events}
use Rattle.derivation_text.specs.Lines.{HasShape, AreNamed}
use Rattle.whole_derivation.specs.Whole.{HalfFits, CoversFit, NodeFits}
use Rattle.printed_derivation.specs.Tables.{IsTableOf}

no_place : (s : ℕ) → place_in [] s ≡ true → ⊥
no_place zero h = false≢true h
no_place (suc k) h = false≢true h

-- an object that has a place exists
there : (S : State) (o s : ℕ) → has S o s ≡ true → o < length S
there S o s h = elim (cases_lt o (length S)) [
  | inl lt ↦ lt
  | inr past ↦ absurd (no_place s (sym (ap (λ (r : Reach). place_in r.places s) (get_or_past S o nowhere past)) ∙ h))
]

module _ (n : NameTable) (S : State) (m : ℕ) (table : IsTableOf n S) where
  object_there : (o : ℕ) → o < length S → o < length n.objects
  object_there o h = omega (arith, table.objects)

  shape_there : (o s : ℕ) → has S o s ≡ true → HasShape n o s
  shape_there o s h = let r = table.shapes o s h in (object_there o (there S o s h), r.0, r.1)

  -- the events of a cover, and others behind them
  tree_named : (o : ℕ) (t : CoverTree) (fs : List Event) → HasNumbersIn n.dims m t → AreNamed n o fs → AreNamed n o (events_of t ++ fs)
  tree_named o (Leaf i) fs h f = (tt, f)
  tree_named o (Fork (Upto d v) a b) fs h f =
      (h.0.0, subst (AreNamed n o) (sym (append_assoc (events_of a) (events_of b) fs)) (tree_named o a (events_of b ++ fs) h.1 (tree_named o b fs h.2 f)))
  tree_named o (Fork (From d v) a b) fs h f =
      (h.0.0, subst (AreNamed n o) (sym (append_assoc (events_of a) (events_of b) fs)) (tree_named o a (events_of b ++ fs) h.1 (tree_named o b fs h.2 f)))

  -- the same, of an object that exists
  cover_named : (u o : ℕ) (t : CoverTree) (fs : List Event) → o < length S → HasNumbersIn (dims S o) m t → AreNamed n u fs → AreNamed n u (events_of t ++ fs)
  cover_named u o t fs b h f = tree_named u t fs (subst (λ (k : ℕ). HasNumbersIn k m t) (table.dims o b) h) f

  open_named : (o : ℕ) (list : List PlaceCover) (fs : List Event) → o < length S → CoversFit S m o list → AreNamed n o fs → AreNamed n o (open_events list ++ fs)
  open_named o [] fs b h f = f
  open_named o (c ∷ more) fs b h f =
      (shape_there o c.place h.0, subst (AreNamed n o) (sym (append_assoc (events_of c.tree) (open_events more) fs)) (cover_named o o c.tree (open_events more ++ fs) b h.1 (open_named o more fs b h.2 f)))

  covers_named : (o : ℕ) (list : List PlaceCover) (fs : List Event) → o < length S → CoversFit S m o list → AreNamed n o fs → AreNamed n o (covers_events list ++ fs)
  covers_named o list fs b h f = subst (AreNamed n o) (sym (append_assoc (open_events list) (EndCovers ∷ []) fs)) (open_named o list (EndCovers ∷ fs) b h (tt, f))

  -- a dimension of an object
  dimension_there : (o d : ℕ) → o < length S → d < dims S o → d < n.dims
  dimension_there o d b h = omega (arith, h, table.dims o b)

  split_named : (u o : ℕ) (half : Half) (fs : List Event) → HalfFits S o half → AreNamed n u fs → AreNamed n u (split_event o half ∷ fs)
  split_named u o (OfPlace s) fs h f = (shape_there o s h, f)
  split_named u o (OfSide (Upto d v)) fs h f = ((object_there o h.0, dimension_there o d h.0 h.1.0), f)
  split_named u o (OfSide (From d v)) fs h f = ((object_there o h.0, dimension_there o d h.0 h.1.0), f)

  bound_named : (u o : ℕ) (side : Side) (fs : List Event) → o < length S → IsCut (dims S o) side → AreNamed n o fs → AreNamed n u (bound_event o side ∷ fs)
  bound_named u o (Upto d v) fs b h f = ((object_there o b, dimension_there o d b h.0), f)
  bound_named u o (From d v) fs b h f = ((object_there o b, dimension_there o d b h.0), f)

  -- the events of a node, and others behind them that have names wherever they stand
  node_named : (u : ℕ) (root : Node) (fs : List Event) → NodeFits S m root → ((w : ℕ) → AreNamed n w fs) → AreNamed n u (node_events root ++ fs)
  node_named u (Split o half a b) fs h f =
      subst (λ (es : List Event). AreNamed n u (split_event o half ∷ es)) (sym (append_assoc (node_events a) (node_events b) fs))
      (split_named u o half (node_events a ++ (node_events b ++ fs)) h.0 (node_named u a (node_events b ++ fs) h.1 (λ w. node_named w b fs h.2 f)))
  node_named u (DropNode o s tree rest) fs h f =
      (shape_there o s h.0, subst (AreNamed n u) (sym (append_assoc (events_of tree) (node_events rest) fs)) (cover_named u o tree (node_events rest ++ fs) (there S o s h.0) h.1 (node_named u rest fs h.2 f)))
  node_named u (Bound o side list rest) fs h f =
      subst (λ (es : List Event). AreNamed n u (bound_event o side ∷ es)) (sym (append_assoc (covers_events list) (node_events rest) fs))
      (bound_named u o side (covers_events list ++ (node_events rest ++ fs)) h.0 h.1 (covers_named o list (node_events rest ++ fs) h.0 h.2 (node_named o rest fs h.3 f)))
  node_named u (GoneNode o list) fs h f = (object_there o h.0, covers_named o list fs h.0 h.1 (f o))
  node_named u (DeadNode i) fs h f = (tt, f u)

pub named : (n : NameTable) (S : State) (m : ℕ) (root : Node) → IsTableOf n S → NodeFits S m root → AreNamed n 0 (node_events root)
named n S m root table h = subst (AreNamed n 0) (append-nil (node_events root)) (node_named n S m table 0 root [] h (λ w. tt))

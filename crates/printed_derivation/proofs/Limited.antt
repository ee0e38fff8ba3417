-- The numbers of a derivation that fits a state are ones that a text can have.
use Rattle.std.proofs.Common.{◌≤◌, ℕ, pos, List, [], ◌∷◌, ◌++◌, inl, inr, arith}
use Rattle.std.specs.List.{All}
use Rattle.std.proofs.lemmas.Int.{ints}
use Rattle.std.proofs.lemmas.List.Elements.{All-nil, All-cons, All-append}
use Rattle.geo_conditions.specs.Reach.{State, dims}
use Rattle.derivation.specs.declared.event.Event.TheVariants.{EndCovers, Cover, Gone, Drop}
use Rattle.derivation.specs.declared.side.Side.{Side}
use Rattle.derivation.specs.declared.side.Side.TheVariants.{Upto, From}
use Rattle.derivation.specs.declared.half.Half.{Half}
use Rattle.derivation.specs.declared.half.Half.TheVariants.{OfPlace, OfSide}
use Rattle.derivation.specs.Covers.{CoverTree, Leaf, Fork, cut_event, events_of, IsCut, IsNumber, HasNumbersIn}
use Rattle.derivation.specs.PlaceCovers.{PlaceCover, open_events, covers_events}
use Rattle.derivation.specs.Chains.{bound_event}
use Rattle.derivation.specs.Nodes.{Node, Split, DropNode, Bound, GoneNode, DeadNode, split_event, node_events}
use Rattle.derivation_round_trip.specs.Limits.{IsTextNumber, IsLimited}
use Rattle.whole_derivation.specs.Whole.{HalfFits, CoversFit, NodeFits}

small_number : (i : ℕ) → i ≤ 1000000000 → IsTextNumber (pos i)
small_number i h = (omega (arith, ints), omega (arith, ints))

cut_limited : (k : ℕ) (side : Side) → IsCut k side → IsLimited (cut_event side)
cut_limited k (Upto d v) h = (h.1, h.2)
cut_limited k (From d v) h = (h.1, h.2)

bound_limited : (k o : ℕ) (side : Side) → IsCut k side → IsLimited (bound_event o side)
bound_limited k o (Upto d v) h = (h.1, h.2)
bound_limited k o (From d v) h = (h.1, h.2)

module _ (S : State) (m : ℕ) (few : m ≤ 1000000000) where
  leaf_limited : (i : ℕ) → IsNumber m i → i ≤ 1000000000
  leaf_limited i (inl h) = omega arith
  leaf_limited i (inr e) = omega arith

  tree_limited : (k : ℕ) (t : CoverTree) → HasNumbersIn k m t → All IsLimited (events_of t)
  tree_limited k (Leaf i) h = All-cons IsLimited _ [] (small_number i (leaf_limited i h)) (All-nil IsLimited)
  tree_limited k (Fork side a b) h =
      All-cons IsLimited (cut_event side) (events_of a ++ events_of b) (cut_limited k side h.0)
      (All-append IsLimited (events_of a) (events_of b) (tree_limited k a h.1) (tree_limited k b h.2))

  open_limited : (o : ℕ) (list : List PlaceCover) → CoversFit S m o list → All IsLimited (open_events list)
  open_limited o [] h = All-nil IsLimited
  open_limited o (c ∷ more) h =
      All-cons IsLimited (Cover c.place) (events_of c.tree ++ open_events more) tt
      (All-append IsLimited (events_of c.tree) (open_events more) (tree_limited (dims S o) c.tree h.1) (open_limited o more h.2))

  covers_limited : (o : ℕ) (list : List PlaceCover) → CoversFit S m o list → All IsLimited (covers_events list)
  covers_limited o list h = All-append IsLimited (open_events list) (EndCovers ∷ []) (open_limited o list h) (All-cons IsLimited EndCovers [] tt (All-nil IsLimited))

  split_limited : (o : ℕ) (half : Half) → HalfFits S o half → IsLimited (split_event o half)
  split_limited o (OfPlace s) h = tt
  split_limited o (OfSide (Upto d v)) h = (h.1.1, h.1.2)
  split_limited o (OfSide (From d v)) h = (h.1.1, h.1.2)

  pub limited : (root : Node) → NodeFits S m root → All IsLimited (node_events root)
  limited (Split o half a b) h =
      All-cons IsLimited (split_event o half) (node_events a ++ node_events b) (split_limited o half h.0)
      (All-append IsLimited (node_events a) (node_events b) (limited a h.1) (limited b h.2))
  limited (DropNode o s tree rest) h =
      All-cons IsLimited (Drop (record { 0 = o }) s) (events_of tree ++ node_events rest) tt
      (All-append IsLimited (events_of tree) (node_events rest) (tree_limited (dims S o) tree h.1) (limited rest h.2))
  limited (Bound o side list rest) h =
      All-cons IsLimited (bound_event o side) (covers_events list ++ node_events rest) (bound_limited (dims S o) o side h.1)
      (All-append IsLimited (covers_events list) (node_events rest) (covers_limited o list h.2) (limited rest h.3))
  limited (GoneNode o list) h = All-cons IsLimited (Gone (record { 0 = o })) (covers_events list) tt (covers_limited o list h.1)
  limited (DeadNode i) h = All-cons IsLimited _ [] (small_number i (omega (arith, h))) (All-nil IsLimited)

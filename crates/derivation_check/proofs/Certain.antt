-- A derivation over the objects of the state that the check calls valid: then there is no solution.
use Rattle.std.proofs.Common.{ℕ, ◌<◌, List, [], ◌∷◌, ◌++◌, length, subst, arith, length-append}
use Rattle.std.specs.List.{All}
use Rattle.std.proofs.lemmas.List.{get_or_append_left}
use Rattle.std.proofs.lemmas.List.Elements.{All-head, All-tail}
use Rattle.geo_conditions.specs.declared.cond.Cond.{Cond}
use Rattle.geo_conditions.specs.Reach.{State, Tuple}
use Rattle.derivation.specs.declared.event.Event.{Event}
use Rattle.derivation.specs.declared.side.Side.TheVariants.{Upto, From}
use Rattle.derivation.specs.declared.half.Half.{Half}
use Rattle.derivation.specs.declared.half.Half.TheVariants.{OfPlace, OfSide}
use Rattle.derivation.specs.Covers.{events_of}
use Rattle.derivation.specs.PlaceCovers.{covers_events}
use Rattle.derivation.specs.Nodes.{Node, Split, DropNode, Bound, GoneNode, DeadNode, node_events, split_event, IsOver}
use Rattle.derivation_check.specs.Sound.{HasPlace, HasPlaces, Solves}
use Rattle.derivation_check.proofs.Sound.{sound}
use Rattle.derivation_check.specs.declared.progress.Checked.TheVariants.{Yes}
use Rattle.derivation.specs.Fits.{EventFits}
use Rattle.derivation_check.specs.Judges.{Judges}

left_part : (P : Event → Type 0) (xs ys : List Event) → All P (xs ++ ys) → All P xs
left_part P xs ys h = λ k d l. subst P (get_or_append_left xs ys d k l) (h k d (omega (arith, length-append xs ys)))

right_part : (P : Event → Type 0) (xs ys : List Event) → All P (xs ++ ys) → All P ys
right_part P [] ys h = h
right_part P (x ∷ xs) ys h = right_part P xs ys (All-tail P x (xs ++ ys) h)

split_over : (n K o : ℕ) (half : Half) → EventFits n K (split_event o half) → o < n
split_over n K o (OfPlace s) h = h.0
split_over n K o (OfSide (Upto d v)) h = h.0
split_over n K o (OfSide (From d v)) h = h.0

pub over_events : (n K : ℕ) (root : Node) → All (EventFits n K) (node_events root) → IsOver n root
over_events n K (Split o half a b) h =
    let t = All-tail (EventFits n K) (split_event o half) (node_events a ++ node_events b) h in
    (split_over n K o half (All-head (EventFits n K) (split_event o half) (node_events a ++ node_events b) h), over_events n K a (left_part (EventFits n K) (node_events a) (node_events b) t), over_events n K b (right_part (EventFits n K) (node_events a) (node_events b) t))
over_events n K (DropNode o s t rest) h = ((All-head (EventFits n K) _ (events_of t ++ node_events rest) h).0, over_events n K rest (right_part (EventFits n K) (events_of t) (node_events rest) (All-tail (EventFits n K) _ (events_of t ++ node_events rest) h)))
over_events n K (Bound o (Upto d v) ns rest) h = ((All-head (EventFits n K) _ (covers_events ns ++ node_events rest) h).0, over_events n K rest (right_part (EventFits n K) (covers_events ns) (node_events rest) (All-tail (EventFits n K) _ (covers_events ns ++ node_events rest) h)))
over_events n K (Bound o (From d v) ns rest) h = ((All-head (EventFits n K) _ (covers_events ns ++ node_events rest) h).0, over_events n K rest (right_part (EventFits n K) (covers_events ns) (node_events rest) (All-tail (EventFits n K) _ (covers_events ns ++ node_events rest) h)))
over_events n K (GoneNode o ns) h = All-head (EventFits n K) _ (covers_events ns) h
over_events n K (DeadNode i) h = tt

split_place : (n K o : ℕ) (half : Half) → EventFits n K (split_event o half) → HasPlace half
split_place n K o (OfPlace s) h = h.1.least
split_place n K o (OfSide side) h = tt

pub places_events : (n K : ℕ) (root : Node) → All (EventFits n K) (node_events root) → HasPlaces root
places_events n K (Split o half a b) h =
    let t = All-tail (EventFits n K) (split_event o half) (node_events a ++ node_events b) h in
    (split_place n K o half (All-head (EventFits n K) (split_event o half) (node_events a ++ node_events b) h), places_events n K a (left_part (EventFits n K) (node_events a) (node_events b) t), places_events n K b (right_part (EventFits n K) (node_events a) (node_events b) t))
places_events n K (DropNode o s t rest) h = ((All-head (EventFits n K) _ (events_of t ++ node_events rest) h).1.least, places_events n K rest (right_part (EventFits n K) (events_of t) (node_events rest) (All-tail (EventFits n K) _ (events_of t ++ node_events rest) h)))
places_events n K (Bound o (Upto d v) ns rest) h = places_events n K rest (right_part (EventFits n K) (covers_events ns) (node_events rest) (All-tail (EventFits n K) _ (covers_events ns ++ node_events rest) h))
places_events n K (Bound o (From d v) ns rest) h = places_events n K rest (right_part (EventFits n K) (covers_events ns) (node_events rest) (All-tail (EventFits n K) _ (covers_events ns ++ node_events rest) h))
places_events n K (GoneNode o ns) h = tt
places_events n K (DeadNode i) h = tt

-- a derivation over the objects of the state that is valid: then there is no solution
pub no_solution : (cs : List Cond) (S : State) (K : ℕ) (root : Node) (t : Tuple) → All (EventFits (length S) K) (node_events root) → Judges cs S root Yes → Solves cs S t → ⊥
no_solution cs S K root t f v s = sound cs root S t (over_events (length S) K root f) (places_events (length S) K root f) v s

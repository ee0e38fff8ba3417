-- Chains of a derivation: what narrows a state link by link, and what ends it.
use Rattle.std.specs.Prelude.{◌≡◌, ◌<◌, ◌≤ℤ◌, ℕ, true, List, [], ◌∷◌, ◌++◌, length, slice_set}
use Rattle.geo_conditions.specs.declared.cond.Cond.{Cond}
use Rattle.geo_conditions.specs.Reach.{State, Reach, reach, has, low, high, with_low, with_high, without, dims}
use Rattle.derivation.specs.declared.event.Event.{Event}
use Rattle.derivation.specs.declared.event.Event.TheVariants.{Drop, Raise, Lower, Gone, Dead}
use Rattle.derivation.specs.declared.side.Side.{Side}
use Rattle.derivation.specs.declared.side.Side.TheVariants.{Upto, From}
use Rattle.derivation.specs.Cuts.{near, far}
use Rattle.derivation.specs.Covers.{CoverTree, events_of, refutes, covers, IsCut, HasNumbersIn}
use Rattle.derivation.specs.PlaceCovers.{PlaceCover, covers_events, all_cover, HaveNumbersIn}

-- What one link of a chain says: a place is dropped, with a cover of the whole region; or a bound moves to a side, with a cover of the
-- rest for each place left.
pub data Link : Type 0 where
  Drops : (o s : ℕ) → (tree : CoverTree) → Link
  Bounds : (o : ℕ) → (side : Side) → (list : List PlaceCover) → Link

-- the event of a bound that moves to a side: the low end rises to a number, or the high end falls to it
abbrev pub bound_event : ℕ → Side → Event
bound_event o (Upto d v) = Lower (record { 0 = o }) d v
bound_event o (From d v) = Raise (record { 0 = o }) d v

-- the events of a link
abbrev pub link_events : Link → List Event
link_events (Drops o s tree) = Drop (record { 0 = o }) s ∷ events_of tree
link_events (Bounds o side list) = bound_event o side ∷ covers_events list

-- with the end of an interval moved to the side
abbrev pub moved : Side → Reach → Reach
moved (Upto d v) r = with_high r d v
moved (From d v) r = with_low r d v

-- cut to the side: the part of the region on it
abbrev pub cut_to_side : Side → Reach → Reach
cut_to_side side r = record { places = r.places; region = near side r.region }

-- The state of the rest, behind a link: the place is taken out, or the region is cut to the side. Both are intersections, which never
-- widen.
abbrev pub after : Link → State → State
after (Drops o s tree) S = slice_set S o (without (reach S o) s)
after (Bounds o side list) S = slice_set S o (cut_to_side side (reach S o))

-- moving the end of the interval to the side does not widen it
abbrev pub Narrows : State → ℕ → Side → Type 0
Narrows S o (Upto d v) = v ≤ℤ high S o d
Narrows S o (From d v) = low S o d ≤ℤ v

-- The link holds at S: the place is left, and its whole region is covered; or the bound does not widen, and the rest is covered for
-- each place left. All numbers are within the object's dimensions, the limits of cuts and the list of conditions.
abbrev pub Holds : List Cond → State → Link → Type 0
Holds cs S (Drops o s tree) = (has S o s ≡ true) × (covers cs S o s (reach S o).region tree ≡ true) × HasNumbersIn (dims S o) (length cs) tree
Holds cs S (Bounds o side list) =
    (o < length S) × IsCut (dims S o) side × Narrows S o side × (all_cover cs S o (far side (reach S o).region) 1 list ≡ true) × HaveNumbersIn (dims S o) (length cs) list

-- the events of the links, one after another
abbrev pub links_events : List Link → List Event
links_events [] = []
links_events (l ∷ ls) = link_events l ++ links_events ls

-- the state of the rest, behind all of them
abbrev pub behind : List Link → State → State
behind [] S = S
behind (l ∷ ls) S = behind ls (after l S)

-- each link holds at its state
abbrev pub EachHolds : List Cond → State → List Link → Type 0
EachHolds cs S [] = Unit {0}
EachHolds cs S (l ∷ ls) = Holds cs S l × EachHolds cs (after l S) ls

-- from S the events are a chain of drops, raises and lowers, each of which holds at its state, and T is the state of the rest
pub record Leads (cs : List Cond) (S : State) (es : List Event) (T : State) : Type 0 where
  pub links : List Link
  pub events : es ≡ links_events links
  pub state : T ≡ behind links S
  pub each_holds : EachHolds cs S links

-- how a derivation ends: the object has no point at any place left, or a condition is refuted
pub data Ending : Type 0 where
  IsGone : (o : ℕ) → (list : List PlaceCover) → Ending
  IsDead : (i : ℕ) → Ending

-- the events of an ending
abbrev pub ending_events : Ending → List Event
ending_events (IsGone o list) = Gone (record { 0 = o }) ∷ covers_events list
ending_events (IsDead i) = Dead i ∷ []

-- the ending holds at S: the object is there, and its whole region is covered for each place left; or the condition is refuted
abbrev pub EndHolds : List Cond → State → Ending → Type 0
EndHolds cs S (IsGone o list) = (o < length S) × (all_cover cs S o (reach S o).region 1 list ≡ true) × HaveNumbersIn (dims S o) (length cs) list
EndHolds cs S (IsDead i) = refutes cs i S ≡ true

-- from S the events are a chain whose open rest is closed by an ending that holds
pub record Closes (cs : List Cond) (S : State) (es : List Event) : Type 0 where
  pub chain : List Event
  pub state : State
  pub ending : Ending
  pub events : es ≡ chain ++ ending_events ending
  pub leads : Leads cs S chain state
  pub holds : EndHolds cs state ending

-- behind the old events stands a chain that leads from S to T
abbrev pub IsLed : List Cond → State → State → List Event → List Event → Type 0
IsLed cs S T old new = (es : List Event) × (new ≡ old ++ es) × Leads cs S es T

-- behind the old events stands a chain from S that is closed
abbrev pub IsClosed : List Cond → State → List Event → List Event → Type 0
IsClosed cs S old new = (es : List Event) × (new ≡ old ++ es) × Closes cs S es

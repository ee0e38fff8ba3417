-- The check as a machine: what it holds, and what one event does.
use Rattle.std.specs.Prelude.{◌≡◌, ◌+◌, ◌||◌, ℕ, Bool, true, false, List, [], ◌∷◌, slice_set, Option, Some, None}
use Rattle.geo_conditions.specs.declared.cond.Cond.{Cond}
use Rattle.geo_conditions.specs.declared.object.ObjId.{ObjId}
use Rattle.geo_conditions.specs.Reach.{State, Region, reach, low, high, with_at}
use Rattle.derivation.specs.declared.event.Event.{Event}
use Rattle.derivation.specs.declared.event.Event.TheVariants.{SplitShape, SplitUpto, SplitFrom, Drop, Raise, Lower, Gone, Dead, Cover, EndCovers, By, Cut, CutFrom}
use Rattle.derivation.specs.declared.side.Side.{Side}
use Rattle.derivation.specs.declared.side.Side.TheVariants.{Upto, From}
use Rattle.derivation.specs.declared.half.Half.{Half}
use Rattle.derivation.specs.declared.half.Half.TheVariants.{OfPlace, OfSide}
use Rattle.derivation.specs.Cuts.{near, far, is_empty}
use Rattle.derivation.specs.Covers.{refutes}
use Rattle.derivation.specs.PlaceCovers.{next_place, is_that, is_nothing}
use Rattle.derivation.specs.Valid.{first_part, second_part, change}
use Rattle.derivation_check.specs.declared.saved.Saved.{Saved}
use Rattle.derivation_check.specs.declared.saved.Saved.TheVariants.{Places, Ends}
use Rattle.derivation_check.specs.declared.progress.Task.{Task}
use Rattle.derivation_check.specs.declared.progress.Task.TheVariants.{Again, Last}
use Rattle.derivation_check.specs.declared.progress.Owner.{Owner}
use Rattle.derivation_check.specs.declared.progress.Owner.TheVariants as owners
use Rattle.derivation_check.specs.declared.progress.Work.{Work}
use Rattle.derivation_check.specs.declared.progress.Work.TheVariants.{AtNode, OfDrop, OfList}

-- The state at the open node; the open nodes, the innermost first; what is read; the boxes that are still to be covered, the next one
-- first (in a list of covers, the box of the list last); how many nodes there were; and the first that failed.
pub record Machine : Type 0 where
  pub state : State
  pub tasks : List Task
  pub work : Work
  pub boxes : List Region
  pub nodes : ℕ
  pub failed : Option ℕ

abbrev pub undo : Saved → State → State
undo (Places o ps) S = slice_set S o.0 (record { places = ps; region = (reach S o.0).region })
undo (Ends o d lo hi) S = slice_set S o.0 (record {
  places = (reach S o.0).places;
  region = record { lo = slice_set (reach S o.0).region.lo d lo; hi = slice_set (reach S o.0).region.hi d hi };
})

-- what a cut of the object replaces
abbrev pub saved : Half → State → ObjId → Saved
saved (OfPlace s) S o = Places o (reach S o.0).places
saved (OfSide (Upto d v)) S o = Ends o d (low S o.0 d) (high S o.0 d)
saved (OfSide (From d v)) S o = Ends o d (low S o.0 d) (high S o.0 d)

-- a test of the node k
abbrev pub note : Option ℕ → ℕ → Bool → Option ℕ
note (Some n) k ok = Some n
note None k true = None
note None k false = Some k

abbrev pub noted : Machine → Bool → Machine
noted m ok = record m { failed = note m.failed m.nodes ok }

abbrev pub one_more : Machine → Machine
one_more m = record m { nodes = m.nodes + 1 }

-- a node has ended: back to the first part that is open, and on to the second
abbrev pub back : List Task → State → State
back [] S = S
back (Last old ∷ ts) S = back ts (undo old S)
back (Again o half old ∷ ts) S = change (second_part half) (undo old S) o.0

abbrev pub left : List Task → List Task
left [] = []
left (Last old ∷ ts) = left ts
left (Again o half old ∷ ts) = Last old ∷ ts

abbrev pub finish : List Task → Machine → Machine
finish ts m = record m { state = back ts m.state; tasks = left ts; work = AtNode }

abbrev pub split : Machine → ObjId → Half → Machine
split m o half = record m { state = change (first_part half) m.state o.0; tasks = Again o half (saved half m.state o) ∷ m.tasks; nodes = m.nodes + 1 }

-- the rest of a node, behind its covers
abbrev pub go_first : Machine → ObjId → Half → Machine
go_first m o half = record m { state = change (first_part half) m.state o.0; tasks = Last (saved half m.state o) ∷ m.tasks; work = AtNode }

abbrev pub go_second : Machine → ObjId → Half → Machine
go_second m o half = record m { state = change (second_part half) m.state o.0; tasks = Last (saved half m.state o) ∷ m.tasks; work = AtNode }

abbrev pub list_from : Machine → ObjId → Owner → Region → Machine
list_from m o close b = record m { work = OfList o close 1 0; boxes = b ∷ m.boxes; nodes = m.nodes + 1 }

abbrev pub drop_from : Machine → ObjId → ℕ → Machine
drop_from m o s = record m { work = OfDrop o s; boxes = (reach m.state o.0).region ∷ m.boxes; nodes = m.nodes + 1 }

abbrev pub with_boxes : Machine → List Region → Machine
with_boxes m bs = record m { boxes = bs }

-- `Cover`
abbrev pub copied : List Region → List Region
copied [] = []
copied (b ∷ bs) = b ∷ b ∷ bs

abbrev pub named : Work → ℕ → Machine → Machine
named AtNode s m = m
named (OfDrop o t) s m = m
named (OfList o close n t) s m = record (noted m (is_that (next_place n (reach m.state o.0).places) s)) { work = OfList o close (s + 1) s; boxes = copied m.boxes }

-- `EndCovers`
abbrev pub rest : List Region → List Region
rest [] = []
rest (b ∷ bs) = bs

abbrev pub close_by : Owner → ObjId → Machine → Machine
close_by owners.Gone o m = finish m.tasks m
close_by (owners.Bound side) o m = go_first m o (OfSide side)

abbrev pub closed : Work → Machine → Machine
closed AtNode m = m
closed (OfDrop o t) m = m
closed (OfList o c n t) m = close_by c o (record (noted m (is_nothing (next_place n (reach m.state o.0).places))) { boxes = rest m.boxes })

-- `By`
abbrev pub leaf : List Cond → ℕ → Work → State → Region → Bool
leaf cs i AtNode S b = true
leaf cs i (OfDrop o s) S b = is_empty b || refutes cs i (with_at S o.0 s b)
leaf cs i (OfList o c n s) S b = is_empty b || refutes cs i (with_at S o.0 s b)

-- where the last box of a `drop` is covered, its rest comes
abbrev pub settle : List Region → Work → Machine → Machine
settle (b ∷ bs) w m = m
settle [] AtNode m = m
settle [] (OfDrop o s) m = go_second m o (OfPlace s)
settle [] (OfList o c n s) m = m

abbrev pub by_leaf : List Cond → ℕ → List Region → Machine → Machine
by_leaf cs i [] m = m
by_leaf cs i (b ∷ bs) m = settle bs m.work (record (noted m (leaf cs i m.work m.state b)) { boxes = bs })

abbrev pub forked : Side → List Region → List Region
forked side [] = []
forked side (b ∷ bs) = near side b ∷ far side b ∷ bs

abbrev pub step : List Cond → Machine → Event → Machine
step cs m (SplitShape o s) = split m o (OfPlace s)
step cs m (SplitUpto o d v) = split m o (OfSide (Upto d v))
step cs m (SplitFrom o d v) = split m o (OfSide (From d v))
step cs m (Drop o s) = drop_from m o s
step cs m (Raise o d v) = list_from m o (owners.Bound (From d v)) (far (From d v) (reach m.state o.0).region)
step cs m (Lower o d v) = list_from m o (owners.Bound (Upto d v)) (far (Upto d v) (reach m.state o.0).region)
step cs m (Gone o) = list_from m o owners.Gone (reach m.state o.0).region
step cs m (Dead i) = finish m.tasks (noted (one_more m) (refutes cs i m.state))
step cs m (Cover s) = named m.work s m
step cs m EndCovers = closed m.work m
step cs m (By i) = by_leaf cs i m.boxes m
step cs m (Cut d v) = with_boxes m (forked (Upto d v) m.boxes)
step cs m (CutFrom d v) = with_boxes m (forked (From d v) m.boxes)

abbrev pub run : List Cond → List Event → Machine → Machine
run cs [] m = m
run cs (e ∷ es) m = run cs es (step cs m e)

abbrev pub start : State → Machine
start S = record { state = S; tasks = []; work = AtNode; boxes = []; nodes = 0; failed = None }

-- the machine has taken these events, from the first state on
abbrev pub HasTaken : List Cond → State → List Event → Machine → Type 0
HasTaken cs S es m = m ≡ run cs es (start S)

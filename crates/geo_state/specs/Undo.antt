-- What was replaced, and how it is put back.
use Rattle.std.specs.Prelude.{◌≡◌, ◌==◌, ℕ, suc, ◌+◌, ◌<◌, ◌≤◌, List, [], ◌∷◌, ◌++◌, length, drop, map, slice_index, slice_set}
use Rattle.std.specs.List.{All}
use Rattle.geo_conditions.specs.Reach.{Reach, State, reach, count}

-- an object that was changed: what was open to it before, and the greatest open level that had saved it then, 0 if none had
pub record Entry : Type 0 where
  pub object : ℕ
  pub reach : Reach
  pub level : ℕ

-- the list in which the entries were put back, the last one first
abbrev pub undone : {A : Type 0} → (Entry → A) → List A → List Entry → List A
undone f xs [] = xs
undone f xs (e ∷ es) = slice_set (undone f xs es) e.object (f e)

-- the state before those entries were saved, and for each object the greatest level that had saved it
abbrev pub state_before : State → List Entry → State
state_before S es = undone (λ e. e.reach) S es

abbrev pub marks_before : List ℕ → List Entry → List ℕ
marks_before marks es = undone (λ e. e.level) marks es

-- the states in which levels were opened, where so many entries were saved by then
abbrev pub restored : State → List Entry → List ℕ → List State
restored S es starts = map (λ n. state_before S (drop n es)) starts

-- how many of the numbers are n
abbrev pub count_of : ℕ → List ℕ → ℕ
count_of n [] = 0
count_of n (m ∷ ms) = count (m == n) + count_of n ms

-- how many entries were saved when level i + 1 was opened, or are now where no such level is open
abbrev pub saved_by : List Entry → List ℕ → ℕ → ℕ
saved_by es starts i = slice_index (starts ++ length es ∷ []) i

-- for each object the greatest level that had saved it then
abbrev pub marks_by : List Entry → List ℕ → List ℕ → ℕ → List ℕ
marks_by es marks starts i = marks_before marks (drop (saved_by es starts i) es)

-- the levels were opened one after the other, and each saves an object at most once
pub record IsUndoable (es : List Entry) (marks starts : List ℕ) : Type 0 where
  pub none : saved_by es starts 0 ≡ 0
  pub grows : (i : ℕ) → i < length starts → saved_by es starts i ≤ saved_by es starts (suc i)
  pub once : (i : ℕ) → i < length starts → saved_by es starts (suc i) ≤ saved_by es starts i + count_of (suc i) (marks_by es marks starts (suc i))
  pub levels : (i : ℕ) → i ≤ length starts → All (λ m. m ≤ i) (marks_by es marks starts i)

-- the object as it is now, with that level
abbrev pub entry_of : State → ℕ → ℕ → Entry
entry_of S o level = record { object = o; reach = reach S o; level = level }

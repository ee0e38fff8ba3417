-- The canonical text of a problem that a sheet spells.
use Rattle.std.specs.Prelude.{ℕ, List, [], ◌∷◌, Bool, true, false}
use Rattle.problem_data.specs.Problem.{ProblemData}
use Rattle.problem_text.specs.Canonical.{text_stating}

-- the search order has an object
abbrev pub has_objects : List ℕ → Bool
has_objects [] = false
has_objects (first ∷ others) = true

-- The sides are stated, and the search order too where it has an object.
abbrev pub stated_text : ProblemData → List ℕ
stated_text p = text_stating (has_objects p.order) true p

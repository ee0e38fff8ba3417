-- How many boxes objects have.
use Rattle.std.specs.Prelude.{ℕ, ◌+◌, List, [], ◌∷◌, length}
use Rattle.problem_data.specs.Problem.{ProblemData}
use Rattle.rule_ground.specs.Shapes.{places}
use Rattle.rule_values.specs.Shapes.{boxes_at}

-- the sum over a list
abbrev pub total : {X : Type 0} → (X → ℕ) → List X → ℕ
total f [] = 0
total f (x ∷ xs) = f x + total f xs

-- how many boxes the object has with all its shapes
abbrev pub box_count : ProblemData → ℕ → ℕ
box_count p o = total (λ s. length (boxes_at p o s)) (places p o)

-- The blocks of a chain.
use Rattle.std.specs.Prelude.{List, [], ◌∷◌}
use Rattle.trail_arena.specs.declared.chain.Chain.{Chain}
use Rattle.trail_arena.specs.declared.chain.Chain.TheVariants.{End, Linked'}

-- the first one is on top
abbrev pub blocks : {B : Type 0} → Chain B → List B
blocks End = []
blocks (Linked' block p rest) = block ∷ blocks rest

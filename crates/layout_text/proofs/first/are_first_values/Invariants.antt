use Rattle.std.proofs.Common.{◌≡◌, ◌<◌, ℕ, map}
use Rattle.geo_base.specs.Boxes.{coordinate}
use Rattle.problem_data.specs.Meaning.{number_of}
use Rattle.problem_data.specs.Places.{first_value}
use Rattle.layout_text.proofs.first.are_first_values.Given as goal

-- the numbers so far are first values
abbrev pub invariant-loop-d : goal.invariant-loop-d
invariant-loop-d l = (d : ℕ) → d < l.d → coordinate (map number_of l.origin) d ≡ first_value l.problem l.object d

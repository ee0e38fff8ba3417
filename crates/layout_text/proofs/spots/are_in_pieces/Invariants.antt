use Rattle.std.proofs.Common.{◌<◌, ℕ, [], map}
use Rattle.std.specs.Prelude.{slice_index_or}
use Rattle.geo_base.specs.Boxes.{coordinate}
use Rattle.problem_data.specs.Meaning.{number_of}
use Rattle.problem_data.specs.Pieces.{IsInPieces}
use Rattle.layout_text.proofs.spots.are_in_pieces.Given as goal

-- the numbers so far lie in pieces of their ranges
abbrev pub invariant-loop-i : goal.invariant-loop-i
invariant-loop-i l = (d : ℕ) → d < l.i → IsInPieces (slice_index_or l.pieces d []) (coordinate (map number_of l.origin) d)

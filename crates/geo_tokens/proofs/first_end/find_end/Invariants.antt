use Rattle.std.proofs.Common.{◌≡◌, ◌+◌, length}
use Rattle.geo_tokens.specs.FirstEnd.{Passes}
use Rattle.geo_tokens.proofs.first_end.find_end.Given as goal

-- all was passed over up to here
abbrev pub invariant-pieces : goal.invariant-pieces
invariant-pieces l = record { at : l.place + length l.rest ≡ length l.text; so_far : Passes l.place l.rest 0 l.text }

abbrev pub decreases-pieces : goal.decreases-pieces
decreases-pieces l = length l.rest

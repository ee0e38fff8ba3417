use Rattle.std.proofs.Common.{◌≡◌, ◌+◌, length}
use Rattle.geo_tokens.specs.Cut.{Cut}
use Rattle.geo_tokens.proofs.lexer.cut.Given as goal

-- the text is cut up to here
abbrev pub invariant-fronts : goal.invariant-fronts
invariant-fronts l = record { at : l.place + length l.rest ≡ length l.text; so_far : Cut l.place l.rest 0 l.text l.found.items }

abbrev pub decreases-fronts : goal.decreases-fronts
decreases-fronts l = length l.rest

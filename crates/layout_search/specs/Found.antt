-- What a search has found.
use Rattle.geo_base.specs.Tuple.{Tuple}
use Rattle.problem_data.specs.Problem.{ProblemData}
use Rattle.problem_data.specs.Cells.{IsWideTuple}
use Rattle.trail_search.specs.Next.{SearchView, HasFound}

-- it has found a tuple of the problem's hulls
abbrev pub HasFoundIn : ProblemData → SearchView → Type 0
HasFoundIn p s = (t : Tuple) × IsWideTuple p t × HasFound s t

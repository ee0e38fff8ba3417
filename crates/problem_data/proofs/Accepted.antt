-- A text is accepted with a problem that is well formed.
use Rattle.std.proofs.Common.{ℕ, List, ◌==◌, sym, subst}
use Rattle.problem_data.specs.Problem.{ProblemData}
use Rattle.problem_data.specs.Parts.{parts_of}
use Rattle.problem_data.specs.Faults.{count_of}
use Rattle.problem_data.specs.WellFormed.{IsWellFormed}
use Rattle.problem_data.specs.Accepted.{Accepts}
use Rattle.problem_data.proofs.Yielded.{problem_yields, objects_have_parts}
use Rattle.problem_data.proofs.Sound.{sound}

pub accepted_well_formed : (text : List ℕ) (p : ProblemData) → Accepts text p → IsWellFormed p
accepted_well_formed text p a =
    subst IsWellFormed (sym a.means) (sound (parts_of a.tree) (objects_have_parts (count_of a.tree.version.value == 2) a.tree.statements (problem_yields text 64 a.tree a.says.list a.says.spells.within)) a.right)

use Rattle.std.proofs.Common.{subst}
use Rattle.problem_data.specs.Parts.{parts_view}
use Rattle.problem_data.specs.Least.{IsLeast}
use Rattle.problem_data.specs.Faults.{IsFault}
use Rattle.problem_text.proofs.read.read_parts.Goals as goal

pub build-requires : goal.build-requires
build-requires c = record { said = c.requires; right = subst (λ o. IsLeast (IsFault (parts_view c.args.parts)) o) c.in-None.is c.in_ok-fault.ensures }

pub returns-in-Some : goal.returns-in-Some
returns-in-Some c = subst (λ o. IsLeast (IsFault (parts_view c.args.parts)) o) c.in-Some.is c.in_ok-fault.ensures

pub returns-in_ok-build-in-None : goal.returns-in_ok-build-in-None
returns-in_ok-build-in-None c = (subst (λ o. IsLeast (IsFault (parts_view c.args.parts)) o) c.in-None.is c.in_ok-fault.ensures, c.in_ok-build-in-None.ensures)

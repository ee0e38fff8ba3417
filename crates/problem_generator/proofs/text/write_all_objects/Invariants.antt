use Rattle.std.proofs.Common.{◌≡◌, ◌++◌, ◌-◌, string_bytes}
use Rattle.problem_generator.specs.Made.{all_objects}
use Rattle.problem_generator.proofs.text.write_all_objects.Given as goal

-- the objects before this one have their lines
abbrev pub invariant-loop-number : goal.invariant-loop-number
invariant-loop-number l = string_bytes l.text ≡ string_bytes l.initial.text ++ all_objects (l.number - 1)

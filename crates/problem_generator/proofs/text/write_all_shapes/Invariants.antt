use Rattle.std.proofs.Common.{◌≡◌, ◌++◌, ◌-◌, ◌*◌, string_bytes}
use Rattle.problem_generator.specs.Draws.{state_behind}
use Rattle.problem_generator.specs.Made.{all_shapes}
use Rattle.problem_generator.proofs.text.write_all_shapes.Given as goal

-- the objects before this one have their lines, and their draws were taken
abbrev pub invariant-loop-number : goal.invariant-loop-number
invariant-loop-number l = record {
  text : string_bytes l.text ≡ string_bytes l.initial.text ++ all_shapes l.fn.draws.state (l.number - 1);
  state : l.draws.state ≡ state_behind l.fn.draws.state (3 * (l.number - 1));
}

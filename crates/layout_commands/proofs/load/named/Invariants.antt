use Rattle.std.proofs.Common.{◌≡◌, ◌++◌, take}
use Rattle.layout_commands.specs.Load.{name_lines}
use Rattle.layout_commands.proofs.load.named.Given as goal

abbrev pub invariant-loop-k : goal.invariant-loop-k
invariant-loop-k l = l.text.items ≡ l.word ++ name_lines l.problem (take l.k l.objects)

-- The number with which the process of a run ends.
use Rattle.std.specs.Prelude.{ℕ}
use Rattle.command_input.specs.declared.command.Status.{Status}
use Rattle.command_input.specs.declared.command.Status.TheVariants.{Answered, No, Refused, Budget, BadWords, BadToken, ReadFault, WriteFault, Memory, BadDimension}

abbrev pub status_number : Status → ℕ
status_number Answered = 0
status_number No = 1
status_number Refused = 2
status_number Budget = 3
status_number BadWords = 4
status_number BadToken = 5
status_number ReadFault = 6
status_number WriteFault = 7
status_number Memory = 8
status_number BadDimension = 9

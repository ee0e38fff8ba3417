use Rattle.std.proofs.Common.{take}
use Rattle.token_stream.specs.Word.{IsWordOf}
use Rattle.token_stream.proofs.word.Word.set.Given as goal

abbrev pub invariant-loop-byte : goal.invariant-loop-byte
invariant-loop-byte l = record { of : IsWordOf l.self (take l.byte-index l.bytes) }

use Rattle.std.proofs.Common.{◌≡◌, ◌≤◌, drop}
use Rattle.geo_tokens.specs.Bytes.{value_from, value_of}
use Rattle.geo_tokens.proofs.front.value_of.Given as goal

abbrev pub invariant-loop-digit : goal.invariant-loop-digit
invariant-loop-digit l = record { small : l.value ≤ 1000000000; rest : value_from l.value (drop l.digit-index l.digits) ≡ value_of l.digits }

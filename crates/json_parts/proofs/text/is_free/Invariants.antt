use Rattle.std.proofs.Common.{◌≡◌, ◌<◌, ◌==◌, ◌||◌, ℕ, false, get_or}
use Rattle.json_parts.proofs.text.is_free.Given as goal

abbrev pub invariant-loop-byte : goal.invariant-loop-byte
invariant-loop-byte l = (k d : ℕ) → k < l.byte-index → ((get_or l.byte-items k d == 59) || (get_or l.byte-items k d == 35)) ≡ false

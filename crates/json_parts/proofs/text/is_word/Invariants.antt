use Rattle.std.proofs.Common.{◌≡◌, ◌<◌, ℕ, true, get_or}
use Rattle.geo_tokens.specs.Bytes.{is_word_byte}
use Rattle.json_parts.proofs.text.is_word.Given as goal

abbrev pub invariant-loop-byte : goal.invariant-loop-byte
invariant-loop-byte l = (k d : ℕ) → k < l.byte-index → is_word_byte (get_or l.byte-items k d) ≡ true

use Rattle.std.proofs.Common.{length}
use Rattle.geo_tokens.proofs.lookup.+word_among.Given as goal

abbrev pub decreases-word_among : goal.decreases-word_among
decreases-word_among l = length l.words.now

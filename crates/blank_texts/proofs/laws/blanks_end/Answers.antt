use Rattle.std.proofs.Common.{length}
use Rattle.blank_texts.proofs.Lines.{blank_stays}
use Rattle.blank_texts.proofs.laws.blanks_end.Goals as goal

pub returns : goal.returns
returns c = λ blank more h. blank_stays more (length blank) 0 blank h

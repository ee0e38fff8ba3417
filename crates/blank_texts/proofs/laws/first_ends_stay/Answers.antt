use Rattle.blank_texts.proofs.Lines.{first_end_stays}
use Rattle.blank_texts.proofs.laws.first_ends_stay.Goals as goal

pub returns : goal.returns
returns c = λ text more end h. first_end_stays more text end h

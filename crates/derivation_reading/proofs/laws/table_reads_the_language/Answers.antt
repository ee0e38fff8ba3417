use Rattle.derivation_reading.proofs.Trees.{spells_text}
use Rattle.derivation_reading.proofs.FromTrees.{text_spells}
use Rattle.derivation_reading.proofs.laws.table_reads_the_language.Goals as goal

pub returns : goal.returns
returns c = λ L ws es. (spells_text L ws es, text_spells L ws es)

use Rattle.printed_derivation.proofs.ReadBack.{read_back_behind}
use Rattle.printed_derivation.proofs.laws.is_read_back_behind.Goals as goal

pub returns : goal.returns
returns c = λ n S cs es blank names table d few front short. read_back_behind n S cs es blank names table d few front short

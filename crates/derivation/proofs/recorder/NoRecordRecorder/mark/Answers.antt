use Rattle.std.proofs.Common.{refl}
use Rattle.derivation.proofs.recorder.NoRecordRecorder.mark.Goals as goal

pub returns-clause-none : goal.returns-clause-none
returns-clause-none c = λ _. refl

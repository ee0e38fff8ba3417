-- The four ways in which a run may end, over what the outside tells of itself.
use Rattle.std.specs.Prelude.{◌≡◌, ◌⊎◌, ℕ, List, Option, Bool, true, codes}
use Rattle.std.specs.Io.KnownBytes.{Appends, Keeps}
use Rattle.geo_chan.specs.Causes.{Rose}
use Rattle.geo_chan.specs.Written.{AppendsFront}
use Rattle.command_input.specs.Reading.{Tells}
use Rattle.command_input.specs.declared.command.Status.{Status}
use Rattle.command_input.specs.declared.command.Status.TheVariants.{BadWords, ReadFault, WriteFault, Memory}

-- an answer was written whole
pub record Gave (answer : List ℕ → List ℕ → Status → Type 0) (left written_old written_new : Option (List ℕ)) (status : Status) : Type 0 where
  pub input : List ℕ
  pub text : List ℕ
  pub told : Tells left input
  pub answers : answer input text status
  pub bytes : Appends written_old written_new text

-- a front part of an answer was written
pub record Began (begins : List ℕ → List ℕ → Type 0) (left written_old written_new : Option (List ℕ)) : Type 0 where
  pub input : List ℕ
  pub front : List ℕ
  pub told : Tells left input
  pub starts : begins input front
  pub bytes : Appends written_old written_new front

-- nothing was written, or a front part of an answer
abbrev pub WroteFront : (List ℕ → List ℕ → Type 0) → Option (List ℕ) → Option (List ℕ) → Option (List ℕ) → Type 0
WroteFront begins left old new = Keeps old new ⊎ Began begins left old new

-- The four ways. Read fault: exactly where the source's count rose, and nothing was written. Write
-- fault: exactly where the sink's count rose. Want of memory. Every other status: an answer was
-- written, whole. So a fault is never taken for want of memory, nor want of memory for a fault.
abbrev pub Ends : (List ℕ → List ℕ → Status → Type 0) → (List ℕ → List ℕ → Type 0) → Option (List ℕ) → ℕ → ℕ → Option (List ℕ) → Option (List ℕ) → ℕ → ℕ → Status → Type 0
Ends answer begins left reads reads_new old new writes writes_new ReadFault = Rose reads reads_new × (writes_new ≡ writes) × Keeps old new
Ends answer begins left reads reads_new old new writes writes_new WriteFault = (reads_new ≡ reads) × Rose writes writes_new × WroteFront begins left old new
Ends answer begins left reads reads_new old new writes writes_new Memory = (reads_new ≡ reads) × (writes_new ≡ writes) × WroteFront begins left old new
Ends answer begins left reads reads_new old new writes writes_new status = (reads_new ≡ reads) × (writes_new ≡ writes) × Gave answer left old new status

-- the same for words that have no form
abbrev pub EndsUnread : Option (List ℕ) → Option (List ℕ) → ℕ → ℕ → Status → Type 0
EndsUnread old new writes writes_new BadWords = (writes_new ≡ writes) × Appends old new (codes "bad words\n")
EndsUnread old new writes writes_new WriteFault = Rose writes writes_new × AppendsFront old new (codes "bad words\n")
EndsUnread old new writes writes_new Memory = (writes_new ≡ writes) × AppendsFront old new (codes "bad words\n")
EndsUnread old new writes writes_new status = ⊥

-- where a quiet sink wants no memory itself, want of memory is answered only with nothing written
abbrev pub WantsFirst : Bool → Option (List ℕ) → Option (List ℕ) → Status → Type 0
WantsFirst quiet written_old written_new status = quiet ≡ true → status ≡ Memory → written_new ≡ written_old

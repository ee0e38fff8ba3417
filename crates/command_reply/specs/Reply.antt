-- What a command replies, and what is written of it.
use Rattle.std.specs.Prelude.{◌≡◌, ℕ, List, Option, Result, Ok, Err, MatchResult, Bool}
use Rattle.std.specs.Io.KnownBytes.{Appends}
use Rattle.geo_chan.specs.declared.outside.PutFault.{PutFault}
use Rattle.geo_chan.specs.declared.outside.PutFault.TheVariants.{Failed as PutFailed, Memory as PutMemory}
use Rattle.geo_chan.specs.Causes.{PutCause}
use Rattle.geo_chan.specs.Written.{AppendsFront, WantsUnwritten}
use Rattle.command_input.specs.declared.command.Status.{Status}
use Rattle.command_input.specs.declared.command.Status.TheVariants.{ReadFault, WriteFault, Memory}

-- a status that only an answer has
abbrev pub IsAnswered : Status → Type 0
IsAnswered ReadFault = ⊥
IsAnswered WriteFault = ⊥
IsAnswered Memory = ⊥
IsAnswered status = Unit {0}

-- how a run ends that has written its reply, or was cut off
abbrev pub end_status : Result Status PutFault → Status
end_status (Ok status) = status
end_status (Err PutFailed) = WriteFault
end_status (Err PutMemory) = Memory

-- the one text and its status
abbrev pub IsSaid : List ℕ → Status → List ℕ → Status → Type 0
IsSaid own mine text status = (text ≡ own) × (status ≡ mine)

-- a text that the reply may come to was written, and this is its status
abbrev pub WroteReply : (List ℕ → Status → Type 0) → Option (List ℕ) → Option (List ℕ) → Status → Type 0
WroteReply says old new status = (text : List ℕ) × says text status × Appends old new text

-- a front part of one was
abbrev pub WroteFrontOfReply : (List ℕ → Status → Type 0) → Option (List ℕ) → Option (List ℕ) → Type 0
WroteFrontOfReply says old new = (text : List ℕ) × (status : Status) × says text status × AppendsFront old new text

-- Ok: a text that the reply may come to was written, with its status. Else a front part of one was,
-- and Failed exactly where the count of faults rose. Over a quiet sink memory is wanted only where
-- nothing was written
pub record WritesReply (says : List ℕ → Status → Type 0) (written_old written_new : Option (List ℕ)) (faults_old faults_new : ℕ)
    (quiet_old quiet_new : Bool) (result : Result Status PutFault) : Type 0 where
  pub bytes : MatchResult result (WroteReply says written_old written_new) (λ _. WroteFrontOfReply says written_old written_new)
  pub cause : PutCause faults_old faults_new result
  pub quiet : WantsUnwritten quiet_old quiet_new written_old written_new result

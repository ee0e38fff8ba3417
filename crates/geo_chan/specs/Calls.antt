-- How a source or a sink in memory goes on: how much it moves in a call, and at which calls it fails.
use Rattle.std.specs.Prelude.{◌≡◌, ◌+◌, ◌-◌, ◌^◌, ◌<◌, ℕ, length, min, List, Bool, true, false, nat_eq, if◌then◌else◌}
use Rattle.std.specs.List.{list_any}
use Rattle.std.specs.Prelude.{Result, Ok, Err}
use Rattle.geo_chan.specs.declared.outside.PutFault.{PutFault}
use Rattle.geo_chan.specs.declared.outside.PutFault.TheVariants as faults
use Rattle.geo_chan.specs.declared.memory.MemSource.{MemSource}
use Rattle.geo_chan.specs.declared.memory.MemSink.{MemSink}
use Rattle.geo_chan.specs.declared.room.RoomSink.{RoomSink}

-- At most `piece` bytes a call; the numbers, from 1, of the calls that fail; the calls and the faults so far.
pub record Plan : Type 0 where
  pub piece : ℕ
  pub fails : List ℕ
  pub calls : ℕ
  pub faults : ℕ

abbrev pub source_plan : MemSource → Plan
source_plan s = record { piece = s.piece; fails = s.fails.items; calls = s.calls; faults = s.faults }

abbrev pub sink_plan : MemSink → Plan
sink_plan s = record { piece = s.piece; fails = s.fails.items; calls = s.calls; faults = s.faults }

-- one more, up to the last value that a count can have
abbrev pub counted : ℕ → ℕ
counted n = min (n + 1) (2 ^ 64 - 1)

-- the next call is one of those that fail; none does past the last number that a count can have
abbrev pub FailsNext : Plan → Type 0
FailsNext p = (p.calls < 2 ^ 64 - 1) × (list_any (λ n. nat_eq n (p.calls + 1)) p.fails ≡ true)

-- one call later, which failed or did not
abbrev pub after_call : Bool → Plan → Plan
after_call failed p = record { piece = p.piece; fails = p.fails; calls = counted p.calls; faults = if failed then counted p.faults else p.faults }

-- the plan of a sink after what a call answered
abbrev pub IsPlanAfter : Result ℕ PutFault → Plan → Plan → Type 0
IsPlanAfter (Err faults.Failed) old new = new ≡ after_call true old
IsPlanAfter answer old new = new ≡ after_call false old

-- how many more bytes a sink with room takes
abbrev pub room_left : RoomSink → ℕ
room_left s = length s.bytes.items - s.len

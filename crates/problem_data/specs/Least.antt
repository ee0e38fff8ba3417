-- Which of several faults comes first: the one at the least place, and at one place the one whose word stands first in the
-- order limit, twice, unknown, range, size, order.
use Rattle.std.specs.Prelude.{ℕ, Option, Some, None, Bool, ◌==◌, ◌&&◌, ◌||◌, nat_lt, if◌then◌else◌}
use Rattle.geo_tokens.specs.declared.fault.FaultWord.{FaultWord}
use Rattle.geo_tokens.specs.declared.fault.FaultWord.TheVariants as words
use Rattle.geo_tokens.specs.First.{IsFirstBy, IsLeastBy, earlier_by}
use Rattle.problem_data.specs.declared.fault.Fault.{Fault}

abbrev pub fault : ℕ → FaultWord → Fault
fault p w = record { place = p; word = w }

-- the words in their order; behind those of statements all others
abbrev pub word_rank : FaultWord → ℕ
word_rank words.Limit = 0
word_rank words.Twice = 1
word_rank words.Unknown = 2
word_rank words.Range = 3
word_rank words.Size = 4
word_rank words.Order = 5
word_rank words.Byte = 6
word_rank words.Number = 7
word_rank words.Name = 8
word_rank words.Syntax = 9
word_rank words.Deep = 10
word_rank words.Kind = 11
word_rank words.Args = 12
word_rank words.Expand = 13
word_rank words.Product = 14
word_rank words.Overflow = 15
word_rank words.Ground = 16
word_rank words.Token = 17
word_rank words.Long = 18

-- f comes after g
abbrev pub is_after : Fault → Fault → Bool
is_after f g = nat_lt g.place f.place || ((f.place == g.place) && nat_lt (word_rank g.word) (word_rank f.word))

-- f is one of these faults, and comes after none of them
abbrev pub IsFirst : (Fault → Type 0) → Fault → Type 0
IsFirst P f = IsFirstBy is_after P f

-- the first of these faults, or None where there is none
abbrev pub IsLeast : (Fault → Type 0) → Option Fault → Type 0
IsLeast P o = IsLeastBy is_after P o

-- the one of two that comes first
abbrev pub earlier : Option Fault → Option Fault → Option Fault
earlier a b = earlier_by is_after a b

-- the fault, where there is one
abbrev pub fault_if : Bool → ℕ → FaultWord → Option Fault
fault_if wrong p w = if wrong then Some (fault p w) else None

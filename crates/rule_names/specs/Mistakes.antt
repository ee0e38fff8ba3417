-- Which of several mistakes comes first: one of names before one of kinds, then the one at the least place, and at one place the
-- one that stands first in the order of an unknown name, a repeated one, a wrong kind, a wrong count, an unknown field.
use Rattle.std.specs.Prelude.{ℕ, Bool, ◌==◌, ◌&&◌, ◌||◌, nat_lt, if◌then◌else◌, List, [], ◌∷◌, Option, Some, None}
use Rattle.std.specs.List.{Contains}
use Rattle.geo_tokens.specs.declared.fault.FaultWord.{FaultWord}
use Rattle.geo_tokens.specs.declared.fault.FaultWord.TheVariants as words
use Rattle.geo_tokens.specs.First.{IsFirstBy, earlier_by}
use Rattle.rule_names.specs.declared.mistake.Flaw.{Flaw}
use Rattle.rule_names.specs.declared.mistake.Flaw.TheVariants.{UnknownName, RepeatedName, WrongKind, WrongCount, UnknownField}
use Rattle.rule_names.specs.declared.mistake.Mistake.{Mistake}

abbrev pub mistake : ℕ → Flaw → Mistake
mistake p f = record { place = p; flaw = f }

-- 0 for mistakes of names, 1 for mistakes of kinds
abbrev pub phase : Flaw → ℕ
phase UnknownName = 0
phase RepeatedName = 0
phase WrongKind = 1
phase WrongCount = 1
phase UnknownField = 1

abbrev pub rank : Flaw → ℕ
rank UnknownName = 0
rank RepeatedName = 1
rank WrongKind = 2
rank WrongCount = 3
rank UnknownField = 4

abbrev pub word_of : Flaw → FaultWord
word_of UnknownName = words.Unknown
word_of RepeatedName = words.Twice
word_of WrongKind = words.Kind
word_of WrongCount = words.Args
word_of UnknownField = words.Unknown

-- f comes after g
abbrev pub is_after : Mistake → Mistake → Bool
is_after f g =
    nat_lt (phase g.flaw) (phase f.flaw)
    || ((phase f.flaw == phase g.flaw) && (nat_lt g.place f.place || ((f.place == g.place) && nat_lt (rank g.flaw) (rank f.flaw))))

-- the one of two that comes first
abbrev pub earlier : Option Mistake → Option Mistake → Option Mistake
earlier a b = earlier_by is_after a b

-- the first of a list, if it has any
abbrev pub first_of : List Mistake → Option Mistake
first_of [] = None
first_of (m ∷ ms) = earlier (Some m) (first_of ms)

-- the mistake, where there is one
abbrev pub mistake_if : Bool → ℕ → Flaw → List Mistake
mistake_if wrong p f = if wrong then mistake p f ∷ [] else []

-- f is one of the mistakes, and comes after none of them
abbrev pub IsFirst : List Mistake → Mistake → Type 0
IsFirst ms f = IsFirstBy is_after (Contains ms) f

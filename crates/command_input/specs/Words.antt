-- Which words have which form.
use Rattle.std.specs.Prelude.{◌≡◌, ◌≤◌, ◌<◌, ◌^◌, ◌≤ℤ◌, ℕ, ℤ, pos, negsuc, List, [], ◌∷◌, codes, decimal}
use Rattle.std.specs.Fmt.{signed_decimal}
use Rattle.std.specs.Option.{option_copied, option_to_list}
use Rattle.geo_base.specs.declared.TheConstants.{MAX_DIMS}
use Rattle.command_input.specs.declared.command.Command.{Command}
use Rattle.command_input.specs.declared.command.Command.TheVariants.{
  First,
  Show,
  Judge,
  Check,
  Draw,
  All,
  Make,
  Best,
  CheckBest,
  Load,
  Why,
  ToJson,
  FromJson,
  FirstJson,
}

-- words, and the bounds of the numbers in them
pub record Form : Type 1 where
  pub words : List (List ℕ)
  pub bounds : Type 0

-- a dimension, counted from 1, that a problem may have
abbrev pub IsDimension : ℕ → Type 0
IsDimension d = (1 ≤ d) × (d ≤ MAX_DIMS)

-- an end that may be asked for
abbrev pub IsExtent : ℤ → Type 0
IsExtent e = (negsuc 1999999 ≤ℤ e) × (e ≤ℤ pos 3000000)

-- the form of each command: one line a command
abbrev pub form_of : Command → Form
form_of (First n) = record { words = codes "first" ∷ decimal n ∷ []; bounds = (1 ≤ n) × (n ≤ 10 ^ 12) }
form_of Show = record { words = codes "show" ∷ []; bounds = Unit {0} }
form_of Judge = record { words = codes "judge" ∷ []; bounds = Unit {0} }
form_of Check = record { words = codes "check" ∷ []; bounds = Unit {0} }
form_of Draw = record { words = codes "draw" ∷ []; bounds = Unit {0} }
form_of (All page) = record {
  words = codes "all" ∷ decimal page.most ∷ decimal page.budget ∷ option_to_list (option_copied page.token);
  bounds = (1 ≤ page.most) × (page.most ≤ 10 ^ 6) × (1 ≤ page.budget) × (page.budget ≤ 10 ^ 12);
}
form_of (Make seed n) = record { words = codes "make" ∷ decimal seed ∷ decimal n ∷ []; bounds = (seed < 2 ^ 31) × (1 ≤ n) × (n ≤ 10 ^ 12) }
form_of (Best d n) = record { words = codes "best" ∷ decimal d ∷ decimal n ∷ []; bounds = IsDimension d × (1 ≤ n) × (n ≤ 10 ^ 12) }
form_of (CheckBest d e) = record { words = codes "check_best" ∷ decimal d ∷ signed_decimal e ∷ []; bounds = IsDimension d × IsExtent e }
form_of (Load d) = record { words = codes "load" ∷ decimal d ∷ []; bounds = IsDimension d }
form_of (Why n) = record { words = codes "why" ∷ decimal n ∷ []; bounds = (1 ≤ n) × (n ≤ 10 ^ 12) }
form_of ToJson = record { words = codes "to_json" ∷ []; bounds = Unit {0} }
form_of FromJson = record { words = codes "from_json" ∷ []; bounds = Unit {0} }
form_of (FirstJson n) = record { words = codes "first_json" ∷ decimal n ∷ []; bounds = (1 ≤ n) × (n ≤ 10 ^ 12) }

-- the words are those of the command, and its numbers keep within their bounds
abbrev pub HasForm : List (List ℕ) → Command → Type 0
HasForm words command = (words ≡ (form_of command).words) × (form_of command).bounds

abbrev pub HasNoForm : List (List ℕ) → Type 0
HasNoForm words = (command : Command) → HasForm words command → ⊥

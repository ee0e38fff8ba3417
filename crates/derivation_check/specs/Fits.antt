-- What a check holds exists: objects below a number of them, dimensions below K, the places 1 to 16, and numbers within the limit of a derivation.
use Rattle.std.specs.Prelude.{◌<◌, ◌≤◌, ℕ, ℤ, pos, negsuc, ◌≤ℤ◌}
use Rattle.derivation.specs.declared.half.Half.{Half}
use Rattle.derivation.specs.declared.half.Half.TheVariants.{OfPlace, OfSide}
use Rattle.derivation.specs.Covers.{IsCut}
use Rattle.derivation.specs.Fits.{IsPlace}
use Rattle.derivation_check.specs.declared.saved.Saved.{Saved}
use Rattle.derivation_check.specs.declared.saved.Saved.TheVariants.{Places, Ends}
use Rattle.derivation_check.specs.declared.progress.Task.{Task}
use Rattle.derivation_check.specs.declared.progress.Task.TheVariants.{Again, Last}
use Rattle.derivation_check.specs.declared.progress.Owner.{Owner}
use Rattle.derivation_check.specs.declared.progress.Owner.TheVariants as owners
use Rattle.derivation_check.specs.declared.progress.Work.{Work}
use Rattle.derivation_check.specs.declared.progress.Work.TheVariants.{AtNode, OfDrop, OfList}

-- of the number of a cut
abbrev pub IsLimited : ℤ → Type 0
IsLimited v = (negsuc 999999999 ≤ℤ v) × (v ≤ℤ pos 1000000000)

abbrev pub HalfFits : ℕ → Half → Type 0
HalfFits K (OfPlace s) = IsPlace s
HalfFits K (OfSide side) = IsCut K side

abbrev pub SavedFits : ℕ → ℕ → Saved → Type 0
SavedFits n K (Places o ps) = o.0 < n
SavedFits n K (Ends o d lo hi) = (o.0 < n) × (d < K)

abbrev pub TaskFits : ℕ → ℕ → Task → Type 0
TaskFits n K (Again o half old) = (o.0 < n) × HalfFits K half × SavedFits n K old
TaskFits n K (Last old) = SavedFits n K old

abbrev pub OwnerFits : ℕ → Owner → Type 0
OwnerFits K owners.Gone = Unit {0}
OwnerFits K (owners.Bound side) = IsCut K side

abbrev pub WorkFits : ℕ → ℕ → Work → Type 0
WorkFits n K AtNode = Unit {0}
WorkFits n K (OfDrop o s) = (o.0 < n) × IsPlace s
WorkFits n K (OfList o c next s) = (o.0 < n) × OwnerFits K c × (1 ≤ next)

-- What a turn has made of the point, the jump and the record.
use Rattle.std.specs.Prelude.{◌≡◌, ◌⊎◌, ℕ, ◌+◌, ◌-◌, ◌*◌, ◌≤◌, ℤ, Bool, true, List, length, if◌then◌else◌, Result, is_ok, OnErr, IfOk, MatchBool}
use Rattle.geo_base.specs.Boxes.{Has}
use Rattle.geo_base.specs.Ways.{key, start}
use Rattle.derivation.specs.declared.event.Event.{Event}
use Rattle.derivation.specs.Events.{Growth}
use Rattle.sweep.specs.Chains.{IsOpen, IsRecordOf}
use Rattle.sweep.specs.Jump.{JumpsOn, IsUsedUp}

-- over the box from blo to bhi, which the condition of that number gave, the sweep of the region from lo to hi jumps on from c and n to c' and n',
-- or nothing is left; and the events, which were old and are new, are open again, or a cover of the region
pub record HasTurned {E : Type 0} (K lead : ℕ) (up keeps : Bool) (number : ℕ) (lo hi blo bhi past c n c' n' : List ℤ) (marks marks' : List ℕ) (old new : List Event) (before later : ℕ) (result : Result Bool E) : Type 0 where
  pub jump : IfOk result (λ more. MatchBool more (JumpsOn K lead up lo hi blo bhi past c n c' n') (IsUsedUp K lead up lo hi blo bhi c n))
  pub recorded : IfOk result (λ more. keeps ≡ true → (T : ℕ → List ℤ → List ℤ → Bool) (base : List Event) → T number blo bhi ≡ true
      → IsOpen K lead up T (key K lead up (start up lo hi)) (key K lead up past) (K - 1) (key K lead up c) (key K lead up n) marks base old
      → MatchBool more (IsOpen K lead up T (key K lead up (start up lo hi)) (key K lead up past) (K - 1) (key K lead up c') (key K lead up n') marks' base new) (IsRecordOf K T base new (Has K lo hi)))
  pub size : IfOk result (λ more. keeps ≡ true → length new ≤ length old + (if more then 2 * K else K + 2))
  pub few : OnErr result (keeps ≡ true → (length new ≤ length old + (K + 2)) ⊎ (JumpsOn K lead up lo hi blo bhi past c n c' n' × (length new ≤ length old + 2 * K)))
  pub grows : (T : ℕ → List ℤ → List ℤ → Bool) (base : List Event)
      → (keeps ≡ true → (T number blo bhi ≡ true) × IsOpen K lead up T (key K lead up (start up lo hi)) (key K lead up past) (K - 1) (key K lead up c) (key K lead up n) marks base old)
      → Growth keeps base new before later (is_ok result)

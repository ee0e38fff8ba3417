-- Numbers of conditions that stand for others, in events.
use Rattle.std.specs.Prelude.{◌≡◌, ℕ, ◌-◌, ◌≤◌, nat_le, if◌then◌else◌, true, List, length, slice_index_or}
use Rattle.geo_conditions.specs.declared.cond.Cond.{Cond}
use Rattle.geo_conditions.specs.Reach.{State}
use Rattle.derivation.specs.declared.event.Event.{Event}
use Rattle.derivation.specs.declared.event.Event.TheVariants.{By, Dead}
use Rattle.derivation.specs.declared.renumbering.Renumbering.{Renumbering}
use Rattle.derivation.specs.Covers.{refutes}

-- what the number stands for: itself, or behind the last of those the one of the list
abbrev pub number_for : Renumbering → ℕ → ℕ
number_for r i = if nat_le i r.same then i else slice_index_or r.others.items (i - r.same - 1) i

-- the event with what its number stands for
abbrev pub renumbered : Renumbering → Event → Event
renumbered r (By i) = By (number_for r i)
renumbered r (Dead i) = Dead (number_for r i)
renumbered r e = e

-- each number of the first conditions stands for one of the second, which is refuted where its own is
pub record StandsFor (r : Renumbering) (ps cs : List Cond) : Type 0 where
  pub refuted : (i : ℕ) (S : State) → refutes ps i S ≡ true → refutes cs (number_for r i) S ≡ true
  pub listed : (i : ℕ) → i ≤ length ps → number_for r i ≤ length cs
  -- over an empty box the number 1 may stand where there are no conditions
  pub first : length ps ≡ 0 → number_for r 1 ≡ 1

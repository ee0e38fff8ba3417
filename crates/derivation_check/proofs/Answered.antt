-- The answer to the events of one tree.
use Rattle.std.proofs.Common.{◌≡◌, ◌↔◌, ℕ, zero, suc, Bool, true, false, IsTrue, List, length, refl, sym}
use Rattle.std.specs.List.{All}
use Rattle.std.proofs.lemmas.Bool.{false≢true}
use Rattle.geo_conditions.specs.declared.cond.Cond.{Cond}
use Rattle.geo_conditions.specs.Reach.{State}
use Rattle.derivation.specs.declared.event.Event.{Event}
use Rattle.derivation.specs.Fits.{EventFits}
use Rattle.derivation.specs.Nodes.{Node, node_events}
use Rattle.derivation.specs.Valid.{rows, Fails, Valid}
use Rattle.derivation.proofs.Leaves.{all_at}
use Rattle.derivation_check.specs.declared.progress.Checked.{Checked}
use Rattle.derivation_check.specs.declared.progress.Checked.TheVariants.{Yes, No}
use Rattle.derivation_check.specs.Judges.{Judges}
use Rattle.derivation_check.specs.Trees.{IsOneTree, IsValidTree}

-- no node of a valid derivation fails
none_fails : (cs : List Cond) (S : State) (root : Node) (n : ℕ) → Valid cs S root → Fails cs S root n → ⊥
none_fails cs S root zero v f = f
none_fails cs S root (suc n) v f = false≢true (all_at (λ b. b ≡ true) (rows cs S root) n false v f)

-- it is yes exactly where the tree is valid
pub yes_where_valid : (K : ℕ) (cs : List Cond) (S : State) (es : List Event) (answer : Checked) → All (EventFits (length S) K) es → IsOneTree es → ((root : Node) → node_events root ≡ es → Judges cs S root answer)
    → (told : Bool) → IsTrue told ↔ answer ≡ Yes → IsTrue told ↔ IsValidTree K cs S es
yes_where_valid K cs S es Yes fits one judged told said = (
  λ _. record { root = one.0; events = one.1; valid = judged one.0 (sym one.1); fits = fits },
  λ _. said.1 refl,
)
yes_where_valid K cs S es (No n) fits one judged told said = (
  λ h. absurd (let e : No n ≡ Yes = said.0 h in cc),
  λ t. absurd (none_fails cs S t.root n t.valid (judged t.root (sym t.events)).fails),
)

-- The record of the loop over the queue.
use Rattle.std.proofs.Common.{◌≡◌, ℕ, ◌+◌, ◌-◌, true, false, List, [], length, sym, subst, arith, slice_index}
use Rattle.std.proofs.lemmas.List.{append-nil}
use Rattle.std.proofs.lemmas.Option.{get_or_from_slice_get}
use Rattle.geo_conditions.specs.declared.cond.Cond.{Cond}
use Rattle.geo_conditions.specs.Conditions.{possible}
use Rattle.geo_conditions.specs.Reach.{State}
use Rattle.derivation.specs.declared.event.Event.{Event}
use Rattle.derivation.specs.Covers.{refutes}
use Rattle.derivation.proofs.Chains.{leads_nil, led_on, led_closed}
use Rattle.geo_state.specs.declared.propagate.Settled.TheVariants.{Kept, Dead}
use Rattle.geo_state.specs.Settle.{Records}
use Rattle.derivation.proofs.Refuting.{refutes_at}
use Rattle.sweep.specs.Picks.{ArePicks, PicksAt}
use Rattle.sweep.proofs.PickedConditions.{pick_in}
use Rattle.object_pruning.specs.declared.prune.Pruned.TheVariants.{Empty, Changed}
use Rattle.fixpoint.specs.Record.{RecordsPruning}

-- nothing is recorded yet
pub records_start : (cs : List Cond) (S : State) (old : List Event) → Records cs S Kept S old old
records_start cs S old = ([], sym (append-nil old), leads_nil cs S)

-- the events of a pruning behind a chain go on with it
pub records_on : (cs : List Cond) (S R T : State) (old mid new : List Event) → Records cs S Kept R old mid → RecordsPruning cs R Changed T mid new → Records cs S Kept T old new
records_on cs S R T old mid new p q = led_on cs S R T old mid new p q

-- and those of a dead end close it
pub records_dead : (cs : List Cond) (S R T : State) (old mid new : List Event) → Records cs S Kept R old mid → RecordsPruning cs R Empty T mid new → Records cs S Dead T old new
records_dead cs S R T old mid new p q = led_closed cs S R old mid new p q

-- a picked condition that is not possible is refuted, by its number
pub refutes_picked : (cs : List Cond) (picks : List ℕ) (k : ℕ) (x : Cond) (S : State) → ArePicks (length cs) picks → PicksAt cs picks k x → possible x S ≡ false → refutes cs (slice_index picks k) S ≡ true
refutes_picked cs picks k x S a p f =
    let i = slice_index picks k - 1 in
    let w = pick_in (length cs) picks k a p.0 in
    let same : i + 1 ≡ slice_index picks k = omega (arith, w.0) in
    subst (λ (n : ℕ). refutes cs n S ≡ true) same (refutes_at cs i x S w.1 (sym (get_or_from_slice_get cs i x x p.1)) f)

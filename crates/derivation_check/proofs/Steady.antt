-- What no event changes: the objects, and the dimensions of each.
use Rattle.std.proofs.Common.{◌≡◌, ℕ, ◌+◌, ◌<◌, ◌≤◌, List, [], ◌∷◌, ◌++◌, length, get_or, take, refl, sym, ap, ◌∙◌, subst, arith}
use Rattle.std.specs.Prelude.{Result, Ok, Err, OnOk, OnErr}
use Rattle.std.proofs.lemmas.List.{take_more}
use Rattle.derivation_check.proofs.Runs.{run_append}
use Rattle.std.proofs.Math.ListN.{length-set}
use Rattle.geo_conditions.specs.declared.cond.Cond.{Cond}
use Rattle.geo_conditions.specs.Reach.{State, Region, reach}
use Rattle.derivation.specs.declared.event.Event.{Event}
use Rattle.derivation.specs.declared.event.Event.TheVariants.{SplitShape, SplitUpto, SplitFrom, Drop, Raise, Lower, Gone, Dead, Cover, EndCovers, By, Cut, CutFrom}
use Rattle.derivation.specs.declared.side.Side.TheVariants.{Upto, From}
use Rattle.derivation.specs.declared.half.Half.TheVariants.{OfPlace, OfSide}
use Rattle.derivation.specs.Valid.{second_part, change}
use Rattle.derivation_check.proofs.SameDims.{SameDims, same_self, same_trans, same_set, same_first, same_second}
use Rattle.derivation_check.specs.declared.saved.Saved.{Saved}
use Rattle.derivation_check.specs.declared.saved.Saved.TheVariants.{Places, Ends}
use Rattle.derivation_check.specs.declared.progress.Task.{Task}
use Rattle.derivation_check.specs.declared.progress.Task.TheVariants.{Again, Last}
use Rattle.derivation_check.specs.declared.progress.Owner.TheVariants as owners
use Rattle.derivation_check.specs.declared.progress.Work.{Work}
use Rattle.derivation_check.specs.declared.progress.Work.TheVariants.{AtNode, OfDrop, OfList}
use Rattle.derivation_check.specs.Machine.{Machine, undo, back, named, closed, by_leaf, step, run, start, HasTaken}

same_undo : (old : Saved) (S : State) → SameDims S (undo old S)
same_undo (Places o ps) S = same_set S o.0 _ refl
same_undo (Ends o d lo hi) S = same_set S o.0 _ (length-set (reach S o.0).region.lo d lo)

same_back : (ts : List Task) (S : State) → SameDims S (back ts S)
same_back [] S = same_self S
same_back (Last old ∷ ts) S = same_trans S (undo old S) (back ts (undo old S)) (same_undo old S) (same_back ts (undo old S))
same_back (Again o half old ∷ ts) S = same_trans S (undo old S) (change (second_part half) (undo old S) o.0) (same_undo old S) (same_second half (undo old S) o.0)

-- one event: the same shape, and at most one node more
pub record GoesOn (m n : Machine) : Type 0 where
  pub shape : SameDims m.state n.state
  pub nodes : n.nodes ≤ m.nodes + 1

name_on : (w : Work) (s : ℕ) (m : Machine) → GoesOn m (named w s m)
name_on AtNode s m = record { shape = same_self m.state; nodes = omega arith }
name_on (OfDrop o t) s m = record { shape = same_self m.state; nodes = omega arith }
name_on (OfList o c n t) s m = record { shape = same_self m.state; nodes = omega arith }

close_on : (w : Work) (m : Machine) → GoesOn m (closed w m)
close_on AtNode m = record { shape = same_self m.state; nodes = omega arith }
close_on (OfDrop o t) m = record { shape = same_self m.state; nodes = omega arith }
close_on (OfList o owners.Gone n t) m = record { shape = same_back m.tasks m.state; nodes = omega arith }
close_on (OfList o (owners.Bound side) n t) m = record { shape = same_first (OfSide side) m.state o.0; nodes = omega arith }

by_on : (cs : List Cond) (i : ℕ) (bs : List Region) (w : Work) (m : Machine) → m.work ≡ w → GoesOn m (by_leaf cs i bs m)
by_on cs i [] w m e = record { shape = same_self m.state; nodes = omega arith }
by_on cs i (b ∷ c ∷ bs) w m e = record { shape = same_self m.state; nodes = omega arith }
by_on cs i (b ∷ []) AtNode m e = rw e (record { shape = same_self m.state; nodes = omega arith })
by_on cs i (b ∷ []) (OfDrop o s) m e = rw e (record { shape = same_second (OfPlace s) m.state o.0; nodes = omega arith })
by_on cs i (b ∷ []) (OfList o c n s) m e = rw e (record { shape = same_self m.state; nodes = omega arith })

pub step_on : (cs : List Cond) (m : Machine) (e : Event) → GoesOn m (step cs m e)
step_on cs m (SplitShape o s) = record { shape = same_first (OfPlace s) m.state o.0; nodes = omega arith }
step_on cs m (SplitUpto o d v) = record { shape = same_first (OfSide (Upto d v)) m.state o.0; nodes = omega arith }
step_on cs m (SplitFrom o d v) = record { shape = same_first (OfSide (From d v)) m.state o.0; nodes = omega arith }
step_on cs m (Drop o s) = record { shape = same_self m.state; nodes = omega arith }
step_on cs m (Raise o d v) = record { shape = same_self m.state; nodes = omega arith }
step_on cs m (Lower o d v) = record { shape = same_self m.state; nodes = omega arith }
step_on cs m (Gone o) = record { shape = same_self m.state; nodes = omega arith }
step_on cs m (Dead i) = record { shape = same_back m.tasks m.state; nodes = omega arith }
step_on cs m (Cover s) = name_on m.work s m
step_on cs m EndCovers = close_on m.work m
step_on cs m (By i) = by_on cs i m.boxes m.work m refl
step_on cs m (Cut d v) = record { shape = same_self m.state; nodes = omega arith }
step_on cs m (CutFrom d v) = record { shape = same_self m.state; nodes = omega arith }

pub run_more : (cs : List Cond) (es : List Event) (i : ℕ) (d : Event) (m : Machine) → i < length es → step cs (run cs (take i es) m) (get_or es i d) ≡ run cs (take (i + 1) es) m
run_more cs es i d m h = sym (ap (λ (z : List Event). run cs z m) (take_more es i d h) ∙ run_append cs (take i es) (get_or es i d ∷ []) m)

-- one more event taken
pub record Taken (cs : List Cond) (S : State) (es : List Event) (i : ℕ) (m : Machine) : Type 0 where
  pub taken : m ≡ run cs (take i es) (start S)
  pub shape : SameDims S m.state
  pub few : m.nodes ≤ i

pub taken_more : (cs : List Cond) (S : State) (es : List Event) (i : ℕ) (d : Event) (m n : Machine) → i < length es → Taken cs S es i m → n ≡ step cs m (get_or es i d) → Taken cs S es (i + 1) n
taken_more cs S es i d m n h t e =
    let o = step_on cs m (get_or es i d) in
    record {
      taken = e ∙ ap (λ (z : Machine). step cs z (get_or es i d)) t.taken ∙ run_more cs es i d (start S) h;
      shape = same_trans S m.state n.state t.shape (subst (λ (z : Machine). SameDims m.state z.state) (sym e) o.shape);
      few = let q : n.nodes ≤ m.nodes + 1 = subst (λ (z : Machine). z.nodes ≤ m.nodes + 1) (sym e) o.nodes in omega (arith, t.few);
    }

pub shape_of : {A E : Type 0} (cs : List Cond) (m n : Machine) (e : Event) (r : Result A E) → OnOk r (n ≡ step cs m e) → OnErr r (n ≡ m) → SameDims m.state n.state
shape_of cs m n e (Ok x) f g = subst (λ (z : Machine). SameDims m.state z.state) (sym f) (step_on cs m e).shape
shape_of cs m n e (Err x) f g = subst (λ (z : Machine). SameDims m.state z.state) (sym g) (same_self m.state)

-- an event more, where it was taken
pub taken_on : {A E : Type 0} (cs : List Cond) (m n : Machine) (e : Event) (r : Result A E) → OnOk r (n ≡ step cs m e) → OnOk r ((first : State) (es : List Event) → HasTaken cs first es m → HasTaken cs first (es ++ e ∷ []) n)
taken_on cs m n e (Ok x) f = λ first es h. f ∙ ap (λ (z : Machine). step cs z e) h ∙ sym (run_append cs es (e ∷ []) (start first))
taken_on cs m n e (Err x) f = tt

-- What is pushed on the open nodes fits, also where the state has changed.
use Rattle.std.proofs.Common.{◌≡◌, ◌<◌, ℕ, List, [], ◌∷◌, ◌++◌, length, sym, ap, ◌∙◌, subst}
use Rattle.std.specs.List.{All}
use Rattle.std.proofs.lemmas.List.{length-set}
use Rattle.std.proofs.lemmas.List.Elements.{All-push}
use Rattle.geo_conditions.specs.declared.object.ObjId.{ObjId}
use Rattle.geo_conditions.specs.Reach.{State, Reach, reach}
use Rattle.derivation.specs.declared.side.Side.TheVariants.{Upto, From}
use Rattle.derivation.specs.declared.half.Half.{Half}
use Rattle.derivation.specs.declared.half.Half.TheVariants.{OfPlace, OfSide}
use Rattle.derivation.specs.Valid.{change}
use Rattle.derivation_check.specs.declared.saved.Saved.{Saved}
use Rattle.derivation_check.specs.declared.progress.Task.{Task}
use Rattle.derivation_check.specs.declared.progress.Task.TheVariants.{Again, Last}
use Rattle.derivation_check.specs.declared.progress.Work.{Work}
use Rattle.derivation_check.specs.Fits.{HalfFits, SavedFits, TaskFits, WorkFits}
use Rattle.derivation_check.specs.Machine.{saved}

saved_fits : (half : Half) (S : State) (o : ObjId) (K : ℕ) → o.0 < length S → HalfFits K half → SavedFits (length S) K (saved half S o)
saved_fits (OfPlace s) S o K there cut = there
saved_fits (OfSide (Upto d v)) S o K there cut = (there, cut.0)
saved_fits (OfSide (From d v)) S o K there cut = (there, cut.0)

-- the state with what is left to one object changed has as many objects
as_many : (f : Reach → Reach) (S T : State) (o : ℕ) → T ≡ change f S o → length S ≡ length T
as_many f S T o made = sym (ap (λ (U : State). length U) made ∙ length-set S o (f (reach S o)))

pushed : (n m K : ℕ) (tasks now : List Task) (task : Task) → n ≡ m → All (TaskFits n K) tasks → TaskFits n K task → now ≡ tasks ++ task ∷ [] → All (TaskFits m K) now
pushed n m K tasks now task same all fits is =
    subst (λ (k : ℕ). All (TaskFits k K) now) same (subst (λ (ts : List Task). All (TaskFits n K) ts) (sym is) (All-push (TaskFits n K) tasks task all fits))

pub pushed_last : (half : Half) (S T : State) (o : ObjId) (K : ℕ) (tasks now : List Task) (old : Saved) (f : Reach → Reach) → o.0 < length S → HalfFits K half
    → All (TaskFits (length S) K) tasks → old ≡ saved half S o → now ≡ tasks ++ Last old ∷ [] → T ≡ change f S o.0 → All (TaskFits (length T) K) now
pushed_last half S T o K tasks now old f there cut all kept is made =
    pushed (length S) (length T) K tasks now (Last old) (as_many f S T o.0 made) all (subst (SavedFits (length S) K) (sym kept) (saved_fits half S o K there cut)) is

pub pushed_again : (half : Half) (S T : State) (o : ObjId) (K : ℕ) (tasks now : List Task) (old : Saved) (f : Reach → Reach) → o.0 < length S → HalfFits K half
    → All (TaskFits (length S) K) tasks → old ≡ saved half S o → now ≡ tasks ++ Again o half old ∷ [] → T ≡ change f S o.0 → All (TaskFits (length T) K) now
pushed_again half S T o K tasks now old f there cut all kept is made =
    pushed (length S) (length T) K tasks now (Again o half old) (as_many f S T o.0 made) all (there, cut, subst (SavedFits (length S) K) (sym kept) (saved_fits half S o K there cut)) is

pub work_stays : (f : Reach → Reach) (S T : State) (o K : ℕ) (work : Work) → T ≡ change f S o → WorkFits (length S) K work → WorkFits (length T) K work
work_stays f S T o K work made = subst (λ (n : ℕ). WorkFits n K work) (as_many f S T o made)

-- What propagation of parts says of the conditions that were taken apart.
use Rattle.std.proofs.Common.{◌≡◌, ℕ, ◌+◌, ◌-◌, ◌<◌, Bool, true, List, [], ◌∷◌, ◌++◌, length, map, take, drop, get_or, refl, sym, ap, ◌∙◌, subst, inl, inr, arith, ℤ, Result, Ok, Err, Some}
use Rattle.std.proofs.Props.{props}
use Rattle.std.proofs.Math.Logic.{∥∥₁_elim}
use Rattle.std.specs.Prelude.{slice_get, IfOk}
use Rattle.std.proofs.lemmas.Bool.{cases_Bool, cases_lt}
use Rattle.std.proofs.lemmas.List.{append_cancel_left, get_or-take, length-take}
use Rattle.std.proofs.Math.Seq.{take-append_seam, drop-append_seam}
use Rattle.std.proofs.lemmas.Option.{slice_get-get_or, get_or_from_slice_get, slice_get_within}
use Rattle.geo_conditions.specs.declared.cond.Cond.{Cond, Lin, Shape, NotShape, AtLeast', Row_of-Cond, end_of-Cond, more_of-Cond}
use Rattle.geo_conditions.specs.Reach.{State, just, with_at}
use Rattle.geo_conditions.specs.Conditions.{possible, FitsIn, AllFitIn, AllFit}
use Rattle.geo_conditions.specs.Supported.{NoneRefuted, Supports, IsSupported}
use Rattle.geo_conditions.proofs.Defaults.{any_default}
use Rattle.derivation.specs.declared.event.Event.{Event}
use Rattle.derivation.specs.declared.event.Event.TheVariants.{SplitShape, SplitUpto, SplitFrom, Drop, Raise, Lower, Gone, Dead, Cover, EndCovers, By, Cut, CutFrom}
use Rattle.derivation.specs.declared.renumbering.Renumbering.{Renumbering}
use Rattle.derivation.specs.Events.{Continues, Growth}
use Rattle.derivation.specs.Renumbered.{number_for, renumbered, StandsFor}
use Rattle.derivation.proofs.Refuting.{refutes_at, some_refuted}
use Rattle.derivation.proofs.RenumberedChains.{leads_with, closes_with}
use Rattle.geo_state.specs.declared.propagate.Settled.{Settled}
use Rattle.geo_state.specs.declared.propagate.Settled.TheVariants.{Kept, Dead as NoneLeft}
use Rattle.geo_state.specs.Settle.{IsBare, Settles, SettlesOr, Records, BlamesFirst}
use Rattle.condition_parts.specs.Apart.{IsTakenApart}
use Rattle.condition_parts.proofs.Apart.{number_same}

-- ---- that a condition fits is one fact

mutual
  fits_once : (c : Cond) (S : State) → IsProp (FitsIn c S)
  fits_once (Lin f) S = hlevel props
  fits_once (Shape o s) S = hlevel props
  fits_once (NotShape o s) S = hlevel props
  fits_once (AtLeast' n shape cs) S = row_once cs S

  row_once : {m : _} (cs : Row_of-Cond m) (S : State) → IsProp (AllFitIn cs S)
  row_once end_of-Cond S = hlevel props
  row_once (more_of-Cond c cs) S = hlevel (fits_once c S, row_once cs S)

-- ---- events behind the old ones

behind_old : (r : Renumbering) (old mid new es : List Event) → mid ≡ old ++ es → new ≡ take (length old) mid ++ map (renumbered r) (drop (length old) mid) → new ≡ old ++ map (renumbered r) es
behind_old r old mid new es e f =
    f ∙ ap (λ (xs : List Event). take (length old) xs ++ map (renumbered r) (drop (length old) xs)) e
    ∙ ap (λ (xs : List Event). xs ++ map (renumbered r) (drop (length old) (old ++ es))) (take-append_seam old es)
    ∙ ap (λ (xs : List Event). old ++ map (renumbered r) xs) (drop-append_seam old es)

-- an event that says that a condition is refuted said so before
dead_of : (r : Renumbering) (e : Event) (i : ℕ) → renumbered r e ≡ Dead i → (j : ℕ) × (e ≡ Dead j) × (number_for r j ≡ i)
dead_of r (SplitShape o s) i h = absurd (let w : SplitShape o s ≡ Dead i = h in cc)
dead_of r (SplitUpto o d v) i h = absurd (let w : SplitUpto o d v ≡ Dead i = h in cc)
dead_of r (SplitFrom o d v) i h = absurd (let w : SplitFrom o d v ≡ Dead i = h in cc)
dead_of r (Drop o s) i h = absurd (let w : Drop o s ≡ Dead i = h in cc)
dead_of r (Raise o d v) i h = absurd (let w : Raise o d v ≡ Dead i = h in cc)
dead_of r (Lower o d v) i h = absurd (let w : Lower o d v ≡ Dead i = h in cc)
dead_of r (Gone o) i h = absurd (let w : Gone o ≡ Dead i = h in cc)
dead_of r (Dead j) i h = (j, refl, let w : Dead (number_for r j) ≡ Dead i = h in cc)
dead_of r (Cover s) i h = absurd (let w : Cover s ≡ Dead i = h in cc)
dead_of r EndCovers i h = absurd (let w : EndCovers ≡ Dead i = h in cc)
dead_of r (By j) i h = absurd (let w : By (number_for r j) ≡ Dead i = h in cc)
dead_of r (Cut d v) i h = absurd (let w : Cut d v ≡ Dead i = h in cc)
dead_of r (CutFrom d v) i h = absurd (let w : CutFrom d v ≡ Dead i = h in cc)

-- so did a list of one
one_dead : (r : Renumbering) (es : List Event) (i : ℕ) → map (renumbered r) es ≡ Dead i ∷ [] → (j : ℕ) × (es ≡ Dead j ∷ []) × (number_for r j ≡ i)
one_dead r [] i h = absurd (let w : [] ≡ Dead i ∷ [] = h in cc)
one_dead r (e ∷ []) i h =
    let w : renumbered r e ∷ [] ≡ Dead i ∷ [] = h in
    let d = dead_of r e i cc in
    (d.0, ap (λ (x : Event). x ∷ []) d.1, d.2)
one_dead r (e ∷ f ∷ es) i h = absurd (let w : renumbered r e ∷ (renumbered r f ∷ map (renumbered r) es) ≡ Dead i ∷ [] = h in cc)

-- ---- the same states are supported

module _ (cs ps : List Cond) (r : Renumbering) (h : ∥ IsTakenApart cs ps r ∥₁) where
  enough : (S : State) → NoneRefuted ps S → NoneRefuted cs S
  enough S n k d l = ∥∥₁_elim h (hlevel props) (λ a. a.enough S n k d l)

  stands : StandsFor r ps cs
  stands = record {
    refuted = λ i S e. ∥∥₁_elim h (hlevel props) (λ a. a.stands.refuted i S e);
    listed = λ i l. ∥∥₁_elim h (hlevel props) (λ a. a.stands.listed i l);
    first = λ e. ∥∥₁_elim h (hlevel props) (λ a. a.stands.first e);
  }

  needed : (S : State) → NoneRefuted cs S → NoneRefuted ps S
  needed S n k d l = elim (cases_Bool (possible (get_or ps k d) S)) [
    | inl e ↦ e
    | inr e ↦ absurd (some_refuted cs (number_for r (k + 1)) S (stands.refuted (k + 1) S (refutes_at ps k (get_or ps k d) S l (any_default ps k d (get_or ps k d) l) e)) n)
  ]

  -- the parts fit where the conditions do
  pub parts_fit : (S : State) → AllFit cs S → AllFit ps S
  parts_fit S f k d l = ∥∥₁_elim h (fits_once (get_or ps k d) S) (λ a. a.fit S f k d l)

  supported_from : (fs bs : List Cond) → ((T : State) → NoneRefuted fs T → NoneRefuted bs T) → (S : State) → IsSupported fs S → IsSupported bs S
  supported_from fs bs f S a =
      let sup = λ (o s : ℕ) (p : List ℤ) (x : Supports fs S o s p). let y : Supports bs S o s p = record { place = x.place; point = x.point; unrefuted = f (with_at S o s (just p)) x.unrefuted } in y in
      record {
        nonempty = a.nonempty;
        unrefuted = f S a.unrefuted;
        places = λ o s l q. let x = a.places o s l q in (x.0, sup o s x.0 x.1);
        lows = λ o d l m. let x = a.lows o d l m in (x.0, x.1, sup o x.0 x.1 x.2, x.3);
        highs = λ o d l m. let x = a.highs o d l m in (x.0, x.1, sup o x.0 x.1 x.2, x.3);
      }

  settles_one : (S T : State) (a : Settled) → Settles ps S a T → Settles cs S a T
  settles_one S T Kept g = record {
    supported = supported_from ps cs enough T g.supported;
    inside = g.inside;
    greatest = λ U u i. g.greatest U (supported_from cs ps needed U u) i;
  }
  settles_one S T NoneLeft g = (λ U u i. g.0 U (supported_from cs ps needed U u) i, g.1)

  pub settles_whole : {E : Type 0} (S T : State) (x : Result Settled E) → SettlesOr ps S x T → SettlesOr cs S x T
  settles_whole S T (Ok a) g = settles_one S T a g
  settles_whole S T (Err e) g = g

  records_one : (S T : State) (a : Settled) (old mid new : List Event) → new ≡ take (length old) mid ++ map (renumbered r) (drop (length old) mid) → Records ps S a T old mid → Records cs S a T old new
  records_one S T Kept old mid new e x = (map (renumbered r) x.0, behind_old r old mid new x.0 x.1 e, leads_with r ps cs stands S T x.0 x.2)
  records_one S T NoneLeft old mid new e x = (map (renumbered r) x.0, behind_old r old mid new x.0 x.1 e, closes_with r ps cs stands S x.0 x.2)

  -- what is recorded with the other numbers is of the conditions
  pub records_whole : {E : Type 0} (S T : State) (x : Result Settled E) (keeps : Bool) (old mid new : List Event) → (keeps ≡ true → new ≡ take (length old) mid ++ map (renumbered r) (drop (length old) mid))
      → IfOk x (λ a. keeps ≡ true → Records ps S a T old mid) → IfOk x (λ a. keeps ≡ true → Records cs S a T old new)
  records_whole S T (Ok a) keeps old mid new e x = λ k. records_one S T a old mid new (e k) (x k)
  records_whole S T (Err f) keeps old mid new e x = x

  blames_one : (S : State) (old mid new es : List Event) → mid ≡ old ++ es → new ≡ take (length old) mid ++ map (renumbered r) (drop (length old) mid) → BlamesFirst ps S old mid → BlamesFirst cs S old new
  blames_one S old mid new es e f x i g k d l bare =
      let one = one_dead r es i (append_cancel_left old (map (renumbered r) es) (Dead i ∷ []) (sym (behind_old r old mid new es e f) ∙ g)) in
      let j = one.0 in
      let all = x j (e ∙ ap (λ (ys : List Event). old ++ ys) one.1) in
      let short = length-take (i - 1) cs in
      let there : k < length cs = omega (arith, l, short) in
      let near : k < i - 1 = omega (arith, l, short) in
      let same : get_or (take (i - 1) cs) k d ≡ get_or cs k d = get_or-take (i - 1) cs k d near in
      let own : IsBare (get_or cs k d) = subst IsBare same bare in
      subst (λ (c : Cond). possible c S ≡ true) (sym same)
      (∥∥₁_elim h (hlevel props) (λ a.
      let q : slice_get ps k ≡ Some (get_or cs k d) = a.bare k (get_or cs k d) (slice_get-get_or cs k d there) own in
      let in_parts : k < length ps = slice_get_within ps k (get_or cs k d) q in
      let read : get_or ps k d ≡ get_or cs k d = get_or_from_slice_get ps k (get_or cs k d) d q in
      let before : k < j - 1 = before_number j i k (one.2) a.same near there in
      let cut = length-take (j - 1) ps in
      let at : get_or (take (j - 1) ps) k d ≡ get_or cs k d = get_or-take (j - 1) ps k d before ∙ read in
      subst (λ (c : Cond). possible c S ≡ true) at (all k d (omega (arith, cut, before, in_parts)) (subst IsBare (sym at) own))))
    where
      before_number : (j i k : ℕ) → number_for r j ≡ i → r.same ≡ length cs → k < i - 1 → k < length cs → k < j - 1
      before_number j i k e same near there = elim (cases_lt r.same j) [
        | inl past ↦ omega (arith, past, same, there)
        | inr within ↦ let f : number_for r j ≡ j = number_same r j within in omega (arith, e, f, near)
      ]

  pub blames_whole : {E : Type 0} (S : State) (x : Result Settled E) (keeps : Bool) (old mid new : List Event) → (keeps ≡ true → Continues old mid) → (keeps ≡ true → new ≡ take (length old) mid ++ map (renumbered r) (drop (length old) mid))
      → IfOk x (λ a. keeps ≡ true → BlamesFirst ps S old mid) → IfOk x (λ a. keeps ≡ true → BlamesFirst cs S old new)
  blames_whole S (Ok a) keeps old mid new c e x = λ k. let m = c k in blames_one S old mid new m.0 m.1 (e k) (x k)
  blames_whole S (Err f) keeps old mid new c e x = x

-- a record whose numbers were changed behind the old events has grown as it had
pub grows_whole : (r : Renumbering) (keeps : Bool) (old mid new : List Event) (before between later : ℕ) (done : Bool) → (keeps ≡ true → new ≡ take (length old) mid ++ map (renumbered r) (drop (length old) mid)) → later ≡ between
    → Growth keeps old mid before between done → Growth keeps old new before later done
grows_whole r keeps old mid new before between later done e f g = record {
  events = λ k. let m = g.events k in (map (renumbered r) m.0, behind_old r old mid new m.0 m.1 (e k));
  refusals = let w = g.refusals in omega (arith, w, f);
  refused = λ d. let w = g.refused d in omega (arith, w, f);
  no_record = g.no_record;
}

-- What the pruning of an object by the conditions that name it means for all conditions.
use Rattle.std.proofs.Common.{◌≡◌, ℕ, zero, suc, ◌<◌, true, List, [], ◌∷◌, length, get_or, sym, ◌∙◌, subst, inl, inr, arith, ℤ, pos, ◌≤ℤ◌, Some}
use Rattle.std.specs.Prelude.{slice_get}
use Rattle.std.specs.List.{All}
use Rattle.std.proofs.lemmas.Int.{ints}
use Rattle.std.proofs.lemmas.Bool.{cases_lt, cases_eq}
use Rattle.std.proofs.lemmas.List.{get_or_past}
use Rattle.std.proofs.lemmas.List.Elements.{All-head, All-tail}
use Rattle.std.proofs.lemmas.Option.{same_Some}
use Rattle.geo_conditions.specs.declared.cond.Cond.{Cond}
use Rattle.geo_conditions.specs.Conditions.{possible}
use Rattle.geo_conditions.specs.Reach.{State, reach, low, high, dims, just, with_at, Within, Inside, HasNoEmpty}
use Rattle.geo_conditions.specs.Supported.{Supports, IsSupported, NoneInside, NoneRefuted}
use Rattle.geo_conditions.specs.Keeps.{Keeps}
use Rattle.geo_conditions.proofs.Points.{supports_wider, unrefuted_wider}
use Rattle.geo_conditions.proofs.Monotone.{le_trans}
use Rattle.derivation.specs.Covers.{refutes}
use Rattle.derivation.proofs.Refuting.{some_refuted}
use Rattle.sweep.specs.Picks.{picked}
use Rattle.sweep.proofs.PickedConditions.{picked_all}
use Rattle.object_pruning.specs.declared.prune.Pruned.{Pruned}
use Rattle.object_pruning.specs.declared.prune.Pruned.TheVariants.{Empty, Changed, Same}
use Rattle.object_pruning.specs.Same.{SameBut}
use Rattle.fixpoint.specs.Near.{NearSupports, IsFine, BarePossible}
use Rattle.object_pruning.specs.Pruning.{CanBe, HasSamePoints, IsTight, PrunesTo}
use Rattle.fixpoint.specs.Links.{PicksOf, BareOf, names_none}
use Rattle.fixpoint.specs.Queue.{Prunes}
use Rattle.fixpoint.proofs.Linking.{named_all, numbers_all, none_named}

got : {X : Type 0} (P : X → Type 0) (xs : List X) (i : ℕ) (x : X) → All P xs → slice_get xs i ≡ Some x → P x
got P [] i x a e = absurd (cc)
got P (y ∷ xs) zero x a e = subst P (same_Some _ _ e) (All-head P y xs a)
got P (y ∷ xs) (suc i) x a e = got P xs i x (All-tail P y xs a) e

-- what is picked is in the list
pub all_picked : {X : Type 0} (P : X → Type 0) (list : List X) (picks : List ℕ) → All P list → All P (picked list picks)
all_picked P list picks a = picked_all P list picks (λ k x p. got P list _ x a p.1)

module _ (cs : List Cond) (o : ℕ) (picks : List ℕ) where
  -- a point of a supported state inside is a point
  can_be : (S U : State) (s : ℕ) (q : List ℤ) → o < length U → Inside U S → HasNoEmpty U → Supports cs U o s q → CanBe (picked cs picks) S o s q
  can_be S U s q h i n u =
      let y = supports_wider cs U S o s q h i n u in
      record { place = y.place; point = record { point = y.point; unrefuted = all_picked (λ c. possible c (with_at S o s (just q)) ≡ true) cs picks y.unrefuted } }

  none_inside : (S : State) → o < length S → ((s : ℕ) (q : List ℤ) → CanBe (picked cs picks) S o s q → ⊥) → NoneInside cs S
  none_inside S h none U s i =
      let b : o < length U = omega (arith, h, i.objects) in
      let t = (s.nonempty o b).place in
      let y = s.places o t.0 b t.1 in
      none t.0 y.0 (can_be S U t.0 y.0 b i s.nonempty y.1)

  -- a supported state inside stays within
  still_within : (S T U : State) → o < length S → HasSamePoints (picked cs picks) o S T → Inside T S → IsSupported cs U → Inside U S → Within (reach U o) (reach T o)
  still_within S T U h k j s i =
      let b : o < length U = omega (arith, h, i.objects) in
      let t = (s.nonempty o b).place in
      let z = s.places o t.0 b t.1 in
      let same : length (reach U o).region.lo ≡ length (reach U o).region.hi = sym z.1.point.same_lo ∙ z.1.point.same_hi in
      let lo : length (reach U o).region.lo ≡ length (reach T o).region.lo = (i.each o).same_lo ∙ sym (j.each o).same_lo in
      let hi : length (reach U o).region.hi ≡ length (reach T o).region.hi = (i.each o).same_hi ∙ sym (j.each o).same_hi in
      record {
        same_lo = lo;
        same_hi = hi;
        places = λ p x. let y = s.places o p b x in ((k.points p y.0).0 (can_be S U p y.0 b i s.nonempty y.1)).place;
        lows = λ d. elim (cases_lt d (dims U o)) [
          | inl l ↦ let y = s.lows o d b l in subst (λ (v : ℤ). low T o d ≤ℤ v) y.3 (((k.points y.0 y.1).0 (can_be S U y.0 y.1 b i s.nonempty y.2)).point.point.above d)
          | inr l ↦ rw (get_or_past (reach U o).region.lo d (pos 0) l, get_or_past (reach T o).region.lo d (pos 0) (omega (arith, l, lo))) (omega (arith, ints))
        ];
        highs = λ d. elim (cases_lt d (dims U o)) [
          | inl l ↦ let y = s.highs o d b l in subst (λ (v : ℤ). v ≤ℤ high T o d) y.3 (((k.points y.0 y.1).0 (can_be S U y.0 y.1 b i s.nonempty y.2)).point.point.below d)
          | inr l ↦ rw (get_or_past (reach U o).region.hi d (pos 0) (omega (arith, l, same)), get_or_past (reach T o).region.hi d (pos 0) (omega (arith, l, same, hi))) (omega (arith, ints))
        ];
      }

  keeps : (S T : State) → o < length S → HasSamePoints (picked cs picks) o S T → Inside T S → Keeps cs S T
  keeps S T h k j = record {
    inside = j;
    all = λ U s i. record {
      objects = i.objects ∙ sym j.objects;
      each = λ u. elim (cases_eq u o) [
        | inl e ↦ subst (λ (v : ℕ). Within (reach U v) (reach T v)) (sym e) (still_within S T U h k j s i)
        | inr ne ↦ subst (Within (reach U u)) (k.alone.each u ne) (i.each u)
      ];
    };
  }

  near : (S : State) (s : ℕ) (q : List ℤ) → PicksOf cs o picks → CanBe (picked cs picks) S o s q → NearSupports cs S o s q
  near S s q p y = record { place = y.place; point = y.point.point; unrefuted = named_all (λ c. possible c (with_at S o s (just q)) ≡ true) cs o picks p y.point.unrefuted }

  fine : (S : State) → PicksOf cs o picks → 0 < dims S o → IsTight (picked cs picks) S o → IsFine cs S o
  fine S p h t =
      let y = t.lows 0 h in
      record {
        full = record { place = (y.0, y.2.place); ranges = λ d. le_trans _ _ _ (y.2.point.point.above d) (y.2.point.point.below d) };
        places = λ s x. let z = t.places s x in (z.0, near S s z.0 p z.1);
        lows = λ d b. let z = t.lows d b in (z.0, z.1, near S z.0 z.1 p z.2, z.3);
        highs = λ d b. let z = t.highs d b in (z.0, z.1, near S z.0 z.1 p z.2, z.3);
      }

  pub prunes_of : (S T : State) (r : Pruned) → PicksOf cs o picks → o < length S → 0 < dims S o → SameBut o S T → PrunesTo (picked cs picks) o S r T → Prunes cs S o r T
  prunes_of S T Empty p h d alone k = (none_inside S h k.0, k.1, alone)
  prunes_of S T Changed p h d alone k = record {
    keeps = keeps S T h k.0 k.2;
    smaller = k.3;
    alone = k.0.alone;
    fine = fine T p (omega (arith, d, (k.2.each o).same_lo)) k.1;
  }
  prunes_of S T Same p h d alone k = (k.0, fine S p d k.1)

-- a refuted condition leaves no hope
pub hopeless : (cs : List Cond) (S : State) (i : ℕ) → refutes cs i S ≡ true → NoneInside cs S
hopeless cs S i r T s j = some_refuted cs i S r (unrefuted_wider cs T S j s.nonempty s.unrefuted)

-- the conditions without objects
pub bare_possible : (cs : List Cond) (S : State) (picks : List ℕ) → BareOf cs (length S) picks → NoneRefuted (picked cs picks) S → BarePossible cs S
bare_possible cs S picks p a k d b none = numbers_all (λ c. possible c S ≡ true) (names_none (length S)) cs picks p a k d b (none_named (get_or cs k d) (length S) none)

-- What is watched holds as long as it is told of each change.
use Rattle.std.proofs.Common.{◌+◌, ◌*◌, ◌≡◌, ◌≢◌, ◌⊎◌, ℕ, ◌<◌, ◌≤◌, ℤ, ◌+ℤ◌, List, length, map, replicate, Vec, Global, get_or, set, refl, sym, ap, ◌∙◌, subst, inl, inr, arith}
use Rattle.std.proofs.lemmas.Bool.{cases_eq, cases_lt}
use Rattle.std.proofs.lemmas.List.{get_or-map, get_or-set_same, get_or-set_other, get_or-replicate, get_or_past, length-replicate}
use Rattle.std.proofs.Math.ListN.{length-set}
use Rattle.std.specs.List.{All}
use Rattle.std.specs.Int.{w128}
use mir.Val.{to_z, of_z}
use Rattle.geo_base.specs.Boxes.{coordinate}
use Rattle.geo_base.specs.declared.TheConstants.{MAX_DIMS}
use Rattle.geo_conditions.specs.declared.object.TheConstants.{MAX_OBJECTS}
use Rattle.geo_conditions.proofs.Products.{kept, sum_fits}
use Rattle.geo_conditions.specs.declared.cond.Cond.{Cond, Lin, Shape, NotShape, AtLeast'}
use Rattle.geo_conditions.specs.Form.{Sum}
use Rattle.geo_conditions.specs.Conditions.{least_product, least_term}
use Rattle.indexical.proofs.Values.{same_sum}
use Rattle.geo_conditions.specs.declared.object.ObjId.{ObjId}
use Rattle.geo_conditions.specs.Reach.{State, Reach, reach, just}
use Rattle.geo_conditions.proofs.Points.{reach_other}
use Rattle.indexical.specs.declared.any.AnyIndexical.{AnyIndexical}
use Rattle.indexical.specs.declared.watched.Watched.{Watched}
use Rattle.indexical.specs.Free.{SparesAnywhere}
use Rattle.watches.specs.declared.watches.Total.{Total}
use Rattle.watches.specs.declared.watches.Watch.{Watch}
use Rattle.watches.specs.declared.watches.Watches.{Watches}
use Rattle.watches.specs.declared.watches.TheConstants.{LAST, PLACES}
use Rattle.watches.specs.Rests.{RestsOn}
use Rattle.watches.specs.Watches.{AddsUp, HavePlaces, Hold, HoldAnyhow, IsAdded, IsFresh, IsNoted, IsPast, IsPut, IsTotal, IsWatched, Later, Rested, TellSpared, Totals}

-- a watch that is found, on a state
abbrev pub Rests : List Cond → State → Watches → Watch → Type 0
Rests cs S w x = (c : Cond) → x.condition < length cs → IsFresh w x → RestsOn (get_or cs x.condition c) S x.first.0 x.second.0

-- as many places as before
as_many : (old new : Watches) → length new.looks.items ≡ length old.looks.items → length new.found.items ≡ length old.found.items → HavePlaces old → HavePlaces new
as_many old new looks found h = (omega (arith, looks, h.0), omega (arith, looks, h.1), omega (arith, looks, found, h.2))

-- ---- changes

-- nothing changed yet
pub later_start : (Same : ℕ → Type 0) (w : Watches) → ((o : ℕ) → Same o) → Later Same w w
later_start Same w f = record { watched = refl; looks = refl; found = refl; totals = refl; objects = refl; clock = omega arith; still = λ h b o. f o; back = λ o t h l r. (r, f o) }

-- another test that follows
pub later_as : (First Second : ℕ → Type 0) (old new : Watches) → ((o : ℕ) → First o → Second o) → Later First old new → Later Second old new
later_as First Second old new f l = record {
  watched = l.watched;
  looks = l.looks;
  found = l.found;
  totals = l.totals;
  objects = l.objects;
  clock = l.clock;
  still = λ h b o. f o (l.still h b o);
  back = λ o t h b r. let y = l.back o t h b r in (y.0, f o y.1);
}

-- one change behind another
pub later_both : (First Second : ℕ → Type 0) (old mid new : Watches) → Later First old mid → Later Second mid new → Later (λ o. First o × Second o) old new
later_both First Second old mid new l m = record {
  watched = m.watched ∙ l.watched;
  looks = m.looks ∙ l.looks;
  found = m.found ∙ l.found;
  totals = m.totals ∙ l.totals;
  objects = m.objects ∙ l.objects;
  clock = omega (arith, l.clock, m.clock);
  still = λ h b o. (l.still (omega (arith, h, m.clock)) (omega (arith, b, m.clock)) o, m.still (omega (arith, h, l.clock)) b o);
  back = λ o t h b r.
      let y = m.back o t (omega (arith, h, l.clock)) b r in
      let z = l.back o t h b y.0 in
      (z.0, (z.1, y.1));
}

-- a form has the same least value where the objects are the same
same_total : (f : Sum) (S T : State) (v : ℤ) → ((o : ℕ) → reach S o ≡ reach T o) → IsTotal f S v → IsTotal f T v
same_total f S T v e t = record {
  least = t.least ∙ ap (λ (z : ℤ). f.constant +ℤ z) (same_sum (least_term S) (least_term T) f.terms (λ k x h. ap (λ (r : Reach). least_product (get_or f.terms k x).factor (coordinate r.region.lo (get_or f.terms k x).dimension) (coordinate r.region.hi (get_or f.terms k x).dimension)) (e (get_or f.terms k x).object.0)));
  small = t.small;
}

-- totals are right where the clock and the state are the same
totals_still : (cs : List Cond) (S : State) (old new : Watches) (x : Total) → new.clock ≡ old.clock → Totals cs S old x → Totals cs S new x
totals_still cs S old new x e t = record {
  past = omega (arith, t.past, e);
  value = λ c f m now b is. t.value c f m (now ∙ e) b is;
}

-- what is watched holds on a state in which each object that is said to be the same is
pub hold_later : (cs : List Cond) (S T : State) (old new : Watches) → length S ≡ length T → Hold cs S old → Later (λ o. reach S o ≡ reach T o) old new → Hold cs T new
hold_later cs S T old new long h l = record {
  watched = l.watched ∙ h.watched;
  places = as_many old new l.looks (ap length l.found) h.places;
  objects = l.objects ∙ h.objects ∙ long;
  past = subst (All (IsPast new)) (sym l.found) (λ i d b. let p = h.past i d b in (omega (arith, p.0, l.clock), p.1));
  rests = subst (All (Rests cs T new)) (sym l.found) (λ i d b c m f X ra rb.
      let x = get_or old.found.items i d in
      let p = h.past i d b in
      let y = l.back x.first.0 x.since p.0 p.1 f.0 in
      let z = l.back x.second.0 x.since p.0 p.1 f.1 in
      h.rests i d b c m (y.0, z.0) X (ra ∙ sym y.1) (rb ∙ sym z.1));
  as_many = ap length l.totals ∙ h.as_many ∙ sym l.looks;
  totals = subst (All (Totals cs T new)) (sym l.totals) (λ i d b.
      let t = h.totals i d b in
      record {
        past = omega (arith, t.past, l.clock);
        value = λ c f m now early is.
            let same : (get_or old.totals.items i d).since ≡ old.clock = omega (arith, t.past, l.clock, now) in
            same_total f S T (get_or old.totals.items i d).value (l.still (omega (arith, now, t.past)) (omega (arith, now, early))) (t.value c f m same early is);
      });
}

-- ---- what is found

-- a condition that rests on two objects spares each other one
pub rests_spare : (c : Cond) (S : State) (a b o : ℕ) → a ≢ o → b ≢ o → RestsOn c S a b → SparesAnywhere c S o
rests_spare c S a b o na nb r s p = r _ (reach_other S o s a (just p) na) (reach_other S o s b (just p) nb)

-- a fresh watch of the i-th condition tells of each object that is none of its two
pub watch_tells : (w : Watches) (k i o : ℕ) (x : Watch) → k < length w.found.items → x ≡ get_or w.found.items k x → x.condition ≡ i → x.first.0 ≢ o → x.second.0 ≢ o → IsFresh w x → TellSpared w i o
watch_tells w k i o x there read is first second fresh cs S c m h =
    let r : Rests cs S w x = subst (Rests cs S w) (sym read) (h.rests k x there) in
    rests_spare (get_or cs i c) S x.first.0 x.second.0 o first second (subst (λ (j : ℕ). RestsOn (get_or cs j c) S x.first.0 x.second.0) is (r c (subst (λ (j : ℕ). j < length cs) (sym is) m) fresh))

-- another watch of which the same holds
pub hold_put : (cs : List Cond) (S : State) (k : ℕ) (x : Watch) (old new : Watches) → k < length old.found.items → Hold cs S old → IsPut k x old new → IsPast old x → Rests cs S old x → Hold cs S new
hold_put cs S k x old new there h p e f = record {
  watched = p.watched ∙ h.watched;
  places = as_many old new p.looks (ap length p.found ∙ length-set old.found.items k x) h.places;
  objects = ap length p.changed ∙ h.objects;
  past = subst (All (IsPast new)) (sym p.found) (each (IsPast new) (past x e) (λ i d b. past (get_or old.found.items i d) (h.past i d b)));
  rests = subst (All (Rests cs S new)) (sym p.found) (each (Rests cs S new) (rests x f) (λ i d b. rests (get_or old.found.items i d) (h.rests i d b)));
  as_many = ap length p.totals ∙ h.as_many ∙ sym p.looks;
  totals = subst (All (Totals cs S new)) (sym p.totals) (λ i d b. totals_still cs S old new (get_or old.totals.items i d) p.clock (h.totals i d b));
}
  where
    each : (P : Watch → Type 0) → P x → All P old.found.items → All P (set old.found.items k x)
    each P here others i d b = elim (cases_eq i k) [
      | inl s ↦ subst P (sym (ap (λ (j : ℕ). get_or (set old.found.items k x) j d) s ∙ get_or-set_same old.found.items k x d there)) here
      | inr ne ↦ subst P (sym (get_or-set_other old.found.items k i x d ne)) (others i d (omega (arith, b, length-set old.found.items k x)))
    ]

    past : (y : Watch) → IsPast old y → IsPast new y
    past y q = (omega (arith, q.0, p.clock), q.1)

    rests : (y : Watch) → Rests cs S old y → Rests cs S new y
    rests y r c m fresh = r c m (subst (λ (ts : List ℕ). (get_or ts y.first.0 LAST ≤ y.since) × (get_or ts y.second.0 LAST ≤ y.since)) p.changed fresh)

-- two objects on which the i-th condition rests now
pub watched_put : (i k : ℕ) (a b : ObjId) (x : Watch) (old new : Watches) → k < length old.found.items → IsPut k x old new → (x.condition ≡ i) × (x.first ≡ a) × (x.second ≡ b) × (x.since ≡ old.clock) → old.clock < LAST → IsWatched i a.0 b.0 old new
watched_put i k a b x old new there p is early cs S h r =
    hold_put cs S k x old new there h p (omega (arith, is.3), omega (arith, is.3, early)) (λ c m fresh.
    subst (λ (j : ℕ). RestsOn (get_or cs j c) S x.first.0 x.second.0) (sym is.0)
    (subst (λ (o : ObjId). RestsOn (get_or cs i c) S o.0 x.second.0) (sym is.1) (subst (λ (o : ObjId). RestsOn (get_or cs i c) S a.0 o.0) (sym is.2) (r c (subst (λ (j : ℕ). j < length cs) is.0 m)))))

-- what is read of a list of conditions
pub cond_read : {K : ℕ} (xs : List (AnyIndexical K)) (i : ℕ) (x : AnyIndexical K) (c d : Cond) → i < length xs → x ≡ get_or xs i x → c ≡ x.cond → get_or (map (λ (y : AnyIndexical K). y.cond) xs) i d ≡ c
cond_read {K} xs i x c d h e is = get_or-map (λ (y : AnyIndexical K). y.cond) xs i x d h ∙ ap (λ (y : AnyIndexical K). y.cond) (sym e) ∙ sym is

-- ---- at the start

-- nothing was found, and each object changed after that
pub hold_blank : (n m k : ℕ) (x : Watch) (y : Total) (w : Watches) → length w.watched.items ≡ n → 0 < k → k ≤ PLACES → length w.looks.items ≡ k → w.found.items ≡ replicate (2 * k) x → w.totals.items ≡ replicate k y → w.changed.items ≡ replicate m 1 → w.clock ≡ 1 → x.since ≡ 0 → y.since ≡ 0 → HoldAnyhow n m w
hold_blank n m k x y w watched some few looks found totals changed now zero none cs S many objects = record {
  watched = watched ∙ sym many;
  places = (omega (arith, some, looks), omega (arith, few, looks), omega (arith, ap length found, length-replicate (2 * k) x, looks));
  objects = ap length changed ∙ length-replicate {A = ℕ} m 1 ∙ sym objects;
  past = each (IsPast w) (omega (arith, zero, now), omega (arith, zero));
  rests = each (Rests cs S w) (λ c b f. absurd (never x.first.0 (subst (λ (t : ℕ). Rested w t x.first.0) zero f.0)));
  as_many = ap length totals ∙ length-replicate k y ∙ sym looks;
  totals = subst (All (Totals cs S w)) (sym totals) (λ i d b. subst (Totals cs S w) (sym (get_or-replicate k i y d (omega (arith, b, length-replicate k y)))) (record {
    past = omega (arith, none, now);
    value = λ c f l e early is. absurd (omega (arith, none, now, e));
  }));
}
  where
    each : (P : Watch → Type 0) → P x → All P w.found.items
    each P here = subst (All P) (sym found) (λ i d b. subst P (sym (get_or-replicate (2 * k) i x d (omega (arith, b, length-replicate (2 * k) x)))) here)

    never : (o : ℕ) → Rested w 0 o → ⊥
    never o r = late (subst (λ (ts : List ℕ). get_or ts o LAST ≤ 0) changed r) (cases_lt o m)
      where
        late : get_or (replicate m 1) o LAST ≤ 0 → (o < m) ⊎ (m ≤ o) → ⊥
        late h (inl l) = let e : get_or (replicate m 1) o LAST ≡ 1 = get_or-replicate m o 1 LAST l in omega (arith, h, e)
        late h (inr l) = let e : get_or (replicate m 1) o LAST ≡ LAST = get_or_past (replicate m 1) o LAST (omega (arith, l, length-replicate {A = ℕ} m 1)) in omega (arith, h, e)

-- ---- other notes of which nothing is promised

pub hold_noted : (cs : List Cond) (S : State) (old new : Watches) → Hold cs S old → IsNoted old new → Hold cs S new
hold_noted cs S old new h n = record {
  watched = n.watched ∙ h.watched;
  places = as_many old new n.looks (ap length n.found) h.places;
  objects = ap length n.changed ∙ h.objects;
  past = subst (All (IsPast new)) (sym n.found) (λ i d b. let p = h.past i d b in (omega (arith, p.0, n.clock), p.1));
  rests = subst (All (Rests cs S new)) (sym n.found) (λ i d b c m fresh. h.rests i d b c m (subst (λ (ts : List ℕ). (get_or ts (get_or old.found.items i d).first.0 LAST ≤ (get_or old.found.items i d).since) × (get_or ts (get_or old.found.items i d).second.0 LAST ≤ (get_or old.found.items i d).since)) n.changed fresh));
  as_many = ap length n.totals ∙ h.as_many ∙ sym n.looks;
  totals = subst (All (Totals cs S new)) (sym n.totals) (λ i d b. totals_still cs S old new (get_or old.totals.items i d) n.clock (h.totals i d b));
}

-- another total that is right
pub hold_added : (cs : List Cond) (S : State) (k : ℕ) (x : Total) (old new : Watches) → k < length old.totals.items → Hold cs S old → IsAdded k x old new → Totals cs S old x → Hold cs S new
hold_added cs S k x old new there h a t = record {
  watched = a.watched ∙ h.watched;
  places = as_many old new a.looks (ap length a.found) h.places;
  objects = ap length a.changed ∙ h.objects;
  past = subst (All (IsPast new)) (sym a.found) (λ i d b. let p = h.past i d b in (omega (arith, p.0, a.clock), p.1));
  rests = subst (All (Rests cs S new)) (sym a.found) (λ i d b c m fresh. h.rests i d b c m (subst (λ (ts : List ℕ). (get_or ts (get_or old.found.items i d).first.0 LAST ≤ (get_or old.found.items i d).since) × (get_or ts (get_or old.found.items i d).second.0 LAST ≤ (get_or old.found.items i d).since)) a.changed fresh));
  as_many = ap length a.totals ∙ length-set old.totals.items k x ∙ h.as_many ∙ sym a.looks;
  totals = subst (All (Totals cs S new)) (sym a.totals) (λ i d b. totals_still cs S old new (get_or (set old.totals.items k x) i d) a.clock (each i d (omega (arith, b, length-set old.totals.items k x))));
}
  where
    each : (i : ℕ) (d : Total) → i < length old.totals.items → Totals cs S old (get_or (set old.totals.items k x) i d)
    each i d b = elim (cases_eq i k) [
      | inl s ↦ subst (Totals cs S old) (sym (ap (λ (j : ℕ). get_or (set old.totals.items k x) j d) s ∙ get_or-set_same old.totals.items k x d there)) t
      | inr ne ↦ subst (Totals cs S old) (sym (get_or-set_other old.totals.items k i x d ne)) (h.totals i d b)
    ]

-- a total that fits is kept by a cast
pub kept_total : (f : Sum) (S : State) (v : ℤ) → IsTotal f S v → IsTotal f S (to_z w128 (of_z w128 v))
kept_total f S v t = subst (IsTotal f S) (sym (kept v (sum_fits (MAX_OBJECTS * MAX_DIMS + 1) v (omega arith) t.small))) t

-- a total that is known, or is added up now
pub known_total : (i k : ℕ) (f : Sum) (S : State) (x : Total) (w : Watches) → k < length w.totals.items → x ≡ get_or w.totals.items k x → x.condition ≡ i → x.since ≡ w.clock → w.clock < LAST → AddsUp i f S (to_z w128 (of_z w128 x.value)) w w
known_total i k f S x w there read is now early = record {
  total = λ cs m form h.
      let t : Totals cs S w x = subst (Totals cs S w) (sym read) (h.totals k x there) in
      kept_total f S x.value (t.value (Lin f) f (omega (arith, m, is)) now (omega (arith, now, early)) (ap (λ (j : ℕ). get_or cs j (Lin f)) is ∙ form (Lin f)));
  hold = λ cs m form h. h;
}

pub summed_total : (i : ℕ) (f : Sum) (S : State) (v : ℤ) (w : Watches) → IsTotal f S v → AddsUp i f S v w w
summed_total i f S v w t = record { total = λ cs m form h. t; hold = λ cs m form h. h }

pub added_total : (i k : ℕ) (f : Sum) (S : State) (v : ℤ) (x : Total) (old new : Watches) → k < length old.totals.items → IsAdded k x old new → (x.condition ≡ i) × (x.value ≡ v) × (x.since ≡ old.clock) → IsTotal f S v → AddsUp i f S v old new
added_total i k f S v x old new there a is t = record {
  total = λ cs m form h. t;
  hold = λ cs m form h. hold_added cs S k x old new there h a (record {
    past = omega (arith, is.2);
    value = λ c g n now early same.
        let lin : Lin f ≡ Lin g = sym (ap (λ (j : ℕ). get_or cs j c) is.0 ∙ form c) ∙ same in
        subst (λ (u : Sum). IsTotal u S x.value) (lin_same f g lin) (subst (IsTotal f S) (sym is.1) t);
  });
}
  where
    form_of : Cond → Sum → Sum
    form_of (Lin g) d = g
    form_of (Shape o s) d = d
    form_of (NotShape o s) d = d
    form_of (AtLeast' n shape cs) d = d

    lin_same : (a b : Sum) → Lin a ≡ Lin b → a ≡ b
    lin_same a b e = ap (λ (c : Cond). form_of c a) e

pub hold_watched : (cs : List Cond) (S : State) (w : Watches) (v : Vec Watched Global) → length v.items ≡ length w.watched.items → Hold cs S w → Hold cs S (record { watched = v; looks = w.looks; found = w.found; totals = w.totals; changed = w.changed; clock = w.clock })
hold_watched cs S w v long h = record { watched = long ∙ h.watched; places = h.places; objects = h.objects; past = h.past; rests = h.rests; as_many = h.as_many; totals = λ i d b. totals_still cs S w (record { watched = v; looks = w.looks; found = w.found; totals = w.totals; changed = w.changed; clock = w.clock }) (get_or w.totals.items i d) refl (h.totals i d b) }

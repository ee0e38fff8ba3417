-- What a pruning adds to a record: chains, and covers of what an end cuts off.
use Rattle.std.proofs.Common.{◌≡◌, ℕ, zero, suc, ◌+◌, ◌-◌, ◌<◌, ◌≤◌, Bool, true, false, List, [], ◌∷◌, ◌++◌, length, set, take, refl, sym, ap, ◌∙◌, subst, arith, ℤ, pos, negsuc, ◌+ℤ◌, ◌≤ℤ◌, append_assoc, Option, Some, None}
use Rattle.std.specs.Int.{int_min, int_max}
use Rattle.std.proofs.lemmas.Int.{ints, clamps}
use Rattle.std.proofs.lemmas.List.{length-append}
use Rattle.std.proofs.lemmas.List.Elements.{All-contains}
use Rattle.std.proofs.Math.Seq.{take-append_seam, set-append_seam}
use Rattle.geo_base.specs.Boxes.{coordinate}
use Rattle.geo_base.specs.Ways.{toward}
use Rattle.geo_conditions.specs.declared.cond.Cond.{Cond}
use Rattle.geo_conditions.specs.Conditions.{AllFit}
use Rattle.geo_conditions.specs.Reach.{State, Region, reach, has, low, high, dims, with_low, with_high, without}
use Rattle.geo_conditions.proofs.Monotone.{le_trans}
use Rattle.geo_state.proofs.Narrower.{low_within, high_within}
use Rattle.derivation.specs.declared.event.Event.{Event}
use Rattle.derivation.specs.declared.event.Event.TheVariants.{Drop, Gone, Cover, EndCovers}
use Rattle.derivation.specs.Covers.{IsCut, HasNumbersIn}
use Rattle.derivation.specs.Cuts.{far}
use Rattle.derivation.specs.Events.{Continues, Growth}
use Rattle.derivation.specs.PlaceCovers.{covers_events, RecordedBelow, RecordedCovers, SmallerBox}
use Rattle.derivation.specs.Chains.{Narrows, IsGone, bound_event}
use Rattle.derivation.proofs.Chains.{leads_nil, leads_on}
use Rattle.derivation.proofs.Continuing.{continues_same, growth_done}
use Rattle.derivation.proofs.SmallerCovers.{box_same, box_within, upto_smaller, from_smaller, covers_smaller}
use Rattle.derivation.proofs.Listings.{recorded_start, recorded_skip, recorded_more, recorded_end, drop_led, bound_led}
use Rattle.geo_state.specs.Trail.{HasSmallIntervals, IsSmallEnd}
use Rattle.derivation.proofs.Leaves.{covered_numbers}
use Rattle.sweep.specs.Picks.{ArePicks}
use Rattle.sweep.specs.Sweep.{IsCovered, part_before}
use Rattle.object_pruning.specs.declared.kept.Placed.{Placed}
use Rattle.object_pruning.specs.Ends.{IsSooner}
use Rattle.object_pruning.specs.Pruning.{outcome}
use Rattle.derivation.specs.Chains.{IsLed, IsClosed}
use Rattle.object_pruning.specs.declared.prune.Pruned.TheVariants.{Empty}
use Rattle.object_pruning.specs.Record.{AreEventsOfPruning, IsClosedByGone, end_side, with_end, IsNotBeyond, ListsPlace, AreListed, AreListedBelow}

-- ---- lists of events

-- one event more
pub added : (old new : List Event) (e : Event) → new ≡ old ++ (e ∷ []) → Continues old new
added old new e h = (e ∷ [], h)

-- a mark lies in a list that went on from there
pub mark_in : (old new : List Event) (m : ℕ) → m ≡ length old → Continues old new → m ≤ length new
mark_in old new m e k = omega (arith, e, ap length k.1, length-append old k.0)

-- cut back to the mark, it is as before
pub cut_to_mark : (old new : List Event) (m : ℕ) → m ≡ length old → Continues old new → take m new ≡ old
cut_to_mark old new m e k = ap (λ (n : ℕ). take n new) e ∙ ap (λ (xs : List Event). take (length old) xs) k.1 ∙ take-append_seam old k.0

-- a record that is cut back to where it was
pub growth_cut : {k : Bool} {a b c : List Event} {m n o mark : ℕ} → Growth k a b m n true → (k ≡ true → mark ≡ length a) → (k ≡ true → c ≡ take mark b) → o ≡ n → Growth k a c m o true
growth_cut {a = a} {b = b} {c = c} {mark = mark} g h f e = growth_done (λ q. continues_same a c (f q ∙ cut_to_mark a b mark (h q) (g.events q))) (omega (arith, g.refusals, e))

-- a mark lies before one event more
pub mark_before : (old mid new : List Event) (m : ℕ) (e : Event) → m ≡ length old → Continues old mid → new ≡ mid ++ (e ∷ []) → m < length new
mark_before old mid new m e h k f = omega (arith, mark_in old mid m h k, ap length f, length-append mid (e ∷ []))

-- ---- chains

-- a cover that a sweep left has its numbers within the list
sweep_numbers : (K : ℕ) (cs : List Cond) (picks : List ℕ) (S : State) (o s : ℕ) (b : Region) (old new : List Event) → ArePicks (length cs) picks → dims S o ≡ K → (c : IsCovered K cs picks S o s b old new) → HasNumbersIn (dims S o) (length cs) c.tree
sweep_numbers K cs picks S o s b old new a k c =
    subst (λ (n : ℕ). HasNumbersIn n (length cs) c.tree) (sym k) (covered_numbers K (length cs) picks (λ i n. let p = All-contains (λ (j : ℕ). (0 < j) × (j - 1 < length cs)) picks i a n in omega (arith, p.0, p.1)) c.tree b c.cuts c.names)

-- a place that is dropped, and the cover of the whole region
pub drop_recorded : (K : ℕ) (cs : List Cond) (picks : List ℕ) (S : State) (o s : ℕ) (old mid new : List Event) → ArePicks (length cs) picks → dims S o ≡ K → has S o s ≡ true → mid ≡ old ++ (Drop (record { 0 = o }) s ∷ [])
    → IsCovered K cs picks S o s (reach S o).region mid new → IsLed cs S (set S o (without (reach S o) s)) old new
drop_recorded K cs picks S o s old mid new a k h f c = drop_led cs S (set S o (without (reach S o) s)) o s c.tree old mid new h c.covers (sweep_numbers K cs picks S o s (reach S o).region mid new a k c) f c.events refl

-- ---- an object without a place

false_of : (b : Bool) → (b ≡ true → ⊥) → b ≡ false
false_of true h = absurd (h refl)
false_of false h = refl

none_below : (cs : List Cond) (S : State) (o : ℕ) (b : Region) (old : List Event) (n : ℕ) → ((s : ℕ) → has S o s ≡ true → ⊥) → RecordedBelow cs S o b (n + 1) old old
none_below cs S o b old zero none = let e : 1 ≡ zero + 1 = omega arith in subst (λ (m : ℕ). RecordedBelow cs S o b m old old) e (recorded_start cs S o b old)
none_below cs S o b old (suc n) none =
    let e : n + 1 + 1 ≡ suc n + 1 = omega arith in
    subst (λ (m : ℕ). RecordedBelow cs S o b m old old) e (recorded_skip cs S o b (n + 1) old old (omega arith) (false_of (has S o (n + 1)) (none (n + 1))) (none_below cs S o b old n none))

-- it is gone, with no cover
pub gone_recorded : (cs : List Cond) (S : State) (o : ℕ) (old mid new : List Event) → o < length S → ((s : ℕ) → has S o s ≡ true → ⊥) → mid ≡ old ++ (Gone (record { 0 = o }) ∷ []) → new ≡ mid ++ (EndCovers ∷ [])
    → IsClosedByGone cs S o old new
gone_recorded cs S o old mid new there none f g =
    let r : RecordedCovers cs S o (reach S o).region mid new = recorded_end cs S o (reach S o).region (length (reach S o).places + 1) mid mid new (omega arith) g (none_below cs S o (reach S o).region mid (length (reach S o).places) none) in
    let es = Gone (record { 0 = o }) ∷ covers_events r.list in (
      es,
      r.events ∙ ap (λ (xs : List Event). xs ++ covers_events r.list) f ∙ append_assoc old (Gone (record { 0 = o }) ∷ []) (covers_events r.list),
      record { chain = []; state = S; covers = r.list; events = refl; leads = leads_nil cs S; holds = (there, r.all, r.numbers) },
    )

-- so it is behind a chain
pub gone_on : (cs : List Cond) (S T : State) (o : ℕ) (a b c : List Event) → IsLed cs S T a b → IsClosedByGone cs T o b c → IsClosedByGone cs S o a c
gone_on cs S T o a b c p q = (
  p.0 ++ q.0,
  q.1 ∙ ap (λ (xs : List Event). xs ++ q.0) p.1 ∙ append_assoc a p.0 q.0,
  record {
    chain = p.0 ++ q.2.chain;
    state = q.2.state;
    covers = q.2.covers;
    events = ap (λ (es : List Event). p.0 ++ es) q.2.events ∙ sym (append_assoc p.0 q.2.chain (Gone (record { 0 = o }) ∷ covers_events q.2.covers));
    leads = leads_on cs S T q.2.state p.0 q.2.chain p.2 q.2.leads;
    holds = q.2.holds;
  },
)

-- and then the events are closed
pub gone_closes : (cs : List Cond) (S : State) (o : ℕ) (old new : List Event) → IsClosedByGone cs S o old new → IsClosed cs S old new
gone_closes cs S o old new q = (q.0, q.1, record { chain = q.2.chain; state = q.2.state; ending = IsGone o q.2.covers; events = q.2.events; leads = q.2.leads; holds = q.2.holds })

-- a pruning that left a point is not empty
pub left_some : (b : Bool) → outcome b ≡ Empty → ⊥
left_some true e = absurd cc
left_some false e = absurd cc

-- ---- what an end cuts off

-- it lies in the region
cut_off_in : (S : State) (o d : ℕ) (up : Bool) (v : ℤ) → SmallerBox (far (end_side up d v) (reach S o).region) (reach S o).region
cut_off_in S o d true v =
    let x = int_min (high S o d) (v +ℤ negsuc 0) in box_within (with_high (reach S o) d x) (reach S o) (high_within (reach S o) d x (omega (arith, ints, clamps)))
cut_off_in S o d false v =
    let x = int_max (low S o d) (v +ℤ pos 1) in box_within (with_low (reach S o) d x) (reach S o) (low_within (reach S o) d x (omega (arith, ints, clamps)))

-- where the end does not lie beyond a point, it lies in the part before the point
cut_off_before : (b : Region) (d : ℕ) (up : Bool) (v : ℤ) (p : List ℤ) → toward up v ≤ℤ toward up (coordinate p d) → SmallerBox (far (end_side up d v) b) (part_before d up p b)
cut_off_before b d true v p h = upto_smaller b b d (v +ℤ negsuc 0) (coordinate p d +ℤ negsuc 0) (omega (arith, ints, h)) (box_same b)
cut_off_before b d false v p h = from_smaller b b d (v +ℤ pos 1) (coordinate p d +ℤ pos 1) (omega (arith, ints, h)) (box_same b)

-- an end that does not lie beyond the sooner one of two points lies beyond none
pub not_beyond : {K : ℕ} (d : ℕ) (up : Bool) (v : ℤ) (b : Option (Placed K)) (q r : Placed K) → IsSooner d up b q r → IsNotBeyond d up v (Some r) → IsNotBeyond d up v b × IsNotBeyond d up v (Some q)
not_beyond {K} d up v None q r i h = (tt, subst (λ (x : Placed K). IsNotBeyond d up v (Some x)) i h)
not_beyond d up v (Some b) q r i h = (le_trans _ _ _ h i.1, le_trans _ _ _ h i.2)

-- ---- covers of it, one for each place

-- a place that is not there
pub lists_absent : (cs : List Cond) (S : State) (o d : ℕ) (up : Bool) (v : ℤ) (n : ℕ) (mid : List Event) → 1 ≤ n → has S o n ≡ false → ListsPlace cs S o d up v n mid mid
lists_absent cs S o d up v n mid l h = λ old r. recorded_skip cs S o (far (end_side up d v) (reach S o).region) n old mid l h r

-- a place, and the cover of a box that has all of it
lists_box : (K : ℕ) (cs : List Cond) (picks : List ℕ) (S : State) (o d : ℕ) (up : Bool) (v : ℤ) (n : ℕ) (b : Region) (mid cover new : List Event) → ArePicks (length cs) picks → dims S o ≡ K → AllFit cs S → o < length S → 1 ≤ n → has S o n ≡ true
    → SmallerBox (far (end_side up d v) (reach S o).region) b → cover ≡ mid ++ (Cover n ∷ []) → IsCovered K cs picks S o n b cover new → ListsPlace cs S o d up v n mid new
lists_box K cs picks S o d up v n b mid cover new a k fits there l h small f c = λ old r.
    let part = far (end_side up d v) (reach S o).region in
    recorded_more cs S o part n c.tree old mid cover new l h f c.events (covers_smaller cs S o n c.tree part b fits there small c.covers) (sweep_numbers K cs picks S o n b cover new a k c) r

-- a place without a point
pub lists_none : (K : ℕ) (cs : List Cond) (picks : List ℕ) (S : State) (o d : ℕ) (up : Bool) (v : ℤ) (n : ℕ) (mid cover new : List Event) → ArePicks (length cs) picks → dims S o ≡ K → AllFit cs S → o < length S → 1 ≤ n → has S o n ≡ true
    → cover ≡ mid ++ (Cover n ∷ []) → IsCovered K cs picks S o n (reach S o).region cover new → ListsPlace cs S o d up v n mid new
lists_none K cs picks S o d up v n mid cover new a k fits there l h f c = lists_box K cs picks S o d up v n (reach S o).region mid cover new a k fits there l h (cut_off_in S o d up v) f c

-- a place with a point that does not come before the end
pub lists_some : (K : ℕ) (cs : List Cond) (picks : List ℕ) (S : State) (o d : ℕ) (up : Bool) (v : ℤ) (n : ℕ) (p : List ℤ) (mid cover new : List Event) → ArePicks (length cs) picks → dims S o ≡ K → AllFit cs S → o < length S → 1 ≤ n → has S o n ≡ true
    → toward up v ≤ℤ toward up (coordinate p d) → cover ≡ mid ++ (Cover n ∷ []) → IsCovered K cs picks S o n (part_before d up p (reach S o).region) cover new → ListsPlace cs S o d up v n mid new
lists_some K cs picks S o d up v n p mid cover new a k fits there l h e f c =
    lists_box K cs picks S o d up v n (part_before d up p (reach S o).region) mid cover new a k fits there l h (cut_off_before (reach S o).region d up v p e) f c

-- ---- an end that moves

-- a list that began with a place holder
held : (old ce : List Event) (x e : Event) (mid : List Event) (m : ℕ) → m ≡ length old → mid ≡ (old ++ (x ∷ [])) ++ ce → set mid m e ≡ (old ++ (e ∷ [])) ++ ce
held old ce x e mid m f g =
    ap (λ (n : ℕ). set mid n e) f ∙ ap (λ (xs : List Event). set xs (length old) e) (g ∙ append_assoc old (x ∷ []) ce) ∙ set-append_seam old x ce e ∙ sym (append_assoc old (e ∷ []) ce)

-- the end lies in the interval
narrows : (S : State) (o d : ℕ) (up : Bool) (v : ℤ) → low S o d ≤ℤ v → v ≤ℤ high S o d → Narrows S o (end_side up d v)
narrows S o d true v l h = l
narrows S o d false v l h = h

is_cut : (S : State) (o d : ℕ) (up : Bool) (v : ℤ) → d < dims S o → IsSmallEnd v → IsCut (dims S o) (end_side up d v)
is_cut S o d true v k n = (k, omega (arith, ints, n.0), omega (arith, ints, n.1))
is_cut S o d false v k n = (k, omega (arith, ints, n.0), omega (arith, ints, n.1))

-- its place holder, a cover for each place, and the end of their list; and then its event in the place of the place holder
pub end_recorded : (cs : List Cond) (S : State) (o d : ℕ) (up : Bool) (v : ℤ) (old first mid last new : List Event) (x : Event) (m : ℕ) → o < length S → d < dims S o → HasSmallIntervals S → low S o d ≤ℤ v → v ≤ℤ high S o d → m ≡ length old
    → first ≡ old ++ (x ∷ []) → AreListed cs S o d up v first mid → last ≡ mid ++ (EndCovers ∷ []) → new ≡ set last m (bound_event o (end_side up d v)) → IsLed cs S (with_end S o d up v) old new
end_recorded cs S o d up v old first mid last new x m there k small l h e f a g q =
    let side = end_side up d v in
    let part = far side (reach S o).region in
    let r : RecordedCovers cs S o part first last = recorded_end cs S o part a.0 first mid last a.1 g a.2 in
    let begun = old ++ (bound_event o side ∷ []) in
    let c : RecordedCovers cs S o part begun new =
    record { list = r.list; events = q ∙ held old (covers_events r.list) x (bound_event o side) last m e (r.events ∙ ap (λ (xs : List Event). xs ++ covers_events r.list) f); all = r.all; numbers = r.numbers } in
    bound_led cs S (with_end S o d up v) o side old begun new there
    (is_cut S o d up v k (omega (arith, ints, l, (small o d).0.0), omega (arith, ints, h, (small o d).1.1))) (narrows S o d up v l h) refl c refl

-- no place from n on is there
pub listed_on : (cs : List Cond) (S : State) (o d : ℕ) (up : Bool) (v : ℤ) (n m : ℕ) (old new : List Event) → 0 < n → ((s : ℕ) → has S o s ≡ true → s < n) → AreListedBelow cs S o d up v n old new → AreListedBelow cs S o d up v (n + m) old new
listed_on cs S o d up v n zero old new some few k = let e : n ≡ n + 0 = omega arith in subst (λ (j : ℕ). AreListedBelow cs S o d up v j old new) e k
listed_on cs S o d up v n (suc m) old new some few k =
    let absent : has S o (n + m) ≡ false = false_of (has S o (n + m)) (λ t. absurd (omega (arith, few (n + m) t))) in
    let e : n + m + 1 ≡ n + suc m = omega arith in
    subst (λ (j : ℕ). AreListedBelow cs S o d up v j old new) e (lists_absent cs S o d up v (n + m) new (omega (arith, some)) absent old (listed_on cs S o d up v n m old new some few k))

-- what led to a state is a pruning that left a point
pub recorded_as : (cs : List Cond) (S T : State) (b : Bool) (old new : List Event) → IsLed cs S T old new → (es : List Event) × (new ≡ old ++ es) × AreEventsOfPruning cs S (outcome b) T es
recorded_as cs S T true old new led = led
recorded_as cs S T false old new led = led

-- A sweep between two turns, and what its end says of it, over plain lists.
use Rattle.std.proofs.Common.{◌≡◌, ℕ, zero, ◌+◌, ◌-◌, ◌*◌, ◌^◌, ◌<◌, ◌≤◌, ◌⊎◌, inl, inr, ℤ, ◌<ℤ◌, Bool, true, false, List, length, map, slice_index, refl, Option, Some, None, Result, Ok, Err, is_ok, IfOk, ap, [], ◌∷◌, ◌++◌, arith}
use Rattle.std.specs.List.{All}
use Rattle.std.proofs.lemmas.Int.{ints}
use Rattle.std.proofs.lemmas.List.{length-append}
use Rattle.geo_base.specs.Boxes.{Has, IsCrossed}
use Rattle.geo_base.specs.declared.kbox.KBox.{KBox}
use Rattle.geo_base.specs.Ways.{IsSmallPoint, key, start}
use Rattle.geo_conditions.specs.declared.cond.Cond.{Cond}
use Rattle.geo_conditions.specs.Reach.{State, Region, dims, with_at, just}
use Rattle.geo_conditions.specs.Conditions.{AllFit}
use Rattle.geo_conditions.specs.Regions.{region_of}
use Rattle.geo_conditions.specs.Supported.{NoneRefuted}
use Rattle.derivation.specs.declared.event.Event.{Event}
use Rattle.derivation.specs.declared.event.Event.TheVariants.{By}
use Rattle.derivation.specs.Covers.{Leaf}
use Rattle.derivation.specs.Events.{Growth}
use Rattle.derivation.proofs.Continuing.{growth_added, growth_later}
use Rattle.indexical.specs.Disjunctions.{IsDisjunction}
use Rattle.sweep.specs.Chains.{IsOpen, IsRecordOf, SomeOpenBy}
use Rattle.sweep.specs.Jump.{IsDone, IsPlaced, JumpsOn, IsLast, IsUsedUp}
use Rattle.sweep.specs.Picks.{ArePicks, IsPickedBox, picked}
use Rattle.sweep.specs.Sweep.{part_before, refutes_pick}
use Rattle.sweep.specs.Swept.{IsBegun, HasFound, HasSwept}
use Rattle.sweep.proofs.Bound.{IsCounted, IsCounted-first, IsCounted-turn, IsLast-box, bound_at_end}
use Rattle.sweep.proofs.PickedConditions.{RefutedIn, forbidden, refuted_at_point, mapped_picks, picked_at, fits_at}
use Rattle.sweep.proofs.Promises.{no_point, no_point_crossed, first_point, covered, before_out, before_sizes}
use Rattle.sweep.proofs.RecordSteps.{IsOpen-start}
use Rattle.sweep.proofs.Turns.{IsPlaced-first, not_done_first, has_placed, IsDone-before}

-- what stays the same while a region is swept
pub record IsSwept (K lead : ℕ) (up : Bool) (cs : List Cond) (picks : List ℕ) (S : State) (o s : ℕ) (b : Region) (past c n : List ℤ) : Type 0 where
  pub lead_in : lead < K
  pub fits : AllFit cs S
  pub there : o < length S
  pub numbers : ArePicks (length cs) picks
  pub begun : IsBegun K up S o b past c n

pub swept_of : {X : Type 0} (K lead : ℕ) (up : Bool) (f : X → Cond) (list : List X) (picks : List ℕ) (S : State) (o s : ℕ) (b : Region) (past c n : List ℤ) → lead < K → AllFit (map f list) S → o < length S → ArePicks (length list) picks → IsBegun K up S o b past c n
    → IsSwept K lead up (map f list) picks S o s b past c n
swept_of K lead up f list picks S o s b past c n lead_in fits there numbers begun = record { lead_in = lead_in; fits = fits; there = there; numbers = mapped_picks f list picks numbers; begun = begun }

-- what the last cut adds is few enough
pub few_after_stop : {k : Bool} (K x y : ℕ) → (k ≡ true → y ≤ x + 1) → k ≡ true → y ≤ x + (K + 2)
few_after_stop K x y few kept = let f = few kept in omega (arith, f)

-- what holds between two turns
pub record IsBetween (K lead : ℕ) (up keeps : Bool) (cs : List Cond) (picks : List ℕ) (S : State) (o s : ℕ) (b : Region) (past : List ℤ) (old : List Event) (before begun : ℕ) (c n : List ℤ) (marks : List ℕ) (list : List Event) (refusals asked : ℕ) : Type 0 where
  pub placed : IsPlaced K (key K lead up (start up b.lo b.hi)) (key K lead up past) (key K lead up c) (key K lead up n)
  pub passed : (q : List ℤ) → Has K b.lo b.hi q → IsDone K (key K lead up c) (key K lead up n) (key K lead up q) → NoneRefuted (picked cs picks) (with_at S o s (just q)) → ⊥
  pub counted : All (IsDisjunction o) (picked cs picks) → IsCounted (RefutedIn S o s) cs picks K lead up b.lo b.hi past c n (length picks) asked begun
  pub events : keeps ≡ true → All (IsDisjunction o) (picked cs picks) → IsCounted (RefutedIn S o s) cs picks K lead up b.lo b.hi past c n (2 * K) (length list) (length old + (K - 1))
  pub recorded : keeps ≡ true → IsOpen K lead up (refutes_pick cs picks S o s) (key K lead up (start up b.lo b.hi)) (key K lead up past) (K - 1) (key K lead up c) (key K lead up n) marks old list
  pub later : before ≤ refusals
  -- what the next question and the next turn want
  pub inside : Has K b.lo b.hi c
  pub opened : (i : ℕ) (lo hi : List ℤ) → refutes_pick cs picks S o s i lo hi ≡ true → keeps ≡ true → SomeOpenBy K lead up i lo hi (key K lead up (start up b.lo b.hi)) (key K lead up past) (key K lead up c) (key K lead up n) marks list

module _ (K lead : ℕ) (up keeps : Bool) (cs : List Cond) (picks : List ℕ) (S : State) (o s : ℕ) (b : Region) (past c0 n0 : List ℤ) (old : List Event) (before begun : ℕ) (swept : IsSwept K lead up cs picks S o s b past c0 n0) where
  first_bound : (per x : ℕ) → x + per ≤ x + per * (length picks + 1) ^ K
  first_bound per x = bound_at_end (RefutedIn S o s) cs picks K lead up b.lo b.hi past swept.lead_in c0 past per x (x + per) x (omega arith) (IsCounted-first (RefutedIn S o s) cs picks K lead up b.lo b.hi past swept.lead_in c0 per x)

  -- where the record could not be opened
  pub failed_first : {T E : Type 0} (new : List Event) (later : ℕ) (result : Result T E) (at : T → Option (List ℤ)) → (keeps ≡ true → length new + 0 ≤ length old + (K - 1)) → IfOk result (λ t. HasFound K lead up keeps cs picks S o s b old new (at t)) → Growth keeps old new before later (is_ok result)
      → HasSwept K lead up keeps cs picks S o s b old new before later begun begun result at
  failed_first new later result at few found grows = record {
    found = found;
    asked_few = λ premise. omega arith;
    events_few = λ kept premise. let f = few kept in let e = first_bound (2 * K) 0 in let l = swept.lead_in in omega (arith, f, e, l);
    grows = grows;
  }

  -- before the first turn
  pub IsBetween-first : (marks0 marks : List ℕ) (list : List Event) (later : ℕ)
      → (keeps ≡ true → (T : ℕ → List ℤ → List ℤ → Bool) (base : List Event) → IsOpen K lead up T (key K lead up c0) (key K lead up past) 0 (key K lead up c0) (key K lead up n0) marks0 base old → IsOpen K lead up T (key K lead up c0) (key K lead up past) (K - 1) (key K lead up c0) (key K lead up n0) marks base list)
      → (keeps ≡ true → length list + 0 ≡ length old + (K - 1)) → before ≤ later → IsBetween K lead up keeps cs picks S o s b past old before begun c0 n0 marks list later begun
  IsBetween-first marks0 marks list later opened size more =
      let first = start up b.lo b.hi in
      let T = refutes_pick cs picks S o s in
      let k = key K lead up in
      let l = swept.lead_in in
      let some : 0 < K = omega (arith, l) in
      let recorded : keeps ≡ true → IsOpen K lead up T (k c0) (k past) (K - 1) (k c0) (k n0) marks old list = λ kept. opened kept T old (IsOpen-start K lead up T (k c0) (k past) old (k c0) (k n0) marks0 some refl) in
      let at_first = λ (e : keeps ≡ true). rw swept.begun.jump at (rw swept.begun.at_start at (recorded e)) in
      let placed = IsPlaced-first K lead up b.lo b.hi past swept.lead_in swept.begun.past_is swept.begun.full in
      rw (swept.begun.at_start, swept.begun.jump) (record {
        placed = placed;
        passed = λ q h d none. not_done_first K lead up b.lo b.hi past swept.lead_in swept.begun.past_is q h d;
        counted = λ premise. IsCounted-first (RefutedIn S o s) cs picks K lead up b.lo b.hi past swept.lead_in first (length picks) begun;
        events = λ kept premise. let z = size kept in let e : length list ≡ length old + (K - 1) = omega (arith, z) in
            rw e (IsCounted-first (RefutedIn S o s) cs picks K lead up b.lo b.hi past swept.lead_in first (2 * K) (length old + (K - 1)));
        recorded = at_first;
        later = more;
        inside = has_placed K lead up b.lo b.hi past swept.lead_in swept.begun.past_is first past placed;
        opened = λ i lo hi t kept. record { test = T; base = old; known = t; is_open = at_first kept };
      })

  module _ (c n : List ℤ) (marks : List ℕ) (list : List Event) (refusals asked : ℕ) (was : IsBetween K lead up keeps cs picks S o s b past old before begun c n marks list refusals asked) where
    asked_at : (asked' : ℕ) → asked' ≤ asked + length picks → All (IsDisjunction o) (picked cs picks) → asked' ≤ begun + length picks * (length picks + 1) ^ K
    asked_at asked' more premise = bound_at_end (RefutedIn S o s) cs picks K lead up b.lo b.hi past swept.lead_in c n (length picks) asked asked' begun more (was.counted premise)

    few_at : (new : List Event) → keeps ≡ true → All (IsDisjunction o) (picked cs picks) → length new ≤ length list + (K + 2) → length new ≤ length old + 2 * K * (length picks + 1) ^ K + 1
    few_at new kept premise few =
        let e = bound_at_end (RefutedIn S o s) cs picks K lead up b.lo b.hi past swept.lead_in c n (2 * K) (length list) (length list + 2 * K) (length old + (K - 1)) (omega arith) (was.events kept premise) in
        let l = swept.lead_in in
        omega (arith, few, e, l)

    -- the end of a sweep
    pub HasSwept-at : {T E : Type 0} (new : List Event) (later asked' : ℕ) (result : Result T E) (at : T → Option (List ℤ)) → asked' ≤ asked + length picks → (keeps ≡ true → length new ≤ length list + (K + 2)) → IfOk result (λ t. HasFound K lead up keeps cs picks S o s b old new (at t))
        → Growth keeps old new refusals later (is_ok result) → HasSwept K lead up keeps cs picks S o s b old new before later begun asked' result at
    HasSwept-at new later asked' result at more few found grows = record {
      found = found;
      asked_few = asked_at asked' more;
      events_few = λ kept premise. few_at new kept premise (few kept);
      grows = growth_later was.later grows;
    }

    -- no condition is refuted at c
    pub HasFound-here : (new : List Event) → length c ≡ K → NoneRefuted (picked cs picks) (with_at S o s (just c))
        → (keeps ≡ true → (T : ℕ → List ℤ → List ℤ → Bool) (base : List Event) → IsOpen K lead up T (key K lead up (start up b.lo b.hi)) (key K lead up past) (K - 1) (key K lead up c) (key K lead up n) marks base list → IsRecordOf K T base new (λ q. Has K b.lo b.hi q × (key K lead up q 0 <ℤ key K lead up c 0)))
        → HasFound K lead up keeps cs picks S o s b old new (Some c)
    HasFound-here new size free stopped = record {
      point = first_point K (picked cs picks) S o s b lead up c swept.begun.low swept.begun.high size was.inside free (λ q h e. was.passed q h (IsDone-before K lead up b.lo b.hi past swept.lead_in swept.begun.past_is c n was.placed q e));
      covered = λ kept.
          let sizes = before_sizes K lead up c b swept.begun.low swept.begun.high in
          covered K cs picks S o s (part_before lead up c b) old new (λ q. Has K b.lo b.hi q × (key K lead up q 0 <ℤ key K lead up c 0)) swept.fits swept.there swept.begun.dimensions sizes.0 sizes.1
          (λ q h. before_out K lead up c q b swept.lead_in swept.begun.low swept.begun.high h) (stopped kept (refutes_pick cs picks S o s) old (was.recorded kept));
    }

    module _ (j : ℕ) (box : Region) (found : IsPickedBox K cs picks S o s c b j box) where
      none_free : (q : List ℤ) → Has K box.lo box.hi q → NoneRefuted (picked cs picks) (with_at S o s (just q)) → ⊥
      none_free q h none = forbidden cs picks S o s K swept.begun.dimensions swept.there j found.condition box.lo box.hi q swept.fits found.pick h found.box.refuted none

      -- nothing is left
      pub HasFound-none : (new : List Event) → IsUsedUp K lead up b.lo b.hi box.lo box.hi c n
          → (keeps ≡ true → (T : ℕ → List ℤ → List ℤ → Bool) (base : List Event) → T (slice_index picks j) box.lo box.hi ≡ true → IsOpen K lead up T (key K lead up (start up b.lo b.hi)) (key K lead up past) (K - 1) (key K lead up c) (key K lead up n) marks base list → IsRecordOf K T base new (Has K b.lo b.hi))
          → HasFound K lead up keeps cs picks S o s b old new None
      HasFound-none new used_up finished = record {
        point = no_point K (picked cs picks) S o s b (λ q h none. elim (used_up q h) [ inl d ↦ was.passed q h d none | inr i ↦ none_free q i none ]);
        covered = λ kept. covered K cs picks S o s b old new (Has K b.lo b.hi) swept.fits swept.there swept.begun.dimensions swept.begun.low swept.begun.high (λ q h. h) (finished kept (refutes_pick cs picks S o s) old found.known (was.recorded kept));
      }

      counted_turn : (per x x' x0 : ℕ) (c' n' : List ℤ) → x' ≤ x + per → All (IsDisjunction o) (picked cs picks) → JumpsOn K lead up b.lo b.hi box.lo box.hi past c n c' n'
          → IsCounted (RefutedIn S o s) cs picks K lead up b.lo b.hi past c n per x x0 → IsCounted (RefutedIn S o s) cs picks K lead up b.lo b.hi past c' n' per x' x0
      counted_turn per x x' x0 c' n' more premise jump count =
          let fits = fits_at cs S picks j found.condition swept.fits found.pick in
          let last = IsLast-box (RefutedIn S o s) cs picks K lead up b.lo b.hi past swept.lead_in found.condition box.lo box.hi c (λ l h q has w. refuted_at_point cs picks S o s K swept.begun.dimensions swept.there found.condition l h q fits has w)
          found.box.has found.box.low found.box.high found.box.refuted (found.box.whole (picked_at (IsDisjunction o) cs picks j found.condition premise found.pick)) in
          IsCounted-turn (RefutedIn S o s) cs picks K lead up b.lo b.hi past swept.lead_in c n c' n' box.lo box.hi per x x' x0 j found.condition found.pick found.box.has last more jump count

      -- a turn that failed
      pub HasSwept-failed : {T E : Type 0} (c' n' : List ℤ) (new : List Event) (later asked' : ℕ) (result : Result T E) (at : T → Option (List ℤ)) → asked' ≤ asked + length picks
          → (keeps ≡ true → (length new ≤ length list + (K + 2)) ⊎ (JumpsOn K lead up b.lo b.hi box.lo box.hi past c n c' n' × (length new ≤ length list + 2 * K))) → IfOk result (λ t. HasFound K lead up keeps cs picks S o s b old new (at t))
          → Growth keeps old new refusals later (is_ok result) → HasSwept K lead up keeps cs picks S o s b old new before later begun asked' result at
      HasSwept-failed c' n' new later asked' result at more few found grows = record {
        found = found;
        asked_few = asked_at asked' more;
        events_few = λ kept premise. elim (few kept) [
          | inl f ↦ few_at new kept premise f
          | inr on ↦ (let count = counted_turn (2 * K) (length list) (length new) (length old + (K - 1)) c' n' on.1 premise on.0 (was.events kept premise) in
              let e = bound_at_end (RefutedIn S o s) cs picks K lead up b.lo b.hi past swept.lead_in c' n' (2 * K) (length new) (length new + 2 * K) (length old + (K - 1)) (omega arith) count in
              let l = swept.lead_in in
              omega (arith, e, l))
        ];
        grows = growth_later was.later grows;
      }

      -- after one more turn
      pub IsBetween-turn : (c' n' : List ℤ) (marks' : List ℕ) (list' : List Event) (refusals' asked' : ℕ) → asked' ≤ asked + length picks → JumpsOn K lead up b.lo b.hi box.lo box.hi past c n c' n' → (keeps ≡ true → length list' ≤ length list + 2 * K)
          → (keeps ≡ true → (T : ℕ → List ℤ → List ℤ → Bool) (base : List Event) → T (slice_index picks j) box.lo box.hi ≡ true → IsOpen K lead up T (key K lead up (start up b.lo b.hi)) (key K lead up past) (K - 1) (key K lead up c) (key K lead up n) marks base list → IsOpen K lead up T (key K lead up (start up b.lo b.hi)) (key K lead up past) (K - 1) (key K lead up c') (key K lead up n') marks' base list')
          → refusals ≤ refusals' → IsBetween K lead up keeps cs picks S o s b past old before begun c' n' marks' list' refusals' asked'
      IsBetween-turn c' n' marks' list' refusals' asked' more jump size opened later = record {
        placed = jump.placed;
        passed = λ q h d none. elim (jump.done q h d) [ inl e ↦ was.passed q h e none | inr i ↦ none_free q i none ];
        counted = λ premise. counted_turn (length picks) asked asked' begun c' n' more premise jump (was.counted premise);
        events = λ kept premise. counted_turn (2 * K) (length list) (length list') (length old + (K - 1)) c' n' (size kept) premise jump (was.events kept premise);
        recorded = λ kept. opened kept (refutes_pick cs picks S o s) old found.known (was.recorded kept);
        later = omega (arith, was.later, later);
        inside = has_placed K lead up b.lo b.hi past swept.lead_in swept.begun.past_is c' n' jump.placed;
        opened = λ i lo hi t kept. record { test = refutes_pick cs picks S o s; base = old; known = t; is_open = opened kept (refutes_pick cs picks S o s) old found.known (was.recorded kept) };
      }

-- a region without a point
module _ {T E : Type 0} (K lead : ℕ) (up keeps : Bool) (cs : List Cond) (picks : List ℕ) (S : State) (o s : ℕ) (b : Region) (old new : List Event) (before later begun : ℕ) (at : T → Option (List ℤ)) where
  pub HasSwept-refused : (e : E) → (keeps ≡ true → new ≡ old) → Growth keeps old new before later false → HasSwept K lead up keeps cs picks S o s b old new before later begun begun (Err e) at
  HasSwept-refused e same grows = record {
    found = tt;
    asked_few = λ premise. omega arith;
    events_few = λ kept premise. let l = ap length (same kept) in omega (arith, l);
    grows = grows;
  }

  pub HasSwept-empty : (t : T) → at t ≡ None → AllFit cs S → o < length S → dims S o ≡ K → length b.lo ≡ K → length b.hi ≡ K → IsCrossed K b.lo b.hi → (keeps ≡ true → new ≡ old ++ (By 1 ∷ [])) → before ≤ later
      → HasSwept {E = E} K lead up keeps cs picks S o s b old new before later begun begun (Ok t) at
  HasSwept-empty t none fits there dim low high crossed added more = record {
    found = rw none (record {
      point = no_point_crossed K (picked cs picks) S o s b crossed;
      covered = λ kept. covered K cs picks S o s b old new (Has K b.lo b.hi) fits there dim low high (λ q h. h)
          (Leaf 1, added kept, inl (refl, λ q h. absurd (omega (arith, ints, crossed.2, (h crossed.0 crossed.1).0, (h crossed.0 crossed.1).1))));
    });
    asked_few = λ premise. omega arith;
    events_few = λ kept premise. let l = ap length (added kept) in omega (arith, l, length-append old (By 1 ∷ []));
    grows = growth_added _ added more;
  }

-- the same of another answer that says as much
module _ {T T' E E' : Type 0} (K lead : ℕ) (up keeps : Bool) (cs : List Cond) (picks : List ℕ) (S : State) (o s : ℕ) (b : Region) (old new : List Event) (before later begun asked : ℕ) (at : T → Option (List ℤ)) (at' : T' → Option (List ℤ)) where
  pub HasSwept-failed_on : (e : E) (e' : E') → HasSwept K lead up keeps cs picks S o s b old new before later begun asked (Err e) at → HasSwept K lead up keeps cs picks S o s b old new before later begun asked (Err e') at'
  HasSwept-failed_on e e' h = record { found = tt; asked_few = h.asked_few; events_few = h.events_few; grows = h.grows }

  pub HasSwept-as : (t : T) (t' : T') → at' t' ≡ at t → HasSwept {E = E} K lead up keeps cs picks S o s b old new before later begun asked (Ok t) at → HasSwept {E = E'} K lead up keeps cs picks S o s b old new before later begun asked (Ok t') at'
  HasSwept-as t t' same h = record { found = rw same h.found; asked_few = h.asked_few; events_few = h.events_few; grows = h.grows }

-- what a turn wants of the box that was found
module _ (K : ℕ) (cs : List Cond) (picks : List ℕ) (S : State) (o s : ℕ) (c : List ℤ) (region : KBox K) (k : ℕ) (box : KBox K) where
  pub box_has : IsPickedBox K cs picks S o s c (region_of region) k (region_of box) → Has K box.lo.coordinates box.hi.coordinates c
  box_has found = found.box.has

  pub box_small : IsPickedBox K cs picks S o s c (region_of region) k (region_of box) → IsSmallPoint K region.lo.coordinates × IsSmallPoint K region.hi.coordinates → IsSmallPoint K box.lo.coordinates × IsSmallPoint K box.hi.coordinates
  box_small found small = (found.small_low small.0 small.1, found.small_high small.0 small.1)

  pub box_opened : (lead : ℕ) (up keeps : Bool) (past : List ℤ) (old : List Event) (before begun : ℕ) (n : List ℤ) (marks : List ℕ) (list : List Event) (refusals asked : ℕ)
      → IsPickedBox K cs picks S o s c (region_of region) k (region_of box) → IsBetween K lead up keeps cs picks S o s (region_of region) past old before begun c n marks list refusals asked
      → keeps ≡ true → SomeOpenBy K lead up (slice_index picks k) box.lo.coordinates box.hi.coordinates (key K lead up (start up region.lo.coordinates region.hi.coordinates)) (key K lead up past) (key K lead up c) (key K lead up n) marks list
  box_opened lead up keeps past old before begun n marks list refusals asked found was kept = was.opened (slice_index picks k) box.lo.coordinates box.hi.coordinates found.known kept

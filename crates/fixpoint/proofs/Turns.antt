-- The turns of the loop over the queue.
use Rattle.std.proofs.Common.{◌≡◌, ℕ, zero, suc, ◌+◌, ◌*◌, ◌<◌, ◌≤◌, ◌≢◌, Bool, true, false, List, [], ◌∷◌, length, set, get_or, sym, ap, ◌∙◌, subst, inl, inr, arith, suc-mul}
use Rattle.std.specs.List.{All}
use Rattle.std.proofs.lemmas.Bool.{cases_eq, false≢true}
use Rattle.std.proofs.lemmas.List.{get_or-set_other, get_or-set_same}
use Rattle.std.proofs.Math.ListN.{length-set}
use Rattle.geo_conditions.specs.declared.cond.Cond.{Cond}
use Rattle.geo_conditions.specs.Conditions.{FitsIn}
use Rattle.geo_conditions.specs.Reach.{State, how_many, Inside}
use Rattle.geo_conditions.specs.Supported.{IsGreatest, NoneInside}
use Rattle.geo_conditions.specs.Keeps.{Keeps, size}
use Rattle.geo_conditions.proofs.Points.{inside_self, inside_trans}
use Rattle.geo_conditions.proofs.Greatest.{keeps_trans}
use Rattle.geo_state.proofs.Fits.{fits_inside}
use Rattle.object_pruning.specs.Same.{SameBut}
use Rattle.fixpoint.specs.Near.{Unhindered, IsFine, BarePossible}
use Rattle.fixpoint.specs.Queue.{NoneQueued, IsPopped, Queues, RestFine, CatchesUp, Narrowed}
use Rattle.fixpoint.proofs.Names.{same_without, unhindered_untouched, fine_untouched, all_fine}

-- what the loop keeps
pub record Going (cs : List Cond) (S R : State) (queued : List Bool) : Type 0 where
  pub keeps : Keeps cs S R
  pub fits : All (λ c. FitsIn c R) cs
  pub objects : length queued ≡ length R
  pub fine : RestFine cs R queued
  pub bare : BarePossible cs R

pub going_start : (cs : List Cond) (S : State) (q : List Bool) → All (λ c. FitsIn c S) cs → length q ≡ length S → RestFine cs S q → BarePossible cs S → Going cs S S q
going_start cs S q f e fine bare = record {
  keeps = record { inside = inside_self S; all = λ T s i. i };
  fits = f;
  objects = e;
  fine = fine;
  bare = bare;
}

-- an object without a change
pub going_same : (cs : List Cond) (S R T : State) (q p : List Bool) (o : ℕ) → Going cs S R q → IsPopped q p o → (T ≡ R) × IsFine cs R o → Going cs S T p
going_same cs S R T q p o g d f = subst (λ (X : State). Going cs S X p) (sym f.0) (record {
  keeps = g.keeps;
  fits = g.fits;
  objects = ap length d.2 ∙ length-set q o false ∙ g.objects;
  fine = λ u h n. elim (cases_eq u o) [
    | inl e ↦ subst (IsFine cs R) (sym e) f.1
    | inr ne ↦ g.fine u h (sym (get_or-set_other q o u false false ne) ∙ ap (λ (l : List Bool). get_or l u false) (sym d.2) ∙ n)
  ];
  bare = g.bare;
})

-- an object other than o that is not queued afterwards was not queued before, and o leaves it unhindered
abbrev Others : List Cond → State → ℕ → List Bool → List Bool → Type 0
Others cs T o p r = (u : ℕ) → u ≢ o → u < length p → get_or r u false ≡ false → (get_or p u false ≡ false) × Unhindered cs T o u

-- the objects that are not queued, but perhaps the one that changed, stay fine
rest_fine : (cs : List Cond) (R T : State) (q p r : List Bool) (o : ℕ) → length q ≡ length R → RestFine cs R q → p ≡ set q o false → SameBut o R T → Others cs T o p r → (u : ℕ) → u ≢ o → u < length T → get_or r u false ≡ false → IsFine cs T u
rest_fine cs R T q p r o long f d alone m u ne h n =
    let lp : length p ≡ length R = ap length d ∙ length-set q o false ∙ long in
    let hr : u < length R = omega (arith, h, alone.objects) in
    let w = m u ne (omega (arith, lp, hr)) n in
    let nq : get_or q u false ≡ false = sym (get_or-set_other q o u false false ne) ∙ ap (λ (l : List Bool). get_or l u false) (sym d) ∙ w.0 in
    fine_untouched cs R T u alone.objects hr (unhindered_untouched cs R T o u alone ne w.1) (f u hr nq)

-- an object that changed
pub going_changed : (cs : List Cond) (S R T : State) (q p r : List Bool) (o : ℕ) → Going cs S R q → IsPopped q p o → Narrowed cs R T o → Queues (Unhindered cs T o) o p r → Going cs S T r
going_changed cs S R T q p r o g d w m = record {
  keeps = keeps_trans cs S R T g.keeps w.keeps;
  fits = λ j e b. fits_inside (get_or cs j e) R T w.keeps.inside (g.fits j e b);
  objects = m.objects ∙ ap length d.2 ∙ length-set q o false ∙ g.objects ∙ w.alone.objects;
  fine = λ u h n. elim (cases_eq u o) [
    | inl e ↦ subst (IsFine cs T) (sym e) w.fine
    | inr ne ↦ rest_fine cs R T q p r o g.objects g.fine d.2 w.alone m.others u ne h n
  ];
  bare = λ k e b none. let hr : o < length R = omega (arith, d.0, g.objects) in
      sym (same_without (get_or cs k e) R T o w.alone (none o (omega (arith, hr, w.alone.objects)))) ∙ g.bare k e b (λ u l. none u (omega (arith, l, w.alone.objects)));
}

-- an object without a point, which is queued again
pub rest_dead : (cs : List Cond) (S R T : State) (q p r : List Bool) (o : ℕ) → Going cs S R q → IsPopped q p o → SameBut o R T → Queues (Unhindered cs T o) o p r → RestFine cs T (set r o true)
rest_dead cs S R T q p r o g d alone m u h n =
    let long : o < length r = omega (arith, d.0, ap length d.2, length-set q o false, m.objects) in
    let there : get_or (set r o true) o false ≡ true = get_or-set_same r o true false long in
    let ne : u ≢ o = λ e. absurd (false≢true (sym n ∙ subst (λ (v : ℕ). get_or (set r o true) v false ≡ true) (sym e) there)) in
    rest_fine cs R T q p r o g.objects g.fine d.2 alone m.others u ne h (sym (get_or-set_other r o u true false ne) ∙ n)

pub gone_kept : (cs : List Cond) (S R : State) (q : List Bool) → Going cs S R q → NoneQueued q → IsGreatest cs S R
gone_kept cs S R q g n = record { supported = all_fine cs R (λ o h. g.fine o h (n o)) g.bare; inside = g.keeps.inside; greatest = g.keeps.all }

pub gone_dead : (cs : List Cond) (S R T : State) (q : List Bool) → Going cs S R q → NoneInside cs R → Inside T R → NoneInside cs S × Inside T S
gone_dead cs S R T q g n i = (λ U s j. n U s (g.keeps.all U s j), inside_trans T R S i g.keeps.inside)

-- ---- the measure

pub few_queued : (q : List Bool) → how_many q ≤ length q
few_queued [] = omega arith
few_queued (true ∷ q) = let h = few_queued q in omega (arith, h)
few_queued (false ∷ q) = let h = few_queued q in omega (arith, h)

pub fewer_queued : (q : List Bool) (o : ℕ) → get_or q o false ≡ true → how_many (set q o false) < how_many q
fewer_queued [] o h = absurd (false≢true h)
fewer_queued (true ∷ q) zero h = omega arith
fewer_queued (false ∷ q) zero h = absurd (false≢true h)
fewer_queued (b ∷ q) (suc o) h = let l = fewer_queued q o h in omega (arith, l)

abbrev pub measure : State → List Bool → ℕ
measure S q = size S * (length S + 1) + how_many q

pub smaller_same : (R T : State) (q p : List Bool) (o : ℕ) → IsPopped q p o → T ≡ R → measure T p < measure R q
smaller_same R T q p o d e =
    let l : how_many p < how_many q = subst (λ (x : List Bool). how_many x < how_many q) (sym d.2) (fewer_queued q o d.1) in
    let z : size T * (length T + 1) ≡ size R * (length R + 1) = ap (λ (X : State). size X * (length X + 1)) e in
    omega (arith, l, z)

below : (a b n x y : ℕ) → a < b → x ≤ n → a * (n + 1) + x < b * (n + 1) + y
below zero zero n x y h l = absurd (omega arith)
below zero (suc b) n x y h l = let z : suc b * (n + 1) ≡ b * (n + 1) + (n + 1) = suc-mul b (n + 1) in omega (arith, z, l)
below (suc a) zero n x y h l = absurd (omega arith)
below (suc a) (suc b) n x y h l =
    let z : suc b * (n + 1) ≡ b * (n + 1) + (n + 1) = suc-mul b (n + 1) in
    let w : suc a * (n + 1) ≡ a * (n + 1) + (n + 1) = suc-mul a (n + 1) in
    let i = below a b n x y (omega arith) l in
    omega (arith, z, w, i)

pub smaller_changed : (cs : List Cond) (S R T : State) (q p r : List Bool) (o : ℕ) → Going cs S R q → IsPopped q p o → Narrowed cs R T o → length r ≡ length p → measure T r < measure R q
smaller_changed cs S R T q p r o g d w long =
    let lp : length p ≡ length R = ap length d.2 ∙ length-set q o false ∙ g.objects in
    let f : how_many r ≤ length r = few_queued r in
    let z : size T * (length T + 1) ≡ size T * (length R + 1) = ap (λ (n : ℕ). size T * (n + 1)) (sym w.alone.objects) in
    let b = below (size T) (size R) (length R) (how_many r) (how_many q) w.smaller (omega (arith, f, long, lp)) in
    omega (arith, z, b)

-- ---- what differs at the start

-- what was fine on the last state is fine on the state where it is not queued
pub caught_up : (cs : List Cond) (S T : State) (q r : List Bool) → length S ≡ length T → length q ≡ length T → RestFine cs S q → CatchesUp cs S T q r → RestFine cs T r
caught_up cs S T q r same long f u o h n =
    let hs : o < length S = omega (arith, h, same) in
    let w = u.rest o (omega (arith, h, long)) n in
    fine_untouched cs S T o same hs w.1 (f o hs w.0)

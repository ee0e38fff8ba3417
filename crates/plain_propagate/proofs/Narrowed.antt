-- A defect that is mended keeps every supported state, and makes the state smaller.
use Rattle.std.proofs.Common.{◌≡◌, ℕ, zero, suc, ◌<◌, ◌≤◌, Bool, true, false, List, length, set, sym, ap, ◌∙◌, subst, arith, ℤ, pos, negsuc, ◌+ℤ◌, Result, Ok, Err, IsErr}
use Rattle.std.proofs.lemmas.Int.{ints}
use Rattle.std.specs.List.{All}
use Rattle.geo_conditions.specs.declared.cond.Cond.{Cond}
use Rattle.geo_conditions.specs.Conditions.{FitsIn}
use Rattle.geo_state.proofs.Fits.{all_fit}
use Rattle.geo_conditions.specs.Supported.{IsSupported, IsGreatest, NoneInside}
use Rattle.geo_conditions.proofs.Points.{inside_self, inside_trans}
use Rattle.geo_conditions.specs.Reach.{State, reach, low, high, with_low, with_high, without, how_many, Inside}
use Rattle.geo_conditions.specs.Keeps.{Keeps, size}
use Rattle.geo_conditions.proofs.Greatest.{keeps_trans, drop_keeps, raise_keeps, lower_keeps, size_set, fewer, lo_narrower, hi_narrower}
use Rattle.geo_state.specs.declared.propagate.Settled.{Settled}
use Rattle.geo_state.specs.Settle.{SettlesOr}
use Rattle.plain_propagate.specs.Defects.{LacksPoint, LacksLow, LacksHigh, ObjectFine}

-- R keeps every supported state inside S, and is smaller
abbrev pub Mended : List Cond → State → State → Type 0
Mended cs S R = Keeps cs S R × (size R < size S)

-- a low end without a point is raised by 1
pub low_mended : (cs : List Cond) (S R : State) (o d : ℕ) (v : ℤ) → LacksLow cs S o d → length (reach S o).region.lo ≡ length (reach S o).region.hi → v ≡ low S o d +ℤ pos 1 → R ≡ set S o (with_low (reach S o) d v) → Mended cs S R
low_mended cs S R o d v l e f q =
    let q' : R ≡ set S o (with_low (reach S o) d (low S o d +ℤ pos 1)) = q ∙ ap (λ (x : ℤ). set S o (with_low (reach S o) d x)) f in
    subst (Mended cs S) (sym q') (
      raise_keeps cs S o d l.object l.dimension l.lacks,
      size_set S o (with_low (reach S o) d (low S o d +ℤ pos 1)) l.object (let w = lo_narrower (reach S o).region.lo (reach S o).region.hi d (low S o d +ℤ pos 1) l.dimension e (omega (arith, ints)) l.wide in omega arith),
    )

-- a high end without a point is lowered by 1
pub high_mended : (cs : List Cond) (S R : State) (o d : ℕ) (v : ℤ) → LacksHigh cs S o d → length (reach S o).region.lo ≡ length (reach S o).region.hi → v ≡ high S o d +ℤ negsuc 0 → R ≡ set S o (with_high (reach S o) d v) → Mended cs S R
high_mended cs S R o d v l e f q =
    let q' : R ≡ set S o (with_high (reach S o) d (high S o d +ℤ negsuc 0)) = q ∙ ap (λ (x : ℤ). set S o (with_high (reach S o) d x)) f in
    subst (Mended cs S) (sym q') (
      lower_keeps cs S o d l.object l.dimension l.lacks,
      size_set S o (with_high (reach S o) d (high S o d +ℤ negsuc 0)) l.object (let w = hi_narrower (reach S o).region.lo (reach S o).region.hi d (high S o d +ℤ negsuc 0) l.dimension e (omega (arith, ints)) l.wide in omega arith),
    )

-- a place without a point is taken away
pub place_mended : (cs : List Cond) (S R : State) (o s : ℕ) → LacksPoint cs S o s → R ≡ set S o (without (reach S o) s) → Mended cs S R
place_mended cs S R o zero l q = absurd (let h : 1 ≤ 0 = l.from_1 in omega arith)
place_mended cs S R o (suc k) l q =
    let q' : R ≡ set S o (without (reach S o) (suc k)) = q in
    let e : set S o (without (reach S o) (suc k)) ≡ set S o (record { places = set (reach S o).places k false; region = (reach S o).region }) = ap (λ (n : ℕ). set S o (record { places = set (reach S o).places n false; region = (reach S o).region })) (omega arith) in
    subst (Mended cs S) (sym (q' ∙ e)) (
      drop_keeps cs S o k l.object (λ p y. l.lacks (p, y)),
      size_set S o (record { places = set (reach S o).places k false; region = (reach S o).region }) l.object (let w : how_many (set (reach S o).places k false) < how_many (reach S o).places = fewer (reach S o).places k l.there in omega arith),
    )

-- ---- the loop

-- what the loop keeps
pub record Going (cs : List Cond) (S R : State) : Type 0 where
  pub keeps : Keeps cs S R
  pub fits : All (λ c. FitsIn c R) cs

-- nothing has changed yet
pub going_start : (cs : List Cond) (S : State) → All (λ c. FitsIn c S) cs → Going cs S S
going_start cs S f = record { keeps = record { inside = inside_self S; all = λ T s i. i }; fits = f }

-- one change more keeps what the loop keeps
pub going_on : (cs : List Cond) (S R Q : State) → Going cs S R → Keeps cs R Q → Going cs S Q
going_on cs S R Q g k = record {
  keeps = keeps_trans cs S R Q g.keeps k;
  fits = all_fit cs R Q k.inside g.fits;
}

-- narrowed where it changed, and else the same
abbrev pub Unless : Bool → List Cond → State → State → Type 0
Unless true cs S R = Mended cs S R
Unless false cs S R = R ≡ S

-- where nothing changed, nothing is wrong with the objects before n
abbrev pub FineBelow : Bool → List Cond → State → ℕ → Type 0
FineBelow true cs S n = Unit {0}
FineBelow false cs S n = (u : ℕ) → u < n → ObjectFine cs S u

-- one narrowing more
pub unless_on : (b : Bool) (cs : List Cond) (S R Q : State) → Unless b cs S R → Mended cs R Q → Mended cs S Q
unless_on true cs S R Q h m = (keeps_trans cs S R Q h.0 m.0, omega (arith, h.1, m.1))
unless_on false cs S R Q h m = subst (λ (X : State). Mended cs X Q) h m

-- nothing lies inside the state now, so nothing lay inside it before
pub gone_dead : (cs : List Cond) (S R Q : State) → Going cs S R → NoneInside cs R → Inside Q R → NoneInside cs S × Inside Q S
gone_dead cs S R Q g n i = (λ T s j. n T s (g.keeps.all T s j), inside_trans Q R S i g.keeps.inside)

-- what is left and supported is the greatest supported state
pub gone_kept : (cs : List Cond) (S R : State) → Going cs S R → IsSupported cs R → IsGreatest cs S R
gone_kept cs S R g s = record { supported = s; inside = g.keeps.inside; greatest = g.keeps.all }

-- what is left after want of memory
pub settles_failed : {E : Type 0} (cs : List Cond) (S T : State) (r : Result Settled E) → IsErr r → Inside T S → SettlesOr cs S r T
settles_failed cs S T (Ok a) e i = absurd (cc)
settles_failed cs S T (Err e) h i = i

-- A tree whose leaves are refuted on boxes that have all points of their parts covers the box, leaf by leaf on the very part that the
-- cuts leave.
use Rattle.std.proofs.Common.{◌≡◌, ℕ, zero, suc, ◌<◌, ◌≤◌, Bool, true, false, ◌&&◌, List, length, refl, sym, ap, ◌∙◌, subst, inl, inr, arith, ℤ, ◌≤ℤ◌, Option, Some, None}
use Rattle.std.specs.Prelude.{slice_get, Contains}
use Rattle.std.specs.List.{All}
use Rattle.std.proofs.lemmas.Int.{ints}
use Rattle.std.proofs.lemmas.Bool.{cases_Bool, or_left, or_right, not-true, not_from_false}
use Rattle.std.proofs.lemmas.Option.{slice_get_within, get_or_from_slice_get}
use Rattle.geo_base.specs.Boxes.{Has, coordinate}
use Rattle.geo_conditions.specs.declared.cond.Cond.{Cond}
use Rattle.geo_conditions.specs.Reach.{State, Region, dims, with_at}
use Rattle.geo_conditions.specs.Conditions.{possible, FitsIn, AllFit}
use Rattle.geo_conditions.proofs.SmallerBoxes.{refuted_smaller_box}
use Rattle.derivation.specs.Cuts.{near, far, is_empty}
use Rattle.derivation.specs.Covers.{CoverTree, Leaf, Fork, is_refuted, refutes, covers, HasCutsIn, HasNumbersIn, NamesOnly}
use Rattle.derivation.specs.Points.{OnNear, OnFar, CoversPoints}
use Rattle.derivation.proofs.Empty.{fork_is}
use Rattle.derivation.proofs.Parts.{near_out, far_out, near_sizes, far_sizes, ranges_of}

-- a condition that is refuted on a box is refuted on each smaller one
refuted_inside : (f : Option Cond) (S : State) (o s : ℕ) (inner b : Region) → ((c : Cond) → f ≡ Some c → FitsIn c S) → o < length S → ((d : ℕ) → d < dims S o → (coordinate b.lo d ≤ℤ coordinate inner.lo d) × (coordinate inner.hi d ≤ℤ coordinate b.hi d))
    → is_refuted f (with_at S o s b) ≡ true → is_refuted f (with_at S o s inner) ≡ true
refuted_inside None S o s inner b a there r h = h
refuted_inside (Some c) S o s inner b a there r h = not_from_false (possible c (with_at S o s inner)) (refuted_smaller_box c S o s inner b (a c refl) there r (not-true (possible c (with_at S o s b)) h))

-- what is true of each is true of the one at an index
pub all_at : {X : Type 0} (P : X → Type 0) (xs : List X) (i : ℕ) (x : X) → All P xs → slice_get xs i ≡ Some x → P x
all_at P xs i x all e = subst P (get_or_from_slice_get xs i x x e) (all i x (slice_get_within xs i x e))

pub refutes_inside : (cs : List Cond) (i : ℕ) (S : State) (o s : ℕ) (inner b : Region) → AllFit cs S → o < length S → ((d : ℕ) → d < dims S o → (coordinate b.lo d ≤ℤ coordinate inner.lo d) × (coordinate inner.hi d ≤ℤ coordinate b.hi d))
    → refutes cs i (with_at S o s b) ≡ true → refutes cs i (with_at S o s inner) ≡ true
refutes_inside cs zero S o s inner b a there r h = h
refutes_inside cs (suc i) S o s inner b a there r h = refuted_inside (slice_get cs i) S o s inner b (λ c e. all_at (λ x. FitsIn x S) cs i c a e) there r h

-- a test that is true only where the condition exists and is refuted with the object in the box
abbrev pub IsSound : (ℕ → List ℤ → List ℤ → Bool) → List Cond → State → ℕ → ℕ → Type 0
IsSound refuted cs S o s = (i : ℕ) (lo hi : List ℤ) → refuted i lo hi ≡ true → refutes cs i (with_at S o s (record { lo = lo; hi = hi })) ≡ true

-- a box without an empty interval has its corners
corners : (k : ℕ) (b : Region) → length b.lo ≡ k → length b.hi ≡ k → is_empty b ≡ false → Has k b.lo b.hi b.lo × Has k b.lo b.hi b.hi
corners k b l m q = let ranges = ranges_of b.lo b.hi (l ∙ sym m) q in (λ d j. (omega (arith, ints), ranges d), λ d j. (ranges d, omega (arith, ints)))

-- the tree covers each box all of whose points it covers
pub covered_points : (cs : List Cond) (S : State) (o s k : ℕ) (refuted : ℕ → List ℤ → List ℤ → Bool) → IsSound refuted cs S o s → (t : CoverTree) (b : Region) (P : List ℤ → Type 0) → AllFit cs S → o < length S → dims S o ≡ k
    → length b.lo ≡ k → length b.hi ≡ k → ((q : List ℤ) → Has k b.lo b.hi q → P q) → CoversPoints k refuted t P → covers cs S o s b t ≡ true
covered_points cs S o s k refuted sound (Leaf i) b P a there dim l m f e = elim (cases_Bool (is_empty b)) [
  | inl q ↦ or_left (is_empty b) (refutes cs i (with_at S o s b)) q
  | inr q ↦
      let both = corners k b l m q in
      or_right (is_empty b) (refutes cs i (with_at S o s b)) (elim e [
        | inl none ↦ absurd (none.1 b.lo (f b.lo both.0))
        | inr r ↦ refutes_inside cs i S o s b (record { lo = r.0; hi = r.1 }) a there
            (λ d j. let j' : d < k = omega (arith, j, dim) in ((r.3 b.lo (f b.lo both.0) d j').0, (r.3 b.hi (f b.hi both.1) d j').1)) (sound i r.0 r.1 r.2)
      ])
]
covered_points cs S o s k refuted sound (Fork side x y) b P a there dim l m f e =
    let n = near_sizes side k b l m in
    let r = far_sizes side k b l m in
    fork_is cs S o s b side x y
    ∙ ap (λ (z : Bool). z && covers cs S o s (far side b) y) (covered_points cs S o s k refuted sound x (near side b) (λ q. P q × OnNear side q) a there dim n.0 n.1 (λ q i. let z = near_out side k q b e.0.0 l m i in (f q z.0, z.1)) e.1)
    ∙ covered_points cs S o s k refuted sound y (far side b) (λ q. P q × OnFar side q) a there dim r.0 r.1 (λ q i. let z = far_out side k q b e.0.0 l m i in (f q z.0, z.1)) e.2

-- its cuts are within the limits
pub covered_cuts : (k : ℕ) (refuted : ℕ → List ℤ → List ℤ → Bool) (t : CoverTree) (P : List ℤ → Type 0) → CoversPoints k refuted t P → HasCutsIn k t
covered_cuts k refuted (Leaf i) P e = tt
covered_cuts k refuted (Fork side x y) P e = (e.0, covered_cuts k refuted x (λ q. P q × OnNear side q) e.1, covered_cuts k refuted y (λ q. P q × OnFar side q) e.2)

-- and its leaves name the numbers of which the test may be true
pub covered_names : (k : ℕ) (refuted : ℕ → List ℤ → List ℤ → Bool) (numbers : List ℕ) → ((i : ℕ) (lo hi : List ℤ) → refuted i lo hi ≡ true → Contains numbers i) → (t : CoverTree) (b : Region) (P : List ℤ → Type 0)
    → length b.lo ≡ k → length b.hi ≡ k → ((q : List ℤ) → Has k b.lo b.hi q → P q) → CoversPoints k refuted t P → NamesOnly numbers b t
covered_names k refuted numbers named (Leaf i) b P l m f (inl none) = elim (cases_Bool (is_empty b)) [
  | inl q ↦ inr (none.0, q)
  | inr q ↦ absurd (none.1 b.lo (f b.lo (corners k b l m q).0))
]
covered_names k refuted numbers named (Leaf i) b P l m f (inr r) = inl (named i r.0 r.1 r.2)
covered_names k refuted numbers named (Fork side x y) b P l m f e =
    let n = near_sizes side k b l m in
    let r = far_sizes side k b l m in (
      covered_names k refuted numbers named x (near side b) (λ q. P q × OnNear side q) n.0 n.1 (λ q i. let z = near_out side k q b e.0.0 l m i in (f q z.0, z.1)) e.1,
      covered_names k refuted numbers named y (far side b) (λ q. P q × OnFar side q) r.0 r.1 (λ q i. let z = far_out side k q b e.0.0 l m i in (f q z.0, z.1)) e.2,
    )

-- with leaves that name only picked numbers, its numbers are within the list
pub covered_numbers : (k m : ℕ) (numbers : List ℕ) → ((i : ℕ) → Contains numbers i → i ≤ m) → (t : CoverTree) (b : Region) → HasCutsIn k t → NamesOnly numbers b t → HasNumbersIn k m t
covered_numbers k m numbers few (Leaf i) b c (inl n) = inl (few i n)
covered_numbers k m numbers few (Leaf i) b c (inr n) = inr n.0
covered_numbers k m numbers few (Fork side x y) b c n = (c.0, covered_numbers k m numbers few x (near side b) c.1 n.0, covered_numbers k m numbers few y (far side b) c.2 n.1)

-- A part of an empty box is empty, and an empty box is covered by each tree.
use Rattle.std.proofs.Common.{◌≡◌, ℕ, zero, suc, Bool, true, false, ◌||◌, ◌&&◌, List, [], ◌∷◌, set, refl, sym, ap, ◌∙◌, inl, inr, arith, ℤ, pos, negsuc, ◌+ℤ◌}
use Rattle.std.specs.Prelude.{int_lt}
use Rattle.std.specs.Int.{int_min, int_max}
use Rattle.std.proofs.lemmas.Int.{ints}
use Rattle.std.proofs.lemmas.Bool.{cases_Bool, false≢true, or_left}
use Rattle.geo_base.specs.Boxes.{coordinate}
use Rattle.geo_conditions.specs.declared.cond.Cond.{Cond}
use Rattle.geo_conditions.specs.Reach.{State, Region, with_at}
use Rattle.derivation.specs.declared.side.Side.{Side}
use Rattle.derivation.specs.declared.side.Side.TheVariants.{Upto, From}
use Rattle.derivation.specs.Cuts.{near, far, empty_between, is_empty}
use Rattle.derivation.specs.Covers.{CoverTree, Leaf, Fork, covers, refutes}

pub or_map : (a b c d : Bool) → (a ≡ true → c ≡ true) → (b ≡ true → d ≡ true) → (a || b) ≡ true → (c || d) ≡ true
or_map true b c d f g h = ap (λ (x : Bool). x || d) (f refl)
or_map false b true d f g h = refl
or_map false b false d f g h = g h

lt_min : (l h v : ℤ) → int_lt h l ≡ true → int_lt (int_min h v) l ≡ true
lt_min l h v e = grind (arith, ints)

lt_max : (l h v : ℤ) → int_lt h l ≡ true → int_lt h (int_max l v) ≡ true
lt_max l h v e = grind (arith, ints)

empty_upto : (ls hs : List ℤ) (d : ℕ) (v : ℤ) → empty_between ls hs ≡ true → empty_between ls (set hs d (int_min (coordinate hs d) v)) ≡ true
empty_upto [] hs d v e = e
empty_upto (l ∷ ls) [] d v e = e
empty_upto (l ∷ ls) (h ∷ hs) zero v e = or_map (int_lt h l) (empty_between ls hs) (int_lt (int_min h v) l) (empty_between ls hs) (lt_min l h v) (λ q. q) e
empty_upto (l ∷ ls) (h ∷ hs) (suc d) v e = or_map (int_lt h l) (empty_between ls hs) (int_lt h l) (empty_between ls (set hs d (int_min (coordinate hs d) v))) (λ q. q) (empty_upto ls hs d v) e

empty_from : (ls hs : List ℤ) (d : ℕ) (v : ℤ) → empty_between ls hs ≡ true → empty_between (set ls d (int_max (coordinate ls d) v)) hs ≡ true
empty_from [] hs d v e = e
empty_from (l ∷ ls) [] d v e = absurd (false≢true e)
empty_from (l ∷ ls) (h ∷ hs) zero v e = or_map (int_lt h l) (empty_between ls hs) (int_lt h (int_max l v)) (empty_between ls hs) (lt_max l h v) (λ q. q) e
empty_from (l ∷ ls) (h ∷ hs) (suc d) v e = or_map (int_lt h l) (empty_between ls hs) (int_lt h l) (empty_between (set ls d (int_max (coordinate ls d) v)) hs) (λ q. q) (empty_from ls hs d v) e

pub empty_near : (side : Side) (b : Region) → is_empty b ≡ true → is_empty (near side b) ≡ true
empty_near (Upto d v) b e = empty_upto b.lo b.hi d v e
empty_near (From d v) b e = empty_from b.lo b.hi d v e

pub empty_far : (side : Side) (b : Region) → is_empty b ≡ true → is_empty (far side b) ≡ true
empty_far (Upto d v) b e = empty_from b.lo b.hi d (v +ℤ pos 1) e
empty_far (From d v) b e = empty_upto b.lo b.hi d (v +ℤ negsuc 0) e

pub covers_empty : (cs : List Cond) (S : State) (o s : ℕ) (b : Region) (t : CoverTree) → is_empty b ≡ true → covers cs S o s b t ≡ true
covers_empty cs S o s b (Leaf i) e = or_left (is_empty b) (refutes cs i (with_at S o s b)) e
covers_empty cs S o s b (Fork side x y) e = ap (λ (q : Bool). q || (covers cs S o s (near side b) x && covers cs S o s (far side b) y)) e

-- a fork covers exactly where both parts do, so only the leaves are tested
pub fork_is : (cs : List Cond) (S : State) (o s : ℕ) (b : Region) (side : Side) (x y : CoverTree)
    → covers cs S o s b (Fork side x y) ≡ (covers cs S o s (near side b) x && covers cs S o s (far side b) y)
fork_is cs S o s b side x y = elim (cases_Bool (is_empty b)) [
  | inl e ↦ covers_empty cs S o s b (Fork side x y) e ∙ sym (ap (λ (q : Bool). q && covers cs S o s (far side b) y) (covers_empty cs S o s (near side b) x (empty_near side b e)) ∙ covers_empty cs S o s (far side b) y (empty_far side b e))
  | inr e ↦ ap (λ (q : Bool). q || (covers cs S o s (near side b) x && covers cs S o s (far side b) y)) e
]

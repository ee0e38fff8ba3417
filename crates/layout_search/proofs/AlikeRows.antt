-- Lists of conditions that stand for the same trees refute the same, so they make the same nodes of
-- a derivation valid.
use Rattle.std.proofs.Common.{◌≡◌, ℕ, zero, suc, ◌+◌, Bool, false, not, ◌&&◌, ◌||◌, List, [], ◌∷◌, ◌++◌, map, refl, sym, ap, ◌∙◌, Option, Some, None}
use Rattle.std.specs.Prelude.{slice_get, true}
use Rattle.geo_conditions.specs.declared.cond.Cond.{Cond}
use Rattle.geo_conditions.specs.Reach.{State, Region, reach, with_at}
use Rattle.derivation.specs.declared.half.Half.TheVariants.{OfPlace, OfSide}
use Rattle.derivation.specs.Cuts.{near, far, is_empty}
use Rattle.derivation.specs.Covers.{CoverTree, Leaf, Fork, is_refuted, refutes, covers}
use Rattle.derivation.specs.PlaceCovers.{PlaceCover, next_place, is_that, all_cover}
use Rattle.derivation.specs.Nodes.{Node, Split, DropNode, Bound, GoneNode, DeadNode}
use Rattle.derivation.specs.Valid.{first_part, second_part, change, rows}
use Rattle.linear_conditions.specs.CondTree.{CondTree, cond_view}
use Rattle.layout_search.proofs.Alike.{tree-possible, view-possible}

abbrev tree-refuted : Option CondTree → State → Bool
tree-refuted None S = false
tree-refuted (Some c) S = not (tree-possible S c)

view-refuted : (cs : List Cond) (i : ℕ) (S : State) → tree-refuted (slice_get (map cond_view cs) i) S ≡ is_refuted (slice_get cs i) S
view-refuted [] i S = refl
view-refuted (c ∷ cs) zero S = ap not (view-possible S c)
view-refuted (c ∷ cs) (suc i) S = view-refuted cs i S

module _ (cs ds : List Cond) (same : map cond_view cs ≡ map cond_view ds) where
  refutes-alike : (i : ℕ) (S : State) → refutes cs i S ≡ refutes ds i S
  refutes-alike zero S = refl
  refutes-alike (suc i) S = sym (view-refuted cs i S) ∙ ap (λ (l : List CondTree). tree-refuted (slice_get l i) S) same ∙ view-refuted ds i S

  covers-alike : (S : State) (o s : ℕ) (b : Region) (tree : CoverTree) → covers cs S o s b tree ≡ covers ds S o s b tree
  covers-alike S o s b (Leaf i) = ap (λ (r : Bool). is_empty b || r) (refutes-alike i (with_at S o s b))
  covers-alike S o s b (Fork side x y) = λ i. is_empty b || (covers-alike S o s (near side b) x i && covers-alike S o s (far side b) y i)

  all-cover-alike : (S : State) (o : ℕ) (b : Region) (n : ℕ) (list : List PlaceCover) → all_cover cs S o b n list ≡ all_cover ds S o b n list
  all-cover-alike S o b n [] = refl
  all-cover-alike S o b n (c ∷ more) = λ i. is_that (next_place n (reach S o).places) c.place && (covers-alike S o c.place b c.tree i && all-cover-alike S o b (c.place + 1) more i)

  pub rows-alike : (S : State) (root : Node) → rows cs S root ≡ rows ds S root
  rows-alike S (Split o half a b) = λ i. true ∷ (rows-alike (change (first_part half) S o) a i ++ rows-alike (change (second_part half) S o) b i)
  rows-alike S (DropNode o s tree rest) = λ i. covers-alike S o s (reach S o).region tree i ∷ rows-alike (change (second_part (OfPlace s)) S o) rest i
  rows-alike S (Bound o side list rest) = λ i. all-cover-alike S o (far side (reach S o).region) 1 list i ∷ rows-alike (change (first_part (OfSide side)) S o) rest i
  rows-alike S (GoneNode o list) = λ i. all-cover-alike S o (reach S o).region 1 list i ∷ []
  rows-alike S (DeadNode n) = λ i. refutes-alike n S i ∷ []

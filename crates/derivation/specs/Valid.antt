-- Which derivations are valid on a state, and which node is the first that fails.
use Rattle.std.specs.Prelude.{◌≡◌, ◌<◌, ℕ, zero, suc, Bool, true, false, List, [], ◌∷◌, ◌++◌, map, slice_get, slice_index_or, slice_set, Some}
use Rattle.std.specs.List.{All}
use Rattle.geo_conditions.specs.declared.cond.Cond.{Cond}
use Rattle.geo_conditions.specs.Reach.{State, Reach, reach, without, with_places}
use Rattle.derivation.specs.declared.half.Half.{Half}
use Rattle.derivation.specs.declared.half.Half.TheVariants.{OfPlace, OfSide}
use Rattle.derivation.specs.Cuts.{far}
use Rattle.derivation.specs.Covers.{refutes, covers}
use Rattle.derivation.specs.PlaceCovers.{all_cover}
use Rattle.derivation.specs.Chains.{cut_to_side}
use Rattle.derivation.specs.Nodes.{Node, Split, DropNode, Bound, GoneNode, DeadNode}

-- the place alone, where it is there
abbrev pub alone : ℕ → List Bool → List Bool
alone zero places = map (λ _. false) places
alone (suc k) places = slice_set (map (λ _. false) places) k (slice_index_or places k false)

-- the first part of a split, and the second. Each is an intersection, which never widens
abbrev pub first_part : Half → Reach → Reach
first_part (OfPlace s) r = with_places r (alone s r.places)
first_part (OfSide side) r = cut_to_side side r

abbrev pub second_part : Half → Reach → Reach
second_part (OfPlace s) r = without r s
second_part (OfSide side) r = record { places = r.places; region = far side r.region }

-- the state with what is left to one object changed
abbrev pub change : (Reach → Reach) → State → ℕ → State
change f S o = slice_set S o (f (reach S o))

-- What the node has to meet by itself, its parts and its rest aside: what it takes away is covered, or the condition is refuted.
abbrev pub row : List Cond → State → Node → Bool
row cs S (Split o half a b) = true
row cs S (DropNode o s tree rest) = covers cs S o s (reach S o).region tree
row cs S (Bound o side list rest) = all_cover cs S o (far side (reach S o).region) 1 list
row cs S (GoneNode o list) = all_cover cs S o (reach S o).region 1 list
row cs S (DeadNode i) = refutes cs i S

-- the rows of all nodes, in text order, each at the state that the cuts above it leave, also behind a node that fails
abbrev pub rows : List Cond → State → Node → List Bool
rows cs S (Split o half a b) = true ∷ (rows cs (change (first_part half) S o) a ++ rows cs (change (second_part half) S o) b)
rows cs S (DropNode o s tree rest) = row cs S (DropNode o s tree rest) ∷ rows cs (change (second_part (OfPlace s)) S o) rest
rows cs S (Bound o side list rest) = row cs S (Bound o side list rest) ∷ rows cs (change (first_part (OfSide side)) S o) rest
rows cs S (GoneNode o list) = row cs S (GoneNode o list) ∷ []
rows cs S (DeadNode i) = row cs S (DeadNode i) ∷ []

-- node number n fails by itself. Nodes count from 1, in text order
abbrev pub Fails : List Cond → State → Node → ℕ → Type 0
Fails cs S root zero = ⊥
Fails cs S root (suc n) = slice_get (rows cs S root) n ≡ Some false

-- no node fails
abbrev pub Valid : List Cond → State → Node → Type 0
Valid cs S root = All (λ met. met ≡ true) (rows cs S root)

-- node number n fails, and none before it does
pub record FailsFirst (cs : List Cond) (S : State) (root : Node) (n : ℕ) : Type 0 where
  pub fails : Fails cs S root n
  pub first : (m : ℕ) → m < n → Fails cs S root m → ⊥

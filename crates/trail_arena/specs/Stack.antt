-- What a block, a chain of blocks and a stack are seen as.
use Rattle.std.specs.Prelude.{◌≡◌, ℕ, ◌+◌, ◌^◌, ◌<◌, List, [], ◌∷◌, ◌++◌, length, refl}
use Rattle.std.specs.List.{All}
use Rattle.std.specs.Coded.{Coded, code_by, coded×, coded_list, coded_ℕ}

-- the items, the last one on top, and how many more there is room for
pub record Pile (X : Type 0) : Type 0 where
  pub items : List X
  pub spare : ℕ

module _ {X : Type 0} where
  abbrev pub pile : List X → ℕ → Pile X
  pile xs n = record { items = xs; spare = n }

  abbrev pub pile_code : Coded X → Coded (Pile X)
  pile_code c = code_by (List X × ℕ) (coded× (coded_list c) coded_ℕ) (λ p. (p.items, p.spare)) (λ p. pile p.0 p.1) (λ _. refl)

  -- the items of piles that stand on one another, the first pile on top
  abbrev pub stacked : List (Pile X) → List X
  stacked [] = []
  stacked (p ∷ ps) = stacked ps ++ p.items

  -- how many items there is room for in all
  abbrev pub room : List (Pile X) → ℕ
  room [] = 0
  room (p ∷ ps) = p.spare + room ps

  -- the piles below the top one are full and hold items; the top one holds items, or has room
  abbrev pub IsStacked : List (Pile X) → Type 0
  IsStacked [] = Unit {0}
  IsStacked (p ∷ ps) = (0 < length p.items + p.spare) × All (λ q. (q.spare ≡ 0) × (0 < length q.items)) ps

  -- each pile is empty, and has room
  abbrev pub AreFree : List (Pile X) → Type 0
  AreFree ps = All (λ q. (q.items ≡ []) × (0 < q.spare)) ps

  -- the top pile has room
  abbrev pub HasRoom : List (Pile X) → Type 0
  HasRoom [] = ⊥
  HasRoom (p ∷ ps) = 0 < p.spare

  -- the top pile holds an item
  abbrev pub HasItem : List (Pile X) → Type 0
  HasItem [] = ⊥
  HasItem (p ∷ ps) = 0 < length p.items

  -- piles in use, and piles that are free
  pub record ArePiles (used free : List (Pile X)) : Type 0 where
    pub stack : IsStacked used
    pub others : AreFree free

  -- with the items xs, and room for n more
  pub record Holds (used free : List (Pile X)) (xs : List X) (n : ℕ) : Type 0 where
    pub piles : ArePiles used free
    pub items : stacked used ≡ xs
    pub spare : room used + room free ≡ n

  -- the piles of a stack of len items with room for n more
  pub record IsStack (used free : List (Pile X)) (len n : ℕ) : Type 0 where
    pub piles : ArePiles used free
    pub count : length (stacked used) ≡ len
    pub spare : room used + room free ≡ n
    pub fits : len + n < 2 ^ 64

-- the first of the list, and the others, are so; there is a first one
abbrev pub OnTop : {B : Type 0} → List B → (B → List B → Type 0) → Type 0
OnTop [] f = ⊥
OnTop (b ∷ bs) f = f b bs

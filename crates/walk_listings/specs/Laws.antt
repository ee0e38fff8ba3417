-- The laws of listings, as statements.
use Rattle.std.specs.Prelude.{◌≡◌, ◌≤◌, ◌+◌, ◌++◌, ℕ, ℤ, List, [], ◌∷◌, Some, filter, length}
use Rattle.geo_conditions.specs.Walk.{Tree, EndWord, IsFront, IsListing, IsWalk, Lists, More, OutOfBudget, is_full}

-- what the whole walk w lists is a listing by a front
abbrev pub ListingsAreByFronts : Type 0
ListingsAreByFronts = (W : Tree) (w : List (List ℤ)) (most n : ℕ) (found : List (List ℤ)) (word : EndWord) → IsWalk W w → Lists W w most n found word → IsListing W most n found word

-- from each front of at most n members, of which at most as many are full as are wanted, a listing goes on; and so there is a listing of each walk
abbrev pub ListingsGoOn : Type 0
ListingsGoOn = (W : Tree) (w v : List (List ℤ)) (most n : ℕ) → IsWalk W w → IsFront W v → length v ≤ n → length (filter (is_full W) v) ≤ most
    → (rest : List (List ℤ)) × (word : EndWord) × IsListing W most n (filter (is_full W) v ++ rest) word

-- two listings of a walk are one
abbrev pub ListingsAreOne : Type 0
ListingsAreOne = (W : Tree) (w : List (List ℤ)) (most n : ℕ) (found other : List (List ℤ)) (word last : EndWord) → IsWalk W w
    → IsListing W most n found word → IsListing W most n other last → (found ≡ other) × (word ≡ last)

-- the same walk after the values of a tuple
abbrev pub past : Tree → List ℤ → Tree
past W t = record W { after = Some t }

-- Pages join. Where a listing ends in `more` with t, then among some number of members it and the listing after t one behind the other are the listing
-- of as many as both, and it ends as the second one does. A second page that runs out of budget has to be allowed as many members as t has values, since
-- the beginnings of t are members of its walk too: with fewer it may stop where nothing comes after t.
abbrev pub PagesJoin : Type 0
PagesJoin = (W : Tree) (w v : List (List ℤ)) (t : List ℤ) (most n more m : ℕ) (front others : List (List ℤ)) (word : EndWord) → IsWalk W w → IsWalk (past W t) v
    → (word ≡ OutOfBudget → length t ≤ m) → IsListing W most n (front ++ t ∷ []) More → IsListing (past W t) more m others word
    → (j : ℕ) × IsListing W (most + more) j ((front ++ t ∷ []) ++ others) word

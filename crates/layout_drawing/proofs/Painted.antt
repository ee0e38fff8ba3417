-- Rows that are painted block by block.
use Rattle.std.proofs.Common.{◌≡◌, ◌<◌, ◌≤◌, ◌+◌, ℕ, zero, suc, ℤ, pos, negsuc, ◌+ℤ◌, ◌≤ℤ◌, List, [], ◌∷◌, ◌++◌, length, get_or, map, take, add-one, refl, sym, ap, ◌∙◌, subst, inl, inr, ◌⊎◌, arith}
use Rattle.std.proofs.lemmas.Bool.{cases_lt}
use Rattle.std.proofs.lemmas.Int.{ints}
use Rattle.std.proofs.lemmas.List.{ext_get_or, get_or-map, length-map, get_or_default, map-append, take_more}
use Rattle.std.proofs.lemmas.List.FromFn.{get_or-map-range_with_len, length-map-range_with_len, get_or-range_with_len, length-range_with_len}
use Rattle.std.specs.List.{range_with_len}
use Rattle.geo_base.specs.Boxes.{coordinate, Has}
use Rattle.layout_drawing.specs.declared.blocks.Block.{Block}
use Rattle.layout_drawing.specs.declared.owner.Owner.{Owner}
use Rattle.layout_drawing.specs.declared.owner.Owner.TheVariants.{Nobody}
use Rattle.layout_drawing.specs.declared.span.Span.{Span}
use Rattle.layout_drawing.specs.Blocks.{lows, highs, low_of, high_of, IsOfDims, BlockHas, Owns}
use Rattle.layout_drawing.specs.Drawing.{width, upwards, row, IsSign, AreSigns}
use Rattle.layout_drawing.specs.Painting.{owner_with, owner_sign, IsOwner, owner_at, cell_at, ShowsOwners, ReachesRow, IsCounted, CountsBlock}
use Rattle.layout_drawing.proofs.Owners.{owner_same, owner_more, owner_shows, one_sign}

-- ---- the first blocks

-- one of the first n blocks is of the object o and has the cell
abbrev pub OwnsBelow : List Block → ℕ → ℕ → List ℤ → Type 0
OwnsBelow bs n o c = (k : ℕ) × (b : Block) × (k < n) × (k < length bs) × (get_or bs k b ≡ b) × (b.object.0 ≡ o) × BlockHas b c

module _ (bs : List Block) (c : List ℤ) where
  pub none_owned : IsOwner (λ o. OwnsBelow bs 0 o c) Nobody
  none_owned o (k, b, lt, there, same, object, has) = omega arith

  -- one block more
  pub owned_more : (n : ℕ) (b : Block) (old new : Owner) → n < length bs → b ≡ get_or bs n b → IsCounted b c old new → IsOwner (λ o. OwnsBelow bs n o c) old → IsOwner (λ o. OwnsBelow bs (n + 1) o c) new
  owned_more n b old new lt is (inl (has, counted)) h =
      subst (λ (w : Owner). IsOwner (λ o. OwnsBelow bs (n + 1) o c) w) (sym counted)
      (owner_more (λ o. OwnsBelow bs n o c) (λ o. OwnsBelow bs (n + 1) o c) (λ u (k, x, l, there, same, object, in_it). (k, x, omega (arith, l), there, same, object, in_it)) old b.object
      (n, b, omega arith, lt, sym is, refl, has)
      (λ u (k, x, l, there, same, object, in_it). elim (cases_lt k n) [
        | inl less ↦ inl (k, x, less, there, same, object, in_it)
        | inr le ↦ inr (let e : k ≡ n = omega arith in
            let it : b ≡ x = is ∙ get_or_default bs n b x lt ∙ ap (λ (j : ℕ). get_or bs j x) (sym e) ∙ same in
            sym object ∙ ap (λ (y : Block). y.object.0) (sym it))
      ])
      h)
  owned_more n b old new lt is (inr (not, same_owner)) h =
      subst (λ (w : Owner). IsOwner (λ o. OwnsBelow bs (n + 1) o c) w) (sym same_owner)
      (owner_same (λ o. OwnsBelow bs n o c) (λ o. OwnsBelow bs (n + 1) o c) (λ u (k, x, l, there, same, object, in_it). (k, x, omega (arith, l), there, same, object, in_it)) old
      (λ u (k, x, l, there, same, object, in_it). elim (cases_lt k n) [
        | inl less ↦ (k, x, less, there, same, object, in_it)
        | inr le ↦ (let e : k ≡ n = omega arith in
            let it : b ≡ x = is ∙ get_or_default bs n b x lt ∙ ap (λ (j : ℕ). get_or bs j x) (sym e) ∙ same in
            absurd (not (subst (λ (y : Block). BlockHas y c) (sym it) in_it)))
      ])
      h)

  -- all blocks
  pub owned_all : (n : ℕ) (w : Owner) → length bs ≤ n → IsOwner (λ o. OwnsBelow bs n o c) w → IsOwner (λ o. Owns bs o c) w
  owned_all n w le h = owner_same (λ o. OwnsBelow bs n o c) (λ o. Owns bs o c) (λ u (k, x, l, there, same, object, in_it). (x, (k, there, same), object, in_it)) w
      (λ u (x, (k, there, same), object, in_it). (k, x, omega arith, there, same, object, in_it)) h

-- ---- one block at the cells of a row

module _ (b : Block) (a : ℤ) (others : List ℤ) (dims : IsOfDims (length others + 1) b) where
  -- a block has a cell of the row where it reaches the row and the cell's x1
  reached : (x : ℤ) → ReachesRow b others → low_of b 0 ≤ℤ x → x ≤ℤ high_of b 0 → BlockHas b (x ∷ others)
  reached x reach low high zero lt = (low, high)
  reached x reach low high (suc d) lt =
      let less : d < length others = (let e : length b.spans.items ≡ length others + 1 = dims in omega arith) in
      subst (λ (n : ℕ). (low_of b n ≤ℤ coordinate others d) × (coordinate others d ≤ℤ high_of b n)) (add-one d) (reach d less)

  reaching : (x : ℤ) → BlockHas b (x ∷ others) → ReachesRow b others
  reaching x has d lt =
      let less : suc d < length b.spans.items = (let e : length b.spans.items ≡ length others + 1 = dims in omega arith) in
      subst (λ (n : ℕ). (low_of b n ≤ℤ coordinate others d) × (coordinate others d ≤ℤ high_of b n)) (sym (add-one d)) (has (suc d) less)

  -- its numbers in the row
  within : (x : ℤ) → BlockHas b (x ∷ others) → (low_of b 0 ≤ℤ x) × (x ≤ℤ high_of b 0)
  within x has = has 0 (let e : length b.spans.items ≡ length others + 1 = dims in omega arith)

  pub passed_by : (row : List Owner) → (ReachesRow b others → ⊥) → CountsBlock b a others row row
  passed_by row away k lt = inr ((λ has. away (reaching (a +ℤ pos k) has)), refl)

  pub counted : (old new : List Owner) (first last : ℕ) → ReachesRow b others → (a +ℤ pos first) ≡ low_of b 0 → (a +ℤ pos last) ≡ high_of b 0
      → ((k : ℕ) → first ≤ k → k < last + 1 → owner_at new k ≡ owner_with (owner_at old k) b.object)
      → ((k : ℕ) → k < first → owner_at new k ≡ owner_at old k) → ((k : ℕ) → last + 1 ≤ k → owner_at new k ≡ owner_at old k)
      → CountsBlock b a others old new
  counted old new first last reach low high inside before behind k lt =
      elim (cases_lt k first) [
        | inl less ↦ inr ((λ has. (let w = within (a +ℤ pos k) has in absurd (omega (arith, ints, w.0)))), before k less)
        | inr from ↦ elim (cases_lt k (last + 1)) [
          | inl less ↦ inl (reached (a +ℤ pos k) reach (omega (arith, ints)) (omega (arith, ints)), inside k from less)
          | inr past ↦ inr ((λ has. (let w = within (a +ℤ pos k) has in absurd (omega (arith, ints, w.1)))), behind k past)
        ]
      ]

-- ---- a row

pub signs_more : (owners : List Owner) (i : ℕ) → i < length owners → map owner_sign (take (i + 1) owners) ≡ map owner_sign (take i owners) ++ owner_sign (owner_at owners i) ∷ []
signs_more owners i lt = ap (map owner_sign) (take_more owners i Nobody lt) ∙ map-append owner_sign (take i owners) (owner_at owners i ∷ [])

-- the signs of the owners are those of the row
pub row_signs : (bs : List Block) (a b : ℤ) (others : List ℤ) (owners : List Owner) (sign : List ℤ → ℕ) → length owners ≡ width a b → ShowsOwners bs a others owners → AreSigns (Owns bs) sign → map owner_sign owners ≡ map (λ x. sign (x ∷ others)) (upwards a b)
row_signs bs a b others owners sign wide shows right =
    ext_get_or 0 (map owner_sign owners) (map (λ x. sign (x ∷ others)) (upwards a b)) same_length same
  where
    many : length (map (λ x. sign (x ∷ others)) (upwards a b)) ≡ width a b
    many = length-map (upwards a b) (λ x. sign (x ∷ others)) ∙ length-map-range_with_len (λ n. a +ℤ pos n) 0 (width a b)

    same_length : length (map owner_sign owners) ≡ length (map (λ x. sign (x ∷ others)) (upwards a b))
    same_length = length-map owners owner_sign ∙ wide ∙ sym many

    same : (k : ℕ) → k < length (map owner_sign owners) → get_or (map owner_sign owners) k 0 ≡ get_or (map (λ x. sign (x ∷ others)) (upwards a b)) k 0
    same k lt =
        let n : length (map owner_sign owners) ≡ length owners = length-map owners owner_sign in
        let less : k < length owners = omega arith in
        let up : k < width a b = omega (arith, wide) in
        let listed : k < length (upwards a b) = (let e = length-map-range_with_len (λ n. a +ℤ pos n) 0 (width a b) in omega arith) in
        get_or-map owner_sign owners k Nobody 0 less
        ∙ one_sign (λ o. Owns bs o (cell_at a others k)) (owner_sign (owner_at owners k)) (sign (cell_at a others k)) (owner_shows (λ o. Owns bs o (cell_at a others k)) (owner_at owners k) (shows k less)) (right (cell_at a others k))
        ∙ sym (get_or-map (λ x. sign (x ∷ others)) (upwards a b) k (pos 0) 0 listed ∙ ap (λ (x : ℤ). sign (x ∷ others)) (get_or-map-range_with_len (λ n. a +ℤ pos n) 0 (width a b) k k (pos 0) up (omega arith)))

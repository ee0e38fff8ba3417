-- From boxes that block boxes to objects that block objects.
use Rattle.std.proofs.Common.{◌≡◌, ◌<◌, ℕ, ℤ, List, length, sym, subst}
use Rattle.geo_base.specs.Tuple.{Tuple, spot}
use Rattle.problem_data.specs.Problem.{BoxData, ProblemData}
use Rattle.problem_data.specs.Tuple.{boxes_in}
use Rattle.problem_data.specs.Cells.{box_at}
use Rattle.geo_load.specs.Blocks.{Blocks, BoxBlocks, BoxBlocksOne}

module _ (p : ProblemData) (t : Tuple) (d : ℕ) where
  -- the box blocks one of the boxes of the object j
  module _ (a : BoxData) (x : List ℤ) (j : ℕ) (boxes : List BoxData) where
    abbrev pub BlocksAt : List BoxData → ℕ → Type 0
    BlocksAt bs n = BoxBlocks p.dims d a x (box_at bs n) (spot t j).origin

    pub box_in : (n : ℕ) → boxes ≡ boxes_in p t j → n < length boxes → BlocksAt boxes n → BoxBlocksOne p t d a x j
    box_in n same l h =
        let b : BlocksAt (boxes_in p t j) n = subst (λ bs. BlocksAt bs n) same h in
        (b.0, b.1, b.2, (n, subst (λ (bs : List BoxData). n < length bs) same l, b.3), b.4)

    pub box_out : boxes ≡ boxes_in p t j → ((n : ℕ) → n < length boxes → BlocksAt boxes n → ⊥) → BoxBlocksOne p t d a x j → ⊥
    box_out same none (v, w, has, (n, l, h), behind) =
        none n (subst (λ (bs : List BoxData). n < length bs) (sym same) l) (subst (λ bs. BlocksAt bs n) (sym same) (v, w, has, h, behind))

  -- one of the boxes of the object i blocks the object j
  module _ (i j : ℕ) (boxes : List BoxData) where
    abbrev pub OneBlocks : List BoxData → ℕ → Type 0
    OneBlocks bs n = BoxBlocksOne p t d (box_at bs n) (spot t i).origin j

    pub object_in : (n : ℕ) → boxes ≡ boxes_in p t i → n < length boxes → OneBlocks boxes n → Blocks p t d i j
    object_in n same l h =
        let b : OneBlocks (boxes_in p t i) n = subst (λ bs. OneBlocks bs n) same h in
        (b.0, b.1, (n, subst (λ (bs : List BoxData). n < length bs) same l, b.2), b.3, b.4)

    pub object_out : boxes ≡ boxes_in p t i → ((n : ℕ) → n < length boxes → OneBlocks boxes n → ⊥) → Blocks p t d i j → ⊥
    object_out same none (v, w, (n, l, h), has, behind) =
        none n (subst (λ (bs : List BoxData). n < length bs) (sym same) l) (subst (λ bs. OneBlocks bs n) (sym same) (v, w, h, has, behind))

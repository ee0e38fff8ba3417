-- Blocks of objects, as more of them come.
use Rattle.std.proofs.Common.{◌≡◌, ◌<◌, ◌≤◌, ◌+◌, ℕ, zero, suc, ℤ, List, [], ◌∷◌, ◌++◌, length, get_or, refl, sym, ap, ◌∙◌, subst, inl, inr, ◌⊎◌, arith}
use Rattle.std.specs.Prelude.{◌-◌, ◌==◌, All, None, if◌then◌else◌, slice_get}
use Rattle.std.specs.Option.{option_map_or}
use Rattle.std.specs.List.{Contains}
use Rattle.std.proofs.lemmas.Bool.{cases_lt}
use Rattle.std.proofs.lemmas.List.{get_or_past}
use Rattle.std.proofs.lemmas.List.Elements.{All-push, Contains-append_left, Contains-push, Contains-push_cases}
use Rattle.geo_base.specs.Tuple.{nothing_put, spot}
use Rattle.problem_data.specs.Cells.{BoxHas, IsCellOf, box_at}
use Rattle.problem_data.specs.Problem.{BoxData, ProblemData}
use Rattle.problem_data.specs.Tuple.{Spot, Tuple, boxes_in, boxes_of_shape, object_of}
use Rattle.layout_drawing.specs.declared.blocks.Block.{Block}
use Rattle.layout_drawing.specs.Blocks.{IsOfDims, BlockHas, Owns, IsBlockOf, Adds, AreBlocksOf}

-- ---- one block more

pub owns_kept : (bs : List Block) (b : Block) (o : ℕ) (c : List ℤ) → Owns bs o c → Owns (bs ++ b ∷ []) o c
owns_kept bs b o c (x, there, object, has) = (x, Contains-append_left bs (b ∷ []) x there, object, has)

pub owns_new : (bs : List Block) (b : Block) (c : List ℤ) → BlockHas b c → Owns (bs ++ b ∷ []) b.object.0 c
owns_new bs b c has = (b, Contains-push bs b, refl, has)

pub owns_cases : (bs : List Block) (b : Block) (o : ℕ) (c : List ℤ) → Owns (bs ++ b ∷ []) o c → Owns bs o c ⊎ ((b.object.0 ≡ o) × BlockHas b c)
owns_cases bs b o c (x, there, object, has) = elim (Contains-push_cases bs b x there) [
  | inl before ↦ inl (x, before, object, has)
  | inr same ↦ inr (subst (λ (y : Block). (y.object.0 ≡ o) × BlockHas y c) (sym same) (object, has))
]

-- ---- the blocks of one object

-- one of the first n boxes of the object has the cell
abbrev pub HasBelow : ProblemData → Tuple → ℕ → ℕ → List ℤ → Type 0
HasBelow p t o n c = (m : ℕ) × (m < n) × BoxHas p.dims (box_at (boxes_in p t o) m) (spot t o).origin c

module _ (p : ProblemData) (t : Tuple) (o : ℕ) where
  -- to old blocks those of the first n boxes came
  pub record Added (n : ℕ) (old new : List Block) : Type 0 where
    pub dims : All (IsOfDims p.dims) old → All (IsOfDims p.dims) new
    pub kept : (u : ℕ) (c : List ℤ) → Owns old u c → Owns new u c
    pub added : (c : List ℤ) → HasBelow p t o n c → Owns new o c
    pub only : (u : ℕ) (c : List ℤ) → Owns new u c → Owns old u c ⊎ ((u ≡ o) × HasBelow p t o n c)

  pub added_none : (bs : List Block) → Added 0 bs bs
  added_none bs = record {
    dims = λ h. h;
    kept = λ u c h. h;
    added = λ c h. (let lt : h.0 < 0 = h.1 in absurd (omega arith));
    only = λ u c h. inl h;
  }

  pub added_more : (n : ℕ) (old new : List Block) (b : Block) → Added n old new → IsBlockOf p.dims (box_at (boxes_in p t o) n) (spot t o).origin o b → Added (n + 1) old (new ++ b ∷ [])
  added_more n old new b h is = record {
    dims = λ a. All-push (IsOfDims p.dims) new b (h.dims a) is.dims;
    kept = λ u c x. owns_kept new b u c (h.kept u c x);
    added = λ c (m, lt, has). elim (cases_lt m n) [
      | inl less ↦ owns_kept new b o c (h.added c (m, less, has))
      | inr le ↦ (let e : m ≡ n = omega arith in subst (λ (k : ℕ). Owns (new ++ b ∷ []) k c) is.object
          (owns_new new b c (is.has c (subst (λ (k : ℕ). BoxHas p.dims (box_at (boxes_in p t o) k) (spot t o).origin c) e has))))
    ];
    only = λ u c x. elim (owns_cases new b u c x) [
      | inl before ↦ elim (h.only u c before) [ inl a ↦ inl a | inr a ↦ inr (a.0, (a.1.0, (let lt : a.1.0 < n = a.1.1 in omega arith), a.1.2)) ]
      | inr here ↦ inr (sym here.0 ∙ is.object, (n, omega arith, is.only c here.1))
    ];
  }

  pub added_all : (old new : List Block) → Added (length (boxes_in p t o)) old new → Adds p t o old new
  added_all old new h = record {
    dims = h.dims;
    kept = h.kept;
    added = h.added;
    only = h.only;
  }

-- ---- the blocks of all objects

-- an object that is not there has no cells
pub cell_there : (p : ProblemData) (t : Tuple) (o : ℕ) (c : List ℤ) → IsCellOf p t o c → o < length t
cell_there p t o c (n, lt, has) = elim (cases_lt o (length t)) [ inl less ↦ less | inr le ↦ absurd (none le) ]
  where
    none : length t ≤ o → ⊥
    none le =
        let away : spot t o ≡ nothing_put = get_or_past t o nothing_put le in
        let few : length (boxes_in p t o) ≡ 0 = ap (λ (s : Spot). length (option_map_or (boxes_of_shape p) (if s.place == 0 then None else slice_get (object_of p o).shapes (s.place - 1)) [])) away in
        absurd (omega (arith, lt, few))

module _ (p : ProblemData) (t : Tuple) where
  pub record AreBelow (n : ℕ) (bs : List Block) : Type 0 where
    pub dims : All (IsOfDims p.dims) bs
    pub has : (o : ℕ) (c : List ℤ) → o < n → IsCellOf p t o c → Owns bs o c
    pub only : (o : ℕ) (c : List ℤ) → Owns bs o c → IsCellOf p t o c

  pub none_below : AreBelow 0 []
  none_below = record {
    dims = λ k d lt. absurd (omega arith);
    has = λ o c lt h. absurd (omega arith);
    only = λ o c h. (let lt : h.1.0 < 0 = h.1.1 in absurd (omega arith));
  }

  pub more_below : (n : ℕ) (old new : List Block) → AreBelow n old → Adds p t n old new → AreBelow (n + 1) new
  more_below n old new h a = record {
    dims = a.dims h.dims;
    has = λ o c lt is. elim (cases_lt o n) [
      | inl less ↦ a.kept o c (h.has o c less is)
      | inr le ↦ (let e : n ≡ o = omega arith in subst (λ (k : ℕ). Owns new k c) e (a.added c (subst (λ (k : ℕ). IsCellOf p t k c) (sym e) is)))
    ];
    only = λ o c x. elim (a.only o c x) [ inl before ↦ h.only o c before | inr here ↦ subst (λ (k : ℕ). IsCellOf p t k c) (sym here.0) here.1 ];
  }

  pub all_below : (bs : List Block) → AreBelow (length t) bs → AreBlocksOf p t bs
  all_below bs h = record {
    dims = h.dims;
    has = λ o c is. h.has o c (cell_there p t o c is) is;
    only = h.only;
  }

-- Disjunctions that name at most one coordinate of an object in each part. What they refute of a region of that object is one box.
use Rattle.std.specs.Prelude.{◌≡◌, ℕ, pos, AllPairs}
use Rattle.geo_conditions.specs.declared.cond.Cond.{Cond, Lin, Shape, NotShape, AtLeast', Row_of-Cond, end_of-Cond, more_of-Cond}

abbrev mutual
  -- a form with at most one coordinate of o, a literal on a shape, or "at least one of" such conditions
  pub IsDisjunction : ℕ → Cond → Type 0
  IsDisjunction o (Lin f) = AllPairs (λ a b. a.object.0 ≡ o → b.object.0 ≡ o → ⊥) f.terms
  IsDisjunction o (Shape u s) = Unit {0}
  IsDisjunction o (NotShape u s) = Unit {0}
  IsDisjunction o (AtLeast' n shape cs) = (n ≡ pos 1) × AreDisjunctions o cs

  pub AreDisjunctions : {m : _} → ℕ → Row_of-Cond m → Type 0
  AreDisjunctions o end_of-Cond = Unit {0}
  AreDisjunctions o (more_of-Cond c cs) = IsDisjunction o c × AreDisjunctions o cs

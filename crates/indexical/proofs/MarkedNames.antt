-- The objects that one of some parts names, marked by a walk over the parts.
use Rattle.std.proofs.Common.{◌≡◌, ℕ, suc, ◌<◌, ◌≤◌, Bool, true, false, List, length, drop, get_or, refl, sym, ap, ◌∙◌, arith}
use Rattle.std.specs.Prelude.{◌||◌, slice_index_or}
use Rattle.std.specs.List.{list_any}
use Rattle.std.proofs.Math.Seq.{drop-cons}
use Rattle.std.proofs.lemmas.List.{drop_all}
use Rattle.indexical.specs.Names.{MarksThose}

-- the marks of the parts that were passed are set: with those of the parts behind, they are those of all parts
pub record MarksAmong {X : Type 0} (test : ℕ → X → Bool) (xs : List X) (i : ℕ) (old new : List Bool) : Type 0 where
  pub same : length new ≡ length old
  pub each : (o : ℕ) → o < length old → (list_any (test o) (drop i xs) || slice_index_or new o false) ≡ (list_any (test o) xs || slice_index_or old o false)

pub marks_start : {X : Type 0} (test : ℕ → X → Bool) (xs : List X) (old : List Bool) → MarksAmong test xs 0 old old
marks_start test xs old = record { same = refl; each = λ o h. refl }

swap : (a t m : Bool) → (a || (t || m)) ≡ ((t || a) || m)
swap true true m = refl
swap true false m = refl
swap false true m = refl
swap false false m = refl

-- one part more
pub marks_step : {X : Type 0} (test : ℕ → X → Bool) (xs : List X) (i : ℕ) (old mid new : List Bool) (x : X) → i < length xs → MarksThose (λ o. test o (get_or xs i x)) mid new
    → MarksAmong test xs i old mid → MarksAmong test xs (suc i) old new
marks_step test xs i old mid new x h n p = record {
  same = n.same ∙ p.same;
  each = λ o l.
      let rest = list_any (test o) (drop (suc i) xs) in
      ap (λ (b : Bool). rest || b) (n.each o (omega (arith, l, p.same)))
      ∙ swap rest (test o (get_or xs i x)) (slice_index_or mid o false)
      ∙ ap (λ (b : Bool). b || slice_index_or mid o false) (sym (ap (list_any (test o)) (drop-cons xs i x h)))
      ∙ p.each o l;
}

-- all parts
pub marks_end : {X : Type 0} (test : ℕ → X → Bool) (xs : List X) (i : ℕ) (old new : List Bool) → length xs ≤ i → MarksAmong test xs i old new → MarksThose (λ o. list_any (test o) xs) old new
marks_end test xs i old new h p = record {
  same = p.same;
  each = λ o l. ap (λ (b : Bool). b || slice_index_or new o false) (sym (ap (list_any (test o)) (drop_all i xs h))) ∙ p.each o l;
}

-- a test that has the same answers
pub marks_same : (test other : ℕ → Bool) (old new : List Bool) → ((o : ℕ) → test o ≡ other o) → MarksThose other old new → MarksThose test old new
marks_same test other old new e n = record {
  same = n.same;
  each = λ o l. n.each o l ∙ ap (λ (b : Bool). b || slice_index_or old o false) (sym (e o));
}

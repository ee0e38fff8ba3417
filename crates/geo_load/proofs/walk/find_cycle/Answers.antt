use Rattle.std.proofs.Common.{◌≡◌, ◌+◌, ℕ, List, [], ◌∷◌, ◌++◌, length, drop, arith, subst, sym, ap, ◌∙◌, length-append, inl, inr}
use Rattle.std.proofs.Common.{Result, IfOk}
use Rattle.std.proofs.Common.{Ok, Err, Vec, Global}
use Rattle.geo_load.specs.Order.{Has, HasNot, IsOnce, IsWalk, IsCycle, BeginsLeast}
use Rattle.geo_load.specs.Pairs.{Says}
use Rattle.geo_load.specs.Walk.{IsAt}
use Rattle.geo_load.proofs.Members.{once_last, has_last, no_more}
use Rattle.geo_load.proofs.Laws.{is_cycle, walk_more, begins_more}
use Rattle.geo_load.proofs.walk.find_cycle.Goals as goal

cycle_ok : {E : Type 0} (b : ℕ → ℕ → Type 0) (left path : List ℕ) (r : Result (Vec ℕ Global) E) → IsCycle b left path → IfOk r (λ v. v.items ≡ path) → IfOk r (λ v. IsCycle b left v.items)
cycle_ok b left path (Ok v) is e = subst (λ (xs : List ℕ). IsCycle b left xs) (sym e) is
cycle_ok b left path (Err x) is e = tt

pub returns-in-Some : goal.returns-in-Some
returns-in-Some c =
    let b = Says c.args.answers.now in
    let left = c.args.left.now in
    let items : c.push.new.self.items ≡ c.walking.path.items ++ c.walking.last ∷ [] = c.in_ok-push.ensures.items in
    let whole : c.deref-in-Some.result.now ≡ c.walking.path.items ++ c.walking.last ∷ [] = c.deref-in-Some.ensures.value ∙ items in
    let at : IsAt (c.walking.path.items ++ c.walking.last ∷ []) c.in-Some.k c.least_blocked-next.result = subst (λ (xs : List ℕ). IsAt xs c.in-Some.k c.least_blocked-next.result) (c.deref.ensures.value ∙ items) c.in-Some.ensures in
    let is = is_cycle b left (c.walking.path.items ++ c.walking.last ∷ []) c.in-Some.k c.least_blocked-next.result at c.walking.invariant.begins
    (walk_more b left c.walking.path.items c.walking.last c.least_blocked-next.result c.walking.invariant.walk c.least_blocked-next.ensures)
    (once_last c.walking.path.items c.walking.last c.walking.invariant.once c.walking.invariant.fresh) in
    cycle_ok b left (drop c.in-Some.k c.deref-in-Some.result.now) c.tail.result (subst (λ (xs : List ℕ). IsCycle b left xs) (sym (ap (drop c.in-Some.k) whole)) is) c.tail.ensures

pub walking-smaller : goal.walking-smaller
walking-smaller c =
    let items : c.push.new.self.items ≡ c.walking.path.items ++ c.walking.last ∷ [] = c.in_ok-push.ensures.items in
    let longer : length c.push.new.self.items ≡ length c.walking.path.items + 1 = ap length items ∙ length-append c.walking.path.items (c.walking.last ∷ []) in
    let few = no_more c.walking.path.items c.args.left.now c.walking.invariant.once c.walking.invariant.there in
    omega (arith, longer, few)

pub walking-preserved : goal.walking-preserved
walking-preserved c =
    let b = Says c.args.answers.now in
    let left = c.args.left.now in
    let items : c.push.new.self.items ≡ c.walking.path.items ++ c.walking.last ∷ [] = c.in_ok-push.ensures.items in
    record {
      begins = begins_more b left c.push.new.self.items c.least_blocked-next.result (subst (λ (xs : List ℕ). BeginsLeast left xs) (sym items) c.walking.invariant.begins);
      walk = subst (λ (xs : List ℕ). IsWalk b left xs c.least_blocked-next.result) (sym items) (walk_more b left c.walking.path.items c.walking.last c.least_blocked-next.result c.walking.invariant.walk c.least_blocked-next.ensures);
      once = subst IsOnce (sym items) (once_last c.walking.path.items c.walking.last c.walking.invariant.once c.walking.invariant.fresh);
      fresh = subst (λ (xs : List ℕ). HasNot xs c.least_blocked-next.result) c.deref.ensures.value c.in_default.ensures;
      there = λ o h. elim (has_last c.walking.path.items c.walking.last o (subst (λ (xs : List ℕ). Has xs o) items h)) [
        | inl m ↦ c.walking.invariant.there o m
        | inr e ↦ subst (λ (v : ℕ). Has left v) e c.walking.invariant.last
      ];
      last = c.least_blocked-next.ensures.there;
    }

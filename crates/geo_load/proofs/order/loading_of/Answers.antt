use Rattle.std.proofs.Common.{◌≡◌, ◌<◌, ◌++◌, ◌∷◌, [], ℕ, List, length, get_or, arith, subst, sym, ap, ◌∙◌}
use Rattle.std.specs.List.{remove}
use Rattle.geo_load.specs.Order.{BlocksOne, IsClear, IsCycle, IsStuck, Loads, IsAscending}
use Rattle.geo_load.specs.Pairs.{Says}
use Rattle.geo_load.proofs.Members.{removed, without_ascends, same_or}
use Rattle.geo_load.proofs.Laws.{loads_at, all_block}
use Rattle.geo_load.proofs.order.loading_of.Goals as goal

pub loading-preserved : goal.loading-preserved
loading-preserved c =
    let f = subst (λ (xs : List ℕ). (c.in-Some.i < length xs)
    × ((d : ℕ) → IsClear (Says c.args.answers.now) xs (get_or xs c.in-Some.i d))
    × ((k d : ℕ) → k < c.in-Some.i → BlocksOne (Says c.args.answers.now) xs (get_or xs k d))) c.deref.ensures.value c.in-Some.ensures in
    let left : c.remove-o.new.self.items ≡ remove c.loading.left.items c.in-Some.i = c.remove-o.ensures.items in
    let order : c.push.new.self.items ≡ c.loading.order.items ++ get_or c.loading.left.items c.in-Some.i 0 ∷ [] = c.in_ok-push-in-Some.ensures.items ∙ ap (λ (o : ℕ). c.loading.order.items ++ o ∷ []) (c.remove-o.ensures.value ∙ same_or c.loading.left.items c.in-Some.i c.remove-o.result 0 f.0) in
    record {
      loads = subst (λ (xs : List ℕ). Loads (Says c.args.answers.now) c.args.objects.items c.push.new.self.items xs) (sym left)
          (subst (λ (ys : List ℕ). Loads (Says c.args.answers.now) c.args.objects.items ys (remove c.loading.left.items c.in-Some.i)) (sym order)
          (loads_at (Says c.args.answers.now) c.args.objects.items c.loading.order.items c.loading.left.items c.in-Some.i c.loading.invariant.ascending f.0 f.1 f.2 c.loading.invariant.loads));
      ascending = subst IsAscending (sym (left ∙ removed c.loading.left.items c.in-Some.i 0 c.loading.invariant.ascending f.0)) (without_ascends (get_or c.loading.left.items c.in-Some.i 0) c.loading.left.items c.loading.invariant.ascending);
    }

pub find_cycle-requires-clause-stuck : goal.find_cycle-requires-clause-stuck
find_cycle-requires-clause-stuck c = subst (λ (xs : List ℕ). IsStuck (Says c.args.answers.now) xs) (sym c.deref-in-None.ensures.value) (subst (λ (xs : List ℕ). IsStuck (Says c.args.answers.now) xs) c.deref.ensures.value (record { some = grind (arith, c.loading-test.ensures, c.deref.ensures.len); each = all_block (Says c.args.answers.now) c.deref.result.now c.in-None.ensures }))

pub returns-in-None : goal.returns-in-None
returns-in-None c = (
  c.loading.order.items,
  c.deref-in-None.result.now,
  subst (λ (xs : List ℕ). Loads (Says c.args.answers.now) c.args.objects.items c.loading.order.items xs) (sym c.deref-in-None.ensures.value) c.loading.invariant.loads,
  subst (λ (xs : List ℕ). IsStuck (Says c.args.answers.now) xs) (sym c.deref-in-None.ensures.value) (subst (λ (xs : List ℕ). IsStuck (Says c.args.answers.now) xs) c.deref.ensures.value (record { some = grind (arith, c.loading-test.ensures, c.deref.ensures.len); each = all_block (Says c.args.answers.now) c.deref.result.now c.in-None.ensures })),
  subst (λ (xs : List ℕ). IsCycle (Says c.args.answers.now) c.deref-in-None.result.now xs) (sym c.new.ensures) c.in_ok-cycle-in-None.ensures,
)

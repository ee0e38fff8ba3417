use Rattle.std.proofs.Common.{◌≡◌, ◌<◌, ◌||◌, ℕ, Bool, ltb, arith}
use Rattle.std.proofs.lemmas.Grind.{common_steps}
use Rattle.problem_data.proofs.fault.FaultInOrder.is_after.Goals as goal

-- a place behind the other comes after it, whatever stands there
behind : (p q : ℕ) (x : Bool) → q < p → ltb q p ≡ ltb q p || x
behind p q x h = grind (arith, common_steps)

pub returns-then-self-other : goal.returns-then-self-other
returns-then-self-other c = behind c.args.self.now.place c.args.other.now.place _ c.if-self-other.true

use Rattle.indexical.proofs.any.AnyIndexical.facing.Goals as goal

pub returns-in-Some : goal.returns-in-Some
returns-in-Some g c = c.facing.ensures c.args.self.now.cond (c.args.self.now.says c.in-Some.boxes c.in-Some.is)

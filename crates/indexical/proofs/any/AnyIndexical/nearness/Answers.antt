use Rattle.indexical.proofs.any.AnyIndexical.nearness.Goals as goal

pub returns-in-Some : goal.returns-in-Some
returns-in-Some g c = c.nearness.ensures c.args.self.now.cond (c.args.self.now.says c.in-Some.boxes c.in-Some.is)

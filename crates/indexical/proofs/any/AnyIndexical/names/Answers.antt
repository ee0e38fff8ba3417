use Rattle.std.proofs.Common.{sym, ◌∙◌}
use Rattle.indexical.specs.Apart.{SaysApart}
use Rattle.indexical.proofs.any.AnyIndexical.names.Goals as goal

pub returns-in-Some : goal.returns-in-Some
returns-in-Some g c =
    let x = c.in-Some.boxes in
    let says : SaysApart x.first x.second x.short c.args.self.now.cond = c.args.self.now.says x c.in-Some.is in
    c.is_of.ensures ∙ sym (says.named c.args.o.0)

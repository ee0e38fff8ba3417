use Rattle.std.proofs.Common.{ap, sym, ◌∙◌}
use Rattle.rule_expand.specs.PlainTruth.{variable_in}
use Rattle.rule_values.specs.View.{env_view, thing_view}
use Rattle.rule_values.proofs.Seen.{more-seen, outer-thing, own-thing}
use Rattle.rule_values.proofs.env.+variable.Goals as goal

pub returns-then-v-own : goal.returns-then-v-own
returns-then-v-own t c =
    sym (ap (variable_in c.args.v) (more-seen c.in-More.outer c.in-More.own c.in-More.thing c.in-More.is)
    ∙ own-thing c.args.v c.in-More.own (thing_view c.in-More.thing) (env_view c.in-More.outer.now) c.if-v-own.true)

pub returns-else-v-own : goal.returns-else-v-own
returns-else-v-own t c =
    c.variable.ensures
    ∙ sym (ap (variable_in c.args.v) (more-seen c.in-More.outer c.in-More.own c.in-More.thing c.in-More.is)
    ∙ outer-thing c.args.v c.in-More.own (thing_view c.in-More.thing) (env_view c.in-More.outer.now) c.if-v-own.false)

use Rattle.std.proofs.Common.{sym, map}
use Rattle.std.proofs.lemmas.List.{append-nil}
use Rattle.indexical.specs.declared.any.AnyIndexical.{AnyIndexical}
use Rattle.condition_parts.proofs.Mapped.{once_more, value_more}
use Rattle.condition_parts.proofs.taken.put_others.Goals as goal

pub loop-c-init : goal.loop-c-init
loop-c-init g c = record {
  parts = sym (append-nil (map (λ (x : AnyIndexical g.row.K). x.cond) c.args.rest.now.items));
  numbers = sym (append-nil c.args.numbers.now.items);
}

pub loop-c-preserved : goal.loop-c-preserved
loop-c-preserved g c = record {
  parts = value_more (λ (x : AnyIndexical g.row.K). x.cond) (map (λ (x : AnyIndexical g.row.K). x.cond) c.args.rest.now.items) c.loop-c.rest.items c.push.new.self.items c.loop-c.yielded c.from_cond.result c.in-Some.c c.loop-c.invariant.parts c.in_ok-push.ensures.items c.from_cond.ensures;
  numbers = once_more c.args.numbers.now.items c.loop-c.numbers.items c.push-in-loop-c.new.self.items c.loop-c.yielded c.in-Some.c c.args.number c.loop-c.invariant.numbers c.in_ok-push-2.ensures.items;
}

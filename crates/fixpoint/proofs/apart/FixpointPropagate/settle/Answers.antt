use Rattle.std.proofs.Common.{◌≡◌, ◌++◌, ℕ, true, map, take, drop, length, subst, rules}
use Rattle.geo_conditions.specs.Conditions.{AllFit}
use Rattle.indexical.specs.declared.any.AnyIndexical.{AnyIndexical}
use Rattle.derivation.specs.Renumbered.{renumbered}
use Rattle.condition_parts.specs.Apart.{wholes_of}
use Rattle.fixpoint.proofs.TakenApart.{parts_fit, settles_whole, records_whole, blames_whole}
use Rattle.fixpoint.proofs.apart.FixpointPropagate.settle.Goals as goal

pub settle-settled-requires : goal.settle-settled-requires
settle-settled-requires g c =
    let self = c.args.self.now in
    let ps = map (λ (x : AnyIndexical g.row.K). x.cond) self.parts.list.items in
    let fits : AllFit ps c.args.t.now.state = parts_fit (wholes_of self.wholes.items ps) ps self.numbers self.apart c.args.t.now.state c.requires.fits in
    search rules

pub returns-clause-settles : goal.returns-clause-settles
returns-clause-settles g c =
    let self = c.args.self.now in
    let ps = map (λ (x : AnyIndexical g.row.K). x.cond) self.parts.list.items in
    settles_whole (wholes_of self.wholes.items ps) ps self.numbers self.apart c.args.t.now.state c.settle-settled.new.t.state c.settle-settled.result c.settle-settled.ensures.settles

pub returns-clause-record : goal.returns-clause-record
returns-clause-record g c =
    let self = c.args.self.now in
    let ps = map (λ (x : AnyIndexical g.row.K). x.cond) self.parts.list.items in
    let old = g.R.Recorder.list c.args.rec.now in
    let mid = g.R.Recorder.list c.settle-settled.new.rec in
    let new = g.R.Recorder.list c.renumber.new.self in
    let r = self.numbers in
    let same : g.R.Recorder.keeps ≡ true → new ≡ take (length old) mid ++ map (renumbered r) (drop (length old) mid) =
    λ k. subst (λ (n : ℕ). new ≡ take n mid ++ map (renumbered r) (drop n mid)) (c.mark-before.ensures.kept k) (c.renumber.ensures.list k) in
    records_whole (wholes_of self.wholes.items ps) ps r self.apart c.args.t.now.state c.settle-settled.new.t.state c.settle-settled.result g.R.Recorder.keeps old mid new same c.settle-settled.ensures.record

pub returns-clause-blame : goal.returns-clause-blame
returns-clause-blame g c =
    let self = c.args.self.now in
    let ps = map (λ (x : AnyIndexical g.row.K). x.cond) self.parts.list.items in
    let old = g.R.Recorder.list c.args.rec.now in
    let mid = g.R.Recorder.list c.settle-settled.new.rec in
    let new = g.R.Recorder.list c.renumber.new.self in
    let r = self.numbers in
    let same : g.R.Recorder.keeps ≡ true → new ≡ take (length old) mid ++ map (renumbered r) (drop (length old) mid) =
    λ k. subst (λ (n : ℕ). new ≡ take n mid ++ map (renumbered r) (drop n mid)) (c.mark-before.ensures.kept k) (c.renumber.ensures.list k) in
    blames_whole (wholes_of self.wholes.items ps) ps r self.apart c.args.t.now.state c.settle-settled.result g.R.Recorder.keeps old mid new c.settle-settled.ensures.grows.events same c.settle-settled.ensures.blame

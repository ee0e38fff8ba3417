use Rattle.geo_state.proofs.entries.save.Goals as goal

pub push-requires : goal.push-requires
push-requires g c = record { room = c.requires.room c.if-level-depth.true }

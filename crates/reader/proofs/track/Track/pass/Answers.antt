use mathlib.Core.Path.{◌∙◌, ap}
use Rattle.message.specs.Heads.{msg_size}
use Rattle.reader.proofs.CellLaws.{granule_part}
use Rattle.reader.proofs.TrackCases.{pass_start, pass_idle}
use Rattle.reader.proofs.track.Track.pass.Goals as goal

pub returns-then-starts_at : goal.returns-then-starts_at
returns-then-starts_at c = let part = granule_part c.args.contents.format c.args.g _ c.measure_granule.result c.args.contents.container.now c.locate_granule-a.ensures c.measure_granule.ensures in
    c.follow.ensures ∙ pass_start _ c.args.contents.container.now _ _ _ c.starts_at.ensures c.if-starts_at.true (c.measure_message.ensures ∙ ap msg_size part)

pub returns : goal.returns
returns c = c.follow-2.ensures ∙ pass_idle _ c.args.contents.container.now _ _ _ c.starts_at.ensures c.if-starts_at.false

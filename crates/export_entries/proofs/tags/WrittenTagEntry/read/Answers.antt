use Rattle.export_entries.specs.Tags.{tag_fault, written_tag}
use Rattle.export_entries.proofs.Later.{ends_as}
use Rattle.export_entries.proofs.tags.WrittenTagEntry.read.Goals as goal

pub returns-in_err-turn : goal.returns-in_err-turn
unfolding tag_fault written_tag
returns-in_err-turn c =
    ends_as _ _ _ _ c.from_residual-in_err-turn.ensures.1
    (rw (
      c.in_ok-object.ensures.0,
      c.in_ok-id.ensures.0,
      c.in_ok-name.ensures.0,
      c.in_ok-kind.ensures.0,
      c.in_ok-params.ensures.0,
      c.in_ok-firing.ensures.0,
      c.in_ok-blocking.ensures.0,
      c.in_ok-priority.ensures.0,
    ) c.in_err-turn.ensures)

use Rattle.std.proofs.lemmas.Str.{chars-nil}
use Rattle.gtm_base.proofs.text.Text.with_room.Goals as goal

pub returns : goal.returns
returns c = rw c.in_ok-with_capacity.ensures.bytes chars-nil

use Rattle.sjs_sound.proofs.Sound.{reads}
use Rattle.sjs_sound.proofs.laws.what_is_taken_is_read.Goals as goal

pub returns : goal.returns
returns c = reads

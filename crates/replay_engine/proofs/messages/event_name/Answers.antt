use Rattle.std.proofs.Common.{◌∙◌, ap, refl}
use Rattle.std.specs.Prelude.{codes, option_and_then}
use Rattle.gtm_data.specs.Tree.{text_in}
use Rattle.gtm_base.proofs.Characters.{chars-ascii}
use Rattle.replay_engine.proofs.messages.event_name.Goals as goal

pub returns-in-Some : goal.returns-in-Some
returns-in-Some c =
    c.as_text.ensures
    ∙ ap (option_and_then text_in) (rw (chars-ascii (codes "event") refl) at c.in-Some.ensures)

pub returns-in-None : goal.returns-in-None
returns-in-None c =
    ap (option_and_then text_in) (rw (chars-ascii (codes "event") refl) at c.in-None.ensures)

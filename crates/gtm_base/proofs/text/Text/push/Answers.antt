use Rattle.std.proofs.lemmas.Str.{IsUtf8-string_bytes}
use Rattle.gtm_base.proofs.Characters.{chars-push}
use Rattle.gtm_base.proofs.text.Text.push.Goals as goal

pub returns-clause-ok : goal.returns-clause-ok
returns-clause-ok c =
    rw (c.in_ok-push.ensures.bytes, ← c.self.view_is)
    (chars-push _ _ (IsUtf8-string_bytes c.self.inside.inner) (rw c.ranges.character.0))

use Rattle.std.proofs.Common.{◌≡◌, []}
use Rattle.std.proofs.lemmas.Str.{chars-nil}
use Rattle.std.specs.Prelude.{string_bytes}
use Rattle.std.specs.Str.{chars}
use Rattle.gtm_base.proofs.text.Text.set.Goals as goal

pub returns-clause-ok : goal.returns-clause-ok
returns-clause-ok c =
    let cleared : chars (string_bytes c.clear.new.self) ≡ [] = rw c.clear.ensures.bytes chars-nil in
    rw cleared at c.push_str.ensures.ok

pub returns-clause-err : goal.returns-clause-err
returns-clause-err c =
    let cleared : chars (string_bytes c.clear.new.self) ≡ [] = rw c.clear.ensures.bytes chars-nil in
    rw cleared at c.push_str.ensures.err

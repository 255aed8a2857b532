use Rattle.std.proofs.Common.{◌≡◌, arith, sym, ◌∙◌}
use Rattle.std.proofs.lemmas.Fmt.{decimal_injective}
use Rattle.gtm_data.proofs.walking.index_below.Goals as goal

pub returns-else-at-limit-clause-none : goal.returns-else-at-limit-clause-none
returns-else-at-limit-clause-none c =
    λ at below written.
    let same : at ≡ c.in_ok-at.at =
    decimal_injective at c.in_ok-at.at (omega arith) (omega arith)
    (written ∙ sym c.in_ok-at.ensures.written) in
    omega arith

use Rattle.std.proofs.Common.{◌≡◌, arith, sym, ◌∙◌}
use Rattle.std.proofs.lemmas.Fmt.{decimal_injective}
use Rattle.data_layer.proofs.indexes.index_below.Goals as goal

pub returns-else-at-count-clause-none : goal.returns-else-at-count-clause-none
returns-else-at-count-clause-none c =
    λ at below written.
    let same : at ≡ c.in_ok-at.at =
    decimal_injective at c.in_ok-at.at (omega arith) (omega arith)
    (written ∙ sym c.in_ok-at.ensures.written) in
    omega arith

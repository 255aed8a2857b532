use Rattle.std.proofs.Common.{arith}
use Rattle.std.proofs.lemmas.Bool.Decides.{nat_tests}
use Rattle.data_layer.proofs.FewParts.{few_parts}
use Rattle.data_layer.proofs.measuring.levels.Goals as goal

pub returns-then-saturating_add-lt-MAX_DEPTH : goal.returns-then-saturating_add-lt-MAX_DEPTH
returns-then-saturating_add-lt-MAX_DEPTH c = let few = few_parts c.args.key.now c.utf8.key in
    grind (
      arith,
      nat_tests,
      c.if-saturating_add-lt-MAX_DEPTH.true,
      c.saturating_add.ensures,
      c.depth-depth.ensures,
    )

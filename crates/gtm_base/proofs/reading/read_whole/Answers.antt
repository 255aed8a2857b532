use Rattle.std.proofs.Common.{refl, rules, arith}
use Rattle.std.specs.Prelude.{Ok}
use Rattle.std.proofs.lemmas.Grind.{common_steps}
use Rattle.gtm_base.specs.Causes.{every}
use Rattle.gtm_base.proofs.Pieces.{read_further}
use Rattle.gtm_base.proofs.ReadPieces.{reads_then}
use Rattle.gtm_base.proofs.reading.read_whole.Goals as goal

pub returns-then-is_err-clause-files : goal.returns-then-is_err-clause-files
returns-then-is_err-clause-files g c =
    reads_then every _ every (Ok c.in-Ok.count) _ _ _ _ _ refl c.loop-piece.invariant.files
    c.in-Ok.ensures.files

pub returns-then-is_err-clause-within : goal.returns-then-is_err-clause-within
returns-then-is_err-clause-within g c = record {
  bytes = _;
  few = grind (arith, common_steps);
  left = read_further _ _ _ _ _ c.loop-piece.invariant.bytes c.in-Ok.ensures.bytes;
}

pub loop-piece-preserved : goal.loop-piece-preserved
loop-piece-preserved g c = record {
  files =
      reads_then every _ every (Ok c.in-Ok.count) every _ _ _ _ refl c.loop-piece.invariant.files
      c.in-Ok.ensures.files;
  within = search rules;
  bytes = grind (arith, common_steps);
}

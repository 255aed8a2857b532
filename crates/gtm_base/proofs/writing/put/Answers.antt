use Rattle.std.proofs.Common.{rules}
use Rattle.gtm_base.proofs.WrittenPieces.{way_front}
use Rattle.gtm_base.proofs.writing.put.Goals as goal

pub loop-done-preserved : goal.loop-done-preserved
loop-done-preserved g c = record {
  within = search rules;
  text =
      way_front _ _ _ c.args.piece.now c.loop-done.done c.in_ok-done.field-0
      c.loop-done.invariant.text c.in_ok-done.ensures.bytes c.in_ok-done.ensures.counted;
}

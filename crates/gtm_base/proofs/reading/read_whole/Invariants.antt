use Rattle.std.proofs.Common.{◌-◌, ◌≡◌, ◌≤◌, vec_len}
use Rattle.std.specs.Prelude.{Ok}
use Rattle.gtm_base.specs.Causes.{every}
use Rattle.gtm_base.specs.Outside.{ReadsOn, followed_by}
use Rattle.gtm_base.specs.declared.outside.FileFailed.{FileFailed}
use Rattle.gtm_base.proofs.reading.read_whole.Given as goal

abbrev pub invariant-loop-piece : goal.invariant-loop-piece
invariant-loop-piece g l = record {
  files : ReadsOn {T = Unit {0}} {E = FileFailed} every (Ok tt) (g.F.Files.state l.fn.files)
      (g.F.Files.state l.files);
  within : vec_len l.bytes ≤ l.limit;
  bytes : (g.F.Files.state l.fn.files).left
      ≡ followed_by l.bytes.items (g.F.Files.state l.files).left;
}

abbrev pub decreases-loop-piece : goal.decreases-loop-piece
decreases-loop-piece g l = l.limit - vec_len l.bytes

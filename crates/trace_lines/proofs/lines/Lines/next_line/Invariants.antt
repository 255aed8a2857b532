use Rattle.std.proofs.Common.{◌≡◌, ◌-◌, ◌+◌, IsTrue, length}
use Rattle.std.specs.Prelude.{Ok, if◌then◌else◌}
use Rattle.gtm_base.specs.Outside.{ReadsOn}
use Rattle.trace_lines.specs.Reading.{is_read_fault}
use Rattle.trace_lines.specs.declared.lines.LineEnd.{LineEnd}
use Rattle.trace_lines.specs.declared.lines.TheConstants.{MAX_TRACE}
use Rattle.trace_lines.proofs.Waiting.{IsWaiting}
use Rattle.trace_lines.proofs.lines.Lines.next_line.Given as goal

abbrev pub invariant-loop-at : goal.invariant-loop-at
invariant-loop-at g l = record {
  files : ReadsOn {T = Unit {0}} {E = LineEnd} is_read_fault (Ok tt) (g.F.Files.state l.fn.files)
      (g.F.Files.state l.files);
  waiting : IsWaiting l.fn.self l.self (g.F.Files.state l.fn.files).left
      (g.F.Files.state l.files).left;
  end : IsTrue l.fn.self.at_end → l.files ≡ l.fn.files;
}

abbrev pub decreases-loop-at : goal.decreases-loop-at
decreases-loop-at g l =
    MAX_TRACE + 1 - (l.self.before + length l.self.held) + (if l.self.at_end then 0 else 1)

use Rattle.std.proofs.Common.{◌≡◌, ◌≤◌, ◌-◌, ◌+◌, ℕ, List, IsTrue}
use Rattle.std.specs.Prelude.{Ok}
use Rattle.std.specs.Option.{ForSome}
use Rattle.gtm_base.specs.Outside.{ReadsOn}
use Rattle.trace_forms.specs.Steps.{Step}
use Rattle.trace_lines.specs.declared.lines.TheConstants.{MAX_TRACE}
use Rattle.trace_reader.specs.Progress.{before_of, is_at_end, is_fault, trace_left}
use Rattle.trace_reader.specs.Standing.{StandsAt}
use Rattle.trace_reader.specs.declared.reader.TraceEnd.{TraceEnd}
use Rattle.trace_reader.proofs.reader.Reader.read_on.Given as goal

abbrev pub invariant-loop-end : goal.invariant-loop-end
invariant-loop-end g l = record {
  files : ReadsOn {T = Unit {0}} {E = TraceEnd} is_fault (Ok tt) (g.F.Files.state l.fn.files)
      (g.F.Files.state l.files);
  left : trace_left l.self (g.F.Files.state l.files).left
      ≡ trace_left l.fn.self (g.F.Files.state l.fn.files).left;
  stands : (bytes : List ℕ) (done : List Step)
      → ForSome (g.F.Files.state l.fn.files).left (StandsAt bytes done l.fn.self)
      → ForSome (g.F.Files.state l.files).left (StandsAt bytes done l.self);
  ended : l.self.ended ≡ l.fn.self.ended;
  behind : before_of l.fn.self ≤ before_of l.self;
  files_end : IsTrue (is_at_end l.fn.self) → l.files ≡ l.fn.files;
  end : IsTrue (is_at_end l.fn.self) → IsTrue (is_at_end l.self);
}

abbrev pub decreases-loop-end : goal.decreases-loop-end
decreases-loop-end g l = MAX_TRACE + 1 - before_of l.self

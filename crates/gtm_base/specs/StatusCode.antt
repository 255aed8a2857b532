-- The exit status of a process.
use Rattle.std.specs.Prelude.{ℕ}
use Rattle.gtm_base.specs.declared.status.Status.{Status}
use Rattle.gtm_base.specs.declared.status.Status.TheVariants.{Done, Usage, FileFault, ExportRefused}
use Rattle.gtm_base.specs.declared.status.Status.TheVariants.{TraceRefused, EngineRefused}
use Rattle.gtm_base.specs.declared.status.Status.TheVariants.{JobLimit, SinkFault, OutOfMemory}

-- the exit status of each ending
abbrev pub code_of : Status → ℕ
code_of Done = 0
code_of Usage = 2
code_of FileFault = 3
code_of (ExportRefused rule path) = 4
code_of (TraceRefused line rule) = 5
code_of (EngineRefused text) = 6
code_of (JobLimit step) = 7
code_of SinkFault = 8
code_of OutOfMemory = 9

-- How a run ends before its closing lines.
use Rattle.std.specs.Prelude.{◌≡◌, ◌⊎◌, ℕ, List, Bool, true, false, Option, Some, None, Result, Ok, Err}
use Rattle.std.specs.Prelude.{Contains, encode_utf8_all}
use Rattle.run_log.specs.declared.writing.LineEnd.{LineEnd}
use Rattle.run_log.specs.declared.writing.LineEnd.TheVariants as line
use Rattle.replay_engine.specs.declared.run_end.RunEnd.{RunEnd}
use Rattle.replay_engine.specs.declared.run_end.RunEnd.TheVariants.{OutOfMemory, JobLimit}
use Rattle.replay_engine.specs.declared.run_end.RunEnd.TheVariants.{EngineRefused, SinkFault}

-- the sink failed
abbrev pub is_run_fault : RunEnd → Bool
is_run_fault OutOfMemory = false
is_run_fault (EngineRefused text) = false
is_run_fault (JobLimit step) = false
is_run_fault SinkFault = true

-- the end of the run that a line makes which could not be written
abbrev pub run_end_of : LineEnd → RunEnd
run_end_of line.OutOfMemory = OutOfMemory
run_end_of line.SinkFault = SinkFault

-- a call that takes no step ends neither at the limit of jobs nor where engines refuse
abbrev pub NeverLimits : Result Unit RunEnd → Type 0
NeverLimits (Ok done) = Unit {0}
NeverLimits (Err OutOfMemory) = Unit {0}
NeverLimits (Err (EngineRefused text)) = ⊥
NeverLimits (Err (JobLimit step)) = ⊥
NeverLimits (Err SinkFault) = Unit {0}

-- the end that a call answered
abbrev pub end_in : Result Unit RunEnd → Option RunEnd
end_in (Ok done) = None
end_in (Err end) = Some end

-- what an end tells of the engines that a call was lent: which text they refused, or that they
-- refused none; want of memory tells nothing, since there may be none for a refused text
abbrev pub run_refusal : RunEnd → Option (Option (List ℕ))
run_refusal OutOfMemory = None
run_refusal (EngineRefused text) = Some (Some (encode_utf8_all text))
run_refusal (JobLimit step) = Some None
run_refusal SinkFault = Some None

-- a text that engines refused is one of these
abbrev pub RefusesOnly : List (List ℕ) → RunEnd → Type 0
RefusesOnly texts OutOfMemory = Unit {0}
RefusesOnly texts (EngineRefused text) = Contains texts text
RefusesOnly texts (JobLimit step) = Unit {0}
RefusesOnly texts SinkFault = Unit {0}

-- the same end again, or want of memory for the text of one that engines refused
abbrev pub IsAgain : RunEnd → RunEnd → Type 0
IsAgain OutOfMemory end = end ≡ OutOfMemory
IsAgain (EngineRefused text) end = (end ≡ EngineRefused text) ⊎ (end ≡ OutOfMemory)
IsAgain (JobLimit step) end = end ≡ JobLimit step
IsAgain SinkFault end = end ≡ SinkFault

-- the answer of a call after the engine ended so
abbrev pub AnswersAgain : RunEnd → Result Unit RunEnd → Type 0
AnswersAgain end (Ok done) = ⊥
AnswersAgain end (Err again) = IsAgain end again

-- a step that did not begin: memory was wanting, or the engines refused a text
abbrev pub IsUnbegun : RunEnd → Type 0
IsUnbegun OutOfMemory = Unit {0}
IsUnbegun (EngineRefused text) = Unit {0}
IsUnbegun (JobLimit step) = ⊥
IsUnbegun SinkFault = ⊥

-- an end that no engine's refusal makes
abbrev pub IsUnrefused : RunEnd → Type 0
IsUnrefused OutOfMemory = Unit {0}
IsUnrefused (EngineRefused text) = ⊥
IsUnrefused (JobLimit step) = Unit {0}
IsUnrefused SinkFault = Unit {0}

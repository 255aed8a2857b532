-- The line on standard error.
use Rattle.std.specs.Prelude.{◌≡◌, ◌+◌, ℕ, List, [], ◌∷◌, ◌++◌, codes, decimal, encode_utf8_all}
use Rattle.std.specs.Prelude.{Option, IfSome}
use Rattle.gtm_base.specs.Outside.{SinkState, and_then, TookFront}
use Rattle.gtm_base.specs.declared.status.Status.{Status}
use Rattle.gtm_base.specs.declared.status.Status.TheVariants.{Done, Usage, FileFault, ExportRefused}
use Rattle.gtm_base.specs.declared.status.Status.TheVariants.{TraceRefused, EngineRefused}
use Rattle.gtm_base.specs.declared.status.Status.TheVariants.{JobLimit, SinkFault, OutOfMemory}
use Rattle.gtm_data.specs.JsonText.{quoted}
use Rattle.replay_engine.specs.declared.limits.TheConstants.{MAX_JOBS}

-- how the program is used
unfoldable pub usage_text : List ℕ
usage_text = codes "usage: gtm_replay run EXPORT TRACE | gtm_replay self N"

-- that the run could not be written
unfoldable pub unwritten_text : List ℕ
unwritten_text = codes "gtm_replay: cannot write"

-- that memory was wanting
unfoldable pub memory_text : List ℕ
memory_text = codes "gtm_replay: out of memory"

-- that a file could not be opened or read
abbrev pub unread_text : List ℕ → List ℕ
unread_text name = codes "gtm_replay: cannot read " ++ quoted name

-- the rule that an export breaks, and its place
abbrev pub refusal_text : ℕ → List ℕ → List ℕ
refusal_text rule path =
    codes "gtm_replay: export: rule " ++ decimal rule ++ codes " at " ++ quoted path

-- the first bad line of a trace, and its rule
abbrev pub bad_line_text : ℕ → ℕ → List ℕ
bad_line_text line rule =
    codes "gtm_replay: trace: line " ++ decimal line ++ codes " rule " ++ decimal rule

-- the text that the engines refused
abbrev pub engine_text : List ℕ → List ℕ
engine_text refused = codes "gtm_replay: engine refused " ++ quoted refused

-- the step that needs a job more than it may have; the number is one more than `MAX_JOBS`
abbrev pub limit_text : ℕ → List ℕ
limit_text step =
    codes "gtm_replay: step " ++ decimal step ++ codes " needs job " ++ decimal (MAX_JOBS + 1)

-- the UTF-8 bytes of a line
abbrev pub line_of_text : List ℕ → List ℕ
line_of_text text = encode_utf8_all (text ++ 10 ∷ [])

-- the line of a status, and none where all was done
abbrev pub status_text : List ℕ → Status → List ℕ
status_text name Done = []
status_text name Usage = usage_text ++ 10 ∷ []
status_text name FileFault = unread_text name ++ 10 ∷ []
status_text name (ExportRefused rule path) = refusal_text rule path ++ 10 ∷ []
status_text name (TraceRefused line rule) = bad_line_text line rule ++ 10 ∷ []
status_text name (EngineRefused text) = engine_text text ++ 10 ∷ []
status_text name (JobLimit step) = limit_text step ++ 10 ∷ []
status_text name SinkFault = unwritten_text ++ 10 ∷ []
status_text name OutOfMemory = memory_text ++ 10 ∷ []

-- the sink took a front of these bytes, and the whole where no call of it failed
pub record TookText (bytes : List ℕ) (old new : SinkState) : Type 0 where
  pub front : TookFront old.taken new.taken bytes
  pub whole : new.faults ≡ 0 → new.taken ≡ and_then old.taken bytes

-- it took the line of a status so
abbrev pub TookLine : List ℕ → Status → SinkState → SinkState → Type 0
TookLine name answer old new = TookText (encode_utf8_all (status_text name answer)) old new

-- the last name that `open` was handed, where the names are told
abbrev pub EndsWith : Option (List (List ℕ)) → List ℕ → Type 0
EndsWith names name = IfSome names (λ all. (before : List (List ℕ)) × (all ≡ before ++ name ∷ []))

-- the line on standard error: that of the status, with the name that `open` was handed last where a
-- file could not be read
pub record Reports (handed : Option (List (List ℕ))) (answer : Status) (old new : SinkState) : Type
    0 where
  pub name : List ℕ
  pub line : TookLine name answer old new
  pub last : answer ≡ FileFault → EndsWith handed name

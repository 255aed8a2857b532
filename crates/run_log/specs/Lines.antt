-- The lines of the log and their text.
use Rattle.std.specs.Prelude.{ℕ, List, [], ◌∷◌, ◌++◌, Bool, codes, decimal, encode_utf8_all}
use Rattle.std.specs.Prelude.{if◌then◌else◌}
use Rattle.gtm_data.specs.Tree.{Tree}
use Rattle.gtm_data.specs.JsonText.{json_text, quoted}

-- what the closing line counts
pub record Counts : Type 0 where
  pub steps : ℕ
  pub jobs : ℕ
  pub events : ℕ
  pub starts : ℕ
  pub ok : ℕ
  pub fail : ℕ
  pub denied : ℕ
  pub faults : ℕ

-- a line of the log
pub data LogLine : Type 0 where
  -- a message, and whether it was ignored
  message : Tree → Bool → LogLine
  -- a pushed List, and whether it was ignored
  command : Tree → Bool → LogLine
  -- the number of an event and its name
  event : ℕ → List ℕ → LogLine
  -- the model of the data layer
  model : Tree → LogLine
  -- the last line
  finish : Counts → LogLine

-- what stands behind a value that was ignored
abbrev pub ignored_word : Bool → List ℕ
ignored_word ignored = if ignored then codes " ignored" else []

-- a line without its LF
abbrev pub line_text : LogLine → List ℕ
line_text (message value ignored) = codes "message " ++ json_text value ++ ignored_word ignored
line_text (command value ignored) = codes "command " ++ json_text value ++ ignored_word ignored
line_text (event number name) = codes "event " ++ decimal number ++ codes " " ++ quoted name
line_text (model value) = codes "model " ++ json_text value
line_text (finish counts) =
    codes "end steps=" ++ decimal counts.steps
    ++ codes " jobs=" ++ decimal counts.jobs
    ++ codes " events=" ++ decimal counts.events
    ++ codes " starts=" ++ decimal counts.starts
    ++ codes " ok=" ++ decimal counts.ok
    ++ codes " fail=" ++ decimal counts.fail
    ++ codes " denied=" ++ decimal counts.denied
    ++ codes " faults=" ++ decimal counts.faults

-- the UTF-8 bytes of a line, with its LF
unfoldable pub line_bytes : LogLine → List ℕ
line_bytes line = encode_utf8_all (line_text line ++ 10 ∷ [])

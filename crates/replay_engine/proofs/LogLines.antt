-- Lines that are written one after the other.
use Rattle.std.proofs.Common.{◌≡◌, ◌+◌, ap, sym, subst, ℕ, List, [], ◌∷◌, ◌++◌, Bool, true, false}
use Rattle.std.proofs.Common.{not, append-nil}
use Rattle.std.specs.Prelude.{Option, Some, None, IsSome, IfSome, unwrap_or, Result, Ok, Err}
use Rattle.std.specs.Prelude.{if◌then◌else◌}
use Rattle.std.proofs.lemmas.Grind.{flat_map-append}
use Rattle.data_layer.specs.Command.{is_ignored_command}
use Rattle.data_layer.specs.Layer.{is_ignored}
use Rattle.gtm_base.specs.Outside.{SinkState, Writes}
use Rattle.gtm_base.proofs.WrittenPieces.{writes_part, writes_then}
use Rattle.gtm_data.specs.Tree.{Tree}
use Rattle.page_world.specs.World.{WorldState, empty_world}
use Rattle.replay_engine.specs.Jobs.{State, take_message, event_lines}
use Rattle.replay_engine.specs.Messages.{event_name}
use Rattle.replay_engine.specs.Run.{lines_text}
use Rattle.run_log.specs.Lines.{LogLine, command, message, line_bytes}

pub lines_text-append : (a b : List LogLine) → lines_text (a ++ b) ≡ lines_text a ++ lines_text b
lines_text-append a b = flat_map-append line_bytes a b

-- a line and then the others
pub line_then : {T U E F : Type 0} (first_fault : F → Bool) (value : U) (is_fault : E → Bool)
    (result : Result T E) (old middle new : SinkState) (line : LogLine) (more : List LogLine)
    → Writes first_fault (Ok value) old middle (line_bytes line)
    → Writes is_fault result middle new (lines_text more)
    → Writes is_fault result old new (lines_text (line ∷ more))
line_then first_fault value is_fault result old middle new line more first rest =
    writes_then first_fault value is_fault result old middle new (line_bytes line) (lines_text more)
    first rest

-- the last line
pub line_last : {T E : Type 0} (is_fault : E → Bool) (result : Result T E) (old new : SinkState)
    (line : LogLine) → Writes is_fault result old new (line_bytes line)
    → Writes is_fault result old new (lines_text (line ∷ []))
line_last is_fault result old new line wrote = rw append-nil wrote

pub not_not : (took ignored : Bool) → took ≡ not ignored → not took ≡ ignored
not_not took true is = ap not is
not_not took false is = ap not is

-- the model of a world that is not spent
pub model_is : (world : Option WorldState) (value : Tree) → IsSome world
    → IfSome world (λ w. value ≡ w.layer.model) → value ≡ (unwrap_or world empty_world).layer.model
model_is None value live is = absurd (cc live)
model_is (Some layer) value live is = is

-- whether a command array was ignored by a world that is not spent
pub ran_is : (world : Option WorldState) (value : Tree) (ran : Bool) → IsSome world
    → IfSome world (λ w. ran ≡ not (is_ignored_command value w.layer))
    → not ran ≡ is_ignored_command value (unwrap_or world empty_world).layer
ran_is None value ran live is = absurd (cc live)
ran_is (Some world) value ran live is = not_not ran (is_ignored_command value world.layer) is

-- the line of a command array
pub command_line : {T E : Type 0} (is_fault : E → Bool) (result : Result T E) (value : Tree)
    (some other : Bool) (old new : SinkState) → some ≡ other
    → Writes is_fault result old new (line_bytes (command value some))
    → Writes is_fault result old new (lines_text (command value other ∷ []))
command_line is_fault result value some other old new is wrote =
    line_last is_fault result old new (command value other)
    (subst (λ ignored. Writes is_fault result old new (line_bytes (command value ignored))) is wrote)

-- the line of a message was not written whole
pub message_part : {T U E : Type 0} (is_fault : E → Bool) (result : Result U E) (error : E)
    (state : State) (value : Tree) (ignored : Bool) (old new : SinkState) → result ≡ Err error
    → ignored ≡ is_ignored value
    → Writes {T = T} is_fault (Err error) old new (line_bytes (message value ignored))
    → Writes is_fault result old new (lines_text (take_message state value).lines)
message_part {T} {U} {E} is_fault result error state value ignored old new same is part =
    subst (λ r. Writes is_fault r old new (lines_text (take_message state value).lines)) (sym same)
    (writes_part {T = T} {U = U} is_fault error old new _ _ (rw is at part))

-- the line of a message, and those behind it
pub message_lines : {T U E F : Type 0} (first_fault : F → Bool) (done : U) (is_fault : E → Bool)
    (result : Result T E) (state : State) (value : Tree) (ignored : Bool) (name : Option (List ℕ))
    (old middle new : SinkState)
    → ignored ≡ is_ignored value → name ≡ event_name value
    → Writes first_fault (Ok done) old middle (line_bytes (message value ignored))
    → Writes is_fault result middle new
    (lines_text (event_lines (state.events + 1) (if ignored then None else name)))
    → Writes is_fault result old new (lines_text (take_message state value).lines)
message_lines first_fault done is_fault result state value ignored name old middle new is name_is
    first rest =
    line_then first_fault done is_fault result old middle new _ _ (rw is at first)
    (rw (is, name_is) at rest)

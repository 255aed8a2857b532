-- Files on the disk and streams of the system, as contracts see them.
use Rattle.std.specs.Prelude.{ℕ, List, Bool, Option, None}
use Rattle.std.specs.Io.KnownBytes.{append_known}
use Rattle.gtm_base.specs.Outside.{FilesState, SinkState}

-- whether a file is open, the bytes that its own reads will give, where its type tells them, the
-- names that `open` was handed, and how many calls failed
pub record DiskState : Type 0 where
  pub is_open : Bool
  pub to_read : Option (List ℕ)
  pub names : Option (List (List ℕ))
  pub faults : ℕ

-- the bytes that the stream's own writes have put into it, where its type tells them, those that
-- are kept, and how many calls failed
pub record StreamState : Type 0 where
  pub written : Option (List ℕ)
  pub kept : List ℕ
  pub faults : ℕ

-- the bytes that a sink took: those that were written, and then those that are kept
abbrev pub taken_by : StreamState → Option (List ℕ)
taken_by stream = append_known stream.written stream.kept

-- what files on the disk tell as files: nothing of content
abbrev pub disk_files_state : DiskState → FilesState
disk_files_state disk = record {
  held = None;
  is_open = disk.is_open;
  open_name = None;
  left = None;
  names = disk.names;
  faults = disk.faults;
}

-- what a stream tells as a sink: nothing of what it took
abbrev pub stream_sink_state : StreamState → SinkState
stream_sink_state stream = record { taken = None; faults = stream.faults }

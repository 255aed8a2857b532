-- The two files that a run is tested over.
use Rattle.std.specs.Prelude.{◌≡◌, ℕ, List, [], Some, codes}
use Rattle.gtm_base.specs.Outside.{SinkState}
use Rattle.gtm_base.specs.Keys.{value_of}

-- the name of the export
abbrev pub export_name : List ℕ
export_name = codes "e.json"

-- the name of the trace
abbrev pub trace_name : List ℕ
trace_name = codes "t.jsonl"

-- the files hold these bytes as the export and these as the trace
pub record HoldsBoth (held : List (List ℕ × List ℕ)) (export trace : List ℕ) : Type 0 where
  pub export_held : value_of export_name held ≡ Some export
  pub trace_held : value_of trace_name held ≡ Some trace

-- a sink that took nothing and did not fail
abbrev pub untouched : SinkState
untouched = record { taken = Some []; faults = 0 }

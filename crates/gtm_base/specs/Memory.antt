-- Files and a sink in memory, as contracts see them.
use Rattle.std.specs.Prelude.{ℕ, ◌==◌, Bool, List, [], ◌∷◌, ◌++◌, length, drop, slice_get, Option}
use Rattle.std.specs.Prelude.{Some, is_some, option_map, option_and_then}
use Rattle.std.specs.List.{list_any}
use Rattle.std.specs.Option.{option_map_or}
use Rattle.gtm_base.specs.Causes.{one_more}
use Rattle.gtm_base.specs.Keys.{place_of, value_of, with_value}
use Rattle.gtm_base.specs.Outside.{FilesState, SinkState}

-- the bytes taken so far, the calls that are to fail, and how many calls there were and failed
pub record MemorySink : Type 0 where
  pub bytes : List ℕ
  pub failing : List ℕ
  pub calls : ℕ
  pub faults : ℕ

-- what each name holds, the calls that are to fail, how many calls there were and failed, the place
-- of the open file among the names, how many of its bytes were read, and the names that `open` was
-- handed
pub record MemoryFiles : Type 0 where
  pub held : List (List ℕ × List ℕ)
  pub failing : List ℕ
  pub calls : ℕ
  pub faults : ℕ
  pub file : Option ℕ
  pub done : ℕ
  pub names : Option (List (List ℕ))

-- the name of the open file
abbrev pub name_in : MemoryFiles → Option (List ℕ)
name_in files =
    option_and_then (λ place. option_map (λ pair. pair.0) (slice_get files.held place)) files.file

-- the bytes of the open file that were not read yet
abbrev pub left_in : MemoryFiles → Option (List ℕ)
left_in files =
    option_and_then
    (λ place. option_map (λ pair. drop files.done pair.1) (slice_get files.held place)) files.file

-- what the files tell
abbrev pub files_state : MemoryFiles → FilesState
files_state files = record {
  held = Some (λ name. value_of name files.held);
  is_open = is_some files.file;
  open_name = name_in files;
  left = left_in files;
  names = files.names;
  faults = files.faults;
}

-- what the sink tells
abbrev pub sink_state : MemorySink → SinkState
sink_state sink = record { taken = Some sink.bytes; faults = sink.faults }

-- the files with these bytes under this name: in place of what it held, or last
abbrev pub with_file : List (List ℕ × List ℕ) → List ℕ → List ℕ → List (List ℕ × List ℕ)
with_file files name bytes =
    option_map_or (λ at. with_value files at bytes) (place_of name files)
    (files ++ (name, bytes) ∷ [])

-- whether the number is one of these
abbrev pub is_among : List ℕ → ℕ → Bool
is_among numbers number = list_any (λ other. other == number) numbers

-- how many bytes of the open file were not read yet
abbrev pub left_count : MemoryFiles → ℕ
left_count files = option_map_or length (left_in files) 0

-- how many calls failed once an `open` of this name fails: one more where the name is held
abbrev pub faults_after_open : MemoryFiles → List ℕ → ℕ
faults_after_open files name =
    option_map_or (λ _. one_more files.faults) (value_of name files.held) files.faults

-- What the files and the words of a tested run tell.
use Rattle.std.proofs.Common.{◌≡◌, ◌∙◌, ℕ, List, [], ◌∷◌, Some, ap, refl, codes, String}
use Rattle.std.proofs.Common.{string_bytes}
use Rattle.std.specs.Str.{chars}
use Rattle.std.specs.declared.alloc.Global.{Global}
use Rattle.gtm_base.specs.Keys.{value_of}
use Rattle.gtm_base.specs.Memory.{MemoryFiles, MemorySink, with_file}
use Rattle.gtm_base.specs.Memory.{files_state, sink_state}
use Rattle.gtm_base.specs.Outside.{FilesState, Holds, SinkState}
use Rattle.gtm_cli.specs.Replays.{HoldBoth}
use Rattle.gtm_cli.specs.Words.{Names}
use Rattle.gtm_cli.specs.Words.{names_in}
use Rattle.gtm_rows.specs.Held.{HoldsBoth, export_name, trace_name, untouched}

-- the two files as they were added
with_both : (export trace : List ℕ)
    → HoldsBoth
    (with_file (with_file [] (chars (codes "e.json")) export) (chars (codes "t.jsonl")) trace)
    export trace
unfolding chars
with_both export trace = record { export_held = refl; trace_held = refl }

-- both files are held once they were added
pub holds_both : (files some both : MemoryFiles) (export trace : List ℕ) → files.held ≡ []
    → some ≡ record files { held = with_file files.held (chars (codes "e.json")) export }
    → both ≡ record some { held = with_file some.held (chars (codes "t.jsonl")) trace }
    → HoldsBoth both.held export trace
holds_both files some both export trace none one two =
    rw (ap (λ made. made.held) two)
    (rw (ap (λ made. made.held) one) (rw none (with_both export trace)))

-- the words of these bytes name the two files
pub names_of_words : (command export trace : String Global) → string_bytes command ≡ codes "run"
    → string_bytes export ≡ export_name → string_bytes trace ≡ trace_name
    → names_in (command ∷ export ∷ trace ∷ [])
    ≡ Some (record { export = export_name; trace = trace_name })
unfolding chars
names_of_words command export trace e f g = rw (e, f, g) refl

-- files that differ only in the calls that are to fail hold the same export
pub holds_export : (files other : MemoryFiles) (failing : List ℕ) (export trace : List ℕ)
    → HoldsBoth files.held export trace → other ≡ record files { failing = failing }
    → Holds (Some (λ name. value_of name other.held)) export_name export
holds_export files other failing export trace both same =
    record {
      holdings =
          λ name. value_of name other.held;
      told =
          refl;
      bytes_are = rw (ap (λ made. made.held) same) both.export_held;
    }

-- the same of the trace
pub holds_trace : (files other : MemoryFiles) (failing : List ℕ) (export trace : List ℕ)
    → HoldsBoth files.held export trace → other ≡ record files { failing = failing }
    → Holds (Some (λ name. value_of name other.held)) trace_name trace
holds_trace files other failing export trace both same =
    record {
      holdings =
          λ name. value_of name other.held;
      told =
          refl;
      bytes_are = rw (ap (λ made. made.held) same) both.trace_held;
    }

-- a sink that took nothing, also once a call of it is to fail
pub took_nothing : (new out : MemorySink) (failing : List ℕ)
    → new ≡ record { bytes = []; failing = []; calls = 0; faults = 0 }
    → out ≡ record new { failing = failing }
    → Some out.bytes ≡ Some []
took_nothing new out failing e f = ap (λ sink. Some sink.bytes) f ∙ ap (λ sink. Some sink.bytes) e

-- files that were handed no name, also once a call of them is to fail
pub handed_nothing : (files other : MemoryFiles) (failing : List ℕ) → files.names ≡ Some []
    → other ≡ record files { failing = failing } → other.names ≡ Some []
handed_nothing files other failing none same = ap (λ made. made.names) same ∙ none

-- the names of the two files
abbrev pub both_names : Names
both_names = record { export = export_name; trace = trace_name }

-- both are held
pub hold_both : (files other : MemoryFiles) (failing : List ℕ) (export trace : List ℕ)
    → HoldsBoth files.held export trace → other ≡ record files { failing = failing }
    → HoldBoth (files_state other) both_names export trace
hold_both files other failing export trace both same =
    record {
      export_is =
          holds_export files other failing export trace both same;
      trace_is =
          holds_trace files other failing export trace both same;
    }

-- a sink that took nothing, as a sink
pub is_untouched : (new out : MemorySink) (failing : List ℕ)
    → new ≡ record { bytes = []; failing = []; calls = 0; faults = 0 }
    → out ≡ record new { failing = failing } → sink_state out ≡ untouched
is_untouched new out failing e f = ap sink_state f ∙ ap sink_state e

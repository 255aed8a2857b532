-- Which texts an entry into a template asks the engines with.
use Rattle.std.specs.Prelude.{ℕ, List, Option, Some, None, Result, IfErr, Contains, encode_utf8_all}
use Rattle.gtm_base.specs.Engines.{EnginesState, HandsOn}
use Rattle.perm_model.specs.declared.endings.EntryError.{EntryError}
use Rattle.perm_model.specs.declared.endings.EntryError.TheVariants.{OutOfMemory, EngineRefused}

-- what the end of an entry tells of the engines: the text that they refused; want of memory tells
-- nothing
abbrev pub entry_refusal : EntryError → Option (Option (List ℕ))
entry_refusal OutOfMemory = None
entry_refusal (EngineRefused text) = Some (Some (encode_utf8_all text))

-- a text that engines refused is one of these
abbrev pub EntryRefusesOnly : List (List ℕ) → EntryError → Type 0
EntryRefusesOnly texts OutOfMemory = Unit {0}
EntryRefusesOnly texts (EngineRefused text) = Contains texts text

-- the engines were left as the answer of an entry tells, and what they refused is one of these
-- texts
pub record AsksIn (texts : List (List ℕ)) {T : Type 0} (result : Result T EntryError)
    (old new : EnginesState) : Type 0 where
  pub engines : HandsOn entry_refusal result old new
  pub asked : IfErr result (EntryRefusesOnly texts)

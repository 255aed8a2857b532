-- Closed lists of words.
use Rattle.std.specs.Prelude.{ℕ, List, Option, option_and_then, unwrap_or}
use Rattle.std.specs.Option.{option_map_or}
use Rattle.std.specs.Str.{chars}
use Rattle.serde_json.specs.Data.{Data}
use Rattle.serde_json.specs.Find.{get, as_str}
use Rattle.export_fields.specs.Fault.{fault_without}
use Rattle.export_fields.specs.Fields.{optional}
use Rattle.folded_words.specs.Words.{folded}

-- what a text stands for, by what its folded word stands for
abbrev pub named_text : {W : Type 0} → (List ℕ → Option W) → List ℕ → Option W
named_text named text = named (folded (chars text))

-- what a value stands for as a word
abbrev pub as_word : {W : Type 0} → (List ℕ → Option W) → Data → Option W
as_word named d = option_and_then (named_text named) (as_str d)

-- the fault of a word at a key
unfoldable pub word_fault : {W : Type 0} → (List ℕ → Option W) → List ℕ → Data → Option (List ℕ)
word_fault named = optional (λ d. fault_without (as_word named d))

-- what the word at a key stands for, or what an absent one means
unfoldable pub word_at : {W : Type 0} → (List ℕ → Option W) → W → List ℕ → Data → W
word_at named absent key d =
    option_map_or (λ e. unwrap_or (as_word named e) absent) (get key d) absent

-- When there is no value, and which texts engines are asked with.
use Rattle.std.specs.Prelude.{ℕ, List, [], ◌∷◌, Bool, Option, Some, None, Result, IfErr}
use Rattle.std.specs.Prelude.{Contains, encode_utf8_all}
use Rattle.gtm_base.specs.Engines.{EnginesState, HandsOn, pattern_finds, address_of}
use Rattle.gtm_base.specs.declared.address.Address.{Address}
use Rattle.variable_kinds.specs.declared.value_end.ValueEnd.{ValueEnd}
use Rattle.variable_kinds.specs.declared.value_end.ValueEnd.TheVariants.{OutOfMemory, EngineRefused}

-- whether a pattern has a match anywhere in a text; false for a text that is no pattern
abbrev pub finds : List ℕ → List ℕ → Bool
finds pattern text = pattern_finds (encode_utf8_all pattern) (encode_utf8_all text)

-- the address that a text is; `None` for one that is malformed
abbrev pub address_in : List ℕ → Option Address
address_in text = address_of (encode_utf8_all text)

-- the text, where there is one
abbrev pub text_if : Option (List ℕ) → List (List ℕ)
text_if None = []
text_if (Some text) = text ∷ []

-- what an end tells of the engines: the text that they refused; want of memory tells nothing
abbrev pub value_refusal : ValueEnd → Option (Option (List ℕ))
value_refusal OutOfMemory = None
value_refusal (EngineRefused text) = Some (Some (encode_utf8_all text))

-- a text that engines refused is one of these
abbrev pub RefusesOnly : List (List ℕ) → ValueEnd → Type 0
RefusesOnly texts OutOfMemory = Unit {0}
RefusesOnly texts (EngineRefused text) = Contains texts text

-- the engines were left as the answer tells, and what they refused is one of these texts
pub record Asks (texts : List (List ℕ)) {T : Type 0} (result : Result T ValueEnd)
    (old new : EnginesState) : Type 0 where
  pub engines : HandsOn value_refusal result old new
  pub asked : IfErr result (RefusesOnly texts)

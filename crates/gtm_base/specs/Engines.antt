-- What patterns find and addresses read as, in the words of `regex` and `url`, and what a call did
-- to the engines.
use Rattle.std.specs.Prelude.{◌≡◌, ℕ, ◌≤◌, List, Bool, false, Option, Some, None, option_map}
use Rattle.std.specs.Prelude.{is_some, IfNone, IfSome, chars, Result, Ok, Err}
use Rattle.std.specs.Option.{option_map_or}
use Rattle.regex.specs.Patterns.{Re, default_config, find_str}
use Rattle.regex_syntax.specs.Grammar.{read}
use Rattle.url.specs.Host.{host_text}
use Rattle.url.specs.Parser.{Parsed, parse_url}
use Rattle.url.specs.Parts.{Parts, serialize, nonempty_host}
use Rattle.gtm_base.specs.Causes.{Rose}
use Rattle.gtm_base.specs.declared.address.Address.{Address}
use Rattle.gtm_base.specs.declared.engines.EngineEnd.{EngineEnd}
use Rattle.gtm_base.specs.declared.engines.EngineEnd.TheVariants.{OutOfMemory, Refused}

-- what the grammar of patterns reads in the bytes of a text; `None` for one that is no pattern
abbrev pub pattern_of : List ℕ → Option Re
pattern_of text = option_map (λ pattern. pattern.0.value) (read default_config (chars text))

-- whether the pattern has a match anywhere in the text; false for a text that is no pattern
abbrev pub pattern_finds : List ℕ → List ℕ → Bool
pattern_finds pattern text =
    option_map_or (λ re. is_some (find_str re text 0)) (pattern_of pattern) false

-- the parts of a parsed address, each as its characters
abbrev pub address_from : Parts → Address
address_from parts = record {
  href = chars (serialize parts);
  scheme = chars parts.scheme;
  username = chars parts.username;
  password = chars parts.password;
  host = option_map chars (option_map host_text (nonempty_host parts));
  port = parts.port;
  path = chars parts.path;
  query = option_map chars parts.query;
  fragment = option_map chars parts.fragment;
}

-- the address that was parsed, where one was
abbrev pub parsed_address : Parsed Parts → Option Address
parsed_address (Ok parts) = Some (address_from parts)
parsed_address (Err error) = None

-- the address that the bytes of a text are, without a base; `None` for one that is malformed
abbrev pub address_of : List ℕ → Option Address
address_of text = parsed_address (parse_url None text)

-- how often engines have refused, and the bytes of the text that they refused last
pub record EnginesState : Type 0 where
  pub count : ℕ
  pub last : List ℕ

-- the text that a call refused, where it answered that it did: the one that it was asked with
abbrev pub refused_in : {T : Type 0} → Result T EngineEnd → List ℕ → Option (List ℕ)
refused_in (Ok answer) text = None
refused_in (Err OutOfMemory) text = None
refused_in (Err Refused) text = Some text

-- a call that refused this text counted that and tells the text; one that refused none changed
-- nothing
pub record LeavesEngines (refused : Option (List ℕ)) (old new : EnginesState) : Type 0 where
  pub kept : IfNone refused (new ≡ old)
  pub counted : IfSome refused (λ text. Rose old.count new.count)
  pub told : IfSome refused (λ text. new.last ≡ text)

-- what an answer tells of refusals: a value, that there was none, and an error what it says itself
abbrev pub told_in : {T E : Type 0} →
    (E → Option (Option (List ℕ))) → Result T E → Option (Option (List ℕ))
told_in told_by (Ok value) = Some None
told_in told_by (Err error) = told_by error

-- a function handed its calls on to engines: their count never fell, and where its answer tells
-- which text they refused last, or that they refused none, they were left so
pub record HandsOn {T E : Type 0} (told_by : E → Option (Option (List ℕ))) (result : Result T E)
    (old new : EnginesState) : Type 0 where
  pub later : old.count ≤ new.count
  pub left : IfSome (told_in told_by result) (λ refused. LeavesEngines refused old new)

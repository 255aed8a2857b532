-- From what `Regex::new` ensures to what the pattern is and finds.
use Rattle.std.proofs.Common.{◌≡◌, ℕ, ◌<◌, ◌≤◌, List, All, Option, None, Some, IsSomeAnd, IsSome}
use Rattle.std.proofs.Common.{is_some, option_map, get_or, sym, ap, ◌∙◌, length, false, chars}
use Rattle.std.proofs.Common.{refl}
use Rattle.std.specs.Option.{option_map_or}
use Rattle.std.proofs.lemmas.List.{get_or_default}
use Rattle.regex.specs.Patterns.{Re, Config, default_config, find_str, Reads, SameCaptures}
use Rattle.regex.specs.Strings.{regex_pattern, regex_source, regex_config, IsReadFromSource}
use Rattle.regex.specs.declared.string.regex.Regex.{Regex}
use Rattle.regex_hir.specs.declared.hir.Hir.{Hir}
use Rattle.regex_hir.specs.Meaning.{meaning}
use Rattle.regex_syntax.specs.Grammar.{Names, read, group_count}
use Rattle.regex_syntax.specs.Brackets.{Nested}
use Rattle.regex_syntax.proofs.CapturesLemmas.{spans, find_str_alike}
use Rattle.regex_syntax.proofs.Written.{is_some-option_map}
use Rattle.gtm_base.specs.Engines.{pattern_finds, pattern_of}

-- what was read of a text is as deep as it may be, and has the captures and names of the pattern
abbrev IsAlike : ℕ → Re → Names → Nested Re × Names → Type 0
IsAlike most a names (re, found) =
    (re.depth ≤ most) × SameCaptures a re.value × (names ≡ found) × (group_count a ≤ length names)

is_one : (o : Option (Nested Re × Names)) (most : ℕ) (a : Re) (names : Names) →
    IsSomeAnd o (IsAlike most a names) → IsSome (option_map (λ p. p.0.value) o)
is_one None most a names alike = absurd alike
is_one (Some found) most a names alike = refl

is_one_in : (config : Config) (pattern : List ℕ) (hir : Hir) (names : Names) →
    Reads config pattern hir names →
    IsSome (option_map (λ p. p.0.value) (read config (chars pattern)))
unfolding Reads
is_one_in config pattern hir names reads =
    is_one (read config (chars pattern)) config.nest_limit (meaning hir) names reads

-- a text of which a regex was read is a pattern
pub is_pattern : (r : Regex) (source : List ℕ) → regex_source r ≡ source →
    regex_config r ≡ default_config → IsReadFromSource r → IsSome (pattern_of source)
is_pattern r source is_source is_default is_read =
    is_one_in default_config source _ _ (rw (is_source, is_default) at is_read)

same_answer : (o : Option (Nested Re × Names)) (most : ℕ) (a : Re) (names : Names) →
    IsSomeAnd o (IsAlike most a names) → (hay : List ℕ) → All (λ x. x < 256) hay →
    is_some (find_str a hay 0)
    ≡ option_map_or (λ re. is_some (find_str re hay 0)) (option_map (λ p. p.0.value) o) false
same_answer None most a names alike hay small = absurd alike
same_answer (Some found) most a names alike hay small =
    sym (is_some-option_map spans (find_str a hay 0))
    ∙ ap is_some (find_str_alike a found.0.value alike.1 hay small 0)
    ∙ is_some-option_map spans (find_str found.0.value hay 0)

read_answer : (config : Config) (pattern : List ℕ) (hir : Hir) (names : Names) →
    Reads config pattern hir names → (hay : List ℕ) → All (λ x. x < 256) hay →
    is_some (find_str (meaning hir) hay 0)
    ≡ option_map_or (λ re. is_some (find_str re hay 0))
    (option_map (λ p. p.0.value) (read config (chars pattern))) false
unfolding Reads
read_answer config pattern hir names reads hay small =
    same_answer (read config (chars pattern)) config.nest_limit (meaning hir) names reads hay small

-- what a regex that was read from the text finds
pub finds_as_read : (r : Regex) (source : List ℕ) → regex_source r ≡ source →
    regex_config r ≡ default_config → IsReadFromSource r → (hay : List ℕ) →
    ((k : ℕ) → get_or hay k 0 < 256) →
    is_some (find_str (regex_pattern r) hay 0) ≡ pattern_finds source hay
finds_as_read r source is_source is_default is_read hay bytes =
    let small : All (λ x. x < 256) hay = λ k d h. rw (get_or_default hay k d 0 h) (bytes k) in
    read_answer default_config source _ _ (rw (is_source, is_default) at is_read) hay small

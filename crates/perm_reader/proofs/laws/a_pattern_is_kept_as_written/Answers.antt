use Rattle.perm_reader.proofs.PatternLaws.{pattern_of, pattern_found}
use Rattle.perm_reader.proofs.laws.a_pattern_is_kept_as_written.Goals as goal

pub returns : goal.returns
returns c = λ text authority path.
    (pattern_of text authority path, pattern_found text authority path)

use Rattle.std.proofs.Common.{◌≡◌}
use Rattle.folded_words.specs.Words.{folded}
use Rattle.folded_words.proofs.words.folded.Given as goal

abbrev pub invariant-loop-c : goal.invariant-loop-c
invariant-loop-c l = l.word ≡ folded l.yielded

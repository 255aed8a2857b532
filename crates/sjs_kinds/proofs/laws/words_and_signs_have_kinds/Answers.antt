use Rattle.sjs_kinds.proofs.TextKindLaws.{word_kind, sign_kind}
use Rattle.sjs_kinds.proofs.laws.words_and_signs_have_kinds.Goals as goal

pub returns : goal.returns
returns c = record { words = word_kind; signs = sign_kind }

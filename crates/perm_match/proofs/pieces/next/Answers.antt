use Rattle.std.specs.Str.{chars}
use Rattle.perm_match.proofs.Joins.{in_second, in_third}
use Rattle.perm_match.proofs.pieces.next.Goals as goal

pub returns-in-Some-next_char : goal.returns-in-Some-next_char
unfolding chars
returns-in-Some-next_char c =
    in_second (chars c.args.text.first.now) (chars c.args.text.second.now)
    (chars c.args.text.third.now) (chars c.in-Some-next_char.first.now) c.in-Some-next_char.c
    c.in_default.ensures c.in-Some-next_char.ensures

pub returns : goal.returns
unfolding chars
returns c =
    in_third (chars c.args.text.first.now) (chars c.args.text.second.now)
    (chars c.args.text.third.now) (chars c.in_ok-c.first.now) c.in_ok-c.c
    c.in_default.ensures c.in_default-next_char.ensures c.in_ok-c.ensures

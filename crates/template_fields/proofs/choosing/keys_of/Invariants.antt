use Rattle.std.proofs.Common.{◌≡◌, take}
use Rattle.std.specs.Prelude.{map}
use Rattle.template_fields.proofs.choosing.keys_of.Given as goal

abbrev pub invariant-loop-member : goal.invariant-loop-member
invariant-loop-member l =
    map (λ k. k.now) l.keys.items ≡ map (λ p. p.0) (take l.member-index l.member-items)

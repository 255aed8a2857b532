use Rattle.std.proofs.Common.{◌≡◌, take}
use Rattle.std.specs.Prelude.{map}
use Rattle.template_fields.specs.Fields.{names_of}
use Rattle.template_fields.proofs.firsts.names_of.Given as goal

abbrev pub invariant-loop-field : goal.invariant-loop-field
invariant-loop-field l =
    map (λ n. n.now) l.names.items ≡ names_of (take l.field-index l.fields)

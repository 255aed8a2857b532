use Rattle.std.proofs.Common.{◌≡◌, drop}
use Rattle.export_checks.specs.FirstFault.{items_fault}
use Rattle.export_checks.specs.UnknownTriggers.{member_fault}
use Rattle.export_fields.specs.declared.params.WrittenParam.{out-WrittenParam}
use Rattle.export_checks.proofs.triggers.in_members.Given as goal

abbrev pub invariant-loop-at : goal.invariant-loop-at
invariant-loop-at l =
    items_fault (member_fault l.ids) l.at (drop l.at l.member-items)
    ≡ items_fault (member_fault l.ids) 0 (out-WrittenParam l.param).list

use Rattle.std.proofs.Common.{arith, ap, length, length-drop}
use Rattle.gtm_base.proofs.Pieces.{slice_to_end}
use Rattle.trace_lines.proofs.LineEnds.{found_behind, none_at_all}
use Rattle.trace_lines.proofs.lines.Lines.find_end.Goals as goal

pub invariant_of-self : goal.invariant_of-self
invariant_of-self c = record {
  few = c.self.invariant.few;
  line = c.self.invariant.line;
  searched =
      omega (
        arith,
        c.self.invariant.searched,
        c.len.ensures,
        c.deref.ensures.len,
        ap length c.deref.ensures.value,
      );
  none =
      none_at_all c.self.inside.bytes.items _ c.self.inside.start c.self.inside.searched _
      c.self.invariant.searched c.self.invariant.none
      (rw c.deref.ensures.value (slice_to_end _ c.self.inside.bytes.items))
      c.in-None.ensures
      (omega (arith, c.len.ensures, c.deref.ensures.len, ap length c.deref.ensures.value));
  within = c.self.invariant.within;
}

pub returns-in-Some-clause-first : goal.returns-in-Some-clause-first
returns-in-Some-clause-first c =
    rw (← c.self.view_is)
    (found_behind c.self.inside.bytes.items _ c.self.inside.start c.self.inside.searched
    c.in-Some.at c.self.invariant.searched c.self.invariant.none
    (rw c.deref.ensures.value (slice_to_end _ c.self.inside.bytes.items))
    c.in-Some.ensures)

pub returns-in-None-clause-first : goal.returns-in-None-clause-first
returns-in-None-clause-first c =
    rw (← c.self.view_is)
    (none_at_all c.self.inside.bytes.items _ c.self.inside.start c.self.inside.searched _
    c.self.invariant.searched c.self.invariant.none
    (rw c.deref.ensures.value (slice_to_end _ c.self.inside.bytes.items))
    c.in-None.ensures
    (length-drop c.self.inside.start c.self.inside.bytes.items))

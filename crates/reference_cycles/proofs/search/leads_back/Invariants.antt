use Rattle.std.proofs.Common.{◌≡◌, ◌≤◌, ◌-◌, length}
use Rattle.reference_cycles.specs.Reached.{IsMarked}
use Rattle.reference_cycles.proofs.Searching.{IsSearched}
use Rattle.reference_cycles.proofs.search.leads_back.Given as goal

abbrev pub invariant-loop-next : goal.invariant-loop-next
invariant-loop-next l = record {
  marked : IsMarked l.reached.marks.items l.reached.places.items;
  room : length l.reached.marks.items ≡ length l.graph;
  past : l.next ≤ length l.reached.places.items;
  searched : IsSearched l.graph l.start l.next l.reached.places.items;
}

abbrev pub decreases-loop-next : goal.decreases-loop-next
decreases-loop-next l = length l.graph - l.next

use Rattle.std.proofs.Common.{◌≡◌, length, take}
use Rattle.reference_cycles.specs.Reached.{IsMarked, Grows}
use Rattle.reference_cycles.proofs.reached.Reached.add_all.Given as goal

abbrev pub invariant-loop-place : goal.invariant-loop-place
invariant-loop-place l = record {
  marked : IsMarked l.self.marks.items l.self.places.items;
  room : length l.self.marks.items ≡ length l.fn.self.marks.items;
  grows : Grows (length l.fn.self.marks.items) (take l.place-index l.places) l.fn.self.places.items
      l.self.places.items;
}

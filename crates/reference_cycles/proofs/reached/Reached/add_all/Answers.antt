use Rattle.std.proofs.Common.{[], ◌∷◌, length, get_or, take, sym, ◌∙◌, subst}
use Rattle.std.proofs.lemmas.List.{take_more}
use Rattle.reference_cycles.specs.Reached.{Grows}
use Rattle.reference_cycles.proofs.Marking.{grows_onwards}
use Rattle.reference_cycles.proofs.reached.Reached.add_all.Goals as goal

pub loop-place-preserved : goal.loop-place-preserved
loop-place-preserved c =
    let l = c.loop-place in
    let count = length c.args.self.now.marks.items in
    let places = c.args.places.now in
    let next = get_or places l.place-index 0 in
    let old = c.args.self.now.places.items in
    let new = c.add.new.self.places.items in
    let step : Grows count (next ∷ []) l.self.places.items new =
    subst (λ room. Grows room (next ∷ []) l.self.places.items new) l.invariant.room
    c.in_ok-add.ensures.grows in
    record {
      marked = c.in_ok-add.ensures.marked;
      room = c.in_ok-add.ensures.room ∙ l.invariant.room;
      grows =
          subst (λ wanted. Grows count wanted old new)
          (sym (take_more places l.place-index 0 c.loop-place-test.true))
          (grows_onwards count (take l.place-index places) (next ∷ []) old l.self.places.items new
          l.invariant.grows step);
    }

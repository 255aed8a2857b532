use Rattle.std.proofs.Common.{◌≡◌, ℕ, false, ◌<◌, ◌≤◌, length, get_or, ap, ◌∙◌, subst, arith}
use Rattle.std.proofs.Common.{length-append}
use Rattle.std.proofs.lemmas.List.{length-replicate}
use Rattle.reference_cycles.specs.Reached.{Grows}
use Rattle.reference_cycles.proofs.Leading.{leads_within}
use Rattle.reference_cycles.proofs.Marking.{same_at}
use Rattle.reference_cycles.proofs.Searching.{searched_first, searched_more, searched_all}
use Rattle.reference_cycles.proofs.search.leads_back.Goals as goal

pub loop-next-init : goal.loop-next-init
loop-next-init c =
    let graph = c.args.graph.now in
    let wanted = c.references.result.now in
    let old = c.in_ok-reached.reached.places.items in
    let new = c.add_all.new.self.places.items in
    let room : length c.in_ok-reached.reached.marks.items ≡ length graph =
    ap length c.in_ok-reached.ensures.unmarked ∙ length-replicate (length graph) false in
    record {
      marked = c.in_ok-add_all.ensures.marked;
      room = c.in_ok-add_all.ensures.room ∙ room;
      past = omega arith;
      searched =
          searched_first graph c.args.start wanted old new c.references.ensures
          c.in_ok-reached.ensures.none
          (subst (λ count. Grows count wanted old new) room c.in_ok-add_all.ensures.grows);
    }

pub loop-next-preserved : goal.loop-next-preserved
loop-next-preserved c =
    let graph = c.args.graph.now in
    let l = c.loop-next in
    let kept = l.invariant in
    let place = c.index-place.result.now in
    let wanted = c.references-in-loop-next.result.now in
    let old = l.reached.places.items in
    let new = c.add_all-in-loop-next.new.self.places.items in
    let within : l.next < length old = omega arith in
    let here : place ≡ get_or old l.next 0 =
    c.index-place.ensures ∙ same_at old l.next place 0 within in
    let grows : Grows (length graph) wanted old new =
    subst (λ count. Grows count wanted old new) kept.room c.in_ok-add_all-2.ensures.grows in
    record {
      marked = c.in_ok-add_all-2.ensures.marked;
      room = c.in_ok-add_all-2.ensures.room ∙ kept.room;
      past =
          let longer : length old ≤ length new =
          omega (arith, ap length grows.behind, length-append {A = ℕ}) in omega arith;
      searched =
          searched_more graph c.args.start l.next place wanted old new kept.searched within here
          c.references-in-loop-next.ensures grows;
    }

pub returns : goal.returns
returns c =
    let graph = c.args.graph.now in
    let start = c.args.start in
    let l = c.loop-next in (
      (λ is. l.invariant.searched.sound start (c.has.ensures.0 is)),
      (λ leads. c.has.ensures.1
          (searched_all graph start l.next l.reached.places.items l.invariant.searched (omega arith)
          start (leads_within graph start start leads) leads)),
    )

use Rattle.std.proofs.Common.{option_map, decimal, arith, sym, ap, ◌∙◌}
use Rattle.std.specs.Str.{chars}
use Rattle.gtm_data.specs.Paths.{named}
use Rattle.gtm_data.specs.Tree.{tree_of}
use Rattle.gtm_data.proofs.Indexes.{numbered-found, numbered-none}
use Rattle.gtm_data.proofs.Levels.{tree_of-Map, tree_of-List}
use Rattle.gtm_data.proofs.Members.{got, copied}
use Rattle.gtm_data.proofs.walking.named.Goals as goal

pub returns-in-Map : goal.returns-in-Map
returns-in-Map c =
    got c.get.result (chars c.args.name.now) c.in-Map.members.pairs c.get.ensures
    ∙ ap (named (chars c.args.name.now))
    (sym (ap tree_of c.in-Map.is ∙ tree_of-Map c.in-Map.members))

pub returns-in_err-index_below-in-List : goal.returns-in_err-index_below-in-List
returns-in_err-index_below-in-List c =
    let name = chars c.args.name.now in
    let items = c.in-List.items in
    let none =
    numbered-none items 0 name
    (λ at within written.
    c.in_err-index_below-in-List.ensures.none at (omega arith)
    (ap decimal (omega arith) ∙ written)) in
    ap (option_map (λ found. tree_of found.now)) c.from_residual.ensures ∙ sym none
    ∙ ap (named name) (sym (ap tree_of c.in-List.is ∙ tree_of-List items))

pub returns-in_ok-index_below-in-List : goal.returns-in_ok-index_below-in-List
returns-in_ok-index_below-in-List c =
    let name = chars c.args.name.now in
    let items = c.in-List.items in
    let at = c.in_ok-index_below-in-List.field-0 in
    let told = c.in_ok-index_below-in-List.ensures in
    let found =
    numbered-found items 0 at name (omega arith) (omega arith)
    (ap decimal (omega arith) ∙ told.written) in
    copied c.get-in-List.result ∙ ap (option_map tree_of) c.get-in-List.ensures ∙ sym found
    ∙ ap (named name) (sym (ap tree_of c.in-List.is ∙ tree_of-List items))

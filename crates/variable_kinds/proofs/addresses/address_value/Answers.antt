use Rattle.std.proofs.Common.{◌≡◌, ◌∙◌, sym, Some}
use Rattle.gtm_data.specs.Tree.{tree_of}
use Rattle.variable_kinds.proofs.addresses.address_value.Goals as goal
use Rattle.variable_kinds.specs.Addresses.{custom_in}

pub returns-in-Some-clause-asks : goal.returns-in-Some-clause-asks
returns-in-Some-clause-asks g c =
    let there : custom_in (tree_of c.args.fields.now) ≡ Some c.in-Some.custom =
    sym c.in_ok-custom.ensures ∙ c.in-Some.is in
    rw there c.custom_part.ensures.asks

use Rattle.std.proofs.Common.{◌≡◌, [], ◌∷◌, ◌++◌, option_map, sym, ap, ◌∙◌}
use Rattle.gtm_data.specs.Paths.{dotted}
use Rattle.data_layer.specs.Command.{command_of}
use Rattle.data_layer.proofs.Asked.{command_last}
use Rattle.data_layer.proofs.commands.path_and_method.Goals as goal

pub returns : goal.returns
returns c = λ items.
    let path = c.pop.new.self in
    let name = c.in-Some.name in
    let parts : dotted c.args.words.now ≡ path ++ name ∷ [] =
    ap dotted (sym c.as_str.ensures.chars) ∙ sym c.in_ok-path.ensures ∙ c.in-Some.ensures in
    ap (λ ps. command_of ps items) parts
    ∙ command_last path name items
    ∙ ap (option_map (λ method. record { path = path; method = method; items = items }))
    (sym c.method_named.ensures ∙ c.in-Some-method_named.is)

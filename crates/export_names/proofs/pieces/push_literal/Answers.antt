use Rattle.std.proofs.Common.{◌++◌, ◌∷◌, [], sym, ap, ◌∙◌}
use Rattle.export_model.specs.declared.params.Piece.TheVariants.{Literal}
use Rattle.export_names.proofs.Literals.{some_behind, none_behind}
use Rattle.export_names.proofs.pieces.push_literal.Goals as goal

pub returns-in_ok-push : goal.returns-in_ok-push
returns-in_ok-push c = λ names.
    c.in_ok-push.ensures.ok
    ∙ ap (λ text. c.args.pieces.now ++ Literal text ∷ []) c.in_ok-from_str.ensures
    ∙ some_behind names c.args.pieces.now c.args.text.now c.utf8.text
    (sym c.is_empty.ensures ∙ c.if-not-is_empty.true)

pub returns-else-not-is_empty : goal.returns-else-not-is_empty
returns-else-not-is_empty c =
    λ names. none_behind names c.args.pieces.now c.args.text.now
    (sym c.is_empty.ensures ∙ c.if-not-is_empty.false)

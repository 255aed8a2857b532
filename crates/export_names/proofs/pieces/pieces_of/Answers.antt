use Rattle.std.proofs.Common.{◌++◌, ◌∷◌, [], rules, sym, ap, ◌∙◌}
use Rattle.std.specs.Str.{chars}
use Rattle.export_model.specs.declared.params.Piece.TheVariants.{Name}
use Rattle.export_names.proofs.Numbered.{one_more, last_one}
use Rattle.export_names.proofs.Cuts.{shorter}
use Rattle.export_names.proofs.pieces.pieces_of.Goals as goal

pub loop-before-smaller : goal.loop-before-smaller
loop-before-smaller c =
    let f = c.in-Some in
    shorter (chars c.loop-before.left.now)
    (chars f.before.now, chars f.name.now, chars f.behind.now) (sym f.ensures)

pub loop-before-preserved : goal.loop-before-preserved
loop-before-preserved c =
    let f = c.in-Some in
    let l = c.loop-before in
    let names = c.args.names.now in
    record {
      text = search rules;
      whole =
          one_more names (chars l.left.now)
          (chars f.before.now, chars f.name.now, chars f.behind.now) l.made
          c.push_literal.new.pieces c.push.new.self (sym f.ensures)
          (c.in_ok-push_literal.ensures names)
          (c.in_ok-push.ensures.ok
          ∙ ap (λ ref. c.push_literal.new.pieces ++ Name ref ∷ []) c.name_ref.ensures)
          ∙ l.invariant.whole;
    }

pub returns : goal.returns
returns c =
    let l = c.loop-before in
    let names = c.args.names.now in
    last_one names (chars l.left.now) l.made c.push_literal-2.new.pieces (sym c.in_default.ensures)
    (c.in_ok-push_literal-2.ensures names) ∙ l.invariant.whole

use Rattle.std.proofs.Common.{◌∙◌, sym}
use Rattle.perm_match.specs.Pieces.{joined}
use Rattle.perm_match.proofs.Steps.{fits_star, fits_done}
use Rattle.perm_match.proofs.fitting.fits.Goals as goal

pub returns-in-Star : goal.returns-in-Star
returns-in-Star c =
    c.fits_an_end.ensures
    ∙ sym (fits_star (joined c.args.pattern) (joined c.args.text) _ _ (sym c.in-Star.ensures))

pub returns-in-Done : goal.returns-in-Done
returns-in-Done c =
    sym (fits_done (joined c.args.pattern) (joined c.args.text) _ (sym c.in-Done.ensures))

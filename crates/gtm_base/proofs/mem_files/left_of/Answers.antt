use Rattle.std.proofs.Common.{◌≡◌, ◌≤◌, length, ap, sym, ◌∙◌}
use Rattle.std.specs.Prelude.{Some, slice_get}
use Rattle.std.proofs.Math.ListN.{drop_of_length-le}
use Rattle.std.proofs.lemmas.Option.{slice_get-get_or}
use Rattle.gtm_base.proofs.mem_files.left_of.Goals as goal

pub returns-else-done-bytes-clause-bytes : goal.returns-else-done-bytes-clause-bytes
returns-else-done-bytes-clause-bytes c =
    let pair = c.index-files-place.result in
    let got : slice_get c.args.files.now c.args.place ≡ Some pair =
    slice_get-get_or c.args.files.now c.args.place pair c.requires
    ∙ ap Some (sym c.index-files-place.is) in
    let bytes : c.as_slice-bytes.result.now ≡ pair.1 =
    c.as_slice-bytes.ensures ∙ ap (λ p. p.1) (sym c.index-files-place.is) in
    let short : length pair.1 ≤ c.args.done = rw bytes at c.if-done-bytes.false in
    rw got (ap Some (drop_of_length-le pair.1 short))

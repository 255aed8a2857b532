use Rattle.std.proofs.Common.{◌≡◌, ◌∙◌, ◌<◌, ℕ, suc, List, ◌∷◌, length, get_or, drop, Option, Some}
use Rattle.std.proofs.Common.{sym, ap}
use Rattle.std.specs.Prelude.{option_map, codes}
use Rattle.std.proofs.Math.Seq.{drop-cons}
use Rattle.export_fields.specs.Fault.{in_key, in_index, ◌then◌}
use Rattle.export_checks.specs.FirstFault.{items_fault}
use Rattle.export_checks.specs.TemplateTexts.{place_path, reading_fault}
use Rattle.export_checks.proofs.texts.first_broken.Goals as goal

-- the item at a place has a fault, so those from there on have it first
found_here : {A : Type 0} (fault : A → Option (List ℕ)) (at : ℕ) (xs : List A) (x : A)
    (path : List ℕ) → at < length xs → x ≡ get_or xs at x → fault x ≡ Some path
    → items_fault fault at (drop at xs) ≡ Some (in_index at path)
found_here fault at xs x path below here is =
    ap (items_fault fault at) (drop-cons xs at x below ∙ ap (λ y. y ∷ drop (suc at) xs) (sym here))
    ∙ ap (λ f. option_map (in_index at) f then items_fault fault (suc at) (drop (suc at) xs)) is

pub returns-in-Some : goal.returns-in-Some
returns-in-Some g c =
    let fault = reading_fault g.R.TextRule.broken in
    let first = found_here fault c.loop-at.at c.as_slice-reading-items.result.now
    c.reading-item.result (place_path c.in-Some.place) c.loop-at-test.true c.reading-item.is
    (ap (option_map place_path) (sym c.broken.ensures ∙ c.in-Some.is)) in
    let behind = ap (λ p. in_key (codes "customTemplate") (in_index c.loop-at.at p))
    c.in_ok-path.ensures in
    ap (λ w. Some w) (c.in_ok-whole.ensures ∙ behind)
    ∙ ap (option_map (in_key (codes "customTemplate"))) (sym first ∙ c.loop-at.invariant)

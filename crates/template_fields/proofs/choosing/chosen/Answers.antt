use Rattle.std.proofs.Common.{◌≡◌, ◌∙◌, ◌++◌, ◌<◌, length, map, ap, sym, arith, append-nil, true}
use Rattle.std.proofs.Common.{false, Some, None, [], ◌∷◌, ◌+◌, subst}
use Rattle.gtm_base.specs.KeysStay.{on_value}
use Rattle.gtm_data.specs.Paths.{member}
use Rattle.gtm_data.specs.Tree.{tree_of, entries_of}
use Rattle.text_places.specs.Places.{place_of}
use Rattle.template_fields.specs.Fields.{names_of, is_place}
use Rattle.template_fields.proofs.Chosen.{one_field, adds_value, adds_none, adds_nothing}
use Rattle.template_fields.proofs.Chosen.{found_value, mapped_push, one_earlier, more_earlier}
use Rattle.template_fields.proofs.Chosen.{place_is, AreEarlier}
use Rattle.template_fields.proofs.choosing.chosen.Goals as goal
use Rattle.template_fields.proofs.choosing.chosen.Goals.{then-is_place+in-Some+in_ok-put_copy}
use Rattle.template_fields.proofs.choosing.chosen.Goals.{then-is_place+in_default, else-is_place}

pub loop-at-preserved : goal.loop-at-preserved
loop-at-preserved c =
    let fields = c.args.fields.now in
    let at = c.loop-at.at in
    let f = c.index-fields-at.result in
    let es = entries_of c.args.members.now.pairs in
    let within : at < length fields = omega arith in
    let names : c.in_ok-names-2.names ≡ names_of fields =
    c.in_ok-names-2.ensures ∙ c.in_ok-names.ensures in
    let place : c.place.result ≡ place_of f.name (names_of fields) =
    c.place.ensures.computed
    ∙ ap (λ n. place_of n c.in_ok-names-2.names) c.as_str.ensures.chars
    ∙ ap (place_of f.name) names in
    let tested : c.is_place.result ≡ is_place at (place_of f.name (names_of fields)) =
    c.is_place.ensures ∙ ap (is_place at) place in
    let keys : c.in_ok-keys-2.keys ≡ map (λ p. p.0) c.args.members.now.pairs =
    c.in_ok-keys-2.ensures ∙ c.in_ok-keys.ensures in
    let old = c.loop-at.made.pairs in
    elim c.if-is_place.branch [
      | then-is_place+in-Some+in_ok-put_copy w ↦
          let here : is_place at (place_of f.name (names_of fields)) ≡ true =
          sym tested ∙ w.if-is_place.true in
          let there =
          w.place-then-is_place.ensures.computed
          ∙ ap (λ n. place_of n c.in_ok-keys-2.keys) w.as_str-then-is_place.ensures.chars
          ∙ ap (place_of f.name) keys in
          let value = w.in-Some.value.now in
          let is : member f.name es ≡ Some (tree_of value) =
          sym (w.in-Some.ensures
          ∙ found_value f.name c.args.members.now.pairs w.place-then-is_place.result there) in
          let pairs : c.if-is_place.made.pairs ≡ old ++ (f.name, value) ∷ [] =
          ap (λ m. m.pairs) w.made-is ∙ w.in_ok-put_copy.ensures in
          record {
            same =
                one_field fields at f es (map (on_value tree_of) old) _ _ _ within
                c.index-fields-at.is
                (ap (map (on_value tree_of)) pairs ∙ mapped_push old f.name value)
                (adds_value (names_of fields) at f.name es (tree_of value) here is)
                c.loop-at.invariant.same;
            earlier =
                subst (λ ps. AreEarlier (names_of fields) (at + 1) ps) (sym pairs)
                (one_earlier (names_of fields) at old f.name value c.loop-at.invariant.earlier
                (place_is at (place_of f.name (names_of fields)) here));
          }
      | then-is_place+in_default w ↦
          let here : is_place at (place_of f.name (names_of fields)) ≡ true =
          sym tested ∙ w.if-is_place.true in
          let there =
          w.place-then-is_place.ensures.computed
          ∙ ap (λ n. place_of n c.in_ok-keys-2.keys) w.as_str-then-is_place.ensures.chars
          ∙ ap (place_of f.name) keys in
          let is : member f.name es ≡ None =
          sym (w.in_default.ensures
          ∙ found_value f.name c.args.members.now.pairs w.place-then-is_place.result there) in
          let pairs : c.if-is_place.made.pairs ≡ old = ap (λ m. m.pairs) w.made-is in
          record {
            same =
                one_field fields at f es (map (on_value tree_of) old) _ [] _ within
                c.index-fields-at.is
                (ap (map (on_value tree_of)) pairs
                ∙ sym (append-nil (map (on_value tree_of) old)))
                (adds_none (names_of fields) at f.name es here is)
                c.loop-at.invariant.same;
            earlier =
                subst (λ ps. AreEarlier (names_of fields) (at + 1) ps) (sym pairs)
                (more_earlier (names_of fields) at old c.loop-at.invariant.earlier);
          }
      | else-is_place w ↦
          let here : is_place at (place_of f.name (names_of fields)) ≡ false =
          sym tested ∙ w.if-is_place.false in
          let pairs : c.if-is_place.made.pairs ≡ old = ap (λ m. m.pairs) w.made-is in
          record {
            same =
                one_field fields at f es (map (on_value tree_of) old) _ [] _ within
                c.index-fields-at.is
                (ap (map (on_value tree_of)) pairs
                ∙ sym (append-nil (map (on_value tree_of) old)))
                (adds_nothing (names_of fields) at f.name es here)
                c.loop-at.invariant.same;
            earlier =
                subst (λ ps. AreEarlier (names_of fields) (at + 1) ps) (sym pairs)
                (more_earlier (names_of fields) at old c.loop-at.invariant.earlier);
          }
    ]

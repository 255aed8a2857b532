-- A trigger is a group exactly where its kind is that of groups.
use Rattle.std.proofs.Common.{◌≡◌, ℕ, List, Bool, true, false, refl, ap, sym, ◌∙◌}
use Rattle.std.specs.Prelude.{Option, Some, None, if◌then◌else◌, unwrap_or, codes}
use Rattle.std.specs.Option.{option_map_or}
use Rattle.std.specs.Str.{bytes_eq}
use Rattle.std.proofs.lemmas.Slice.Eq.{bytes_eq-Decides}
use Rattle.folded_words.specs.Words.{among, folded}
use Rattle.export_entries.specs.declared.triggers.WrittenTrigger.{WrittenTrigger}
use Rattle.export_model.specs.declared.triggers.TriggerKind.{TriggerKind}
use Rattle.export_model.specs.declared.triggers.TriggerKind.TheVariants.{Event, Custom, Group}
use Rattle.export_model.specs.declared.triggers.TriggerKind.TheVariants.{Never}
use Rattle.export_container.specs.Triggers.{event_words, event_kind, timer_event, trigger_kind}
use Rattle.export_container.specs.Triggers.{is_group_kind}
use Rattle.export_names.specs.Members.{is_group}

-- a word is one only
one_word : (word some other : List ℕ) → bytes_eq some other ≡ false → bytes_eq word some ≡ true
    → bytes_eq word other ≡ false
one_word word some other differ is =
    ap (λ w. bytes_eq w other) ((bytes_eq-Decides word some).0 is) ∙ differ

by_tests : (timer custom group : Bool) (event : List ℕ) (rest : TriggerKind)
    → (timer ≡ true → group ≡ false) → (custom ≡ true → group ≡ false) → is_group_kind rest ≡ false
    → group ≡ is_group_kind
    (unwrap_or
    (if timer then Some (Event event) else if custom then Some Custom else if group
    then Some Group else None) rest)
by_tests true custom group event rest first second other = first refl
by_tests false true group event rest first second other = second refl
by_tests false false true event rest first second other = refl
by_tests false false false event rest first second other = sym other

no_group : (kind : List ℕ) (event : Option (List ℕ))
    → is_group_kind (option_map_or Event event (Never kind)) ≡ false
no_group kind None = refl
no_group kind (Some event) = refl

-- a trigger is a group exactly where its kind is that of groups
pub group_by_kind : (written : WrittenTrigger) → is_group written ≡ is_group_kind (trigger_kind written)
group_by_kind written =
    let word = folded written.kind in
    by_tests (bytes_eq word (codes "timer")) (bytes_eq word (codes "customevent"))
    (bytes_eq word (codes "triggergroup")) (timer_event written.event_name)
    (event_kind written.kind word)
    (one_word word (codes "timer") (codes "triggergroup") refl)
    (one_word word (codes "customevent") (codes "triggergroup") refl)
    (no_group written.kind (among event_words word))

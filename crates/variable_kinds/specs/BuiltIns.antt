-- Built-in variables, by their words in any case.
use Rattle.std.specs.Prelude.{ℕ, List, [], ◌∷◌, Option, Some, None, codes}
use Rattle.std.specs.Option.{option_map_or}
use Rattle.folded_words.specs.Words.{folded, among}
use Rattle.export_model.specs.declared.variables.BuiltIn.{BuiltIn}
use Rattle.gtm_data.specs.Tree.{Tree, undefined, text}
use Rattle.variable_kinds.specs.declared.built_ins.Source.{Source}
use Rattle.variable_kinds.specs.declared.built_ins.Source.TheVariants.{PageUrl, PageHostname}
use Rattle.variable_kinds.specs.declared.built_ins.Source.TheVariants.{PagePath, Referrer}
use Rattle.variable_kinds.specs.declared.built_ins.Source.TheVariants.{EventName}
use Rattle.variable_kinds.specs.declared.built_ins.Source.TheVariants.{ContainerId}
use Rattle.variable_kinds.specs.declared.components.Component.TheVariants as part
use Rattle.variable_kinds.specs.Addresses.{known_part, only}
use Rattle.variable_kinds.specs.Moment.{Moment}
use Rattle.variable_kinds.specs.Sources.{layer_at}

-- where the value of a built-in variable comes from
abbrev pub source_words : List (List ℕ × Source)
source_words =
    (codes "pageurl", PageUrl)
    ∷ (codes "pagehostname", PageHostname)
    ∷ (codes "pagepath", PagePath)
    ∷ (codes "referrer", Referrer)
    ∷ (codes "event", EventName)
    ∷ (codes "containerid", ContainerId)
    ∷ []

-- the key of the data layer at which what was clicked or sent is told
abbrev pub element_words : List (List ℕ × List ℕ)
element_words =
    (codes "clickclasses", codes "gtm.elementClasses")
    ∷ (codes "clickid", codes "gtm.elementId")
    ∷ (codes "clicktarget", codes "gtm.elementTarget")
    ∷ (codes "clickurl", codes "gtm.elementUrl")
    ∷ (codes "formclasses", codes "gtm.elementClasses")
    ∷ (codes "formid", codes "gtm.elementId")
    ∷ (codes "formtarget", codes "gtm.elementTarget")
    ∷ (codes "formurl", codes "gtm.elementUrl")
    ∷ []

abbrev pub source_value : Moment → Source → Tree
source_value m PageUrl = known_part (only part.Url) m.world.page.url m.world.page.url_address
source_value m PageHostname = known_part (only part.Host) m.world.page.url m.world.page.url_address
source_value m PagePath = known_part (only part.Path) m.world.page.url m.world.page.url_address
source_value m Referrer =
    known_part (only part.Url) m.world.page.referrer m.world.page.referrer_address
source_value m EventName = text m.event
source_value m ContainerId = text m.container.public_id

-- the value of a built-in variable by its word; Undefined where it is none of these
abbrev pub word_value : Moment → List ℕ → Tree
word_value m word =
    option_map_or (λ key. layer_at m.world.layer key 2) (among element_words word)
    (option_map_or (source_value m) (among source_words word) undefined)

-- the value of a built-in variable; Undefined where there is none
abbrev pub built_in_value : Moment → Option BuiltIn → Tree
built_in_value m None = undefined
built_in_value m (Some built_in) = word_value m (folded built_in.word)

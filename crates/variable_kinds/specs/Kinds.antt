-- The value of a name, and that of a variable by its kind, from its fields.
use Rattle.std.specs.Prelude.{ℕ, List, [], codes, slice_get}
use Rattle.std.specs.Str.{bytes_eq}
use Rattle.export_model.specs.declared.params.NameRef.{NameRef}
use Rattle.export_model.specs.declared.params.NameRef.TheVariants as name
use Rattle.export_model.specs.declared.variables.VariableKind.{VariableKind}
use Rattle.export_model.specs.declared.variables.VariableKind.TheVariants as kind
use Rattle.gtm_data.specs.Tree.{Tree, undefined, text}
use Rattle.variable_kinds.specs.declared.names.Names.{Names}
use Rattle.variable_kinds.specs.Addresses.{address_value, custom_in}
use Rattle.variable_kinds.specs.BuiltIns.{built_in_value}
use Rattle.variable_kinds.specs.Ends.{finds, text_if}
use Rattle.variable_kinds.specs.Fields.{field, looked_up, rows_of}
use Rattle.variable_kinds.specs.Moment.{Moment, moment_of, kept_at}
use Rattle.variable_kinds.specs.Patterns.{pattern_in, patterns_of}
use Rattle.variable_kinds.specs.Sources.{layer_field, cookie_field, global_field}

-- the value of a name, where those of the variables are given
abbrev pub of_name : Moment → (ℕ → Tree) → NameRef → Tree
of_name m values (name.Variable at) = values at
of_name m values (name.BuiltIn at) = built_in_value m (slice_get m.container.built_ins at)
of_name m values name.EventName = text m.event
of_name m values name.Nothing = undefined

-- the value of a name by what is kept
abbrev pub value_by : Names → NameRef → Tree
value_by names = of_name (moment_of names) (kept_at names.kept.now)

-- the value of a variable that enters no template, by its kind; Undefined for one that does
abbrev pub of_kind : Moment → VariableKind → Tree → Tree
of_kind m kind.Layer fields = layer_field m.world.layer fields
of_kind m kind.Constant fields = field (codes "value") fields
of_kind m kind.Cookie fields = cookie_field m.world.page fields
of_kind m kind.Global fields = global_field m.world.page fields
of_kind m kind.Url fields =
    address_value fields m.world.page.url m.world.page.url_address
of_kind m kind.Referrer fields =
    address_value fields m.world.page.referrer m.world.page.referrer_address
of_kind m kind.EventName fields = text m.event
of_kind m kind.Lookup fields = looked_up bytes_eq fields
of_kind m kind.RegexTable fields =
    looked_up (λ key input. finds (pattern_in fields key) input) fields
of_kind m (kind.Template number) fields = undefined
of_kind m (kind.Unknown word) fields = undefined

-- the texts that this may hand to the engines, whether what they answer is used or not
abbrev pub asked_of_kind : VariableKind → Tree → List (List ℕ)
asked_of_kind kind.Layer fields = []
asked_of_kind kind.Constant fields = []
asked_of_kind kind.Cookie fields = []
asked_of_kind kind.Global fields = []
asked_of_kind kind.Url fields = text_if (custom_in fields)
asked_of_kind kind.Referrer fields = text_if (custom_in fields)
asked_of_kind kind.EventName fields = []
asked_of_kind kind.Lookup fields = []
asked_of_kind kind.RegexTable fields = patterns_of fields (rows_of fields)
asked_of_kind (kind.Template number) fields = []
asked_of_kind (kind.Unknown word) fields = []

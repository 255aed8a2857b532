use Rattle.std.proofs.Common.{◌≡◌, ℕ, ◌≤◌, ◌+◌, ◌*◌, List, length, map}
use Rattle.json.specs.Json.{items, members, value, parse_map}
use Rattle.serde_json.specs.Data as json
use Rattle.serde_json.specs.Read.{of_items, of_members, converted}
use Rattle.gtm_data.specs.Parsing.{Ascend, levels_more}
use Rattle.gtm_data.specs.Plain.{tree_in}
use Rattle.gtm_data.specs.Tree.{tree_of}
use Rattle.gtm_data.proofs.Gathered.{before, EachFits}
use Rattle.gtm_data.proofs.Placed.{AllMatch}
use Rattle.gtm_data.proofs.parsing.+read_value.Given as goal

abbrev pub decreases-read_value : goal.decreases-read_value
decreases-read_value l = 2 * l.levels

abbrev pub decreases-read_items : goal.decreases-read_items
decreases-read_items l = 2 * l.levels + 1

abbrev pub decreases-read_members : goal.decreases-read_members
decreases-read_members l = 2 * l.levels + 1

-- what is read from the start is the items so far and what is read from here
abbrev pub invariant-read_items-items : goal.invariant-read_items-items
invariant-read_items-items l =
    (turns : ℕ) × (ds : List json.Data) × (length l.reader ≤ turns)
    × (converted of_items
    (items (value (l.levels + levels_more)) (length l.initial.reader) l.initial.reader)
    ≡ parse_map (before ds)
    (converted of_items (items (value (l.levels + levels_more)) turns l.reader)))
    × (map tree_of l.found ≡ map tree_in ds) × EachFits l.levels ds
    × (length l.reader ≤ length l.initial.reader)

abbrev pub decreases-read_items-items : goal.decreases-read_items-items
decreases-read_items-items l = length l.reader

-- what is read from the start is what is read from here behind the members so far
abbrev pub invariant-read_members-members : goal.invariant-read_members-members
invariant-read_members-members l =
    (turns : ℕ) × (ms : json.Members) × (length l.reader ≤ turns)
    × (converted (λ ks. of_members ks json.no_members)
    (members (value (l.levels + levels_more)) (length l.initial.reader) l.initial.reader)
    ≡ converted (λ ks. of_members ks ms) (members (value (l.levels + levels_more)) turns l.reader))
    × AllMatch l.levels ms l.found.pairs × Ascend l.found.pairs
    × (length l.reader ≤ length l.initial.reader)

abbrev pub decreases-read_members-members : goal.decreases-read_members-members
decreases-read_members-members l = length l.reader

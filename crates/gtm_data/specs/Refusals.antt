-- Why a JSON tree is refused.
use Rattle.std.specs.Prelude.{◌≡◌, Option, Some, None}
use Rattle.serde_json.specs.Data as json
use Rattle.gtm_data.specs.Plain.{plain, not_whole, too_deep}
use Rattle.gtm_data.specs.declared.reading.DataEnd.{DataEnd}
use Rattle.gtm_data.specs.declared.reading.DataEnd.TheVariants.{OutOfMemory, NotWhole, TooDeep}

-- a number that is not whole and in range is told before a List or Map that is too deep
abbrev pub Refuses : json.Data → DataEnd → Type 0
Refuses d OutOfMemory = Unit {0}
Refuses d (NotWhole path) = (not_whole d ≡ Some path) × (plain d ≡ None)
Refuses d (TooDeep path) = (not_whole d ≡ None) × (too_deep d ≡ Some path) × (plain d ≡ None)

-- memory was wanting
abbrev pub IsOutOfMemory : DataEnd → Type 0
IsOutOfMemory end = end ≡ OutOfMemory

-- the same of a JSON text with this tree; where the bytes are no JSON, memory alone can be wanting
abbrev pub RefusesText : Option json.Data → DataEnd → Type 0
RefusesText None end = IsOutOfMemory end
RefusesText (Some d) end = Refuses d end

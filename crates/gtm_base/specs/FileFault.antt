-- Which errors of a reading say that the file failed.
use Rattle.std.specs.Prelude.{Bool, true, false}
use Rattle.gtm_base.specs.declared.reading.ReadEnd.{ReadEnd}
use Rattle.gtm_base.specs.declared.reading.ReadEnd.TheVariants.{OutOfMemory, FileFailed}

-- a read failed
abbrev pub is_file_fault : ReadEnd → Bool
is_file_fault OutOfMemory = false
is_file_fault FileFailed = true

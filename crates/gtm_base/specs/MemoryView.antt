-- What contracts see of files in memory.
use Rattle.std.specs.Prelude.{◌<◌, length}
use Rattle.std.specs.Option.{ForSome}
use Rattle.gtm_base.specs.Memory.{MemoryFiles}
use Rattle.gtm_base.specs.declared.mem_files.MemFiles.TheInside.{Inside}

-- the files in memory that the fields are
abbrev pub memory_files : Inside → MemoryFiles
memory_files files = record {
  held = files.files.pairs;
  failing = files.failing.items;
  calls = files.calls;
  faults = files.faults;
  file = files.file;
  done = files.done;
  names = files.names;
}

-- the open file is one of the files
abbrev pub HasPlace : Inside → Type 0
HasPlace files = ForSome files.file (λ place. place < length files.files.pairs)

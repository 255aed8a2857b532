use Rattle.std.proofs.Common.{◌∙◌, ap, sym}
use Rattle.gtm_base.specs.Memory.{left_in}
use Rattle.gtm_base.proofs.OpenFile.{read_on}
use Rattle.gtm_base.proofs.mem_files.MemFilesFiles.read.Goals as goal

pub returns-clause-bytes : goal.returns-clause-bytes
returns-clause-bytes c =
    ap left_in (sym c.self.view_is)
    ∙ read_on c.self.inside.files.pairs c.self.inside.file c.in-Some.place c.self.inside.done _ _ _
    c.in-Some.is (rw c.as_slice-2.ensures at c.left_of-left.ensures.bytes)
    c.copy_front-count.ensures.front

use Rattle.std.proofs.Common.{take}
use Rattle.tst_runner.specs.Inner.Tables.{ListsFiles}
use Rattle.tst_runner.proofs.tables.chip_files.Given as goal

abbrev pub invariant-loop-file : goal.invariant-loop-file
invariant-loop-file l = ListsFiles (take l.file-index l.names) l.files

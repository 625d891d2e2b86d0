use Rattle.command_laws.proofs.FolderMeaning.{folder_means}
use Rattle.command_laws.proofs.total.folder_means_law.Goals as goal

pub returns : goal.returns
returns c = folder_means c.program_law.ensures

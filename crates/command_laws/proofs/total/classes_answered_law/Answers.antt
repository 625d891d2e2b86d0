use Rattle.command_laws.proofs.DebugAnswered.{classes_answered}
use Rattle.command_laws.proofs.total.classes_answered_law.Goals as goal

pub returns : goal.returns
returns c = classes_answered (record {
  names = c.resolved_law.ensures;
  compiled = c.compiled_law.ensures;
  sizes = c.size_law.ensures;
  keys = c.total_law.ensures;
  runs = c.runs_law.ensures;
  folders = c.folder_answered_law.ensures;
  programs = c.folder_means_law.ensures;
})

-- A line of `compile` prints one thing or is refused for one thing, and not both.
use Rattle.std.proofs.Common.{◌≡◌, ℕ, List, Some, length, take, sym, ◌∙◌}
use Rattle.outer_world.specs.Files.{Files}
use Rattle.vm_tree.specs.Printed.{files_text}
use Rattle.tower.proofs.Beside.{one_beside}
use Rattle.jack_parser.specs.Spelled.{ClassLaw}
use Rattle.command_line.specs.Line.{Source, compile, of_classes}
use Rattle.command_laws.specs.Exact.{IsExact}
use Rattle.nand_cli.specs.JackFolder.{files_meant}
use Rattle.nand_cli.specs.Commands.Compile.{CompilePrints, CompileRefuses}
use Rattle.nand_cli.proofs.OneFolder.{never_meaningless, one_list_of_classes}
use Rattle.command_laws.proofs.Exactly.{not_lacking}
use Rattle.command_laws.proofs.RunExactly.{one_folder_line}

module _ (law : ClassLaw) (files : Files) (source : Source) where
  one_text : (out out' : List ℕ) → CompilePrints (Some files) source out → CompilePrints (Some files) source out' → out ≡ out'
  one_text out out' (own, os, has, are, well, e) (own', os', has', are', well', d) =
      let mine = one_list_of_classes law files source.folder own own' has has' in
      let theirs = one_beside source.replace own own' os os' mine are are' in
      e ∙ (λ i. files_text (take (length (mine i)) (files_meant (mine i) (theirs i)))) ∙ sym d

  text_apart : (out line : List ℕ) → CompilePrints (Some files) source out → CompileRefuses (Some files) source line → ⊥
  text_apart out line (own, os, has, are, well, e) k = never_meaningless law files source own os line has are well k

pub compile_exact : ClassLaw → (files : Files) (source : Source) → IsExact files (of_classes source compile)
compile_exact law files source = record {
  prints = λ one out err out' err' h k. (one_text law files source out out' h.0 k.0, h.1 ∙ sym k.1);
  refuses = λ out before told out' before' told' h k. (h.0 ∙ sym k.0, one_folder_line law files source told told' h.1 k.1, h.2 ∙ sym k.2);
  apart = λ out err out' before told h k. text_apart law files source out told h.0 k.1;
  lacking = λ there has gone out before told. absurd (not_lacking there files source has gone);
}

-- By computation.
use Rattle.std.proofs.Common.{◌≡◌, true, List, [], ◌∷◌, None, refl}
use Rattle.jack_tree.specs.Syntax.{ClassFile}
use Rattle.jack_parser.proofs.Decided.{class_in, is_spelled, spelled}
use Rattle.jack_names.proofs.Searched.{all_faults}
use Rattle.jack_names.proofs.Found.{finds_none}
use Rattle.jack_names.specs.Meaning.{program_meaning}
use Rattle.core_rows.specs.Texts.{Texts, own, system}
use Rattle.core_rows.specs.Rows.{AreSpelled, MeansRow, row_program}

abbrev read : Texts → List ClassFile
read [] = []
read (f ∷ fs) = record { file = f.0; class = class_in f.1 } ∷ read fs

abbrev AllSpelled : Texts → Type 0
AllSpelled [] = Unit {0}
AllSpelled (f ∷ fs) = (is_spelled f.1 ≡ true) × AllSpelled fs

all_spelled : (fs : Texts) → AllSpelled fs → AreSpelled fs (read fs)
all_spelled [] h = tt
all_spelled (f ∷ fs) h = (refl, spelled f.1 h.0, all_spelled fs h.1)

own_spelled : AllSpelled own
own_spelled = (refl, tt)

system_spelled : AllSpelled system
system_spelled = (refl, (refl, (refl, (refl, tt))))

no_fault : all_faults (read own) (read system) ≡ None
no_fault = refl

means : program_meaning (read own) (read system) ≡ row_program
means = refl

pub row : MeansRow
row = record {
  classes = read own;
  system_classes = read system;
  spelled = all_spelled own own_spelled;
  system_spelled = all_spelled system system_spelled;
  well_named = (finds_none (read own) (read system)).0 no_fault;
  means = means;
}

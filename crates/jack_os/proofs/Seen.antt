-- Subroutines of the code as abstract syntax.
use Rattle.std.proofs.Common.{◌≡◌, List, ◌++◌, map, Result, Ok, Err, Vec, Global, sym, ap, ◌∙◌}
use Rattle.std.specs.Prelude.{IfOk}
use Rattle.std.proofs.lemmas.List.{map-append}
use Rattle.jack_tree.specs.declared.tree.Subroutine as code
use Rattle.jack_tree.specs.declared.tree.Class.{Class}
use Rattle.jack_tree.specs.Syntax.{Subroutine}
use Rattle.jack_tree.specs.Seen.{the_subroutine, the_file}
use Rattle.jack_parser.specs.ClassTrees.{subroutine_tree}
use Rattle.jack_parser.proofs.PlainTrees as plain
use Rattle.jack_parser.proofs.SameTrees as seen
use Rattle.jack_parser.proofs.SameClass as one
use Rattle.jack_os.specs.System.{with_added}

-- what has the tree of a subroutine is seen as it
seen_by : (s : code.Subroutine) (t : Subroutine) → subroutine_tree s ≡ plain.subroutine_tree t → the_subroutine s ≡ t
seen_by s t e = one.subroutine_same (the_subroutine s) t (sym (seen.subroutine_same s) ∙ e)

pub if_seen : {E : Type 0} (r : Result code.Subroutine E) (t : Subroutine) → IfOk r (λ s. subroutine_tree s ≡ plain.subroutine_tree t) → IfOk r (λ s. the_subroutine s ≡ t)
if_seen (Ok s) t h = seen_by s t h
if_seen (Err e) t h = h

pub completes : (read : Class) (all : Vec code.Subroutine Global) (added : List code.Subroutine) (ss : List Subroutine) → all.items ≡ read.subroutines.items ++ added → map the_subroutine added ≡ ss
    → the_file (record read { subroutines = all }) ≡ with_added ss (the_file read)
completes read all added ss e d =
    let p = ap (map the_subroutine) e ∙ map-append the_subroutine read.subroutines.items added ∙ ap (λ l. map the_subroutine read.subroutines.items ++ l) d in
    λ i. record { file = read.file; class = record (the_file read).class { subroutines = p i } }

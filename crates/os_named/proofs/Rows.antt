-- Systems that are not fine: of a class that is nowhere, of a subroutine that is not there, with too many arguments for Main.main; and one that is.
use Rattle.std.proofs.Common.{◌≡◌, ℕ, List, [], ◌∷◌, ◌++◌, true, false, codes, refl}
use Rattle.jack_tree.specs.Syntax.{ClassFile}
use Rattle.jack_os.proofs.SystemTexts.{file_of}
use Rattle.os_named.proofs.Fine.{are_fine}

abbrev with_body : List ℕ → List ClassFile
with_body body = file_of (codes "Sys.jack") (codes "class Sys { function void init() { " ++ body ++ codes " return; } }") ∷ []

right : are_fine (with_body (codes "do Main.main();")) ≡ true
right = refl

nowhere : are_fine (with_body (codes "do Man.main();")) ≡ false
nowhere = refl

not_there : are_fine (with_body (codes "do Sys.halt();")) ≡ false
not_there = refl

too_many : are_fine (with_body (codes "do Main.main(1);")) ≡ false
too_many = refl

no_variable : are_fine (with_body (codes "let x = 1;")) ≡ false
no_variable = refl

no_math : are_fine (with_body (codes "do Main.main(); do Sys.init(2 * 2);")) ≡ false
no_math = refl

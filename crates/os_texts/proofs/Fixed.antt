-- By computation, of the classes that the texts spell.
use Rattle.std.proofs.Common.{◌≡◌, ℕ, List, [], ◌∷◌, Option, Some, None, Result, Ok, Err, codes, map, refl, sym, subst}
use Rattle.grammar.specs.declared.Fault.{Fault}
use Rattle.jack_tree.specs.Tokens.{Word}
use Rattle.jack_tree.specs.Syntax.{ClassFile, Static, Subroutine}
use Rattle.jack_lexer.specs.Tokens.{tokens_of}
use Rattle.jack_os.specs.Routines.{multiply}
use Rattle.jack_os.specs.RoutineTexts.{IsTextOf}
use Rattle.jack_os.specs.System.{AreFilesOf, system}
use Rattle.jack_os.proofs.SystemTexts.{system_classes, are_files, one_list}
use Rattle.os_texts.specs.Texts.{FixedTextsLaw, class_named, declaration_of, subroutine_in, sys_init_text, variables_of}

abbrev tokens_in : Result (List Word) Fault → List Word
tokens_in (Ok ts) = ts
tokens_in (Err f) = []

abbrev found : Option Subroutine → Subroutine
found (Some s) = s
found None = multiply

abbrev init : Subroutine
init = found (subroutine_in system_classes (codes "Sys") (codes "init"))

is_init : subroutine_in system_classes (codes "Sys") (codes "init") ≡ Some init
is_init = refl

told : IsTextOf init sys_init_text
told = record { tokens = tokens_in (tokens_of sys_init_text); cut = refl; tell = (refl, (refl, ((refl, refl), (refl, (refl, (refl, ((refl, refl), ((refl, refl), (refl, ((refl, refl), (refl, (refl, (refl, ((refl, refl), ((refl, refl), (refl, ((refl, refl), (refl, (refl, (refl, ((refl, refl), ((refl, refl), (refl, ((refl, refl), (refl, (refl, (refl, ((refl, refl), ((refl, refl), (refl, ((refl, refl), (refl, (refl, (refl, ((refl, refl), ((refl, refl), (refl, ((refl, refl), (refl, (refl, (refl, ((refl, refl), ((refl, refl), (refl, ((refl, refl), (refl, (refl, (refl, ((refl, refl), ((refl, refl), (refl, ((refl, refl), (refl, (refl, (refl, ((refl, refl), (refl, ((refl, refl), tt)))))))))))))))))))))))))))))))))))))))))))))))))))))))))) }

free : map declaration_of (variables_of (class_named system_classes (codes "Memory"))) ≡ (Static, codes "Array", codes "free" ∷ []) ∷ []
free = refl

pub law : FixedTextsLaw
law = record {
  sys_init = λ cs k. subst (λ (ds : List ClassFile). (s : Subroutine) × (subroutine_in ds (codes "Sys") (codes "init") ≡ Some s) × IsTextOf s sys_init_text) (sym (one_list system cs system_classes k are_files)) (init, is_init, told);
  free = λ cs k. subst (λ (ds : List ClassFile). map declaration_of (variables_of (class_named ds (codes "Memory"))) ≡ (Static, codes "Array", codes "free" ∷ []) ∷ []) (sym (one_list system cs system_classes k are_files)) free;
}

use Rattle.std.proofs.Common.{◌≡◌, map, Some, refl, sym, ◌∙◌, [], ◌∷◌}
use Rattle.jack_tree.specs.Seen.{the_file}
use Rattle.jack_tree.specs.Syntax as tree
use Rattle.jack_names.specs.NameFaults.{no_main}
use Rattle.jack_names.specs.Rows.{sys, main, other, in_main, in_other, Tells}
use Rattle.jack_names.specs.declared.fault.NameKind.{NameKind}
use Rattle.jack_names.proofs.Searched.{all_faults}
use Rattle.jack_names.proofs.Found.{finds_first, finds_none}
use Rattle.jack_names.proofs.Wholly.{search_same}
use Rattle.jack_names.proofs.Placed.{first_by_place}
use Rattle.jack_names.proofs.laws.names_law.Goals as goal

-- The search over the trees is that over their abstract syntax, which finds the first of the faults.
pub returns-clause-law : goal.returns-clause-law
returns-clause-law c = record {
  finds = λ own os told.
      let first = finds_first (map the_file own) (map the_file os) told in
      (λ e. first.0 (sym (search_same own os) ∙ e), λ f. search_same own os ∙ first.1 f);
  well_named = λ own os.
      let none = finds_none (map the_file own) (map the_file os) in
      (λ e. none.0 (sym (search_same own os) ∙ e), λ w. search_same own os ∙ none.1 w);
  by_place = first_by_place;
}

-- one class
told : (c : tree.ClassFile) (kind : NameKind) (x : tree.Name) → all_faults (c ∷ []) sys ≡ Some (in_main kind x) → Tells c kind x
told c kind x e = (finds_first (c ∷ []) sys (in_main kind x)).0 e

pub returns-clause-rows : goal.returns-clause-rows
returns-clause-rows c = record {
  well_named = (finds_none (main ∷ []) sys).0 refl;
  file_name = (finds_first (main ∷ other ∷ []) sys in_other).0 refl;
  class_twice = (finds_first (main ∷ main ∷ []) sys _).0 refl;
  member_twice = told _ _ _ refl;
  variable_twice = told _ _ _ refl;
  unknown_variable = told _ _ _ refl;
  unknown_class = told _ _ _ refl;
  unknown_subroutine = told _ _ _ refl;
  argument_count = told _ _ _ refl;
  method_by_class = told _ _ _ refl;
  function_by_object = told _ _ _ refl;
  this_in_function = told _ _ _ refl;
  field_in_function = told _ _ _ refl;
  own_in_function = told _ _ _ refl;
  no_main_there = (finds_first [] sys no_main).0 refl;
}

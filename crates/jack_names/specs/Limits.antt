-- How many declarations and statements a program has: the limits of the language, and what its numbers can count.
use Rattle.std.specs.Prelude.{ℕ, ◌+◌, ◌≤◌, ◌^◌, List, [], ◌∷◌, length}
use Rattle.jack_tree.specs.declared.tree.Subroutine.{Subroutine}
use Rattle.jack_tree.specs.declared.tree.Class.{Class}
use Rattle.jack_names.specs.Sizes.{sizes}
use Rattle.jack_names.specs.Symbols.{fields_of, locals_of}

-- at most 16,384 parameters and as many locals, and fewer than 2^31 statements, nested ones included
pub record HasFew (s : Subroutine) : Type 0 where
  pub parameters : length s.parameters.items ≤ 16384
  pub locals : locals_of s.locals.items ≤ 16384
  pub statements : 1 + sizes s.statements.items ≤ 2 ^ 31

abbrev pub AllHaveFew : List Subroutine → Type 0
AllHaveFew [] = Unit {0}
AllHaveFew (s ∷ ss) = HasFew s × AllHaveFew ss

-- a class with at most 16,384 fields
pub record IsWithin (c : Class) : Type 0 where
  pub fields : fields_of c.variables.items ≤ 16384
  pub subroutines : AllHaveFew c.subroutines.items

abbrev pub AreWithin : List Class → Type 0
AreWithin [] = Unit {0}
AreWithin (c ∷ cs) = IsWithin c × AreWithin cs

abbrev pub subroutine_count : List Class → ℕ
subroutine_count [] = 0
subroutine_count (c ∷ cs) = length c.subroutines.items + subroutine_count cs

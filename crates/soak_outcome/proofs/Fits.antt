-- A generated program is never too large.
use Rattle.std.proofs.Common.{◌≡◌, ◌≤◌, ◌+◌, ℕ, List, ◌++◌, map, sym, subst, arith}
use Rattle.jack_tree.specs.Syntax.{Class, ClassFile}
use Rattle.jack_tree.specs.Seen.{the_file}
use Rattle.jack_parser.specs.PrintedClass.{PrintedClassLaw}
use Rattle.jack_parser.specs.Spelled.{SpellsClass, ClassLaw}
use Rattle.jack_meaning.specs.Text.{Program}
use Rattle.jack_names.specs.Meaning.{block_meaning, return_added, returns, sizes}
use Rattle.jack_names.specs.Numbers.{Standing, standing}
use Rattle.tower.specs.Budget.{BudgetLaw, IsBudget}
use Rattle.tower.specs.Resolved.{ResolvedLaw}
use Rattle.os_budgets.specs.Laws.{EachFolderLaw, own_words}
use Rattle.soak_program.specs.Generator.{IsProgramText}
use Rattle.soak_program.specs.Laws.{LengthLaw}
use Rattle.soak_laws.specs.Named.{folder_of}
use Rattle.soak_outcome.specs.Fits.{FitsLaw}
use Rattle.soak_laws.proofs.Pieces.{skip}
use Rattle.soak_laws.proofs.Programs.{class_at, generated, main_of}
use Rattle.soak_laws.proofs.Words.{joined_words, return_words}
use Rattle.soak_laws.proofs.Resolved.{all_spelled, resolved}

module _ (printed : PrintedClassLaw) (short : LengthLaw) (one : ClassLaw) where
  own_few : (s t : ℕ) (text : List ℕ) (c : Class) (os : List ClassFile) → IsProgramText s text t → SpellsClass text c → own_words (folder_of c) os ≤ 1749
  own_few s t text c os h spells =
      let g = generated printed short h in
      let same : class_at g.body g.close g.at ≡ c = (one text).one (class_at g.body g.close g.at) c g.spells spells in
      let all = folder_of (class_at g.body g.close g.at) ++ os in
      let stands : Standing = standing all 0 0 (class_at g.body g.close g.at) (main_of g.body g.close g.at) in
      let ss = g.body (skip 21 g.at) in
      let joined = joined_words (block_meaning stands 1 ss) (return_added (returns ss) (1 + sizes ss)) in
      let last = return_words (returns ss) (1 + sizes ss) in
      let few = g.words stands 1 in
      subst (λ (k : Class). own_words (folder_of k) os ≤ 1749) same (omega (arith, joined, last, few))

  pub fits : ResolvedLaw → BudgetLaw → EachFolderLaw → FitsLaw
  fits resolved_law budget each s t text c core w h spells means unbuilt =
      let right = resolved resolved_law text c core spells means in
      let some = budget.has core unbuilt.0 right unbuilt.1 in
      let large = budget.too_large core w right unbuilt some.0 some.1 in
      let (own, is, (os, are, of)) = means in
      let bound = each own os (all_spelled text c own spells is) are of.well_named some.0 (subst (λ (p : Program). IsBudget p some.0) of.program some.1) in
      let few : own_words (map the_file own) (map the_file os) ≤ 1749 = subst (λ (l : List ClassFile). own_words l (map the_file os) ≤ 1749) (sym is) (own_few s t text c (map the_file os) h spells) in
      let most = large.1 in
      omega (arith, bound, few, most)

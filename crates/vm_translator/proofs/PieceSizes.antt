-- The sizes of a program's pieces.
use Rattle.std.proofs.Common.{◌≤◌, [], ◌∷◌, arith}
use Rattle.vm_link.specs.declared.linked.Step.{Step}
use Rattle.vm_link.specs.declared.linked.Step.TheVariants as step
use Rattle.vm_templates.specs.Budgets.{most_words}
use Rattle.vm_translator.specs.Pieces.{words, PiecesFit}
use Rattle.vm_translator.proofs.Sums.{cycles_quick, routine_to, shared_is, size_few}

one : (c : Step) → words (c ∷ []) ≤ most_words c
one c = let few = size_few 0 c in omega arith

pub pieces_fit : PiecesFit
pieces_fit = record {
  each = size_few;
  quick = cycles_quick;
  shared = shared_is;
  routine = routine_to;
  literal = λ n. omega arith;
  all_ones = omega arith;
  name = λ g i. one (step.Push g i);
  operator = λ o. one (step.Operate o);
  load = omega arith;
  store = omega arith;
  assignment = λ g i. one (step.Pop g i);
  call = λ f n. omega arith;
  dropped = omega arith;
  branches = λ p q r. omega arith;
  return = omega arith;
  entry = λ n. omega arith;
  start = omega arith;
}

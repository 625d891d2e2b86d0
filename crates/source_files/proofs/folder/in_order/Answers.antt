use Rattle.std.proofs.Common.{List, ℕ, rules, subst}
use Rattle.std.specs.Prelude.{nat_eq}
use Rattle.std.specs.List.{ends_with}
use Rattle.std.specs.List.Sorted.{IsPermutation}
use Rattle.std.proofs.lemmas.Fn.{filter_same}
use Rattle.source_files.proofs.folder.in_order.Goals as goal

pub returns-clause-moved : goal.returns-clause-moved
returns-clause-moved c =
    let P : List (List ℕ) → Type 0 = λ names. IsPermutation names c.sort.new.self.items in
    subst P (filter_same _ (λ (name : List ℕ). ends_with nat_eq name c.args.ending.now) _ (λ x b f' k. search rules) _ _ c.retain.ensures.filtered) c.sort.ensures.permutation
